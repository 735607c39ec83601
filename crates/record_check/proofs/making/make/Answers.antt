-- Sizes that nothing refuses make a fresh queue.
use mathlib.Core.Path.{sym, ap, ◌∙◌}
use Rattle.std.specs.Prelude.{Ok}
use Rattle.record_check.specs.Making.{given}
use Rattle.record_check.proofs.MadeLaws.{made_fresh}
use Rattle.record_check.proofs.making.make.Goals as goal

pub returns : goal.returns
returns c =
    let a = c.args in
    ap Ok c.fresh.ensures ∙ sym (ap given (made_fresh a.p a.n a.l (sym c.making_refusal.ensures ∙ c.in_default.is)))
