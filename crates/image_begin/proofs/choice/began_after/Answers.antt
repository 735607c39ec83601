use Rattle.std.proofs.Common.{◌∙◌}
use borrow.Author.Tests.{eq-eqb}
use Rattle.image_begin.proofs.Choices.{after_idle, after_busy}
use Rattle.image_begin.proofs.choice.began_after.Goals as goal

pub returns-then-b-at-eq-IDLE : goal.returns-then-b-at-eq-IDLE
returns-then-b-at-eq-IDLE c =
    eq-eqb _ 0 c.if-b-at-eq-IDLE.true
    ∙ after_idle c.args.b.now c.args.p c.requires.2 c.requires.1 c.args.t c.if-b-at-eq-IDLE.true

pub returns-else-b-at-eq-IDLE : goal.returns-else-b-at-eq-IDLE
returns-else-b-at-eq-IDLE c =
    simp c.number_from.ensures
    (after_busy c.args.b.now c.args.p c.requires.2 c.requires.1 c.args.t c.if-b-at-eq-IDLE.false)
