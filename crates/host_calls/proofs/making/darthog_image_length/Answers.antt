use mathlib.Core.Path.{sym, ◌∙◌}
use mathlib.Core.Bool.{or-true}
use Rattle.record_check.specs.Making.{outside}
use Rattle.record.specs.Limits.{max_processors}
use Rattle.host_calls.proofs.Stored.{no_length, some_length}
use Rattle.host_calls.proofs.making.darthog_image_length.Goals as goal

pub returns-then-outside : goal.returns-then-outside
returns-then-outside c =
    let a = c.args in
    no_length a.processors a.entries
    (simp (sym c.outside.ensures ∙ c.if-outside.true))

pub returns-then-outside-2 : goal.returns-then-outside-2
returns-then-outside-2 c =
    let a = c.args in
    no_length a.processors a.entries
    (rw (sym c.outside-2.ensures ∙ c.if-outside-2.true)
    (or-true (outside a.processors max_processors)))

pub returns : goal.returns
returns c =
    let a = c.args in
    c.image_length.ensures
    ∙ some_length a.processors a.entries
    (sym c.outside.ensures ∙ c.if-outside.false)
    (sym c.outside-2.ensures ∙ c.if-outside-2.false)
