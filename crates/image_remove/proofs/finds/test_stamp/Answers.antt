use mathlib.Core.Path.{refl, sym, ◌∙◌}
use Rattle.image_remove.proofs.Steps.{stamp_lost, stamp_found}
use Rattle.image_remove.proofs.finds.test_stamp.Goals as goal

pub returns-then-not-stamped_before : goal.returns-then-not-stamped_before
returns-then-not-stamped_before c =
    stamp_lost c.args.image.now c.args.base c.args.p c.requires _ _
    (sym (rw c.number_from-begin.ensures at c.stamped_before.ensures)
    ∙ c.if-not-stamped_before.true)
    c.not_there.ensures.value c.not_there.ensures.image_after

pub returns : goal.returns
returns c =
    stamp_found c.args.image.now c.args.base c.args.p c.requires _ _
    (sym (rw c.number_from-begin.ensures at c.stamped_before.ensures)
    ∙ c.if-not-stamped_before.false)
    (simp c.tick.ensures) refl
