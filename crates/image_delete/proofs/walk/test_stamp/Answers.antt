use mathlib.Core.Path.{refl, sym, ◌∙◌}
use Rattle.image_delete.proofs.Steps.{stamp_misses, stamp_passes}
use Rattle.image_delete.proofs.walk.test_stamp.Goals as goal
use Rattle.image_delete.proofs.walk.test_stamp.Goals.{then-stamped, else-stamped}

pub returns : goal.returns
returns c =
    let told = sym (rw c.number_from-begin.ensures at c.stamped_before-stamped.ensures) in
    elim c.if-stamped.branch [
      | then-stamped w ↦
          stamp_passes c.args.image.now c.args.base c.args.p c.requires _ _
          (told ∙ w.if-stamped.true) (simp (w.image-is, c.tick.ensures)) refl
      | else-stamped w ↦
          stamp_misses c.args.image.now c.args.base c.args.p c.requires _ _
          (told ∙ w.if-stamped.false) (simp (w.image-is, c.tick.ensures)) refl
    ]
