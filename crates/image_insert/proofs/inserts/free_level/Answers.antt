use mathlib.Core.Path.{refl}
use Rattle.image_insert.proofs.Steps.{frees_up, frees_last}
use Rattle.image_insert.proofs.inserts.free_level.Goals as goal

pub returns-then-i-height : goal.returns-then-i-height
returns-then-i-height c =
    frees_up c.args.image.now c.args.base c.args.p c.requires _ _
    c.if-i-height.true
    (simp c.tick.ensures) refl

pub returns : goal.returns
returns c =
    frees_last c.args.image.now c.args.base c.args.p c.requires _ _
    c.if-i-height.false (simp c.tick-2.ensures)
    refl
