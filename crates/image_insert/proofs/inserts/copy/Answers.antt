use mathlib.Core.Path.{refl}
use Rattle.image_insert.proofs.Steps.{copies}
use Rattle.image_insert.proofs.inserts.copy.Goals as goal

pub returns : goal.returns
returns c =
    copies c.args.image.now c.args.base c.args.p c.requires _ _
    (simp c.tick.ensures) refl
