use mathlib.Core.Path.{refl}
use Rattle.image_insert.proofs.Steps.{links}
use Rattle.image_insert.proofs.inserts.link.Goals as goal

pub returns : goal.returns
returns c =
    links c.args.image.now c.args.base c.args.p c.requires _ _
    (simp c.tick.ensures) refl
