use mathlib.Core.Path.{refl}
use Rattle.image_walks.proofs.Steps.{insert_frees, removal_frees}
use Rattle.image_walks.proofs.walks.free_node.Goals as goal
use Rattle.image_walks.proofs.walks.free_node.Goals.{then-removal, else-removal}

pub returns : goal.returns
returns c =
    elim c.if-removal.branch [
      | then-removal w ↦
          removal_frees c.args.image.now c.args.base c.args.p
          (rw w.if-removal.true at c.requires) _ _ (simp (w.image-is, c.tick.ensures)) refl
      | else-removal w ↦
          insert_frees c.args.image.now c.args.base c.args.p
          (rw w.if-removal.false at c.requires) _ _ (simp (w.image-is, c.tick.ensures)) refl
    ]
