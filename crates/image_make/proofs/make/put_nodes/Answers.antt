use mathlib.Core.Path.{refl, ◌∙◌}
use Rattle.image_make.proofs.Made.{none_noded, one_noded}
use Rattle.image_make.proofs.make.put_nodes.Goals as goal

pub loop-x-init : goal.loop-x-init
loop-x-init c = (none_noded c.args.b.now c.args.base c.args.tail, refl)

pub loop-x-preserved : goal.loop-x-preserved
loop-x-preserved c =
    let a = c.args in
    let v = c.loop-x in (
      one_noded a.b.now v.b _ a.base v.x a.tail c.put_node.ensures v.invariant.0,
      c.put_node.auto.b ∙ v.invariant.1,
    )
