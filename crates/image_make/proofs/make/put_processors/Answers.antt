use mathlib.Core.Path.{refl, ◌∙◌}
use Rattle.image_make.proofs.Made.{none_called, one_called}
use Rattle.image_make.proofs.make.put_processors.Goals as goal

pub loop-p-init : goal.loop-p-init
loop-p-init c = (none_called c.args.b.now, refl)

pub loop-p-preserved : goal.loop-p-preserved
loop-p-preserved c =
    let v = c.loop-p in (
      one_called c.args.b.now v.b _ v.p c.repeat.ensures v.invariant.0,
      c.repeat.auto.b ∙ v.invariant.1,
    )
