use Rattle.std.proofs.Common.{arith, refl}
use Rattle.image_check.proofs.Counts.{pending_next}
use Rattle.image_check.proofs.counting.pending.Goals as goal

pub loop-i-preserved : goal.loop-i-preserved
loop-i-preserved c =
    let v = c.loop-i in
    let e = c.counted-count.ensures in (
      omega (arith, v.invariant.0, e.1),
      pending_next c.args.image.now c.requires v.i v.count _ _ (omega arith) (omega arith) v.invariant.1
          e.0 refl,
    )
