use mathlib.Core.Path.{◌≡◌, ◌∙◌}
use mathlib.Core.Bool.{true, false}
use Prim.Native.Nat.{◌+◌}
use native.Mathlib.Omega.{arith}
use borrow.Author.Tests.{eq-eqb, ne_eqb}
use Rattle.record_markers.specs.Markers.{in_use_at}
use Rattle.record_markers.proofs.Filling.{count_used, count_unused}
use Rattle.image.specs.Image.{queue_in}
use Rattle.image_markers.proofs.Nodes.{used_is}
use Rattle.image_markers.proofs.counting.used_count.Goals as goal
use Rattle.image_markers.proofs.counting.used_count.Goals.{then-image-o-eq-IN_USE, else-image-o-eq-IN_USE}

pub loop-i-preserved : goal.loop-i-preserved
loop-i-preserved c =
    let b = c.args.image.now in
    let i = c.loop-i.i in
    let v = c.loop-i.invariant in
    let q = queue_in b in
    let is = used_is b c.requires (i + 1) (omega arith) in
    elim c.if-image-o-eq-IN_USE.branch [
      | then-image-o-eq-IN_USE w ↦
          let e : in_use_at q (i + 1) ≡ true = is ∙ eq-eqb _ _ w.if-image-o-eq-IN_USE.true in
          (omega (arith, w.count-is), w.count-is ∙ count_used q i e c.loop-i.count v.1)
      | else-image-o-eq-IN_USE w ↦
          let e : in_use_at q (i + 1) ≡ false = is ∙ ne_eqb _ _ w.if-image-o-eq-IN_USE.false in
          (omega (arith, w.count-is), w.count-is ∙ v.1 ∙ count_unused q i e)
    ]
