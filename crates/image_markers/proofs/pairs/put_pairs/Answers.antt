use mathlib.Core.Path.{◌≡◌, ◌∙◌, ap}
use mathlib.Core.Bool.{true, false}
use mathlib.Core.List.{List}
use Prim.Native.Nat.{ℕ, ◌+◌, ◌*◌, ◌≤◌}
use native.Mathlib.Omega.{arith}
use borrow.Author.Tests.{eq-eqb, ne_eqb}
use lib.ListN.{length, get_or, length-set}
use Rattle.laws.specs.Front.{at_front}
use Rattle.record_markers.specs.Markers.{in_use_at}
use Rattle.record_markers.proofs.Filling.{room_used, place_used, area_used}
use Rattle.record_markers.proofs.Filling.{count_unused, pairs_unused}
use Rattle.image.specs.Image.{queue_in}
use Rattle.image_markers.proofs.Nodes.{used_is, mark_is, nodes_is}
use Rattle.image_markers.proofs.pairs.put_pairs.Goals as goal
use Rattle.image_markers.proofs.pairs.put_pairs.Goals.{then-image-o-eq-IN_USE, else-image-o-eq-IN_USE}

pub put_pair-requires : goal.put_pair-requires
put_pair-requires c =
    let b = c.args.image.now in
    let q = queue_in b in
    let i = c.loop-i.i in
    let v = c.loop-i.invariant in
    let e : in_use_at q (i + 1) ≡ true =
    used_is b c.requires.sound (i + 1) (omega arith) ∙ eq-eqb _ _ c.if-image-o-eq-IN_USE.true in
    let h : i + 1 ≤ q.node_count = rw (nodes_is b) (omega arith) in
    omega (
      arith,
      room_used q i e q.node_count _ (length c.args.area.now) h v.0 c.requires.image_in_bounds,
      v.3,
    )

pub loop-i-preserved : goal.loop-i-preserved
loop-i-preserved c =
    let b = c.args.image.now in
    let q = queue_in b in
    let i = c.loop-i.i in
    let v = c.loop-i.invariant in
    let low : i + 1 ≤ get_or b 1 0 + 1 = omega arith in
    let is = used_is b c.requires.sound (i + 1) low in
    elim c.if-image-o-eq-IN_USE.branch [
      | then-image-o-eq-IN_USE w ↦
          let e : in_use_at q (i + 1) ≡ true = is ∙ eq-eqb _ _ w.if-image-o-eq-IN_USE.true in
          let h : i + 1 ≤ q.node_count = rw (nodes_is b) (omega arith) in
          let room =
          room_used q i e q.node_count _ (length c.args.area.now) h v.0 c.requires.image_in_bounds in
          let p = w.put_pair.ensures in (
            w.at-is ∙ place_used q i e _ v.0,
            omega (arith, w.at-is),
            w.area-is ∙ p ∙ area_used q i e c.args.area.now _ _ _ v.0 room v.2
                (mark_is b c.requires.sound (i + 1) low),
            ap length (w.area-is ∙ p) ∙ simp length-set v.3,
          )
      | else-image-o-eq-IN_USE w ↦
          let e : in_use_at q (i + 1) ≡ false = is ∙ ne_eqb _ _ w.if-image-o-eq-IN_USE.false in (
            w.at-is ∙ v.0 ∙ ap (λ (n : ℕ). 2 * n) (count_unused q i e),
            omega (arith, w.at-is),
            w.area-is ∙ v.2 ∙ ap (λ (ps : List ℕ). at_front ps c.args.area.now) (pairs_unused q i e),
            ap length w.area-is ∙ v.3,
          )
    ]
