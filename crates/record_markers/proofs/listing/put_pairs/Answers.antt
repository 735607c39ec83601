-- The loop has put the bytes of the nodes 1 to i at the front.
use mathlib.Core.Path.{◌≡◌, sym, ap, ◌∙◌}
use mathlib.Core.Bool.{true, false}
use mathlib.Core.List.{List}
use Prim.Native.Nat.{ℕ, ◌+◌, ◌*◌, ◌≤◌, ◌<◌}
use native.Mathlib.Omega.{arith}
use lib.ListN.{length, length-set}
use borrow.Author.Rules.{rules}
use Rattle.laws.proofs.Arrays.{unmapped}
use Rattle.laws.specs.Front.{at_front}
use Rattle.laws.specs.HowMany.{how_many}
use Rattle.record.specs.declared.nodes.Node.{Node}
use Rattle.record.specs.Limits.{node_slots}
use Rattle.record_markers.specs.Markers.{in_use_at}
use Rattle.record_markers.proofs.Filling.{read_is, used_is, room_used, place_used, area_used}
use Rattle.record_markers.proofs.Filling.{count_unused, pairs_unused}
use Rattle.record_markers.proofs.listing.put_pairs.Goals as goal
use Rattle.record_markers.proofs.listing.put_pairs.Goals.{then-is_used, else-is_used}

pub put_pair-requires : goal.put_pair-requires
put_pair-requires c =
    let x = c.args in
    let q = x.q in
    let w = c.loop-k in
    let i = w.k in
    let v = w.invariant in
    let l : length q.nodes ≡ node_slots = search (rules, unmapped) in
    let k : i + 1 < node_slots = omega arith in
    let h : i + 1 ≤ q.node_count = omega arith in
    let e = used_is q (i + 1) l k true (sym c.is_used.ensures ∙ c.if-is_used.true) in
    let r : 2 * how_many (in_use_at q) q.node_count ≤ length x.area.now = search rules in
    omega (arith, room_used q i e q.node_count _ _ h v.0 r, v.3)

pub loop-k-preserved : goal.loop-k-preserved
loop-k-preserved c =
    let x = c.args in
    let q = x.q in
    let i = c.loop-k.k in
    let v = c.loop-k.invariant in
    let l : length q.nodes ≡ node_slots = search (rules, unmapped) in
    let k : i + 1 < node_slots = omega arith in
    let h : i + 1 ≤ q.node_count = omega arith in
    let r : 2 * how_many (in_use_at q) q.node_count ≤ length x.area.now = search rules in
    elim c.if-is_used.branch [
      | then-is_used w ↦
          let e = used_is q (i + 1) l k true (sym c.is_used.ensures ∙ w.if-is_used.true) in
          let room = room_used q i e q.node_count _ _ h v.0 r in
          let p = w.put_pair.ensures in (
            w.at-is ∙ place_used q i e _ v.0,
            omega (arith, w.at-is),
            w.area-is ∙ p ∙ area_used q i e x.area.now _ _ _ v.0 room v.2
                (ap (λ (n : Node). n.mark) (sym (read_is q (i + 1) l k))),
            ap length (w.area-is ∙ p) ∙ simp length-set v.3,
          )
      | else-is_used w ↦
          let e = used_is q (i + 1) l k false (sym c.is_used.ensures ∙ w.if-is_used.false) in (
            w.at-is ∙ v.0 ∙ ap (λ (n : ℕ). 2 * n) (count_unused q i e),
            omega (arith, w.at-is),
            w.area-is ∙ v.2 ∙ ap (λ (ps : List ℕ). at_front ps x.area.now) (pairs_unused q i e),
            ap length w.area-is ∙ v.3,
          )
    ]
