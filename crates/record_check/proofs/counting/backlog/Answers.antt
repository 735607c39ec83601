-- The record's check bounds the number of nodes; one more node is `count_more`.
use mathlib.Core.Path.{◌≡◌, refl}
use Prim.Native.Nat.{◌<◌, ◌+◌, ◌-◌}
use native.Mathlib.Omega.{arith}
use lib.ListN.{length}
use borrow.Author.Rules.{rules}
use Rattle.laws.proofs.Arrays.{unmapped}
use Rattle.record.specs.Limits.{node_slots}
use Rattle.record_check.proofs.Reading.{count_more}
use Rattle.record_check.proofs.counting.backlog.Goals as goal

pub loop-i-preserved : goal.loop-i-preserved
loop-i-preserved c =
    let q = c.args.q in
    let i = c.loop-i.i in
    let v = c.loop-i.invariant in
    let l : length q.nodes ≡ node_slots = search (rules, unmapped) in
    let k : i < node_slots = omega arith in
    let e = c.counted-count.ensures in
    let next : i + 1 - 1 ≡ i = omega arith in
    (v.0, omega (arith, e.1), rw next (count_more q i l c.loop-i.auto.i k _ _ _ refl v.2 e.0))
