-- The record's check bounds the number of nodes; one more node is `count_more`.
use mathlib.Core.Path.{◌≡◌}
use Prim.Native.Nat.{◌≤◌, ◌<◌, ◌-◌}
use Rattle.laws.specs.HowMany.{how_many}
use Rattle.record_check.specs.Backlog.{pending_at}
use Rattle.record.specs.Limits.{max_nodes}
use Rattle.record_check.proofs.counting.backlog.Given as goal

abbrev pub invariant-loop-i : goal.invariant-loop-i
invariant-loop-i l =
    (l.q.node_count ≤ max_nodes) × (l.count < l.i) × (l.count ≡ how_many (pending_at l.q) (l.i - 1))
