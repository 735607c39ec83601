-- What check 21 says of the numbers that the calls use as indices, and of sums that must not wrap.
-- Assumes nothing.
use mathlib.Core.Path.{◌≡◌}
use mathlib.Core.Bool.{true}
use Prim.Native.Nat.{ℕ, ◌≤◌, ◌<◌}
use native.Mathlib.Omega.{arith}
use Rattle.record.specs.declared.queues.Queue.{Queue}
use Rattle.record_check.specs.Check.{sizes_of, valid}
use Rattle.record.specs.Limits.{node_slots, max_processors, max_nodes}
use Rattle.record.specs.Queues.{processor_at}
use Rattle.rules.specs.declared.calls.Call.{Call}
use Rattle.rules.specs.Calls.{reading_place, next_of, decision_of}
use Rattle.rules.specs.Effects.{node_of}
use Rattle.rules.proofs.ValidFacts.{ValidProcessor, ValidPlace, valid_facts}
use Rattle.rules.proofs.ValidDecisions.{step_view_valid, reading_valid, decides_valid}
use Rattle.rules.proofs.Allowed.{Allowed}
use Rattle.rules.proofs.Untouched.{node_high}

pub nodes_high : (q : Queue) → valid q ≡ true → q.node_count ≤ max_nodes
nodes_high q v = (valid_facts q v).sizes.node_count.high

pub processors_high : (q : Queue) → valid q ≡ true → q.processor_count ≤ max_processors
processors_high q v = (valid_facts q v).sizes.processor_count.high

pub processor_low : (q : Queue) (p : ℕ) → valid q ≡ true → p < q.processor_count → p < max_processors
processor_low q p v h = omega (arith, processors_high q v)

module _ (q : Queue) (p : ℕ) (v : valid q ≡ true) (h : p < q.processor_count) where
  processor : ValidProcessor (sizes_of q) (processor_at q p)
  processor = (valid_facts q v).processors p h

  placed : ValidPlace (sizes_of q) (reading_place (processor_at q p).stage)
  placed = reading_valid (sizes_of q) (valid_facts q v).sizes.level_count.low (processor_at q p).stage (processor_at q p).own processor.carries

  pub place_low : (reading_place (processor_at q p).stage).node < node_slots
  place_low = omega (arith, placed.node, nodes_high q v)

  pub own_low : (processor_at q p).own < node_slots
  own_low = omega (arith, processor.carries.own_high, nodes_high q v)

  pub next_low : next_of q (reading_place (processor_at q p).stage) < node_slots
  next_low =
      let s = step_view_valid q (processor_at q p) (reading_place (processor_at q p).stage) (valid_facts q v) processor placed in
      omega (arith, s.next, nodes_high q v)

-- a call that is not refused, on a record that passes check 21
module _ (q : Queue) (v : valid q ≡ true) where
  -- the node that it changes
  pub changed_low : (c : Call) → Allowed q c → node_of (decision_of q c).effect < node_slots
  changed_low c A =
      let d = decides_valid q c A (valid_facts q v) in
      let n = node_high (sizes_of q) (decision_of q c).effect d.effect in
      omega (arith, n, nodes_high q v)
