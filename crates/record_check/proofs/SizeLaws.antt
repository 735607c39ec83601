-- What check 21 says of a record's sizes, of each node and of each processor, and the converse. Assumes nothing.
use mathlib.Core.Path.{◌≡◌, ap}
use mathlib.Core.Bool.{Bool, true, false, ◌&&◌}
use Prim.Native.Nat.{ℕ, ◌+◌, ◌≤◌}
use lib.Dec.{leb}
use borrow.Author.Tests.{leb-true}
use Rattle.laws.specs.Every.{every_below}
use Rattle.laws.proofs.Counting.{and_left, and_right}
use Rattle.record_check.specs.declared.check.Sizes.{Sizes}
use Rattle.record.specs.declared.queues.Queue.{Queue}
use Rattle.record.specs.Limits.{max_processors, max_nodes, max_levels, max_number}
use Rattle.record.specs.Queues.{node_at, processor_at}
use Rattle.record_check.specs.Check.{within, sizes_of, sizes_valid, node_valid, processor_valid, valid}

pub record SizeBounds (s : Sizes) : Type 0 where
  pub processors_low : 1 ≤ s.processor_count
  pub processors_high : s.processor_count ≤ max_processors
  pub nodes_low : 1 ≤ s.node_count
  pub nodes_high : s.node_count ≤ max_nodes
  pub levels_low : 1 ≤ s.level_count
  pub levels_high : s.level_count ≤ max_levels
  pub clock_high : s.clock ≤ max_number

pub within_low : (x top : ℕ) → within x top ≡ true → 1 ≤ x
within_low x top h = leb-true 1 x (and_left (leb 1 x) (leb x top) h)

pub within_high : (x top : ℕ) → within x top ≡ true → x ≤ top
within_high x top h = leb-true x top (and_right (leb 1 x) (leb x top) h)

pub sizes_bounds : (s : Sizes) → sizes_valid s ≡ true → SizeBounds s
sizes_bounds s h =
    let p = within s.processor_count max_processors in
    let n = within s.node_count max_nodes in
    let l = within s.level_count max_levels in
    let t = leb s.clock max_number in
    let hpnl = and_left (p && n && l) t h in
    let hpn = and_left (p && n) l hpnl in
    let hp : within s.processor_count max_processors ≡ true = and_left p n hpn in
    let hn : within s.node_count max_nodes ≡ true = and_right p n hpn in
    let hl : within s.level_count max_levels ≡ true = and_right (p && n) l hpnl in
    record {
      processors_low = within_low s.processor_count max_processors hp;
      processors_high = within_high s.processor_count max_processors hp;
      nodes_low = within_low s.node_count max_nodes hn;
      nodes_high = within_high s.node_count max_nodes hn;
      levels_low = within_low s.level_count max_levels hl;
      levels_high = within_high s.level_count max_levels hl;
      clock_high = leb-true s.clock max_number (and_right (p && n && l) t h);
    }

-- the tests of the nodes 0 to i - 1, and of the processors 0 to p - 1
abbrev pub nodes_valid : Queue → ℕ → Bool
nodes_valid q i = every_below (λ x. node_valid (sizes_of q) x (node_at q x)) i

abbrev pub processors_valid : Queue → ℕ → Bool
processors_valid q p = every_below (λ c. processor_valid (sizes_of q) (processor_at q c)) p

module _ (q : Queue) (h : valid q ≡ true) where
  sized : (sizes_valid (sizes_of q) && nodes_valid q (q.node_count + 2)) ≡ true
  sized = and_left (sizes_valid (sizes_of q) && nodes_valid q (q.node_count + 2)) (processors_valid q q.processor_count) h

  pub valid_sizes : SizeBounds (sizes_of q)
  valid_sizes = sizes_bounds (sizes_of q) (and_left (sizes_valid (sizes_of q)) (nodes_valid q (q.node_count + 2)) sized)

-- the code's order: the sizes first, then the nodes and the processors
pub valid_refused : (q : Queue) → sizes_valid (sizes_of q) ≡ false → valid q ≡ false
valid_refused q h = ap (λ (s : Bool). s && nodes_valid q (q.node_count + 2) && processors_valid q q.processor_count) h

pub valid_rest :
    (q : Queue) → sizes_valid (sizes_of q) ≡ true → valid q ≡ (nodes_valid q (q.node_count + 2) && processors_valid q q.processor_count)
valid_rest q h = ap (λ (s : Bool). s && nodes_valid q (q.node_count + 2) && processors_valid q q.processor_count) h
