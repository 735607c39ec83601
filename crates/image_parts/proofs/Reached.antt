-- The image of a record that calls reach from a queue that was made is read as this record.
-- Assumes nothing.
use mathlib.Core.Path.{◌≡◌, refl}
use mathlib.Core.List.{List, [], ◌∷◌}
use Prim.Native.Nat.{ℕ, ◌+◌, ◌≤◌, ◌<◌}
use native.Mathlib.Omega.{arith}
use lib.ListN.{get_or-replicate}
use Rattle.record.specs.declared.nodes.Node.{Node}
use Rattle.record.specs.declared.queues.Queue.{Queue}
use Rattle.record.specs.Limits.{max_processors, node_slots}
use Rattle.record.specs.Nodes.{fresh_node}
use Rattle.record.specs.Queues.{fresh_processor, fresh_queue, node_at, processor_at}
use Rattle.rules.specs.Runs.{Turn, after, after_all}
use Rattle.rules.proofs.Slots.{replicate_either}
use Rattle.rules.proofs.Untouched.{untouched}
use Rattle.image.specs.Image.{image_of, queue_in}
use Rattle.image.specs.OneToOne.{Sized, Trim}
use Rattle.image.proofs.Inverse.{read_write}
use Rattle.image_parts.proofs.Arrays.{fresh_sized}
use Rattle.image_parts.proofs.Kept.{sized_after}
use Rattle.image_parts.proofs.Sounds.{trim_after}

module _ (P N L : ℕ) where
  pub processor_fresh : (p : ℕ) → processor_at (fresh_queue P N L) p ≡ fresh_processor
  processor_fresh p =
      replicate_either (λ c. c ≡ fresh_processor) max_processors p fresh_processor fresh_processor
      refl refl

  pub node_fresh : (x : ℕ) → x < node_slots → node_at (fresh_queue P N L) x ≡ fresh_node (N + 1)
  node_fresh x h = get_or-replicate {A = Node} node_slots x (fresh_node (N + 1)) (fresh_node 0) h

  pub fresh_trim : P ≤ 16 → N ≤ 200 → Trim (fresh_queue P N L)
  fresh_trim few short = record {
    processors_high = few;
    nodes_high = omega arith;
    nodes = λ x h l. node_fresh x l;
    processors = λ p h l. processor_fresh p;
  }

pub all_sized : (q : Queue) → Sized q → (cs : List Turn) → Sized (after_all q cs)
unfolding after_all
all_sized q S [] = S
all_sized q S (c ∷ cs) = all_sized (after q c) (sized_after q S c) cs

pub all_trim : (q : Queue) → Trim q → (cs : List Turn) → Trim (after_all q cs)
unfolding after_all
all_trim q T [] = T
all_trim q T (c ∷ cs) = all_trim (after q c) (trim_after q (after q c) (untouched q c) T) cs

pub reached_read :
    (P N L : ℕ) → P ≤ 16 → N ≤ 200 → (cs : List Turn) →
    queue_in (image_of (after_all (fresh_queue P N L) cs)) ≡ after_all (fresh_queue P N L) cs
reached_read P N L few short cs =
    let q = fresh_queue P N L in
    read_write (after_all q cs) (all_sized q (fresh_sized P N L) cs)
    (all_trim q (fresh_trim P N L few short) cs)
