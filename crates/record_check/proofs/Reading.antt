-- Reads of the record's arrays as the checker has them, with a default of empty lists, and as the definitions have them; and what one
-- more node or processor adds to the loops of check 21 and of Backlog. Assumes nothing.
use Rattle.std.specs.Prelude.{None}
use mathlib.Core.Path.{◌≡◌, refl, sym, subst, ◌∙◌, ap}
use mathlib.Core.Bool.{Bool, cond, ◌&&◌}
use mathlib.Core.List.{[]}
use Prim.Native.Nat.{ℕ, ◌+◌, ◌-◌, ◌≤◌, ◌<◌}
use native.Mathlib.Omega.{arith}
use lib.ListN.{length, get_or}
use Rattle.laws.proofs.Arrays.{within}
use Rattle.laws.specs.Every.{every_below}
use Rattle.laws.proofs.Counting.{every_next, every_same}
use Rattle.laws.proofs.HowMany.{many_more}
use Rattle.laws.specs.HowMany.{how_many}
use Rattle.record.specs.declared.nodes.Node.{Node}
use Rattle.record.specs.declared.nodes.Use.TheVariants as use'
use Rattle.record.specs.declared.queues.Processor.{Processor}
use Rattle.record.specs.declared.queues.Queue.{Queue}
use Rattle.record.specs.declared.stages.Stage.TheVariants as stage
use Rattle.record_check.specs.Backlog.{holds_pending, pending_at}
use Rattle.record_check.specs.Check.{sizes_of, node_valid, processor_valid}
use Rattle.record.specs.Limits.{max_processors, node_slots}
use Rattle.record.specs.Nodes.{fresh_node}
use Rattle.record.specs.Queues.{fresh_processor, node_at, processor_at}
use Rattle.record_check.proofs.SizeLaws.{SizeBounds, nodes_valid, processors_valid}

abbrev pub no_node : Node
no_node = record { forward = []; level_locks = []; node_lock = 0; mark = 0; stamp = None; due = 0; ticket = 0; item = 0; height = 0; state = use'.Never }

abbrev pub no_processor : Processor
no_processor = record { begin = 0; own = 0; stage = stage.Idle; saved = [] }

module _ (q : Queue) (i : ℕ) (long : length q.nodes ≡ node_slots) where
  pub node_read : i < node_slots → get_or q.nodes i no_node ≡ node_at q i
  node_read low = within Node q.nodes i node_slots no_node (fresh_node 0) long low

  pub nodes_next :
      i < node_slots →
      (a b r : Bool) →
      r ≡ (a && b) →
      a ≡ nodes_valid q i →
      b ≡ node_valid (sizes_of q) i (get_or q.nodes i no_node) →
      r ≡ nodes_valid q (i + 1)
  nodes_next low a b r h k l =
      every_next (λ x. node_valid (sizes_of q) x (node_at q x)) i a b r h k
      (l ∙ ap (λ (n : Node). node_valid (sizes_of q) i n) (node_read low))

abbrev count_of : Node → ℕ
count_of n = cond (holds_pending n) 1 0

module _ (q : Queue) (i : ℕ) (long : length q.nodes ≡ node_slots) where
  -- a loop that keeps the count of the nodes 1 to i and adds the next node's
  pub count_next :
      i + 1 < node_slots →
      (a b r : ℕ) →
      r ≡ a + b →
      a ≡ how_many (pending_at q) i →
      b ≡ count_of (get_or q.nodes (i + 1) no_node) →
      r ≡ how_many (pending_at q) (i + 1)
  count_next low a b r h k l =
      let here = l ∙ ap count_of (node_read q (i + 1) long low) in
      h ∙ rw (k, here) refl ∙ sym (many_more (pending_at q) i)

  -- the same for a loop from 1 on, which keeps the count of the nodes below i
  pub count_more :
      1 ≤ i →
      i < node_slots →
      (a b r : ℕ) →
      r ≡ a + b →
      a ≡ how_many (pending_at q) (i - 1) →
      b ≡ count_of (get_or q.nodes i no_node) →
      r ≡ how_many (pending_at q) i
  count_more from low a b r h k l =
      let e : i - 1 + 1 ≡ i = omega arith in
      let here = l ∙ ap count_of (node_read q i long low) in
      let more : how_many (pending_at q) i ≡ how_many (pending_at q) (i - 1) + count_of (node_at q i) =
      subst (λ (x : ℕ). how_many (pending_at q) x ≡ how_many (pending_at q) (i - 1) + count_of (node_at q x)) e
      (many_more (pending_at q) (i - 1)) in
      h ∙ rw (k, here) refl ∙ sym more

module _ (q : Queue) (p : ℕ) (long : length q.processors ≡ max_processors) where
  pub processor_read : p < max_processors → get_or q.processors p no_processor ≡ processor_at q p
  processor_read low = within Processor q.processors p max_processors no_processor fresh_processor long low

  pub processors_next :
      p < max_processors →
      (a b r : Bool) →
      r ≡ (a && b) →
      a ≡ processors_valid q p →
      b ≡ processor_valid (sizes_of q) (get_or q.processors p no_processor) →
      r ≡ processors_valid q (p + 1)
  processors_next low a b r h k l =
      every_next (λ c. processor_valid (sizes_of q) (processor_at q c)) p a b r h k
      (l ∙ ap (λ (c : Processor). processor_valid (sizes_of q) c) (processor_read low))

-- the tests of all nodes, and of all processors, as the code reads them
module _ (q : Queue) (b : SizeBounds (sizes_of q)) where
  pub nodes_read :
      length q.nodes ≡ node_slots →
      every_below (λ k. node_valid (sizes_of q) k (get_or q.nodes k no_node)) (q.node_count + 2)
      ≡ nodes_valid q (q.node_count + 2)
  nodes_read long =
      every_same _ _ (q.node_count + 2)
      (λ k low. ap (λ (n : Node). node_valid (sizes_of q) k n) (node_read q k long (omega (arith, b.nodes_high))))

  pub processors_read :
      length q.processors ≡ max_processors →
      every_below (λ k. processor_valid (sizes_of q) (get_or q.processors k no_processor)) q.processor_count
      ≡ processors_valid q q.processor_count
  processors_read long =
      every_same _ _ q.processor_count
      (λ k low. ap (λ (c : Processor). processor_valid (sizes_of q) c)
      (processor_read q k long (omega (arith, b.processors_high))))
