-- The arrays of the record that bytes are read as have their lengths, whatever the bytes are. Assumes nothing.
use mathlib.Core.Path.{◌≡◌, refl, ◌∙◌, ap}
use mathlib.Core.List.{List}
use Prim.Native.Nat.{ℕ, ◌+◌}
use lib.Dec.{ltb}
use lib.ListN.{length, get_or}
use Rattle.laws.proofs.Booleans.{cond_elim}
use Rattle.record.specs.declared.nodes.Node.{Node}
use Rattle.record.specs.declared.queues.Processor.{Processor}
use Rattle.record.specs.Limits.{max_processors, node_slots}
use Rattle.record.specs.Nodes.{fresh_node}
use Rattle.record.specs.Queues.{fresh_processor}
use Rattle.image.specs.Pieces.{read_node, read_processor}
use Rattle.image.proofs.Lists.{length_listed}
use Rattle.image.proofs.Parts.{get_d_listed}
use Rattle.image.specs.OneToOne.{Sized}
use Rattle.image.specs.Image.{processor_part, node_part, processor_in, node_in, queue_in}

forward_read : (b : List ℕ) → length (read_node b).node.forward ≡ 8
unfolding read_node
forward_read b = refl

locks_read : (b : List ℕ) → length (read_node b).node.level_locks ≡ 8
unfolding read_node
locks_read b = refl

saved_read : (b : List ℕ) → length (read_processor b).processor.saved ≡ 8
unfolding read_processor
saved_read b = refl

pub sized_in : (b : List ℕ) → Sized (queue_in b)
unfolding queue_in
sized_in b = record {
  nodes_long = length_listed (node_in b) node_slots;
  processors_long = length_listed (processor_in b) max_processors;
  forward_long = λ i h.
      ap (λ (n : Node). length n.forward) (get_d_listed (node_in b) node_slots i (fresh_node 0) h)
      ∙ cond_elim (λ (n : Node). length n.forward ≡ 8) (ltb i (get_or b 1 0 + 2)) _ _
      (forward_read (node_part b i)) refl;
  locks_long = λ i h.
      ap (λ (n : Node). length n.level_locks) (get_d_listed (node_in b) node_slots i (fresh_node 0) h)
      ∙ cond_elim (λ (n : Node). length n.level_locks ≡ 8) (ltb i (get_or b 1 0 + 2)) _ _
      (locks_read (node_part b i)) refl;
  saved_long = λ p h.
      ap (λ (c : Processor). length c.saved)
      (get_d_listed (processor_in b) max_processors p fresh_processor h)
      ∙ cond_elim (λ (c : Processor). length c.saved ≡ 8) (ltb p (get_or b 0 0)) _ _
      (saved_read (processor_part b p)) refl;
}
