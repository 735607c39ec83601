-- What a walk reads at its place: the next node, the stamp, the mark. Assumes nothing.
use mathlib.Core.Path.{◌≡◌, refl, ◌∙◌, ap}
use mathlib.Core.List.{List}
use Prim.Native.Nat.{ℕ, ◌+◌, ◌*◌}
use native.Mathlib.Omega.{arith}
use lib.ListN.{get_or}
use Rattle.record.specs.declared.nodes.Node.{Node}
use Rattle.record.specs.declared.queues.Processor.{Processor}
use Rattle.record.specs.Nodes.{stamped_before}
use Rattle.record.specs.Queues.{node_at, processor_at}
use Rattle.record.specs.Stages.{place}
use Rattle.image.specs.Numbers.{number32}
use Rattle.image.specs.Puts.{piece}
use Rattle.image.specs.Image.{queue_in}
use Rattle.image.proofs.Fields.{node_from, node_is, processor_is, number_at}
use Rattle.rules.specs.Calls.{next_of}
use Rattle.image_parts.specs.Reads.{stamp_in}
use Rattle.image_parts.specs.Ready.{Walked}
use Rattle.image_parts.proofs.Readings.{mine}

module _ (b : List ℕ) (base p tag : ℕ) (r : Walked b base p tag) where
  pub after_is : next_of (queue_in b) (place (mine b p 6) 1) ≡ get_or b (base + 41 * mine b p 6 + 0) 0
  after_is =
      ap (λ (n : Node). get_or n.forward 0 0)
      (node_is b base r.start r.nodes_high (mine b p 6) (omega (arith, r.node_low)))

  pub stamped_is :
      stamped_before (node_at (queue_in b) (mine b p 6)).stamp (processor_at (queue_in b) p).begin
      ≡ stamped_before (stamp_in b (base + 41 * mine b p 6)) (number32 b (7 + 26 * p + 0))
  stamped_is =
      ap (λ (n : Node). stamped_before n.stamp (processor_at (queue_in b) p).begin)
      (node_is b base r.start r.nodes_high (mine b p 6) (omega (arith, r.node_low)))
      ∙ ap (λ (c : Processor). stamped_before (node_from (piece b (base + 41 * mine b p 6))).stamp
      c.begin) (processor_is b p r.processors_high r.low)
      ∙ rw (number_at b (base + 41 * mine b p 6) 19, number_at b (7 + 26 * p) 0) refl

  pub marked_is : (node_at (queue_in b) (mine b p 6)).mark ≡ get_or b (base + 41 * mine b p 6 + 17) 0
  marked_is =
      ap (λ (n : Node). n.mark)
      (node_is b base r.start r.nodes_high (mine b p 6) (omega (arith, r.node_low)))

pub entries_is : (b : List ℕ) → (queue_in b).node_count ≡ get_or b 1 0
unfolding queue_in
entries_is b = refl
