-- How long the pieces of an image are, and all of it. Assumes nothing.
use mathlib.Core.Path.{◌≡◌, refl, ◌∙◌, ap}
use mathlib.Core.List.{List, ◌++◌}
use Prim.Native.Nat.{ℕ, ◌+◌, ◌*◌}
use lib.ListN.{length, length-append}
use Rattle.record.specs.declared.nodes.Node.{Node}
use Rattle.record.specs.declared.queues.Processor.{Processor}
use Rattle.record.specs.declared.queues.Queue.{Queue}
use Rattle.record.specs.Queues.{node_at, processor_at}
use Rattle.image.specs.Pieces.{node_image, processor_image}
use Rattle.image.specs.Layout.{image_length}
use Rattle.image.specs.Image.{header_image, nodes_image, processors_image, image_of}
use Rattle.image.proofs.Lists.{length_joined}

pub length_node : (n : Node) → length (node_image n) ≡ 41
unfolding node_image
length_node n = refl

pub length_processor : (c : Processor) → length (processor_image c) ≡ 26
unfolding processor_image
length_processor c = refl

pub length_nodes : (q : Queue) (i : ℕ) → length (nodes_image q i) ≡ 41 * i
length_nodes q i =
    length_joined (λ k. node_image (node_at q k)) 41 (λ k. length_node (node_at q k)) i

pub length_processors : (q : Queue) (p : ℕ) → length (processors_image q p) ≡ 26 * p
length_processors q p =
    length_joined (λ k. processor_image (processor_at q k)) 26
    (λ k. length_processor (processor_at q k)) p

abbrev pub headed : Queue → List ℕ
headed q = header_image q.processor_count q.node_count q.level_count q.clock

pub length_front :
    (q : Queue) → length (headed q ++ processors_image q q.processor_count)
    ≡ 7 + 26 * q.processor_count
length_front q =
    length-append (headed q) (processors_image q q.processor_count)
    ∙ ap (λ (k : ℕ). 7 + k) (length_processors q q.processor_count)

pub length_image : (q : Queue) → length (image_of q) ≡ image_length q.processor_count q.node_count
length_image q =
    length-append (headed q ++ processors_image q q.processor_count) (nodes_image q (q.node_count + 2))
    ∙ rw (length_front q, length_nodes q (q.node_count + 2)) refl
