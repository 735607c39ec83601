-- The record as bytes, as many as its sizes ask for. Numbers of four bytes have the lowest byte
-- first.
--
--              0  P, N and L               1 byte each
--              3  clock                    4 bytes
--              7  processor 0 to P - 1     26 bytes each, specs/Pieces.antt
--   7 + 26 * P    node 0 to node N + 1     41 bytes each
--
-- Slots past P and N + 1 are not in the bytes: the record that bytes are read as has them as they
-- are made. Bytes are an image only where they are that of the record that they are read as.
use Rattle.std.specs.Prelude.{◌≡◌, Bool, true, cond, ◌&&◌, List, ◌∷◌, ◌++◌, ℕ, ◌+◌, ◌*◌, eqb, leb, ltb, length, get_or, take, drop}
use Rattle.record.specs.declared.nodes.Node.{Node}
use Rattle.record.specs.declared.queues.Processor.{Processor}
use Rattle.record.specs.declared.queues.Queue.{Queue}
use Rattle.record.specs.Limits.{max_processors, node_slots}
use Rattle.record.specs.Nodes.{fresh_node}
use Rattle.record.specs.Queues.{fresh_processor, node_at, processor_at}
use Rattle.record_check.specs.Check.{valid}
use Rattle.image.specs.Layout.{processor_bytes, node_bytes, processor_start, image_length}
use Rattle.image.specs.Lists.{joined, listed, all_below}
use Rattle.image.specs.Numbers.{bytes_of32, number32}
use Rattle.image.specs.Pieces.{node_image, read_node, processor_image, read_processor}

abbrev pub header_image : ℕ → ℕ → ℕ → ℕ → List ℕ
header_image p n l clock = p ∷ n ∷ l ∷ bytes_of32 clock

abbrev pub processors_image : Queue → ℕ → List ℕ
processors_image q k = joined (λ p. processor_image (processor_at q p)) k

abbrev pub nodes_image : Queue → ℕ → List ℕ
nodes_image q k = joined (λ i. node_image (node_at q i)) k

abbrev pub image_of : Queue → List ℕ
image_of q =
    header_image q.processor_count q.node_count q.level_count q.clock
    ++ processors_image q q.processor_count
    ++ nodes_image q (q.node_count + 2)

-- how long the bytes are, and where the nodes start, by the sizes that stand in them
abbrev pub length_of : List ℕ → ℕ
length_of b = image_length (get_or b 0 0) (get_or b 1 0)

abbrev pub start_of : List ℕ → ℕ
start_of b = processor_start (get_or b 0 0)

-- the bytes of processor p and of node x
abbrev pub processor_part : List ℕ → ℕ → List ℕ
processor_part b p = take processor_bytes (drop (processor_start p) b)

abbrev pub node_part : List ℕ → ℕ → List ℕ
node_part b x = take node_bytes (drop (start_of b + node_bytes * x) b)

-- processor p and node x, as they are made where the bytes have none
abbrev pub processor_in : List ℕ → ℕ → Processor
processor_in b p =
    cond (ltb p (get_or b 0 0)) (read_processor (processor_part b p)).processor fresh_processor

abbrev pub node_in : List ℕ → ℕ → Node
node_in b x =
    cond (ltb x (get_or b 1 0 + 2)) (read_node (node_part b x)).node (fresh_node (get_or b 1 0 + 1))

-- the record that the bytes are read as
unfoldable pub queue_in : List ℕ → Queue
queue_in b = record {
  processor_count = get_or b 0 0;
  node_count = get_or b 1 0;
  level_count = get_or b 2 0;
  clock = number32 b 3;
  nodes = listed (node_in b) node_slots;
  processors = listed (processor_in b) max_processors;
}

-- a record has room for so many processors and nodes, and the bytes are as many as these ask for
abbrev pub has_room : List ℕ → Bool
has_room b = leb (get_or b 0 0) max_processors && leb (get_or b 1 0 + 2) node_slots

abbrev pub fits : List ℕ → Bool
fits b = has_room b && eqb (length b) (length_of b)

-- the bytes are the image of a record: every tag and unused number is one that is written
unfoldable pub is_image : List ℕ → Bool
is_image b =
    fits b
    && all_below (λ p. (read_processor (processor_part b p)).ok) (get_or b 0 0)
    && all_below (λ x. (read_node (node_part b x)).ok) (get_or b 1 0 + 2)

-- and this record passes check 21
unfoldable pub passes_of : List ℕ → Bool
passes_of b = is_image b && valid (queue_in b)

pub record Sound (b : List ℕ) : Type 0 where
  pub long : length b ≡ length_of b
  pub image : image_of (queue_in b) ≡ b
  pub passes : valid (queue_in b) ≡ true
