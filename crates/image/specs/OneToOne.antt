-- Images and records are one to one: those records whose slots past P and N + 1 are as made, as
-- they are after every list of calls from a queue that was made.
use Rattle.std.specs.Prelude.{◌≡◌, true, List, ℕ, ◌+◌, ◌≤◌, ◌<◌, length, get_or}
use Rattle.record.specs.declared.queues.Queue.{Queue}
use Rattle.record.specs.Limits.{max_processors, max_levels, node_slots}
use Rattle.record.specs.Nodes.{fresh_node}
use Rattle.record.specs.Queues.{fresh_processor, node_at, processor_at}
use Rattle.image.specs.Image.{image_of, queue_in, is_image}

-- the record's arrays have their lengths, as every record of the code has
pub record Sized (q : Queue) : Type 0 where
  pub nodes_long : length q.nodes ≡ node_slots
  pub processors_long : length q.processors ≡ max_processors
  pub forward_long : (i : ℕ) → i < node_slots → length (node_at q i).forward ≡ max_levels
  pub locks_long : (i : ℕ) → i < node_slots → length (node_at q i).level_locks ≡ max_levels
  pub saved_long : (p : ℕ) → p < max_processors → length (processor_at q p).saved ≡ max_levels

-- the slots past P and N + 1 are as made
pub record Trim (q : Queue) : Type 0 where
  pub processors_high : q.processor_count ≤ max_processors
  pub nodes_high : q.node_count + 2 ≤ node_slots
  pub nodes :
      (x : ℕ) → q.node_count + 1 < x → x < node_slots → node_at q x ≡ fresh_node (q.node_count + 1)
  pub processors : (p : ℕ) → q.processor_count ≤ p → p < max_processors
      → processor_at q p ≡ fresh_processor

-- every element is a byte
abbrev pub Bytes : List ℕ → Type 0
Bytes b = (k : ℕ) → get_or b k 0 < 256

-- reading a record's image gives the record
abbrev pub WrittenIsRead : Type 0
WrittenIsRead =
    (q : Queue) → Sized q → Trim q → (is_image (image_of q) ≡ true) × (queue_in (image_of q) ≡ q)

-- bytes that are an image are that of the record that they are read as, which is such a record
abbrev pub ReadIsWritten : Type 0
ReadIsWritten =
    (b : List ℕ) → Bytes b → is_image b ≡ true →
    (image_of (queue_in b) ≡ b) × (Sized (queue_in b) × Trim (queue_in b))

-- records with the same image are the same
abbrev pub SameImage : Type 0
SameImage =
    (q r : Queue) → Sized q → Trim q → Sized r → Trim r → image_of q ≡ image_of r → q ≡ r
