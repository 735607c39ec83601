-- The test of one node's and of one processor's bytes: they are ones that are written, and pass
-- check 21.
use Rattle.std.specs.Prelude.{Bool, ◌&&◌, List, ℕ, ◌+◌, leb, get_or}
use Rattle.laws.specs.Every.{every_below}
use Rattle.record.specs.Limits.{max_number}
use Rattle.record_check.specs.declared.check.Sizes.{Sizes}
use Rattle.record_check.specs.Check.{within, sizes_of, node_valid, processor_valid}
use Rattle.image.specs.Numbers.{number32}
use Rattle.image.specs.Puts.{piece}
use Rattle.image.specs.Pieces.{read_node, read_processor}
use Rattle.record.specs.Queues.{node_at, processor_at}
use Rattle.image.specs.Image.{processor_part, node_part, queue_in}

-- the links of the node at o, and its node lock
abbrev pub links_test : List ℕ → ℕ → ℕ → ℕ → ℕ → Bool
links_test b o p n l =
    every_below (λ (k : ℕ). leb (piece b o (0 + k)) (n + 1)) l
    && every_below (λ (k : ℕ). leb (piece b o (8 + k)) p) l
    && leb (get_or b (o + 16) 0) p

-- its due minute, item, ticket and height
abbrev pub entry_test : List ℕ → ℕ → ℕ → ℕ → Bool
entry_test b o l clock =
    leb (number32 b (o + 23)) max_number
    && leb (number32 b (o + 31)) max_number
    && leb (number32 b (o + 27)) clock
    && within (get_or b (o + 35) 0) l

abbrev pub sizes : ℕ → ℕ → ℕ → ℕ → Sizes
sizes p n l clock = record { processor_count = p; node_count = n; level_count = l; clock = clock }

unfoldable pub node_ok : List ℕ → ℕ → Bool
node_ok b x = (read_node (node_part b x)).ok && node_valid (sizes_of (queue_in b)) x (node_at (queue_in b) x)

unfoldable pub processor_ok : List ℕ → ℕ → Bool
processor_ok b p =
    (read_processor (processor_part b p)).ok
    && processor_valid (sizes_of (queue_in b)) (processor_at (queue_in b) p)
