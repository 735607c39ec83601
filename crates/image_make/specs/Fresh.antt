-- The bytes of a queue that was just made, piece by piece.
use Rattle.std.specs.Prelude.{List, [], ◌∷◌, ℕ}
use Rattle.record.specs.Nodes.{fresh_node}
use Rattle.record.specs.Queues.{fresh_processor}
use Rattle.image.specs.Lists.{joined}
use Rattle.image.specs.Pieces.{node_image, processor_image}

-- the byte v, n times
abbrev pub repeated : ℕ → ℕ → List ℕ
repeated v n = joined (λ (k : ℕ). v ∷ []) n

-- n processors, and n nodes that lead to the tail
abbrev pub fresh_processors : ℕ → List ℕ
fresh_processors n = joined (λ (k : ℕ). processor_image fresh_processor) n

abbrev pub fresh_nodes : ℕ → ℕ → List ℕ
fresh_nodes tail n = joined (λ (k : ℕ). node_image (fresh_node tail)) n
