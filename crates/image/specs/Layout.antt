-- Where the parts of an image stand: 7 bytes for the sizes and the clock, then the processors, 26
-- bytes each, then the nodes, 41 bytes each. specs/Pieces.antt has what stands in each of them.
-- src/layout.rt has these numbers for the code.
use Rattle.std.specs.Prelude.{ℕ, ◌+◌, ◌*◌, List, get_or}
use Rattle.record.specs.Limits.{max_processors, max_nodes}
use Rattle.image.specs.Numbers.{number32}

abbrev pub header_bytes : ℕ
header_bytes = 7

abbrev pub processor_bytes : ℕ
processor_bytes = 26

abbrev pub node_bytes : ℕ
node_bytes = 41

-- where processor p starts; behind the last one, the nodes
abbrev pub processor_start : ℕ → ℕ
processor_start p = header_bytes + processor_bytes * p

-- how many bytes the image of a queue for p processors and n nodes has, and at most
abbrev pub image_length : ℕ → ℕ → ℕ
image_length p n = processor_start p + node_bytes * (n + 2)

abbrev pub max_image_length : ℕ
max_image_length = image_length max_processors max_nodes

-- of processor p: its own node, its stage's tag, and its place's node and level
abbrev pub own_in : List ℕ → ℕ → ℕ
own_in b p = get_or b (processor_start p + 4) 0

abbrev pub tag_in : List ℕ → ℕ → ℕ
tag_in b p = get_or b (processor_start p + 5) 0

abbrev pub place_in : List ℕ → ℕ → ℕ
place_in b p = get_or b (processor_start p + 6) 0

abbrev pub level_in : List ℕ → ℕ → ℕ
level_in b p = get_or b (processor_start p + 7) 0

-- the due minute and the ticket that a Remove carries
abbrev pub wanted_due_in : List ℕ → ℕ → ℕ
wanted_due_in b p = number32 b (processor_start p + 18)

abbrev pub wanted_ticket_in : List ℕ → ℕ → ℕ
wanted_ticket_in b p = number32 b (processor_start p + 22)
