-- What a stage may take for granted, in the image's bytes: by whether it has a place, an own node,
-- a key.
use Rattle.std.specs.Prelude.{◌≡◌, true, List, ℕ, ◌+◌, ◌*◌, ◌-◌, ◌≤◌, ◌<◌, length, get_or}
use Rattle.record.specs.declared.keys.Key.{Key}
use Rattle.record.specs.Keys.{node_key}
use Rattle.record.specs.Queues.{processor_at}
use Rattle.record.specs.Stages.{row_of}
use Rattle.record.specs.Limits.{max_processors, max_nodes, max_levels, max_number}
use Rattle.image.specs.Layout.{node_bytes, own_in, tag_in, place_in, level_in, wanted_due_in}
use Rattle.image.specs.Layout.{wanted_ticket_in}
use Rattle.image.specs.Numbers.{number32}
use Rattle.image.specs.Image.{start_of, queue_in, Sound}

-- the height of node x, and where it leads at level i; base is where the nodes start
abbrev pub height_in : List ℕ → ℕ → ℕ → ℕ
height_in b base x = get_or b (base + node_bytes * x + 35) 0

abbrev pub next_in : List ℕ → ℕ → ℕ → ℕ → ℕ
next_in b base x i = get_or b (base + node_bytes * x + (i - 1)) 0

-- the key of node x
abbrev pub key_in : List ℕ → ℕ → ℕ → Key
key_in b base x =
    node_key (get_or b 1 0) x (number32 b (base + node_bytes * x + 23))
    (number32 b (base + node_bytes * x + 27))

pub record Placed (b : List ℕ) (base p tag : ℕ) : Type 0 where
  pub sound : Sound b
  pub start : base ≡ start_of b
  pub long : length b ≡ base + node_bytes * (get_or b 1 0 + 2)
  pub processors_high : get_or b 0 0 ≤ max_processors
  pub low : p < get_or b 0 0
  pub few : p < max_processors
  pub early : number32 b 3 < max_number
  pub tagged : tag_in b p ≡ tag
  pub node_low : place_in b p ≤ get_or b 1 0 + 1
  pub level_low : 1 ≤ level_in b p
  pub level_high : level_in b p ≤ max_levels
  pub own_low : 1 ≤ own_in b p
  pub own_high : own_in b p ≤ get_or b 1 0
  pub nodes_high : get_or b 1 0 ≤ max_nodes
  pub height_low : 1 ≤ height_in b base (own_in b p)
  pub height_high : height_in b base (own_in b p) ≤ max_levels
  pub next_low : next_in b base (place_in b p) (level_in b p) ≤ get_or b 1 0 + 1
  pub owns : (row_of (processor_at (queue_in b) p).stage).owns ≡ true

-- a stage with an own node and no place
pub record Owned (b : List ℕ) (base p tag : ℕ) : Type 0 where
  pub sound : Sound b
  pub start : base ≡ start_of b
  pub long : length b ≡ base + node_bytes * (get_or b 1 0 + 2)
  pub processors_high : get_or b 0 0 ≤ max_processors
  pub low : p < get_or b 0 0
  pub few : p < max_processors
  pub early : number32 b 3 < max_number
  pub tagged : tag_in b p ≡ tag
  pub own_low : 1 ≤ own_in b p
  pub own_high : own_in b p ≤ get_or b 1 0
  pub nodes_high : get_or b 1 0 ≤ max_nodes
  pub levels_high : get_or b 2 0 ≤ max_levels
  pub height_low : 1 ≤ height_in b base (own_in b p)
  pub height_high : height_in b base (own_in b p) ≤ max_levels

-- a stage with a place and no own node
pub record Walked (b : List ℕ) (base p tag : ℕ) : Type 0 where
  pub sound : Sound b
  pub start : base ≡ start_of b
  pub long : length b ≡ base + node_bytes * (get_or b 1 0 + 2)
  pub processors_high : get_or b 0 0 ≤ max_processors
  pub low : p < get_or b 0 0
  pub few : p < max_processors
  pub early : number32 b 3 < max_number
  pub tagged : tag_in b p ≡ tag
  pub node_low : place_in b p ≤ get_or b 1 0 + 1
  pub nodes_high : get_or b 1 0 ≤ max_nodes
  pub levels_high : get_or b 2 0 ≤ max_levels

-- a stage of a Remove: a place with its level, a key, and no own node
pub record Seeking (b : List ℕ) (base p tag : ℕ) : Type 0 where
  pub walked : Walked b base p tag
  pub level_low : 1 ≤ level_in b p
  pub level_high : level_in b p ≤ max_levels
  pub next_low : next_in b base (place_in b p) (level_in b p) ≤ get_or b 1 0 + 1
  pub first_low : next_in b base (place_in b p) 1 ≤ get_or b 1 0 + 1
  pub due_high : wanted_due_in b p ≤ max_number
  pub ticket_low : 1 ≤ wanted_ticket_in b p
  pub ticket_high : wanted_ticket_in b p ≤ max_number
