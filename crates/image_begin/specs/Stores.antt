-- What a begin stores, and what it may take for granted.
use Rattle.std.specs.Prelude.{◌≡◌, Option, Some, None, cond, List, [], ◌∷◌, ◌++◌, ℕ, zero, suc, ◌+◌, ◌*◌, ◌≤◌, eqb, length, get_or}
use Rattle.record.specs.Limits.{max_processors, max_nodes, max_levels, max_number}
use Rattle.image.specs.Image.{start_of}
use Rattle.image.specs.Layout.{node_bytes}
use Rattle.image.specs.Puts.{four}

-- v at the first n levels from place j on
abbrev pub levels : ℕ → ℕ → ℕ → List (ℕ × ℕ)
levels j zero v = []
levels j (suc k) v = levels j k v ++ ((j + k, v) ∷ [])

-- the rest of a node that an Insert takes
abbrev pub unmarked : ℕ → List (ℕ × ℕ)
unmarked h = (16, h) ∷ (17, 0) ∷ (18, 0) ∷ four 19 0

abbrev pub used : ℕ → List (ℕ × ℕ)
used height = (35, height) ∷ (36, 1) ∷ four 37 0

abbrev pub fixed : ℕ → ℕ → ℕ → ℕ → ℕ → List (ℕ × ℕ)
fixed h t due item height =
    unmarked h ++ (four 23 due ++ (four 27 t ++ (four 31 item ++ used height)))

abbrev pub fills : ℕ → ℕ → ℕ → ℕ → ℕ → ℕ → ℕ → List (ℕ × ℕ)
fills l tail h t due item height = levels 0 l tail ++ (levels 8 l 0 ++ fixed h t due item height)

-- an idle processor that begins: its place's node is the head
abbrev pub begun : ℕ → ℕ → ℕ → ℕ → List (ℕ × ℕ)
begun t own tag level = four 0 t ++ ((4, own) ∷ (5, tag) ∷ (7, level) ∷ [])

-- where the nodes start, and how long the bytes are
pub record Based (b : List ℕ) (base : ℕ) : Type 0 where
  pub start : base ≡ start_of b
  pub long : length b ≡ base + node_bytes * (get_or b 1 0 + 2)
  pub processors_high : get_or b 0 0 ≤ max_processors
  pub nodes_high : get_or b 1 0 ≤ max_nodes
  pub levels_high : get_or b 2 0 ≤ max_levels

-- A use is read as one number, tag + 256 * time: 0 never used, 1 in use, and 2 + 256 * t where the
-- node was retired at t. In a record that passes none of these reaches `late`.
abbrev pub late : ℕ
late = 256 * (max_number + 1)

-- node x, or none for 0
abbrev pub found : ℕ → Option ℕ
found x = cond (eqb x 0) None (Some x)

-- so that a node in use comes after those that were retired
abbrev pub end_of : ℕ → ℕ
end_of used = cond (eqb used 1) late used
