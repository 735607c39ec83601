-- Stores of single bytes: each at its place after a start.
use Rattle.std.specs.Prelude.{ℕ, zero, suc, ◌+◌, ◌/◌, ◌%◌, List, [], ◌∷◌, ◌++◌, get_or, set}

abbrev pub puts : List ℕ → ℕ → List (ℕ × ℕ) → List ℕ
puts b o [] = b
puts b o (e ∷ es) = puts (set b (o + e.0) e.1) o es

-- a number of four bytes from place j on
abbrev pub four : ℕ → ℕ → List (ℕ × ℕ)
four j v =
    (j, v % 256) ∷ (j + 1, v / 256 % 256) ∷ (j + 2, v / 65536 % 256) ∷ (j + 3, v / 16777216) ∷ []

-- from the list's start
abbrev pub puts_in : List ℕ → List (ℕ × ℕ) → List ℕ
puts_in b [] = b
puts_in b (e ∷ es) = puts_in (set b e.0 e.1) es

-- the bytes of a piece, by their places in it
abbrev pub piece : List ℕ → ℕ → ℕ → ℕ
piece b o j = get_or b (o + j) 0

-- zeros for the saved nodes of the first k levels of a processor
abbrev pub clears : ℕ → List (ℕ × ℕ)
clears zero = []
clears (suc k) = clears k ++ ((9 + k, 0) ∷ [])

-- zeros for its begin, its own node and its stage
abbrev pub rests : List (ℕ × ℕ)
rests = (0, 0) ∷ (1, 0) ∷ (2, 0) ∷ (3, 0) ∷ (4, 0) ∷ (5, 0) ∷ (6, 0) ∷ (7, 0) ∷ (8, 0) ∷ []

-- the key that a Remove carries; zeros where it carries none any more
abbrev pub wants : ℕ → ℕ → List (ℕ × ℕ)
wants due ticket = four 18 due ++ four 22 ticket
