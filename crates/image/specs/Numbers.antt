-- Numbers and arrays as bytes.
use Rattle.std.specs.Prelude.{ℕ, ◌+◌, ◌*◌, ◌/◌, ◌%◌, List, [], ◌∷◌, get_or}

-- a number below 2^32 as four bytes, the lowest first
abbrev pub bytes_of32 : ℕ → List ℕ
bytes_of32 v = v % 256 ∷ v / 256 % 256 ∷ v / 65536 % 256 ∷ v / 16777216 ∷ []

-- the number in the four bytes from place i on
abbrev pub number32 : List ℕ → ℕ → ℕ
number32 b i =
    get_or b i 0 + 256 * get_or b (i + 1) 0 + 65536 * get_or b (i + 2) 0 + 16777216 * get_or b (i + 3) 0

-- the eight numbers from place i on
abbrev pub eight : List ℕ → ℕ → List ℕ
eight b i =
    get_or b i 0
    ∷ get_or b (i + 1) 0
    ∷ get_or b (i + 2) 0
    ∷ get_or b (i + 3) 0
    ∷ get_or b (i + 4) 0
    ∷ get_or b (i + 5) 0
    ∷ get_or b (i + 6) 0
    ∷ get_or b (i + 7) 0
    ∷ []
