-- Numbers in seven columns: spaces, and behind them the digits of a number that does not start with
-- a 0, unless it is 0 (01, sheet and history). What columns are worth, and which keep the form, is
-- said without a word on how they are read (02, W4); specs/Digits has what is proved of both.
use Rattle.std.specs.Prelude.{ℕ, zero, suc, ◌+◌, ◌-◌, ◌*◌, ◌/◌, ◌%◌, ◌^◌, Bool, cond, ◌&&◌, ◌||◌, List, [], ◌∷◌, ◌++◌, ltb, leb, eqb, get_or}
use Rattle.laws.specs.Every.{every_below}
use Rattle.sheet_format.specs.Letters.{space, digit_zero, max_field}

abbrev pub width : ℕ
width = 7

abbrev pub is_space : ℕ → Bool
is_space c = eqb c space

abbrev pub is_digit : ℕ → Bool
is_digit c = leb digit_zero c && leb c (digit_zero + 9)

-- what a column is worth at the last place: a digit its number; a space, as any other byte, 0
abbrev pub digit_of : ℕ → ℕ
digit_of c = cond (is_digit c) (c - digit_zero) 0

-- of k columns the first j, each times the power of ten of its place
abbrev pub places_to : List ℕ → ℕ → ℕ → ℕ
places_to s k zero = 0
places_to s k (suc j) = places_to s k j + digit_of (get_or s j 0) * 10 ^ (k - suc j)

-- the value of the first k columns of s
abbrev pub columns_value : List ℕ → ℕ → ℕ
columns_value s k = places_to s k k

-- how many spaces there are before the first byte that is none
abbrev pub spaces_of : List ℕ → ℕ
spaces_of [] = 0
spaces_of (c ∷ cs) = cond (is_space c) (suc (spaces_of cs)) 0

-- the first k columns hold spaces alone
abbrev pub blank_to : List ℕ → ℕ → Bool
blank_to s k = every_below (λ j. is_space (get_or s j 0)) k

-- column k, from 0, behind those before it: behind spaces alone a space or a digit, and behind a
-- digit another one, unless the number is 0 so far
abbrev pub column_keeps : List ℕ → ℕ → Bool
column_keeps s k =
    cond (blank_to s k) (is_space (get_or s k 0) || is_digit (get_or s k 0))
    (is_digit (get_or s k 0) && ltb 0 (columns_value s k))

-- the first k columns keep the form
abbrev pub columns_keep : List ℕ → ℕ → Bool
columns_keep s k = every_below (column_keeps s) k

-- the seven columns that s starts with hold a number
abbrev pub in_form : List ℕ → Bool
in_form s = columns_keep s width && is_digit (get_or s (width - 1) 0)

-- what stands for columns that are out of form: no seven columns have this value
abbrev pub no_number : ℕ
no_number = max_field + 1

-- the value of the first k columns, if they keep the form
abbrev pub value_to : List ℕ → ℕ → ℕ
value_to s k = cond (columns_keep s k) (columns_value s k) no_number

-- the number of the seven columns that s starts with
abbrev pub number_of : List ℕ → ℕ
number_of s = cond (in_form s) (columns_value s width) no_number

-- the last digit of a number
abbrev pub last_digit : ℕ → ℕ
last_digit n = digit_zero + n % 10

-- a column before the last of a number: a digit of what is left of it, or a space
abbrev pub padded_digit : ℕ → ℕ
padded_digit n = cond (eqb n 0) space (last_digit n)

-- k columns that end in the digits of n, with spaces before; no digit where n is 0
abbrev pub padded : ℕ → ℕ → List ℕ
padded zero n = []
padded (suc k) n = padded k (n / 10) ++ (padded_digit n ∷ [])

-- the seven columns of a number
abbrev pub columns : ℕ → List ℕ
columns n = padded (width - 1) (n / 10) ++ (last_digit n ∷ [])

-- the columns of each of some numbers
abbrev pub all_columns : List ℕ → List ℕ
all_columns [] = []
all_columns (n ∷ ns) = columns n ++ all_columns ns

-- the same without the spaces
abbrev pub trimmed : List ℕ → List ℕ
trimmed [] = []
trimmed (c ∷ cs) = cond (eqb c space) (trimmed cs) (c ∷ cs)

abbrev pub decimal : ℕ → List ℕ
decimal n = trimmed (columns n)
