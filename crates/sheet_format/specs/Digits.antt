-- How a reader of columns keeps their value (02, W4), and what is proved of numbers in columns:
-- proofs/Digits and proofs/ReadBack prove it.
use Rattle.std.specs.Prelude.{ℕ, zero, suc, ◌+◌, ◌-◌, ◌*◌, ◌≤◌, ◌≡◌, true, cond, List, ◌++◌, length, get_or, take}
use Rattle.sheet_format.specs.Columns.{width, is_digit, digit_of, columns_value, columns_keep}
use Rattle.sheet_format.specs.Columns.{in_form, number_of, columns}
use Rattle.sheet_format.specs.Letters.{digit_zero, max_field}

-- a value with one digit more behind it
abbrev pub extended_by : ℕ → ℕ → ℕ
extended_by v c = v * 10 + (c - digit_zero)

-- what a reader has behind k columns of a number: they keep the form, and n is their value and not
-- 0
abbrev pub NumberSoFar : List ℕ → ℕ → ℕ → Type 0
NumberSoFar s k n = (n ≡ columns_value s k) × (1 ≤ n) × (columns_keep s k ≡ true)

-- one column more behind k columns, whatever they hold: ten times their value and the new digit
abbrev pub ColumnExtends : Type 0
ColumnExtends =
    (s : List ℕ) (k : ℕ) → columns_value s (k + 1) ≡ columns_value s k * 10 + digit_of (get_or s k 0)

-- the value that a reader keeps which starts with 0, extends it by each digit and does nothing more
abbrev pub kept_value : List ℕ → ℕ → ℕ
kept_value s zero = 0
kept_value s (suc k) =
    cond (is_digit (get_or s k 0)) (extended_by (kept_value s k) (get_or s k 0)) (kept_value s k)

-- 02, W4: at every column, if the columns so far keep the form, it is what they are worth
abbrev pub KeptIsValue : Type 0
KeptIsValue = (s : List ℕ) (k : ℕ) → columns_keep s k ≡ true → kept_value s k ≡ columns_value s k

-- a number that is written in seven columns is in form, and is read as this number
abbrev pub ColumnsReadBack : Type 0
ColumnsReadBack =
    (n : ℕ) (rest : List ℕ)
    → n ≤ max_field
    → (in_form (columns n ++ rest) ≡ true) × (number_of (columns n ++ rest) ≡ n)

-- and no other seven columns are in form
abbrev pub ColumnsWrittenBack : Type 0
ColumnsWrittenBack =
    (s : List ℕ) → width ≤ length s → in_form s ≡ true → take width s ≡ columns (number_of s)
