-- The bytes of sheets and histories, and the table of the sheet's letters (01, sheet and history).
-- A field that a letter does not use is 0. Of those that it uses the form bounds the count of steps
-- alone; every other number is the call's business.
use Rattle.std.specs.Prelude.{ℕ, List, [], ◌∷◌, Option, Some, None}
use Rattle.sheet_format.specs.declared.lines.FieldBounds.{FieldBounds}
use Rattle.sheet_format.specs.declared.lines.LetterRule.{LetterRule}

-- no letter: what stands where no line is printed
abbrev pub no_letter : ℕ
no_letter = 0

abbrev pub line_feed : ℕ
line_feed = 10

abbrev pub space : ℕ
space = 32

-- the digit 0
abbrev pub digit_zero : ℕ
digit_zero = 48

abbrev pub letter_a : ℕ
letter_a = 65

abbrev pub letter_d : ℕ
letter_d = 68

abbrev pub letter_e : ℕ
letter_e = 69

abbrev pub letter_i : ℕ
letter_i = 73

abbrev pub letter_l : ℕ
letter_l = 76

abbrev pub letter_m : ℕ
letter_m = 77

abbrev pub letter_n : ℕ
letter_n = 78

abbrev pub letter_q : ℕ
letter_q = 81

abbrev pub letter_r : ℕ
letter_r = 82

abbrev pub letter_s : ℕ
letter_s = 83

abbrev pub letter_t : ℕ
letter_t = 84

abbrev pub letter_u : ℕ
letter_u = 85

abbrev pub letter_x : ℕ
letter_x = 88

-- the largest number of seven columns
abbrev pub max_field : ℕ
max_field = 9999999

abbrev pub rule : ℕ → List (Option FieldBounds) → LetterRule
rule letter fields = record { letter = letter; fields = fields }

-- a field that a letter uses, with its bounds: of any number, or the count of steps
abbrev pub used : ℕ → ℕ → Option FieldBounds
used low high = Some (record { low = low; high = high })

abbrev pub any : Option FieldBounds
any = used 0 max_field

abbrev pub steps : Option FieldBounds
steps = used 1 999

-- the letters, each with the fields that it uses and their bounds
abbrev pub letter_rules : List LetterRule
letter_rules =
    rule letter_q (any ∷ any ∷ any ∷ None ∷ [])
    ∷ rule letter_i (any ∷ any ∷ any ∷ any ∷ [])
    ∷ rule letter_d (any ∷ None ∷ None ∷ None ∷ [])
    ∷ rule letter_l (any ∷ None ∷ None ∷ None ∷ [])
    ∷ rule letter_x (any ∷ any ∷ any ∷ None ∷ [])
    ∷ rule letter_s (any ∷ steps ∷ None ∷ None ∷ [])
    ∷ []
