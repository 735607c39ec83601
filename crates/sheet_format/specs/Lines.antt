-- A line has its letter, some fields of seven columns, and a line feed; a sheet's has four fields
-- and is thirty bytes long (01, sheet and history).
use Rattle.std.specs.Prelude.{ℕ, zero, suc, ◌+◌, ◌-◌, ◌*◌, ◌/◌, Bool, cond, ◌&&◌, not, List, [], ◌∷◌, ◌++◌, Option, Some, None, leb, eqb, length, get_or, drop}
use Rattle.laws.specs.Every.{every_below}
use Rattle.record.specs.Report.{Report, report}
use Rattle.sheet_format.specs.declared.lines.SheetLine.{SheetLine}
use Rattle.sheet_format.specs.declared.lines.FieldBounds.{FieldBounds}
use Rattle.sheet_format.specs.declared.lines.LetterRule.{LetterRule}
use Rattle.sheet_format.specs.Columns.{width, in_form, number_of, all_columns}
use Rattle.sheet_format.specs.Letters.{line_feed, letter_q, letter_rules}

-- ---- lines of any number of fields

abbrev pub line_length_for : ℕ → ℕ
line_length_for fields = 2 + width * fields

-- the bytes of a line with this letter and these numbers
abbrev pub line_bytes : ℕ → List ℕ → List ℕ
line_bytes letter numbers = letter ∷ (all_columns numbers ++ (line_feed ∷ []))

-- a rule that no line keeps: what the table has past its end
abbrev pub no_rule : LetterRule
no_rule = record { letter = 0; fields = [] }

-- the place of a letter in the table; past its end if the letter is none of the sheet's
abbrev pub rule_index : List LetterRule → ℕ → ℕ
rule_index [] c = 0
rule_index (r ∷ rs) c = cond (eqb r.letter c) 0 (suc (rule_index rs c))

abbrev pub letter_of : List ℕ → ℕ
letter_of s = get_or s 0 0

-- the part of a line that starts at its field k, from 0
abbrev pub field_part : List ℕ → ℕ → List ℕ
field_part s k = drop (1 + width * k) s

-- the number of field k of the line that s starts with
abbrev pub field_at : List ℕ → ℕ → ℕ
field_at s k = number_of (field_part s k)

-- n lies between a field's bounds or, where the field is not used, is 0
abbrev pub within_bounds : Option FieldBounds → ℕ → Bool
within_bounds None n = eqb n 0
within_bounds (Some b) n = leb b.low n && leb n b.high

-- the same of the letter's field k
abbrev pub within_rule : LetterRule → ℕ → ℕ → Bool
within_rule r k n = within_bounds (get_or r.fields k None) n

-- field k is in form, and its number in bounds
abbrev pub field_keeps : LetterRule → List ℕ → ℕ → Bool
field_keeps r s k = in_form (field_part s k) && within_rule r k (field_at s k)

-- all fields of the letter keep its rule
abbrev pub fields_keep : LetterRule → List ℕ → Bool
fields_keep r s = every_below (field_keeps r s) (length r.fields)

-- the same of fields that have these numbers
abbrev pub numbers_keep : LetterRule → List ℕ → Bool
numbers_keep r numbers = every_below (λ k. within_rule r k (get_or numbers k 0)) (length r.fields)

-- a line with so many fields, by the rule at this place of a table
abbrev pub keeps_form : List LetterRule → ℕ → List ℕ → ℕ → Bool
keeps_form rules fields s index =
    leb (line_length_for fields) (length s)
    && leb (suc index) (length rules)
    && fields_keep (get_or rules index no_rule) s
    && eqb (get_or s (line_length_for fields - 1) 0) line_feed

-- the line that s starts with is in form, by a table of letters and with so many fields
abbrev pub form_in : List LetterRule → ℕ → List ℕ → Bool
form_in rules fields s = keeps_form rules fields s (rule_index rules (letter_of s))

-- the numbers of the first n fields
abbrev pub field_numbers : List ℕ → ℕ → List ℕ
field_numbers s zero = []
field_numbers s (suc n) = field_numbers s n ++ (field_at s n ∷ [])

-- ---- a line of a sheet

abbrev pub sheet_fields : ℕ
sheet_fields = 4

abbrev pub line_length : ℕ
line_length = line_length_for sheet_fields

abbrev pub line_in_form : List ℕ → Bool
line_in_form s = form_in letter_rules sheet_fields s

abbrev pub line : ℕ → ℕ → ℕ → ℕ → ℕ → SheetLine
line letter a b c d =
    record { letter = letter; first = a; second = b; third = c; fourth = d }

-- the line that s starts with; of a short one, which is out of form, only its letter is read
abbrev pub line_of : List ℕ → SheetLine
line_of s =
    cond (leb line_length (length s))
    (line (letter_of s) (field_at s 0) (field_at s 1) (field_at s 2) (field_at s 3))
    (line (letter_of s) 0 0 0 0)

abbrev pub read_line : List ℕ → Option SheetLine
read_line s = cond (line_in_form s) (Some (line_of s)) None

-- the letter and the numbers of the line that s starts with
abbrev pub line_numbers : List ℕ → List ℕ
line_numbers s = letter_of s ∷ field_numbers s sheet_fields

-- what a reader of a line reports: 0 with the numbers read or, out of form, 41 (01, refusals)
abbrev pub form_report : Bool → List ℕ → Report
form_report form values = cond form (report 0 values) (report 41 [])

-- a reading in document 01's numbers: 0 with its letter and its four numbers, or refusal 41
abbrev pub reported_reading : Option SheetLine → Report
reported_reading None = report 41 []
reported_reading (Some l) =
    report 0 (l.letter ∷ l.first ∷ l.second ∷ l.third ∷ l.fourth ∷ [])

-- ---- all lines of a sheet

-- the part of the sheet that starts at its line k, from 1
abbrev pub part_at : List ℕ → ℕ → List ℕ
part_at s k = drop (line_length * (k - 1)) s

-- how many lines there are, a short last one included
abbrev pub line_count : List ℕ → ℕ
line_count s = (length s + (line_length - 1)) / line_length

-- of the lines 1 to n the first for which the test fails, or 0
abbrev pub first_failing : (ℕ → Bool) → ℕ → ℕ
first_failing keeps zero = 0
first_failing keeps (suc n) =
    cond (leb 1 (first_failing keeps n)) (first_failing keeps n) (cond (keeps (suc n)) 0 (suc n))

-- a line by its number, or none for 0
abbrev pub some_line : ℕ → Option ℕ
some_line n = cond (eqb n 0) None (Some n)

-- what 41 tells: the first line that is out of form, a last one that is cut off among them
abbrev pub first_out_of_form : List ℕ → ℕ
first_out_of_form s = first_failing (λ k. line_in_form (part_at s k)) (line_count s)

-- whether a letter may stand in line k: a Q in the first, and nowhere else
abbrev pub right_for : ℕ → ℕ → Bool
right_for letter k = cond (eqb k 1) (eqb letter letter_q) (not (eqb letter letter_q))

abbrev pub right_letter : List ℕ → ℕ → Bool
right_letter s k = right_for (letter_of (part_at s k)) k

-- what 42 tells: the first line if it is no Q line, else the first further one; 1 of no lines
abbrev pub first_misplaced : List ℕ → ℕ
first_misplaced s = cond (eqb (line_count s) 0) 1 (first_failing (right_letter s) (line_count s))
