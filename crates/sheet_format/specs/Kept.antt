-- The numbers of a sheet's lines in a list, four for each line as far as there is room: the check
-- of the form keeps them, so that the run need not read a line again.
use Rattle.std.specs.Prelude.{ℕ, zero, suc, ◌+◌, ◌-◌, ◌*◌, ◌/◌, ◌<◌, ◌≡◌, cond, List, ltb, eqb, length, get_or, set}
use Rattle.sheet_format.specs.declared.lines.SheetLine.{SheetLine}
use Rattle.sheet_format.specs.Lines.{letter_of, sheet_fields, line, line_of, part_at, line_count}
use Rattle.sheet_format.specs.Lines.{first_out_of_form}

-- for how many lines there is room
abbrev pub room_for : List ℕ → ℕ
room_for kept = length kept / sheet_fields

-- the numbers of line k, from 0, stored in its places; and a line with those that are there
abbrev pub stored : List ℕ → ℕ → SheetLine → List ℕ
stored kept k l =
    set
    (set (set (set kept (sheet_fields * k) l.first) (sheet_fields * k + 1) l.second)
    (sheet_fields * k + 2) l.third)
    (sheet_fields * k + 3)
    l.fourth

abbrev pub stored_line : ℕ → List ℕ → ℕ → SheetLine
stored_line letter kept k =
    line letter (get_or kept (sheet_fields * k) 0) (get_or kept (sheet_fields * k + 1) 0)
    (get_or kept (sheet_fields * k + 2) 0)
    (get_or kept (sheet_fields * k + 3) 0)

-- with the numbers of line k, if there is room for them
abbrev pub with_line : List ℕ → ℕ → SheetLine → List ℕ
with_line kept k l = cond (ltb k (room_for kept)) (stored kept k l) kept

-- with those of the first n lines of a sheet
abbrev pub kept_to : List ℕ → List ℕ → ℕ → List ℕ
kept_to s kept zero = kept
kept_to s kept (suc n) = with_line (kept_to s kept n) n (line_of (part_at s (suc n)))

-- how many lines there are before the first that is out of form
abbrev pub lines_in_form : List ℕ → ℕ
lines_in_form s = cond (eqb (first_out_of_form s) 0) (line_count s) (first_out_of_form s - 1)

-- line k, which a part starts with: its numbers as they were kept, or read where they were not
abbrev pub kept_line : List ℕ → List ℕ → ℕ → SheetLine
kept_line s kept k = cond (ltb k (room_for kept)) (stored_line (letter_of s) kept k) (line_of s)

-- what is kept are the numbers of this sheet's lines
abbrev pub IsKept : List ℕ → List ℕ → Type 0
IsKept s kept =
    (k : ℕ) → k < line_count s → kept_line (part_at s (k + 1)) kept k ≡ line_of (part_at s (k + 1))
