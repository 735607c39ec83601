-- What the program prints (01, sheet and history): the history or, in one line, the number of the
-- refusal and the line that it is for. It looks at 64 KiB of its input and has as many for the
-- history.
use Rattle.std.specs.Prelude.{ℕ, List, [], ◌∷◌, ◌++◌, Result, Ok, Err, take}
use Rattle.record.specs.Refusals.{refusal_number}
use Rattle.sheet_format.specs.declared.events.SheetRefusal.{SheetRefusal}
use Rattle.sheet_format.specs.Columns.{decimal}
use Rattle.sheet_format.specs.Letters.{space, line_feed}
use Rattle.sheet_format.specs.Lines.{line_of, part_at}
use Rattle.sheet_format.specs.Sheets.{ran_sheet, history_of}

abbrev pub lent : ℕ
lent = 65536

-- a refusal's line of text
abbrev pub refusal_text : ℕ → ℕ → List ℕ
refusal_text n k = decimal n ++ (space ∷ (decimal k ++ (line_feed ∷ [])))

abbrev pub printed_of : List ℕ → Result ℕ SheetRefusal → List ℕ
printed_of h (Err e) = refusal_text (refusal_number e.refusal) e.line
printed_of h (Ok n) = h

abbrev pub text_of : List ℕ → List ℕ
text_of s = printed_of (history_of s (line_of (part_at s 1))) (ran_sheet s lent)

-- the whole of the input may be longer
abbrev pub program_prints : List ℕ → List ℕ
program_prints input = text_of (take lent input)
