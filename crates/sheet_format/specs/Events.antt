-- The history (01, sheet and history): a line for each begin, each refusal and each answer that is
-- no move and no wait. Its five numbers are the time, the processor and three more: what an entry
-- holds for A, M, T and U; an Insert's due, item and height for I; a Remove's due and ticket, and
-- 0, for X and N; 0 for D, L and E; the number of the refusal for R, at the clock as it stands.
use Rattle.std.specs.Prelude.{ℕ, ◌+◌, Bool, cond, List, [], ◌∷◌, ◌++◌, leb, eqb, length, get_or}
use Rattle.std.proofs.lemmas.List.Edits.{sets}
use Rattle.record.specs.Report.{Report}
use Rattle.rules.specs.declared.answers.Answer.{Answer}
use Rattle.rules.specs.declared.calls.Call.{Call}
use Rattle.rules.specs.declared.calls.Call.TheVariants as call
use Rattle.rules.specs.Answers.{reported}
use Rattle.rules.specs.Calls.{processor_of}
use Rattle.sheet_format.specs.declared.events.HistoryLine.{HistoryLine}
use Rattle.sheet_format.specs.Letters.{no_letter, letter_a, letter_d, letter_e, letter_i, letter_l}
use Rattle.sheet_format.specs.Letters.{letter_m, letter_n, letter_r, letter_s, letter_t, letter_u}
use Rattle.sheet_format.specs.Letters.{letter_x}
use Rattle.sheet_format.specs.Lines.{line_length_for, line_bytes}

-- ---- what a call prints

-- the letter of a sheet's line that makes a call
abbrev pub call_letter : Call → ℕ
call_letter (call.Insert p due item height) = letter_i
call_letter (call.DeleteMin p) = letter_d
call_letter (call.Relaxed p) = letter_l
call_letter (call.Remove p due ticket) = letter_x
call_letter (call.Step p) = letter_s

-- the numbers of a call behind its processor
abbrev pub call_values : Call → List ℕ
call_values (call.Insert p due item height) = due ∷ item ∷ height ∷ []
call_values (call.DeleteMin p) = []
call_values (call.Relaxed p) = []
call_values (call.Remove p due ticket) = due ∷ ticket ∷ []
call_values (call.Step p) = []

-- the letter in the history, by the answer's number: a begin's own, none for a move and a wait; a
-- number that is not here is a refusal's
abbrev pub letter_for : Call → ℕ → ℕ
letter_for c n =
    get_or
    (call_letter c ∷ no_letter ∷ no_letter ∷ letter_e ∷ letter_m ∷ letter_a ∷ letter_t ∷ letter_u ∷ letter_n
    ∷ []) n letter_r

-- the numbers behind the processor: of a begin its own, of a refusal its number, else the answer's
abbrev pub values_for : Call → Report → List ℕ
values_for c r =
    cond (eqb r.number 0) (call_values c)
    (cond (eqb (letter_for c r.number) letter_r) (r.number ∷ []) r.values)

abbrev pub event : ℕ → ℕ → ℕ → ℕ → ℕ → ℕ → HistoryLine
event letter time p x y z =
    record { letter = letter; time = time; processor = p; first = x; second = y; third = z }

-- the line of a call with this report, with 0 for a number that is not there
abbrev pub event_for : Call → ℕ → Report → HistoryLine
event_for c time r =
    event (letter_for c r.number) time (processor_of c) (get_or (values_for c r) 0 0)
    (get_or (values_for c r) 1 0)
    (get_or (values_for c r) 2 0)

-- a call with this answer prints nothing
abbrev pub is_silent : Call → Answer → Bool
is_silent c a = eqb (letter_for c (reported a).number) no_letter

-- what it prints
abbrev pub call_events : Call → ℕ → Answer → List HistoryLine
call_events c time a = cond (is_silent c a) [] (event_for c time (reported a) ∷ [])

-- ---- its bytes

abbrev pub history_fields : ℕ
history_fields = 5

abbrev pub event_length : ℕ
event_length = line_length_for history_fields

abbrev pub event_bytes : HistoryLine → List ℕ
event_bytes e =
    line_bytes e.letter
    (e.time ∷ e.processor ∷ e.first ∷ e.second ∷ e.third ∷ [])

abbrev pub history_bytes : List HistoryLine → List ℕ
history_bytes [] = []
history_bytes (e ∷ es) = event_bytes e ++ history_bytes es

-- whether an area has room for a line of the history at this place
abbrev pub room_at : List ℕ → ℕ → Bool
room_at area at = leb (at + event_length) (length area)

-- the area with an event's line at this place, if it is to be written and there is room for it
abbrev pub with_event : List ℕ → ℕ → HistoryLine → Bool → List ℕ
with_event area at e writing =
    cond (room_at area at) (cond writing (sets area at (event_bytes e)) area) area
