-- The run of a sheet: refusals 41, 42, 11 to 13 and 43 in their order, the history, its length, and
-- the area that is lent for it (01, refusals; sheet and history).
use Rattle.std.specs.Prelude.{ℕ, cond, List, [], ◌∷◌, ◌++◌, Result, Ok, Err, ltb, length, drop}
use Rattle.record.specs.declared.queues.Queue.{Queue}
use Rattle.record.specs.declared.refusals.Refusal.{Refusal}
use Rattle.record.specs.declared.refusals.Refusal.TheVariants as refusal
use Rattle.record.specs.Queues.{fresh_queue}
use Rattle.record.specs.Refusals.{refusal_number}
use Rattle.record.specs.Report.{Report, report}
use Rattle.record_check.specs.Making.{made}
use Rattle.sheet_format.specs.declared.events.SheetRefusal.{SheetRefusal}
use Rattle.sheet_format.specs.declared.lines.SheetLine.{SheetLine}
use Rattle.sheet_format.specs.Calls.{all_calls, calls_print}
use Rattle.sheet_format.specs.Events.{history_bytes}
use Rattle.sheet_format.specs.Lines.{line_of, part_at, first_out_of_form, first_misplaced}

-- the history of a sheet whose lines are in form and in place, on the queue that its Q line makes
abbrev pub history : List ℕ → Queue → List ℕ
history s q = history_bytes (calls_print q (all_calls s q))

-- 43, told for line 0: the area is too short for the history
abbrev pub fitted_outcome : List ℕ → ℕ → Report
fitted_outcome h room = cond (ltb room (length h)) (report 43 (0 ∷ [])) (report 0 (length h ∷ []))

-- 11 to 13, told for line 1: no queue is made
abbrev pub made_outcome : List ℕ → ℕ → Result Queue Refusal → Report
made_outcome s room (Ok q) = fitted_outcome (history s q) room
made_outcome s room (Err r) = report (refusal_number r) (1 ∷ [])

-- what a Q line makes, or is refused with
abbrev pub made_by : SheetLine → Result Queue Refusal
made_by l = made l.first l.second l.third

-- the queue that is made; the smallest stands for one that is not
abbrev pub queue_made : Result Queue Refusal → Queue
queue_made (Ok q) = q
queue_made (Err r) = fresh_queue 1 1 1

-- and the history on it
abbrev pub history_of : List ℕ → SheetLine → List ℕ
history_of s l = history s (queue_made (made_by l))

abbrev pub queue_outcome : List ℕ → ℕ → SheetLine → Report
queue_outcome s room l = made_outcome s room (made_by l)

-- the outcome of a sheet, with room for so many bytes of history, in numbers: a refusal and its
-- line, or 0 and the length of the history (01, refusals; sheet and history)
abbrev pub outcome : List ℕ → ℕ → Report
outcome s room =
    cond (ltb 0 (first_out_of_form s)) (report 41 (first_out_of_form s ∷ []))
    (cond (ltb 0 (first_misplaced s)) (report 42 (first_misplaced s ∷ []))
    (queue_outcome s room (line_of (part_at s 1))))

-- the same as the code answers with it: the length, or the refusal with its line
abbrev pub refused_at : Refusal → ℕ → SheetRefusal
refused_at why line = record { refusal = why; line = line }

abbrev pub fitted : List ℕ → ℕ → Result ℕ SheetRefusal
fitted h room = cond (ltb room (length h)) (Err (refused_at refusal.Room 0)) (Ok (length h))

abbrev pub ran_made : List ℕ → ℕ → Result Queue Refusal → Result ℕ SheetRefusal
ran_made s room (Ok q) = fitted (history s q) room
ran_made s room (Err r) = Err (refused_at r 1)

abbrev pub ran_sheet : List ℕ → ℕ → Result ℕ SheetRefusal
ran_sheet s room =
    cond (ltb 0 (first_out_of_form s)) (Err (refused_at refusal.Form (first_out_of_form s)))
    (cond (ltb 0 (first_misplaced s)) (Err (refused_at refusal.Misplaced (first_misplaced s)))
    (ran_made s room (made_by (line_of (part_at s 1)))))

-- each case of it in numbers
abbrev pub reported_run : Result ℕ SheetRefusal → Report
reported_run (Err e) = report (refusal_number e.refusal) (e.line ∷ [])
reported_run (Ok n) = report 0 (n ∷ [])

-- the area as it was or, after a run that is not refused, with the history at its front
abbrev pub area_written : List ℕ → List ℕ → Result ℕ SheetRefusal → List ℕ
area_written h area (Err e) = area
area_written h area (Ok n) = h ++ drop n area

-- the area afterwards
abbrev pub area_after : List ℕ → List ℕ → List ℕ
area_after s area = area_written (history_of s (line_of (part_at s 1))) area (ran_sheet s (length area))
