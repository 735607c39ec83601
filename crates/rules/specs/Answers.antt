-- Answers (01, the steps): a refusal's number; the time of a begin; and what a step reports, with
-- what the entry holds where it reports of one, with the processor that it waits for (02, W1), or
-- with the key that is not there (02, W5).
-- Whatever is told of an answer, to hosts, in lists and in histories, goes by its report.
use Rattle.std.specs.Prelude.{ℕ, Bool, true, false, List, [], ◌∷◌, get_or}
use Rattle.record.specs.declared.queues.Queue.{Queue}
use Rattle.record.specs.declared.refusals.Refusal.{Refusal}
use Rattle.record.specs.Refusals.{refusal_number}
use Rattle.record.specs.Report.{Report, report}
use Rattle.rules.specs.declared.answers.Entry.{Entry}
use Rattle.rules.specs.declared.answers.Deed.{Deed}
use Rattle.rules.specs.declared.answers.Deed.TheVariants as deed
use Rattle.rules.specs.declared.answers.Answer.{Answer}
use Rattle.rules.specs.declared.answers.Answer.TheVariants as ans
use Rattle.rules.specs.declared.answers.PlainAnswer.{PlainAnswer}
use Rattle.rules.specs.declared.answers.Outcome.{Outcome}

abbrev pub entry_values : Entry → List ℕ
entry_values e = e.due ∷ e.item ∷ e.ticket ∷ []

abbrev pub deed_code : Deed → ℕ
deed_code deed.Marked = 4
deed_code deed.Inserted = 5
deed_code deed.HandedOut = 6
deed_code deed.TakenBack = 7

-- an answer in document 01's numbers: of a refusal its number; of the rest 0 for a begin, and 1 to
-- 6 in the order in which document 01 names a step's reports; 7 and 8 for a Remove's (02, W5)
abbrev pub reported : Answer → Report
reported (ans.Refused n) = report n []
reported (ans.Began t) = report 0 (t ∷ [])
reported ans.Moved = report 1 []
reported (ans.Waits h) = report 2 (h ∷ [])
reported ans.Empty = report 3 []
reported (ans.NotThere w) = report 8 (w.due ∷ w.ticket ∷ [])
reported (ans.Did d e) = report (deed_code d) (entry_values e)

abbrev pub plain_from : ℕ → ℕ → ℕ → ℕ → PlainAnswer
plain_from code first second third =
    record { code = code; first = first; second = second; third = third }

-- a report as four plain numbers: its number, its values, and 0 for a value that it has not
abbrev pub plain_report : Report → PlainAnswer
plain_report r =
    plain_from r.number (get_or r.values 0 0) (get_or r.values 1 0) (get_or r.values 2 0)

abbrev pub plain_of : Answer → PlainAnswer
plain_of a = plain_report (reported a)

-- a refused call leaves the record as it was, its clock too
abbrev pub refused : Queue → Refusal → Outcome
refused q r = record { queue = q; answer = ans.Refused (refusal_number r) }

abbrev pub is_refused : Answer → Bool
is_refused (ans.Refused n) = true
is_refused (ans.Began t) = false
is_refused ans.Moved = false
is_refused (ans.Waits h) = false
is_refused ans.Empty = false
is_refused (ans.NotThere w) = false
is_refused (ans.Did d e) = false

abbrev pub is_waits : Answer → Bool
is_waits (ans.Refused n) = false
is_waits (ans.Began t) = false
is_waits ans.Moved = false
is_waits (ans.Waits h) = true
is_waits ans.Empty = false
is_waits (ans.NotThere w) = false
is_waits (ans.Did d e) = false
