-- Lists of calls (01, the book), each on the record that the one before it left. Backlog and markers
-- (02, W6), which only read, may be any of them.
use Rattle.std.specs.Prelude.{ℕ, List, [], ◌∷◌, length, Result}
use Rattle.record.specs.declared.refusals.Refusal.{Refusal}
use Rattle.record.specs.declared.queues.Queue.{Queue}
use Rattle.record_check.specs.Backlog.{backlog_of}
use Rattle.record_markers.specs.Markers.{markers_of, area_after}
use Rattle.rules.specs.declared.answers.Answer.{Answer}
use Rattle.rules.specs.declared.calls.Call.{Call}
use Rattle.rules.specs.declared.calls.Call.TheVariants as call
use Rattle.rules.specs.Calls.{called}

-- one turn of a list: a call, Backlog, or markers with this area lent
pub data Turn : Type 0 where
  calls : Call → Turn
  backlog : Turn
  markers : List ℕ → Turn

abbrev pub insert : ℕ → ℕ → ℕ → ℕ → Turn
insert p due item height = calls (call.Insert p due item height)

abbrev pub delete_min : ℕ → Turn
delete_min p = calls (call.DeleteMin p)

abbrev pub relaxed : ℕ → Turn
relaxed p = calls (call.Relaxed p)

abbrev pub remove : ℕ → ℕ → ℕ → Turn
remove p due ticket = calls (call.Remove p due ticket)

abbrev pub step_by : ℕ → Turn
step_by p = calls (call.Step p)

-- what a call gives back: an answer, Backlog's count, or what markers answers and the area then
pub data Reply : Type 0 where
  answered : Answer → Reply
  counted : Result ℕ Refusal → Reply
  listed : Result ℕ Refusal → List ℕ → Reply

-- the record after a turn
abbrev pub after : Queue → Turn → Queue
after q (calls c) = (called q c).queue
after q backlog = q
after q (markers area) = q

-- what it gives back
abbrev pub reply : Queue → Turn → Reply
reply q (calls c) = answered (called q c).answer
reply q backlog = counted (backlog_of q)
reply q (markers area) = listed (markers_of q (length area)) (area_after q area)

-- the record after a list of calls
unfoldable pub after_all : Queue → List Turn → Queue
after_all q [] = q
after_all q (c ∷ cs) = after_all (after q c) cs
