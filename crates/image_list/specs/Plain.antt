-- Calls and answers as plain numbers, five for each: of a call its kind, processor, due, item and
-- height; of an answer its number, three values and the clock after the call. Kind 1 begins an
-- Insert, kind 2 a Delete_Min, kind 4 a Relaxed one, kind 5 a Remove, whose ticket stands in the
-- place of the item; 3 and every other kind is a step.
use Rattle.std.specs.Prelude.{ℕ, zero, suc, ◌+◌, ◌*◌, ◌/◌, cond, List, [], ◌∷◌, ◌++◌, eqb, length, get_or, set, min}
use Rattle.record.specs.declared.queues.Queue.{Queue}
use Rattle.rules.specs.declared.answers.PlainAnswer.{PlainAnswer}
use Rattle.rules.specs.Answers.{plain_of}
use Rattle.rules.specs.declared.calls.Call.{Call}
use Rattle.rules.specs.declared.calls.Call.TheVariants as call
use Rattle.rules.specs.Calls.{called}
use Rattle.rules.specs.Runs.{Turn, calls}

-- a call by its kind, processor, due, item and height
abbrev pub by_kind : ℕ → ℕ → ℕ → ℕ → ℕ → Call
by_kind kind p due item height =
    cond (eqb kind 1) (call.Insert p due item height)
    (cond (eqb kind 2) (call.DeleteMin p)
    (cond (eqb kind 4) (call.Relaxed p)
    (cond (eqb kind 5) (call.Remove p due item) (call.Step p))))

-- the call whose numbers begin at this place of the list
abbrev pub call_from : List ℕ → ℕ → Call
call_from l i =
    by_kind (get_or l i 0) (get_or l (i + 1) 0) (get_or l (i + 2) 0) (get_or l (i + 3) 0) (get_or l (i + 4) 0)

-- call number k, from 0
abbrev pub call_at : List ℕ → ℕ → Call
call_at l k = call_from l (k * 5)

-- the first k calls
unfoldable pub calls_to : List ℕ → ℕ → List Turn
calls_to l zero = []
calls_to l (suc k) = calls_to l k ++ (calls (call_at l k) ∷ [])

-- the record after the first k calls
unfoldable pub record_to : Queue → List ℕ → ℕ → Queue
record_to q l zero = q
record_to q l (suc k) = (called (record_to q l k) (call_at l k)).queue

-- an answer's five numbers, written from this place on
abbrev pub put : List ℕ → ℕ → PlainAnswer → ℕ → List ℕ
put l i r clock =
    set (set (set (set (set l i r.code) (i + 1) r.first) (i + 2) r.second) (i + 3)
    r.third) (i + 4) clock

-- the list of answers, a at first, after the first k calls on the record q: answer k stands in the
-- numbers 5k to 5k + 4
unfoldable pub written_to : Queue → List ℕ → List ℕ → ℕ → List ℕ
written_to q l a zero = a
written_to q l a (suc k) =
    put (written_to q l a k) (k * 5) (plain_of (called (record_to q l k) (call_at l k)).answer)
    (record_to q l (suc k)).clock

-- how many calls are run: those that both lists have five numbers for
abbrev pub turns : List ℕ → List ℕ → ℕ
turns l a = min (length l / 5) (length a / 5)
