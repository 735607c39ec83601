-- Demand 3: the answers to every list of calls on a queue that is just made agree with the book. Meaning.antt proves what that means, LockFacts.antt
-- what is said of the locks. Assumes nothing.
use mathlib.Core.Path.{◌≡◌, refl}
use mathlib.Core.List.{List, [], ◌∷◌}
use Prim.Native.Nat.{ℕ}
use Rattle.record.specs.declared.queues.Queue.{Queue}
use Rattle.record.specs.Queues.{fresh_queue}
use Rattle.rules.specs.Book.{Book, empty_book, agrees, feed, judged}
use Rattle.rules.specs.Demand3.{InRange, Demand3, ReachedIsValid, OutsideIsUntouched}
use Rattle.rules.specs.declared.answers.Answer.{Answer}
use Rattle.rules.specs.declared.calls.Call.{Call}
use Rattle.rules.specs.declared.calls.Call.TheVariants as call
use Rattle.rules.specs.Calls.{called}
use Rattle.rules.specs.Runs.{Turn, calls, backlog, markers, answered, after, reply, after_all}
use Rattle.rules.proofs.Backlog.{backlog_agrees}
use Rattle.rules.proofs.Markers.{markers_agrees}
use Rattle.rules.proofs.Sound.{Sound, Agrees, insert_agrees, delete_agrees, relaxed_agrees}
use Rattle.rules.proofs.Sound.{remove_agrees, step_agrees}
use Rattle.rules.proofs.Fresh.{fresh_sound}
use Rattle.rules.proofs.Untouched.{untouched_all}
use Rattle.rules.proofs.Valid.{reached_valid}

-- a call: the book agrees, and what is kept is kept
pub record Turned (q : Queue) (b : Book) (c : Turn) : Type 0 where
  pub book : Book
  pub fed : feed b c (reply q c) ≡ agrees book
  pub sound : Sound (after q c) book

-- what agrees with the book of a call's outcome, of a turn
of_outcome :
    (q : Queue) (b : Book) (c : Call) → Agrees (λ (a : Answer). feed b (calls c) (answered a)) (called q c) →
    Turned q b (calls c)
of_outcome q b c A = record { book = A.book; fed = A.fed; sound = A.sound }

pub turned_by : (q : Queue) (b : Book) → Sound q b → (c : Turn) → Turned q b c
turned_by q b S (calls (call.Insert p due item height)) =
    of_outcome q b (call.Insert p due item height) (insert_agrees q b S p due item height)
turned_by q b S (calls (call.DeleteMin p)) = of_outcome q b (call.DeleteMin p) (delete_agrees q b S p)
turned_by q b S (calls (call.Relaxed p)) = of_outcome q b (call.Relaxed p) (relaxed_agrees q b S p)
turned_by q b S (calls (call.Remove p due ticket)) =
    of_outcome q b (call.Remove p due ticket) (remove_agrees q b S p due ticket)
turned_by q b S (calls (call.Step p)) = of_outcome q b (call.Step p) (step_agrees q b S p)
turned_by q b S backlog = record { book = b; fed = backlog_agrees q b S; sound = S }
turned_by q b S (markers area) = record { book = b; fed = markers_agrees q b S area; sound = S }

-- a list of calls from any record and book for which all of it holds
pub record Judged (q : Queue) (b : Book) (cs : List Turn) : Type 0 where
  pub book : Book
  pub judges : judged b q cs ≡ agrees book
  pub sound : Sound (after_all q cs) book

pub all_judged : (cs : List Turn) (q : Queue) (b : Book) → Sound q b → Judged q b cs
unfolding judged after_all
all_judged [] q b S = record { book = b; judges = refl; sound = S }
all_judged (c ∷ cs) q b S =
    let T = turned_by q b S c in
    let J = all_judged cs (after q c) T.book T.sound in
    record { book = J.book; judges = rw T.fed J.judges; sound = J.sound }

-- a list of calls on a queue that is just made
pub reached : (P N L : ℕ) → InRange P N L → (cs : List Turn) → Judged (fresh_queue P N L) empty_book cs
reached P N L R cs = all_judged cs (fresh_queue P N L) empty_book (fresh_sound P N L R.processors_high R.nodes_high R.levels_low R.levels_high)

pub demand_three : Demand3
demand_three P N L R cs = let J = reached P N L R cs in (J.book, J.judges)

pub reached_is_valid : ReachedIsValid
reached_is_valid P N L R cs = reached_valid P N L R.processors_low R.processors_high R.nodes_low R.nodes_high R.levels_low R.levels_high cs

pub outside_is_untouched : OutsideIsUntouched
outside_is_untouched q cs = untouched_all q cs
