-- What a step is told that asks for a lock (02, W1), on any record. Everything here is a statement;
-- proofs/Waits.antt proves each of them. Demand3 has what holds of reached records besides.
use Rattle.std.specs.Prelude.{ℕ, suc, ◌<◌, ◌≡◌, true, Option, Some, None}
use Rattle.record.specs.declared.queues.Queue.{Queue}
use Rattle.record.specs.Limits.{max_number}
use Rattle.record.specs.Queues.{processor_at}
use Rattle.record_check.specs.Check.{valid}
use Rattle.rules.specs.declared.answers.Answer.{Answer}
use Rattle.rules.specs.declared.answers.Answer.TheVariants as ans
use Rattle.rules.specs.Decide.{attempt}
use Rattle.rules.specs.Locks.{Lock, holder_of, Asks}
use Rattle.rules.specs.Runs.{step_by, answered, reply}

-- h holds the lock that the next step of p asks for
pub record Holder (q : Queue) (p h : ℕ) : Type 0 where
  pub lock : Lock
  pub asks : Asks (processor_at q p) lock
  pub holds : holder_of q lock ≡ suc h

-- a step that waits names the holder of its lock, as the record before the call has it
abbrev pub WaitsForTheHolder : Type 0
WaitsForTheHolder =
    (q : Queue) (p h : ℕ) → reply q (step_by p) ≡ answered (ans.Waits h) → Holder q p h

-- a step of p is not refused, as far as that does not go by the stage
pub record MayStep (q : Queue) (p : ℕ) : Type 0 where
  pub passes : valid q ≡ true
  pub ticks : q.clock < max_number
  pub here : p < q.processor_count

-- what a step answers by its attempt
abbrev pub answer_by : Option ℕ → Answer
answer_by None = ans.Moved
answer_by (Some h) = ans.Waits h

-- and whoever asks for a lock is told what the attempt gives: it waits while the lock is held, for
-- the holder, and moves on if the lock is free
abbrev pub WhoAsksIsTold : Type 0
WhoAsksIsTold =
    (q : Queue) (p : ℕ) (l : Lock) → MayStep q p → Asks (processor_at q p) l →
    reply q (step_by p) ≡ answered (answer_by (attempt (holder_of q l)))
