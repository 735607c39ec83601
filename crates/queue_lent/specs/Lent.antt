-- Calls on a lent record, and making a queue in one. A refused call's outcome has the record as it
-- came (01, refusals).
use Rattle.std.specs.Prelude.{◌≡◌, Result, Ok, Err}
use Rattle.record.specs.declared.queues.Queue.{Queue}
use Rattle.record.specs.declared.refusals.Refusal.{Refusal}
use Rattle.rules.specs.declared.answers.Answer.{Answer}
use Rattle.rules.specs.declared.answers.Outcome.{Outcome}
use Rattle.rules.specs.Answers.{reported}

-- the lent record q after a call, and its answer a, are those of the outcome o
pub record Gave (o : Outcome) (q : Queue) (a : Answer) : Type 0 where
  pub queue : q ≡ o.queue
  pub answer : a ≡ o.answer
  pub numbers : reported a ≡ reported o.answer

-- the record after making in the lent record q, by what the making gives
abbrev pub remade : Queue → Result Queue Refusal → Queue
remade q (Ok m) = m
remade q (Err r) = q

-- and what is told of it
abbrev pub told : Result Queue Refusal → Result Unit Refusal
told (Ok m) = Ok tt
told (Err r) = Err r
