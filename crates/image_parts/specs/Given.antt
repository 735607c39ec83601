-- What a call in place leaves and gives, on the bytes of a record that passes check 21.
use Rattle.std.specs.Prelude.{◌≡◌, List, Bool, false, cond, ℕ, leb, eqb, get_or, Option}
use Rattle.record.specs.declared.refusals.Refusal.{Refusal}
use Rattle.rules.specs.declared.answers.Answer.{Answer}
use Rattle.rules.specs.declared.answers.Outcome.{Outcome}
use Rattle.rules.specs.declared.calls.Call.{Call}
use Rattle.rules.specs.declared.calls.Call.TheVariants as call
use Rattle.rules.specs.Calls.{processor_of, refusal_by, idle_at, called_valid}
use Rattle.image.specs.Layout.{tag_in}
use Rattle.image.specs.Image.{image_of, queue_in, Sound}

-- the bytes and the answer after a call with this outcome
pub record Gives (o : Outcome) (after : List ℕ) (r : Answer) : Type 0 where
  pub bytes : after ≡ image_of o.queue
  pub answer : r ≡ o.answer

-- whether processor p is idle, by its bytes; it is not where there is none
abbrev pub idle_in : List ℕ → ℕ → Bool
idle_in b p = cond (leb (get_or b 0 0) p) false (eqb (tag_in b p) 0)

-- what a call on these bytes is refused with before a node is looked for, if it is
abbrev pub refusal_in : List ℕ → Call → Option Refusal
refusal_in b c =
    refusal_by c (queue_in b).clock (queue_in b).processor_count (queue_in b).level_count
    (idle_at (queue_in b) (processor_of c))

-- after a call: what it leaves passes again
abbrev pub Called : List ℕ → Call → List ℕ → Answer → Type 0
Called b c after r = Gives (called_valid (queue_in b) c) after r × Sound after

-- after a step of processor p
abbrev pub Stepped : List ℕ → ℕ → List ℕ → Answer → Type 0
Stepped b p after r = Gives (called_valid (queue_in b) (call.Step p)) after r
