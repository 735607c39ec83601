-- A call on a record that passes check 21, its inner form, and one that does not pass. Assumes
-- nothing.
use Rattle.std.specs.Prelude.{Some, None}
use mathlib.Core.Path.{◌≡◌, sym, ap, ◌∙◌}
use mathlib.Core.Bool.{Bool, true, false, cond}
use Prim.Native.Nat.{ℕ, ◌<◌}
use borrow.Author.Tests.{lt-leb}
use Rattle.record.specs.declared.refusals.Refusal.{Refusal}
use Rattle.record.specs.declared.refusals.Refusal.TheVariants as refusal
use Rattle.record.specs.declared.queues.Queue.{Queue}
use Rattle.record_check.specs.Check.{valid}
use Rattle.record.specs.Limits.{max_number}
use Rattle.record.specs.Queues.{processor_at}
use Rattle.record.specs.Stages.{is_idle}
use Rattle.rules.specs.declared.answers.Outcome.{Outcome}
use Rattle.rules.specs.declared.calls.Call.{Call}
use Rattle.rules.specs.declared.calls.Call.TheVariants as call
use Rattle.rules.specs.Answers.{refused}
use Rattle.rules.specs.Calls.{step_decision, decision_of, processor_of}
use Rattle.rules.specs.Calls.{refusal_of, outcome_by, called_valid, called}
use Rattle.rules.specs.Effects.{accepted}
use Rattle.rules.specs.Runs.{calls}
use Rattle.rules.proofs.Valid.{kept_valid}

module _ (q : Queue) (c : Call) where
  pub call_inner : valid q ≡ true → called q c ≡ called_valid q c
  call_inner v = ap (λ (b : Bool). cond b (called_valid q c) (refused q refusal.Invalid)) v

  pub call_refused : valid q ≡ false → called q c ≡ refused q refusal.Invalid
  call_refused v = ap (λ (b : Bool). cond b (called_valid q c) (refused q refusal.Invalid)) v

  pub call_accepted : refusal_of q c ≡ None → called_valid q c
      ≡ accepted q (processor_of c) (decision_of q c)
  call_accepted e = ap (outcome_by q c) e

  pub call_told : (r : Refusal) → refusal_of q c ≡ Some r → called_valid q c ≡ refused q r
  call_told r e = ap (outcome_by q c) e

  pub call_kept : (r : Outcome) → valid q ≡ true → r ≡ called_valid q c →
      (r ≡ called_valid q c) × (valid r.queue ≡ true)
  call_kept r v e = (
    e,
    ap (λ (o : Outcome). valid o.queue) (e ∙ sym (call_inner v)) ∙ kept_valid q (calls c) v,
  )

module _ (q : Queue) (p : ℕ) (ticks : q.clock < max_number) (here : p < q.processor_count) where
  pub step_accepted : is_idle (processor_at q p).stage ≡ false → called_valid q (call.Step p)
      ≡ accepted q p (step_decision q (processor_at q p))
  step_accepted b = simp (lt-leb _ _ ticks, lt-leb _ _ here, b)
