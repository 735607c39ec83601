-- What a call in place leaves and answers is the call's. Assumes nothing.
use mathlib.Core.Path.{◌≡◌, sym, ◌∙◌, ap}
use mathlib.Core.List.{List}
use Prim.Native.Nat.{ℕ}
use Rattle.rules.specs.declared.answers.Answer.{Answer}
use Rattle.rules.specs.declared.answers.Outcome.{Outcome}
use Rattle.rules.specs.declared.calls.Call.{Call}
use Rattle.rules.specs.Calls.{called_valid, called}
use Rattle.rules.specs.Runs.{calls}
use Rattle.rules.proofs.Inner.{call_inner}
use Rattle.image.specs.Image.{queue_in, Sound}
use Rattle.image_parts.specs.Given.{Called}
use Rattle.image_parts.proofs.Sounds.{queue_after_lem, call_is}

module _ (b : List ℕ) (s : Sound b) (c : Call) (l : List ℕ) (r : Answer) (g : Called b c l r) where
  pub queue_called : queue_in l ≡ (called (queue_in b) c).queue
  queue_called =
      queue_after_lem b s (calls c) (called_valid (queue_in b) c) (call_is b s c) l r g.0
      ∙ call_is b s c

  pub answer_called : r ≡ (called (queue_in b) c).answer
  answer_called =
      g.0.answer
      ∙ ap (λ (o : Outcome). o.answer) (sym (call_inner (queue_in b) c s.passes))
