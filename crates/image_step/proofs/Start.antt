-- The nodes start where they did after a call of any kind. Assumes nothing.
use mathlib.Core.Path.{◌≡◌, sym, ◌∙◌, ap}
use mathlib.Core.List.{List}
use Prim.Native.Nat.{ℕ}
use Rattle.record.specs.declared.queues.Queue.{Queue}
use Rattle.rules.specs.declared.answers.Answer.{Answer}
use Rattle.rules.specs.declared.calls.Call.{Call}
use Rattle.rules.specs.Calls.{called_valid}
use Rattle.rules.specs.Runs.{calls}
use Rattle.rules.proofs.Untouched.{untouched}
use Rattle.image.specs.Layout.{processor_start}
use Rattle.image.specs.Image.{queue_in, start_of, Sound}
use Rattle.image_parts.specs.Given.{Called}
use Rattle.image_parts.proofs.Sounds.{queue_after_lem, call_is}

pub start_after :
    (b : List ℕ) → Sound b → (c : Call) (l : List ℕ) (r : Answer) → Called b c l r →
    start_of b ≡ start_of l
unfolding queue_in
start_after b s c l r g =
    let is = call_is b s c in
    let u = queue_after_lem b s (calls c) (called_valid (queue_in b) c) is l r g.0 ∙ is in
    ap processor_start
    (sym (ap (λ (q : Queue). q.processor_count) u ∙ (untouched (queue_in b) (calls c)).processor_count))
