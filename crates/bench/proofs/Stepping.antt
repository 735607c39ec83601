-- One step more, and all of them. Assumes nothing.
use mathlib.Core.Path.{◌≡◌, refl, sym, ap, ◌∙◌}
use mathlib.Core.Bool.{true, false}
use mathlib.Core.List.{List}
use Prim.Native.Nat.{ℕ, ◌+◌}
use native.Mathlib.Numerals.{add-one}
use lib.ListN.{length, get_or}
use Rattle.record.specs.declared.queues.Queue.{Queue}
use Rattle.rules.specs.declared.answers.Answer.{Answer}
use Rattle.rules.specs.declared.calls.Call.TheVariants as call
use Rattle.rules.specs.Calls.{called_valid}
use Rattle.rules.specs.Runs.{step_by}
use Rattle.image.specs.Image.{image_of, queue_in, passes_of, Sound}
use Rattle.image_parts.specs.Given.{Stepped}
use Rattle.image_parts.proofs.Sounds.{queue_after_lem, call_is}
use Rattle.bench.specs.Turns.{stepped_to, ready_code, bytes_stepped}

pub none_stepped : (q : Queue) (l : List ℕ) → q ≡ stepped_to q l 0
unfolding stepped_to
none_stepped q l = refl

step_more : (q : Queue) (l : List ℕ) (i : ℕ) → stepped_to q l (i + 1)
    ≡ (called_valid (stepped_to q l i) (call.Step (get_or l i 0))).queue
unfolding stepped_to
step_more q l i = ap (stepped_to q l) (add-one i)

pub one_stepped :
    (q : Queue) (l : List ℕ) (i : ℕ) (b c : List ℕ) (r : Answer) → Sound b →
    queue_in b ≡ stepped_to q l i → Stepped b (get_or l i 0) c r → queue_in c ≡ stepped_to q l (i + 1)
one_stepped q l i b c r s h g =
    let p = get_or l i 0 in
    queue_after_lem b s (step_by p) (called_valid (queue_in b) (call.Step p)) (call_is b s (call.Step p)) c r g
    ∙ ap (λ (u : Queue). (called_valid u (call.Step p)).queue) h
    ∙ sym (step_more q l i)

pub all_stepped :
    (q : Queue) (l : List ℕ) (n : ℕ) (b : List ℕ) → Sound b → queue_in b ≡ stepped_to q l n →
    n ≡ length l → b ≡ image_of (stepped_to q l (length l))
all_stepped q l n b s h e = sym s.image ∙ ap image_of (h ∙ ap (stepped_to q l) e)

module _ (b l : List ℕ) where
  pub not_ready : passes_of b ≡ false → (21 ≡ ready_code b) × (b ≡ bytes_stepped b l)
  unfolding ready_code bytes_stepped
  not_ready h = (rw h refl, rw h refl)

  pub was_ready :
      (c : List ℕ) → passes_of b ≡ true → c ≡ image_of (stepped_to (queue_in b) l (length l)) →
      (0 ≡ ready_code b) × (c ≡ bytes_stepped b l)
  unfolding ready_code bytes_stepped
  was_ready c h e = (rw h refl, e ∙ rw h refl)
