-- Whether a processor is idle, by its bytes; and what a call is refused with. Assumes nothing.
use Rattle.std.specs.Prelude.{Some, None}
use mathlib.Core.Path.{◌≡◌, refl, sym, ◌∙◌, ap}
use mathlib.Core.Bool.{Bool, true, false, cond}
use mathlib.Core.List.{List}
use Prim.Native.Nat.{ℕ, ◌+◌, ◌*◌, ◌≤◌, ◌<◌}
use native.Mathlib.Omega.{arith}
use native.Mathlib.Decide.{dec_lt}
use lib.Dec.{eqb, leb}
use lib.ListN.{get_or}
use borrow.Author.Tests.{le-leb, lt-leb, eqb-true, eqb-false}
use Rattle.record.specs.declared.queues.Processor.{Processor}
use Rattle.record.specs.declared.refusals.Refusal.TheVariants as refusal
use Rattle.record.specs.declared.stages.Stage.TheVariants as stage
use Rattle.record.specs.Queues.{processor_at}
use Rattle.record.specs.Stages.{is_idle, wanted_of}
use Rattle.image.specs.Image.{queue_in, Sound}
use Rattle.image.specs.Numbers.{number32}
use Rattle.image.specs.Tags.{Code, insert_of, delete_of, relaxed_of, remove_of, removal_of, job_of}
use Rattle.image.specs.Tags.{place_of, stage_of}
use Rattle.image.specs.Puts.{piece}
use Rattle.image.proofs.Fields.{code_from, processor_is}
use Rattle.rules.specs.declared.calls.Call.{Call}
use Rattle.rules.specs.declared.calls.Call.TheVariants as call
use Rattle.rules.specs.Calls.{processor_of, turn_refusal, numbers_refusal, refusal_by}
use Rattle.rules.proofs.Allowed.{early_allowed, idle_begins, busy_steps}
use Rattle.rules.proofs.ValidFacts.{valid_facts}
use Rattle.image_parts.specs.Given.{idle_in, refusal_in}

idle_tag : (x : Code) → is_idle (stage_of x) ≡ eqb x.tag 0
idle_tag x =
    let t = x.tag in
    go (eqb t 0) (leb t 10) (leb t 13) (leb t 26) (leb t 28)
  where
    go : (y z w v u : Bool) →
        is_idle
        (cond y stage.Idle
        (cond z (stage.Insert (insert_of x.tag (place_of x) x.ahead))
        (cond w (stage.Delete (delete_of x.tag (place_of x)))
        (cond v (stage.Removal (job_of x.job) (removal_of x.tag (place_of x) x.ahead))
        (cond u (stage.Relaxed (relaxed_of x.tag (place_of x)))
        (stage.Remove (wanted_of x.due x.ticket) (remove_of x.tag (place_of x)))))))) ≡ y
    go true z w v u = refl
    go false true w v u = refl
    go false false true v u = refl
    go false false false true u = refl
    go false false false false true = refl
    go false false false false false = refl

pub idle_is : (b : List ℕ) (p : ℕ) → get_or b 0 0 ≤ 16 → p < get_or b 0 0 →
    is_idle (processor_at (queue_in b) p).stage ≡ eqb (get_or b (7 + 26 * p + 5) 0) 0
idle_is b p many low =
    ap (λ (c : Processor). is_idle c.stage) (processor_is b p many low)
    ∙ idle_tag (code_from (piece b (7 + 26 * p)))

-- where there is no such processor it does not matter
pub refusal_in_lem : (b : List ℕ) → Sound b → (c : Call) →
    refusal_by c (number32 b 3) (get_or b 0 0) (get_or b 2 0) (idle_in b (processor_of c))
    ≡ refusal_in b c
unfolding queue_in
refusal_in_lem b s c = go (dec_lt (processor_of c) (get_or b 0 0))
  where
    p : ℕ
    p = processor_of c

    many : get_or b 0 0 ≤ 16
    many = (valid_facts (queue_in b) s.passes).sizes.processor_count.high

    go : Dec (p < get_or b 0 0) →
        refusal_by c (number32 b 3) (get_or b 0 0) (get_or b 2 0) (idle_in b p) ≡ refusal_in b c
    go (yes low) =
        let is : idle_in b p ≡ is_idle (processor_at (queue_in b) p).stage =
        rw (lt-leb (get_or b 0 0) p low) (sym (idle_is b p many low)) in
        ap (refusal_by c (number32 b 3) (get_or b 0 0) (get_or b 2 0)) is
    go (no high) = rw (le-leb (get_or b 0 0) p (omega arith)) refl

-- what is known of a call that is not refused before a node is looked for
module _ (b : List ℕ) (s : Sound b) (c : Call) (e : refusal_in b c ≡ None) where
  pub here : processor_of c < get_or b 0 0
  unfolding queue_in
  here = (early_allowed (queue_in b) c e).here

  pub ticks : number32 b 3 < 999999
  unfolding queue_in
  ticks = (early_allowed (queue_in b) c e).ticks

  pub turn : turn_refusal c (idle_in b (processor_of c)) ≡ None
  unfolding queue_in
  turn =
      let many : get_or b 0 0 ≤ 16 = (valid_facts (queue_in b) s.passes).sizes.processor_count.high in
      rw (lt-leb (get_or b 0 0) (processor_of c) here, sym (idle_is b (processor_of c) many here))
      (early_allowed (queue_in b) c e).turn

  pub numbers_in : numbers_refusal c (get_or b 2 0) ≡ None
  unfolding queue_in
  numbers_in = (early_allowed (queue_in b) c e).numbers

-- a step is of a processor that has a stage
pub step_allowed : (b : List ℕ) → Sound b → (p : ℕ) → refusal_in b (call.Step p) ≡ None →
    (p < get_or b 0 0) × (number32 b 3 < 999999) × (1 ≤ get_or b (7 + 26 * p + 5) 0)
step_allowed b s p e =
    let low = here b s (call.Step p) e in
    let busy = busy_steps (idle_in b p) (turn b s (call.Step p) e) in
    let some : (get_or b (7 + 26 * p + 5) 0 ≡ 0 → ⊥) =
    eqb-false _ 0 (rw (lt-leb (get_or b 0 0) p low) at busy) in
    (low, ticks b s (call.Step p) e, omega (arith, some))

-- a begin is of an idle one
pub begin_idle : (b : List ℕ) → Sound b → (c : Call) (e : refusal_in b c ≡ None) →
    turn_refusal c (idle_in b (processor_of c)) ≡ cond (idle_in b (processor_of c)) None (Some refusal.Busy) →
    get_or b (7 + 26 * processor_of c + 5) 0 ≡ 0
begin_idle b s c e is =
    let low = here b s c e in
    let idle = idle_begins (idle_in b (processor_of c)) (sym is ∙ turn b s c e) in
    eqb-true _ 0 (rw (lt-leb (get_or b 0 0) (processor_of c) low) at idle)
