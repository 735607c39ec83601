-- What a begin stores is what the definition says, and the bytes after it are sound. Assumes
-- nothing.
use Rattle.std.specs.Prelude.{None}
use mathlib.Core.Path.{◌≡◌, refl, sym, ◌∙◌, ap}
use mathlib.Core.Bool.{◌||◌}
use mathlib.Core.List.{List, [], ◌++◌}
use Prim.Native.Nat.{ℕ, ◌+◌, ◌*◌, ◌≤◌, ◌<◌}
use native.Mathlib.Omega.{arith}
use lib.ListN.{get_or}
use lib.Dec.{ltb, eqb}
use borrow.Author.Tests.{eq-eqb, ne_eqb, ltb-false}
use Rattle.record.specs.declared.queues.Processor.{Processor}
use Rattle.record.specs.declared.refusals.Refusal.TheVariants as refusal
use Rattle.record.specs.Refusals.{refusal_number}
use Rattle.record.specs.declared.stages.Delete.TheVariants as del
use Rattle.record.specs.declared.stages.Relaxed.TheVariants as rlx
use Rattle.record.specs.declared.stages.Remove.TheVariants as rmv
use Rattle.record.specs.declared.stages.Stage.{Stage}
use Rattle.record.specs.declared.stages.Stage.TheVariants as stage
use Rattle.record.specs.Limits.{max_number}
use Rattle.record.specs.Queues.{node_at, processor_at}
use Rattle.record.specs.Stages.{place, wanted_of}
use Rattle.image.specs.Numbers.{number32}
use Rattle.image.specs.Pieces.{processor_image}
use Rattle.rules.specs.declared.answers.Answer.{Answer}
use Rattle.rules.specs.declared.answers.Answer.TheVariants as ans
use Rattle.rules.specs.declared.calls.Call.{Call}
use Rattle.rules.specs.declared.calls.Call.TheVariants as call
use Rattle.rules.specs.Calls.{insert_decision, walk_begins, taken, node_refusal, refusal_of}
use Rattle.rules.specs.Calls.{called_valid}
use Rattle.rules.specs.Choice.{chosen}
use Rattle.rules.specs.Effects.{accepted}
use Rattle.rules.proofs.ValidFacts.{valid_facts}
use Rattle.rules.proofs.ValidDecisions.{chosen_high}
use Rattle.record_check.specs.Making.{outside}
use Rattle.laws.proofs.Booleans.{or_right}
use Rattle.rules.proofs.Allowed.{passed, first_none}
use Rattle.rules.proofs.Inner.{call_accepted}
use Rattle.image.specs.Puts.{puts, puts_in, four, wants}
use Rattle.image.specs.Image.{queue_in, Sound}
use Rattle.image_parts.specs.Given.{refusal_in, Called}
use Rattle.image.proofs.Puts.{Below, puts_append}
use Rattle.image.proofs.Sizes.{sized_in}
use Rattle.image_parts.proofs.Pieces.{moves}
use Rattle.image_parts.proofs.Readings.{stage_is, fits_below}
use Rattle.image_parts.proofs.Given.{gives}
use Rattle.image_parts.proofs.Refusals.{here, begin_idle, numbers_in}
use Rattle.image_parts.proofs.Sounds.{kept_sound, refused_late}
use Rattle.image_begin.specs.Stores.{Based, fills, begun}
use Rattle.image_begin.proofs.Stored.{put_filled, fills_below}

pub based : (b : List ℕ) → Sound b → Based b (7 + 26 * get_or b 0 0)
unfolding queue_in
based b s =
    let v = (valid_facts (queue_in b) s.passes).sizes in
    record {
      start = refl;
      long = s.long;
      processors_high = v.processor_count.high;
      nodes_high =
          v.node_count.high;
      levels_high = v.level_count.high;
    }

-- an idle processor's stage
at_idle : (b : List ℕ) (p : ℕ) → Sound b → p < get_or b 0 0 → get_or b (7 + 26 * p + 5) 0 ≡ 0 →
    (processor_at (queue_in b) p).stage ≡ stage.Idle
at_idle b p s low h = stage_is b p 0 (based b s).processors_high low h

-- a processor that was idle, after the begin of an operation that takes no node
abbrev starts : Processor → ℕ → Stage → Processor
starts c t g = record { begin = t; own = 0; stage = g; saved = c.saved }

-- a call k that is accepted and begins such an operation, with the stage g; fs are its stores
module _ (b : List ℕ) (p : ℕ) (s : Sound b) (low : p < get_or b 0 0)
    (idle : get_or b (7 + 26 * p + 5) 0 ≡ 0) (g : Stage) (k : Call)
    (is : called_valid (queue_in b) k ≡ accepted (queue_in b) p (walk_begins (number32 b 3 + 1) g))
    (fs : List (ℕ × ℕ)) (fits : Below 26 fs)
    (stores : (c : Processor) → puts_in (processor_image (moves c stage.Idle c.saved)) fs
    ≡ processor_image (starts c (number32 b 3 + 1) g)) where
  walk_begins_lem :
      (after : List ℕ) (r : Answer) → r ≡ ans.Began (number32 b 3 + 1) →
      after ≡ puts (puts b 0 (four 3 (number32 b 3 + 1))) (7 + 26 * p) fs →
      Called b k after r
  unfolding queue_in
  walk_begins_lem after r f stored =
      let q = queue_in b in
      let c = processor_at q p in
      kept_sound b s k after r
      (gives b (7 + 26 * get_or b 0 0) p s refl low (walk_begins (number32 b 3 + 1) g)
      (called_valid q k) is [] fs (omega arith) tt fits refl
      (ap (λ (x : Stage). puts_in (processor_image (moves c x c.saved)) fs)
      (at_idle b p s low idle)
      ∙ stores c)
      after stored r f)

-- a Delete_Min, a Relaxed one and a Remove are such calls
module _ (b : List ℕ) (p : ℕ) (s : Sound b) where
  pub delete_begins_lem : (e : refusal_in b (call.DeleteMin p) ≡ None) (after : List ℕ) (r : Answer) →
      r ≡ ans.Began (number32 b 3 + 1) →
      after ≡ puts (puts b 0 (four 3 (number32 b 3 + 1))) (7 + 26 * p)
      (begun (number32 b 3 + 1) 0 11 1) →
      Called b (call.DeleteMin p) after r
  unfolding queue_in processor_image
  delete_begins_lem e =
      let k = call.DeleteMin p in
      let fs = begun (number32 b 3 + 1) 0 11 1 in
      walk_begins_lem b p s (here b s k e) (begin_idle b s k e refl)
      (stage.Delete (del.ReadNext (place 0 1))) k
      (call_accepted (queue_in b) k (first_none (refusal_in b k) None e)) fs (fits_below 26 fs refl)
      (λ c. refl)

  pub relaxed_begins_lem : (e : refusal_in b (call.Relaxed p) ≡ None) (after : List ℕ) (r : Answer) →
      r ≡ ans.Began (number32 b 3 + 1) →
      after ≡ puts (puts b 0 (four 3 (number32 b 3 + 1))) (7 + 26 * p)
      (begun (number32 b 3 + 1) 0 27 1) →
      Called b (call.Relaxed p) after r
  unfolding queue_in processor_image
  relaxed_begins_lem e =
      let k = call.Relaxed p in
      let fs = begun (number32 b 3 + 1) 0 27 1 in
      walk_begins_lem b p s (here b s k e) (begin_idle b s k e refl)
      (stage.Relaxed (rlx.ReadNext (place 0 1))) k
      (call_accepted (queue_in b) k (first_none (refusal_in b k) None e)) fs (fits_below 26 fs refl)
      (λ c. refl)

  pub remove_begins_lem : (due ticket : ℕ) (e : refusal_in b (call.Remove p due ticket) ≡ None)
      (after : List ℕ) (r : Answer) → r ≡ ans.Began (number32 b 3 + 1) →
      after ≡ puts (puts b 0 (four 3 (number32 b 3 + 1))) (7 + 26 * p)
      (begun (number32 b 3 + 1) 0 29 (get_or b 2 0) ++ wants due ticket) →
      Called b (call.Remove p due ticket) after r
  unfolding queue_in processor_image
  remove_begins_lem due ticket e =
      let k = call.Remove p due ticket in
      let fs = begun (number32 b 3 + 1) 0 29 (get_or b 2 0) ++ wants due ticket in
      walk_begins_lem b p s (here b s k e) (begin_idle b s k e refl)
      (stage.Remove (wanted_of due ticket) (rmv.Search (place 0 (get_or b 2 0)))) k
      (call_accepted (queue_in b) k (first_none (refusal_in b k) None e)) fs (fits_below 26 fs refl)
      (λ c. refl)

module _ (b : List ℕ) (p due item height : ℕ) (s : Sound b)
    (e : refusal_in b (call.Insert p due item height) ≡ None) where
  pub insert_without :
      (r : Answer) → chosen (queue_in b) ≡ 0 → r ≡ ans.Refused (refusal_number refusal.NoNode) →
      Called b (call.Insert p due item height) b r
  insert_without r x f =
      refused_late b s (call.Insert p due item height) e refusal.NoNode (rw (eq-eqb _ 0 x) refl) r
      f

  pub insert_begins_lem :
      (x : ℕ) → x ≡ chosen (queue_in b) → (x ≡ 0 → ⊥) → (after : List ℕ) (r : Answer) →
      after ≡ puts
      (puts (puts b 0 (four 3 (number32 b 3 + 1))) (7 + 26 * get_or b 0 0 + 41 * x)
      (fills (get_or b 2 0) (get_or b 1 0 + 1) (p + 1) (number32 b 3 + 1) due item height))
      (7 + 26 * p) (begun (number32 b 3 + 1) x 1 (get_or b 2 0)) →
      r ≡ ans.Began (number32 b 3 + 1) →
      Called b (call.Insert p due item height) after r
  unfolding queue_in processor_image
  insert_begins_lem x is some after r stored f =
      let q = queue_in b in
      let k = call.Insert p due item height in
      let c = processor_at q p in
      let g = number32 b 3 + 1 in
      let L = get_or b 2 0 in
      let B = based b s in
      let low = here b s k e in
      let idle = begin_idle b s k e refl in
      let there : (chosen q ≡ 0 → ⊥) = λ z. some (is ∙ z) in
      let none : refusal_of q k ≡ None =
      first_none (refusal_in b k) (node_refusal k (taken q k)) e
      ∙ rw (ne_eqb (chosen q) 0 there) refl in
      let x≤ : x ≤ get_or b 1 0 = rw is (chosen_high q) in
      let x< : x < 202 = omega (arith, B.nodes_high) in
      let S = sized_in b in
      let d = insert_decision q x due item height in
      kept_sound b s k after r
      (gives b (7 + 26 * get_or b 0 0) p s refl low d (called_valid q k)
      (call_accepted q k none
      ∙ ap (λ (y : ℕ). accepted q p (insert_decision q y due item height)) (sym is))
      (fills L (get_or b 1 0 + 1) (p + 1) g due item height) (begun g x 1 L) (omega arith)
      (fills_below L (get_or b 1 0 + 1) (p + 1) g due item height B.levels_high)
      (fits_below 26 (begun g x 1 L) refl)
      (put_filled (node_at q x) L (get_or b 1 0 + 1) (p + 1) g due item height
      B.levels_high (S.forward_long x x<) (S.locks_long x x<))
      (ap (λ (u : Stage). puts_in (processor_image (moves c u c.saved)) (begun g x 1 L))
      (at_idle b p s low idle))
      after stored r f)

  pub height_high : height ≤ 8
  unfolding queue_in
  height_high =
      let n = passed (outside height (get_or b 2 0)) refusal.Height None
      (passed (eqb item 0) refusal.NoItem _
      (passed (ltb max_number due || ltb max_number item) refusal.TooLarge _
      (numbers_in b s (call.Insert p due item height) e)).1).1 in
      omega (
        arith,
        ltb-false (get_or b 2 0) height (or_right (ltb height 1) (ltb (get_or b 2 0) height) n.0),
        (based b s).levels_high,
      )

pub chosen_low : (b : List ℕ) (x : ℕ) → x ≡ chosen (queue_in b) → x ≤ get_or b 1 0
unfolding queue_in
chosen_low b x e = rw e (chosen_high (queue_in b))

pub insert_stored : (b c d e : List ℕ) (o i l tail h u due item height x : ℕ) → c
    ≡ puts b 0 (four 3 (number32 b 3 + 1)) → u ≡ number32 b 3 →
    d ≡ puts c o (fills l tail h (u + 1) due item height) → e ≡ puts d i (begun (u + 1) x 1 l) →
    e ≡ puts (puts (puts b 0 (four 3 (number32 b 3 + 1))) o
    (fills l tail h (number32 b 3 + 1) due item height)) i (begun (number32 b 3 + 1) x 1 l)
insert_stored b c d e o i l tail h u due item height x f g k m =
    m ∙ ap (λ (r : List ℕ). puts r i (begun (u + 1) x 1 l))
    (k ∙ ap (λ (r : List ℕ). puts r o (fills l tail h (u + 1) due item height)) f)
    ∙ ap (λ (v : ℕ). puts
    (puts (puts b 0 (four 3 (number32 b 3 + 1))) o (fills l tail h (v + 1) due item height)) i
    (begun (v + 1) x 1 l)) g

pub walk_stored : (b c d : List ℕ) (i u tag level : ℕ) →
    c ≡ puts b 0 (four 3 (number32 b 3 + 1)) → u ≡ number32 b 3 →
    d ≡ puts c i (begun (u + 1) 0 tag level) →
    d ≡ puts (puts b 0 (four 3 (number32 b 3 + 1))) i (begun (number32 b 3 + 1) 0 tag level)
walk_stored b c d i u tag level f g k =
    k ∙ ap (λ (r : List ℕ). puts r i (begun (u + 1) 0 tag level)) f
    ∙ ap (λ (v : ℕ). puts (puts b 0 (four 3 (number32 b 3 + 1))) i (begun (v + 1) 0 tag level)) g

-- and a Remove's key behind it
pub remove_stored : (b c d : List ℕ) (i tag level due ticket : ℕ) →
    c ≡ puts (puts b 0 (four 3 (number32 b 3 + 1))) i (begun (number32 b 3 + 1) 0 tag level) →
    d ≡ puts c i (wants due ticket) →
    d ≡ puts (puts b 0 (four 3 (number32 b 3 + 1))) i
    (begun (number32 b 3 + 1) 0 tag level ++ wants due ticket)
remove_stored b c d i tag level due ticket f g =
    g ∙ ap (λ (r : List ℕ). puts r i (wants due ticket)) f
    ∙ sym (puts_append (puts b 0 (four 3 (number32 b 3 + 1))) i
    (begun (number32 b 3 + 1) 0 tag level) (wants due ticket))
