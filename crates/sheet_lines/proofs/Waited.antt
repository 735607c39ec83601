-- After a step that waits, the next steps of the same line wait too: nothing but the clock changed.
-- Assumes nothing.
use mathlib.Core.Path.{◌≡◌, refl, sym, ap, ◌∙◌, subst}
use mathlib.Core.Bool.{Bool, true, false, cond}
use mathlib.Core.List.{List, ◌++◌, append-nil}
use Rattle.std.specs.Prelude.{Option, Some, None}
use Prim.Native.Nat.{ℕ, zero, suc, ◌+◌, ◌-◌, ◌≤◌, ◌<◌}
use native.Mathlib.Omega.{arith}
use lib.Dec.{ltb, leb}
use lib.ListN.{length, set}
use lib.Seq.{set-get_or}
use borrow.Author.Tests.{lt-leb, lt-ltb, le-ltb, ltb-true, ltb-false}
use Rattle.laws.proofs.Booleans.{cond_cases, no}
use Rattle.record_check.specs.Check.{valid}
use Rattle.record.specs.declared.nodes.Node.{Node}
use Rattle.record.specs.declared.queues.Processor.{Processor}
use Rattle.record.specs.declared.queues.Queue.{Queue}
use Rattle.record.specs.declared.stages.Place.{Place}
use Rattle.record.specs.Limits.{max_number}
use Rattle.record.specs.Queues.{processor_at}
use Rattle.record.specs.Stages.{is_idle}
use Rattle.rules.specs.declared.answers.Answer.{Answer}
use Rattle.rules.specs.declared.answers.Answer.TheVariants as ans
use Rattle.rules.specs.declared.answers.Outcome.{Outcome}
use Rattle.rules.specs.declared.decisions.Decision.{Decision}
use Rattle.record.specs.declared.refusals.Refusal.{Refusal}
use Rattle.rules.specs.Answers.{is_refused, is_waits}
use Rattle.rules.specs.declared.calls.Call.{Call}
use Rattle.rules.specs.declared.calls.Call.TheVariants as call
use Rattle.rules.specs.Calls.{reading_place, step_view_of, step_decision, decision_of, refusal_of}
use Rattle.rules.specs.Calls.{processor_of, outcome_by, called_valid, called}
use Rattle.rules.specs.Runs.{Turn}
use Rattle.rules.proofs.Inner.{call_inner}
use Rattle.rules.proofs.Allowed.{Allowed, allowed, busy_steps}
use Rattle.rules.proofs.Waits.{stands}
use Rattle.rules.specs.Decide.{waits}
use Rattle.rules.specs.Effects.{accepted}
use Rattle.sheet_format.specs.declared.events.HistoryLine.{HistoryLine}
use Rattle.sheet_format.specs.declared.lines.SheetLine.{SheetLine}
use Rattle.sheet_format.specs.Calls.{call_of, calls_print}
use Rattle.sheet_format.specs.Events.{is_silent, call_events}
use Rattle.image.specs.Image.{image_of, queue_in, length_of, Sound}
use Rattle.image.specs.Numbers.{number32}
use Rattle.image.specs.OneToOne.{Trim}
use Rattle.image.specs.Puts.{puts, four}
use Rattle.image.proofs.Inverse.{trim_in, read_write}
use Rattle.image.proofs.Lengths.{length_image}
use Rattle.image.proofs.Sizes.{sized_in}
use Rattle.image.proofs.Whole.{with_clock, put_clock}
use Rattle.image_parts.specs.Given.{Gives}
use Rattle.rules.proofs.ValidFacts.{valid_facts}
use Rattle.sheet_lines.specs.Waiting.{waits_left, later}
use Rattle.image_parts.proofs.Readings.{clock_is}
use Rattle.sheet_lines.proofs.Called.{call_on, call_kept, call_queue, clock_high}
use Rattle.sheet_lines.proofs.Printings.{line_processor}
use Rattle.sheet_lines.proofs.Histories.{left_of, Going, one_more, goes_on, prints_on}
use Rattle.sheet_lines.proofs.States.{Written, Within, call_silent}

-- after a step that waits for h
abbrev waited : Queue → ℕ → Outcome
waited q h = record { queue = later q 1; answer = ans.Waits h }

nothing_changes :
    (q : Queue) (p h : ℕ) (a : Place) →
    accepted q p (waits (step_view_of q (processor_at q p) a) (processor_at q p).stage h) ≡ waited q h
nothing_changes q p h a =
    ap (λ (ns : List Node). left ns (set q.processors p (processor_at q p)))
    (set-get_or q.nodes 0 _)
    ∙ ap (left q.nodes) (set-get_or q.processors p _)
  where
    left : List Node → List Processor → Outcome
    left ns cs = record {
      queue = record {
        processor_count = q.processor_count;
        node_count = q.node_count;
        level_count = q.level_count;
        clock = q.clock + 1;
        nodes = ns;
        processors = cs;
      };
      answer = ans.Waits h;
    }

-- the line's next call waits, whatever the clock is below its end
pub record Waiting (l : SheetLine) (q : Queue) : Type 0 where
  pub steps : call_of l ≡ call.Step l.first
  pub known : leb q.processor_count l.first ≡ false
  pub busy : is_idle (processor_at q l.first).stage ≡ false
  pub stands : is_waits (step_decision q (processor_at q l.first)).answer ≡ true

still : (l : SheetLine) (q : Queue) (m : ℕ) → Waiting l q → Waiting l (later q m)
still l q m w =
    record { steps = w.steps; known = w.known; busy = w.busy; stands = w.stands }

-- for whom it waits
abbrev holding : (l : SheetLine) (q : Queue) → Waiting l q → ℕ
holding l q w =
    let c = processor_at q l.first in
    (stands (step_view_of q c (reading_place c.stage)) c.stage w.stands).holder

once : (l : SheetLine) (q : Queue) (w : Waiting l q) → q.clock < max_number →
    call_on l q ≡ waited q (holding l q w)
once l q w h =
    let c = processor_at q l.first in
    let a = reading_place c.stage in
    let same = (stands (step_view_of q c a) c.stage w.stands).same in
    ap (called_valid q) w.steps
    ∙ rw (lt-leb max_number q.clock h)
    (rw w.known
    (rw w.busy
    (ap (λ (d : Decision). accepted q l.first d) same
    ∙ nothing_changes q l.first (holding l q w) a)))

later_none : (q : Queue) → q ≡ later q 0
later_none q =
    let e : q.clock ≡ q.clock + 0 = omega arith in
    ap (λ (c : ℕ). record { processor_count = q.processor_count; node_count = q.node_count; level_count = q.level_count; clock = c; nodes = q.nodes; processors = q.processors }) e

same_clock : (q : Queue) (m : ℕ) → later (later q 1) m ≡ later q (suc m)
same_clock q m =
    let e : q.clock + 1 + m ≡ q.clock + suc m = omega arith in
    ap (λ (c : ℕ). record { processor_count = q.processor_count; node_count = q.node_count; level_count = q.level_count; clock = c; nodes = q.nodes; processors = q.processors }) e

passes_later : (l : SheetLine) (m : ℕ) (q : Queue) → Waiting l q → q.clock + m ≤ max_number → valid q ≡ true → valid (later q m) ≡ true
passes_later l zero q w b v = ap valid (sym (later_none q)) ∙ v
passes_later l (suc m) q w b v =
    let one : valid (later q 1) ≡ true = ap (λ (o : Outcome). valid o.queue) (sym (once l q w (omega arith))) ∙ call_kept l q v in
    ap valid (sym (same_clock q m)) ∙ passes_later l m (later q 1) (still l q 1 w) (omega arith) one

-- m steps of the line more that wait
module _ (s : List ℕ) (q₀ : Queue) (k : ℕ) (l : SheetLine) where
  -- so many calls are left, on this record, and these lines are printed
  record Passing (n : ℕ) (q : Queue) (es : List HistoryLine) : Type 0 where
    made : List Turn
    going : Going s q₀ k l n q made
    prints : calls_print q₀ made ≡ es

  passes :
      (m n : ℕ) (q : Queue) (made : List Turn) →
      Waiting l q →
      valid q ≡ true →
      m ≤ n →
      q.clock + m ≤ max_number →
      Going s q₀ k l n q made →
      Passing (n - m) (later q m) (calls_print q₀ made)
  passes zero n q made w v a b g =
      let e : n ≡ n - 0 = omega arith in
      record {
        made = made;
        going =
            subst (λ (j : ℕ). Going s q₀ k l j (later q 0) made) e
            (subst (λ (r : Queue). Going s q₀ k l n r made) (later_none q) g);
        prints = refl;
      }
  passes (suc m) n q made w v a b g =
      let o : called q (call_of l) ≡ waited q (holding l q w) =
      call_inner q (call_of l) v ∙ once l q w (omega arith) in
      let one : valid (later q 1) ≡ true =
      ap (λ (u : Outcome). valid u.queue) (sym (once l q w (omega arith))) ∙ call_kept l q v in
      let left : n - 1 ≡ left_of q l (n - 1) =
      ap (λ (u : Outcome). cond (is_refused u.answer) 0 (n - 1)) (sym o) in
      let h =
      goes_on s q₀ k l n q made g (later q 1) (n - 1) (omega arith)
      (ap (λ (u : Outcome). u.queue) (sym o)) left in
      let quiet : calls_print q₀ (one_more made l) ≡ calls_print q₀ made =
      prints_on s q₀ k l n q made g
      ∙ ap (λ (u : Outcome). calls_print q₀ made
      ++ call_events (call_of l) u.queue.clock u.answer) o
      ∙ append-nil (calls_print q₀ made) in
      let r =
      passes m (n - 1) (later q 1) (one_more made l) (still l q 1 w) one (omega arith) (omega arith)
      h in
      let e : n - 1 - m ≡ n - suc m = omega arith in
      record {
        made = r.made;
        going =
            subst (λ (j : ℕ). Going s q₀ k l j (later q (suc m)) r.made) e
            (subst (λ (x : Queue). Going s q₀ k l (n - 1 - m) x r.made) (same_clock q m)
            r.going);
        prints = r.prints ∙ quiet;
      }

-- a call that answers that it waits is a step, and one that is not refused
abbrev Moves : Outcome → Type 0
Moves o = is_waits o.answer ≡ false

module _ (q : Queue) where
  begin_moves : (c : Call) → is_waits (decision_of q c).answer ≡ false → Moves (called_valid q c)
  begin_moves c d = by_refusal (refusal_of q c)
    where
      by_refusal : (r : Option Refusal) → Moves (outcome_by q c r)
      by_refusal None = d
      by_refusal (Some r) = refl

  waits_steps :
      (c : Call) → is_waits (called_valid q c).answer ≡ true → c ≡ call.Step (processor_of c)
  waits_steps (call.Insert p due item height) h =
      no (sym (begin_moves (call.Insert p due item height) refl) ∙ h)
  waits_steps (call.DeleteMin p) h = no (sym (begin_moves (call.DeleteMin p) refl) ∙ h)
  waits_steps (call.Relaxed p) h = no (sym (begin_moves (call.Relaxed p) refl) ∙ h)
  waits_steps (call.Remove p due ticket) h =
      no (sym (begin_moves (call.Remove p due ticket) refl) ∙ h)
  waits_steps (call.Step p) h = refl

  waited_step :
      (p : ℕ) → is_waits (called_valid q (call.Step p)).answer ≡ true →
      Allowed q (call.Step p)
      × (is_waits (accepted q p (step_decision q (processor_at q p))).answer ≡ true)
  waited_step p = go (refusal_of q (call.Step p)) refl
    where
      c : Call
      c = call.Step p

      go : (r : Option Refusal) → refusal_of q c ≡ r → is_waits (outcome_by q c r).answer ≡ true →
          Allowed q c × (is_waits (accepted q p (decision_of q c)).answer ≡ true)
      go None z e = (allowed q c z, e)
      go (Some r) z e = no e

module _ (l : SheetLine) (q : Queue) where
  waiting : is_waits (call_on l q).answer ≡ true → (q.clock < max_number) × Waiting l q
  waiting h =
      let steps : call_of l ≡ call.Step l.first =
      waits_steps q (call_of l) h ∙ ap call.Step (line_processor l) in
      let p =
      waited_step q l.first
      (sym (ap (λ (c : Call). is_waits (called_valid q c).answer) steps) ∙ h) in
      let A = p.0 in (
        A.ticks,
        record {
          steps = steps;
          known = lt-leb _ _ A.here;
          busy = busy_steps _ A.turn;
          stands = p.1;
        },
      )

  -- it prints nothing, and does not end its line
  waits_silent : (a : Answer) → is_waits a ≡ true → is_silent (call_of l) a ≡ true
  waits_silent (ans.Refused n) h = no h
  waits_silent (ans.Began t) h = no h
  waits_silent ans.Moved h = no h
  waits_silent (ans.Waits p) h = refl
  waits_silent ans.Empty h = no h
  waits_silent (ans.NotThere w) h = no h
  waits_silent (ans.Did d e) h = no h

  waits_left_lem : (a : Answer) (n : ℕ) → is_waits a ≡ true → n ≡ cond (is_refused a) 0 n
  waits_left_lem (ans.Refused m) n h = no h
  waits_left_lem (ans.Began t) n h = no h
  waits_left_lem ans.Moved n h = no h
  waits_left_lem (ans.Waits p) n h = refl
  waits_left_lem ans.Empty n h = no h
  waits_left_lem (ans.NotThere w) n h = no h
  waits_left_lem (ans.Did d e) n h = no h

-- no more than are left, and no more than the clock takes
pub least_left : (n k : ℕ) → (cond (ltb n k) n k ≤ n) × (cond (ltb n k) n k ≤ k)
least_left n k = cond_cases (λ (m : ℕ). (m ≤ n) × (m ≤ k)) (ltb n k) n k
    (λ e. let h = ltb-true n k e in (omega arith, omega (arith, h)))
    (λ e. let h = ltb-false n k e in (omega (arith, h), omega arith))

trimmed : (b : List ℕ) → Sound b → Trim (queue_in b)
unfolding queue_in
trimmed b s =
    let z = (valid_facts (queue_in b) s.passes).sizes in
    trim_in b z.processor_count.high z.node_count.high

-- the image of a record whose clock is later is read as it
later_read : (b : List ℕ) → Sound b → (m : ℕ) → queue_in (image_of (later (queue_in b) m)) ≡ later (queue_in b) m
later_read b s m =
    let e = sized_in b in
    let t = trimmed b s in
    read_write (later (queue_in b) m)
    (record { nodes_long = e.nodes_long; processors_long = e.processors_long; forward_long = e.forward_long; locks_long = e.locks_long; saved_long = e.saved_long })
    (record { processors_high = t.processors_high; nodes_high = t.nodes_high; nodes = t.nodes; processors = t.processors })

-- the bytes of the clock
clock_put : (b : List ℕ) → Sound b → (t m : ℕ) → t ≡ (queue_in b).clock + m → puts b 0 (four 3 t) ≡ image_of (later (queue_in b) m)
clock_put b s t m e =
    ap (λ (x : List ℕ). puts x 0 (four 3 t)) (sym s.image)
    ∙ put_clock (queue_in b) t
    ∙ ap (λ (j : ℕ). image_of (with_clock (queue_in b) j)) e

-- the steps that wait are all that are left, or all that the clock takes
module _ (b : List ℕ) (s : Sound b) (left t : ℕ) (e : t ≡ number32 b 3) (after : List ℕ) where
  abbrev Passed : ℕ → Type 0
  Passed r =
      (r ≡ left - waits_left left (queue_in b).clock)
      × (after ≡ image_of (later (queue_in b) (waits_left left (queue_in b).clock)))

  passed : (m : ℕ) → waits_left left t ≡ m → after ≡ puts b 0 (four 3 (t + m)) → Passed (left - m)
  passed m w h =
      let c : (queue_in b).clock ≡ t = clock_is b ∙ sym e in
      let k : waits_left left (queue_in b).clock ≡ m = ap (waits_left left) c ∙ w in
      (ap (λ (j : ℕ). left - j) (sym k), h ∙ clock_put b s (t + m) m (ap (λ (j : ℕ). j + m) (sym c)) ∙ ap (λ (j : ℕ). image_of (later (queue_in b) j)) (sym k))

  pub all_wait : left < 999999 - t → after ≡ puts b 0 (four 3 (t + left)) → Passed 0
  all_wait h f =
      let z : left - left ≡ 0 = omega arith in
      subst Passed z (passed left (ap (λ (x : Bool). cond x left (max_number - t)) (lt-ltb left (999999 - t) h)) f)

  pub some_wait : 999999 - t ≤ left → after ≡ puts b 0 (four 3 999999) → Passed (left - (999999 - t))
  some_wait h f =
      let high = clock_high b s in
      let full : 999999 ≡ t + (999999 - t) = omega (arith, e, high) in
      passed (999999 - t) (ap (λ (x : Bool). cond x left (max_number - t)) (le-ltb left (999999 - t) h))
      (f ∙ ap (λ (j : ℕ). puts b 0 (four 3 j)) full)

-- the state of the line after the steps that wait with the one that did
module _ (s : List ℕ) (q₀ : Queue) (k : ℕ) (l : SheetLine) (a₀ : List ℕ) (w : Bool) where
  waits_on :
      (b a : List ℕ) (at n m : ℕ) (d : List ℕ) →
      Waiting l (queue_in b) →
      m ≤ n →
      (queue_in b).clock + m ≤ max_number →
      d ≡ image_of (later (queue_in b) m) →
      Within s q₀ k l n b a₀ a at w →
      Within s q₀ k l (n - m) d a₀ a at w
  waits_on b a at n m d v h c e i =
      let read : queue_in d ≡ later (queue_in b) m = ap queue_in e ∙ later_read b i.sound m in
      let p = passes s q₀ k l m n (queue_in b) i.made v i.sound.passes h c i.going in
      record {
        made = p.made;
        going = subst (λ (q : Queue). Going s q₀ k l (n - m) q p.made) (sym read) p.going;
        sound = record {
          long = ap length e ∙ length_image (later (queue_in b) m) ∙ ap length_of (sym e);
          image = ap image_of read ∙ sym e;
          passes = ap valid read ∙ passes_later l m (queue_in b) v c i.sound.passes;
        };
        written = subst (λ (es : List HistoryLine). Written a₀ a at es w) (sym p.prints) i.written;
      }

  pub call_waits :
      (b a : List ℕ) (at left : ℕ) (i : Within s q₀ k l left b a₀ a at w) (some : 0 < left)
      (c : List ℕ) (r : Answer) → Gives (call_on l (queue_in b)) c r → Sound c →
      is_waits r ≡ true →
      (n : ℕ) (d : List ℕ) →
      n ≡ left - 1 - waits_left (left - 1) (queue_in c).clock →
      d ≡ image_of (later (queue_in c) (waits_left (left - 1) (queue_in c).clock)) →
      Within s q₀ k l n d a₀ a at w
  call_waits b a at left i some c r g z y n d e f =
      let m = waits_left (left - 1) (queue_in c).clock in
      let x = waiting l (queue_in b) (sym (ap is_waits g.answer) ∙ y) in
      let early = x.0 in
      let read : queue_in c ≡ later (queue_in b) 1 =
      call_queue l b i.sound c r g ∙ ap (λ (o : Outcome). o.queue) (once l (queue_in b) x.1 early) in
      let v = subst (Waiting l) (sym read) (still l (queue_in b) 1 x.1) in
      let t : (queue_in c).clock ≡ (queue_in b).clock + 1 = ap (λ (q : Queue). q.clock) read in
      let low = least_left (left - 1) (max_number - (queue_in c).clock) in
      let high = low.1 in
      subst (λ (j : ℕ). Within s q₀ k l j d a₀ a at w) (sym e)
      (waits_on c a at (left - 1) m d v low.0 (omega (arith, high, t, early)) f
      (call_silent s q₀ k l a₀ w b a at left i some c r g z (left - 1)
      (waits_left_lem l (queue_in b) r (left - 1) y) (waits_silent l (queue_in b) r y)))
