-- What is known of a call that is not refused. Assumes nothing.
use Rattle.std.specs.Prelude.{Option, Some, None}
use mathlib.Core.Path.{◌≡◌, refl, ap}
use mathlib.Core.Bool.{Bool, true, false, cond, ◌||◌}
use Prim.Native.Nat.{ℕ, ◌<◌}
use lib.Dec.{ltb, leb, eqb}
use borrow.Author.Tests.{leb-false}
use Rattle.laws.proofs.Booleans.{cond_cases}
use Rattle.record.specs.declared.refusals.Refusal.{Refusal}
use Rattle.record.specs.declared.refusals.Refusal.TheVariants as refusal
use Rattle.record.specs.declared.queues.Queue.{Queue}
use Rattle.record.specs.Limits.{max_number}
use Rattle.record_check.specs.Check.{valid}
use Rattle.record_check.specs.Making.{outside}
use Rattle.rules.specs.declared.answers.Outcome.{Outcome}
use Rattle.rules.specs.declared.calls.Call.{Call}
use Rattle.rules.specs.declared.calls.Call.TheVariants as call
use Rattle.rules.specs.Answers.{refused}
use Rattle.rules.specs.Calls.{taken, decision_of, processor_of, turn_refusal, numbers_refusal}
use Rattle.rules.specs.Calls.{node_refusal, first_of, refusal_by, idle_at, refusal_of}
use Rattle.rules.specs.Calls.{outcome_by, called}
use Rattle.rules.specs.Effects.{accepted}

pub record Allowed (q : Queue) (c : Call) : Type 0 where
  pub ticks : q.clock < max_number
  pub here : processor_of c < q.processor_count
  pub turn : turn_refusal c (idle_at q (processor_of c)) ≡ None
  pub numbers : numbers_refusal c q.level_count ≡ None
  pub node : node_refusal c (taken q c) ≡ None

-- of a test that refuses, and what comes after it
pub passed :
    (b : Bool) (r : Refusal) (rest : Option Refusal) → cond b (Some r) rest ≡ None →
    (b ≡ false) × (rest ≡ None)
passed true r rest e = cc
passed false r rest e = (refl, e)

-- of a refusal that goes before another
first : (m n : Option Refusal) → first_of m n ≡ None → (m ≡ None) × (n ≡ None)
first None n e = (refl, e)
first (Some r) n e = cc

pub first_told : (m n : Option Refusal) (r : Refusal) → m ≡ Some r → first_of m n ≡ Some r
first_told m n r e = ap (λ (o : Option Refusal). first_of o n) e

pub first_none : (m n : Option Refusal) → m ≡ None → first_of m n ≡ n
first_none m n e = ap (λ (o : Option Refusal). first_of o n) e

-- of a call that is not refused before a node is looked for
pub record Early (q : Queue) (c : Call) : Type 0 where
  pub ticks : q.clock < max_number
  pub here : processor_of c < q.processor_count
  pub turn : turn_refusal c (idle_at q (processor_of c)) ≡ None
  pub numbers : numbers_refusal c q.level_count ≡ None

pub early_allowed :
    (q : Queue) (c : Call) →
    refusal_by c q.clock q.processor_count q.level_count (idle_at q (processor_of c)) ≡ None →
    Early q c
early_allowed q c e =
    let a = passed (leb max_number q.clock) refusal.ClockSpent _ e in
    let b = passed (leb q.processor_count (processor_of c)) refusal.NoProcessor _ a.1 in
    let d = first (turn_refusal c (idle_at q (processor_of c))) (numbers_refusal c q.level_count)
    b.1 in
    record {
      ticks = leb-false _ _ a.0;
      here = leb-false _ _ b.0;
      turn = d.0;
      numbers = d.1;
    }

pub allowed : (q : Queue) (c : Call) → refusal_of q c ≡ None → Allowed q c
allowed q c e =
    let f = first (refusal_by c q.clock q.processor_count q.level_count (idle_at q (processor_of c)))
    (node_refusal c (taken q c)) e in
    let a = early_allowed q c f.0 in
    record {
      ticks = a.ticks;
      here = a.here;
      turn = a.turn;
      numbers = a.numbers;
      node = f.1;
    }

-- what holds of every refused outcome, and of the accepted one, holds of the call's
pub of_call :
    (A : Outcome → Type 0) (q : Queue) (c : Call) → ((r : Refusal) → A (refused q r)) →
    (valid q ≡ true → Allowed q c → A (accepted q (processor_of c) (decision_of q c))) →
    A (called q c)
of_call A q c told made =
    cond_cases A (valid q) _ _ (λ v. go v (refusal_of q c) refl) (λ _. told refusal.Invalid)
  where
    go : valid q ≡ true → (r : Option Refusal) → refusal_of q c ≡ r → A (outcome_by q c r)
    go v None e = made v (allowed q c e)
    go v (Some r) e = told r

-- a begin is of an idle processor, a step of a busy one
pub idle_begins :
    (i : Bool) → ◌≡◌ {A = Option Refusal} (cond i None (Some refusal.Busy)) None → i ≡ true
idle_begins true e = refl
idle_begins false e = cc

pub busy_steps :
    (i : Bool) → ◌≡◌ {A = Option Refusal} (cond i (Some refusal.Idle) None) None → i ≡ false
busy_steps i e = (passed i refusal.Idle None e).0

-- the numbers of an Insert
pub record Numbers (due item height l x : ℕ) : Type 0 where
  pub small : (ltb max_number due || ltb max_number item) ≡ false
  pub item_there : eqb item 0 ≡ false
  pub height_within : outside height l ≡ false
  pub node_there : eqb x 0 ≡ false

pub numbers :
    (p due item height l x : ℕ) → numbers_refusal (call.Insert p due item height) l ≡ None →
    node_refusal (call.Insert p due item height) x ≡ None → Numbers due item height l x
numbers p due item height l x e g =
    let a = passed (ltb max_number due || ltb max_number item) refusal.TooLarge _ e in
    let b = passed (eqb item 0) refusal.NoItem _ a.1 in
    let c = passed (outside height l) refusal.Height None b.1 in
    let d = passed (eqb x 0) refusal.NoNode None g in
    record { small = a.0; item_there = b.0; height_within = c.0; node_there = d.0 }
