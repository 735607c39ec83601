-- What a call is refused with, as the code asks for it: first without a node, then with the node
-- that an Insert takes. Assumes nothing.
use mathlib.Core.Path.{◌≡◌, refl, sym, ap, ◌∙◌}
use mathlib.Core.Bool.{Bool, true, false, cond, ◌&&◌}
use Prim.Native.Nat.{ℕ, zero, suc}
use native.Mathlib.Omega.{arith}
use lib.Dec.{ltb, leb}
use borrow.Author.Tests.{lt-ltb, leb-false, ne_eqb}
use Rattle.std.specs.Prelude.{Option, Some, None}
use Rattle.std.specs.Option.{unwrap_or}
use Rattle.record.specs.declared.queues.Queue.{Queue}
use Rattle.record.specs.declared.refusals.Refusal.{Refusal}
use Rattle.record.specs.declared.refusals.Refusal.TheVariants as refusal
use Rattle.record.specs.Limits.{max_number}
use Rattle.rules.specs.declared.answers.Outcome.{Outcome}
use Rattle.rules.specs.declared.calls.Call.{Call}
use Rattle.rules.specs.declared.decisions.Decision.{Decision}
use Rattle.rules.specs.Calls.{decision_of, processor_of, turn_refusal, numbers_refusal, node_refusal}
use Rattle.rules.specs.Calls.{taken, first_of, refusal_by, idle_at, refusal_of, called_valid}
use Rattle.rules.specs.Effects.{applied, accepted}
use Rattle.rules.proofs.Allowed.{first_none}
use Rattle.rules.proofs.Inner.{call_accepted}
use Rattle.queue_begin.specs.Found.{found}

number_found : (n : ℕ) → unwrap_or (found n) 0 ≡ n
number_found zero = refl
number_found (suc n) =
    ap (λ (b : Bool). unwrap_or (cond b None (Some (suc n))) 0) (ne_eqb (suc n) 0 (λ e. omega arith))

-- the number of the node that a call takes, as the code has it
pub taken_number :
    (q : Queue) (c : Call) (o : Option ℕ) (x : ℕ) →
    o ≡ found (taken q c) →
    x ≡ unwrap_or o 0 →
    x ≡ taken q c
taken_number q c o x e h = h ∙ (ap (λ (p : Option ℕ). unwrap_or p 0) e ∙ number_found (taken q c))

module _ (q : Queue) (c : Call) where
  abbrev by : Bool → Option Refusal
  by i = refusal_by c q.clock q.processor_count q.level_count i

  -- what is asked before a node is looked for
  abbrev early : Option Refusal
  early = by (idle_at q (processor_of c))

  abbrev of_turn : Bool → Option Refusal
  of_turn i = first_of (turn_refusal c i) (numbers_refusal c q.level_count)

  -- of a processor that is not there it does not matter whether it is idle
  there :
      (b i : Bool) →
      leb q.processor_count (processor_of c) ≡ b →
      cond b (Some refusal.NoProcessor) (of_turn (ltb (processor_of c) q.processor_count && i))
      ≡ cond b (Some refusal.NoProcessor) (of_turn i)
  there true i e = refl
  there false i e =
      ap (λ (h : Bool). of_turn (h && i)) (lt-ltb (processor_of c) q.processor_count (leb-false _ _ e))

  -- p, i and n are what the code has: the call's processor, whether it is idle, the first refusal
  module _
      (p : ℕ)
      (i : Bool)
      (n : Option Refusal)
      (ep : p ≡ processor_of c)
      (ei : i ≡ (ltb p q.processor_count && idle_at q p))
      (en : n ≡ by i) where
    asked : n ≡ early
    asked =
        let idle = idle_at q (processor_of c) in
        let at : i ≡ (ltb (processor_of c) q.processor_count && idle) =
        ei ∙ ap (λ (x : ℕ). ltb x q.processor_count && idle_at q x) ep in
        let same = there (leb q.processor_count (processor_of c)) idle refl in
        en ∙ (ap by at ∙ ap (λ (m : Option Refusal). cond (leb max_number q.clock) (Some refusal.ClockSpent) m) same)

    -- nor is there one for want of the node x that the call takes
    pub no_refusal :
        (x : ℕ) (m : Option Refusal) →
        n ≡ None →
        x ≡ taken q c →
        m ≡ node_refusal c x →
        m ≡ None →
        refusal_of q c ≡ None
    no_refusal x m none ex em late =
        first_none early (node_refusal c (taken q c)) (sym asked ∙ none)
        ∙ (sym (em ∙ ap (λ (y : ℕ). node_refusal c y) ex) ∙ late)

  -- the outcome as the code makes it
  pub call_made :
      (p : ℕ) (d : Decision) (r : Queue) →
      p ≡ processor_of c →
      d ≡ decision_of q c →
      r ≡ applied q p d →
      refusal_of q c ≡ None →
      ◌≡◌ {A = Outcome} (record { queue = r; answer = d.answer }) (called_valid q c)
  call_made p d r ep ed er e =
      let outcome : Queue → Outcome = λ s. record { queue = s; answer = d.answer } in
      ap outcome er
      ∙ (ap (λ (x : ℕ). accepted q x d) ep
      ∙ (ap (accepted q (processor_of c)) ed ∙ sym (call_accepted q c e)))
