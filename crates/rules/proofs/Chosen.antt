-- The node that is chosen, by what a search over nodes and processors has found. Assumes nothing.
use mathlib.Core.Path.{◌≡◌, sym, ap, ◌∙◌}
use mathlib.Core.Bool.{Bool, cond}
use Prim.Native.Nat.{ℕ, ◌≤◌, ◌<◌}
use native.Mathlib.Omega.{arith}
use borrow.Author.Tests.{lt-ltb, le-ltb}
use Rattle.laws.specs.Every.{every_below}
use Rattle.record.specs.declared.queues.Queue.{Queue}
use Rattle.record.specs.Queues.{processor_at}
use Rattle.rules.specs.Choice.{retirement, never_used, longest_retired, began_after, state_of}
use Rattle.rules.specs.Choice.{chosen}

-- the processors 0 to p - 1 are idle or began after t
abbrev pub after_to : Queue → ℕ → ℕ → Bool
after_to q t p = every_below (λ x. began_after t (processor_at q x).stage (processor_at q x).begin) p

module _ (q : Queue) (lowest best : ℕ) (e : lowest ≡ never_used (state_of q) q.node_count) where
  pub chosen_never : 0 < lowest → lowest ≡ chosen q
  chosen_never h =
      let n : 0 < never_used (state_of q) q.node_count = rw (sym e) h in
      e ∙ simp (lt-ltb _ _ n)

  module _ (f : best ≡ longest_retired (state_of q) q.node_count) (none : lowest ≤ 0) where
    no_never : never_used (state_of q) q.node_count ≤ 0
    no_never = rw (sym e) none

    pub chosen_none : best ≡ 0 → 0 ≡ chosen q
    chosen_none z =
        let b : longest_retired (state_of q) q.node_count ≤ 0 = rw (sym f) (omega arith) in
        simp (le-ltb _ _ no_never, le-ltb _ _ b)

    pub chosen_retired :
        (best ≡ 0 → ⊥) →
        (t : ℕ) (after : Bool) →
        t ≡ retirement (state_of q best) →
        after ≡ after_to q t q.processor_count →
        cond after best 0 ≡ chosen q
    chosen_retired some t after g h =
        let b : 0 < longest_retired (state_of q) q.node_count = rw (sym f) (omega arith) in
        ap (λ (x : Bool). cond x best 0) h ∙ simp (g, f, le-ltb _ _ no_never, lt-ltb _ _ b)
