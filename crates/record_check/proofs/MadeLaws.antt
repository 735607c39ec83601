-- Sizes that are not refused are in their ranges, and make a fresh queue. Assumes nothing.
use Rattle.std.specs.Prelude.{Result, Ok, Err, None, is_none}
use Rattle.std.specs.Result.{result_err}
use mathlib.Core.Path.{◌≡◌, refl, ap}
use mathlib.Core.Bool.{Bool, true, false, cond, false≢true}
use Prim.Native.Nat.{ℕ, ◌≤◌}
use lib.Dec.{ltb}
use borrow.Author.Tests.{ltb-false}
use Rattle.laws.proofs.Booleans.{or_left, or_right}
use Rattle.record.specs.declared.queues.Queue.{Queue}
use Rattle.record.specs.declared.refusals.Refusal.{Refusal}
use Rattle.record.specs.declared.refusals.Refusal.TheVariants as refusal
use Rattle.record.specs.Limits.{max_processors, max_nodes, max_levels}
use Rattle.record.specs.Queues.{fresh_queue}
use Rattle.record_check.specs.Making.{outside, made}

-- of tests alone
abbrev made_by : Bool → Bool → Bool → Queue → Result Queue Refusal
made_by x y z q =
    cond x (Err refusal.Processors) (cond y (Err refusal.Entries) (cond z (Err refusal.Levels) (Ok q)))

pub record AllPass (x y z : Bool) : Type 0 where
  pub first : x ≡ false
  pub second : y ≡ false
  pub third : z ≡ false

all_pass : (x y z : Bool) (q : Queue) → result_err (made_by x y z q) ≡ None → AllPass x y z
all_pass true y z q h = absurd (false≢true (ap is_none h))
all_pass false true z q h = absurd (false≢true (ap is_none h))
all_pass false false true q h = absurd (false≢true (ap is_none h))
all_pass false false false q h = record { first = refl; second = refl; third = refl }

made_all : (x y z : Bool) (q : Queue) → result_err (made_by x y z q) ≡ None → made_by x y z q ≡ Ok q
made_all true y z q h = absurd (false≢true (ap is_none h))
made_all false true z q h = absurd (false≢true (ap is_none h))
made_all false false true q h = absurd (false≢true (ap is_none h))
made_all false false false q h = refl

pub within_range : (x top : ℕ) → outside x top ≡ false → (1 ≤ x) × (x ≤ top)
within_range x top h =
    let low : 1 ≤ x = ltb-false x 1 (or_left (ltb x 1) (ltb top x) h) in
    (low, ltb-false top x (or_right (ltb x 1) (ltb top x) h))

pub record MadeSizes (p n l : ℕ) : Type 0 where
  pub processors_low : 1 ≤ p
  pub processors_high : p ≤ max_processors
  pub nodes_low : 1 ≤ n
  pub nodes_high : n ≤ max_nodes
  pub levels_low : 1 ≤ l
  pub levels_high : l ≤ max_levels

module _ (p n l : ℕ) where
  pub made_sizes : result_err (made p n l) ≡ None → MadeSizes p n l
  made_sizes h =
      let t = all_pass (outside p max_processors) (outside n max_nodes) (outside l max_levels)
      (fresh_queue p n l) h in
      let x = within_range p max_processors t.first in
      let y = within_range n max_nodes t.second in
      let z = within_range l max_levels t.third in
      record {
        processors_low = x.0;
        processors_high = x.1;
        nodes_low = y.0;
        nodes_high = y.1;
        levels_low = z.0;
        levels_high = z.1;
      }

  pub made_fresh : result_err (made p n l) ≡ None → made p n l ≡ Ok (fresh_queue p n l)
  made_fresh =
      made_all (outside p max_processors) (outside n max_nodes) (outside l max_levels)
      (fresh_queue p n l)
