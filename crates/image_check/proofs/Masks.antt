-- A test of the first l numbers as one of the first n that passes past l. Assumes nothing.
use mathlib.Core.Path.{◌≡◌, refl, sym, ◌∙◌, ap}
use mathlib.Core.Bool.{Bool, ◌||◌, and-true}
use Prim.Native.Nat.{ℕ, zero, suc, ◌≤◌}
use native.Mathlib.Decide.{ℕ_discrete}
use native.Mathlib.Omega.{arith}
use lib.Dec.{leb}
use borrow.Author.Tests.{le-leb, lt-leb}
use Rattle.laws.specs.Every.{every_below}

module _ (f : ℕ → Bool) (l : ℕ) where
  below : (m : ℕ) → m ≤ l → every_below (λ k. leb l k || f k) m ≡ every_below f m
  below zero h = refl
  below (suc m) h = rw (below m (omega arith), lt-leb l m (omega arith)) refl

  pub masked : (n : ℕ) → l ≤ n → every_below (λ k. leb l k || f k) n ≡ every_below f l
  masked zero h = below 0 (omega arith) ∙ ap (every_below f) (let z : 0 ≡ l = omega arith in z)
  masked (suc n) h = go (ℕ_discrete l (suc n)) (masked n)
    where
      go : Dec (l ≡ suc n) → (l ≤ n → every_below (λ k. leb l k || f k) n ≡ every_below f l) →
          every_below (λ k. leb l k || f k) (suc n) ≡ every_below f l
      go (yes e) r = below (suc n) (omega arith) ∙ ap (every_below f) (sym e)
      go (no ne) r = rw (r (omega arith), le-leb l n (omega arith)) (and-true (every_below f l))
