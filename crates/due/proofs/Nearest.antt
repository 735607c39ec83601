-- The nearest minute is the only one within half a minute, an odd one within less: so there is one,
-- and it is the computed one. Assumes nothing.
use Prim.Native.Nat.{ℕ, ◌+◌, ◌-◌, ◌*◌, ◌/◌, ◌%◌, ◌≤◌}
use mathlib.Core.Path.{◌≡◌, refl, sym, ap, subst}
use mathlib.Core.Logic.{⊎_elim}
use mathlib.Core.Bool.{Bool, true, false, cond}
use lib.Dec.{ltb}
use native.Mathlib.Nat.{eq-or-lt_of_le}
use native.Mathlib.Omega.{arith, by_contra}
use borrow.Author.Tests.{ltb-true, ltb-false}
use Rattle.record.specs.Limits.{max_number}
use Rattle.due.specs.Due.{Nearest, nearest_minute, OneNearest, TakenIfDue}

-- s seconds are at most half a minute from m minutes, and less than that if m is odd
record Within (s m : ℕ) : Type 0 where
  pub below : m * 60 + m % 2 ≤ s + 30
  pub above : s + m % 2 ≤ m * 60 + 30

nearest_of : (s m : ℕ) → Within s m → Nearest s m
nearest_of s m w = record { none_nearer = λ k. omega arith; even_of_two = λ k o e. omega arith }

-- otherwise the minute before or the minute after would be nearer, or as near and even
within_of_lem : (s m : ℕ) → Nearest s m → Within s m
within_of_lem s m n = record {
  below = by_contra _ _ (λ h.
      let l = n.none_nearer (m - 1) in
      let e : m % 2 ≡ 0 = n.even_of_two (m - 1) (λ x. omega arith) (omega arith) in
      omega arith);
  above = by_contra _ _ (λ h.
      let l = n.none_nearer (m + 1) in
      let e : m % 2 ≡ 0 = n.even_of_two (m + 1) (λ x. omega arith) (omega arith) in
      omega arith);
}

-- of two minutes in a row one is odd
odd_of_two : (m : ℕ) → 1 ≤ m % 2 + (m + 1) % 2
odd_of_two m = omega arith

-- two different minutes would follow each other and both be even
within_least : (s m k : ℕ) → Within s m → Within s k → m ≤ k
within_least s m k v w = by_contra _ _ (λ h.
    let e : m ≡ k + 1 = omega arith in
    let o : 1 ≤ k % 2 + m % 2 = rw (e) (odd_of_two k) in
    omega arith)

within_one : (s m k : ℕ) → Within s m → Within s k → m ≡ k
within_one s m k v w =
    let a = within_least s m k v w in
    let b = within_least s k m w v in
    omega arith

even_made : (m : ℕ) → (m + m % 2) % 2 ≡ 0
even_made m = omega arith

-- what is left over is less than half a minute, more, or exactly that
computed_within : (s : ℕ) → Within s (nearest_minute s)
computed_within s = go (ltb (s % 60) 30) refl (ltb 30 (s % 60)) refl
  where
    go :
        (a : Bool) → ltb (s % 60) 30 ≡ a → (b : Bool) → ltb 30 (s % 60) ≡ b →
        Within s (cond a (s / 60) (cond b (s / 60 + 1) (s / 60 + s / 60 % 2)))
    go true e b f =
        let h = ltb-true (s % 60) 30 e in
        record { below = omega arith; above = omega arith }
    go false e true f =
        let h = ltb-true 30 (s % 60) f in
        record { below = omega arith; above = omega arith }
    go false e false f =
        let h = ltb-false (s % 60) 30 e in
        let i = ltb-false 30 (s % 60) f in
        let j = even_made (s / 60) in
        record { below = omega arith; above = omega arith }

-- what code shows of a minute that it found
pub found :
    (s m : ℕ) → m * 60 + m % 2 ≤ s + 30 → s + m % 2 ≤ m * 60 + 30 →
    (m ≡ nearest_minute s) × Nearest s m
found s m b a =
    let w : Within s m = record { below = b; above = a } in
    (within_one s m (nearest_minute s) w (computed_within s), nearest_of s m w)

pub one_nearest : OneNearest
one_nearest s m = (
  (λ n. within_one s m (nearest_minute s) (within_of_lem s m n) (computed_within s)),
  (λ e. subst (Nearest s) (sym e) (nearest_of s (nearest_minute s) (computed_within s))),
)

-- the minute 999,999 is odd
pub taken_if_due : TakenIfDue
taken_if_due s m n =
    let w = within_of_lem s m n in
    let odd : m ≡ max_number → m % 2 ≡ 1 = λ e. ap (λ (x : ℕ). x % 2) e in (
      (λ h. omega arith),
      (λ h. ⊎_elim (λ e. omega (arith, odd e)) (λ l. omega arith) (eq-or-lt_of_le h)),
    )
