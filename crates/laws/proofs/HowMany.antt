-- Laws of `how_many`: one more number, tests that say the same, a test split by another, and two
-- tests whose numbers are paired off. Assumes nothing.
use mathlib.Core.Path.{◌≡◌, refl, sym, ap, ◌∙◌}
use mathlib.Core.Bool.{Bool, true, false, cond, ◌&&◌, not, true≢false, and-true, and-false}
use Prim.Native.Nat.{ℕ, zero, suc, ◌+◌, ◌≤◌}
use native.Mathlib.Decide.{ℕ_discrete}
use native.Mathlib.Numerals.{add-one}
use native.Mathlib.Omega.{arith}
use lib.Dec.{eqb}
use borrow.Author.Tests.{eq-eqb, ne_eqb}
use Rattle.laws.specs.HowMany.{how_many}
use Rattle.laws.proofs.Booleans.{cond_cases}
use Rattle.laws.proofs.Counting.{and_left}

pub many_more : (f : ℕ → Bool) (i : ℕ) → how_many f (i + 1) ≡ how_many f i + cond (f (i + 1)) 1 0
many_more f i = rw add-one

pub many_same :
    (f g : ℕ → Bool) (n : ℕ) → ((x : ℕ) → 1 ≤ x → x ≤ n → f x ≡ g x) → how_many f n ≡ how_many g n
many_same f g zero h = refl
many_same f g (suc n) h =
    let rest = many_same f g n (λ x x≥ x≤. h x x≥ (omega arith)) in
    rw (rest, h (suc n) (omega arith) (omega arith))

-- those of f that g does not pass, and those that it passes
pub many_split :
    (f g : ℕ → Bool) (n : ℕ) →
    how_many (λ x. f x && not (g x)) n + how_many (λ x. f x && g x) n ≡ how_many f n
many_split f g zero = refl
many_split f g (suc n) = omega (arith, many_split f g n, split (f (suc n)) (g (suc n)))
  where
    split : (a b : Bool) → cond (a && not b) 1 0 + cond (a && b) 1 0 ≡ cond a 1 0
    split true true = refl
    split true false = refl
    split false b = refl

-- x is one of the numbers 1 to n and passes f
pub record Passed (f : ℕ → Bool) (n x : ℕ) : Type 0 where
  pub low : 1 ≤ x
  pub high : x ≤ n
  pub passes : f x ≡ true

wider : (f : ℕ → Bool) (n x : ℕ) → Passed f n x → Passed f (suc n) x
wider f n x P = record { low = P.low; high = omega (arith, P.high); passes = P.passes }

many_none : (f : ℕ → Bool) (n : ℕ) → ((x : ℕ) → Passed f n x → ⊥) → how_many f n ≡ 0
many_none f zero h = refl
many_none f (suc n) h =
    cond_cases (λ (k : ℕ). how_many f n + k ≡ 0) (f (suc n)) 1 0
    (λ e. absurd (h (suc n) (record { low = omega arith; high = omega arith; passes = e })))
    (λ _. omega (arith, many_none f n (λ x P. h x (wider f n x P))))

-- f without the number y
abbrev without : (ℕ → Bool) → ℕ → ℕ → Bool
without f y x = f x && not (eqb x y)

without_other : (f : ℕ → Bool) (y x : ℕ) → (x ≡ y → ⊥) → without f y x ≡ f x
without_other f y x ne = rw (ne_eqb x y ne) (and-true (f x))

without_self : (f : ℕ → Bool) (y : ℕ) → without f y y ≡ false
without_self f y = rw (eq-eqb y y refl) (and-false (f y))

-- one fewer
many_without :
    (f : ℕ → Bool) (n y : ℕ) → Passed f n y → how_many f n ≡ how_many (without f y) n + 1
many_without f zero y P = absurd (omega (arith, P.low, P.high))
many_without f (suc n) y P =
    go (ℕ_discrete y (suc n))
    (λ low. many_without f n y (record { low = P.low; high = low; passes = P.passes }))
  where
    go : Dec (y ≡ suc n) →
        (y ≤ n → how_many f n ≡ how_many (without f y) n + 1) →
        how_many f n + cond (f (suc n)) 1 0
        ≡ how_many (without f y) n + cond (without f y (suc n)) 1 0 + 1
    go (yes e) r =
        let away : (x : ℕ) → x ≤ n → x ≡ y → ⊥ = λ x x≤ g. omega arith in
        let rest = many_same f (without f y) n (λ x _ x≤. sym (without_other f y x (away x x≤))) in
        let here : f (suc n) ≡ true = rw (sym e) P.passes in
        let gone : without f y (suc n) ≡ false = rw (sym e) (without_self f y) in
        rw (gone, here) (omega (arith, rest))
    go (no ne) r =
        rw (without_other f y (suc n) (λ g. ne (sym g)))
        (omega (arith, r (omega (arith, P.high, ne))))

-- y is the partner of a number that passes f
pub record Partner (f : ℕ → Bool) (m : ℕ) (to : ℕ → ℕ) (y : ℕ) : Type 0 where
  pub number : ℕ
  pub passed : Passed f m number
  pub is : to number ≡ y

-- `to` pairs off the numbers of 1 to m that pass f with those of 1 to n that pass g
pub record Paired (f g : ℕ → Bool) (m n : ℕ) (to : ℕ → ℕ) : Type 0 where
  pub passes : (x : ℕ) → Passed f m x → Passed g n (to x)
  pub found : (y : ℕ) → Passed g n y → Partner f m to y
  pub once : (x z : ℕ) → Passed f m x → Passed f m z → to x ≡ to z → x ≡ z

module _ (f g : ℕ → Bool) (m n : ℕ) (to : ℕ → ℕ) (P : Paired f g (suc m) n to) where
  -- a partner of another number than the last
  before_last : (y : ℕ) (F : Partner f (suc m) to y) → (F.number ≡ suc m → ⊥) → Partner f m to y
  before_last y F ne =
      let Q = F.passed in
      record {
        number = F.number;
        passed = record { low = Q.low; high = omega (arith, Q.high, ne); passes = Q.passes };
        is = F.is;
      }

  once : (x z : ℕ) → Passed f m x → Passed f m z → to x ≡ to z → x ≡ z
  once x z X Z = P.once x z (wider f m x X) (wider f m z Z)

  -- the last number does not pass
  last_left : f (suc m) ≡ false → Paired f g m n to
  last_left e = record {
    passes = λ x X. P.passes x (wider f m x X);
    found = λ y Y.
        let F = P.found y Y in
        before_last y F (λ k. true≢false (sym F.passed.passes ∙ ap f k ∙ e));
    once = once;
  }

  -- it passes: the others are paired off with all but its partner
  module _ (e : f (suc m) ≡ true) where
    abbrev rest : ℕ → Bool
    rest = without g (to (suc m))

    last : Passed f (suc m) (suc m)
    last = record { low = omega arith; high = omega arith; passes = e }

    apart : (x : ℕ) → Passed f m x → to x ≡ to (suc m) → ⊥
    apart x X k =
        let same : x ≡ suc m = P.once x (suc m) (wider f m x X) last k in omega (arith, X.high)

    last_taken : Paired f rest m n to
    last_taken = record {
      passes = λ x X.
          let Y = P.passes x (wider f m x X) in
          let other = without_other g (to (suc m)) (to x) (apart x X) in
          record { low = Y.low; high = Y.high; passes = other ∙ Y.passes };
      found = λ y Y.
          let passes = and_left (g y) (not (eqb y (to (suc m)))) Y.passes in
          let F = P.found y (record { low = Y.low; high = Y.high; passes = passes }) in
          let gone = without_self g (to (suc m)) in
          before_last y F
          (λ k. true≢false (sym Y.passes ∙ ap rest (sym F.is ∙ ap to k) ∙ gone));
      once = once;
    }

    one_fewer : how_many g n ≡ how_many rest n + 1
    one_fewer = many_without g n (to (suc m)) (P.passes (suc m) last)

pub many_paired :
    (f g : ℕ → Bool) (m n : ℕ) (to : ℕ → ℕ) → Paired f g m n to → how_many f m ≡ how_many g n
many_paired f g zero n to P =
    sym (many_none g n (λ y Y. let F = (P.found y Y).passed in omega (arith, F.low, F.high)))
many_paired f g (suc m) n to P =
    cond_cases (λ (k : ℕ). how_many f m + k ≡ how_many g n) (f (suc m)) 1 0
    (λ e.
    let fewer = many_paired f (without g (to (suc m))) m n to (last_taken f g m n to P e) in
    omega (arith, fewer, one_fewer f g m n to P e))
    (λ e. omega (arith, many_paired f g m n to (last_left f g m n to P e)))
