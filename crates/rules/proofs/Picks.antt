-- The book's pick is its least candidate. Assumes nothing.
use mathlib.Core.Path.{◌≡◌, refl, sym, ◌∙◌}
use mathlib.Core.Bool.{Bool, true, false, cond, ◌&&◌, ◌||◌, not, true≢false}
use Prim.Native.Nat.{ℕ, zero, suc, ◌≤◌, ◌<◌}
use native.Mathlib.Omega.{arith}
use native.Mathlib.Decide.{ℕ_discrete}
use lib.Dec.{ltb, eqb}
use borrow.Author.Tests.{ltb-true, ltb-false, eqb-true, eqb-false, lt-ltb, not-true}
use Rattle.laws.proofs.Counting.{and_left, and_right}
use Rattle.rules.specs.Book.{Book, candidate, earlier, better, pick_to, pick}
use Rattle.rules.proofs.Put.{ever}
use Rattle.rules.proofs.View.{entry_rank}
use Rattle.rules.proofs.Ranks.{entries_before}

-- the entry t may be the pick of a Delete_Min begun at T
pub record Candidate (b : Book) (T t : ℕ) : Type 0 where
  pub written : (b.entry t).written ≡ true
  pub answered : (b.entry t).answered_at < T
  pub unmarked : (b.entry t).marked ≡ false

abbrev pub order : Book → ℕ → ℕ
order b t = entry_rank (b.entry t).due t

-- r is the pick among the tickets 1 to n
pub data Picked (b : Book) (T n r : ℕ) : Type 0 where
  none : r ≡ 0 → ((t : ℕ) → 1 ≤ t → t ≤ n → Candidate b T t → ⊥) → Picked b T n r
  one : 1 ≤ r → r ≤ n → Candidate b T r → ((t : ℕ) → 1 ≤ t → t ≤ n → Candidate b T t → order b r ≤ order b t) → Picked b T n r

pub candidate_true : (b : Book) (T t : ℕ) → candidate b T t ≡ true → Candidate b T t
candidate_true b T t h =
    let w = (b.entry t).written in
    let a = ltb (b.entry t).answered_at T in
    let m = not (b.entry t).marked in
    let l = and_left (w && a) m h in
    record {
      written = and_left w a l;
      answered = ltb-true _ _ (and_right w a l);
      unmarked = not-true (b.entry t).marked (and_right (w && a) m h);
    }

pub candidate_is : (b : Book) (T t : ℕ) → Candidate b T t → candidate b T t ≡ true
candidate_is b T t C = rw (C.written, lt-ltb (b.entry t).answered_at T C.answered, C.unmarked)

-- what holds of 1 to n and of n + 1
up_to : (n : ℕ) (P : ℕ → Type 0) → P (suc n) → ((t : ℕ) → 1 ≤ t → t ≤ n → P t) → (t : ℕ) → 1 ≤ t → t ≤ suc n → P t
up_to n P h k t t≥ t≤ = go (ℕ_discrete t (suc n))
  where
    go : Dec (t ≡ suc n) → P t
    go (yes e) = rw e h
    go (no d) = k t t≥ (omega arith)

better_picked : (b : Book) (T n r : ℕ) → suc n < ever → Picked b T n r → Picked b T (suc n) (better b T (suc n) r)
better_picked b T n r n< P = go (candidate b T (suc n)) refl (eqb r 0) refl (earlier b (suc n) r) refl P
  where
    order_test : r ≤ n → earlier b (suc n) r ≡ ltb (order b (suc n)) (order b r)
    order_test r≤ = entries_before (b.entry (suc n)).due (suc n) (b.entry r).due r (omega arith) (omega arith)

    no_candidate : candidate b T (suc n) ≡ false → Candidate b T (suc n) → ⊥
    no_candidate e c = true≢false (sym (candidate_is b T (suc n) c) ∙ e)

    go : (x : Bool) → candidate b T (suc n) ≡ x → (y : Bool) → eqb r 0 ≡ y → (z : Bool) → earlier b (suc n) r ≡ z → Picked b T n r → Picked b T (suc n) (cond (x && (y || z)) (suc n) r)
    go false e y f z g (none h k) = none h (up_to n (λ t. Candidate b T t → ⊥) (no_candidate e) k)
    go false e y f z g (one l i c m) = one l (omega arith) c (up_to n (λ t. Candidate b T t → order b r ≤ order b t) (λ d. absurd (no_candidate e d)) m)
    go true e true f z g (none h k) = one (omega arith) (omega arith) (candidate_true b T (suc n) e) (up_to n (λ t. Candidate b T t → order b (suc n) ≤ order b t) (λ d. omega arith) (λ t t≥ t≤ d. absurd (k t t≥ t≤ d)))
    go true e true f z g (one l i c m) = absurd (omega (arith, eqb-true r 0 f))
    go true e false f z g (none h k) = absurd (eqb-false r 0 f h)
    go true e false f true g (one l i c m) =
        let lt : order b (suc n) < order b r = ltb-true (order b (suc n)) (order b r) (sym (order_test i) ∙ g) in
        one (omega arith) (omega arith) (candidate_true b T (suc n) e) (up_to n (λ t. Candidate b T t → order b (suc n) ≤ order b t) (λ d. omega arith) (λ t t≥ t≤ d. omega (arith, m t t≥ t≤ d)))
    go true e false f false g (one l i c m) =
        let ge : order b r ≤ order b (suc n) = ltb-false (order b (suc n)) (order b r) (sym (order_test i) ∙ g) in
        one l (omega arith) c (up_to n (λ t. Candidate b T t → order b r ≤ order b t) (λ d. ge) m)

picked_to : (b : Book) (T n : ℕ) → n < ever → Picked b T n (pick_to b T n)
unfolding pick_to
picked_to b T zero n< = none refl (λ t t≥ t≤ c. omega arith)
picked_to b T (suc n) n< = better_picked b T n (pick_to b T n) n< (picked_to b T n (omega arith))

pub picked : (b : Book) (T : ℕ) → b.count < ever → Picked b T b.count (pick b T)
picked b T n< = picked_to b T b.count n<
