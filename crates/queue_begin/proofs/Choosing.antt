-- The choice of a node: what a search over the nodes finds, and what one more node adds. Assumes
-- nothing.
use mathlib.Core.Path.{◌≡◌, refl, sym, ap, subst, ◌∙◌}
use mathlib.Core.Bool.{Bool, true, false, true≢false, cond}
use mathlib.Core.List.{List}
use Prim.Native.Nat.{ℕ, zero, suc, ◌+◌, ◌-◌, ◌≤◌, ◌<◌}
use native.Mathlib.Decide.{ℕ_discrete}
use native.Mathlib.Omega.{arith}
use lib.Dec.{eqb, ltb}
use lib.ListN.{length, get_or}
use borrow.Author.Tests.{lt-ltb, ne_eqb}
use Rattle.std.specs.Bool.{MatchBool, then_some}
use Rattle.std.specs.Prelude.{Option, Some, None, MatchOption, is_some}
use Rattle.std.specs.List.{AllWithin, HoldsAt}
use Rattle.laws.specs.Every.{every_below}
use Rattle.laws.proofs.Counting.{every_of, every_not}
use Rattle.record.specs.declared.nodes.Use.{Use}
use Rattle.record.specs.declared.nodes.Use.TheVariants as use'
use Rattle.rules.specs.Choice.{is_never, is_retired, retirement, never_used, longest_next, longest_retired}
use Rattle.queue_begin.specs.Found.{found, found_retired}

pub found_some : (x : ℕ) → 1 ≤ x → found x ≡ Some x
found_some x h = ap (λ (b : Bool). cond b None (Some x)) (ne_eqb x 0 (λ e. omega arith))

module _ (state : ℕ → Use) where
  never_none : (n : ℕ) → ((k : ℕ) → 1 ≤ k → k < n + 1 → is_never (state k) ≡ false) → never_used state n ≡ 0
  never_none zero h = refl
  never_none (suc n) h =
      let before : never_used state n ≡ 0 = never_none n (λ k a b. h k a (omega arith)) in
      let here : is_never (state (suc n)) ≡ false = h (suc n) (omega arith) (omega arith) in
      simp (before, here)

  never_first :
      (n i : ℕ) →
      1 ≤ i →
      i < n + 1 →
      is_never (state i) ≡ true →
      ((k : ℕ) → 1 ≤ k → k < i → is_never (state k) ≡ false) →
      never_used state n ≡ i
  never_first zero i a b y h = absurd (omega arith)
  never_first (suc n) i a b y h = by (ℕ_discrete i (suc n)) (λ l. never_first n i a l y h)
    where
      by : Dec (i ≡ suc n) → (i < n + 1 → never_used state n ≡ i) → never_used state (suc n) ≡ i
      by (yes e) f =
          let before : never_used state n ≡ 0 = never_none n (λ k l m. h k l (omega arith)) in
          let here : is_never (state (suc n)) ≡ true = subst (λ x. is_never (state x) ≡ true) e y in
          let last : never_used state (suc n) ≡ suc n = simp (before, here) in
          last ∙ sym e
      by (no ne) f =
          let before : never_used state n ≡ i = f (omega arith) in
          simp (before, lt-ltb 0 i a)

-- `seen` is how the code reads the states; the last premise is what std's `first_from_Range` says of
-- `(1..n + 1).find(..)`
pub never_found :
    (seen state : ℕ → Use) (n : ℕ) (r : Option ℕ) →
    ((k : ℕ) → k < n + 1 → seen k ≡ state k) →
    MatchOption r ((k : ℕ) → 1 ≤ k → k < n + 1 → is_never (seen k) ≡ false)
    (λ i. (1 ≤ i) × (i < n + 1) × (is_never (seen i) ≡ true) × ((k : ℕ) → 1 ≤ k → k < i → is_never (seen k) ≡ false)) →
    r ≡ found (never_used state n)
never_found seen state n None e h =
    sym (ap found (never_none state n (λ k a b. sym (ap is_never (e k b)) ∙ h k a b)))
never_found seen state n (Some i) e h =
    let first = never_first state n i h.0 h.1 (sym (ap is_never (e i h.1)) ∙ h.2) (λ k a b. sym (ap is_never (e k (omega (arith, h.1)))) ∙ h.3 k a b) in
    sym (ap found first ∙ found_some i h.0)

-- `all` over a list of n items, each of which passes f where its number passes g
pub every_item :
    {A : Type 0} (f : A → Bool) (g : ℕ → Bool) (n : ℕ) (d : A) (xs : List A) (r : Bool) →
    length xs ≡ n →
    ((k : ℕ) → k < n → f (get_or xs k d) ≡ g k) →
    MatchBool r (AllWithin (λ x. f x ≡ true) xs 0 (length xs))
    ((k : ℕ) × (k < length xs) × HoldsAt (λ x. f x ≡ false) xs k) →
    r ≡ every_below g n
every_item f g n d xs true l e h =
    sym (every_of g n (λ k m. sym (e k m) ∙ h k d (omega arith) (omega arith)))
every_item f g n d xs false l e h =
    let low : h.0 < n = omega (arith, h.1) in
    sym (every_not g n h.0 (sym (e h.0 low) ∙ h.2 d) low)

pub none_found : (n : ℕ) → is_some (found n) ≡ false → n ≤ 0
none_found zero h = omega arith
none_found (suc n) h = absurd (true≢false (sym (ap is_some (found_some (suc n) (omega arith))) ∙ h))

pub some_found : (n : ℕ) → is_some (found n) ≡ true → 0 < n
some_found zero h = absurd (true≢false (sym h))
some_found (suc n) h = omega arith

not_retired : (u : Use) → ((t : ℕ) → u ≡ use'.Retired t → ⊥) → is_retired u ≡ false
not_retired use'.Never n = refl
not_retired use'.InUse n = refl
not_retired (use'.Retired t) n = absurd (n t refl)

-- What one more node adds to the best so far. Node x is retired at t, and r tells whether that is
-- before the best; or node x is not retired.
module _ (state : ℕ → Use) where
  abbrev best_of : ℕ → Option (ℕ × ℕ)
  best_of x = found_retired state x

  abbrev next : ℕ → ℕ → ℕ
  next top x = longest_next top (state top) x (state x)

  abbrev Told : Option (ℕ × ℕ) → ℕ → Bool → Type 0
  Told best t r = MatchOption best (r ≡ true) (λ p. r ≡ ltb t p.1)

  best_some : (x : ℕ) → 0 < x → best_of x ≡ Some (x, retirement (state x))
  best_some x h =
      ap (λ (b : Bool). cond b None (Some (x, retirement (state x)))) (ne_eqb x 0 (λ e. omega arith))

  newer : (y t n : ℕ) → state (suc y) ≡ use'.Retired t → n ≡ suc y → Some (suc y, t) ≡ best_of n
  newer y t n s e =
      let here = best_some (suc y) (omega arith) ∙ ap (λ (u : Use). Some (suc y, retirement u)) s in
      sym (ap best_of e ∙ here)

  at_some : (b t : ℕ) (best : Option (ℕ × ℕ)) (r : Bool) → best ≡ best_of (suc b) → Told best t r → r ≡ ltb t (retirement (state (suc b)))
  at_some b t best r e m = subst (λ o. Told o t r) (e ∙ best_some (suc b) (omega arith)) m

  older :
      (y t top : ℕ) (best : Option (ℕ × ℕ)) (r : Bool) →
      state (suc y) ≡ use'.Retired t →
      best ≡ best_of top →
      Told best t r →
      r ≡ true →
      Some (suc y, t) ≡ best_of (next top (suc y))
  older y t zero best r s e m k =
      newer y t (next zero (suc y)) s (let one : next zero (suc y) ≡ suc y = simp s in one)
  older y t (suc b) best r s e m k =
      let less : ltb t (retirement (state (suc b))) ≡ true = sym (at_some b t best r e m) ∙ k in
      let some : eqb (suc b) 0 ≡ false = ne_eqb (suc b) 0 (λ z. omega arith) in
      newer y t (next (suc b) (suc y)) s (let one : next (suc b) (suc y) ≡ suc y = simp (s, some, less) in one)

  no_older :
      (y t top : ℕ) (best : Option (ℕ × ℕ)) (r : Bool) →
      state (suc y) ≡ use'.Retired t →
      best ≡ best_of top →
      Told best t r →
      r ≡ false →
      best ≡ best_of (next top (suc y))
  no_older y t zero best r s e m k = absurd (true≢false (sym (subst (λ o. Told o t r) e m) ∙ k))
  no_older y t (suc b) best r s e m k =
      let less : ltb t (retirement (state (suc b))) ≡ false = sym (at_some b t best r e m) ∙ k in
      let some : eqb (suc b) 0 ≡ false = ne_eqb (suc b) 0 (λ z. omega arith) in
      let one : next (suc b) (suc y) ≡ suc b = simp (s, some, less) in
      e ∙ sym (ap best_of one)

  pub longest_older :
      (x t : ℕ) (best : Option (ℕ × ℕ)) (r : Bool) →
      1 ≤ x →
      state x ≡ use'.Retired t →
      best ≡ best_of (longest_retired state (x - 1)) →
      Told best t r →
      r ≡ true →
      Some (x, t) ≡ best_of (longest_retired state (x + 1 - 1))
  longest_older zero t best r low s e m k = absurd (omega arith)
  longest_older (suc y) t best r low s e m k =
      let a : suc y - 1 ≡ y = omega arith in
      let b : suc y + 1 - 1 ≡ suc y = omega arith in
      rw b (older y t (longest_retired state y) best r s (e ∙ ap (λ n. best_of (longest_retired state n)) a) m k)

  pub longest_no_older :
      (x t : ℕ) (best : Option (ℕ × ℕ)) (r : Bool) →
      1 ≤ x →
      state x ≡ use'.Retired t →
      best ≡ best_of (longest_retired state (x - 1)) →
      Told best t r →
      r ≡ false →
      best ≡ best_of (longest_retired state (x + 1 - 1))
  longest_no_older zero t best r low s e m k = absurd (omega arith)
  longest_no_older (suc y) t best r low s e m k =
      let a : suc y - 1 ≡ y = omega arith in
      let b : suc y + 1 - 1 ≡ suc y = omega arith in
      rw b (no_older y t (longest_retired state y) best r s (e ∙ ap (λ n. best_of (longest_retired state n)) a) m k)

  pub longest_same :
      (x : ℕ) (best : Option (ℕ × ℕ)) →
      1 ≤ x →
      ((t : ℕ) → state x ≡ use'.Retired t → ⊥) →
      best ≡ best_of (longest_retired state (x - 1)) →
      best ≡ best_of (longest_retired state (x + 1 - 1))
  longest_same zero best low n e = absurd (omega arith)
  longest_same (suc y) best low n e =
      let a : suc y - 1 ≡ y = omega arith in
      let b : suc y + 1 - 1 ≡ suc y = omega arith in
      let not : is_retired (state (suc y)) ≡ false = not_retired (state (suc y)) n in
      let one : next (longest_retired state y) (suc y) ≡ longest_retired state y = simp not in
      e ∙ rw (a, b) (sym (ap best_of one))

  pub retired_none : (m : ℕ) → None ≡ best_of m → m ≡ 0
  retired_none zero h = refl
  retired_none (suc m) h =
      absurd (true≢false (sym (ap is_some (h ∙ best_some (suc m) (omega arith)))))

  pub retired_some :
      (m x t : ℕ) →
      Some (x, t) ≡ best_of m →
      (m ≡ 0 → ⊥) × (x ≡ m) × (t ≡ retirement (state m))
  retired_some zero x t h = absurd (true≢false (ap is_some h))
  retired_some (suc m) x t h =
      let pair : Option (ℕ × ℕ) → ℕ × ℕ = λ o. elim o [ None ↦ (0, 0) | Some p ↦ p ] in
      let e = ap pair (h ∙ best_some (suc m) (omega arith)) in
      ((λ z. omega arith), ap (λ (p : ℕ × ℕ). p.0) e, ap (λ (p : ℕ × ℕ). p.1) e)

-- node x where b says so
pub then_found : (b : Bool) (x m : ℕ) → x ≡ m → (m ≡ 0 → ⊥) → then_some b x ≡ found (cond b m 0)
then_found true x m e h = ap Some e ∙ sym (found_some m (omega (arith, h)))
then_found false x m e h = refl
