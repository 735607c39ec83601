-- Laws of digits, and of the value and the form of columns, one column more at a time. Assumes
-- nothing.
use mathlib.Core.Path.{◌≡◌, refl, sym, ap, ◌∙◌}
use mathlib.Core.Bool.{Bool, true, false, cond, and-false, or-true, true≢false}
use mathlib.Core.List.{List}
use Prim.Native.Nat.{ℕ, zero, suc, ◌+◌, ◌-◌, ◌*◌, ◌^◌, ◌≤◌, ◌<◌}
use native.Mathlib.Nat.{pow-suc, one-le-pow, pow-le-pow_right, sub_self, mul-one, mul_assoc}
use native.Mathlib.Nat.{add-mul}
use native.Mathlib.Numerals.{add-one}
use native.Mathlib.Omega.{arith}
use lib.Dec.{leb}
use lib.ListN.{get_or}
use borrow.Author.Tests.{lt-ltb, leb-true, eqb-true}
use Rattle.laws.proofs.Booleans.{cond_cases}
use Rattle.laws.proofs.Counting.{and_left, and_right, and_both, every_not}
use Rattle.sheet_format.specs.Columns.{is_space, is_digit, digit_of, places_to, columns_value}
use Rattle.sheet_format.specs.Columns.{blank_to, column_keeps, columns_keep}
use Rattle.sheet_format.specs.Digits.{extended_by, ColumnExtends, KeptIsValue, kept_value}

-- ---- digits

pub digit_low : (c : ℕ) → is_digit c ≡ true → 48 ≤ c
digit_low c h = leb-true 48 c (and_left (leb 48 c) (leb c 57) h)

pub digit_high : (c : ℕ) → is_digit c ≡ true → c ≤ 57
digit_high c h = leb-true c 57 (and_right (leb 48 c) (leb c 57) h)

pub digit_is : (c : ℕ) → is_digit c ≡ true → digit_of c ≡ c - 48
digit_is c h = rw h

pub digit_small : (c : ℕ) → digit_of c ≤ 9
digit_small c =
    cond_cases (λ (d : ℕ). d ≤ 9) (is_digit c) (c - 48) 0 (λ t. omega (arith, digit_high c t))
    (λ _. omega arith)

-- ---- the value

-- with one column more behind them, columns count ten times as much
places_shift : (s : List ℕ) (k j : ℕ) → j ≤ k → places_to s (suc k) j ≡ places_to s k j * 10
places_shift s k zero h = refl
places_shift s k (suc j) h =
    let d = digit_of (get_or s j 0) in
    let p = 10 ^ (k - suc j) in
    let e : suc k - suc j ≡ suc (k - suc j) = omega arith in
    let t : 10 ^ (suc k - suc j) ≡ p * 10 = ap (λ (n : ℕ). 10 ^ n) e ∙ pow-suc 10 (k - suc j) in
    ap (λ (x : ℕ). x + d * 10 ^ (suc k - suc j)) (places_shift s k j (omega arith))
    ∙ ap (λ (x : ℕ). places_to s k j * 10 + d * x) t
    ∙ ap (λ (x : ℕ). places_to s k j * 10 + x) (sym (mul_assoc d p 10))
    ∙ sym (add-mul (places_to s k j) (d * p) 10)

-- 02, W4: one column more extends the value so far
pub value_next :
    (s : List ℕ) (k : ℕ) → columns_value s (suc k) ≡ columns_value s k * 10 + digit_of (get_or s k 0)
value_next s k =
    let d = digit_of (get_or s k 0) in
    ap (λ (x : ℕ). x + d * 10 ^ (suc k - suc k)) (places_shift s k k (omega arith))
    ∙ ap (λ (n : ℕ). columns_value s k * 10 + d * 10 ^ n) (sub_self (suc k))
    ∙ ap (λ (x : ℕ). columns_value s k * 10 + x) (mul-one d)

pub value_below : (s : List ℕ) (k : ℕ) → columns_value s k < 10 ^ k
value_below s zero = one-le-pow zero 10 (omega arith)
value_below s (suc k) =
    rw (value_next s k, pow-suc) (omega (arith, digit_small (get_or s k 0), value_below s k))

-- before the last of seven columns there is room for one digit more
pub value_small : (s : List ℕ) (k : ℕ) → k ≤ 6 → columns_value s k ≤ 999999
value_small s k h =
    let p : 10 ^ k ≤ 10 ^ 6 = pow-le-pow_right (omega arith) h in
    let q : 10 ^ k ≤ 1000000 = p in
    omega (arith, value_below s k)

-- spaces alone are worth nothing
pub blank_value : (s : List ℕ) (k : ℕ) → blank_to s k ≡ true → columns_value s k ≡ 0
blank_value s zero h = refl
blank_value s (suc k) h =
    let c = get_or s k 0 in
    let before : columns_value s k ≡ 0 = blank_value s k (and_left (blank_to s k) (is_space c) h) in
    let e : c ≡ 32 = eqb-true c 32 (and_right (blank_to s k) (is_space c) h) in
    value_next s k ∙ rw (before, e) refl

-- ---- the form

pub keeps_next :
    (s : List ℕ) (k : ℕ) → columns_keep s k ≡ true → column_keeps s k ≡ true
    → columns_keep s (suc k) ≡ true
keeps_next s k h t = and_both (columns_keep s k) (column_keeps s k) h t

-- one column is enough for columns not to keep the form, or not to be blank
pub keeps_not : (s : List ℕ) (k n : ℕ) → column_keeps s k ≡ false → k < n → columns_keep s n ≡ false
keeps_not s k n h l = every_not (column_keeps s) n k h l

pub blank_not : (s : List ℕ) (k n : ℕ) → k < n → is_space (get_or s k 0) ≡ false → blank_to s n ≡ false
blank_not s k n h e = every_not (λ j. is_space (get_or s j 0)) n k e h

pub blank_keeps : (s : List ℕ) (k : ℕ) → blank_to s k ≡ true → columns_keep s k ≡ true
blank_keeps s zero h = refl
blank_keeps s (suc k) h =
    let b : blank_to s k ≡ true = and_left (blank_to s k) (is_space (get_or s k 0)) h in
    let e : is_space (get_or s k 0) ≡ true = and_right (blank_to s k) (is_space (get_or s k 0)) h in
    keeps_next s k (blank_keeps s k b) (rw (b, e) refl)

-- a column behind spaces alone
pub first_keeps :
    (s : List ℕ) (k : ℕ) → blank_to s k ≡ true → is_digit (get_or s k 0) ≡ true → column_keeps s k ≡ true
first_keeps s k b t = rw (b, t) (or-true (is_space (get_or s k 0)))

pub first_fails :
    (s : List ℕ) (k : ℕ) → blank_to s k ≡ true → is_space (get_or s k 0) ≡ false
    → is_digit (get_or s k 0) ≡ false → column_keeps s k ≡ false
first_fails s k b e t = rw (b, e, t) refl

-- a column behind a digit
pub later_keeps :
    (s : List ℕ) (k : ℕ) → blank_to s k ≡ false → is_digit (get_or s k 0) ≡ true → 1 ≤ columns_value s k
    → column_keeps s k ≡ true
later_keeps s k b t h = rw (b, t) (lt-ltb 0 (columns_value s k) h)

pub later_fails :
    (s : List ℕ) (k : ℕ) → blank_to s k ≡ false → is_digit (get_or s k 0) ≡ false
    → column_keeps s k ≡ false
later_fails s k b t = rw (b, t) refl

pub zero_fails :
    (s : List ℕ) (k : ℕ) → blank_to s k ≡ false → columns_value s k ≡ 0 → column_keeps s k ≡ false
zero_fails s k b z = rw (b, z) (and-false (is_digit (get_or s k 0)))

-- columns that are worth something are not blank
pub worth_not_blank : (s : List ℕ) (k : ℕ) → 1 ≤ columns_value s k → blank_to s k ≡ false
worth_not_blank s k h = go (blank_to s k) refl
  where
    go : (t : Bool) → blank_to s k ≡ t → blank_to s k ≡ false
    go false e = e
    go true e = absurd (omega (arith, blank_value s k e))

-- ---- 02, W4

pub column_extends : ColumnExtends
column_extends s k = ap (columns_value s) (add-one k) ∙ value_next s k

-- where a column holds no digit and keeps the form, the columns before it are worth nothing
no_digit_blank :
    (s : List ℕ) (k : ℕ) → is_digit (get_or s k 0) ≡ false → column_keeps s k ≡ true
    → columns_value s k ≡ 0
no_digit_blank s k t h = go (blank_to s k) refl
  where
    go : (b : Bool) → blank_to s k ≡ b → columns_value s k ≡ 0
    go true b = blank_value s k b
    go false b = absurd (true≢false (sym h ∙ later_fails s k b t))

pub kept_is_value : KeptIsValue
kept_is_value s zero h = refl
kept_is_value s (suc k) h =
    go (is_digit (get_or s k 0)) refl
    (kept_is_value s k (and_left (columns_keep s k) (column_keeps s k) h))
  where
    go :
        (t : Bool) → is_digit (get_or s k 0) ≡ t → kept_value s k ≡ columns_value s k
        → kept_value s (suc k) ≡ columns_value s (suc k)
    go true t e =
        let c = get_or s k 0 in
        ap (λ (b : Bool). cond b (extended_by (kept_value s k) c) (kept_value s k)) t
        ∙ ap (λ (v : ℕ). extended_by v c) e
        ∙ ap (λ (d : ℕ). columns_value s k * 10 + d) (sym (digit_is c t))
        ∙ sym (value_next s k)
    go false t e =
        let c = get_or s k 0 in
        let z : columns_value s k ≡ 0 =
        no_digit_blank s k t (and_right (columns_keep s k) (column_keeps s k) h) in
        ap (λ (b : Bool). cond b (extended_by (kept_value s k) c) (kept_value s k)) t
        ∙ e ∙ z ∙ sym (value_next s k ∙ rw (z, t) refl)
