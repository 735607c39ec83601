-- A number that is written in seven columns is read back, and seven columns in form are those of
-- their number. Assumes nothing.
use mathlib.Core.Path.{◌≡◌, refl, sym, ap, ◌∙◌, subst}
use mathlib.Core.Bool.{Bool, true, false, cond, ◌&&◌, ◌||◌, true≢false}
use mathlib.Core.List.{List, [], ◌∷◌, ◌++◌}
use Prim.Native.Nat.{ℕ, zero, suc, ◌+◌, ◌-◌, ◌*◌, ◌/◌, ◌%◌, ◌^◌, ◌≤◌, ◌<◌}
use native.Mathlib.Decide.{ℕ_discrete}
use native.Mathlib.Nat.{pow-suc, mod-lt, div-add-mod', div-eq_of_lt, mod-eq_of_lt}
use native.Mathlib.Nat.{mul-add-div_right, mul-add-mod_self_right}
use native.Mathlib.Omega.{arith}
use lib.Dec.{ltb, leb, eqb}
use lib.ListN.{length, take, get_or}
use lib.Seq.{append_snoc, get_or_at, take-suc}
use borrow.Author.Tests.{le-leb, eq-eqb, ne_eqb, eqb-true, ltb-true}
use Rattle.laws.proofs.Counting.{and_left, and_right, and_both}
use Rattle.sheet_format.specs.Columns.{is_space, is_digit, digit_of, columns_value, blank_to}
use Rattle.sheet_format.specs.Columns.{column_keeps, columns_keep, in_form, number_of, last_digit}
use Rattle.sheet_format.specs.Columns.{padded_digit, padded, columns}
use Rattle.sheet_format.specs.Digits.{extended_by, ColumnsReadBack, ColumnsWrittenBack}
use Rattle.sheet_format.proofs.Digits.{digit_low, digit_high, digit_is, value_next, blank_value}
use Rattle.sheet_format.proofs.Digits.{keeps_next, blank_keeps, first_keeps, later_keeps}
use Rattle.sheet_format.proofs.Digits.{zero_fails, blank_not}
use Rattle.sheet_format.proofs.Found.{digit_no_space, number_is}
use Rattle.sheet_format.proofs.Padding.{length_padded}

-- ---- written, and read back

is_digit_lem : (d : ℕ) → d ≤ 9 → is_digit (48 + d) ≡ true
is_digit_lem d h =
    and_both (leb 48 (48 + d)) (leb (48 + d) 57) (le-leb 48 (48 + d) (omega arith))
    (le-leb (48 + d) 57 (omega arith))

-- k columns that keep the form and have the value n, and are blank where it is 0
abbrev ReadAs : List ℕ → ℕ → ℕ → Type 0
ReadAs s k n = (columns_keep s k ≡ true) × (columns_value s k ≡ n) × (blank_to s k ≡ eqb n 0)

-- a digit behind them
module _
    (s : List ℕ) (k m d : ℕ) (before : ReadAs s k m) (small : d ≤ 9)
    (next : get_or s k 0 ≡ 48 + d) where
  digit : is_digit (get_or s k 0) ≡ true
  digit = ap is_digit next ∙ is_digit_lem d small

  digit_keeps : columns_keep s (suc k) ≡ true
  digit_keeps = keeps_next s k before.0 (go (ℕ_discrete m 0))
    where
      go : Dec (m ≡ 0) → column_keeps s k ≡ true
      go (yes e) = first_keeps s k (before.2 ∙ eq-eqb m 0 e) digit
      go (no e) = later_keeps s k (before.2 ∙ ne_eqb m 0 e) digit (omega (arith, before.1))

  digit_value : columns_value s (suc k) ≡ m * 10 + d
  digit_value =
      value_next s k
      ∙ ap (λ (x : ℕ). x * 10 + digit_of (get_or s k 0)) before.1
      ∙ ap (λ (x : ℕ). m * 10 + x)
      (digit_is (get_or s k 0) digit ∙ ap (λ (c : ℕ). c - 48) next ∙ omega arith)

  digit_not_blank : blank_to s (suc k) ≡ false
  digit_not_blank = blank_not s k (suc k) (omega arith) (digit_no_space (get_or s k 0) digit)

-- the last of the columns, behind k others
last_at : (xs rest : List ℕ) (c k : ℕ) → length xs ≡ k → get_or (xs ++ (c ∷ rest)) k 0 ≡ c
last_at xs rest c k h = get_or_at xs c rest 0 k h

read_padded : (k n : ℕ) (rest : List ℕ) → n < 10 ^ k → ReadAs (padded k n ++ rest) k n
read_padded zero n rest h =
    let z : n < 1 = h in
    let e : n ≡ 0 = omega arith in
    (refl, sym e, sym (eq-eqb n 0 e))
read_padded (suc k) n rest h =
    let p : n < 10 ^ k * 10 = rw pow-suc at h in
    let d : n / 10 * 10 + n % 10 ≡ n = div-add-mod' n 10 in
    let whole : padded (suc k) n ++ rest ≡ padded k (n / 10) ++ (padded_digit n ∷ rest) =
    append_snoc (padded k (n / 10)) (padded_digit n) rest in
    subst (λ (s : List ℕ). ReadAs s (suc k) n) (sym whole)
    (go (ℕ_discrete n 0) (read_padded k (n / 10) (padded_digit n ∷ rest) (omega arith)))
  where
    s : List ℕ
    s = padded k (n / 10) ++ (padded_digit n ∷ rest)

    at : get_or s k 0 ≡ padded_digit n
    at = last_at (padded k (n / 10)) rest (padded_digit n) k (length_padded k (n / 10))

    go : Dec (n ≡ 0) → ReadAs s k (n / 10) → ReadAs s (suc k) n
    go (yes e) b =
        let z : n / 10 ≡ 0 = ap (λ (x : ℕ). x / 10) e in
        let c : get_or s k 0 ≡ 32 = at ∙ ap padded_digit e in
        let full : blank_to s (suc k) ≡ true =
        and_both (blank_to s k) (is_space (get_or s k 0)) (b.2 ∙ eq-eqb (n / 10) 0 z) (ap is_space c) in
        (blank_keeps s (suc k) full, blank_value s (suc k) full ∙ sym e, full ∙ sym (eq-eqb n 0 e))
    go (no e) b =
        let m : n % 10 < 10 = mod-lt n (omega arith) in
        let c : get_or s k 0 ≡ 48 + n % 10 =
        at ∙ ap (λ (t : Bool). cond t 32 (last_digit n)) (ne_eqb n 0 e) in (
          digit_keeps s k (n / 10) (n % 10) b (omega arith) c,
          digit_value s k (n / 10) (n % 10) b (omega arith) c ∙ div-add-mod' n 10,
          digit_not_blank s k (n / 10) (n % 10) b (omega arith) c ∙ sym (ne_eqb n 0 e),
        )

pub columns_read_back : ColumnsReadBack
columns_read_back n rest h =
    let whole : columns n ++ rest ≡ padded 6 (n / 10) ++ (last_digit n ∷ rest) =
    append_snoc (padded 6 (n / 10)) (last_digit n) rest in
    subst (λ (s : List ℕ). (in_form s ≡ true) × (number_of s ≡ n)) (sym whole)
    (form, sym (number_is s form) ∙ value)
  where
    s : List ℕ
    s = padded 6 (n / 10) ++ (last_digit n ∷ rest)

    at : get_or s 6 0 ≡ 48 + n % 10
    at = last_at (padded 6 (n / 10)) rest (last_digit n) 6 (length_padded 6 (n / 10))

    small : n % 10 ≤ 9
    small = let m : n % 10 < 10 = mod-lt n (omega arith) in omega arith

    before : ReadAs s 6 (n / 10)
    before =
        let d : n / 10 * 10 + n % 10 ≡ n = div-add-mod' n 10 in
        let p : n / 10 < 10 ^ 6 = omega arith in
        read_padded 6 (n / 10) (last_digit n ∷ rest) p

    form : in_form s ≡ true
    form =
        and_both (columns_keep s 7) (is_digit (get_or s 6 0))
        (digit_keeps s 6 (n / 10) (n % 10) before small at)
        (digit s 6 (n / 10) (n % 10) before small at)

    value : columns_value s 7 ≡ n
    value = digit_value s 6 (n / 10) (n % 10) before small at ∙ div-add-mod' n 10

-- ---- read, and written again

-- one digit more behind those of m
spelt_digit :
    (k m c : ℕ) (l : List ℕ) → is_digit c ≡ true → 1 ≤ extended_by m c → l ≡ padded k m
    → l ++ (c ∷ []) ≡ padded (suc k) (extended_by m c)
spelt_digit k m c l t p e =
    let low : 48 ≤ c = digit_low c t in
    let high : c ≤ 57 = digit_high c t in
    let n = m * 10 + (c - 48) in
    let small : c - 48 < 10 = omega arith in
    let q : n / 10 ≡ m =
    mul-add-div_right (omega arith) m (c - 48) ∙ ap (λ (x : ℕ). m + x) (div-eq_of_lt small)
    ∙ omega arith in
    let r : n % 10 ≡ c - 48 = mul-add-mod_self_right m 10 (c - 48) ∙ mod-eq_of_lt small in
    let g : padded_digit n ≡ c =
    ap (λ (b : Bool). cond b 32 (last_digit n)) (ne_eqb n 0 (λ z. omega arith))
    ∙ ap (λ (x : ℕ). 48 + x) r ∙ omega arith in
    sym (ap (λ (x : ℕ). padded k x ++ (padded_digit n ∷ [])) q
    ∙ ap (λ (x : ℕ). padded k m ++ (x ∷ [])) g
    ∙ ap (λ (x : List ℕ). x ++ (c ∷ [])) (sym e))

spelt_blank : (s : List ℕ) (k : ℕ) → k ≤ length s → blank_to s k ≡ true → take k s ≡ padded k 0
spelt_blank s zero h b = refl
spelt_blank s (suc k) h b =
    let e : get_or s k 0 ≡ 32 =
    eqb-true (get_or s k 0) 32 (and_right (blank_to s k) (is_space (get_or s k 0)) b) in
    take-suc s k 0 h
    ∙ ap (λ (x : List ℕ). x ++ (get_or s k 0 ∷ []))
    (spelt_blank s k (omega arith) (and_left (blank_to s k) (is_space (get_or s k 0)) b))
    ∙ ap (λ (c : ℕ). padded k 0 ++ (c ∷ [])) e

-- a column that adds to the value holds a digit
adds_digit : (c : ℕ) → 1 ≤ digit_of c → is_digit c ≡ true
adds_digit c h = go (is_digit c) refl
  where
    go : (t : Bool) → is_digit c ≡ t → is_digit c ≡ true
    go true e = e
    go false e = absurd (omega (arith, zero_then e))
      where
        zero_then : is_digit c ≡ false → digit_of c ≡ 0
        zero_then e = ap (λ (t : Bool). cond t (c - 48) 0) e

spelt_number :
    (s : List ℕ) (k : ℕ) → k ≤ length s → columns_keep s k ≡ true → 1 ≤ columns_value s k → take k s
    ≡ padded k (columns_value s k)
spelt_number s zero h keeps worth = absurd (omega arith)
spelt_number s (suc k) h keeps worth =
    go (blank_to s k) refl
    (spelt_number s k (omega arith) (and_left (columns_keep s k) (column_keeps s k) keeps))
  where
    c : ℕ
    c = get_or s k 0

    -- behind m
    with_digit :
        (m : ℕ) → columns_value s k ≡ m → is_digit c ≡ true → take k s ≡ padded k m
        → take (suc k) s ≡ padded (suc k) (columns_value s (suc k))
    with_digit m e t l =
        let v : columns_value s (suc k) ≡ extended_by m c =
        value_next s k ∙ ap (λ (x : ℕ). x * 10 + digit_of c) e
        ∙ ap (λ (x : ℕ). m * 10 + x) (digit_is c t) in
        take-suc s k 0 h
        ∙ spelt_digit k m c (take k s) t (subst (λ (x : ℕ). 1 ≤ x) v worth) l
        ∙ ap (padded (suc k)) (sym v)

    go :
        (b : Bool) → blank_to s k ≡ b
        → (1 ≤ columns_value s k → take k s ≡ padded k (columns_value s k))
        → take (suc k) s ≡ padded (suc k) (columns_value s (suc k))
    go true b r =
        let z : columns_value s k ≡ 0 = blank_value s k b in
        let d : 1 ≤ digit_of c = omega (arith, worth, value_next s k, z) in
        with_digit 0 z (adds_digit c d) (spelt_blank s k (omega arith) b)
    go false b r =
        let t : (is_digit c && ltb 0 (columns_value s k)) ≡ true =
        subst (λ (x : Bool). cond x (is_space c || is_digit c) (is_digit c && ltb 0 (columns_value s k))
        ≡ true) b
        (and_right (columns_keep s k) (column_keeps s k) keeps) in
        let w : 1 ≤ columns_value s k =
        ltb-true 0 (columns_value s k) (and_right (is_digit c) (ltb 0 (columns_value s k)) t) in
        with_digit (columns_value s k) refl (and_left (is_digit c) (ltb 0 (columns_value s k)) t) (r w)

pub columns_written_back : ColumnsWrittenBack
columns_written_back s h form = go (ℕ_discrete (columns_value s 7) 0) ∙ ap columns (number_is s form)
  where
    keeps : columns_keep s 7 ≡ true
    keeps = and_left (columns_keep s 7) (is_digit (get_or s 6 0)) form

    last : is_digit (get_or s 6 0) ≡ true
    last = and_right (columns_keep s 7) (is_digit (get_or s 6 0)) form

    go : Dec (columns_value s 7 ≡ 0) → take 7 s ≡ columns (columns_value s 7)
    go (no e) =
        spelt_number s 7 h keeps (omega arith)
        ∙ ap (λ (t : Bool). padded 6 (columns_value s 7 / 10)
        ++ (cond t 32 (last_digit (columns_value s 7)) ∷ [])) (ne_eqb (columns_value s 7) 0 e)
    go (yes e) = zero_columns (blank_to s 6) refl
      where
        -- the last column is a 0
        z : digit_of (get_or s 6 0) ≡ 0
        z = omega (arith, value_next s 6, e)

        zero_columns : (b : Bool) → blank_to s 6 ≡ b → take 7 s ≡ columns (columns_value s 7)
        zero_columns true b =
            let c : get_or s 6 0 ≡ 48 =
            omega (arith, digit_is (get_or s 6 0) last, z, digit_low (get_or s 6 0) last) in
            take-suc s 6 0 h
            ∙ ap (λ (x : List ℕ). x ++ (get_or s 6 0 ∷ [])) (spelt_blank s 6 (omega arith) b)
            ∙ ap (λ (x : ℕ). padded 6 0 ++ (x ∷ [])) c
            ∙ ap columns (sym e)
        zero_columns false b =
            let v : columns_value s 6 ≡ 0 = omega (arith, value_next s 6, e) in
            absurd (true≢false
            (sym (and_right (columns_keep s 6) (column_keeps s 6) keeps) ∙ zero_fails s 6 b v))
