-- What a reader of columns has found out at each place where it stops or goes on: s are the
-- columns, w how many are read. Assumes nothing.
use mathlib.Core.Path.{◌≡◌, refl, sym, ap, ◌∙◌, subst}
use mathlib.Core.Bool.{Bool, true, false, cond, ◌&&◌, and-false}
use mathlib.Core.List.{List}
use Prim.Native.Nat.{ℕ, suc, ◌+◌, ◌*◌, ◌≤◌, ◌<◌}
use native.Mathlib.Numerals.{add-one}
use native.Mathlib.Omega.{arith}
use lib.ListN.{get_or}
use borrow.Author.Tests.{ne_eqb, eqb-true}
use Rattle.laws.proofs.Counting.{and_left, and_both, every_at}
use Rattle.sheet_format.specs.Columns.{is_space, is_digit, digit_of, columns_value, blank_to, column_keeps}
use Rattle.sheet_format.specs.Columns.{columns_keep, in_form, no_number, value_to, number_of}
use Rattle.sheet_format.specs.Digits.{extended_by, NumberSoFar}
use Rattle.sheet_format.proofs.Digits.{digit_low, digit_is, value_next, blank_value, keeps_next}
use Rattle.sheet_format.proofs.Digits.{keeps_not, blank_keeps, first_keeps, first_fails}
use Rattle.sheet_format.proofs.Digits.{later_keeps, later_fails, zero_fails, worth_not_blank}
use Rattle.sheet_format.proofs.Digits.{blank_not}

-- a digit is no space
pub digit_no_space : (c : ℕ) → is_digit c ≡ true → is_space c ≡ false
digit_no_space c t = ne_eqb c 32 (λ e. omega (arith, digit_low c t))

pub space_no_digit : (c : ℕ) → is_space c ≡ true → is_digit c ≡ false
space_no_digit c t = ap is_digit (eqb-true c 32 t)

module _ (s : List ℕ) (w : ℕ) where
  -- the columns read keep the form, or not
  pub value_is : columns_keep s w ≡ true → columns_value s w ≡ value_to s w
  value_is h = ap (λ (t : Bool). cond t (columns_value s w) no_number) (sym h)

  pub value_none : columns_keep s w ≡ false → no_number ≡ value_to s w
  value_none h = ap (λ (t : Bool). cond t (columns_value s w) no_number) (sym h)

  -- ---- a number on its way, n so far

  module _ (k n : ℕ) (so_far : NumberSoFar s k n) where
    not_blank : blank_to s k ≡ false
    not_blank = worth_not_blank s k (omega (arith, so_far.0, so_far.1))

    pub number_stops : is_digit (get_or s k 0) ≡ false → k < w → no_number ≡ value_to s w
    number_stops t h = value_none (keeps_not s k w (later_fails s k not_blank t) h)

    pub number_goes_on :
        is_digit (get_or s k 0) ≡ true → NumberSoFar s (k + 1) (extended_by n (get_or s k 0))
    number_goes_on t =
        let c = get_or s k 0 in
        let v : extended_by n c ≡ columns_value s (suc k) =
        ap (λ (x : ℕ). extended_by x c) so_far.0
        ∙ ap (λ (x : ℕ). columns_value s k * 10 + x) (sym (digit_is c t))
        ∙ sym (value_next s k) in
        let worth : 1 ≤ columns_value s k = omega (arith, so_far.0, so_far.1) in
        rw (add-one k) (
          v,
          omega (arith, so_far.1),
          keeps_next s k so_far.2 (later_keeps s k not_blank t worth),
        )

  pub number_ends : (n : ℕ) → NumberSoFar s w n → n ≡ value_to s w
  number_ends n h = h.0 ∙ value_is h.2

  -- ---- spaces alone, and the first column behind them

  pub all_blank : blank_to s w ≡ true → 0 ≡ value_to s w
  all_blank b = sym (blank_value s w b) ∙ value_is (blank_keeps s w b)

  module _ (k : ℕ) (b : blank_to s k ≡ true) where
    pub no_first :
        is_space (get_or s k 0) ≡ false → is_digit (get_or s k 0) ≡ false → k < w → no_number ≡ value_to s w
    no_first e t h = value_none (keeps_not s k w (first_fails s k b e t) h)

    module _ (t : is_digit (get_or s k 0) ≡ true) where
      first_value : columns_value s (suc k) ≡ extended_by 0 (get_or s k 0)
      first_value =
          value_next s k
          ∙ ap (λ (x : ℕ). x * 10 + digit_of (get_or s k 0)) (blank_value s k b)
          ∙ ap (λ (x : ℕ). 0 * 10 + x) (digit_is (get_or s k 0) t)

      first_kept : columns_keep s (suc k) ≡ true
      first_kept = keeps_next s k (blank_keeps s k b) (first_keeps s k b t)

      pub first_digit : (n : ℕ) → n ≡ extended_by 0 (get_or s k 0) → 1 ≤ n → NumberSoFar s (k + 1) n
      first_digit n e h = rw (add-one k) (e ∙ sym first_value, h, first_kept)

      -- a 0 is a number alone
      pub first_zero : extended_by 0 (get_or s k 0) ≡ 0 → k + 1 < w → no_number ≡ value_to s w
      first_zero z h =
          let full : blank_to s (suc k) ≡ false =
          blank_not s k (suc k) (omega arith) (digit_no_space (get_or s k 0) t) in
          value_none (keeps_not s (suc k) w (zero_fails s (suc k) full (first_value ∙ z))
          (omega arith))

      pub only_zero : extended_by 0 (get_or s k 0) ≡ 0 → k + 1 ≡ w → 0 ≡ value_to s w
      only_zero z e =
          sym z ∙ sym first_value
          ∙ ap (λ (n : ℕ). columns_value s n) (sym (add-one k) ∙ e)
          ∙ value_is (subst (λ (n : ℕ). columns_keep s n ≡ true) (sym (add-one k) ∙ e) first_kept)

-- ---- the seven columns of a number

module _ (s : List ℕ) where
  pub number_is : in_form s ≡ true → columns_value s 7 ≡ number_of s
  number_is h = ap (λ (t : Bool). cond t (columns_value s 7) no_number) (sym h)

  number_none : in_form s ≡ false → no_number ≡ number_of s
  number_none h = ap (λ (t : Bool). cond t (columns_value s 7) no_number) (sym h)

  -- columns that do not keep the form hold no number
  out_of_form : columns_keep s 7 ≡ false → in_form s ≡ false
  out_of_form h = rw h

  -- where the last but one is no space, a number ends in the last
  pub longer : is_space (get_or s 5 0) ≡ false → value_to s 7 ≡ number_of s
  longer e = go (columns_keep s 7) refl
    where
      ends : columns_keep s 7 ≡ true → is_digit (get_or s 6 0) ≡ true
      ends h =
          let k : column_keeps s 6 ≡ true = every_at (column_keeps s) 7 6 h (omega arith) in
          and_left (is_digit (get_or s 6 0)) _ (rw (blank_not s 5 6 (omega arith) e) at k)

      go : (t : Bool) → columns_keep s 7 ≡ t → value_to s 7 ≡ number_of s
      go true h =
          sym (value_is s 7 h)
          ∙ number_is (and_both (columns_keep s 7) (is_digit (get_or s 6 0)) h (ends h))
      go false h = sym (value_none s 7 h) ∙ number_none (out_of_form h)

  -- where it is one, so are all before it
  module _ (e : is_space (get_or s 5 0) ≡ true) where
    pub not_right : blank_to s 5 ≡ false → no_number ≡ number_of s
    not_right b =
        number_none
        (out_of_form
        (keeps_not s 5 7 (later_fails s 5 b (space_no_digit (get_or s 5 0) e)) (omega arith)))

    module _ (b : blank_to s 5 ≡ true) where
      blank : blank_to s 6 ≡ true
      blank = and_both (blank_to s 5) (is_space (get_or s 5 0)) b e

      pub no_digit : is_digit (get_or s 6 0) ≡ false → no_number ≡ number_of s
      no_digit t =
          number_none (ap (λ (x : Bool). columns_keep s 7 && x) t ∙ and-false (columns_keep s 7))

      pub one_digit : is_digit (get_or s 6 0) ≡ true → extended_by 0 (get_or s 6 0) ≡ number_of s
      one_digit t =
          sym (first_value s 7 6 blank t)
          ∙ number_is
          (and_both (columns_keep s 7) (is_digit (get_or s 6 0)) (first_kept s 7 6 blank t) t)
