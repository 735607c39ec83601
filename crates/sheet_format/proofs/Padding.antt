-- Laws of the columns of a number as they are written: their length, and one column more. Assumes nothing.
use mathlib.Core.Path.{◌≡◌, refl, ap, ◌∙◌}
use mathlib.Core.List.{List, [], ◌∷◌, ◌++◌}
use Prim.Native.Nat.{ℕ, zero, suc, ◌+◌, ◌-◌, ◌/◌, ◌<◌}
use native.Mathlib.Numerals.{add-one}
use native.Mathlib.Omega.{arith}
use lib.ListN.{length, set, length-append}
use lib.Seq.{sets}
use Rattle.sheet_format.specs.Columns.{last_digit, padded_digit, padded, columns}
use Rattle.sheet_format.proofs.Stores.{sets_last}

pub length_padded : (k n : ℕ) → length (padded k n) ≡ k
length_padded zero n = refl
length_padded (suc k) n =
    length-append (padded k (n / 10)) (padded_digit n ∷ [])
    ∙ ap (λ (x : ℕ). x + 1) (length_padded k (n / 10)) ∙ add-one k

pub length_columns : (n : ℕ) → length (columns n) ≡ 7
length_columns n =
    length-append (padded 6 (n / 10)) (last_digit n ∷ [])
    ∙ ap (λ (x : ℕ). x + 1) (length_padded 6 (n / 10))

-- a column written before those that are there: d is the last column of what is left, r, and k columns were left to write
pub sets_column :
    (l : List ℕ) (at k r d : ℕ) → 0 < k → d ≡ padded_digit r
    → sets (set l (at + (k - 1)) d) at (padded (k - 1) (r / 10)) ≡ sets l at (padded k r)
sets_column l at zero r d h e = absurd (omega arith)
sets_column l at (suc k) r d h e =
    let m : suc k - 1 ≡ k = omega arith in
    ap (λ (x : ℕ). sets (set l (at + x) d) at (padded x (r / 10))) m
    ∙ sets_last l at k d (padded k (r / 10)) (length_padded k (r / 10))
    ∙ ap (λ (x : ℕ). sets l at (padded k (r / 10) ++ (x ∷ []))) e

-- the last column first, and then the six before it
pub sets_columns :
    (l : List ℕ) (at n d : ℕ) → d ≡ last_digit n → sets (set l (at + 6) d) at (padded 6 (n / 10)) ≡ sets l at (columns n)
sets_columns l at n d e =
    sets_last l at 6 d (padded 6 (n / 10)) (length_padded 6 (n / 10))
    ∙ ap (λ (x : ℕ). sets l at (padded 6 (n / 10) ++ (x ∷ []))) e
