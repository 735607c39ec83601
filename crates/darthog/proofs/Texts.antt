-- Laws of a number's digits and of a refusal's text, stored in turn. Assumes nothing.
use mathlib.Core.Path.{◌≡◌, refl, sym, ap, ◌∙◌}
use mathlib.Core.Bool.{true, false}
use mathlib.Core.List.{List, [], ◌∷◌, ◌++◌, append_assoc}
use Prim.Native.Nat.{ℕ, zero, suc, ◌+◌, ◌-◌, ◌≤◌, ◌<◌}
use native.Mathlib.Numerals.{add-one}
use native.Mathlib.Omega.{arith}
use lib.Dec.{eqb}
use lib.ListN.{length, take, drop, get_or, set, length-append, length-drop}
use lib.Seq.{sets, sets-eq, take_all, drop-drop}
use borrow.Rule.Slice.PartMut.{put_mid}
use borrow.Author.Tests.{eq-eqb, ne_eqb}
use Rattle.laws.proofs.Booleans.{cond_elim}
use Rattle.sheet_format.specs.Columns.{columns, trimmed, decimal}
use Rattle.sheet_format.specs.Letters.{space}
use Rattle.sheet_format.specs.Program.{refusal_text}
use Rattle.sheet_format.proofs.Padding.{length_columns}
use Rattle.sheet_format.proofs.Stores.{sets_append}

-- behind the spaces before it a number stands whole
pub trimmed_at :
    (s : List ℕ) (n : ℕ) → n ≤ length s → ((k : ℕ) → k < n → get_or s k 0 ≡ space)
    → (n < length s → get_or s n 0 ≡ space → ⊥) → drop n s ≡ trimmed s
trimmed_at [] zero h before found = refl
trimmed_at [] (suc n) h before found = absurd (omega arith)
trimmed_at (c ∷ cs) zero h before found =
    let e : eqb c space ≡ false = ne_eqb c space (found (omega arith)) in
    rw e refl
trimmed_at (c ∷ cs) (suc n) h before found =
    let e : eqb c space ≡ true = eq-eqb c space (before 0 (omega arith)) in
    let r : drop n cs ≡ trimmed cs =
    trimmed_at cs n (omega arith) (λ k l. before (suc k) (omega arith)) (λ l. found (omega arith)) in
    rw e r

pub length_trimmed : (s : List ℕ) → length (trimmed s) ≤ length s
length_trimmed [] = omega arith
length_trimmed (c ∷ cs) =
    let h = length_trimmed cs in
    cond_elim (λ (x : List ℕ). length x ≤ suc (length cs)) (eqb c space) (trimmed cs) (c ∷ cs)
    (omega arith) (omega arith)

pub length_decimal : (n : ℕ) → length (decimal n) ≤ 7
length_decimal n = omega (arith, length_trimmed (columns n), length_columns n)

-- the columns from the first that is no space
pub digits_of :
    (s : List ℕ) (n k : ℕ) → s ≡ columns n → drop k s ≡ trimmed s
    → take (7 - k) (drop k s) ≡ decimal n
digits_of s n k e t =
    let l : length s ≡ 7 = ap length e ∙ length_columns n in
    take_all (7 - k) (drop k s) (omega (arith, length-drop k s)) ∙ t ∙ ap trimmed e

-- and what they hold, written into the area in one piece
pub digits_written :
    (area d : List ℕ) (at k : ℕ) (b : List ℕ) → b ≡ d → k ≡ length d → at + length d ≤ length area
    → put_mid at k area b ≡ sets area at d
digits_written area d at k b e n h =
    ap (λ (x : List ℕ). take at area ++ (x ++ drop k (drop at area))) e
    ∙ ap (λ (i : ℕ). take at area ++ (d ++ drop i (drop at area))) n
    ∙ ap (λ (x : List ℕ). take at area ++ (d ++ x)) (drop-drop (length d) at area)
    ∙ sym (append_assoc (take at area) d (drop (at + length d) area))
    ∙ sym (sets-eq d area at h)

-- a refusal's text
length_text :
    (n k : ℕ) → length (refusal_text n k) ≡ length (decimal n) + 1 + length (decimal k) + 1
length_text n k =
    let a = length-append (decimal n) (space ∷ (decimal k ++ (10 ∷ []))) in
    let b = length-append (decimal k) (10 ∷ []) in
    omega (arith, a, b)

-- its parts, stored one after the other: the number up to m, the line up to e
pub record Parts (area l₁ l₂ : List ℕ) (n k m e : ℕ) : Type 0 where
  pub middle : m ≡ 0 + length (decimal n)
  pub number : l₁ ≡ sets area 0 (decimal n)
  pub end : e ≡ m + 1 + length (decimal k)
  pub line : l₂ ≡ sets (set l₁ m space) (m + 1) (decimal k)

module _ (area l₁ l₂ : List ℕ) (n k m e : ℕ) (p : Parts area l₁ l₂ n k m e) where
  pub middle_low : m ≤ 7
  middle_low = omega (arith, p.middle, length_decimal n)

  pub end_low : e ≤ 15
  end_low = omega (arith, p.end, middle_low, length_decimal k)

  pub text_end : e + 1 ≡ length (refusal_text n k)
  text_end = omega (arith, p.middle, p.end, length_text n k)

  text_sets : sets area 0 (refusal_text n k) ≡ set l₂ e 10
  text_sets =
      let rest = decimal k ++ (10 ∷ []) in
      let z = 0 + length (decimal n) in
      sets_append area 0 (decimal n) (space ∷ rest)
      ∙ ap (λ (x : List ℕ). sets (set x z space) (suc z) rest) (sym p.number)
      ∙ ap (λ (i : ℕ). sets (set l₁ i space) (suc i) rest) (sym p.middle)
      ∙ ap (λ (i : ℕ). sets (set l₁ m space) i rest) (sym (add-one m))
      ∙ sets_append (set l₁ m space) (m + 1) (decimal k) (10 ∷ [])
      ∙ ap (λ (x : List ℕ). set x (m + 1 + length (decimal k)) 10) (sym p.line)
      ∙ ap (λ (i : ℕ). set l₂ i 10) (sym p.end)

  pub text_stored :
      16 ≤ length area → set l₂ e 10 ≡ refusal_text n k ++ drop (length (refusal_text n k)) area
  text_stored h =
      let t = refusal_text n k in
      let w : 0 + length t ≤ length area = omega (arith, text_end, end_low) in
      let z : 0 + length t ≡ length t = omega arith in
      sym text_sets ∙ sets-eq t area 0 w ∙ ap (λ (i : ℕ). t ++ drop i area) z
