-- What is known of columns by the place of their first byte that is no space. Assumes nothing.
use mathlib.Core.Path.{◌≡◌, refl, sym, ap, ◌∙◌}
use mathlib.Core.Bool.{true, false}
use mathlib.Core.List.{List, [], ◌∷◌}
use Prim.Native.Nat.{ℕ, zero, suc, ◌≤◌, ◌<◌}
use native.Mathlib.Omega.{arith}
use lib.ListN.{length, get_or, take}
use borrow.Author.Tests.{eq-eqb, ne_eqb}
use Rattle.std.proofs.lemmas.List.{get_or-take}
use Rattle.laws.proofs.Counting.{every_of}
use Rattle.sheet_format.specs.Columns.{is_space, blank_to, spaces_of}

-- the first w columns were looked at: those before it are blank
pub blank_before :
    (s : List ℕ) (w n : ℕ) → n ≤ w → ((k : ℕ) → k < n → get_or (take w s) k 0 ≡ 32)
    → blank_to s n ≡ true
blank_before s w n h e =
    every_of (λ j. is_space (get_or s j 0)) n
    (λ k l. eq-eqb (get_or s k 0) 32 (sym (get_or-take w s k 0 (omega arith)) ∙ e k l))

-- and it is none
pub full_there :
    (s : List ℕ) (w n : ℕ) → n < w → (get_or (take w s) n 0 ≡ 32 → ⊥)
    → is_space (get_or s n 0) ≡ false
full_there s w n h e = ne_eqb (get_or s n 0) 32 (λ f. e (get_or-take w s n 0 h ∙ f))

-- the spaces before the first byte that is none, by what a look at them found
pub spaces_told :
    (s : List ℕ) (n : ℕ) → n ≤ length s → ((k : ℕ) → k < n → get_or s k 0 ≡ 32)
    → (n < length s → get_or s n 0 ≡ 32 → ⊥) → n ≡ spaces_of s
spaces_told [] zero h before found = refl
spaces_told [] (suc n) h before found = absurd (omega arith)
spaces_told (c ∷ cs) zero h before found =
    let e : is_space c ≡ false = ne_eqb c 32 (found (omega arith)) in
    rw e refl
spaces_told (c ∷ cs) (suc n) h before found =
    let e : is_space c ≡ true = eq-eqb c 32 (before 0 (omega arith)) in
    let r : n ≡ spaces_of cs =
    spaces_told cs n (omega arith) (λ k l. before (suc k) (omega arith)) (λ l. found (omega arith)) in
    rw e (ap suc r)
