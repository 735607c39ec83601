-- Laws of lists made of pieces: their lengths, one more piece, and one more piece stored. Assumes nothing.
use mathlib.Core.Path.{◌≡◌, refl, sym, ◌∙◌}
use mathlib.Core.List.{List, [], ◌∷◌}
use Prim.Native.Nat.{ℕ, zero, suc, ◌+◌, ◌*◌}
use native.Mathlib.Nat.{mul-suc}
use native.Mathlib.Omega.{arith}
use native.Mathlib.Numerals.{add-one}
use lib.ListN.{length, length-append}
use Rattle.image.specs.Lists.{stored_at, joined, listed}
use Rattle.image.proofs.Places.{next}

module _ (f : ℕ → List ℕ) (w : ℕ) (each : (k : ℕ) → length (f k) ≡ w) where
  pub length_joined : (n : ℕ) → length (joined f n) ≡ w * n
  unfolding joined
  length_joined zero = omega arith
  length_joined (suc n) =
      length-append (joined f n) (f n) ∙ rw (length_joined n, each n) (sym (mul-suc w n))

  -- a loop that stores piece i where the pieces before it end, from place j on
  pub joined_next :
      (j i : ℕ) (a l m : List ℕ) →
      m ≡ stored_at l (j + w * i) (f i) →
      l ≡ stored_at a j (joined f i) →
      m ≡ stored_at a j (joined f (i + 1))
  unfolding joined
  joined_next j i a l m e h =
      rw add-one (next a j l m (w * i) (joined f i) (f i) e h (length_joined i))

module _ {A : Type 0} (f : ℕ → A) where
  pub length_listed : (n : ℕ) → length (listed f n) ≡ n
  unfolding listed
  length_listed zero = refl
  length_listed (suc n) = length-append (listed f n) (f n ∷ []) ∙ rw (length_listed n) (add-one n)

pub none_joined : (f : ℕ → List ℕ) → joined f 0 ≡ []
unfolding joined
none_joined f = refl
