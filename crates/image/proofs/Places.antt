-- Runs of stores: one after another, and one over the whole list. Assumes nothing.
use mathlib.Core.Path.{◌≡◌, refl, ◌∙◌, ap}
use mathlib.Core.List.{List, [], ◌∷◌, ◌++◌, append-nil}
use Prim.Native.Nat.{ℕ, suc, ◌+◌}
use native.Mathlib.Omega.{arith}
use lib.ListN.{length, set, drop_of_length-le}
use lib.Seq.{sets, sets-eq}
use Rattle.image.specs.Lists.{stored_at}

module _ {A : Type 0} where
  -- ys stored right after xs
  pub sets_more : (l : List A) (i k : ℕ) (xs ys : List A) → length xs ≡ k →
      sets (sets l i xs) (i + k) ys ≡ sets l i (xs ++ ys)
  sets_more l i k [] ys h = let e : i + k ≡ i = omega arith in rw e
  sets_more l i k (x ∷ xs) ys h =
      let e : i + k ≡ suc i + length xs = omega arith in
      rw e (sets_more (set l i x) (suc i) (length xs) xs ys refl)

  -- as many as the list is long, from its start
  pub sets_whole : (l vs : List A) → length vs ≡ length l → sets l 0 vs ≡ vs
  sets_whole l vs h =
      sets-eq vs l 0 (omega arith)
      ∙ ap (λ (r : List A). vs ++ r) (drop_of_length-le l {i = 0 + length vs} (omega arith))
      ∙ append-nil vs

  -- what stores ys at the place where xs end, after what stored xs
  pub next :
      (a : List A) (i : ℕ) (l m : List A) (k : ℕ) (xs ys : List A) →
      m ≡ stored_at l (i + k) ys →
      l ≡ stored_at a i xs →
      length xs ≡ k →
      m ≡ stored_at a i (xs ++ ys)
  unfolding stored_at
  next a i l m k xs ys e f h = e ∙ rw f refl ∙ sets_more a i k xs ys h

  pub written_none : (l : List A) (i : ℕ) → l ≡ stored_at l i []
  unfolding stored_at
  written_none l i = refl

  pub written_whole : (l vs : List A) → length vs ≡ length l → stored_at l 0 vs ≡ vs
  unfolding stored_at
  written_whole l vs h = sets_whole l vs h
