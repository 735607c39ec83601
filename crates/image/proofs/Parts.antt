-- Lists made of pieces, taken apart again. Assumes nothing.
use mathlib.Core.Path.{◌≡◌, refl, sym, ◌∙◌}
use mathlib.Core.Bool.{Bool, true}
use mathlib.Core.List.{List, [], ◌∷◌, ◌++◌, append_assoc}
use Prim.Native.Nat.{ℕ, zero, suc, ◌+◌, ◌*◌, ◌<◌}
use native.Mathlib.Decide.{ℕ_discrete}
use native.Mathlib.Nat.{mul-suc}
use native.Mathlib.Omega.{arith}
use lib.ListN.{length, get_or, take, drop, get_or-append}
use lib.Seq.{take_at, drop_at, take-add, drop-drop, get_or_at, ext_get_or}
use Rattle.laws.proofs.Counting.{every_at, every_of}
use Rattle.image.specs.Lists.{joined, listed, all_below}
use Rattle.image.proofs.Lists.{length_joined, length_listed}

-- piece i of pieces that are all w long, with anything after them
module _ (f : ℕ → List ℕ) (w : ℕ) (each : (k : ℕ) → length (f k) ≡ w) where
  pub joined_part : (n i : ℕ) (rest : List ℕ) → i < n → take w (drop (w * i) (joined f n ++ rest))
      ≡ f i
  unfolding joined
  joined_part zero i rest h = absurd (omega arith)
  joined_part (suc n) i rest h =
      rw (append_assoc (joined f n) (f n) rest)
      (go (ℕ_discrete i n) (joined_part n i (f n ++ rest)))
    where
      go :
          Dec (i ≡ n) →
          (i < n → take w (drop (w * i) (joined f n ++ (f n ++ rest))) ≡ f i) →
          take w (drop (w * i) (joined f n ++ (f n ++ rest))) ≡ f i
      go (yes e) r =
          rw (e, drop_at (joined f n) (f n ++ rest) (w * n) (length_joined f w each n))
          (take_at (f n) rest w (each n))
      go (no ne) r = r (omega arith)

-- the pieces of a list, w long each, from place j on
pub joined_parts : (b : List ℕ) (w j n : ℕ) → joined (λ i. take w (drop (j + w * i) b)) n
    ≡ take (w * n) (drop j b)
unfolding joined
joined_parts b w j zero = let e : w * 0 ≡ 0 = omega arith in rw e refl
joined_parts b w j (suc n) =
    rw (joined_parts b w j n, mul-suc w n, take-add (w * n) w (drop j b), drop-drop (w * n) j b)
    refl

pub joined_same : (f g : ℕ → List ℕ) (n : ℕ) → ((i : ℕ) → i < n → f i ≡ g i) → joined f n
    ≡ joined g n
unfolding joined
joined_same f g zero h = refl
joined_same f g (suc n) h =
    rw (joined_same f g n (λ i l. h i (omega arith)), h n (omega arith)) refl

module _ {A : Type 0} where
  pub listed_same : (f g : ℕ → A) (n : ℕ) → ((i : ℕ) → i < n → f i ≡ g i) → listed f n ≡ listed g n
  unfolding listed
  listed_same f g zero h = refl
  listed_same f g (suc n) h =
      rw (listed_same f g n (λ i l. h i (omega arith)), h n (omega arith)) refl

  pub get_d_listed : (f : ℕ → A) (n i : ℕ) (d : A) → i < n → get_or (listed f n) i d ≡ f i
  unfolding listed
  get_d_listed f zero i d h = absurd (omega arith)
  get_d_listed f (suc n) i d h = go (ℕ_discrete i n) (get_d_listed f n i d)
    where
      go : Dec (i ≡ n) → (i < n → get_or (listed f n) i d ≡ f i) →
          get_or (listed f n ++ (f n ∷ [])) i d ≡ f i
      go (yes e) r = rw e (get_or_at (listed f n) (f n) [] d n (length_listed f n))
      go (no ne) r =
          let l : i < length (listed f n) = rw (length_listed f n) (omega arith) in
          get_or-append (listed f n) (f n ∷ []) d i l ∙ r (omega arith)

  pub listed_whole : (l : List A) (n : ℕ) (d : A) → length l ≡ n → listed (λ i. get_or l i d) n ≡ l
  listed_whole l n d h =
      ext_get_or d (listed (λ i. get_or l i d) n) l (length_listed (λ i. get_or l i d) n ∙ sym h)
      (λ i k. get_d_listed (λ j. get_or l j d) n i d (rw (length_listed (λ j. get_or l j d) n) at k))

pub all_at : (f : ℕ → Bool) (n k : ℕ) → all_below f n ≡ true → k < n → f k ≡ true
unfolding all_below
all_at f n k h l = every_at f n k h l

pub all_of : (f : ℕ → Bool) (n : ℕ) → ((k : ℕ) → k < n → f k ≡ true) → all_below f n ≡ true
unfolding all_below
all_of f n h = every_of f n h
