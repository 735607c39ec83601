-- Stores within one piece of a list of pieces of one length. Assumes nothing.
use mathlib.Core.Path.{◌≡◌, refl, sym, ◌∙◌, ap}
use mathlib.Core.List.{List, [], ◌∷◌, ◌++◌, append_assoc}
use Prim.Native.Nat.{ℕ, zero, suc, ◌+◌, ◌*◌, ◌<◌}
use native.Mathlib.Decide.{ℕ_discrete}
use native.Mathlib.Omega.{arith}
use lib.ListN.{length, set, length-set}
use lib.Seq.{set-append_left}
use Rattle.image.specs.Lists.{joined}
use Rattle.image.proofs.Lists.{length_joined}
use Rattle.image.proofs.Parts.{joined_same}
use Rattle.image.specs.Puts.{puts, puts_in}

-- every store is below w
abbrev pub Below : ℕ → List (ℕ × ℕ) → Type 0
Below w [] = Unit
Below w (e ∷ es) = (e.0 < w) × Below w es

pub set_after : (h t : List ℕ) (i k v : ℕ) → i ≡ length h + k → set (h ++ t) i v ≡ h ++ set t k v
set_after [] t i k v e = let z : i ≡ k = omega arith in rw z refl
set_after (x ∷ h) t zero k v e = absurd (omega arith)
set_after (x ∷ h) t (suc i) k v e = ap (λ (r : List ℕ). x ∷ r) (set_after h t i k v (omega arith))

pub puts_after : (h t : List ℕ) (n o : ℕ) (es : List (ℕ × ℕ)) → length h ≡ n →
    puts (h ++ t) (n + o) es ≡ h ++ puts t o es
puts_after h t n o [] e = refl
puts_after h t n o (x ∷ es) e =
    rw (set_after h t (n + o + x.0) (o + x.0) x.1 (omega arith))
    (puts_after h (set t (o + x.0) x.1) n o es e)

pub puts_here : (t : List ℕ) (es : List (ℕ × ℕ)) → puts t 0 es ≡ puts_in t es
puts_here t [] = refl
puts_here t (x ∷ es) = let z : 0 + x.0 ≡ x.0 = omega arith in
    rw z (puts_here (set t x.0 x.1) es)

pub puts_before : (f rest : List ℕ) (es : List (ℕ × ℕ)) → Below (length f) es →
    puts_in (f ++ rest) es ≡ puts_in f es ++ rest
puts_before f rest [] low = refl
puts_before f rest (x ∷ es) low =
    rw (set-append_left f rest x.0 x.1 low.0)
    (puts_before (set f x.0 x.1) rest es (rw (length-set f x.0 x.1) low.1))

module _ (f g : ℕ → List ℕ) (w : ℕ) (each : (k : ℕ) → length (f k) ≡ w) (x : ℕ) (es : List (ℕ × ℕ))
    (low : Below w es) where
  pub puts_piece :
      puts_in (f x) es ≡ g x → ((k : ℕ) → (k ≡ x → ⊥) → f k ≡ g k) →
      (n : ℕ) (rest : List ℕ) → x < n → puts (joined f n ++ rest) (w * x) es ≡ joined g n ++ rest
  unfolding joined
  puts_piece here other zero rest h = absurd (omega arith)
  puts_piece here other (suc n) rest h =
      rw (append_assoc (joined f n) (f n) rest, append_assoc (joined g n) (g n) rest)
      (go (ℕ_discrete x n) (puts_piece here other n (f n ++ rest)))
    where
      go :
          Dec (x ≡ n) →
          (x < n → puts (joined f n ++ (f n ++ rest)) (w * x) es ≡ joined g n ++ (f n ++ rest)) →
          puts (joined f n ++ (f n ++ rest)) (w * x) es ≡ joined g n ++ (g n ++ rest)
      go (yes e) r =
          let z : w * n ≡ w * n + 0 = omega arith in
          let s : joined f n ≡ joined g n = joined_same f g n (λ k l. other k (λ d. omega arith)) in
          let t : puts_in (f n) es ≡ g n = ap (λ (k : ℕ). puts_in (f k) es) (sym e) ∙ here ∙ ap g e in
          ap (λ (k : ℕ). puts (joined f n ++ (f n ++ rest)) k es) (ap (λ (k : ℕ). w * k) e ∙ z)
          ∙ puts_after (joined f n) (f n ++ rest) (w * n) 0 es (length_joined f w each n)
          ∙ ap (λ (r : List ℕ). joined f n ++ r)
          (puts_here (f n ++ rest) es ∙ puts_before (f n) rest es (rw (each n) low)
          ∙ ap (λ (r : List ℕ). r ++ rest) t)
          ∙ ap (λ (r : List ℕ). r ++ (g n ++ rest)) s
      go (no ne) r =
          r (omega arith)
          ∙ ap (λ (r : List ℕ). joined g n ++ (r ++ rest)) (other n (λ d. ne (sym d)))

pub puts_append : (b : List ℕ) (o : ℕ) (xs ys : List (ℕ × ℕ)) → puts b o (xs ++ ys)
    ≡ puts (puts b o xs) o ys
puts_append b o [] ys = refl
puts_append b o (x ∷ xs) ys = puts_append (set b (o + x.0) x.1) o xs ys
