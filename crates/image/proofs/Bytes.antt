-- Numbers of four bytes and arrays of eight, there and back. Assumes nothing.
use mathlib.Core.Path.{◌≡◌, refl, sym, ◌∙◌, ap}
use mathlib.Core.List.{List, [], ◌∷◌}
use Prim.Native.Nat.{ℕ, zero, suc, ◌+◌, ◌*◌, ◌/◌, ◌%◌, ◌≤◌, ◌<◌}
use native.Mathlib.Nat.{div-div-eq-div-mul}
use native.Mathlib.Omega.{arith}
use lib.ListN.{length, get_or, take, drop}
use lib.Seq.{drop-cons, take_all}
use Rattle.image.specs.Numbers.{bytes_of32, number32, eight}
use Rattle.image.specs.OneToOne.{Bytes}

pub number_back : (v : ℕ) → number32 (bytes_of32 v) 0 ≡ v
number_back v =
    let e : v / 65536 ≡ v / 256 / 256 = sym (div-div-eq-div-mul v 256 256) in
    let f : v / 16777216 ≡ v / 256 / 256 / 256 =
    sym (div-div-eq-div-mul (v / 256) 256 256 ∙ div-div-eq-div-mul v 256 65536) in
    omega arith

module _ (x y z t : ℕ) (hx : x < 256) (hy : y < 256) (hz : z < 256) where
  pub bytes_back : bytes_of32 (x + 256 * y + 65536 * z + 16777216 * t) ≡ x ∷ y ∷ z ∷ t ∷ []
  bytes_back =
      let n = x + 256 * y + 65536 * z + 16777216 * t in
      let a : n % 256 ≡ x = omega arith in
      let b : n / 256 ≡ y + 256 * z + 65536 * t = omega arith in
      let c : n / 65536 ≡ z + 256 * t = omega arith in
      let d : n / 16777216 ≡ t = omega arith in
      let e : (y + 256 * z + 65536 * t) % 256 ≡ y = omega arith in
      let f : (z + 256 * t) % 256 ≡ z = omega arith in
      rw (a, b, c, d, e, f) refl

pub four_back : (b : List ℕ) → Bytes b → (i : ℕ) → bytes_of32 (number32 b i)
    ≡ get_or b i 0 ∷ get_or b (i + 1) 0 ∷ get_or b (i + 2) 0 ∷ get_or b (i + 3) 0 ∷ []
four_back b low i =
    bytes_back (get_or b i 0) (get_or b (i + 1) 0) (get_or b (i + 2) 0) (get_or b (i + 3) 0) (low i)
    (low (i + 1)) (low (i + 2))

-- n elements from place i on, one by one
abbrev pub from : List ℕ → ℕ → ℕ → List ℕ
from l i zero = []
from l i (suc n) = get_or l i 0 ∷ from l (suc i) n

pub from_part : (l : List ℕ) (i n : ℕ) → i + n ≤ length l → from l i n ≡ take n (drop i l)
from_part l i zero h = refl
from_part l i (suc n) h =
    rw (drop-cons l i 0 (omega arith))
    (ap (λ (r : List ℕ). get_or l i 0 ∷ r) (from_part l (suc i) n (omega arith)))

pub from_whole : (l : List ℕ) (n : ℕ) → length l ≡ n → from l 0 n ≡ l
from_whole l n h = from_part l 0 n (omega arith) ∙ take_all n l (omega arith)

pub eight_back : (l : List ℕ) → length l ≡ 8 → eight l 0 ≡ l
eight_back l h = from_whole l 8 h
