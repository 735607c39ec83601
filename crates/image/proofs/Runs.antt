-- Stores of neighbouring bytes: a part that was written at once is as by single stores of its bytes.
-- Assumes nothing.
use mathlib.Core.Path.{◌≡◌, refl, sym, ◌∙◌, ap}
use mathlib.Core.List.{List, [], ◌∷◌, ◌++◌, append_assoc}
use Prim.Native.Nat.{ℕ, zero, suc, ◌+◌, ◌-◌, ◌≤◌, ◌<◌}
use native.Mathlib.Omega.{arith}
use borrow.Rule.Slice.PartMut.{put_mid, Post-is}
use lib.ListN.{length, set, take, drop, replicate}
use lib.Seq.{sets, sets-eq}
use Rattle.std.proofs.lemmas.List.{length-replicate, replicate-append-replicate, set_comm}
use Rattle.image.specs.Numbers.{bytes_of32}
use Rattle.image.specs.Puts.{puts, four, clears, rests}
use Rattle.image.proofs.Puts.{puts_append}

-- these bytes from place j on
abbrev pub run : ℕ → List ℕ → List (ℕ × ℕ)
run j [] = []
run j (x ∷ xs) = (j, x) ∷ run (suc j) xs

pub puts_run : (b : List ℕ) (o j : ℕ) (xs : List ℕ) → puts b o (run j xs) ≡ sets b (o + j) xs
puts_run b o j [] = refl
puts_run b o j (x ∷ xs) =
    let z : o + suc j ≡ suc (o + j) = omega arith in
    puts_run (set b (o + j) x) o (suc j) xs ∙ ap (λ (i : ℕ). sets (set b (o + j) x) i xs) z

pub put_mid-sets :
    (b xs : List ℕ) (a e : ℕ) → a + length xs ≡ e → e ≤ length b →
    put_mid a (e - a) b xs ≡ sets b a xs
put_mid-sets b xs a e long high =
    let at : a ≤ e = omega arith in
    let in_it : a + length xs ≤ length b = omega arith in
    ap (λ (r : List ℕ). take a b ++ (xs ++ r)) (Post-is a e b at)
    ∙ ap (λ (i : ℕ). take a b ++ (xs ++ drop i b)) (sym long)
    ∙ sym (append_assoc (take a b) xs (drop (a + length xs) b))
    ∙ sym (sets-eq xs b a in_it)

-- a part that was written at once
pub put_mid-puts :
    (b xs : List ℕ) (a e o j : ℕ) → a ≡ o + j → a + length xs ≡ e → e ≤ length b →
    put_mid a (e - a) b xs ≡ puts b o (run j xs)
put_mid-puts b xs a e o j at long high =
    put_mid-sets b xs a e long high
    ∙ ap (λ (i : ℕ). sets b i xs) at
    ∙ sym (puts_run b o j xs)

pub run_four : (j v : ℕ) → run j (bytes_of32 v) ≡ four j v
run_four j v = let p : suc j ≡ j + 1 = omega arith in
    let q : suc (suc j) ≡ j + 2 = omega arith in
    let r : suc (suc (suc j)) ≡ j + 3 = omega arith in
    cc

-- one byte more at the end of a run of one byte
pub run_more : (j k v : ℕ) → run j (replicate k v) ++ ((j + k, v) ∷ []) ≡ run j (replicate (suc k) v)
run_more j zero v = let z : j + 0 ≡ j = omega arith in ap (λ (i : ℕ). (i, v) ∷ []) z
run_more j (suc k) v =
    let z : j + suc k ≡ suc j + k = omega arith in
    ap (λ (r : List (ℕ × ℕ)). (j, v) ∷ r)
    (ap (λ (i : ℕ). run (suc j) (replicate k v) ++ ((i, v) ∷ [])) z ∙ run_more (suc j) k v)

pub run_clears : (l : ℕ) → run 9 (replicate l 0) ≡ clears l
run_clears zero = refl
run_clears (suc k) =
    sym (run_more 9 k 0) ∙ ap (λ (r : List (ℕ × ℕ)). r ++ ((9 + k, 0) ∷ [])) (run_clears k)

-- two runs of stores side by side, the second one first
apart : (b ys : List ℕ) (i k x : ℕ) → i < k → set (sets b k ys) i x ≡ sets (set b i x) k ys
apart b [] i k x low = refl
apart b (y ∷ ys) i k x low =
    apart (set b k y) ys i (suc k) x (omega arith)
    ∙ ap (λ (r : List ℕ). sets r (suc k) ys) (set_comm b k i y x (λ e. omega arith))

sides : (b xs ys : List ℕ) (i : ℕ) →
    sets (sets b (i + length xs) ys) i xs ≡ sets b i (xs ++ ys)
sides b [] ys i = let z : i + 0 ≡ i = omega arith in ap (λ (k : ℕ). sets b k ys) z
sides b (x ∷ xs) ys i =
    let z : i + suc (length xs) ≡ suc i + length xs = omega arith in
    ap (λ (r : List ℕ). sets r (suc i) xs)
    (apart b ys i (i + suc (length xs)) x (omega arith)
    ∙ ap (λ (k : ℕ). sets (set b i x) k ys) z)
    ∙ sides (set b i x) xs ys (suc i)

-- the begin, the own node, the stage and the saved nodes of l levels stand side by side
pub cleared :
    (b ys : List ℕ) (o l n : ℕ) → ys ≡ replicate n 0 → n ≡ 9 + l → o + 9 + l ≤ length b →
    put_mid o (o + 9 + l - o) b ys ≡ puts b o (clears l ++ rests)
cleared b ys o l n is long high =
    let zeros : ys ≡ replicate 9 0 ++ replicate l 0 =
    is ∙ ap (λ (k : ℕ). replicate k 0) long ∙ sym (replicate-append-replicate 9 l 0) in
    let z : o + 0 ≡ o = omega arith in
    put_mid-sets b ys o (o + 9 + l) (omega (arith, ap length is, length-replicate {A = ℕ} n 0)) high
    ∙ ap (sets b o) zeros
    ∙ sym (sides b (replicate 9 0) (replicate l 0) o)
    ∙ ap (λ (r : List ℕ). sets r o (replicate 9 0))
    (sym (puts_run b o 9 (replicate l 0)) ∙ ap (puts b o) (run_clears l))
    ∙ ap (λ (k : ℕ). sets (puts b o (clears l)) k (replicate 9 0)) (sym z)
    ∙ sym (puts_run (puts b o (clears l)) o 0 (replicate 9 0))
    ∙ sym (puts_append b o (clears l) rests)
