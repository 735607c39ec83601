-- What `all` gives over a range: the test of every number below its end. Assumes nothing.
use mathlib.Core.Path.{◌≡◌, sym, subst, ◌∙◌}
use mathlib.Core.Bool.{Bool, true, false}
use Prim.Native.Nat.{ℕ, ◌<◌}
use native.Mathlib.Omega.{arith}
use lib.ListN.{length}
use Rattle.std.specs.Bool.{MatchBool}
use Rattle.std.specs.Prelude.{slice_index_or}
use Rattle.std.specs.List.{range_with_len, AllWithin, HoldsAt}
use Rattle.std.proofs.lemmas.List.FromFn.{length-range_with_len, get_or-range_with_len}
use Rattle.laws.specs.Every.{every_below}
use Rattle.laws.proofs.Counting.{every_of, every_not}

-- r is what std's `cases_from_all` says of `(0..n).all(..)`, with a closure that computes f
pub every_from_all : (f : ℕ → Bool) (n : ℕ) (r : Bool) →
    MatchBool r (AllWithin (λ k. f k ≡ true) (range_with_len 0 n) 0 (length (range_with_len 0 n)))
    ((k : ℕ) × (k < length (range_with_len 0 n)) × HoldsAt (λ x. f x ≡ false) (range_with_len 0 n) k) →
    r ≡ every_below f n
every_from_all f n true h =
    sym (every_of f n (λ k l.
    let e : slice_index_or (range_with_len 0 n) k 0 ≡ k = get_or-range_with_len 0 n k 0 l ∙ omega arith in
    let m = length-range_with_len 0 n in
    subst (λ x. f x ≡ true) e (h k 0 (omega arith) (omega arith))))
every_from_all f n false h =
    let m = length-range_with_len 0 n in
    let l : h.0 < n = omega (arith, h.1) in
    let e : slice_index_or (range_with_len 0 n) h.0 0 ≡ h.0 = get_or-range_with_len 0 n h.0 0 l ∙ omega arith in
    sym (every_not f n h.0 (subst (λ x. f x ≡ false) e (h.2 0)) l)
