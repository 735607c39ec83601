-- Every row of the table of starred runs is right: one test, computed over the whole table, and one law. Assumes nothing.
use mathlib.Core.Path.{◌≡◌, refl, sym}
use mathlib.Core.Bool.{Bool, true, false, ◌&&◌, true≢false}
use mathlib.Core.List.{List, [], ◌∷◌}
use Prim.Native.Nat.{ℕ, zero, suc, ◌<◌}
use native.Mathlib.Nat.{le_of_suc-le-suc, not-suc-le-zero}
use lib.Dec.{eqb}
use lib.ListN.{length, get_or}
use borrow.Author.Tests.{eqb-true}
use Rattle.laws.proofs.Counting.{and_left, and_right}
use Rattle.rules.specs.Runs.{after_all}
use Rattle.rules_starred.specs.Starred.{StarredRun, result, starred, Right}

-- two lists of numbers are the same
abbrev same_list : List ℕ → List ℕ → Bool
same_list [] [] = true
same_list [] (y ∷ ys) = false
same_list (x ∷ xs) [] = false
same_list (x ∷ xs) (y ∷ ys) = eqb x y && same_list xs ys

same_right : (xs ys : List ℕ) → same_list xs ys ≡ true → xs ≡ ys
same_right [] [] h = refl
same_right [] (y ∷ ys) h = absurd (true≢false (sym h))
same_right (x ∷ xs) [] h = absurd (true≢false (sym h))
same_right (x ∷ xs) (y ∷ ys) h =
    let e : x ≡ y = eqb-true x y (and_left (eqb x y) (same_list xs ys) h) in
    let f : xs ≡ ys = same_right xs ys (and_right (eqb x y) (same_list xs ys) h) in
    cc

-- the test over a table
abbrev every_row : List StarredRun → Bool
every_row [] = true
every_row (r ∷ rs) = same_list (result r.asked) r.expected && every_row rs

-- the law: a table that passes the test is right at each of its rows
rows_right : (rs : List StarredRun) → every_row rs ≡ true → (k : ℕ) (d : StarredRun) → k < length rs → Right (get_or rs k d)
rows_right [] t k d h = absurd (not-suc-le-zero h)
rows_right (r ∷ rs) t zero d h = same_right (result r.asked) r.expected (and_left (same_list (result r.asked) r.expected) (every_row rs) t)
rows_right (r ∷ rs) t (suc k) d h = rows_right rs (and_right (same_list (result r.asked) r.expected) (every_row rs) t) k d (le_of_suc-le-suc h)

-- the starred runs of document 01, all of them
pub starred_right : (k : ℕ) (d : StarredRun) → k < length starred → Right (get_or starred k d)
unfolding after_all
starred_right k d h = rows_right starred refl k d h
