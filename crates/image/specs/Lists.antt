-- Lists made of pieces, one for each number below a bound. None of these unfolds unasked, since the
-- bound is 202.
use Rattle.std.specs.Prelude.{ℕ, zero, suc, Bool, List, [], ◌∷◌, ◌++◌}
use Rattle.std.proofs.lemmas.List.Edits.{sets}
use Rattle.laws.specs.Every.{every_below}

-- a list with these elements stored from place i on, and every other element as it was
unfoldable pub stored_at : {A : Type 0} → List A → ℕ → List A → List A
stored_at l i xs = sets l i xs

-- f 0, f 1, .. f (n - 1), one after the other
unfoldable pub joined : (ℕ → List ℕ) → ℕ → List ℕ
joined f zero = []
joined f (suc k) = joined f k ++ f k

unfoldable pub listed : {A : Type 0} → (ℕ → A) → ℕ → List A
listed f zero = []
listed f (suc k) = listed f k ++ (f k ∷ [])

-- f passes at 0, 1, .. n - 1
unfoldable pub all_below : (ℕ → Bool) → ℕ → Bool
all_below f n = every_below f n
