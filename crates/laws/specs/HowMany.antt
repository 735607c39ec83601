-- How many of the numbers 1 to n pass a test.
use Rattle.std.specs.Prelude.{Bool, cond, ℕ, zero, suc, ◌+◌}

abbrev pub how_many : (ℕ → Bool) → ℕ → ℕ
how_many f zero = 0
how_many f (suc k) = how_many f k + cond (f (suc k)) 1 0
