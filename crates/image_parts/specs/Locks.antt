-- Locks in the image's bytes.
use Rattle.std.specs.Prelude.{List, ℕ, ◌+◌, set, Option, Some, None}

-- The bytes after an attempt of processor p at the lock whose byte is at `at` (02, W1).
abbrev pub after_attempt : List ℕ → ℕ → ℕ → Option ℕ → List ℕ
after_attempt b at p None = set b at (p + 1)
after_attempt b at p (Some h) = b
