-- Whether Backlog counts a node, by the bytes of its use, its stamp and its mark.
use Rattle.std.specs.Prelude.{Bool, ◌&&◌, ℕ, eqb}

abbrev pub pending_bytes : ℕ → ℕ → ℕ → Bool
pending_bytes used stamped mark = eqb used 1 && (eqb stamped 1 && eqb mark 0)
