-- The node that a choice finds, where its definition gives 0 for none.
use Rattle.std.specs.Prelude.{ℕ, eqb, cond, Option, Some, None}
use Rattle.record.specs.declared.nodes.Use.{Use}
use Rattle.rules.specs.Choice.{retirement}

-- node x, or none for 0
abbrev pub found : ℕ → Option ℕ
found x = cond (eqb x 0) None (Some x)

-- node x with the time of its retirement, or none for 0
abbrev pub found_retired : (ℕ → Use) → ℕ → Option (ℕ × ℕ)
found_retired state x = cond (eqb x 0) None (Some (x, retirement (state x)))
