use Rattle.std.proofs.Common.{◌≡◌}
use Rattle.laws.specs.Every.{set_below}
use Rattle.record.proofs.levels.with_levels.Given as goal

abbrev pub invariant-loop-i : goal.invariant-loop-i
invariant-loop-i l = l.b ≡ set_below l.fn.a l.i l.v
