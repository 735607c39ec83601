use Rattle.std.proofs.Common.{◌≡◌, ◌||◌, ℕ, ◌+◌, leb}
use Rattle.laws.specs.Every.{every_below}
use Rattle.image.specs.Puts.{piece}
use Rattle.image_check.proofs.levels.levels_low.Given as goal

abbrev pub invariant-loop-k : goal.invariant-loop-k
invariant-loop-k l =
    l.ok ≡ every_below (λ (i : ℕ). leb l.l i || leb (piece l.b l.o (l.j + i)) l.top) l.k
