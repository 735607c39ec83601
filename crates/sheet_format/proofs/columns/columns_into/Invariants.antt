use mathlib.Core.Path.{◌≡◌}
use lib.Seq.{sets}
use Rattle.sheet_format.specs.Columns.{padded}
use Rattle.sheet_format.proofs.columns.columns_into.Given as goal

abbrev pub invariant-loop-k : goal.invariant-loop-k
invariant-loop-k l =
    sets l.area l.at (padded l.k l.rest) ≡ sets l.initial.area l.at (padded 6 l.initial.rest)
