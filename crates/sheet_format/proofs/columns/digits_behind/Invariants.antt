use lib.ListN.{drop}
use Rattle.sheet_format.specs.Digits.{NumberSoFar}
use Rattle.sheet_format.proofs.columns.digits_behind.Given as goal

abbrev pub invariant-loop-k : goal.invariant-loop-k
invariant-loop-k l = NumberSoFar (drop l.at l.line) l.k l.value
