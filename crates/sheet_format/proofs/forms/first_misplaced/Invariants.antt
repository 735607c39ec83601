use mathlib.Core.Path.{◌≡◌}
use Rattle.sheet_format.specs.Lines.{first_failing, right_letter}
use Rattle.sheet_format.proofs.forms.first_misplaced.Given as goal

abbrev pub invariant-loop-k : goal.invariant-loop-k
invariant-loop-k l = first_failing (right_letter l.sheet) l.k ≡ 0
