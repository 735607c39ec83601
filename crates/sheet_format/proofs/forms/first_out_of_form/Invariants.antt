use mathlib.Core.Path.{◌≡◌}
use Rattle.sheet_format.specs.Kept.{kept_to}
use Rattle.sheet_format.specs.Lines.{first_failing, line_in_form, part_at}
use Rattle.sheet_format.proofs.forms.first_out_of_form.Given as goal

abbrev pub invariant-loop-k : goal.invariant-loop-k
invariant-loop-k l =
    (first_failing (λ n. line_in_form (part_at l.sheet n)) l.k ≡ 0)
    × (l.kept ≡ kept_to l.sheet l.initial.kept l.k)
