use mathlib.Core.Path.{◌≡◌, sym, ◌∙◌, ap, subst}
use mathlib.Core.Bool.{false}
use Prim.Native.Nat.{ℕ, ◌+◌, ◌*◌, ◌<◌}
use native.Mathlib.Nat.{add-zero}
use native.Mathlib.Omega.{arith}
use lib.ListN.{get_or, drop}
use lib.Seq.{get_or-drop}
use Rattle.sheet_format.specs.Lines.{right_for, right_letter, line_count, first_misplaced}
use Rattle.sheet_format.proofs.Readings.{fails_at, misplaced_at, line_told}
use Rattle.sheet_format.proofs.Parts.{part_next}
use Rattle.sheet_format.proofs.forms.first_misplaced.Goals as goal

pub returns-then-not-right_letter : goal.returns-then-not-right_letter
returns-then-not-right_letter c =
    let s = c.args.sheet.now in
    let k = c.loop-k.k in
    let n = c.line_count-count.ensures in
    let at : get_or (drop (30 * k) s) 0 0 ≡ get_or s (30 * k) 0 =
    get_or-drop (30 * k) s 0 0 ∙ ap (λ (j : ℕ). get_or s j 0) (add-zero (30 * k)) in
    let f : right_letter s (k + 1) ≡ false =
    ap (λ l. right_for (get_or l 0 0) (k + 1)) (sym (part_next s k))
    ∙ ap (λ (l : ℕ). right_for l (k + 1)) at
    ∙ sym c.right_letter.ensures ∙ c.if-not-right_letter.true in
    let h : k < line_count s = subst (λ (m : ℕ). k < m) n c.loop-k-test.true in
    let z : (line_count s ≡ 0 → ⊥) = λ e. omega arith in
    line_told k (first_misplaced s)
    (misplaced_at s (k + 1) z (fails_at (right_letter s) k (line_count s) c.loop-k.invariant f h))
