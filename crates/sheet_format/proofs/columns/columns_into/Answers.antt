use mathlib.Core.Path.{◌≡◌, sym, ◌∙◌, ap}
use Prim.Native.Nat.{ℕ}
use native.Mathlib.Omega.{arith}
use lib.Seq.{sets}
use Rattle.sheet_format.specs.Columns.{padded}
use Rattle.sheet_format.proofs.Padding.{sets_column, sets_columns}
use Rattle.sheet_format.proofs.columns.columns_into.Goals as goal

pub loop-k-preserved : goal.loop-k-preserved
loop-k-preserved c =
    let l = c.loop-k in
    sets_column l.area c.args.at l.k l.rest c.padded_digit.result (omega arith) c.padded_digit.ensures
    ∙ l.invariant

pub returns : goal.returns
returns c =
    let x = c.args in
    let l = c.loop-k in
    let e : l.k ≡ 0 = omega arith in
    ap (λ (k : ℕ). sets l.area x.at (padded k l.rest)) (sym e)
    ∙ l.invariant
    ∙ sets_columns x.area.now x.at x.n c.last_digit.result c.last_digit.ensures
