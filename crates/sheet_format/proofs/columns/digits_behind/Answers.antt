use mathlib.Core.Path.{◌≡◌, sym, ◌∙◌, ap}
use mathlib.Core.Bool.{true, false}
use Prim.Native.Nat.{◌≤◌}
use native.Mathlib.Omega.{arith}
use lib.ListN.{drop, get_or}
use lib.Seq.{get_or-drop}
use Rattle.sheet_format.specs.Columns.{is_digit}
use Rattle.sheet_format.specs.Digits.{extended_by}
use Rattle.sheet_format.proofs.Digits.{value_small}
use Rattle.sheet_format.proofs.Found.{number_stops, number_goes_on}
use Rattle.sheet_format.proofs.columns.digits_behind.Goals as goal

pub returns-then-not-is_digit : goal.returns-then-not-is_digit
returns-then-not-is_digit c =
    let x = c.args in
    let l = c.loop-k in
    let s = drop x.at x.line.now in
    let d : is_digit (get_or s l.k 0) ≡ false =
    ap is_digit (get_or-drop x.at x.line.now l.k 0) ∙ sym c.is_digit.ensures
    ∙ c.if-not-is_digit.true in
    number_stops s x.width l.k l.value l.invariant d c.loop-k-test.true

pub extended-value-requires : goal.extended-value-requires
extended-value-requires c =
    let x = c.args in
    let l = c.loop-k in
    let h : l.k ≤ 6 = omega arith in (
      omega (arith, l.invariant.0, value_small (drop x.at x.line.now) l.k h),
      sym c.is_digit.ensures ∙ c.if-not-is_digit.false,
    )

pub loop-k-preserved : goal.loop-k-preserved
loop-k-preserved c =
    let x = c.args in
    let l = c.loop-k in
    let s = drop x.at x.line.now in
    let at = get_or-drop x.at x.line.now l.k 0 in
    let d : is_digit (get_or s l.k 0) ≡ true =
    ap is_digit at ∙ sym c.is_digit.ensures
    ∙ c.if-not-is_digit.false in
    let e : extended_by l.value (get_or s l.k 0) ≡ c.extended-value.result =
    ap (extended_by l.value) at ∙ sym c.extended-value.ensures in
    rw (← e) (number_goes_on s x.width l.k l.value l.invariant d)
