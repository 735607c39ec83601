use mathlib.Core.Path.{◌≡◌, sym, ◌∙◌, ap, subst}
use mathlib.Core.Bool.{true}
use Prim.Native.Nat.{ℕ, ◌+◌, ◌≤◌}
use native.Mathlib.Omega.{arith}
use lib.ListN.{drop}
use lib.Seq.{get_or-drop}
use Rattle.sheet_format.specs.Columns.{is_digit, blank_to}
use Rattle.sheet_format.specs.Digits.{extended_by}
use Rattle.sheet_format.proofs.Found.{all_blank, no_first, first_digit, first_zero, only_zero}
use Rattle.sheet_format.proofs.columns.value_at.Goals as goal

pub returns-then-width-first : goal.returns-then-width-first
returns-then-width-first c =
    let x = c.args in
    let f = c.spaces_at-first in
    let s = drop x.at x.line.now in
    let e : f.result ≡ x.width = omega (arith, f.ensures.upper_bound.0, c.if-width-first.true) in
    all_blank s x.width (subst (λ (k : ℕ). blank_to s k ≡ true) e f.ensures.upper_bound.1)

pub returns-then-not-is_digit : goal.returns-then-not-is_digit
returns-then-not-is_digit c =
    let x = c.args in
    let f = c.spaces_at-first in
    let s = drop x.at x.line.now in
    let h = c.if-width-first.false in
    let d =
    ap is_digit (get_or-drop x.at x.line.now f.result 0)
    ∙ sym c.is_digit.ensures ∙ c.if-not-is_digit.true in
    no_first s x.width f.result f.ensures.upper_bound.1 (f.ensures.result_value h) d h

pub returns-then-behind-width : goal.returns-then-behind-width
returns-then-behind-width c =
    let x = c.args in
    let f = c.spaces_at-first in
    let s = drop x.at x.line.now in
    -- the first column behind the spaces holds a digit, and what it is worth
    let at = get_or-drop x.at x.line.now f.result 0 in
    let is = ap is_digit at ∙ sym c.is_digit.ensures ∙ c.if-not-is_digit.false in
    let worth = c.extended-digit.ensures ∙ ap (extended_by 0) (sym at) in
    first_zero s x.width f.result f.ensures.upper_bound.1 is (sym worth ∙ c.if-digit-eq0.true)
    c.if-behind-width.true

pub returns-else-behind-width : goal.returns-else-behind-width
returns-else-behind-width c =
    let x = c.args in
    let f = c.spaces_at-first in
    let s = drop x.at x.line.now in
    let at = get_or-drop x.at x.line.now f.result 0 in
    let is = ap is_digit at ∙ sym c.is_digit.ensures ∙ c.if-not-is_digit.false in
    let worth = c.extended-digit.ensures ∙ ap (extended_by 0) (sym at) in
    let end : f.result + 1 ≡ x.width =
    omega (arith, c.if-behind-width.false, c.if-width-first.false) in
    only_zero s x.width f.result f.ensures.upper_bound.1 is (sym worth ∙ c.if-digit-eq0.true) end

pub digits_behind-requires-clause-number_so_far : goal.digits_behind-requires-clause-number_so_far
digits_behind-requires-clause-number_so_far c =
    let x = c.args in
    let f = c.spaces_at-first in
    let s = drop x.at x.line.now in
    let at = get_or-drop x.at x.line.now f.result 0 in
    let is = ap is_digit at ∙ sym c.is_digit.ensures ∙ c.if-not-is_digit.false in
    let worth = c.extended-digit.ensures ∙ ap (extended_by 0) (sym at) in
    let some : 1 ≤ c.extended-digit.result = omega (arith, c.if-digit-eq0.false) in
    first_digit s x.width f.result f.ensures.upper_bound.1 is c.extended-digit.result worth some
