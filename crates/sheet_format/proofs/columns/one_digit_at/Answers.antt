use mathlib.Core.Path.{◌≡◌, sym, ◌∙◌, ap, subst}
use mathlib.Core.Bool.{true}
use mathlib.Core.List.{List}
use Prim.Native.Nat.{ℕ, ◌≤◌}
use native.Mathlib.Omega.{arith}
use lib.ListN.{drop}
use lib.Seq.{get_or-drop}
use Rattle.sheet_format.specs.Columns.{is_digit, blank_to}
use Rattle.sheet_format.specs.Digits.{extended_by}
use Rattle.sheet_format.proofs.Digits.{blank_not}
use Rattle.sheet_format.proofs.Found.{not_right, no_digit, one_digit}
use Rattle.sheet_format.proofs.columns.one_digit_at.Goals as goal

-- the columns before the last two are spaces
blank_before : (s : List ℕ) (k : ℕ) → k ≤ 5 → 5 ≤ k → blank_to s k ≡ true → blank_to s 5 ≡ true
blank_before s k below above h =
    let e : k ≡ 5 = omega arith in
    subst (λ (n : ℕ). blank_to s n ≡ true) e h

pub returns-then-spaces_at-lt-BEFORE_LAST : goal.returns-then-spaces_at-lt-BEFORE_LAST
returns-then-spaces_at-lt-BEFORE_LAST c =
    let x = c.args in
    let s = drop x.at x.line.now in
    let f = c.spaces_at in
    let h = c.if-spaces_at-lt-BEFORE_LAST.true in
    not_right s c.requires.line_value (blank_not s f.result 5 h (f.ensures.result_value h))

pub returns-then-not-is_digit : goal.returns-then-not-is_digit
returns-then-not-is_digit c =
    let x = c.args in
    let s = drop x.at x.line.now in
    let f = c.spaces_at in
    let b =
    blank_before s f.result f.ensures.upper_bound.0 c.if-spaces_at-lt-BEFORE_LAST.false
    f.ensures.upper_bound.1 in
    let d =
    ap is_digit (get_or-drop x.at x.line.now 6 0) ∙ sym c.is_digit.ensures
    ∙ c.if-not-is_digit.true in
    no_digit s c.requires.line_value b d

pub returns : goal.returns
returns c =
    let x = c.args in
    let s = drop x.at x.line.now in
    let f = c.spaces_at in
    let b =
    blank_before s f.result f.ensures.upper_bound.0 c.if-spaces_at-lt-BEFORE_LAST.false
    f.ensures.upper_bound.1 in
    let at = get_or-drop x.at x.line.now 6 0 in
    let d = ap is_digit at ∙ sym c.is_digit.ensures ∙ c.if-not-is_digit.false in
    c.extended.ensures ∙ ap (extended_by 0) (sym at) ∙ one_digit s c.requires.line_value b d
