-- The numbers of a sheet's lines, as they are kept, are those of the lines. Assumes nothing.
use mathlib.Core.Path.{◌≡◌, refl, sym, ap, ◌∙◌, subst}
use mathlib.Core.Bool.{Bool, true, false, cond}
use mathlib.Core.List.{List}
use Prim.Native.Nat.{ℕ, zero, suc, ◌+◌, ◌*◌, ◌/◌, ◌≤◌, ◌<◌}
use native.Mathlib.Decide.{ℕ_discrete}
use native.Mathlib.Nat.{div-mul-le_self}
use native.Mathlib.Numerals.{add-one}
use native.Mathlib.Omega.{arith}
use lib.Dec.{ltb, leb}
use lib.ListN.{length, get_or, set, length-set}
use lib.Seq.{get_or-set_same, get_or-set_other}
use borrow.Author.Tests.{ltb-true, eq-eqb, ne_eqb}
use Rattle.laws.proofs.Booleans.{cond_elim}
use Rattle.sheet_format.specs.declared.lines.SheetLine.{SheetLine}
use Rattle.sheet_format.specs.Kept.{room_for, stored, stored_line, with_line, kept_to, lines_in_form}
use Rattle.sheet_format.specs.Kept.{kept_line, IsKept}
use Rattle.sheet_format.specs.Lines.{letter_of, field_at, line, line_of, part_at, line_count}
use Rattle.sheet_format.specs.Lines.{first_out_of_form}

-- ---- one line stored

pub length_stored : (kept : List ℕ) (k : ℕ) (l : SheetLine) → length (stored kept k l) ≡ length kept
length_stored kept k l =
    length-set (set (set (set kept (4 * k) l.first) (4 * k + 1) l.second) (4 * k + 2)
    l.third) (4 * k + 3) l.fourth
    ∙ length-set (set (set kept (4 * k) l.first) (4 * k + 1) l.second) (4 * k + 2) l.third
    ∙ length-set (set kept (4 * k) l.first) (4 * k + 1) l.second
    ∙ length-set kept (4 * k) l.first

pub length_with : (kept : List ℕ) (k : ℕ) (l : SheetLine) → length (with_line kept k l) ≡ length kept
length_with kept k l =
    cond_elim (λ (x : List ℕ). length x ≡ length kept) (ltb k (room_for kept)) (stored kept k l) kept
    (length_stored kept k l) refl

-- the places of a line before it keep what they had
stored_other :
    (kept : List ℕ) (n j : ℕ) (l : SheetLine) → j < 4 * n → get_or (stored kept n l) j 0 ≡ get_or kept j 0
stored_other kept n j l h =
    let a = set kept (4 * n) l.first in
    let b = set a (4 * n + 1) l.second in
    let c = set b (4 * n + 2) l.third in
    get_or-set_other c (4 * n + 3) j l.fourth 0 (λ e. omega arith)
    ∙ get_or-set_other b (4 * n + 2) j l.third 0 (λ e. omega arith)
    ∙ get_or-set_other a (4 * n + 1) j l.second 0 (λ e. omega arith)
    ∙ get_or-set_other kept (4 * n) j l.first 0 (λ e. omega arith)

with_other :
    (kept : List ℕ) (n j : ℕ) (l : SheetLine) → j < 4 * n → get_or (with_line kept n l) j 0 ≡ get_or kept j 0
with_other kept n j l h =
    cond_elim (λ (x : List ℕ). get_or x j 0 ≡ get_or kept j 0) (ltb n (room_for kept))
    (stored kept n l) kept (stored_other kept n j l h) refl

-- its own places have its numbers
stored_line_lem :
    (kept : List ℕ) (k letter : ℕ) (l : SheetLine)
    → 4 * k + 4 ≤ length kept
    → stored_line letter (stored kept k l) k ≡ line letter l.first l.second l.third l.fourth
stored_line_lem kept k letter l room =
    let a = set kept (4 * k) l.first in
    let b = set a (4 * k + 1) l.second in
    let c = set b (4 * k + 2) l.third in
    let la : length a ≡ length kept = length-set kept (4 * k) l.first in
    let lb : length b ≡ length kept = length-set a (4 * k + 1) l.second ∙ la in
    let lc : length c ≡ length kept = length-set b (4 * k + 2) l.third ∙ lb in
    let first : get_or (stored kept k l) (4 * k) 0 ≡ l.first =
    get_or-set_other c (4 * k + 3) (4 * k) l.fourth 0 (λ e. omega arith)
    ∙ get_or-set_other b (4 * k + 2) (4 * k) l.third 0 (λ e. omega arith)
    ∙ get_or-set_other a (4 * k + 1) (4 * k) l.second 0 (λ e. omega arith)
    ∙ get_or-set_same kept (4 * k) l.first 0 (omega arith) in
    let second : get_or (stored kept k l) (4 * k + 1) 0 ≡ l.second =
    get_or-set_other c (4 * k + 3) (4 * k + 1) l.fourth 0 (λ e. omega arith)
    ∙ get_or-set_other b (4 * k + 2) (4 * k + 1) l.third 0 (λ e. omega arith)
    ∙ get_or-set_same a (4 * k + 1) l.second 0 (omega (arith, la)) in
    let third : get_or (stored kept k l) (4 * k + 2) 0 ≡ l.third =
    get_or-set_other c (4 * k + 3) (4 * k + 2) l.fourth 0 (λ e. omega arith)
    ∙ get_or-set_same b (4 * k + 2) l.third 0 (omega (arith, lb)) in
    let fourth : get_or (stored kept k l) (4 * k + 3) 0 ≡ l.fourth =
    get_or-set_same c (4 * k + 3) l.fourth 0 (omega (arith, lc)) in
    rw (first, second, third, fourth) refl

pub room_enough : (kept : List ℕ) (k : ℕ) → k < room_for kept → 4 * k + 4 ≤ length kept
room_enough kept k h = omega (arith, div-mul-le_self (length kept) 4)

-- ---- the lines of a sheet

-- a line is its letter and its numbers
line_is :
    (s : List ℕ)
    → line (letter_of s) (line_of s).first (line_of s).second (line_of s).third (line_of s).fourth
    ≡ line_of s
line_is s =
    cond_elim (λ (l : SheetLine). line (letter_of s) l.first l.second l.third l.fourth ≡ l)
    (leb 30 (length s))
    (line (letter_of s) (field_at s 0) (field_at s 1) (field_at s 2) (field_at s 3))
    (line (letter_of s) 0 0 0 0) refl refl

-- what was just kept
newest : (s kept : List ℕ) (k : ℕ) → kept_line s (with_line kept k (line_of s)) k ≡ line_of s
newest s kept k = go (ltb k (room_for kept)) refl
  where
    l : SheetLine
    l = line_of s

    go : (t : Bool) → ltb k (room_for kept) ≡ t → kept_line s (with_line kept k l) k ≡ l
    go true e =
        let x = stored kept k l in
        let w : with_line kept k l ≡ x = ap (λ (t : Bool). cond t x kept) e in
        let r : ltb k (room_for x) ≡ true =
        ap (λ (n : ℕ). ltb k (n / 4)) (length_stored kept k l) ∙ e in
        ap (λ (y : List ℕ). kept_line s y k) w
        ∙ ap (λ (t : Bool). cond t (stored_line (letter_of s) x k) l) r
        ∙ stored_line_lem kept k (letter_of s) l (room_enough kept k (ltb-true k (room_for kept) e))
        ∙ line_is s
    go false e =
        let w : with_line kept k l ≡ kept = ap (λ (t : Bool). cond t (stored kept k l) kept) e in
        ap (λ (y : List ℕ). kept_line s y k) w
        ∙ ap (λ (t : Bool). cond t (stored_line (letter_of s) kept k) l) e

-- a later line leaves it
earlier :
    (s kept : List ℕ) (k n : ℕ) (l : SheetLine) → k < n
    → kept_line s (with_line kept n l) k ≡ kept_line s kept k
earlier s kept k n l h =
    let w = with_line kept n l in
    rw (
      length_with kept n l,
      with_other kept n (4 * k) l (omega arith),
      with_other kept n (4 * k + 1) l (omega arith),
      with_other kept n (4 * k + 2) l (omega arith),
      with_other kept n (4 * k + 3) l (omega arith),
    ) refl

kept_lines :
    (s kept : List ℕ) (n k : ℕ) → k < n
    → kept_line (part_at s (k + 1)) (kept_to s kept n) k ≡ line_of (part_at s (k + 1))
kept_lines s kept zero k h = absurd (omega arith)
kept_lines s kept (suc n) k h = go (ℕ_discrete k n) (kept_lines s kept n k)
  where
    go :
        Dec (k ≡ n)
        → (k < n → kept_line (part_at s (k + 1)) (kept_to s kept n) k ≡ line_of (part_at s (k + 1)))
        → kept_line (part_at s (k + 1)) (kept_to s kept (suc n)) k ≡ line_of (part_at s (k + 1))
    go (yes e) r =
        subst (λ (j : ℕ). kept_line (part_at s (j + 1)) (kept_to s kept (suc n)) j
        ≡ line_of (part_at s (j + 1))) (sym e)
        (subst (λ (j : ℕ). kept_line (part_at s j) (kept_to s kept (suc n)) n ≡ line_of (part_at s j))
        (sym (add-one n))
        (newest (part_at s (suc n)) (kept_to s kept n) n))
    go (no e) r =
        let l : k < n = omega arith in
        earlier (part_at s (k + 1)) (kept_to s kept n) k n (line_of (part_at s (suc n))) l ∙ r l

-- ---- at the end of the check of a sheet's form

pub all_kept : (s kept : List ℕ) → first_out_of_form s ≡ 0 → IsKept s (kept_to s kept (lines_in_form s))
all_kept s kept e k h =
    let n : lines_in_form s ≡ line_count s = rw (eq-eqb (first_out_of_form s) 0 e) refl in
    kept_lines s kept (lines_in_form s) k (subst (λ (m : ℕ). k < m) (sym n) h)

pub kept_before :
    (s kept : List ℕ) (k : ℕ) → k + 1 ≡ first_out_of_form s
    → kept_to s kept k ≡ kept_to s kept (lines_in_form s)
kept_before s kept k e =
    let z : (first_out_of_form s ≡ 0 → ⊥) = λ q. omega (arith, e, q) in
    let n : lines_in_form s ≡ k = rw (ne_eqb (first_out_of_form s) 0 z) (omega (arith, e)) in
    ap (kept_to s kept) (sym n)

pub kept_whole :
    (s kept : List ℕ) (k : ℕ) → 0 ≡ first_out_of_form s → k ≡ line_count s
    → kept_to s kept k ≡ kept_to s kept (lines_in_form s)
kept_whole s kept k e c =
    let n : lines_in_form s ≡ k = rw (eq-eqb (first_out_of_form s) 0 (sym e)) (sym c) in
    ap (kept_to s kept) (sym n)

pub length_kept : (s kept : List ℕ) (n : ℕ) → length (kept_to s kept n) ≡ length kept
length_kept s kept zero = refl
length_kept s kept (suc n) =
    length_with (kept_to s kept n) n (line_of (part_at s (suc n))) ∙ length_kept s kept n

-- one line more
pub kept_next :
    (s kept₀ kept r : List ℕ) (k : ℕ) (l : SheetLine)
    → r ≡ with_line kept k l → kept ≡ kept_to s kept₀ k → l ≡ line_of (part_at s (k + 1)) → r
    ≡ kept_to s kept₀ (k + 1)
kept_next s kept₀ kept r k l e b m =
    e
    ∙ ap (λ (x : List ℕ). with_line x k l) b
    ∙ ap (with_line (kept_to s kept₀ k) k) (m ∙ ap (λ (j : ℕ). line_of (part_at s j)) (add-one k))
    ∙ ap (kept_to s kept₀) (sym (add-one k))
