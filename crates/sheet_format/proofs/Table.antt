-- The table of the letters: its rule, tested once over all of its entries, and what the rule says of each. Assumes nothing.
use mathlib.Core.Path.{◌≡◌, refl, sym, ap, ◌∙◌, subst}
use mathlib.Core.Bool.{Bool, true, false, cond, ◌&&◌, and-false}
use mathlib.Core.List.{List}
use Rattle.std.specs.Prelude.{Option, Some, None}
use Prim.Native.Nat.{ℕ, suc, ◌+◌, ◌≤◌, ◌<◌}
use native.Mathlib.Omega.{arith}
use lib.Dec.{leb, ltb, eqb}
use lib.ListN.{length, get_or}
use borrow.Author.Tests.{lt-leb, leb-true, eqb-true, ltb-true, ltb-false}
use Rattle.std.specs.List.{position, position_or_len}
use Rattle.std.proofs.lemmas.List.Recursion.{is_position_or_len}
use Rattle.laws.specs.Every.{every_below}
use Rattle.laws.proofs.Counting.{every_at, and_left, and_right}
use Rattle.sheet_format.specs.declared.lines.FieldBounds.{FieldBounds}
use Rattle.sheet_format.specs.declared.lines.LetterRule.{LetterRule}
use Rattle.sheet_format.specs.Letters.{letter_rules, max_field}
use Rattle.sheet_format.specs.Columns.{in_form, no_number}
use Rattle.sheet_format.specs.Lines.{no_rule, rule_index, field_part, field_at, within_rule, field_keeps}
use Rattle.sheet_format.specs.Lines.{within_bounds}
use Rattle.sheet_format.specs.Lines.{sheet_fields}

-- how many letters the table has
abbrev pub letter_count : ℕ
letter_count = length letter_rules

-- the bounds of a field are in order and within seven columns
abbrev pub bounds_right : Option FieldBounds → Bool
bounds_right None = true
bounds_right (Some b) = leb b.low b.high && leb b.high max_field

abbrev pub field_right : LetterRule → ℕ → Bool
field_right r k = bounds_right (get_or r.fields k None)

-- a rule for as many fields as a sheet's line has
abbrev pub fields_right : ℕ → Bool
fields_right i = eqb (length (get_or letter_rules i no_rule).fields) sheet_fields

abbrev pub rule_right : ℕ → Bool
rule_right i = fields_right i && every_below (field_right (get_or letter_rules i no_rule)) 4

pub table_right : every_below rule_right letter_count ≡ true
table_right = refl

pub entry_right :
    (i k : ℕ) → i < letter_count → k < 4 → field_right (get_or letter_rules i no_rule) k ≡ true
entry_right i k hi hk =
    every_at (field_right (get_or letter_rules i no_rule)) 4 k
    (and_right (fields_right i) _ (every_at rule_right letter_count i table_right hi)) hk

pub fields_right_lem : (i : ℕ) → i < letter_count → length (get_or letter_rules i no_rule).fields ≡ 4
fields_right_lem i hi =
    eqb-true (length (get_or letter_rules i no_rule).fields) 4
    (and_left (fields_right i) (every_below (field_right (get_or letter_rules i no_rule)) 4)
    (every_at rule_right letter_count i table_right hi))

-- what stands for columns out of form is in no bounds
none_within : (b : Option FieldBounds) → bounds_right b ≡ true → within_bounds b no_number ≡ false
none_within None h = refl
none_within (Some b) h =
    let m : b.high ≤ max_field =
    leb-true b.high max_field (and_right (leb b.low b.high) (leb b.high max_field) h) in
    ap (λ (x : Bool). leb b.low no_number && x) (lt-leb no_number b.high (omega arith))
    ∙ and-false (leb b.low no_number)

-- field k keeps the form exactly if its number is in bounds
pub field_kept :
    (i k : ℕ) (s : List ℕ)
    → i < letter_count
    → k < 4
    → within_rule (get_or letter_rules i no_rule) k (field_at s k)
    ≡ field_keeps (get_or letter_rules i no_rule) s k
field_kept i k s hi hk = go (in_form (field_part s k)) refl
  where
    r : LetterRule
    r = get_or letter_rules i no_rule

    go : (t : Bool) → in_form (field_part s k) ≡ t → within_rule r k (field_at s k) ≡ field_keeps r s k
    go true e = rw e refl
    go false e = rw e (none_within (get_or r.fields k None) (entry_right i k hi hk))

-- the place of a letter, as the library looks for it
index_is : (rs : List LetterRule) (c : ℕ) → rule_index rs c ≡ position_or_len (λ r. eqb r.letter c) rs
index_is rs c =
    is_position_or_len (λ xs. rule_index xs c) (λ r. eqb r.letter c) refl
    (λ x xs. ap (λ (n : ℕ). cond (eqb x.letter c) 0 n) (let e : suc (rule_index xs c) ≡ 1 + rule_index xs c = omega arith in e))
    rs

none_past : (b : Bool) (n : ℕ) → None ≡ cond b (Some n) None → b ≡ false
none_past true n h = absurd (none_some h)
  where
    none_some : None ≡ Some n → ⊥
    none_some e = cc
none_past false n h = refl

some_before : (b : Bool) (i n : ℕ) → Some i ≡ cond b (Some n) None → (b ≡ true) × (i ≡ n)
some_before true i n h = (refl, cc)
some_before false i n h = absurd (some_none h)
  where
    some_none : Some i ≡ None → ⊥
    some_none e = cc

pub place_none :
    (c : ℕ) → None ≡ position (λ r. eqb r.letter c) letter_rules
    → letter_count ≤ rule_index letter_rules c
place_none c h =
    let n = position_or_len (λ r. eqb r.letter c) letter_rules in
    let e : letter_count ≤ n = ltb-false n letter_count (none_past (ltb n letter_count) n h) in
    subst (λ (k : ℕ). letter_count ≤ k) (sym (index_is letter_rules c)) e

pub place_some :
    (c i : ℕ) → Some i ≡ position (λ r. eqb r.letter c) letter_rules
    → (i < letter_count) × (i ≡ rule_index letter_rules c)
place_some c i h =
    let n = position_or_len (λ r. eqb r.letter c) letter_rules in
    let s = some_before (ltb n letter_count) i n h in
    let e : n < letter_count = ltb-true n letter_count s.0 in
    let f : i ≡ n = s.1 in
    (subst (λ (k : ℕ). k < letter_count) (sym f) e, f ∙ sym (index_is letter_rules c))
