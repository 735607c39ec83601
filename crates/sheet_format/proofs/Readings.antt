-- Laws of a line's form, in the order in which a reader finds it, and of the first line that fails a test. Assumes nothing.
use mathlib.Core.Path.{◌≡◌, refl, sym, ap, ◌∙◌}
use mathlib.Core.Bool.{Bool, true, false, cond, ◌&&◌}
use mathlib.Core.List.{List, [], ◌∷◌}
use Rattle.std.specs.Prelude.{Option, Some, None}
use Prim.Native.Nat.{ℕ, zero, suc, ◌+◌, ◌≤◌, ◌<◌}
use native.Mathlib.Decide.{ℕ_discrete}
use native.Mathlib.Numerals.{add-one}
use native.Mathlib.Omega.{arith}
use lib.Dec.{leb, eqb}
use lib.ListN.{length, get_or}
use borrow.Author.Tests.{le-leb, lt-leb, eq-eqb, ne_eqb, leb-true}
use Rattle.laws.specs.Every.{every_below}
use Rattle.laws.proofs.Counting.{and_left}
use Rattle.sheet_format.specs.declared.lines.SheetLine.{SheetLine}
use Rattle.sheet_format.specs.declared.lines.LetterRule.{LetterRule}
use Rattle.sheet_format.specs.Letters.{letter_rules}
use Rattle.sheet_format.specs.Lines.{no_rule, rule_index, letter_of, field_at, within_rule, field_keeps}
use Rattle.sheet_format.specs.Lines.{fields_keep, numbers_keep, keeps_form, field_numbers}
use Rattle.sheet_format.specs.Lines.{line_in_form, line, line_of, read_line, first_failing, line_count}
use Rattle.sheet_format.specs.Lines.{right_letter, first_misplaced, some_line}
use Rattle.sheet_format.specs.Lines.{form_report, line_numbers, reported_reading}
use Rattle.sheet_format.proofs.Table.{letter_count, field_kept, fields_right_lem}

-- what the tests of a line say of its reading
reads_bad :
    (s : List ℕ) (i : ℕ) → i ≡ rule_index letter_rules (letter_of s) → keeps_form letter_rules 4 s i ≡ false
    → None ≡ read_line s
reads_bad s i e h =
    ap (λ (t : Bool). cond t (Some (line_of s)) None) (sym h ∙ ap (keeps_form letter_rules 4 s) e)

reads_form :
    (s : List ℕ) (i : ℕ) → i ≡ rule_index letter_rules (letter_of s) → keeps_form letter_rules 4 s i ≡ true
    → Some (line_of s) ≡ read_line s
reads_form s i e h =
    ap (λ (t : Bool). cond t (Some (line_of s)) None) (sym h ∙ ap (keeps_form letter_rules 4 s) e)

-- the four tests, over any two in the middle
abbrev tests : Bool → Bool → Bool → Bool → Bool
tests a b c d = a && b && c && d

no_right : (a b : Bool) → b ≡ false → (a && b) ≡ false
no_right true b h = h
no_right false b h = refl

pub first_fails : (a b c d : Bool) → a ≡ false → tests a b c d ≡ false
first_fails a b c d h = rw h

pub second_fails : (a b c d : Bool) → b ≡ false → tests a b c d ≡ false
second_fails a b c d h = ap (λ (x : Bool). x && c && d) (no_right a b h)

pub third_fails : (a b c d : Bool) → c ≡ false → tests a b c d ≡ false
third_fails a b c d h = ap (λ (x : Bool). x && d) (no_right (a && b) c h)

all_hold : (a b c d : Bool) → a ≡ true → b ≡ true → c ≡ true → d ≡ true → tests a b c d ≡ true
all_hold a b c d h k l m = rw (h, k, l, m)

tests_same :
    (a b c d p q u v : Bool) → a ≡ p → b ≡ q → c ≡ u → d ≡ v → tests a b c d ≡ tests p q u v
tests_same a b c d p q u v e f g h = rw (e, f, g, h) refl

pub last_decides : (a b c d : Bool) → a ≡ true → b ≡ true → c ≡ true → d ≡ tests a b c d
last_decides a b c d h k l = rw (h, k, l) refl

fourth_fails : (a b c d : Bool) → d ≡ false → tests a b c d ≡ false
fourth_fails a b c d h = no_right (a && b && c) d h

-- the four tests of a rule's fields
pub four_keep :
    (r : LetterRule) (a b c d : ℕ) → length r.fields ≡ 4
    → tests (within_rule r 0 a) (within_rule r 1 b) (within_rule r 2 c) (within_rule r 3 d)
    ≡ numbers_keep r (a ∷ b ∷ c ∷ d ∷ [])
four_keep r a b c d n =
    sym (ap (every_below (λ k. within_rule r k (get_or (a ∷ b ∷ c ∷ d ∷ []) k 0))) n)

pub read_short : (s : List ℕ) → length s < 30 → None ≡ read_line s
read_short s h =
    let i = rule_index letter_rules (letter_of s) in
    reads_bad s i refl
    (first_fails (leb 30 (length s)) (leb (suc i) letter_count)
    (fields_keep (get_or letter_rules i no_rule) s) (eqb (get_or s 29 0) 10) (lt-leb 30 (length s) h))

-- what is said of four numbers is said of the fields that they were read from
module _
    (s : List ℕ) {a b c d : ℕ}
    (pa : a ≡ field_at s 0) (pb : b ≡ field_at s 1) (pc : c ≡ field_at s 2)
    (pd : d ≡ field_at s 3) where
  pub line_numbers_lem :
      line (letter_of s) a b c d
      ≡ line (letter_of s) (field_at s 0) (field_at s 1) (field_at s 2) (field_at s 3)
  line_numbers_lem = rw (pa, pb, pc, pd) refl

  pub bounds_numbers :
      (r : LetterRule) → numbers_keep r (a ∷ b ∷ c ∷ d ∷ []) ≡ numbers_keep r (field_numbers s 4)
  bounds_numbers r = rw (pa, pb, pc, pd) refl

-- a line with all of its bytes is its letter and its numbers, and a short one its letter
abbrev line_by : List ℕ → Bool → SheetLine
line_by s whole =
    cond whole (line (letter_of s) (field_at s 0) (field_at s 1) (field_at s 2) (field_at s 3))
    (line (letter_of s) 0 0 0 0)

pub line_whole : (s : List ℕ) → 30 ≤ length s → line_by s true ≡ line_of s
line_whole s h = ap (line_by s) (sym (le-leb 30 (length s) h))

pub line_short : (s : List ℕ) → length s < 30 → line_by s false ≡ line_of s
line_short s h = ap (line_by s) (sym (lt-leb 30 (length s) h))

module _ (s : List ℕ) (i : ℕ) (at_letter : i ≡ rule_index letter_rules (letter_of s)) where
  pub read_letter : letter_count ≤ i → None ≡ read_line s
  read_letter h =
      reads_bad s i at_letter
      (second_fails (leb 30 (length s)) (leb (suc i) letter_count)
      (fields_keep (get_or letter_rules i no_rule) s) (eqb (get_or s 29 0) 10)
      (lt-leb (suc i) letter_count (omega arith)))

  pub read_feed : (get_or s 29 0 ≡ 10 → ⊥) → None ≡ read_line s
  read_feed h =
      reads_bad s i at_letter
      (fourth_fails (leb 30 (length s)) (leb (suc i) letter_count)
      (fields_keep (get_or letter_rules i no_rule) s) (eqb (get_or s 29 0) 10)
      (ne_eqb (get_or s 29 0) 10 h))

  keep_same :
      i < letter_count
      → numbers_keep (get_or letter_rules i no_rule) (field_numbers s 4)
      ≡ fields_keep (get_or letter_rules i no_rule) s
  keep_same h =
      let r = get_or letter_rules i no_rule in
      ap (every_below (λ k. within_rule r k (get_or (field_numbers s 4) k 0))) (fields_right_lem i h)
      ∙ tests_same _ _ _ _ _ _ _ _
      (field_kept i 0 s h (omega arith))
      (field_kept i 1 s h (omega arith))
      (field_kept i 2 s h (omega arith))
      (field_kept i 3 s h (omega arith))
      ∙ sym (ap (every_below (field_keeps r s)) (fields_right_lem i h))

  module _ (known : i < letter_count) where
    pub read_fields :
        numbers_keep (get_or letter_rules i no_rule) (field_numbers s 4) ≡ false
        → None ≡ read_line s
    read_fields h =
        reads_bad s i at_letter
        (third_fails (leb 30 (length s)) (leb (suc i) letter_count)
        (fields_keep (get_or letter_rules i no_rule) s)
        (eqb (get_or s 29 0) 10) (sym (keep_same known) ∙ h))

    pub read_form :
        30 ≤ length s
        → numbers_keep (get_or letter_rules i no_rule) (field_numbers s 4) ≡ true
        → get_or s 29 0 ≡ 10
        → Some (line (letter_of s) (field_at s 0) (field_at s 1) (field_at s 2) (field_at s 3))
        ≡ read_line s
    read_form long keep feed =
        ap Some (line_whole s long)
        ∙ reads_form s i at_letter
        (all_hold (leb 30 (length s)) (leb (suc i) letter_count)
        (fields_keep (get_or letter_rules i no_rule) s) (eqb (get_or s 29 0) 10)
        (le-leb 30 (length s) long) (le-leb (suc i) letter_count (omega arith))
        (sym (keep_same known) ∙ keep)
        (eq-eqb (get_or s 29 0) 10 feed))

-- a line in form has all of its bytes
form_long : (s : List ℕ) → line_in_form s ≡ true → 30 ≤ length s
form_long s h =
    let i = rule_index letter_rules (letter_of s) in
    let a = leb 30 (length s) in
    let b = leb (suc i) letter_count in
    let c = fields_keep (get_or letter_rules i no_rule) s in
    leb-true 30 (length s)
    (and_left a b (and_left (a && b) c (and_left (a && b && c) (eqb (get_or s 29 0) 10) h)))

-- a line in document 01's numbers
reading_reported :
    (s : List ℕ) → reported_reading (read_line s) ≡ form_report (line_in_form s) (line_numbers s)
reading_reported s = go (line_in_form s) refl
  where
    go :
        (t : Bool) → line_in_form s ≡ t
        → reported_reading (read_line s) ≡ form_report (line_in_form s) (line_numbers s)
    go true e =
        rw e (ap (λ (l : SheetLine). reported_reading (Some l))
        (sym (line_whole s (form_long s e))))
    go false e = rw e refl

-- a reading that is the definition's, and in numbers
pub said :
    (s : List ℕ) {r : Option SheetLine} → r ≡ read_line s →
    (r ≡ read_line s) × (reported_reading r ≡ form_report (line_in_form s) (line_numbers s))
said s e = (e, ap reported_reading e ∙ reading_reported s)

-- the answer of a reading
answer_bad : (t : Bool) (l : SheetLine) → None ≡ cond t (Some l) None → false ≡ t
answer_bad true l h = cc
answer_bad false l h = refl

answer_form : (t : Bool) (l m : SheetLine) → Some m ≡ cond t (Some l) None → true ≡ t
answer_form true l m h = refl
answer_form false l m h = cc

pub bad_not : (s : List ℕ) → None ≡ read_line s → false ≡ line_in_form s
bad_not s h = answer_bad (line_in_form s) (line_of s) h

pub form_is : (s : List ℕ) (m : SheetLine) → Some m ≡ read_line s → true ≡ line_in_form s
form_is s m h = answer_form (line_in_form s) (line_of s) m h

answer_line : (t : Bool) (l m : SheetLine) → Some m ≡ cond t (Some l) None → m ≡ l
answer_line true l m h = cc
answer_line false l m h = cc

pub form_line : (s : List ℕ) (m : SheetLine) → Some m ≡ read_line s → m ≡ line_of s
form_line s m h = answer_line (line_in_form s) (line_of s) m h

-- of n lines the first that fails is line k + 1, if none of the k before it does
pub fails_at : (f : ℕ → Bool) (k n : ℕ) → first_failing f k ≡ 0 → f (k + 1) ≡ false → k < n → first_failing f n ≡ k + 1
fails_at f k zero before fails h = absurd (omega arith)
fails_at f k (suc n) before fails h = go (ℕ_discrete k n) (fails_at f k n before fails)
  where
    go : Dec (k ≡ n) → (k < n → first_failing f n ≡ k + 1) → first_failing f (suc n) ≡ k + 1
    go (yes e) r =
        let b : first_failing f n ≡ 0 = ap (first_failing f) (sym e) ∙ before in
        let g : f (suc n) ≡ false = ap f (sym (add-one n) ∙ ap (λ (x : ℕ). x + 1) (sym e)) ∙ fails in
        let m : suc n ≡ k + 1 = omega arith in
        rw (b, g) m
    go (no e) r =
        let b : first_failing f n ≡ k + 1 = r (omega arith) in
        rw (b, le-leb 1 (k + 1) (omega arith))

pub passes_more : (f : ℕ → Bool) (k : ℕ) → first_failing f k ≡ 0 → f (k + 1) ≡ true → first_failing f (k + 1) ≡ 0
passes_more f k before passes =
    let g : f (suc k) ≡ true = ap f (sym (add-one k)) ∙ passes in
    ap (first_failing f) (add-one k) ∙ rw (before, g) refl

-- a sheet with lines
pub misplaced_at : (s : List ℕ) (n : ℕ) → (line_count s ≡ 0 → ⊥) → first_failing (right_letter s) (line_count s) ≡ n → n ≡ first_misplaced s
misplaced_at s n h e = sym e ∙ ap (λ (t : Bool). cond t 1 (first_failing (right_letter s) (line_count s))) (sym (ne_eqb (line_count s) 0 h))

-- the same as a line that is told, or none
pub line_told : (k n : ℕ) → k + 1 ≡ n → Some (k + 1) ≡ some_line n
line_told k n e =
    let z : (k + 1 ≡ 0 → ⊥) = λ f. omega arith in
    sym (ap some_line (sym e) ∙ rw (ne_eqb (k + 1) 0 z) refl)

pub none_told : (n : ℕ) → n ≡ 0 → None ≡ some_line n
none_told n e = sym (ap some_line e)

pub told_is : (k n : ℕ) → Some k ≡ some_line n → (k ≡ n) × (0 < n)
told_is k n h = go (ℕ_discrete n 0)
  where
    go : Dec (n ≡ 0) → (k ≡ n) × (0 < n)
    go (yes e) = let f : Some k ≡ None = h ∙ ap some_line e in absurd cc
    go (no e) =
        let f : some_line n ≡ Some n = rw (ne_eqb n 0 e) refl in
        let g : Some k ≡ Some n = h ∙ f in
        (cc, omega arith)

pub told_none : (n : ℕ) → None ≡ some_line n → n ≡ 0
told_none n h = go (ℕ_discrete n 0)
  where
    go : Dec (n ≡ 0) → n ≡ 0
    go (yes e) = e
    go (no e) =
        let f : some_line n ≡ Some n = rw (ne_eqb n 0 e) refl in
        let g : None ≡ Some n = h ∙ f in
        absurd cc
