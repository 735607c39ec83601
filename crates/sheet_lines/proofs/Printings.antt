-- The line of the history for a call of a sheet's line. Assumes nothing.
use mathlib.Core.Path.{◌≡◌, refl, sym, ap, ◌∙◌}
use mathlib.Core.Bool.{Bool, true, false, cond}
use mathlib.Core.List.{List, [], ◌∷◌}
use Prim.Native.Nat.{ℕ, zero, suc, ◌<◌}
use native.Mathlib.Omega.{arith}
use lib.Dec.{eqb}
use lib.ListN.{get_or}
use borrow.Author.Tests.{eq-eqb, ne_eqb}
use Rattle.laws.proofs.Booleans.{cond_elim}
use Rattle.record.specs.Report.{Report, report}
use Rattle.rules.specs.declared.calls.Call.{Call}
use Rattle.rules.specs.Calls.{processor_of}
use Rattle.sheet_format.specs.declared.events.HistoryLine.{HistoryLine}
use Rattle.sheet_format.specs.declared.lines.SheetLine.{SheetLine}
use Rattle.sheet_format.specs.Calls.{by_letter, call_of}
use Rattle.sheet_format.specs.Events.{call_letter, call_values, letter_for, values_for, event, event_for}
use Rattle.sheet_format.specs.Letters.{letter_d, letter_i, letter_l, letter_r, letter_x}

-- the letters, with that of a begin first
abbrev pub letters : ℕ → List ℕ
letters own = own ∷ 0 ∷ 0 ∷ 69 ∷ 77 ∷ 65 ∷ 84 ∷ 85 ∷ 78 ∷ []

-- a number of the table, and one past its end
pub known_letter :
    (own n : ℕ) → (n ≡ 0 → ⊥) → n < 9 → get_or (letters 0) n 0 ≡ get_or (letters own) n 82
known_letter own zero z h = absurd (z refl)
known_letter own (suc zero) z h = refl
known_letter own (suc (suc zero)) z h = refl
known_letter own (suc (suc (suc zero))) z h = refl
known_letter own (suc (suc (suc (suc zero)))) z h = refl
known_letter own (suc (suc (suc (suc (suc zero))))) z h = refl
known_letter own (suc (suc (suc (suc (suc (suc zero)))))) z h = refl
known_letter own (suc (suc (suc (suc (suc (suc (suc zero))))))) z h = refl
known_letter own (suc (suc (suc (suc (suc (suc (suc (suc zero)))))))) z h = refl
known_letter own (suc (suc (suc (suc (suc (suc (suc (suc (suc n))))))))) z h = absurd (omega arith)

-- what is so for each letter is so for any
by_letter_lem :
    {A : Type 0} (P : A → Type 0) (letter : ℕ) {i d r x s : A} →
    P i → P d → P r → P x → P s → P (by_letter letter i d r x s)
by_letter_lem P letter a b c e f =
    cond_elim P (eqb letter letter_i) _ _ a
    (cond_elim P (eqb letter letter_d) _ _ b
    (cond_elim P (eqb letter letter_l) _ _ c
    (cond_elim P (eqb letter letter_x) _ _ e f)))

module _ (l : SheetLine) where
  abbrev c : Call
  c = call_of l

  -- its call is of the line's processor
  pub line_processor : processor_of c ≡ l.first
  line_processor =
      by_letter_lem (λ (x : Call). processor_of x ≡ l.first) l.letter refl refl refl refl refl

  module _ (time : ℕ) where
    -- with these numbers behind the processor
    abbrev line_with : ℕ → ℕ → List ℕ → HistoryLine
    line_with letter p vs = event letter time p (get_or vs 0 0) (get_or vs 1 0) (get_or vs 2 0)

    with_processor_lem : (letter : ℕ) (vs : List ℕ) →
        line_with letter l.first vs ≡ line_with letter (processor_of c) vs
    with_processor_lem letter vs = ap (λ (p : ℕ). line_with letter p vs) (sym line_processor)

    -- an accepted begin
    pub insert_line :
        (l.letter ≡ letter_i) →
        event letter_i time l.first l.second l.third l.fourth
        ≡ event_for c time (report 0 [])
    insert_line e = rw (eq-eqb l.letter letter_i e) refl

    pub remove_line :
        (l.letter ≡ letter_x) →
        event letter_x time l.first l.second l.third 0 ≡ event_for c time (report 0 [])
    remove_line e = rw e refl

    abbrev Bare : Call → Type 0
    Bare x = call_values x ≡ []

    no_values : (l.letter ≡ letter_i → ⊥) → (l.letter ≡ letter_x → ⊥) → Bare c
    no_values n m =
        rw (ne_eqb l.letter letter_i n, ne_eqb l.letter letter_x m)
        (cond_elim Bare (eqb l.letter letter_d) _ _ refl
        (cond_elim Bare (eqb l.letter letter_l) _ _ refl refl))

    pub walk_line :
        (letter : ℕ) → letter ≡ call_letter c →
        (l.letter ≡ letter_i → ⊥) →
        (l.letter ≡ letter_x → ⊥) →
        event letter time l.first 0 0 0 ≡ event_for c time (report 0 [])
    walk_line letter e n m =
        ap (λ (x : ℕ). event x time l.first 0 0 0) e
        ∙ with_processor_lem (call_letter c) []
        ∙ ap (line_with (call_letter c) (processor_of c)) (sym (no_values n m))

    module _ (r : Report) where
      pub begun_line : r.number ≡ 0 → event_for c time (report 0 []) ≡ event_for c time r
      begun_line e = rw e refl

      module _ (n : (r.number ≡ 0 → ⊥)) (letter : ℕ) (is : letter ≡ letter_for c r.number) where
        with_values : (vs : List ℕ) → vs ≡ values_for c r → line_with letter l.first vs ≡ event_for c time r
        with_values vs v =
            ap (λ (x : ℕ). line_with x l.first vs) is
            ∙ with_processor_lem (letter_for c r.number) vs
            ∙ ap (line_with (letter_for c r.number) (processor_of c)) v

        values_by : (b : Bool) → eqb (letter_for c r.number) letter_r ≡ b →
            cond b (r.number ∷ []) r.values ≡ values_for c r
        values_by b e =
            sym
            (ap (λ (t : Bool). cond t (call_values c)
            (cond (eqb (letter_for c r.number) letter_r) (r.number ∷ []) r.values))
            (ne_eqb r.number 0 n)
            ∙ ap (λ (t : Bool). cond t (r.number ∷ []) r.values) e)

        pub refusal_line : letter ≡ letter_r →
            event letter time l.first r.number 0 0 ≡ event_for c time r
        refusal_line e =
            with_values (r.number ∷ []) (values_by true (eq-eqb (letter_for c r.number) letter_r (sym is ∙ e)))

        pub told_line : (letter ≡ letter_r → ⊥) →
            event letter time l.first (get_or r.values 0 0) (get_or r.values 1 0)
            (get_or r.values 2 0) ≡ event_for c time r
        told_line e =
            with_values r.values
            (values_by false (ne_eqb (letter_for c r.number) letter_r (λ x. e (is ∙ x))))
