-- The outcome of a sheet, one refusal after the other. Assumes nothing.
use mathlib.Core.Path.{◌≡◌, refl, sym, ap, ◌∙◌}
use mathlib.Core.Bool.{Bool, true, false, cond}
use mathlib.Core.List.{List, ◌++◌}
use Rattle.std.specs.Prelude.{Some, None, Result, Ok, Err}
use Rattle.std.specs.Result.{result_err}
use Prim.Native.Nat.{ℕ, ◌≤◌, ◌<◌}
use native.Mathlib.Omega.{arith}
use lib.Dec.{ltb}
use lib.ListN.{length, drop}
use borrow.Author.Tests.{lt-ltb, le-ltb, ltb-false}
use Rattle.record.specs.declared.queues.Queue.{Queue}
use Rattle.record.specs.declared.refusals.Refusal.{Refusal}
use Rattle.record.specs.declared.refusals.Refusal.TheVariants as refusal
use Rattle.sheet_format.specs.declared.events.SheetRefusal.{SheetRefusal}
use Rattle.sheet_format.specs.Lines.{line_of, part_at, first_out_of_form, first_misplaced}
use Rattle.laws.specs.Front.{at_front}
use Rattle.sheet_format.specs.Sheets.{history, history_of, fitted, ran_sheet, area_written, area_after}
use Rattle.sheet_format.specs.Sheets.{made_by, queue_made, ran_made, outcome, reported_run, refused_at}
use Rattle.sheet_format.proofs.Reports.{fits_length, outcome_told}

pub refused_untouched : (s area : List ℕ) (e : SheetRefusal) → Err e ≡ ran_sheet s (length area) → area ≡ area_after s area
refused_untouched s area _ e = ap (λ (r : Result ℕ SheetRefusal). area_written (history_of s (line_of (part_at s 1))) area r) e

-- in numbers
pub told : (s : List ℕ) (room : ℕ) {r : Result ℕ SheetRefusal} → r ≡ ran_sheet s room → reported_run r ≡ outcome s room
told s room e = ap reported_run e ∙ outcome_told s room

none_some : (r : Refusal) → None ≡ Some r → ⊥
none_some r e = cc

-- a refusal of the sizes
made_err : (m : Result Queue Refusal) (r : Refusal) → Some r ≡ result_err m → m ≡ Err r
made_err (Ok q) r e = absurd (none_some r (sym e))
made_err (Err x) r e = cc

module _ (s : List ℕ) (room : ℕ) where
  -- what is left behind 41
  abbrev placed : Result ℕ SheetRefusal
  placed =
      cond (ltb 0 (first_misplaced s)) (Err (refused_at refusal.Misplaced (first_misplaced s)))
      (ran_made s room (made_by (line_of (part_at s 1))))

  by_form : (t : Bool) → ltb 0 (first_out_of_form s) ≡ t
      → ran_sheet s room ≡ cond t (Err (refused_at refusal.Form (first_out_of_form s))) placed
  by_form t h =
      ap (λ (b : Bool). cond b (Err (refused_at refusal.Form (first_out_of_form s))) placed) h

  by_place : (t : Bool) → ltb 0 (first_misplaced s) ≡ t
      → placed
      ≡ cond t (Err (refused_at refusal.Misplaced (first_misplaced s)))
      (ran_made s room (made_by (line_of (part_at s 1))))
  by_place t h =
      let q = ran_made s room (made_by (line_of (part_at s 1))) in
      ap (λ (b : Bool). cond b (Err (refused_at refusal.Misplaced (first_misplaced s))) q) h

  pub out_of_form : (k : ℕ) → k ≡ first_out_of_form s → 0 < k
      → Err (refused_at refusal.Form k) ≡ ran_sheet s room
  out_of_form k e h =
      rw e (sym (by_form true (lt-ltb 0 (first_out_of_form s) (rw (sym e) h))))

  module _ (form : first_out_of_form s ≡ 0) where
    passed_form : ran_sheet s room ≡ placed
    passed_form = by_form false (le-ltb 0 (first_out_of_form s) (omega arith))

    pub misplaced : (k : ℕ) → k ≡ first_misplaced s → 0 < k
        → Err (refused_at refusal.Misplaced k) ≡ ran_sheet s room
    misplaced k e h =
        rw e
        (sym (passed_form ∙ by_place true (lt-ltb 0 (first_misplaced s) (rw (sym e) h))))

    module _ (place : first_misplaced s ≡ 0) where
      passed_place : ran_sheet s room ≡ ran_made s room (made_by (line_of (part_at s 1)))
      passed_place = passed_form ∙ by_place false (le-ltb 0 (first_misplaced s) (omega arith))

      pub not_made : (r : Refusal) → Some r ≡ result_err (made_by (line_of s))
          → Err (refused_at r 1) ≡ ran_sheet s room
      not_made r e =
          sym (passed_place ∙ ap (ran_made s room) (made_err (made_by (line_of s)) r e))

      pub runs : None ≡ result_err (made_by (line_of s))
          → fitted (history s (queue_made (made_by (line_of s)))) room ≡ ran_sheet s room
      runs e = sym (passed_place ∙ ran_ok (made_by (line_of s)) e)
        where
          ran_ok : (m : Result Queue Refusal) → None ≡ result_err m
              → ran_made s room m ≡ fitted (history s (queue_made m)) room
          ran_ok (Ok q) e = refl
          ran_ok (Err r) e = absurd (none_some r e)

-- a history that fits
abbrev is_sheet_refused : Result ℕ SheetRefusal → Bool
is_sheet_refused (Err e) = true
is_sheet_refused (Ok n) = false

pub length_fits : (h : List ℕ) (room n : ℕ) → Ok n ≡ fitted h room → length h ≤ room
length_fits h room n e = ltb-false room (length h) (at (ltb room (length h)) (sym (ap is_sheet_refused e)))
  where
    at : (b : Bool) →
        is_sheet_refused (cond b (Err (refused_at refusal.Room 0)) (Ok (length h))) ≡ false →
        b ≡ false
    at true k = k
    at false k = refl

-- written in place, by a run after one that left the area as it was
pub written_whole :
    (h area b a : List ℕ) (r : Result ℕ SheetRefusal) →
    length h ≤ length area →
    b ≡ area →
    r ≡ fitted h (length b) →
    a ≡ at_front h b →
    a ≡ area_written h area r
written_whole h area b a r f e i k =
    k
    ∙ ap (λ (x : List ℕ). h ++ drop (length h) x) e
    ∙ sym (ap (area_written h area) (i ∙ ap (λ (x : List ℕ). fitted h (length x)) e ∙ fits_length h (length area) f))

-- the outcome of the lines, as the outcome of the sheet
pub sheet_written :
    (s area a : List ℕ) (q : Queue) (r : Result ℕ SheetRefusal) →
    fitted (history s q) (length area) ≡ ran_sheet s (length area) →
    history_of s (line_of (part_at s 1)) ≡ history s q →
    r ≡ fitted (history s q) (length area) →
    a ≡ area_written (history s q) area r →
    a ≡ area_after s area
sheet_written s area a q r f h e k =
    k ∙ ap (area_written (history s q) area) (e ∙ f) ∙ ap (λ (x : List ℕ). area_written x area (ran_sheet s (length area))) (sym h)
