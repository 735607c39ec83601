-- Laws of a sheet's outcome as the program prints it. Assumes nothing.
use mathlib.Core.Path.{◌≡◌, refl, sym, ap, ◌∙◌, subst}
use mathlib.Core.Bool.{Bool, cond}
use mathlib.Core.List.{List, ◌++◌}
use Rattle.std.specs.Prelude.{Result, Ok, Err}
use Prim.Native.Nat.{ℕ, zero, suc, ◌+◌, ◌≤◌}
use native.Mathlib.Nat.{div-mul-le_self}
use native.Mathlib.Omega.{arith}
use lib.Dec.{ltb, leb, eqb}
use lib.ListN.{length, drop, length-append}
use Rattle.laws.proofs.Booleans.{cond_elim}
use Rattle.record.specs.declared.queues.Queue.{Queue}
use Rattle.record.specs.declared.refusals.Refusal.{Refusal}
use Rattle.record.specs.Refusals.{refusal_number}
use Rattle.sheet_format.specs.declared.events.SheetRefusal.{SheetRefusal}
use Rattle.sheet_format.specs.Lines.{line_of, part_at, line_in_form, line_count}
use Rattle.sheet_format.specs.Lines.{right_letter, first_failing, first_out_of_form, first_misplaced}
use Rattle.sheet_format.specs.Program.{refusal_text, printed_of, text_of}
use Rattle.sheet_format.specs.Sheets.{history, history_of, made_by, queue_made, ran_made, ran_sheet}
use Rattle.sheet_format.specs.Sheets.{area_written, area_after}

-- a line that is told is a line of the sheet
failing_within : (f : ℕ → Bool) (n : ℕ) → first_failing f n ≤ n
failing_within f zero = omega arith
failing_within f (suc n) =
    let h = failing_within f n in
    let k = first_failing f n in
    cond_elim (λ (x : ℕ). x ≤ suc n) (leb 1 k) k (cond (f (suc n)) 0 (suc n)) (omega arith)
    (cond_elim (λ (x : ℕ). x ≤ suc n) (f (suc n)) 0 (suc n) (omega arith) (omega arith))

module _ (s : List ℕ) (short : length s ≤ 65536) where
  lines_few : line_count s ≤ 2185
  lines_few = omega (arith, div-mul-le_self (length s + 29) 30)

  out_of_form_low : first_out_of_form s ≤ 2185
  out_of_form_low =
      let h = failing_within (λ k. line_in_form (part_at s k)) (line_count s) in
      omega (arith, h, lines_few)

  misplaced_low : first_misplaced s ≤ 2185
  misplaced_low =
      let k = first_failing (right_letter s) (line_count s) in
      let h = failing_within (right_letter s) (line_count s) in
      cond_elim (λ (x : ℕ). x ≤ 2185) (eqb (line_count s) 0) 1 k (omega arith) (omega (arith, h, lines_few))

  -- the line is low, or the length is the history's
  abbrev Told : Result ℕ SheetRefusal → Type 0
  Told (Err e) = e.line ≤ 2185
  Told (Ok n) = n ≡ length (history_of s (line_of (part_at s 1)))

  made_told :
      (room : ℕ) (m : Result Queue Refusal) → made_by (line_of (part_at s 1)) ≡ m
      → Told (ran_made s room m)
  made_told room (Ok q) e =
      cond_elim Told (ltb room (length (history s q))) _ _ (omega arith)
      (ap (λ (m : Result Queue Refusal). length (history s (queue_made m))) (sym e))
  made_told room (Err r) e = omega arith

  pub ran_told : (room : ℕ) → Told (ran_sheet s room)
  ran_told room =
      cond_elim Told (ltb 0 (first_out_of_form s)) _ _ out_of_form_low
      (cond_elim Told (ltb 0 (first_misplaced s)) _ _ misplaced_low
      (made_told room (made_by (line_of (part_at s 1))) refl))

-- a sheet that ran in an area of 64 KiB: the outcome, and the area after
pub record Run (s area after : List ℕ) (r : Result ℕ SheetRefusal) : Type 0 where
  pub short : length s ≤ 65536
  pub size : length area ≡ 65536
  pub outcome : r ≡ ran_sheet s (length area)
  pub written : after ≡ area_after s area

module _ (s area after : List ℕ) (r : Result ℕ SheetRefusal) (run : Run s area after r) where
  abbrev history_is : List ℕ
  history_is = history_of s (line_of (part_at s 1))

  prints : printed_of history_is r ≡ text_of s
  prints = ap (printed_of history_is) (run.outcome ∙ ap (ran_sheet s) run.size)

  after_run : after ≡ area_written history_is area r
  after_run = run.written ∙ ap (area_written history_is area) (sym run.outcome)

  told : Told s run.short r
  told = subst (Told s run.short) (sym run.outcome) (ran_told s run.short (length area))

  module _ (f : SheetRefusal) (e : r ≡ Err f) where
    -- a refusal leaves the area as it was
    pub area_kept : after ≡ area
    area_kept = after_run ∙ ap (area_written history_is area) e

    pub refusal_printed : refusal_text (refusal_number f.refusal) f.line ≡ text_of s
    refusal_printed = sym (ap (printed_of history_is) e) ∙ prints

    pub line_low : f.line ≤ 2185
    line_low = subst (Told s run.short) e told

  module _ (n : ℕ) (e : r ≡ Ok n) where
    history_printed : history_is ≡ text_of s
    history_printed = sym (ap (printed_of history_is) e) ∙ prints

    pub history_length : n ≡ length (text_of s)
    history_length = subst (Told s run.short) e told ∙ ap length history_printed

    pub history_written : after ≡ text_of s ++ drop (length (text_of s)) area
    history_written =
        after_run
        ∙ ap (area_written history_is area) e
        ∙ ap (λ (x : List ℕ). x ++ drop n area) history_printed
        ∙ ap (λ (k : ℕ). text_of s ++ drop k area) history_length

-- what is printed lies within the area
pub printed_within :
    (text rest after : List ℕ) {k : ℕ} → k ≡ length text → after ≡ text ++ rest → k ≤ length after
printed_within text rest after e f = omega (arith, e, ap length f, length-append text rest)
