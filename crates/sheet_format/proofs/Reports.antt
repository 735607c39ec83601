-- The outcome of a sheet in numbers, and as the code answers with it. Assumes nothing.
use mathlib.Core.Path.{◌≡◌, refl, sym, ap}
use mathlib.Core.Bool.{Bool, true, false, cond}
use mathlib.Core.List.{List}
use Rattle.std.specs.Prelude.{Result, Ok, Err}
use Prim.Native.Nat.{ℕ, ◌≤◌, ◌<◌}
use lib.Dec.{ltb}
use lib.ListN.{length}
use borrow.Author.Tests.{lt-ltb, le-ltb}
use Rattle.record.specs.declared.queues.Queue.{Queue}
use Rattle.record.specs.declared.refusals.Refusal.{Refusal}
use Rattle.record.specs.declared.refusals.Refusal.TheVariants as refusal
use Rattle.record.specs.Report.{Report}
use Rattle.sheet_format.specs.declared.events.SheetRefusal.{SheetRefusal}
use Rattle.sheet_format.specs.Lines.{first_out_of_form, first_misplaced, line_of, part_at}
use Rattle.sheet_format.specs.Sheets.{history, fitted_outcome, made_outcome, made_by, outcome}
use Rattle.sheet_format.specs.Sheets.{refused_at, fitted, ran_made, ran_sheet, reported_run}

-- a history that fits or not
abbrev fitted_by : List ℕ → Bool → Result ℕ SheetRefusal
fitted_by h long = cond long (Err (refused_at refusal.Room 0)) (Ok (length h))

pub fits_length : (h : List ℕ) (room : ℕ) → length h ≤ room → fitted h room ≡ Ok (length h)
fits_length h room f = ap (fitted_by h) (le-ltb room (length h) f)

pub refuses_long :
    (h : List ℕ) (room : ℕ) → room < length h → Err (refused_at refusal.Room 0) ≡ fitted h room
refuses_long h room f = sym (ap (fitted_by h) (lt-ltb room (length h) f))

-- the numbers are those of the answer
told_cond :
    (t : Bool) (x y : Result ℕ SheetRefusal) (p q : Report) → reported_run x ≡ p → reported_run y ≡ q
    → reported_run (cond t x y) ≡ cond t p q
told_cond true x y p q e f = e
told_cond false x y p q e f = f

fitted_told : (h : List ℕ) (room : ℕ) → reported_run (fitted h room) ≡ fitted_outcome h room
fitted_told h room = told_cond (ltb room (length h)) _ _ _ _ refl refl

made_told :
    (s : List ℕ) (room : ℕ) (m : Result Queue Refusal)
    → reported_run (ran_made s room m) ≡ made_outcome s room m
made_told s room (Ok q) = fitted_told (history s q) room
made_told s room (Err r) = refl

pub outcome_told : (s : List ℕ) (room : ℕ) → reported_run (ran_sheet s room) ≡ outcome s room
outcome_told s room =
    told_cond (ltb 0 (first_out_of_form s)) _ _ _ _ refl
    (told_cond (ltb 0 (first_misplaced s)) _ _ _ _ refl
    (made_told s room (made_by (line_of (part_at s 1)))))
