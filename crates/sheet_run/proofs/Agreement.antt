-- The answers of a sheet's calls agree with the book. Assumes nothing.
use mathlib.Core.Path.{◌≡◌, refl, sym, ap, ◌∙◌}
use mathlib.Core.List.{List}
use Rattle.std.specs.Prelude.{Result, Ok, Err, None}
use Rattle.std.specs.Result.{result_err}
use Prim.Native.Nat.{ℕ}
use native.Mathlib.Omega.{arith}
use Rattle.record.specs.declared.queues.Queue.{Queue}
use Rattle.record.specs.declared.refusals.Refusal.{Refusal}
use Rattle.record.specs.Queues.{fresh_queue}
use Rattle.rules.specs.Runs.{Turn}
use Rattle.rules.specs.Book.{Book, empty_book, agrees, judged}
use Rattle.rules.proofs.Demand3.{demand_three}
use Rattle.record_check.specs.Making.{made}
use Rattle.record_check.proofs.MadeLaws.{made_sizes, made_fresh}
use Rattle.sheet_format.specs.Calls.{all_calls}
use Rattle.sheet_format.specs.Lines.{line_of, part_at}
use Rattle.sheet_format.specs.Sheets.{made_by, queue_made}
use Rattle.sheet_run.specs.Agreement.{SheetAgrees}

-- the book agrees, also on the smallest queue, which stands for one that is not made
made_judged :
    (p n l : ℕ) (cs : List Turn) →
    (b : Book) × (judged empty_book (queue_made (made p n l)) cs ≡ agrees b)
made_judged p n l cs = at (made p n l) refl
  where
    at :
        (m : Result Queue Refusal) → made p n l ≡ m →
        (b : Book) × (judged empty_book (queue_made m) cs ≡ agrees b)
    at (Ok q) e =
        let none : result_err (made p n l) ≡ None = ap result_err e in
        let s = made_sizes p n l none in
        let f : Ok q ≡ Ok (fresh_queue p n l) = sym e ∙ made_fresh p n l none in
        let g : q ≡ fresh_queue p n l = cc in
        rw g
        (demand_three p n l
        (record { processors_low = s.processors_low; processors_high = s.processors_high; nodes_low = s.nodes_low; nodes_high = s.nodes_high; levels_low = s.levels_low; levels_high = s.levels_high })
        cs)
    at (Err r) e =
        demand_three 1 1 1
        (record { processors_low = omega arith; processors_high = omega arith; nodes_low = omega arith; nodes_high = omega arith; levels_low = omega arith; levels_high = omega arith })
        cs

pub sheet_agrees : (s : List ℕ) → SheetAgrees s
sheet_agrees s =
    let l = line_of (part_at s 1) in
    let j = made_judged l.first l.second l.third (all_calls s (queue_made (made_by l))) in
    record { book = j.0; judges = j.1 }
