-- What the run of the sheet answers, and what it leaves in the area, is the program's text.
use mathlib.Core.Path.{ap, ◌∙◌}
use mathlib.Core.List.{List, ◌++◌}
use Prim.Native.Nat.{ℕ}
use native.Mathlib.Omega.{arith}
use lib.ListN.{length, drop}
use Rattle.laws.specs.Front.{at_front}
use Rattle.sheet_format.specs.Program.{refusal_text, text_of}
use Rattle.darthog.proofs.Printed.{Run, area_kept, refusal_printed, line_low}
use Rattle.darthog.proofs.Printed.{history_length, history_written}
use Rattle.darthog.proofs.printing.print_sheet.Goals as goal

pub overflow_cast-e : goal.overflow_cast-e
overflow_cast-e c =
    let a = c.args in
    let f = c.run_sheet in
    let r : Run a.sheet.now a.area.now f.new.history f.result =
    record {
      short = c.requires.0;
      size = c.requires.1;
      outcome = f.ensures.value;
      written = f.ensures.history_after;
    } in
    let h = line_low _ _ _ _ r _ c.in-Err.is in
    omega (arith, h)

pub returns-in-Err : goal.returns-in-Err
returns-in-Err c =
    let a = c.args in
    let f = c.run_sheet in
    let r : Run a.sheet.now a.area.now f.new.history f.result =
    record {
      short = c.requires.0;
      size = c.requires.1;
      outcome = f.ensures.value;
      written = f.ensures.history_after;
    } in
    let s = a.sheet.now in
    let n = c.number.ensures in
    let k = area_kept _ _ _ _ r _ c.in-Err.is in
    let t = refusal_printed _ _ _ _ r _ c.in-Err.is in
    record {
      value =
          c.print_refusal.ensures.value
          ∙ ap (λ (x : ℕ). length (refusal_text x c.in-Err.e.line)) n ∙ ap length t;
      area_after =
          c.print_refusal.ensures.area_after
          ∙ ap (λ (x : ℕ). at_front (refusal_text x c.in-Err.e.line) f.new.history) n
          ∙ ap (λ (x : List ℕ). x ++ drop (length x) f.new.history) t
          ∙ ap (λ (x : List ℕ). text_of s ++ drop (length (text_of s)) x) k;
    }

pub returns-in-Ok : goal.returns-in-Ok
returns-in-Ok c =
    let a = c.args in
    let f = c.run_sheet in
    let r : Run a.sheet.now a.area.now f.new.history f.result =
    record {
      short = c.requires.0;
      size = c.requires.1;
      outcome = f.ensures.value;
      written = f.ensures.history_after;
    } in
    let e = c.in-Ok.is in
    record {
      value = history_length _ _ _ _ r _ e;
      area_after = history_written _ _ _ _ r _ e;
    }
