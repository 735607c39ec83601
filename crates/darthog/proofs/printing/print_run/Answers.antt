use mathlib.Core.Path.{ap, ◌∙◌}
use mathlib.Core.List.{List, ◌++◌}
use Prim.Native.Nat.{ℕ}
use lib.ListN.{length, drop, take}
use Rattle.sheet_format.specs.Program.{text_of}
use Rattle.std.proofs.lemmas.List.{take_min}
use Rattle.darthog.proofs.printing.print_run.Goals as goal

pub returns : goal.returns
returns c =
    let a = c.args in
    let s = a.sheet.now in
    let e = ap (λ (n : ℕ). text_of (take n s)) c.min.ensures ∙ ap text_of (take_min 65536 s) in
    record {
      value = c.print_sheet.ensures.value ∙ ap length e;
      area_after =
          c.print_sheet.ensures.area_after
          ∙ ap (λ (x : List ℕ). x ++ drop (length x) a.area.now) e;
    }
