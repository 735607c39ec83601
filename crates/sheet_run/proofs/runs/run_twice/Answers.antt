use mathlib.Core.Path.{◌≡◌, refl, sym, ap, ◌∙◌}
use mathlib.Core.Bool.{true}
use Rattle.std.specs.Prelude.{Result, Err}
use Prim.Native.Nat.{ℕ, ◌≤◌}
use native.Mathlib.Omega.{arith}
use mathlib.Core.List.{List}
use lib.ListN.{length}
use Rattle.std.proofs.lemmas.Result.{err_from_is_err_and}
use Rattle.record.specs.declared.queues.Queue.{Queue}
use Rattle.record.specs.Queues.{fresh_queue}
use Rattle.sheet_format.specs.declared.events.SheetRefusal.{SheetRefusal}
use Rattle.sheet_format.specs.Sheets.{history, fitted, area_written}
use Rattle.image.specs.Image.{image_of}
use Rattle.sheet_lines.specs.Area.{area_with, queue_after}
use Rattle.sheet_lines.proofs.Areas.{area_whole}
use Rattle.sheet_run.proofs.Outcomes.{length_fits, written_whole}
use Rattle.sheet_run.proofs.runs.run_twice.Goals as goal

-- what a run says of an area that the run before it left as it was
fitted_same : (h a b : List ℕ) (r : Result ℕ SheetRefusal) → b ≡ a → r ≡ fitted h (length b) →
    r ≡ fitted h (length a)
fitted_same h a b r e f = f ∙ ap (λ (x : List ℕ). fitted h (length x)) e

image_same : (s : List ℕ) (q : Queue) (a b i : List ℕ) → b ≡ a →
    i ≡ image_of (queue_after s q (length b)) → i ≡ image_of (queue_after s q (length a))
image_same s q a b i e f = f ∙ ap (λ (x : List ℕ). image_of (queue_after s q (length x))) e

written_same :
    (s : List ℕ) (q : Queue) (a b c : List ℕ) (r : Result ℕ SheetRefusal) →
    length (history s q) ≤ length a →
    b ≡ a →
    r ≡ fitted (history s q) (length b) →
    c ≡ area_with (history s q) b true →
    c ≡ area_written (history s q) a r
written_same s q a b c r fits e f g =
    let n = ap length e in
    written_whole (history s q) a b c r fits e f
    (g ∙ area_whole s q b true (omega (arith, fits, n)))

pub returns-in_err-run_lines : goal.returns-in_err-run_lines
returns-in_err-run_lines c =
    let one = c.run_lines in
    let e = c.make_at.ensures.sound.1 in
    let p = err_from_is_err_and c.from_residual.result c.from_residual.ensures.1 in
    let told : c.from_residual.result ≡ Err c.in_err-run_lines.field-0.0 = rw (p.1, p.2) refl in
    record {
      value = told ∙ sym c.in_err-run_lines.was ∙ (rw e at one.ensures.value);
      area_after = one.ensures.area_after ∙ ap (area_written (history c.args.sheet.now (fresh_queue c.args.p c.args.n c.args.l)) c.args.area.now) (sym told);
      image_after = rw e at one.ensures.image_after;
    }

pub returns : goal.returns
returns c =
    let a = c.args in
    let s = a.sheet.now in
    let q = fresh_queue a.p a.n a.l in
    let one = c.run_lines in
    let two = c.run_lines-2 in
    let e = c.make_at.ensures.sound.1 in
    let f = c.make_at-2.ensures.sound.1 in
    let first : one.result ≡ fitted (history s q) (length a.area.now) = rw e at one.ensures.value in
    let same = one.ensures.area_after in
    let fits = length_fits (history s q) (length a.area.now) _ (sym c.in_ok-run_lines.was ∙ first) in
    let second = rw f at two.ensures.value in
    record {
      value = fitted_same (history s q) a.area.now one.new.area two.result same second;
      area_after =
          written_same s q a.area.now one.new.area two.new.area two.result fits same second
          (rw f at two.ensures.area_after);
      image_after =
          image_same s q a.area.now one.new.area two.new.image same
          (rw f at two.ensures.image_after);
    }
