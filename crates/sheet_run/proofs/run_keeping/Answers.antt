use mathlib.Core.Path.{refl, sym, ap, ◌∙◌, subst}
use lib.ListN.{length}
use Rattle.std.specs.Result.{result_err}
use Rattle.sheet_format.specs.declared.lines.SheetLine.{SheetLine}
use Rattle.sheet_format.specs.Kept.{IsKept}
use Rattle.sheet_format.specs.Lines.{first_out_of_form, first_misplaced, line_of}
use Rattle.sheet_format.specs.Sheets.{history, fitted, area_written, made_by, queue_made}
use Rattle.sheet_format.proofs.Readings.{told_is, told_none}
use Rattle.sheet_format.proofs.Keeping.{all_kept}
use Rattle.sheet_run.proofs.Agreement.{sheet_agrees}
use Rattle.sheet_run.proofs.Outcomes.{out_of_form, misplaced, not_made, runs}
use Rattle.sheet_run.proofs.Outcomes.{refused_untouched, sheet_written}
use Rattle.sheet_run.proofs.run_keeping.Goals as goal

pub returns-in-Some : goal.returns-in-Some
returns-in-Some g c =
    let a = c.args in
    let told = told_is c.in-Some.line (first_out_of_form a.sheet.now) c.in-Some.ensures.value in
    let e =
    out_of_form a.sheet.now (length a.history.now) c.in-Some.line told.0 (rw told.0 told.1) in
    record {
      value = e;
      history_after = refused_untouched a.sheet.now a.history.now _ e;
      sheet_agrees = sheet_agrees a.sheet.now;
    }

pub returns-in-Some-first_misplaced : goal.returns-in-Some-first_misplaced
returns-in-Some-first_misplaced g c =
    let a = c.args in
    let o = told_none (first_out_of_form a.sheet.now) c.in_default.ensures.value in
    let told =
    told_is c.in-Some-first_misplaced.line (first_misplaced a.sheet.now)
    c.in-Some-first_misplaced.ensures in
    let e =
    misplaced a.sheet.now (length a.history.now) o c.in-Some-first_misplaced.line told.0
    (rw told.0 told.1) in
    record {
      value = e;
      history_after = refused_untouched a.sheet.now a.history.now _ e;
      sheet_agrees = sheet_agrees a.sheet.now;
    }

pub returns-in-Some-making_refusal : goal.returns-in-Some-making_refusal
returns-in-Some-making_refusal g c =
    let a = c.args in
    let s = a.sheet.now in
    let o = told_none (first_out_of_form s) c.in_default.ensures.value in
    let w = told_none (first_misplaced s) c.in_default-first_misplaced.ensures in
    let r =
    c.in-Some-making_refusal.ensures
    ∙ ap (λ (x : SheetLine). result_err (made_by x)) c.line_of-l.ensures in
    let e = not_made s (length a.history.now) o w c.in-Some-making_refusal.refusal r in
    record {
      value = e;
      history_after = refused_untouched s a.history.now _ e;
      sheet_agrees = sheet_agrees s;
    }

pub run_made-requires : goal.run_made-requires
run_made-requires g c =
    let a = c.args in
    let o = told_none (first_out_of_form a.sheet.now) c.in_default.ensures.value in
    record {
      l_value = sym c.in_default-making_refusal.ensures;
      kept = subst (IsKept a.sheet.now) (sym c.in_default.ensures.kept_after) (all_kept a.sheet.now _ o);
    }

pub returns : goal.returns
returns g c =
    let a = c.args in
    let s = a.sheet.now in
    let o = told_none (first_out_of_form s) c.in_default.ensures.value in
    let w = told_none (first_misplaced s) c.in_default-first_misplaced.ensures in
    let l = line_of s in
    let r =
    c.in_default-making_refusal.ensures
    ∙ ap (λ (x : SheetLine). result_err (made_by x)) c.line_of-l.ensures in
    let f = runs s (length a.history.now) o w r in
    let run = c.run_made in
    let e =
    run.ensures.value
    ∙ ap (λ (x : SheetLine). fitted (history s (queue_made (made_by x))) (length a.history.now))
    c.line_of-l.ensures in
    let h =
    run.ensures.area_after
    ∙ ap (λ (x : SheetLine). area_written (history s (queue_made (made_by x))) a.history.now run.result)
    c.line_of-l.ensures in
    record {
      value = e ∙ f;
      history_after =
          sheet_written s a.history.now _ (queue_made (made_by l)) run.result f refl e h;
      sheet_agrees = sheet_agrees s;
    }
