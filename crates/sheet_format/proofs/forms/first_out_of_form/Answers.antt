use mathlib.Core.Path.{◌≡◌, sym, ◌∙◌, ap, subst}
use mathlib.Core.Bool.{true, false}
use Prim.Native.Nat.{ℕ, ◌+◌, ◌-◌, ◌*◌, ◌<◌}
use lib.ListN.{length, take, drop}
use Rattle.sheet_format.specs.Lines.{line_in_form, line_of, line_count, part_at, first_out_of_form}
use Rattle.sheet_format.proofs.Keeping.{kept_before, kept_next}
use Rattle.sheet_format.proofs.Readings.{fails_at, passes_more, bad_not, form_is, form_line}
use Rattle.sheet_format.proofs.Readings.{line_told}
use Rattle.sheet_format.proofs.Parts.{tail_part, part_next}
use Rattle.sheet_format.proofs.forms.first_out_of_form.Goals as goal

pub returns-in-None : goal.returns-in-None
returns-in-None c =
    let a = c.args in
    let s = a.sheet.now in
    let k = c.loop-k.k in
    let e = ap line_in_form (tail_part s (30 * k) ∙ part_next s k) in
    let b = bad_not (take (length s - 30 * k) (drop (30 * k) s)) c.in-None.ensures.value in
    let f : line_in_form (part_at s (k + 1)) ≡ false = sym e ∙ sym b in
    let h : k < line_count s =
    subst (λ (m : ℕ). k < m) c.line_count-k-end.ensures c.loop-k-test.true in
    let r =
    sym (fails_at (λ n. line_in_form (part_at s n)) k (line_count s) c.loop-k.invariant.0 f h) in
    record {
      value = line_told k (first_out_of_form s) r;
      kept_after = c.loop-k.invariant.1 ∙ kept_before s a.kept.now k r;
    }

pub loop-k-preserved : goal.loop-k-preserved
loop-k-preserved c =
    let a = c.args in
    let s = a.sheet.now in
    let k = c.loop-k.k in
    let part = take (length s - 30 * k) (drop (30 * k) s) in
    let p : part ≡ part_at s (k + 1) = tail_part s (30 * k) ∙ part_next s k in
    let r = c.in-Some.ensures.value in
    let f : line_in_form (part_at s (k + 1)) ≡ true =
    sym (ap line_in_form p) ∙ sym (form_is part _ r) in
    let l = form_line part _ r ∙ ap line_of p in (
      passes_more (λ n. line_in_form (part_at s n)) k c.loop-k.invariant.0 f,
      kept_next s a.kept.now c.loop-k.kept _ k _ c.keep_line.ensures c.loop-k.invariant.1 l,
    )
