use mathlib.Core.Path.{sym, ◌∙◌}
use native.Mathlib.Omega.{arith}
use Rattle.image_check.proofs.Tests.{passes_sound}
use Rattle.image_list.proofs.Plains.{turned_down, all_run, agreed}
use Rattle.host_calls.proofs.batch.darthog_calls.Goals as goal

pub returns-then-not-passes : goal.returns-then-not-passes
returns-then-not-passes c =
    let a = c.args in
    let d = turned_down a.image.now a.calls.now a.answers.now
    (sym c.passes.ensures ∙ c.if-not-passes.true) in
    record {
      value = c.number.ensures ∙ d.0;
      image_after = d.1.0;
      answers_after = d.1.1;
      list_agrees = agreed a.image.now a.calls.now a.answers.now;
    }

pub run_calls-requires : goal.run_calls-requires
run_calls-requires c =
    let b = c.args.image.now in
    passes_sound b
    (λ k.
    omega (
      arith,
      c.slice_known-1.given
          k,
    )) (sym c.passes.ensures
    ∙ c.if-not-passes.false)

pub returns : goal.returns
returns c =
    let a = c.args in
    let e = c.run_calls.ensures in
    let d = all_run a.image.now a.calls.now a.answers.now _ _
    (sym c.passes.ensures
    ∙ c.if-not-passes.false)
    e.image_after e.answers_after in
    record {
      value = d.0;
      image_after = d.1.0;
      answers_after = d.1.1;
      list_agrees = agreed a.image.now a.calls.now a.answers.now;
    }
