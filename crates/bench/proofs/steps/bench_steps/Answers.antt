use mathlib.Core.Path.{sym, ◌∙◌}
use native.Mathlib.Omega.{arith}
use Rattle.image_check.proofs.Tests.{passes_sound}
use Rattle.bench.proofs.Stepping.{not_ready, was_ready}
use Rattle.bench.proofs.steps.bench_steps.Goals as goal

pub returns-then-not-passes : goal.returns-then-not-passes
returns-then-not-passes c =
    let a = c.args in
    let r = not_ready a.image.now a.who.now (sym c.passes.ensures ∙ c.if-not-passes.true) in
    record { value = c.number.ensures ∙ r.0; image_after = r.1 }

pub run_steps-requires : goal.run_steps-requires
run_steps-requires c =
    let b = c.args.image.now in
    passes_sound b
    (λ k. omega (arith, c.slice_known-1.given k))
    (sym c.passes.ensures ∙ c.if-not-passes.false)

pub returns : goal.returns
returns c =
    let a = c.args in
    let r =
    was_ready a.image.now a.who.now _ (sym c.passes.ensures ∙ c.if-not-passes.false)
    c.run_steps.ensures in
    record { value = r.0; image_after = r.1 }
