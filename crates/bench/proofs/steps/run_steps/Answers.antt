use mathlib.Core.Path.{refl, ◌∙◌}
use Rattle.rules.specs.declared.calls.Call.TheVariants as call
use Rattle.image_step.proofs.Start.{start_after}
use Rattle.bench.proofs.Stepping.{none_stepped, one_stepped}
use Rattle.bench.proofs.steps.run_steps.Goals as goal

pub loop-p-init : goal.loop-p-init
loop-p-init c = (c.requires, none_stepped _ _, refl, refl)

pub loop-p-preserved : goal.loop-p-preserved
loop-p-preserved c =
    let v = c.loop-p in
    let g = c.step_from.ensures in (
      g.1,
      one_stepped _ _ v.p-index _ _ _ v.invariant.0 v.invariant.1 g.0,
      c.step_from.auto.image ∙ v.invariant.2,
      v.invariant.3 ∙ start_after _ v.invariant.0 (call.Step _) _ _ g,
    )
