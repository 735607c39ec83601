use mathlib.Core.Path.{ap, sym}
use Rattle.rules.specs.declared.answers.Answer.TheVariants as ans
use Rattle.rules.specs.declared.calls.Call.TheVariants as call
use Rattle.image_parts.proofs.Refusals.{step_allowed}
use Rattle.image_parts.proofs.Sounds.{kept_sound, refused_early}
use Rattle.image_step.proofs.step.step_from.Goals as goal

pub returns-in-Some : goal.returns-in-Some
returns-in-Some c =
    refused_early _ c.requires.0 (call.Step c.args.processor) _ (sym c.in-Some.ensures) _
    (ap ans.Refused c.number.ensures)

pub stage_step-requires : goal.stage_step-requires
stage_step-requires c =
    let a = step_allowed _ c.requires.0 c.args.processor (sym c.in-None.ensures) in
    (c.requires.0, c.requires.1, a.0, a.1, a.2)

pub returns-in-None : goal.returns-in-None
returns-in-None c = kept_sound _ c.requires.0 (call.Step c.args.processor) _ _ c.stage_step.ensures
