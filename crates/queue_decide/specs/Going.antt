-- What a step of a Search and of a Lock-seek decides in any operation, whose next stage is g.
use Rattle.rules.specs.declared.decisions.Decision.{Decision}
use Rattle.rules.specs.declared.decisions.Effect.TheVariants as eff
use Rattle.rules.specs.declared.decisions.Searched.{Searched}
use Rattle.rules.specs.declared.decisions.Searched.TheVariants as srch
use Rattle.rules.specs.declared.decisions.Sought.{Sought}
use Rattle.rules.specs.declared.decisions.Sought.TheVariants as sght
use Rattle.rules.specs.declared.decisions.StepView.{StepView}
use Rattle.record.specs.declared.stages.Place.{Place}
use Rattle.record.specs.declared.stages.Stage.{Stage}
use Rattle.rules.specs.Decide.{moved, waits, saving}

-- where a Search leaves its level, its place is saved for that level
abbrev pub searching : StepView → Place → Searched → Stage → Decision
searching s a (srch.Ahead b) g = moved s eff.Keep g
searching s a (srch.Down b) g = saving s a g
searching s a (srch.Done b) g = saving s a g

abbrev pub seeking : StepView → Sought → Stage → Decision
seeking s (sght.Goes e k) g = moved s e g
seeking s (sght.Waits k h) g = waits s g h
seeking s (sght.Done a) g = moved s eff.Keep g
