use Rattle.std.proofs.Common.{◌≡◌, ◌-◌}
use Rattle.rules.specs.Choice.{longest_retired, state_of}
use Rattle.queue_begin.specs.Found.{found_retired}
use Rattle.queue_begin.proofs.choice.longest_retired.Given as goal

abbrev pub invariant-loop-x : goal.invariant-loop-x
invariant-loop-x l = l.best ≡ found_retired (state_of l.q) (longest_retired (state_of l.q) (l.x - 1))
