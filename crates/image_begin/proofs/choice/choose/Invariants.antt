use Rattle.rules.specs.Choice.{state_of}
use Rattle.image.specs.Image.{queue_in}
use Rattle.image_begin.proofs.Choices.{Seen}
use Rattle.image_begin.proofs.choice.choose.Given as goal

abbrev pub invariant-loop-i : goal.invariant-loop-i
invariant-loop-i l = Seen (state_of (queue_in l.b)) l.i l.best l.least
