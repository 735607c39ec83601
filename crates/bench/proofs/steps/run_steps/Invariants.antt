use mathlib.Core.Path.{◌≡◌}
use lib.ListN.{length}
use Rattle.image.specs.Image.{queue_in, start_of, Sound}
use Rattle.bench.specs.Turns.{stepped_to}
use Rattle.bench.proofs.steps.run_steps.Given as goal

abbrev pub invariant-loop-p : goal.invariant-loop-p
invariant-loop-p l =
    Sound l.image × (queue_in l.image ≡ stepped_to (queue_in l.initial.image) l.who l.p-index) ×
    (length l.image ≡ length l.initial.image) × (l.base ≡ start_of l.image)
