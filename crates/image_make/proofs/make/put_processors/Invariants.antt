use mathlib.Core.Path.{◌≡◌}
use lib.ListN.{length}
use Rattle.image.specs.Lists.{stored_at}
use Rattle.image_make.specs.Fresh.{fresh_processors}
use Rattle.image_make.proofs.make.put_processors.Given as goal

abbrev pub invariant-loop-p : goal.invariant-loop-p
invariant-loop-p l =
    (l.b ≡ stored_at l.initial.b 7 (fresh_processors l.p)) × (length l.b ≡ length l.initial.b)
