use mathlib.Core.Path.{◌≡◌}
use lib.ListN.{length}
use Rattle.image.specs.Lists.{stored_at}
use Rattle.image_make.specs.Fresh.{fresh_nodes}
use Rattle.image_make.proofs.make.put_nodes.Given as goal

abbrev pub invariant-loop-x : goal.invariant-loop-x
invariant-loop-x l =
    (l.b ≡ stored_at l.initial.b l.base (fresh_nodes l.tail l.x)) × (length l.b ≡ length l.initial.b)
