-- The loop has put the bytes of the nodes 1 to i at the front.
use mathlib.Core.Path.{◌≡◌}
use Prim.Native.Nat.{◌*◌, ◌≤◌}
use lib.ListN.{length}
use Rattle.laws.specs.Front.{at_front}
use Rattle.laws.specs.HowMany.{how_many}
use Rattle.record_markers.specs.Markers.{in_use_at, pairs_to}
use Rattle.image.specs.Image.{queue_in}
use Rattle.image_markers.proofs.pairs.put_pairs.Given as goal

abbrev pub invariant-loop-i : goal.invariant-loop-i
invariant-loop-i l =
    (l.at ≡ 2 * how_many (in_use_at (queue_in l.image)) l.i)
    × (l.at ≤ 2 * l.i)
    × (l.area ≡ at_front (pairs_to (queue_in l.image) l.i) l.initial.area)
    × (length l.area ≡ length l.initial.area)
