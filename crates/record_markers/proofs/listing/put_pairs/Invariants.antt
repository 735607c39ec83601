-- The loop has put the bytes of the nodes 1 to i at the front.
use mathlib.Core.Path.{◌≡◌}
use Prim.Native.Nat.{◌*◌, ◌≤◌}
use lib.ListN.{length}
use Rattle.laws.specs.Front.{at_front}
use Rattle.laws.specs.HowMany.{how_many}
use Rattle.record_markers.specs.Markers.{in_use_at, pairs_to}
use Rattle.record_markers.proofs.listing.put_pairs.Given as goal

abbrev pub invariant-loop-k : goal.invariant-loop-k
invariant-loop-k l =
    (l.at ≡ 2 * how_many (in_use_at l.q) l.k)
    × (l.at ≤ 2 * l.k)
    × (l.area ≡ at_front (pairs_to l.q l.k) l.initial.area)
    × (length l.area ≡ length l.initial.area)
