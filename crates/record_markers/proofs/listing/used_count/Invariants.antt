-- The loop has counted the nodes 1 to i.
use mathlib.Core.Path.{◌≡◌}
use Prim.Native.Nat.{◌≤◌}
use Rattle.laws.specs.HowMany.{how_many}
use Rattle.record_markers.specs.Markers.{in_use_at}
use Rattle.record_markers.proofs.listing.used_count.Given as goal

abbrev pub invariant-loop-i : goal.invariant-loop-i
invariant-loop-i l = (l.count ≤ l.i) × (l.count ≡ how_many (in_use_at l.q) l.i)
