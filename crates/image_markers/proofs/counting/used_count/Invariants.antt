-- The loop has counted the nodes 1 to i.
use mathlib.Core.Path.{◌≡◌}
use Prim.Native.Nat.{◌≤◌}
use Rattle.laws.specs.HowMany.{how_many}
use Rattle.record_markers.specs.Markers.{in_use_at}
use Rattle.image.specs.Image.{queue_in}
use Rattle.image_markers.proofs.counting.used_count.Given as goal

abbrev pub invariant-loop-i : goal.invariant-loop-i
invariant-loop-i l = (l.count ≤ l.i) × (l.count ≡ how_many (in_use_at (queue_in l.image)) l.i)
