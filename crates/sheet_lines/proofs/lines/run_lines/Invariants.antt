use mathlib.Core.Path.{◌≡◌}
use mathlib.Core.List.{List}
use Prim.Native.Nat.{ℕ, ◌+◌, ◌-◌, ◌≤◌}
use lib.ListN.{length}
use Rattle.record.specs.declared.queues.Queue.{Queue}
use Rattle.image.specs.Image.{queue_in}
use Rattle.sheet_lines.proofs.States.{Between, Within}
use Rattle.sheet_lines.proofs.lines.run_lines.Given as goal

abbrev pub invariant-loop-left : goal.invariant-loop-left
invariant-loop-left l =
    ((q : Queue) (a : List ℕ) →
    Within l.sheet q (l.k + 1) l.l l.initial.left l.initial.image a l.initial.area l.initial.at l.writing →
    Within l.sheet q (l.k + 1) l.l l.left l.image a l.area l.at l.writing)
    × (length l.image ≡ length l.initial.image)

abbrev pub decreases-loop-left : goal.decreases-loop-left
decreases-loop-left l = l.left

abbrev pub invariant-loop-k : goal.invariant-loop-k
invariant-loop-k l =
    Between l.sheet (queue_in l.initial.image) l.k l.image l.initial.area l.area l.at l.writing
    × ((l.k - 1 ≤ l.count - 1) × (length l.image ≡ length l.initial.image))
