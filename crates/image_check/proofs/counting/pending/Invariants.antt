use Rattle.std.proofs.Common.{◌≡◌, ◌-◌, ◌<◌}
use Rattle.laws.specs.HowMany.{how_many}
use Rattle.record_check.specs.Backlog.{pending_at}
use Rattle.image.specs.Image.{queue_in}
use Rattle.image_check.proofs.counting.pending.Given as goal

abbrev pub invariant-loop-i : goal.invariant-loop-i
invariant-loop-i l =
    (l.count < l.i) × (l.count ≡ how_many (pending_at (queue_in l.image)) (l.i - 1))
