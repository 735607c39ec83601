use mathlib.Core.Path.{◌≡◌}
use Prim.Native.Nat.{◌*◌, ◌≤◌}
use lib.ListN.{length}
use Rattle.image.specs.Image.{queue_in, start_of, Sound}
use Rattle.image_list.specs.Plain.{record_to, written_to}
use Rattle.image_list.proofs.runs.run_calls.Given as goal

abbrev pub invariant-loop-i : goal.invariant-loop-i
invariant-loop-i l =
    Sound l.image
    × (queue_in l.image ≡ record_to (queue_in l.initial.image) l.calls l.i)
    × (l.answers ≡ written_to (queue_in l.initial.image) l.calls l.initial.answers l.i)
    × (length l.answers ≡ length l.initial.answers)
    × (l.end * 5 ≤ length l.calls)
    × (l.end * 5 ≤ length l.initial.answers)
    × (length l.image ≡ length l.initial.image)
    × (l.base ≡ start_of l.image)
