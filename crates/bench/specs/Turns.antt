-- Steps one after the other: the processors of a list.
use Rattle.std.specs.Prelude.{cond, List, ℕ, zero, suc, length, get_or}
use Rattle.record.specs.declared.queues.Queue.{Queue}
use Rattle.rules.specs.declared.calls.Call.TheVariants as call
use Rattle.rules.specs.Calls.{called_valid}
use Rattle.image.specs.Image.{image_of, queue_in, passes_of}

-- the record after a step of each of the first k processors of the list; a refused step leaves it
-- as it was
unfoldable pub stepped_to : Queue → List ℕ → ℕ → Queue
stepped_to q l zero = q
stepped_to q l (suc k) = (called_valid (stepped_to q l k) (call.Step (get_or l k 0))).queue

-- what `bench_steps` gives back and leaves
unfoldable pub ready_code : List ℕ → ℕ
ready_code b = cond (passes_of b) 0 21

unfoldable pub bytes_stepped : List ℕ → List ℕ → List ℕ
bytes_stepped b l = cond (passes_of b) (image_of (stepped_to (queue_in b) l (length l))) b
