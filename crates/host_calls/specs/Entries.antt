-- The calls on lent bytes. The record is the one that the bytes are the image of. A refused call
-- leaves the bytes (01, refusals); bytes that are the image of no record are refused with 21, like
-- a record that does not pass check 21.
use Rattle.std.specs.Prelude.{ℕ, Bool, cond, ◌||◌, List, Result, Ok, Err, eqb, length}
use Rattle.record_check.specs.Backlog.{backlog_of}
use Rattle.record_check.specs.Making.{outside}
use Rattle.record_markers.specs.Markers.{pairs_to, markers_of, area_by}
use Rattle.image.specs.Layout.{image_length}
use Rattle.image.specs.Image.{image_of, queue_in, is_image}
use Rattle.record.specs.declared.queues.Queue.{Queue}
use Rattle.record.specs.declared.refusals.Refusal.{Refusal}
use Rattle.record.specs.declared.refusals.Refusal.TheVariants as refusal
use Rattle.record.specs.Refusals.{refusal_number}
use Rattle.record.specs.Limits.{max_processors, max_nodes}
use Rattle.rules.specs.declared.answers.Outcome.{Outcome}
use Rattle.rules.specs.declared.answers.PlainAnswer.{PlainAnswer}
use Rattle.rules.specs.Answers.{plain_of, refused, is_refused}

abbrev pub plain_outcome : Outcome → PlainAnswer
plain_outcome o = plain_of o.answer

-- the outcome of a call on lent bytes
unfoldable pub on_bytes : List ℕ → (Queue → Outcome) → Outcome
on_bytes b call = cond (is_image b) (call (queue_in b)) (refused (queue_in b) refusal.Invalid)

-- the bytes after a call with this outcome
unfoldable pub bytes_after : List ℕ → Outcome → List ℕ
bytes_after b o = cond (is_refused o.answer) b (image_of o.queue)

-- Backlog on lent bytes
unfoldable pub count_on : List ℕ → Result ℕ Refusal
count_on b = cond (is_image b) (backlog_of (queue_in b)) (Err refusal.Invalid)

-- markers on lent bytes, with room for so many bytes in the area; and the area after it
unfoldable pub markers_on : List ℕ → ℕ → Result ℕ Refusal
markers_on b room = cond (is_image b) (markers_of (queue_in b) room) (Err refusal.Invalid)

unfoldable pub area_on : List ℕ → List ℕ → List ℕ
area_on b area =
    area_by (pairs_to (queue_in b) (queue_in b).node_count) area (markers_on b (length area))

-- how long the image of a queue of these sizes is, or 0 where no queue has them
unfoldable pub length_for : ℕ → ℕ → ℕ
length_for p n = cond (outside p max_processors || outside n max_nodes) 0 (image_length p n)

-- the bytes are as long as the image of this record
abbrev pub fits_queue : List ℕ → Queue → Bool
fits_queue b q = eqb (length b) (image_length q.processor_count q.node_count)

-- making a queue in lent bytes: 11, 12, 13, then 21 where the bytes are not as long as its image
unfoldable pub make_code : List ℕ → Result Queue Refusal → ℕ
make_code b (Ok q) = cond (fits_queue b q) 0 21
make_code b (Err r) = refusal_number r

unfoldable pub bytes_made : List ℕ → Result Queue Refusal → List ℕ
bytes_made b (Ok q) = cond (fits_queue b q) (image_of q) b
bytes_made b (Err r) = b
