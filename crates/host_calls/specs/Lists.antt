-- Lists of calls on lent bytes: each call takes the bytes that the one before left.
use Rattle.std.specs.Prelude.{ℕ, ◌≡◌, true, false, List, [], ◌∷◌, length}
use Rattle.record_check.specs.Backlog.{reported_count}
use Rattle.record_markers.specs.Markers.{area_after, reported_markers}
use Rattle.image.specs.Image.{image_of, queue_in, is_image}
use Rattle.record.specs.declared.queues.Queue.{Queue}
use Rattle.record.specs.Queues.{fresh_queue}
use Rattle.rules.specs.Answers.{plain_of, plain_report, is_refused}
use Rattle.rules.specs.declared.calls.Call.{Call}
use Rattle.rules.specs.Calls.{called}
use Rattle.rules.specs.Demand3.{InRange}
use Rattle.rules.specs.Runs.{Turn, calls, backlog, markers, after_all}
use Rattle.rules.specs.Runs.{Reply, answered, counted, listed, reply}
use Rattle.rules.specs.declared.answers.PlainAnswer.{PlainAnswer}
use Rattle.host_calls.specs.Entries.{plain_outcome, on_bytes, bytes_after, count_on, markers_on}
use Rattle.host_calls.specs.Entries.{area_on}

-- the bytes that an entry leaves, and its reply
abbrev pub bytes_after_turn : List ℕ → Turn → List ℕ
bytes_after_turn b (calls c) = bytes_after b (on_bytes b (λ q. called q c))
bytes_after_turn b backlog = b
bytes_after_turn b (markers area) = b

abbrev pub plain_turn : List ℕ → Turn → PlainAnswer
plain_turn b (calls c) = plain_outcome (on_bytes b (λ q. called q c))
plain_turn b backlog = plain_report (reported_count (count_on b))
plain_turn b (markers area) = plain_report (reported_markers (markers_on b (length area)))

-- the bytes after a list of calls
unfoldable pub bytes_after_all : List ℕ → List Turn → List ℕ
bytes_after_all b [] = b
bytes_after_all b (c ∷ cs) = bytes_after_all (bytes_after_turn b c) cs

-- what a call on a record gives back, in numbers
abbrev pub in_numbers : Reply → PlainAnswer
in_numbers (answered a) = plain_of a
in_numbers (counted k) = plain_report (reported_count k)
in_numbers (listed k area) = plain_report (reported_markers k)

-- A call on any bytes, if it is accepted, leaves the image of the defined record, and bytes that
-- are read as it.
abbrev pub AcceptedIsRead : Type 0
AcceptedIsRead =
    (c : Call) (b : List ℕ) → let o = on_bytes b (λ q. called q c) in
    is_refused o.answer ≡ false →
    (bytes_after b o ≡ image_of o.queue)
    × ((is_image (bytes_after b o) ≡ true) × (queue_in (bytes_after b o) ≡ o.queue))

-- Calls on bytes are the calls of the theorem of demand 3: after every list of calls on the image
-- of a queue that was just made, the bytes are the image of the record after these calls, are read
-- as this record, and the reply to the next call is that of the record, in numbers, with the same
-- bytes in the area of markers.
pub record SameRun (q : Queue) (b : List ℕ) (cs : List Turn) : Type 0 where
  pub bytes : bytes_after_all b cs ≡ image_of (after_all q cs)
  pub image : is_image (bytes_after_all b cs) ≡ true
  pub read : queue_in (bytes_after_all b cs) ≡ after_all q cs
  pub next : (c : Turn) → plain_turn (bytes_after_all b cs) c ≡ in_numbers (reply (after_all q cs) c)
  pub area : (a : List ℕ) → area_on (bytes_after_all b cs) a ≡ area_after (after_all q cs) a

abbrev pub BytesAreTheRecord : Type 0
BytesAreTheRecord =
    (P N L : ℕ) → InRange P N L → (cs : List Turn) →
    SameRun (fresh_queue P N L) (image_of (fresh_queue P N L)) cs
