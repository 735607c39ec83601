-- Markers, the call of document 02 (W6) that tells which processor marked each node in use. In a
-- lent area each of the nodes 1 to N that is in use gets two bytes, in the order of the nodes: its
-- number and its marker. The answer is how many nodes these are. Refused with 21, and then with 43
-- where the area is shorter than these bytes; a refused call leaves the area as it was.
-- rules/specs/Demand3 says what a marker is in the book.
use Rattle.std.specs.Prelude.{ℕ, zero, suc, ◌-◌, ◌*◌, Bool, cond, List, [], ◌∷◌, ◌++◌, ltb, length, Result, Ok, Err}
use Rattle.laws.specs.Front.{at_front}
use Rattle.laws.specs.HowMany.{how_many}
use Rattle.record.specs.declared.queues.Queue.{Queue}
use Rattle.record.specs.Nodes.{is_in_use, is_marked}
use Rattle.record.specs.Queues.{node_at}
use Rattle.record.specs.Refusals.{refusal_number}
use Rattle.record.specs.Report.{Report, report}
use Rattle.record.specs.declared.refusals.Refusal.{Refusal}
use Rattle.record.specs.declared.refusals.Refusal.TheVariants as refusal
use Rattle.record_check.specs.Check.{valid}

-- the byte for a mark: the processor that set it, or 255 where there is none
abbrev pub marker_byte : ℕ → ℕ
marker_byte mark = cond (is_marked mark) (mark - 1) 255

abbrev pub in_use_at : Queue → ℕ → Bool
in_use_at q x = is_in_use (node_at q x).state

-- what node x has in the area
abbrev pub pair_at : Queue → ℕ → List ℕ
pair_at q x = cond (in_use_at q x) (x ∷ marker_byte (node_at q x).mark ∷ []) []

-- the bytes of the nodes 1 to n
abbrev pub pairs_to : Queue → ℕ → List ℕ
pairs_to q zero = []
pairs_to q (suc n) = pairs_to q n ++ pair_at q (suc n)

-- how many nodes are in use
abbrev pub used_count : Queue → ℕ
used_count q = how_many (in_use_at q) q.node_count

-- the answer, with room for so many bytes
abbrev pub markers_of : Queue → ℕ → Result ℕ Refusal
markers_of q room =
    cond (valid q)
    (cond (ltb room (2 * used_count q)) (Err refusal.Room) (Ok (used_count q)))
    (Err refusal.Invalid)

-- the area after this answer
abbrev pub area_by : List ℕ → List ℕ → Result ℕ Refusal → List ℕ
area_by pairs area (Err r) = area
area_by pairs area (Ok k) = at_front pairs area

abbrev pub area_after : Queue → List ℕ → List ℕ
area_after q area = area_by (pairs_to q q.node_count) area (markers_of q (length area))

-- each answer in document 01's numbers: 0 and the count, or the number of the refusal
abbrev pub reported_markers : Result ℕ Refusal → Report
reported_markers (Err r) = report (refusal_number r) []
reported_markers (Ok k) = report 0 (k ∷ [])
