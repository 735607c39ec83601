-- Backlog, as document 02 has it (W2): of the nodes 1 to N, those in use whose entry is answered,
-- which the stamp tells, and not marked. No refusal but 21 (01, refusals, last line).
-- rules/specs/Demand3 says what the count is in the book.
use Rattle.std.specs.Prelude.{Result, Ok, Err, ℕ, Bool, cond, ◌&&◌, not, [], ◌∷◌, Option}
use Rattle.laws.specs.HowMany.{how_many}
use Rattle.record.specs.declared.refusals.Refusal.{Refusal}
use Rattle.record.specs.declared.refusals.Refusal.TheVariants as refusal
use Rattle.record.specs.declared.nodes.Node.{Node}
use Rattle.record.specs.declared.nodes.Use.{Use}
use Rattle.record.specs.declared.queues.Queue.{Queue}
use Rattle.record_check.specs.Check.{valid}
use Rattle.record.specs.Nodes.{is_in_use, is_marked, is_stamped}
use Rattle.record.specs.Queues.{node_at}
use Rattle.record.specs.Refusals.{refusal_number}
use Rattle.record.specs.Report.{Report, report}

-- whether a node's entry is answered and not marked, by the node's use and stamp, and by whether it
-- has a mark
abbrev pub is_pending : Use → Option ℕ → Bool → Bool
is_pending u s marked = is_in_use u && (is_stamped s && not marked)

abbrev pub holds_pending : Node → Bool
holds_pending n = is_pending n.state n.stamp (is_marked n.mark)

abbrev pub pending_at : Queue → ℕ → Bool
pending_at q x = holds_pending (node_at q x)

abbrev pub backlog_of : Queue → Result ℕ Refusal
backlog_of q =
    cond (valid q) (Ok (how_many (pending_at q) q.node_count)) (Err refusal.Invalid)

-- each answer in document 01's numbers: 0 and the count, or the number of the refusal
abbrev pub reported_count : Result ℕ Refusal → Report
reported_count (Err r) = report (refusal_number r) []
reported_count (Ok k) = report 0 (k ∷ [])
