-- What becomes of a mark, and who sees whose it is (02, W6), on any record. Everything here is a
-- statement; proofs/Marks.antt proves each of them.
use Rattle.std.specs.Prelude.{ℕ, suc, ◌+◌, ◌≡◌, true, cond, [], map}
use Rattle.record.specs.declared.nodes.Node.{Node}
use Rattle.record.specs.declared.queues.Queue.{Queue}
use Rattle.record.specs.Nodes.{is_marked, with_mark}
use Rattle.record.specs.Queues.{node_at}
use Rattle.record_check.specs.Check.{valid}
use Rattle.rules.specs.declared.answers.Answer.TheVariants as ans
use Rattle.rules.specs.Choice.{chosen}
use Rattle.rules.specs.Runs.{Turn, insert, step_by, after}
use Rattle.rules.specs.Runs.{Reply, answered, counted, listed, reply}

-- the call is an Insert that is not refused, and it takes node x
pub record Takes (q : Queue) (c : Turn) (x : ℕ) : Type 0 where
  pub processor : ℕ
  pub due : ℕ
  pub item : ℕ
  pub height : ℕ
  pub inserts : c ≡ insert processor due item height
  pub begins : reply q c ≡ answered (ans.Began (q.clock + 1))
  pub node : chosen q ≡ x

-- a mark that is set stays that of the processor that set it, until an Insert takes the node
abbrev pub SetMarkStays : Type 0
SetMarkStays =
    (q : Queue) (c : Turn) (x : ℕ) → is_marked (node_at q x).mark ≡ true → (Takes q c x → ⊥) →
    (node_at (after q c) x).mark ≡ (node_at q x).mark

-- a mark that a call sets is that of the processor which the call is for, and the call is a step
abbrev pub NewMarkIsTheCallers : Type 0
NewMarkIsTheCallers =
    (q : Queue) (c : Turn) (x p : ℕ) → (node_at q x).mark ≡ 0 → (node_at (after q c) x).mark ≡ suc p →
    c ≡ step_by p

-- the record with every mark that is set as that of processor 0
abbrev pub anonymous_node : Node → Node
anonymous_node n = with_mark n (cond (is_marked n.mark) 1 0)

abbrev pub anonymous : Queue → Queue
anonymous q = record {
  processor_count = q.processor_count;
  node_count = q.node_count;
  level_count = q.level_count;
  clock = q.clock;
  nodes = map anonymous_node q.nodes;
  processors = q.processors;
}

-- a reply, but for the area of markers, which tells who
abbrev pub without_area : Reply → Reply
without_area (answered a) = answered a
without_area (counted k) = counted k
without_area (listed k area) = listed k []

-- a call on records that differ at most in who set their marks gives both the same reply, and
-- leaves them so
pub record SameToBoth (q r : Queue) (c : Turn) : Type 0 where
  pub left : anonymous (after q c) ≡ anonymous (after r c)
  pub given : without_area (reply q c) ≡ without_area (reply r c)

abbrev pub NoAnswerSeesWho : Type 0
NoAnswerSeesWho =
    (q r : Queue) → valid q ≡ true → valid r ≡ true → anonymous q ≡ anonymous r → (c : Turn) →
    SameToBoth q r c
