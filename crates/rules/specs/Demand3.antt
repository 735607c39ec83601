-- Demand 3 (01, the book; held to by contract), and what it means. Everything here is a statement;
-- proofs/Demand3.antt and the files that it names prove each of them.
use Rattle.std.specs.Prelude.{ℕ, suc, ◌+◌, ◌≤◌, ◌<◌, ◌≡◌, true, false, ◌&&◌, List, ◌∷◌, ◌++◌, get_or, Ok}
use Rattle.laws.specs.HowMany.{how_many}
use Rattle.record.specs.declared.queues.Queue.{Queue}
use Rattle.record.specs.Limits.{max_processors, max_nodes, max_levels}
use Rattle.record_check.specs.Check.{valid}
use Rattle.record.specs.Queues.{fresh_queue, node_at, processor_at}
use Rattle.record.specs.declared.stages.Job.{Job}
use Rattle.record.specs.declared.stages.Job.TheVariants as jobs
use Rattle.record.specs.declared.stages.Wanted.{Wanted}
use Rattle.record.specs.Stages.{wanted_of}
use Rattle.record_markers.specs.Markers.{in_use_at}
use Rattle.rules.specs.declared.answers.Answer.TheVariants as ans
use Rattle.rules.specs.declared.answers.Deed.{Deed}
use Rattle.rules.specs.declared.answers.Deed.TheVariants as deed
use Rattle.rules.specs.declared.answers.Entry.{Entry}
use Rattle.rules.specs.Book.{Book, nothing, walking, relaxing, seeking, unlinking, empty_book}
use Rattle.rules.specs.Book.{agrees, judged, now, earlier, answered_in, pending_in, is_gone}
use Rattle.rules.specs.Calls.{idle_at}
use Rattle.rules.specs.Locks.{Lock, level, node, holder_of, Claims}
use Rattle.rules.specs.Runs.{Turn, step_by, backlog, Reply, answered, counted, reply, after_all}
use Rattle.rules.specs.Waits.{Holder}

-- a queue that was just made has sizes in their ranges
pub record InRange (P N L : ℕ) : Type 0 where
  pub processors_low : 1 ≤ P
  pub processors_high : P ≤ max_processors
  pub nodes_low : 1 ≤ N
  pub nodes_high : N ≤ max_nodes
  pub levels_low : 1 ≤ L
  pub levels_high : L ≤ max_levels

-- b is the book after this list of calls on a queue that was just made: every answer agreed with it
abbrev pub BookAfter : (P N L : ℕ) → List Turn → Book → Type 0
BookAfter P N L cs b = judged empty_book (fresh_queue P N L) cs ≡ agrees b

-- DEMAND 3: for every list of calls, in any order, with any numbers, refused ones included, the
-- book takes every answer.
abbrev pub Demand3 : Type 0
Demand3 = (P N L : ℕ) → InRange P N L → (cs : List Turn) → (b : Book) × BookAfter P N L cs b

-- What it means. In the statements below cs is any list of calls on a fresh queue, b the book after
-- it, and the next call is a step of processor p.
abbrev pub step_reply : (P N L : ℕ) → List Turn → ℕ → Reply
step_reply P N L cs p = reply (after_all (fresh_queue P N L) cs) (step_by p)

-- the entry with ticket t was answered before this begin, and no earlier step marked it
pub record Left (b : Book) (begin t : ℕ) : Type 0 where
  pub written : (b.entry t).written ≡ true
  pub was_answered_before : (b.entry t).answered_at < begin
  pub unmarked : (b.entry t).marked ≡ false

-- e is what the book has under e's ticket
pub record Entered (b : Book) (e : Entry) : Type 0 where
  pub due : (b.entry e.ticket).due ≡ e.due
  pub item : (b.entry e.ticket).item ≡ e.item

-- What a Delete_Min marks had been answered when it began and was not marked before, and no other
-- such entry is due earlier; of those for one minute it is the one whose Insert began first.
pub record Earliest (b : Book) (p : ℕ) (e : Entry) : Type 0 where
  pub begin : ℕ
  pub opened : b.opened p ≡ walking begin
  pub left : Left b begin e.ticket
  pub entered : Entered b e
  pub first : (t : ℕ) → Left b begin t → earlier b t e.ticket ≡ false
  pub one_minute : (t : ℕ) → Left b begin t → (b.entry t).due ≡ e.due → e.ticket ≤ t

abbrev pub MarkedIsEarliest : Type 0
MarkedIsEarliest =
    (P N L : ℕ) → InRange P N L → (cs : List Turn) (b : Book) → BookAfter P N L cs b
    → (p begin : ℕ) (e : Entry) → b.opened p ≡ walking begin → step_reply P N L cs p
    ≡ answered (ans.Did deed.Marked e) → Earliest b p e

-- EMPTY: there is none.
pub record NoneLeft (b : Book) (p : ℕ) : Type 0 where
  pub begin : ℕ
  pub opened : b.opened p ≡ walking begin
  pub none : (t : ℕ) → Left b begin t → ⊥

abbrev pub EmptyIsTrue : Type 0
EmptyIsTrue =
    (P N L : ℕ) → InRange P N L → (cs : List Turn) (b : Book) → BookAfter P N L cs b
    → (p begin : ℕ) → b.opened p ≡ walking begin → step_reply P N L cs p
    ≡ answered ans.Empty → NoneLeft b p

-- Beside these, a Relaxed Delete_Min (02, W3). The Insert of what it marks began at an earlier call
-- than the mark, and may have answered or not; nobody has marked the entry; and of those that a
-- Delete_Min begun at the same time might take, none comes before it.
pub record RelaxedFirst (b : Book) (p : ℕ) (e : Entry) : Type 0 where
  pub begin : ℕ
  pub opened : b.opened p ≡ relaxing begin
  pub written : (b.entry e.ticket).written ≡ true
  pub begun : e.ticket < now b
  pub unmarked : (b.entry e.ticket).marked ≡ false
  pub entered : Entered b e
  pub none_earlier : (t : ℕ) → Left b begin t → earlier b t e.ticket ≡ false

abbrev pub RelaxedIsFirst : Type 0
RelaxedIsFirst =
    (P N L : ℕ) → InRange P N L → (cs : List Turn) (b : Book) → BookAfter P N L cs b
    → (p begin : ℕ) (e : Entry) → b.opened p ≡ relaxing begin → step_reply P N L cs p
    ≡ answered (ans.Did deed.Marked e) → RelaxedFirst b p e

-- Its EMPTY: there is none of these.
pub record NoneLeftRelaxed (b : Book) (p : ℕ) : Type 0 where
  pub begin : ℕ
  pub opened : b.opened p ≡ relaxing begin
  pub none : (t : ℕ) → Left b begin t → ⊥

abbrev pub RelaxedEmptyIsTrue : Type 0
RelaxedEmptyIsTrue =
    (P N L : ℕ) → InRange P N L → (cs : List Turn) (b : Book) → BookAfter P N L cs b
    → (p begin : ℕ) → b.opened p ≡ relaxing begin → step_reply P N L cs p
    ≡ answered ans.Empty → NoneLeftRelaxed b p

-- A Remove (02, W5) marks the entry of its key, which had been answered when it began and was not
-- marked before.
pub record MarkedForRemove (b : Book) (p : ℕ) (e : Entry) : Type 0 where
  pub begin : ℕ
  pub opened : b.opened p ≡ seeking (wanted_of e.due e.ticket) begin
  pub left : Left b begin e.ticket
  pub entered : Entered b e

abbrev pub RemoveMarksItsKey : Type 0
RemoveMarksItsKey =
    (P N L : ℕ) → InRange P N L → (cs : List Turn) (b : Book) → BookAfter P N L cs b
    → (p begin : ℕ) (w : Wanted) (e : Entry) → b.opened p ≡ seeking w begin → step_reply P N L cs p
    ≡ answered (ans.Did deed.Marked e) → MarkedForRemove b p e

-- Not there: this is told to a Remove alone, with its own key; and if the entry of that key had
-- been answered when it began, another step had marked it.
pub record Missed (b : Book) (p : ℕ) (w : Wanted) : Type 0 where
  pub begin : ℕ
  pub opened : b.opened p ≡ seeking w begin
  pub marked : (b.entry w.ticket).written ≡ true → (b.entry w.ticket).due ≡ w.due
      → (b.entry w.ticket).answered_at < begin → (b.entry w.ticket).marked ≡ true

abbrev pub NotThereIsTrue : Type 0
NotThereIsTrue =
    (P N L : ℕ) → InRange P N L → (cs : List Turn) (b : Book) → BookAfter P N L cs b
    → (p : ℕ) (w : Wanted) → step_reply P N L cs p ≡ answered (ans.NotThere w) → Missed b p w

-- And there are no others: whoever is told EMPTY has one of the first two open, and whoever marks
-- one of the three.
pub data WalkOpen (b : Book) (p : ℕ) : Type 0 where
  by_delete_min : (begin : ℕ) → b.opened p ≡ walking begin → WalkOpen b p
  relaxed : (begin : ℕ) → b.opened p ≡ relaxing begin → WalkOpen b p

pub data MarksOpen (b : Book) (p : ℕ) : Type 0 where
  walk : WalkOpen b p → MarksOpen b p
  remove : (w : Wanted) (begin : ℕ) → b.opened p ≡ seeking w begin → MarksOpen b p

abbrev pub MarkedByOneOfThree : Type 0
MarkedByOneOfThree =
    (P N L : ℕ) → InRange P N L → (cs : List Turn) (b : Book) → BookAfter P N L cs b
    → (p : ℕ) (e : Entry) → step_reply P N L cs p ≡ answered (ans.Did deed.Marked e) → MarksOpen b p

abbrev pub EmptyToAWalk : Type 0
EmptyToAWalk =
    (P N L : ℕ) → InRange P N L → (cs : List Turn) (b : Book) → BookAfter P N L cs b → (p : ℕ)
    → step_reply P N L cs p ≡ answered ans.Empty → WalkOpen b p

-- What is handed out is what this Delete_Min, of either kind, marked.
pub record Delivered (b : Book) (p : ℕ) (e : Entry) : Type 0 where
  pub opened : b.opened p ≡ unlinking jobs.Deliver e.ticket
  pub entered : Entered b e
  pub not_before : (b.entry e.ticket).handed_out ≡ false
  pub not_taken_back : (b.entry e.ticket).taken_back ≡ false

abbrev pub HandedOutIsMarked : Type 0
HandedOutIsMarked =
    (P N L : ℕ) → InRange P N L → (cs : List Turn) (b : Book) → BookAfter P N L cs b
    → (p : ℕ) (e : Entry) → step_reply P N L cs p
    ≡ answered (ans.Did deed.HandedOut e) → Delivered b p e

-- What is taken back is what this Remove marked (02, W5).
pub record TakenBack (b : Book) (p : ℕ) (e : Entry) : Type 0 where
  pub opened : b.opened p ≡ unlinking jobs.TakeBack e.ticket
  pub entered : Entered b e
  pub not_before : (b.entry e.ticket).taken_back ≡ false
  pub not_handed_out : (b.entry e.ticket).handed_out ≡ false

abbrev pub TakenBackIsMarked : Type 0
TakenBackIsMarked =
    (P N L : ℕ) → InRange P N L → (cs : List Turn) (b : Book) → BookAfter P N L cs b
    → (p : ℕ) (e : Entry) → step_reply P N L cs p
    ≡ answered (ans.Did deed.TakenBack e) → TakenBack b p e

-- Nothing is marked twice, and nothing is handed out twice: a step of p and, any calls later, one
-- of r
abbrev pub MarkedOnce : Type 0
MarkedOnce =
    (P N L : ℕ) → InRange P N L → (cs ds : List Turn) (p r : ℕ) (e f : Entry)
    → step_reply P N L cs p ≡ answered (ans.Did deed.Marked e) →
    step_reply P N L (cs ++ (step_by p ∷ ds)) r
    ≡ answered (ans.Did deed.Marked f) → e.ticket ≡ f.ticket → ⊥

abbrev pub HandedOutOnce : Type 0
HandedOutOnce =
    (P N L : ℕ) → InRange P N L → (cs ds : List Turn) (p r : ℕ) (e f : Entry)
    → step_reply P N L cs p ≡ answered (ans.Did deed.HandedOut e) →
    step_reply P N L (cs ++ (step_by p ∷ ds)) r
    ≡ answered (ans.Did deed.HandedOut f) → e.ticket ≡ f.ticket → ⊥

-- Nor is anything taken back twice, or both handed out and taken back, in either order.
abbrev pub NeverAfter : Deed → Deed → Type 0
NeverAfter c d =
    (P N L : ℕ) → InRange P N L → (cs ds : List Turn) (p r : ℕ) (e f : Entry)
    → step_reply P N L cs p ≡ answered (ans.Did c e) →
    step_reply P N L (cs ++ (step_by p ∷ ds)) r
    ≡ answered (ans.Did d f) → e.ticket ≡ f.ticket → ⊥

abbrev pub TakenBackOnce : Type 0
TakenBackOnce = NeverAfter deed.TakenBack deed.TakenBack

abbrev pub HandedOutNotTakenBack : Type 0
HandedOutNotTakenBack = NeverAfter deed.HandedOut deed.TakenBack

abbrev pub TakenBackNotHandedOut : Type 0
TakenBackNotHandedOut = NeverAfter deed.TakenBack deed.HandedOut

-- Backlog (02, W2). k is the number of the book's entries that are answered and not marked. With
-- the marked ones among the answered it makes up all that are answered, one for each Insert that
-- has answered; and every entry stands under a ticket from 1 to the book's count, so that no number
-- here leaves one out.
pub record Pending (b : Book) (k : ℕ) : Type 0 where
  pub entries : k ≡ how_many (pending_in b) b.count
  pub less :
      k + how_many (λ t. answered_in b t && (b.entry t).marked) b.count
      ≡ how_many (answered_in b) b.count
  pub all : (t : ℕ) → (b.entry t).written ≡ true → (1 ≤ t) × (t ≤ b.count)

-- What Backlog gives after any list of calls, and so at any place of a list. Demand 3 says it too:
-- the book agrees with no other count.
abbrev pub BacklogIsPending : Type 0
BacklogIsPending =
    (P N L : ℕ) → InRange P N L → (cs : List Turn) (b : Book) → BookAfter P N L cs b →
    (k : ℕ)
    × (reply (after_all (fresh_queue P N L) cs) backlog ≡ counted (Ok k))
    × Pending b k

-- Markers (02, W6). Processor p has the entry with ticket t marked, and not yet handed out or taken
-- back.
pub record Delivering (b : Book) (p t : ℕ) : Type 0 where
  pub job : Job
  pub opened : b.opened p ≡ unlinking job t
  pub marked : (b.entry t).marked ≡ true
  pub not_yet : is_gone (b.entry t) ≡ false

-- node x is marked by p exactly if the book has p with x's entry marked and neither of these yet
pub record MarkerIs (q : Queue) (b : Book) (x p : ℕ) : Type 0 where
  pub told : (node_at q x).mark ≡ suc p → Delivering b p (node_at q x).ticket
  pub back : (job : Job) → b.opened p ≡ unlinking job (node_at q x).ticket
      → (node_at q x).mark ≡ suc p

-- every node in use, of every record reached
abbrev pub MarkerDelivers : Type 0
MarkerDelivers =
    (P N L : ℕ) → InRange P N L → (cs : List Turn) (b : Book) → BookAfter P N L cs b → (x p : ℕ)
    → 1 ≤ x → x ≤ N → in_use_at (after_all (fresh_queue P N L) cs) x ≡ true →
    MarkerIs (after_all (fresh_queue P N L) cs) b x p

-- Every record reached passes check 21, so that 21 is never the answer in a run.
abbrev pub ReachedIsValid : Type 0
ReachedIsValid =
    (P N L : ℕ) → InRange P N L → (cs : List Turn) → valid (after_all (fresh_queue P N L) cs) ≡ true

-- No call changes a slot past P, N + 1 or L, on any record: slot k of a node's or a processor's
-- array is level k + 1.
pub record SameOutside (q r : Queue) : Type 0 where
  pub processor_count : r.processor_count ≡ q.processor_count
  pub node_count : r.node_count ≡ q.node_count
  pub level_count : r.level_count ≡ q.level_count
  pub nodes : (x : ℕ) → q.node_count + 1 < x → node_at r x ≡ node_at q x
  pub processors : (p : ℕ) → q.processor_count ≤ p → processor_at r p ≡ processor_at q p
  pub forward : (x k : ℕ) → q.level_count ≤ k → get_or (node_at r x).forward k 0
      ≡ get_or (node_at q x).forward k 0
  pub level_locks : (x k : ℕ) → q.level_count ≤ k → get_or (node_at r x).level_locks k 0
      ≡ get_or (node_at q x).level_locks k 0
  pub saved : (p k : ℕ) → q.level_count ≤ k → get_or (processor_at r p).saved k 0
      ≡ get_or (processor_at q p).saved k 0

abbrev pub OutsideIsUntouched : Type 0
OutsideIsUntouched = (q : Queue) (cs : List Turn) → SameOutside q (after_all q cs)

-- The locks of a reached record: whoever's stage says that it holds a lock is the record's holder,
-- and a held lock is held by a processor whose stage says so.
pub record LocksAgree (q : Queue) : Type 0 where
  pub claimed_is_held : (p : ℕ) (l : Lock) → Claims (processor_at q p) l → holder_of q l ≡ suc p
  pub held_is_claimed : (p n i : ℕ) → 1 ≤ i → holder_of q (level n i) ≡ suc p
      → Claims (processor_at q p) (level n i)
  pub node_held_is_claimed : (p n : ℕ) → holder_of q (node n) ≡ suc p
      → Claims (processor_at q p) (node n)

abbrev pub ReachedLocksAgree : Type 0
ReachedLocksAgree =
    (P N L : ℕ) → InRange P N L → (cs : List Turn) → LocksAgree (after_all (fresh_queue P N L) cs)

-- Waits (02, W1). The processor h that a waiting step of p names: the lock that the step asks for
-- is h's in the record, h's stage says that it holds this very lock, h is one of the queue's
-- processors and busy, so that the book has an operation of it open, and it is not p.
pub record WaitedFor (q : Queue) (b : Book) (p h : ℕ) : Type 0 where
  pub holder : Holder q p h
  pub says : Claims (processor_at q h) holder.lock
  pub there : h < q.processor_count
  pub busy : idle_at q h ≡ false
  pub begun : b.opened h ≡ nothing → ⊥
  pub other : h ≡ p → ⊥

abbrev pub WaitsForABusyHolder : Type 0
WaitsForABusyHolder =
    (P N L : ℕ) → InRange P N L → (cs : List Turn) (b : Book) → BookAfter P N L cs b → (p h : ℕ)
    → step_reply P N L cs p ≡ answered (ans.Waits h) →
    WaitedFor (after_all (fresh_queue P N L) cs) b p h
