-- The calls on any record and with any numbers: the refusals in the order of document 01's table,
-- and what a call does that is not refused.
use Rattle.std.specs.Prelude.{ℕ, ◌+◌, ◌-◌, Bool, false, cond, ◌||◌, ltb, leb, eqb, Option, Some, None}
use Rattle.record.specs.declared.refusals.Refusal.{Refusal}
use Rattle.record.specs.declared.refusals.Refusal.TheVariants as refusal
use Rattle.record.specs.declared.stages.Place.{Place}
use Rattle.record.specs.declared.stages.Insert.TheVariants as ins
use Rattle.record.specs.declared.stages.Delete.TheVariants as del
use Rattle.record.specs.declared.stages.Relaxed.TheVariants as rlx
use Rattle.record.specs.declared.stages.Wanted.{Wanted}
use Rattle.record.specs.declared.stages.Remove.TheVariants as rmv
use Rattle.record.specs.declared.stages.Stage.{Stage}
use Rattle.record.specs.declared.stages.Stage.TheVariants as stage
use Rattle.record.specs.declared.nodes.Node.{Node}
use Rattle.record.specs.declared.queues.Processor.{Processor}
use Rattle.record.specs.declared.queues.Queue.{Queue}
use Rattle.record_check.specs.Check.{valid}
use Rattle.record.specs.declared.keys.Key.{Key}
use Rattle.record.specs.Keys.{entry_key, key_before, key_same}
use Rattle.record.specs.Limits.{max_number}
use Rattle.record_check.specs.Making.{outside}
use Rattle.record.specs.Nodes.{forward_at, lock_at, key_of, is_marked, stamped_before}
use Rattle.record.specs.Queues.{node_at, processor_at, saved_at}
use Rattle.record.specs.Stages.{place, wanted_of, row_of, is_idle}
use Rattle.rules.specs.declared.answers.Answer.TheVariants as ans
use Rattle.rules.specs.declared.answers.Entry.{Entry}
use Rattle.rules.specs.declared.answers.Outcome.{Outcome}
use Rattle.rules.specs.declared.calls.Call.{Call}
use Rattle.rules.specs.declared.calls.Call.TheVariants as call
use Rattle.rules.specs.declared.decisions.Effect.TheVariants as eff
use Rattle.rules.specs.declared.decisions.ProcessorChange.TheVariants as change
use Rattle.rules.specs.declared.decisions.Decision.{Decision}
use Rattle.rules.specs.declared.decisions.StepView.{StepView}
use Rattle.rules.specs.Answers.{refused}
use Rattle.rules.specs.Choice.{chosen}
use Rattle.rules.specs.Decide.{decide}
use Rattle.rules.specs.Effects.{accepted}

-- the place that a step reads at: the stage's own, but a walk reads at level 1 (01, W1)
abbrev pub reading_place : Stage → Place
reading_place g = cond (row_of g).walks (place (row_of g).place.node 1) (row_of g).place

-- the operation's key: until a Remove has marked, the one that it carries; elsewhere the own
-- node's, which is k, at every stage that reads it
abbrev pub key_for : Stage → Key → Key
key_for stage.Idle k = k
key_for (stage.Insert i) k = k
key_for (stage.Delete d) k = k
key_for (stage.Relaxed x) k = k
key_for (stage.Remove w x) k = entry_key w.due w.ticket
key_for (stage.Removal job r) k = k

-- whether k is the key that a Remove carries; at other stages nothing asks
abbrev pub at_key : Stage → Key → Bool
at_key stage.Idle k = false
at_key (stage.Insert i) k = false
at_key (stage.Delete d) k = false
at_key (stage.Relaxed x) k = false
at_key (stage.Remove w x) k = key_same k (entry_key w.due w.ticket)
at_key (stage.Removal job r) k = false

abbrev pub entry_of : Node → Entry
entry_of n = record { due = n.due; item = n.item; ticket = n.ticket }

-- the node after the place at its level
abbrev pub next_of : Queue → Place → ℕ
next_of q a = forward_at (node_at q a.node) a.level

-- what a step of the processor c at the place a reads, from three nodes: the place's (here), the
-- operation's own, and the one after the place (ahead, whose number is next)
abbrev pub step_view_from : Node → Node → Node → ℕ → Processor → Place → ℕ → ℕ → StepView
step_view_from here own ahead next c a nodes levels = record {
  own = c.own;
  height = own.height;
  own_node_lock = own.node_lock;
  next = next;
  next_before_key =
      key_before (key_of nodes next ahead) (key_for c.stage (key_of nodes c.own own));
  next_has_key = at_key c.stage (key_of nodes next ahead);
  next_is_tail = eqb next (nodes + 1);
  place_lock = lock_at here a.level;
  own_next = forward_at own a.level;
  own_lock = lock_at own a.level;
  level_count = levels;
  marked = is_marked here.mark;
  stamped = stamped_before here.stamp c.begin;
  saved_above = saved_at c (a.level + 1);
  saved_below = saved_at c (a.level - 1);
  saved_at_height = saved_at c own.height;
  place_entry = entry_of here;
  own_entry = entry_of own;
}

abbrev pub step_view_of : Queue → Processor → Place → StepView
step_view_of q c a =
    step_view_from (node_at q a.node) (node_at q c.own) (node_at q (next_of q a)) (next_of q a) c a
    q.node_count q.level_count

abbrev pub step_decision : Queue → Processor → Decision
step_decision q c = decide (step_view_of q c (reading_place c.stage)) c.stage

-- what the begin of an Insert decides at the time t, on so many levels: node x is taken, and the
-- Search begins at the head, on the highest level
abbrev pub insert_begins : ℕ → ℕ → ℕ → ℕ → ℕ → ℕ → Decision
insert_begins levels t x due item height = record {
  effect = eff.Fill x due item height;
  stage = stage.Insert (ins.Search (place 0 levels));
  own = x;
  change = change.Begin;
  answer = ans.Began t;
}

-- an operation that takes no node begins with this stage
abbrev pub walk_begins : ℕ → Stage → Decision
walk_begins t g = record {
  effect = eff.Keep;
  stage = g;
  own = 0;
  change = change.Begin;
  answer = ans.Began t;
}

-- a Delete_Min and a Relaxed one (02, W3) walk from the head
abbrev pub delete_begins : ℕ → Decision
delete_begins t = walk_begins t (stage.Delete (del.ReadNext (place 0 1)))

abbrev pub relaxed_begins : ℕ → Decision
relaxed_begins t = walk_begins t (stage.Relaxed (rlx.ReadNext (place 0 1)))

-- a Remove (02, W5) begins its Search as an Insert does
abbrev pub remove_begins : ℕ → ℕ → Wanted → Decision
remove_begins levels t w = walk_begins t (stage.Remove w (rmv.Search (place 0 levels)))

abbrev pub insert_decision : Queue → ℕ → ℕ → ℕ → ℕ → Decision
insert_decision q x due item height = insert_begins q.level_count (q.clock + 1) x due item height

abbrev pub delete_decision : Queue → Decision
delete_decision q = delete_begins (q.clock + 1)

abbrev pub relaxed_decision : Queue → Decision
relaxed_decision q = relaxed_begins (q.clock + 1)

abbrev pub remove_decision : Queue → Wanted → Decision
remove_decision q w = remove_begins q.level_count (q.clock + 1) w

-- the node that a call takes: an Insert's, 0 if there is none for it; of the other calls 0
abbrev pub taken : Queue → Call → ℕ
taken q (call.Insert p due item height) = chosen q
taken q (call.DeleteMin p) = 0
taken q (call.Relaxed p) = 0
taken q (call.Remove p due ticket) = 0
taken q (call.Step p) = 0

-- the decision of a call that is not refused
abbrev pub decision_of : Queue → Call → Decision
decision_of q (call.Insert p due item height) = insert_decision q (chosen q) due item height
decision_of q (call.DeleteMin p) = delete_decision q
decision_of q (call.Relaxed p) = relaxed_decision q
decision_of q (call.Remove p due ticket) = remove_decision q (wanted_of due ticket)
decision_of q (call.Step p) = step_decision q (processor_at q p)

abbrev pub processor_of : Call → ℕ
processor_of (call.Insert p due item height) = p
processor_of (call.DeleteMin p) = p
processor_of (call.Relaxed p) = p
processor_of (call.Remove p due ticket) = p
processor_of (call.Step p) = p

-- 33 is for a begin of a busy processor, 34 for a step of an idle one
abbrev pub turn_refusal : Call → Bool → Option Refusal
turn_refusal (call.Insert p due item height) idle = cond idle None (Some refusal.Busy)
turn_refusal (call.DeleteMin p) idle = cond idle None (Some refusal.Busy)
turn_refusal (call.Relaxed p) idle = cond idle None (Some refusal.Busy)
turn_refusal (call.Remove p due ticket) idle = cond idle None (Some refusal.Busy)
turn_refusal (call.Step p) idle = cond idle (Some refusal.Idle) None

-- 35, 36 and, directly after 35, document 02's 39 (W10): an Insert's numbers, on l levels
abbrev pub insert_refusal : ℕ → ℕ → ℕ → ℕ → Option Refusal
insert_refusal due item height l =
    cond (ltb max_number due || ltb max_number item) (Some refusal.TooLarge)
    (cond (eqb item 0) (Some refusal.NoItem)
    (cond (outside height l) (Some refusal.Height) None))

-- 38, in the place of 35 (02, W5): the key of a Remove
abbrev pub key_refusal : ℕ → ℕ → Option Refusal
key_refusal due ticket =
    cond (ltb max_number due || outside ticket max_number) (Some refusal.Key) None

abbrev pub numbers_refusal : Call → ℕ → Option Refusal
numbers_refusal (call.Insert p due item height) l = insert_refusal due item height l
numbers_refusal (call.DeleteMin p) l = None
numbers_refusal (call.Relaxed p) l = None
numbers_refusal (call.Remove p due ticket) l = key_refusal due ticket
numbers_refusal (call.Step p) l = None

-- 37 is for an Insert that finds no node; x is the one that it would take, or 0
abbrev pub node_refusal : Call → ℕ → Option Refusal
node_refusal (call.Insert p due item height) x = cond (eqb x 0) (Some refusal.NoNode) None
node_refusal (call.DeleteMin p) x = None
node_refusal (call.Relaxed p) x = None
node_refusal (call.Remove p due ticket) x = None
node_refusal (call.Step p) x = None

-- the first of two refusals, if there is one
abbrev pub first_of : Option Refusal → Option Refusal → Option Refusal
first_of (Some r) next = Some r
first_of None next = next

-- what a call is refused with before a node is looked for, by the clock, P, L and whether its
-- processor is idle, if it is (01, refusals: from 31 on)
abbrev pub refusal_by : Call → ℕ → ℕ → ℕ → Bool → Option Refusal
refusal_by c clock processors levels idle =
    cond (leb max_number clock) (Some refusal.ClockSpent)
    (cond (leb processors (processor_of c)) (Some refusal.NoProcessor)
    (first_of (turn_refusal c idle) (numbers_refusal c levels)))

abbrev pub idle_at : Queue → ℕ → Bool
idle_at q p = is_idle (processor_at q p).stage

abbrev pub refusal_of : Queue → Call → Option Refusal
refusal_of q c =
    first_of (refusal_by c q.clock q.processor_count q.level_count (idle_at q (processor_of c)))
    (node_refusal c (taken q c))

-- what becomes of a call with this refusal, or with none
abbrev pub outcome_by : Queue → Call → Option Refusal → Outcome
outcome_by q c None = accepted q (processor_of c) (decision_of q c)
outcome_by q c (Some r) = refused q r

-- a call on a record that passes check 21, and on any
abbrev pub called_valid : Queue → Call → Outcome
called_valid q c = outcome_by q c (refusal_of q c)

abbrev pub called : Queue → Call → Outcome
called q c = cond (valid q) (called_valid q c) (refused q refusal.Invalid)

-- each by its name
abbrev pub begin_insert : Queue → ℕ → ℕ → ℕ → ℕ → Outcome
begin_insert q p due item height = called q (call.Insert p due item height)

abbrev pub begin_delete_min : Queue → ℕ → Outcome
begin_delete_min q p = called q (call.DeleteMin p)

abbrev pub begin_relaxed : Queue → ℕ → Outcome
begin_relaxed q p = called q (call.Relaxed p)

abbrev pub begin_remove : Queue → ℕ → ℕ → ℕ → Outcome
begin_remove q p due ticket = called q (call.Remove p due ticket)

abbrev pub step : Queue → ℕ → Outcome
step q p = called q (call.Step p)
