-- Items. A record carries the items of its entries, and no rule looks at them: whatever numbers
-- stand for them, 0 included, check 21 says the same and every call does the same, with the new
-- items in its answer. Only the item that an Insert is given is looked at, by 35 and 39 (document
-- 02, W10).
use Rattle.std.specs.Prelude.{ℕ, ◌≤◌, ◌<◌, ◌≡◌, cond, map, eqb}
use Rattle.record.specs.declared.nodes.Node.{Node}
use Rattle.record.specs.declared.queues.Queue.{Queue}
use Rattle.record.specs.Limits.{max_number}
use Rattle.record_check.specs.Check.{valid}
use Rattle.rules.specs.declared.answers.Answer.{Answer}
use Rattle.rules.specs.declared.answers.Answer.TheVariants as ans
use Rattle.rules.specs.declared.answers.Entry.{Entry}
use Rattle.rules.specs.declared.calls.Call.{Call}
use Rattle.rules.specs.declared.calls.Call.TheVariants as call
use Rattle.rules.specs.Runs.{Turn, calls, delete_min, relaxed, remove, step_by, backlog}
use Rattle.rules.specs.Runs.{markers, after, Reply, answered, counted, listed, reply}

-- f gives new numbers to items: what was in its range and nothing else comes to be in it. 0 stays,
-- which nodes hold that no entry has used; any other number may become 0.
pub record Renaming (f : ℕ → ℕ) : Type 0 where
  pub zero_stays : f 0 ≡ 0
  pub inside : (n : ℕ) → n ≤ max_number → f n ≤ max_number
  pub outside : (n : ℕ) → max_number < n → max_number < f n

abbrev pub renamed_node : (ℕ → ℕ) → Node → Node
renamed_node f n = record {
  forward = n.forward;
  level_locks = n.level_locks;
  node_lock = n.node_lock;
  mark = n.mark;
  stamp = n.stamp;
  due = n.due;
  ticket = n.ticket;
  item = f n.item;
  height = n.height;
  state = n.state;
}

abbrev pub renamed : (ℕ → ℕ) → Queue → Queue
renamed f q = record {
  processor_count = q.processor_count;
  node_count = q.node_count;
  level_count = q.level_count;
  clock = q.clock;
  nodes = map (renamed_node f) q.nodes;
  processors = q.processors;
}

abbrev pub renamed_entry : (ℕ → ℕ) → Entry → Entry
renamed_entry f e = record { due = e.due; item = f e.item; ticket = e.ticket }

abbrev pub renamed_answer : (ℕ → ℕ) → Answer → Answer
renamed_answer f (ans.Refused n) = ans.Refused n
renamed_answer f (ans.Began t) = ans.Began t
renamed_answer f ans.Moved = ans.Moved
renamed_answer f (ans.Waits h) = ans.Waits h
renamed_answer f ans.Empty = ans.Empty
renamed_answer f (ans.NotThere w) = ans.NotThere w
renamed_answer f (ans.Did d e) = ans.Did d (renamed_entry f e)

abbrev pub renamed_reply : (ℕ → ℕ) → Reply → Reply
renamed_reply f (answered a) = answered (renamed_answer f a)
renamed_reply f (counted c) = counted c
renamed_reply f (listed k area) = listed k area

abbrev pub renamed_call : (ℕ → ℕ) → Call → Call
renamed_call f (call.Insert p due item height) = call.Insert p due (f item) height
renamed_call f (call.DeleteMin p) = call.DeleteMin p
renamed_call f (call.Relaxed p) = call.Relaxed p
renamed_call f (call.Remove p due ticket) = call.Remove p due ticket
renamed_call f (call.Step p) = call.Step p

abbrev pub renamed_turn : (ℕ → ℕ) → Turn → Turn
renamed_turn f (calls c) = calls (renamed_call f c)
renamed_turn f backlog = backlog
renamed_turn f (markers area) = markers area

-- the item that a call files; 0 if it files none
abbrev pub item_of : Call → ℕ
item_of (call.Insert p due item height) = item
item_of (call.DeleteMin p) = 0
item_of (call.Relaxed p) = 0
item_of (call.Remove p due ticket) = 0
item_of (call.Step p) = 0

abbrev pub item_in : Turn → ℕ
item_in (calls c) = item_of c
item_in backlog = 0
item_in (markers area) = 0

-- check 21 takes a record with the new items exactly if it takes the one with the old
abbrev pub CheckSeesNoItem : Type 0
CheckSeesNoItem = (f : ℕ → ℕ) → Renaming f → (q : Queue) → valid (renamed f q) ≡ valid q

-- what a call leaves and gives back, on any record
pub record SameButItems (f : ℕ → ℕ) (q : Queue) (c : Turn) : Type 0 where
  pub left : after (renamed f q) (renamed_turn f c) ≡ renamed f (after q c)
  pub given : reply (renamed f q) (renamed_turn f c) ≡ renamed_reply f (reply q c)

-- every call; an Insert's item does not become 0, since 39 is for that
abbrev pub NoRuleSeesAnItem : Type 0
NoRuleSeesAnItem =
    (f : ℕ → ℕ) → Renaming f → (q : Queue) (c : Turn) → (f (item_in c) ≡ 0 → item_in c ≡ 0) →
    SameButItems f q c

-- 0 in the place of the item k
abbrev pub zero_for : ℕ → ℕ → ℕ
zero_for k n = cond (eqb n k) 0 n

-- A record with item 0 where another has k is taken by check 21 where that one is, its Inserts are
-- answered and its entries marked, handed out and taken back at the same steps, with 0 for k.
pub record GoesOnWithZero (k : ℕ) (q : Queue) : Type 0 where
  pub taken : valid (renamed (zero_for k) q) ≡ valid q
  pub begun : (p : ℕ) → SameButItems (zero_for k) q (delete_min p)
  pub begun_relaxed : (p : ℕ) → SameButItems (zero_for k) q (relaxed p)
  pub begun_remove : (p due ticket : ℕ) → SameButItems (zero_for k) q (remove p due ticket)
  pub stepped : (p : ℕ) → SameButItems (zero_for k) q (step_by p)

abbrev pub ItemZeroGoesOn : Type 0
ItemZeroGoesOn = (k : ℕ) → k ≤ max_number → (q : Queue) → GoesOnWithZero k q
