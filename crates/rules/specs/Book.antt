-- The book (01, the book): which answers to a list of calls are right. It is fed the calls and what
-- they give back, and never sees the record.
use Rattle.std.specs.Prelude.{ℕ, zero, suc, ◌+◌, ◌-◌, ◌*◌, Bool, true, false, cond, ◌&&◌, ◌||◌, not, List, [], ◌∷◌, ltb, eqb, get_or, Result, Ok, Err}
use Rattle.laws.specs.Every.{every_below}
use Rattle.laws.specs.HowMany.{how_many}
use Rattle.laws.specs.Update.{changed_at}
use Rattle.record.specs.declared.refusals.Refusal.{Refusal}
use Rattle.record.specs.declared.queues.Queue.{Queue}
use Rattle.record.specs.declared.stages.Job.{Job}
use Rattle.record.specs.declared.stages.Job.TheVariants as jobs
use Rattle.record.specs.declared.stages.Wanted.{Wanted}
use Rattle.record.specs.Limits.{max_number, max_processors}
use Rattle.record.specs.Keys.{entry_key, key_before}
use Rattle.record.specs.Stages.{wanted_of}
use Rattle.rules.specs.declared.answers.Answer.{Answer}
use Rattle.rules.specs.declared.answers.Answer.TheVariants as ans
use Rattle.rules.specs.declared.answers.Deed.{Deed}
use Rattle.rules.specs.declared.answers.Deed.TheVariants as deed
use Rattle.rules.specs.declared.answers.Entry.{Entry}
use Rattle.rules.specs.declared.calls.Call.{Call}
use Rattle.rules.specs.declared.calls.Call.TheVariants as call
use Rattle.rules.specs.Runs.{Turn, calls, backlog, markers, after}
use Rattle.rules.specs.Runs.{Reply, answered, counted, listed, reply}

-- later than every clock: the time of an answer that has not come
abbrev pub never : ℕ
never = max_number + 1

-- an entry of the book
pub record BookEntry : Type 0 where
  pub written : Bool
  pub due : ℕ
  pub item : ℕ
  pub answered_at : ℕ
  pub marked : Bool
  pub handed_out : Bool
  pub taken_back : Bool

-- what a processor has open: nothing, the Insert of the entry with this ticket, a Delete_Min begun
-- at this time with nothing marked, a Relaxed one (02, W3) begun then with nothing marked, a Remove
-- of this key (02, W5) begun then with nothing marked, or the operation that marked the entry with
-- this ticket: a Delete_Min of either kind, which is to deliver it, or a Remove, to take it back
pub data Open : Type 0 where
  nothing : Open
  inserting : ℕ → Open
  walking : ℕ → Open
  relaxing : ℕ → Open
  seeking : Wanted → ℕ → Open
  unlinking : Job → ℕ → Open

-- the entries stand under their tickets
pub record Book : Type 0 where
  pub count : ℕ
  pub entry : ℕ → BookEntry
  pub opened : ℕ → Open

abbrev pub unwritten : BookEntry
unwritten = record {
  written = false;
  due = 0;
  item = 0;
  answered_at = never;
  marked = false;
  handed_out = false;
  taken_back = false;
}

-- before the first call
abbrev pub empty_book : Book
empty_book = record { count = 0; entry = λ t. unwritten; opened = λ p. nothing }

-- the book after an answer, or that the answer is not right
pub data Verdict : Type 0 where
  agrees : Book → Verdict
  differs : Verdict

abbrev pub agrees_if : Bool → Book → Verdict
agrees_if right b = cond right (agrees b) differs

-- the time of a call that changes the book
abbrev pub now : Book → ℕ
now b = b.count + 1

-- the count goes up, and the entries and what processor p has open become these
abbrev pub after_call : Book → (ℕ → BookEntry) → ℕ → Open → Book
after_call b entry p o = record { count = now b; entry = entry; opened = changed_at b.opened p o }

-- the entry t was answered before this time
abbrev pub answered_before : Book → ℕ → ℕ → Bool
answered_before b time t = (b.entry t).written && ltb (b.entry t).answered_at time

-- which entries a Delete_Min that began at a time may mark, and which of two comes first
abbrev pub candidate : Book → ℕ → ℕ → Bool
candidate b begin t = answered_before b begin t && not (b.entry t).marked

abbrev pub earlier : Book → ℕ → ℕ → Bool
earlier b t u = key_before (entry_key (b.entry t).due t) (entry_key (b.entry u).due u)

-- of the candidate t and the best so far, 0 where there is none, the earlier
abbrev pub better : Book → ℕ → ℕ → ℕ → ℕ
better b begin t best = cond (candidate b begin t && (eqb best 0 || earlier b t best)) t best

-- the pick among the tickets 1 to n, or 0
unfoldable pub pick_to : Book → ℕ → ℕ → ℕ
pick_to b begin zero = 0
pick_to b begin (suc n) = better b begin (suc n) (pick_to b begin n)

abbrev pub pick : Book → ℕ → ℕ
pick b begin = pick_to b begin b.count

-- which entries a Relaxed Delete_Min that began at a time may mark (02, W3): any whose Insert has
-- begun and that no step has marked, unless a candidate is earlier, that is, unless the pick is
abbrev pub relaxed_may : Book → ℕ → ℕ → Bool
relaxed_may b begin t =
    (b.entry t).written && (not (b.entry t).marked
    && (eqb (pick b begin) 0 || not (earlier b (pick b begin) t)))

-- the entry that a Remove of this key, begun at this time, may mark (02, W5) is there
abbrev pub there : Book → Wanted → ℕ → Bool
there b w begin = candidate b begin w.ticket && eqb (b.entry w.ticket).due w.due

-- the entry t is answered, at whatever time; and it is answered and not marked
abbrev pub answered_in : Book → ℕ → Bool
answered_in b t = answered_before b never t

abbrev pub pending_in : Book → ℕ → Bool
pending_in b t = candidate b never t

-- the answer gives the due, item and ticket of the entry t
abbrev pub gives : Book → Entry → ℕ → Bool
gives b e t =
    eqb e.due (b.entry t).due && (eqb e.item (b.entry t).item && eqb e.ticket t)

abbrev pub with_answer : BookEntry → ℕ → BookEntry
with_answer l t = record {
  written = l.written;
  due = l.due;
  item = l.item;
  answered_at = t;
  marked = l.marked;
  handed_out = l.handed_out;
  taken_back = l.taken_back;
}

abbrev pub with_marked : BookEntry → BookEntry
with_marked l = record {
  written = l.written;
  due = l.due;
  item = l.item;
  answered_at = l.answered_at;
  marked = true;
  handed_out = l.handed_out;
  taken_back = l.taken_back;
}

abbrev pub with_hand_out : BookEntry → BookEntry
with_hand_out l = record {
  written = l.written;
  due = l.due;
  item = l.item;
  answered_at = l.answered_at;
  marked = l.marked;
  handed_out = true;
  taken_back = l.taken_back;
}

abbrev pub with_taken_back : BookEntry → BookEntry
with_taken_back l = record {
  written = l.written;
  due = l.due;
  item = l.item;
  answered_at = l.answered_at;
  marked = l.marked;
  handed_out = l.handed_out;
  taken_back = true;
}

-- by what the entry was marked for: handed out or taken back; and that it is one or the other
abbrev pub with_done : Job → BookEntry → BookEntry
with_done jobs.Deliver l = with_hand_out l
with_done jobs.TakeBack l = with_taken_back l

abbrev pub is_gone : BookEntry → Bool
is_gone l = l.handed_out || l.taken_back

-- an entry that an Insert has just begun to file
abbrev pub just_filed : ℕ → ℕ → BookEntry
just_filed due item = record {
  written = true;
  due = due;
  item = item;
  answered_at = never;
  marked = false;
  handed_out = false;
  taken_back = false;
}

-- what is right by what a processor has open: with anything else open the answer is not
abbrev pub if_nothing : Verdict → Open → Verdict
if_nothing v nothing = v
if_nothing v (inserting t) = differs
if_nothing v (walking t) = differs
if_nothing v (relaxing t) = differs
if_nothing v (seeking w t) = differs
if_nothing v (unlinking job t) = differs

abbrev pub if_inserting : (ℕ → Verdict) → Open → Verdict
if_inserting v nothing = differs
if_inserting v (inserting t) = v t
if_inserting v (walking t) = differs
if_inserting v (relaxing t) = differs
if_inserting v (seeking w t) = differs
if_inserting v (unlinking job t) = differs

-- of one that has marked nothing: a Delete_Min, a Relaxed one, a Remove
abbrev pub if_unmarked :
    (ℕ → Verdict) → (ℕ → Verdict) → (Wanted → ℕ → Verdict) → Open → Verdict
if_unmarked d x r nothing = differs
if_unmarked d x r (inserting t) = differs
if_unmarked d x r (walking t) = d t
if_unmarked d x r (relaxing t) = x t
if_unmarked d x r (seeking w t) = r w t
if_unmarked d x r (unlinking job t) = differs

-- of one that has marked, to deliver and to take back
abbrev pub if_unlinking : (ℕ → Verdict) → (ℕ → Verdict) → Open → Verdict
if_unlinking d r nothing = differs
if_unlinking d r (inserting t) = differs
if_unlinking d r (walking t) = differs
if_unlinking d r (relaxing t) = differs
if_unlinking d r (seeking w t) = differs
if_unlinking d r (unlinking jobs.Deliver t) = d t
if_unlinking d r (unlinking jobs.TakeBack t) = r t

-- no answer of this kind is right
abbrev pub wrong : {A : Type 0} → A → Verdict
wrong x = differs

-- the begin of an operation at the time t, where nothing is open and the time is right: the entries
-- become these, and this is open
abbrev pub begins : Book → ℕ → ℕ → (ℕ → BookEntry) → Open → Open → Verdict
begins b p t entry opened o = if_nothing (agrees_if (eqb t (now b)) (after_call b entry p opened)) o

-- of an Insert: its entry stands under this time, which is its ticket
abbrev pub begins_insert : Book → ℕ → ℕ → ℕ → ℕ → Open → Verdict
begins_insert b p due item t o =
    begins b p t (changed_at b.entry t (just_filed due item)) (inserting t) o

-- of a Delete_Min, and of a Relaxed one
abbrev pub begins_delete : Book → ℕ → ℕ → Open → Verdict
begins_delete b p t o = begins b p t b.entry (walking t) o

abbrev pub begins_relaxed : Book → ℕ → ℕ → Open → Verdict
begins_relaxed b p t o = begins b p t b.entry (relaxing t) o

-- of a Remove
abbrev pub begins_remove : Book → ℕ → Wanted → ℕ → Open → Verdict
begins_remove b p w t o = begins b p t b.entry (seeking w t) o

-- the answer of the Insert that is open: it tells what the entry holds, and ends the Insert
abbrev pub inserted : Book → ℕ → Entry → Open → Verdict
inserted b p e o =
    if_inserting (λ t. agrees_if (gives b e t)
    (after_call b (changed_at b.entry t (with_answer (b.entry t) (now b))) p nothing)) o

-- the entry t is marked, by processor p, for this job
abbrev pub after_mark : Book → Job → ℕ → ℕ → Book
after_mark b job p t =
    after_call b (changed_at b.entry t (with_marked (b.entry t))) p (unlinking job t)

-- a mark by a Delete_Min that has none yet: it tells what the pick holds, and there has to be one
abbrev pub marks_pick : Book → ℕ → Entry → ℕ → Verdict
marks_pick b p e begin =
    agrees_if (ltb 0 (pick b begin) && gives b e (pick b begin))
    (after_mark b jobs.Deliver p (pick b begin))

-- and by a Relaxed one: it tells what an entry holds that it may mark
abbrev pub marks_relaxed : Book → ℕ → Entry → ℕ → Verdict
marks_relaxed b p e begin =
    agrees_if (relaxed_may b begin e.ticket && gives b e e.ticket)
    (after_mark b jobs.Deliver p e.ticket)

-- and by a Remove: it tells what the entry of its key holds, and that has to be there
abbrev pub marks_wanted : Book → ℕ → Entry → Wanted → ℕ → Verdict
marks_wanted b p e w begin =
    agrees_if (there b w begin && gives b e w.ticket) (after_mark b jobs.TakeBack p w.ticket)

abbrev pub marks : Book → ℕ → Entry → Open → Verdict
marks b p e o = if_unmarked (marks_pick b p e) (marks_relaxed b p e) (marks_wanted b p e) o

-- EMPTY, of a Delete_Min of either kind, where there is no pick: it ends the operation
abbrev pub empty_at : Book → ℕ → ℕ → Verdict
empty_at b p begin = agrees_if (eqb (pick b begin) 0) (after_call b b.entry p nothing)

abbrev pub empties : Book → ℕ → Open → Verdict
empties b p o = if_unmarked (empty_at b p) (empty_at b p) (λ w. wrong) o

-- not there, of a Remove: it tells its key, no entry of that key is there for it, and it ends
abbrev pub misses_at : Book → ℕ → Wanted → Wanted → ℕ → Verdict
misses_at b p k w begin =
    agrees_if (not (there b w begin) && (eqb k.due w.due && eqb k.ticket w.ticket))
    (after_call b b.entry p nothing)

abbrev pub misses : Book → ℕ → Wanted → Open → Verdict
misses b p k o = if_unmarked wrong wrong (misses_at b p k) o

-- the end of an operation that marked the entry t, if this was neither handed out nor taken back
-- already: it tells what the entry holds
abbrev pub ends : Book → Job → ℕ → Entry → ℕ → Verdict
ends b job p e t =
    agrees_if (gives b e t && not (is_gone (b.entry t)))
    (after_call b (changed_at b.entry t (with_done job (b.entry t))) p nothing)

-- the hand-out by a Delete_Min, and by a Remove that the entry is taken back
abbrev pub hands_out : Book → ℕ → Entry → Open → Verdict
hands_out b p e o = if_unlinking (ends b jobs.Deliver p e) wrong o

abbrev pub takes_back : Book → ℕ → Entry → Open → Verdict
takes_back b p e o = if_unlinking wrong (ends b jobs.TakeBack p e) o

-- a move or a wait, of a processor that has something open: the count goes up, and that is all
abbrev pub ticked : Book → Book
ticked b = record { count = now b; entry = b.entry; opened = b.opened }

abbrev pub moves : Book → Open → Verdict
moves b nothing = differs
moves b (inserting t) = agrees (ticked b)
moves b (walking t) = agrees (ticked b)
moves b (relaxing t) = agrees (ticked b)
moves b (seeking w t) = agrees (ticked b)
moves b (unlinking job t) = agrees (ticked b)

-- the book after the answer of a begin: a refusal changes nothing, the time is right where `begun`
-- says so, and no other answer is
abbrev pub feed_begin : Book → (ℕ → Verdict) → Answer → Verdict
feed_begin b begun (ans.Refused n) = agrees b
feed_begin b begun (ans.Began t) = begun t
feed_begin b begun ans.Moved = differs
feed_begin b begun (ans.Waits h) = differs
feed_begin b begun ans.Empty = differs
feed_begin b begun (ans.NotThere w) = differs
feed_begin b begun (ans.Did d e) = differs

abbrev pub feed_insert : Book → ℕ → ℕ → ℕ → Answer → Verdict
feed_insert b p due item a = feed_begin b (λ t. begins_insert b p due item t (b.opened p)) a

abbrev pub feed_delete : Book → ℕ → Answer → Verdict
feed_delete b p a = feed_begin b (λ t. begins_delete b p t (b.opened p)) a

abbrev pub feed_relaxed : Book → ℕ → Answer → Verdict
feed_relaxed b p a = feed_begin b (λ t. begins_relaxed b p t (b.opened p)) a

abbrev pub feed_remove : Book → ℕ → Wanted → Answer → Verdict
feed_remove b p w a = feed_begin b (λ t. begins_remove b p w t (b.opened p)) a

-- after the answer of a step that tells of an entry, and of any step
abbrev pub feed_deed : Book → ℕ → Entry → Deed → Verdict
feed_deed b p e deed.Marked = marks b p e (b.opened p)
feed_deed b p e deed.Inserted = inserted b p e (b.opened p)
feed_deed b p e deed.HandedOut = hands_out b p e (b.opened p)
feed_deed b p e deed.TakenBack = takes_back b p e (b.opened p)

abbrev pub feed_step : Book → ℕ → Answer → Verdict
feed_step b p (ans.Refused n) = agrees b
feed_step b p (ans.Began t) = differs
feed_step b p ans.Moved = moves b (b.opened p)
feed_step b p (ans.Waits h) = moves b (b.opened p)
feed_step b p ans.Empty = empties b p (b.opened p)
feed_step b p (ans.NotThere w) = misses b p w (b.opened p)
feed_step b p (ans.Did d e) = feed_deed b p e d

-- Backlog gives the number of the entries that are answered and not marked (02, W2), and changes
-- nothing
abbrev pub feed_backlog : Book → Result ℕ Refusal → Verdict
feed_backlog b (Err r) = agrees b
feed_backlog b (Ok k) = agrees_if (eqb k (how_many (pending_in b) b.count)) b

-- the entry t is neither handed out nor taken back yet
abbrev pub held_in : Book → ℕ → Bool
held_in b t = (b.entry t).written && not (is_gone (b.entry t))

-- a processor with this open has an entry marked that is neither yet
abbrev pub is_unlinking : Open → Bool
is_unlinking nothing = false
is_unlinking (inserting t) = false
is_unlinking (walking t) = false
is_unlinking (relaxing t) = false
is_unlinking (seeking w t) = false
is_unlinking (unlinking job t) = true

-- how often p stands as the marker among the first k pairs of the area
abbrev pub times_listed : List ℕ → ℕ → ℕ → ℕ
times_listed area k p = how_many (λ i. eqb (get_or area (2 * i - 1) 0) p) k

-- each processor stands there once if it has such an entry, and else not
abbrev pub deliverers_listed : Book → List ℕ → ℕ → Bool
deliverers_listed b area k =
    every_below (λ p. eqb (times_listed area k p) (cond (is_unlinking (b.opened p)) 1 0)) max_processors

-- markers (02, W6) tells of as many nodes as there are entries that are neither handed out nor
-- taken back yet, and changes nothing. The book has no nodes: Demand3 says which entry a marker
-- belongs to.
abbrev pub feed_markers : Book → Result ℕ Refusal → List ℕ → Verdict
feed_markers b (Err r) area = agrees b
feed_markers b (Ok k) area =
    agrees_if (eqb k (how_many (held_in b) b.count) && deliverers_listed b area k) b

-- a call and its answer
abbrev pub feed_call : Book → Call → Answer → Verdict
feed_call b (call.Insert p due item height) a = feed_insert b p due item a
feed_call b (call.DeleteMin p) a = feed_delete b p a
feed_call b (call.Relaxed p) a = feed_relaxed b p a
feed_call b (call.Remove p due ticket) a = feed_remove b p (wanted_of due ticket) a
feed_call b (call.Step p) a = feed_step b p a

-- a turn and what it gave back
abbrev pub feed : Book → Turn → Reply → Verdict
feed b (calls c) (answered a) = feed_call b c a
feed b (calls c) (counted k) = differs
feed b (calls c) (listed k area) = differs
feed b backlog (answered a) = differs
feed b backlog (counted k) = feed_backlog b k
feed b backlog (listed k area) = differs
feed b (markers lent) (answered a) = differs
feed b (markers lent) (counted k) = differs
feed b (markers lent) (listed k area) = feed_markers b k area

-- what follows an answer that agrees
abbrev pub then_feed : Verdict → (Book → Verdict) → Verdict
then_feed (agrees b) f = f b
then_feed differs f = differs

-- the book fed with a list of calls on the record q and with what they give back, in turn
unfoldable pub judged : Book → Queue → List Turn → Verdict
judged b q [] = agrees b
judged b q (c ∷ cs) = then_feed (feed b c (reply q c)) (λ b'. judged b' (after q c) cs)
