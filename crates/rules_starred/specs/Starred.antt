-- The starred runs of document 01 (runs at the edges) in one table: what is asked of the
-- definitions, and what document 01 expects. Run 2 is as document 02 changes it (W8), with its
-- examples and the last count that is taken; the backlog along the printed run is document 02's
-- (W2), and so are markers (W6), asked along that run and run 5, the holders of locks that are
-- waited for (W1), the Relaxed Delete_Min (W3) and the Remove (W5). proofs/Starred.antt has the one
-- fact that covers the table.
use Rattle.std.specs.Prelude.{ℕ, zero, suc, ◌-◌, ◌≡◌, List, [], ◌∷◌, ◌++◌, replicate, Result, Ok, Err}
use Rattle.record.specs.declared.refusals.Refusal.{Refusal}
use Rattle.record.specs.declared.queues.Queue.{Queue}
use Rattle.due.specs.Due.{due_from_seconds}
use Rattle.record_check.specs.Making.{made}
use Rattle.record.specs.Queues.{fresh_queue, processor_at}
use Rattle.record.specs.Refusals.{refusal_number}
use Rattle.rules.specs.Answers.{reported}
use Rattle.record_markers.specs.Markers.{reported_markers}
use Rattle.rules.specs.Runs.{Turn, insert, delete_min, relaxed, remove, step_by, backlog, markers}
use Rattle.rules.specs.Runs.{after, after_all, Reply, answered, counted, listed, reply}

-- what is asked
pub data Question : Type 0 where
  -- the number of the refusal of a making, 0 if the queue is made
  making : ℕ → ℕ → ℕ → Question
  -- what a count of seconds gives: the number of the refusal or 0, and the minutes
  seconds : ℕ → Question
  -- on a fresh queue of these sizes, after this list of calls: the clock after one more call, and
  -- that call's answer as its number and values, and of markers the area too
  answer : Queue → List Turn → Turn → Question
  -- the same, and the own node of a processor after the call
  own : Queue → List Turn → Turn → ℕ → Question
  -- on a fresh queue, before the first of these calls and after each of them: the clock, and what
  -- Backlog gives, as its number and values
  backlogs : Queue → List Turn → Question

abbrev pub making_number : Result Queue Refusal → ℕ
making_number (Err r) = refusal_number r
making_number (Ok q) = 0

abbrev pub minutes_numbers : Result ℕ Refusal → List ℕ
minutes_numbers (Err r) = refusal_number r ∷ 0 ∷ []
minutes_numbers (Ok m) = 0 ∷ m ∷ []

abbrev pub reply_numbers : Reply → List ℕ
reply_numbers (answered a) = (reported a).number ∷ (reported a).values
reply_numbers (counted (Err r)) = refusal_number r ∷ []
reply_numbers (counted (Ok k)) = 0 ∷ k ∷ []
reply_numbers (listed k area) =
    (reported_markers k).number ∷ ((reported_markers k).values ++ area)

abbrev pub backlogs_along : Queue → List Turn → List ℕ
backlogs_along q [] = q.clock ∷ reply_numbers (reply q backlog)
backlogs_along q (c ∷ cs) =
    q.clock ∷ (reply_numbers (reply q backlog) ++ backlogs_along (after q c) cs)

abbrev pub result : Question → List ℕ
result (making p n l) = making_number (made p n l) ∷ []
result (seconds s) = minutes_numbers (due_from_seconds s)
result (answer q cs c) = (after (after_all q cs) c).clock ∷ reply_numbers (reply (after_all q cs) c)
result (own q cs c p) =
    (processor_at (after (after_all q cs) c) p).own ∷ reply_numbers (reply (after_all q cs) c)
result (backlogs q cs) = backlogs_along q cs

-- a row of the table
pub record StarredRun : Type 0 where
  pub asked : Question
  pub expected : List ℕ

abbrev pub run : Question → List ℕ → StarredRun
run question expected = record { asked = question; expected = expected }

-- the numbers that `reported` gives a begin, a move, a wait, EMPTY, a mark, an Insert's answer, a
-- hand-out, an entry that is taken back and one that is not there
abbrev began : ℕ
began = 0

abbrev moved : ℕ
moved = 1

abbrev waiting : ℕ
waiting = 2

abbrev empty : ℕ
empty = 3

abbrev marked : ℕ
marked = 4

abbrev insert_answered : ℕ
insert_answered = 5

abbrev handed_out : ℕ
handed_out = 6

abbrev taken_back : ℕ
taken_back = 7

abbrev not_there : ℕ
not_there = 8

-- the queue of the printed sheet, the queue of runs 4 to 6, and one of three processors and two
-- nodes
abbrev single : Queue
single = fresh_queue 1 1 1

abbrev pair : Queue
pair = fresh_queue 2 1 1

abbrev triple : Queue
triple = fresh_queue 3 2 1

-- the printed sheet's first Insert and its 9 steps; its Delete_Min and its 15; its second
-- Delete_Min and one step
abbrev pub filed : List Turn
filed = insert 0 7 42 1 ∷ replicate 9 (step_by 0)

abbrev pub printed : List Turn
printed = filed ++ (delete_min 0 ∷ (replicate 15 (step_by 0) ++ (delete_min 0 ∷ step_by 0 ∷ [])))

-- run 4, up to the begin of its Delete_Min
abbrev pub fourth : List Turn
fourth = insert 0 7 42 1 ∷ (replicate 8 (step_by 0) ++ (delete_min 1 ∷ []))

-- run 5, up to the T of its first Delete_Min
abbrev pub fifth : List Turn
fifth = filed ++ (delete_min 0 ∷ (replicate 8 (step_by 0) ++ (delete_min 1 ∷ replicate 7 (step_by 0))))

-- up to the mark of the printed sheet's Delete_Min; the same on two processors, the second marking
abbrev pub marked_by_first : List Turn
marked_by_first = filed ++ (delete_min 0 ∷ replicate 3 (step_by 0))

abbrev pub marked_by_second : List Turn
marked_by_second = filed ++ (delete_min 1 ∷ replicate 3 (step_by 1))

-- processor 2 has taken the head's lock for its Insert, and 0 is at its G2 for it
abbrev pub linkers_meet : List Turn
linkers_meet = insert 2 5 7 1 ∷ (replicate 3 (step_by 2) ++ (insert 0 3 8 1 ∷ replicate 2 (step_by 0)))

-- processor 1 has taken the head's lock for its Insert, and the removal of 2 is at its G2 for it
abbrev pub removal_meets : List Turn
removal_meets =
    filed ++ (insert 1 3 8 1 ∷ (replicate 3 (step_by 1) ++ (delete_min 2 ∷ replicate 6 (step_by 2))))

-- processor 1 has taken the first entry's lock for its Insert, and the removal of that entry by 2,
-- which holds the head's, is at its L2 for it
abbrev pub own_meets : List Turn
own_meets =
    filed ++ (insert 1 9 8 1 ∷ (replicate 4 (step_by 1) ++ (delete_min 2 ∷ replicate 8 (step_by 2))))

-- an Insert's entry is linked, and the Insert has three steps to go to its answer
abbrev pub unanswered : List Turn
unanswered = insert 0 7 42 1 ∷ replicate 6 (step_by 0)

-- a Relaxed Delete_Min is at its W3 there; it has marked the entry, and is at its L1
abbrev pub relaxed_reads : List Turn
relaxed_reads = unanswered ++ (relaxed 1 ∷ step_by 1 ∷ [])

abbrev pub relaxed_meets : List Turn
relaxed_meets = relaxed_reads ++ (step_by 1 ∷ step_by 1 ∷ [])

-- it has waited once, the Insert has freed its node lock, and the next step hands out; behind that
-- step the Insert is still to answer; and it has
abbrev pub relaxed_goes : List Turn
relaxed_goes = relaxed_meets ++ (step_by 1 ∷ (replicate 2 (step_by 0) ++ replicate 10 (step_by 1)))

abbrev pub relaxed_hands : List Turn
relaxed_hands = relaxed_goes ++ (step_by 1 ∷ [])

abbrev pub relaxed_ends : List Turn
relaxed_ends = relaxed_hands ++ (step_by 0 ∷ [])

-- a Relaxed one finds the mark of a Delete_Min, whose removal then leads it back to the head
abbrev pub relaxed_led_back : List Turn
relaxed_led_back =
    filed
    ++ (delete_min 0 ∷ step_by 0 ∷ step_by 0 ∷ relaxed 1 ∷ step_by 1 ∷ step_by 0 ∷ step_by 1
    ∷ (replicate 8 (step_by 0) ++ (step_by 1 ∷ [])))

-- a Remove of the printed sheet's entry is at its mark; it has marked; and it has one step to go
abbrev pub remove_finds : List Turn
remove_finds = filed ++ (remove 0 7 1 ∷ replicate 3 (step_by 0))

abbrev pub remove_marks : List Turn
remove_marks = remove_finds ++ (step_by 0 ∷ [])

abbrev pub remove_goes : List Turn
remove_goes = remove_marks ++ replicate 11 (step_by 0)

abbrev pub remove_ends : List Turn
remove_ends = remove_goes ++ (step_by 0 ∷ [])

-- a Remove begins before the Insert of its entry answers, and is at the test of the stamp
abbrev pub remove_comes_early : List Turn
remove_comes_early =
    insert 0 7 42 1
    ∷ (replicate 8 (step_by 0) ++ (remove 1 7 1 ∷ step_by 0 ∷ step_by 1 ∷ step_by 1 ∷ []))

-- a Remove is at its mark, and a Delete_Min or another Remove has just marked the entry
abbrev pub remove_comes_late : List Turn
remove_comes_late =
    filed
    ++ (delete_min 1 ∷ step_by 1 ∷ step_by 1 ∷ remove 0 7 1
    ∷ (replicate 3 (step_by 0) ++ (step_by 1 ∷ [])))

abbrev pub removes_meet : List Turn
removes_meet =
    filed
    ++ (remove 0 7 1 ∷ remove 1 7 1
    ∷ (replicate 3 (step_by 0) ++ (replicate 3 (step_by 1) ++ (step_by 0 ∷ []))))

-- an earlier entry was filed when a Remove had ended its Search, and the Remove is at its mark
abbrev pub remove_reads_on : List Turn
remove_reads_on =
    filed
    ++ (remove 2 7 1 ∷ step_by 2 ∷ insert 1 5 8 1
    ∷ (replicate 9 (step_by 1) ++ replicate 3 (step_by 2)))

-- as own_meets, with a Remove
abbrev pub remove_meets : List Turn
remove_meets =
    filed ++ (insert 1 9 8 1 ∷ (replicate 4 (step_by 1) ++ (remove 2 7 1 ∷ replicate 9 (step_by 2))))

-- so many times from one on, at each of them 0 and this count; and the times from one to another
abbrev counts : ℕ → ℕ → ℕ → List ℕ
counts zero time k = []
counts (suc n) time k = time ∷ (0 ∷ (k ∷ counts n (suc time) k))

abbrev from_to : ℕ → ℕ → ℕ → List ℕ
from_to first last k = counts (suc last - first) first k

abbrev pub starred : List StarredRun
starred =
    -- 1. the most nodes, one more, and none
    run (making 1 200 1) (0 ∷ [])
    ∷ run (making 1 201 1) (12 ∷ [])
    ∷ run (making 1 0 1) (12 ∷ [])
    -- 2. half a minute goes to the even one of its two minutes; 35 from 59,999,970 on
    ∷ run (seconds 30) (0 ∷ 0 ∷ [])
    ∷ run (seconds 59) (0 ∷ 1 ∷ [])
    ∷ run (seconds 60) (0 ∷ 1 ∷ [])
    ∷ run (seconds 89) (0 ∷ 1 ∷ [])
    ∷ run (seconds 90) (0 ∷ 2 ∷ [])
    ∷ run (seconds 150) (0 ∷ 2 ∷ [])
    ∷ run (seconds 59999969) (0 ∷ 999999 ∷ [])
    ∷ run (seconds 59999970) (35 ∷ 0 ∷ [])
    ∷ run (seconds 59999999) (35 ∷ 0 ∷ [])
    ∷ run (seconds 60000000) (35 ∷ 0 ∷ [])
    -- 3. the one node is not to be had at first, and at the end of the printed run it is
    ∷ run (answer single filed (insert 0 7 42 1)) (10 ∷ 37 ∷ [])
    ∷ run (answer single printed (insert 0 7 42 1)) (29 ∷ began ∷ 29 ∷ [])
    ∷ run (own single printed (insert 0 7 42 1) 0) (1 ∷ began ∷ 29 ∷ [])
    -- 4. the begin of the Delete_Min at 10, the Insert's answer at 11, EMPTY at 14
    ∷ run (answer pair (insert 0 7 42 1 ∷ replicate 8 (step_by 0)) (delete_min 1))
    (10 ∷ began ∷ 10 ∷ [])
    ∷ run (answer pair fourth (step_by 0)) (11 ∷ insert_answered ∷ 7 ∷ 42 ∷ 1 ∷ [])
    ∷ run (answer pair (fourth ++ (step_by 0 ∷ step_by 1 ∷ step_by 1 ∷ [])) (step_by 1))
    (14 ∷ empty ∷ [])
    -- 5. the node is to be had as soon as no Delete_Min is open that began before it was retired
    ∷ run (answer pair fifth (insert 0 7 42 1)) (27 ∷ 37 ∷ [])
    ∷ run (answer pair fifth (step_by 1)) (28 ∷ empty ∷ [])
    ∷ run (answer pair (fifth ++ (step_by 1 ∷ [])) (insert 0 7 42 1)) (29 ∷ began ∷ 29 ∷ [])
    -- 6. calls of a processor that is not there, and a step of an idle one
    ∷ run (answer pair [] (step_by 2)) (0 ∷ 32 ∷ [])
    ∷ run (answer pair [] (insert 2 7 42 1)) (0 ∷ 32 ∷ [])
    ∷ run (answer pair [] (delete_min 2)) (0 ∷ 32 ∷ [])
    ∷ run (answer pair [] (step_by 0)) (0 ∷ 34 ∷ [])
    -- 02, W2: the backlog of the printed run is 0, from the answer on 1, and from the mark on 0
    ∷ run (backlogs single printed) (from_to 0 9 0 ++ (from_to 10 13 1 ++ from_to 14 28 0))
    -- 02, W6: nobody has the entry; the first processor has it, or the second; nobody, and no node
    -- is in use; and an area that is one byte too short
    ∷ run (answer single filed (markers (9 ∷ 9 ∷ 9 ∷ []))) (10 ∷ 0 ∷ 1 ∷ 1 ∷ 255 ∷ 9 ∷ [])
    ∷ run (answer single marked_by_first (markers (9 ∷ 9 ∷ []))) (14 ∷ 0 ∷ 1 ∷ 1 ∷ 0 ∷ [])
    ∷ run (answer pair marked_by_second (markers (9 ∷ 9 ∷ []))) (14 ∷ 0 ∷ 1 ∷ 1 ∷ 1 ∷ [])
    ∷ run (answer single printed (markers (9 ∷ 9 ∷ []))) (28 ∷ 0 ∷ 0 ∷ 9 ∷ 9 ∷ [])
    ∷ run (answer single printed (markers [])) (28 ∷ 0 ∷ 0 ∷ [])
    ∷ run (answer single filed (markers (9 ∷ []))) (10 ∷ 43 ∷ 9 ∷ [])
    -- 02, W1: an Insert waits for 2, and goes on when 2 has freed the lock; a removal waits for 1
    -- at G2, and at L2
    ∷ run (answer triple linkers_meet (step_by 0)) (8 ∷ waiting ∷ 2 ∷ [])
    ∷ run (answer triple (linkers_meet ++ (step_by 0 ∷ replicate 4 (step_by 2))) (step_by 0))
    (13 ∷ moved ∷ [])
    ∷ run (answer triple removal_meets (step_by 2)) (22 ∷ waiting ∷ 1 ∷ [])
    ∷ run (answer triple own_meets (step_by 2)) (25 ∷ waiting ∷ 1 ∷ [])
    -- 02, W3: an entry whose Insert has not answered is passed by a Delete_Min, and marked by a
    -- Relaxed one, which then waits at L1 for the Insert's processor and hands out; and the Insert
    -- answers after that
    ∷ run (answer pair (unanswered ++ (delete_min 1 ∷ step_by 1 ∷ step_by 1 ∷ [])) (step_by 1))
    (11 ∷ empty ∷ [])
    ∷ run (answer pair relaxed_reads (step_by 1)) (10 ∷ marked ∷ 7 ∷ 42 ∷ 1 ∷ [])
    ∷ run (answer pair relaxed_meets (step_by 1)) (12 ∷ waiting ∷ 0 ∷ [])
    ∷ run (answer pair relaxed_goes (step_by 1)) (25 ∷ handed_out ∷ 7 ∷ 42 ∷ 1 ∷ [])
    ∷ run (answer pair relaxed_hands (step_by 0)) (26 ∷ insert_answered ∷ 7 ∷ 42 ∷ 1 ∷ [])
    -- its node is not to be had before that answer, and then it is
    ∷ run (answer pair relaxed_hands (insert 1 8 43 1)) (25 ∷ 37 ∷ [])
    ∷ run (own pair relaxed_ends (insert 1 8 43 1) 1) (1 ∷ began ∷ 27 ∷ [])
    -- an entry that is marked before it is answered is in no backlog, and its marker is told
    ∷ run (answer pair (relaxed_meets ++ replicate 3 (step_by 0)) backlog) (14 ∷ 0 ∷ 0 ∷ [])
    ∷ run (answer pair relaxed_meets (markers (9 ∷ 9 ∷ []))) (11 ∷ 0 ∷ 1 ∷ 1 ∷ 1 ∷ [])
    -- on the head a Relaxed one reads on; it is told EMPTY; 32 and 33
    ∷ run (answer pair relaxed_led_back (step_by 1)) (27 ∷ empty ∷ [])
    ∷ run (answer single (relaxed 0 ∷ []) (step_by 0)) (2 ∷ empty ∷ [])
    ∷ run (answer pair [] (relaxed 2)) (0 ∷ 32 ∷ [])
    ∷ run (answer pair (relaxed 0 ∷ []) (relaxed 0)) (1 ∷ 33 ∷ [])
    -- 02, W5: the entry of the key is marked and taken back, and its node is to be had again
    ∷ run (answer single remove_finds (step_by 0)) (15 ∷ marked ∷ 7 ∷ 42 ∷ 1 ∷ [])
    ∷ run (answer single remove_goes (step_by 0)) (27 ∷ taken_back ∷ 7 ∷ 42 ∷ 1 ∷ [])
    ∷ run (own single remove_ends (insert 0 8 43 1) 0) (1 ∷ began ∷ 28 ∷ [])
    -- from the mark on it is in no backlog, and markers tells who has it
    ∷ run (answer single remove_finds backlog) (14 ∷ 0 ∷ 1 ∷ [])
    ∷ run (answer single remove_marks backlog) (15 ∷ 0 ∷ 0 ∷ [])
    ∷ run (answer single remove_marks (markers (9 ∷ 9 ∷ []))) (15 ∷ 0 ∷ 1 ∷ 1 ∷ 0 ∷ [])
    -- another ticket, another minute, no entry at all; and a ticket that is above the clock
    ∷ run (answer single (filed ++ (remove 0 7 2 ∷ step_by 0 ∷ step_by 0 ∷ [])) (step_by 0))
    (14 ∷ not_there ∷ 7 ∷ 2 ∷ [])
    ∷ run (answer single (filed ++ (remove 0 6 1 ∷ step_by 0 ∷ [])) (step_by 0))
    (13 ∷ not_there ∷ 6 ∷ 1 ∷ [])
    ∷ run (answer single (remove 0 0 1 ∷ step_by 0 ∷ []) (step_by 0)) (3 ∷ not_there ∷ 0 ∷ 1 ∷ [])
    ∷ run (answer single filed (remove 0 7 999999)) (11 ∷ began ∷ 11 ∷ [])
    -- an entry that was answered after the begin; one that a Delete_Min has marked, or another
    -- Remove
    ∷ run (answer pair remove_comes_early (step_by 1)) (14 ∷ not_there ∷ 7 ∷ 1 ∷ [])
    ∷ run (answer pair remove_comes_late (step_by 0)) (19 ∷ not_there ∷ 7 ∷ 1 ∷ [])
    ∷ run (answer pair removes_meet (step_by 1)) (20 ∷ not_there ∷ 7 ∷ 1 ∷ [])
    -- what it has marked, a Delete_Min and a Relaxed one leave out
    ∷ run (answer pair (remove_marks ++ (delete_min 1 ∷ replicate 3 (step_by 1))) (step_by 1))
    (20 ∷ empty ∷ [])
    ∷ run (answer pair (remove_marks ++ (relaxed 1 ∷ replicate 2 (step_by 1))) (step_by 1))
    (19 ∷ empty ∷ [])
    -- it reads on over an earlier entry to the one of its key; it waits for 1 at L2
    ∷ run (answer triple remove_reads_on (step_by 2)) (26 ∷ marked ∷ 7 ∷ 42 ∷ 1 ∷ [])
    ∷ run (answer triple remove_meets (step_by 2)) (26 ∷ waiting ∷ 1 ∷ [])
    -- 38 at its edges, behind 32 and 33
    ∷ run (answer single [] (remove 0 999999 999999)) (1 ∷ began ∷ 1 ∷ [])
    ∷ run (answer single [] (remove 0 1000000 1)) (0 ∷ 38 ∷ [])
    ∷ run (answer single [] (remove 0 0 0)) (0 ∷ 38 ∷ [])
    ∷ run (answer single [] (remove 0 0 1000000)) (0 ∷ 38 ∷ [])
    ∷ run (answer single [] (remove 1 0 0)) (0 ∷ 32 ∷ [])
    ∷ run (answer single (remove 0 0 1 ∷ []) (remove 0 0 0)) (1 ∷ 33 ∷ [])
    ∷ []

-- every row's question has the expected result
abbrev pub Right : StarredRun → Type 0
Right r = result r.asked ≡ r.expected
