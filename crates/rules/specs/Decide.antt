-- What a step decides, from what it reads (01, the steps). Each line of that section is one
-- function here, with the letters a for the place and b for the node after it.
use Rattle.std.specs.Prelude.{ℕ, ◌+◌, ◌-◌, cond, ltb, leb, eqb, Option, Some, None}
use Rattle.record.specs.declared.stages.Place.{Place}
use Rattle.record.specs.declared.stages.Seek.{Seek}
use Rattle.record.specs.declared.stages.Seek.TheVariants as seek
use Rattle.record.specs.declared.stages.Insert.{Insert}
use Rattle.record.specs.declared.stages.Insert.TheVariants as ins
use Rattle.record.specs.declared.stages.Removal.{Removal}
use Rattle.record.specs.declared.stages.Removal.TheVariants as rem
use Rattle.record.specs.declared.stages.Job.{Job}
use Rattle.record.specs.declared.stages.Job.TheVariants as jobs
use Rattle.record.specs.declared.stages.Delete.{Delete}
use Rattle.record.specs.declared.stages.Delete.TheVariants as del
use Rattle.record.specs.declared.stages.Relaxed.{Relaxed}
use Rattle.record.specs.declared.stages.Relaxed.TheVariants as rlx
use Rattle.record.specs.declared.stages.Wanted.{Wanted}
use Rattle.record.specs.declared.stages.Remove.{Remove}
use Rattle.record.specs.declared.stages.Remove.TheVariants as rmv
use Rattle.record.specs.declared.stages.Stage.{Stage}
use Rattle.record.specs.declared.stages.Stage.TheVariants as stage
use Rattle.record.specs.Stages.{place}
use Rattle.rules.specs.declared.answers.Answer.{Answer}
use Rattle.rules.specs.declared.answers.Deed.TheVariants as deed
use Rattle.rules.specs.declared.answers.Entry.{Entry}
use Rattle.rules.specs.declared.answers.Answer.TheVariants as ans
use Rattle.rules.specs.declared.decisions.Effect.{Effect}
use Rattle.rules.specs.declared.decisions.Effect.TheVariants as eff
use Rattle.rules.specs.declared.decisions.ProcessorChange.TheVariants as change
use Rattle.rules.specs.declared.decisions.Decision.{Decision}
use Rattle.rules.specs.declared.decisions.StepView.{StepView}
use Rattle.rules.specs.declared.decisions.Searched.{Searched}
use Rattle.rules.specs.declared.decisions.Searched.TheVariants as srch
use Rattle.rules.specs.declared.decisions.Sought.{Sought}
use Rattle.rules.specs.declared.decisions.Sought.TheVariants as sght

-- on to another stage, with an effect on one node
abbrev pub moved : StepView → Effect → Stage → Decision
moved s e g =
    record { effect = e; stage = g; own = s.own; change = change.Keep; answer = ans.Moved }

-- at the same stage, for a lock that processor h holds
abbrev pub waits : StepView → Stage → ℕ → Decision
waits s g h = record {
  effect = eff.Keep;
  stage = g;
  own = s.own;
  change = change.Keep;
  answer = ans.Waits h;
}

-- on to another stage, a saved for its level
abbrev pub saving : StepView → Place → Stage → Decision
saving s a g = record {
  effect = eff.Keep;
  stage = g;
  own = s.own;
  change = change.Save a;
  answer = ans.Moved;
}

-- an answer: the processor is idle, and nothing is saved
abbrev pub answers : Effect → Answer → Decision
answers e r = record { effect = e; stage = stage.Idle; own = 0; change = change.Clear; answer = r }

-- Search: on along the level as long as the key ahead is smaller; then the place is saved for its
-- level, and the level below is searched from it. After level 1 the Search is over.
abbrev pub search_step : StepView → Place → Searched
search_step s a =
    cond s.next_before_key (srch.Ahead (place s.next a.level))
    (cond (leb a.level 1) (srch.Done a) (srch.Down (place a.node (a.level - 1))))

-- An attempt to take a lock (02, W1), a level's or a node's, which has this number in the record: a
-- free one is taken, and any other is held by the processor whose number it bears.
abbrev pub attempt : ℕ → Option ℕ
attempt lock = cond (eqb lock 0) None (Some (lock - 1))

-- G2, by what the attempt at the place's lock gives
abbrev pub place_tried : Place → Option ℕ → Sought
place_tried a None = sght.Goes (eff.HoldLevel a) (seek.Confirm a)
place_tried a (Some h) = sght.Waits (seek.Take a) h

-- Lock-seek, on one level. G1 goes on as long as the key ahead is smaller. G2 takes the lock of the
-- place, or waits for its holder. G3 looks whether the key ahead is smaller by now: if so, G4 gives
-- the lock back and goes on to that node, for G2; if not, the Lock-seek is done.
abbrev pub seek_step : StepView → Seek → Sought
seek_step s (seek.Approach a) =
    cond s.next_before_key (sght.Goes eff.Keep (seek.Approach (place s.next a.level)))
    (sght.Goes eff.Keep (seek.Take a))
seek_step s (seek.Take a) = place_tried a (attempt s.place_lock)
seek_step s (seek.Confirm a) =
    cond s.next_before_key (sght.Goes eff.Keep (seek.Release a s.next)) (sght.Done a)
seek_step s (seek.Release a b) = sght.Goes (eff.FreeLevel a) (seek.Take (place b a.level))

-- an Insert's Search leads to the Lock-seek of level 1, and each Lock-seek to I1
abbrev pub insert_searched : StepView → Place → Searched → Decision
insert_searched s a (srch.Ahead b) = moved s eff.Keep (stage.Insert (ins.Search b))
insert_searched s a (srch.Down b) = saving s a (stage.Insert (ins.Search b))
insert_searched s a (srch.Done b) = saving s a (stage.Insert (ins.Seek (seek.Approach b)))

abbrev pub insert_sought : StepView → Sought → Decision
insert_sought s (sght.Goes e k) = moved s e (stage.Insert (ins.Seek k))
insert_sought s (sght.Waits k h) = waits s (stage.Insert (ins.Seek k)) h
insert_sought s (sght.Done a) = moved s eff.Keep (stage.Insert (ins.Copy a))

-- I3: the place's lock is free again; on to the next level or, from the height on, to I4
abbrev pub insert_freed : StepView → Place → Decision
insert_freed s a =
    cond (ltb a.level s.height)
    (moved s (eff.FreeLevel a)
    (stage.Insert (ins.Seek (seek.Approach (place s.saved_above (a.level + 1))))))
    (moved s (eff.FreeLevel a) (stage.Insert ins.FreeNode))

-- I1: the own node leads to where the place leads; I2: the place leads to it; I4: its node lock is
-- free; I5: its stamp, and the answer
abbrev pub insert_step : StepView → Insert → Decision
insert_step s (ins.Search a) = insert_searched s a (search_step s a)
insert_step s (ins.Seek k) = insert_sought s (seek_step s k)
insert_step s (ins.Copy a) =
    moved s (eff.SetForward (place s.own a.level) s.next) (stage.Insert (ins.Link a))
insert_step s (ins.Link a) = moved s (eff.SetForward a s.own) (stage.Insert (ins.FreeLevel a))
insert_step s (ins.FreeLevel a) = insert_freed s a
insert_step s ins.FreeNode = moved s (eff.FreeNode s.own) (stage.Insert ins.Stamp)
insert_step s ins.Stamp = answers (eff.Stamp s.own) (ans.Did deed.Inserted s.own_entry)

-- the removal of a marked node, and its job
abbrev pub removing : Job → Removal → Stage
removing job r = stage.Removal job r

-- the Search, then L1, and the Lock-seek of each level from the height down
abbrev pub removal_searched : Job → StepView → Place → Searched → Decision
removal_searched job s a (srch.Ahead b) = moved s eff.Keep (removing job (rem.Search b))
removal_searched job s a (srch.Down b) = saving s a (removing job (rem.Search b))
removal_searched job s a (srch.Done b) = saving s a (removing job rem.HoldNode)

-- L1: the own node's node lock, or wait for its holder
abbrev pub node_tried : Job → StepView → Option ℕ → Decision
node_tried job s None =
    moved s (eff.HoldNode s.own)
    (removing job (rem.Seek (seek.Approach (place s.saved_at_height s.height))))
node_tried job s (Some h) = waits s (removing job rem.HoldNode) h

abbrev pub hold_node : Job → StepView → Decision
hold_node job s = node_tried job s (attempt s.own_node_lock)

abbrev pub removal_sought : Job → StepView → Sought → Decision
removal_sought job s (sght.Goes e k) = moved s e (removing job (rem.Seek k))
removal_sought job s (sght.Waits k h) = waits s (removing job (rem.Seek k)) h
removal_sought job s (sght.Done a) = moved s eff.Keep (removing job (rem.HoldOwn a))

-- L2: the own node's lock at the level, or wait for its holder
abbrev pub own_tried : Job → StepView → Place → Option ℕ → Decision
own_tried job s a None =
    moved s (eff.HoldLevel (place s.own a.level)) (removing job (rem.Unlink a))
own_tried job s a (Some h) = waits s (removing job (rem.HoldOwn a)) h

abbrev pub hold_own : Job → StepView → Place → Decision
hold_own job s a = own_tried job s a (attempt s.own_lock)

-- L6: the place's lock is free; on to the level below or, after level 1, to L7
abbrev pub removal_freed : Job → StepView → Place → Decision
removal_freed job s a =
    cond (leb a.level 1) (moved s (eff.FreeLevel a) (removing job rem.FreeNode))
    (moved s (eff.FreeLevel a)
    (removing job (rem.Seek (seek.Approach (place s.saved_below (a.level - 1))))))

-- what L8 answers, by the removal's job
abbrev pub handing : Job → Entry → Answer
handing jobs.Deliver e = ans.Did deed.HandedOut e
handing jobs.TakeBack e = ans.Did deed.TakenBack e

-- L3: the place leads past the own node; L4: that one leads back to the place; L5: its lock is
-- free; L7: and its node lock; L8: it is retired, and the job tells the answer
abbrev pub removal_step : Job → StepView → Removal → Decision
removal_step job s (rem.Search a) = removal_searched job s a (search_step s a)
removal_step job s rem.HoldNode = hold_node job s
removal_step job s (rem.Seek k) = removal_sought job s (seek_step s k)
removal_step job s (rem.HoldOwn a) = hold_own job s a
removal_step job s (rem.Unlink a) =
    moved s (eff.SetForward a s.own_next) (removing job (rem.LeadBack a))
removal_step job s (rem.LeadBack a) =
    moved s (eff.SetForward (place s.own a.level) a.node) (removing job (rem.FreeOwn a))
removal_step job s (rem.FreeOwn a) =
    moved s (eff.FreeLevel (place s.own a.level)) (removing job (rem.FreeLevel a))
removal_step job s (rem.FreeLevel a) = removal_freed job s a
removal_step job s rem.FreeNode = moved s (eff.FreeNode s.own) (removing job rem.Retire)
removal_step job s rem.Retire = answers (eff.Retire s.own) (handing job s.own_entry)

-- W1: on to the next node of level 1, or EMPTY at the end
abbrev pub walk_on : StepView → Decision
walk_on s =
    cond s.next_is_tail (answers eff.Keep ans.Empty)
    (moved s eff.Keep (stage.Delete (del.TestStamp (place s.next 1))))

-- W2: a node whose stamp is older than the operation may be marked; any other is walked past
abbrev pub stamp_test : StepView → Place → Decision
stamp_test s a =
    cond s.stamped (moved s eff.Keep (stage.Delete (del.SetMark a)))
    (moved s eff.Keep (stage.Delete (del.ReadNext a)))

-- 01, W3 where the mark was not set: the node is the operation's own from here on, and its removal
-- begins with the Search
abbrev pub marking : Job → StepView → Place → Decision
marking job s a = record {
  effect = eff.Mark a.node;
  stage = removing job (rem.Search (place 0 s.level_count));
  own = a.node;
  change = change.Keep;
  answer = ans.Did deed.Marked s.place_entry;
}

-- 01, W3: a node that is marked already is walked past, to this stage
abbrev pub mark_test : StepView → Place → Stage → Decision
mark_test s a past = cond s.marked (moved s eff.Keep past) (marking jobs.Deliver s a)

abbrev pub delete_step : StepView → Delete → Decision
delete_step s (del.ReadNext a) = walk_on s
delete_step s (del.TestStamp a) = stamp_test s a
delete_step s (del.SetMark a) = mark_test s a (stage.Delete (del.ReadNext a))

-- W1 of a Relaxed Delete_Min (02, W3): straight on to the mark, but on the head, which has none and
-- where a walk that was led back may come, W1 again
abbrev pub relaxed_on : StepView → Decision
relaxed_on s =
    cond s.next_is_tail (answers eff.Keep ans.Empty)
    (cond (eqb s.next 0) (moved s eff.Keep (stage.Relaxed (rlx.ReadNext (place s.next 1))))
    (moved s eff.Keep (stage.Relaxed (rlx.SetMark (place s.next 1)))))

abbrev pub relaxed_step : StepView → Relaxed → Decision
relaxed_step s (rlx.ReadNext a) = relaxed_on s
relaxed_step s (rlx.SetMark a) = mark_test s a (stage.Relaxed (rlx.ReadNext a))

-- a Remove's Search (02, W5), after which it reads on from the last place
abbrev pub remove_searched : StepView → Wanted → Place → Searched → Decision
remove_searched s w a (srch.Ahead b) = moved s eff.Keep (stage.Remove w (rmv.Search b))
remove_searched s w a (srch.Down b) = saving s a (stage.Remove w (rmv.Search b))
remove_searched s w a (srch.Done b) = saving s a (stage.Remove w (rmv.ReadNext b))

-- what it wants is not there
abbrev pub missing : Wanted → Decision
missing w = answers eff.Keep (ans.NotThere w)

-- on along level 1 as long as the key ahead is smaller; on its own key it goes on to the stamp
abbrev pub remove_on : StepView → Wanted → Decision
remove_on s w =
    cond s.next_before_key (moved s eff.Keep (stage.Remove w (rmv.ReadNext (place s.next 1))))
    (cond s.next_has_key
    (moved s eff.Keep (stage.Remove w (rmv.TestStamp (place s.next 1))))
    (missing w))

-- the stamp as at W2 and the mark as at W3, but it walks past nothing
abbrev pub remove_stamp : StepView → Wanted → Place → Decision
remove_stamp s w a =
    cond s.stamped (moved s eff.Keep (stage.Remove w (rmv.SetMark a))) (missing w)

abbrev pub remove_mark : StepView → Wanted → Place → Decision
remove_mark s w a = cond s.marked (missing w) (marking jobs.TakeBack s a)

abbrev pub remove_step : StepView → Wanted → Remove → Decision
remove_step s w (rmv.Search a) = remove_searched s w a (search_step s a)
remove_step s w (rmv.ReadNext a) = remove_on s w
remove_step s w (rmv.TestStamp a) = remove_stamp s w a
remove_step s w (rmv.SetMark a) = remove_mark s w a

-- an idle processor has no step: the call is refused before this
abbrev pub decide : StepView → Stage → Decision
decide s stage.Idle = moved s eff.Keep stage.Idle
decide s (stage.Insert i) = insert_step s i
decide s (stage.Delete d) = delete_step s d
decide s (stage.Relaxed x) = relaxed_step s x
decide s (stage.Remove w x) = remove_step s w x
decide s (stage.Removal job r) = removal_step job s r
