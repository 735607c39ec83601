-- A step that waits stays as it is and names the holder of the lock that it asks for. Assumes
-- nothing.
use Rattle.std.specs.Prelude.{Option, ℕ, Some, None}
use mathlib.Core.Path.{◌≡◌, refl, sym, ap, ◌∙◌, subst}
use mathlib.Core.Bool.{Bool, true, false, cond}
use Prim.Native.Nat.{ℕ, suc, ◌-◌}
use native.Mathlib.Omega.{arith}
use lib.Dec.{ltb, leb, eqb}
use borrow.Author.Tests.{eqb-false}
use Rattle.laws.proofs.Booleans.{cond_elim, no}
use Rattle.record.specs.declared.queues.Processor.{Processor}
use Rattle.record.specs.declared.queues.Queue.{Queue}
use Rattle.record.specs.declared.stages.Place.{Place}
use Rattle.record.specs.declared.stages.Seek.{Seek}
use Rattle.record.specs.declared.stages.Seek.TheVariants as seek
use Rattle.record.specs.declared.stages.Insert.{Insert}
use Rattle.record.specs.declared.stages.Insert.TheVariants as ins
use Rattle.record.specs.declared.stages.Removal.{Removal}
use Rattle.record.specs.declared.stages.Removal.TheVariants as rem
use Rattle.record.specs.declared.stages.Job.{Job}
use Rattle.record.specs.declared.stages.Job.TheVariants as jobs
use Rattle.record.specs.declared.stages.Delete.{Delete}
use Rattle.record.specs.declared.stages.Delete.TheVariants as del
use Rattle.record.specs.declared.stages.Relaxed.{Relaxed}
use Rattle.record.specs.declared.stages.Relaxed.TheVariants as rlx
use Rattle.record.specs.declared.stages.Wanted.{Wanted}
use Rattle.record.specs.declared.stages.Remove.{Remove}
use Rattle.record.specs.declared.stages.Remove.TheVariants as rmv
use Rattle.record.specs.declared.stages.Stage.{Stage}
use Rattle.record.specs.declared.stages.Stage.TheVariants as stage
use Rattle.record.specs.Queues.{processor_at}
use Rattle.record.specs.Stages.{is_idle}
use Rattle.rules.specs.declared.answers.Answer.{Answer}
use Rattle.rules.specs.declared.answers.Answer.TheVariants as ans
use Rattle.rules.specs.declared.answers.Outcome.{Outcome}
use Rattle.rules.specs.declared.calls.Call.TheVariants as call
use Rattle.rules.specs.declared.decisions.Decision.{Decision}
use Rattle.rules.specs.declared.decisions.Searched.{Searched}
use Rattle.rules.specs.declared.decisions.Sought.{Sought}
use Rattle.rules.specs.declared.decisions.StepView.{StepView}
use Rattle.rules.specs.Answers.{is_waits}
use Rattle.rules.specs.Calls.{reading_place, step_view_of, step_decision, called}
use Rattle.rules.specs.Decide.{attempt, waits, search_step, seek_step, place_tried}
use Rattle.rules.specs.Decide.{insert_searched, insert_sought, insert_step}
use Rattle.rules.specs.Decide.{removing, removal_searched, removal_sought, node_tried, own_tried}
use Rattle.rules.specs.Decide.{removal_step, delete_step, relaxed_step, remove_searched}
use Rattle.rules.specs.Decide.{remove_step, decide}
use Rattle.rules.specs.Locks.{Lock, level, node, holder_of}
use Rattle.rules.specs.Locks.{Asks, insert_place, removal_place, own_node, own_level}
use Rattle.rules.specs.Runs.{Reply, answered, counted, listed}
use Rattle.rules.specs.Waits.{Holder, WaitsForTheHolder, answer_by, WhoAsksIsTold}
use Rattle.rules.proofs.Allowed.{of_call}
use Rattle.rules.proofs.Inner.{call_inner, step_accepted}

-- the stage asks for a lock that the step has read, and h holds it
pub data Told (s : StepView) (h : ℕ) : Stage → Type 0 where
  for_link : (a : Place) → s.place_lock ≡ suc h → Told s h (stage.Insert (ins.Seek (seek.Take a)))
  for_unlink : (job : Job) (a : Place) → s.place_lock ≡ suc h →
      Told s h (stage.Removal job (rem.Seek (seek.Take a)))
  for_node : (job : Job) → s.own_node_lock ≡ suc h → Told s h (stage.Removal job rem.HoldNode)
  for_own : (job : Job) (a : Place) → s.own_lock ≡ suc h →
      Told s h (stage.Removal job (rem.HoldOwn a))

-- the decision keeps the stage, and tells who holds the lock
pub record Stands (s : StepView) (g : Stage) (d : Decision) : Type 0 where
  pub holder : ℕ
  pub told : Told s holder g
  pub same : d ≡ waits s g holder

-- what follows an attempt waits for the holder of a lock that is held
tried :
    (s : StepView) (g : Stage) (make : Option ℕ → Decision) (lock : ℕ) →
    is_waits (make None).answer ≡ false →
    ((h : ℕ) → make (Some h) ≡ waits s g h) →
    ((h : ℕ) → lock ≡ suc h → Told s h g) →
    is_waits (make (attempt lock)).answer ≡ true → Stands s g (make (attempt lock))
tried s g make lock goes stays told = go (eqb lock 0) refl
  where
    go : (t : Bool) → eqb lock 0 ≡ t →
        is_waits (make (cond t None (Some (lock - 1)))).answer ≡ true →
        Stands s g (make (cond t None (Some (lock - 1))))
    go true z e = no (sym goes ∙ e)
    go false z e = record {
      holder = lock - 1;
      told = told (lock - 1) (let n = eqb-false lock 0 z in omega arith);
      same = stays (lock - 1);
    }

-- every decision that waits
module _ (s : StepView) where
  abbrev Waiting : Stage → Decision → Type 0
  Waiting g d = is_waits d.answer ≡ true → Stands s g d

  insert_search :
      (a : Place) → Waiting (stage.Insert (ins.Search a)) (insert_searched s a (search_step s a))
  insert_search a =
      let g = stage.Insert (ins.Search a) in
      let P : Searched → Type 0 = λ o. Waiting g (insert_searched s a o) in
      cond_elim P s.next_before_key _ _ no (cond_elim P (leb a.level 1) _ _ no no)

  insert_seek : (k : Seek) → Waiting (stage.Insert (ins.Seek k)) (insert_sought s (seek_step s k))
  insert_seek (seek.Approach a) =
      let g = stage.Insert (ins.Seek (seek.Approach a)) in
      cond_elim (λ (o : Sought). Waiting g (insert_sought s o)) s.next_before_key _ _ no no
  insert_seek (seek.Take a) =
      tried s _ (λ t. insert_sought s (place_tried a t)) s.place_lock refl (λ h. refl)
      (λ h. for_link a)
  insert_seek (seek.Confirm a) =
      let g = stage.Insert (ins.Seek (seek.Confirm a)) in
      cond_elim (λ (o : Sought). Waiting g (insert_sought s o)) s.next_before_key _ _ no no
  insert_seek (seek.Release a b) = no

  insert_waits : (i : Insert) → Waiting (stage.Insert i) (insert_step s i)
  insert_waits (ins.Search a) = insert_search a
  insert_waits (ins.Seek k) = insert_seek k
  insert_waits (ins.Copy a) = no
  insert_waits (ins.Link a) = no
  insert_waits (ins.FreeLevel a) =
      cond_elim (Waiting (stage.Insert (ins.FreeLevel a))) (ltb a.level s.height) _ _ no no
  insert_waits ins.FreeNode = no
  insert_waits ins.Stamp = no

  removal_search :
      (j : Job) (a : Place) →
      Waiting (removing j (rem.Search a)) (removal_searched j s a (search_step s a))
  removal_search j a =
      let g = removing j (rem.Search a) in
      let P : Searched → Type 0 = λ o. Waiting g (removal_searched j s a o) in
      cond_elim P s.next_before_key _ _ no (cond_elim P (leb a.level 1) _ _ no no)

  removal_seek :
      (j : Job) (k : Seek) → Waiting (removing j (rem.Seek k)) (removal_sought j s (seek_step s k))
  removal_seek j (seek.Approach a) =
      let g = removing j (rem.Seek (seek.Approach a)) in
      cond_elim (λ (o : Sought). Waiting g (removal_sought j s o)) s.next_before_key _ _ no no
  removal_seek j (seek.Take a) =
      tried s _ (λ t. removal_sought j s (place_tried a t)) s.place_lock refl (λ h. refl)
      (λ h. for_unlink j a)
  removal_seek j (seek.Confirm a) =
      let g = removing j (rem.Seek (seek.Confirm a)) in
      cond_elim (λ (o : Sought). Waiting g (removal_sought j s o)) s.next_before_key _ _ no no
  removal_seek j (seek.Release a b) = no

  removal_waits : (j : Job) (r : Removal) → Waiting (removing j r) (removal_step j s r)
  removal_waits j (rem.Search a) = removal_search j a
  removal_waits j rem.HoldNode =
      tried s _ (node_tried j s) s.own_node_lock refl (λ h. refl) (λ h. for_node j)
  removal_waits j (rem.Seek k) = removal_seek j k
  removal_waits j (rem.HoldOwn a) =
      tried s _ (own_tried j s a) s.own_lock refl (λ h. refl) (λ h. for_own j a)
  removal_waits j (rem.Unlink a) = no
  removal_waits j (rem.LeadBack a) = no
  removal_waits j (rem.FreeOwn a) = no
  removal_waits j (rem.FreeLevel a) =
      cond_elim (Waiting (removing j (rem.FreeLevel a))) (leb a.level 1) _ _ no no
  removal_waits j rem.FreeNode = no
  removal_waits jobs.Deliver rem.Retire = no
  removal_waits jobs.TakeBack rem.Retire = no

  delete_waits : (d : Delete) → Waiting (stage.Delete d) (delete_step s d)
  delete_waits (del.ReadNext a) =
      cond_elim (Waiting (stage.Delete (del.ReadNext a))) s.next_is_tail _ _ no no
  delete_waits (del.TestStamp a) =
      cond_elim (Waiting (stage.Delete (del.TestStamp a))) s.stamped _ _ no no
  delete_waits (del.SetMark a) =
      cond_elim (Waiting (stage.Delete (del.SetMark a))) s.marked _ _ no no

  relaxed_waits : (d : Relaxed) → Waiting (stage.Relaxed d) (relaxed_step s d)
  relaxed_waits (rlx.ReadNext a) =
      cond_elim (Waiting (stage.Relaxed (rlx.ReadNext a))) s.next_is_tail _ _ no
      (cond_elim (Waiting (stage.Relaxed (rlx.ReadNext a))) (eqb s.next 0) _ _ no no)
  relaxed_waits (rlx.SetMark a) =
      cond_elim (Waiting (stage.Relaxed (rlx.SetMark a))) s.marked _ _ no no

  remove_waits : (w : Wanted) (d : Remove) → Waiting (stage.Remove w d) (remove_step s w d)
  remove_waits w (rmv.Search a) =
      let g = stage.Remove w (rmv.Search a) in
      let P : Searched → Type 0 = λ o. Waiting g (remove_searched s w a o) in
      cond_elim P s.next_before_key _ _ no (cond_elim P (leb a.level 1) _ _ no no)
  remove_waits w (rmv.ReadNext a) =
      let g = stage.Remove w (rmv.ReadNext a) in
      cond_elim (Waiting g) s.next_before_key _ _ no
      (cond_elim (Waiting g) s.next_has_key _ _ no no)
  remove_waits w (rmv.TestStamp a) =
      cond_elim (Waiting (stage.Remove w (rmv.TestStamp a))) s.stamped _ _ no no
  remove_waits w (rmv.SetMark a) =
      cond_elim (Waiting (stage.Remove w (rmv.SetMark a))) s.marked _ _ no no

  pub stands : (g : Stage) → Waiting g (decide s g)
  stands stage.Idle = no
  stands (stage.Insert i) = insert_waits i
  stands (stage.Delete d) = delete_waits d
  stands (stage.Relaxed d) = relaxed_waits d
  stands (stage.Remove w d) = remove_waits w d
  stands (stage.Removal j r) = removal_waits j r

-- the lock that a step has read is the one that its stage asks for
asked_for :
    (q : Queue) (p h : ℕ) (g : Stage) → (processor_at q p).stage ≡ g →
    Told (step_view_of q (processor_at q p) (reading_place g)) h g → Holder q p h
asked_for q p h g e (for_link a x) =
    record { lock = level a.node a.level; asks = insert_place a e; holds = x }
asked_for q p h g e (for_unlink job a x) =
    record { lock = level a.node a.level; asks = removal_place job a e; holds = x }
asked_for q p h g e (for_node job x) =
    record { lock = node (processor_at q p).own; asks = own_node job e; holds = x }
asked_for q p h g e (for_own job a x) = record {
  lock = level (processor_at q p).own a.level;
  asks = own_level job a e;
  holds = x;
}

-- whom an answer names
abbrev named : Answer → ℕ
named (ans.Refused n) = 0
named (ans.Began t) = 0
named ans.Moved = 0
named (ans.Waits h) = h
named ans.Empty = 0
named (ans.NotThere w) = 0
named (ans.Did d e) = 0

abbrev answer_in : Reply → Answer
answer_in (answered a) = a
answer_in (counted k) = ans.Moved
answer_in (listed k area) = ans.Moved

pub waits_for_the_holder : WaitsForTheHolder
waits_for_the_holder q p h e =
    of_call (λ (o : Outcome). o.answer ≡ ans.Waits h → Holder q p h) q (call.Step p)
    (λ n x. no (ap is_waits x)) (λ v A x. from x) (ap answer_in e)
  where
    c : Processor
    c = processor_at q p

    from : (step_decision q c).answer ≡ ans.Waits h → Holder q p h
    from x =
        let S = stands (step_view_of q c (reading_place c.stage)) c.stage (ap is_waits x) in
        let same : S.holder ≡ h =
        sym (ap (λ (d : Decision). named d.answer) S.same) ∙ ap named x in
        subst (Holder q p) same (asked_for q p S.holder c.stage refl S.told)

-- what a decision answers that follows an attempt
link_told : (s : StepView) (a : Place) (t : Option ℕ) →
    (insert_sought s (place_tried a t)).answer ≡ answer_by t
link_told s a None = refl
link_told s a (Some h) = refl

unlink_told : (job : Job) (s : StepView) (a : Place) (t : Option ℕ) →
    (removal_sought job s (place_tried a t)).answer ≡ answer_by t
unlink_told job s a None = refl
unlink_told job s a (Some h) = refl

node_told : (job : Job) (s : StepView) (t : Option ℕ) → (node_tried job s t).answer ≡ answer_by t
node_told job s None = refl
node_told job s (Some h) = refl

own_told : (job : Job) (s : StepView) (a : Place) (t : Option ℕ) →
    (own_tried job s a t).answer ≡ answer_by t
own_told job s a None = refl
own_told job s a (Some h) = refl

pub who_asks_is_told : WhoAsksIsTold
who_asks_is_told q p l M asks = ap answered (told l asks)
  where
    c : Processor
    c = processor_at q p

    see : Stage → StepView
    see g = step_view_of q c (reading_place g)

    decides : (g : Stage) → c.stage ≡ g → is_idle g ≡ false →
        (called q (call.Step p)).answer ≡ (decide (see g) g).answer
    decides g e b =
        ap (λ (o : Outcome). o.answer)
        (call_inner q (call.Step p) M.passes
        ∙ step_accepted q p M.ticks M.here (ap is_idle e ∙ b))
        ∙ ap (λ (g : Stage). (decide (see g) g).answer) e

    told : (l : Lock) → Asks c l →
        (called q (call.Step p)).answer ≡ answer_by (attempt (holder_of q l))
    told l (insert_place a e) =
        let g = stage.Insert (ins.Seek (seek.Take a)) in
        decides g e refl ∙ link_told (see g) a (attempt (see g).place_lock)
    told l (removal_place job a e) =
        let g = removing job (rem.Seek (seek.Take a)) in
        decides g e refl ∙ unlink_told job (see g) a (attempt (see g).place_lock)
    told l (own_node job e) =
        let g = removing job rem.HoldNode in
        decides g e refl ∙ node_told job (see g) (attempt (see g).own_node_lock)
    told l (own_level job a e) =
        let g = removing job (rem.HoldOwn a) in
        decides g e refl ∙ own_told job (see g) a (attempt (see g).own_lock)
