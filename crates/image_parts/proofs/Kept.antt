-- Each call keeps the arrays' lengths, and a refused one gives the record as it came. Assumes
-- nothing.
use mathlib.Core.Path.{◌≡◌, refl, sym, ◌∙◌}
use mathlib.Core.Bool.{true, false, true≢false}
use Prim.Native.Nat.{ℕ}
use lib.Dec.{ltb, leb, eqb}
use Rattle.laws.proofs.Booleans.{cond_elim}
use Rattle.image.specs.OneToOne.{Sized}
use Rattle.record.specs.declared.queues.Queue.{Queue}
use Rattle.record.specs.declared.refusals.Refusal.{Refusal}
use Rattle.record.specs.declared.stages.Place.{Place}
use Rattle.record.specs.declared.stages.Insert.{Insert}
use Rattle.record.specs.declared.stages.Insert.TheVariants as ins
use Rattle.record.specs.declared.stages.Removal.{Removal}
use Rattle.record.specs.declared.stages.Removal.TheVariants as rem
use Rattle.record.specs.declared.stages.Delete.{Delete}
use Rattle.record.specs.declared.stages.Delete.TheVariants as del
use Rattle.record.specs.declared.stages.Relaxed.{Relaxed}
use Rattle.record.specs.declared.stages.Relaxed.TheVariants as rlx
use Rattle.record.specs.declared.stages.Wanted.{Wanted}
use Rattle.record.specs.declared.stages.Remove.{Remove}
use Rattle.record.specs.declared.stages.Remove.TheVariants as rmv
use Rattle.record.specs.declared.stages.Job.{Job}
use Rattle.record.specs.declared.stages.Job.TheVariants as jobs
use Rattle.record.specs.declared.stages.Stage.{Stage}
use Rattle.record.specs.declared.stages.Stage.TheVariants as stage
use Rattle.record.specs.Queues.{processor_at}
use Rattle.rules.specs.declared.answers.Outcome.{Outcome}
use Rattle.rules.specs.declared.decisions.Decision.{Decision}
use Rattle.rules.specs.declared.decisions.StepView.{StepView}
use Rattle.rules.specs.declared.decisions.Searched.{Searched}
use Rattle.rules.specs.declared.decisions.Searched.TheVariants as srch
use Rattle.rules.specs.declared.decisions.Sought.{Sought}
use Rattle.rules.specs.declared.decisions.Sought.TheVariants as sght
use Rattle.rules.specs.Answers.{refused, is_refused}
use Rattle.rules.specs.declared.calls.Call.{Call}
use Rattle.rules.specs.declared.calls.Call.TheVariants as call
use Rattle.rules.specs.Calls.{decision_of, processor_of, called}
use Rattle.rules.proofs.Allowed.{of_call}
use Rattle.rules.specs.Decide.{search_step, seek_step, insert_searched, insert_sought, insert_step}
use Rattle.rules.specs.Decide.{removal_searched, removal_sought, removal_step, delete_step, decide}
use Rattle.rules.specs.Decide.{node_tried, own_tried, relaxed_step, remove_searched, remove_step}
use Rattle.rules.specs.Effects.{accepted}
use Rattle.rules.specs.Runs.{Turn, calls, backlog, markers, after}
use Rattle.image_parts.proofs.Arrays.{applied_sized}

pub record Kept (q : Queue) (o : Outcome) : Type 0 where
  pub sized : Sized o.queue
  pub stays : is_refused o.answer ≡ true → o.queue ≡ q

-- no decision is a refusal
abbrev Answers : Decision → Type 0
Answers d = is_refused d.answer ≡ false

insert_searched_lem : (s : StepView) (a : Place) (x : Searched) → Answers (insert_searched s a x)
insert_searched_lem s a (srch.Ahead b) = refl
insert_searched_lem s a (srch.Down b) = refl
insert_searched_lem s a (srch.Done b) = refl

insert_sought_lem : (s : StepView) (x : Sought) → Answers (insert_sought s x)
insert_sought_lem s (sght.Goes e k) = refl
insert_sought_lem s (sght.Waits k h) = refl
insert_sought_lem s (sght.Done a) = refl

insert_answers : (s : StepView) (i : Insert) → Answers (insert_step s i)
insert_answers s (ins.Search a) = insert_searched_lem s a (search_step s a)
insert_answers s (ins.Seek k) = insert_sought_lem s (seek_step s k)
insert_answers s (ins.Copy a) = refl
insert_answers s (ins.Link a) = refl
insert_answers s (ins.FreeLevel a) = cond_elim Answers (ltb a.level s.height) _ _ refl refl
insert_answers s ins.FreeNode = refl
insert_answers s ins.Stamp = refl

removal_searched_lem :
    (j : Job) (s : StepView) (a : Place) (x : Searched) → Answers (removal_searched j s a x)
removal_searched_lem j s a (srch.Ahead b) = refl
removal_searched_lem j s a (srch.Down b) = refl
removal_searched_lem j s a (srch.Done b) = refl

removal_sought_lem : (j : Job) (s : StepView) (x : Sought) → Answers (removal_sought j s x)
removal_sought_lem j s (sght.Goes e k) = refl
removal_sought_lem j s (sght.Waits k h) = refl
removal_sought_lem j s (sght.Done a) = refl

removal_answers : (j : Job) (s : StepView) (r : Removal) → Answers (removal_step j s r)
removal_answers j s (rem.Search a) = removal_searched_lem j s a (search_step s a)
removal_answers j s rem.HoldNode =
    cond_elim (λ t. Answers (node_tried j s t)) (eqb s.own_node_lock 0) _ _ refl refl
removal_answers j s (rem.Seek k) = removal_sought_lem j s (seek_step s k)
removal_answers j s (rem.HoldOwn a) =
    cond_elim (λ t. Answers (own_tried j s a t)) (eqb s.own_lock 0) _ _ refl refl
removal_answers j s (rem.Unlink a) = refl
removal_answers j s (rem.LeadBack a) = refl
removal_answers j s (rem.FreeOwn a) = refl
removal_answers j s (rem.FreeLevel a) = cond_elim Answers (leb a.level 1) _ _ refl refl
removal_answers j s rem.FreeNode = refl
removal_answers jobs.Deliver s rem.Retire = refl
removal_answers jobs.TakeBack s rem.Retire = refl

delete_answers : (s : StepView) (d : Delete) → Answers (delete_step s d)
delete_answers s (del.ReadNext a) = cond_elim Answers s.next_is_tail _ _ refl refl
delete_answers s (del.TestStamp a) = cond_elim Answers s.stamped _ _ refl refl
delete_answers s (del.SetMark a) = cond_elim Answers s.marked _ _ refl refl

relaxed_answers : (s : StepView) (d : Relaxed) → Answers (relaxed_step s d)
relaxed_answers s (rlx.ReadNext a) =
    cond_elim Answers s.next_is_tail _ _ refl
    (cond_elim Answers (eqb s.next 0) _ _ refl refl)
relaxed_answers s (rlx.SetMark a) = cond_elim Answers s.marked _ _ refl refl

remove_searched_lem :
    (s : StepView) (w : Wanted) (a : Place) (x : Searched) → Answers (remove_searched s w a x)
remove_searched_lem s w a (srch.Ahead b) = refl
remove_searched_lem s w a (srch.Down b) = refl
remove_searched_lem s w a (srch.Done b) = refl

remove_answers : (s : StepView) (w : Wanted) (x : Remove) → Answers (remove_step s w x)
remove_answers s w (rmv.Search a) = remove_searched_lem s w a (search_step s a)
remove_answers s w (rmv.ReadNext a) =
    cond_elim Answers s.next_before_key _ _ refl
    (cond_elim Answers s.next_has_key _ _ refl refl)
remove_answers s w (rmv.TestStamp a) = cond_elim Answers s.stamped _ _ refl refl
remove_answers s w (rmv.SetMark a) = cond_elim Answers s.marked _ _ refl refl

decision_answers : (s : StepView) (g : Stage) → Answers (decide s g)
decision_answers s stage.Idle = refl
decision_answers s (stage.Insert i) = insert_answers s i
decision_answers s (stage.Delete d) = delete_answers s d
decision_answers s (stage.Relaxed d) = relaxed_answers s d
decision_answers s (stage.Remove w x) = remove_answers s w x
decision_answers s (stage.Removal j r) = removal_answers j s r

module _ (q : Queue) (S : Sized q) where
  kept_refused : (n : Refusal) → Kept q (refused q n)
  kept_refused n = record { sized = S; stays = λ h. refl }

  kept_accepted : (p : ℕ) (d : Decision) → Answers d → Kept q (accepted q p d)
  kept_accepted p d e =
      record { sized = applied_sized q S p d; stays = λ h. absurd (true≢false (sym h ∙ e)) }

  -- no call's decision is a refusal
  answers : (c : Call) → Answers (decision_of q c)
  answers (call.Insert p due item height) = refl
  answers (call.DeleteMin p) = refl
  answers (call.Relaxed p) = refl
  answers (call.Remove p due ticket) = refl
  answers (call.Step p) = decision_answers _ (processor_at q p).stage

  pub kept_call : (c : Call) → Kept q (called q c)
  kept_call c =
      of_call (Kept q) q c kept_refused
      (λ _ _. kept_accepted (processor_of c) (decision_of q c) (answers c))

-- a turn of any kind
pub sized_after : (q : Queue) → Sized q → (c : Turn) → Sized (after q c)
sized_after q S (calls c) = (kept_call q S c).sized
sized_after q S backlog = S
sized_after q S (markers area) = S
