-- What becomes of a mark, on any record: a turn leaves the mark of a node as it is, or a step of
-- processor p sets it where it was 0, or an Insert takes the node and clears it. And who set a mark
-- is seen by no call: what a call reads, refuses and decides is the same on the record whose marks
-- are all those of processor 0. Assumes nothing.
use Rattle.std.proofs.lemmas.List.{map-set}
use Rattle.std.specs.Prelude.{Result, Ok, Err, Option, Some, None}
use mathlib.Core.Path.{◌≡◌, refl, sym, ap, ap₂, ◌∙◌, subst, fun_ext}
use mathlib.Core.Bool.{Bool, true, false, cond}
use mathlib.Core.List.{List, [], map, map-map}
use Prim.Native.Nat.{ℕ, suc, ◌+◌, ◌*◌}
use native.Mathlib.Omega.{arith}
use lib.Dec.{ltb, leb, eqb}
use lib.ListN.{length, set, get_or-map}
use borrow.Author.Tests.{ltb-true, ltb-false}
use Rattle.laws.proofs.Booleans.{cond_cases, cond_elim}
use Rattle.laws.specs.HowMany.{how_many}
use Rattle.record_check.specs.Backlog.{holds_pending, is_pending, pending_at, backlog_of}
use Rattle.record_check.specs.Check.{valid}
use Rattle.record_markers.specs.Markers.{used_count, markers_of}
use Rattle.record.specs.declared.refusals.Refusal.{Refusal}
use Rattle.record.specs.declared.refusals.Refusal.TheVariants as refusal
use Rattle.record.specs.declared.nodes.Node.{Node}
use Rattle.record.specs.declared.nodes.Use.{Use}
use Rattle.record.specs.declared.queues.Processor.{Processor}
use Rattle.record.specs.declared.queues.Queue.{Queue}
use Rattle.record.specs.declared.stages.Place.{Place}
use Rattle.record.specs.declared.stages.Insert.{Insert}
use Rattle.record.specs.declared.stages.Insert.TheVariants as ins
use Rattle.record.specs.declared.stages.Removal.{Removal}
use Rattle.record.specs.declared.stages.Removal.TheVariants as rem
use Rattle.record.specs.declared.stages.Job.{Job}
use Rattle.record.specs.declared.stages.Delete.{Delete}
use Rattle.record.specs.declared.stages.Delete.TheVariants as del
use Rattle.record.specs.declared.stages.Seek.{Seek}
use Rattle.record.specs.declared.stages.Seek.TheVariants as seek
use Rattle.record.specs.declared.stages.Relaxed.{Relaxed}
use Rattle.record.specs.declared.stages.Relaxed.TheVariants as rlx
use Rattle.record.specs.declared.stages.Wanted.{Wanted}
use Rattle.record.specs.declared.stages.Remove.{Remove}
use Rattle.record.specs.declared.stages.Remove.TheVariants as rmv
use Rattle.record.specs.declared.stages.Stage.{Stage}
use Rattle.record.specs.declared.stages.Stage.TheVariants as stage
use Rattle.record.specs.Nodes.{fresh_node, is_marked, is_in_use, with_mark}
use Rattle.record.specs.Queues.{node_at, processor_at}
use Rattle.record.specs.Stages.{row_of}
use Rattle.rules.specs.declared.answers.Outcome.{Outcome}
use Rattle.rules.specs.declared.calls.Call.{Call}
use Rattle.rules.specs.declared.calls.Call.TheVariants as call
use Rattle.rules.specs.declared.decisions.Effect.{Effect}
use Rattle.rules.specs.declared.decisions.Effect.TheVariants as eff
use Rattle.rules.specs.declared.decisions.Decision.{Decision}
use Rattle.rules.specs.declared.decisions.Searched.{Searched}
use Rattle.rules.specs.declared.decisions.Searched.TheVariants as srch
use Rattle.rules.specs.declared.decisions.Sought.{Sought}
use Rattle.rules.specs.declared.decisions.Sought.TheVariants as sght
use Rattle.rules.specs.declared.decisions.StepView.{StepView}
use Rattle.rules.specs.Answers.{refused}
use Rattle.rules.specs.Calls.{reading_place, next_of, step_view_of, step_decision, insert_decision}
use Rattle.rules.specs.Calls.{decision_of, processor_of, refusal_of, outcome_by, called_valid, called}
use Rattle.rules.specs.Choice.{state_of, chosen}
use Rattle.rules.specs.Decide.{decide, search_step, seek_step}
use Rattle.rules.specs.Decide.{insert_searched, insert_sought, insert_step}
use Rattle.rules.specs.Decide.{removal_searched, removal_sought, removal_step, delete_step}
use Rattle.rules.specs.Decide.{relaxed_step, remove_searched, remove_step}
use Rattle.rules.specs.Decide.{place_tried, node_tried, own_tried}
use Rattle.rules.specs.Effects.{changed, node_of, applied, accepted}
use Rattle.rules.specs.Marks.{Takes, SetMarkStays, NewMarkIsTheCallers, NoAnswerSeesWho}
use Rattle.rules.specs.Marks.{anonymous_node, anonymous}
use Rattle.rules.specs.Runs.{Turn, calls, backlog, markers, step_by, after}
use Rattle.rules.specs.Runs.{answered, counted, listed}
use Rattle.rules.proofs.Allowed.{of_call}
use Rattle.rules.proofs.Slots.{set_either}

-- what the mark of node x may be after the turn c
data MarkAfter (q : Queue) (c : Turn) (x : ℕ) : ℕ → Type 0 where
  stays : MarkAfter q c x (node_at q x).mark
  sets : (p : ℕ) → c ≡ step_by p → (node_at q x).mark ≡ 0 → MarkAfter q c x (p + 1)
  clears : Takes q c x → MarkAfter q c x 0

no_mark : (m : ℕ) → is_marked m ≡ false → m ≡ 0
no_mark m h = omega (arith, ltb-false 0 m h)

-- an effect that fills no node, and marks only one whose mark is 0
abbrev Spares : Queue → Effect → Type 0
Spares q eff.Keep = Unit {0}
Spares q (eff.HoldLevel a) = Unit {0}
Spares q (eff.FreeLevel a) = Unit {0}
Spares q (eff.SetForward a x) = Unit {0}
Spares q (eff.HoldNode x) = Unit {0}
Spares q (eff.FreeNode x) = Unit {0}
Spares q (eff.Mark x) = (node_at q x).mark ≡ 0
Spares q (eff.Stamp x) = Unit {0}
Spares q (eff.Retire x) = Unit {0}
Spares q (eff.Fill x due item height) = ⊥

-- a step reads at the node of its stage's place
reads_there : (g : Stage) → (reading_place g).node ≡ (row_of g).place.node
reads_there g =
    cond_elim (λ (a : Place). a.node ≡ (row_of g).place.node) (row_of g).walks _ _ refl refl

-- every decision of a step has such an effect
module _ (q : Queue) where
  abbrev Sparing : Decision → Type 0
  Sparing d = Spares q d.effect

  abbrev SoughtSpares : Sought → Type 0
  SoughtSpares (sght.Goes e k) = Spares q e
  SoughtSpares (sght.Waits k h) = Unit {0}
  SoughtSpares (sght.Done a) = Unit {0}

  seek_spares : (s : StepView) (k : Seek) → SoughtSpares (seek_step s k)
  seek_spares s (seek.Approach a) = cond_elim SoughtSpares s.next_before_key _ _ tt tt
  seek_spares s (seek.Take a) = cond_elim (λ t. SoughtSpares (place_tried a t)) (eqb s.place_lock 0) _ _ tt tt
  seek_spares s (seek.Confirm a) = cond_elim SoughtSpares s.next_before_key _ _ tt tt
  seek_spares s (seek.Release a b) = tt

  insert_searched_lem : (s : StepView) (a : Place) (r : Searched) → Sparing (insert_searched s a r)
  insert_searched_lem s a (srch.Ahead b) = tt
  insert_searched_lem s a (srch.Down b) = tt
  insert_searched_lem s a (srch.Done b) = tt

  insert_sought_lem : (s : StepView) (r : Sought) → SoughtSpares r → Sparing (insert_sought s r)
  insert_sought_lem s (sght.Goes e k) h = h
  insert_sought_lem s (sght.Waits k l) h = tt
  insert_sought_lem s (sght.Done a) h = tt

  insert_spares : (s : StepView) (i : Insert) → Sparing (insert_step s i)
  insert_spares s (ins.Search a) = insert_searched_lem s a (search_step s a)
  insert_spares s (ins.Seek k) = insert_sought_lem s (seek_step s k) (seek_spares s k)
  insert_spares s (ins.Copy a) = tt
  insert_spares s (ins.Link a) = tt
  insert_spares s (ins.FreeLevel a) = cond_elim Sparing (ltb a.level s.height) _ _ tt tt
  insert_spares s ins.FreeNode = tt
  insert_spares s ins.Stamp = tt

  removal_searched_lem :
      (job : Job) (s : StepView) (a : Place) (r : Searched) → Sparing (removal_searched job s a r)
  removal_searched_lem job s a (srch.Ahead b) = tt
  removal_searched_lem job s a (srch.Down b) = tt
  removal_searched_lem job s a (srch.Done b) = tt

  removal_sought_lem :
      (job : Job) (s : StepView) (r : Sought) → SoughtSpares r → Sparing (removal_sought job s r)
  removal_sought_lem job s (sght.Goes e k) h = h
  removal_sought_lem job s (sght.Waits k l) h = tt
  removal_sought_lem job s (sght.Done a) h = tt

  removal_spares : (job : Job) (s : StepView) (r : Removal) → Sparing (removal_step job s r)
  removal_spares job s (rem.Search a) = removal_searched_lem job s a (search_step s a)
  removal_spares job s rem.HoldNode =
      cond_elim (λ t. Sparing (node_tried job s t)) (eqb s.own_node_lock 0) _ _ tt tt
  removal_spares job s (rem.Seek k) = removal_sought_lem job s (seek_step s k) (seek_spares s k)
  removal_spares job s (rem.HoldOwn a) =
      cond_elim (λ t. Sparing (own_tried job s a t)) (eqb s.own_lock 0) _ _ tt tt
  removal_spares job s (rem.Unlink a) = tt
  removal_spares job s (rem.LeadBack a) = tt
  removal_spares job s (rem.FreeOwn a) = tt
  removal_spares job s (rem.FreeLevel a) = cond_elim Sparing (leb a.level 1) _ _ tt tt
  removal_spares job s rem.FreeNode = tt
  removal_spares job s rem.Retire = tt

  -- the view tells whether the place's node has a mark
  abbrev Tells : StepView → Stage → Type 0
  Tells s g = s.marked ≡ is_marked (node_at q (row_of g).place.node).mark

  delete_spares : (s : StepView) (d : Delete) → Tells s (stage.Delete d) → Sparing (delete_step s d)
  delete_spares s (del.ReadNext a) m = cond_elim Sparing s.next_is_tail _ _ tt tt
  delete_spares s (del.TestStamp a) m = cond_elim Sparing s.stamped _ _ tt tt
  delete_spares s (del.SetMark a) m =
      cond_cases Sparing s.marked _ _ (λ _. tt)
      (λ unset. no_mark (node_at q a.node).mark (sym m ∙ unset))

  relaxed_spares :
      (s : StepView) (d : Relaxed) → Tells s (stage.Relaxed d) → Sparing (relaxed_step s d)
  relaxed_spares s (rlx.ReadNext a) m =
      cond_elim Sparing s.next_is_tail _ _ tt (cond_elim Sparing (eqb s.next 0) _ _ tt tt)
  relaxed_spares s (rlx.SetMark a) m =
      cond_cases Sparing s.marked _ _ (λ _. tt)
      (λ unset. no_mark (node_at q a.node).mark (sym m ∙ unset))

  remove_spares :
      (s : StepView) (w : Wanted) (d : Remove) → Tells s (stage.Remove w d) →
      Sparing (remove_step s w d)
  remove_spares s w (rmv.Search a) m =
      let P : Searched → Type 0 = λ o. Sparing (remove_searched s w a o) in
      cond_elim P s.next_before_key _ _ tt (cond_elim P (leb a.level 1) _ _ tt tt)
  remove_spares s w (rmv.ReadNext a) m =
      cond_elim Sparing s.next_before_key _ _ tt (cond_elim Sparing s.next_has_key _ _ tt tt)
  remove_spares s w (rmv.TestStamp a) m = cond_elim Sparing s.stamped _ _ tt tt
  remove_spares s w (rmv.SetMark a) m =
      cond_cases Sparing s.marked _ _ (λ _. tt)
      (λ unset. no_mark (node_at q a.node).mark (sym m ∙ unset))

  decide_spares : (s : StepView) (g : Stage) → Tells s g → Sparing (decide s g)
  decide_spares s stage.Idle m = tt
  decide_spares s (stage.Insert i) m = insert_spares s i
  decide_spares s (stage.Delete d) m = delete_spares s d m
  decide_spares s (stage.Relaxed d) m = relaxed_spares s d m
  decide_spares s (stage.Remove w d) m = remove_spares s w d m
  decide_spares s (stage.Removal job r) m = removal_spares job s r

  step_spares : (c : Processor) → Sparing (step_decision q c)
  step_spares c =
      let g = c.stage in
      decide_spares (step_view_of q c (reading_place g)) g
      (ap (λ (x : ℕ). is_marked (node_at q x).mark) (reads_there g))

  -- the mark of the node that a step changes
  step_marks :
      (p l tail t : ℕ) (e : Effect) → Spares q e →
      MarkAfter q (step_by p) (node_of e)
      (changed l tail (p + 1) t e (node_at q (node_of e))).mark
  step_marks p l tail t eff.Keep h = stays
  step_marks p l tail t (eff.HoldLevel a) h = stays
  step_marks p l tail t (eff.FreeLevel a) h = stays
  step_marks p l tail t (eff.SetForward a x) h = stays
  step_marks p l tail t (eff.HoldNode x) h = stays
  step_marks p l tail t (eff.FreeNode x) h = stays
  step_marks p l tail t (eff.Mark x) h = sets p refl h
  step_marks p l tail t (eff.Stamp x) h = stays
  step_marks p l tail t (eff.Retire x) h = stays
  step_marks p l tail t (eff.Fill x due item height) h = absurd h

  -- what an accepted call writes for a mark, if node x is the one that it writes
  abbrev Written : Call → ℕ → Type 0
  Written c x =
      let e = (decision_of q c).effect in
      MarkAfter q (calls c) x
      (changed q.level_count (q.node_count + 1) (processor_of c + 1) (q.clock + 1) e
      (node_at q (node_of e))).mark

  -- it is the node that the call writes
  written :
      (c : Call) → called q c ≡ accepted q (processor_of c) (decision_of q c) →
      Written c (node_of (decision_of q c).effect)
  written (call.Insert p due item height) made =
      clears (record {
        processor = p;
        due = due;
        item = item;
        height = height;
        inserts = refl;
        begins = ap (λ (o : Outcome). answered o.answer) made;
        node = refl;
      })
  written (call.DeleteMin p) made = stays
  written (call.Relaxed p) made = stays
  written (call.Remove p due ticket) made = stays
  written (call.Step p) made =
      let c = processor_at q p in
      step_marks p q.level_count (q.node_count + 1) (q.clock + 1) (step_decision q c).effect
      (step_spares c)

  -- every turn, and every node
  mark_after : (c : Turn) (x : ℕ) → MarkAfter q c x (node_at (after q c) x).mark
  mark_after (calls c) x =
      of_call
      (λ (o : Outcome). called q c ≡ o → MarkAfter q (calls c) x (node_at o.queue x).mark) q c
      (λ r _. stays)
      (λ v A made.
      set_either (λ (n : Node). MarkAfter q (calls c) x n.mark) q.nodes _ x _ (fresh_node 0)
      (λ e. subst (Written c) (sym e) (written c made)) stays) refl
  mark_after backlog x = stays
  mark_after (markers area) x = stays

pub set_mark_stays : SetMarkStays
set_mark_stays q c x marked free = go _ (mark_after q c x)
  where
    go : (m : ℕ) → MarkAfter q c x m → m ≡ (node_at q x).mark
    go m stays = refl
    go m (sets p e unset) = absurd (omega (arith, ltb-true 0 (node_at q x).mark marked))
    go m (clears t) = absurd (free t)

pub new_mark_is_the_callers : NewMarkIsTheCallers
new_mark_is_the_callers q c x p unset set-by = go _ (mark_after q c x) set-by
  where
    go : (m : ℕ) → MarkAfter q c x m → m ≡ suc p → c ≡ step_by p
    go m stays h = absurd (omega arith)
    go m (sets r e _) h =
        let same : r ≡ p = omega arith in
        e ∙ ap step_by same
    go m (clears t) h = absurd (omega arith)

-- a mark as if processor 0 had set it tells as well as any whether there is one
still_marked : (b : Bool) → is_marked (cond b 1 0) ≡ b
still_marked true = refl
still_marked false = refl

-- so that nothing changes where that is done again
node_twice : (n : Node) → anonymous_node n ≡ anonymous_node (anonymous_node n)
node_twice n = ap (λ (b : Bool). with_mark n (cond b 1 0)) (sym (still_marked (is_marked n.mark)))

-- and Backlog counts the same nodes
pending_node : (n : Node) → holds_pending n ≡ holds_pending (anonymous_node n)
pending_node n = ap (is_pending n.state n.stamp) (sym (still_marked (is_marked n.mark)))

-- an effect on a node leaves it as on the anonymous one, but for who set the mark
module _ (l tail h t : ℕ) (n : Node) where
  abbrev by : Effect → Node
  by e = changed l tail h t e n

  changes :
      (e : Effect) →
      anonymous_node (by e) ≡ anonymous_node (changed l tail h t e (anonymous_node n))
  changes eff.Keep = node_twice n
  changes (eff.HoldLevel a) = node_twice (by (eff.HoldLevel a))
  changes (eff.FreeLevel a) = node_twice (by (eff.FreeLevel a))
  changes (eff.SetForward a x) = node_twice (by (eff.SetForward a x))
  changes (eff.HoldNode x) = node_twice (by (eff.HoldNode x))
  changes (eff.FreeNode x) = node_twice (by (eff.FreeNode x))
  changes (eff.Mark x) = refl
  changes (eff.Stamp x) = node_twice (by (eff.Stamp x))
  changes (eff.Retire x) = node_twice (by (eff.Retire x))
  changes (eff.Fill x due item height) = refl

-- the record with these nodes
abbrev with_nodes : Queue → List Node → Queue
with_nodes q l = record {
  processor_count = q.processor_count;
  node_count = q.node_count;
  level_count = q.level_count;
  clock = q.clock;
  nodes = l;
  processors = q.processors;
}

-- an outcome, but for who set the marks
abbrev anonymous_outcome : Outcome → Outcome
anonymous_outcome o = record { queue = anonymous o.queue; answer = o.answer }

-- the answer to Backlog and to markers on a record that passes check 21
abbrev pending_count : Queue → Result ℕ Refusal
pending_count q = Ok (how_many (pending_at q) q.node_count)

abbrev listed_by : ℕ → ℕ → Result ℕ Refusal
listed_by room used = cond (ltb room (2 * used)) (Err refusal.Room) (Ok used)

-- whatever is read of a record is the same of the anonymous one
module _ (q : Queue) where
  nodes_twice : map anonymous_node q.nodes ≡ map anonymous_node (map anonymous_node q.nodes)
  nodes_twice =
      ap (λ (g : Node → Node). map g q.nodes) (fun_ext node_twice)
      ∙ sym (map-map anonymous_node anonymous_node q.nodes)

  node_read : (x : ℕ) → anonymous_node (node_at q x) ≡ node_at (anonymous q) x
  node_read x = sym (get_or-map anonymous_node q.nodes x (fresh_node 0))

  states_same : state_of q ≡ state_of (anonymous q)
  states_same = fun_ext (λ (x : ℕ). ap (λ (n : Node). n.state) (node_read x))

  chosen_same : chosen q ≡ chosen (anonymous q)
  chosen_same = rw states_same

  used_same : used_count q ≡ used_count (anonymous q)
  used_same = ap (λ (state : ℕ → Use). how_many (λ x. is_in_use (state x)) q.node_count) states_same

  pending_same : pending_count q ≡ pending_count (anonymous q)
  pending_same =
      ap (λ (f : ℕ → Bool). Ok (how_many f q.node_count))
      (fun_ext (λ (x : ℕ). pending_node (node_at q x) ∙ ap holds_pending (node_read x)))

  views_same : (c : Processor) (a : Place) → step_view_of q c a ≡ step_view_of (anonymous q) c a
  views_same c a =
      let still = still_marked (is_marked (node_at q a.node).mark) in
      rw (← node_read a.node, ← node_read c.own, ← node_read (next_of q a), still) refl

  -- a call's refusal, its decision, and what it leaves
  refusal_same : (c : Call) → refusal_of q c ≡ refusal_of (anonymous q) c
  refusal_same (call.Insert p due item height) = rw chosen_same
  refusal_same (call.DeleteMin p) = refl
  refusal_same (call.Relaxed p) = refl
  refusal_same (call.Remove p due ticket) = refl
  refusal_same (call.Step p) = refl

  decision_same : (c : Call) → decision_of q c ≡ decision_of (anonymous q) c
  decision_same (call.Insert p due item height) =
      ap (λ (x : ℕ). insert_decision q x due item height) chosen_same
  decision_same (call.DeleteMin p) = refl
  decision_same (call.Relaxed p) = refl
  decision_same (call.Remove p due ticket) = refl
  decision_same (call.Step p) =
      let c = processor_at q p in
      let g = c.stage in
      ap (λ (s : StepView). decide s g) (views_same c (reading_place g))

  applies :
      (p : ℕ) (d : Decision) → anonymous (applied q p d) ≡ anonymous (applied (anonymous q) p d)
  applies p d =
      let e = d.effect in
      let x = node_of e in
      let l = q.level_count in
      let tail = q.node_count + 1 in
      let t = q.clock + 1 in
      let to : Node → Node = λ n. anonymous_node (changed l tail (p + 1) t e n) in
      let new = changes l tail (p + 1) t (node_at q x) e ∙ ap to (node_read x) in
      ap (with_nodes (applied q p d))
      (map-set anonymous_node q.nodes x _
      ∙ ap₂ (λ (r : List Node) (n : Node). set r x n) nodes_twice new
      ∙ sym (map-set anonymous_node (anonymous q).nodes x _))

  outcome_same :
      (c : Call) (r : Option Refusal) →
      anonymous_outcome (outcome_by q c r) ≡ anonymous_outcome (outcome_by (anonymous q) c r)
  outcome_same c None =
      let p = processor_of c in
      let d = decision_of q c in
      ap (λ (s : Queue). record { queue = s; answer = d.answer }) (applies p d)
      ∙ ap (λ (d : Decision). anonymous_outcome (accepted (anonymous q) p d)) (decision_same c)
  outcome_same c (Some r) = ap (λ (l : List Node). refused (with_nodes q l) r) nodes_twice

  call_same :
      (c : Call) →
      anonymous_outcome (called_valid q c) ≡ anonymous_outcome (called_valid (anonymous q) c)
  call_same c =
      outcome_same c (refusal_of q c)
      ∙ ap (λ (r : Option Refusal). anonymous_outcome (outcome_by (anonymous q) c r))
      (refusal_same c)

-- two records that pass check 21 and differ at most in who set their marks
module _
    (q r : Queue) (v : valid q ≡ true) (w : valid r ≡ true) (same : anonymous q ≡ anonymous r) where
  -- both give the same where `read` says what is given after check 21, and says it of the anonymous
  -- record too
  valid_both :
      {A B : Type 0} (g : A → B) (read other : Queue → A) →
      ((s : Queue) → g (read s) ≡ g (read (anonymous s))) →
      g (cond (valid q) (read q) (other q)) ≡ g (cond (valid r) (read r) (other r))
  valid_both g read other h =
      ap (λ (b : Bool). g (cond b (read q) (other q))) v
      ∙ (h q ∙ ap (λ (s : Queue). g (read s)) same ∙ sym (h r))
      ∙ ap (λ (b : Bool). g (cond b (read r) (other r))) (sym w)

  called_both : (c : Call) → anonymous_outcome (called q c) ≡ anonymous_outcome (called r c)
  called_both c =
      valid_both anonymous_outcome (λ s. called_valid s c) (λ s. refused s refusal.Invalid) (λ s. call_same s c)

  backlog_both : backlog_of q ≡ backlog_of r
  backlog_both = valid_both (λ (k : Result ℕ Refusal). k) pending_count (λ _. Err refusal.Invalid) pending_same

  markers_both : (room : ℕ) → markers_of q room ≡ markers_of r room
  markers_both room =
      valid_both (λ (k : Result ℕ Refusal). k) (λ s. listed_by room (used_count s)) (λ _. Err refusal.Invalid)
      (λ s. ap (listed_by room) (used_same s))

pub no_answer_sees_who : NoAnswerSeesWho
no_answer_sees_who q r v w same (calls c) =
    let e = called_both q r v w same c in
    record {
      left = ap (λ (o : Outcome). o.queue) e;
      given = ap (λ (o : Outcome). answered o.answer) e;
    }
no_answer_sees_who q r v w same backlog =
    record { left = same; given = ap counted (backlog_both q r v w same) }
no_answer_sees_who q r v w same (markers area) =
    let told = markers_both q r v w same (length area) in
    record { left = same; given = ap (λ (k : Result ℕ Refusal). listed k []) told }
