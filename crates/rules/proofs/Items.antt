-- No rule looks at an item: what a step reads of a record with other items differs in the items
-- alone, so that its decision and its effect do. Assumes nothing.
use Rattle.std.proofs.lemmas.List.{map-set}
use Rattle.std.specs.Prelude.{Option, ℕ, Some, None}
use mathlib.Core.Path.{◌≡◌, refl, sym, ap, ◌∙◌, fun_ext}
use mathlib.Core.Bool.{Bool, true, false, cond, ◌||◌}
use mathlib.Core.List.{List, [], ◌∷◌, map}
use Prim.Native.Nat.{ℕ, zero, suc, ◌+◌, ◌≤◌, ◌<◌}
use native.Mathlib.Decide.{dec_le, ℕ_discrete}
use native.Mathlib.Omega.{arith}
use lib.Dec.{ltb, leb, eqb}
use lib.ListN.{length, get_or, get_or-map}
use borrow.Author.Tests.{le-leb, lt-leb, lt-ltb, le-ltb, eq-eqb, ne_eqb}
use Rattle.laws.proofs.Booleans.{cond_elim}
use Rattle.laws.proofs.HowMany.{many_same}
use Rattle.laws.specs.Every.{every_below}
use Rattle.laws.specs.HowMany.{how_many}
use Rattle.record_check.specs.Backlog.{holds_pending, pending_at, backlog_of}
use Rattle.record_check.specs.Check.{valid, sizes_of, node_valid}
use Rattle.record.specs.declared.refusals.Refusal.{Refusal}
use Rattle.record.specs.declared.nodes.Node.{Node}
use Rattle.record.specs.declared.queues.Processor.{Processor}
use Rattle.record.specs.declared.queues.Queue.{Queue}
use Rattle.record.specs.declared.stages.Place.{Place}
use Rattle.record.specs.declared.stages.Insert.{Insert}
use Rattle.record.specs.declared.stages.Insert.TheVariants as ins
use Rattle.record.specs.declared.stages.Removal.{Removal}
use Rattle.record.specs.declared.stages.Removal.TheVariants as rem
use Rattle.record.specs.declared.stages.Job.{Job}
use Rattle.record.specs.declared.stages.Job.TheVariants as jobs
use Rattle.record.specs.declared.stages.Delete.{Delete}
use Rattle.record.specs.declared.stages.Delete.TheVariants as del
use Rattle.record.specs.declared.stages.Seek.{Seek}
use Rattle.record.specs.declared.stages.Seek.TheVariants as seek
use Rattle.record.specs.declared.stages.Relaxed.{Relaxed}
use Rattle.record.specs.declared.stages.Relaxed.TheVariants as rlx
use Rattle.record.specs.declared.stages.Wanted.{Wanted}
use Rattle.record.specs.declared.stages.Remove.{Remove}
use Rattle.record.specs.declared.stages.Remove.TheVariants as rmv
use Rattle.record.specs.declared.stages.Stage.{Stage}
use Rattle.record.specs.declared.stages.Stage.TheVariants as stage
use Rattle.record.specs.Limits.{max_number}
use Rattle.record.specs.Nodes.{fresh_node, is_in_use}
use Rattle.record_markers.specs.Markers.{marker_byte, in_use_at, pairs_to, markers_of, area_after}
use Rattle.record.specs.Queues.{node_at, processor_at}
use Rattle.rules.specs.declared.answers.Outcome.{Outcome}
use Rattle.rules.specs.declared.decisions.Effect.{Effect}
use Rattle.rules.specs.declared.decisions.Effect.TheVariants as eff
use Rattle.rules.specs.declared.decisions.Decision.{Decision}
use Rattle.rules.specs.declared.decisions.Searched.{Searched}
use Rattle.rules.specs.declared.decisions.Searched.TheVariants as srch
use Rattle.rules.specs.declared.decisions.StepView.{StepView}
use Rattle.rules.specs.declared.decisions.Sought.{Sought}
use Rattle.rules.specs.declared.decisions.Sought.TheVariants as sght
use Rattle.rules.specs.declared.calls.Call.{Call}
use Rattle.rules.specs.declared.calls.Call.TheVariants as call
use Rattle.rules.specs.Calls.{step_view_of, next_of, reading_place, insert_decision, decision_of}
use Rattle.rules.specs.Calls.{processor_of, refusal_of, outcome_by, called}
use Rattle.rules.specs.Choice.{chosen}
use Rattle.rules.specs.Decide.{decide, search_step, seek_step}
use Rattle.rules.specs.Decide.{insert_searched, insert_sought, insert_step}
use Rattle.rules.specs.Decide.{removal_searched, removal_sought, removal_step, delete_step}
use Rattle.rules.specs.Decide.{relaxed_step, remove_searched, remove_step}
use Rattle.rules.specs.Decide.{attempt, place_tried, node_tried, own_tried}
use Rattle.rules.specs.Effects.{changed, node_of, applied, accepted}
use Rattle.rules.specs.Items.{Renaming, renamed_node, renamed, renamed_entry, renamed_answer}
use Rattle.rules.specs.Items.{renamed_call, item_of}
use Rattle.rules.specs.Items.{zero_for, CheckSeesNoItem, NoRuleSeesAnItem, ItemZeroGoesOn}
use Rattle.rules.specs.Runs.{calls, delete_min, relaxed, remove, step_by, backlog, markers}
use Rattle.rules.specs.Runs.{Reply, answered, counted}

-- a choice of images is the image of the choice
cond_pair :
    {A B : Type 0} (g : A → B) (s t : Bool) (x y : A) (u v : B) → s ≡ t → u ≡ g x → v ≡ g y →
    cond s u v ≡ g (cond t x y)
cond_pair {A} {B} g true true x y u v e h k = h
cond_pair {A} {B} g true false x y u v e h k = cc
cond_pair {A} {B} g false true x y u v e h k = cc
cond_pair {A} {B} g false false x y u v e h k = k

cond_image : {A B : Type 0} (g : A → B) (t : Bool) (x y : A) → cond t (g x) (g y) ≡ g (cond t x y)
cond_image {A} {B} g t x y = cond_pair g t t x y (g x) (g y) refl refl refl

every_same : (f g : ℕ → Bool) (n : ℕ) → ((k : ℕ) → f k ≡ g k) → every_below f n ≡ every_below g n
every_same f g n h = ap (λ (t : ℕ → Bool). every_below t n) (fun_ext h)

module _ (f : ℕ → ℕ) where
  abbrev renamed_view : StepView → StepView
  renamed_view s = record {
    own = s.own;
    height = s.height;
    own_node_lock = s.own_node_lock;
    next = s.next;
    next_before_key = s.next_before_key;
    next_has_key = s.next_has_key;
    next_is_tail = s.next_is_tail;
    place_lock = s.place_lock;
    own_next = s.own_next;
    own_lock = s.own_lock;
    level_count = s.level_count;
    marked = s.marked;
    stamped = s.stamped;
    saved_above = s.saved_above;
    saved_below = s.saved_below;
    saved_at_height = s.saved_at_height;
    place_entry = renamed_entry f s.place_entry;
    own_entry = renamed_entry f s.own_entry;
  }

  abbrev renamed_effect : Effect → Effect
  renamed_effect eff.Keep = eff.Keep
  renamed_effect (eff.HoldLevel a) = eff.HoldLevel a
  renamed_effect (eff.FreeLevel a) = eff.FreeLevel a
  renamed_effect (eff.SetForward a x) = eff.SetForward a x
  renamed_effect (eff.HoldNode x) = eff.HoldNode x
  renamed_effect (eff.FreeNode x) = eff.FreeNode x
  renamed_effect (eff.Mark x) = eff.Mark x
  renamed_effect (eff.Stamp x) = eff.Stamp x
  renamed_effect (eff.Retire x) = eff.Retire x
  renamed_effect (eff.Fill x due item height) = eff.Fill x due (f item) height

  abbrev renamed_decision : Decision → Decision
  renamed_decision d = record {
    effect = renamed_effect d.effect;
    stage = d.stage;
    own = d.own;
    change = d.change;
    answer = renamed_answer f d.answer;
  }

  abbrev renamed_outcome : Outcome → Outcome
  renamed_outcome o = record { queue = renamed f o.queue; answer = renamed_answer f o.answer }

  abbrev renamed_sought : Sought → Sought
  renamed_sought (sght.Goes e k) = sght.Goes (renamed_effect e) k
  renamed_sought (sght.Waits k h) = sght.Waits k h
  renamed_sought (sght.Done a) = sght.Done a

  -- what is decided
  place_tried_lem : (a : Place) (t : Option ℕ) → place_tried a t ≡ renamed_sought (place_tried a t)
  place_tried_lem a None = refl
  place_tried_lem a (Some h) = refl

  seeking : (s : StepView) (k : Seek) → seek_step (renamed_view s) k ≡ renamed_sought (seek_step s k)
  seeking s (seek.Approach a) = cond_image renamed_sought s.next_before_key _ _
  seeking s (seek.Take a) = place_tried_lem a (attempt s.place_lock)
  seeking s (seek.Confirm a) = cond_image renamed_sought s.next_before_key _ _
  seeking s (seek.Release a b) = refl

  insert_searched_lem :
      (s : StepView) (a : Place) (r : Searched) →
      insert_searched (renamed_view s) a r ≡ renamed_decision (insert_searched s a r)
  insert_searched_lem s a (srch.Ahead b) = refl
  insert_searched_lem s a (srch.Down b) = refl
  insert_searched_lem s a (srch.Done b) = refl

  insert_sought_lem :
      (s : StepView) (r : Sought) →
      insert_sought (renamed_view s) (renamed_sought r) ≡ renamed_decision (insert_sought s r)
  insert_sought_lem s (sght.Goes e k) = refl
  insert_sought_lem s (sght.Waits k h) = refl
  insert_sought_lem s (sght.Done a) = refl

  insert_decides :
      (s : StepView) (i : Insert) → insert_step (renamed_view s) i ≡ renamed_decision (insert_step s i)
  insert_decides s (ins.Search a) = insert_searched_lem s a (search_step s a)
  insert_decides s (ins.Seek k) =
      ap (insert_sought (renamed_view s)) (seeking s k) ∙ insert_sought_lem s (seek_step s k)
  insert_decides s (ins.Copy a) = refl
  insert_decides s (ins.Link a) = refl
  insert_decides s (ins.FreeLevel a) = cond_image renamed_decision (ltb a.level s.height) _ _
  insert_decides s ins.FreeNode = refl
  insert_decides s ins.Stamp = refl

  removal_searched_lem :
      (job : Job) (s : StepView) (a : Place) (r : Searched) →
      removal_searched job (renamed_view s) a r ≡ renamed_decision (removal_searched job s a r)
  removal_searched_lem job s a (srch.Ahead b) = refl
  removal_searched_lem job s a (srch.Down b) = refl
  removal_searched_lem job s a (srch.Done b) = refl

  removal_sought_lem :
      (job : Job) (s : StepView) (r : Sought) →
      removal_sought job (renamed_view s) (renamed_sought r) ≡ renamed_decision (removal_sought job s r)
  removal_sought_lem job s (sght.Goes e k) = refl
  removal_sought_lem job s (sght.Waits k h) = refl
  removal_sought_lem job s (sght.Done a) = refl

  node_tried_lem :
      (job : Job) (s : StepView) (t : Option ℕ) →
      node_tried job (renamed_view s) t ≡ renamed_decision (node_tried job s t)
  node_tried_lem job s None = refl
  node_tried_lem job s (Some h) = refl

  own_tried_lem :
      (job : Job) (s : StepView) (a : Place) (t : Option ℕ) →
      own_tried job (renamed_view s) a t ≡ renamed_decision (own_tried job s a t)
  own_tried_lem job s a None = refl
  own_tried_lem job s a (Some h) = refl

  removal_decides :
      (job : Job) (s : StepView) (r : Removal) →
      removal_step job (renamed_view s) r ≡ renamed_decision (removal_step job s r)
  removal_decides job s (rem.Search a) = removal_searched_lem job s a (search_step s a)
  removal_decides job s rem.HoldNode = node_tried_lem job s (attempt s.own_node_lock)
  removal_decides job s (rem.Seek k) =
      ap (removal_sought job (renamed_view s)) (seeking s k) ∙ removal_sought_lem job s (seek_step s k)
  removal_decides job s (rem.HoldOwn a) = own_tried_lem job s a (attempt s.own_lock)
  removal_decides job s (rem.Unlink a) = refl
  removal_decides job s (rem.LeadBack a) = refl
  removal_decides job s (rem.FreeOwn a) = refl
  removal_decides job s (rem.FreeLevel a) = cond_image renamed_decision (leb a.level 1) _ _
  removal_decides job s rem.FreeNode = refl
  removal_decides jobs.Deliver s rem.Retire = refl
  removal_decides jobs.TakeBack s rem.Retire = refl

  delete_decides :
      (s : StepView) (d : Delete) → delete_step (renamed_view s) d ≡ renamed_decision (delete_step s d)
  delete_decides s (del.ReadNext a) = cond_image renamed_decision s.next_is_tail _ _
  delete_decides s (del.TestStamp a) = cond_image renamed_decision s.stamped _ _
  delete_decides s (del.SetMark a) = cond_image renamed_decision s.marked _ _

  relaxed_decides :
      (s : StepView) (d : Relaxed) →
      relaxed_step (renamed_view s) d ≡ renamed_decision (relaxed_step s d)
  relaxed_decides s (rlx.ReadNext a) =
      cond_pair renamed_decision s.next_is_tail s.next_is_tail _ _ _ _ refl refl
      (cond_image renamed_decision (eqb s.next 0) _ _)
  relaxed_decides s (rlx.SetMark a) = cond_image renamed_decision s.marked _ _

  remove_searched_lem :
      (s : StepView) (w : Wanted) (a : Place) (r : Searched) →
      remove_searched (renamed_view s) w a r ≡ renamed_decision (remove_searched s w a r)
  remove_searched_lem s w a (srch.Ahead b) = refl
  remove_searched_lem s w a (srch.Down b) = refl
  remove_searched_lem s w a (srch.Done b) = refl

  remove_decides :
      (s : StepView) (w : Wanted) (d : Remove) →
      remove_step (renamed_view s) w d ≡ renamed_decision (remove_step s w d)
  remove_decides s w (rmv.Search a) = remove_searched_lem s w a (search_step s a)
  remove_decides s w (rmv.ReadNext a) =
      cond_pair renamed_decision s.next_before_key s.next_before_key _ _ _ _ refl refl
      (cond_image renamed_decision s.next_has_key _ _)
  remove_decides s w (rmv.TestStamp a) = cond_image renamed_decision s.stamped _ _
  remove_decides s w (rmv.SetMark a) = cond_image renamed_decision s.marked _ _

  decides : (s : StepView) (g : Stage) → decide (renamed_view s) g ≡ renamed_decision (decide s g)
  decides s stage.Idle = refl
  decides s (stage.Insert i) = insert_decides s i
  decides s (stage.Delete d) = delete_decides s d
  decides s (stage.Relaxed d) = relaxed_decides s d
  decides s (stage.Remove w d) = remove_decides s w d
  decides s (stage.Removal job r) = removal_decides job s r

  -- what changes
  changes :
      (l tail h t : ℕ) (e : Effect) (n : Node) →
      changed l tail h t (renamed_effect e) (renamed_node f n)
      ≡ renamed_node f (changed l tail h t e n)
  changes l tail h t eff.Keep n = refl
  changes l tail h t (eff.HoldLevel a) n = refl
  changes l tail h t (eff.FreeLevel a) n = refl
  changes l tail h t (eff.SetForward a x) n = refl
  changes l tail h t (eff.HoldNode x) n = refl
  changes l tail h t (eff.FreeNode x) n = refl
  changes l tail h t (eff.Mark x) n = refl
  changes l tail h t (eff.Stamp x) n = refl
  changes l tail h t (eff.Retire x) n = refl
  changes l tail h t (eff.Fill x due item height) n = refl

  same_node : (e : Effect) → node_of (renamed_effect e) ≡ node_of e
  same_node eff.Keep = refl
  same_node (eff.HoldLevel a) = refl
  same_node (eff.FreeLevel a) = refl
  same_node (eff.SetForward a x) = refl
  same_node (eff.HoldNode x) = refl
  same_node (eff.FreeNode x) = refl
  same_node (eff.Mark x) = refl
  same_node (eff.Stamp x) = refl
  same_node (eff.Retire x) = refl
  same_node (eff.Fill x due item height) = refl

  module _ (R : Renaming f) where
    node_read : (q : Queue) (x : ℕ) → node_at (renamed f q) x ≡ renamed_node f (node_at q x)
    node_read q x =
        let fresh : renamed_node f (fresh_node 0) ≡ fresh_node 0 = rw R.zero_stays refl in
        ap (get_or (map (renamed_node f) q.nodes) x) (sym fresh)
        ∙ get_or-map (renamed_node f) q.nodes x (fresh_node 0)

    -- the tests of a number: 35 and check 21's
    in_range : (n : ℕ) → leb (f n) max_number ≡ leb n max_number
    in_range n = go (dec_le n max_number)
      where
        go : Dec (n ≤ max_number) → leb (f n) max_number ≡ leb n max_number
        go (yes h) = le-leb _ _ (R.inside n h) ∙ sym (le-leb _ _ h)
        go (no h) =
            let above : max_number < n = omega arith in
            lt-leb _ _ (R.outside n above) ∙ sym (lt-leb _ _ above)

    too_large : (n : ℕ) → ltb max_number (f n) ≡ ltb max_number n
    too_large n = go (dec_le n max_number)
      where
        go : Dec (n ≤ max_number) → ltb max_number (f n) ≡ ltb max_number n
        go (yes h) = le-ltb _ _ (R.inside n h) ∙ sym (le-ltb _ _ h)
        go (no h) =
            let above : max_number < n = omega arith in
            lt-ltb _ _ (R.outside n above) ∙ sym (lt-ltb _ _ above)

    step_views :
        (q : Queue) (c : Processor) (a : Place) →
        step_view_of (renamed f q) c a ≡ renamed_view (step_view_of q c a)
    step_views q c a = rw (node_read q a.node, node_read q c.own, node_read q (next_of q a)) refl

    applies :
        (q : Queue) (p : ℕ) (d : Decision) →
        accepted (renamed f q) p (renamed_decision d) ≡ renamed_outcome (accepted q p d)
    applies q p d =
        let e = d.effect in
        let x = node_of e in
        let l = q.level_count in
        let tail = q.node_count + 1 in
        let t = q.clock + 1 in
        let g = renamed_node f in
        let after = changed l tail (p + 1) t e (node_at q x) in
        let new : changed l tail (p + 1) t (renamed_effect e) (node_at (renamed f q) x) ≡ g after =
        ap (changed l tail (p + 1) t (renamed_effect e)) (node_read q x)
        ∙ changes l tail (p + 1) t e (node_at q x) in
        let nodes :
        (applied (renamed f q) p (renamed_decision d)).nodes ≡ map g (applied q p d).nodes =
        rw (same_node e, new) (sym (map-set g q.nodes x after)) in
        rw nodes refl

    valid_same : (q : Queue) → valid (renamed f q) ≡ valid q
    valid_same q = rw nodes refl
      where
        node_valid_lem :
            (x : ℕ) (n : Node) →
            node_valid (sizes_of q) x (renamed_node f n) ≡ node_valid (sizes_of q) x n
        node_valid_lem x n = rw (in_range n.item) refl

        nodes :
            every_below (λ x. node_valid (sizes_of q) x (node_at (renamed f q) x)) (q.node_count + 2)
            ≡ every_below (λ x. node_valid (sizes_of q) x (node_at q x)) (q.node_count + 2)
        nodes =
            every_same _ _ (q.node_count + 2)
            (λ x. ap (node_valid (sizes_of q) x) (node_read q x) ∙ node_valid_lem x (node_at q x))

    chosen_same : (q : Queue) → chosen (renamed f q) ≡ chosen q
    chosen_same q = rw (fun_ext (λ (x : ℕ). ap (λ (n : Node). n.state) (node_read q x))) refl

    pending_same :
        (q : Queue) (k : ℕ) → how_many (pending_at (renamed f q)) k ≡ how_many (pending_at q) k
    pending_same q k =
        many_same (pending_at (renamed f q)) (pending_at q) k
        (λ x _ _. ap holds_pending (node_read q x))

    used_same : (q : Queue) (k : ℕ) → how_many (in_use_at (renamed f q)) k ≡ how_many (in_use_at q) k
    used_same q k =
        many_same (in_use_at (renamed f q)) (in_use_at q) k
        (λ x _ _. ap (λ (n : Node). is_in_use n.state) (node_read q x))

    pairs_same : (q : Queue) (k : ℕ) → pairs_to (renamed f q) k ≡ pairs_to q k
    pairs_same q zero = refl
    pairs_same q (suc k) =
        rw (
          pairs_same q k,
          ap (λ (n : Node). cond (is_in_use n.state) (suc k ∷ marker_byte n.mark ∷ []) [])
              (node_read q (suc k)),
        ) refl

    no_item : (item : ℕ) → (f item ≡ 0 → item ≡ 0) → eqb (f item) 0 ≡ eqb item 0
    no_item item h = go (ℕ_discrete item 0)
      where
        go : Dec (item ≡ 0) → eqb (f item) 0 ≡ eqb item 0
        go (yes e) = eq-eqb _ _ (ap f e ∙ R.zero_stays) ∙ sym (eq-eqb _ _ e)
        go (no ne) = ne_eqb _ _ (λ e. ne (h e)) ∙ sym (ne_eqb _ _ ne)

    -- the calls
    accepts :
        (q : Queue) (p : ℕ) (d e : Decision) → e ≡ renamed_decision d →
        accepted (renamed f q) p e ≡ renamed_outcome (accepted q p d)
    accepts q p d e h = ap (accepted (renamed f q) p) h ∙ applies q p d

    refusal_same :
        (q : Queue) (c : Call) → (f (item_of c) ≡ 0 → item_of c ≡ 0) →
        refusal_of (renamed f q) (renamed_call f c) ≡ refusal_of q c
    refusal_same q (call.Insert p due item height) h =
        let large = ap (λ (b : Bool). ltb max_number due || b) (too_large item) in
        rw (large, no_item item h, chosen_same q) refl
    refusal_same q (call.DeleteMin p) h = refl
    refusal_same q (call.Relaxed p) h = refl
    refusal_same q (call.Remove p due ticket) h = refl
    refusal_same q (call.Step p) h = refl

    decision_same :
        (q : Queue) (c : Call) →
        decision_of (renamed f q) (renamed_call f c) ≡ renamed_decision (decision_of q c)
    decision_same q (call.Insert p due item height) =
        ap (λ (x : ℕ). insert_decision q x due (f item) height) (chosen_same q)
    decision_same q (call.DeleteMin p) = refl
    decision_same q (call.Relaxed p) = refl
    decision_same q (call.Remove p due ticket) = refl
    decision_same q (call.Step p) =
        let c = processor_at q p in
        let g = c.stage in
        ap (λ (s : StepView). decide s g) (step_views q c (reading_place g)) ∙ decides _ g

    processor_same : (c : Call) → processor_of (renamed_call f c) ≡ processor_of c
    processor_same (call.Insert p due item height) = refl
    processor_same (call.DeleteMin p) = refl
    processor_same (call.Relaxed p) = refl
    processor_same (call.Remove p due ticket) = refl
    processor_same (call.Step p) = refl

    outcome_same :
        (q : Queue) (c : Call) (r : Option Refusal) →
        outcome_by (renamed f q) (renamed_call f c) r ≡ renamed_outcome (outcome_by q c r)
    outcome_same q c None =
        ap (λ (p : ℕ). accepted (renamed f q) p (decision_of (renamed f q) (renamed_call f c)))
        (processor_same c)
        ∙ accepts q (processor_of c) (decision_of q c) _ (decision_same q c)
    outcome_same q c (Some r) = refl

    call_same :
        (q : Queue) (c : Call) → (f (item_of c) ≡ 0 → item_of c ≡ 0) →
        called (renamed f q) (renamed_call f c) ≡ renamed_outcome (called q c)
    call_same q c h =
        cond_pair renamed_outcome _ (valid q) _ _ _ _ (valid_same q)
        (ap (outcome_by (renamed f q) (renamed_call f c)) (refusal_same q c h)
        ∙ outcome_same q c (refusal_of q c)) refl

    backlog_same : (q : Queue) → backlog_of (renamed f q) ≡ backlog_of q
    backlog_same q = rw (valid_same q, pending_same q q.node_count) refl

    markers_same : (q : Queue) (room : ℕ) → markers_of (renamed f q) room ≡ markers_of q room
    markers_same q room = rw (valid_same q, used_same q q.node_count) refl

    area_same : (q : Queue) (area : List ℕ) → area_after (renamed f q) area ≡ area_after q area
    area_same q area = rw (pairs_same q q.node_count, markers_same q (length area)) refl

pub check_sees_no_item : CheckSeesNoItem
check_sees_no_item f R q = valid_same f R q

abbrev left_in : Outcome → Queue
left_in o = o.queue

abbrev given_in : Outcome → Reply
given_in o = answered o.answer

pub no_rule_sees_an_item : NoRuleSeesAnItem
no_rule_sees_an_item f R q (calls c) h =
    let e = call_same f R q c h in
    record { left = ap left_in e; given = ap given_in e }
no_rule_sees_an_item f R q backlog h =
    record { left = refl; given = ap counted (backlog_same f R q) }
no_rule_sees_an_item f R q (markers area) h =
    record { left = refl; given = rw (area_same f R q area, markers_same f R q (length area)) refl }

-- 0 for k, one of the items in range, is such a renaming
zero_renames : (k : ℕ) → k ≤ max_number → Renaming (zero_for k)
zero_renames k h = record {
  zero_stays = cond_elim (λ (n : ℕ). n ≡ 0) (eqb 0 k) 0 0 refl refl;
  inside = λ n low. cond_elim (λ (m : ℕ). m ≤ max_number) (eqb n k) 0 n (omega arith) low;
  outside = λ n high.
      let other : (n ≡ k → ⊥) = λ e. omega arith in
      rw (ne_eqb n k other) high;
}

pub item_zero_goes_on : ItemZeroGoesOn
item_zero_goes_on k h q =
    let R = zero_renames k h in
    record {
      taken = check_sees_no_item (zero_for k) R q;
      begun = λ p. no_rule_sees_an_item (zero_for k) R q (delete_min p) (λ _. refl);
      begun_relaxed = λ p. no_rule_sees_an_item (zero_for k) R q (relaxed p) (λ _. refl);
      begun_remove = λ p due ticket.
          no_rule_sees_an_item (zero_for k) R q (remove p due ticket) (λ _. refl);
      stepped = λ p. no_rule_sees_an_item (zero_for k) R q (step_by p) (λ _. refl);
    }
