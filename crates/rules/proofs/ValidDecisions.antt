-- On a record that passes check 21 every call leaves the record as it is, or it applies a decision whose numbers are in range. Assumes nothing.
use Rattle.std.specs.Prelude.{Option, ℕ, Some, None}
use mathlib.Core.Path.{◌≡◌, refl, sym, subst}
use mathlib.Core.Bool.{Bool, true, false, ◌&&◌, ◌||◌}
use Prim.Native.Nat.{ℕ, zero, suc, ◌+◌, ◌-◌, ◌≤◌, ◌<◌}
use native.Mathlib.Omega.{arith}
use lib.Dec.{ltb, leb, eqb}
use borrow.Author.Tests.{ltb-true, ltb-false, leb-false, eqb-false}
use Rattle.record_check.specs.declared.check.Sizes.{Sizes}
use Rattle.record.specs.declared.refusals.Refusal.TheVariants as refusal
use Rattle.record.specs.declared.nodes.Use.{Use}
use Rattle.record.specs.declared.queues.Processor.{Processor}
use Rattle.record.specs.declared.queues.Queue.{Queue}
use Rattle.record.specs.declared.stages.Carried.{Carried}
use Rattle.record.specs.declared.stages.Place.{Place}
use Rattle.record.specs.declared.stages.Seek.{Seek}
use Rattle.record.specs.declared.stages.Seek.TheVariants as seek
use Rattle.record.specs.declared.stages.Insert.{Insert}
use Rattle.record.specs.declared.stages.Insert.TheVariants as ins
use Rattle.record.specs.declared.stages.Removal.{Removal}
use Rattle.record.specs.declared.stages.Removal.TheVariants as rem
use Rattle.record.specs.declared.stages.Delete.{Delete}
use Rattle.record.specs.declared.stages.Delete.TheVariants as del
use Rattle.record.specs.declared.stages.Relaxed.{Relaxed}
use Rattle.record.specs.declared.stages.Relaxed.TheVariants as rlx
use Rattle.record.specs.declared.stages.Wanted.{Wanted}
use Rattle.record.specs.declared.stages.Remove.{Remove}
use Rattle.record.specs.declared.stages.Remove.TheVariants as rmv
use Rattle.record.specs.declared.stages.Stage.{Stage}
use Rattle.record.specs.declared.stages.Job.{Job}
use Rattle.record.specs.declared.stages.Job.TheVariants as jobs
use Rattle.record.specs.declared.stages.Stage.TheVariants as stage
use Rattle.record_check.specs.Check.{sizes_of}
use Rattle.record.specs.Limits.{max_number}
use Rattle.record_check.specs.Making.{outside}
use Rattle.record.specs.Nodes.{stamped_before}
use Rattle.record.specs.Queues.{node_at, processor_at}
use Rattle.record.specs.Stages.{place, wanted_of, none_wanted, seek_row, carried_of, carried}
use Rattle.rules.specs.declared.answers.Answer.{Answer}
use Rattle.rules.specs.declared.answers.Outcome.{Outcome}
use Rattle.rules.specs.declared.decisions.Effect.{Effect}
use Rattle.rules.specs.declared.decisions.Effect.TheVariants as eff
use Rattle.rules.specs.declared.decisions.ProcessorChange.{ProcessorChange}
use Rattle.rules.specs.declared.decisions.ProcessorChange.TheVariants as change
use Rattle.rules.specs.declared.decisions.Decision.{Decision}
use Rattle.rules.specs.declared.decisions.StepView.{StepView}
use Rattle.rules.specs.declared.decisions.Searched.{Searched}
use Rattle.rules.specs.declared.decisions.Searched.TheVariants as srch
use Rattle.rules.specs.declared.decisions.Sought.{Sought}
use Rattle.rules.specs.declared.decisions.Sought.TheVariants as sght
use Rattle.rules.specs.Choice.{is_never, is_retired, never_used, longest_retired, state_of, all_began_after, retirement, chosen}
use Rattle.rules.specs.Decide
use Rattle.rules.specs.Effects.{applied}
use Rattle.rules.specs.declared.calls.Call.{Call}
use Rattle.rules.specs.declared.calls.Call.TheVariants as call
use Rattle.rules.specs.Calls.{reading_place, step_view_of, step_decision, insert_decision}
use Rattle.rules.specs.Calls.{next_of, walk_begins, remove_decision, key_refusal, decision_of}
use Rattle.rules.specs.Calls.{processor_of}
use Rattle.rules.proofs.Allowed.{Allowed, passed, of_call, numbers}
use Rattle.rules.specs.Runs.{Turn, calls, backlog, markers, after}
use Rattle.laws.proofs.Booleans.{cond_cases, or_left, or_right}
use Rattle.rules.proofs.ValidFacts.{Within, ValidPlace, ValidWanted, ValidCarried}
use Rattle.rules.proofs.ValidFacts.{ValidProcessor, ValidQueue, valid_facts}

-- the node x that an Insert takes, and its numbers
pub record ValidFill (s : Sizes) (x d i h : ℕ) : Type 0 where
  pub node : Within x s.node_count
  pub due : d ≤ max_number
  pub item : i ≤ max_number
  pub height : Within h s.level_count

pub record ValidLead (s : Sizes) (a : Place) (x : ℕ) : Type 0 where
  pub place : ValidPlace s a
  pub to : x ≤ s.node_count + 1

-- the numbers of an effect, of what becomes of the saved nodes, and of a decision
abbrev pub ValidEffect : Sizes → Effect → Type 0
ValidEffect s eff.Keep = Unit {0}
ValidEffect s (eff.HoldLevel a) = ValidPlace s a
ValidEffect s (eff.FreeLevel a) = ValidPlace s a
ValidEffect s (eff.SetForward a x) = ValidLead s a x
ValidEffect s (eff.HoldNode x) = Within x s.node_count
ValidEffect s (eff.FreeNode x) = Within x s.node_count
ValidEffect s (eff.Mark x) = Within x s.node_count
ValidEffect s (eff.Stamp x) = Within x s.node_count
ValidEffect s (eff.Retire x) = Within x s.node_count
ValidEffect s (eff.Fill x due item height) = ValidFill s x due item height

abbrev pub ValidChange : Sizes → ProcessorChange → Type 0
ValidChange s change.Keep = Unit {0}
ValidChange s (change.Save a) = ValidPlace s a
ValidChange s change.Clear = Unit {0}
ValidChange s change.Begin = Unit {0}

pub record ValidDecision (s : Sizes) (d : Decision) : Type 0 where
  pub effect : ValidEffect s d.effect
  pub change : ValidChange s d.change
  pub carries : ValidCarried s (carried d.stage) d.own

-- what a step reads at the place a; the saved node one level up is in range below level L
pub record ValidView (s : Sizes) (a : Place) (v : StepView) : Type 0 where
  pub height : Within v.height s.level_count
  pub next : v.next ≤ s.node_count + 1
  pub inside : v.next_is_tail ≡ false → v.next ≤ s.node_count
  pub own_next : v.own_next ≤ s.node_count + 1
  pub level_count : v.level_count ≡ s.level_count
  pub stamped : v.stamped ≡ true → Within a.node s.node_count
  pub saved_above : a.level < s.level_count → v.saved_above ≤ s.node_count + 1
  pub saved_below : v.saved_below ≤ s.node_count + 1
  pub saved_at_height : v.saved_at_height ≤ s.node_count + 1

stamped_before_lem : (u : Option ℕ) (t : ℕ) → stamped_before u t ≡ true → (k : ℕ) × (u ≡ Some k)
stamped_before_lem None t h = cc
stamped_before_lem (Some k) t h = (k, refl)

pub step_view_valid : (q : Queue) (c : Processor) (a : Place) → ValidQueue q → ValidProcessor (sizes_of q) c → ValidPlace (sizes_of q) a → ValidView (sizes_of q) a (step_view_of q c a)
step_view_valid q c a Q C P =
    let L = P.level in
    let N = Q.nodes a.node P.node in
    let O = Q.nodes c.own C.carries.own_high in
    let H = O.height in
    record {
      height = H;
      next = N.forward (a.level - 1) (omega arith);
      inside = λ h.
          let ne : (next_of q a ≡ q.node_count + 1 → ⊥) =
          eqb-false (next_of q a) (q.node_count + 1) h in
          omega (arith, N.forward (a.level - 1) (omega arith));
      own_next = O.forward (a.level - 1) (omega arith);
      level_count = refl;
      stamped = λ h. let k = stamped_before_lem (node_at q a.node).stamp c.begin h in N.stamped k.0 k.1;
      saved_above = λ h. C.saved (a.level + 1 - 1) (omega arith);
      saved_below = C.saved (a.level - 1 - 1) (omega arith);
      saved_at_height = C.saved ((node_at q c.own).height - 1) (omega arith);
    }

-- but for a walk, a step reads at the place that its stage carries
pub insert_reads : (i : Insert) → (carried (stage.Insert i)).place ≡ reading_place (stage.Insert i)
insert_reads (ins.Search a) = refl
insert_reads (ins.Seek k) = refl
insert_reads (ins.Copy a) = refl
insert_reads (ins.Link a) = refl
insert_reads (ins.FreeLevel a) = refl
insert_reads ins.FreeNode = refl
insert_reads ins.Stamp = refl

pub removal_reads : (job : Job) (r : Removal) → (carried (stage.Removal job r)).place
    ≡ reading_place (stage.Removal job r)
removal_reads job (rem.Search a) = refl
removal_reads job rem.HoldNode = refl
removal_reads job (rem.Seek k) = refl
removal_reads job (rem.HoldOwn a) = refl
removal_reads job (rem.Unlink a) = refl
removal_reads job (rem.LeadBack a) = refl
removal_reads job (rem.FreeOwn a) = refl
removal_reads job (rem.FreeLevel a) = refl
removal_reads job rem.FreeNode = refl
removal_reads job rem.Retire = refl

none_valid : ValidWanted none_wanted
none_valid = omega arith

module _ (s : Sizes) (levels : 1 ≤ s.level_count) where
  abbrev at : Bool → Place → Carried
  at own a = record
      { own = own; place = a; ahead = a.node; marking = false; wanted = none_wanted }

  -- a stage with an own node, and one without
  owning : (own : ℕ) (a : Place) → Within own s.node_count → ValidPlace s a → ValidCarried s (at true a) own
  owning own a O P = record {
    own_high = omega arith;
    has_own = λ e. O;
    place = P;
    ahead = P.node;
    marks = λ e. cc;
    wanted = none_valid;
  }

  ownless : (own : ℕ) (a : Place) → own ≤ s.node_count + 1 → ValidPlace s a → ValidCarried s (at false a) own
  ownless own a O P = record {
    own_high = O;
    has_own = λ e. cc;
    place = P;
    ahead = P.node;
    marks = λ e. cc;
    wanted = none_valid;
  }

  head_place : (i : ℕ) → Within i s.level_count → ValidPlace s (place 0 i)
  head_place i I = record { node = omega arith; level = I }

  level_one : Within 1 s.level_count
  level_one = omega arith

  owning_head : (own : ℕ) → Within own s.node_count → ValidCarried s (at true (place 0 1)) own
  owning_head own O = owning own (place 0 1) O (head_place 1 level_one)

  moved_valid : (v : StepView) (e : Effect) (g : Stage) → ValidEffect s e → ValidCarried s (carried g) v.own → ValidDecision s (Decide.moved v e g)
  moved_valid v e g E G = record { effect = E; change = tt; carries = G }

  waits_valid :
      (v : StepView) (g : Stage) (h : ℕ) → ValidCarried s (carried g) v.own →
      ValidDecision s (Decide.waits v g h)
  waits_valid v g h G = record { effect = tt; change = tt; carries = G }

  saving_valid : (v : StepView) (a : Place) (g : Stage) → ValidPlace s a → ValidCarried s (carried g) v.own → ValidDecision s (Decide.saving v a g)
  saving_valid v a g A G = record { effect = tt; change = A; carries = G }

  answers_valid : (e : Effect) (r : Answer) → ValidEffect s e → ValidDecision s (Decide.answers e r)
  answers_valid e r E = record { effect = E; change = tt; carries = ownless 0 (place 0 1) (omega arith) (head_place 1 level_one) }

  -- a step of a Search and of a Lock-seek
  search_cases : (v : StepView) (a : Place) → ValidView s a v → ValidPlace s a → (P : Searched → Type 0) →
      ((b : Place) → ValidPlace s b → P (srch.Ahead b)) → ((b : Place) → ValidPlace s b → P (srch.Down b)) → P (srch.Done a) → P (Decide.search_step v a)
  search_cases v a W A P ahead down left =
      cond_cases P v.next_before_key _ _ (λ x. ahead _ (record { node = W.next; level = A.level }))
      (λ x. cond_cases P (leb a.level 1) _ _ (λ y. left)
      (λ y. down _ (record { node = A.node; level = let l = leb-false a.level 1 y in omega arith })))

  -- what follows a step of a Lock-seek of an operation with this own node
  abbrev ValidSought : ℕ → Sought → Type 0
  ValidSought own (sght.Goes e k) = (ValidEffect s e) × (ValidCarried s (carried_of (seek_row 0 k)) own)
  ValidSought own (sght.Waits k h) = ValidCarried s (carried_of (seek_row 0 k)) own
  ValidSought own (sght.Done a) = ValidPlace s a

  seek_valid : (v : StepView) (k : Seek) → ValidView s (carried_of (seek_row 0 k)).place v → ValidCarried s (carried_of (seek_row 0 k)) v.own → ValidSought v.own (Decide.seek_step v k)
  seek_valid v (seek.Approach a) W G =
      cond_cases (ValidSought v.own) v.next_before_key _ _
      (λ x. (tt, owning v.own (place v.next a.level) (G.has_own refl) (record { node = W.next; level = G.place.level })))
      (λ x. (tt, owning v.own a (G.has_own refl) G.place))
  seek_valid v (seek.Take a) W G =
      cond_cases (λ t. ValidSought v.own (Decide.place_tried a t)) (eqb v.place_lock 0) _ _
      (λ x. (G.place, owning v.own a (G.has_own refl) G.place)) (λ x. owning v.own a (G.has_own refl) G.place)
  seek_valid v (seek.Confirm a) W G =
      cond_cases (ValidSought v.own) v.next_before_key _ _
      (λ x. (
        tt,
        record {
          own_high = G.own_high;
          has_own = G.has_own;
          place = G.place;
          ahead = W.next;
          marks = λ e. cc;
          wanted = none_valid;
        },
      ))
      (λ x. G.place)
  seek_valid v (seek.Release a b) W G =
      (G.place, owning v.own (place b a.level) (G.has_own refl) (record { node = G.ahead; level = G.place.level }))

  insert_sought_valid : (v : StepView) (r : Sought) → Within v.own s.node_count → ValidSought v.own r → ValidDecision s (Decide.insert_sought v r)
  insert_sought_valid v (sght.Goes e k) O R = moved_valid v e (stage.Insert (ins.Seek k)) R.0 R.1
  insert_sought_valid v (sght.Waits k h) O R = waits_valid v (stage.Insert (ins.Seek k)) h R
  insert_sought_valid v (sght.Done a) O R = moved_valid v eff.Keep (stage.Insert (ins.Copy a)) tt (owning v.own a O R)

  removal_sought_valid : (job : Job) (v : StepView) (r : Sought) → Within v.own s.node_count →
      ValidSought v.own r → ValidDecision s (Decide.removal_sought job v r)
  removal_sought_valid job v (sght.Goes e k) O R =
      moved_valid v e (Decide.removing job (rem.Seek k)) R.0 R.1
  removal_sought_valid job v (sght.Waits k h) O R =
      waits_valid v (Decide.removing job (rem.Seek k)) h R
  removal_sought_valid job v (sght.Done a) O R =
      moved_valid v eff.Keep (Decide.removing job (rem.HoldOwn a)) tt (owning v.own a O R)

  -- at a place of the own node
  own_place : (own i : ℕ) → Within own s.node_count → Within i s.level_count → ValidPlace s (place own i)
  own_place own i O I = record { node = omega arith; level = I }

  insert_freed_valid : (v : StepView) (a : Place) → ValidView s a v → Within v.own s.node_count → ValidPlace s a → ValidDecision s (Decide.insert_freed v a)
  insert_freed_valid v a W O A =
      cond_cases (λ d. ValidDecision s d) (ltb a.level v.height) _ _
      (λ x. let lower = ltb-true a.level v.height x in let H = W.height in
      moved_valid v (eff.FreeLevel a) (stage.Insert (ins.Seek (seek.Approach (place v.saved_above (a.level + 1))))) A
      (owning v.own (place v.saved_above (a.level + 1)) O (record { node = W.saved_above (omega arith); level = omega arith })))
      (λ x. moved_valid v (eff.FreeLevel a) (stage.Insert ins.FreeNode) A (owning_head v.own O))

  insert_valid : (v : StepView) (i : Insert) → ValidView s (reading_place (stage.Insert i)) v → ValidCarried s (carried (stage.Insert i)) v.own → ValidDecision s (Decide.insert_step v i)
  insert_valid v (ins.Search a) W G =
      search_cases v a W G.place (λ r. ValidDecision s (Decide.insert_searched v a r))
      (λ b B. moved_valid v eff.Keep (stage.Insert (ins.Search b)) tt (owning v.own b (G.has_own refl) B))
      (λ b B. saving_valid v a (stage.Insert (ins.Search b)) G.place (owning v.own b (G.has_own refl) B))
      (saving_valid v a (stage.Insert (ins.Seek (seek.Approach a))) G.place (owning v.own a (G.has_own refl) G.place))
  insert_valid v (ins.Seek k) W G = insert_sought_valid v (Decide.seek_step v k) (G.has_own refl) (seek_valid v k W G)
  insert_valid v (ins.Copy a) W G =
      moved_valid v (eff.SetForward (place v.own a.level) v.next) (stage.Insert (ins.Link a))
      (record { place = own_place v.own a.level (G.has_own refl) G.place.level; to = W.next }) G
  insert_valid v (ins.Link a) W G = moved_valid v (eff.SetForward a v.own) (stage.Insert (ins.FreeLevel a)) (record { place = G.place; to = G.own_high }) G
  insert_valid v (ins.FreeLevel a) W G = insert_freed_valid v a W (G.has_own refl) G.place
  insert_valid v ins.FreeNode W G = moved_valid v (eff.FreeNode v.own) (stage.Insert ins.Stamp) (G.has_own refl) G
  insert_valid v ins.Stamp W G = answers_valid (eff.Stamp v.own) _ (G.has_own refl)

  removal_freed_valid : (job : Job) (v : StepView) (a : Place) → ValidView s a v →
      Within v.own s.node_count → ValidPlace s a → ValidDecision s (Decide.removal_freed job v a)
  removal_freed_valid job v a W O A =
      cond_cases (λ d. ValidDecision s d) (leb a.level 1) _ _
      (λ x. moved_valid v (eff.FreeLevel a) (Decide.removing job rem.FreeNode) A
      (owning_head v.own O))
      (λ x. let above = leb-false a.level 1 x in let l = A.level in
      moved_valid v (eff.FreeLevel a)
      (Decide.removing job (rem.Seek (seek.Approach (place v.saved_below (a.level - 1))))) A
      (owning v.own (place v.saved_below (a.level - 1)) O (record { node = W.saved_below; level = omega arith })))

  removal_valid : (job : Job) (v : StepView) (r : Removal) →
      ValidView s (reading_place (Decide.removing job r)) v →
      ValidCarried s (carried (Decide.removing job r)) v.own →
      ValidDecision s (Decide.removal_step job v r)
  removal_valid job v (rem.Search a) W G =
      search_cases v a W G.place (λ r. ValidDecision s (Decide.removal_searched job v a r))
      (λ b B. moved_valid v eff.Keep (Decide.removing job (rem.Search b)) tt
      (owning v.own b (G.has_own refl) B))
      (λ b B. saving_valid v a (Decide.removing job (rem.Search b)) G.place
      (owning v.own b (G.has_own refl) B))
      (saving_valid v a (Decide.removing job rem.HoldNode) G.place
      (owning_head v.own (G.has_own refl)))
  removal_valid job v rem.HoldNode W G =
      cond_cases (λ t. ValidDecision s (Decide.node_tried job v t)) (eqb v.own_node_lock 0) _ _
      (λ x. moved_valid v (eff.HoldNode v.own)
      (Decide.removing job (rem.Seek (seek.Approach (place v.saved_at_height v.height))))
      (G.has_own refl)
      (owning v.own (place v.saved_at_height v.height) (G.has_own refl) (record { node = W.saved_at_height; level = W.height })))
      (λ x. waits_valid v (Decide.removing job rem.HoldNode) _ G)
  removal_valid job v (rem.Seek k) W G =
      removal_sought_valid job v (Decide.seek_step v k) (G.has_own refl)
      (seek_valid v k W G)
  removal_valid job v (rem.HoldOwn a) W G =
      cond_cases (λ t. ValidDecision s (Decide.own_tried job v a t)) (eqb v.own_lock 0) _ _
      (λ x. moved_valid v (eff.HoldLevel (place v.own a.level))
      (Decide.removing job (rem.Unlink a))
      (own_place v.own a.level (G.has_own refl) G.place.level) G)
      (λ x. waits_valid v (Decide.removing job (rem.HoldOwn a)) _ G)
  removal_valid job v (rem.Unlink a) W G =
      moved_valid v (eff.SetForward a v.own_next) (Decide.removing job (rem.LeadBack a))
      (record { place = G.place; to = W.own_next }) G
  removal_valid job v (rem.LeadBack a) W G =
      moved_valid v (eff.SetForward (place v.own a.level) a.node)
      (Decide.removing job (rem.FreeOwn a))
      (record { place = own_place v.own a.level (G.has_own refl) G.place.level; to = G.place.node }) G
  removal_valid job v (rem.FreeOwn a) W G =
      moved_valid v (eff.FreeLevel (place v.own a.level))
      (Decide.removing job (rem.FreeLevel a))
      (own_place v.own a.level (G.has_own refl) G.place.level) G
  removal_valid job v (rem.FreeLevel a) W G =
      removal_freed_valid job v a W (G.has_own refl) G.place
  removal_valid job v rem.FreeNode W G =
      moved_valid v (eff.FreeNode v.own) (Decide.removing job rem.Retire) (G.has_own refl) G
  removal_valid job v rem.Retire W G = answers_valid (eff.Retire v.own) _ (G.has_own refl)

  marking_valid_lem : (job : Job) (v : StepView) (a : Place) → v.level_count ≡ s.level_count →
      Within a.node s.node_count → ValidDecision s (Decide.marking job v a)
  marking_valid_lem job v a l M = record { effect = M; change = tt; carries = owning a.node (place 0 v.level_count) M (head_place v.level_count (omega arith)) }

  delete_valid : (v : StepView) (d : Delete) → ValidView s (reading_place (stage.Delete d)) v → ValidCarried s (carried (stage.Delete d)) v.own → ValidDecision s (Decide.delete_step v d)
  delete_valid v (del.ReadNext a) W G =
      cond_cases (λ d. ValidDecision s d) v.next_is_tail _ _
      (λ x. answers_valid eff.Keep _ tt)
      (λ x. moved_valid v eff.Keep (stage.Delete (del.TestStamp (place v.next 1))) tt
      (ownless v.own (place v.next 1) G.own_high (record { node = W.next; level = level_one })))
  delete_valid v (del.TestStamp a) W G =
      cond_cases (λ d. ValidDecision s d) v.stamped _ _
      (λ x. moved_valid v eff.Keep (stage.Delete (del.SetMark a)) tt
      (record {
        own_high = G.own_high;
        has_own = G.has_own;
        place = G.place;
        ahead = G.ahead;
        marks = λ e. W.stamped x;
        wanted = none_valid;
      }))
      (λ x. moved_valid v eff.Keep (stage.Delete (del.ReadNext a)) tt G)
  delete_valid v (del.SetMark a) W G =
      cond_cases (λ d. ValidDecision s d) v.marked _ _
      (λ x. moved_valid v eff.Keep (stage.Delete (del.ReadNext a)) tt
      (ownless v.own a G.own_high G.place))
      (λ x. marking_valid_lem jobs.Deliver v a W.level_count (G.marks refl))

  relaxed_valid :
      (v : StepView) (d : Relaxed) → ValidView s (reading_place (stage.Relaxed d)) v →
      ValidCarried s (carried (stage.Relaxed d)) v.own → ValidDecision s (Decide.relaxed_step v d)
  relaxed_valid v (rlx.ReadNext a) W G =
      let b = place v.next 1 in
      let at : ValidPlace s b = record { node = W.next; level = level_one } in
      cond_cases (λ d. ValidDecision s d) v.next_is_tail _ _
      (λ x. answers_valid eff.Keep _ tt)
      (λ x. cond_cases (λ d. ValidDecision s d) (eqb v.next 0) _ _
      (λ y. moved_valid v eff.Keep (stage.Relaxed (rlx.ReadNext b)) tt
      (ownless v.own b G.own_high at))
      (λ y. moved_valid v eff.Keep (stage.Relaxed (rlx.SetMark b)) tt
      (record {
        own_high = G.own_high;
        has_own = λ e. cc;
        place = at;
        ahead = W.next;
        marks = λ e. record {
          low = let ne : (v.next ≡ 0 → ⊥) = eqb-false v.next 0 y in omega arith;
          high = W.inside x;
        };
        wanted = none_valid;
      })))
  relaxed_valid v (rlx.SetMark a) W G =
      cond_cases (λ d. ValidDecision s d) v.marked _ _
      (λ x. moved_valid v eff.Keep (stage.Relaxed (rlx.ReadNext a)) tt
      (ownless v.own a G.own_high G.place))
      (λ x. marking_valid_lem jobs.Deliver v a W.level_count (G.marks refl))

  -- a Remove before its mark
  seeking_valid : (w : Wanted) (own : ℕ) (a : Place) → ValidWanted w → own ≤ s.node_count + 1 →
      ValidPlace s a →
      ValidCarried s
      (record { own = false; place = a; ahead = a.node; marking = false; wanted = w }) own
  seeking_valid w own a K O A = record {
    own_high = O;
    has_own = λ e. cc;
    place = A;
    ahead = A.node;
    marks = λ e. cc;
    wanted = K;
  }

  remove_valid : (v : StepView) (w : Wanted) (d : Remove) →
      ValidView s (reading_place (stage.Remove w d)) v →
      ValidCarried s (carried (stage.Remove w d)) v.own →
      ValidDecision s (Decide.remove_step v w d)
  remove_valid v w (rmv.Search a) W G =
      let K = G.wanted in
      search_cases v a W G.place (λ r. ValidDecision s (Decide.remove_searched v w a r))
      (λ b B. moved_valid v eff.Keep (stage.Remove w (rmv.Search b)) tt
      (seeking_valid w v.own b K G.own_high B))
      (λ b B. saving_valid v a (stage.Remove w (rmv.Search b)) G.place
      (seeking_valid w v.own b K G.own_high B))
      (saving_valid v a (stage.Remove w (rmv.ReadNext a)) G.place
      (seeking_valid w v.own a K G.own_high G.place))
  remove_valid v w (rmv.ReadNext a) W G =
      let b = place v.next 1 in
      let at : ValidPlace s b = record { node = W.next; level = level_one } in
      let C = seeking_valid w v.own b G.wanted G.own_high at in
      cond_cases (λ d. ValidDecision s d) v.next_before_key _ _
      (λ x. moved_valid v eff.Keep (stage.Remove w (rmv.ReadNext b)) tt C)
      (λ x. cond_cases (λ d. ValidDecision s d) v.next_has_key _ _
      (λ y. moved_valid v eff.Keep (stage.Remove w (rmv.TestStamp b)) tt C)
      (λ y. answers_valid eff.Keep _ tt))
  remove_valid v w (rmv.TestStamp a) W G =
      cond_cases (λ d. ValidDecision s d) v.stamped _ _
      (λ x. moved_valid v eff.Keep (stage.Remove w (rmv.SetMark a)) tt
      (record {
        own_high = G.own_high;
        has_own = λ e. cc;
        place = G.place;
        ahead = G.ahead;
        marks = λ e. W.stamped x;
        wanted = G.wanted;
      }))
      (λ x. answers_valid eff.Keep _ tt)
  remove_valid v w (rmv.SetMark a) W G =
      cond_cases (λ d. ValidDecision s d) v.marked _ _
      (λ x. answers_valid eff.Keep _ tt)
      (λ x. marking_valid_lem jobs.TakeBack v a W.level_count (G.marks refl))

  pub decide_valid : (v : StepView) (g : Stage) → ValidView s (reading_place g) v → ValidCarried s (carried g) v.own → ValidDecision s (Decide.decide v g)
  decide_valid v stage.Idle W G = moved_valid v eff.Keep stage.Idle tt G
  decide_valid v (stage.Insert i) W G = insert_valid v i W G
  decide_valid v (stage.Delete d) W G = delete_valid v d W G
  decide_valid v (stage.Relaxed d) W G = relaxed_valid v d W G
  decide_valid v (stage.Remove w d) W G = remove_valid v w d W G
  decide_valid v (stage.Removal job r) W G = removal_valid job v r W G

  pub reading_valid : (g : Stage) (own : ℕ) → ValidCarried s (carried g) own → ValidPlace s (reading_place g)
  reading_valid stage.Idle own G = G.place
  reading_valid (stage.Insert i) own G = subst (ValidPlace s) (insert_reads i) G.place
  reading_valid (stage.Delete (del.ReadNext a)) own G = record { node = G.place.node; level = level_one }
  reading_valid (stage.Delete (del.TestStamp a)) own G = record { node = G.place.node; level = level_one }
  reading_valid (stage.Delete (del.SetMark a)) own G = record { node = G.place.node; level = level_one }
  reading_valid (stage.Relaxed (rlx.ReadNext a)) own G =
      record { node = G.place.node; level = level_one }
  reading_valid (stage.Relaxed (rlx.SetMark a)) own G =
      record { node = G.place.node; level = level_one }
  reading_valid (stage.Remove w (rmv.Search a)) own G = G.place
  reading_valid (stage.Remove w (rmv.ReadNext a)) own G =
      record { node = G.place.node; level = level_one }
  reading_valid (stage.Remove w (rmv.TestStamp a)) own G =
      record { node = G.place.node; level = level_one }
  reading_valid (stage.Remove w (rmv.SetMark a)) own G =
      record { node = G.place.node; level = level_one }
  reading_valid (stage.Removal job r) own G = subst (ValidPlace s) (removal_reads job r) G.place

-- the node that an Insert takes is one of 0 to N
never_used_high : (state : ℕ → Use) (k : ℕ) → never_used state k ≤ k
never_used_high state zero = omega arith
never_used_high state (suc k) =
    cond_cases (λ x. x ≤ suc k) (ltb 0 (never_used state k)) _ _ (λ h. omega (arith, never_used_high state k))
    (λ h. cond_cases (λ x. x ≤ suc k) (is_never (state (suc k))) _ _ (λ e. omega arith) (λ e. omega arith))

pub longest_retired_high : (state : ℕ → Use) (k : ℕ) → longest_retired state k ≤ k
longest_retired_high state zero = omega arith
longest_retired_high state (suc k) =
    let best = longest_retired state k in
    cond_cases (λ x. x ≤ suc k) (is_retired (state (suc k))) _ _
    (λ h. cond_cases (λ x. x ≤ suc k) (eqb best 0 || ltb (retirement (state (suc k))) (retirement (state best))) _ _ (λ e. omega arith) (λ e. omega (arith, longest_retired_high state k)))
    (λ h. omega (arith, longest_retired_high state k))

pub chosen_high : (q : Queue) → chosen q ≤ q.node_count
chosen_high q =
    let best = longest_retired (state_of q) q.node_count in
    cond_cases (λ x. x ≤ q.node_count) (ltb 0 (never_used (state_of q) q.node_count)) _ _ (λ h. never_used_high (state_of q) q.node_count)
    (λ h. cond_cases (λ x. x ≤ q.node_count) (ltb 0 best && all_began_after q (retirement (state_of q best))) _ _ (λ e. longest_retired_high (state_of q) q.node_count) (λ e. omega arith))

pub step_valid : (q : Queue) (c : Processor) → ValidQueue q → ValidProcessor (sizes_of q) c → ValidDecision (sizes_of q) (step_decision q c)
step_valid q c Q C =
    let levels = Q.sizes.level_count.low in
    let A = reading_valid (sizes_of q) levels c.stage c.own C.carries in
    decide_valid (sizes_of q) levels (step_view_of q c (reading_place c.stage)) c.stage (step_view_valid q c (reading_place c.stage) Q C A) C.carries

pub insert_begins_valid : (q : Queue) (x due item height : ℕ) → ValidQueue q → ValidFill (sizes_of q) x due item height → ValidDecision (sizes_of q) (insert_decision q x due item height)
insert_begins_valid q x due item height Q F =
    let levels = Q.sizes.level_count.low in
    record { effect = F; change = tt; carries = owning (sizes_of q) levels x (place 0 q.level_count) F.node (head_place (sizes_of q) levels q.level_count (omega arith)) }

-- a Delete_Min's or a Relaxed one's
walk_begins_valid : (q : Queue) → ValidQueue q → (g : Stage) →
    carried g ≡ record
    { own = false; place = place 0 1; ahead = 0; marking = false; wanted = none_wanted } →
    ValidDecision (sizes_of q) (walk_begins (q.clock + 1) g)
walk_begins_valid q Q g is =
    let levels = Q.sizes.level_count.low in
    record {
      effect = tt;
      change = tt;
      carries = subst (λ (c : Carried). ValidCarried (sizes_of q) c 0) (sym is)
          (ownless (sizes_of q) levels 0 (place 0 1) (omega arith)
          (head_place (sizes_of q) levels 1 (omega arith)));
    }

-- a Remove's
remove_begins_valid : (q : Queue) (w : Wanted) → ValidQueue q → ValidWanted w →
    ValidDecision (sizes_of q) (remove_decision q w)
remove_begins_valid q w Q K =
    let levels = Q.sizes.level_count.low in
    record {
      effect = tt;
      change = tt;
      carries = seeking_valid (sizes_of q) levels w 0 (place 0 q.level_count) K (omega arith)
          (head_place (sizes_of q) levels q.level_count (omega arith));
    }

-- what a call does to the record q: nothing, or it applies a decision in range, made on a record that passes check 21
pub data Does (q : Queue) : Queue → Type 0 where
  unchanged : Does q q
  applies : (p : ℕ) (d : Decision) → ValidQueue q → q.clock < max_number → p < q.processor_count → ValidDecision (sizes_of q) d → Does q (applied q p d)

abbrev Leaves : Queue → Outcome → Type 0
Leaves q o = Does q o.queue

in_range : (x top : ℕ) → outside x top ≡ false → Within x top
in_range x top h = record { low = ltb-false x 1 (or_left _ _ h); high = ltb-false top x (or_right (ltb x 1) (ltb top x) h) }

insert_does : (q : Queue) (p due item height : ℕ) → Allowed q (call.Insert p due item height) →
    ValidQueue q → ValidDecision (sizes_of q) (insert_decision q (chosen q) due item height)
insert_does q p due item height A Q =
    let n = numbers p due item height q.level_count (chosen q) A.numbers A.node in
    let x = n.small in
    insert_begins_valid q (chosen q) due item height Q
    (record {
      node = let some : (chosen q ≡ 0 → ⊥) = eqb-false (chosen q) 0 n.node_there in omega (arith, chosen_high q);
      due = ltb-false _ _ (or_left _ _ x);
      item = ltb-false _ _ (or_right (ltb max_number due) (ltb max_number item) x);
      height = in_range height q.level_count n.height_within;
    })

-- the numbers that 38 lets pass
wanted_range : (due ticket : ℕ) → key_refusal due ticket ≡ None → ValidWanted (wanted_of due ticket)
wanted_range due ticket h =
    let e = (passed (ltb max_number due || outside ticket max_number) refusal.Key None h).0 in
    record {
      due = ltb-false max_number due (or_left _ _ e);
      ticket = in_range ticket max_number
          (or_right (ltb max_number due) (outside ticket max_number) e);
    }

pub decides_valid : (q : Queue) (c : Call) → Allowed q c → ValidQueue q →
    ValidDecision (sizes_of q) (decision_of q c)
decides_valid q (call.Insert p due item height) A Q = insert_does q p due item height A Q
decides_valid q (call.DeleteMin p) A Q =
    walk_begins_valid q Q (stage.Delete (del.ReadNext (place 0 1))) refl
decides_valid q (call.Relaxed p) A Q =
    walk_begins_valid q Q (stage.Relaxed (rlx.ReadNext (place 0 1))) refl
decides_valid q (call.Remove p due ticket) A Q =
    remove_begins_valid q (wanted_of due ticket) Q (wanted_range due ticket A.numbers)
decides_valid q (call.Step p) A Q = step_valid q (processor_at q p) Q (Q.processors p A.here)

pub does : (q : Queue) (c : Turn) → Does q (after q c)
does q (calls c) =
    of_call (Leaves q) q c (λ n. unchanged)
    (λ v A. let Q = valid_facts q v in
    applies (processor_of c) (decision_of q c) Q A.ticks A.here (decides_valid q c A Q))
does q backlog = unchanged
does q (markers area) = unchanged
