-- A step of the record is a step of its view.
use mathlib.Core.Path.{◌≡◌, refl, sym, ap, ◌∙◌, fun_ext}
use mathlib.Core.List.{List}
use Prim.Native.Nat.{ℕ, ◌+◌, ◌-◌, ◌≤◌, ◌<◌}
use native.Mathlib.Omega.{arith}
use native.Mathlib.Decide.{dec_lt, ℕ_discrete}
use lib.Dec.{ltb, leb, eqb}
use lib.ListN.{length, get_or, set, length-set}
use lib.Seq.{get_or-set_same, get_or-set_other}
use borrow.Author.Tests.{lt-ltb, le-ltb}
use Rattle.laws.specs.Every.{set_below}
use Rattle.laws.proofs.Booleans.{cond_elim}
use Rattle.laws.proofs.Counting.{below_same, below_other, length_below}
use mathlib.Core.Bool.{cond}
use Rattle.record.specs.declared.nodes.Node.{Node}
use Rattle.record.specs.declared.queues.Queue.{Queue}
use Rattle.record.specs.declared.queues.Processor.{Processor}
use Rattle.record.specs.declared.stages.Place.{Place}
use Rattle.record.specs.declared.stages.Seek.{Seek}
use Rattle.record.specs.declared.stages.Seek.TheVariants as seek
use Rattle.record.specs.declared.stages.Insert.{Insert}
use Rattle.record.specs.declared.stages.Insert.TheVariants as ins
use Rattle.record.specs.declared.stages.Delete.TheVariants as del
use Rattle.record.specs.declared.stages.Removal.{Removal}
use Rattle.record.specs.declared.stages.Removal.TheVariants as rem
use Rattle.record.specs.declared.stages.Relaxed.TheVariants as rlx
use Rattle.record.specs.declared.stages.Wanted.{Wanted}
use Rattle.record.specs.declared.stages.Remove.TheVariants as rmv
use Rattle.record.specs.declared.stages.Stage.{Stage}
use Rattle.record.specs.declared.stages.Job.{Job}
use Rattle.record.specs.declared.stages.Stage.TheVariants as stage
use Rattle.rules.specs.declared.decisions.Effect.{Effect}
use Rattle.rules.specs.declared.decisions.Effect.TheVariants as eff
use Rattle.rules.specs.declared.decisions.ProcessorChange.{ProcessorChange}
use Rattle.rules.specs.declared.decisions.ProcessorChange.TheVariants as change
use Rattle.rules.specs.declared.decisions.Decision.{Decision}
use Rattle.rules.specs.declared.decisions.StepView.{StepView}
use Rattle.rules.specs.declared.decisions.Searched.{Searched}
use Rattle.rules.specs.declared.decisions.Searched.TheVariants as srch
use Rattle.rules.specs.declared.decisions.Sought.{Sought}
use Rattle.rules.specs.declared.decisions.Sought.TheVariants as sght
use Rattle.record.specs.Stages.{place}
use Rattle.rules.specs.Decide.{insert_searched, insert_sought, removal_searched, removal_sought, seek_step, search_step, decide}
use Rattle.rules.specs.Decide.{remove_searched, place_tried, node_tried, own_tried}
use Rattle.rules.specs.Calls.{reading_place}
use Rattle.record.specs.Stages.{seek_part}
use Rattle.rules.specs.Effects.{node_of, changed, begin_after, processor_after, saved_after as saved_list}
use Rattle.record.specs.Queues.{node_at, processor_at, fresh_processor}
use Rattle.record.specs.Nodes.{fresh_node}
use Rattle.rules.specs.Effects.{applied}
use Rattle.rules.specs.Calls.{step_decision}
use Rattle.laws.specs.Update.{changed_at}
use Rattle.laws.proofs.Updating.{changed_same, changed_other}
use Rattle.rules.proofs.Put.{save_at}
use Rattle.rules.proofs.View.{Pr, View, Wants, info, asks_for, entry_rank, claim, key, tail}
use Rattle.rules.proofs.Facts.{place_info}
use Rattle.rules.proofs.Inv.{Inv}
use Rattle.rules.proofs.Machine.{effected, pr_after, carried, decision, view, view_for}
use Rattle.rules.proofs.Machine.{saved_after}
use Rattle.rules.proofs.Move.{busy_at}
use Rattle.rules.proofs.Read.{read_seen}
use Rattle.rules.proofs.Lead.{sure}
use Rattle.rules.proofs.Rel.{pr_same}
use Rattle.rules.proofs.Concrete.{view_of, pr_of, seen_as, step_view_same}
use Rattle.rules.proofs.Applied.{Fits, later, effect_view}

-- the arrays have their lengths, and every stored due and ticket is small
pub record Sized (q : Queue) : Type 0 where
  pub procs : q.processor_count ≤ 16
  pub nodes_length : length q.nodes ≡ 202
  pub processors_length : length q.processors ≡ 16
  pub forwards : (n : ℕ) → length (node_at q n).forward ≡ 8
  pub level_locks : (n : ℕ) → length (node_at q n).level_locks ≡ 8
  pub saves : (r : ℕ) → length (processor_at q r).saved ≡ 8
  pub small : (n : ℕ) → ((node_at q n).due ≤ 999999) × ((node_at q n).ticket ≤ 999999)

-- a list read after one element was set
pub get_d_upd : {A : Type 0} (l : List A) (k : ℕ) (x d : A) → k < length l → ◌≡◌ {A = ℕ → A} (λ (n : ℕ). get_or (set l k x) n d) (changed_at (λ (n : ℕ). get_or l n d) k x)
get_d_upd {A} l k x d lt = fun_ext (λ n. go n (ℕ_discrete n k))
  where
    go : (n : ℕ) → Dec (n ≡ k) → get_or (set l k x) n d ≡ changed_at (λ (n : ℕ). get_or l n d) k x n
    go n (yes e) = rw (e, changed_same (λ (n : ℕ). get_or l n d) k x) (get_or-set_same l k x d lt)
    go n (no ne) = rw (changed_other (λ (n : ℕ). get_or l n d) k x n ne) (get_or-set_other l k n x d ne)

-- where a decision writes
abbrev pub reach : ℕ → Effect → Type 0
reach N eff.Keep = Unit {0}
reach N (eff.HoldLevel a) = (a.node ≤ N) × (1 ≤ a.level) × (a.level ≤ 8)
reach N (eff.FreeLevel a) = (a.node ≤ N) × (1 ≤ a.level) × (a.level ≤ 8)
reach N (eff.SetForward a x) = (a.node ≤ N) × (1 ≤ a.level) × (a.level ≤ 8)
reach N (eff.HoldNode x) = (1 ≤ x) × (x ≤ N)
reach N (eff.FreeNode x) = (1 ≤ x) × (x ≤ N)
reach N (eff.Mark x) = x ≤ N
reach N (eff.Stamp x) = (1 ≤ x) × (x ≤ N)
reach N (eff.Retire x) = (1 ≤ x) × (x ≤ N)
reach N (eff.Fill x d i h) = (1 ≤ x) × (x ≤ N)

abbrev pub saves_in : ProcessorChange → Type 0
saves_in change.Keep = Unit {0}
saves_in (change.Save a) = (1 ≤ a.level) × (a.level ≤ 8)
saves_in change.Clear = Unit {0}
saves_in change.Begin = Unit {0}

-- an effect leaves due and ticket small
abbrev pub due_small : Effect → Type 0
due_small eff.Keep = Unit {0}
due_small (eff.HoldLevel a) = Unit {0}
due_small (eff.FreeLevel a) = Unit {0}
due_small (eff.SetForward a x) = Unit {0}
due_small (eff.HoldNode x) = Unit {0}
due_small (eff.FreeNode x) = Unit {0}
due_small (eff.Mark x) = Unit {0}
due_small (eff.Stamp x) = Unit {0}
due_small (eff.Retire x) = Unit {0}
due_small (eff.Fill x d i h) = d ≤ 999999

pub record Reach (N : ℕ) (d : Decision) : Type 0 where
  pub effect : reach N d.effect
  pub saves : saves_in d.change
  pub due_small : due_small d.effect

reach_node : (N : ℕ) (e : Effect) → reach N e → node_of e ≤ N
reach_node N eff.Keep r = omega arith
reach_node N (eff.HoldLevel a) r = r.0
reach_node N (eff.FreeLevel a) r = r.0
reach_node N (eff.SetForward a x) r = r.0
reach_node N (eff.HoldNode x) r = r.1
reach_node N (eff.FreeNode x) r = r.1
reach_node N (eff.Mark x) r = r
reach_node N (eff.Stamp x) r = r.1
reach_node N (eff.Retire x) r = r.1
reach_node N (eff.Fill x d i h) r = r.1

fits_of : (q : Queue) → Sized q → q.level_count ≤ 8 → (e : Effect) → reach q.node_count e → Fits q.level_count q.node_count (node_at q) e
fits_of q S l eff.Keep r = tt
fits_of q S l (eff.HoldLevel a) r = (r.1, omega (arith, S.level_locks a.node, r.2, r.1))
fits_of q S l (eff.FreeLevel a) r = (r.1, omega (arith, S.level_locks a.node, r.2, r.1))
fits_of q S l (eff.SetForward a x) r = (r.1, omega (arith, S.forwards a.node, r.2, r.1))
fits_of q S l (eff.HoldNode x) r = tt
fits_of q S l (eff.FreeNode x) r = tt
fits_of q S l (eff.Mark x) r = tt
fits_of q S l (eff.Stamp x) r = tt
fits_of q S l (eff.Retire x) r = r
fits_of q S l (eff.Fill x d i h) r = (r.0, r.1, omega (arith, S.forwards x), omega (arith, S.level_locks x))

-- the processor after it
saved_same : (L : ℕ) (l : List ℕ) (s : ProcessorChange) → length l ≡ 8 → L ≤ 8 → saves_in s → ◌≡◌ {A = ℕ → ℕ} (λ (i : ℕ). get_or (saved_list L l s) (i - 1) 0) (saved_after L (λ (i : ℕ). get_or l (i - 1) 0) s)
unfolding save_at
saved_same L l change.Keep e L≤ r = refl
saved_same L l change.Begin e L≤ r = refl
saved_same L l change.Clear e L≤ r = fun_ext (λ i. go i (dec_lt (i - 1) L))
  where
    go : (i : ℕ) → Dec (i - 1 < L) → get_or (set_below l L 0) (i - 1) 0 ≡ cond (ltb (i - 1) L) 0 (get_or l (i - 1) 0)
    go i (yes lt) = rw (lt-ltb (i - 1) L lt) (below_same l L 0 (i - 1) 0 (omega arith) lt)
    go i (no ge) = rw (le-ltb (i - 1) L (omega arith)) (below_other l L 0 (i - 1) 0 (omega arith))
saved_same L l (change.Save a) e L≤ r = fun_ext (λ i. go i)
  where
    go : (i : ℕ) → get_or (set l (a.level - 1) a.node) (i - 1) 0 ≡ save_at (λ (i : ℕ). get_or l (i - 1) 0) a.level a.node i
    go i =
        let f : ◌≡◌ {A = ℕ → ℕ} (λ (n : ℕ). get_or l n 0) (λ (k : ℕ). get_or l (k + 1 - 1) 0) = fun_ext (λ k. ap (λ (m : ℕ). get_or l m 0) (let z : k ≡ k + 1 - 1 = omega arith in z)) in
        ap (λ (g : ℕ → ℕ). g (i - 1)) (get_d_upd l (a.level - 1) a.node 0 (omega (arith, r.0, r.1))) ∙ ap (λ (g : ℕ → ℕ). changed_at g (a.level - 1) a.node (i - 1)) f

pr_after_lem : (L t : ℕ) (c : Processor) (d : Decision) → length c.saved ≡ 8 → L ≤ 8 → saves_in d.change → pr_of (processor_after L t c d) ≡ pr_after L t (pr_of c) d
pr_after_lem L t c d e L≤ r = λ i. record { begin = begin_after t c.begin d.change; own = d.own; stage = d.stage; saved = saved_same L c.saved d.change e L≤ r i }

-- the record after a decision, as a view
pub applied_view : (q : Queue) (S : Sized q) (p : ℕ) (d : Decision) → p < 16 → q.node_count ≤ 200 → q.level_count ≤ 8 → Reach q.node_count d →
    view_of (applied q p d) ≡ carried (view_of q) p d
applied_view q S p d p< N≤ L≤ R =
    ap (λ (m : ℕ → Node). seen_as q.processor_count q.node_count q.level_count (q.clock + 1) m prs) nodes
    ∙ (ap (λ (r : ℕ → Pr). seen_as q.processor_count q.node_count q.level_count (q.clock + 1) (changed_at (node_at q) k x) r) processors
    ∙ (effect_view q.processor_count q.node_count q.level_count q.clock (node_at q) (λ r. pr_of (processor_at q r)) (changed_at (λ r. pr_of (processor_at q r)) p c') p d.effect (fits_of q S L≤ d.effect R.effect)
    ∙ ap (λ (r : ℕ → Pr). later (effected (view_of q) d.effect p) (changed_at r p c')) (sym (pr_same (view_of q) p d.effect))))
  where
    k : ℕ
    k = node_of d.effect

    x : Node
    x = changed q.level_count (q.node_count + 1) (p + 1) (q.clock + 1) d.effect (node_at q (node_of d.effect))

    c' : Pr
    c' = pr_after q.level_count (q.clock + 1) (pr_of (processor_at q p)) d

    prs : ℕ → Pr
    prs = λ r. pr_of (processor_at (applied q p d) r)

    nodes : ◌≡◌ {A = ℕ → Node} (node_at (applied q p d)) (changed_at (node_at q) k x)
    nodes = get_d_upd q.nodes k x (fresh_node 0) (omega (arith, S.nodes_length, reach_node q.node_count d.effect R.effect))

    processors : prs ≡ changed_at (λ (r : ℕ). pr_of (processor_at q r)) p c'
    processors = fun_ext (λ r. go r (ℕ_discrete r p))
      where
        go : (r : ℕ) → Dec (r ≡ p) → pr_of (get_or (set q.processors p (processor_after q.level_count (q.clock + 1) (processor_at q p) d)) r fresh_processor) ≡ changed_at (λ (r : ℕ). pr_of (processor_at q r)) p c' r
        go r (yes e) = rw (e, changed_same (λ (r : ℕ). pr_of (processor_at q r)) p c', get_or-set_same q.processors p (processor_after q.level_count (q.clock + 1) (processor_at q p) d) fresh_processor (omega (arith, S.processors_length))) (pr_after_lem q.level_count (q.clock + 1) (processor_at q p) d (S.saves p) L≤ R.saves)
        go r (no ne) = rw (changed_other (λ (r : ℕ). pr_of (processor_at q r)) p c' r ne, get_or-set_other q.processors p r (processor_after q.level_count (q.clock + 1) (processor_at q p) d) fresh_processor ne)

-- every decision of a reached record writes within it
reach_insert_searched : (N : ℕ) (s : StepView) (a : Place) (r : Searched) → 1 ≤ a.level → a.level ≤ 8 → Reach N (insert_searched s a r)
reach_insert_searched N s a (srch.Ahead b) l h = record { effect = tt; saves = tt; due_small = tt }
reach_insert_searched N s a (srch.Down b) l h = record { effect = tt; saves = (l, h); due_small = tt }
reach_insert_searched N s a (srch.Done b) l h = record { effect = tt; saves = (l, h); due_small = tt }

reach_delete_searched : (job : Job) (N : ℕ) (s : StepView) (a : Place) (r : Searched) → 1 ≤ a.level →
    a.level ≤ 8 → Reach N (removal_searched job s a r)
reach_delete_searched job N s a (srch.Ahead b) l h =
    record { effect = tt; saves = tt; due_small = tt }
reach_delete_searched job N s a (srch.Down b) l h =
    record { effect = tt; saves = (l, h); due_small = tt }
reach_delete_searched job N s a (srch.Done b) l h =
    record { effect = tt; saves = (l, h); due_small = tt }

reach_remove_searched : (N : ℕ) (s : StepView) (w : Wanted) (a : Place) (r : Searched) →
    1 ≤ a.level → a.level ≤ 8 → Reach N (remove_searched s w a r)
reach_remove_searched N s w a (srch.Ahead b) l h =
    record { effect = tt; saves = tt; due_small = tt }
reach_remove_searched N s w a (srch.Down b) l h =
    record { effect = tt; saves = (l, h); due_small = tt }
reach_remove_searched N s w a (srch.Done b) l h =
    record { effect = tt; saves = (l, h); due_small = tt }

abbrev sought_reaches : ℕ → Sought → Type 0
sought_reaches N (sght.Goes e k) = reach N e × due_small e
sought_reaches N (sght.Waits k h) = Unit {0}
sought_reaches N (sght.Done a) = Unit {0}

seek_reaches : (N : ℕ) (s : StepView) (k : Seek) → (seek_part k).place.node ≤ N → 1 ≤ (seek_part k).place.level → (seek_part k).place.level ≤ 8 → sought_reaches N (seek_step s k)
seek_reaches N s (seek.Approach a) n l h = cond_elim (sought_reaches N) s.next_before_key (sght.Goes eff.Keep (seek.Approach (place s.next a.level))) (sght.Goes eff.Keep (seek.Take a)) (tt, tt) (tt, tt)
seek_reaches N s (seek.Take a) n l h = cond_elim (λ t. sought_reaches N (place_tried a t)) (eqb s.place_lock 0) _ _ ((n, l, h), tt) tt
seek_reaches N s (seek.Confirm a) n l h = cond_elim (sought_reaches N) s.next_before_key (sght.Goes eff.Keep (seek.Release a s.next)) (sght.Done a) (tt, tt) tt
seek_reaches N s (seek.Release a b) n l h = ((n, l, h), tt)

reach_insert_sought : (N : ℕ) (s : StepView) (r : Sought) → sought_reaches N r → Reach N (insert_sought s r)
reach_insert_sought N s (sght.Goes e k) q = record { effect = q.0; saves = tt; due_small = q.1 }
reach_insert_sought N s (sght.Waits k h) q = record { effect = tt; saves = tt; due_small = tt }
reach_insert_sought N s (sght.Done a) q = record { effect = tt; saves = tt; due_small = tt }

reach_delete_sought : (job : Job) (N : ℕ) (s : StepView) (r : Sought) → sought_reaches N r →
    Reach N (removal_sought job s r)
reach_delete_sought job N s (sght.Goes e k) q =
    record { effect = q.0; saves = tt; due_small = q.1 }
reach_delete_sought job N s (sght.Waits k h) q = record { effect = tt; saves = tt; due_small = tt }
reach_delete_sought job N s (sght.Done a) q = record { effect = tt; saves = tt; due_small = tt }

module _ (v : View) (u : ℕ → ℕ → ℕ) (I : Inv v u) (p : ℕ) where
  abbrev N : ℕ
  N = v.nodes

  at_place : (s : Stage) → (v.pr p).stage ≡ s → 1 ≤ (info (v.ht (v.pr p).own) s).kind → ((reading_place s).node ≤ N) × (1 ≤ (reading_place s).level) × ((reading_place s).level ≤ 8)
  at_place s e k =
      let B = busy_at v u I p s e k in
      let i = place_info (v.ht (v.pr p).own) s in
      (omega (arith, i.0, B.place.below), omega (arith, i.1, B.low), omega (arith, i.1, B.high, I.core.levels_high))

  ins_own : (i : Insert) → (v.pr p).stage ≡ stage.Insert i → 1 ≤ (info (v.ht (v.pr p).own) (stage.Insert i)).kind → (info (v.ht (v.pr p).own) (stage.Insert i)).kind ≡ 1 → (1 ≤ (v.pr p).own) × ((v.pr p).own ≤ N)
  ins_own i e k l = let S = (busy_at v u I p (stage.Insert i) e k).inserts l in (S.low, S.high)

  rem_own : (job : Job) (i : Removal) → (v.pr p).stage ≡ stage.Removal job i →
      1 ≤ (info (v.ht (v.pr p).own) (stage.Removal job i)).kind →
      (info (v.ht (v.pr p).own) (stage.Removal job i)).kind ≡ 3 →
      (1 ≤ (v.pr p).own) × ((v.pr p).own ≤ N)
  rem_own job i e k l = let S = (busy_at v u I p (stage.Removal job i) e k).removes l in
      (S.low, S.high)

  pub reaches : (s : Stage) → (v.pr p).stage ≡ s → 1 ≤ (info (v.ht (v.pr p).own) s).kind → Reach N (decision v p s)
  reaches stage.Idle e k = absurd (omega arith)
  reaches (stage.Insert (ins.Search a)) e k = let A = at_place _ e k in
      reach_insert_searched N (view v (v.pr p) (key v (v.pr p).own) a) a
      (search_step (view v (v.pr p) (key v (v.pr p).own) a) a) A.1 A.2
  reaches (stage.Insert (ins.Seek j)) e k = let A = at_place _ e k in
      reach_insert_sought N (view v (v.pr p) (key v (v.pr p).own) (seek_part j).place)
      (seek_step (view v (v.pr p) (key v (v.pr p).own) (seek_part j).place) j)
      (seek_reaches N (view v (v.pr p) (key v (v.pr p).own) (seek_part j).place) j A.0
      A.1 A.2)
  reaches (stage.Insert (ins.Copy a)) e k = let A = at_place _ e k in record { effect = ((ins_own _ e k refl).1, A.1, A.2); saves = tt; due_small = tt }
  reaches (stage.Insert (ins.Link a)) e k = let A = at_place _ e k in record { effect = A; saves = tt; due_small = tt }
  reaches (stage.Insert (ins.FreeLevel a)) e k = let A = at_place _ e k in cond_elim (Reach N) (ltb a.level (v.ht (v.pr p).own)) _ _ (record { effect = A; saves = tt; due_small = tt }) (record { effect = A; saves = tt; due_small = tt })
  reaches (stage.Insert ins.FreeNode) e k = record { effect = ins_own _ e k refl; saves = tt; due_small = tt }
  reaches (stage.Insert ins.Stamp) e k = record { effect = ins_own _ e k refl; saves = tt; due_small = tt }
  reaches (stage.Delete (del.ReadNext a)) e k = cond_elim (Reach N) (eqb (v.fwd a.node 1) (tail v)) _ _ (record { effect = tt; saves = tt; due_small = tt }) (record { effect = tt; saves = tt; due_small = tt })
  reaches (stage.Delete (del.TestStamp a)) e k = cond_elim (Reach N) (ltb (v.st a.node) (v.pr p).begin) _ _ (record { effect = tt; saves = tt; due_small = tt }) (record { effect = tt; saves = tt; due_small = tt })
  reaches (stage.Delete (del.SetMark a)) e k = let A = at_place _ e k in cond_elim (Reach N) (ltb 0 (v.mk a.node)) _ _ (record { effect = tt; saves = tt; due_small = tt }) (record { effect = A.0; saves = tt; due_small = tt })
  reaches (stage.Relaxed (rlx.ReadNext a)) e k =
      cond_elim (Reach N) (eqb (v.fwd a.node 1) (tail v)) _ _
      (record { effect = tt; saves = tt; due_small = tt })
      (cond_elim (Reach N) (eqb (v.fwd a.node 1) 0) _ _
      (record { effect = tt; saves = tt; due_small = tt })
      (record { effect = tt; saves = tt; due_small = tt }))
  reaches (stage.Relaxed (rlx.SetMark a)) e k =
      let A = at_place _ e k in
      cond_elim (Reach N) (ltb 0 (v.mk a.node)) _ _
      (record { effect = tt; saves = tt; due_small = tt })
      (record { effect = A.0; saves = tt; due_small = tt })
  reaches (stage.Remove w (rmv.Search a)) e k =
      let A = at_place _ e k in
      let s = view_for v (v.pr p) (entry_rank w.due w.ticket)
      (asks_for (stage.Remove w (rmv.Search a))) a in
      reach_remove_searched N s w a (search_step s a) A.1 A.2
  reaches (stage.Remove w (rmv.ReadNext a)) e k =
      let b = key v (v.fwd a.node 1) in
      cond_elim (Reach N) (ltb b (entry_rank w.due w.ticket)) _ _
      (record { effect = tt; saves = tt; due_small = tt })
      (cond_elim (Reach N) (eqb b (entry_rank w.due w.ticket)) _ _
      (record { effect = tt; saves = tt; due_small = tt })
      (record { effect = tt; saves = tt; due_small = tt }))
  reaches (stage.Remove w (rmv.TestStamp a)) e k =
      cond_elim (Reach N) (ltb (v.st a.node) (v.pr p).begin) _ _
      (record { effect = tt; saves = tt; due_small = tt })
      (record { effect = tt; saves = tt; due_small = tt })
  reaches (stage.Remove w (rmv.SetMark a)) e k =
      let A = at_place _ e k in
      cond_elim (Reach N) (ltb 0 (v.mk a.node)) _ _
      (record { effect = tt; saves = tt; due_small = tt })
      (record { effect = A.0; saves = tt; due_small = tt })
  reaches (stage.Removal job (rem.Search a)) e k = let A = at_place _ e k in
      reach_delete_searched job N (view v (v.pr p) (key v (v.pr p).own) a) a
      (search_step (view v (v.pr p) (key v (v.pr p).own) a) a) A.1 A.2
  reaches (stage.Removal job rem.HoldNode) e k =
      let s = view v (v.pr p) (key v (v.pr p).own) (place 0 1) in
      cond_elim (λ t. Reach N (node_tried job s t)) (eqb (v.nl (v.pr p).own) 0) _ _
      (record { effect = rem_own job _ e k refl; saves = tt; due_small = tt })
      (record { effect = tt; saves = tt; due_small = tt })
  reaches (stage.Removal job (rem.Seek j)) e k = let A = at_place _ e k in
      reach_delete_sought job N (view v (v.pr p) (key v (v.pr p).own) (seek_part j).place)
      (seek_step (view v (v.pr p) (key v (v.pr p).own) (seek_part j).place) j)
      (seek_reaches N (view v (v.pr p) (key v (v.pr p).own) (seek_part j).place) j A.0
      A.1 A.2)
  reaches (stage.Removal job (rem.HoldOwn a)) e k =
      let A = at_place _ e k in
      let s = view v (v.pr p) (key v (v.pr p).own) a in
      cond_elim (λ t. Reach N (own_tried job s a t)) (eqb (v.lk (v.pr p).own a.level) 0) _ _
      (record { effect = ((rem_own job _ e k refl).1, A.1, A.2); saves = tt; due_small = tt })
      (record { effect = tt; saves = tt; due_small = tt })
  reaches (stage.Removal job (rem.Unlink a)) e k = let A = at_place _ e k in
      record { effect = A; saves = tt; due_small = tt }
  reaches (stage.Removal job (rem.LeadBack a)) e k = let A = at_place _ e k in
      record { effect = ((rem_own job _ e k refl).1, A.1, A.2); saves = tt; due_small = tt }
  reaches (stage.Removal job (rem.FreeOwn a)) e k = let A = at_place _ e k in
      record { effect = ((rem_own job _ e k refl).1, A.1, A.2); saves = tt; due_small = tt }
  reaches (stage.Removal job (rem.FreeLevel a)) e k = let A = at_place _ e k in
      cond_elim (Reach N) (leb a.level 1) _ _ (record { effect = A; saves = tt; due_small = tt })
      (record { effect = A; saves = tt; due_small = tt })
  reaches (stage.Removal job rem.FreeNode) e k =
      record { effect = rem_own job _ e k refl; saves = tt; due_small = tt }
  reaches (stage.Removal job rem.Retire) e k =
      record { effect = rem_own job _ e k refl; saves = tt; due_small = tt }

own_small : (v : View) (u : ℕ → ℕ → ℕ) (I : Inv v u) (p : ℕ) → 1 ≤ (claim v p).kind → (v.pr p).own ≤ v.nodes + 1
own_small v u I p k = elim (ℕ_discrete (claim v p).kind 1) [
  | yes a ↦ omega (arith, ((I.busy p k).inserts a).high)
  | no f ↦ elim (ℕ_discrete (claim v p).kind 2) [
    | yes a ↦ omega (arith, ((I.busy p k).walks a).ownless)
    | no g ↦ omega (arith, ((I.busy p k).removes (omega (arith, (sure v p).kind_high))).high)
  ]
]

-- the decision is the view's
pub decision_same : (q : Queue) (u : ℕ → ℕ → ℕ) (S : Sized q) (I : Inv (view_of q) u) (p : ℕ) →
    1 ≤ (claim (view_of q) p).kind → Wants (processor_at q p).stage →
    step_decision q (processor_at q p) ≡ decision (view_of q) p (processor_at q p).stage
decision_same q u S I p k w =
    let c = processor_at q p in
    let s = c.stage in
    let v = view_of q in
    let B = I.busy p k in
    let A = at_place v u I p s refl k in
    let i = place_info (v.ht c.own) s in
    let r = read_seen v u I p (reading_place s).node (reading_place s).level k A.1 (omega (arith, A.0)) (rw (sym i.0, sym i.1) at B.place.seen) in
    ap (λ (g : StepView). decide g s)
    (step_view_same q c (reading_place s) A.1 (omega (arith, B.begun_by, I.core.clock))
    (λ n n≤. S.small n) r.0 (own_small v u I p k) w)

-- the lengths stay
record Shape (a b : Node) : Type 0 where
  forward : length b.forward ≡ length a.forward
  level_locks : length b.level_locks ≡ length a.level_locks

shape : (l tail h t : ℕ) (e : Effect) (n : Node) → Shape n (changed l tail h t e n)
shape l tail h t eff.Keep n = record { forward = refl; level_locks = refl }
shape l tail h t (eff.HoldLevel a) n = record { forward = refl; level_locks = length-set n.level_locks (a.level - 1) h }
shape l tail h t (eff.FreeLevel a) n = record { forward = refl; level_locks = length-set n.level_locks (a.level - 1) 0 }
shape l tail h t (eff.SetForward a x) n = record { forward = length-set n.forward (a.level - 1) x; level_locks = refl }
shape l tail h t (eff.HoldNode x) n = record { forward = refl; level_locks = refl }
shape l tail h t (eff.FreeNode x) n = record { forward = refl; level_locks = refl }
shape l tail h t (eff.Mark x) n = record { forward = refl; level_locks = refl }
shape l tail h t (eff.Stamp x) n = record { forward = refl; level_locks = refl }
shape l tail h t (eff.Retire x) n = record { forward = refl; level_locks = refl }
shape l tail h t (eff.Fill x d i k) n = record { forward = length_below n.forward l tail; level_locks = length_below n.level_locks l 0 }

abbrev Small : Node → Type 0
Small y = (y.due ≤ 999999) × (y.ticket ≤ 999999)

still_small : (l tail h t : ℕ) (e : Effect) (n : Node) → t ≤ 999999 → due_small e → Small n → Small (changed l tail h t e n)
still_small l tail h t eff.Keep n t≤ k s = s
still_small l tail h t (eff.HoldLevel a) n t≤ k s = s
still_small l tail h t (eff.FreeLevel a) n t≤ k s = s
still_small l tail h t (eff.SetForward a x) n t≤ k s = s
still_small l tail h t (eff.HoldNode x) n t≤ k s = s
still_small l tail h t (eff.FreeNode x) n t≤ k s = s
still_small l tail h t (eff.Mark x) n t≤ k s = s
still_small l tail h t (eff.Stamp x) n t≤ k s = s
still_small l tail h t (eff.Retire x) n t≤ k s = s
still_small l tail h t (eff.Fill x d i g) n t≤ k s = (k, t≤)

saved_length : (L : ℕ) (l : List ℕ) (s : ProcessorChange) → length l ≡ 8 → length (saved_list L l s) ≡ 8
saved_length L l change.Keep e = e
saved_length L l (change.Save a) e = length-set l (a.level - 1) a.node ∙ e
saved_length L l change.Clear e = length_below l L 0 ∙ e
saved_length L l change.Begin e = e

-- a property of every element, after one was set
pub set_keeps : {A : Type 0} (P : A → Type 0) (l : List A) (k : ℕ) (x d : A) → k < length l → P x → ((n : ℕ) → P (get_or l n d)) → (n : ℕ) → P (get_or (set l k x) n d)
set_keeps {A} P l k x d lt px h n = elim (ℕ_discrete n k) [
  | yes e ↦ rw (e, get_or-set_same l k x d lt) px
  | no ne ↦ rw (get_or-set_other l k n x d ne) (h n)
]

pub sized_applied : (q : Queue) (S : Sized q) (p : ℕ) (d : Decision) → p < 16 → q.node_count ≤ 200 → q.clock + 1 ≤ 999999 → Reach q.node_count d → Sized (applied q p d)
sized_applied q S p d p< N≤ t≤ R =
    let k = node_of d.effect in
    let x = changed q.level_count (q.node_count + 1) (p + 1) (q.clock + 1) d.effect (node_at q k) in
    let H = shape q.level_count (q.node_count + 1) (p + 1) (q.clock + 1) d.effect (node_at q k) in
    let k< : node_of d.effect < length q.nodes = omega (arith, S.nodes_length, reach_node q.node_count d.effect R.effect) in
    record {
      procs = S.procs;
      nodes_length = length-set q.nodes k x ∙ S.nodes_length;
      processors_length = length-set q.processors p _ ∙ S.processors_length;
      forwards = set_keeps (λ y. length y.forward ≡ 8) q.nodes k x (fresh_node 0) k< (H.forward ∙ S.forwards k) S.forwards;
      level_locks = set_keeps (λ y. length y.level_locks ≡ 8) q.nodes k x (fresh_node 0) k< (H.level_locks ∙ S.level_locks k) S.level_locks;
      saves = set_keeps (λ y. length y.saved ≡ 8) q.processors p (processor_after q.level_count (q.clock + 1) (processor_at q p) d) fresh_processor (omega (arith, S.processors_length))
          (saved_length q.level_count (processor_at q p).saved d.change (S.saves p)) S.saves;
      small = set_keeps Small q.nodes k x (fresh_node 0) k< (still_small q.level_count (q.node_count + 1) (p + 1) (q.clock + 1) d.effect (node_at q k) t≤ R.due_small (S.small k)) S.small;
    }
