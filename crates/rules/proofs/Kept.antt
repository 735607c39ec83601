-- A step keeps the invariant.
use mathlib.Core.Path.{◌≡◌, refl, ap}
use mathlib.Core.Bool.{Bool, cond}
use Prim.Native.Nat.{ℕ, ◌+◌, ◌≤◌, ◌<◌}
use native.Mathlib.Omega.{arith}
use lib.Dec.{ltb, leb, eqb}
use borrow.Author.Tests.{ltb-true, ltb-false, leb-true, leb-false, eqb-true, eqb-false}
use Rattle.record.specs.declared.stages.Place.{Place}
use Rattle.record.specs.declared.stages.Seek.{Seek}
use Rattle.record.specs.declared.stages.Seek.TheVariants as seek
use Rattle.record.specs.declared.stages.Insert.{Insert}
use Rattle.record.specs.declared.stages.Insert.TheVariants as ins
use Rattle.record.specs.declared.stages.Delete.TheVariants as del
use Rattle.record.specs.declared.stages.Removal.{Removal}
use Rattle.record.specs.declared.stages.Removal.TheVariants as rem
use Rattle.record.specs.declared.stages.Relaxed.TheVariants as rlx
use Rattle.record.specs.declared.stages.Wanted.{Wanted}
use Rattle.record.specs.declared.stages.Remove.{Remove}
use Rattle.record.specs.declared.stages.Remove.TheVariants as rmv
use Rattle.record.specs.declared.stages.Stage.{Stage}
use Rattle.record.specs.declared.stages.Job.{Job}
use Rattle.record.specs.declared.stages.Job.TheVariants as jobs
use Rattle.rules.specs.declared.decisions.Effect.TheVariants as eff
use Rattle.record.specs.Stages.{place}
use Rattle.record.specs.declared.stages.Stage.TheVariants as stage
use Rattle.laws.proofs.Booleans.{cond_cases}
use Rattle.rules.proofs.Put.{ever, put}
use Rattle.rules.proofs.View.{View, Info, info, walk_info, asks_for, Wants, key, tail, last}
use Rattle.rules.proofs.View.{entry_rank}
use Rattle.rules.proofs.Inv.{Inv, NodeHeld}
use Rattle.rules.proofs.Machine.{decision, carried, view, view_for}
use Rattle.rules.specs.Decide.{moved, missing, marking, insert_searched, insert_sought}
use Rattle.rules.specs.Decide.{removal_searched}
use Rattle.rules.specs.Decide.{removal_sought, remove_searched, place_tried, node_tried, own_tried}
use Rattle.rules.proofs.Move.{busy_at, approach_ahead, approach_take, take_waits, take_confirm, confirm_release, release_take}
use Rattle.rules.proofs.Search.{search_ahead, search_down}
use Rattle.rules.proofs.InsertSteps
use Rattle.rules.proofs.WalkSteps
use Rattle.rules.proofs.FindSteps
use Rattle.rules.proofs.RemovalSteps

-- what the ghost function becomes
abbrev pub until_after : View → (ℕ → ℕ → ℕ) → ℕ → Stage → ℕ → ℕ → ℕ
until_after v u p stage.Idle = u
until_after v u p (stage.Insert (ins.Search a)) = u
until_after v u p (stage.Insert (ins.Seek k)) = u
until_after v u p (stage.Insert (ins.Copy a)) = u
until_after v u p (stage.Insert (ins.Link a)) = put u (v.pr p).own a.level ever
until_after v u p (stage.Insert (ins.FreeLevel a)) = u
until_after v u p (stage.Insert ins.FreeNode) = u
until_after v u p (stage.Insert ins.Stamp) = u
until_after v u p (stage.Delete (del.ReadNext a)) = u
until_after v u p (stage.Delete (del.TestStamp a)) = u
until_after v u p (stage.Delete (del.SetMark a)) = u
until_after v u p (stage.Relaxed (rlx.ReadNext a)) = u
until_after v u p (stage.Relaxed (rlx.SetMark a)) = u
until_after v u p (stage.Remove w d) = u
until_after v u p (stage.Removal job (rem.Search a)) = u
until_after v u p (stage.Removal job rem.HoldNode) = u
until_after v u p (stage.Removal job (rem.Seek k)) = u
until_after v u p (stage.Removal job (rem.HoldOwn a)) = u
until_after v u p (stage.Removal job (rem.Unlink a)) = put u (v.pr p).own a.level (v.clock + 1)
until_after v u p (stage.Removal job (rem.LeadBack a)) = u
until_after v u p (stage.Removal job (rem.FreeOwn a)) = u
until_after v u p (stage.Removal job (rem.FreeLevel a)) = u
until_after v u p (stage.Removal job rem.FreeNode) = u
until_after v u p (stage.Removal job rem.Retire) = u

module _ (v : View) (u : ℕ → ℕ → ℕ) (I : Inv v u) (H : NodeHeld v) (room : v.clock + 1 < ever) (p : ℕ) where
  insert_own : (i : Insert) → (v.pr p).stage ≡ stage.Insert i → 1 ≤ (info (v.ht (v.pr p).own) (stage.Insert i)).kind → (info (v.ht (v.pr p).own) (stage.Insert i)).kind ≡ 1 → (1 ≤ (v.pr p).own) × ((v.pr p).own ≤ v.nodes)
  insert_own i e b k = let S = (busy_at v u I p (stage.Insert i) e b).inserts k in (S.low, S.high)

  remove_own : (job : Job) (d : Removal) → (v.pr p).stage ≡ stage.Removal job d →
      1 ≤ (info (v.ht (v.pr p).own) (stage.Removal job d)).kind →
      (info (v.ht (v.pr p).own) (stage.Removal job d)).kind ≡ 3 →
      (1 ≤ (v.pr p).own) × ((v.pr p).own ≤ v.nodes)
  remove_own job d e b k = let S = (busy_at v u I p (stage.Removal job d) e b).removes k in
      (S.low, S.high)

  own_high : 1 ≤ (v.pr p).own → (v.pr p).own ≤ v.nodes → key v (v.pr p).own ≤ last
  own_high o≥ o≤ = omega (arith, (I.core.ends.keys (v.pr p).own o≥ (omega arith)).1)

  abbrev Kept : Stage → Type 0
  Kept s = Inv (carried v p (decision v p s)) (until_after v u p s)

  abbrev before : Place → Bool
  before a = ltb (key v (v.fwd a.node a.level)) (key v (v.pr p).own)

  insert_search : (a : Place) → (v.pr p).stage ≡ stage.Insert (ins.Search a) → Kept (stage.Insert (ins.Search a))
  insert_search a e =
      let own = insert_own (ins.Search a) e (omega arith) refl in
      cond_cases (λ r. Inv
      (carried v p (insert_searched (view v (v.pr p) (key v (v.pr p).own) a) a r)) u)
      (before a) _ _
      (λ x. search_ahead v u I room p (λ b. stage.Insert (ins.Search b)) 1 1 0 0
      (key v (v.pr p).own) (λ b. refl) (omega arith) (λ h. absurd (omega arith))
      (own_high own.0 own.1) refl a e (ltb-true _ _ x))
      (λ x. cond_cases
      (λ r. Inv (carried v p (insert_searched (view v (v.pr p) (key v (v.pr p).own) a) a r)) u)
      (leb a.level 1) _ _
      (λ y. InsertSteps.insert_left v u I room p a e (leb-true _ _ y))
      (λ y. search_down v u I room p (λ b. stage.Insert (ins.Search b)) 1 1 0 0
      (key v (v.pr p).own) (λ b. refl) (omega arith) (λ h. absurd (omega arith))
      (own_high own.0 own.1) refl a e (leb-false _ _ y)))

  insert_seek : (k : Seek) → (v.pr p).stage ≡ stage.Insert (ins.Seek k) → Kept (stage.Insert (ins.Seek k))
  insert_seek (seek.Approach a) e =
      let own = insert_own (ins.Seek (seek.Approach a)) e (omega arith) refl in
      cond_cases (λ r. Inv
      (carried v p (insert_sought (view v (v.pr p) (key v (v.pr p).own) a) r)) u) (before a) _ _
      (λ x. approach_ahead v u I room p (λ b. stage.Insert (ins.Seek b)) 1 1 0 (λ h b. refl)
      (omega arith) (λ h. omega arith) own.0 own.1 refl a e (ltb-true _ _ x))
      (λ x. approach_take v u I room p (λ b. stage.Insert (ins.Seek b)) 1 1 0 (λ h b. refl)
      (omega arith) (λ h. omega arith) own.0 own.1 refl a e)
  insert_seek (seek.Take a) e =
      let own = insert_own (ins.Seek (seek.Take a)) e (omega arith) refl in
      cond_cases (λ t. Inv
      (carried v p (insert_sought (view v (v.pr p) (key v (v.pr p).own) a) (place_tried a t))) u)
      (eqb (v.lk a.node a.level) 0) _ _
      (λ x. take_confirm v u I room p (λ b. stage.Insert (ins.Seek b)) 1 1 0 (λ h b. refl)
      (omega arith) (λ h. omega arith) own.0 own.1 refl a e (eqb-true _ _ x))
      (λ x. take_waits v u I room p (λ b. stage.Insert (ins.Seek b)) 1 1 0 (λ h b. refl)
      (omega arith) (λ h. omega arith) own.0 own.1 refl a e)
  insert_seek (seek.Confirm a) e =
      let own = insert_own (ins.Seek (seek.Confirm a)) e (omega arith) refl in
      cond_cases (λ r. Inv
      (carried v p (insert_sought (view v (v.pr p) (key v (v.pr p).own) a) r)) u) (before a) _ _
      (λ x. confirm_release v u I room p (λ b. stage.Insert (ins.Seek b)) 1 1 0 (λ h b. refl)
      (omega arith) (λ h. omega arith) own.0 own.1 refl a e (ltb-true _ _ x))
      (λ x. InsertSteps.insert_done v u I room p a e (ltb-false _ _ x))
  insert_seek (seek.Release a b) e =
      let own = insert_own (ins.Seek (seek.Release a b)) e (omega arith) refl in
      release_take v u I room p (λ b. stage.Insert (ins.Seek b)) 1 1 0 (λ h b. refl) (omega arith) (λ h. omega arith) own.0 own.1 refl a b e

  delete_search : (job : Job) (a : Place) → (v.pr p).stage ≡ stage.Removal job (rem.Search a) →
      Kept (stage.Removal job (rem.Search a))
  delete_search job a e =
      let own = remove_own job (rem.Search a) e (omega arith) refl in
      cond_cases (λ r. Inv
      (carried v p (removal_searched job (view v (v.pr p) (key v (v.pr p).own) a) a r)) u)
      (before a) _ _
      (λ x. search_ahead v u I room p (λ b. stage.Removal job (rem.Search b)) 3 0
      (v.ht (v.pr p).own) 0 (key v (v.pr p).own) (λ b. refl) (omega arith)
      (λ h. absurd (omega arith)) (own_high own.0 own.1) refl a e (ltb-true _ _ x))
      (λ x. cond_cases
      (λ r. Inv (carried v p (removal_searched job (view v (v.pr p) (key v (v.pr p).own) a) a r))
      u) (leb a.level 1) _ _
      (λ y. RemovalSteps.delete_left v u I room p job a e (leb-true _ _ y))
      (λ y. search_down v u I room p (λ b. stage.Removal job (rem.Search b)) 3 0
      (v.ht (v.pr p).own) 0 (key v (v.pr p).own) (λ b. refl) (omega arith)
      (λ h. absurd (omega arith)) (own_high own.0 own.1) refl a e (leb-false _ _ y)))

  delete_seek : (job : Job) (k : Seek) → (v.pr p).stage ≡ stage.Removal job (rem.Seek k) →
      Kept (stage.Removal job (rem.Seek k))
  delete_seek job (seek.Approach a) e =
      let own = remove_own job (rem.Seek (seek.Approach a)) e (omega arith) refl in
      cond_cases (λ r. Inv
      (carried v p (removal_sought job (view v (v.pr p) (key v (v.pr p).own) a) r)) u)
      (before a) _ _
      (λ x. approach_ahead v u I room p (λ b. stage.Removal job (rem.Seek b)) 3 0 1 (λ h b. refl)
      (omega arith) (λ h. omega arith) own.0 own.1 refl a e (ltb-true _ _ x))
      (λ x. approach_take v u I room p (λ b. stage.Removal job (rem.Seek b)) 3 0 1 (λ h b. refl)
      (omega arith) (λ h. omega arith) own.0 own.1 refl a e)
  delete_seek job (seek.Take a) e =
      let own = remove_own job (rem.Seek (seek.Take a)) e (omega arith) refl in
      cond_cases (λ t. Inv
      (carried v p (removal_sought job (view v (v.pr p) (key v (v.pr p).own) a)
      (place_tried a t))) u)
      (eqb (v.lk a.node a.level) 0) _ _
      (λ x. take_confirm v u I room p (λ b. stage.Removal job (rem.Seek b)) 3 0 1 (λ h b. refl)
      (omega arith) (λ h. omega arith) own.0 own.1 refl a e (eqb-true _ _ x))
      (λ x. take_waits v u I room p (λ b. stage.Removal job (rem.Seek b)) 3 0 1 (λ h b. refl)
      (omega arith) (λ h. omega arith) own.0 own.1 refl a e)
  delete_seek job (seek.Confirm a) e =
      let own = remove_own job (rem.Seek (seek.Confirm a)) e (omega arith) refl in
      cond_cases (λ r. Inv
      (carried v p (removal_sought job (view v (v.pr p) (key v (v.pr p).own) a) r)) u)
      (before a) _ _
      (λ x. confirm_release v u I room p (λ b. stage.Removal job (rem.Seek b)) 3 0 1 (λ h b. refl)
      (omega arith) (λ h. omega arith) own.0 own.1 refl a e (ltb-true _ _ x))
      (λ x. RemovalSteps.delete_done v u I room p job a e (ltb-false _ _ x))
  delete_seek job (seek.Release a b) e =
      let own = remove_own job (rem.Seek (seek.Release a b)) e (omega arith) refl in
      release_take v u I room p (λ b. stage.Removal job (rem.Seek b)) 3 0 1 (λ h b. refl)
      (omega arith) (λ h. omega arith) own.0 own.1 refl a b e

  insert_freed_lem : (a : Place) → (v.pr p).stage ≡ stage.Insert (ins.FreeLevel a) → Kept (stage.Insert (ins.FreeLevel a))
  insert_freed_lem a e = cond_cases (λ d. Inv (carried v p d) u) (ltb a.level (v.ht (v.pr p).own)) _ _ (λ x. InsertSteps.insert_up v u I room p a e (ltb-true _ _ x)) (λ x. InsertSteps.insert_top v u I room p a e (ltb-false _ _ x))

  walk : (a : Place) → (v.pr p).stage ≡ stage.Delete (del.ReadNext a) → Kept (stage.Delete (del.ReadNext a))
  walk a e = cond_cases (λ d. Inv (carried v p d) u) (eqb (v.fwd a.node 1) (tail v)) _ _
      (λ x. WalkSteps.ownless_ends v u I room p (stage.Delete (del.ReadNext a)) e refl refl)
      (λ x. WalkSteps.walk_on_lem v u I room p (stage.Delete (del.ReadNext a)) e 2 0 a refl H refl
      (eqb-false _ _ x) (stage.Delete (del.TestStamp _)) 0 (omega arith) (λ k. absurd (omega arith))
      refl)

  -- W1 of a Relaxed one
  relaxed_walk : (a : Place) → (v.pr p).stage ≡ stage.Relaxed (rlx.ReadNext a) →
      Kept (stage.Relaxed (rlx.ReadNext a))
  relaxed_walk a e =
      let s = stage.Relaxed (rlx.ReadNext a) in
      let b = v.fwd a.node 1 in
      cond_cases (λ d. Inv (carried v p d) u) (eqb b (tail v)) _ _
      (λ x. WalkSteps.ownless_ends v u I room p s e refl refl)
      (λ x. cond_cases (λ d. Inv (carried v p d) u) (eqb b 0) _ _
      (λ y. WalkSteps.walk_head v u I room p s e 2 0 a refl (eqb-true _ _ y)
      (stage.Relaxed (rlx.ReadNext _)) refl)
      (λ y. WalkSteps.walk_on_lem v u I room p s e 2 0 a refl H refl (eqb-false _ _ x)
      (stage.Relaxed (rlx.SetMark _)) 1 (omega arith)
      (λ k. let d : (b ≡ 0 → ⊥) = eqb-false b 0 y in omega arith) refl))

  stamp : (a : Place) → (v.pr p).stage ≡ stage.Delete (del.TestStamp a) → Kept (stage.Delete (del.TestStamp a))
  stamp a e = cond_cases (λ d. Inv (carried v p d) u) (ltb (v.st a.node) (v.pr p).begin) _ _
      (λ x. WalkSteps.stamp_early v u I room p (stage.Delete (del.TestStamp a)) e 1 0 a refl refl
      (ltb-true _ _ x) (stage.Delete (del.SetMark a)) refl)
      (λ x. WalkSteps.stamp_late v u I room p (stage.Delete (del.TestStamp a)) e 1 0 a refl
      (omega arith) (ltb-false _ _ x) (stage.Delete (del.ReadNext a)) refl)

  -- W3 of a walk
  mark : (s : Stage) → (v.pr p).stage ≡ s →
      (y : ℕ) (a : Place) → info (v.ht (v.pr p).own) s ≡ walk_info 1 y a → 1 ≤ y →
      (back : Stage) → info (v.ht (v.pr p).own) back ≡ walk_info 2 0 a →
      Inv (carried v p
      (cond (ltb 0 (v.mk a.node))
      (moved (view v (v.pr p) (key v (v.pr p).own) (place a.node 1)) eff.Keep back)
      (marking jobs.Deliver (view v (v.pr p) (key v (v.pr p).own) (place a.node 1)) a))) u
  mark s e y a is y≥ back to = cond_cases (λ d. Inv (carried v p d) u) (ltb 0 (v.mk a.node)) _ _
      (λ x. WalkSteps.mark_set v u I room p s e 1 y a is (omega arith)
      (λ h. omega (arith, ltb-true 0 (v.mk a.node) x)) back to)
      (λ x. let m : v.mk a.node ≡ 0 = omega (arith, ltb-false 0 (v.mk a.node) x) in
      let M = WalkSteps.mark_place v u I room p s e 1 y a is y≥ m in
      WalkSteps.mark_step v u I room p s e (ap (λ (f : Info). f.kind) is)
      (ap (λ (f : Info). f.nx) is) jobs.Deliver a.node M.0 M.1 M.2 m)

  -- a Remove before its mark
  module _ (w : Wanted) (small : (w.due ≤ 999999) × (w.ticket ≤ 999999)) where
    abbrev goal : ℕ
    goal = entry_rank w.due w.ticket

    find_search : (a : Place) → (v.pr p).stage ≡ stage.Remove w (rmv.Search a) →
        Kept (stage.Remove w (rmv.Search a))
    find_search a e =
        let s = stage.Remove w (rmv.Search a) in
        let B = busy_at v u I p s e (omega arith) in
        let sees = view_for v (v.pr p) goal (asks_for s) a in
        cond_cases (λ r. Inv (carried v p (remove_searched sees w a r)) u)
        (ltb (key v (v.fwd a.node a.level)) goal) _ _
        (λ x. search_ahead v u I room p (λ b. stage.Remove w (rmv.Search b)) 2 0 0 goal goal
        (λ b. refl) (omega arith) (λ h. (B.walks refl).ownless)
        (omega (arith, small.0, small.1)) refl a e (ltb-true _ _ x))
        (λ x. cond_cases (λ r. Inv (carried v p (remove_searched sees w a r)) u)
        (leb a.level 1) _ _
        (λ y. FindSteps.find_left v u I room p w small.0 small.1 a e (leb-true _ _ y))
        (λ y. search_down v u I room p (λ b. stage.Remove w (rmv.Search b)) 2 0 0 goal goal
        (λ b. refl) (omega arith) (λ h. (B.walks refl).ownless)
        (omega (arith, small.0, small.1)) refl a e (leb-false _ _ y)))

    -- not there: it is idle again
    find_ends : (s : Stage) → (v.pr p).stage ≡ s → (info (v.ht (v.pr p).own) s).kind ≡ 2 →
        (info (v.ht (v.pr p).own) s).nx ≡ 0 → Inv (carried v p (missing w)) u
    find_ends s e k n = WalkSteps.ownless_ends v u I room p s e k n

    find : (d : Remove) → (v.pr p).stage ≡ stage.Remove w d → Kept (stage.Remove w d)
    find (rmv.Search a) e = find_search a e
    find (rmv.ReadNext a) e =
        let b = v.fwd a.node 1 in
        cond_cases (λ d. Inv (carried v p d) u) (ltb (key v b) goal) _ _
        (λ x. FindSteps.find_on v u I room p w small.0 small.1 a e (ltb-true _ _ x))
        (λ x. cond_cases (λ d. Inv (carried v p d) u) (eqb (key v b) goal) _ _
        (λ y. FindSteps.find_here v u I room p w small.0 small.1 a e (eqb-true _ _ y))
        (λ y. find_ends (stage.Remove w (rmv.ReadNext a)) e refl refl))
    find (rmv.TestStamp a) e =
        cond_cases (λ d. Inv (carried v p d) u) (ltb (v.st a.node) (v.pr p).begin) _ _
        (λ x. FindSteps.find_stamped v u I room p w small.0 small.1 a e (ltb-true _ _ x))
        (λ x. find_ends (stage.Remove w (rmv.TestStamp a)) e refl refl)
    find (rmv.SetMark a) e =
        cond_cases (λ d. Inv (carried v p d) u) (ltb 0 (v.mk a.node)) _ _
        (λ x. find_ends (stage.Remove w (rmv.SetMark a)) e refl refl)
        (λ x. let m : v.mk a.node ≡ 0 = omega (arith, ltb-false 0 (v.mk a.node) x) in
        let L = (FindSteps.find_marks v u I room p w small.0 small.1 a e m).0 in
        WalkSteps.mark_step v u I room p (stage.Remove w (rmv.SetMark a)) e refl refl jobs.TakeBack
        a.node L.low L.high L.used m)

  hold_node_lem : (job : Job) → (v.pr p).stage ≡ stage.Removal job rem.HoldNode →
      Kept (stage.Removal job rem.HoldNode)
  hold_node_lem job e =
      let s = view v (v.pr p) (key v (v.pr p).own) (place 0 1) in
      cond_cases (λ t. Inv (carried v p (node_tried job s t)) u) (eqb (v.nl (v.pr p).own) 0) _ _
      (λ x. RemovalSteps.node_held v u I room p job e (eqb-true _ _ x))
      (λ x. RemovalSteps.node_waits v u I room p job e)

  hold_own_lem : (job : Job) (a : Place) → (v.pr p).stage ≡ stage.Removal job (rem.HoldOwn a) →
      Kept (stage.Removal job (rem.HoldOwn a))
  hold_own_lem job a e =
      let s = view v (v.pr p) (key v (v.pr p).own) a in
      cond_cases (λ t. Inv (carried v p (own_tried job s a t)) u)
      (eqb (v.lk (v.pr p).own a.level) 0) _ _
      (λ x. RemovalSteps.own_held v u I room p job a e (eqb-true _ _ x))
      (λ x. RemovalSteps.own_waits v u I room p job a e)

  delete_freed : (job : Job) (a : Place) → (v.pr p).stage ≡ stage.Removal job (rem.FreeLevel a) →
      Kept (stage.Removal job (rem.FreeLevel a))
  delete_freed job a e = cond_cases (λ d. Inv (carried v p d) u) (leb a.level 1) _ _
      (λ x. RemovalSteps.delete_bottom v u I room p job a e (leb-true _ _ x))
      (λ x. RemovalSteps.delete_down v u I room p job a e (leb-false _ _ x))

  pub kept : (s : Stage) → (v.pr p).stage ≡ s → 1 ≤ (info (v.ht (v.pr p).own) s).kind →
      Wants s → Kept s
  kept stage.Idle e b s = absurd (omega arith)
  kept (stage.Insert (ins.Search a)) e b s = insert_search a e
  kept (stage.Insert (ins.Seek k)) e b s = insert_seek k e
  kept (stage.Insert (ins.Copy a)) e b s = InsertSteps.insert_copy v u I room p a e
  kept (stage.Insert (ins.Link a)) e b s = InsertSteps.insert_link v u I room p a e
  kept (stage.Insert (ins.FreeLevel a)) e b s = insert_freed_lem a e
  kept (stage.Insert ins.FreeNode) e b s = InsertSteps.insert_free v u I room p e
  kept (stage.Insert ins.Stamp) e b s = InsertSteps.insert_stamp v u I room p e
  kept (stage.Delete (del.ReadNext a)) e b s = walk a e
  kept (stage.Delete (del.TestStamp a)) e b s = stamp a e
  kept (stage.Delete (del.SetMark a)) e b s =
      mark (stage.Delete (del.SetMark a)) e 2 a refl (omega arith)
      (stage.Delete (del.ReadNext a)) refl
  kept (stage.Relaxed (rlx.ReadNext a)) e b s = relaxed_walk a e
  kept (stage.Relaxed (rlx.SetMark a)) e b s = mark (stage.Relaxed (rlx.SetMark a)) e 1 a refl
      (omega arith) (stage.Relaxed (rlx.ReadNext a)) refl
  kept (stage.Remove w d) e b s = find w s d e
  kept (stage.Removal job (rem.Search a)) e b s = delete_search job a e
  kept (stage.Removal job rem.HoldNode) e b s = hold_node_lem job e
  kept (stage.Removal job (rem.Seek k)) e b s = delete_seek job k e
  kept (stage.Removal job (rem.HoldOwn a)) e b s = hold_own_lem job a e
  kept (stage.Removal job (rem.Unlink a)) e b s = RemovalSteps.delete_unlink v u I room p job a e
  kept (stage.Removal job (rem.LeadBack a)) e b s = RemovalSteps.delete_back v u I room p job a e
  kept (stage.Removal job (rem.FreeOwn a)) e b s = RemovalSteps.delete_free_own v u I room p job a e
  kept (stage.Removal job (rem.FreeLevel a)) e b s = delete_freed job a e
  kept (stage.Removal job rem.FreeNode) e b s = RemovalSteps.delete_free v u I room p job e
  kept (stage.Removal job rem.Retire) e b s = RemovalSteps.delete_retire v u I room p job e
