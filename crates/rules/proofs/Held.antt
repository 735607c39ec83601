-- Whoever holds a lock says so: a held level lock or node lock is held by a processor whose stage claims it. This needs nothing of the invariant.
use mathlib.Core.Path.{◌≡◌, refl, sym, ap, ◌∙◌}
use mathlib.Core.Bool.{Bool, true, false, ◌&&◌}
use mathlib.Core.Logic.{◌⊎◌, inl, inr, ⊎_elim}
use Prim.Native.Nat.{ℕ, suc, ◌+◌}
use native.Mathlib.Omega.{arith}
use native.Mathlib.Decide.{ℕ_discrete}
use lib.Dec.{ltb, leb, eqb}
use mathlib.Core.Bool.{cond}
use Rattle.record.specs.declared.stages.Place.{Place}
use Rattle.record.specs.declared.stages.Seek.{Seek}
use Rattle.record.specs.declared.stages.Seek.TheVariants as seek
use Rattle.record.specs.declared.stages.Insert.TheVariants as ins
use Rattle.record.specs.declared.stages.Delete.TheVariants as del
use Rattle.record.specs.declared.stages.Removal.TheVariants as rem
use Rattle.record.specs.declared.stages.Relaxed.TheVariants as rlx
use Rattle.record.specs.declared.stages.Wanted.{Wanted}
use Rattle.record.specs.declared.stages.Remove.TheVariants as rmv
use Rattle.record.specs.declared.stages.Stage.{Stage}
use Rattle.record.specs.declared.stages.Job.{Job}
use Rattle.record.specs.declared.stages.Stage.TheVariants as stage
use Rattle.rules.specs.declared.decisions.Effect.{Effect}
use Rattle.rules.specs.declared.decisions.Effect.TheVariants as eff
use Rattle.rules.specs.declared.decisions.Decision.{Decision}
use Rattle.rules.specs.declared.decisions.StepView.{StepView}
use Rattle.rules.specs.declared.decisions.Searched.{Searched}
use Rattle.rules.specs.declared.decisions.Searched.TheVariants as srch
use Rattle.rules.specs.declared.decisions.Sought.TheVariants as sght
use Rattle.record.specs.Stages.{place}
use Rattle.rules.specs.Locks.{Lock, level, node}
use Rattle.rules.specs.Decide.{insert_searched, insert_sought, removal_searched, removal_sought, seek_step, search_step}
use Rattle.rules.specs.Decide.{remove_searched, place_tried, node_tried, own_tried}
use Rattle.laws.proofs.Updating.{changed_same, changed_other}
use Rattle.rules.proofs.Put.{put, put_at, Where, here, away}
use Rattle.laws.proofs.Booleans.{cond_elim}
use Rattle.record.specs.Stages.{seek_part}
use Rattle.rules.proofs.View.{Pr, View, Info, info, walk_info, asks_for, entry_rank, claim}
use Rattle.rules.proofs.View.{key, tail}
use Rattle.rules.proofs.Assemble.{ticked}
use Rattle.rules.proofs.Machine.{effected, pr_after, carried, decision, view, view_for}
use Rattle.rules.proofs.Machine.{relevel}
use Rattle.rules.proofs.Facts.{info_any}
use Rattle.rules.proofs.Inv.{NodeHeld}
use Rattle.rules.proofs.Rel.{pr_same}

abbrev pub holder : View → Lock → ℕ
holder v (level n i) = v.lk n i
holder v (node n) = v.nl n

-- a processor whose stage claims the lock
pub data Holds (f : Info) (own : ℕ) (l : Lock) : Type 0 where
  by_place : f.hp ≡ 1 → l ≡ level f.node f.level → Holds f own l
  by_own : f.ho ≡ 1 → l ≡ level own f.level → Holds f own l
  by_node : f.hn ≡ 1 → l ≡ node own → Holds f own l

abbrev pub Held : View → Type 0
Held v = (q : ℕ) (l : Lock) → holder v l ≡ suc q → Holds (claim v q) (v.pr q).own l

-- the locks that an effect takes and frees
abbrev pub Takes : Effect → Lock → Type 0
Takes eff.Keep l = ⊥
Takes (eff.HoldLevel a) l = l ≡ level a.node a.level
Takes (eff.FreeLevel a) l = ⊥
Takes (eff.SetForward a x) l = ⊥
Takes (eff.HoldNode x) l = l ≡ node x
Takes (eff.FreeNode x) l = ⊥
Takes (eff.Mark x) l = ⊥
Takes (eff.Stamp x) l = ⊥
Takes (eff.Retire x) l = ⊥
Takes (eff.Fill x d i h) l = l ≡ node x

abbrev pub Frees : Effect → Lock → Type 0
Frees eff.Keep l = ⊥
Frees (eff.HoldLevel a) l = ⊥
Frees (eff.FreeLevel a) l = l ≡ level a.node a.level
Frees (eff.SetForward a x) l = ⊥
Frees (eff.HoldNode x) l = ⊥
Frees (eff.FreeNode x) l = l ≡ node x
Frees (eff.Mark x) l = ⊥
Frees (eff.Stamp x) l = ⊥
Frees (eff.Retire x) l = ⊥
Frees (eff.Fill x d i h) l = ⊥

-- a lock after an effect: taken, free, or as it was
data Then (v : View) (e : Effect) (p : ℕ) (l : Lock) : Type 0 where
  taken : Takes e l → holder (effected v e p) l ≡ suc p → Then v e p l
  free : holder (effected v e p) l ≡ 0 → Then v e p l
  same : holder (effected v e p) l ≡ holder v l → (Frees e l → ⊥) → Then v e p l

differ : (n i x : ℕ) → node n ≡ level x i → ⊥
differ n i x e = cc

differ' : (n i x : ℕ) → level n i ≡ node x → ⊥
differ' n i x e = cc

then_of : (v : View) (e : Effect) (p : ℕ) (l : Lock) → Then v e p l
then_of v eff.Keep p l = same refl (λ f. f)
then_of v (eff.HoldLevel a) p (level n i) = go (put_at v.lk a.node a.level (suc p) n i)
  where
    go : Where n a.node i a.level (put v.lk a.node a.level (suc p) n i) (suc p) (v.lk n i) → Then v (eff.HoldLevel a) p (level n i)
    go (here x y w) = taken (rw (x, y)) w
    go (away d w) = same w (λ f. f)
then_of v (eff.HoldLevel a) p (node n) = same refl (λ f. f)
then_of v (eff.FreeLevel a) p (level n i) = go (put_at v.lk a.node a.level 0 n i)
  where
    go : Where n a.node i a.level (put v.lk a.node a.level 0 n i) 0 (v.lk n i) → Then v (eff.FreeLevel a) p (level n i)
    go (here x y w) = free w
    go (away d w) = same w (λ f. d (cc) (cc))
then_of v (eff.FreeLevel a) p (node n) = same refl (λ f. differ n a.level a.node f)
then_of v (eff.SetForward a x) p (level n i) = same refl (λ f. f)
then_of v (eff.SetForward a x) p (node n) = same refl (λ f. f)
then_of v (eff.HoldNode x) p (level n i) = same refl (λ f. f)
then_of v (eff.HoldNode x) p (node n) = go (ℕ_discrete n x)
  where
    go : Dec (n ≡ x) → Then v (eff.HoldNode x) p (node n)
    go (yes e) = taken (ap node e) (rw e (changed_same v.nl x (suc p)))
    go (no d) = same (changed_other v.nl x (suc p) n d) (λ f. f)
then_of v (eff.FreeNode x) p (level n i) = same refl (λ f. differ' n i x f)
then_of v (eff.FreeNode x) p (node n) = go (ℕ_discrete n x)
  where
    go : Dec (n ≡ x) → Then v (eff.FreeNode x) p (node n)
    go (yes e) = free (rw e (changed_same v.nl x 0))
    go (no d) = same (changed_other v.nl x 0 n d) (λ f. d (cc))
then_of v (eff.Mark x) p (level n i) = same refl (λ f. f)
then_of v (eff.Mark x) p (node n) = same refl (λ f. f)
then_of v (eff.Stamp x) p (level n i) = same refl (λ f. f)
then_of v (eff.Stamp x) p (node n) = same refl (λ f. f)
then_of v (eff.Retire x) p (level n i) = same refl (λ f. f)
then_of v (eff.Retire x) p (node n) = same refl (λ f. f)
then_of v (eff.Fill x d j h) p (level n i) = go (ℕ_discrete n x) (ltb 0 i && leb i v.top) refl
  where
    level_of_lem : relevel v.lk x v.top 0 x i ≡ cond (ltb 0 i && leb i v.top) 0 (v.lk x i)
    level_of_lem = ap (λ (f : ℕ → ℕ). f i) (changed_same v.lk x _)

    go : Dec (n ≡ x) → (t : Bool) → (ltb 0 i && leb i v.top) ≡ t → Then v (eff.Fill x d j h) p (level n i)
    go (yes e) true g = free (rw e (level_of_lem ∙ rw g refl))
    go (yes e) false g = same (rw e (level_of_lem ∙ rw g refl)) (λ f. f)
    go (no ne) t g = same (ap (λ (f : ℕ → ℕ). f i) (changed_other v.lk x _ n ne)) (λ f. f)
then_of v (eff.Fill x d j h) p (node n) = go (ℕ_discrete n x)
  where
    go : Dec (n ≡ x) → Then v (eff.Fill x d j h) p (node n)
    go (yes e) = taken (ap node e) (rw e (changed_same v.nl x (suc p)))
    go (no ne) = same (changed_other v.nl x (suc p) n ne) (λ f. f)

-- a decision frees or goes on claiming what its processor claimed, and claims what it takes
pub record Passes (f : Info) (own : ℕ) (d : Decision) : Type 0 where
  pub keeps : (h : ℕ) (l : Lock) → Holds f own l → Frees d.effect l ⊎ Holds (info h d.stage) d.own l
  pub gains : (h : ℕ) (l : Lock) → Takes d.effect l → Holds (info h d.stage) d.own l

holds_any : (h g : ℕ) (s : Stage) (own : ℕ) (l : Lock) → Holds (info h s) own l → Holds (info g s) own l
holds_any h g s own l (by_place x e) = let L = info_any h g s in by_place (omega (arith, L.hp)) (e ∙ rw (L.node, L.level))
holds_any h g s own l (by_own x e) = let L = info_any h g s in by_own (omega (arith, L.ho)) (e ∙ rw L.level)
holds_any h g s own l (by_node x e) = let L = info_any h g s in by_node (omega (arith, L.hn)) e

holder_ticked : (w : View) (p : ℕ) (c : Pr) (l : Lock) → holder (ticked w p c) l ≡ holder w l
holder_ticked w p c (level n i) = refl
holder_ticked w p c (node n) = refl

-- a call of p: every lock that is held after it is claimed
pub held_carried : (v : View) (p : ℕ) → Held v → (d : Decision) → Passes (claim v p) (v.pr p).own d → Held (carried v p d)
held_carried v p H d P q l held = go (ℕ_discrete q p) (then_of v d.effect p l)
  where
    w : View
    w = effected v d.effect p

    c : Pr
    c = pr_after v.top (v.clock + 1) (v.pr p) d

    e : holder (effected v d.effect p) l ≡ suc q
    e = sym (holder_ticked (effected v d.effect p) p (pr_after v.top (v.clock + 1) (v.pr p) d) l) ∙ held

    mine : Holds (info ((effected v d.effect p).ht d.own) d.stage) d.own l → q ≡ p → Holds (claim (carried v p d) q) ((carried v p d).pr q).own l
    mine h f = rw (f, changed_same w.pr p c) h

    others : Holds (claim v q) (v.pr q).own l → (q ≡ p → ⊥) → Holds (claim (carried v p d) q) ((carried v p d).pr q).own l
    others h ne = rw (changed_other w.pr p c q ne, pr_same v p d.effect) (holds_any _ _ (v.pr q).stage (v.pr q).own l h)

    was : holder v l ≡ suc q → q ≡ p → (Frees d.effect l → ⊥) → Holds (info ((effected v d.effect p).ht d.own) d.stage) d.own l
    was g f kept = ⊎_elim (λ x. absurd (kept x)) (λ x. x) (P.keeps _ l (rw f at (H q l g)))

    go : Dec (q ≡ p) → Then v d.effect p l → Holds (claim (carried v p d) q) ((carried v p d).pr q).own l
    go (yes f) (taken t x) = mine (P.gains _ l t) f
    go (no ne) (taken t x) = absurd (ne (omega (arith, e)))
    go f (free x) = absurd (omega (arith, e))
    go (yes f) (same x kept) = mine (was (sym x ∙ e) f kept) f
    go (no ne) (same x kept) = others (H q l (sym x ∙ e)) ne

-- what is known of node locks alone
pub node_held : (v : View) → Held v → NodeHeld v
node_held v H q n e = go (H q (node n) e)
  where
    go : Holds (claim v q) (v.pr q).own (node n) → ((claim v q).hn ≡ 1) × ((v.pr q).own ≡ n)
    go (by_place x f) = absurd (differ n _ _ f)
    go (by_own x f) = absurd (differ n _ _ f)
    go (by_node x f) = (x, cc)

-- what a processor holds, by the stage it is at
held_by : {f : Info} {own : ℕ} {l : Lock} {A : Type 0} → (f.hp ≡ 1 → l ≡ level f.node f.level → A) → (f.ho ≡ 1 → l ≡ level own f.level → A) → (f.hn ≡ 1 → l ≡ node own → A) → Holds f own l → A
held_by a b c (by_place x e) = a x e
held_by a b c (by_own x e) = b x e
held_by a b c (by_node x e) = c x e

insert_searched_lem : (h : ℕ) (s : StepView) (a : Place) (r : Searched) → Passes (info h (stage.Insert (ins.Search a))) s.own (insert_searched s a r)
insert_searched_lem h s a (srch.Ahead b) = (record { keeps = λ h l H. held_by (λ x e. absurd (omega arith)) (λ x e. absurd (omega arith)) (λ x e. inr (by_node refl e)) H; gains = (λ h l t. absurd t) })
insert_searched_lem h s a (srch.Down b) = (record { keeps = λ h l H. held_by (λ x e. absurd (omega arith)) (λ x e. absurd (omega arith)) (λ x e. inr (by_node refl e)) H; gains = (λ h l t. absurd t) })
insert_searched_lem h s a (srch.Done b) = (record { keeps = λ h l H. held_by (λ x e. absurd (omega arith)) (λ x e. absurd (omega arith)) (λ x e. inr (by_node refl e)) H; gains = (λ h l t. absurd t) })

removal_searched_lem : (job : Job) (h : ℕ) (s : StepView) (a : Place) (r : Searched) →
    Passes (info h (stage.Removal job (rem.Search a))) s.own (removal_searched job s a r)
removal_searched_lem job h s a (srch.Ahead b) = (record { keeps = λ h l H. held_by (λ x e. absurd (omega arith)) (λ x e. absurd (omega arith)) (λ x e. absurd (omega arith)) H; gains = (λ h l t. absurd t) })
removal_searched_lem job h s a (srch.Down b) = (record { keeps = λ h l H. held_by (λ x e. absurd (omega arith)) (λ x e. absurd (omega arith)) (λ x e. absurd (omega arith)) H; gains = (λ h l t. absurd t) })
removal_searched_lem job h s a (srch.Done b) = (record { keeps = λ h l H. held_by (λ x e. absurd (omega arith)) (λ x e. absurd (omega arith)) (λ x e. absurd (omega arith)) H; gains = (λ h l t. absurd t) })

-- an operation without an own node holds no lock, and a step of it that takes none passes nothing
-- on
ownless_passes : (f : Info) → f.hp ≡ 0 → f.ho ≡ 0 → f.hn ≡ 0 → (own : ℕ) (d : Decision) →
    ((l : Lock) → Takes d.effect l → ⊥) → Passes f own d
ownless_passes f p o n own d none = record {
  keeps = λ h l H. held_by (λ z e. absurd (omega arith)) (λ z e. absurd (omega arith))
      (λ z e. absurd (omega arith)) H;
  gains = λ h l t. absurd (none l t);
}

remove_searched_lem : (h : ℕ) (s : StepView) (w : Wanted) (a : Place) (r : Searched) →
    Passes (info h (stage.Remove w (rmv.Search a))) s.own (remove_searched s w a r)
remove_searched_lem h s w a (srch.Ahead b) = ownless_passes _ refl refl refl _ _ (λ l t. t)
remove_searched_lem h s w a (srch.Down b) = ownless_passes _ refl refl refl _ _ (λ l t. t)
remove_searched_lem h s w a (srch.Done b) = ownless_passes _ refl refl refl _ _ (λ l t. t)

insert_seek : (h : ℕ) (s : StepView) (k : Seek) → Passes (info h (stage.Insert (ins.Seek k))) s.own (insert_sought s (seek_step s k))
insert_seek h s (seek.Approach a) = cond_elim (λ r. Passes (info h (stage.Insert (ins.Seek (seek.Approach a)))) s.own (insert_sought s r)) s.next_before_key
    (sght.Goes eff.Keep (seek.Approach (place s.next a.level))) (sght.Goes eff.Keep (seek.Take a)) (record { keeps = λ h l H. held_by (λ x e. absurd (omega arith)) (λ x e. absurd (omega arith)) (λ x e. inr (by_node refl e)) H; gains = (λ h l t. absurd t) }) (record { keeps = λ h l H. held_by (λ x e. absurd (omega arith)) (λ x e. absurd (omega arith)) (λ x e. inr (by_node refl e)) H; gains = (λ h l t. absurd t) })
insert_seek h s (seek.Take a) = cond_elim (λ t. Passes (info h (stage.Insert (ins.Seek (seek.Take a)))) s.own (insert_sought s (place_tried a t))) (eqb s.place_lock 0)
    _ _ (record { keeps = λ h l H. held_by (λ x e. absurd (omega arith)) (λ x e. absurd (omega arith)) (λ x e. inr (by_node refl e)) H; gains = (λ h l t. by_place refl t) }) (record { keeps = λ h l H. held_by (λ x e. absurd (omega arith)) (λ x e. absurd (omega arith)) (λ x e. inr (by_node refl e)) H; gains = (λ h l t. absurd t) })
insert_seek h s (seek.Confirm a) = cond_elim (λ r. Passes (info h (stage.Insert (ins.Seek (seek.Confirm a)))) s.own (insert_sought s r)) s.next_before_key
    (sght.Goes eff.Keep (seek.Release a s.next)) (sght.Done a) (record { keeps = λ h l H. held_by (λ x e. inr (by_place refl e)) (λ x e. absurd (omega arith)) (λ x e. inr (by_node refl e)) H; gains = (λ h l t. absurd t) }) (record { keeps = λ h l H. held_by (λ x e. inr (by_place refl e)) (λ x e. absurd (omega arith)) (λ x e. inr (by_node refl e)) H; gains = (λ h l t. absurd t) })
insert_seek h s (seek.Release a b) = (record { keeps = λ h l H. held_by (λ x e. inl e) (λ x e. absurd (omega arith)) (λ x e. inr (by_node refl e)) H; gains = (λ h l t. absurd t) })

removal_seek : (job : Job) (h : ℕ) (s : StepView) (k : Seek) →
    Passes (info h (stage.Removal job (rem.Seek k))) s.own (removal_sought job s (seek_step s k))
removal_seek job h s (seek.Approach a) =
    cond_elim (λ r. Passes (info h (stage.Removal job (rem.Seek (seek.Approach a)))) s.own
    (removal_sought job s r)) s.next_before_key
    (sght.Goes eff.Keep (seek.Approach (place s.next a.level))) (sght.Goes eff.Keep (seek.Take a)) (record { keeps = λ h l H. held_by (λ x e. absurd (omega arith)) (λ x e. absurd (omega arith)) (λ x e. inr (by_node refl e)) H; gains = (λ h l t. absurd t) }) (record { keeps = λ h l H. held_by (λ x e. absurd (omega arith)) (λ x e. absurd (omega arith)) (λ x e. inr (by_node refl e)) H; gains = (λ h l t. absurd t) })
removal_seek job h s (seek.Take a) =
    cond_elim (λ t. Passes (info h (stage.Removal job (rem.Seek (seek.Take a)))) s.own
    (removal_sought job s (place_tried a t))) (eqb s.place_lock 0)
    _ _ (record { keeps = λ h l H. held_by (λ x e. absurd (omega arith)) (λ x e. absurd (omega arith)) (λ x e. inr (by_node refl e)) H; gains = (λ h l t. by_place refl t) }) (record { keeps = λ h l H. held_by (λ x e. absurd (omega arith)) (λ x e. absurd (omega arith)) (λ x e. inr (by_node refl e)) H; gains = (λ h l t. absurd t) })
removal_seek job h s (seek.Confirm a) =
    cond_elim (λ r. Passes (info h (stage.Removal job (rem.Seek (seek.Confirm a)))) s.own
    (removal_sought job s r)) s.next_before_key
    (sght.Goes eff.Keep (seek.Release a s.next)) (sght.Done a) (record { keeps = λ h l H. held_by (λ x e. inr (by_place refl e)) (λ x e. absurd (omega arith)) (λ x e. inr (by_node refl e)) H; gains = (λ h l t. absurd t) }) (record { keeps = λ h l H. held_by (λ x e. inr (by_place refl e)) (λ x e. absurd (omega arith)) (λ x e. inr (by_node refl e)) H; gains = (λ h l t. absurd t) })
removal_seek job h s (seek.Release a b) = (record { keeps = λ h l H. held_by (λ x e. inl e) (λ x e. absurd (omega arith)) (λ x e. inr (by_node refl e)) H; gains = (λ h l t. absurd t) })

-- so with a walk
walk_passes : (x y : ℕ) (a : Place) (own : ℕ) (d : Decision) →
    ((l : Lock) → Takes d.effect l → ⊥) → Passes (walk_info x y a) own d
walk_passes x y a own d none = ownless_passes (walk_info x y a) refl refl refl own d none

-- every step passes its locks on
pub passes : (v : View) (p h : ℕ) (s : Stage) → Passes (info h s) (v.pr p).own (decision v p s)
passes v p h stage.Idle = (record { keeps = λ h l H. held_by (λ x e. absurd (omega arith)) (λ x e. absurd (omega arith)) (λ x e. absurd (omega arith)) H; gains = (λ h l t. absurd t) })
passes v p h (stage.Insert (ins.Search a)) =
    insert_searched_lem h (view v (v.pr p) (key v (v.pr p).own) a) a
    (search_step (view v (v.pr p) (key v (v.pr p).own) a) a)
passes v p h (stage.Insert (ins.Seek k)) =
    insert_seek h (view v (v.pr p) (key v (v.pr p).own) (seek_part k).place) k
passes v p h (stage.Insert (ins.Copy a)) = (record { keeps = λ h l H. held_by (λ x e. inr (by_place refl e)) (λ x e. absurd (omega arith)) (λ x e. inr (by_node refl e)) H; gains = (λ h l t. absurd t) })
passes v p h (stage.Insert (ins.Link a)) = (record { keeps = λ h l H. held_by (λ x e. inr (by_place refl e)) (λ x e. absurd (omega arith)) (λ x e. inr (by_node refl e)) H; gains = (λ h l t. absurd t) })
passes v p h (stage.Insert (ins.FreeLevel a)) = cond_elim (Passes (info h (stage.Insert (ins.FreeLevel a))) (v.pr p).own) (ltb a.level (v.ht (v.pr p).own)) _ _ (record { keeps = λ h l H. held_by (λ x e. inl e) (λ x e. absurd (omega arith)) (λ x e. inr (by_node refl e)) H; gains = (λ h l t. absurd t) }) (record { keeps = λ h l H. held_by (λ x e. inl e) (λ x e. absurd (omega arith)) (λ x e. inr (by_node refl e)) H; gains = (λ h l t. absurd t) })
passes v p h (stage.Insert ins.FreeNode) = (record { keeps = λ h l H. held_by (λ x e. absurd (omega arith)) (λ x e. absurd (omega arith)) (λ x e. inl e) H; gains = (λ h l t. absurd t) })
passes v p h (stage.Insert ins.Stamp) = (record { keeps = λ h l H. held_by (λ x e. absurd (omega arith)) (λ x e. absurd (omega arith)) (λ x e. absurd (omega arith)) H; gains = (λ h l t. absurd t) })
passes v p h (stage.Delete (del.ReadNext a)) =
    let o = (v.pr p).own in
    cond_elim (Passes (walk_info 2 0 a) o) (eqb (v.fwd a.node 1) (tail v)) _ _
    (walk_passes 2 0 a o _ (λ l t. t)) (walk_passes 2 0 a o _ (λ l t. t))
passes v p h (stage.Delete (del.TestStamp a)) =
    let o = (v.pr p).own in
    cond_elim (Passes (walk_info 1 0 a) o) (ltb (v.st a.node) (v.pr p).begin) _ _
    (walk_passes 1 0 a o _ (λ l t. t)) (walk_passes 1 0 a o _ (λ l t. t))
passes v p h (stage.Delete (del.SetMark a)) =
    let o = (v.pr p).own in
    cond_elim (Passes (walk_info 1 2 a) o) (ltb 0 (v.mk a.node)) _ _
    (walk_passes 1 2 a o _ (λ l t. t)) (walk_passes 1 2 a o _ (λ l t. t))
passes v p h (stage.Relaxed (rlx.ReadNext a)) =
    let o = (v.pr p).own in
    let b = v.fwd a.node 1 in
    cond_elim (Passes (walk_info 2 0 a) o) (eqb b (tail v)) _ _
    (walk_passes 2 0 a o _ (λ l t. t))
    (cond_elim (Passes (walk_info 2 0 a) o) (eqb b 0) _ _
    (walk_passes 2 0 a o _ (λ l t. t)) (walk_passes 2 0 a o _ (λ l t. t)))
passes v p h (stage.Relaxed (rlx.SetMark a)) =
    let o = (v.pr p).own in
    cond_elim (Passes (walk_info 1 1 a) o) (ltb 0 (v.mk a.node)) _ _
    (walk_passes 1 1 a o _ (λ l t. t)) (walk_passes 1 1 a o _ (λ l t. t))
passes v p h (stage.Remove w (rmv.Search a)) =
    let s = view_for v (v.pr p) (entry_rank w.due w.ticket)
    (asks_for (stage.Remove w (rmv.Search a))) a in
    remove_searched_lem h s w a (search_step s a)
passes v p h (stage.Remove w (rmv.ReadNext a)) =
    let o = (v.pr p).own in
    let f = info h (stage.Remove w (rmv.ReadNext a)) in
    let b = key v (v.fwd a.node 1) in
    cond_elim (Passes f o) (ltb b (entry_rank w.due w.ticket)) _ _
    (ownless_passes f refl refl refl o _ (λ l t. t))
    (cond_elim (Passes f o) (eqb b (entry_rank w.due w.ticket)) _ _
    (ownless_passes f refl refl refl o _ (λ l t. t))
    (ownless_passes f refl refl refl o _ (λ l t. t)))
passes v p h (stage.Remove w (rmv.TestStamp a)) =
    let o = (v.pr p).own in
    let f = info h (stage.Remove w (rmv.TestStamp a)) in
    cond_elim (Passes f o) (ltb (v.st a.node) (v.pr p).begin) _ _
    (ownless_passes f refl refl refl o _ (λ l t. t))
    (ownless_passes f refl refl refl o _ (λ l t. t))
passes v p h (stage.Remove w (rmv.SetMark a)) =
    let o = (v.pr p).own in
    let f = info h (stage.Remove w (rmv.SetMark a)) in
    cond_elim (Passes f o) (ltb 0 (v.mk a.node)) _ _
    (ownless_passes f refl refl refl o _ (λ l t. t))
    (ownless_passes f refl refl refl o _ (λ l t. t))
passes v p h (stage.Removal job (rem.Search a)) =
    removal_searched_lem job h (view v (v.pr p) (key v (v.pr p).own) a) a
    (search_step (view v (v.pr p) (key v (v.pr p).own) a) a)
passes v p h (stage.Removal job rem.HoldNode) =
    let s = view v (v.pr p) (key v (v.pr p).own) (place 0 1) in
    cond_elim (λ t. Passes (info h (stage.Removal job rem.HoldNode)) (v.pr p).own
    (node_tried job s t)) (eqb (v.nl (v.pr p).own) 0) _ _
    (record { keeps = λ h l H. held_by (λ x e. absurd (omega arith)) (λ x e. absurd (omega arith)) (λ x e. absurd (omega arith)) H; gains = (λ h l t. by_node refl t) }) (record { keeps = λ h l H. held_by (λ x e. absurd (omega arith)) (λ x e. absurd (omega arith)) (λ x e. absurd (omega arith)) H; gains = (λ h l t. absurd t) })
passes v p h (stage.Removal job (rem.Seek k)) =
    removal_seek job h (view v (v.pr p) (key v (v.pr p).own) (seek_part k).place) k
passes v p h (stage.Removal job (rem.HoldOwn a)) =
    let s = view v (v.pr p) (key v (v.pr p).own) a in
    cond_elim (λ t. Passes (info h (stage.Removal job (rem.HoldOwn a))) (v.pr p).own
    (own_tried job s a t)) (eqb (v.lk (v.pr p).own a.level) 0) _ _
    (record { keeps = λ h l H. held_by (λ x e. inr (by_place refl e)) (λ x e. absurd (omega arith)) (λ x e. inr (by_node refl e)) H; gains = (λ h l t. by_own refl t) }) (record { keeps = λ h l H. held_by (λ x e. inr (by_place refl e)) (λ x e. absurd (omega arith)) (λ x e. inr (by_node refl e)) H; gains = (λ h l t. absurd t) })
passes v p h (stage.Removal job (rem.Unlink a)) = (record { keeps = λ h l H. held_by (λ x e. inr (by_place refl e)) (λ x e. inr (by_own refl e)) (λ x e. inr (by_node refl e)) H; gains = (λ h l t. absurd t) })
passes v p h (stage.Removal job (rem.LeadBack a)) = (record { keeps = λ h l H. held_by (λ x e. inr (by_place refl e)) (λ x e. inr (by_own refl e)) (λ x e. inr (by_node refl e)) H; gains = (λ h l t. absurd t) })
passes v p h (stage.Removal job (rem.FreeOwn a)) = (record { keeps = λ h l H. held_by (λ x e. inr (by_place refl e)) (λ x e. inl e) (λ x e. inr (by_node refl e)) H; gains = (λ h l t. absurd t) })
passes v p h (stage.Removal job (rem.FreeLevel a)) = cond_elim (Passes (info h (stage.Removal job (rem.FreeLevel a))) (v.pr p).own) (leb a.level 1) _ _ (record { keeps = λ h l H. held_by (λ x e. inl e) (λ x e. absurd (omega arith)) (λ x e. inr (by_node refl e)) H; gains = (λ h l t. absurd t) }) (record { keeps = λ h l H. held_by (λ x e. inl e) (λ x e. absurd (omega arith)) (λ x e. inr (by_node refl e)) H; gains = (λ h l t. absurd t) })
passes v p h (stage.Removal job rem.FreeNode) = (record { keeps = λ h l H. held_by (λ x e. absurd (omega arith)) (λ x e. absurd (omega arith)) (λ x e. inl e) H; gains = (λ h l t. absurd t) })
passes v p h (stage.Removal job rem.Retire) = (record { keeps = λ h l H. held_by (λ x e. absurd (omega arith)) (λ x e. absurd (omega arith)) (λ x e. absurd (omega arith)) H; gains = (λ h l t. absurd t) })
