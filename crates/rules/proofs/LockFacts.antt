-- The locks of a reached record agree with the stages: a claimed lock is held, and a held lock is claimed. Assumes nothing.
use mathlib.Core.Path.{◌≡◌, refl, sym, ap, subst, ◌∙◌}
use mathlib.Core.Bool.{Bool, true, false, cond}
use Prim.Native.Nat.{ℕ, suc, ◌≤◌}
use native.Mathlib.Omega.{arith}
use Rattle.record.specs.declared.queues.Processor.{Processor}
use Rattle.record.specs.declared.queues.Queue.{Queue}
use Rattle.record.specs.declared.stages.Place.{Place}
use Rattle.record.specs.declared.stages.Seek.TheVariants as seek
use Rattle.record.specs.declared.stages.Insert.TheVariants as ins
use Rattle.record.specs.declared.stages.Delete.TheVariants as del
use Rattle.record.specs.declared.stages.Removal.TheVariants as rem
use Rattle.record.specs.declared.stages.Relaxed.TheVariants as rlx
use Rattle.record.specs.declared.stages.Remove.TheVariants as rmv
use Rattle.record.specs.declared.stages.Stage.{Stage}
use Rattle.record.specs.declared.stages.Stage.TheVariants as stage
use Rattle.record.specs.Queues.{fresh_queue, node_at, processor_at}
use Rattle.record.specs.Stages.{carried}
use Rattle.rules.specs.Book.{Book}
use Rattle.rules.specs.Calls.{reading_place}
use Rattle.rules.specs.Demand3.{LocksAgree, ReachedLocksAgree}
use Rattle.rules.specs.Locks.{Lock, level, node, holder_of, holds_place, holds_own, holds_node, Claims, of_place, of_own, of_node}
use Rattle.rules.specs.Runs.{after_all}
use Rattle.rules.proofs.Concrete.{view_of, level_pos}
use Rattle.rules.proofs.Demand3.{reached}
use Rattle.rules.proofs.Facts.{place_info}
use Rattle.rules.proofs.Held.{Holds, by_place, by_own, by_node}
use Rattle.rules.proofs.Lead.{sure}
use Rattle.rules.proofs.Sound.{Sound}
use Rattle.rules.proofs.ValidDecisions.{insert_reads, removal_reads}
use Rattle.rules.proofs.View.{View, Info, info, claim}

-- a test as one of the view's numbers
abbrev bit : Bool → ℕ
bit b = cond b 1 0

bit_true : (b : Bool) → bit b ≡ 1 → b ≡ true
bit_true true e = refl
bit_true false e = absurd (omega arith)

-- the view's claims of a stage are what the stage says that it holds
record Says (h : ℕ) (s : Stage) : Type 0 where
  place : (info h s).hp ≡ bit (holds_place s)
  own : (info h s).ho ≡ bit (holds_own s)
  node : (info h s).hn ≡ bit (holds_node s)

says : (h : ℕ) (s : Stage) → Says h s
says h stage.Idle = omega arith
says h (stage.Insert (ins.Search a)) = omega arith
says h (stage.Insert (ins.Seek (seek.Approach a))) = omega arith
says h (stage.Insert (ins.Seek (seek.Take a))) = omega arith
says h (stage.Insert (ins.Seek (seek.Confirm a))) = omega arith
says h (stage.Insert (ins.Seek (seek.Release a b))) = omega arith
says h (stage.Insert (ins.Copy a)) = omega arith
says h (stage.Insert (ins.Link a)) = omega arith
says h (stage.Insert (ins.FreeLevel a)) = omega arith
says h (stage.Insert ins.FreeNode) = omega arith
says h (stage.Insert ins.Stamp) = omega arith
says h (stage.Delete (del.ReadNext a)) = omega arith
says h (stage.Delete (del.TestStamp a)) = omega arith
says h (stage.Delete (del.SetMark a)) = omega arith
says h (stage.Relaxed (rlx.ReadNext a)) = omega arith
says h (stage.Relaxed (rlx.SetMark a)) = omega arith
says h (stage.Remove w (rmv.Search a)) = omega arith
says h (stage.Remove w (rmv.ReadNext a)) = omega arith
says h (stage.Remove w (rmv.TestStamp a)) = omega arith
says h (stage.Remove w (rmv.SetMark a)) = omega arith
says h (stage.Removal job (rem.Search a)) = omega arith
says h (stage.Removal job rem.HoldNode) = omega arith
says h (stage.Removal job (rem.Seek (seek.Approach a))) = omega arith
says h (stage.Removal job (rem.Seek (seek.Take a))) = omega arith
says h (stage.Removal job (rem.Seek (seek.Confirm a))) = omega arith
says h (stage.Removal job (rem.Seek (seek.Release a b))) = omega arith
says h (stage.Removal job (rem.HoldOwn a)) = omega arith
says h (stage.Removal job (rem.Unlink a)) = omega arith
says h (stage.Removal job (rem.LeadBack a)) = omega arith
says h (stage.Removal job (rem.FreeOwn a)) = omega arith
says h (stage.Removal job (rem.FreeLevel a)) = omega arith
says h (stage.Removal job rem.FreeNode) = omega arith
says h (stage.Removal job rem.Retire) = omega arith

-- but for a walk, the place that a stage carries is the one that its step reads at
carried_read : (h : ℕ) (s : Stage) → ((info h s).kind ≡ 2 → ⊥) → (carried s).place ≡ reading_place s
carried_read h stage.Idle k = refl
carried_read h (stage.Insert i) k = insert_reads i
carried_read h (stage.Delete (del.ReadNext a)) k = absurd (k refl)
carried_read h (stage.Delete (del.TestStamp a)) k = absurd (k refl)
carried_read h (stage.Delete (del.SetMark a)) k = absurd (k refl)
carried_read h (stage.Relaxed (rlx.ReadNext a)) k = absurd (k refl)
carried_read h (stage.Relaxed (rlx.SetMark a)) k = absurd (k refl)
carried_read h (stage.Remove w (rmv.Search a)) k = absurd (k refl)
carried_read h (stage.Remove w (rmv.ReadNext a)) k = absurd (k refl)
carried_read h (stage.Remove w (rmv.TestStamp a)) k = absurd (k refl)
carried_read h (stage.Remove w (rmv.SetMark a)) k = absurd (k refl)
carried_read h (stage.Removal job r) k = removal_reads job r

-- a record with a book for which all of it holds
module _ (q : Queue) (b : Book) (S : Sound q b) (p : ℕ) where
  abbrev v : View
  v = view_of q

  abbrev c : Processor
  c = processor_at q p

  abbrev f : Info
  f = claim v p

  said : Says (v.ht c.own) c.stage
  said = says (v.ht c.own) c.stage

  -- the carried place is the claimed one
  at_node : (f.kind ≡ 2 → ⊥) → (carried c.stage).place.node ≡ f.node
  at_node k = ap (λ (a : Place). a.node) (carried_read (v.ht c.own) c.stage k) ∙ (place_info (v.ht c.own) c.stage).0

  at_level : (f.kind ≡ 2 → ⊥) → (carried c.stage).place.level ≡ f.level
  at_level k = ap (λ (a : Place). a.level) (carried_read (v.ht c.own) c.stage k) ∙ (place_info (v.ht c.own) c.stage).1

  at_place : (f.kind ≡ 2 → ⊥) → level (carried c.stage).place.node (carried c.stage).place.level ≡ level f.node f.level
  at_place k = λ i. level (at_node k i) (at_level k i)

  -- the view's level lock is the record's
  lock_held : (n i : ℕ) → 1 ≤ i → v.lk n i ≡ suc p → holder_of q (level n i) ≡ suc p
  lock_held n i i≥ e = level_pos (node_at q n).level_locks i i≥ ∙ e

  claimed_held : (l : Lock) → Claims c l → holder_of q l ≡ suc p
  claimed_held l (of_place x) =
      let h : f.hp ≡ 1 = said.place ∙ ap bit x in
      let k : (f.kind ≡ 2 → ⊥) = (sure v p).place_own h in
      let z : (f.kind ≡ 0 → ⊥) = (sure v p).place_kind h in
      let B = S.inv.busy p (omega arith) in
      subst (λ (l : Lock). holder_of q l ≡ suc p) (sym (at_place k)) (lock_held f.node f.level B.low (B.holds_place_lock h))
  claimed_held l (of_own x) =
      let h : f.ho ≡ 1 = said.own ∙ ap bit x in
      let k : f.kind ≡ 3 = (sure v p).own_own h in
      let B = S.inv.busy p (omega arith) in
      subst (λ (i : ℕ). holder_of q (level c.own i) ≡ suc p) (sym (at_level (λ e. omega arith))) (lock_held c.own f.level B.low (B.holds_own_lock h))
  claimed_held l (of_node x) = let h : f.hn ≡ 1 = said.node ∙ ap bit x in (S.inv.busy p ((sure v p).node_kind h)).holds_node_lock h

  holds_claims : (l : Lock) → Holds f c.own l → Claims c l
  holds_claims l (by_place h e) = subst (Claims c) (at_place ((sure v p).place_own h) ∙ sym e) (of_place (bit_true (holds_place c.stage) (sym said.place ∙ h)))
  holds_claims l (by_own h e) = let k : f.kind ≡ 3 = (sure v p).own_own h in
      subst (Claims c) (ap (level c.own) (at_level (λ g. omega arith)) ∙ sym e) (of_own (bit_true (holds_own c.stage) (sym said.own ∙ h)))
  holds_claims l (by_node h e) = subst (Claims c) (sym e) (of_node (bit_true (holds_node c.stage) (sym said.node ∙ h)))

pub locks_agree : (q : Queue) (b : Book) → Sound q b → LocksAgree q
locks_agree q b S = record {
  claimed_is_held = claimed_held q b S;
  held_is_claimed = λ p n i i≥ e. holds_claims q b S p (level n i) (S.held p (level n i) (sym (level_pos (node_at q n).level_locks i i≥) ∙ e));
  node_held_is_claimed = λ p n e. holds_claims q b S p (node n) (S.held p (node n) e);
}

pub reached_locks_agree : ReachedLocksAgree
reached_locks_agree P N L R cs = let J = reached P N L R cs in locks_agree (after_all (fresh_queue P N L) cs) J.book J.sound
