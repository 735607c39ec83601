-- What follows a mark, Search to L8: every step of a removal keeps the invariant.
use mathlib.Core.Path.{◌≡◌, refl, sym, ◌∙◌}
use Prim.Native.Nat.{ℕ, suc, ◌+◌, ◌-◌, ◌≤◌, ◌<◌}
use native.Mathlib.Omega.{arith}
use native.Mathlib.Decide.{ℕ_discrete}
use Rattle.record.specs.declared.stages.Place.{Place}
use Rattle.record.specs.declared.stages.Seek.TheVariants as seek
use Rattle.record.specs.declared.stages.Removal.TheVariants as rem
use Rattle.record.specs.declared.stages.Job.{Job}
use Rattle.record.specs.declared.stages.Stage.TheVariants as stage
use Rattle.record.specs.Stages.{place}
use Rattle.laws.specs.Update.{changed_at}
use Rattle.laws.proofs.Updating.{changed_same, changed_other}
use Rattle.rules.proofs.Put.{ever, put, put_same, put_other, save_at}
use Rattle.rules.proofs.View.{View, claim, key, tail}
use Rattle.rules.proofs.Inv.{Inv, removing}
use Rattle.rules.proofs.Read.{on_apart}
use Rattle.rules.proofs.Order.{unlinked}
use Rattle.rules.proofs.Assemble.{ticked, one_kept, yields_kept, yields_new}
use Rattle.rules.proofs.Machine.{with_locks, with_fwd, with_status}
use Rattle.rules.proofs.Locks.{locked}
use Rattle.rules.proofs.Lead.{sure}
use Rattle.rules.proofs.OwnLead.{own_lead}
use Rattle.rules.proofs.PlaceLead.{place_lead}
use Rattle.rules.proofs.Status.{restate}
use Rattle.rules.proofs.Move.{staged, near_none, lock_kept, free_kept, busy_at, kind_at, past_at, nx_at, level_at, settled_at, readable_put}
use Rattle.rules.proofs.Search.{saving, saved_more}
use Rattle.rules.proofs.InsertSteps.{idle, head_readable, lock_step, yielding}

module _ (v : View) (u : ℕ → ℕ → ℕ) (I : Inv v u) (room : v.clock + 1 < ever) (p : ℕ)
    (job : Job) where
  -- the search is left for L1
  pub delete_left : (a : Place) → (v.pr p).stage ≡ stage.Removal job (rem.Search a) → a.level ≤ 1 →
      Inv (ticked v p (saving (v.pr p) a (stage.Removal job rem.HoldNode))) u
  delete_left a e le =
      let s = stage.Removal job (rem.Search a) in
      let B = busy_at v u I p s e (omega arith) in
      let S = B.removes refl in
      let G = head_readable v u I (v.pr p).begin (key v (v.pr p).own) 1 I.core.level_count (omega (arith, B.begun_by)) (I.core.ends.keys (v.pr p).own S.low (omega (arith, S.high))).0 in
      lock_step v u I room p s e (omega arith) (stage.Removal job rem.HoldNode) v.lk
      (save_at (v.pr p).saved a.level a.node)
      (λ h. omega arith) (λ q n i ne h. h) refl (λ h. omega arith) (λ k h. omega arith)
      (record {
        begun = B.begun;
        begun_by = omega (arith, B.begun_by);
        low = omega arith;
        high = I.core.level_count;
        place = G;
        read = G;
        saved = λ j f j≥ j≤. saved_more u (key v) (tail v) v.top (v.pr p).begin _ (v.pr p).saved a.node a.level B.low B.place B.saved j (omega arith) j≥ j≤;
        holds_place_lock = λ h. absurd (omega arith);
        holds_own_lock = λ h. absurd (omega arith);
        holds_node_lock = λ h. absurd (omega arith);
        near = near_none _ _ _ _ _ _;
        inserts = λ h. absurd (omega arith);
        within = λ h. omega (arith, (I.core.entered (v.pr p).own S.low (omega (arith, S.high))).low_height);
        removes = B.removes;
        walks = λ h. absurd (omega arith);
      })

  -- L1
  pub node_waits : (v.pr p).stage ≡ stage.Removal job rem.HoldNode →
      Inv (ticked v p (staged (v.pr p) (stage.Removal job rem.HoldNode))) u
  node_waits e =
      let s = stage.Removal job rem.HoldNode in
      let B = busy_at v u I p s e (omega arith) in
      lock_step v u I room p s e (omega arith) s v.lk (v.pr p).saved (λ h. omega arith) (λ q n i ne h. h) refl (λ h. omega arith) (λ k h. omega arith)
      (record {
        begun = B.begun;
        begun_by = omega (arith, B.begun_by);
        low = B.low;
        high = B.high;
        place = B.place;
        read = B.read;
        saved = B.saved;
        holds_place_lock = λ h. absurd (omega arith);
        holds_own_lock = λ h. absurd (omega arith);
        holds_node_lock = λ h. absurd (omega arith);
        near = near_none _ _ _ _ _ _;
        inserts = λ h. absurd (omega arith);
        within = B.within;
        removes = B.removes;
        walks = λ h. absurd (omega arith);
      })

  pub node_held : (v.pr p).stage ≡ stage.Removal job rem.HoldNode → v.nl (v.pr p).own ≡ 0 →
      Inv (ticked (with_locks v v.lk (changed_at v.nl (v.pr p).own (suc p))) p
      (staged (v.pr p)
      (stage.Removal job
      (rem.Seek (seek.Approach
      (place ((v.pr p).saved (v.ht (v.pr p).own)) (v.ht (v.pr p).own))))))) u
  node_held e free =
      let s = stage.Removal job rem.HoldNode in
      let B = busy_at v u I p s e (omega arith) in
      let S = B.removes refl in
      let E = I.core.entered (v.pr p).own S.low (omega (arith, S.high)) in
      let G = B.saved (v.ht (v.pr p).own) E.low_height E.low_height E.high_height in
      locked v u I room p
      (staged (v.pr p)
      (stage.Removal job
      (rem.Seek (seek.Approach
      (place ((v.pr p).saved (v.ht (v.pr p).own)) (v.ht (v.pr p).own)))))) v.lk
      (changed_at v.nl (v.pr p).own (suc p))
      (λ n n≥ n< z f. absurd (f (taken n z (ℕ_discrete n (v.pr p).own)))) (omega (arith, kind_at v u I p s e)) (λ b. refl)
      (λ h. omega (arith, nx_at v u I p s e)) (λ q n i ne h. h) (λ q n ne h. rw (changed_other v.nl (v.pr p).own (suc p) n (λ f. omega (arith, (rw f at h)))) h)
      (λ q ne k t z f. absurd (f (taken (v.pr q).own z (ℕ_discrete (v.pr q).own (v.pr p).own))))
      (λ b. record {
        begun = B.begun;
        begun_by = omega (arith, B.begun_by);
        low = E.low_height;
        high = E.high_height;
        place = G;
        read = G;
        saved = B.saved;
        holds_place_lock = λ h. absurd (omega arith);
        holds_own_lock = λ h. absurd (omega arith);
        holds_node_lock = λ h. changed_same v.nl (v.pr p).own (suc p);
        near = near_none _ _ _ _ _ _;
        inserts = λ h. absurd (omega arith);
        within = λ h. omega arith;
        removes = λ h. record { low = S.low; high = S.high; used = S.used; marked = S.marked; linked = λ x j j≥ j≤. S.whole refl free j j≥ (omega arith); off = λ x j lt. E.above j (omega arith); whole = λ x. absurd (omega arith) };
        walks = λ h. absurd (omega arith);
      })
      (λ x. (sym (kind_at v u I p s e), refl))
      -- an Insert of the same node that still held its node lock would hold this one
      (yields_new (with_locks v v.lk (changed_at v.nl (v.pr p).own (suc p))) u p
      (staged (v.pr p)
      (stage.Removal job
      (rem.Seek (seek.Approach
      (place ((v.pr p).saved (v.ht (v.pr p).own)) (v.ht (v.pr p).own)))))) I.yields
      (λ h t q ne k o. unheld q k o (ℕ_discrete (claim v q).hn 1)) (λ h. absurd (omega arith)))
    where
      taken : (n : ℕ) → changed_at v.nl (v.pr p).own (suc p) n ≡ 0 → Dec (n ≡ (v.pr p).own) → v.nl n ≡ 0
      taken n z (yes g) = absurd (omega (arith, changed_same v.nl (v.pr p).own (suc p), (rw g at z)))
      taken n z (no d) = sym (changed_other v.nl (v.pr p).own (suc p) n d) ∙ z

      unheld : (q : ℕ) → (claim v q).kind ≡ 1 → (v.pr p).own ≡ (v.pr q).own → Dec ((claim v q).hn ≡ 1) → (claim v q).hn ≡ 0
      unheld q k o (yes h) = absurd (omega (arith, free, (rw (sym o) at ((I.busy q (omega arith)).holds_node_lock h))))
      unheld q k o (no d) = omega (arith, (sure v q).hn_high)

  -- G3 done: a leads to own
  pub delete_done : (a : Place) → (v.pr p).stage ≡ stage.Removal job (rem.Seek (seek.Confirm a)) →
      key v (v.pr p).own ≤ key v (v.fwd a.node a.level) →
      Inv (ticked v p (staged (v.pr p) (stage.Removal job (rem.HoldOwn a)))) u
  delete_done a e le =
      let s = stage.Removal job (rem.Seek (seek.Confirm a)) in
      let o = (v.pr p).own in
      let B = busy_at v u I p s e (omega arith) in
      let S = B.removes refl in
      let on = settled_at v u I p s e (omega arith) refl (λ h. omega arith) (omega (arith, B.place.before)) in
      let N = I.core.ordered a.node a.level B.low B.place.below on in
      let o_on = S.linked refl a.level B.low (omega arith) in
      let k : key v (v.fwd a.node a.level) ≡ key v o = omega (arith, N.none o (omega (arith, S.high)) o_on B.place.before) in
      let next = on_apart v u I (v.fwd a.node a.level) o a.level N.below (omega (arith, S.high)) N.on o_on k in
      lock_step v u I room p s e (omega arith) (stage.Removal job (rem.HoldOwn a)) v.lk
      (v.pr p).saved (λ h. omega arith) (λ q n i ne h. h) refl (λ h. omega arith)
      (λ k h. omega arith)
      (record {
        begun = B.begun;
        begun_by = omega (arith, B.begun_by);
        low = B.low;
        high = B.high;
        place = B.place;
        read = B.read;
        saved = B.saved;
        holds_place_lock = B.holds_place_lock;
        holds_own_lock = λ h. absurd (omega arith);
        holds_node_lock = B.holds_node_lock;
        near = record { on = λ h. on; after = λ h i. absurd (omega arith); same = λ h. absurd (omega arith); next = λ h. next; same_four = λ h. absurd (omega arith); after_four = λ h. absurd (omega arith) };
        inserts = λ h. absurd (omega arith);
        within = B.within;
        removes = B.removes;
        walks = λ h. absurd (omega arith);
      })

  -- L2
  pub own_waits : (a : Place) → (v.pr p).stage ≡ stage.Removal job (rem.HoldOwn a) →
      Inv (ticked v p (staged (v.pr p) (stage.Removal job (rem.HoldOwn a)))) u
  own_waits a e =
      let s = stage.Removal job (rem.HoldOwn a) in
      let B = busy_at v u I p s e (omega arith) in
      lock_step v u I room p s e (omega arith) s v.lk (v.pr p).saved (λ h. omega arith) (λ q n i ne h. h) refl (λ h. omega arith) (λ k h. omega arith)
      (record {
        begun = B.begun;
        begun_by = omega (arith, B.begun_by);
        low = B.low;
        high = B.high;
        place = B.place;
        read = B.read;
        saved = B.saved;
        holds_place_lock = B.holds_place_lock;
        holds_own_lock = λ h. absurd (omega arith);
        holds_node_lock = B.holds_node_lock;
        near = B.near;
        inserts = λ h. absurd (omega arith);
        within = B.within;
        removes = B.removes;
        walks = λ h. absurd (omega arith);
      })

  pub own_held : (a : Place) → (v.pr p).stage ≡ stage.Removal job (rem.HoldOwn a) →
      v.lk (v.pr p).own a.level ≡ 0 →
      Inv (ticked (with_locks v (put v.lk (v.pr p).own a.level (suc p)) v.nl) p
      (staged (v.pr p) (stage.Removal job (rem.Unlink a)))) u
  own_held a e free =
      let s = stage.Removal job (rem.HoldOwn a) in
      let B = busy_at v u I p s e (omega arith) in
      lock_step v u I room p s e (omega arith) (stage.Removal job (rem.Unlink a)) _ (v.pr p).saved
      (λ h. omega arith)
      (λ q n i ne h. free_kept v.lk (v.pr p).own a.level (suc p) free q n i h) refl (λ h. omega arith) (λ k h. omega arith)
      (record {
        begun = B.begun;
        begun_by = omega (arith, B.begun_by);
        low = B.low;
        high = B.high;
        place = B.place;
        read = B.read;
        saved = B.saved;
        holds_place_lock = λ h. free_kept v.lk (v.pr p).own a.level (suc p) free p _ _ (B.holds_place_lock h);
        holds_own_lock = λ h. put_same v.lk (v.pr p).own a.level (suc p);
        holds_node_lock = B.holds_node_lock;
        near = B.near;
        inserts = λ h. absurd (omega arith);
        within = B.within;
        removes = B.removes;
        walks = λ h. absurd (omega arith);
      })

  -- L3
  pub delete_unlink : (a : Place) → (v.pr p).stage ≡ stage.Removal job (rem.Unlink a) →
      Inv (ticked (with_fwd v (put v.fwd a.node a.level (v.fwd (v.pr p).own a.level)))
      p (staged (v.pr p) (stage.Removal job (rem.LeadBack a))))
      (put u (v.pr p).own a.level (v.clock + 1))
  delete_unlink a e =
      let s = stage.Removal job (rem.Unlink a) in
      let o = (v.pr p).own in
      let i = a.level in
      let x = v.fwd o i in
      let t = v.clock + 1 in
      let c' = staged (v.pr p) (stage.Removal job (rem.LeadBack a)) in
      let B = busy_at v u I p s e (omega arith) in
      let S = B.removes refl in
      let on = B.near.on (omega arith) in
      let o_on = S.linked refl i B.low (omega arith) in
      let N = I.core.ordered o i B.low (omega (arith, S.high)) o_on in
      let T≤ : (v.pr p).begin ≤ t = omega (arith, B.begun_by) in
      let o≢a : (o ≡ a.node → ⊥) = λ f. omega (arith, B.place.before, (rw f at B.place.before)) in
      let at_a = put_same v.fwd a.node i x in
      let at_o = put_other v.fwd a.node i x o i (λ f g. o≢a f) in
      let is = changed_same v.pr p c' in
      place_lead v u I room p c' a.node o i x t
      B.low S.low S.high S.used (omega (arith, kind_at v u I p s e)) (removing (kind_at v u I p s e) (past_at v u I p s e)) refl on
      (λ h. omega (arith, nx_at v u I p s e)) (B.holds_place_lock refl) (B.within refl) (λ j j≥ lt. S.linked refl j j≥ (omega arith))
      (λ j lt. omega (arith, I.core.past o j (omega (arith, B.low)) (S.off refl j (omega arith))))
      (omega arith) (omega arith) (λ h. omega arith) (B.holds_node_lock refl)
      (unlinked v.fwd u (key v) (tail v) I.core.ordered (on_apart v u I) a.node i o t B.low B.place.below (omega (arith, S.high)) on o_on (B.near.next refl) room)
      (λ h. B.holds_own_lock refl)
      (λ h. record { kind = rw is; nx = rw is; hp = rw is; ho = rw is; own = rw is; level = rw is }) (λ b. refl)
      (λ b. record {
        begun = B.begun;
        begun_by = omega (arith, B.begun_by);
        low = B.low;
        high = B.high;
        place = readable_put _ _ _ _ _ _ _ _ _ _ T≤ B.place;
        read = readable_put _ _ _ _ _ _ _ _ _ _ T≤ B.read;
        saved = λ j f j≥ j≤. readable_put _ _ _ _ _ _ _ _ _ _ T≤ (B.saved j f j≥ j≤);
        holds_place_lock = B.holds_place_lock;
        holds_own_lock = B.holds_own_lock;
        holds_node_lock = B.holds_node_lock;
        near = record {
          on = λ h. rw (put_other u o i t a.node i (λ f g. o≢a (sym f))) on;
          after = λ h k. absurd (omega arith);
          same = λ h. absurd (omega arith);
          next = λ h. absurd (omega arith);
          same_four = λ h. rw (at_o, at_a);
          after_four = λ h. rw at_o N.less;
        };
        inserts = λ h. absurd (omega arith);
        within = B.within;
        removes = λ h. record {
          low = S.low;
          high = S.high;
          used = S.used;
          marked = S.marked;
          linked = λ h j j≥ j≤. rw (put_other u o i t o j (λ f g. omega (arith, B.low))) (S.linked refl j j≥ (omega arith));
          off = λ h j lt. off_from j (ℕ_discrete j i) (λ d. S.off refl j (omega arith));
          whole = λ h. absurd (omega arith);
        };
        walks = λ h. absurd (omega arith);
      })
      (λ b. (sym (kind_at v u I p s e), refl))
      (yielding v u I room p s e (omega arith) (stage.Removal job (rem.LeadBack a)) v.lk v.nl
      (v.pr p).saved refl (λ h. omega arith) (λ k h. omega arith))
    where
      off_from : (j : ℕ) → Dec (j ≡ a.level) → ((j ≡ a.level → ⊥) → u (v.pr p).own j < ever) → put u (v.pr p).own a.level (v.clock + 1) (v.pr p).own j < ever
      off_from j (yes f) k = rw (f, put_same u (v.pr p).own a.level (v.clock + 1)) room
      off_from j (no d) k = rw (put_other u (v.pr p).own a.level (v.clock + 1) (v.pr p).own j (λ f g. d g)) (k d)

  -- L4
  pub delete_back : (a : Place) → (v.pr p).stage ≡ stage.Removal job (rem.LeadBack a) →
      Inv (ticked (with_fwd v (put v.fwd (v.pr p).own a.level a.node)) p
      (staged (v.pr p) (stage.Removal job (rem.FreeOwn a)))) u
  delete_back a e =
      let s = stage.Removal job (rem.LeadBack a) in
      let o = (v.pr p).own in
      let B = busy_at v u I p s e (omega arith) in
      let S = B.removes refl in
      let on = B.near.on (omega arith) in
      own_lead v u I room p (staged (v.pr p) (stage.Removal job (rem.FreeOwn a))) o a.level
      a.node
      (omega (arith, kind_at v u I p s e)) (removing (kind_at v u I p s e) (past_at v u I p s e)) refl (S.off refl a.level (omega (arith, B.low))) (λ h. level_at v u I p s e)
      (λ q b t. (B.place.below, omega (arith, (I.busy q b).begun_by), B.place.before)) (λ b. refl)
      (λ b. record {
        begun = B.begun;
        begun_by = omega (arith, B.begun_by);
        low = B.low;
        high = B.high;
        place = B.place;
        read = B.read;
        saved = B.saved;
        holds_place_lock = B.holds_place_lock;
        holds_own_lock = B.holds_own_lock;
        holds_node_lock = B.holds_node_lock;
        near = near_none _ _ _ _ _ _;
        inserts = λ h. absurd (omega arith);
        within = B.within;
        removes = B.removes;
        walks = λ h. absurd (omega arith);
      })
      (λ b. (sym (kind_at v u I p s e), refl))
      (yielding v u I room p s e (omega arith) (stage.Removal job (rem.FreeOwn a)) v.lk v.nl
      (v.pr p).saved refl (λ h. omega arith) (λ k h. omega arith))

  -- L5
  pub delete_free_own : (a : Place) → (v.pr p).stage ≡ stage.Removal job (rem.FreeOwn a) →
      Inv (ticked (with_locks v (put v.lk (v.pr p).own a.level 0) v.nl) p
      (staged (v.pr p) (stage.Removal job (rem.FreeLevel a)))) u
  delete_free_own a e =
      let s = stage.Removal job (rem.FreeOwn a) in
      let B = busy_at v u I p s e (omega arith) in
      lock_step v u I room p s e (omega arith) (stage.Removal job (rem.FreeLevel a)) _
      (v.pr p).saved (λ h. omega arith)
      (lock_kept v.lk p (v.pr p).own a.level 0 (B.holds_own_lock refl)) refl (λ h. omega arith) (λ k h. omega arith)
      (record {
        begun = B.begun;
        begun_by = omega (arith, B.begun_by);
        low = B.low;
        high = B.high;
        place = B.place;
        read = B.read;
        saved = B.saved;
        holds_place_lock = λ h. rw (put_other v.lk (v.pr p).own a.level 0 a.node a.level (λ f g. omega (arith, B.place.before, (rw f at B.place.before)))) (B.holds_place_lock h);
        holds_own_lock = λ h. absurd (omega arith);
        holds_node_lock = B.holds_node_lock;
        near = near_none _ _ _ _ _ _;
        inserts = λ h. absurd (omega arith);
        within = B.within;
        removes = B.removes;
        walks = λ h. absurd (omega arith);
      })

  -- L6
  pub delete_down : (a : Place) → (v.pr p).stage ≡ stage.Removal job (rem.FreeLevel a) →
      1 < a.level →
      Inv (ticked (with_locks v (put v.lk a.node a.level 0) v.nl) p
      (staged (v.pr p)
      (stage.Removal job
      (rem.Seek (seek.Approach (place ((v.pr p).saved (a.level - 1)) (a.level - 1))))))) u
  delete_down a e lt =
      let s = stage.Removal job (rem.FreeLevel a) in
      let B = busy_at v u I p s e (omega arith) in
      let S = B.removes refl in
      let G = B.saved (a.level - 1) (omega arith) (omega arith) (omega (arith, B.high)) in
      lock_step v u I room p s e (omega arith)
      (stage.Removal job
      (rem.Seek (seek.Approach (place ((v.pr p).saved (a.level - 1)) (a.level - 1))))) _
      (v.pr p).saved (λ h. omega arith)
      (lock_kept v.lk p a.node a.level 0 (B.holds_place_lock refl)) refl (λ h. omega arith) (λ k h. omega arith)
      (record {
        begun = B.begun;
        begun_by = omega (arith, B.begun_by);
        low = omega arith;
        high = omega (arith, B.high);
        place = G;
        read = G;
        saved = B.saved;
        holds_place_lock = λ h. absurd (omega arith);
        holds_own_lock = λ h. absurd (omega arith);
        holds_node_lock = B.holds_node_lock;
        near = near_none _ _ _ _ _ _;
        inserts = λ h. absurd (omega arith);
        within = λ h. omega (arith, B.within refl);
        removes = λ h. record { low = S.low; high = S.high; used = S.used; marked = S.marked; linked = λ x j j≥ j≤. S.linked refl j j≥ (omega arith); off = λ x j k. S.off refl j (omega arith); whole = λ x. absurd (omega arith) };
        walks = λ h. absurd (omega arith);
      })

  pub delete_bottom : (a : Place) → (v.pr p).stage ≡ stage.Removal job (rem.FreeLevel a) →
      a.level ≤ 1 →
      Inv (ticked (with_locks v (put v.lk a.node a.level 0) v.nl) p
      (staged (v.pr p) (stage.Removal job rem.FreeNode))) u
  delete_bottom a e le =
      let s = stage.Removal job (rem.FreeLevel a) in
      let B = busy_at v u I p s e (omega arith) in
      let S = B.removes refl in
      let G = head_readable v u I (v.pr p).begin (key v (v.pr p).own) 1 I.core.level_count (omega (arith, B.begun_by)) (I.core.ends.keys (v.pr p).own S.low (omega (arith, S.high))).0 in
      lock_step v u I room p s e (omega arith) (stage.Removal job rem.FreeNode) _ (v.pr p).saved
      (λ h. omega arith)
      (lock_kept v.lk p a.node a.level 0 (B.holds_place_lock refl)) refl (λ h. omega arith) (λ k h. omega arith)
      (record {
        begun = B.begun;
        begun_by = omega (arith, B.begun_by);
        low = omega arith;
        high = I.core.level_count;
        place = G;
        read = G;
        saved = λ j f j≥ j≤. absurd (omega (arith, I.core.levels_high));
        holds_place_lock = λ h. absurd (omega arith);
        holds_own_lock = λ h. absurd (omega arith);
        holds_node_lock = B.holds_node_lock;
        near = near_none _ _ _ _ _ _;
        inserts = λ h. absurd (omega arith);
        within = λ h. absurd (omega arith);
        removes = λ h. record { low = S.low; high = S.high; used = S.used; marked = S.marked; linked = λ x j j≥ j≤. absurd (omega arith); off = λ x j k. S.off refl j (omega arith); whole = λ x. absurd (omega arith) };
        walks = λ h. absurd (omega arith);
      })

  -- L7
  pub delete_free : (v.pr p).stage ≡ stage.Removal job rem.FreeNode →
      Inv (ticked (with_locks v v.lk (changed_at v.nl (v.pr p).own 0)) p
      (staged (v.pr p) (stage.Removal job rem.Retire))) u
  delete_free e =
      let s = stage.Removal job rem.FreeNode in
      let B = busy_at v u I p s e (omega arith) in
      let S = B.removes refl in
      let held = B.holds_node_lock refl in
      let k = kind_at v u I p s e in
      locked v u I room p (staged (v.pr p) (stage.Removal job rem.Retire)) v.lk
      (changed_at v.nl (v.pr p).own 0)
      (λ n n≥ n< z f x y. absurd (freed_marked S.marked n z f y (ℕ_discrete n (v.pr p).own))) (omega (arith, kind_at v u I p s e)) (λ b. refl)
      (λ h. omega (arith, nx_at v u I p s e)) (λ q n i ne h. h) (λ q n ne h. rw (changed_other v.nl (v.pr p).own 0 n (λ f. ne (omega (arith, (rw f at h))))) h)
      (λ q ne kq t z f. absurd (freed_own q z f (λ o. ne (I.one q p (omega arith) (omega arith) (λ x. omega arith) o)) (ℕ_discrete (v.pr q).own (v.pr p).own)))
      (λ b. record {
        begun = B.begun;
        begun_by = omega (arith, B.begun_by);
        low = B.low;
        high = B.high;
        place = B.place;
        read = B.read;
        saved = B.saved;
        holds_place_lock = λ h. absurd (omega arith);
        holds_own_lock = λ h. absurd (omega arith);
        holds_node_lock = λ h. absurd (omega arith);
        near = near_none _ _ _ _ _ _;
        inserts = λ h. absurd (omega arith);
        within = B.within;
        removes = λ h. record { low = S.low; high = S.high; used = S.used; marked = S.marked; linked = S.linked; off = S.off; whole = λ x. absurd (omega arith) };
        walks = λ h. absurd (omega arith);
      })
      (λ x. (sym (kind_at v u I p s e), refl))
      (yielding v u I room p s e (omega arith) (stage.Removal job rem.Retire) v.lk
      (changed_at v.nl (v.pr p).own 0) (v.pr p).saved refl (λ h. omega arith) (λ k h. omega arith))
    where
      was_free : (n : ℕ) → changed_at v.nl (v.pr p).own 0 n ≡ 0 → (n ≡ (v.pr p).own → ⊥) → v.nl n ≡ 0
      was_free n z d = sym (changed_other v.nl (v.pr p).own 0 n d) ∙ z

      freed_marked : 1 ≤ v.mk (v.pr p).own → (n : ℕ) → changed_at v.nl (v.pr p).own 0 n ≡ 0 → (v.nl n ≡ 0 → ⊥) → v.mk n ≡ 0 → Dec (n ≡ (v.pr p).own) → ⊥
      freed_marked m n z f y (yes g) = omega (arith, (rw g at y))
      freed_marked m n z f y (no d) = f (was_free n z d)

      freed_own : (q : ℕ) → changed_at v.nl (v.pr p).own 0 (v.pr q).own ≡ 0 → (v.nl (v.pr q).own ≡ 0 → ⊥) → ((v.pr q).own ≡ (v.pr p).own → ⊥) → Dec ((v.pr q).own ≡ (v.pr p).own) → ⊥
      freed_own q z f g (yes o) = g o
      freed_own q z f g (no d) = f (was_free (v.pr q).own z d)

  -- L8
  pub delete_retire : (v.pr p).stage ≡ stage.Removal job rem.Retire →
      Inv (ticked (with_status v v.mk v.st (changed_at v.us (v.pr p).own (v.clock + 1 + 2))) p (idle v.top (v.pr p))) u
  delete_retire e =
      let s = stage.Removal job rem.Retire in
      let o = (v.pr p).own in
      let B = busy_at v u I p s e (omega arith) in
      let S = B.removes refl in
      let E = I.core.entered o S.low (omega (arith, S.high)) in
      let k = kind_at v u I p s e in
      let same = changed_same v.us o (v.clock + 1 + 2) in
      restate v u I room p (idle v.top (v.pr p)) v.mk v.st (changed_at v.us o (v.clock + 1 + 2)) o
      (omega arith) (λ b. absurd (omega arith)) (λ h. omega (arith, nx_at v u I p s e)) S.low S.high
      (λ n d. refl) (λ n d. refl) (λ n d. changed_other v.us o (v.clock + 1 + 2) n d) (λ h. omega (arith, S.used))
      (record {
        low_height = E.low_height;
        high_height = E.high_height;
        above = E.above;
        ticket = omega (arith, E.ticket);
        used_by = omega arith;
        due_range = E.due_range;
        never = λ h. absurd (omega arith);
        retired = λ r h j j≥. omega (arith, I.core.past o j j≥ (S.off refl j (omega arith)));
        retired_marked = λ h. S.marked;
        full = λ h. absurd (omega arith);
      })
      -- an Insert of this node has only to stamp it
      (λ q ne kq o. (λ h x. absurd (omega (arith, I.yields p q k (past_at v u I p s e) kq (sym o))), λ x y. omega (arith, same, (I.busy q (omega arith)).begun_by), λ x. x))
      (λ q ne kq o. absurd (ne (I.one q p (omega arith) (omega arith) (λ x. omega arith) o)))
      (λ q b L. absurd (omega (arith, S.marked, L.unmarked)))
      (λ q b lt. lt)
      (λ b. absurd (omega arith))
      (one_kept (with_status v v.mk v.st (changed_at v.us o (v.clock + 1 + 2))) u p (idle v.top (v.pr p)) I.one (λ b. absurd (omega arith)))
      (yields_kept (with_status v v.mk v.st (changed_at v.us o (v.clock + 1 + 2))) u p (idle v.top (v.pr p)) I.yields (λ b. absurd (omega arith)) (λ h. absurd (omega arith)) (λ x h. absurd (omega arith)))
