-- A Remove before its mark (02, W5): every step keeps the invariant, "not there" is true, and what
-- it marks is the entry of its key. Assumes nothing.
use mathlib.Core.Path.{◌≡◌, refl, sym, ◌∙◌}
use Prim.Native.Nat.{ℕ, ◌+◌, ◌≤◌, ◌<◌}
use native.Mathlib.Omega.{arith}
use native.Mathlib.Decide.{dec_le, ℕ_discrete}
use Rattle.record.specs.declared.stages.Place.{Place}
use Rattle.record.specs.declared.stages.Wanted.{Wanted}
use Rattle.record.specs.declared.stages.Remove.TheVariants as rmv
use Rattle.record.specs.declared.stages.Stage.TheVariants as stage
use Rattle.record.specs.Stages.{place}
use Rattle.rules.proofs.Put.{ever, save_at}
use Rattle.rules.proofs.View.{View, info, claim, key, tail, last, entry_rank}
use Rattle.rules.proofs.Inv.{Busy, Walks, Eligible, Inv, NodeHeld}
use Rattle.rules.proofs.Read.{on_used, Reads, onward, backward, reads, read_seen}
use Rattle.rules.proofs.Assemble.{ticked}
use Rattle.rules.proofs.Move.{staged, busy_at, kind_at, ahead}
use Rattle.rules.proofs.Search.{saving}
use Rattle.rules.proofs.WalkSteps.{eligible_on, stand_to}

module _ (v : View) (u : ℕ → ℕ → ℕ) (I : Inv v u) (room : v.clock + 1 < ever) (p : ℕ) (w : Wanted)
    (due≤ : w.due ≤ 999999) (ticket≤ : w.ticket ≤ 999999) where
  abbrev k : ℕ
  k = entry_rank w.due w.ticket

  abbrev T : ℕ
  T = (v.pr p).begin

  abbrev Able : ℕ → Type 0
  Able = Eligible v.us v.st v.mk v.nodes (v.pr p).begin

  -- what is known of a place that is before the key: nothing but that
  seeks : (v.pr p).own ≡ 0 → (x i : ℕ) →
      Walks v.us v.st v.mk (key v) v.nodes (v.pr p).begin (v.pr p).own x i 0 0 0
  seeks ownless x i = record {
    ownless = ownless;
    entry = λ l. absurd (omega arith);
    named = λ l. absurd (omega arith);
    stamped = λ l. absurd (omega arith);
    ahead = λ l. absurd (omega arith);
  }

  -- the Search is over
  pub find_left : (a : Place) → (v.pr p).stage ≡ stage.Remove w (rmv.Search a) → a.level ≤ 1 →
      Inv (ticked v p (saving (v.pr p) a (stage.Remove w (rmv.ReadNext a)))) u
  find_left a e le =
      let s = stage.Remove w (rmv.Search a) in
      let B = busy_at v u I p s e (omega arith) in
      let one : a.level ≡ 1 = omega (arith, B.low) in
      stand_to v u I room p s e refl refl (stage.Remove w (rmv.ReadNext a))
      (save_at (v.pr p).saved a.level a.node) 0 0 k 0 (place a.node 1) refl (omega arith)
      I.core.level_count (rw one at B.place) (seeks (B.walks refl).ownless a.node 1)

  module _ (a : Place) (e : (v.pr p).stage ≡ stage.Remove w (rmv.ReadNext a)) where
    B : Busy v u p (v.pr p) (info (v.ht (v.pr p).own) (stage.Remove w (rmv.ReadNext a)))
    B = busy_at v u I p (stage.Remove w (rmv.ReadNext a)) e (omega arith)

    busy : 1 ≤ (claim v p).kind
    busy = omega (arith, kind_at v u I p (stage.Remove w (rmv.ReadNext a)) e)

    abbrev next : ℕ
    next = v.fwd a.node 1

    -- a node before the key
    pub find_on : key v next < k →
        Inv (ticked v p (staged (v.pr p) (stage.Remove w (rmv.ReadNext (place next 1))))) u
    find_on lt =
        stand_to v u I room p (stage.Remove w (rmv.ReadNext a)) e refl refl
        (stage.Remove w (rmv.ReadNext (place next 1))) (v.pr p).saved 0 0 k 0 (place next 1) refl
        (omega arith) I.core.level_count
        (ahead v u I p a.node 1 k busy (omega arith) (omega arith) B.place lt)
        (seeks (B.walks refl).ownless next 1)

    -- the key itself
    pub find_here : key v next ≡ k →
        Inv (ticked v p (staged (v.pr p) (stage.Remove w (rmv.TestStamp (place next 1))))) u
    find_here same =
        let r = read_seen v u I p a.node 1 busy (omega arith) B.place.below
        B.place.seen in
        stand_to v u I room p (stage.Remove w (rmv.ReadNext a)) e refl refl
        (stage.Remove w (rmv.TestStamp (place next 1))) (v.pr p).saved 0 0 last k (place next 1)
        refl (omega arith) I.core.level_count
        (record {
          below = below r.0 (ℕ_discrete next (tail v));
          seen = r.1;
          before = omega arith;
        })
        (record {
          ownless = (B.walks refl).ownless;
          entry = λ l. absurd (omega arith);
          named = λ l. same;
          stamped = λ l. absurd (omega arith);
          ahead = λ l. absurd (omega arith);
        })
      where
        below : next ≤ tail v → Dec (next ≡ tail v) → next < tail v
        below le (no d) = omega arith
        below le (yes t) = absurd (omega (arith, I.core.ends.tail_key_lem, (rw t at same)))

    -- another key: nothing eligible has the key
    pub none_next : NodeHeld v → k ≤ key v next → (key v next ≡ k → ⊥) →
        (x : ℕ) → Able x → key v x ≡ k → ⊥
    none_next H le ne x L same =
        go (reads v u I p a.node 1 busy (omega arith) B.place.below B.place.seen)
      where
        go : Reads v u T a.node 1 → ⊥
        go (onward N) = ne (omega (
          arith,
          N.none x (omega (arith, L.high)) (eligible_on v u I H T x B.begun_by L)
              (omega (arith, B.place.before)),
        ))
        go (backward b) = omega (arith, b.less, B.place.before)

  -- where the place has the key, it is the one eligible node with that key
  standing_is : (a : Place) → key v a.node ≡ k → a.node < tail v → T ≤ u a.node 1 → 1 ≤ T →
      (x : ℕ) → Able x → key v x ≡ k → a.node ≡ x
  standing_is a named below seen T≥ x L same =
      I.core.apart a.node x (omega arith) (omega (arith, L.high))
      (on_used v u I a.node 1 (omega arith) (omega arith)) (omega (arith, L.used))
      (named ∙ sym same)

  -- no stamp before the begin
  pub none_stamped : (a : Place) → (v.pr p).stage ≡ stage.Remove w (rmv.TestStamp a) →
      T ≤ v.st a.node → (x : ℕ) → Able x → key v x ≡ k → ⊥
  none_stamped a e late x L same =
      let B = busy_at v u I p (stage.Remove w (rmv.TestStamp a)) e (omega arith) in
      let f = standing_is a ((B.walks refl).named (omega arith)) B.place.below B.place.seen
      B.begun x L same in
      omega (arith, L.stamped, (rw f at late))

  -- a mark that is set
  pub none_marked : (a : Place) → (v.pr p).stage ≡ stage.Remove w (rmv.SetMark a) →
      (v.mk a.node ≡ 0 → ⊥) → (x : ℕ) → Able x → key v x ≡ k → ⊥
  none_marked a e m x L same =
      let B = busy_at v u I p (stage.Remove w (rmv.SetMark a)) e (omega arith) in
      let f = standing_is a ((B.walks refl).named (omega arith)) B.place.below B.place.seen
      B.begun x L same in
      m (rw f L.unmarked)

  -- the stamp is before the begin
  pub find_stamped : (a : Place) → (v.pr p).stage ≡ stage.Remove w (rmv.TestStamp a) →
      v.st a.node < T → Inv (ticked v p (staged (v.pr p) (stage.Remove w (rmv.SetMark a)))) u
  find_stamped a e lt =
      let B = busy_at v u I p (stage.Remove w (rmv.TestStamp a)) e (omega arith) in
      stand_to v u I room p (stage.Remove w (rmv.TestStamp a)) e refl refl
      (stage.Remove w (rmv.SetMark a)) (v.pr p).saved 0 2 last k (place a.node 1) refl
      (omega arith) I.core.level_count B.place
      (record {
        ownless = (B.walks refl).ownless;
        entry = λ l. not_head ((B.walks refl).named (omega arith)) (ℕ_discrete a.node 0);
        named = (B.walks refl).named;
        stamped = λ l. lt;
        ahead = λ l. absurd (omega arith);
      })
    where
      not_head : key v a.node ≡ k → Dec (a.node ≡ 0) → 1 ≤ a.node
      not_head n (no d) = omega arith
      not_head n (yes z) = absurd (omega (arith, I.core.ends.head_key_lem, (rw z at n)))

  -- an unmarked place is the entry of the key
  pub find_marks : (a : Place) → (v.pr p).stage ≡ stage.Remove w (rmv.SetMark a) →
      v.mk a.node ≡ 0 → Able a.node × (key v a.node ≡ k)
  find_marks a e m =
      let B = busy_at v u I p (stage.Remove w (rmv.SetMark a)) e (omega arith) in
      let W = B.walks refl in
      let pos = W.entry (omega arith) in
      let E = I.core.entered a.node pos B.place.below in
      let us = on_used v u I a.node 1 (omega (arith, B.place.below))
      (omega (arith, B.place.seen, B.begun)) in (
        record {
          low = pos;
          high = omega (arith, B.place.below);
          used = in_use (dec_le 2 (v.us a.node)) us E.retired_marked;
          stamped = W.stamped refl;
          unmarked = m;
        },
        W.named (omega arith),
      )
    where
      in_use : Dec (2 ≤ v.us a.node) → 1 ≤ v.us a.node →
          (2 ≤ v.us a.node → 1 ≤ v.mk a.node) → v.us a.node ≡ 1
      in_use (yes h) l r = absurd (omega (arith, r h))
      in_use (no h) l r = omega arith
