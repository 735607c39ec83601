-- Walks, W1 to W3 at any stage that is `walking`: every step keeps the invariant, EMPTY is true,
-- and what is marked is the pick. Assumes nothing.
use mathlib.Core.Path.{◌≡◌, refl, sym, ap, subst, ◌∙◌}
use Prim.Native.Nat.{ℕ, suc, ◌+◌, ◌-◌, ◌≤◌, ◌<◌}
use native.Mathlib.Omega.{arith}
use native.Mathlib.Decide.{dec_le, ℕ_discrete}
use Rattle.record.specs.declared.stages.Place.{Place}
use Rattle.record.specs.declared.stages.Removal.TheVariants as rem
use Rattle.record.specs.declared.stages.Stage.{Stage}
use Rattle.record.specs.declared.stages.Job.{Job}
use Rattle.record.specs.declared.stages.Stage.TheVariants as stage
use Rattle.record.specs.Stages.{place}
use Rattle.laws.specs.Update.{changed_at}
use Rattle.laws.proofs.Updating.{changed_same, changed_other}
use Rattle.rules.proofs.Put.{ever}
use Rattle.rules.proofs.View.{Pr, View, Info, info, standing, walk_info, claim, key, tail}
use Rattle.rules.proofs.View.{last}
use Rattle.rules.proofs.Inv.{Busy, Readable, Walks, Eligible, Inv, NodeHeld}
use Rattle.rules.proofs.Read.{on_used, Reads, onward, backward, reads, read_seen}
use Rattle.rules.proofs.Assemble.{ticked, one_new, yields_kept, yields_new}
use Rattle.rules.proofs.Machine.{with_status}
use Rattle.rules.proofs.Locks.{locked}
use Rattle.rules.proofs.Lead.{sure}
use Rattle.rules.proofs.Status.{restate}
use Rattle.rules.proofs.Move.{staged, near_none}
use Rattle.rules.proofs.InsertSteps.{idle, head_readable, lock_step}

-- a node in use that is stamped and unmarked is linked at every level up to its height: nobody holds its node lock
pub settled_full : (v : View) (u : ℕ → ℕ → ℕ) → Inv v u → NodeHeld v → (x : ℕ) → 1 ≤ x → x ≤ v.nodes → v.us x ≡ 1 → v.st x < ever → v.mk x ≡ 0 → (j : ℕ) → 1 ≤ j → j ≤ v.ht x → ever ≤ u x j
settled_full v u I H x x≥ x≤ used stamped unmarked = go (ℕ_discrete (v.nl x) 0)
  where
    owner : (q : ℕ) → (claim v q).hn ≡ 1 → (v.pr q).own ≡ x → Dec ((claim v q).kind ≡ 1) → ⊥
    owner q h o (yes k) = omega (arith, (rw o at ((I.busy q ((sure v q).node_kind h)).inserts k).unstamped))
    owner q h o (no f) =
        let n2 : ((claim v q).kind ≡ 2 → ⊥) = (sure v q).node_own h in
        omega (arith, (rw o at ((I.busy q ((sure v q).node_kind h)).removes (omega (arith, (sure v q).kind_high, (sure v q).node_kind h))).marked))

    go : Dec (v.nl x ≡ 0) → (j : ℕ) → 1 ≤ j → j ≤ v.ht x → ever ≤ u x j
    go (yes z) = (I.core.entered x x≥ (omega arith)).full used unmarked z
    go (no d) = let e : v.nl x ≡ suc (v.nl x - 1) = omega arith in let h = H (v.nl x - 1) x e in absurd (owner (v.nl x - 1) h.0 h.1 (ℕ_discrete (claim v (v.nl x - 1)).kind 1))

-- an eligible node is linked at level 1
pub eligible_on : (v : View) (u : ℕ → ℕ → ℕ) → Inv v u → NodeHeld v → (T x : ℕ) → T ≤ v.clock →
    Eligible v.us v.st v.mk v.nodes T x → ever ≤ u x 1
eligible_on v u I H T x T≤ L =
    settled_full v u I H x L.low L.high L.used (omega (arith, L.stamped, I.core.clock))
    L.unmarked 1 (omega arith) (I.core.entered x L.low (omega (arith, L.high))).low_height

module _ (v : View) (u : ℕ → ℕ → ℕ) (I : Inv v u) (room : v.clock + 1 < ever) (p : ℕ) (s : Stage)
    (e : (v.pr p).stage ≡ s) where
  abbrev h : ℕ
  h = v.ht (v.pr p).own

  abbrev T : ℕ
  T = (v.pr p).begin

  abbrev Able : ℕ → Type 0
  Able = Eligible v.us v.st v.mk v.nodes (v.pr p).begin

  -- a processor without an own node answers and is idle
  pub ownless_ends : (info h s).kind ≡ 2 → (info h s).nx ≡ 0 →
      Inv (ticked v p (idle v.top (v.pr p))) u
  ownless_ends k n =
      let c : (claim v p).kind ≡ 2 = ap (λ (t : Stage). (info (v.ht (v.pr p).own) t).kind) e ∙ k in
      let x : (claim v p).nx ≡ 0 = ap (λ (t : Stage). (info (v.ht (v.pr p).own) t).nx) e ∙ n in
      locked v u I room p (idle v.top (v.pr p)) v.lk v.nl (λ n n≥ n< z f. absurd (f z))
      (omega arith) (λ b. absurd (omega arith)) (λ h. omega arith) (λ q n i ne h. h) (λ q n ne h. h)
      (λ q ne h t z f. absurd (f z)) (λ b. absurd (omega arith)) (λ b. absurd (omega arith))
      (yields_kept v u p (idle v.top (v.pr p)) I.yields (λ b. absurd (omega arith)) (λ h. absurd (omega arith)) (λ x h. absurd (omega arith)))

  -- on to another stage without an own node
  pub stand_to : (info h s).kind ≡ 2 → (info h s).nx ≡ 0 →
      (s' : Stage) (saved : ℕ → ℕ) (x' y' g' f' : ℕ) (a' : Place) →
      info h s' ≡ standing x' y' g' f' 9 a' → 1 ≤ a'.level → a'.level ≤ v.top →
      Readable u (key v) (tail v) T g' a'.node a'.level →
      Walks v.us v.st v.mk (key v) v.nodes T (v.pr p).own a'.node
      a'.level x' y' f' →
      Inv (ticked v p
      (record { begin = (v.pr p).begin; own = (v.pr p).own; stage = s'; saved = saved })) u
  stand_to k nx s' saved x' y' g' f' a' to i≥ i≤ G W =
      let c : (claim v p).kind ≡ 2 = ap (λ (t : Stage). (info (v.ht (v.pr p).own) t).kind) e ∙ k in
      let B = I.busy p (omega arith) in
      lock_step v u I room p s e (omega arith) s' v.lk saved
      (λ h. omega arith) (λ q n i ne h. h) (ap (λ (f : Info). f.kind) to ∙ sym k)
      (λ h. absurd (omega (arith, ap (λ (f : Info). f.past) to)))
      (λ l h. absurd (omega (arith, ap (λ (f : Info). f.kind) to)))
      (subst (λ (f : Info). Busy
      (ticked v p (record
      { begin = (v.pr p).begin; own = (v.pr p).own; stage = s'; saved = saved })) u p
      (record { begin = (v.pr p).begin; own = (v.pr p).own; stage = s'; saved = saved }) f) (sym to)
      (record {
        begun = B.begun;
        begun_by = omega (arith, B.begun_by);
        low = i≥;
        high = i≤;
        place = G;
        read = G;
        saved = λ j f j≥ j≤. absurd (omega (arith, I.core.levels_high));
        holds_place_lock = λ h. absurd (omega arith);
        holds_own_lock = λ h. absurd (omega arith);
        holds_node_lock = λ h. absurd (omega arith);
        near = near_none _ _ _ _ _ _;
        inserts = λ h. absurd (omega arith);
        within = λ h. absurd (omega arith);
        removes = λ h. absurd (omega arith);
        walks = λ h. W;
      }))

  module _ (x y : ℕ) (a : Place) (is : info h s ≡ walk_info x y a) where
    pub walk_kind : (claim v p).kind ≡ 2
    walk_kind = ap (λ (t : Stage). (info (v.ht (v.pr p).own) t).kind) e
        ∙ ap (λ (f : Info). f.kind) is

    pub walk_busy : Busy v u p (v.pr p) (walk_info x y a)
    walk_busy = subst (λ (f : Info). Busy v u p (v.pr p) f)
        (ap (λ (t : Stage). info (v.ht (v.pr p).own) t) e ∙ is)
        (I.busy p (omega (arith, walk_kind)))

    -- on to another stage of the walk
    walk_to : (s' : Stage) (x' y' : ℕ) (a' : Place) → info h s' ≡ walk_info x' y' a' →
        Readable u (key v) (tail v) T last a'.node 1 →
        Walks v.us v.st v.mk (key v) v.nodes T (v.pr p).own a'.node 1 x' y' 0 →
        Inv (ticked v p (staged (v.pr p) s')) u
    walk_to s' x' y' a' to G W =
        stand_to (ap (λ (f : Info). f.kind) is) (ap (λ (f : Info). f.nx) is) s'
        (v.pr p).saved x' y' last 0 (place a'.node 1) to (omega arith)
        I.core.level_count G W

    -- W1 at the tail: nothing was eligible
    pub empty_right : NodeHeld v → x ≡ 2 → v.fwd a.node 1 ≡ tail v → (n : ℕ) → Able n → ⊥
    empty_right H two t n L =
        go (reads v u I p a.node 1 (omega (arith, walk_kind)) walk_busy.low
        walk_busy.place.below walk_busy.place.seen)
      where
        go : Reads v u T a.node 1 → ⊥
        go (onward N) = omega (
          arith,
          (rw t at (N.none n (omega (arith, L.high))
              (eligible_on v u I H T n walk_busy.begun_by L)
              (omega (arith, (walk_busy.walks refl).ahead (omega arith) n L)))),
          I.core.ends.tail_key_lem,
          (I.core.ends.keys n L.low (omega (arith, L.high))).1,
        )
        go (backward k) = omega (arith, (rw t at k.below))

    -- W1: the node read may be the next place, and nothing eligible is before it
    next_readable : (v.fwd a.node 1 ≡ tail v → ⊥) →
        Readable u (key v) (tail v) T last (v.fwd a.node 1) 1
    next_readable nt =
        let r = read_seen v u I p a.node 1 (omega (arith, walk_kind)) walk_busy.low
        walk_busy.place.below walk_busy.place.seen in
        let lt : v.fwd a.node 1 < tail v = omega (arith, r.0) in
        record { below = lt; seen = r.1; before = below_last (v.fwd a.node 1) lt (ℕ_discrete _ 0) }
      where
        below_last : (n : ℕ) → n < tail v → Dec (n ≡ 0) → key v n < last
        below_last n n< (yes z) = rw z (omega (arith, I.core.ends.head_key_lem))
        below_last n n< (no d) = (I.core.ends.keys n (omega arith) n<).1

    next_ahead : NodeHeld v → x ≡ 2 → (n : ℕ) → Able n → key v (v.fwd a.node 1) ≤ key v n
    next_ahead H two n L =
        go (reads v u I p a.node 1 (omega (arith, walk_kind)) walk_busy.low
        walk_busy.place.below walk_busy.place.seen)
      where
        go : Reads v u T a.node 1 → key v (v.fwd a.node 1) ≤ key v n
        go (onward N) =
            N.none n (omega (arith, L.high)) (eligible_on v u I H T n walk_busy.begun_by L)
            (omega (arith, (walk_busy.walks refl).ahead (omega arith) n L))
        go (backward k) = omega (arith, k.less, (walk_busy.walks refl).ahead (omega arith) n L)

    -- W1: on to the node read
    pub walk_on_lem : NodeHeld v → x ≡ 2 → (v.fwd a.node 1 ≡ tail v → ⊥) →
        (s' : Stage) (y' : ℕ) → y' ≤ 1 → (1 ≤ y' → 1 ≤ v.fwd a.node 1) →
        info h s' ≡ walk_info 1 y' (place (v.fwd a.node 1) 1) →
        Inv (ticked v p (staged (v.pr p) s')) u
    walk_on_lem H two nt s' y' y≤ entry to =
        walk_to s' 1 y' (place (v.fwd a.node 1) 1) to (next_readable nt)
        (record { ownless = (walk_busy.walks refl).ownless; entry = entry; named = λ k. absurd (omega arith); stamped = λ k. absurd (omega arith); ahead = λ l n L. omega (arith, next_ahead H two n L) })

    -- W1, led back to the head: nothing eligible is at or before it
    pub walk_head : v.fwd a.node 1 ≡ 0 → (s' : Stage) →
        info h s' ≡ walk_info 2 0 (place (v.fwd a.node 1) 1) →
        Inv (ticked v p (staged (v.pr p) s')) u
    walk_head z s' to =
        walk_to s' 2 0 (place (v.fwd a.node 1) 1) to (next_readable (λ t. omega arith))
        (record {
          ownless = (walk_busy.walks refl).ownless;
          entry = λ k. absurd (omega arith);
          named = λ k. absurd (omega arith);
          stamped = λ k. absurd (omega arith);
          ahead = λ l n L. rw z (omega (
            arith,
            I.core.ends.head_key_lem,
            (I.core.ends.keys n L.low (omega (arith, L.high))).0,
          ));
        })

    -- the place is not eligible: back to W1
    pub walk_past : 1 ≤ x → (Able a.node → ⊥) → (s' : Stage) → info h s' ≡ walk_info 2 0 a →
        Inv (ticked v p (staged (v.pr p) s')) u
    walk_past x≥ no-a s' to = walk_to s' 2 0 a to walk_busy.place
        (record { ownless = (walk_busy.walks refl).ownless; entry = λ k. absurd (omega arith); named = λ k. absurd (omega arith); stamped = λ k. absurd (omega arith); ahead = λ l n L. go n L (ℕ_discrete (key v a.node) (key v n)) })
      where
        go : (n : ℕ) → Able n → Dec (key v a.node ≡ key v n) → key v a.node + 2 ≤ key v n + 1
        go n L (no d) = omega (arith, (walk_busy.walks refl).ahead x≥ n L)
        go n L (yes d) =
            let B = walk_busy in
            let f = I.core.apart a.node n (omega (arith, B.place.below))
            (omega (arith, L.high))
            (on_used v u I a.node 1 (omega (arith, B.place.below))
            (omega (arith, B.place.seen, B.begun))) (omega (arith, L.used)) d in
            absurd (no-a (rw f L))

    -- W2
    pub stamp_late : 1 ≤ x → (v.pr p).begin ≤ v.st a.node →
        (s' : Stage) → info h s' ≡ walk_info 2 0 a → Inv (ticked v p (staged (v.pr p) s')) u
    stamp_late x≥ le = walk_past x≥ (λ L. omega (arith, L.stamped))

    pub stamp_early : x ≡ 1 → v.st a.node < (v.pr p).begin →
        (s' : Stage) → info h s' ≡ walk_info 1 2 a → Inv (ticked v p (staged (v.pr p) s')) u
    stamp_early one lt s' to = walk_to s' 1 2 a to walk_busy.place
        (record { ownless = (walk_busy.walks refl).ownless; entry = λ k. not_head (ℕ_discrete a.node 0); named = λ k. absurd (omega arith); stamped = λ k. lt; ahead = λ l n L. omega (arith, (walk_busy.walks refl).ahead (omega arith) n L) })
      where
        not_head : Dec (a.node ≡ 0) → 1 ≤ a.node
        not_head (no d) = omega arith
        not_head (yes z) =
            absurd (omega (arith, I.core.ends.head_stamp, (rw z at lt), walk_busy.begun_by))

    -- W3 on a marked node
    pub mark_set : 1 ≤ x → (v.mk a.node ≡ 0 → ⊥) → (s' : Stage) → info h s' ≡ walk_info 2 0 a →
        Inv (ticked v p (staged (v.pr p) s')) u
    mark_set x≥ m = walk_past x≥ (λ L. m L.unmarked)

    -- W3 on an unmarked one: it is in use, and nothing eligible is before it
    pub mark_place : 1 ≤ y → v.mk a.node ≡ 0 →
        (1 ≤ a.node) × (a.node ≤ v.nodes) × (v.us a.node ≡ 1)
    mark_place y≥ m =
        let B = walk_busy in
        let pos = (B.walks refl).entry y≥ in
        let E = I.core.entered a.node pos B.place.below in
        let us = on_used v u I a.node 1 (omega (arith, B.place.below))
        (omega (arith, B.place.seen, B.begun)) in (
          pos,
          omega (arith, B.place.below),
          in_use (dec_le 2 (v.us a.node)) us
              E.retired_marked,
        )
      where
        in_use : Dec (2 ≤ v.us a.node) → 1 ≤ v.us a.node →
            (2 ≤ v.us a.node → 1 ≤ v.mk a.node) → v.us a.node ≡ 1
        in_use (yes h) l r = absurd (omega (arith, r h))
        in_use (no h) l r = omega arith

    pub mark_first : 1 ≤ x → (n : ℕ) → Able n → key v a.node ≤ key v n
    mark_first x≥ n L = omega (arith, (walk_busy.walks refl).ahead x≥ n L)

    -- and its stamp is before the begin, so that it is the pick
    pub mark_able : y ≡ 2 → v.mk a.node ≡ 0 → Able a.node
    mark_able two m = let M = mark_place (omega arith) m in record { low = M.0; high = M.1; used = M.2; stamped = (walk_busy.walks refl).stamped two; unmarked = m }

  abbrev pub marker : Job → ℕ → Pr
  marker job n = record { begin = (v.pr p).begin; own = n; stage = stage.Removal job (rem.Search (place 0 v.top)); saved = (v.pr p).saved }

  -- the mark of a node in use
  pub mark_step : (info h s).kind ≡ 2 → (info h s).nx ≡ 0 → (job : Job) (n : ℕ) → 1 ≤ n →
      n ≤ v.nodes → v.us n ≡ 1 → v.mk n ≡ 0 →
      Inv (ticked (with_status v (changed_at v.mk n (suc p)) v.st v.us) p (marker job n)) u
  mark_step two nx job n low high used m =
      let k : (claim v p).kind ≡ 2 = ap (λ (t : Stage). (info (v.ht (v.pr p).own) t).kind) e
      ∙ two in
      let x : (claim v p).nx ≡ 0 = ap (λ (t : Stage). (info (v.ht (v.pr p).own) t).nx) e ∙ nx in
      let B = I.busy p (omega arith) in
      let E = I.core.entered n low (omega arith) in
      let same = changed_same v.mk n (suc p) in
      let G = head_readable v u I (v.pr p).begin (key v n) v.top (omega arith)
      (omega (arith, B.begun_by)) (I.core.ends.keys n low (omega arith)).0 in
      restate v u I room p (marker job n) (changed_at v.mk n (suc p)) v.st v.us n
      (omega arith) (λ b. refl) (λ h. omega arith) low high
      (λ x d. changed_other v.mk n (suc p) x d) (λ x d. refl) (λ x d. refl) (λ h. h)
      (record {
        low_height = E.low_height;
        high_height = E.high_height;
        above = E.above;
        ticket = omega (arith, E.ticket);
        used_by = omega (arith, E.used_by);
        due_range = E.due_range;
        never = E.never;
        retired = E.retired;
        retired_marked = λ h. omega (arith, same);
        full = λ x y. absurd (omega (arith, (rw same at y)));
      })
      (λ q ne k' f. (λ x y. y, λ x y. y x, λ x. x))
      (λ q ne k' f. (λ x. x, λ x. omega (arith, same)))
      (λ q b L. absurd (omega (arith, (rw same at L.unmarked))))
      (λ q b lt. lt)
      (λ b. record {
        begun = B.begun;
        begun_by = omega (arith, B.begun_by);
        low = I.core.level_count;
        high = omega arith;
        place = G;
        read = G;
        saved = λ j f j≥ j≤. absurd (omega arith);
        holds_place_lock = λ h. absurd (omega arith);
        holds_own_lock = λ h. absurd (omega arith);
        holds_node_lock = λ h. absurd (omega arith);
        near = near_none _ _ _ _ _ _;
        inserts = λ h. absurd (omega arith);
        within = λ h. absurd (omega (arith, I.core.level_count));
        removes = λ h. record {
          low = low;
          high = high;
          used = used;
          marked = omega (arith, same);
          linked = λ x. absurd (omega arith);
          off = λ x. absurd (omega arith);
          whole = λ x z. E.full used m z;
        };
        walks = λ h. absurd (omega arith);
      })
      (one_new (with_status v (changed_at v.mk n (suc p)) v.st v.us) u p (marker job n) I.one
      (λ q ne b k d f. omega (arith, (rw f at ((I.busy q b).removes k).marked))))
      (yields_new (with_status v (changed_at v.mk n (suc p)) v.st v.us) u p (marker job n) I.yields
      (λ h t. absurd (omega arith)) (λ h. absurd (omega arith)))
