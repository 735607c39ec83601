-- Search, for an Insert and a remover alike.
use mathlib.Core.Path.{◌≡◌, refl, sym, ap, subst, ◌∙◌}
use Prim.Native.Nat.{ℕ, ◌+◌, ◌-◌, ◌≤◌, ◌<◌}
use native.Mathlib.Omega.{arith}
use native.Mathlib.Decide.{ℕ_discrete}
use Rattle.record.specs.declared.stages.Place.{Place}
use Rattle.record.specs.declared.stages.Stage.{Stage}
use Rattle.record.specs.Stages.{place}
use Rattle.rules.proofs.Put.{ever, save_at, save_same, save_other}
use Rattle.rules.proofs.View.{Pr, View, Info, info, claim, key, tail, last}
use Rattle.rules.proofs.Inv.{Core, Busy, Readable, Inv, sought}
use Rattle.rules.proofs.Assemble.{ticked, yields_kept}
use Rattle.rules.proofs.Locks.{locked}
use Rattle.rules.proofs.Move.{staged, near_none, ahead}

abbrev pub saving : Pr → Place → Stage → Pr
saving c a s = record { begin = c.begin; own = c.own; stage = s; saved = save_at c.saved a.level a.node }

abbrev pub searching : ℕ → ℕ → ℕ → ℕ → Place → Info
searching kd hn lo g a = record { kind = kd; node = a.node; level = a.level; b = a.node; hp = 0; ho = 0; hn = hn; nx = 0; lo = lo; from = a.level + 1; strict = 0; early = 0; past = 0; goal = g; found = 0 }

-- a saved for its level, with those above
pub saved_more : (u : ℕ → ℕ → ℕ) (k : ℕ → ℕ) (tail top T g : ℕ) (saved : ℕ → ℕ) (a i : ℕ) → 1 ≤ i →
    Readable u k tail T g a i → ((j : ℕ) → i + 1 ≤ j → 1 ≤ j → j ≤ top → Readable u k tail T g (saved j) j) →
    (j : ℕ) → i ≤ j → 1 ≤ j → j ≤ top → Readable u k tail T g (save_at saved i a j) j
saved_more u k tail top T g saved a i i≥ G S j i≤ j≥ j≤ = go (ℕ_discrete j i)
  where
    go : Dec (j ≡ i) → Readable u k tail T g (save_at saved i a j) j
    go (yes e) = rw (e, save_same saved i a) G
    go (no d) = rw (save_other saved i a j i≥ j≥ d) (S j (omega arith) j≥ j≤)

-- a is seen one level down too
pub readable_down : (v : View) (u : ℕ → ℕ → ℕ) → Core v u → (T g a i : ℕ) → 1 ≤ i - 1 → Readable u (key v) (tail v) T g a i → Readable u (key v) (tail v) T g a (i - 1)
readable_down v u C T g a i h G =
    let e : i - 1 + 1 ≡ i = omega arith in
    let d : u a i ≤ u a (i - 1) = rw e at (C.down a (i - 1) h) in
    record { below = G.below; seen = omega (arith, G.seen); before = G.before }

module _ (v : View) (u : ℕ → ℕ → ℕ) (I : Inv v u) (room : v.clock + 1 < ever) (p : ℕ)
    (wrap : Place → Stage) (kd hn lo g k : ℕ)
    (wraps : (a : Place) → info (v.ht (v.pr p).own) (wrap a) ≡ searching kd hn lo g a)
    (kd≥ : 1 ≤ kd) (ownless : kd ≡ 2 → (v.pr p).own ≡ 0)
    (k≤ : k ≤ last) (goal : sought (key v) (v.pr p).own kd g ≡ k)
    (a : Place) (e : (v.pr p).stage ≡ wrap a) where
  now : claim v p ≡ searching kd hn lo g a
  now = ap (λ (t : Stage). info (v.ht (v.pr p).own) t) e ∙ wraps a

  busy_kind : (claim v p).kind ≡ kd
  busy_kind = ap (λ (f : Info). f.kind) now

  pub search_busy : Busy v u p (v.pr p) (searching kd hn lo g a)
  search_busy = subst (λ (f : Info). Busy v u p (v.pr p) f) now (I.busy p (omega (arith, busy_kind)))

  -- any step from here that leaves the node's own things as they are
  pub searched : (c : Pr) → c.begin ≡ (v.pr p).begin → c.own ≡ (v.pr p).own → (info (v.ht c.own) c.stage).kind ≡ kd →
      (info (v.ht c.own) c.stage).past ≡ 0 → (info (v.ht c.own) c.stage).hn ≡ hn →
      Busy (ticked v p c) u p c (info (v.ht c.own) c.stage) → Inv (ticked v p c) u
  searched c began own kind past node B =
      locked v u I room p c v.lk v.nl (λ n n≥ n< z f. absurd (f z)) (omega (arith, busy_kind)) (λ b. began)
      (λ h. omega (arith, ap (λ (f : Info). f.nx) now)) (λ q n i ne h. h) (λ q n ne h. h) (λ q ne h t z f. absurd (f z)) (λ b. B) (λ b. (kind ∙ sym busy_kind, own))
      (yields_kept v u p c I.yields (λ b. (kind ∙ sym busy_kind, own)) (λ h. absurd (omega (arith, past))) (λ x h. omega (arith, node, ap (λ (f : Info). f.hn) now)))

  pub search_ahead : key v (v.fwd a.node a.level) < k →
      Inv (ticked v p (staged (v.pr p) (wrap (place (v.fwd a.node a.level) a.level)))) u
  search_ahead lt =
      let B = search_busy in
      searched (staged (v.pr p) (wrap (place (v.fwd a.node a.level) a.level))) refl refl (ap (λ (f : Info). f.kind) (wraps _)) (ap (λ (f : Info). f.past) (wraps _)) (ap (λ (f : Info). f.hn) (wraps _))
      (subst (λ (f : Info). Busy (ticked v p (staged (v.pr p) (wrap (place (v.fwd a.node a.level) a.level)))) u p (staged (v.pr p) (wrap (place (v.fwd a.node a.level) a.level))) f) (sym (wraps _))
      (record {
        begun = B.begun;
        begun_by = omega (arith, B.begun_by);
        low = B.low;
        high = B.high;
        place = readable;
        read = readable;
        saved = B.saved;
        holds_place_lock = λ h. absurd (omega arith);
        holds_own_lock = λ h. absurd (omega arith);
        holds_node_lock = B.holds_node_lock;
        near = near_none _ _ _ _ _ _;
        inserts = B.inserts;
        within = B.within;
        removes = B.removes;
        walks = λ h. record { ownless = ownless h; entry = λ l. absurd (omega arith); named = λ l. absurd (omega arith); stamped = λ l. absurd (omega arith); ahead = λ l. absurd (omega arith) };
      }))
    where
      readable : Readable u (key v) (tail v) (v.pr p).begin (sought (key v) (v.pr p).own kd g)
          (v.fwd a.node a.level) a.level
      readable = rw goal
          (ahead v u I p a.node a.level k (omega (arith, busy_kind)) search_busy.low k≤
          (rw goal at search_busy.place) lt)

  pub search_down : 1 < a.level → Inv (ticked v p (saving (v.pr p) a (wrap (place a.node (a.level - 1))))) u
  search_down lt =
      let B = search_busy in
      let G = readable_down v u I.core (v.pr p).begin _ a.node a.level (omega arith) B.place in
      let e : a.level - 1 + 1 ≡ a.level = omega arith in
      searched (saving (v.pr p) a (wrap (place a.node (a.level - 1)))) refl refl (ap (λ (f : Info). f.kind) (wraps _)) (ap (λ (f : Info). f.past) (wraps _)) (ap (λ (f : Info). f.hn) (wraps _))
      (subst (λ (f : Info). Busy (ticked v p (saving (v.pr p) a (wrap (place a.node (a.level - 1))))) u p (saving (v.pr p) a (wrap (place a.node (a.level - 1)))) f) (sym (wraps _))
      (record {
        begun = B.begun;
        begun_by = omega (arith, B.begun_by);
        low = omega arith;
        high = omega (arith, B.high);
        place = G;
        read = G;
        saved = rw e (saved_more u (key v) (tail v) v.top (v.pr p).begin _ (v.pr p).saved a.node a.level B.low B.place B.saved);
        holds_place_lock = λ h. absurd (omega arith);
        holds_own_lock = λ h. absurd (omega arith);
        holds_node_lock = B.holds_node_lock;
        near = near_none _ _ _ _ _ _;
        inserts = B.inserts;
        within = λ h. absurd (omega arith);
        removes = B.removes;
        walks = λ h. record { ownless = ownless h; entry = λ l. absurd (omega arith); named = λ l. absurd (omega arith); stamped = λ l. absurd (omega arith); ahead = λ l. absurd (omega arith) };
      }))
