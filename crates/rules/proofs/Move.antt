-- Shared by the cases of a step.
use mathlib.Core.Path.{◌≡◌, refl, sym, ap, subst, ◌∙◌}
use Prim.Native.Nat.{ℕ, suc, ◌+◌, ◌≤◌, ◌<◌}
use native.Mathlib.Omega.{arith}
use native.Mathlib.Decide.{ℕ_discrete}
use Rattle.record.specs.declared.stages.Place.{Place}
use Rattle.record.specs.declared.stages.Seek.{Seek}
use Rattle.record.specs.declared.stages.Seek.TheVariants as seek
use Rattle.record.specs.declared.stages.Stage.{Stage}
use Rattle.record.specs.Stages.{place}
use Rattle.rules.proofs.Put.{ever, put, put_same, put_other, put_keeps}
use Rattle.rules.proofs.View.{Pr, View, Info, info, seeks, claim, key, tail, last}
use Rattle.rules.proofs.Inv.{Busy, Readable, Near, Inv, sought}
use Rattle.rules.proofs.Read.{read_seen, settled}
use Rattle.rules.proofs.Assemble.{ticked, yields_kept}
use Rattle.rules.proofs.Machine.{with_locks}
use Rattle.rules.proofs.Locks.{locked}

abbrev pub staged : Pr → Stage → Pr
staged c s = record { begin = c.begin; own = c.own; stage = s; saved = c.saved }

-- nothing is claimed of what the place leads to
pub near_none : (fwd u : ℕ → ℕ → ℕ) (k : ℕ → ℕ) (own a i : ℕ) → Near fwd u k own a i 0
near_none fwd u k own a i = record {
  on = λ h. absurd (omega arith);
  after = λ h. absurd (omega arith);
  same = λ h. absurd (omega arith);
  next = λ h. absurd (omega arith);
  same_four = λ h. absurd (omega arith);
  after_four = λ h. absurd (omega arith);
}

-- a seen node stays seen
pub readable_put : (u : ℕ → ℕ → ℕ) (k : ℕ → ℕ) (tail T g a i o j t : ℕ) → T ≤ t → Readable u k tail T g a i → Readable (put u o j t) k tail T g a i
readable_put u k tail T g a i o j t le G = record { below = G.below; seen = put_keeps (λ m. T ≤ m) u o j t a i le G.seen; before = G.before }

-- a lock that was free or p's own is nobody else's
pub lock_kept : (lk : ℕ → ℕ → ℕ) (p a i x : ℕ) → lk a i ≡ suc p → (q n j : ℕ) → (q ≡ p → ⊥) → lk n j ≡ suc q → put lk a i x n j ≡ suc q
lock_kept lk p a i x held q n j ne e = rw (put_other lk a i x n j (λ f g. ne (omega (arith, (rw (f, g) at e))))) e

pub free_kept : (lk : ℕ → ℕ → ℕ) (a i x : ℕ) → lk a i ≡ 0 → (q n j : ℕ) → lk n j ≡ suc q → put lk a i x n j ≡ suc q
free_kept lk a i x free q n j e = rw (put_other lk a i x n j (λ f g. omega (arith, (rw (f, g) at e)))) e

module _ (v : View) (u : ℕ → ℕ → ℕ) (I : Inv v u) (p : ℕ) where
  -- the stage put in for its name
  pub busy_at : (s : Stage) → (v.pr p).stage ≡ s → 1 ≤ (info (v.ht (v.pr p).own) s).kind → Busy v u p (v.pr p) (info (v.ht (v.pr p).own) s)
  busy_at s e b = subst (λ (t : Stage). Busy v u p (v.pr p) (info (v.ht (v.pr p).own) t)) e
      (I.busy p (subst (λ (t : Stage). 1 ≤ (info (v.ht (v.pr p).own) t).kind) (sym e) b))

  pub claim_at : (s : Stage) → (v.pr p).stage ≡ s → claim v p ≡ info (v.ht (v.pr p).own) s
  claim_at s e = ap (λ (t : Stage). info (v.ht (v.pr p).own) t) e

  pub kind_at : (s : Stage) → (v.pr p).stage ≡ s → (claim v p).kind ≡ (info (v.ht (v.pr p).own) s).kind
  kind_at s e = ap (λ (t : Stage). (info (v.ht (v.pr p).own) t).kind) e

  pub hn_at : (s : Stage) → (v.pr p).stage ≡ s → (claim v p).hn ≡ (info (v.ht (v.pr p).own) s).hn
  hn_at s e = ap (λ (t : Stage). (info (v.ht (v.pr p).own) t).hn) e

  pub past_at : (s : Stage) → (v.pr p).stage ≡ s → (claim v p).past ≡ (info (v.ht (v.pr p).own) s).past
  past_at s e = ap (λ (t : Stage). (info (v.ht (v.pr p).own) t).past) e

  pub nx_at : (s : Stage) → (v.pr p).stage ≡ s → (claim v p).nx ≡ (info (v.ht (v.pr p).own) s).nx
  nx_at s e = ap (λ (t : Stage). (info (v.ht (v.pr p).own) t).nx) e

  pub level_at : (s : Stage) → (v.pr p).stage ≡ s → (claim v p).level ≡ (info (v.ht (v.pr p).own) s).level
  level_at s e = ap (λ (t : Stage). (info (v.ht (v.pr p).own) t).level) e

  -- G3: what the holder of the lock that reads no smaller key knows
  pub settled_at : (s : Stage) → (v.pr p).stage ≡ s → 1 ≤ (info (v.ht (v.pr p).own) s).kind → (info (v.ht (v.pr p).own) s).hp ≡ 1 → ((info (v.ht (v.pr p).own) s).nx ≡ 4 → ⊥) →
      key v (info (v.ht (v.pr p).own) s).node ≤ key v (v.fwd (info (v.ht (v.pr p).own) s).node (info (v.ht (v.pr p).own) s).level) →
      ever ≤ u (info (v.ht (v.pr p).own) s).node (info (v.ht (v.pr p).own) s).level
  settled_at s e = subst (λ (f : Info). 1 ≤ f.kind → f.hp ≡ 1 → (f.nx ≡ 4 → ⊥) → key v f.node ≤ key v (v.fwd f.node f.level) → ever ≤ u f.node f.level) (claim_at s e) (settled v u I p)

  -- the node read is before the key g, so it may be the next place
  pub ahead : (a i g : ℕ) → 1 ≤ (claim v p).kind → 1 ≤ i → g ≤ last →
      Readable u (key v) (tail v) (v.pr p).begin g a i → key v (v.fwd a i) < g →
      Readable u (key v) (tail v) (v.pr p).begin g (v.fwd a i) i
  ahead a i g b i≥ g≤ G lt =
      let r = read_seen v u I p a i b i≥ G.below G.seen in
      record { below = below r.0 (ℕ_discrete (v.fwd a i) (tail v)); seen = r.1; before = lt }
    where
      below : v.fwd a i ≤ tail v → Dec (v.fwd a i ≡ tail v) → v.fwd a i < tail v
      below le (no d) = omega arith
      below le (yes e) = absurd (omega (arith, I.core.ends.tail_key_lem, (rw e at lt)))

-- Lock-seek, for an Insert and a remover alike: wrap is how the operation's stage holds the seek's.
module _ (v : View) (u : ℕ → ℕ → ℕ) (I : Inv v u) (room : v.clock + 1 < ever) (p : ℕ) (wrap : Seek → Stage) (kd d pa : ℕ)
    (wraps : (h : ℕ) (k : Seek) → info h (wrap k) ≡ seeks kd d pa k) (kd≥ : 1 ≤ kd) (kd≢ : kd ≡ 2 → ⊥)
    (o≥ : 1 ≤ (v.pr p).own) (o≤ : (v.pr p).own ≤ v.nodes)
    (goal : sought (key v) (v.pr p).own kd 0 ≡ key v (v.pr p).own) where
  seek_kind : (k : Seek) → (seeks kd d pa k).kind ≡ kd
  seek_kind (seek.Approach a) = refl
  seek_kind (seek.Take a) = refl
  seek_kind (seek.Confirm a) = refl
  seek_kind (seek.Release a b) = refl

  seek_hn : (k : Seek) → (seeks kd d pa k).hn ≡ 1
  seek_hn (seek.Approach a) = refl
  seek_hn (seek.Take a) = refl
  seek_hn (seek.Confirm a) = refl
  seek_hn (seek.Release a b) = refl

  seek_past : (k : Seek) → (seeks kd d pa k).past ≡ pa
  seek_past (seek.Approach a) = refl
  seek_past (seek.Take a) = refl
  seek_past (seek.Confirm a) = refl
  seek_past (seek.Release a b) = refl

  seek_nx : (k : Seek) → (seeks kd d pa k).nx ≡ 0
  seek_nx (seek.Approach a) = refl
  seek_nx (seek.Take a) = refl
  seek_nx (seek.Confirm a) = refl
  seek_nx (seek.Release a b) = refl

  seek_now : (k : Seek) → (v.pr p).stage ≡ wrap k → claim v p ≡ seeks kd d pa k
  seek_now k e = ap (λ (t : Stage). info (v.ht (v.pr p).own) t) e ∙ wraps _ k

  seek_kind_now : (k : Seek) → (v.pr p).stage ≡ wrap k → (claim v p).kind ≡ kd
  seek_kind_now k e = ap (λ (f : Info). f.kind) (seek_now k e) ∙ seek_kind k

  seek_busy : (k : Seek) → (v.pr p).stage ≡ wrap k → Busy v u p (v.pr p) (seeks kd d pa k)
  seek_busy k e = subst (λ (f : Info). Busy v u p (v.pr p) f) (seek_now k e) (I.busy p (omega (arith, seek_kind_now k e)))

  seek_locked : (k k' : Seek) → (v.pr p).stage ≡ wrap k → (lk : ℕ → ℕ → ℕ) → ((q n i : ℕ) → (q ≡ p → ⊥) → v.lk n i ≡ suc q → lk n i ≡ suc q) →
      Busy (ticked (with_locks v lk v.nl) p (staged (v.pr p) (wrap k'))) u p (staged (v.pr p) (wrap k')) (seeks kd d pa k') →
      Inv (ticked (with_locks v lk v.nl) p (staged (v.pr p) (wrap k'))) u
  seek_locked k k' e lk keep B =
      locked v u I room p (staged (v.pr p) (wrap k')) lk v.nl (λ n n≥ n< z f. absurd (f z)) (omega (arith, seek_kind_now k e)) (λ b. refl)
      (λ h. omega (arith, ap (λ (f : Info). f.nx) (seek_now k e), seek_nx k)) keep (λ q n ne h. h) (λ q ne h t z f. absurd (f z))
      (λ b. subst (λ (f : Info). Busy (ticked (with_locks v lk v.nl) p (staged (v.pr p) (wrap k'))) u p (staged (v.pr p) (wrap k')) f) (sym (wraps _ k')) B)
      (λ b. (same_kind, refl))
      (yields_kept (with_locks v lk v.nl) u p (staged (v.pr p) (wrap k')) I.yields (λ b. (same_kind, refl))
      (λ h. omega (arith, ap (λ (f : Info). f.past) (wraps (v.ht (v.pr p).own) k'), seek_past k', ap (λ (f : Info). f.past) (seek_now k e), seek_past k))
      (λ x h. absurd (omega (arith, ap (λ (f : Info). f.hn) (seek_now k e), seek_hn k))))
    where
      same_kind : (info (v.ht (v.pr p).own) (wrap k')).kind ≡ (claim v p).kind
      same_kind = ap (λ (f : Info). f.kind) (wraps _ k') ∙ seek_kind k' ∙ sym (seek_kind_now k e)

  abbrev Goes : (ℕ → ℕ → ℕ) → Seek → Type 0
  Goes lk k = Inv (ticked (with_locks v lk v.nl) p (staged (v.pr p) (wrap k))) u

  -- the place or the b read, put where the seek goes on
  ahead_readable : (a : Place) → 1 ≤ a.level →
      Readable u (key v) (tail v) (v.pr p).begin (sought (key v) (v.pr p).own kd 0) a.node
      a.level → 1 ≤ (claim v p).kind →
      key v (v.fwd a.node a.level) < key v (v.pr p).own →
      Readable u (key v) (tail v) (v.pr p).begin (sought (key v) (v.pr p).own kd 0)
      (v.fwd a.node a.level) a.level
  ahead_readable a l G b lt =
      rw goal (ahead v u I p a.node a.level (key v (v.pr p).own) b l
      (omega (arith, (I.core.ends.keys (v.pr p).own o≥ (omega arith)).1)) (rw goal at G) lt)

  pub approach_ahead : (a : Place) → (v.pr p).stage ≡ wrap (seek.Approach a) → key v (v.fwd a.node a.level) < key v (v.pr p).own →
      Goes v.lk (seek.Approach (place (v.fwd a.node a.level) a.level))
  approach_ahead a e lt =
      let B = seek_busy (seek.Approach a) e in
      let G = ahead_readable a B.low B.place (omega (arith, seek_kind_now (seek.Approach a) e)) lt in
      seek_locked (seek.Approach a) _ e v.lk (λ q n i ne h. h) (record {
        begun = B.begun;
        begun_by = omega (arith, B.begun_by);
        low = B.low;
        high = B.high;
        place = G;
        read = G;
        saved = B.saved;
        holds_place_lock = λ h. absurd (omega arith);
        holds_own_lock = λ h. absurd (omega arith);
        holds_node_lock = B.holds_node_lock;
        near = near_none _ _ _ _ _ _;
        inserts = B.inserts;
        within = B.within;
        removes = B.removes;
        walks = λ h. absurd (kd≢ h);
      })

  pub approach_take : (a : Place) → (v.pr p).stage ≡ wrap (seek.Approach a) → Goes v.lk (seek.Take a)
  approach_take a e =
      let B = seek_busy (seek.Approach a) e in
      seek_locked (seek.Approach a) _ e v.lk (λ q n i ne h. h) (record {
        begun = B.begun;
        begun_by = omega (arith, B.begun_by);
        low = B.low;
        high = B.high;
        place = B.place;
        read = B.read;
        saved = B.saved;
        holds_place_lock = λ h. absurd (omega arith);
        holds_own_lock = λ h. absurd (omega arith);
        holds_node_lock = B.holds_node_lock;
        near = near_none _ _ _ _ _ _;
        inserts = B.inserts;
        within = B.within;
        removes = B.removes;
        walks = λ h. absurd (kd≢ h);
      })

  pub take_waits : (a : Place) → (v.pr p).stage ≡ wrap (seek.Take a) → Goes v.lk (seek.Take a)
  take_waits a e =
      let B = seek_busy (seek.Take a) e in
      seek_locked (seek.Take a) _ e v.lk (λ q n i ne h. h) (record {
        begun = B.begun;
        begun_by = omega (arith, B.begun_by);
        low = B.low;
        high = B.high;
        place = B.place;
        read = B.read;
        saved = B.saved;
        holds_place_lock = λ h. absurd (omega arith);
        holds_own_lock = λ h. absurd (omega arith);
        holds_node_lock = B.holds_node_lock;
        near = near_none _ _ _ _ _ _;
        inserts = B.inserts;
        within = B.within;
        removes = B.removes;
        walks = λ h. absurd (kd≢ h);
      })

  pub take_confirm : (a : Place) → (v.pr p).stage ≡ wrap (seek.Take a) → v.lk a.node a.level ≡ 0 → Goes (put v.lk a.node a.level (suc p)) (seek.Confirm a)
  take_confirm a e free =
      let B = seek_busy (seek.Take a) e in
      seek_locked (seek.Take a) _ e _ (λ q n i ne h. free_kept v.lk a.node a.level (suc p) free q n i h) (record {
        begun = B.begun;
        begun_by = omega (arith, B.begun_by);
        low = B.low;
        high = B.high;
        place = B.place;
        read = B.read;
        saved = B.saved;
        holds_place_lock = λ h. put_same v.lk a.node a.level (suc p);
        holds_own_lock = λ h. absurd (omega arith);
        holds_node_lock = B.holds_node_lock;
        near = near_none _ _ _ _ _ _;
        inserts = B.inserts;
        within = B.within;
        removes = B.removes;
        walks = λ h. absurd (kd≢ h);
      })

  pub confirm_release : (a : Place) → (v.pr p).stage ≡ wrap (seek.Confirm a) → key v (v.fwd a.node a.level) < key v (v.pr p).own → Goes v.lk (seek.Release a (v.fwd a.node a.level))
  confirm_release a e lt =
      let B = seek_busy (seek.Confirm a) e in
      let G = ahead_readable a B.low B.place (omega (arith, seek_kind_now (seek.Confirm a) e)) lt in
      seek_locked (seek.Confirm a) _ e v.lk (λ q n i ne h. h) (record {
        begun = B.begun;
        begun_by = omega (arith, B.begun_by);
        low = B.low;
        high = B.high;
        place = B.place;
        read = G;
        saved = B.saved;
        holds_place_lock = B.holds_place_lock;
        holds_own_lock = λ h. absurd (omega arith);
        holds_node_lock = B.holds_node_lock;
        near = near_none _ _ _ _ _ _;
        inserts = B.inserts;
        within = B.within;
        removes = B.removes;
        walks = λ h. absurd (kd≢ h);
      })

  pub release_take : (a : Place) (b : ℕ) → (v.pr p).stage ≡ wrap (seek.Release a b) → Goes (put v.lk a.node a.level 0) (seek.Take (place b a.level))
  release_take a b e =
      let B = seek_busy (seek.Release a b) e in
      seek_locked (seek.Release a b) _ e _ (lock_kept v.lk p a.node a.level 0 (B.holds_place_lock refl)) (record {
        begun = B.begun;
        begun_by = omega (arith, B.begun_by);
        low = B.low;
        high = B.high;
        place = B.read;
        read = B.read;
        saved = B.saved;
        holds_place_lock = λ h. absurd (omega arith);
        holds_own_lock = λ h. absurd (omega arith);
        holds_node_lock = B.holds_node_lock;
        near = near_none _ _ _ _ _ _;
        inserts = B.inserts;
        within = B.within;
        removes = B.removes;
        walks = λ h. absurd (kd≢ h);
      })
