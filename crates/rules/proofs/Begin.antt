-- The two begins keep the invariant.
use mathlib.Core.Path.{◌≡◌, refl, sym, ap, subst, ◌∙◌}
use mathlib.Core.Bool.{Bool, true, false}
use Prim.Native.Nat.{ℕ, suc, ◌+◌, ◌-◌, ◌≤◌, ◌<◌}
use native.Mathlib.Omega.{arith}
use native.Mathlib.Decide.{dec_lt, ℕ_discrete}
use lib.Dec.{eqb}
use borrow.Author.Tests.{eqb-true}
use mathlib.Core.Bool.{cond}
use Rattle.record.specs.declared.stages.Insert.TheVariants as ins
use Rattle.record.specs.declared.stages.Wanted.{Wanted}
use Rattle.record.specs.declared.stages.Remove.TheVariants as rmv
use Rattle.record.specs.declared.stages.Stage.{Stage}
use Rattle.record.specs.declared.stages.Stage.TheVariants as stage
use Rattle.record.specs.Stages.{place}
use Rattle.laws.specs.Update.{changed_at}
use Rattle.laws.proofs.Updating.{changed_same, changed_other}
use Rattle.rules.proofs.Put.{ever}
use Rattle.rules.proofs.View.{Pr, View, Info, info, walk_info, claim, key, tail, last, rank}
use Rattle.rules.proofs.View.{entry_rank}
use Rattle.rules.proofs.Facts.{kind_any}
use Rattle.rules.proofs.Machine.{filled}
use Rattle.rules.proofs.Inv.{Next, Core, Entered, Busy, Readable, Near, Eligible, Unlinking, Led, back, unlinker, Inv, sought, One, Yields}
use Rattle.rules.proofs.Assemble.{ticked, assembled_new, unlinking_other, one_new, yields_new}
use Rattle.rules.proofs.Move.{near_none}
use Rattle.rules.proofs.InsertSteps.{head_readable}
use Rattle.rules.proofs.Lead.{sure}

-- the begin of an operation that takes no node
pub begin_ownless : (v : View) (u : ℕ → ℕ → ℕ) (I : Inv v u) (room : v.clock + 1 < ever) (p : ℕ) →
    (claim v p).kind ≡ 0 → (c : Pr) → c.begin ≡ v.clock + 1 →
    (info (v.ht c.own) c.stage).kind ≡ 2 →
    Busy (ticked v p c) u p c (info (v.ht c.own) c.stage) → Inv (ticked v p c) u
begin_ownless v u I room p idle c began two mine =
    assembled_new v u p c core (λ b. mine)
    (λ q ne b. let B = I.busy q b in
    record {
      begun = B.begun;
      begun_by = omega (arith, B.begun_by);
      low = B.low;
      high = B.high;
      place = B.place;
      read = B.read;
      saved = B.saved;
      holds_place_lock = B.holds_place_lock;
      holds_own_lock = B.holds_own_lock;
      holds_node_lock = B.holds_node_lock;
      near = B.near;
      inserts = B.inserts;
      within = B.within;
      removes = B.removes;
      walks = B.walks;
    })
    (λ q n i ne b i≥ n< s lt. led q n i (I.led q n i b i≥ n< s lt))
    (λ n i i≥ s lt. omega (arith, began, I.core.past n i i≥ lt))
    (one_new v u p c I.one (λ q ne b k t o. t two))
    (yields_new v u p c I.yields (λ h. absurd (omega (arith, two)))
    (λ h. absurd (omega (arith, two))))
  where
    core : Core (ticked v p c) u
    core =
        let C = I.core in
        record {
          level_count = C.level_count;
          levels_high = C.levels_high;
          size = C.size;
          clock = room;
          ordered = C.ordered;
          down = C.down;
          past = λ n i i≥ h. omega (arith, C.past n i i≥ h);
          apart = C.apart;
          ends = C.ends;
          entered = λ n n≥ n<. let E = C.entered n n≥ n< in
              record {
                low_height = E.low_height;
                high_height = E.high_height;
                above = E.above;
                ticket = omega (arith, E.ticket);
                used_by = omega (arith, E.used_by);
                due_range = E.due_range;
                never = E.never;
                retired = E.retired;
                retired_marked = E.retired_marked;
                full = E.full;
              };
        }

    led : (q n i : ℕ) → Led v u (v.pr q).begin n i → Led (ticked v p c) u (v.pr q).begin n i
    led q n i (back k) = back k
    led q n i (unlinker x l) =
        unlinker x (unlinking_other v u p c x n i (λ e. omega (arith, idle, (rw e at l.kind)))
        (record { kind = l.kind; nx = l.nx; hp = l.hp; ho = l.ho; own = l.own; level = l.level }))

abbrev pub walker : View → ℕ → Stage → Pr
walker v p s = record { begin = v.clock + 1; own = 0; stage = s; saved = (v.pr p).saved }

-- the begin of a walk
pub begin_walk : (v : View) (u : ℕ → ℕ → ℕ) (I : Inv v u) (room : v.clock + 1 < ever) (p : ℕ) →
    (claim v p).kind ≡ 0 → (s : Stage) → info (v.ht 0) s ≡ walk_info 2 0 (place 0 1) →
    Inv (ticked v p (walker v p s)) u
begin_walk v u I room p idle s is =
    let G = head_readable v u I (v.clock + 1) last 1 I.core.level_count (omega arith)
    (omega arith) in
    begin_ownless v u I room p idle (walker v p s) refl (ap (λ (f : Info). f.kind) is)
    (subst (λ (f : Info). Busy (ticked v p (walker v p s)) u p (walker v p s) f) (sym is)
    (record {
      begun = omega arith;
      begun_by = omega arith;
      low = omega arith;
      high = I.core.level_count;
      place = G;
      read = G;
      saved = λ j f j≥ j≤. absurd (omega (arith, I.core.levels_high));
      holds_place_lock = λ h. absurd (omega arith);
      holds_own_lock = λ h. absurd (omega arith);
      holds_node_lock = λ h. absurd (omega arith);
      near = near_none _ _ _ _ _ _;
      inserts = λ h. absurd (omega arith);
      within = λ h. absurd (omega arith);
      removes = λ h. absurd (omega arith);
      walks = λ h. record {
        ownless = refl;
        entry = λ k. absurd (omega arith);
        named = λ k. absurd (omega arith);
        stamped = λ k. absurd (omega arith);
        ahead = λ l x L. omega (
          arith,
          I.core.ends.head_key_lem,
          (I.core.ends.keys x L.low
              (omega (arith, L.high))).0,
        );
      };
    }))

-- the begin of a Remove
pub begin_find : (v : View) (u : ℕ → ℕ → ℕ) (I : Inv v u) (room : v.clock + 1 < ever) (p : ℕ) →
    (claim v p).kind ≡ 0 → (w : Wanted) →
    Inv (ticked v p (walker v p (stage.Remove w (rmv.Search (place 0 v.top))))) u
begin_find v u I room p idle w =
    let s = stage.Remove w (rmv.Search (place 0 v.top)) in
    let G = head_readable v u I (v.clock + 1) (entry_rank w.due w.ticket) v.top
    (omega arith) (omega arith) (omega arith) in
    begin_ownless v u I room p idle (walker v p s) refl refl
    (record {
      begun = omega arith;
      begun_by = omega arith;
      low = I.core.level_count;
      high = omega arith;
      place = G;
      read = G;
      saved = λ j f j≥ j≤. absurd (omega arith);
      holds_place_lock = λ h. absurd (omega arith);
      holds_own_lock = λ h. absurd (omega arith);
      holds_node_lock = λ h. absurd (omega arith);
      near = near_none _ _ _ _ _ _;
      inserts = λ h. absurd (omega arith);
      within = λ h. absurd (omega (arith, I.core.level_count));
      removes = λ h. absurd (omega arith);
      walks = λ h. record {
        ownless = refl;
        entry = λ k. absurd (omega arith);
        named = λ k. absurd (omega arith);
        stamped = λ k. absurd (omega arith);
        ahead = λ l. absurd (omega arith);
      };
    })

-- the rank of an entry, and of a node that did not change
pub rank_entry : (n : ℕ) (due tick : ℕ → ℕ) (x : ℕ) → 1 ≤ x → x ≤ n → rank n due tick x ≡ entry_rank (due x) (tick x)
unfolding rank
rank_entry n due tick x x≥ x≤ = go (eqb x 0) refl (eqb x (n + 1)) refl
  where
    go : (a : Bool) → eqb x 0 ≡ a → (b : Bool) → eqb x (n + 1) ≡ b → cond a 0 (cond b last (entry_rank (due x) (tick x))) ≡ entry_rank (due x) (tick x)
    go true e b f = absurd (omega (arith, eqb-true x 0 e))
    go false e true f = absurd (omega (arith, eqb-true x (n + 1) f))
    go false e false f = refl

pub rank_same : (n : ℕ) (due tick due' tick' : ℕ → ℕ) (x : ℕ) → due' x ≡ due x → tick' x ≡ tick x → rank n due' tick' x ≡ rank n due tick x
unfolding rank
rank_same n due tick due' tick' x e f = rw (e, f)

abbrev pub inserter : View → ℕ → ℕ → Pr
inserter v p x = record { begin = v.clock + 1; own = x; stage = stage.Insert (ins.Search (place 0 v.top)); saved = (v.pr p).saved }

abbrev pub cleared : (ℕ → ℕ → ℕ) → ℕ → ℕ → ℕ → ℕ
cleared u x = changed_at u x (λ (j : ℕ). 0)

module _ (v : View) (u : ℕ → ℕ → ℕ) (I : Inv v u) (room : v.clock + 1 < ever) (p : ℕ) (idle : (claim v p).kind ≡ 0)
    (x d t h : ℕ) (fwd lk : ℕ → ℕ → ℕ) (x≥ : 1 ≤ x) (x≤ : x ≤ v.nodes) (d≤ : d ≤ 999999) (h≥ : 1 ≤ h) (h≤ : h ≤ v.top)
    (free : v.us x ≡ 1 → ⊥) (before : (q : ℕ) → 1 ≤ (claim v q).kind → v.us x < (v.pr q).begin + 2) (unseen : (q j : ℕ) → 1 ≤ (claim v q).kind → 1 ≤ j → u x j < (v.pr q).begin)
    (fwd_same : (n i : ℕ) → (n ≡ x → ⊥) → fwd n i ≡ v.fwd n i) (lk_same : (n i : ℕ) → (n ≡ x → ⊥) → lk n i ≡ v.lk n i) where
  abbrev w : View
  w = filled v p x d t h fwd lk

  abbrev w' : View
  w' = ticked w p (inserter v p x)

  abbrev u' : ℕ → ℕ → ℕ
  u' = cleared u x

  u_same : (n j : ℕ) → (n ≡ x → ⊥) → u' n j ≡ u n j
  u_same n j ne = ap (λ (f : ℕ → ℕ). f j) (changed_other u x (λ (j : ℕ). 0) n ne)

  u_zero : (j : ℕ) → u' x j ≡ 0
  u_zero j = ap (λ (f : ℕ → ℕ). f j) (changed_same u x (λ (j : ℕ). 0))

  not_x : (n j : ℕ) → 1 ≤ u' n j → n ≡ x → ⊥
  not_x n j on e = omega (arith, u_zero j, (rw e at on))

  key_same_lem : (n : ℕ) → (n ≡ x → ⊥) → key w n ≡ key v n
  key_same_lem n ne = rank_same v.nodes v.due v.tick (changed_at v.due x d) (changed_at v.tick x (v.clock + 1)) n (changed_other v.due x d n ne) (changed_other v.tick x (v.clock + 1) n ne)

  key_x : key w x ≡ entry_rank d (v.clock + 1)
  key_x = rank_entry v.nodes (changed_at v.due x d) (changed_at v.tick x (v.clock + 1)) x x≥ x≤ ∙ rw (changed_same v.due x d, changed_same v.tick x (v.clock + 1))

  core : Core w' u'
  core =
      let C = I.core in
      record {
        level_count = C.level_count;
        levels_high = C.levels_high;
        size = C.size;
        clock = room;
        ordered = ordered;
        down = λ n j j≥. down n j j≥ (ℕ_discrete n x);
        past = λ n j j≥. past n j j≥ (ℕ_discrete n x);
        apart = λ n m. apart n m (ℕ_discrete n x) (ℕ_discrete m x);
        ends = let E = C.ends in record {
          head_on = λ j l. rw (u_same 0 j (λ e. omega arith)) (E.head_on j l);
          tail_on = λ j l. rw (u_same (tail v) j (λ e. omega arith)) (E.tail_on j l);
          head_used = rw (changed_other v.us x 1 0 (λ e. omega arith)) E.head_used;
          tail_used = rw (changed_other v.us x 1 (tail v) (λ e. omega arith)) E.tail_used;
          head_stamp = rw (changed_other v.st x ever 0 (λ e. omega arith)) E.head_stamp;
          head_key_lem = rw (key_same_lem 0 (λ e. omega arith)) E.head_key_lem;
          tail_key_lem = rw (key_same_lem (tail v) (λ e. omega arith)) E.tail_key_lem;
          keys = λ n n≥ n<. keys n n≥ n< (ℕ_discrete n x);
        };
        entered = λ n n≥ n<. entered n n≥ n< (ℕ_discrete n x);
      }
    where
      ordered : (n i : ℕ) → 1 ≤ i → n < tail v → ever ≤ u' n i → Next u' (key w) (tail v) i n (fwd n i)
      ordered n i i≥ n< on =
          let ne = not_x n i (omega arith) in
          let N = I.core.ordered n i i≥ n< (rw (u_same n i ne) at on) in
          let se : (v.fwd n i ≡ x → ⊥) = λ e. not_on i i≥ (rw e at N.on) in
          rw (fwd_same n i ne)
          record {
            below = N.below;
            on = rw (u_same (v.fwd n i) i se) N.on;
            less = rw (key_same_lem n ne, key_same_lem (v.fwd n i) se) N.less;
            none = λ y y≤ y_on lt. let ye = not_x y i (omega arith) in
                rw (key_same_lem (v.fwd n i) se, key_same_lem y ye) (N.none y y≤ (rw (u_same y i ye) at y_on) (rw (key_same_lem n ne, key_same_lem y ye) at lt));
          }
        where
          not_on : (j : ℕ) → 1 ≤ j → ever ≤ u x j → ⊥
          not_on j j≥ on = go (ℕ_discrete (v.us x) 0)
            where
              go : Dec (v.us x ≡ 0) → ⊥
              go (yes z) = omega (arith, (I.core.entered x x≥ (omega arith)).never z j)
              go (no z) =
                  let E = I.core.entered x x≥ (omega arith) in
                  let two : 2 ≤ v.us x = let f : (v.us x ≡ 1 → ⊥) = free in omega arith in
                  omega (arith, E.used_by, E.retired (v.us x - 2) (omega arith) j j≥)

      down : (n j : ℕ) → 1 ≤ j → Dec (n ≡ x) → u' n (j + 1) ≤ u' n j
      down n j j≥ (yes e) = rw (e, u_zero (j + 1), u_zero j) (omega arith)
      down n j j≥ (no ne) = rw (u_same n (j + 1) ne, u_same n j ne) (I.core.down n j j≥)

      past : (n j : ℕ) → 1 ≤ j → Dec (n ≡ x) → u' n j < ever → u' n j ≤ v.clock + 1
      past n j j≥ (yes e) = rw (e, u_zero j) λ h. omega arith
      past n j j≥ (no ne) = rw (u_same n j ne) λ h. omega (arith, I.core.past n j j≥ h)

      keys : (n : ℕ) → 1 ≤ n → n < tail v → Dec (n ≡ x) → (1 ≤ key w n) × (key w n < last)
      keys n n≥ n< (yes e) = rw (e, key_x) (omega arith)
      keys n n≥ n< (no ne) = rw (key_same_lem n ne) (I.core.ends.keys n n≥ n<)

      entered : (n : ℕ) → 1 ≤ n → n < tail v → Dec (n ≡ x) → Entered u' w.us w.mk w.nl w.ht w.tick w.due v.top (v.clock + 1) n
      entered n n≥ n< (yes e) = rw e (record {
        low_height = rw (changed_same v.ht x h) h≥;
        high_height = rw (changed_same v.ht x h) h≤;
        above = λ j k. rw (u_zero j) (omega arith);
        ticket = rw (changed_same v.tick x (v.clock + 1)) (omega arith);
        used_by = rw (changed_same v.us x 1) (omega arith);
        due_range = rw (changed_same v.due x d) d≤;
        never = λ k. absurd (omega (arith, changed_same v.us x 1));
        retired = λ r k. absurd (omega (arith, changed_same v.us x 1));
        retired_marked = λ k. absurd (omega (arith, changed_same v.us x 1));
        full = λ k l m. absurd (omega (arith, changed_same v.nl x (suc p)));
      })
      entered n n≥ n< (no ne) = let E = I.core.entered n n≥ n< in record {
        low_height = rw (changed_other v.ht x h n ne) E.low_height;
        high_height = rw (changed_other v.ht x h n ne) E.high_height;
        above = rw (changed_other v.ht x h n ne) λ j k. rw (u_same n j ne) (E.above j k);
        ticket = rw (changed_other v.tick x (v.clock + 1) n ne) (omega (arith, E.ticket));
        used_by = rw (changed_other v.us x 1 n ne) (omega (arith, E.used_by));
        due_range = rw (changed_other v.due x d n ne) E.due_range;
        never = rw (changed_other v.us x 1 n ne) λ k j. rw (u_same n j ne) (E.never k j);
        retired = rw (changed_other v.us x 1 n ne) λ r k j j≥. rw (u_same n j ne) (E.retired r k j j≥);
        retired_marked = rw (changed_other v.us x 1 n ne, changed_other v.mk x 0 n ne) E.retired_marked;
        full = rw (changed_other v.us x 1 n ne, changed_other v.mk x 0 n ne, changed_other v.nl x (suc p) n ne, changed_other v.ht x h n ne) λ k l m j j≥ j≤. rw (u_same n j ne) (E.full k l m j j≥ j≤);
      }

      fresh_key : (m : ℕ) → m ≤ tail v → (m ≡ x → ⊥) → key w x ≡ key w m → ⊥
      fresh_key m m≤ ne e = go (ℕ_discrete m 0) (ℕ_discrete m (tail v))
        where
          k : entry_rank d (v.clock + 1) ≡ key v m
          k = rw (key_x, key_same_lem m ne) at e

          go : Dec (m ≡ 0) → Dec (m ≡ tail v) → ⊥
          go (yes z) f = omega (arith, I.core.ends.head_key_lem, (rw z at k))
          go (no z) (yes f) = omega (arith, I.core.ends.tail_key_lem, (rw f at k))
          go (no z) (no f) =
              let E = I.core.entered m (omega arith) (omega arith) in
              let r : entry_rank d (v.clock + 1) ≡ entry_rank (v.due m) (v.tick m) = rw (rank_entry v.nodes v.due v.tick m (omega arith) (omega arith)) at k in
              elim (dec_lt d (v.due m)) [ yes lt ↦ omega (arith, E.ticket) | no ge ↦ elim (dec_lt (v.due m) d) [ yes lt ↦ omega (arith, E.ticket) | no ge2 ↦ omega (arith, E.ticket) ] ]

      apart : (n m : ℕ) → Dec (n ≡ x) → Dec (m ≡ x) → n ≤ tail v → m ≤ tail v → 1 ≤ w.us n → 1 ≤ w.us m → key w n ≡ key w m → n ≡ m
      apart n m (yes e) (yes f) = λ n≤ m≤ nu mu k. omega arith
      apart n m (yes e) (no f) = rw e λ n≤ m≤ nu mu k. absurd (fresh_key m m≤ f k)
      apart n m (no e) (yes f) = rw f λ n≤ m≤ nu mu k. absurd (fresh_key n n≤ e (sym k))
      apart n m (no e) (no f) = rw (key_same_lem n e, key_same_lem m f, changed_other v.us x 1 n e, changed_other v.us x 1 m f) (I.core.apart n m)

  busy_v : (q : ℕ) → 1 ≤ (claim w q).kind → 1 ≤ (claim v q).kind
  busy_v q b = omega (arith, kind_any (w.ht (v.pr q).own) (v.ht (v.pr q).own) (v.pr q).stage)

  pub own_ne : (q : ℕ) → 1 ≤ (claim v q).kind → (v.pr q).own ≡ x → ⊥
  own_ne q b e = elim (ℕ_discrete (claim v q).kind 1) [
    | yes k ↦ omega (arith, before q b, ((I.busy q b).inserts k).later (λ u1. free (rw e at u1)), ap v.us e)
    | no f ↦ elim (ℕ_discrete (claim v q).kind 2) [
      | yes k ↦ omega (arith, ((I.busy q b).walks k).ownless)
      | no g ↦ free (rw e at ((I.busy q b).removes (omega (arith, (sure v q).kind_high))).used)
    ]
  ]

  claim_w : (q : ℕ) → 1 ≤ (claim v q).kind → claim w q ≡ claim v q
  claim_w q b = ap (λ (k : ℕ). info k (v.pr q).stage) (changed_other v.ht x h (v.pr q).own (own_ne q b))

  -- what q has seen is not x
  seen_ne : (q n i : ℕ) → 1 ≤ (claim v q).kind → 1 ≤ i → (v.pr q).begin ≤ u n i → n ≡ x → ⊥
  seen_ne q n i b i≥ s e = omega (arith, unseen q i b i≥, (rw e at s))

  module _ (q : ℕ) (b : 1 ≤ (claim v q).kind) where
    o_ne : (v.pr q).own ≡ x → ⊥
    o_ne = own_ne q b

    goal : sought (key w) (v.pr q).own (claim v q).kind (claim v q).goal ≡ sought (key v)
        (v.pr q).own (claim v q).kind (claim v q).goal
    goal = ap (λ (k : ℕ). cond (eqb (claim v q).kind 2) (claim v q).goal k)
        (key_same_lem (v.pr q).own o_ne)

    readable : (n i : ℕ) → 1 ≤ i →
        Readable u (key v) (tail v) (v.pr q).begin
        (sought (key v) (v.pr q).own (claim v q).kind (claim v q).goal) n i →
        Readable u' (key w) (tail v) (v.pr q).begin
        (sought (key w) (v.pr q).own (claim v q).kind (claim v q).goal) n i
    readable n i i≥ G =
        let ne = seen_ne q n i b i≥ G.seen in
        record { below = G.below; seen = rw (u_same n i ne) G.seen; before = omega (arith, goal, key_same_lem n ne, G.before) }

    B : Busy v u q (v.pr q) (claim v q)
    B = I.busy q b

    a_ne : (claim v q).node ≡ x → ⊥
    a_ne = seen_ne q (claim v q).node (claim v q).level b B.low B.place.seen

    near : Near fwd u' (key w) (v.pr q).own (claim v q).node (claim v q).level (claim v q).nx
    near = record {
      on = λ k. rw (u_same (claim v q).node (claim v q).level a_ne) (B.near.on k);
      after = λ k l. rw (at_a, key_same_lem (v.pr q).own o_ne, key_same_lem (v.fwd (claim v q).node (claim v q).level) (s_ne k)) (B.near.after k l);
      same = λ k. rw (at_a, at_o) (B.near.same k);
      next = λ k. rw at_a (B.near.next k);
      same_four = λ k. rw (at_a, at_o) (B.near.same_four k);
      after_four = λ k. rw (at_o, key_same_lem (v.pr q).own o_ne, key_same_lem (v.fwd (v.pr q).own (claim v q).level) (λ e. s_ne (omega arith) (sym (B.near.same_four k) ∙ e))) (B.near.after_four k);
    }
      where
        at_a : fwd (claim v q).node (claim v q).level ≡ v.fwd (claim v q).node (claim v q).level
        at_a = fwd_same (claim v q).node (claim v q).level a_ne

        at_o : fwd (v.pr q).own (claim v q).level ≡ v.fwd (v.pr q).own (claim v q).level
        at_o = fwd_same (v.pr q).own (claim v q).level o_ne

        s_ne : 1 ≤ (claim v q).nx → v.fwd (claim v q).node (claim v q).level ≡ x → ⊥
        s_ne k = seen_ne q _ (claim v q).level b B.low (omega (arith, (I.core.ordered (claim v q).node (claim v q).level B.low B.place.below (B.near.on k)).on, B.begun_by))

    eligible : (y : ℕ) → Eligible w.us w.st w.mk v.nodes (v.pr q).begin y → (y ≡ x → ⊥)
    eligible y L e = omega (arith, B.begun_by, changed_same v.st x ever, (rw e at L.stamped))

    other : Busy w' u' q (v.pr q) (claim v q)
    other =
        record {
          begun = B.begun;
          begun_by = omega (arith, B.begun_by);
          low = B.low;
          high = B.high;
          place = readable _ _ B.low B.place;
          read = readable _ _ B.low B.read;
          saved = λ j f j≥ j≤. readable _ _ j≥ (B.saved j f j≥ j≤);
          holds_place_lock = λ k. rw (lk_same (claim v q).node (claim v q).level a_ne) (B.holds_place_lock k);
          holds_own_lock = λ k. rw (lk_same (v.pr q).own (claim v q).level o_ne) (B.holds_own_lock k);
          holds_node_lock = λ k. rw (changed_other v.nl x (suc p) (v.pr q).own o_ne) (B.holds_node_lock k);
          near = near;
          inserts = λ k. let S = B.inserts k in record {
            low = S.low;
            high = S.high;
            used = rw (changed_other v.us x 1 _ o_ne) S.used;
            later = rw (changed_other v.us x 1 _ o_ne) S.later;
            ticket = rw (changed_other v.tick x (v.clock + 1) _ o_ne) S.ticket;
            unstamped = rw (changed_other v.st x ever _ o_ne) S.unstamped;
            linked = λ l j j≥ j≤. rw (u_same _ j o_ne) (S.linked l j j≥ j≤);
            off = λ l j lt. rw (u_same _ j o_ne) (S.off l j lt);
          };
          within = λ k. rw (changed_other v.ht x h _ o_ne) (B.within k);
          removes = λ k. let S = B.removes k in record {
            low = S.low;
            high = S.high;
            used = rw (changed_other v.us x 1 _ o_ne) S.used;
            marked = rw (changed_other v.mk x 0 _ o_ne) S.marked;
            linked = λ l j j≥ j≤. rw (u_same _ j o_ne) (S.linked l j j≥ j≤);
            off = λ l j lt. rw (u_same _ j o_ne) (S.off l j lt);
            whole = rw (changed_other v.nl x (suc p) _ o_ne, changed_other v.ht x h _ o_ne) λ l z j j≥ j≤. rw (u_same _ j o_ne) (S.whole l z j j≥ j≤);
          };
          walks = λ k. let W = B.walks k in record {
            ownless = W.ownless;
            ahead = λ l y L. let ye = eligible y L in
                rw (key_same_lem _ a_ne, key_same_lem y ye) (W.ahead l y (record {
                  low = L.low;
                  high = L.high;
                  used = rw (changed_other v.us x 1 y ye) at L.used;
                  stamped = rw (changed_other v.st x ever y ye) at L.stamped;
                  unmarked = rw (changed_other v.mk x 0 y ye) at L.unmarked;
                }));
            entry = W.entry;
            named = λ l. rw (key_same_lem _ a_ne) (W.named l);
            stamped = λ l. rw (changed_other v.st x ever _ a_ne) (W.stamped l);
          };
        }

    led : (n i : ℕ) → 1 ≤ i → n < tail v → (v.pr q).begin ≤ u' n i → u' n i < ever → Led w' u' (v.pr q).begin n i
    led n i i≥ n< s lt =
        let ne = not_x n i (omega (arith, B.begun)) in
        go ne (I.led q n i b i≥ n< (rw (u_same n i ne) at s) (rw (u_same n i ne) at lt))
      where
        go : (n ≡ x → ⊥) → Led v u (v.pr q).begin n i → Led w' u' (v.pr q).begin n i
        go ne (back k) =
            let se = seen_ne q (v.fwd n i) i b i≥ k.seen in
            let f = fwd_same n i ne in
            back (record { below = rw f k.below; seen = rw (f, u_same (v.fwd n i) i se) k.seen; less = rw (f, key_same_lem (v.fwd n i) se, key_same_lem n ne) k.less })
        go ne (unlinker y l) = unlinker y (unlinking_other w u' p (inserter v p x) y n i (λ e. omega (arith, idle, (rw e at l.kind))) (moved (omega (arith, l.kind))))
          where
            moved : 1 ≤ (claim v y).kind → Unlinking w y n i
            moved by = let e = claim_w y by in record {
              kind = subst (λ (f : Info). f.kind ≡ 3) (sym e) l.kind;
              nx = subst (λ (f : Info). f.nx ≡ 4) (sym e) l.nx;
              hp = subst (λ (f : Info). f.hp ≡ 1) (sym e) l.hp;
              ho = subst (λ (f : Info). f.ho ≡ 1) (sym e) l.ho;
              own = l.own;
              level = subst (λ (f : Info). f.level ≡ i) (sym e) l.level;
            }

  mine : Busy w' u' p (inserter v p x) (info (w.ht x) (stage.Insert (ins.Search (place 0 v.top))))
  mine =
      record {
        begun = omega arith;
        begun_by = omega arith;
        low = I.core.level_count;
        high = omega arith;
        place = G;
        read = G;
        saved = λ j f j≥ j≤. absurd (omega arith);
        holds_place_lock = λ k. absurd (omega arith);
        holds_own_lock = λ k. absurd (omega arith);
        holds_node_lock = λ k. changed_same v.nl x (suc p);
        near = near_none _ _ _ _ _ _;
        inserts = λ k. record {
          low = x≥;
          high = x≤;
          used = λ l. changed_same v.us x 1;
          later = λ l. absurd (l (changed_same v.us x 1));
          ticket = changed_same v.tick x (v.clock + 1);
          unstamped = changed_same v.st x ever;
          linked = λ l j j≥ j≤. absurd (omega arith);
          off = λ l j lt. u_zero j;
        };
        within = λ k. absurd (omega (arith, I.core.level_count));
        removes = λ k. absurd (omega arith);
        walks = λ k. absurd (omega arith);
      }
    where
      G : Readable u' (key w) (tail v) (v.clock + 1) (key w x) 0 v.top
      G = record {
        below = omega arith;
        seen = rw (u_same 0 v.top (λ e. omega arith)) (omega (arith, I.core.ends.head_on v.top (omega arith)));
        before = omega (arith, key_same_lem 0 (λ e. omega arith), I.core.ends.head_key_lem, key_x);
      }

  pub begin_insert_lem : Inv w' u'
  begin_insert_lem = assembled_new w u' p (inserter v p x) core (λ b. mine)
      (λ q ne b. let bv = busy_v q b in subst (λ (f : Info). Busy w' u' q (v.pr q) f) (sym (claim_w q bv)) (other q bv))
      (λ q n i ne b. led q (busy_v q b) n i)
      (λ n i i≥ s lt. none n i i≥ s lt (ℕ_discrete n x))
      (one_new w u' p (inserter v p x) one (λ q ne b k f e. own_ne q (busy_v q b) e))
      (yields_new w u' p (inserter v p x) yields (λ h. absurd (omega arith)) (λ h q ne k t o. absurd (own_ne q (busy_v q (omega arith)) o)))
    where
      none : (n i : ℕ) → 1 ≤ i → v.clock + 1 ≤ u' n i → u' n i < ever → Dec (n ≡ x) → ⊥
      none n i i≥ s lt (yes e) = omega (arith, u_zero i, (rw e at s))
      none n i i≥ s lt (no ne) = omega (arith, u_same n i ne, I.core.past n i i≥ (rw (u_same n i ne) at lt))

      one : One (claim w) v.pr
      one y z b k f o =
          let by = busy_v y b in
          let ky = kind_any (w.ht (v.pr y).own) (v.ht (v.pr y).own) (v.pr y).stage in
          let kz = kind_any (w.ht (v.pr z).own) (v.ht (v.pr z).own) (v.pr z).stage in
          I.one y z by (omega arith) (λ l. f (omega arith)) o

      yields : Yields (claim w) v.pr
      yields y z k t l o =
          let ky = kind_any (w.ht (v.pr y).own) (v.ht (v.pr y).own) (v.pr y).stage in
          let kz = kind_any (w.ht (v.pr z).own) (v.ht (v.pr z).own) (v.pr z).stage in
          let ey = claim_w y (omega arith) in
          let ez = claim_w z (omega arith) in
          ap (λ (f : Info). f.hn) ez ∙ I.yields y z (omega arith) (sym (ap (λ (f : Info). f.past) ey) ∙ t) (omega arith) o
