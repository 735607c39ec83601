-- Keys as numbers: document 01's order of keys is the order of their ranks. Assumes nothing.
use mathlib.Core.Path.{◌≡◌, refl, sym}
use mathlib.Core.Bool.{Bool, true, false, cond, ◌&&◌}
use Prim.Native.Nat.{ℕ, ◌+◌, ◌-◌, ◌≤◌}
use native.Mathlib.Omega.{arith}
use lib.Dec.{ltb, eqb}
use borrow.Author.Tests.{ltb-true, ltb-false, eqb-true, eqb-false, lt-ltb, le-ltb, eq-eqb, ne_eqb}
use Rattle.record.specs.declared.keys.Key.{Key}
use Rattle.record.specs.declared.stages.Stage.{Stage}
use Rattle.record.specs.declared.stages.Stage.TheVariants as stage
use Rattle.rules.specs.Calls.{key_for, at_key}
use Rattle.record.specs.Keys.{node_key, key_before, key_same, head_key, tail_key, entry_key}
use Rattle.rules.proofs.View.{rank, entry_rank, rank_for, asks_for, Wants, last}

-- keys as numbers
abbrev pub rank_at : ℕ → ℕ → ℕ → ℕ → ℕ
rank_at n x d t = cond (eqb x 0) 0 (cond (eqb x (n + 1)) last (entry_rank d t))

data Which (n x d t : ℕ) : Type 0 where
  head : node_key n x d t ≡ head_key → rank_at n x d t ≡ 0 → x ≡ 0 → Which n x d t
  tail : node_key n x d t ≡ tail_key → rank_at n x d t ≡ last → x ≡ n + 1 → Which n x d t
  entry : node_key n x d t ≡ entry_key d t → rank_at n x d t ≡ entry_rank d t → (x ≡ n + 1 → ⊥) → Which n x d t

which : (n x d t : ℕ) → Which n x d t
which n x d t = go (eqb x 0) refl (eqb (x - 1) n) refl (eqb x (n + 1)) refl
  where
    go : (a : Bool) → eqb x 0 ≡ a → (b : Bool) → eqb (x - 1) n ≡ b → (c : Bool) → eqb x (n + 1) ≡ c → Which n x d t
    go true e b f c g = head (rw e) (rw e) (eqb-true x 0 e)
    go false e true f true g = tail (rw (e, f)) (rw (e, g)) (eqb-true x (n + 1) g)
    go false e true f false g = absurd (eqb-false x (n + 1) g (let z : (x ≡ 0 → ⊥) = eqb-false x 0 e in omega (arith, eqb-true (x - 1) n f)))
    go false e false f true g = absurd (eqb-false (x - 1) n f (omega (arith, eqb-true x (n + 1) g)))
    go false e false f false g = entry (rw (e, f)) (rw (e, g)) (eqb-false x (n + 1) g)

pub entries_before : (d t d' t' : ℕ) → t ≤ 999999 → t' ≤ 999999 → key_before (entry_key d t) (entry_key d' t') ≡ ltb (entry_rank d t) (entry_rank d' t')
entries_before d t d' t' t≤ t'≤ = go (eqb d d') refl (ltb t t') refl (ltb d d') refl
  where
    go : (a : Bool) → eqb d d' ≡ a → (b : Bool) → ltb t t' ≡ b → (c : Bool) → ltb d d' ≡ c → cond a b c ≡ ltb (entry_rank d t) (entry_rank d' t')
    go true e true f c g = sym (lt-ltb (entry_rank d t) (entry_rank d' t') (omega (arith, eqb-true d d' e, ltb-true t t' f)))
    go true e false f c g = sym (le-ltb (entry_rank d t) (entry_rank d' t') (omega (arith, eqb-true d d' e, ltb-false t t' f)))
    go false e b f true g = sym (lt-ltb (entry_rank d t) (entry_rank d' t') (omega (arith, ltb-true d d' g)))
    go false e b f false g = sym (le-ltb (entry_rank d t) (entry_rank d' t') (let z : (d ≡ d' → ⊥) = eqb-false d d' e in omega (arith, ltb-false d d' g)))

entries_same : (d t d' t' : ℕ) → t ≤ 999999 → t' ≤ 999999 →
    key_same (entry_key d t) (entry_key d' t') ≡ eqb (entry_rank d t) (entry_rank d' t')
entries_same d t d' t' t≤ t'≤ = go (eqb d d') refl (eqb t t') refl
  where
    go : (a : Bool) → eqb d d' ≡ a → (b : Bool) → eqb t t' ≡ b →
        (a && b) ≡ eqb (entry_rank d t) (entry_rank d' t')
    go true e true f =
        sym (eq-eqb (entry_rank d t) (entry_rank d' t')
        (omega (arith, eqb-true d d' e, eqb-true t t' f)))
    go true e false f =
        sym (ne_eqb (entry_rank d t) (entry_rank d' t')
        (λ h. let z : (t ≡ t' → ⊥) = eqb-false t t' f in omega (arith, eqb-true d d' e)))
    go false e b f =
        sym (ne_eqb (entry_rank d t) (entry_rank d' t')
        (λ h. let z : (d ≡ d' → ⊥) = eqb-false d d' e in omega arith))

-- a key and its rank
pub data Ranked (k : Key) (r : ℕ) : Type 0 where
  at_head : k ≡ head_key → r ≡ 0 → Ranked k r
  at_tail : k ≡ tail_key → r ≡ last → Ranked k r
  at_entry : (d t : ℕ) → k ≡ entry_key d t → r ≡ entry_rank d t → d ≤ 999999 → t ≤ 999999 → Ranked k r

pub node_ranked : (n x d t : ℕ) → d ≤ 999999 → t ≤ 999999 →
    Ranked (node_key n x d t) (rank_at n x d t)
node_ranked n x d t d≤ t≤ = go (which n x d t)
  where
    go : Which n x d t → Ranked (node_key n x d t) (rank_at n x d t)
    go (head e f j) = at_head e f
    go (tail e f j) = at_tail e f
    go (entry e f j) = at_entry d t e f d≤ t≤

pub before_ranked : (k k' : Key) (r r' : ℕ) → Ranked k r → Ranked k' r' → key_before k k' ≡ ltb r r'
before_ranked k k' r r' (at_head e f) (at_head g h) = rw (e, f, g, h)
before_ranked k k' r r' (at_head e f) (at_tail g h) = rw (e, f, g, h)
before_ranked k k' r r' (at_head e f) (at_entry d' t' g h x y) =
    rw (e, f, g, h) (sym (lt-ltb 0 (entry_rank d' t') (omega arith)))
before_ranked k k' r r' (at_tail e f) (at_head g h) = rw (e, f, g, h)
before_ranked k k' r r' (at_tail e f) (at_tail g h) = rw (e, f, g, h)
before_ranked k k' r r' (at_tail e f) (at_entry d' t' g h x y) =
    rw (e, f, g, h) (sym (le-ltb last (entry_rank d' t') (omega arith)))
before_ranked k k' r r' (at_entry d t e f u v) (at_head g h) =
    rw (e, f, g, h) (sym (le-ltb (entry_rank d t) 0 (omega arith)))
before_ranked k k' r r' (at_entry d t e f u v) (at_tail g h) =
    rw (e, f, g, h) (sym (lt-ltb (entry_rank d t) last (omega arith)))
before_ranked k k' r r' (at_entry d t e f u v) (at_entry d' t' g h x y) =
    rw (e, f, g, h) (entries_before d t d' t' v y)

-- the key of an operation, and its rank
pub ranked_for : (s : Stage) (k : Key) (r : ℕ) → Wants s → Ranked k r →
    Ranked (key_for s k) (rank_for s r)
ranked_for stage.Idle k r w h = h
ranked_for (stage.Insert i) k r w h = h
ranked_for (stage.Delete d) k r w h = h
ranked_for (stage.Relaxed d) k r w h = h
ranked_for (stage.Remove w d) k r s h = at_entry w.due w.ticket refl refl s.0 s.1
ranked_for (stage.Removal job d) k r w h = h

-- a key is the one of an entry where its rank is that entry's
same_ranked : (k : Key) (r d t : ℕ) → t ≤ 999999 → d ≤ 999999 → Ranked k r →
    key_same k (entry_key d t) ≡ eqb r (entry_rank d t)
same_ranked k r d t t≤ d≤ (at_head e f) =
    rw (e, f) (sym (ne_eqb 0 (entry_rank d t) (λ z. omega arith)))
same_ranked k r d t t≤ d≤ (at_tail e f) =
    rw (e, f) (sym (ne_eqb last (entry_rank d t) (λ z. omega arith)))
same_ranked k r d t t≤ d≤ (at_entry d' t' e f u v) = rw (e, f) (entries_same d' t' d t v t≤)

-- whether the key is the one that a Remove carries
pub asked_for : (s : Stage) (k : Key) (r : ℕ) → Wants s → Ranked k r → at_key s k ≡ asks_for s r
asked_for stage.Idle k r w h = refl
asked_for (stage.Insert i) k r w h = refl
asked_for (stage.Delete d) k r w h = refl
asked_for (stage.Relaxed d) k r w h = refl
asked_for (stage.Remove w d) k r s h = same_ranked k r w.due w.ticket s.1 s.0 h
asked_for (stage.Removal job d) k r w h = refl

pub rank_at_lem : (n : ℕ) (due tick : ℕ → ℕ) (x : ℕ) → rank n due tick x ≡ rank_at n x (due x) (tick x)
unfolding rank
rank_at_lem n due tick x = refl
