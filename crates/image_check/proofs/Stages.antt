-- A stage's numbers: the bounds that the table of stages sets for a tag are what check 21 and the
-- reading of the bytes ask for. Assumes nothing.
use mathlib.Core.Path.{◌≡◌, refl, sym, ◌∙◌, ap, subst}
use mathlib.Core.Bool.{Bool, true, false, cond, not, ◌&&◌, ◌||◌, and-false, false≢true}
use Prim.Native.Nat.{ℕ, zero, suc, ◌+◌, ◌≤◌, ◌<◌}
use native.Mathlib.Decide.{ℕ_discrete}
use native.Mathlib.Omega.{arith}
use lib.Dec.{eqb, leb}
use borrow.Author.Tests.{eq-eqb, ne_eqb, le-leb, lt-leb, leb-true}
use Rattle.laws.proofs.Counting.{and_left, and_right, every_at}
use Rattle.record_check.specs.declared.check.Sizes.{Sizes}
use Rattle.record.specs.declared.stages.Wanted.{Wanted}
use Rattle.record_check.specs.Check.{within, own_valid, place_valid, marking_valid, wanted_valid}
use Rattle.record_check.specs.Check.{carried_valid}
use Rattle.record.specs.Limits.{max_number}
use Rattle.record.specs.Stages.{Row, place, wanted_of, none_wanted, job_number, row_of, carried_of}
use Rattle.record.specs.Stages.{carried}
use Rattle.image.specs.Tags.{Code, code, code_of, code_same, job_of, stage_of, stage_taken}
use Rattle.image_check.specs.Bounds.{row_at, between, in_bounds, errand_in_bounds}

pub same : (a : ℕ) → eqb a a ≡ true
same a = eq-eqb a a refl

-- two tests that agree for all values of five
abbrev agree : Bool → Bool → Bool
agree a b = cond a b (not b)

agrees : (a b : Bool) → agree a b ≡ true → a ≡ b
agrees true b h = sym h
agrees false true h = h
agrees false false h = refl

abbrev each : (Bool → Bool) → Bool
each f = f true && f false

each_at : (f : Bool → Bool) → each f ≡ true → (b : Bool) → f b ≡ true
each_at f h true = and_left (f true) (f false) h
each_at f h false = and_right (f true) (f false) h

module _ (f g : Bool → Bool → Bool → Bool → Bool → Bool) where
  abbrev five : Bool → Bool → Bool → Bool → Bool → Bool
  five a b c d e = agree (f a b c d e) (g a b c d e)

  all_ways :
      each (λ a. each (λ b. each (λ c. each (λ d. each (λ e. five a b c d e))))) ≡ true →
      (a b c d e : Bool) → f a b c d e ≡ g a b c d e
  all_ways h a b c d e =
      agrees (f a b c d e) (g a b c d e)
      (each_at (λ e. five a b c d e)
      (each_at (λ d. each (λ e. five a b c d e))
      (each_at (λ c. each (λ d. each (λ e. five a b c d e)))
      (each_at (λ b. each (λ c. each (λ d. each (λ e. five a b c d e))))
      (each_at (λ a. each (λ b. each (λ c. each (λ d. each (λ e. five a b c d e))))) h a) b) c) d)
      e)

zero_low : (x : ℕ) → eqb 0 x ≡ leb x 0
zero_low zero = refl
zero_low (suc x) = ne_eqb 0 (suc x) (λ e. omega arith) ∙ sym (lt-leb (suc x) 0 (omega arith))

-- at most 0 is 0
pub low_zero : (x : ℕ) → eqb x 0 ≡ leb x 0
low_zero zero = refl
low_zero (suc x) =
    ne_eqb (suc x) 0 (λ h. omega (arith, h)) ∙ sym (lt-leb (suc x) 0 (omega arith))

-- an entry's node is at most the tail
lower : (a n : ℕ) → (leb a (n + 1) && within a n) ≡ within a n
lower a n = go (within a n) refl
  where
    go : (t : Bool) → within a n ≡ t → (leb a (n + 1) && t) ≡ t
    go true e =
        let h = leb-true a n (and_right (leb 1 a) (leb a n) e) in
        rw (le-leb a (n + 1) (omega arith)) refl
    go false e = and-false (leb a (n + 1))

-- a row with these columns, for the numbers a, i, x; the columns removes and seeks with them, for
-- the numbers job, due and ticket
module _ (s : Sizes) (t a i x own : ℕ) (tall : 1 ≤ s.level_count) where
  abbrev line : Bool → Bool → Bool → Bool → Row
  line owns placed marks releases = record {
    tag = t;
    owns = owns;
    placed = placed;
    walks = false;
    marks = marks;
    holds_place = false;
    holds_own = false;
    holds_node = false;
    place = cond placed (place a i) (place 0 1);
    releases = releases;
    ahead = cond releases x 0;
    removes = false;
    job = 0;
    seeks = false;
    wanted = none_wanted;
  }

  -- what is read and what is asked of the place, the node of G3 and the own node
  abbrev place_same : Row → Bool
  place_same r =
      (eqb (code_of r).tag t && eqb (code_of r).node a)
      && (eqb (code_of r).level i && eqb (code_of r).ahead x)

  abbrev place_asked : Row → Bool
  place_asked r =
      own_valid s (carried_of r).own own
      && place_valid s (carried_of r).place
      && leb (carried_of r).ahead (s.node_count + 1)
      && marking_valid s (carried_of r).marking (carried_of r).place.node

  abbrev taken : Row → Bool
  taken r = place_same r && place_asked r

  abbrev A : Bool
  A = leb a (s.node_count + 1)

  abbrev W : Bool
  W = within i s.level_count

  abbrev X : Bool
  X = leb x (s.node_count + 1)

  abbrev owned : Bool → Bool
  owned o = between (cond o 1 0) own (cond o s.node_count (s.node_count + 1))

  own_tests : (o : Bool) → cond o (within own s.node_count) (leb own (s.node_count + 1)) ≡ owned o
  own_tests true = refl
  own_tests false = rw (le-leb 0 own (omega arith)) refl

  line_tests :
      (o p m e : Bool) → (m ≡ true → p ≡ true) → taken (line o p m e)
      ≡ in_bounds (line o p m e) a i x own s.node_count s.level_count
  -- by the columns placed, marks and releases
  line_tests o true false false h =
      rw (same t, same a, same i, zero_low x, le-leb 0 a (omega arith), own_tests o)
      (all_ways (λ z O A W u. z && (O && (A && W) && A && true)) (λ z O A W u. W && z && A && O)
      refl (leb x 0) (owned o) A W true)
  line_tests o true false true h =
      rw (same t, same a, same i, same x, le-leb 0 a (omega arith), own_tests o)
      (all_ways (λ x O A W u. O && (A && W) && x && true) (λ x O A W u. W && x && A && O) refl
      X (owned o) A W true)
  line_tests o true true false h =
      rw (same t, same a, same i, zero_low x, own_tests o, sym (lower a s.node_count))
      (all_ways (λ z O A W B. z && (O && (A && W) && A && (A && B)))
      (λ z O A W B. W && z && (A && B) && O) refl (leb x 0) (owned o) A W (within a s.node_count))
  line_tests o true true true h =
      rw (same t, same a, same i, same x, own_tests o, sym (lower a s.node_count))
      (all_ways (λ x O A W B. O && (A && W) && x && (A && B))
      (λ x O A W B. W && x && (A && B) && O) refl X (owned o) A W (within a s.node_count))
  line_tests o false false false h =
      rw (
        same t,
        zero_low a,
        zero_low i,
        zero_low x,
        le-leb 0 a (omega arith),
        le-leb 0 i (omega arith),
        le-leb 0 (s.node_count + 1) (omega arith),
        le-leb 1 s.level_count tall,
        own_tests o,
      )
      (all_ways (λ a i x O u. a && (i && x) && (O && true && true && true))
      (λ a i x O u. i && x && a && O) refl (leb a 0) (leb i 0) (leb x 0) (owned o) true)
  line_tests o false false true h =
      rw (
        same t,
        same x,
        zero_low a,
        zero_low i,
        le-leb 0 a (omega arith),
        le-leb 0 i (omega arith),
        le-leb 0 (s.node_count + 1) (omega arith),
        le-leb 1 s.level_count tall,
        own_tests o,
      )
      (all_ways (λ a i x O u. a && (i && true) && (O && true && x && true))
      (λ a i x O u. i && x && a && O) refl (leb a 0) (leb i 0) X (owned o) true)
  line_tests o false true e h = absurd (false≢true (h refl))

-- the same of the job and the key
module _ (job due ticket : ℕ) where
  abbrev key_same : Row → Bool
  key_same r = eqb (code_of r).due due && eqb (code_of r).ticket ticket

  job_tests : (r : Bool) (n : ℕ) → eqb (cond r (job_number (job_of n)) 0) n ≡ leb n (cond r 1 0)
  job_tests false n = zero_low n
  job_tests true zero = refl
  job_tests true (suc zero) = refl
  job_tests true (suc (suc n)) =
      rw (
        ne_eqb (suc (suc n)) 0 (λ e. omega arith),
        ne_eqb 1 (suc (suc n)) (λ e. omega arith),
        lt-leb (suc (suc n)) 1 (omega arith),
      )
      refl

  -- with this column of the table
  abbrev sought : Bool → Wanted
  sought k = cond k (wanted_of due ticket) none_wanted

  key_tests :
      (k : Bool) →
      (eqb (cond k (sought k).due 0) due && eqb (cond k (sought k).ticket 0) ticket
      && wanted_valid (sought k))
      ≡ (leb due (cond k max_number 0) && between (cond k 1 0) ticket (cond k max_number 0))
  key_tests true = rw (same due, same ticket) refl
  key_tests false =
      rw (zero_low due, zero_low ticket, le-leb 0 ticket (omega arith))
      (all_ways (λ d k u v w. d && k && true) (λ d k u v w. d && k) refl (leb due 0) (leb ticket 0)
      true true true)

-- a test of all that is read and asked in two parts
parted : (w e c v : Bool) → ((w && e) && (c && v)) ≡ ((e && v) && (w && c))
parted w e c v =
    all_ways (λ w e c v u. (w && e) && (c && v)) (λ w e c v u. (e && v) && (w && c)) refl w e c v
    true

grouped : (j k v : Bool) → ((j && k) && v) ≡ (j && (k && v))
grouped true k v = refl
grouped false k v = refl

-- one proof for each number below n
data Each (P : ℕ → Type 0) : ℕ → Type 0 where
  none : Each P zero
  ◌⊕◌ : {n : ℕ} → Each P n → P n → Each P (suc n)

infixl 5 ◌⊕◌
below : (P : ℕ → Type 0) (n : ℕ) → Each P n → (t : ℕ) → t < n → P t
below P zero none t h = absurd (omega arith)
below P (suc n) (l ⊕ p) t h = go (ℕ_discrete t n) (below P n l t)
  where
    go : Dec (t ≡ n) → (t < n → P t) → P t
    go (yes e) r = subst P (sym e) p
    go (no ne) r = r (omega arith)

-- the row of the stage that a code is read as: its columns are the tag's, its numbers the code's
abbrev filled : Row → Code → Row
filled r c = record {
  tag = c.tag;
  owns = r.owns;
  placed = r.placed;
  walks = r.walks;
  marks = r.marks;
  holds_place = r.holds_place;
  holds_own = r.holds_own;
  holds_node = r.holds_node;
  place = cond r.placed (place c.node c.level) (place 0 1);
  releases = r.releases;
  ahead = cond r.releases c.ahead 0;
  removes = r.removes;
  job = cond r.removes (job_number (job_of c.job)) 0;
  seeks = r.seeks;
  wanted = cond r.seeks (wanted_of c.due c.ticket) none_wanted;
}

module _ (a i x job due ticket : ℕ) where
  abbrev coded : ℕ → Code
  coded t = code t a i x job due ticket

  rows : (t : ℕ) → t < 33 → row_of (stage_of (coded t)) ≡ filled (row_at t) (coded t)
  rows =
      below (λ t. row_of (stage_of (coded t)) ≡ filled (row_at t) (coded t)) 33
      (none ⊕ refl ⊕ refl ⊕ refl ⊕ refl ⊕ refl ⊕ refl ⊕ refl ⊕ refl ⊕ refl ⊕ refl ⊕ refl ⊕ refl
      ⊕ refl ⊕ refl ⊕ refl ⊕ refl ⊕ refl ⊕ refl ⊕ refl ⊕ refl ⊕ refl ⊕ refl ⊕ refl ⊕ refl ⊕ refl
      ⊕ refl ⊕ refl ⊕ refl ⊕ refl ⊕ refl ⊕ refl ⊕ refl ⊕ refl)

-- a column of the table, at each tag but some
module _ (t : ℕ) (low : t < 33) where
  marks_placed : (row_at t).marks ≡ true → (row_at t).placed ≡ true
  marks_placed h =
      go (row_at t).marks (row_at t).placed h
      (every_at (λ t. not (row_at t).marks || (row_at t).placed) 33 t refl low)
    where
      go : (m p : Bool) → m ≡ true → (not m || p) ≡ true → p ≡ true
      go true p h e = e
      go false p h e = absurd (false≢true h)

  pub stage_tests :
      (s : Sizes) (a i x job due ticket own : ℕ) → 1 ≤ s.level_count →
      (stage_taken (code t a i x job due ticket)
      && carried_valid s (carried (stage_of (code t a i x job due ticket))) own)
      ≡ (errand_in_bounds (row_at t) job due ticket
      && in_bounds (row_at t) a i x own s.node_count s.level_count)
  stage_tests s a i x job due ticket own tall =
      let c = code t a i x job due ticket in
      let r = row_at t in
      let g = filled r c in
      let j = eqb g.job job in
      let k = key_same job due ticket g in
      let v = wanted_valid g.wanted in
      let w = place_same s t a i x own tall g in
      let p = place_asked s t a i x own tall g in
      ap (λ (r : Row). code_same (code_of r) c && carried_valid s (carried_of r) own)
      (rows a i x job due ticket t low)
      ∙ parted w (j && k) p v
      ∙ ap (λ (b : Bool). b && (w && p))
      (grouped j k v
      ∙ ap (λ (b : Bool). b && (k && v)) (job_tests job due ticket r.removes job)
      ∙ ap (λ (b : Bool). leb job (cond r.removes 1 0) && b)
      (key_tests job due ticket r.seeks))
      ∙ ap (λ (b : Bool). errand_in_bounds r job due ticket && b)
      (line_tests s t a i x own tall r.owns r.placed r.marks r.releases marks_placed)
