-- Markers agrees with the book: it tells of as many nodes as there are entries that are neither
-- handed out nor taken back, and a processor stands there once while it has such an entry marked. A
-- node in use is marked by the processor that removes it. Assumes nothing.
use Rattle.std.specs.Prelude.{Result}
use mathlib.Core.Path.{◌≡◌, refl, sym, ap, ◌∙◌}
use mathlib.Core.Bool.{Bool, true, false, cond, ◌&&◌, not}
use mathlib.Core.List.{List, ◌++◌, append_assoc}
use Prim.Native.Nat.{ℕ, zero, suc, ◌+◌, ◌-◌, ◌*◌, ◌≤◌, ◌<◌}
use native.Mathlib.Omega.{arith}
use lib.Dec.{ltb, eqb}
use lib.ListN.{length, get_or, drop}
use lib.Seq.{get_or-append-add}
use borrow.Author.Tests.{eq-eqb, eqb-true, ltb-true, lt-ltb, not-true}
use Rattle.laws.specs.HowMany.{how_many}
use Rattle.laws.proofs.Booleans.{cond_cases}
use Rattle.laws.proofs.Counting.{and_left, and_right, every_of}
use Rattle.laws.proofs.HowMany.{Passed, Paired, many_more, many_paired}
use Rattle.record.specs.declared.refusals.Refusal.{Refusal}
use Rattle.record.specs.declared.queues.Queue.{Queue}
use Rattle.record.specs.declared.stages.Job.{Job}
use Rattle.record.specs.declared.stages.Stage.{Stage}
use Rattle.record.specs.declared.stages.Stage.TheVariants as stage
use Rattle.record.specs.Limits.{max_processors}
use Rattle.record.specs.Nodes.{is_marked}
use Rattle.record.specs.Queues.{node_at}
use Rattle.record_check.specs.Check.{valid}
use Rattle.record_markers.specs.Markers.{marker_byte, in_use_at, pair_at, pairs_to, used_count, markers_of}
use Rattle.record_markers.specs.Markers.{area_by, area_after}
use Rattle.record_markers.proofs.Pairs.{length_pairs}
use Rattle.rules.specs.Book.{BookEntry, unlinking, Book}
use Rattle.rules.specs.Book.{agrees, is_gone, held_in, is_unlinking, times_listed}
use Rattle.rules.specs.Book.{feed_markers}
use Rattle.rules.specs.Demand3.{MarkerIs}
use Rattle.rules.proofs.Backlog.{use_number_lem, number_use}
use Rattle.rules.proofs.Booked.{ticket_apart}
use Rattle.rules.proofs.Choose.{used_number}
use Rattle.rules.proofs.Concrete.{view_of}
use Rattle.rules.proofs.Rel.{opens}
use Rattle.rules.proofs.Sound.{Sound}
use Rattle.rules.proofs.StageKinds.{insert_kind, walk_kind, relaxed_kind, remove_kind}
use Rattle.rules.proofs.StageKinds.{removal_kind}
use Rattle.rules.proofs.View.{View, info, claim}

-- what a stage has open, and whether it is a remover's
pub opens_delivering : (h : ℕ) (s : Stage) (T t x : ℕ) (job : Job) →
    opens s T t ≡ unlinking job x → ((info h s).kind ≡ 3) × (t ≡ x)
opens_delivering h stage.Idle T t x job e = cc
opens_delivering h (stage.Insert i) T t x job e =
    cc
opens_delivering h (stage.Delete d) T t x job e =
    cc
opens_delivering h (stage.Relaxed d) T t x job e =
    cc
opens_delivering h (stage.Remove w d) T t x job e =
    cc
opens_delivering h (stage.Removal j r) T t x job e = (removal_kind j h r, cc)

pub opens_kind : (h : ℕ) (s : Stage) (T t : ℕ) → (info h s).kind ≡ 3 →
    (job : Job) × (opens s T t ≡ unlinking job t)
opens_kind h stage.Idle T t k = absurd (omega arith)
opens_kind h (stage.Insert i) T t k = absurd (omega (arith, insert_kind h i))
opens_kind h (stage.Delete d) T t k = absurd (omega (arith, walk_kind h d))
opens_kind h (stage.Relaxed d) T t k = absurd (omega (arith, relaxed_kind h d))
opens_kind h (stage.Remove w d) T t k = absurd (omega (arith, remove_kind h w d))
opens_kind h (stage.Removal job r) T t k = (job, refl)

unlinking_kind : (h : ℕ) (s : Stage) (T t : ℕ) → is_unlinking (opens s T t) ≡ true →
    (info h s).kind ≡ 3
unlinking_kind h stage.Idle T t e = cc
unlinking_kind h (stage.Insert i) T t e = cc
unlinking_kind h (stage.Delete d) T t e = cc
unlinking_kind h (stage.Relaxed d) T t e = cc
unlinking_kind h (stage.Remove w d) T t e = cc
unlinking_kind h (stage.Removal job r) T t e = removal_kind job h r

-- a processor's byte is that of its mark alone
byte_mark : (m p : ℕ) → p < max_processors → marker_byte m ≡ p → m ≡ suc p
byte_mark m p p< = go (is_marked m) refl
  where
    go : (b : Bool) → is_marked m ≡ b → cond b (m - 1) 255 ≡ p → m ≡ suc p
    go true e h = omega (arith, ltb-true 0 m e)
    go false e h = absurd (omega arith)

mark_byte : (m p : ℕ) → m ≡ suc p → marker_byte m ≡ p
mark_byte m p e = rw (lt-ltb 0 m (omega arith)) (omega arith)

-- the pairs of an area that begins with those of the nodes 1 to n, and the nodes that they are of
module _ (q : Queue) (p : ℕ) where
  abbrev tells : ℕ → Bool
  tells x = in_use_at q x && eqb (marker_byte (node_at q x).mark) p

  -- the pair of node x, behind as many bytes as k pairs have
  pair_times : (front rest : List ℕ) (k x : ℕ) → length front ≡ 2 * k → in_use_at q x ≡ true →
      get_or (front ++ (pair_at q x ++ rest)) (2 * (k + 1) - 1) 0 ≡ marker_byte (node_at q x).mark
  pair_times front rest k x l u =
      let e : 2 * (k + 1) - 1 ≡ length front + 1 = omega arith in
      rw (e, get_or-append-add front (pair_at q x ++ rest) 1 0, u)

  times : (n : ℕ) (rest : List ℕ) →
      times_listed (pairs_to q n ++ rest) (how_many (in_use_at q) n) p ≡ how_many tells n
  times zero rest = refl
  times (suc n) rest = go (in_use_at q (suc n)) refl (times n (pair_at q (suc n) ++ rest))
    where
      k : ℕ
      k = how_many (in_use_at q) n

      area : List ℕ
      area = pairs_to q (suc n) ++ rest

      assoc : area ≡ pairs_to q n ++ (pair_at q (suc n) ++ rest)
      assoc = append_assoc (pairs_to q n) (pair_at q (suc n)) rest

      go : (b : Bool) → in_use_at q (suc n) ≡ b →
          times_listed (pairs_to q n ++ (pair_at q (suc n) ++ rest)) k p ≡ how_many tells n →
          times_listed area (k + cond (in_use_at q (suc n)) 1 0) p
          ≡ how_many tells n + cond (tells (suc n)) 1 0
      go true e before =
          let behind = pairs_to q n ++ (pair_at q (suc n) ++ rest) in
          let f : ℕ → Bool = λ i. eqb (get_or behind (2 * i - 1) 0) p in
          let same : k + cond (in_use_at q (suc n)) 1 0 ≡ k + 1 = rw e refl in
          let here = pair_times (pairs_to q n) rest k (suc n) (length_pairs q n) e in
          let is : tells (suc n) ≡ eqb (marker_byte (node_at q (suc n)).mark) p = rw e refl in
          let last : f (k + 1) ≡ tells (suc n) = ap (λ (m : ℕ). eqb m p) here ∙ sym is in
          ap (λ (a : List ℕ). times_listed a (k + cond (in_use_at q (suc n)) 1 0) p) assoc
          ∙ ap (λ (m : ℕ). times_listed behind m p) same ∙ many_more f k
          ∙ ap (λ (m : ℕ). m + cond (f (k + 1)) 1 0) before
          ∙ ap (λ (t : Bool). how_many tells n + cond t 1 0) last
      go false e before =
          let behind = pairs_to q n ++ (pair_at q (suc n) ++ rest) in
          let same : k + cond (in_use_at q (suc n)) 1 0 ≡ k = rw e (omega arith) in
          let none : ◌≡◌ {A = ℕ} (cond (tells (suc n)) 1 0) 0 = rw e refl in
          ap (λ (a : List ℕ). times_listed a (k + cond (in_use_at q (suc n)) 1 0) p) assoc
          ∙ ap (λ (m : ℕ). times_listed behind m p) same ∙ before ∙ omega (arith, none)

module _ (q : Queue) (b : Book) (S : Sound q b) where
  abbrev v : View
  v = view_of q

  abbrev N : ℕ
  N = q.node_count

  used : (x : ℕ) → Passed (in_use_at q) N x → v.us x ≡ 1
  used x X = used_number q x X.low X.high ∙ use_number_lem (node_at q x).state X.passes

  in_use : (x : ℕ) → 1 ≤ x → x ≤ N → v.us x ≡ 1 → in_use_at q x ≡ true
  in_use x x≥ x≤ u = number_use (node_at q x).state (sym (used_number q x x≥ x≤) ∙ u)

  -- the book's line of a node in use
  line_held : (x : ℕ) → Passed (in_use_at q) N x → Passed (held_in b) b.count (v.tick x)
  line_held x X =
      let l = S.rel.kept x X.low X.high (used x X) in
      let written = ap (λ (e : BookEntry). e.written) l in
      let late = S.rel.late (v.tick x) written in
      record {
        low = late.0;
        high = late.1;
        passes = rw (written, ap is_gone l);
      }

  apart : (x z : ℕ) → Passed (in_use_at q) N x → Passed (in_use_at q) N z → v.tick x ≡ v.tick z →
      x ≡ z
  apart x z X Z e =
      let due = ap (λ (l : BookEntry). l.due)
      (S.rel.kept z Z.low Z.high (used z Z)) in
      ticket_apart v S.until S.inv b S.rel x z X.low X.high Z.low Z.high
      (used x X) (omega (arith, used z Z)) due e

  paired : Paired (in_use_at q) (held_in b) N b.count v.tick
  paired = record {
    passes = line_held;
    found = λ t T.
        let gone = is_gone (b.entry t) in
        let written = and_left (b.entry t).written (not gone) T.passes in
        let out = not-true gone (and_right (b.entry t).written (not gone) T.passes) in
        let F = S.rel.found t written out in
        record {
          number = F.node;
          passed = record {
            low = F.low;
            high = F.high;
            passes = in_use F.node F.low F.high F.used;
          };
          is = F.ticket;
        };
    once = apart;
  }

  -- as many nodes are in use as entries are neither handed out nor taken back
  count_same : used_count q ≡ how_many (held_in b) b.count
  count_same = many_paired (in_use_at q) (held_in b) N b.count v.tick paired

  module _ (p : ℕ) where
    abbrev h : ℕ
    h = v.ht (v.pr p).own

    -- the own node of a remover bears its number
    own_marked : (k : (claim v p).kind ≡ 3) → v.mk (v.pr p).own ≡ suc p
    own_marked k =
        let o = (v.pr p).own in
        let R = (S.inv.busy p (omega (arith, k))).removes k in
        let r = v.mk o - 1 in
        let is : v.mk o ≡ suc r = omega (arith, R.marked) in
        let M = S.rel.marker o r R.low R.high R.used is in
        let same : p ≡ r = S.inv.one p r (omega (arith, k)) (k ∙ sym M.0) (λ e. omega arith)
        (sym M.1) in
        omega arith

    -- node x is marked by p exactly if p removes it, to hand its entry out or to take it back
    pub marker_is : (x : ℕ) → 1 ≤ x → x ≤ N → in_use_at q x ≡ true → MarkerIs q b x p
    marker_is x x≥ x≤ u = record {
      told = λ m.
          let M = S.rel.marker x p x≥ x≤ us m in
          let l = S.rel.kept x x≥ x≤ us in
          let O = opens_kind h (v.pr p).stage (v.pr p).begin (v.tick (v.pr p).own) M.0 in
          record {
            job = O.0;
            opened = S.rel.opened p ∙ O.1 ∙ ap (λ (n : ℕ). unlinking O.0 (v.tick n)) M.1;
            marked = ap (λ (e : BookEntry). e.marked) l ∙ lt-ltb 0 (v.mk x) (omega arith);
            not_yet = ap is_gone l;
          };
      back = λ job o.
          let D = opens_delivering h (v.pr p).stage (v.pr p).begin (v.tick (v.pr p).own)
          (v.tick x) job (sym (S.rel.opened p) ∙ o) in
          let R = (S.inv.busy p (omega (arith, D.0))).removes D.0 in
          let y = (v.pr p).own in
          let Y : Passed (in_use_at q) N y = record
          { low = R.low; high = R.high; passes = in_use y R.low R.high R.used } in
          let same = apart y x Y X D.1 in
          ap v.mk (sym same) ∙ own_marked D.0;
    }
      where
        X : Passed (in_use_at q) N x
        X = record { low = x≥; high = x≤; passes = u }

        us : v.us x ≡ 1
        us = used x X

    -- so one node tells of p if p has such an entry marked, and else none
    abbrev opens_p : ℕ → Bool
    opens_p _ = is_unlinking (b.opened p)

    named : p < max_processors → (x : ℕ) → Passed (tells q p) N x →
        ((claim v p).kind ≡ 3) × ((v.pr p).own ≡ x)
    named p< x T =
        let i = in_use_at q x in
        let e = eqb (marker_byte (node_at q x).mark) p in
        let X : Passed (in_use_at q) N x = record
        { low = T.low; high = T.high; passes = and_left i e T.passes } in
        S.rel.marker x p T.low T.high (used x X)
        (byte_mark (node_at q x).mark p p< (eqb-true _ p (and_right i e T.passes)))

    one_each : p < max_processors → Paired (tells q p) opens_p N 1 (λ _. 1)
    one_each p< = record {
      passes = λ x T. record {
        low = omega arith;
        high = omega arith;
        passes = ap is_unlinking (S.rel.opened p
            ∙ (opens_kind h (v.pr p).stage (v.pr p).begin (v.tick (v.pr p).own)
            (named p< x T).0).1);
      };
      found = λ y Y.
          let k = unlinking_kind h (v.pr p).stage (v.pr p).begin (v.tick (v.pr p).own)
          (ap is_unlinking (sym (S.rel.opened p)) ∙ Y.passes) in
          let R = (S.inv.busy p (omega (arith, k))).removes k in
          let o = (v.pr p).own in
          record {
            number = o;
            passed = record {
              low = R.low;
              high = R.high;
              passes = rw (
                in_use o R.low R.high R.used,
                eq-eqb (marker_byte (node_at q o).mark) p (mark_byte _ p (own_marked k)),
              );
            };
            is = omega (arith, Y.low, Y.high);
          };
      once = λ x z X Z e. sym (named p< x X).1 ∙ (named p< z Z).1;
    }

    listed_times : p < max_processors → (rest : List ℕ) →
        eqb (times_listed (pairs_to q N ++ rest) (used_count q) p)
        (cond (is_unlinking (b.opened p)) 1 0) ≡ true
    listed_times p< rest =
        let once = many_paired (tells q p) opens_p N 1 (λ _. 1) (one_each p<) in
        eq-eqb _ _ (times q p N rest ∙ omega (arith, once))

  pub markers_agrees : (area : List ℕ) →
      feed_markers b (markers_of q (length area)) (area_after q area) ≡ agrees b
  markers_agrees area =
      cond_cases Fed (valid q) _ _
      (λ _. cond_cases Fed (ltb (length area) (2 * used_count q)) _ _ (λ _. refl)
      (λ _. rw (
        eq-eqb (used_count q) (how_many (held_in b) b.count) count_same,
        every_of _ max_processors (λ p p<. listed_times p p< (drop (length pairs) area)),
      )))
      (λ _. refl)
    where
      pairs : List ℕ
      pairs = pairs_to q N

      Fed : Result ℕ Refusal → Type 0
      Fed k = feed_markers b k (area_by pairs area k) ≡ agrees b
