-- Backlog's count is the book's: the nodes that it counts, and the book's entries that are answered
-- and not marked, are paired off by their tickets. Assumes nothing.
use Rattle.std.specs.Prelude.{Option, ℕ, Some, None, Result}
use mathlib.Core.Path.{◌≡◌, refl, sym, ap, ◌∙◌}
use mathlib.Core.Bool.{Bool, true, false, ◌&&◌, not}
use Prim.Native.Nat.{ℕ, ◌≤◌, ◌<◌}
use native.Mathlib.Omega.{arith}
use borrow.Author.Tests.{eq-eqb, ltb-false}
use Rattle.laws.specs.HowMany.{how_many}
use Rattle.laws.proofs.Booleans.{cond_cases}
use Rattle.laws.proofs.Counting.{and_left, and_right}
use Rattle.laws.proofs.HowMany.{Passed, Paired, many_split, many_paired}
use Rattle.record.specs.declared.refusals.Refusal.{Refusal}
use Rattle.record.specs.declared.nodes.Use.{Use}
use Rattle.record.specs.declared.nodes.Use.TheVariants as use'
use Rattle.record.specs.declared.queues.Queue.{Queue}
use Rattle.record.specs.Nodes.{is_in_use, is_marked, is_stamped}
use Rattle.record.specs.Queues.{node_at}
use Rattle.record_check.specs.Backlog.{pending_at, backlog_of}
use Rattle.record_check.specs.Check.{valid}
use Rattle.rules.specs.Book.{BookEntry, Book, agrees, answered_in, pending_in, feed_backlog}
use Rattle.rules.specs.Demand3.{Pending}
use Rattle.rules.proofs.Booked.{ticket_apart, eligible_of, candidate_of_lem}
use Rattle.rules.proofs.Choose.{used_number}
use Rattle.rules.proofs.Concrete.{stamp_number, use_number, view_of}
use Rattle.rules.proofs.Inv.{Eligible}
use Rattle.rules.proofs.Picks.{candidate_true, candidate_is}
use Rattle.rules.proofs.Put.{ever}
use Rattle.rules.proofs.Sound.{Sound}
use Rattle.rules.proofs.ValidFacts.{valid_facts}
use Rattle.rules.proofs.View.{View}

-- a node's use, stamp and mark, and the view's numbers for them
pub use_number_lem : (u : Use) → is_in_use u ≡ true → use_number u ≡ 1
use_number_lem use'.Never h = cc
use_number_lem use'.InUse h = refl
use_number_lem (use'.Retired t) h = cc

pub number_use : (u : Use) → use_number u ≡ 1 → is_in_use u ≡ true
number_use use'.Never h = absurd (omega arith)
number_use use'.InUse h = refl
number_use (use'.Retired t) h = absurd (omega arith)

stamp_number_lem :
    (s : Option ℕ) (clock : ℕ) → clock < ever → ((t : ℕ) → s ≡ Some t → t ≤ clock) →
    is_stamped s ≡ true → stamp_number s < ever
stamp_number_lem None clock low past h = cc
stamp_number_lem (Some t) clock low past h = omega (arith, past t refl)

number_stamp : (s : Option ℕ) → stamp_number s < ever → is_stamped s ≡ true
number_stamp None h = absurd (omega arith)
number_stamp (Some t) h = refl

mark_number : (m : ℕ) → not (is_marked m) ≡ true → m ≡ 0
mark_number m h = go (is_marked m) refl h
  where
    go : (b : Bool) → is_marked m ≡ b → not b ≡ true → m ≡ 0
    go true e n = cc
    go false e n = omega (arith, ltb-false 0 m e)

number_mark : (m : ℕ) → m ≡ 0 → not (is_marked m) ≡ true
number_mark m h = rw h refl

module _ (q : Queue) (b : Book) (S : Sound q b) where
  abbrev v : View
  v = view_of q

  -- the entry of the node x is answered and not marked: it may be taken by a Delete_Min that begins
  -- after every clock
  abbrev Holds : ℕ → Type 0
  Holds x = Eligible v.us v.st v.mk v.nodes ever x

  node_holds : valid q ≡ true → (x : ℕ) → Passed (pending_at q) q.node_count x → Holds x
  node_holds ok x P =
      let n = node_at q x in
      let i = is_in_use n.state in
      let s = is_stamped n.stamp in
      let m = not (is_marked n.mark) in
      let r = and_right i (s && m) P.passes in
      let past = ((valid_facts q ok).nodes x (omega (arith, P.high))).stamp_time in
      record {
        low = P.low;
        high = P.high;
        used = used_number q x P.low P.high
            ∙ use_number_lem n.state (and_left i (s && m) P.passes);
        stamped = stamp_number_lem n.stamp q.clock S.inv.core.clock past (and_left s m r);
        unmarked = mark_number n.mark (and_right s m r);
      }

  holds_node_lock : (x : ℕ) → Holds x → Passed (pending_at q) q.node_count x
  holds_node_lock x H =
      let n = node_at q x in
      let used = number_use n.state (sym (used_number q x H.low H.high) ∙ H.used) in
      let unmarked = number_mark n.mark H.unmarked in
      record {
        low = H.low;
        high = H.high;
        passes = rw (used, number_stamp n.stamp H.stamped, unmarked);
      }

  paired : valid q ≡ true → Paired (pending_at q) (pending_in b) q.node_count b.count v.tick
  paired ok = record {
    passes = λ x X.
        let C = candidate_of_lem v S.until S.inv b S.rel ever x (node_holds ok x X) in
        let late = S.rel.late (v.tick x) C.written in
        record { low = late.0; high = late.1; passes = candidate_is b ever (v.tick x) C };
    found = λ t T.
        let C = candidate_true b ever t T.passes in
        let E = eligible_of v S.until S.inv b S.rel ever t C in
        record { number = E.0; passed = holds_node_lock E.0 E.2; is = E.1 };
    once = λ x z X Z e.
        let used = (node_holds ok z Z).used in
        let due = ap (λ (l : BookEntry). l.due) (S.rel.kept z Z.low Z.high used) in
        ticket_apart v S.until S.inv b S.rel x z X.low X.high Z.low Z.high
        (node_holds ok x X).used (omega (arith, used)) due e;
  }

  -- the count by the nodes is the count by the book
  count_same :
      valid q ≡ true → how_many (pending_at q) q.node_count ≡ how_many (pending_in b) b.count
  count_same ok =
      many_paired (pending_at q) (pending_in b) q.node_count b.count v.tick (paired ok)

  -- so the book agrees with Backlog, and stays as it is
  pub backlog_agrees : feed_backlog b (backlog_of q) ≡ agrees b
  backlog_agrees =
      cond_cases (λ (k : Result ℕ Refusal). feed_backlog b k ≡ agrees b) (valid q) _ _
      (λ ok. rw (eq-eqb _ (how_many (pending_in b) b.count) (count_same ok))) (λ _. refl)

  pub backlog_pending : valid q ≡ true → Pending b (how_many (pending_at q) q.node_count)
  backlog_pending ok = record {
    entries = count_same ok;
    less = rw (count_same ok) (many_split (answered_in b) (λ t. (b.entry t).marked) b.count);
    all = S.rel.late;
  }
