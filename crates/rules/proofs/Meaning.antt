-- What demand 3 means: a marked entry is the earliest one left or the one of a Remove's key, EMPTY
-- and "not there" are true, what is handed out or taken back was marked for that, each happens once
-- and not both, Backlog counts what is answered and not marked, and a mark names the processor that
-- removes. Assumes nothing.
use mathlib.Core.Path.{◌≡◌, refl, sym, ap, subst, ◌∙◌}
use mathlib.Core.Bool.{Bool, true, false, ◌&&◌, ◌||◌, not, true≢false}
use mathlib.Core.List.{List, [], ◌∷◌, ◌++◌}
use Prim.Native.Nat.{ℕ, ◌≤◌, ◌<◌}
use native.Mathlib.Omega.{arith}
use lib.Dec.{ltb, eqb}
use borrow.Author.Tests.{ltb-true, ltb-false, eqb-true, eq-eqb, ne_eqb, le-ltb, not-true}
use Rattle.laws.specs.HowMany.{how_many}
use Rattle.laws.proofs.Booleans.{or_left, or_right}
use Rattle.laws.proofs.Counting.{and_left, and_right}
use Rattle.laws.proofs.Updating.{changed_same}
use Rattle.record_check.specs.Backlog.{pending_at}
use Rattle.record.specs.declared.queues.Queue.{Queue}
use Rattle.record.specs.declared.stages.Job.{Job}
use Rattle.record.specs.declared.stages.Job.TheVariants as jobs
use Rattle.record.specs.declared.stages.Wanted.{Wanted}
use Rattle.record.specs.Queues.{fresh_queue}
use Rattle.rules.specs.declared.answers.Answer.{Answer}
use Rattle.rules.specs.declared.answers.Answer.TheVariants as ans
use Rattle.rules.specs.declared.answers.Deed.TheVariants as deed
use Rattle.rules.specs.declared.answers.Entry.{Entry}
use Rattle.rules.specs.Book.{BookEntry, Open, nothing, inserting, walking, relaxing, seeking}
use Rattle.rules.specs.Book.{unlinking, Book, agrees, candidate as candidate_of, pick, earlier}
use Rattle.rules.specs.Book.{relaxed_may, there, gives, is_gone, with_answer, with_marked}
use Rattle.rules.specs.Book.{with_done, marks, empties, misses, ends, hands_out, takes_back}
use Rattle.rules.specs.Book.{feed, feed_step, judged}
use Rattle.rules.specs.Decide.{handing}
use Rattle.rules.specs.Demand3.{InRange, BookAfter, Left, Entered, Earliest, MarkedIsEarliest}
use Rattle.rules.specs.Demand3.{NoneLeft, EmptyIsTrue, RelaxedFirst, RelaxedIsFirst}
use Rattle.rules.specs.Demand3.{NoneLeftRelaxed, RelaxedEmptyIsTrue, WalkOpen, by_delete_min}
use Rattle.rules.specs.Demand3.{relaxed, EmptyToAWalk, MarksOpen, walk, remove}
use Rattle.rules.specs.Demand3.{MarkedByOneOfThree, MarkedForRemove, RemoveMarksItsKey}
use Rattle.rules.specs.Demand3.{Missed, NotThereIsTrue, HandedOutIsMarked, TakenBackIsMarked}
use Rattle.rules.specs.Demand3.{MarkedOnce, HandedOutOnce, TakenBackOnce}
use Rattle.rules.specs.Demand3.{HandedOutNotTakenBack, TakenBackNotHandedOut}
use Rattle.rules.specs.Demand3.{step_reply, BacklogIsPending, MarkerDelivers}
use Rattle.rules.specs.Runs.{Turn, step_by, Reply, answered, after, reply, after_all}
use Rattle.rules.proofs.BookLaws.{Right, right_book, right_if, Given, given, Stays, stays}
use Rattle.rules.proofs.Concrete.{view_of}
use Rattle.rules.proofs.Demand3.{turned_by, all_judged, reached, reached_is_valid}
use Rattle.rules.proofs.Backlog.{backlog_pending}
use Rattle.rules.proofs.Markers.{opens_delivering, marker_is}
use Rattle.rules.proofs.Picks.{Candidate, candidate_true, candidate_is, order, Picked, none}
use Rattle.rules.proofs.Picks.{one, picked}
use Rattle.rules.proofs.Put.{ever}
use Rattle.rules.proofs.Ranks.{entries_before}
use Rattle.rules.proofs.Sound.{Sound}
use Rattle.rules.proofs.Untouched.{untouched_all}
use Rattle.rules.proofs.View.{View}

entered : (b : Book) (e : Entry) (t : ℕ) → Given b e t → Entered b e
entered b e t G = record { due = rw G.ticket (sym G.due); item = rw G.ticket (sym G.item) }

-- what a mark and an EMPTY say, by what their processor has open
abbrev MarkSays : Book → ℕ → Entry → Open → Type 0
MarkSays b p e nothing = ⊥
MarkSays b p e (inserting x) = ⊥
MarkSays b p e (walking x) = Earliest b p e
MarkSays b p e (relaxing x) = RelaxedFirst b p e
MarkSays b p e (seeking w x) = MarkedForRemove b p e
MarkSays b p e (unlinking job x) = ⊥

abbrev EmptySays : Book → ℕ → Open → Type 0
EmptySays b p nothing = ⊥
EmptySays b p (inserting x) = ⊥
EmptySays b p (walking x) = NoneLeft b p
EmptySays b p (relaxing x) = NoneLeftRelaxed b p
EmptySays b p (seeking w x) = ⊥
EmptySays b p (unlinking job x) = ⊥

-- a mark of the entry that e tells: what it says, and that the entry was unmarked and now is not
record Marks (b : Book) (p : ℕ) (e : Entry) (o : Open) (after : Book) : Type 0 where
  says : MarkSays b p e o
  unmarked : (b.entry e.ticket).marked ≡ false
  stays : Stays (λ l. l.marked) e.ticket after

-- the end of a job, by its processor, on the entry that e tells
record Ends (b : Book) (p : ℕ) (job : Job) (e : Entry) (after : Book) : Type 0 where
  opened : b.opened p ≡ unlinking job e.ticket
  entered : Entered b e
  not_gone : is_gone (b.entry e.ticket) ≡ false
  stays : Stays is_gone e.ticket after

done_gone : (job : Job) (l : BookEntry) → is_gone (with_done job l) ≡ true
done_gone jobs.Deliver l = refl
done_gone jobs.TakeBack l = or-true l.handed_out
  where
    or-true : (a : Bool) → (a || true) ≡ true
    or-true true = refl
    or-true false = refl

gone_parts : (l : BookEntry) → is_gone l ≡ false → (l.handed_out ≡ false) × (l.taken_back ≡ false)
gone_parts l h = (or_left l.handed_out l.taken_back h, or_right l.handed_out l.taken_back h)

-- what was up before is up
done_keeps : (job : Job) (l : BookEntry) → is_gone l ≡ true → is_gone (with_done job l) ≡ true
done_keeps job l h = done_gone job l

mark_open : (b : Book) (p : ℕ) (e : Entry) (o : Open) → b.opened p ≡ o → MarkSays b p e o →
    MarksOpen b p
mark_open b p e nothing i m = absurd m
mark_open b p e (inserting x) i m = absurd m
mark_open b p e (walking x) i m = walk (by_delete_min x i)
mark_open b p e (relaxing x) i m = walk (relaxed x i)
mark_open b p e (seeking w x) i m = remove w x i
mark_open b p e (unlinking job x) i m = absurd m

empty_open : (b : Book) (p : ℕ) (o : Open) → b.opened p ≡ o → EmptySays b p o → WalkOpen b p
empty_open b p nothing i m = absurd m
empty_open b p (inserting x) i m = absurd m
empty_open b p (walking x) i m = by_delete_min x i
empty_open b p (relaxing x) i m = relaxed x i
empty_open b p (seeking w x) i m = absurd m
empty_open b p (unlinking job x) i m = absurd m

-- a record with a book for which all of demand 3 holds
module _ (q : Queue) (b : Book) (S : Sound q b) where
  abbrev v : View
  v = view_of q

  -- the tickets are times, and have passed
  count_high : b.count < ever
  count_high = omega (arith, S.rel.count, S.inv.core.clock)

  node_ticket : (n : ℕ) → 1 ≤ n → n ≤ v.nodes → v.tick n ≤ b.count
  node_ticket n n≥ n≤ = omega (arith, S.rel.count, (S.inv.core.entered n n≥ (omega arith)).ticket)

  left_by : (T t : ℕ) → Left b T t → t ≤ b.count
  left_by T t E = (S.rel.late t E.written).1

  candidate : (T t : ℕ) → Left b T t → Candidate b T t
  candidate T t E = record { written = E.written; answered = E.was_answered_before; unmarked = E.unmarked }

  -- what the answer of a step says of the book after it
  stepped : (P : Book → Type 0) (p : ℕ) (a : Answer) → reply q (step_by p) ≡ answered a → Right P (feed_step b p a) → P (turned_by q b S (step_by p)).book
  stepped P p a e h = let T = turned_by q b S (step_by p) in right_book P (feed_step b p a) T.book (subst (λ (r : Reply). feed b (step_by p) r ≡ agrees T.book) e T.fed) h

  module _ (p : ℕ) where
    earliest : (e : Entry) (T : ℕ) → b.opened p ≡ walking T → ltb 0 (pick b T) ≡ true → Given b e (pick b T) → Picked b T b.count (pick b T) → Earliest b p e
    earliest e T o pos G (none z h) = absurd (omega (arith, ltb-true 0 (pick b T) pos))
    earliest e T o pos G (one r≥ r≤ C least) = record {
      begin = T;
      opened = o;
      left = rw G.ticket (record { written = C.written; was_answered_before = C.answered; unmarked = C.unmarked });
      entered = entered b e (pick b T) G;
      first = λ t E. rw G.ticket (entries_before (b.entry t).due t (b.entry (pick b T)).due (pick b T) (omega (arith, left_by T t E, count_high)) (omega (arith, count_high)) ∙ le-ltb (order b t) (order b (pick b T)) (ahead t E));
      one_minute = λ t E d. omega (arith, ahead t E, G.due, G.ticket);
    }
      where
        ahead : (t : ℕ) → Left b T t → order b (pick b T) ≤ order b t
        ahead t E = least t (S.rel.late t E.written).0 (left_by T t E) (candidate T t E)

    -- a Relaxed one's mark
    relaxed_first : (e : Entry) (T : ℕ) → b.opened p ≡ relaxing T →
        relaxed_may b T e.ticket ≡ true → Given b e e.ticket → RelaxedFirst b p e
    relaxed_first e T o may G =
        let w = (b.entry e.ticket).written in
        let m = (b.entry e.ticket).marked in
        let f = eqb (pick b T) 0 || not (earlier b (pick b T) e.ticket) in
        let r = and_right w (not m && f) may in
        let written = and_left w (not m && f) may in
        record {
          begin = T;
          opened = o;
          written = written;
          begun = omega (arith, (S.rel.late e.ticket written).1);
          unmarked = not-true m (and_left (not m) f r);
          entered = entered b e e.ticket G;
          none_earlier = λ t E. first written (and_right (not m) f r) t E (picked b T count_high);
        }
      where
        first : (b.entry e.ticket).written ≡ true →
            (eqb (pick b T) 0 || not (earlier b (pick b T) e.ticket)) ≡ true →
            (t : ℕ) → Left b T t → Picked b T b.count (pick b T) →
            earlier b t e.ticket ≡ false
        first w f t E (none z h) =
            absurd (h t (S.rel.late t E.written).0 (left_by T t E) (candidate T t E))
        first w f t E (one r≥ r≤ C least) =
            let low : e.ticket ≤ b.count = (S.rel.late e.ticket w).1 in
            let after : earlier b (pick b T) e.ticket ≡ false =
            not-true _ (rw (ne_eqb (pick b T) 0 (λ z. omega arith)) at f) in
            let back : order b e.ticket ≤ order b (pick b T) =
            ltb-false (order b (pick b T)) (order b e.ticket)
            (sym (entries_before (b.entry (pick b T)).due (pick b T) (b.entry e.ticket).due
            e.ticket (omega (arith, count_high)) (omega (arith, count_high))) ∙ after) in
            let next = least t (S.rel.late t E.written).0 (left_by T t E) (candidate T t E) in
            entries_before (b.entry t).due t (b.entry e.ticket).due e.ticket
            (omega (arith, left_by T t E, count_high)) (omega (arith, count_high))
            ∙ le-ltb (order b t) (order b e.ticket) (omega arith)

    -- a Remove's mark
    wanted_there : (e : Entry) (w : Wanted) (T : ℕ) → b.opened p ≡ seeking w T →
        there b w T ≡ true → Given b e w.ticket → MarkedForRemove b p e
    wanted_there e w T o x G =
        let c = candidate_of b T w.ticket in
        let d = eqb (b.entry w.ticket).due w.due in
        let C = candidate_true b T w.ticket (and_left c d x) in
        let same : e.due ≡ w.due = G.due ∙ eqb-true _ w.due (and_right c d x) in
        record {
          begin = T;
          opened = o ∙ (λ i. seeking (record { due = sym same i; ticket = sym G.ticket i }) T);
          left = rw G.ticket (record {
            written = C.written;
            was_answered_before = C.answered;
            unmarked = C.unmarked;
          });
          entered = entered b e w.ticket G;
        }

    marks_right : (e : Entry) (o : Open) → b.opened p ≡ o → Right (Marks b p e o) (marks b p e o)
    marks_right e nothing i = tt
    marks_right e (inserting x) i = tt
    marks_right e (walking T) i = right_if _ (ltb 0 (pick b T) && gives b e (pick b T)) _ (λ h.
        let G = given b e (pick b T) (and_right (ltb 0 (pick b T)) (gives b e (pick b T)) h) in
        let E = earliest e T i (and_left (ltb 0 (pick b T)) (gives b e (pick b T)) h) G (picked b T count_high) in
        record {
          says = E;
          unmarked = E.left.unmarked;
          stays = record {
            low = omega (arith, left_by E.begin e.ticket E.left);
            up = rw (G.ticket, changed_same);
          };
        })
    marks_right e (relaxing T) i =
        right_if _ (relaxed_may b T e.ticket && gives b e e.ticket) _ (λ h.
        let may = relaxed_may b T e.ticket in
        let G = given b e e.ticket (and_right may (gives b e e.ticket) h) in
        let E = relaxed_first e T i (and_left may (gives b e e.ticket) h) G in
        record {
          says = E;
          unmarked = E.unmarked;
          stays = record { low = omega (arith, E.begun); up = rw changed_same };
        })
    marks_right e (seeking w T) i =
        right_if _ (there b w T && gives b e w.ticket) _ (λ h.
        let here = there b w T in
        let G = given b e w.ticket (and_right here (gives b e w.ticket) h) in
        let E = wanted_there e w T i (and_left here (gives b e w.ticket) h) G in
        record {
          says = E;
          unmarked = E.left.unmarked;
          stays = record {
            low = omega (arith, left_by E.begin e.ticket E.left);
            up = rw (G.ticket, changed_same);
          };
        })
    marks_right e (unlinking job x) i = tt

    none_left : (T : ℕ) → eqb (pick b T) 0 ≡ true → (t : ℕ) → Left b T t → ⊥
    none_left T z t E = go (eqb-true (pick b T) 0 z) (picked b T count_high)
      where
        go : pick b T ≡ 0 → Picked b T b.count (pick b T) → ⊥
        go z (none _ h) = h t (S.rel.late t E.written).0 (left_by T t E) (candidate T t E)
        go z (one r≥ r≤ C least) = omega arith

    empties_right : (o : Open) → b.opened p ≡ o → Right (λ b'. EmptySays b p o) (empties b p o)
    empties_right nothing i = tt
    empties_right (inserting x) i = tt
    empties_right (walking T) i = right_if _ (eqb (pick b T) 0) _
        (λ z. record { begin = T; opened = i; none = none_left T z })
    empties_right (relaxing T) i = right_if _ (eqb (pick b T) 0) _
        (λ z. record { begin = T; opened = i; none = none_left T z })
    empties_right (seeking w x) i = tt
    empties_right (unlinking job x) i = tt

    -- not there: an entry of the key that had been answered is marked
    missed_marked : (T : ℕ) (k : Wanted) → there b k T ≡ false →
        (b.entry k.ticket).written ≡ true → (b.entry k.ticket).due ≡ k.due →
        (b.entry k.ticket).answered_at < T → (b.entry k.ticket).marked ≡ true
    missed_marked T k x w d a = go (b.entry k.ticket).marked refl
      where
        go : (m : Bool) → (b.entry k.ticket).marked ≡ m → (b.entry k.ticket).marked ≡ true
        go true f = f
        go false f =
            let C : Candidate b T k.ticket = record
            { written = w; answered = a; unmarked = f } in
            absurd (true≢false (sym (rw (candidate_is b T k.ticket C)
            (eq-eqb (b.entry k.ticket).due k.due d)) ∙ x))

    misses_right : (k : Wanted) (o : Open) → b.opened p ≡ o →
        Right (λ b'. Missed b p k) (misses b p k o)
    misses_right k nothing i = tt
    misses_right k (inserting x) i = tt
    misses_right k (walking x) i = tt
    misses_right k (relaxing x) i = tt
    misses_right k (seeking w T) i =
        let here = there b w T in
        let x = eqb k.due w.due in
        let y = eqb k.ticket w.ticket in
        right_if _ (not here && (x && y)) _ (λ h.
        let none = not-true here (and_left (not here) (x && y) h) in
        let r = and_right (not here) (x && y) h in
        let d : k.due ≡ w.due = eqb-true _ _ (and_left x y r) in
        let t : k.ticket ≡ w.ticket = eqb-true _ _ (and_right x y r) in
        let same : w ≡ k = λ i. record { due = sym d i; ticket = sym t i } in
        record {
          begin = T;
          opened = i ∙ ap (λ (z : Wanted). seeking z T) same;
          marked = missed_marked T k (subst (λ (z : Wanted). there b z T ≡ false) same none);
        })
    misses_right k (unlinking job x) i = tt

    -- the ticket of an open operation's mark
    delivering_by : (t : ℕ) (job : Job) → b.opened p ≡ unlinking job t → t ≤ b.count
    delivering_by t job i =
        let D = opens_delivering (v.ht (v.pr p).own) (v.pr p).stage (v.pr p).begin
        (v.tick (v.pr p).own) t job (sym (S.rel.opened p) ∙ i) in
        let O = (S.inv.busy p (omega (arith, D.0))).removes D.0 in
        omega (arith, D.1, node_ticket (v.pr p).own O.low O.high)

    -- the end of a job on the entry that e tells: whose it was, that the entry was neither handed
    -- out nor taken back, and that it is one of them from now on
    ends_right : (job : Job) (e : Entry) (t : ℕ) → b.opened p ≡ unlinking job t →
        Right (Ends b p job e) (ends b job p e t)
    ends_right job e t i =
        let gone = is_gone (b.entry t) in
        right_if _ (gives b e t && not gone) _ (λ h.
        let G = given b e t (and_left (gives b e t) (not gone) h) in
        let out = not-true gone (and_right (gives b e t) (not gone) h) in
        record {
          opened = rw G.ticket i;
          entered = entered b e t G;
          not_gone = rw G.ticket out;
          stays = record {
            low = omega (arith, G.ticket, delivering_by t job i);
            up = rw (G.ticket, changed_same) (done_gone job (b.entry t));
          };
        })

    hands_out_right : (e : Entry) (o : Open) → b.opened p ≡ o →
        Right (Ends b p jobs.Deliver e) (hands_out b p e o)
    hands_out_right e nothing i = tt
    hands_out_right e (inserting x) i = tt
    hands_out_right e (walking x) i = tt
    hands_out_right e (relaxing x) i = tt
    hands_out_right e (seeking w x) i = tt
    hands_out_right e (unlinking jobs.Deliver t) i = ends_right jobs.Deliver e t i
    hands_out_right e (unlinking jobs.TakeBack t) i = tt

    takes_back_right : (e : Entry) (o : Open) → b.opened p ≡ o →
        Right (Ends b p jobs.TakeBack e) (takes_back b p e o)
    takes_back_right e nothing i = tt
    takes_back_right e (inserting x) i = tt
    takes_back_right e (walking x) i = tt
    takes_back_right e (relaxing x) i = tt
    takes_back_right e (seeking w x) i = tt
    takes_back_right e (unlinking jobs.Deliver t) i = tt
    takes_back_right e (unlinking jobs.TakeBack t) i = ends_right jobs.TakeBack e t i

    -- the steps that mark, that find nothing, and that end a job
    marking : (e : Entry) → reply q (step_by p) ≡ answered (ans.Did deed.Marked e) →
        Marks b p e (b.opened p) (turned_by q b S (step_by p)).book
    marking e r =
        stepped (Marks b p e (b.opened p)) p (ans.Did deed.Marked e) r
        (marks_right e (b.opened p) refl)

    emptying : reply q (step_by p) ≡ answered ans.Empty → EmptySays b p (b.opened p)
    emptying r =
        stepped (λ b'. EmptySays b p (b.opened p)) p ans.Empty r (empties_right (b.opened p) refl)

    missing : (w : Wanted) → reply q (step_by p) ≡ answered (ans.NotThere w) → Missed b p w
    missing w r =
        stepped (λ b'. Missed b p w) p (ans.NotThere w) r (misses_right w (b.opened p) refl)

    ending : (job : Job) (e : Entry) → reply q (step_by p) ≡ answered (handing job e) →
        Ends b p job e (turned_by q b S (step_by p)).book
    ending jobs.Deliver e r =
        stepped (Ends b p jobs.Deliver e) p (handing jobs.Deliver e) r
        (hands_out_right e (b.opened p) refl)
    ending jobs.TakeBack e r =
        stepped (Ends b p jobs.TakeBack e) p (handing jobs.TakeBack e) r
        (takes_back_right e (b.opened p) refl)

-- the book after a list of calls is the one for which all of it holds
pub sound_after : (P N L : ℕ) → InRange P N L → (cs : List Turn) (b : Book) → BookAfter P N L cs b → Sound (after_all (fresh_queue P N L) cs) b
sound_after P N L R cs b h = let J = reached P N L R cs in let same : J.book ≡ b = cc J.judges in subst (Sound (after_all (fresh_queue P N L) cs)) same J.sound

-- the mark of a step after a list of calls, and its EMPTY
mark_after : (P N L : ℕ) → InRange P N L → (cs : List Turn) (b : Book) → BookAfter P N L cs b →
    (p : ℕ) (e : Entry) → step_reply P N L cs p ≡ answered (ans.Did deed.Marked e) →
    MarkSays b p e (b.opened p)
mark_after P N L R cs b h p e r =
    (marking (after_all (fresh_queue P N L) cs) b (sound_after P N L R cs b h) p e r).says

empty_after : (P N L : ℕ) → InRange P N L → (cs : List Turn) (b : Book) → BookAfter P N L cs b →
    (p : ℕ) → step_reply P N L cs p ≡ answered ans.Empty → EmptySays b p (b.opened p)
empty_after P N L R cs b h p r =
    emptying (after_all (fresh_queue P N L) cs) b (sound_after P N L R cs b h) p r

pub marked_is_earliest : MarkedIsEarliest
marked_is_earliest P N L R cs b h p T e o r =
    subst (MarkSays b p e) o (mark_after P N L R cs b h p e r)

pub empty_is_true : EmptyIsTrue
empty_is_true P N L R cs b h p T o r = subst (EmptySays b p) o (empty_after P N L R cs b h p r)

pub relaxed_is_first : RelaxedIsFirst
relaxed_is_first P N L R cs b h p T e o r =
    subst (MarkSays b p e) o (mark_after P N L R cs b h p e r)

pub relaxed_empty_is_true : RelaxedEmptyIsTrue
relaxed_empty_is_true P N L R cs b h p T o r =
    subst (EmptySays b p) o (empty_after P N L R cs b h p r)

pub remove_marks_its_key : RemoveMarksItsKey
remove_marks_its_key P N L R cs b h p T w e o r =
    subst (MarkSays b p e) o (mark_after P N L R cs b h p e r)

pub not_there_is_true : NotThereIsTrue
not_there_is_true P N L R cs b h p w r =
    missing (after_all (fresh_queue P N L) cs) b (sound_after P N L R cs b h) p w r

pub marked_by_one_of_three : MarkedByOneOfThree
marked_by_one_of_three P N L R cs b h p e r =
    mark_open b p e (b.opened p) refl (mark_after P N L R cs b h p e r)

pub empty_to_a_walk : EmptyToAWalk
empty_to_a_walk P N L R cs b h p r =
    empty_open b p (b.opened p) refl (empty_after P N L R cs b h p r)

pub handed_out_is_marked : HandedOutIsMarked
handed_out_is_marked P N L R cs b h p e r =
    let E = ending (after_all (fresh_queue P N L) cs) b (sound_after P N L R cs b h) p jobs.Deliver e
    r in
    let G = gone_parts (b.entry e.ticket) E.not_gone in
    record { opened = E.opened; entered = E.entered; not_before = G.0; not_taken_back = G.1 }

pub taken_back_is_marked : TakenBackIsMarked
taken_back_is_marked P N L R cs b h p e r =
    let E = ending (after_all (fresh_queue P N L) cs) b (sound_after P N L R cs b h) p jobs.TakeBack e
    r in
    let G = gone_parts (b.entry e.ticket) E.not_gone in
    record { opened = E.opened; entered = E.entered; not_before = G.1; not_handed_out = G.0 }

pub backlog_is_pending : BacklogIsPending
backlog_is_pending P N L R cs b h =
    let q = after_all (fresh_queue P N L) cs in
    let ok = reached_is_valid P N L R cs in
    let S = sound_after P N L R cs b h in
    (how_many (pending_at q) q.node_count, rw ok refl, backlog_pending q b S ok)

pub marker_delivers : MarkerDelivers
marker_delivers P N L R cs b h x p x≥ x≤ used =
    let S = sound_after P N L R cs b h in
    let same = (untouched_all (fresh_queue P N L) cs).node_count in
    marker_is (after_all (fresh_queue P N L) cs) b S p x x≥ (omega arith) used

after_append : (q : Queue) (cs ds : List Turn) → after_all q (cs ++ ds) ≡ after_all (after_all q cs) ds
unfolding after_all
after_append q [] ds = refl
after_append q (c ∷ cs) ds = after_append (after q c) cs ds

-- a flag of the entry t that a step puts up is up any calls later
record Later (flag : BookEntry → Bool) (t : ℕ) (q : Queue) : Type 0 where
  book : Book
  sound : Sound q book
  up : flag (book.entry t) ≡ true

module _ (flag : BookEntry → Bool) (t : ℕ) (answer_keeps : (l : BookEntry) (n : ℕ) → flag l ≡ true → flag (with_answer l n) ≡ true)
    (mark_keeps : (l : BookEntry) → flag l ≡ true → flag (with_marked l) ≡ true)
    (job_keeps : (job : Job) (l : BookEntry) → flag l ≡ true → flag (with_done job l) ≡ true) where
  later : (q : Queue) (cs ds : List Turn) (p : ℕ) (b : Book) (S : Sound (after_all q cs) b) → Stays flag t (turned_by (after_all q cs) b S (step_by p)).book → Later flag t (after_all q (cs ++ (step_by p ∷ ds)))
  unfolding after_all
  later q cs ds p b S K =
      let r = after (after_all q cs) (step_by p) in
      let T = turned_by (after_all q cs) b S (step_by p) in
      let J = all_judged ds r T.book T.sound in
      record {
        book = J.book;
        sound = subst (λ (w : Queue). Sound w J.book) (sym (after_append q cs (step_by p ∷ ds))) J.sound;
        up = (right_book (Stays flag t) (judged T.book r ds) J.book J.judges
            (stays flag t answer_keeps mark_keeps job_keeps ds r T.book K)).up;
      }

marked_keeps : (job : Job) (l : BookEntry) → l.marked ≡ true → (with_done job l).marked ≡ true
marked_keeps jobs.Deliver l h = h
marked_keeps jobs.TakeBack l h = h

pub marked_once : MarkedOnce
marked_once P N L R cs ds p r e f x y same =
    let J = reached P N L R cs in
    let M = marking (after_all (fresh_queue P N L) cs) J.book J.sound p e x in
    let W = later (λ l. l.marked) e.ticket (λ l n h. h) (λ l h. refl) marked_keeps
    (fresh_queue P N L) cs ds p J.book J.sound M.stays in
    let E = marking (after_all (fresh_queue P N L) (cs ++ (step_by p ∷ ds))) W.book W.sound r f
    y in
    true≢false (sym W.up ∙ ap (λ (t : ℕ). (W.book.entry t).marked) same ∙ E.unmarked)

-- what one job ended, no job ends any calls later
never_after : (c d : Job) (P N L : ℕ) → InRange P N L → (cs ds : List Turn) (p r : ℕ) (e f : Entry)
    → step_reply P N L cs p ≡ answered (handing c e) →
    step_reply P N L (cs ++ (step_by p ∷ ds)) r ≡ answered (handing d f) → e.ticket ≡ f.ticket → ⊥
never_after c d P N L R cs ds p r e f x y same =
    let J = reached P N L R cs in
    let H = ending (after_all (fresh_queue P N L) cs) J.book J.sound p c e x in
    let W = later is_gone e.ticket (λ l n h. h) (λ l h. h) done_keeps (fresh_queue P N L) cs ds p
    J.book J.sound H.stays in
    let D = ending (after_all (fresh_queue P N L) (cs ++ (step_by p ∷ ds))) W.book W.sound r d f
    y in
    true≢false (sym W.up ∙ ap (λ (t : ℕ). is_gone (W.book.entry t)) same ∙ D.not_gone)

pub handed_out_once : HandedOutOnce
handed_out_once = never_after jobs.Deliver jobs.Deliver

pub taken_back_once : TakenBackOnce
taken_back_once = never_after jobs.TakeBack jobs.TakeBack

pub handed_out_not_taken_back : HandedOutNotTakenBack
handed_out_not_taken_back = never_after jobs.Deliver jobs.TakeBack

pub taken_back_not_handed_out : TakenBackNotHandedOut
taken_back_not_handed_out = never_after jobs.TakeBack jobs.Deliver
