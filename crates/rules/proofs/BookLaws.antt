-- Laws of the book alone: what an answer that agrees says, and that a mark, a hand-out and a taking
-- back stay. Assumes nothing.
use Rattle.std.specs.Prelude.{Result, Ok, Err}
use mathlib.Core.Path.{◌≡◌, sym, subst}
use mathlib.Core.Bool.{Bool, true, ◌&&◌, not}
use mathlib.Core.List.{List, [], ◌∷◌}
use Prim.Native.Nat.{ℕ, ◌≤◌}
use native.Mathlib.Omega.{arith}
use native.Mathlib.Decide.{ℕ_discrete}
use lib.Dec.{ltb, eqb}
use borrow.Author.Tests.{eqb-true}
use Rattle.laws.specs.HowMany.{how_many}
use Rattle.laws.specs.Update.{changed_at}
use Rattle.laws.proofs.Booleans.{cond_cases}
use Rattle.laws.proofs.Counting.{and_left, and_right}
use Rattle.laws.proofs.Updating.{changed_same, changed_other}
use Rattle.record.specs.declared.refusals.Refusal.{Refusal}
use Rattle.record.specs.declared.queues.Queue.{Queue}
use Rattle.record.specs.declared.stages.Job.{Job}
use Rattle.record.specs.declared.stages.Job.TheVariants as jobs
use Rattle.record.specs.declared.stages.Wanted.{Wanted}
use Rattle.record.specs.Stages.{wanted_of}
use Rattle.rules.specs.declared.answers.Answer.{Answer}
use Rattle.rules.specs.declared.answers.Answer.TheVariants as ans
use Rattle.rules.specs.declared.answers.Deed.{Deed}
use Rattle.rules.specs.declared.answers.Deed.TheVariants as deed
use Rattle.rules.specs.declared.answers.Entry.{Entry}
use Rattle.rules.specs.Book.{BookEntry, Open, nothing, inserting, walking, relaxing, seeking}
use Rattle.rules.specs.Book.{unlinking, Book, Verdict, agrees, differs, agrees_if, now}
use Rattle.rules.specs.Book.{after_call, pick, relaxed_may, there, gives, is_gone, with_answer}
use Rattle.rules.specs.Book.{with_marked, with_done, begins, begins_insert, inserted, after_mark}
use Rattle.rules.specs.Book.{marks, empties, misses, ends, hands_out, takes_back, moves}
use Rattle.rules.specs.Book.{feed_begin, feed_insert, feed_delete, feed_relaxed, feed_remove}
use Rattle.rules.specs.Book.{feed_deed}
use Rattle.rules.specs.Book.{feed_step, feed, then_feed, judged}
use Rattle.rules.specs.Book.{pending_in, feed_backlog, held_in, deliverers_listed, feed_markers}
use Rattle.rules.specs.declared.calls.Call.TheVariants as call
use Rattle.rules.specs.Runs.{Turn, calls, backlog, markers, after}
use Rattle.rules.specs.Runs.{Reply, answered, counted, listed, reply}

-- what holds of the book of an answer that agrees
abbrev pub Right : (Book → Type 0) → Verdict → Type 0
Right P (agrees b) = P b
Right P differs = Unit {0}

pub right_book : (P : Book → Type 0) (v : Verdict) (b : Book) → v ≡ agrees b → Right P v → P b
right_book P v b e h = subst (Right P) e h

-- an answer that is right only where a test holds
pub right_if : (P : Book → Type 0) (t : Bool) (b : Book) → (t ≡ true → P b) → Right P (agrees_if t b)
right_if P t b h = cond_cases (Right P) t (agrees b) differs h (λ _. tt)

-- the answer gives the entry t
pub record Given (b : Book) (e : Entry) (t : ℕ) : Type 0 where
  pub due : e.due ≡ (b.entry t).due
  pub item : e.item ≡ (b.entry t).item
  pub ticket : e.ticket ≡ t

pub given : (b : Book) (e : Entry) (t : ℕ) → gives b e t ≡ true → Given b e t
given b e t h =
    let x = eqb e.due (b.entry t).due in
    let y = eqb e.item (b.entry t).item in
    let z = eqb e.ticket t in
    let r = and_right x (y && z) h in
    record { due = eqb-true _ _ (and_left x (y && z) h); item = eqb-true _ _ (and_left y z r); ticket = eqb-true _ _ (and_right y z r) }

-- a flag of a line that no change of the line takes back stays up: the entry's ticket is not a time to come
pub record Stays (flag : BookEntry → Bool) (t : ℕ) (b : Book) : Type 0 where
  pub low : t ≤ b.count
  pub up : flag (b.entry t) ≡ true

module _ (flag : BookEntry → Bool) (t : ℕ) (answer_keeps : (l : BookEntry) (n : ℕ) → flag l ≡ true → flag (with_answer l n) ≡ true)
    (mark_keeps : (l : BookEntry) → flag l ≡ true → flag (with_marked l) ≡ true)
    (done_keeps : (job : Job) (l : BookEntry) → flag l ≡ true → flag (with_done job l) ≡ true) where
  -- a line that is written over another
  written : (b : Book) (p : ℕ) (o : Open) (x : ℕ) (l : BookEntry) → (x ≡ t → flag l ≡ true) → Stays flag t b → Stays flag t (after_call b (changed_at b.entry x l) p o)
  written b p o x l h S = record { low = omega arith; up = go (ℕ_discrete t x) }
    where
      go : Dec (t ≡ x) → flag (changed_at b.entry x l t) ≡ true
      go (yes e) = subst (λ (n : ℕ). flag (changed_at b.entry x l n) ≡ true) (sym e) (rw (changed_same b.entry x l) (h (sym e)))
      go (no d) = rw (changed_other b.entry x l t d) S.up

  module _ (b : Book) (S : Stays flag t b) where
    abbrev K : Verdict → Type 0
    K = Right (Stays flag t)

    -- the line under x is the one whose flag is up, if x is t
    flagged : (x : ℕ) → x ≡ t → flag (b.entry x) ≡ true
    flagged x e = rw e S.up

    same : Stays flag t (record { count = now b; entry = b.entry; opened = b.opened })
    same = record { low = omega arith; up = S.up }

    opens_only : (p : ℕ) (o : Open) → Stays flag t (after_call b b.entry p o)
    opens_only p o = record { low = omega arith; up = S.up }

    insert_begins_lem : (p due item x : ℕ) (o : Open) → K (begins_insert b p due item x o)
    insert_begins_lem p due item x nothing = right_if (Stays flag t) (eqb x (now b)) _ (λ e. written b p (inserting x) x _ (λ g. absurd (omega (arith, eqb-true x (now b) e))) S)
    insert_begins_lem p due item x (inserting y) = tt
    insert_begins_lem p due item x (walking y) = tt
    insert_begins_lem p due item x (relaxing y) = tt
    insert_begins_lem p due item x (seeking w y) = tt
    insert_begins_lem p due item x (unlinking job y) = tt

    walk_begins_lem : (p x : ℕ) (opened o : Open) → K (begins b p x b.entry opened o)
    walk_begins_lem p x opened nothing =
        right_if (Stays flag t) (eqb x (now b)) _ (λ e. opens_only p opened)
    walk_begins_lem p x opened (inserting y) = tt
    walk_begins_lem p x opened (walking y) = tt
    walk_begins_lem p x opened (relaxing y) = tt
    walk_begins_lem p x opened (seeking w y) = tt
    walk_begins_lem p x opened (unlinking job y) = tt

    insert_answers : (p : ℕ) (e : Entry) (o : Open) → K (inserted b p e o)
    insert_answers p e nothing = tt
    insert_answers p e (inserting x) = right_if (Stays flag t) (gives b e x) _ (λ _. written b p nothing x _ (λ g. answer_keeps (b.entry x) (now b) (flagged x g)) S)
    insert_answers p e (walking y) = tt
    insert_answers p e (relaxing y) = tt
    insert_answers p e (seeking w y) = tt
    insert_answers p e (unlinking job y) = tt

    marked : (job : Job) (p x : ℕ) → Stays flag t (after_mark b job p x)
    marked job p x =
        written b p (unlinking job x) x _ (λ g. mark_keeps (b.entry x) (flagged x g)) S

    delete_marks : (p : ℕ) (e : Entry) (o : Open) → K (marks b p e o)
    delete_marks p e nothing = tt
    delete_marks p e (inserting y) = tt
    delete_marks p e (walking T) = right_if (Stays flag t) (ltb 0 (pick b T) && gives b e (pick b T)) _
        (λ _. marked jobs.Deliver p (pick b T))
    delete_marks p e (relaxing T) =
        right_if (Stays flag t) (relaxed_may b T e.ticket && gives b e e.ticket) _
        (λ _. marked jobs.Deliver p e.ticket)
    delete_marks p e (seeking w T) =
        right_if (Stays flag t) (there b w T && gives b e w.ticket) _
        (λ _. marked jobs.TakeBack p w.ticket)
    delete_marks p e (unlinking job y) = tt

    delete_empties : (p : ℕ) (o : Open) → K (empties b p o)
    delete_empties p nothing = tt
    delete_empties p (inserting y) = tt
    delete_empties p (walking T) = right_if (Stays flag t) (eqb (pick b T) 0) _ (λ _. opens_only p nothing)
    delete_empties p (relaxing T) =
        right_if (Stays flag t) (eqb (pick b T) 0) _ (λ _. opens_only p nothing)
    delete_empties p (seeking w y) = tt
    delete_empties p (unlinking job y) = tt

    job_ends : (job : Job) (p : ℕ) (e : Entry) (x : ℕ) → K (ends b job p e x)
    job_ends job p e x =
        right_if (Stays flag t) (gives b e x && not (is_gone (b.entry x))) _
        (λ _. written b p nothing x _ (λ g. done_keeps job (b.entry x) (flagged x g)) S)

    delete_hands_out : (p : ℕ) (e : Entry) (o : Open) → K (hands_out b p e o)
    delete_hands_out p e nothing = tt
    delete_hands_out p e (inserting y) = tt
    delete_hands_out p e (walking y) = tt
    delete_hands_out p e (relaxing y) = tt
    delete_hands_out p e (seeking w y) = tt
    delete_hands_out p e (unlinking jobs.Deliver x) = job_ends jobs.Deliver p e x
    delete_hands_out p e (unlinking jobs.TakeBack x) = tt

    remove_takes_back : (p : ℕ) (e : Entry) (o : Open) → K (takes_back b p e o)
    remove_takes_back p e nothing = tt
    remove_takes_back p e (inserting y) = tt
    remove_takes_back p e (walking y) = tt
    remove_takes_back p e (relaxing y) = tt
    remove_takes_back p e (seeking w y) = tt
    remove_takes_back p e (unlinking jobs.Deliver x) = tt
    remove_takes_back p e (unlinking jobs.TakeBack x) = job_ends jobs.TakeBack p e x

    remove_misses : (p : ℕ) (k : Wanted) (o : Open) → K (misses b p k o)
    remove_misses p k nothing = tt
    remove_misses p k (inserting y) = tt
    remove_misses p k (walking y) = tt
    remove_misses p k (relaxing y) = tt
    remove_misses p k (seeking w T) =
        right_if (Stays flag t)
        (not (there b w T) && (eqb k.due w.due && eqb k.ticket w.ticket)) _
        (λ _. opens_only p nothing)
    remove_misses p k (unlinking job y) = tt

    step_moves : (o : Open) → K (moves b o)
    step_moves nothing = tt
    step_moves (inserting y) = same
    step_moves (walking y) = same
    step_moves (relaxing y) = same
    step_moves (seeking w y) = same
    step_moves (unlinking job y) = same

    fed_begin : (begun : ℕ → Verdict) (a : Answer) → ((x : ℕ) → K (begun x)) → K (feed_begin b begun a)
    fed_begin begun (ans.Refused n) h = S
    fed_begin begun (ans.Began x) h = h x
    fed_begin begun ans.Moved h = tt
    fed_begin begun (ans.Waits l) h = tt
    fed_begin begun ans.Empty h = tt
    fed_begin begun (ans.NotThere w) h = tt
    fed_begin begun (ans.Did d e) h = tt

    fed_insert : (p due item : ℕ) (a : Answer) → K (feed_insert b p due item a)
    fed_insert p due item a = fed_begin _ a (λ x. insert_begins_lem p due item x (b.opened p))

    fed_delete : (p : ℕ) (a : Answer) → K (feed_delete b p a)
    fed_delete p a = fed_begin _ a (λ x. walk_begins_lem p x (walking x) (b.opened p))

    fed_relaxed : (p : ℕ) (a : Answer) → K (feed_relaxed b p a)
    fed_relaxed p a = fed_begin _ a (λ x. walk_begins_lem p x (relaxing x) (b.opened p))

    fed_remove : (p : ℕ) (w : Wanted) (a : Answer) → K (feed_remove b p w a)
    fed_remove p w a = fed_begin _ a (λ x. walk_begins_lem p x (seeking w x) (b.opened p))

    fed_deed : (p : ℕ) (e : Entry) (d : Deed) → K (feed_deed b p e d)
    fed_deed p e deed.Marked = delete_marks p e (b.opened p)
    fed_deed p e deed.Inserted = insert_answers p e (b.opened p)
    fed_deed p e deed.HandedOut = delete_hands_out p e (b.opened p)
    fed_deed p e deed.TakenBack = remove_takes_back p e (b.opened p)

    fed_step : (p : ℕ) (a : Answer) → K (feed_step b p a)
    fed_step p (ans.Refused n) = S
    fed_step p (ans.Began x) = tt
    fed_step p ans.Moved = step_moves (b.opened p)
    fed_step p (ans.Waits h) = step_moves (b.opened p)
    fed_step p ans.Empty = delete_empties p (b.opened p)
    fed_step p (ans.NotThere w) = remove_misses p w (b.opened p)
    fed_step p (ans.Did d e) = fed_deed p e d

    fed_backlog : (k : Result ℕ Refusal) → K (feed_backlog b k)
    fed_backlog (Err r) = S
    fed_backlog (Ok k) =
        right_if (Stays flag t) (eqb k (how_many (pending_in b) b.count)) b (λ _. S)

    fed_markers : (k : Result ℕ Refusal) (area : List ℕ) → K (feed_markers b k area)
    fed_markers (Err r) area = S
    fed_markers (Ok k) area =
        right_if (Stays flag t) (eqb k (how_many (held_in b) b.count) && deliverers_listed b area k) b
        (λ _. S)

    fed : (c : Turn) (r : Reply) → K (feed b c r)
    fed (calls (call.Insert p due item height)) (answered a) = fed_insert p due item a
    fed (calls (call.DeleteMin p)) (answered a) = fed_delete p a
    fed (calls (call.Relaxed p)) (answered a) = fed_relaxed p a
    fed (calls (call.Remove p due ticket)) (answered a) = fed_remove p (wanted_of due ticket) a
    fed (calls (call.Step p)) (answered a) = fed_step p a
    fed (calls c) (counted k) = tt
    fed (calls c) (listed k area) = tt
    fed backlog (answered a) = tt
    fed backlog (counted k) = fed_backlog k
    fed backlog (listed k area) = tt
    fed (markers lent) (answered a) = tt
    fed (markers lent) (counted k) = tt
    fed (markers lent) (listed k area) = fed_markers k area

  then_fed : (v : Verdict) (f : Book → Verdict) → Right (Stays flag t) v → ((b : Book) → Stays flag t b → Right (Stays flag t) (f b)) → Right (Stays flag t) (then_feed v f)
  then_fed (agrees b) f S h = h b S
  then_fed differs f S h = tt

  pub stays : (cs : List Turn) (q : Queue) (b : Book) → Stays flag t b → Right (Stays flag t) (judged b q cs)
  unfolding judged
  stays [] q b S = S
  stays (c ∷ cs) q b S = then_fed (feed b c (reply q c)) (λ b'. judged b' (after q c) cs) (fed b S c (reply q c)) (stays cs (after q c))
