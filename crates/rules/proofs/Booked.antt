-- Every step's answer agrees with the book.
use mathlib.Core.Path.{◌≡◌, refl, sym, ap, subst, ◌∙◌}
use mathlib.Core.Bool.{Bool, true, false, ◌||◌, not, true≢false}
use Prim.Native.Nat.{ℕ, suc, ◌+◌, ◌≤◌, ◌<◌}
use native.Mathlib.Omega.{arith}
use native.Mathlib.Decide.{ℕ_discrete}
use lib.Dec.{ltb, leb, eqb}
use borrow.Author.Tests.{ltb-true, ltb-false, eqb-true, eqb-false, lt-ltb, le-ltb, eq-eqb, ne_eqb}
use Rattle.record.specs.declared.stages.Place.{Place}
use Rattle.record.specs.declared.stages.Seek.{Seek}
use Rattle.record.specs.declared.stages.Seek.TheVariants as seek
use Rattle.record.specs.declared.stages.Insert.TheVariants as ins
use Rattle.record.specs.declared.stages.Delete.TheVariants as del
use Rattle.record.specs.declared.stages.Removal.TheVariants as rem
use Rattle.record.specs.declared.stages.Relaxed.TheVariants as rlx
use Rattle.record.specs.declared.stages.Wanted.{Wanted}
use Rattle.record.specs.declared.stages.Remove.{Remove}
use Rattle.record.specs.declared.stages.Remove.TheVariants as rmv
use Rattle.record.specs.declared.stages.Stage.{Stage}
use Rattle.record.specs.declared.stages.Job.{Job}
use Rattle.record.specs.declared.stages.Job.TheVariants as jobs
use Rattle.record.specs.declared.stages.Stage.TheVariants as stage
use Rattle.rules.specs.declared.answers.Answer.TheVariants as ans
use Rattle.rules.specs.declared.answers.Deed.TheVariants as deed
use Rattle.rules.specs.declared.answers.Entry.{Entry}
use Rattle.rules.specs.declared.decisions.Effect.TheVariants as eff
use Rattle.rules.specs.declared.decisions.Decision.{Decision}
use Rattle.rules.specs.declared.decisions.StepView.{StepView}
use Rattle.rules.specs.declared.decisions.Searched.{Searched}
use Rattle.rules.specs.declared.decisions.Searched.TheVariants as srch
use Rattle.rules.specs.declared.decisions.Sought.{Sought}
use Rattle.rules.specs.declared.decisions.Sought.TheVariants as sght
use Rattle.record.specs.Stages.{place}
use Rattle.rules.specs.Decide.{insert_searched, insert_sought, removal_searched, removal_sought, seek_step, search_step}
use Rattle.rules.specs.Decide.{moved, answers, marking, missing, remove_searched, place_tried}
use Rattle.rules.specs.Decide.{node_tried, own_tried}
use Rattle.record.specs.Stages.{seek_part}
use Rattle.laws.proofs.Booleans.{cond_cases, cond_elim}
use Rattle.laws.proofs.Counting.{and_left, and_right}
use Rattle.laws.specs.Update.{changed_at}
use Rattle.laws.proofs.Updating.{changed_same, changed_other}
use Rattle.rules.proofs.Put.{ever}
use Rattle.rules.proofs.View.{Pr, View, Info, info, walk_info, asks_for, Wants, claim, key}
use Rattle.rules.proofs.View.{tail, entry_rank}
use Rattle.rules.proofs.Inv.{Inv, Eligible, Inserts, NodeHeld}
use Rattle.rules.proofs.Assemble.{ticked}
use Rattle.rules.proofs.Machine.{decision, entry_at, view, view_for, with_status}
use Rattle.rules.proofs.Move.{busy_at, kind_at}
use Rattle.rules.proofs.InsertSteps.{idle}
use Rattle.rules.proofs.WalkSteps.{empty_right, mark_able, mark_first, mark_place}
use Rattle.rules.proofs.FindSteps.{none_next, none_stamped, none_marked, find_marks}
use Rattle.rules.proofs.Begin.{rank_entry}
use Rattle.rules.specs.Book.{BookEntry, Open, nothing, seeking, Book, after_call, candidate}
use Rattle.rules.specs.Book.{earlier, pick, there, gives, is_gone, with_answer, with_marked}
use Rattle.rules.specs.Book.{with_hand_out, with_taken_back, after_mark, empty_at, empties, agrees}
use Rattle.rules.specs.Book.{feed_step}
use Rattle.rules.proofs.Ranks.{entries_before}
use Rattle.rules.proofs.Picks.{order, Candidate, candidate_true, candidate_is, Picked, none}
use Rattle.rules.proofs.Picks.{one, picked}
use Rattle.rules.proofs.Rel.{opens, line_of, Found, Filed, Marker, Rel, Booked, quiet, Quiet}
use Rattle.rules.proofs.Rel.{quiet_by, quiet_booked}
use Rattle.rules.proofs.Rel.{still_past}

-- a decision of a seek is quiet where its effect is
abbrev sought_quiet : Sought → Type 0
sought_quiet (sght.Goes e k) = quiet e
sought_quiet (sght.Waits k h) = Unit {0}
sought_quiet (sght.Done a) = Unit {0}

seek_quiet : (s : StepView) (k : Seek) → sought_quiet (seek_step s k)
seek_quiet s (seek.Approach a) = cond_elim sought_quiet s.next_before_key _ _ tt tt
seek_quiet s (seek.Take a) = cond_elim (λ t. sought_quiet (place_tried a t)) (eqb s.place_lock 0) _ _ tt tt
seek_quiet s (seek.Confirm a) = cond_elim sought_quiet s.next_before_key _ _ tt tt
seek_quiet s (seek.Release a b) = tt

kind_seek_insert : (h : ℕ) (k : Seek) → (info h (stage.Insert (ins.Seek k))).kind ≡ 1
kind_seek_insert h (seek.Approach a) = refl
kind_seek_insert h (seek.Take a) = refl
kind_seek_insert h (seek.Confirm a) = refl
kind_seek_insert h (seek.Release a b) = refl

kind_seek_delete : (job : Job) (h : ℕ) (k : Seek) →
    (info h (stage.Removal job (rem.Seek k))).kind ≡ 3
kind_seek_delete job h (seek.Approach a) = refl
kind_seek_delete job h (seek.Take a) = refl
kind_seek_delete job h (seek.Confirm a) = refl
kind_seek_delete job h (seek.Release a b) = refl

quiet_insert_sought : (s : StepView) (j : Seek) (r : Sought) → sought_quiet r →
    Quiet s.own (stage.Insert (ins.Seek j)) (insert_sought s r)
quiet_insert_sought s j (sght.Goes e k) q = record { answer = tt; effect = q; own_same = refl; begin_same = λ t b. refl; kind_same = λ h. kind_seek_insert h k ∙ sym (kind_seek_insert h j); opens_same = λ t b. refl }
quiet_insert_sought s j (sght.Waits k l) q = record { answer = tt; effect = tt; own_same = refl; begin_same = λ t b. refl; kind_same = λ h. kind_seek_insert h k ∙ sym (kind_seek_insert h j); opens_same = λ t b. refl }
quiet_insert_sought s j (sght.Done a) q = record { answer = tt; effect = tt; own_same = refl; begin_same = λ t b. refl; kind_same = λ h. sym (kind_seek_insert h j); opens_same = λ t b. refl }

quiet_delete_sought : (job : Job) (s : StepView) (j : Seek) (r : Sought) → sought_quiet r →
    Quiet s.own (stage.Removal job (rem.Seek j)) (removal_sought job s r)
quiet_delete_sought job s j (sght.Goes e k) q = record { answer = tt; effect = q; own_same = refl; begin_same = λ t b. refl; kind_same = λ h. kind_seek_delete job h k ∙ sym (kind_seek_delete job h j); opens_same = λ t b. refl }
quiet_delete_sought job s j (sght.Waits k l) q = record { answer = tt; effect = tt; own_same = refl; begin_same = λ t b. refl; kind_same = λ h. kind_seek_delete job h k ∙ sym (kind_seek_delete job h j); opens_same = λ t b. refl }
quiet_delete_sought job s j (sght.Done a) q = record { answer = tt; effect = tt; own_same = refl; begin_same = λ t b. refl; kind_same = λ h. sym (kind_seek_delete job h j); opens_same = λ t b. refl }

quiet_insert_searched : (s : StepView) (a : Place) (r : Searched) →
    Quiet s.own (stage.Insert (ins.Search a)) (insert_searched s a r)
quiet_insert_searched s a (srch.Ahead b) =
    quiet_by tt tt refl (λ t b. refl) (λ h. refl) (λ T t. refl)
quiet_insert_searched s a (srch.Down b) =
    quiet_by tt tt refl (λ t b. refl) (λ h. refl) (λ T t. refl)
quiet_insert_searched s a (srch.Done b) =
    quiet_by tt tt refl (λ t b. refl) (λ h. refl) (λ T t. refl)

quiet_delete_searched : (job : Job) (s : StepView) (a : Place) (r : Searched) →
    Quiet s.own (stage.Removal job (rem.Search a)) (removal_searched job s a r)
quiet_delete_searched job s a (srch.Ahead b) =
    quiet_by tt tt refl (λ t b. refl) (λ h. refl) (λ T t. refl)
quiet_delete_searched job s a (srch.Down b) =
    quiet_by tt tt refl (λ t b. refl) (λ h. refl) (λ T t. refl)
quiet_delete_searched job s a (srch.Done b) =
    quiet_by tt tt refl (λ t b. refl) (λ h. refl) (λ T t. refl)

-- a node in use is known by its ticket, among those that are or were used and whose entry has their due
pub ticket_apart : (v : View) (u : ℕ → ℕ → ℕ) (I : Inv v u) (b : Book) (R : Rel v b) (n m : ℕ) → 1 ≤ n → n ≤ v.nodes → 1 ≤ m → m ≤ v.nodes → v.us n ≡ 1 → 1 ≤ v.us m →
    (b.entry (v.tick m)).due ≡ v.due m → v.tick n ≡ v.tick m → n ≡ m
ticket_apart v u I b R n m n≥ n≤ m≥ m≤ nu mu md e =
    let d : v.due n ≡ v.due m = sym (ap (λ (x : BookEntry). x.due) (R.kept n n≥ n≤ nu)) ∙ (ap (λ (t : ℕ). (b.entry t).due) e ∙ md) in
    I.core.apart n m (omega arith) (omega arith) (omega arith) mu
    (rank_entry v.nodes v.due v.tick n n≥ n≤ ∙ (rw (d, e) (sym (rank_entry v.nodes v.due v.tick m m≥ m≤))))

unmarked_zero : (m : ℕ) → ltb 0 m ≡ false → m ≡ 0
unmarked_zero m h = omega (arith, ltb-false 0 m h)

-- candidates of the book are the eligible nodes
module _ (v : View) (u : ℕ → ℕ → ℕ) (I : Inv v u) (b : Book) (R : Rel v b) (T : ℕ) where
  pub eligible_of : (t : ℕ) → Candidate b T t → (n : ℕ) × (v.tick n ≡ t) × Eligible v.us v.st v.mk v.nodes T n
  eligible_of t C =
      let F = R.found t C.written (R.unhanded t C.unmarked) in
      let l = R.kept F.node F.low F.high F.used in (
        F.node,
        F.ticket,
        record {
          low = F.low;
          high = F.high;
          used = F.used;
          stamped = rw (ap (λ (x : BookEntry). x.answered_at) l) at (rw (← F.ticket) at C.answered);
          unmarked = unmarked_zero (v.mk F.node) (rw (ap (λ (x : BookEntry). x.marked) l) at (rw (← F.ticket) at C.unmarked));
        },
      )

  pub candidate_of_lem : (n : ℕ) → Eligible v.us v.st v.mk v.nodes T n → Candidate b T (v.tick n)
  candidate_of_lem n L =
      let l = R.kept n L.low L.high L.used in
      record { written = ap (λ (x : BookEntry). x.written) l; answered = rw (ap (λ (x : BookEntry). x.answered_at) l) L.stamped; unmarked = ap (λ (x : BookEntry). x.marked) l ∙ le-ltb 0 (v.mk n) (omega (arith, L.unmarked)) }

  order_of : (n : ℕ) → 1 ≤ n → n ≤ v.nodes → v.us n ≡ 1 → order b (v.tick n) ≡ key v n
  order_of n n≥ n≤ nu = rw (ap (λ (x : BookEntry). x.due) (R.kept n n≥ n≤ nu)) (sym (rank_entry v.nodes v.due v.tick n n≥ n≤))

  small : b.count < ever
  small = omega (arith, R.count, I.core.clock)

  pub pick_none : ((n : ℕ) → Eligible v.us v.st v.mk v.nodes T n → ⊥) → pick b T ≡ 0
  pick_none h = go (picked b T small)
    where
      go : Picked b T b.count (pick b T) → pick b T ≡ 0
      go (none e k) = e
      go (one l i C m) = let E = eligible_of (pick b T) C in absurd (h E.0 E.2)

  pub pick_is : (a : ℕ) → Eligible v.us v.st v.mk v.nodes T a → ((n : ℕ) → Eligible v.us v.st v.mk v.nodes T n → key v a ≤ key v n) → pick b T ≡ v.tick a
  pick_is a L least = go (picked b T small)
    where
      C : Candidate b T (v.tick a)
      C = candidate_of_lem a L

      t≥ : 1 ≤ v.tick a
      t≥ = (R.late (v.tick a) C.written).0

      t< : v.tick a ≤ b.count
      t< = (R.late (v.tick a) C.written).1

      go : Picked b T b.count (pick b T) → pick b T ≡ v.tick a
      go (none e k) = absurd (k (v.tick a) t≥ t< C)
      go (one l i D m) =
          let E = eligible_of (pick b T) D in
          let N = E.2 in
          let le : order b (v.tick E.0) ≤ order b (v.tick a) = rw E.1 (m (v.tick a) t≥ t< C) in
          let k : key v E.0 ≡ key v a = omega (arith, least E.0 N, order_of E.0 N.low N.high N.used, order_of a L.low L.high L.used) in
          let f = I.core.apart E.0 a (omega (arith, N.high)) (omega (arith, L.high)) (omega (arith, N.used)) (omega (arith, L.used)) k in
          sym E.1 ∙ ap v.tick f

gives_true : (b : Book) (e : Entry) (t : ℕ) → e.due ≡ (b.entry t).due → e.item ≡ (b.entry t).item → e.ticket ≡ t → gives b e t ≡ true
gives_true b e t d i k = rw (eq-eqb e.due (b.entry t).due d, eq-eqb e.item (b.entry t).item i, eq-eqb e.ticket t k)

-- one entry's line and one node's mark, stamp or use change together
module _ (v : View) (u : ℕ → ℕ → ℕ) (I : Inv v u) (b : Book) (R : Rel v b) (p : ℕ) (c : Pr) (mk st us : ℕ → ℕ) (o : ℕ) (l : BookEntry) (op : Open)
    (o≥ : 1 ≤ o) (o≤ : o ≤ v.nodes) (used : 1 ≤ v.us o) (F : Filed b.entry v.tick v.due v.item o)
    (mk_same : (n : ℕ) → (n ≡ o → ⊥) → mk n ≡ v.mk n) (st_same : (n : ℕ) → (n ≡ o → ⊥) → st n ≡ v.st n) (us_same : (n : ℕ) → (n ≡ o → ⊥) → us n ≡ v.us n)
    (l_written : l.written ≡ (b.entry (v.tick o)).written) (l_due : l.due ≡ (b.entry (v.tick o)).due) (l_item : l.item ≡ (b.entry (v.tick o)).item)
    (kept_o : us o ≡ 1 → l ≡ line_of v.due v.item st mk o)
    (found_o : is_gone l ≡ false → Found us v.tick v.nodes (v.tick o))
    (unhanded_o : l.marked ≡ false → is_gone l ≡ false)
    (opened_p : op ≡ opens c.stage c.begin (v.tick c.own))
    (not_insert : (info (v.ht c.own) c.stage).kind ≡ 1 → ⊥)
    (removed : (claim v p).kind ≡ 3 → (v.pr p).own ≡ o) (marker_o : (q : ℕ) → us o ≡ 1 → mk o ≡ suc q → Marker (ticked v p c) o q) where
  rel_line : Rel (ticked (with_status v mk st us) p c) (after_call b (changed_at b.entry (v.tick o) l) p op)
  rel_line = record {
    count = omega (arith, R.count);
    opened = λ q. opened q (ℕ_discrete q p);
    kept = λ n. kept n (ℕ_discrete n o);
    found = λ t. found t (ℕ_discrete t (v.tick o));
    unhanded = λ t. unhanded t (ℕ_discrete t (v.tick o));
    filed = λ q. filed q (ℕ_discrete q p);
    late = λ t. late t (ℕ_discrete t (v.tick o));
    marker = λ n q. marker n q (ℕ_discrete n o);
  }
    where
      unhanded : (t : ℕ) → Dec (t ≡ v.tick o) →
          (changed_at b.entry (v.tick o) l t).marked ≡ false →
          is_gone (changed_at b.entry (v.tick o) l t) ≡ false
      unhanded t (yes e) = rw (e, changed_same b.entry (v.tick o) l) unhanded_o
      unhanded t (no d) = rw (changed_other b.entry (v.tick o) l t d) (R.unhanded t)

      marker_other : (n q : ℕ) → (n ≡ o → ⊥) → Dec (q ≡ p) → Marker v n q → Marker (ticked v p c) n q
      marker_other n q ne (yes e) = rw e λ M. absurd (ne (sym M.1 ∙ removed M.0))
      marker_other n q ne (no d) = rw (changed_other v.pr p c q d) λ M. M

      marker : (n q : ℕ) → Dec (n ≡ o) → 1 ≤ n → n ≤ v.nodes → us n ≡ 1 → mk n ≡ suc q → Marker (ticked v p c) n q
      marker n q (yes e) = rw e λ n≥ n≤ nu m. marker_o q nu m
      marker n q (no d) = rw (us_same n d, mk_same n d) λ n≥ n≤ nu m. marker_other n q d (ℕ_discrete q p) (R.marker n q n≥ n≤ nu m)

      opened : (q : ℕ) → Dec (q ≡ p) → changed_at b.opened p op q ≡ opens (changed_at v.pr p c q).stage
          (changed_at v.pr p c q).begin (v.tick (changed_at v.pr p c q).own)
      opened q (yes e) = rw (e, changed_same v.pr p c, changed_same b.opened p op) opened_p
      opened q (no d) = rw (changed_other v.pr p c q d, changed_other b.opened p op q d) (R.opened q)

      kept : (n : ℕ) → Dec (n ≡ o) → 1 ≤ n → n ≤ v.nodes → us n ≡ 1 → changed_at b.entry (v.tick o) l (v.tick n) ≡ line_of v.due v.item st mk n
      kept n (yes e) = rw e λ n≥ n≤ nu. changed_same b.entry (v.tick o) l ∙ kept_o nu
      kept n (no d) = rw (us_same n d, st_same n d, mk_same n d) λ n≥ n≤ nu.
          changed_other b.entry (v.tick o) l (v.tick n) (λ e. d (ticket_apart v u I b R n o n≥ n≤ o≥ o≤ nu used F.due e)) ∙ R.kept n n≥ n≤ nu

      found : (t : ℕ) → Dec (t ≡ v.tick o) → (changed_at b.entry (v.tick o) l t).written ≡ true →
          is_gone (changed_at b.entry (v.tick o) l t) ≡ false → Found us v.tick v.nodes t
      found t (yes e) = rw (e, changed_same b.entry (v.tick o) l) λ w m. found_o m
      found t (no d) = rw (changed_other b.entry (v.tick o) l t d) λ w m.
          let G = R.found t w m in
          record { node = G.node; low = G.low; high = G.high; used = rw (us_same G.node (λ e. d (sym G.ticket ∙ ap v.tick e))) G.used; ticket = G.ticket }

      same_line : (P : BookEntry → Type 0) (t : ℕ) → Dec (t ≡ v.tick o) → (P (b.entry (v.tick o)) → P l) → P (b.entry t) → P (changed_at b.entry (v.tick o) l t)
      same_line P t (yes e) h = rw (e, changed_same b.entry (v.tick o) l) h
      same_line P t (no d) h = rw (changed_other b.entry (v.tick o) l t d) λ x. x

      filed : (q : ℕ) → Dec (q ≡ p) → (info (v.ht (changed_at v.pr p c q).own) (changed_at v.pr p c q).stage).kind ≡ 1 → Filed (changed_at b.entry (v.tick o) l) v.tick v.due v.item (changed_at v.pr p c q).own
      filed q (yes e) = rw (e, changed_same v.pr p c) λ k. absurd (not_insert k)
      filed q (no d) = rw (changed_other v.pr p c q d) λ k.
          let G = R.filed q k in
          let t = ℕ_discrete (v.tick (v.pr q).own) (v.tick o) in
          record {
            written = same_line (λ (x : BookEntry). x.written ≡ true) _ t (λ y. l_written ∙ y) G.written;
            due = same_line (λ (x : BookEntry). x.due ≡ v.due (v.pr q).own) _ t (λ y. l_due ∙ y) G.due;
            item = same_line (λ (x : BookEntry). x.item ≡ v.item (v.pr q).own) _ t (λ y. l_item ∙ y) G.item;
          }

      late :
          (t : ℕ) → Dec (t ≡ v.tick o) → (changed_at b.entry (v.tick o) l t).written ≡ true →
          (1 ≤ t) × (t ≤ b.count + 1)
      late t (yes e) = rw e λ w. still_past (R.late (v.tick o) F.written)
      late t (no d) = rw (changed_other b.entry (v.tick o) l t d) λ w. still_past (R.late t w)

-- what one processor has open changes, and no entry
pub rel_open : (v : View) (b : Book) (R : Rel v b) (p : ℕ) (c : Pr) (op : Open) →
    op ≡ opens c.stage c.begin (v.tick c.own) →
    ((info (v.ht c.own) c.stage).kind ≡ 1 → ⊥) → ((claim v p).kind ≡ 3 → ⊥) → Rel (ticked v p c) (after_call b b.entry p op)
rel_open v b R p c op e not_insert not-remover = record { count = omega (arith, R.count); opened = λ q. opened q (ℕ_discrete q p); kept = R.kept; found = R.found; unhanded = R.unhanded; filed = λ q. filed q (ℕ_discrete q p); late = λ t w. still_past (R.late t w); marker = λ n q n≥ n≤ nu m. marker n q (ℕ_discrete q p) (R.marker n q n≥ n≤ nu m) }
  where
    marker : (n q : ℕ) → Dec (q ≡ p) → Marker v n q → Marker (ticked v p c) n q
    marker n q (yes f) = rw f λ M. absurd (not-remover M.0)
    marker n q (no d) = rw (changed_other v.pr p c q d) λ M. M

    filed : (q : ℕ) → Dec (q ≡ p) → (claim (ticked v p c) q).kind ≡ 1 → Filed b.entry v.tick v.due v.item (changed_at v.pr p c q).own
    filed q (yes f) = rw (f, changed_same v.pr p c) λ k. absurd (not_insert k)
    filed q (no d) = rw (changed_other v.pr p c q d) (R.filed q)

    opened : (q : ℕ) → Dec (q ≡ p) → changed_at b.opened p op q ≡ opens (changed_at v.pr p c q).stage
        (changed_at v.pr p c q).begin (v.tick (changed_at v.pr p c q).own)
    opened q (yes f) = rw (f, changed_same v.pr p c, changed_same b.opened p op) e
    opened q (no d) = rw (changed_other v.pr p c q d, changed_other b.opened p op q d) (R.opened q)

-- what the book has of a node in use
in_use_filed : (v : View) (b : Book) (R : Rel v b) (n : ℕ) → 1 ≤ n → n ≤ v.nodes → v.us n ≡ 1 → Filed b.entry v.tick v.due v.item n
in_use_filed v b R n n≥ n≤ nu = let l = R.kept n n≥ n≤ nu in record { written = ap (λ (x : BookEntry). x.written) l; due = ap (λ (x : BookEntry). x.due) l; item = ap (λ (x : BookEntry). x.item) l }

module _ (v : View) (u : ℕ → ℕ → ℕ) (I : Inv v u) (H : NodeHeld v) (room : v.clock + 1 < ever) (b : Book) (R : Rel v b) (p : ℕ) where
  open_at : (s : Stage) → (v.pr p).stage ≡ s →
      b.opened p ≡ opens s (v.pr p).begin (v.tick (v.pr p).own)
  open_at s e = R.opened p ∙ ap (λ (k : Stage). opens k (v.pr p).begin (v.tick (v.pr p).own))
      e

  -- a node's due, item and ticket are those of the entry under its ticket
  tells : (n : ℕ) → Filed b.entry v.tick v.due v.item n →
      gives b (entry_at v n) (v.tick n) ≡ true
  tells n F = gives_true b (entry_at v n) (v.tick n) (sym F.due) (sym F.item) refl

  stamp_booked : (v.pr p).stage ≡ stage.Insert ins.Stamp → Booked v p b (decision v p (stage.Insert ins.Stamp))
  stamp_booked e =
      let s = stage.Insert ins.Stamp in
      let o = (v.pr p).own in
      let S = (busy_at v u I p s e (omega arith)).inserts refl in
      let F = R.filed p (kind_at v u I p s e) in
      let same = tells o F in
      record {
        after = after_call b (changed_at b.entry (v.tick o) (with_answer (b.entry (v.tick o)) (b.count + 1))) p nothing;
        fed = rw (open_at s e, same);
        rel = rel_line v u I b R p (idle v.top (v.pr p)) v.mk (changed_at v.st o (v.clock + 1)) v.us o
            (with_answer (b.entry (v.tick o)) (b.count + 1)) nothing S.low S.high (insert_used S (ℕ_discrete (v.us o) 1)) F (λ n d. refl) (λ n d. changed_other v.st o (v.clock + 1) n d) (λ n d. refl)
            refl refl refl
            (λ nu. rw (R.kept o S.low S.high nu, R.count, changed_same v.st o (v.clock + 1))) (λ m. R.found (v.tick o) F.written m) (R.unhanded (v.tick o)) refl (λ k. omega arith)
            (λ k. absurd (omega (arith, kind_at v u I p s e)))
            (λ q nu m. unmoved o q (ℕ_discrete q p) (R.marker o q S.low S.high nu m));
      }
    where
      unmoved : (n q : ℕ) → Dec (q ≡ p) → Marker v n q → Marker (ticked v p (idle v.top (v.pr p))) n q
      unmoved n q (yes f) = rw f λ M. absurd (omega (arith, kind_at v u I p (stage.Insert ins.Stamp) e, M.0))
      unmoved n q (no d) = rw (changed_other v.pr p (idle v.top (v.pr p)) q d) λ M. M

      insert_used : {n T own lo hn : ℕ} → Inserts u v.us v.st v.tick n T own lo hn → Dec (v.us own ≡ 1) → 1 ≤ v.us own
      insert_used S (yes k) = omega arith
      insert_used S (no d) = omega (arith, S.later d)

  retire_booked : (job : Job) → (v.pr p).stage ≡ stage.Removal job rem.Retire →
      Booked v p b (decision v p (stage.Removal job rem.Retire))
  retire_booked job e =
      let o = (v.pr p).own in
      let S = (busy_at v u I p (stage.Removal job rem.Retire) e (omega arith)).removes refl in
      let l = R.kept o S.low S.high S.used in
      let F = in_use_filed v b R o S.low S.high S.used in
      let same = tells o F in
      let marked : (b.entry (v.tick o)).marked ≡ true = ap (λ (x : BookEntry). x.marked) l ∙ lt-ltb 0 (v.mk o) S.marked in
      go job e same (ap (λ (x : BookEntry). x.handed_out) l)
      (ap (λ (x : BookEntry). x.taken_back) l)
      (λ x h d i m y. rel_line v u I b R p (idle v.top (v.pr p)) v.mk v.st
      (changed_at v.us o (v.clock + 1 + 2)) o
      x nothing S.low S.high (omega (arith, S.used)) F (λ n d. refl) (λ n d. refl)
      (λ n d. changed_other v.us o (v.clock + 1 + 2) n d)
      h d i (λ nu. absurd (omega (arith, changed_same v.us o (v.clock + 1 + 2))))
      (λ n. absurd (true≢false (sym y ∙ n))) (λ n. absurd (true≢false (sym marked ∙ sym m ∙ n))) refl (λ k. omega arith)
      (λ k. refl) (λ q nu. absurd (omega (arith, changed_same v.us o (v.clock + 1 + 2)))))
    where
      go : (job : Job) → (v.pr p).stage ≡ stage.Removal job rem.Retire →
          gives b (entry_at v (v.pr p).own) (v.tick (v.pr p).own) ≡ true →
          (b.entry (v.tick (v.pr p).own)).handed_out ≡ false →
          (b.entry (v.tick (v.pr p).own)).taken_back ≡ false →
          ((x : BookEntry) → x.written ≡ (b.entry (v.tick (v.pr p).own)).written →
          x.due ≡ (b.entry (v.tick (v.pr p).own)).due →
          x.item ≡ (b.entry (v.tick (v.pr p).own)).item →
          x.marked ≡ (b.entry (v.tick (v.pr p).own)).marked →
          is_gone x ≡ true →
          Rel (ticked (with_status v v.mk v.st (changed_at v.us (v.pr p).own (v.clock + 1 + 2)))
          p (idle v.top (v.pr p)))
          (after_call b (changed_at b.entry (v.tick (v.pr p).own) x) p nothing)) →
          Booked v p b (decision v p (stage.Removal job rem.Retire))
      go jobs.Deliver e same out back rel = record {
        after = after_call b
            (changed_at b.entry (v.tick (v.pr p).own)
            (with_hand_out (b.entry (v.tick (v.pr p).own)))) p nothing;
        fed = rw (open_at (stage.Removal jobs.Deliver rem.Retire) e, same, out, back);
        rel = rel (with_hand_out (b.entry (v.tick (v.pr p).own))) refl refl refl refl refl;
      }
      go jobs.TakeBack e same out back rel = record {
        after = after_call b
            (changed_at b.entry (v.tick (v.pr p).own)
            (with_taken_back (b.entry (v.tick (v.pr p).own)))) p nothing;
        fed = rw (open_at (stage.Removal jobs.TakeBack rem.Retire) e, same, out, back);
        rel = rel (with_taken_back (b.entry (v.tick (v.pr p).own))) refl refl refl refl (rw out);
      }

  quiet_step : (s : Stage) → (v.pr p).stage ≡ s → 1 ≤ (info (v.ht (v.pr p).own) s).kind →
      (d : Decision) → Quiet (v.pr p).own s d → Booked v p b d
  quiet_step s e k d Q = quiet_booked v p b d R (omega (arith, kind_at v u I p s e))
      (subst (λ (n : Stage). Quiet (v.pr p).own n d) (sym e) Q)

  -- EMPTY of a walk
  nothing_left : (s : Stage) → (v.pr p).stage ≡ s →
      (a : Place) → info (v.ht (v.pr p).own) s ≡ walk_info 2 0 a → v.fwd a.node 1 ≡ tail v →
      pick b (v.pr p).begin ≡ 0
  nothing_left s e a is t =
      pick_none v u I b R (v.pr p).begin
      (λ n L. empty_right v u I room p s e 2 0 a is H refl t n L)

  -- what a step of a walk reads
  abbrev sees : Place → StepView
  sees a = view v (v.pr p) (key v (v.pr p).own) (place a.node 1)

  -- a step of a walk that moves on
  walks_on : (s : Stage) → (v.pr p).stage ≡ s → 1 ≤ (info (v.ht (v.pr p).own) s).kind →
      (a : Place) (g : Stage) → ((h : ℕ) → (info h g).kind ≡ (info h s).kind) →
      ((T t : ℕ) → opens g T t ≡ opens s T t) → Booked v p b (moved (sees a) eff.Keep g)
  walks_on s e k a g kind opening =
      quiet_step s e k _ (record {
        answer = tt;
        effect = tt;
        own_same = refl;
        begin_same = λ t b. refl;
        kind_same = kind;
        opens_same = opening;
      })

  -- EMPTY in the book, where a walk of either kind is open
  empty_booked : (s : Stage) → (v.pr p).stage ≡ s → (a : Place) →
      info (v.ht (v.pr p).own) s ≡ walk_info 2 0 a → v.fwd a.node 1 ≡ tail v →
      empties b p (opens s (v.pr p).begin (v.tick (v.pr p).own))
      ≡ empty_at b p (v.pr p).begin → Booked v p b (answers eff.Keep ans.Empty)
  empty_booked s e a is t opened = record {
    after = after_call b b.entry p nothing;
    fed = rw (
      open_at s e,
      opened,
      eq-eqb (pick b (v.pr p).begin) 0 (nothing_left s e a is t),
    );
    rel = rel_open v b R p (idle v.top (v.pr p)) nothing refl (λ k. omega arith)
        (λ k. omega (arith, kind_at v u I p s e, ap (λ (f : Info). f.kind) is));
  }

  next_booked : (a : Place) → (v.pr p).stage ≡ stage.Delete (del.ReadNext a) →
      Booked v p b (decision v p (stage.Delete (del.ReadNext a)))
  next_booked a e =
      let s = stage.Delete (del.ReadNext a) in
      cond_cases (Booked v p b) (eqb (v.fwd a.node 1) (tail v)) _ _
      (λ x. empty_booked s e a refl (eqb-true _ _ x) refl)
      (λ x. walks_on s e (omega arith) a _ (λ h. refl) (λ T t. refl))

  relaxed_next_booked : (a : Place) → (v.pr p).stage ≡ stage.Relaxed (rlx.ReadNext a) →
      Booked v p b (decision v p (stage.Relaxed (rlx.ReadNext a)))
  relaxed_next_booked a e =
      let s = stage.Relaxed (rlx.ReadNext a) in
      cond_cases (Booked v p b) (eqb (v.fwd a.node 1) (tail v)) _ _
      (λ x. empty_booked s e a refl (eqb-true _ _ x) refl)
      (λ x. cond_elim (Booked v p b) (eqb (v.fwd a.node 1) 0) _ _
      (walks_on s e (omega arith) a _ (λ h. refl) (λ T t. refl))
      (walks_on s e (omega arith) a _ (λ h. refl) (λ T t. refl)))

  -- the mark of a node in use, in the book
  rel_mark : (claim v p).kind ≡ 2 → (job : Job) (n : ℕ) → 1 ≤ n → n ≤ v.nodes → v.us n ≡ 1 →
      Rel (ticked (with_status v (changed_at v.mk n (suc p)) v.st v.us) p (record { begin = (v.pr p).begin; own = n; stage = stage.Removal job (rem.Search (place 0 v.top)); saved = (v.pr p).saved }))
      (after_call b (changed_at b.entry (v.tick n) (with_marked (b.entry (v.tick n)))) p
      (opens (stage.Removal job (rem.Search (place 0 v.top))) (v.pr p).begin (v.tick n)))
  rel_mark walks job n low high used =
      let l = R.kept n low high used in
      let c : Pr = record { begin = (v.pr p).begin; own = n; stage = stage.Removal job (rem.Search (place 0 v.top)); saved = (v.pr p).saved } in
      rel_line v u I b R p (record { begin = (v.pr p).begin; own = n; stage = stage.Removal job (rem.Search (place 0 v.top)); saved = (v.pr p).saved }) (changed_at v.mk n (suc p)) v.st v.us n
      (with_marked (b.entry (v.tick n))) _ low high (omega (arith, used))
      (in_use_filed v b R n low high used) (λ m d. changed_other v.mk n (suc p) m d) (λ m d. refl)
      (λ m d. refl)
      refl refl refl (λ nu. rw (l, changed_same v.mk n (suc p), lt-ltb 0 (suc p) (omega arith)))
      (λ m. R.found (v.tick n) (ap (λ (x : BookEntry). x.written) l) m) (λ m. absurd (true≢false m)) refl
      (λ k. omega arith) (λ k. absurd (omega arith))
      (λ q nu m. let e : q ≡ p = omega (arith, changed_same v.mk n (suc p)) in
      rw (e, changed_same v.pr p c) (refl, refl))

  mark_booked : (a : Place) → (v.pr p).stage ≡ stage.Delete (del.SetMark a) →
      Booked v p b (decision v p (stage.Delete (del.SetMark a)))
  mark_booked a e =
      cond_cases (Booked v p b) (ltb 0 (v.mk n)) _ _
      (λ x. walks_on s e (omega arith) a _ (λ h. refl) (λ T t. refl)) unmarked
    where
      s : Stage
      s = stage.Delete (del.SetMark a)

      n : ℕ
      n = a.node

      unmarked : ltb 0 (v.mk n) ≡ false →
          Booked v p b (marking jobs.Deliver (sees a) a)
      unmarked x =
          let L = mark_able v u I room p s e 1 2 a refl refl
          (omega (arith, ltb-false 0 (v.mk n) x)) in
          let l = R.kept n L.low L.high L.used in
          let is = pick_is v u I b R (v.pr p).begin n L
          (mark_first v u I room p s e 1 2 a refl (omega arith)) in
          let same = tells n (in_use_filed v b R n L.low L.high L.used) in
          let late = R.late (v.tick n) (ap (λ (x : BookEntry). x.written) l) in
          let pos = lt-ltb 0 (v.tick n) late.0 in
          record {
            after = after_mark b jobs.Deliver p (v.tick n);
            fed = rw (open_at s e, is, pos, same);
            rel = rel_mark (kind_at v u I p s e) jobs.Deliver n L.low L.high L.used;
          }

  -- W3 of a Relaxed one: the pick is not earlier than the node's entry
  none_earlier : (n : ℕ) → 1 ≤ n → n ≤ v.nodes → v.us n ≡ 1 →
      ((x : ℕ) → Eligible v.us v.st v.mk v.nodes (v.pr p).begin x →
      key v n ≤ key v x) →
      (eqb (pick b (v.pr p).begin) 0 || not (earlier b (pick b (v.pr p).begin) (v.tick n)))
      ≡ true
  none_earlier n low high used first =
      go (picked b (v.pr p).begin (small v u I b R (v.pr p).begin))
    where
      go : Picked b (v.pr p).begin b.count (pick b (v.pr p).begin) →
          (eqb (pick b (v.pr p).begin) 0 || not (earlier b (pick b (v.pr p).begin) (v.tick n)))
          ≡ true
      go (none z k) = rw (eq-eqb (pick b (v.pr p).begin) 0 z)
      go (one l i C m) =
          let E = eligible_of v u I b R (v.pr p).begin (pick b (v.pr p).begin) C in
          let N = E.2 in
          let le : order b (v.tick n) ≤ order b (v.tick E.0) = omega (
            arith,
            first E.0 N,
            order_of v u I b R (v.pr p).begin E.0 N.low N.high N.used,
            order_of v u I b R (v.pr p).begin n low high used,
          ) in
          let not_before : earlier b (pick b (v.pr p).begin) (v.tick n) ≡ false =
          entries_before (b.entry (pick b (v.pr p).begin)).due (pick b (v.pr p).begin)
          (b.entry (v.tick n)).due (v.tick n) (omega (arith, R.count, I.core.clock))
          (omega (arith, (I.core.entered n low (omega arith)).ticket, I.core.clock))
          ∙ le-ltb (order b (pick b (v.pr p).begin)) (order b (v.tick n)) (rw E.1 at le) in
          rw (not_before, ne_eqb (pick b (v.pr p).begin) 0 (λ z. omega arith))

  relaxed_mark_booked : (a : Place) → (v.pr p).stage ≡ stage.Relaxed (rlx.SetMark a) →
      Booked v p b (decision v p (stage.Relaxed (rlx.SetMark a)))
  relaxed_mark_booked a e =
      cond_cases (Booked v p b) (ltb 0 (v.mk n)) _ _
      (λ x. walks_on s e (omega arith) a _ (λ h. refl) (λ T t. refl)) unmarked
    where
      s : Stage
      s = stage.Relaxed (rlx.SetMark a)

      n : ℕ
      n = a.node

      unmarked : ltb 0 (v.mk n) ≡ false →
          Booked v p b (marking jobs.Deliver (sees a) a)
      unmarked x =
          let M = mark_place v u I room p s e 1 1 a refl (omega arith)
          (omega (arith, ltb-false 0 (v.mk n) x)) in
          let l = R.kept n M.0 M.1 M.2 in
          let first = none_earlier n M.0 M.1 M.2
          (mark_first v u I room p s e 1 1 a refl (omega arith)) in
          let same = tells n (in_use_filed v b R n M.0 M.1 M.2) in
          record {
            after = after_mark b jobs.Deliver p (v.tick n);
            fed = rw (
              open_at s e,
              same,
              first,
              ap (λ (x : BookEntry). x.written) l,
              ap (λ (x : BookEntry). x.marked) l,
              x,
            );
            rel = rel_mark (kind_at v u I p s e) jobs.Deliver n M.0 M.1 M.2;
          }

  -- a Remove before its mark
  module _ (w : Wanted) (due≤ : w.due ≤ 999999) (ticket≤ : w.ticket ≤ 999999) where
    abbrev T : ℕ
    T = (v.pr p).begin

    abbrev goal : ℕ
    goal = entry_rank w.due w.ticket

    -- where no node that it may mark has its key, the book has no such entry
    not_there :
        ((n : ℕ) → Eligible v.us v.st v.mk v.nodes (v.pr p).begin n →
        key v n ≡ entry_rank w.due w.ticket → ⊥) → there b w (v.pr p).begin ≡ false
    not_there h = go (there b w (v.pr p).begin) refl
      where
        go : (c : Bool) → there b w (v.pr p).begin ≡ c → c ≡ false
        go false e = refl
        go true e =
            let c = candidate b (v.pr p).begin w.ticket in
            let d = eqb (b.entry w.ticket).due w.due in
            let C = candidate_true b (v.pr p).begin w.ticket (and_left c d e) in
            let E = eligible_of v u I b R (v.pr p).begin w.ticket C in
            let N = E.2 in
            let l = R.kept E.0 N.low N.high N.used in
            let due : v.due E.0 ≡ w.due = sym (ap (λ (x : BookEntry). x.due) l)
            ∙ ap (λ (t : ℕ). (b.entry t).due) E.1 ∙ eqb-true _ _ (and_right c d e) in
            absurd (h E.0 N
            (rank_entry v.nodes v.due v.tick E.0 N.low N.high
            ∙ rw (due, E.1) refl))

    missed : (s : Stage) → (v.pr p).stage ≡ s → (info (v.ht (v.pr p).own) s).kind ≡ 2 →
        opens s (v.pr p).begin (v.tick (v.pr p).own) ≡ seeking w (v.pr p).begin →
        there b w (v.pr p).begin ≡ false → Booked v p b (missing w)
    missed s e two o x = record {
      after = after_call b b.entry p nothing;
      fed = rw (
        open_at s e ∙ o,
        x,
        eq-eqb w.due w.due refl,
        eq-eqb w.ticket w.ticket refl,
      );
      rel = rel_open v b R p (idle v.top (v.pr p)) nothing refl (λ k. omega arith)
          (λ k. omega (arith, kind_at v u I p s e));
    }

    find_searched : (s : StepView) (a : Place) (r : Searched) →
        Quiet s.own (stage.Remove w (rmv.Search a)) (remove_searched s w a r)
    find_searched s a (srch.Ahead b) = quiet_by tt tt refl (λ t b. refl) (λ h. refl) (λ T t. refl)
    find_searched s a (srch.Down b) = quiet_by tt tt refl (λ t b. refl) (λ h. refl) (λ T t. refl)
    find_searched s a (srch.Done b) = quiet_by tt tt refl (λ t b. refl) (λ h. refl) (λ T t. refl)

    -- its mark: the entry of its key is there
    marks_there : (n : ℕ) → b.opened p ≡ seeking w (v.pr p).begin → v.tick n ≡ w.ticket →
        candidate b (v.pr p).begin (v.tick n) ≡ true → (b.entry (v.tick n)).due ≡ w.due →
        gives b (entry_at v n) (v.tick n) ≡ true →
        feed_step b p (ans.Did deed.Marked (entry_at v n))
        ≡ agrees (after_mark b jobs.TakeBack p (v.tick n))
    marks_there n o t C d same =
        rw (o, sym t, C, same, eq-eqb (b.entry (v.tick n)).due w.due d)

    find_marked : (a : Place) → (v.pr p).stage ≡ stage.Remove w (rmv.SetMark a) →
        v.mk a.node ≡ 0 →
        Booked v p b (marking jobs.TakeBack
        (view_for v (v.pr p) goal (asks_for (stage.Remove w (rmv.SetMark a))) (place a.node 1)) a)
    find_marked a e m =
        let n = a.node in
        let s = stage.Remove w (rmv.SetMark a) in
        let M = find_marks v u I room p w due≤ ticket≤ a e m in
        let L = M.0 in
        let l = R.kept n L.low L.high L.used in
        let z : entry_rank (v.due a.node) (v.tick a.node) ≡ entry_rank w.due w.ticket =
        sym (rank_entry v.nodes v.due v.tick n L.low L.high) ∙ M.1 in
        let low : v.tick a.node ≤ 999999 = omega (
          arith,
          (I.core.entered n L.low (omega (arith, L.high))).ticket,
          I.core.clock,
        ) in
        let t : v.tick a.node ≡ w.ticket = omega arith in
        let d : v.due a.node ≡ w.due = omega arith in
        let C = candidate_is b (v.pr p).begin (v.tick n)
        (candidate_of_lem v u I b R (v.pr p).begin n L) in
        record {
          after = after_mark b jobs.TakeBack p (v.tick n);
          fed = marks_there n (open_at s e) t C (ap (λ (x : BookEntry). x.due) l ∙ d)
              (tells n (in_use_filed v b R n L.low L.high L.used));
          rel = rel_mark (kind_at v u I p s e) jobs.TakeBack n L.low L.high L.used;
        }

    find_booked : (d : Remove) → (v.pr p).stage ≡ stage.Remove w d →
        Booked v p b (decision v p (stage.Remove w d))
    find_booked (rmv.Search a) e =
        let s = stage.Remove w (rmv.Search a) in
        let sees = view_for v (v.pr p) goal (asks_for s) a in
        quiet_step s e (omega arith) _ (find_searched sees a (search_step sees a))
    find_booked (rmv.ReadNext a) e =
        let s = stage.Remove w (rmv.ReadNext a) in
        let k = key v (v.fwd a.node 1) in
        cond_cases (Booked v p b) (ltb k goal) _ _
        (λ x. quiet_step s e (omega arith) _
        (quiet_by tt tt refl (λ t b. refl) (λ h. refl) (λ T t. refl)))
        (λ x. cond_cases (Booked v p b) (eqb k goal) _ _
        (λ y. quiet_step s e (omega arith) _
        (quiet_by tt tt refl (λ t b. refl) (λ h. refl) (λ T t. refl)))
        (λ y. missed s e refl refl
        (not_there (none_next v u I room p w due≤ ticket≤ a e H (ltb-false _ _ x)
        (eqb-false _ _ y)))))
    find_booked (rmv.TestStamp a) e =
        let s = stage.Remove w (rmv.TestStamp a) in
        cond_cases (Booked v p b) (ltb (v.st a.node) (v.pr p).begin) _ _
        (λ x. quiet_step s e (omega arith) _
        (quiet_by tt tt refl (λ t b. refl) (λ h. refl) (λ T t. refl)))
        (λ x. missed s e refl refl
        (not_there (none_stamped v u I room p w due≤ ticket≤ a e (ltb-false _ _ x))))
    find_booked (rmv.SetMark a) e =
        let s = stage.Remove w (rmv.SetMark a) in
        cond_cases (Booked v p b) (ltb 0 (v.mk a.node)) _ _
        (λ x. missed s e refl refl (not_there (none_marked v u I room p w due≤ ticket≤ a e
        (λ h. omega (arith, ltb-true 0 (v.mk a.node) x)))))
        (λ x. find_marked a e (omega (arith, ltb-false 0 (v.mk a.node) x)))

  pub booked : (s : Stage) → (v.pr p).stage ≡ s → 1 ≤ (info (v.ht (v.pr p).own) s).kind →
      Wants s → Booked v p b (decision v p s)
  booked stage.Idle e k wants = absurd (omega arith)
  booked (stage.Insert (ins.Search a)) e k wants =
      quiet_step (stage.Insert (ins.Search a)) e k _
      (quiet_insert_searched (view v (v.pr p) (key v (v.pr p).own) a) a
      (search_step (view v (v.pr p) (key v (v.pr p).own) a) a))
  booked (stage.Insert (ins.Seek j)) e k wants =
      quiet_step (stage.Insert (ins.Seek j)) e k _
      (quiet_insert_sought (view v (v.pr p) (key v (v.pr p).own) (seek_part j).place) j
      (seek_step (view v (v.pr p) (key v (v.pr p).own) (seek_part j).place) j)
      (seek_quiet (view v (v.pr p) (key v (v.pr p).own) (seek_part j).place) j))
  booked (stage.Insert (ins.Copy a)) e k wants =
      quiet_step (stage.Insert (ins.Copy a)) e k _
      (quiet_by tt tt refl (λ t b. refl) (λ h. refl) (λ T t. refl))
  booked (stage.Insert (ins.Link a)) e k wants =
      quiet_step (stage.Insert (ins.Link a)) e k _
      (quiet_by tt tt refl (λ t b. refl) (λ h. refl) (λ T t. refl))
  booked (stage.Insert (ins.FreeLevel a)) e k wants =
      quiet_step (stage.Insert (ins.FreeLevel a)) e k _
      (cond_elim (Quiet (v.pr p).own (stage.Insert (ins.FreeLevel a)))
      (ltb a.level (v.ht (v.pr p).own)) _ _
      (quiet_by tt tt refl (λ t b. refl) (λ h. refl) (λ T t. refl))
      (quiet_by tt tt refl (λ t b. refl) (λ h. refl) (λ T t. refl)))
  booked (stage.Insert ins.FreeNode) e k wants =
      quiet_step (stage.Insert ins.FreeNode) e k _
      (quiet_by tt tt refl (λ t b. refl) (λ h. refl) (λ T t. refl))
  booked (stage.Insert ins.Stamp) e k wants = stamp_booked e
  booked (stage.Delete (del.ReadNext a)) e k wants = next_booked a e
  booked (stage.Delete (del.TestStamp a)) e k wants =
      quiet_step (stage.Delete (del.TestStamp a)) e k _
      (cond_elim (Quiet (v.pr p).own (stage.Delete (del.TestStamp a)))
      (ltb (v.st a.node) (v.pr p).begin) _ _
      (quiet_by tt tt refl (λ t b. refl) (λ h. refl) (λ T t. refl))
      (quiet_by tt tt refl (λ t b. refl) (λ h. refl) (λ T t. refl)))
  booked (stage.Delete (del.SetMark a)) e k wants = mark_booked a e
  booked (stage.Relaxed (rlx.ReadNext a)) e k wants = relaxed_next_booked a e
  booked (stage.Relaxed (rlx.SetMark a)) e k wants = relaxed_mark_booked a e
  booked (stage.Remove w d) e k wants = find_booked w wants.0 wants.1 d e
  booked (stage.Removal job (rem.Search a)) e k wants =
      quiet_step (stage.Removal job (rem.Search a)) e k _
      (quiet_delete_searched job (view v (v.pr p) (key v (v.pr p).own) a) a
      (search_step (view v (v.pr p) (key v (v.pr p).own) a) a))
  booked (stage.Removal job rem.HoldNode) e k wants =
      let s = view v (v.pr p) (key v (v.pr p).own) (place 0 1) in
      quiet_step (stage.Removal job rem.HoldNode) e k _
      (cond_elim
      (λ t. Quiet (v.pr p).own (stage.Removal job rem.HoldNode) (node_tried job s t))
      (eqb (v.nl (v.pr p).own) 0) _ _
      (quiet_by tt tt refl (λ t b. refl) (λ h. refl) (λ T t. refl))
      (quiet_by tt tt refl (λ t b. refl) (λ h. refl) (λ T t. refl)))
  booked (stage.Removal job (rem.Seek j)) e k wants =
      quiet_step (stage.Removal job (rem.Seek j)) e k _
      (quiet_delete_sought job (view v (v.pr p) (key v (v.pr p).own) (seek_part j).place) j
      (seek_step (view v (v.pr p) (key v (v.pr p).own) (seek_part j).place) j)
      (seek_quiet (view v (v.pr p) (key v (v.pr p).own) (seek_part j).place) j))
  booked (stage.Removal job (rem.HoldOwn a)) e k wants =
      let s = view v (v.pr p) (key v (v.pr p).own) a in
      quiet_step (stage.Removal job (rem.HoldOwn a)) e k _
      (cond_elim
      (λ t. Quiet (v.pr p).own (stage.Removal job (rem.HoldOwn a)) (own_tried job s a t))
      (eqb (v.lk (v.pr p).own a.level) 0) _ _
      (quiet_by tt tt refl (λ t b. refl) (λ h. refl) (λ T t. refl))
      (quiet_by tt tt refl (λ t b. refl) (λ h. refl) (λ T t. refl)))
  booked (stage.Removal job (rem.Unlink a)) e k wants =
      quiet_step (stage.Removal job (rem.Unlink a)) e k _
      (quiet_by tt tt refl (λ t b. refl) (λ h. refl) (λ T t. refl))
  booked (stage.Removal job (rem.LeadBack a)) e k wants =
      quiet_step (stage.Removal job (rem.LeadBack a)) e k _
      (quiet_by tt tt refl (λ t b. refl) (λ h. refl) (λ T t. refl))
  booked (stage.Removal job (rem.FreeOwn a)) e k wants =
      quiet_step (stage.Removal job (rem.FreeOwn a)) e k _
      (quiet_by tt tt refl (λ t b. refl) (λ h. refl) (λ T t. refl))
  booked (stage.Removal job (rem.FreeLevel a)) e k wants =
      quiet_step (stage.Removal job (rem.FreeLevel a)) e k _
      (cond_elim (Quiet (v.pr p).own (stage.Removal job (rem.FreeLevel a)))
      (leb a.level 1) _ _
      (quiet_by tt tt refl (λ t b. refl) (λ h. refl) (λ T t. refl))
      (quiet_by tt tt refl (λ t b. refl) (λ h. refl) (λ T t. refl)))
  booked (stage.Removal job rem.FreeNode) e k wants =
      quiet_step (stage.Removal job rem.FreeNode) e k _
      (quiet_by tt tt refl (λ t b. refl) (λ h. refl) (λ T t. refl))
  booked (stage.Removal job rem.Retire) e k wants = retire_booked job e
