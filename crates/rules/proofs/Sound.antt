-- What is kept by every call of a list: the invariant of the record's view, its relation to the book, and the arrays' lengths.
use mathlib.Core.Path.{◌≡◌, refl, sym, ap, subst, ◌∙◌}
use mathlib.Core.Bool.{true, false}
use Prim.Native.Nat.{ℕ, ◌+◌, ◌-◌, ◌≤◌, ◌<◌}
use native.Mathlib.Omega.{arith}
use native.Mathlib.Decide.{dec_le, dec_lt, ℕ_discrete}
use lib.Dec.{ltb}
use lib.Seq.{get_or-set_other}
use borrow.Author.Tests.{ltb-false, eqb-false, eq-eqb}
use Rattle.laws.specs.Update.{changed_at}
use Rattle.laws.proofs.Updating.{changed_other}
use Rattle.record.specs.declared.refusals.Refusal.{Refusal}
use Rattle.record.specs.Refusals.{refusal_number}
use Rattle.record.specs.declared.queues.Queue.{Queue}
use Rattle.record.specs.Queues.{processor_at, fresh_processor}
use Rattle.record.specs.Stages.{place, wanted_of, is_idle}
use Rattle.record.specs.Stages.{carried as carried_by}
use Rattle.record_check.specs.declared.check.Sizes.{Sizes}
use Rattle.record_check.specs.Check.{sizes_of}
use Rattle.record.specs.declared.stages.Delete.TheVariants as del
use Rattle.record.specs.declared.stages.Relaxed.TheVariants as rlx
use Rattle.record.specs.declared.stages.Remove.TheVariants as rmv
use Rattle.record.specs.declared.stages.Stage.{Stage}
use Rattle.record.specs.declared.stages.Stage.TheVariants as stage
use Rattle.rules.specs.declared.answers.Answer.{Answer}
use Rattle.rules.specs.declared.answers.Answer.TheVariants as ans
use Rattle.rules.specs.declared.answers.Outcome.{Outcome}
use Rattle.rules.specs.declared.decisions.Decision.{Decision}
use Rattle.rules.specs.Answers.{refused}
use Rattle.rules.specs.Book.{Book, Open, nothing, inserting, walking, relaxing, seeking}
use Rattle.rules.specs.Book.{Verdict, agrees, after_call, just_filed, feed_insert, feed_delete}
use Rattle.rules.specs.Book.{feed_relaxed, feed_remove, feed_step}
use Rattle.rules.specs.declared.calls.Call.{Call}
use Rattle.rules.specs.declared.calls.Call.TheVariants as call
use Rattle.rules.specs.Calls.{step_decision, insert_decision, decision_of, processor_of}
use Rattle.rules.specs.Calls.{walk_begins, called, begin_insert, begin_delete_min, begin_relaxed}
use Rattle.rules.specs.Calls.{begin_remove, step}
use Rattle.rules.proofs.Allowed.{Allowed, of_call, idle_begins, busy_steps, Numbers, numbers}
use Rattle.rules.specs.Choice.{chosen}
use Rattle.rules.specs.Effects.{accepted, processor_after}
use Rattle.rules.proofs.Put.{ever}
use Rattle.rules.proofs.View.{View, Info, info, walk_info, Wants, claim, tail}
use Rattle.rules.proofs.Inv.{Inv}
use Rattle.rules.proofs.Machine.{carried, decision, relevel}
use Rattle.laws.proofs.Booleans.{or_left, or_right}
use Rattle.rules.proofs.Kept.{kept, until_after}
use Rattle.rules.proofs.StageKinds.{kind_idle, kind_busy, idle_false}
use Rattle.rules.proofs.Assemble.{ticked}
use Rattle.rules.proofs.Begin.{walker, begin_walk, begin_find, begin_insert_lem, cleared, own_ne}
use Rattle.rules.proofs.ValidFacts.{ValidCarried, valid_facts}
use Rattle.rules.proofs.Rel.{opens, opens_idle, Rel}
use Rattle.rules.proofs.RelInsert.{rel_insert}
use Rattle.rules.proofs.Booked.{booked, rel_open}
use Rattle.rules.proofs.Concrete.{view_of}
use Rattle.rules.proofs.Refine.{Sized, Reach, applied_view, sized_applied, reaches, decision_same}
use Rattle.rules.proofs.Lead.{sure}
use Rattle.rules.proofs.Held.{Holds, by_place, by_own, by_node, Held, Takes, Passes, held_carried, node_held, passes}
use Rattle.rules.specs.Locks.{Lock}
use Rattle.rules.proofs.Choose.{Free, chosen_free}

-- check 21 holds the key of a Remove to its ranges
wants_of : (n : Sizes) (s : Stage) (own : ℕ) → ValidCarried n (carried_by s) own → Wants s
wants_of n stage.Idle own G = tt
wants_of n (stage.Insert i) own G = tt
wants_of n (stage.Delete d) own G = tt
wants_of n (stage.Relaxed d) own G = tt
wants_of n (stage.Remove w d) own G = (G.wanted.due, G.wanted.ticket.high)
wants_of n (stage.Removal job r) own G = tt

pub record Sound (q : Queue) (b : Book) : Type 0 where
  pub sized : Sized q
  -- the ghost function
  pub until : ℕ → ℕ → ℕ
  pub inv : Inv (view_of q) until
  -- whoever holds a lock says so
  pub held : Held (view_of q)
  pub rel : Rel (view_of q) b
  -- the processors from P on are idle
  pub confined : (r : ℕ) → q.processor_count ≤ r → is_idle (processor_at q r).stage ≡ true

-- the book agrees with the answer of an outcome, and what is kept is kept
pub record Agrees (feeds : Answer → Verdict) (o : Outcome) : Type 0 where
  pub book : Book
  pub fed : feeds o.answer ≡ agrees book
  pub sound : Sound o.queue book

module _ (q : Queue) (b : Book) (S : Sound q b) where
  abbrev v : View
  v = view_of q

  refused_agrees : (feeds : Answer → Verdict) (r : Refusal) → feeds (ans.Refused (refusal_number r)) ≡ agrees b → Agrees feeds (refused q r)
  refused_agrees feeds r e = record { book = b; fed = e; sound = S }

  -- an accepted call, by what its decision does to the view
  accepted_agrees : (feeds : Answer → Verdict) (p : ℕ) (d : Decision) (b' : Book) (u : ℕ → ℕ → ℕ) → p < q.processor_count → q.clock + 1 ≤ 999999 → Reach q.node_count d →
      Passes (claim v p) (v.pr p).own d → feeds d.answer ≡ agrees b' → Inv (carried v p d) u → Rel (carried v p d) b' → Agrees feeds (accepted q p d)
  accepted_agrees feeds p d b' u p< t≤ R P e I rel =
      let p16 : p < 16 = omega (arith, S.sized.procs) in
      let same = applied_view q S.sized p d p16 S.inv.core.size S.inv.core.levels_high R in
      record {
        book = b';
        fed = e;
        sound = record {
          sized = sized_applied q S.sized p d p16 S.inv.core.size t≤ R;
          until = u;
          inv = subst (λ (w : View). Inv w u) (sym same) I;
          held = subst Held (sym same) (held_carried v p S.held d P);
          rel = subst (λ (w : View). Rel w b') (sym same) rel;
          confined = λ r h. rw (get_or-set_other q.processors p r (processor_after q.level_count (q.clock + 1) (processor_at q p) d) fresh_processor (λ g. omega arith)) (S.confined r h);
        };
      }

  -- a call, of which a refusal changes nothing in the book
  of : (c : Call) (feeds : Answer → Verdict) → ((n : ℕ) → feeds (ans.Refused n) ≡ agrees b) →
      (Allowed q c → Agrees feeds (accepted q (processor_of c) (decision_of q c))) →
      Agrees feeds (called q c)
  of c feeds r h =
      of_call (Agrees feeds) q c (λ n. refused_agrees feeds n (r (refusal_number n))) (λ _ A. h A)

  -- an idle processor holds nothing
  idle_passes : (p : ℕ) → (claim v p).kind ≡ 0 → (d : Decision) → ((h : ℕ) (l : Lock) → Takes d.effect l → Holds (info h d.stage) d.own l) → Passes (claim v p) (v.pr p).own d
  idle_passes p K d gains = record { keeps = λ h l H. absurd (none H); gains = gains }
    where
      none : {l : Lock} → Holds (claim v p) (v.pr p).own l → ⊥
      none (by_place x e) = (sure v p).place_kind x K
      none (by_own x e) = omega (arith, (sure v p).own_own x)
      none (by_node x e) = omega (arith, (sure v p).node_kind x)

  module _ (p : ℕ) where
    -- what an idle processor has open
    open_idle : is_idle (processor_at q p).stage ≡ true → b.opened p ≡ nothing
    open_idle i = S.rel.opened p ∙ opens_idle (v.ht (v.pr p).own) (processor_at q p).stage
        (kind_idle (v.ht (v.pr p).own) (processor_at q p).stage i) (v.pr p).begin
        (v.tick (v.pr p).own)

    pub step_agrees : Agrees (feed_step b p) (step q p)
    step_agrees =
        of_call (Agrees (feed_step b p)) q (call.Step p)
        (λ n. refused_agrees (feed_step b p) n refl)
        (λ ok A. busy (omega (arith, A.ticks)) A.here (busy_steps _ A.turn)
        (wants_of (sizes_of q) (processor_at q p).stage (processor_at q p).own
        ((valid_facts q ok).processors p A.here).carries))
      where
        busy : q.clock + 1 ≤ 999999 → p < q.processor_count →
            is_idle (processor_at q p).stage ≡ false → Wants (processor_at q p).stage →
            Agrees (feed_step b p) (accepted q p (step_decision q (processor_at q p)))
        busy t≤ p< i w =
            let s = (processor_at q p).stage in
            let k = kind_busy (v.ht (v.pr p).own) s i in
            let room : v.clock + 1 < ever = omega arith in
            let H = node_held v S.held in
            let B = booked v S.until S.inv H room b S.rel p s refl k w in
            subst (λ (d : Decision). Agrees (feed_step b p) (accepted q p d))
            (sym (decision_same q S.until S.sized S.inv p k w))
            (accepted_agrees (feed_step b p) p (decision v p s) B.after (until_after v S.until p s) p< t≤ (reaches v S.until S.inv p s refl k) (passes v p (v.ht (v.pr p).own) s)
            B.fed (kept v S.until S.inv H room p s refl k w) B.rel)

    -- the begin of an operation that takes no node, at the stage s, after which o is open
    ownless_begun : (feeds : Answer → Verdict) (s : Stage) (o : Open) →
        (info (v.ht 0) s).kind ≡ 2 →
        (v.clock + 1 < ever → (claim v p).kind ≡ 0 → Inv (ticked v p (walker v p s)) S.until) →
        o ≡ opens s (q.clock + 1) (v.tick 0) →
        (b.opened p ≡ nothing → b.count ≡ q.clock →
        feeds (ans.Began (q.clock + 1)) ≡ agrees (after_call b b.entry p o)) →
        q.clock + 1 ≤ 999999 → p < q.processor_count → is_idle (processor_at q p).stage ≡ true →
        Agrees feeds (accepted q p (walk_begins (q.clock + 1) s))
    ownless_begun feeds s o two inv same fed t≤ p< i =
        let K = kind_idle (v.ht (v.pr p).own) (processor_at q p).stage i in
        let d : Decision = walk_begins (q.clock + 1) s in
        accepted_agrees feeds p d (after_call b b.entry p o) S.until p< t≤
        (record { effect = tt; saves = tt; due_small = tt })
        (idle_passes p K d (λ h l t. absurd t))
        (fed (open_idle i) S.rel.count)
        (inv (omega arith) K)
        (rel_open v b S.rel p (walker v p s) o same (λ k. omega arith) (λ k. omega arith))

    -- of a walk
    walk_begun : (feeds : Answer → Verdict) (s : Stage) (o : Open) →
        info (v.ht 0) s ≡ walk_info 2 0 (place 0 1) → o ≡ opens s (q.clock + 1) (v.tick 0) →
        (b.opened p ≡ nothing → b.count ≡ q.clock →
        feeds (ans.Began (q.clock + 1)) ≡ agrees (after_call b b.entry p o)) →
        q.clock + 1 ≤ 999999 → p < q.processor_count → is_idle (processor_at q p).stage ≡ true →
        Agrees feeds (accepted q p (walk_begins (q.clock + 1) s))
    walk_begun feeds s o is =
        ownless_begun feeds s o (ap (λ (f : Info). f.kind) is)
        (λ room K. begin_walk v S.until S.inv room p K s is)

    pub delete_agrees : Agrees (feed_delete b p) (begin_delete_min q p)
    delete_agrees = of (call.DeleteMin p) (feed_delete b p) (λ n. refl)
        (λ A. walk_begun (feed_delete b p) (stage.Delete (del.ReadNext (place 0 1)))
        (walking (q.clock + 1)) refl refl
        (λ i c. rw (i, eq-eqb (q.clock + 1) (b.count + 1) (omega arith)))
        (omega (arith, A.ticks)) A.here (idle_begins _ A.turn))

    pub relaxed_agrees : Agrees (feed_relaxed b p) (begin_relaxed q p)
    relaxed_agrees = of (call.Relaxed p) (feed_relaxed b p) (λ n. refl)
        (λ A. walk_begun (feed_relaxed b p) (stage.Relaxed (rlx.ReadNext (place 0 1)))
        (relaxing (q.clock + 1)) refl refl
        (λ i c. rw (i, eq-eqb (q.clock + 1) (b.count + 1) (omega arith)))
        (omega (arith, A.ticks)) A.here (idle_begins _ A.turn))

    pub remove_agrees : (due ticket : ℕ) →
        Agrees (feed_remove b p (wanted_of due ticket)) (begin_remove q p due ticket)
    remove_agrees due ticket =
        let w = wanted_of due ticket in
        of (call.Remove p due ticket) (feed_remove b p w) (λ n. refl)
        (λ A. ownless_begun (feed_remove b p w)
        (stage.Remove w (rmv.Search (place 0 q.level_count))) (seeking w (q.clock + 1)) refl
        (λ room K. begin_find v S.until S.inv room p K w) refl
        (λ i c. rw (i, eq-eqb (q.clock + 1) (b.count + 1) (omega arith)))
        (omega (arith, A.ticks)) A.here (idle_begins _ A.turn))

    module _ (due item height : ℕ) where
      insert_begun : q.clock + 1 ≤ 999999 → p < q.processor_count → is_idle (processor_at q p).stage ≡ true → due ≤ 999999 → 1 ≤ height → height ≤ q.level_count → (x : ℕ) → Free q x →
          Agrees (feed_insert b p due item) (accepted q p (insert_decision q x due item height))
      insert_begun t≤ p< i due≤ h≥ h≤ x F =
          let room : v.clock + 1 < ever = omega arith in
          let K = kind_idle (v.ht (v.pr p).own) (processor_at q p).stage i in
          accepted_agrees (feed_insert b p due item) p (insert_decision q x due item height)
          (after_call b (changed_at b.entry (q.clock + 1) (just_filed due item)) p
          (inserting (q.clock + 1)))
          (cleared S.until x) p< t≤ (record { effect = (F.low, F.high); saves = tt; due_small = due≤ }) (idle_passes p K (insert_decision q x due item height) (λ h l t. by_node refl t))
          (rw (open_idle i, eq-eqb (q.clock + 1) (b.count + 1) (omega (arith, S.rel.count))))
          (begin_insert_lem v S.until S.inv room p K x due item height fw lw F.low F.high due≤ h≥ h≤ F.unused older unseen fw_same lw_same)
          (rel_insert v S.until S.inv b S.rel p x due item height fw lw F.low F.high F.unused
          (own_ne v S.until S.inv room p K x due item height fw lw F.low F.high due≤ h≥ h≤ F.unused older unseen fw_same lw_same) K)
        where
          fw : ℕ → ℕ → ℕ
          fw = relevel v.fwd x v.top (tail v)

          lw : ℕ → ℕ → ℕ
          lw = relevel v.lk x v.top 0

          fw_same : (n j : ℕ) → (n ≡ x → ⊥) → fw n j ≡ v.fwd n j
          fw_same n j ne = ap (λ (f : ℕ → ℕ). f j) (changed_other v.fwd x _ n ne)

          lw_same : (n j : ℕ) → (n ≡ x → ⊥) → lw n j ≡ v.lk n j
          lw_same n j ne = ap (λ (f : ℕ → ℕ). f j) (changed_other v.lk x _ n ne)

          below : (r : ℕ) → 1 ≤ (claim v r).kind → r < q.processor_count
          below r k = elim (dec_lt r q.processor_count) [ yes lt ↦ lt | no ge ↦ absurd (omega (arith, kind_idle (v.ht (v.pr r).own) (v.pr r).stage (S.confined r (omega arith)))) ]

          -- a node that may be taken was retired before every busy processor began
          older : (r : ℕ) → 1 ≤ (claim v r).kind → v.us x < (v.pr r).begin + 2
          older r k = elim (dec_le 2 (v.us x)) [
            | yes two ↦ omega (arith, F.after two r (below r k) (idle_false (v.ht (v.pr r).own) (v.pr r).stage k))
            | no less ↦ omega arith
          ]

          -- and is seen by none
          unseen : (r j : ℕ) → 1 ≤ (claim v r).kind → 1 ≤ j → S.until x j < (v.pr r).begin
          unseen r j k j≥ =
              let E = S.inv.core.entered x F.low (omega (arith, F.high)) in
              elim (ℕ_discrete (v.us x) 0) [
                | yes z ↦ omega (arith, E.never z j, (S.inv.busy r k).begun)
                | no z ↦ let two : 2 ≤ v.us x = let f : (v.us x ≡ 1 → ⊥) = F.unused in omega arith in
                    omega (arith, E.retired (v.us x - 2) (omega arith) j j≥, F.after two r (below r k) (idle_false (v.ht (v.pr r).own) (v.pr r).stage k))
              ]

      pub insert_agrees : Agrees (feed_insert b p due item) (begin_insert q p due item height)
      insert_agrees = of (call.Insert p due item height) (feed_insert b p due item) (λ n. refl)
          (λ A. begun A (numbers p due item height q.level_count (chosen q) A.numbers A.node))
        where
          begun : Allowed q (call.Insert p due item height) →
              Numbers due item height q.level_count (chosen q) →
              Agrees (feed_insert b p due item) (accepted q p (insert_decision q (chosen q) due item height))
          begun A n =
              let x≥ : 1 ≤ chosen q =
              let ne : (chosen q ≡ 0 → ⊥) = eqb-false (chosen q) 0 n.node_there in omega arith in
              insert_begun (omega (arith, A.ticks)) A.here (idle_begins _ A.turn)
              (ltb-false 999999 due (or_left (ltb 999999 due) (ltb 999999 item) n.small))
              (ltb-false height 1 (or_left (ltb height 1) (ltb q.level_count height) n.height_within))
              (ltb-false q.level_count height
              (or_right (ltb height 1) (ltb q.level_count height) n.height_within))
              (chosen q) (chosen_free q x≥)
