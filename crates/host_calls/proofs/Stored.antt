-- What the entries' proofs need of the definitions of specs/Entries, over any bytes and any
-- outcome. Assumes nothing.
use mathlib.Core.Path.{◌≡◌, refl, sym, ap, subst, ◌∙◌}
use mathlib.Core.Bool.{Bool, true, false, cond, ◌&&◌, ◌||◌, true≢false}
use mathlib.Core.List.{List, [], ◌∷◌}
use Rattle.std.specs.Prelude.{Some, None, Result, Ok, Err}
use Rattle.std.specs.Result.{result_err}
use Prim.Native.Nat.{ℕ, ◌*◌, ◌≤◌, ◌<◌}
use native.Mathlib.Omega.{arith}
use lib.ListN.{length, get_or}
use lib.Dec.{ltb}
use borrow.Author.Tests.{eq-eqb, ne_eqb, le-ltb, lt-ltb}
use Rattle.laws.specs.Front.{at_front}
use Rattle.laws.specs.HowMany.{how_many}
use Rattle.laws.proofs.Counting.{and_left, and_right}
use Rattle.record.specs.declared.refusals.Refusal.{Refusal}
use Rattle.record.specs.declared.refusals.Refusal.TheVariants as refusal
use Rattle.record.specs.Refusals.{refusal_number}
use Rattle.due.specs.Due.{reported_minutes}
use Rattle.record_check.specs.Backlog.{pending_at, reported_count}
use Rattle.record_check.specs.Check.{valid}
use Rattle.record_markers.specs.Markers.{pairs_to, used_count, area_by, reported_markers}
use Rattle.record_check.specs.Making.{outside, made}
use Rattle.record_check.proofs.MadeLaws.{made_sizes, made_fresh}
use Rattle.record.specs.declared.queues.Queue.{Queue}
use Rattle.record.specs.Limits.{max_processors, max_nodes}
use Rattle.record.specs.Queues.{fresh_queue}
use Rattle.record.specs.Report.{report}
use Rattle.rules.specs.declared.answers.Answer.{Answer}
use Rattle.rules.specs.declared.answers.Outcome.{Outcome}
use Rattle.rules.specs.declared.answers.PlainAnswer.{PlainAnswer}
use Rattle.rules.specs.Answers.{plain_of, plain_report, refused, is_refused}
use Rattle.rules.specs.declared.calls.Call.{Call}
use Rattle.rules.specs.Calls.{called_valid}
use Rattle.rules.proofs.Inner.{call_inner}
use Rattle.image.proofs.Sizes.{sized_in}
use Rattle.image.specs.Layout.{image_length}
use Rattle.image.specs.Image.{image_of, queue_in, is_image, passes_of, Sound}
use Rattle.image_parts.specs.Given.{Gives}
use Rattle.image_parts.proofs.Kept.{Kept, kept_call}
use Rattle.host_calls.specs.Entries.{
  plain_outcome,
  on_bytes,
  bytes_after,
  count_on,
  markers_on,
  area_on,
  length_for,
  make_code,
  bytes_made,
}

-- a call on any bytes: by its inner form where they pass, and refused with 21 where not
module _ (b : List ℕ) (inner : Queue → Outcome) where
  pub passing : passes_of b ≡ true → on_bytes b (λ q. cond (valid q) (inner q) (refused q refusal.Invalid)) ≡ inner (queue_in b)
  unfolding on_bytes passes_of
  passing h =
      rw (and_left (is_image b) (valid (queue_in b)) h, and_right (is_image b) (valid (queue_in b)) h)
      refl

  pub failing :
      passes_of b ≡ false → on_bytes b (λ q. cond (valid q) (inner q) (refused q refusal.Invalid)) ≡ refused (queue_in b) refusal.Invalid
  unfolding on_bytes passes_of
  failing h = go (is_image b) (valid (queue_in b)) h
    where
      go : (x y : Bool) → (x && y) ≡ false →
          cond x (cond y (inner (queue_in b)) (refused (queue_in b) refusal.Invalid)) (refused (queue_in b) refusal.Invalid)
          ≡ refused (queue_in b) refusal.Invalid
      go true true k = absurd (true≢false k)
      go true false k = refl
      go false y k = refl

  pub turned_down :
      (r : PlainAnswer) → passes_of b ≡ false → r ≡ plain_report (report 21 []) →
      let o = on_bytes b (λ q. cond (valid q) (inner q) (refused q refusal.Invalid)) in
      (r ≡ plain_outcome o) × (b ≡ bytes_after b o)
  unfolding bytes_after
  turned_down r h e =
      let f = failing h in (
        e ∙ ap plain_outcome (sym f),
        ap (λ (o : Outcome). cond (is_refused o.answer) b (image_of o.queue)) (sym f),
      )

  pub carried_out :
      (after : List ℕ) (a : Answer) (r : PlainAnswer) → passes_of b ≡ true → Sound b →
      Kept (queue_in b) (inner (queue_in b)) → Gives (inner (queue_in b)) after a →
      r ≡ plain_of a →
      let o = on_bytes b (λ q. cond (valid q) (inner q) (refused q refusal.Invalid)) in
      (r ≡ plain_outcome o) × (after ≡ bytes_after b o)
  unfolding bytes_after
  carried_out after a r h s k g e =
      let f = passing h in (
        e ∙ ap plain_of g.answer ∙ ap plain_outcome (sym f),
        g.bytes ∙ left (is_refused (inner (queue_in b)).answer) refl
            ∙ ap (λ (o : Outcome). cond (is_refused o.answer) b (image_of o.queue)) (sym f),
      )
    where
      left : (t : Bool) → is_refused (inner (queue_in b)).answer ≡ t →
          image_of (inner (queue_in b)).queue
          ≡ cond (is_refused (inner (queue_in b)).answer) b (image_of (inner (queue_in b)).queue)
      left true x = rw x (ap image_of (k.stays x) ∙ s.image)
      left false x = rw x refl

-- Backlog
module _ (b : List ℕ) (r : PlainAnswer) where
  pub not_counted :
      passes_of b ≡ false → r ≡ plain_report (report 21 []) → r ≡ plain_report (reported_count (count_on b))
  unfolding count_on passes_of
  not_counted h e = e ∙ go (is_image b) (valid (queue_in b)) h
    where
      go : (x y : Bool) → (x && y) ≡ false →
          plain_report (report 21 [])
          ≡ plain_report
          (reported_count
          (cond x
          (cond y (Ok (how_many (pending_at (queue_in b)) (queue_in b).node_count))
          (Err refusal.Invalid)) (Err refusal.Invalid)))
      go true true k = absurd (true≢false k)
      go true false k = refl
      go false y k = refl

  pub counted :
      passes_of b ≡ true → (k : ℕ) → k ≡ how_many (pending_at (queue_in b)) (get_or b 1 0) →
      r ≡ plain_report (report 0 (k ∷ [])) → r ≡ plain_report (reported_count (count_on b))
  unfolding count_on passes_of queue_in
  counted h k e f =
      f ∙ rw (
        e,
        and_left (is_image b) (valid (queue_in b)) h,
        and_right (is_image b)
            (valid (queue_in b)) h,
      ) refl

-- markers: what is told of an answer, and the answers in their order
module _ (b area : List ℕ) where
  abbrev pairs : List ℕ
  pairs = pairs_to (queue_in b) (queue_in b).node_count

  told :
      (k : Result ℕ Refusal) (r : PlainAnswer) (after : List ℕ) → markers_on b (length area) ≡ k →
      r ≡ plain_report (reported_markers k) → after ≡ area_by pairs area k →
      (r ≡ plain_report (reported_markers (markers_on b (length area)))) × (after ≡ area_on b area)
  unfolding area_on
  told k r after e f g = (
    f ∙ ap (λ (m : Result ℕ Refusal). plain_report (reported_markers m)) (sym e),
    g ∙ ap (area_by pairs area) (sym e),
  )

  pub not_listed :
      (r : PlainAnswer) → passes_of b ≡ false → r ≡ plain_report (report 21 []) →
      (r ≡ plain_report (reported_markers (markers_on b (length area)))) × (area ≡ area_on b area)
  unfolding markers_on passes_of
  not_listed r h e = told (Err refusal.Invalid) r area (go (is_image b) (valid (queue_in b)) h) e refl
    where
      go : (x y : Bool) → (x && y) ≡ false →
          cond x
          (cond y
          (cond (ltb (length area) (2 * used_count (queue_in b))) (Err refusal.Room)
          (Ok (used_count (queue_in b))))
          (Err refusal.Invalid)) (Err refusal.Invalid)
          ≡ Err refusal.Invalid
      go true true k = absurd (true≢false k)
      go true false k = refl
      go false y k = refl

  module _ (h : passes_of b ≡ true) (k : ℕ) (e : k ≡ used_count (queue_in b)) where
    pub too_short :
        (r : PlainAnswer) → length area < 2 * k → r ≡ plain_report (report 43 []) →
        (r ≡ plain_report (reported_markers (markers_on b (length area)))) × (area ≡ area_on b area)
    unfolding markers_on passes_of
    too_short r l f =
        told (Err refusal.Room) r area
        (rw (
          and_left (is_image b) (valid (queue_in b)) h,
          and_right (is_image b) (valid (queue_in b)) h,
          lt-ltb (length area) (2 * used_count (queue_in b)) (omega arith),
        ) refl) f refl

    pub listed_all :
        (r : PlainAnswer) (after : List ℕ) → 2 * k ≤ length area →
        r ≡ plain_report (report 0 (k ∷ [])) → after ≡ at_front pairs area →
        (r ≡ plain_report (reported_markers (markers_on b (length area)))) × (after ≡ area_on b area)
    unfolding markers_on passes_of
    listed_all r after l f g =
        told (Ok (used_count (queue_in b))) r after
        (rw (
          and_left (is_image b) (valid (queue_in b)) h,
          and_right (is_image b) (valid (queue_in b)) h,
          le-ltb (length area) (2 * used_count (queue_in b)) (omega arith),
        ) refl) (f ∙ ap (λ (n : ℕ). plain_report (report 0 (n ∷ []))) e) g

-- the length of an image
module _ (p n : ℕ) where
  pub no_length : (outside p max_processors || outside n max_nodes) ≡ true → 0 ≡ length_for p n
  unfolding length_for
  no_length h = rw h refl

  pub some_length :
      outside p max_processors ≡ false → outside n max_nodes ≡ false →
      image_length p n ≡ length_for p n
  unfolding length_for
  some_length h k = rw (h, k) refl

-- making
module _ (b : List ℕ) (p n l : ℕ) where
  pub not_made_lem :
      (r : Refusal) → Some r ≡ result_err (made p n l) →
      (refusal_number r ≡ make_code b (made p n l)) × (b ≡ bytes_made b (made p n l))
  unfolding make_code bytes_made
  not_made_lem r h = go (made p n l) h
    where
      go :
          (m : Result Queue Refusal) → Some r ≡ result_err m →
          (refusal_number r ≡ make_code b m) × (b ≡ bytes_made b m)
      go (Ok q) e = absurd (some_none e)
        where
          some_none : Some r ≡ None → ⊥
          some_none f = cc
      go (Err x) e = let f : r ≡ x = cc in (ap refusal_number f, refl)

  module _ (z : result_err (made p n l) ≡ None) where
    pub not_long :
        (length b ≡ image_length p n → ⊥) →
        (21 ≡ make_code b (made p n l)) × (b ≡ bytes_made b (made p n l))
    unfolding make_code bytes_made
    not_long h = let k = ne_eqb (length b) (image_length p n) h in
        (rw (made_fresh p n l z, k) refl, rw (made_fresh p n l z, k) refl)

    pub made_in :
        (after : List ℕ) → length b ≡ image_length p n → after ≡ image_of (fresh_queue p n l) →
        (0 ≡ make_code b (made p n l)) × (after ≡ bytes_made b (made p n l))
    unfolding make_code bytes_made
    made_in after h e = let k = eq-eqb (length b) (image_length p n) h in
        (rw (made_fresh p n l z, k) refl, rw (made_fresh p n l z, k) e)

-- Backlog and a due minute are told alike
pub told_alike : (r : Result ℕ Refusal) → reported_count r ≡ reported_minutes r
told_alike (Ok n) = refl
told_alike (Err r) = refl

-- the inner form keeps what a call keeps
pub call_keeps : (b : List ℕ) → Sound b → (c : Call) → Kept (queue_in b) (called_valid (queue_in b) c)
call_keeps b s c =
    subst (Kept (queue_in b)) (call_inner (queue_in b) c s.passes)
    (kept_call (queue_in b) (sized_in b) c)

-- sizes that are not refused
pub outside_not :
    (p n l : ℕ) → result_err (made p n l) ≡ None →
    (outside p max_processors ≡ false) × (outside n max_nodes ≡ false)
outside_not p n l z =
    let t = made_sizes p n l z in (
      rw (le-ltb p 1 t.processors_low, le-ltb max_processors p t.processors_high) refl,
      rw (le-ltb n 1 t.nodes_low, le-ltb max_nodes n t.nodes_high) refl,
    )
