-- Calls on bytes are the calls on the record: the statements of specs/Lists. Assumes nothing.
use mathlib.Core.Path.{◌≡◌, refl, sym, ap, ◌∙◌}
use mathlib.Core.Bool.{Bool, true, false, cond, true≢false}
use mathlib.Core.List.{List, [], ◌∷◌}
use Rattle.std.specs.Prelude.{Result}
use Prim.Native.Nat.{ℕ}
use lib.ListN.{length}
use Rattle.record.specs.declared.refusals.Refusal.{Refusal}
use Rattle.record.specs.declared.refusals.Refusal.TheVariants as refusal
use Rattle.record_check.specs.Backlog.{backlog_of, reported_count}
use Rattle.record_markers.specs.Markers.{pairs_to, markers_of, area_by, area_after, reported_markers}
use Rattle.image.specs.Image.{image_of, queue_in, is_image}
use Rattle.image.specs.OneToOne.{Sized, Trim}
use Rattle.image.proofs.Inverse.{image_facts, image_taken, read_write, trim_in}
use Rattle.image.proofs.Sizes.{sized_in}
use Rattle.image_parts.proofs.Arrays.{fresh_sized}
use Rattle.image_parts.proofs.Kept.{Kept, kept_call, sized_after}
use Rattle.image_parts.proofs.Reached.{fresh_trim, all_sized, all_trim}
use Rattle.image_parts.proofs.Sounds.{trim_after}
use Rattle.record.specs.declared.queues.Queue.{Queue}
use Rattle.record.specs.Queues.{fresh_queue}
use Rattle.rules.specs.declared.answers.Outcome.{Outcome}
use Rattle.rules.specs.declared.calls.Call.{Call}
use Rattle.rules.specs.Answers.{refused, is_refused}
use Rattle.rules.specs.Calls.{called}
use Rattle.rules.specs.Runs.{Turn, calls, backlog, markers, reply, after, after_all}
use Rattle.rules.proofs.Untouched.{untouched}
use Rattle.rules.specs.Answers.{plain_report}
use Rattle.host_calls.specs.Entries.{plain_outcome, on_bytes, bytes_after, count_on, markers_on}
use Rattle.host_calls.specs.Entries.{area_on}
use Rattle.host_calls.specs.Lists.{
  bytes_after_turn,
  plain_turn,
  bytes_after_all,
  in_numbers,
  AcceptedIsRead,
  SameRun,
  BytesAreTheRecord,
}

-- an accepted call on any bytes
bytes_accepted :
    (b : List ℕ) (o : Outcome) → is_refused o.answer ≡ false → bytes_after b o ≡ image_of o.queue
unfolding bytes_after
bytes_accepted b o h = rw h refl

-- it was one on an image
taken :
    (b : List ℕ) (call : Queue → Outcome) → is_refused (on_bytes b call).answer ≡ false →
    (is_image b ≡ true) × (on_bytes b call ≡ call (queue_in b))
unfolding on_bytes
taken b call h = go (is_image b) refl h
  where
    go : (t : Bool) → is_image b ≡ t →
        is_refused (cond t (call (queue_in b)) (refused (queue_in b) refusal.Invalid)).answer ≡ false →
        (is_image b ≡ true) ×
        (cond (is_image b) (call (queue_in b)) (refused (queue_in b) refusal.Invalid) ≡ call (queue_in b))
    go true e k = (e, rw e refl)
    go false e k = absurd (true≢false k)

pub accepted_read : AcceptedIsRead
accepted_read k b h =
    let call : (Queue → Outcome) = λ q. called q k in
    let c = calls k in
    let t = taken b call h in
    let f = image_facts b t.0 in
    let q = queue_in b in
    let e : (on_bytes b call).queue ≡ after q c = ap (λ (o : Outcome). o.queue) t.1 in
    let S : Sized (on_bytes b call).queue = rw e (sized_after q (sized_in b) c) in
    let T : Trim (on_bytes b call).queue =
    rw e (trim_after q (after q c) (untouched q c) (trim_in b f.few f.short)) in
    let g = bytes_accepted b (on_bytes b call) h in (
      g,
      (
        ap is_image g ∙ image_taken (on_bytes b call).queue S T,
        ap queue_in g
            ∙ read_write (on_bytes b call).queue S T,
      ),
    )

-- what a turn that calls leaves of the bytes
turn_called :
    (b : List ℕ) (c : Call) →
    bytes_after_turn b (calls c) ≡ bytes_after b (on_bytes b (λ (r : Queue). called r c))
turn_called b c = cc

-- a call on the image of a record
module _ (q : Queue) (S : Sized q) (T : Trim q) where
  on_image : (call : Queue → Outcome) → on_bytes (image_of q) call ≡ call q
  unfolding on_bytes
  on_image call = rw (image_taken q S T) (ap call (read_write q S T))

  after_image : (o : Outcome) → Kept q o → bytes_after (image_of q) o ≡ image_of o.queue
  unfolding bytes_after
  after_image o k = go (is_refused o.answer) refl
    where
      go : (t : Bool) → is_refused o.answer ≡ t →
          cond (is_refused o.answer) (image_of q) (image_of o.queue) ≡ image_of o.queue
      go true h = rw h (ap image_of (sym (k.stays h)))
      go false h = rw h refl

  called_after :
      (call : Queue → Outcome) → Kept q (call q) →
      bytes_after (image_of q) (on_bytes (image_of q) call) ≡ image_of (call q).queue
  called_after call k = ap (bytes_after (image_of q)) (on_image call) ∙ after_image (call q) k

  count_image : count_on (image_of q) ≡ backlog_of q
  unfolding count_on
  count_image = rw (image_taken q S T) (ap backlog_of (read_write q S T))

  markers_image : (room : ℕ) → markers_on (image_of q) room ≡ markers_of q room
  unfolding markers_on
  markers_image room =
      rw (image_taken q S T) (ap (λ (r : Queue). markers_of r room) (read_write q S T))

  area_image : (a : List ℕ) → area_on (image_of q) a ≡ area_after q a
  unfolding area_on
  area_image a =
      ap (λ (r : Queue). area_by (pairs_to r r.node_count) a (markers_on (image_of q) (length a)))
      (read_write q S T)
      ∙ ap (area_by (pairs_to q q.node_count) a) (markers_image (length a))

  bytes_call : (c : Turn) → bytes_after_turn (image_of q) c ≡ image_of (after q c)
  bytes_call (calls c) =
      turn_called (image_of q) c ∙ called_after (λ (r : Queue). called r c) (kept_call q S c)
  bytes_call backlog = refl
  bytes_call (markers area) = refl

  reply_call : (c : Turn) → plain_turn (image_of q) c ≡ in_numbers (reply q c)
  reply_call (calls c) = ap plain_outcome (on_image (λ (r : Queue). called r c))
  reply_call backlog = ap (λ (k : Result ℕ Refusal). plain_report (reported_count k)) count_image
  reply_call (markers area) =
      ap (λ (k : Result ℕ Refusal). plain_report (reported_markers k)) (markers_image (length area))

-- after a list of calls
bytes_all :
    (q : Queue) → Sized q → Trim q → (cs : List Turn) →
    bytes_after_all (image_of q) cs ≡ image_of (after_all q cs)
unfolding bytes_after_all after_all
bytes_all q S T [] = refl
bytes_all q S T (c ∷ cs) =
    ap (λ (b : List ℕ). bytes_after_all b cs) (bytes_call q S T c)
    ∙ bytes_all (after q c) (sized_after q S c) (trim_after q (after q c) (untouched q c) T) cs

pub same_run : (q : Queue) → Sized q → Trim q → (cs : List Turn) → SameRun q (image_of q) cs
same_run q S T cs =
    let e = bytes_all q S T cs in
    let s = all_sized q S cs in
    let t = all_trim q T cs in
    record {
      bytes = e;
      image = ap is_image e ∙ image_taken (after_all q cs) s t;
      read = ap queue_in e ∙ read_write (after_all q cs) s t;
      next = λ c. ap (λ (b : List ℕ). plain_turn b c) e ∙ reply_call (after_all q cs) s t c;
      area = λ a. ap (λ (b : List ℕ). area_on b a) e ∙ area_image (after_all q cs) s t a;
    }

pub bytes_are_the_record : BytesAreTheRecord
bytes_are_the_record P N L R cs =
    same_run (fresh_queue P N L) (fresh_sized P N L)
    (fresh_trim P N L R.processors_high R.nodes_high) cs
