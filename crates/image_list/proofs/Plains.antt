-- Lists of calls as plain numbers: one call more, and that the whole agrees with the book. Assumes nothing.
use mathlib.Core.Path.{◌≡◌, refl, sym, ap, ◌∙◌}
use mathlib.Core.Bool.{true, false}
use mathlib.Core.List.{List, [], ◌∷◌, ◌++◌}
use Prim.Native.Nat.{ℕ, zero, suc, ◌+◌, ◌*◌, ◌≤◌, ◌<◌}
use native.Mathlib.Numerals.{add-one}
use native.Mathlib.Omega.{arith}
use lib.Dec.{eqb}
use lib.ListN.{length, length-set}
use borrow.Author.Tests.{ne_eqb}
use Rattle.record.specs.declared.queues.Queue.{Queue}
use Rattle.record.specs.Queues.{fresh_queue}
use Rattle.rules.specs.declared.answers.Answer.{Answer}
use Rattle.rules.specs.declared.answers.Outcome.{Outcome}
use Rattle.rules.specs.declared.calls.Call.{Call}
use Rattle.rules.specs.Calls.{called}
use Rattle.rules.specs.Runs.{Turn, calls, after, after_all}
use Rattle.rules.proofs.Demand3.{demand_three}
use Rattle.rules.specs.declared.answers.PlainAnswer.{PlainAnswer}
use Rattle.rules.specs.Answers.{plain_of}
use Rattle.image_list.specs.Plain.{call_from, call_at, calls_to, record_to, put}
use Rattle.image_list.specs.Plain.{written_to, turns}
use Rattle.image_list.specs.InPlace.{list_code, bytes_after_list, answers_after_list, ListAgrees}
use Rattle.image.specs.Image.{image_of, queue_in, start_of, passes_of, Sound}
use Rattle.image.specs.Numbers.{number32}
use Rattle.image_parts.specs.Given.{Called}
use Rattle.image_parts.proofs.Readings.{clock_is}
use Rattle.image_parts.proofs.Reached.{reached_read}
use Rattle.image_step.proofs.Start.{start_after}
use Rattle.image_call.proofs.Results.{queue_called, answer_called}

-- a kind of at most 3 is none above
pub low_kind : (k n : ℕ) → k ≤ 3 → 3 < n → eqb k n ≡ false
low_kind k n h g = ne_eqb k n (λ e. omega (arith, e))

-- one call more
module _ (q : Queue) (l : List ℕ) (k : ℕ) where
  pub record_more : record_to q l (k + 1) ≡ (called (record_to q l k) (call_at l k)).queue
  unfolding record_to
  record_more = rw add-one

  pub written_more :
      (a : List ℕ) →
      written_to q l a (k + 1)
      ≡ put (written_to q l a k) (k * 5) (plain_of (called (record_to q l k) (call_at l k)).answer)
      (called (record_to q l k) (call_at l k)).queue.clock
  unfolding record_to written_to
  written_more a = rw add-one

-- nothing yet
pub record_none : (q : Queue) (l : List ℕ) → q ≡ record_to q l 0
unfolding record_to
record_none q l = refl

pub written_none : (q : Queue) (l a : List ℕ) → a ≡ written_to q l a 0
unfolding written_to
written_none q l a = refl

-- a turn of the loop: from the bytes b to c, with the answer r to the call x
module _ (q : Queue) (l w : List ℕ) (i : ℕ) (b c : List ℕ) (x : Call) (r : Answer) (s : Sound b)
    (h : queue_in b ≡ record_to q l i) (is : x ≡ call_from l (i * 5)) (t : Called b x c r) where
  same : called (queue_in b) x ≡ called (record_to q l i) (call_at l i)
  same = simp (h, is)

  queue_is : queue_in c ≡ (called (record_to q l i) (call_at l i)).queue
  queue_is = queue_called b s x c r t ∙ ap (λ (o : Outcome). o.queue) same

  pub queue_next : queue_in c ≡ record_to q l (i + 1)
  queue_next = queue_is ∙ sym (record_more q l i)

  pub start_next : start_of b ≡ start_of c
  start_next = start_after b s x c r t

  pub written_next :
      (v v' : List ℕ) (y : PlainAnswer) (clock : ℕ) → v ≡ written_to q l w i → y ≡ plain_of r → clock
      ≡ number32 c 3 → v' ≡ put v (i * 5) y clock → v' ≡ written_to q l w (i + 1)
  written_next v v' y clock e f g k =
      k ∙ rw (
        e,
        f ∙ ap plain_of (answer_called b s x c r t ∙ ap (λ (o : Outcome). o.answer) same),
        g ∙ sym (clock_is c) ∙ ap (λ (u : Queue). u.clock) queue_is,
      ) (sym (written_more q l i w))

pub image_at : (q : Queue) (l : List ℕ) (n : ℕ) (b : List ℕ) → Sound b → queue_in b
    ≡ record_to q l n → b ≡ image_of (record_to q l n)
image_at q l n b s h = sym s.image ∙ ap image_of h

pub put_length : (a b : List ℕ) (i clock n : ℕ) (t : PlainAnswer) → b ≡ put a i t clock → length a ≡ n →
    length b ≡ n
put_length a b i clock n t e h = ap length e ∙ (simp length-set refl ∙ h)

-- the whole list
module _ (b l a : List ℕ) where
  pub turned_down : passes_of b ≡ false →
      (21 ≡ list_code b) × ((b ≡ bytes_after_list b l a) × (a ≡ answers_after_list b l a))
  unfolding list_code bytes_after_list answers_after_list
  turned_down h = (rw h refl, (rw h refl, rw h refl))

  pub all_run : (c w : List ℕ) → passes_of b ≡ true → c
      ≡ image_of (record_to (queue_in b) l (turns l a)) → w ≡ written_to (queue_in b) l a (turns l a) →
      (0 ≡ list_code b) × ((c ≡ bytes_after_list b l a) × (w ≡ answers_after_list b l a))
  unfolding list_code bytes_after_list answers_after_list
  all_run c w h e f = (rw h refl, (e ∙ rw h refl, f ∙ rw h refl))

-- the calls of the list, as the book is fed them, lead to the same record
after_one : (q : Queue) (cs : List Turn) (c : Turn) → after_all q (cs ++ (c ∷ []))
    ≡ after (after_all q cs) c
unfolding after_all
after_one q [] c = refl
after_one q (d ∷ cs) c = after_one (after q d) cs c

record_all : (q : Queue) (l : List ℕ) (k : ℕ) → record_to q l k ≡ after_all q (calls_to l k)
unfolding record_to calls_to after_all
record_all q l zero = refl
record_all q l (suc k) =
    ap (λ (z : Queue). after z (calls (call_at l k))) (record_all q l k)
    ∙ sym (after_one q (calls_to l k) (calls (call_at l k)))

after_both :
    (q : Queue) (cs ds : List Turn) → after_all q (cs ++ ds) ≡ after_all (after_all q cs) ds
unfolding after_all
after_both q [] ds = refl
after_both q (c ∷ cs) ds = after_both (after q c) cs ds

pub agreed : (b l a : List ℕ) → ListAgrees b l a
agreed b l a P N L R cs e =
    let j = demand_three P N L R (cs ++ calls_to l (turns l a)) in
    let r = reached_read P N L R.processors_high R.nodes_high cs in
    let h = ap queue_in e ∙ r in
    record {
      read = h;
      led = λ k.
          record_all (queue_in b) l k
          ∙ ap (λ (q : Queue). after_all q (calls_to l k)) h
          ∙ sym (after_both (fresh_queue P N L) cs (calls_to l k));
      book = j.0;
      judges = j.1;
    }
