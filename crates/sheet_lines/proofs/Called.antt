-- One call of a sheet's line in place: the record that the bytes are read as after it. Assumes
-- nothing.
use mathlib.Core.Path.{◌≡◌, refl}
use mathlib.Core.Bool.{true}
use mathlib.Core.List.{List}
use Prim.Native.Nat.{ℕ, ◌≤◌}
use native.Mathlib.Omega.{arith}
use lib.ListN.{length, get_or}
use Rattle.record_check.specs.Check.{valid}
use Rattle.record.specs.declared.queues.Queue.{Queue}
use Rattle.image.specs.Image.{queue_in, Sound}
use Rattle.image.specs.Numbers.{number32}
use Rattle.image_parts.specs.Given.{Gives}
use Rattle.image_parts.proofs.Sounds.{queue_after_lem, call_is}
use Rattle.rules.specs.declared.answers.Answer.{Answer}
use Rattle.rules.specs.declared.answers.Outcome.{Outcome}
use Rattle.rules.specs.Calls.{called_valid}
use Rattle.rules.specs.Runs.{calls}
use Rattle.rules.proofs.Inner.{call_kept as inner_kept}
use Rattle.rules.proofs.ValidFacts.{valid_facts}
use Rattle.sheet_format.specs.declared.lines.SheetLine.{SheetLine}
use Rattle.sheet_format.specs.Calls.{call_of}

-- the call of a line, on a record that passes check 21
abbrev pub call_on : SheetLine → Queue → Outcome
call_on l q = called_valid q (call_of l)

pub call_kept : (l : SheetLine) (q : Queue) → valid q ≡ true → valid (call_on l q).queue ≡ true
call_kept l q v = (inner_kept q (call_of l) _ v refl).1

pub call_queue : (l : SheetLine) (b : List ℕ) → Sound b → (a : List ℕ) (r : Answer) →
    Gives (call_on l (queue_in b)) a r → queue_in a ≡ (call_on l (queue_in b)).queue
call_queue l b s a r g =
    queue_after_lem b s (calls (call_of l)) (call_on l (queue_in b)) (call_is b s (call_of l)) a r g

-- the clock's bytes, and how many bytes there are
module _ (b : List ℕ) (s : Sound b) where
  pub long_enough : 7 ≤ length b
  long_enough = omega (arith, s.long)

  pub short_enough : length b ≤ 8705
  unfolding queue_in
  short_enough =
      let z = (valid_facts (queue_in b) s.passes).sizes in
      let p : get_or b 0 0 ≤ 16 = z.processor_count.high in
      let n : get_or b 1 0 ≤ 200 = z.node_count.high in
      omega (arith, s.long, p, n)

  pub clock_high : number32 b 3 ≤ 999999
  unfolding queue_in
  clock_high = (valid_facts (queue_in b) s.passes).sizes.clock
