use mathlib.Core.Path.{◌≡◌, refl, sym, ap, ◌∙◌}
use mathlib.Core.Bool.{Bool}
use mathlib.Core.List.{List}
use Prim.Native.Nat.{ℕ, ◌+◌, ◌-◌, ◌*◌, ◌≤◌, ◌<◌}
use native.Mathlib.Omega.{arith}
use lib.ListN.{length, drop, take}
use Rattle.record.specs.declared.queues.Queue.{Queue}
use Rattle.image.specs.Image.{queue_in}
use Rattle.image_parts.proofs.Readings.{clock_is}
use Rattle.rules.specs.Answers.{reported}
use Rattle.sheet_format.specs.declared.lines.SheetLine.{SheetLine}
use Rattle.sheet_format.specs.Calls.{call_of, calls_of}
use Rattle.sheet_format.specs.Events.{event_for}
use Rattle.sheet_format.specs.Kept.{kept_line, IsKept}
use Rattle.sheet_format.specs.Lines.{line_count}
use Rattle.sheet_format.proofs.Parts.{tail_part, part_next}
use Rattle.sheet_lines.proofs.Areas.{all_written, long_told, part_written}
use Rattle.sheet_lines.proofs.Histories.{left_low}
use Rattle.sheet_lines.proofs.Images.{all_image, part_image}
use Rattle.sheet_lines.proofs.States.{Between, Within, at_first, begins, ends}
use Rattle.sheet_lines.proofs.States.{gone, call_silent, call_prints_lem, call_long}
use Rattle.sheet_lines.proofs.Waited.{call_waits}
use Rattle.sheet_lines.proofs.lines.run_lines.Goals as goal

-- before the calls of a line
entry :
    (s kept : List ℕ) (q : Queue) (count k : ℕ) (l : SheetLine) (b a₀ a : List ℕ) (at left : ℕ)
    (w : Bool) →
    count ≡ line_count s →
    IsKept s kept →
    k < count →
    1 ≤ k →
    Between s q k b a₀ a at w →
    l ≡ kept_line (take (length s - 30 * k) (drop (30 * k) s)) kept k →
    left ≡ calls_of l →
    Within s q (k + 1) l left b a₀ a at w
entry s kept q count k l b a₀ a at left w e kept_is h one i line calls =
    begins s q k l a₀ w b a at left one i
    (line
    ∙ ap (λ (x : List ℕ). kept_line x kept k) (tail_part s (30 * k) ∙ part_next s k)
    ∙ kept_is k (omega (arith, e, h)))
    calls

-- the line is one of the sheet's
last_line : (count k n : ℕ) → count ≡ n → k < count → 1 ≤ k → k + 1 - 1 ≤ n - 1
last_line count k n e h one = omega arith

pub loop-k-init : goal.loop-k-init
loop-k-init c =
    let a = c.args in (
      at_first a.sheet.now a.image.now a.area.now a.writing c.requires.0,
      (omega arith, refl),
    )

pub loop-k-preserved : goal.loop-k-preserved
loop-k-preserved c =
    let z : c.loop-left.left ≡ 0 = omega (arith, c.loop-left-test.false) in
    let i =
    c.loop-left.invariant.0 _ _
    (entry c.args.sheet.now c.args.kept.now _ c.line_count-count.result c.loop-k.k c.kept_line-l.result
    _ _ _ _ c.calls_of-left.result c.args.writing c.line_count-count.ensures c.requires.1
    c.loop-k-test.true c.loop-k.auto.k c.loop-k.invariant.0 c.kept_line-l.ensures
    c.calls_of-left.ensures) in (
      ends _ _ _ _ _ _ c.loop-left.image c.loop-left.area c.loop-left.at c.loop-left.left z i,
      (
        omega (arith, c.loop-k-test.true, c.loop-k.auto.k),
        c.loop-left.invariant.1 ∙ c.loop-k.invariant.1.1,
      ),
    )

pub call_line-answer-requires : goal.call_line-answer-requires
call_line-answer-requires c =
    let held =
    c.loop-left.invariant.0 _ _
    (entry c.args.sheet.now c.args.kept.now _ c.line_count-count.result c.loop-k.k c.kept_line-l.result
    _ _ _ _ c.calls_of-left.result c.args.writing c.line_count-count.ensures c.requires.1
    c.loop-k-test.true c.loop-k.auto.k c.loop-k.invariant.0 c.kept_line-l.ensures
    c.calls_of-left.ensures) in
    held.sound

pub loop-left-preserved-then-is_waits : goal.loop-left-preserved-then-is_waits
loop-left-preserved-then-is_waits c =
    let call = c.call_line-answer in
    let pass = c.pass_waits-left in
    let waits = sym c.is_waits.ensures ∙ c.if-is_waits.true in (
      λ q x e. call_waits c.args.sheet.now q (c.loop-k.k + 1) c.kept_line-l.result x c.args.writing
          c.loop-left.image c.loop-left.area c.loop-left.at c.loop-left.left
          (c.loop-left.invariant.0 q x e) c.loop-left-test.true _ _
          call.ensures.0 call.ensures.1 waits _ _ pass.ensures.value pass.ensures.image_after,
      pass.auto.image ∙ call.auto.image ∙ c.loop-left.invariant.1,
    )

pub loop-left-preserved-then-is_silent : goal.loop-left-preserved-then-is_silent
loop-left-preserved-then-is_silent c =
    let call = c.call_line-answer in
    let silent = sym c.is_silent.ensures ∙ c.if-is_silent.true in (
      λ q x e. call_silent c.args.sheet.now q (c.loop-k.k + 1) c.kept_line-l.result x c.args.writing
          c.loop-left.image c.loop-left.area c.loop-left.at c.loop-left.left
          (c.loop-left.invariant.0 q x e) c.loop-left-test.true _ _
          call.ensures.0 call.ensures.1 _ c.left_after-left.ensures silent,
      call.auto.image ∙ c.loop-left.invariant.1,
    )

pub returns-then-not-append_event : goal.returns-then-not-append_event
returns-then-not-append_event c =
    let call = c.call_line-answer in
    let new = c.append_event in
    let room = sym new.ensures.value ∙ c.if-not-append_event.true in
    let told = sym c.is_silent.ensures ∙ c.if-is_silent.false in
    let held =
    c.loop-left.invariant.0 _ _
    (entry c.args.sheet.now c.args.kept.now _ c.line_count-count.result c.loop-k.k c.kept_line-l.result
    _ _ _ _ c.calls_of-left.result c.args.writing c.line_count-count.ensures c.requires.1
    c.loop-k-test.true c.loop-k.auto.k c.loop-k.invariant.0 c.kept_line-l.ensures
    c.calls_of-left.ensures) in
    let last =
    last_line c.line_count-count.result c.loop-k.k (line_count c.args.sheet.now)
    c.line_count-count.ensures c.loop-k-test.true c.loop-k.auto.k in
    let long =
    call_long c.args.sheet.now (queue_in c.args.image.now) (c.loop-k.k + 1) c.kept_line-l.result
    c.args.area.now c.args.writing c.loop-left.image c.loop-left.area c.loop-left.at c.loop-left.left
    held c.loop-left-test.true _ _ call.ensures.0 call.ensures.1 told room last in
    let on =
    gone c.args.sheet.now (queue_in c.args.image.now) (c.loop-k.k + 1) c.kept_line-l.result
    c.args.area.now c.args.writing c.loop-left.image c.loop-left.area c.loop-left.at c.loop-left.left
    held c.loop-left-test.true _ _ call.ensures.0 call.ensures.1 _ refl in
    record {
      value = long_told _ _ _ _ _ _ c.loop-left.at _ held.written long;
      area_after =
          part_written _ _ _ _ _ _ c.loop-left.at _ held.written long _ c.event_for-line.result room
          new.ensures.area_after;
      image_after =
          part_image _ _ _ _ _ _ c.loop-left.at _ held.written long _ call.ensures.1 on.here;
    }

pub loop-left-smaller : goal.loop-left-smaller
loop-left-smaller c =
    let h = c.left_after-left.ensures in
    let n = left_low c.call_line-answer.result (c.loop-left.left - 1) in
    omega (arith, h, n, c.loop-left-test.true)

pub loop-left-preserved : goal.loop-left-preserved
loop-left-preserved c =
    let call = c.call_line-answer in
    let new = c.append_event in
    let told = sym c.is_silent.ensures ∙ c.if-is_silent.false in
    let time = c.number_from-time.ensures ∙ sym (clock_is _) in
    let event =
    c.event_for-line.ensures
    ∙ ap (λ (t : ℕ). event_for (call_of c.kept_line-l.result) t (reported call.result)) time in (
      λ q x e. call_prints_lem c.args.sheet.now q (c.loop-k.k + 1) c.kept_line-l.result x c.args.writing
          c.loop-left.image c.loop-left.area c.loop-left.at c.loop-left.left
          (c.loop-left.invariant.0 q x e) c.loop-left-test.true _ _
          call.ensures.0 call.ensures.1 _ _ _ c.left_after-left.ensures told event
          (sym new.ensures.value ∙ c.if-not-append_event.false) new.ensures.area_after,
      call.auto.image ∙ c.loop-left.invariant.1,
    )

pub returns-clause-area_after : goal.returns-clause-area_after
returns-clause-area_after c =
    let s = c.args.sheet.now in
    let e : c.line_count-count.result ≡ line_count s = c.line_count-count.ensures in
    let k : c.loop-k.k - 1 ≡ line_count s - 1 =
    omega (arith, e, c.loop-k-test.false, c.loop-k.invariant.1.0) in
    all_written _ _ _ _ _ _ c.loop-k.at _ c.loop-k.invariant.0 k

pub returns-clause-image_after : goal.returns-clause-image_after
returns-clause-image_after c =
    let s = c.args.sheet.now in
    let e : c.line_count-count.result ≡ line_count s = c.line_count-count.ensures in
    let k : c.loop-k.k - 1 ≡ line_count s - 1 =
    omega (arith, e, c.loop-k-test.false, c.loop-k.invariant.1.0) in
    all_image _ _ _ _ _ _ c.loop-k.at _ c.loop-k.invariant.0 k
