-- The end of a run of lines: its outcome, and the area. The lines that have room in whole are those
-- that are written: all, or those before the first that has none. Assumes nothing.
use mathlib.Core.Path.{◌≡◌, sym, ap, ◌∙◌}
use mathlib.Core.Bool.{Bool, false, cond}
use mathlib.Core.List.{List, ◌∷◌, ◌++◌}
use Rattle.std.specs.Prelude.{Ok, Err}
use Prim.Native.Nat.{ℕ, ◌+◌, ◌-◌, ◌*◌, ◌≤◌, ◌<◌}
use native.Mathlib.Omega.{arith}
use lib.ListN.{length, length-append}
use lib.Seq.{take_all, take_at}
use Rattle.record.specs.declared.queues.Queue.{Queue}
use Rattle.record.specs.declared.refusals.Refusal.TheVariants as refusal
use Rattle.rules.specs.Runs.{Turn, calls, after, after_all}
use Rattle.sheet_format.specs.declared.events.HistoryLine.{HistoryLine}
use Rattle.sheet_format.specs.declared.lines.SheetLine.{SheetLine}
use Rattle.sheet_format.specs.Calls.{call_of, sheet_calls, all_calls, call_prints, calls_print}
use Rattle.sheet_format.specs.Events.{history_bytes, room_at, with_event}
use Rattle.sheet_format.specs.Lines.{line_count}
use Rattle.laws.specs.Front.{at_front}
use Rattle.sheet_format.specs.Sheets.{history, fitted, refused_at}
use Rattle.sheet_format.proofs.Reports.{fits_length, refuses_long}
use Rattle.sheet_format.proofs.Written.{length_history, history_append}
use Rattle.sheet_lines.proofs.Histories.{prints_append, prints_first}
use Rattle.sheet_lines.proofs.States.{Written, Longer, Between, filled, no_room}
use Rattle.sheet_lines.specs.Area.{whole_bytes, whole_lines, area_with}

-- some lines of 37 bytes that have room
lines_low : (n lines room : ℕ) → n ≡ 37 * lines → n ≤ room → n ≤ whole_bytes room
lines_low n lines room e f = omega arith

-- and one more has none
lines_are : (n lines room : ℕ) → n ≡ 37 * lines → n ≤ room → room < n + 37 → n ≡ whole_bytes room
lines_are n lines room e f g = omega arith

all_lines : (es : List HistoryLine) (room : ℕ) → length (history_bytes es) ≤ room →
    whole_lines (history_bytes es) room ≡ history_bytes es
all_lines es room f =
    take_all (whole_bytes room) (history_bytes es)
    (lines_low (length (history_bytes es)) (length es) room (length_history es) f)

first_lines :
    (es fs : List HistoryLine) (room : ℕ) →
    length (history_bytes es) ≤ room →
    room < length (history_bytes es) + 37 →
    whole_lines (history_bytes (es ++ fs)) room ≡ history_bytes es
first_lines es fs room f g =
    ap (λ (h : List ℕ). whole_lines h room) (history_append es fs)
    ∙ take_at (history_bytes es) (history_bytes fs) (whole_bytes room)
    (lines_are (length (history_bytes es)) (length es) room (length_history es) f g)

area_by_lem : (h k a : List ℕ) (w : Bool) → whole_lines h (length a) ≡ k → area_with h a w ≡ filled k a w
area_by_lem h k a w e = ap (λ (x : List ℕ). cond w (at_front x a) a) e

-- a history that fits stands there whole
pub area_whole :
    (s : List ℕ) (q : Queue) (a : List ℕ) (w : Bool) →
    length (history s q) ≤ length a →
    area_with (history s q) a w ≡ filled (history s q) a w
area_whole s q a w f =
    area_by_lem (history s q) (history s q) a w (all_lines (calls_print q (all_calls s q)) (length a) f)

-- all lines are run
module _
    (s : List ℕ) (q₀ : Queue) (k : ℕ) (i a₀ a : List ℕ) (at : ℕ) (w : Bool)
    (b : Between s q₀ k i a₀ a at w) (last : k - 1 ≡ line_count s - 1) where
  whole : history_bytes (calls_print q₀ (sheet_calls s q₀ (k - 1))) ≡ history s q₀
  whole = ap (λ (j : ℕ). history_bytes (calls_print q₀ (sheet_calls s q₀ j))) last

  pub fits : length (history s q₀) ≤ length a₀
  fits =
      let n : at ≡ length (history s q₀) = b.written.long ∙ ap length whole in
      omega (arith, n, b.written.fits)

  pub all_told : Ok at ≡ fitted (history s q₀) (length a₀)
  all_told =
      ap Ok (b.written.long ∙ ap length whole)
      ∙ sym (fits_length (history s q₀) (length a₀) fits)

  pub all_written : a ≡ area_with (history s q₀) a₀ w
  all_written =
      b.written.bytes
      ∙ ap (λ (h : List ℕ). filled h a₀ w) whole
      ∙ sym (area_whole s q₀ a₀ w fits)

-- the line of a call has no room
module _
    (s : List ℕ) (q₀ : Queue) (l : SheetLine) (made : List Turn) (a₀ a : List ℕ) (at : ℕ) (w : Bool)
    (i : Written a₀ a at (calls_print q₀ made) w) (o : Longer s q₀ l made (length a₀)) where
  abbrev es : List HistoryLine
  es = calls_print q₀ made

  abbrev new : List HistoryLine
  new = call_prints (after_all q₀ made) (calls (call_of l))

  abbrev others : List HistoryLine
  others = calls_print (after (after_all q₀ made) (calls (call_of l))) o.rest

  events_are : calls_print q₀ (all_calls s q₀) ≡ es ++ (new ++ others)
  events_are =
      ap (calls_print q₀) o.is
      ∙ prints_append made (calls (call_of l) ∷ o.rest) q₀
      ∙ ap (λ (fs : List HistoryLine). es ++ fs)
      (prints_first (calls (call_of l)) o.rest (after_all q₀ made))

  pub long_told : Err (refused_at refusal.Room 0) ≡ fitted (history s q₀) (length a₀)
  long_told =
      let n = length_history (calls_print q₀ (all_calls s q₀)) in
      let m = length_history es in
      let e = ap length events_are in
      let f = length-append es (new ++ others) in
      let g = length-append new others in
      refuses_long (history s q₀) (length a₀)
      (omega (arith, n, m, e, f, g, o.one, o.last))

  pub part_written : (b : List ℕ) (e : HistoryLine) → room_at a at ≡ false → b ≡ with_event a at e w →
      b ≡ area_with (history s q₀) a₀ w
  part_written b e room d =
      let n = i.long in
      let f : length (history_bytes es) ≤ length a₀ = omega (arith, n, i.fits) in
      no_room a b at e w room d
      ∙ i.bytes
      ∙ sym (area_by_lem (history s q₀) (history_bytes es) a₀ w
      (ap (λ (x : List HistoryLine). whole_lines (history_bytes x) (length a₀)) events_are
      ∙ first_lines es (new ++ others) (length a₀) f o.last))
