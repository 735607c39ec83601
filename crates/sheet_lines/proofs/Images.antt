-- The record at the end of a run of lines: that after all calls, or after the first whose line has
-- no room. Assumes nothing.
use mathlib.Core.Path.{◌≡◌, refl, sym, ap, ◌∙◌}
use mathlib.Core.Bool.{Bool, cond}
use mathlib.Core.List.{List, [], ◌∷◌, ◌++◌, append-nil}
use Prim.Native.Nat.{ℕ, ◌+◌, ◌-◌, ◌/◌, ◌≤◌, ◌<◌}
use native.Mathlib.Omega.{arith}
use lib.Dec.{ltb}
use lib.ListN.{length, length-append}
use borrow.Author.Tests.{lt-ltb, le-ltb}
use Rattle.record.specs.declared.queues.Queue.{Queue}
use Rattle.image.specs.Image.{image_of, queue_in, Sound}
use Rattle.rules.specs.Runs.{Turn, calls, after, after_all}
use Rattle.sheet_format.specs.declared.lines.SheetLine.{SheetLine}
use Rattle.sheet_format.specs.Calls.{call_of, sheet_calls, all_calls, call_prints, calls_print}
use Rattle.sheet_format.specs.Lines.{line_count}
use Rattle.sheet_format.proofs.Written.{length_history}
use Rattle.sheet_lines.proofs.Histories.{one_more}
use Rattle.sheet_lines.proofs.States.{Written, Longer, Between}
use Rattle.sheet_lines.specs.Area.{calls_within, queue_after}

-- one call, with room for its line or without
first_within : (q : Queue) (c : Turn) (cs : List Turn) (room : ℕ) →
    calls_within q (c ∷ cs) room
    ≡ c ∷ cond (ltb room (length (call_prints q c))) []
    (calls_within (after q c) cs (room - length (call_prints q c)))
unfolding calls_within
first_within q c cs room = refl

room_within : (q : Queue) (c : Turn) (cs : List Turn) (room : ℕ) →
    length (call_prints q c) ≤ room →
    calls_within q (c ∷ cs) room
    ≡ c ∷ calls_within (after q c) cs (room - length (call_prints q c))
room_within q c cs room h =
    let n = length (call_prints q c) in
    first_within q c cs room
    ∙ ap (λ (t : Bool). c ∷ cond t [] (calls_within (after q c) cs (room - n))) (le-ltb room n h)

last_within : (q : Queue) (c : Turn) (cs : List Turn) (room : ℕ) →
    room < length (call_prints q c) → calls_within q (c ∷ cs) room ≡ c ∷ []
last_within q c cs room h =
    let n = length (call_prints q c) in
    first_within q c cs room
    ∙ ap (λ (t : Bool). c ∷ cond t [] (calls_within (after q c) cs (room - n))) (lt-ltb room n h)

-- the calls whose lines have room are made, and of those behind them what the rest has room for
within_append :
    (cs ds : List Turn) (q : Queue) (room : ℕ) →
    length (calls_print q cs) ≤ room →
    calls_within q (cs ++ ds) room
    ≡ cs ++ calls_within (after_all q cs) ds (room - length (calls_print q cs))
unfolding after_all calls_print
within_append [] ds q room h =
    let e : room ≡ room - 0 = omega arith in ap (calls_within q ds) e
within_append (c ∷ cs) ds q room h =
    let m = length (call_prints q c) in
    let n = length (calls_print (after q c) cs) in
    let both : length (calls_print q (c ∷ cs)) ≡ m + n =
    length-append (call_prints q c) (calls_print (after q c) cs) in
    let e : room - m - n ≡ room - length (calls_print q (c ∷ cs)) = omega (arith, both) in
    room_within q c (cs ++ ds) room (omega (arith, both, h))
    ∙ ap (λ (es : List Turn). c ∷ es)
    (within_append cs ds (after q c) (room - m) (omega (arith, both, h)))
    ∙ ap (λ (k : ℕ). c ∷ (cs ++ calls_within (after_all (after q c) cs) ds k)) e

none_within : (q : Queue) (room : ℕ) → calls_within q [] room ≡ []
unfolding calls_within
none_within q room = refl

all_within : (cs : List Turn) (q : Queue) (room : ℕ) →
    length (calls_print q cs) ≤ room → calls_within q cs room ≡ cs
all_within cs q room h =
    ap (λ (es : List Turn). calls_within q es room) (sym (append-nil cs))
    ∙ within_append cs [] q room h
    ∙ ap (λ (es : List Turn). cs ++ es) (none_within (after_all q cs) _)
    ∙ append-nil cs

-- all lines are run
pub all_image :
    (s : List ℕ) (q₀ : Queue) (k : ℕ) (b a₀ a : List ℕ) (at : ℕ) (w : Bool) →
    Between s q₀ k b a₀ a at w → k - 1 ≡ line_count s - 1 →
    b ≡ image_of (queue_after s q₀ (length a₀))
all_image s q₀ k b a₀ a at w i last =
    let cs = sheet_calls s q₀ (k - 1) in
    let lines = length_history (calls_print q₀ cs) in
    let long = i.written.long in
    let room : length (calls_print q₀ cs) ≤ length a₀ / 37 =
    omega (arith, lines, long, i.written.fits) in
    let same : cs ≡ all_calls s q₀ = ap (sheet_calls s q₀) last in
    sym i.sound.image
    ∙ ap image_of (sym i.here)
    ∙ ap (λ (ds : List Turn). image_of (after_all q₀ ds)) (sym (all_within cs q₀ (length a₀ / 37) room))
    ∙ ap (λ (ds : List Turn). image_of (after_all q₀ (calls_within q₀ ds (length a₀ / 37)))) same

-- the line of a call has no room: c is the image after it
pub part_image :
    (s : List ℕ) (q₀ : Queue) (l : SheetLine) (made : List Turn) (a₀ a : List ℕ) (at : ℕ) (w : Bool) →
    Written a₀ a at (calls_print q₀ made) w → Longer s q₀ l made (length a₀) →
    (c : List ℕ) → Sound c → after_all q₀ (one_more made l) ≡ queue_in c →
    c ≡ image_of (queue_after s q₀ (length a₀))
part_image s q₀ l made a₀ a at w i o c z here =
    let n = length (calls_print q₀ made) in
    let q = after_all q₀ made in
    let lines = length_history (calls_print q₀ made) in
    let long = i.long in
    let last = o.last in
    let room : n ≤ length a₀ / 37 = omega (arith, lines, long, i.fits) in
    let none : length a₀ / 37 - n < length (call_prints q (calls (call_of l))) =
    omega (arith, lines, long, last, o.one) in
    let made_are : calls_within q₀ (all_calls s q₀) (length a₀ / 37) ≡ one_more made l =
    ap (λ (ds : List Turn). calls_within q₀ ds (length a₀ / 37)) o.is
    ∙ within_append made (calls (call_of l) ∷ o.rest) q₀ (length a₀ / 37) room
    ∙ ap (λ (ds : List Turn). made ++ ds) (last_within q (calls (call_of l)) o.rest _ none) in
    sym z.image
    ∙ ap image_of (sym here)
    ∙ ap (λ (ds : List Turn). image_of (after_all q₀ ds)) (sym made_are)
