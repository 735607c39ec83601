-- What holds between two lines of a sheet and between two calls of a line: the image, and the
-- history as far as it is written. Assumes nothing.
use mathlib.Core.Path.{◌≡◌, refl, sym, ap, ◌∙◌, subst}
use mathlib.Core.Bool.{Bool, true, false, cond}
use mathlib.Core.List.{List, [], ◌∷◌, ◌++◌, append-nil, append_assoc}
use Prim.Native.Nat.{ℕ, ◌+◌, ◌-◌, ◌≤◌, ◌<◌}
use native.Mathlib.Omega.{arith}
use lib.ListN.{length, drop, length-append, length-drop}
use lib.Seq.{sets}
use borrow.Author.Tests.{leb-true, leb-false}
use Rattle.record.specs.declared.queues.Queue.{Queue}
use Rattle.image.specs.Image.{queue_in, Sound}
use Rattle.image_parts.specs.Given.{Gives}
use Rattle.rules.specs.declared.answers.Answer.{Answer}
use Rattle.rules.specs.declared.answers.Outcome.{Outcome}
use Rattle.rules.specs.Answers.{is_refused, reported}
use Rattle.rules.specs.Calls.{called}
use Rattle.rules.specs.Runs.{Turn, calls, after_all}
use Rattle.rules.proofs.Inner.{call_inner}
use Rattle.sheet_format.specs.declared.events.HistoryLine.{HistoryLine}
use Rattle.sheet_format.specs.declared.lines.SheetLine.{SheetLine}
use Rattle.sheet_format.specs.Calls.{call_of, calls_of, line_calls, sheet_calls, all_calls, call_prints}
use Rattle.sheet_format.specs.Calls.{calls_print}
use Rattle.sheet_format.specs.Events.{is_silent, event_for, call_events, event_bytes, history_bytes}
use Rattle.sheet_format.specs.Events.{room_at, with_event}
use Rattle.sheet_format.specs.Lines.{line_of, part_at, line_count}
use Rattle.laws.specs.Front.{at_front}
use Rattle.sheet_format.proofs.Stores.{sets_behind}
use Rattle.sheet_format.proofs.Written.{length_event, history_append}
use Rattle.sheet_lines.proofs.Called.{call_on, call_queue}
use Rattle.sheet_lines.proofs.Histories.{no_calls, more_calls, next_line, calls_grow}
use Rattle.sheet_lines.proofs.Histories.{left_of, Going, one_more, goes_on, prints_on}

-- an area with bytes at its front, or only counted
abbrev pub filled : List ℕ → List ℕ → Bool → List ℕ
filled h area writing = cond writing (at_front h area) area

-- the history so far: a₀ is the area as it was lent, a as it is
pub record Written (a₀ a : List ℕ) (at : ℕ) (es : List HistoryLine) (w : Bool) : Type 0 where
  pub long : at ≡ length (history_bytes es)
  pub bytes : a ≡ filled (history_bytes es) a₀ w
  pub fits : at ≤ length a₀

-- k lines are run, the Q line counted: b is the image
pub record Between (s : List ℕ) (q₀ : Queue) (k : ℕ) (b a₀ a : List ℕ) (at : ℕ) (w : Bool) :
    Type 0 where
  pub here : after_all q₀ (sheet_calls s q₀ (k - 1)) ≡ queue_in b
  pub sound : Sound b
  pub written : Written a₀ a at (calls_print q₀ (sheet_calls s q₀ (k - 1))) w

-- within line k, with so many calls left
pub record Within (s : List ℕ) (q₀ : Queue) (k : ℕ) (l : SheetLine) (left : ℕ) (b a₀ a : List ℕ)
    (at : ℕ) (w : Bool) : Type 0 where
  pub made : List Turn
  pub going : Going s q₀ k l left (queue_in b) made
  pub sound : Sound b
  pub written : Written a₀ a at (calls_print q₀ made) w

-- a history longer than its area: the lines of some calls are written, and the next call's has no
-- room
pub record Longer (s : List ℕ) (q₀ : Queue) (l : SheetLine) (made : List Turn) (room : ℕ) : Type 0 where
  pub rest : List Turn
  pub is : all_calls s q₀ ≡ made ++ (calls (call_of l) ∷ rest)
  pub one : length (call_prints (after_all q₀ made) (calls (call_of l))) ≡ 1
  pub last : room < length (history_bytes (calls_print q₀ made)) + 37

-- nothing is written yet
nothing_written : (a : List ℕ) (w : Bool) → a ≡ filled [] a w
nothing_written a true = refl
nothing_written a false = refl

pub at_first : (s b a : List ℕ) (w : Bool) → Sound b → Between s (queue_in b) 1 b a a 0 w
unfolding after_all sheet_calls calls_print
at_first s b a w v = record {
  here = refl;
  sound = v;
  written = record { long = refl; bytes = nothing_written a w; fits = omega arith };
}

length_area : (h a : List ℕ) (w : Bool) → length h ≤ length a → length (filled h a w) ≡ length a
length_area h a true f = simp (length-append, length-drop) (omega arith)
length_area h a false f = refl

-- one line of the history more
one_more_lem : (es : List HistoryLine) (e : HistoryLine) → history_bytes (es ++ (e ∷ [])) ≡ history_bytes es ++ event_bytes e
one_more_lem es e = history_append es (e ∷ []) ∙ ap (λ (x : List ℕ). history_bytes es ++ x) (append-nil (event_bytes e))

stored : (h a b c : List ℕ) (at : ℕ) (w : Bool) (e : HistoryLine) →
    at ≡ length h → b ≡ filled h a w → length h + length (event_bytes e) ≤ length a → room_at b at ≡ true → c ≡ with_event b at e w →
    c ≡ filled (h ++ event_bytes e) a w
stored h a b c at true e p k f r d =
    d
    ∙ ap (λ (t : Bool). cond t (sets b at (event_bytes e)) b) r
    ∙ ap (λ (x : List ℕ). sets x at (event_bytes e)) k
    ∙ ap (λ (n : ℕ). sets (h ++ drop (length h) a) n (event_bytes e)) p
    ∙ sets_behind a h (event_bytes e) f
stored h a b c at false e p k f r d = d ∙ ap (λ (t : Bool). cond t b b) r ∙ k

pub written_more :
    (a₀ a b : List ℕ) (at : ℕ) (es : List HistoryLine) (e : HistoryLine) (w : Bool) →
    Written a₀ a at es w → room_at a at ≡ true → b ≡ with_event a at e w → Written a₀ b (at + 37) (es ++ (e ∷ [])) w
written_more a₀ a b at es e w h r d =
    let n = length_event e in
    let m = length-append (history_bytes es) (event_bytes e) in
    let l = h.long in
    let g : length a ≡ length a₀ = ap length h.bytes ∙ length_area (history_bytes es) a₀ w (omega (arith, l, h.fits)) in
    let room : at + 37 ≤ length a = leb-true (at + 37) (length a) r in
    let o = ap length (one_more_lem es e) in
    let f : length (history_bytes es) + length (event_bytes e) ≤ length a₀ = omega (arith, n, l, g, room) in
    record {
      long = omega (arith, n, m, l, o);
      bytes = stored (history_bytes es) a₀ a b at w e l h.bytes f r d ∙ ap (λ (x : List ℕ). filled x a₀ w) (sym (one_more_lem es e));
      fits = omega (arith, g, room);
    }

pub same_area : (a₀ a : List ℕ) (at : ℕ) (es : List HistoryLine) (w : Bool) → Written a₀ a at es w → length a ≡ length a₀
same_area a₀ a at es w h =
    let o = h.long in
    ap length h.bytes ∙ length_area (history_bytes es) a₀ w (omega (arith, o, h.fits))

-- an event that has no room changes nothing
pub no_room : (a b : List ℕ) (at : ℕ) (e : HistoryLine) (w : Bool) → room_at a at ≡ false → b ≡ with_event a at e w → b ≡ a
no_room a b at e w r h = h ∙ ap (λ (t : Bool). cond t (cond w (sets a at (event_bytes e)) a) a) r

module _ (s : List ℕ) (q₀ : Queue) (k : ℕ) (l : SheetLine) (a₀ : List ℕ) (w : Bool) where
  -- a line begins, and ends
  pub begins :
      (b a : List ℕ) (at left : ℕ) →
      1 ≤ k → Between s q₀ k b a₀ a at w → l ≡ line_of (part_at s (k + 1)) → left ≡ calls_of l →
      Within s q₀ (k + 1) l left b a₀ a at w
  begins b a at left h i e c =
      let made = sheet_calls s q₀ (k - 1) in
      record {
        made = made;
        going = record {
          here = i.here;
          whole =
              ap (λ (q : Queue). made ++ line_calls q l left) (sym i.here)
              ∙ ap (λ (n : ℕ). made ++ line_calls (after_all q₀ made) l n) c
              ∙ sym (next_line s q₀ k l h e);
        };
        sound = i.sound;
        written = i.written;
      }

  pub ends : (b a : List ℕ) (at left : ℕ) → left ≡ 0 → Within s q₀ k l left b a₀ a at w →
      Between s q₀ k b a₀ a at w
  ends b a at left z i =
      let e : i.made ≡ sheet_calls s q₀ (k - 1) =
      sym (append-nil i.made)
      ∙ ap (λ (cs : List Turn). i.made ++ cs) (sym (no_calls (queue_in b) l))
      ∙ ap (λ (n : ℕ). i.made ++ line_calls (queue_in b) l n) (sym z)
      ∙ i.going.whole in
      record {
        here = ap (after_all q₀) (sym e) ∙ i.going.here;
        sound = i.sound;
        written = subst (λ (cs : List Turn). Written a₀ a at (calls_print q₀ cs) w) e i.written;
      }

  -- a call leaves the image c and answers r
  module _
      (b a : List ℕ) (at left : ℕ) (i : Within s q₀ k l left b a₀ a at w) (some : 0 < left)
      (c : List ℕ) (r : Answer) (g : Gives (call_on l (queue_in b)) c r) (z : Sound c) where
    abbrev u : Outcome
    u = record { queue = queue_in c; answer = r }

    abbrev es : List HistoryLine
    es = calls_print q₀ i.made

    abbrev new : HistoryLine
    new = event_for (call_of l) (queue_in c).clock (reported r)

    outcome_is : u ≡ called (queue_in b) (call_of l)
    outcome_is =
        ap (λ (q : Queue). record { queue = q; answer = r }) (call_queue l b i.sound c r g)
        ∙ ap (λ (x : Answer). record { queue = (call_on l (queue_in b)).queue; answer = x }) g.answer
        ∙ sym (call_inner (queue_in b) (call_of l) i.sound.passes)

    pub gone : (n : ℕ) → n ≡ cond (is_refused r) 0 (left - 1) →
        Going s q₀ k l n (queue_in c) (one_more i.made l)
    gone n e =
        goes_on s q₀ k l left (queue_in b) i.made i.going (queue_in c) n some
        (ap (λ (o : Outcome). o.queue) outcome_is)
        (e ∙ ap (λ (o : Outcome). cond (is_refused o.answer) 0 (left - 1)) outcome_is)

    -- what it prints
    prints_as : (t : Bool) → is_silent (call_of l) r ≡ t →
        call_prints (queue_in b) (calls (call_of l)) ≡ cond t [] (new ∷ [])
    prints_as t p =
        ap (λ (o : Outcome). call_events (call_of l) o.queue.clock o.answer) (sym outcome_is)
        ∙ ap (λ (x : Bool). cond x [] (new ∷ [])) p

    printed_as : (t : Bool) → is_silent (call_of l) r ≡ t →
        calls_print q₀ (one_more i.made l) ≡ es ++ cond t [] (new ∷ [])
    printed_as t p =
        prints_on s q₀ k l left (queue_in b) i.made i.going
        ∙ ap (λ (fs : List HistoryLine). es ++ fs) (prints_as t p)

    pub call_silent : (n : ℕ) → n ≡ cond (is_refused r) 0 (left - 1) →
        is_silent (call_of l) r ≡ true → Within s q₀ k l n c a₀ a at w
    call_silent n e p = record {
      made = one_more i.made l;
      going = gone n e;
      sound = z;
      written =
          subst (λ (fs : List HistoryLine). Written a₀ a at fs w) (sym (printed_as true p ∙ append-nil es))
          i.written;
    }

    -- one line of the history more
    pub call_prints_lem :
        (n : ℕ) (e : HistoryLine) (d : List ℕ) →
        n ≡ cond (is_refused r) 0 (left - 1) →
        is_silent (call_of l) r ≡ false →
        e ≡ new →
        room_at a at ≡ true →
        d ≡ with_event a at e w →
        Within s q₀ k l n c a₀ d (at + 37) w
    call_prints_lem n e d m p f room y = record {
      made = one_more i.made l;
      going = gone n m;
      sound = z;
      written =
          subst (λ (fs : List HistoryLine). Written a₀ d (at + 37) fs w)
          (ap (λ (x : HistoryLine). es ++ (x ∷ [])) f ∙ sym (printed_as false p))
          (written_more a₀ a d at es e w i.written room y);
    }

    -- the history is longer than the area
    pub call_long : is_silent (call_of l) r ≡ false → room_at a at ≡ false →
        k - 1 ≤ line_count s - 1 → Longer s q₀ l i.made (length a₀)
    call_long p room m =
        let q = queue_in b in
        let o = i.written.long in
        let n = same_area a₀ a at es w i.written in
        let small : length a < at + 37 = leb-false (at + 37) (length a) room in
        let grown = calls_grow s q₀ (k - 1) (line_count s - 1) m in
        let more = line_calls (called q (call_of l)).queue l (left_of q l (left - 1)) in
        record {
          rest = more ++ grown.rest;
          is =
              grown.is
              ∙ ap (λ (cs : List Turn). cs ++ grown.rest) (sym i.going.whole)
              ∙ append_assoc i.made (line_calls q l left) grown.rest
              ∙ ap (λ (cs : List Turn). i.made ++ (cs ++ grown.rest)) (more_calls q l left some);
          one =
              ap (λ (x : Queue). length (call_prints x (calls (call_of l)))) i.going.here
              ∙ ap length (prints_as false p);
          last = omega (arith, o, n, small);
        }
