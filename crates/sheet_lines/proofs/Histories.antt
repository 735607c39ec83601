-- The calls of a sheet's lines, one call at a time: what is made, what is left, and what is printed.
-- Assumes nothing.
use mathlib.Core.Path.{◌≡◌, refl, sym, ap, ◌∙◌}
use mathlib.Core.Bool.{Bool, true, false, cond}
use mathlib.Core.List.{List, [], ◌∷◌, ◌++◌, append-nil, append_assoc}
use Prim.Native.Nat.{ℕ, zero, suc, ◌+◌, ◌-◌, ◌≤◌, ◌<◌}
use native.Mathlib.Omega.{arith}
use Rattle.laws.proofs.Booleans.{cond_elim}
use Rattle.record.specs.declared.queues.Queue.{Queue}
use Rattle.rules.specs.declared.answers.Answer.{Answer}
use Rattle.rules.specs.Answers.{is_refused}
use Rattle.rules.specs.Calls.{called}
use Rattle.rules.specs.Runs.{Turn, calls, after, after_all}
use Rattle.sheet_format.specs.declared.events.HistoryLine.{HistoryLine}
use Rattle.sheet_format.specs.declared.lines.SheetLine.{SheetLine}
use Rattle.sheet_format.specs.Calls.{call_of, calls_of, line_calls, sheet_calls, call_prints, calls_print}
use Rattle.sheet_format.specs.Lines.{line_of, part_at}

-- ---- two lists of calls, one behind the other

pub after_append :
    (cs ds : List Turn) (q : Queue) → after_all q (cs ++ ds) ≡ after_all (after_all q cs) ds
unfolding after_all
after_append [] ds q = refl
after_append (c ∷ cs) ds q = after_append cs ds (after q c)

pub after_one : (cs : List Turn) (c : Turn) (q : Queue) →
    after_all q (cs ++ (c ∷ [])) ≡ after (after_all q cs) c
unfolding after_all
after_one cs c q = after_append cs (c ∷ []) q

pub prints_append : (cs ds : List Turn) (q : Queue) →
    calls_print q (cs ++ ds) ≡ calls_print q cs ++ calls_print (after_all q cs) ds
unfolding after_all calls_print
prints_append [] ds q = refl
prints_append (c ∷ cs) ds q =
    let rest = calls_print (after q c) cs in
    ap (λ (es : List HistoryLine). call_prints q c ++ es) (prints_append cs ds (after q c))
    ∙ sym (append_assoc (call_prints q c) rest (calls_print (after_all (after q c) cs) ds))

pub prints_first : (c : Turn) (cs : List Turn) (q : Queue) →
    calls_print q (c ∷ cs) ≡ call_prints q c ++ calls_print (after q c) cs
unfolding calls_print
prints_first c cs q = refl

prints_none : (q : Queue) → calls_print q [] ≡ []
unfolding calls_print
prints_none q = refl

pub prints_one : (cs : List Turn) (c : Turn) (q : Queue) →
    calls_print q (cs ++ (c ∷ [])) ≡ calls_print q cs ++ call_prints (after_all q cs) c
prints_one cs c q =
    let r = after_all q cs in
    prints_append cs (c ∷ []) q
    ∙ ap (λ (es : List HistoryLine). calls_print q cs ++ es)
    (prints_first c [] r
    ∙ ap (λ (es : List HistoryLine). call_prints r c ++ es) (prints_none (after r c))
    ∙ append-nil (call_prints r c))

-- ---- the calls of a line

pub no_calls : (q : Queue) (l : SheetLine) → line_calls q l 0 ≡ []
unfolding line_calls
no_calls q l = refl

-- how many are left after a call
abbrev pub left_of : Queue → SheetLine → ℕ → ℕ
left_of q l n = cond (is_refused (called q (call_of l)).answer) 0 n

pub more_calls : (q : Queue) (l : SheetLine) (n : ℕ) → 0 < n →
    line_calls q l n
    ≡ calls (call_of l) ∷ line_calls (called q (call_of l)).queue l (left_of q l (n - 1))
unfolding line_calls
more_calls q l zero h = absurd (omega arith)
more_calls q l (suc n) h =
    let r = (called q (call_of l)).queue in
    let e : n ≡ suc n - 1 = omega arith in
    ap (λ (cs : List Turn). calls (call_of l) ∷ cs) (by (is_refused (called q (call_of l)).answer))
    ∙ ap (λ (m : ℕ). calls (call_of l) ∷ line_calls r l (left_of q l m)) e
  where
    by : (b : Bool) →
        cond b [] (line_calls (called q (call_of l)).queue l n)
        ≡ line_calls (called q (call_of l)).queue l (cond b 0 n)
    by true = sym (no_calls (called q (call_of l)).queue l)
    by false = refl

-- ---- the calls of the lines

pub next_line :
    (s : List ℕ) (q : Queue) (k : ℕ) (l : SheetLine) → 1 ≤ k → l ≡ line_of (part_at s (k + 1)) →
    sheet_calls s q (k + 1 - 1)
    ≡ sheet_calls s q (k - 1) ++ line_calls (after_all q (sheet_calls s q (k - 1))) l (calls_of l)
unfolding sheet_calls
next_line s q zero l h is = absurd (omega arith)
next_line s q (suc k) l h is =
    let e : suc k + 1 - 1 ≡ suc k = omega arith in
    let f : k + 2 ≡ suc k + 1 = omega arith in
    let g : k ≡ suc k - 1 = omega arith in
    ap (sheet_calls s q) e
    ∙ ap (λ (m : SheetLine). sheet_calls s q k ++ line_calls (after_all q (sheet_calls s q k)) m (calls_of m))
    (ap (λ (j : ℕ). line_of (part_at s j)) f ∙ sym is)
    ∙ ap (λ (j : ℕ). sheet_calls s q j ++ line_calls (after_all q (sheet_calls s q j)) l (calls_of l)) g

-- the calls of some lines are the first of those of more
pub record Grows (cs ds : List Turn) : Type 0 where
  pub rest : List Turn
  pub is : ds ≡ cs ++ rest

lines_grow : (s : List ℕ) (q : Queue) (k n j : ℕ) → n + k ≡ j →
    Grows (sheet_calls s q k) (sheet_calls s q j)
unfolding sheet_calls
lines_grow s q k zero j e =
    let f : k ≡ j = omega arith in
    record { rest = []; is = ap (sheet_calls s q) (sym f) ∙ sym (append-nil (sheet_calls s q k)) }
lines_grow s q k (suc n) j e =
    let f : j ≡ suc (n + k) = omega arith in
    let g = lines_grow s q k n (n + k) refl in
    let l = line_of (part_at s (n + k + 2)) in
    let new = line_calls (after_all q (sheet_calls s q (n + k))) l (calls_of l) in
    record {
      rest = g.rest ++ new;
      is =
          ap (sheet_calls s q) f
          ∙ ap (λ (cs : List Turn). cs ++ new) g.is
          ∙ append_assoc (sheet_calls s q k) g.rest new;
    }

pub calls_grow : (s : List ℕ) (q : Queue) (k m : ℕ) → k ≤ m →
    Grows (sheet_calls s q k) (sheet_calls s q m)
calls_grow s q k m h = lines_grow s q k (m - k) m (omega arith)

-- ---- on the way

-- within the line l, the k-th of the sheet, with so many calls left: q is the record after the calls
-- that are made, on q₀ at first
pub record Going (s : List ℕ) (q₀ : Queue) (k : ℕ) (l : SheetLine) (left : ℕ) (q : Queue)
    (made : List Turn) : Type 0 where
  pub here : after_all q₀ made ≡ q
  pub whole : made ++ line_calls q l left ≡ sheet_calls s q₀ (k - 1)

-- the calls made, with one of this line more
abbrev pub one_more : List Turn → SheetLine → List Turn
one_more made l = made ++ (calls (call_of l) ∷ [])

module _
    (s : List ℕ) (q₀ : Queue) (k : ℕ) (l : SheetLine) (left : ℕ) (q : Queue) (made : List Turn)
    (g : Going s q₀ k l left q made) where
  pub goes_on :
      (r : Queue) (n : ℕ) → 0 < left → r ≡ (called q (call_of l)).queue → n ≡ left_of q l (left - 1) →
      Going s q₀ k l n r (one_more made l)
  goes_on r n some e m = record {
    here =
        after_one made (calls (call_of l)) q₀
        ∙ ap (λ (x : Queue). after x (calls (call_of l))) g.here
        ∙ sym e;
    whole =
        append_assoc made (calls (call_of l) ∷ []) (line_calls r l n)
        ∙ ap (λ (x : Queue). made ++ (calls (call_of l) ∷ line_calls x l n)) e
        ∙ ap (λ (j : ℕ). made ++ (calls (call_of l) ∷ line_calls (called q (call_of l)).queue l j)) m
        ∙ ap (λ (cs : List Turn). made ++ cs) (sym (more_calls q l left some))
        ∙ g.whole;
  }

  pub prints_on :
      calls_print q₀ (one_more made l) ≡ calls_print q₀ made ++ call_prints q (calls (call_of l))
  prints_on =
      prints_one made (calls (call_of l)) q₀
      ∙ ap (λ (x : Queue). calls_print q₀ made ++ call_prints x (calls (call_of l))) g.here

-- no more calls are left than were
pub left_low : (a : Answer) (n : ℕ) → cond (is_refused a) 0 n ≤ n
left_low a n = cond_elim (λ (m : ℕ). m ≤ n) (is_refused a) 0 n (omega arith) (omega arith)
