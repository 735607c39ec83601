-- Laws of the history as it is written: its lengths, and an event's bytes stored in turn. Assumes nothing.
use mathlib.Core.Path.{◌≡◌, refl, sym, ap, ◌∙◌}
use mathlib.Core.List.{List, [], ◌∷◌, ◌++◌, append_assoc}
use Prim.Native.Nat.{ℕ, ◌+◌, ◌*◌}
use native.Mathlib.Numerals.{add-one}
use native.Mathlib.Omega.{arith}
use lib.ListN.{length, set, length-append}
use lib.Seq.{sets, length-sets}
use Rattle.sheet_format.specs.declared.events.HistoryLine.{HistoryLine}
use Rattle.sheet_format.specs.Columns.{columns, all_columns}
use Rattle.sheet_format.specs.Events.{event_bytes, history_bytes}
use Rattle.sheet_format.specs.Lines.{line_length_for, line_bytes}
use Rattle.sheet_format.proofs.Padding.{length_columns}
use Rattle.sheet_format.proofs.Stores.{sets_append}

-- a line with so many numbers has so many bytes
length_all : (ns : List ℕ) → length (all_columns ns) ≡ 7 * length ns
length_all [] = refl
length_all (n ∷ ns) =
    let h = length-append (columns n) (all_columns ns) in
    let m = length_columns n in
    let r = length_all ns in
    omega (arith, h, m, r)

length_line : (letter : ℕ) (ns : List ℕ) → length (line_bytes letter ns) ≡ line_length_for (length ns)
length_line letter ns =
    let h = length-append (all_columns ns) (10 ∷ []) in
    let r = length_all ns in
    omega (arith, h, r)

pub length_event : (e : HistoryLine) → length (event_bytes e) ≡ 37
length_event e =
    length_line e.letter (e.time ∷ e.processor ∷ e.first ∷ e.second ∷ e.third ∷ [])

pub length_history : (es : List HistoryLine) → length (history_bytes es) ≡ 37 * length es
length_history [] = refl
length_history (e ∷ es) =
    let h : length (history_bytes (e ∷ es)) ≡ length (event_bytes e) + length (history_bytes es) = length-append (event_bytes e) (history_bytes es) in
    let m : length (event_bytes e) ≡ 37 = length_event e in
    let r : length (history_bytes es) ≡ 37 * length es = length_history es in
    h ∙ ap (λ (n : ℕ). n + length (history_bytes es)) m ∙ ap (λ (n : ℕ). 37 + n) r ∙ omega arith

-- a history of two parts
pub history_append : (es fs : List HistoryLine) → history_bytes (es ++ fs) ≡ history_bytes es ++ history_bytes fs
history_append [] fs = refl
history_append (e ∷ es) fs = ap (λ (x : List ℕ). event_bytes e ++ x) (history_append es fs) ∙ sym (append_assoc (event_bytes e) (history_bytes es) (history_bytes fs))

-- a store keeps the length
pub length_stored : (l m : List ℕ) (i n : ℕ) (vs : List ℕ) → m ≡ sets l i vs → length l ≡ n → length m ≡ n
length_stored l m i n vs h k = ap length h ∙ length-sets l i vs ∙ k

-- seven bytes, and what comes behind them
behind : (l m : List ℕ) (i j : ℕ) (vs ws : List ℕ) → length vs ≡ 7 → j ≡ i + 7 → m ≡ sets l i vs → sets l i (vs ++ ws) ≡ sets m j ws
behind l m i j vs ws n p h =
    sets_append l i vs ws
    ∙ ap (λ (k : ℕ). sets (sets l i vs) (i + k) ws) n
    ∙ ap (λ (k : ℕ). sets (sets l i vs) k ws) (sym p)
    ∙ ap (λ (x : List ℕ). sets x j ws) (sym h)

-- a line feed behind the columns of a number and of those behind it
feed : (n : ℕ) (ns : List ℕ) → all_columns (n ∷ ns) ++ (10 ∷ []) ≡ columns n ++ (all_columns ns ++ (10 ∷ []))
feed n ns = append_assoc (columns n) (all_columns ns) (10 ∷ [])

-- one number's columns stored, and what is left of the line behind them
next_field :
    (l m : List ℕ) (i j n : ℕ) (ns : List ℕ) → j ≡ i + 7 → m ≡ sets l i (columns n)
    → sets l i (all_columns (n ∷ ns) ++ (10 ∷ [])) ≡ sets m j (all_columns ns ++ (10 ∷ []))
next_field l m i j n ns p h =
    ap (sets l i) (feed n ns) ∙ behind l m i j (columns n) (all_columns ns ++ (10 ∷ [])) (length_columns n) p h

-- an event's letter, fields and line feed, stored one after the other
pub sets_event :
    (a : List ℕ) (at : ℕ) (e : HistoryLine) (l₁ l₂ l₃ l₄ l₅ : List ℕ)
    → l₁ ≡ sets (set a at e.letter) (at + 1) (columns e.time)
    → l₂ ≡ sets l₁ (at + 8) (columns e.processor)
    → l₃ ≡ sets l₂ (at + 15) (columns e.first)
    → l₄ ≡ sets l₃ (at + 22) (columns e.second)
    → l₅ ≡ sets l₄ (at + 29) (columns e.third)
    → set l₅ (at + 36) 10 ≡ sets a at (event_bytes e)
sets_event a at e l₁ l₂ l₃ l₄ l₅ e₁ e₂ e₃ e₄ e₅ =
    let first = set a at e.letter in
    let n₅ : List ℕ = e.third ∷ [] in
    let n₄ : List ℕ = e.second ∷ n₅ in
    let n₃ : List ℕ = e.first ∷ n₄ in
    let n₂ : List ℕ = e.processor ∷ n₃ in
    let n₁ : List ℕ = e.time ∷ n₂ in
    sym
    (ap (λ (k : ℕ). sets first k (all_columns n₁ ++ (10 ∷ []))) (sym (add-one at))
    ∙ next_field first l₁ (at + 1) (at + 8) e.time n₂ (omega arith) e₁
    ∙ next_field l₁ l₂ (at + 8) (at + 15) e.processor n₃ (omega arith) e₂
    ∙ next_field l₂ l₃ (at + 15) (at + 22) e.first n₄ (omega arith) e₃
    ∙ next_field l₃ l₄ (at + 22) (at + 29) e.second n₅ (omega arith) e₄
    ∙ next_field l₄ l₅ (at + 29) (at + 36) e.third [] (omega arith) e₅)
