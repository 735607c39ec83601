-- Laws of runs of stores, `sets` of lib.Seq. Assumes nothing.
use mathlib.Core.Path.{◌≡◌, refl, sym, ap, ◌∙◌}
use mathlib.Core.List.{List, [], ◌∷◌, ◌++◌, append-nil}
use Prim.Native.Nat.{ℕ, suc, ◌+◌, ◌≤◌}
use native.Mathlib.Nat.{add-zero, zero-add, add-suc, suc-add}
use native.Mathlib.Omega.{arith}
use lib.ListN.{length, drop, set, length-append, length-drop}
use lib.Seq.{sets, sets-eq, set_comm, drop-length, drop-append-add, drop-drop, take-append_seam}

-- one store, and then a run of stores at other places
pub set_sets : (l : List ℕ) (i j v : ℕ) (vs : List ℕ) → i + length vs ≤ j → sets (set l j v) i vs ≡ set (sets l i vs) j v
set_sets l i j v [] h = refl
set_sets l i j v (w ∷ vs) h =
    ap (λ (x : List ℕ). sets x (suc i) vs) (set_comm l j i v w (λ e. omega arith)) ∙ set_sets (set l i w) (suc i) j v vs (omega arith)

-- two runs, one behind the other
pub sets_append : (l : List ℕ) (i : ℕ) (vs ws : List ℕ) → sets l i (vs ++ ws) ≡ sets (sets l i vs) (i + length vs) ws
sets_append l i [] ws = ap (λ (k : ℕ). sets l k ws) (sym (add-zero i))
sets_append l i (v ∷ vs) ws =
    sets_append (set l i v) (suc i) vs ws
    ∙ ap (λ (k : ℕ). sets (sets (set l i v) (suc i) vs) k ws) (suc-add i (length vs) ∙ sym (add-suc i (length vs)))

-- the last store first
pub sets_last : (l : List ℕ) (i n v : ℕ) (vs : List ℕ) → length vs ≡ n → sets (set l (i + n) v) i vs ≡ sets l i (vs ++ (v ∷ []))
sets_last l i n v vs e =
    set_sets l i (i + n) v vs (omega arith)
    ∙ ap (λ (k : ℕ). set (sets l i vs) (i + k) v) (sym e)
    ∙ sym (sets_append l i vs (v ∷ []))

-- stores over the whole of a list
pub sets_whole : (l vs : List ℕ) → length vs ≡ length l → sets l 0 vs ≡ vs
sets_whole l vs e =
    sets-eq vs l 0 (omega arith)
    ∙ ap (λ (k : ℕ). vs ++ drop k l) (zero-add (length vs) ∙ e)
    ∙ ap (λ (x : List ℕ). vs ++ x) (drop-length l)
    ∙ append-nil vs

-- a run of stores behind what a writer has written so far: h is what is written, area what was lent
pub sets_behind :
    (area h b : List ℕ) → length h + length b ≤ length area
    → sets (h ++ drop (length h) area) (length h) b ≡ (h ++ b) ++ drop (length (h ++ b)) area
sets_behind area h b room =
    let n : length (h ++ drop (length h) area) ≡ length area = simp (length-append, length-drop) (omega arith) in
    sets-eq b (h ++ drop (length h) area) (length h) (omega arith)
    ∙ ap (λ (x : List ℕ). x ++ b ++ drop (length h + length b) (h ++ drop (length h) area)) (take-append_seam h (drop (length h) area))
    ∙ ap (λ (x : List ℕ). h ++ b ++ x) (drop-append-add h (drop (length h) area) (length b) ∙ drop-drop (length b) (length h) area)
    ∙ ap (λ (k : ℕ). h ++ b ++ drop k area) (sym (length-append h b))
