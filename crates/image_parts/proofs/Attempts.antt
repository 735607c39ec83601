-- What an attempt at a lock gives after the clock ticks: the lock's byte is none of the clock's.
-- Assumes nothing.
use Rattle.std.specs.Prelude.{Option, ℕ}
use mathlib.Core.Path.{◌≡◌, refl, sym, ◌∙◌, ap}
use mathlib.Core.List.{List, [], ◌∷◌}
use Prim.Native.Nat.{ℕ, ◌+◌, ◌≤◌}
use native.Mathlib.Omega.{arith}
use lib.ListN.{get_or, set}
use lib.Seq.{get_or-set_other}
use Rattle.rules.specs.Decide.{attempt}
use Rattle.image.specs.Puts.{puts, four}
use Rattle.image.proofs.Puts.{Below}

-- a byte past those that are stored
past_same : (b : List ℕ) (n x : ℕ) (es : List (ℕ × ℕ)) → Below n es → n ≤ x →
    get_or (puts b 0 es) x 0 ≡ get_or b x 0
past_same b n x [] low h = refl
past_same b n x (e ∷ es) low h =
    past_same (set b (0 + e.0) e.1) n x es low.1 h
    ∙ get_or-set_other b (0 + e.0) x e.1 0 (λ same. omega (arith, low.0))

-- the attempt r at the byte x of the bytes `one`, which came out as t
pub tried : (b one : List ℕ) (n x : ℕ) (r t : Option ℕ) → 7 ≤ x → one ≡ puts b 0 (four 3 n) →
    r ≡ attempt (get_or one x 0) → r ≡ t → attempt (get_or b x 0) ≡ t
tried b one n x r t h e f g =
    let low : Below 7 (four 3 n) = (omega arith, (omega arith, (omega arith, (omega arith, tt)))) in
    ap attempt
    (sym (past_same b 7 x (four 3 n) low h) ∙ ap (λ (l : List ℕ). get_or l x 0) (sym e))
    ∙ sym f ∙ g
