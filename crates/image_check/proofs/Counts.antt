-- Which nodes Backlog counts, by their bytes. Assumes nothing.
use Rattle.std.specs.Prelude.{Some, None}
use mathlib.Core.Path.{◌≡◌, refl, sym, ◌∙◌, ap}
use mathlib.Core.Bool.{Bool, true, false, cond, not}
use mathlib.Core.List.{List}
use Prim.Native.Nat.{ℕ, zero, suc, ◌+◌, ◌-◌, ◌*◌, ◌≤◌}
use native.Mathlib.Omega.{arith}
use lib.Dec.{eqb}
use lib.ListN.{get_or}
use borrow.Author.Tests.{eqb-true, ne_eqb, lt-ltb}
use Rattle.laws.specs.HowMany.{how_many}
use Rattle.laws.proofs.HowMany.{many_more}
use Rattle.record_check.specs.Backlog.{holds_pending, pending_at}
use Rattle.record_check.proofs.SizeLaws.{valid_sizes}
use Rattle.record.specs.declared.nodes.Use.TheVariants as use'
use Rattle.record.specs.Nodes.{is_in_use, is_marked, is_stamped}
use Rattle.image.specs.Image.{queue_in, start_of, Sound}
use Rattle.image.specs.Tags.{timed, stamp_of, use_of}
use Rattle.image.proofs.Fields.{node_is}
use Rattle.image_check.specs.Pending.{pending_bytes}

pub used : (t u : ℕ) → is_in_use (use_of (timed t u)) ≡ eqb t 1
used t u = go (eqb t 2) (eqb t 1) refl refl
  where
    go : (x y : Bool) → eqb t 2 ≡ x → eqb t 1 ≡ y →
        is_in_use (cond x (use'.Retired u) (cond y use'.InUse use'.Never)) ≡ y
    go true y h k =
        let z = eqb-true t 2 h in
        sym (ne_eqb t 1 (λ e. omega arith)) ∙ k
    go false true h k = refl
    go false false h k = refl

stamped : (t u : ℕ) → is_stamped (stamp_of (timed t u)) ≡ eqb t 1
stamped t u = go (eqb t 1)
  where
    go : (x : Bool) → is_stamped (cond x (Some u) None) ≡ x
    go true = refl
    go false = refl

unmarked : (m : ℕ) → not (is_marked m) ≡ eqb m 0
unmarked zero = refl
unmarked (suc m) = rw (lt-ltb 0 (suc m) (omega arith), ne_eqb (suc m) 0 (λ e. omega arith)) refl

-- sizes of sound bytes
pub few : (b : List ℕ) → Sound b → get_or b 0 0 ≤ 16
unfolding queue_in
few b s = (valid_sizes (queue_in b) s.passes).processors_high

pub short : (b : List ℕ) → Sound b → get_or b 1 0 ≤ 200
unfolding queue_in
short b s = (valid_sizes (queue_in b) s.passes).nodes_high

module _ (b : List ℕ) (s : Sound b) where
  pending_is :
      (x : ℕ) → x ≤ get_or b 1 0 + 1 →
      let o = start_of b + 41 * x in
      pending_at (queue_in b) x
      ≡ pending_bytes (get_or b (o + 36) 0) (get_or b (o + 18) 0) (get_or b (o + 17) 0)
  pending_is x h =
      let o = start_of b + 41 * x in
      ap holds_pending (node_is b (start_of b) refl (short b s) x (omega arith))
      ∙ rw (used (get_or b (o + 36) 0) _, stamped (get_or b (o + 18) 0) _, unmarked (get_or b (o + 17) 0))
      refl

  -- one more node: i, behind those from 1 on
  pub pending_next :
      (i k r t : ℕ) → 1 ≤ i → i ≤ get_or b 1 0 →
      k ≡ how_many (pending_at (queue_in b)) (i - 1) →
      let o = start_of b + 41 * i in
      r ≡ cond (pending_bytes (get_or b (o + 36) 0) (get_or b (o + 18) 0) (get_or b (o + 17) 0)) 1 0 →
      t ≡ k + r → t ≡ how_many (pending_at (queue_in b)) (i + 1 - 1)
  pending_next i k r t low h e f g =
      let p = pending_at (queue_in b) in
      let y : i - 1 + 1 ≡ i = omega arith in
      let z : i + 1 - 1 ≡ i = omega arith in
      g ∙ rw (e, f, sym (pending_is i (omega arith)))
      (ap (λ (x : ℕ). how_many p (i - 1) + cond (p x) 1 0) (sym y)
      ∙ sym (many_more p (i - 1))
      ∙ ap (how_many p) (y ∙ sym z))
