-- What markers answers and leaves of the area, at each of its ends. Assumes nothing.
use mathlib.Core.Path.{◌≡◌, refl, sym, ap, ◌∙◌}
use mathlib.Core.Bool.{Bool, true, false, cond}
use mathlib.Core.List.{List}
use Prim.Native.Nat.{ℕ, ◌*◌, ◌≤◌, ◌<◌}
use lib.ListN.{length}
use borrow.Author.Tests.{lt-ltb, le-ltb}
use Rattle.laws.specs.Front.{at_front}
use Rattle.record.specs.declared.queues.Queue.{Queue}
use Rattle.record_check.specs.Check.{valid}
use Rattle.std.specs.Prelude.{Result, Ok, Err}
use Rattle.record.specs.declared.refusals.Refusal.{Refusal}
use Rattle.record.specs.declared.refusals.Refusal.TheVariants as refusal
use Rattle.record_markers.specs.Markers.{pairs_to, used_count, markers_of}
use Rattle.record_markers.specs.Markers.{area_by, area_after, reported_markers}

first_of : (t : Bool) (x y : Result ℕ Refusal) → t ≡ true → x ≡ cond t x y
first_of t x y h = ap (λ (b : Bool). cond b x y) (sym h)

second_of : (t : Bool) (x y : Result ℕ Refusal) → t ≡ false → y ≡ cond t x y
second_of t x y h = ap (λ (b : Bool). cond b x y) (sym h)

module _ (q : Queue) (a : List ℕ) where
  -- the contract at the answer r, with the area b at exit
  abbrev pub Told : Result ℕ Refusal → List ℕ → Type 0
  Told r b =
      (r ≡ markers_of q (length a))
      × ((reported_markers r ≡ reported_markers (markers_of q (length a))) × (b ≡ area_after q a))

  told : (r : Result ℕ Refusal) (b : List ℕ) → r ≡ markers_of q (length a) →
      b ≡ area_by (pairs_to q q.node_count) a r → Told r b
  told r b e f = (e, (ap reported_markers e, f ∙ ap (area_by (pairs_to q q.node_count) a) e))

  pub not_valid : valid q ≡ false → Told (Err refusal.Invalid) a
  not_valid h = told (Err refusal.Invalid) a (second_of (valid q) _ (Err refusal.Invalid) h) refl

  module _ (h : valid q ≡ true) where
    pub too_short : length a < 2 * used_count q → Told (Err refusal.Room) a
    too_short less =
        let e = first_of _ (Err refusal.Room) (Ok (used_count q)) (lt-ltb _ _ less) in
        told (Err refusal.Room) a (e ∙ first_of (valid q) _ _ h) refl

    pub filled : 2 * used_count q ≤ length a → (k : ℕ) (b : List ℕ) → k ≡ used_count q →
        b ≡ at_front (pairs_to q q.node_count) a → Told (Ok k) b
    filled room k b e f =
        let g = second_of _ (Err refusal.Room) (Ok (used_count q)) (le-ltb _ _ room) in
        told (Ok k) b (ap Ok e ∙ g ∙ first_of (valid q) _ _ h) f
