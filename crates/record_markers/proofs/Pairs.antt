-- The bytes of markers: how long they are. Assumes nothing.
use mathlib.Core.Path.{◌≡◌, refl, ◌∙◌}
use mathlib.Core.Bool.{Bool, true, false, cond}
use mathlib.Core.List.{[], ◌∷◌}
use Prim.Native.Nat.{ℕ, zero, suc, ◌*◌}
use native.Mathlib.Omega.{arith}
use lib.ListN.{length, length-append}
use Rattle.laws.specs.HowMany.{how_many}
use Rattle.record.specs.declared.queues.Queue.{Queue}
use Rattle.record_markers.specs.Markers.{marker_byte, in_use_at, pair_at, pairs_to}
use Rattle.record.specs.Queues.{node_at}

-- a node has two bytes or none
pub length_pair : (q : Queue) (x : ℕ) → length (pair_at q x) ≡ 2 * cond (in_use_at q x) 1 0
length_pair q x = go (in_use_at q x)
  where
    go : (b : Bool) → length (cond b (x ∷ marker_byte (node_at q x).mark ∷ []) []) ≡ 2 * cond b 1 0
    go true = refl
    go false = refl

pub length_pairs : (q : Queue) (n : ℕ) → length (pairs_to q n) ≡ 2 * how_many (in_use_at q) n
length_pairs q zero = refl
length_pairs q (suc n) =
    length-append (pairs_to q n) (pair_at q (suc n))
    ∙ omega (arith, length_pairs q n, length_pair q (suc n))
