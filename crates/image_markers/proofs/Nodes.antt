-- A node's use and mark, by its bytes. Assumes nothing.
use mathlib.Core.Path.{◌≡◌, refl, sym, ◌∙◌, ap}
use mathlib.Core.List.{List}
use Prim.Native.Nat.{ℕ, ◌+◌, ◌*◌, ◌≤◌}
use native.Mathlib.Omega.{arith}
use lib.Dec.{eqb}
use lib.ListN.{get_or}
use Rattle.record.specs.declared.nodes.Node.{Node}
use Rattle.record.specs.Nodes.{is_in_use}
use Rattle.record.specs.Queues.{node_at}
use Rattle.record_markers.specs.Markers.{in_use_at}
use Rattle.image.specs.Image.{queue_in, start_of, Sound}
use Rattle.image.proofs.Fields.{node_is}
use Rattle.image_check.proofs.Counts.{short, used}

module _ (b : List ℕ) (s : Sound b) (x : ℕ) (low : x ≤ get_or b 1 0 + 1) where
  pub used_is : in_use_at (queue_in b) x ≡ eqb (get_or b (start_of b + 41 * x + 36) 0) 1
  used_is =
      ap (λ (n : Node). is_in_use n.state) (node_is b (start_of b) refl (short b s) x (omega arith))
      ∙ used (get_or b (start_of b + 41 * x + 36) 0) _

  pub mark_is : get_or b (start_of b + 41 * x + 17) 0 ≡ (node_at (queue_in b) x).mark
  mark_is =
      sym (ap (λ (n : Node). n.mark) (node_is b (start_of b) refl (short b s) x (omega arith)))

pub nodes_is : (b : List ℕ) → (queue_in b).node_count ≡ get_or b 1 0
unfolding queue_in
nodes_is b = refl
