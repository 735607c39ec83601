use mathlib.Core.Path.{refl, ◌∙◌}
use Prim.Native.Nat.{◌*◌}
use native.Mathlib.Omega.{arith}
use Rattle.image_list.proofs.Plains.{record_none, written_none, queue_next, written_next}
use Rattle.image_list.proofs.Plains.{start_next, put_length}
use Rattle.image_list.proofs.runs.run_calls.Goals as goal

pub loop-i-init : goal.loop-i-init
loop-i-init c = (
  c.requires,
  record_none _ _,
  written_none _ _ _,
  refl,
  omega arith,
  omega arith,
  refl,
  refl,
)

pub loop-i-preserved : goal.loop-i-preserved
loop-i-preserved c =
    let v = c.loop-i in
    let T = c.turn-r.ensures in
    let P = c.put_answer.ensures in (
      T.1,
      queue_next _ _ v.answers v.i _ _ _ _ v.invariant.0 v.invariant.1 refl T,
      written_next _ _ _ v.i _ _ _ _ v.invariant.0 v.invariant.1 refl T _ _ _ _ v.invariant.2 refl
          c.number_from.ensures P,
      put_length v.answers _ (v.i * 5) _ _ _ P v.invariant.3,
      v.invariant.4,
      v.invariant.5,
      c.turn-r.auto.image ∙ v.invariant.6,
      v.invariant.7
          ∙ start_next _ _ v.answers v.i _ _ _ _ v.invariant.0 v.invariant.1 refl T,
    )
