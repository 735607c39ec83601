use mathlib.Core.Path.{sym, ◌∙◌}
use native.Mathlib.Omega.{arith}
use Rattle.image_check.proofs.Tests.{passes_sound}
use Rattle.host_calls.proofs.Stored.{not_listed, too_short, listed_all}
use Rattle.host_calls.proofs.markers.darthog_markers.Goals as goal

pub returns-then-not-passes : goal.returns-then-not-passes
returns-then-not-passes c =
    let r =
    not_listed c.args.image.now c.args.area.now _
    (sym c.passes.ensures ∙ c.if-not-passes.true) c.reply.ensures in
    record { value = r.0; area_after = r.1 }

pub used_count-count-requires : goal.used_count-count-requires
used_count-count-requires c =
    let b = c.args.image.now in
    passes_sound b (λ k. omega (arith, c.shared_slice_known-1.given k))
    (sym c.passes.ensures ∙ c.if-not-passes.false)

pub returns-then-area-count : goal.returns-then-area-count
returns-then-area-count c =
    let r =
    too_short c.args.image.now c.args.area.now
    (sym c.passes.ensures ∙ c.if-not-passes.false) _ c.used_count-count.ensures.0 _
    (omega (arith, c.if-area-count.true)) c.reply-then-area-count.ensures in
    record { value = r.0; area_after = r.1 }

pub put_pairs-requires : goal.put_pairs-requires
put_pairs-requires c =
    let b = c.args.image.now in record {
      sound =
          passes_sound b (λ k. omega (arith, c.shared_slice_known-1.given k))
          (sym c.passes.ensures ∙ c.if-not-passes.false);
      image_in_bounds = omega (arith, c.if-area-count.false, c.used_count-count.ensures.0);
    }

pub returns : goal.returns
returns c =
    let r =
    listed_all c.args.image.now c.args.area.now
    (sym c.passes.ensures ∙ c.if-not-passes.false) _ c.used_count-count.ensures.0 _ _
    (omega (arith, c.if-area-count.false)) c.reply-2.ensures c.put_pairs.ensures in
    record { value = r.0; area_after = r.1 }
