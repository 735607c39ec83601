use mathlib.Core.Path.{sym, ◌∙◌}
use native.Mathlib.Omega.{arith}
use Rattle.image_check.proofs.Tests.{passes_sound}
use Rattle.host_calls.proofs.Stored.{not_counted, counted}
use Rattle.host_calls.proofs.reads.darthog_backlog.Goals as goal

pub returns-then-not-passes : goal.returns-then-not-passes
returns-then-not-passes c =
    not_counted c.args.image.now _
    (sym c.passes.ensures ∙ c.if-not-passes.true)
    c.reply.ensures

pub pending-requires : goal.pending-requires
pending-requires c =
    let b = c.args.image.now in
    passes_sound b (λ k. omega (arith, c.shared_slice_known-1.given k))
    (sym c.passes.ensures ∙ c.if-not-passes.false)

pub returns : goal.returns
returns c =
    let b = c.args.image.now in
    counted b _
    (sym c.passes.ensures
    ∙ c.if-not-passes.false) _ c.pending.ensures
    c.reply-2.ensures
