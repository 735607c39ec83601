use mathlib.Core.Path.{sym, ◌∙◌}
use native.Mathlib.Omega.{arith}
use Rattle.image_check.proofs.Tests.{passes_sound}
use Rattle.rules.specs.Calls.{called_valid}
use Rattle.host_calls.proofs.Stored.{turned_down, carried_out, call_keeps}
use Rattle.host_calls.proofs.calls.call_on.Goals as goal

pub returns-then-not-passes : goal.returns-then-not-passes
returns-then-not-passes c =
    let r =
    turned_down c.args.image.now (λ q. called_valid q c.args.c) _
    (sym c.passes.ensures ∙ c.if-not-passes.true) c.reply.ensures in
    record { value = r.0; image_after = r.1 }

pub call_at-requires : goal.call_at-requires
call_at-requires c =
    let b = c.args.image.now in
    passes_sound b (λ k. omega (arith, c.slice_known-1.given k))
    (sym c.passes.ensures ∙ c.if-not-passes.false)

pub returns : goal.returns
returns c =
    let b = c.args.image.now in
    let ok = sym c.passes.ensures ∙ c.if-not-passes.false in
    let h = passes_sound b (λ k. omega (arith, c.slice_known-1.given k)) ok in
    let r =
    carried_out b (λ q. called_valid q c.args.c) _ _ _ ok h (call_keeps b h c.args.c)
    c.call_at.ensures.0 c.plain.ensures in
    record { value = r.0; image_after = r.1 }
