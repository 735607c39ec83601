use mathlib.Core.Path.{◌∙◌}
use native.Mathlib.Omega.{arith}
use Rattle.image_check.proofs.Tests.{processor_begun, processor_saved, processor_past}
use Rattle.image_check.proofs.Tests.{processor_errand}
use Rattle.image_check.proofs.processors.processor_passes.Goals as goal

pub returns-then-number_from : goal.returns-then-number_from
returns-then-number_from c =
    processor_begun c.args.b.now c.args.p c.requires.1 c.requires.2 c.requires.4 c.requires.5
    c.number_from.ensures c.number_from-2.ensures c.if-number_from.true

pub returns-then-not-levels_low : goal.returns-then-not-levels_low
returns-then-not-levels_low c =
    processor_saved c.args.b.now c.args.p c.requires.1 c.requires.2 c.requires.4 c.requires.5
    c.levels_low.ensures (c.if-not-levels_low.true)

pub returns-then-number-ge-COUNT : goal.returns-then-number-ge-COUNT
returns-then-number-ge-COUNT c =
    processor_past c.args.b.now c.args.p c.requires.1 c.requires.2 c.requires.4 c.requires.5
    c.if-number-ge-COUNT.true

pub returns-then-not-errand_passes : goal.returns-then-not-errand_passes
returns-then-not-errand_passes c =
    let b = c.args.b.now in
    processor_errand b c.args.p c.requires.1 c.requires.2 c.requires.4 c.requires.5
    c.number_from.ensures c.number_from-2.ensures c.if-number_from.false
    c.levels_low.ensures (c.if-not-levels_low.false) (omega (arith, c.if-number-ge-COUNT.false))
    c.number_from-due.ensures c.number_from-ticket.ensures c.errand_passes.ensures
    (c.if-not-errand_passes.true)

pub returns : goal.returns
returns c =
    let b = c.args.b.now in
    c.stage_passes.ensures
    ∙ processor_errand b c.args.p c.requires.1 c.requires.2 c.requires.4 c.requires.5
    c.number_from.ensures c.number_from-2.ensures c.if-number_from.false
    c.levels_low.ensures (c.if-not-levels_low.false) (omega (arith, c.if-number-ge-COUNT.false))
    c.number_from-due.ensures c.number_from-ticket.ensures c.errand_passes.ensures
    (c.if-not-errand_passes.false)
