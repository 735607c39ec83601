use Rattle.std.proofs.Common.{◌+◌, ◌∙◌, ap, arith}
use Rattle.image_begin.specs.Stores.{found}
use Rattle.image_begin.proofs.Choices.{found_some, takes_never, seen_earlier, seen_later}
use Rattle.image_begin.proofs.choice.choose.Goals as goal
use Rattle.image_begin.proofs.choice.choose.Goals.{then-t-least, else-t-least}

pub returns-then-used-eq0 : goal.returns-then-used-eq0
returns-then-used-eq0 c =
    found_some (c.loop-i.i + 1) (omega arith)
    ∙ ap found
    (takes_never c.args.b.now c.args.base c.requires.0 c.requires.1 c.loop-i.i (omega arith)
    _ c.number_from-used.ensures c.loop-i.invariant.none c.if-used-eq0.true)

pub loop-i-preserved : goal.loop-i-preserved
loop-i-preserved c =
    let b = c.args.b.now in
    let base = c.args.base in
    let v = c.loop-i in
    elim c.if-t-least.branch [
      | then-t-least w ↦
          rw (w.best-is, w.least-is)
          (seen_earlier b base c.requires.0 c.requires.1 v.i (omega arith) _ c.number_from-used.ensures
          v.best v.least v.invariant c.if-used-eq0.false _ c.end_of-t.ensures w.if-t-least.true)
      | else-t-least w ↦
          rw (w.best-is, w.least-is)
          (seen_later b base c.requires.0 c.requires.1 v.i (omega arith) _ c.number_from-used.ensures
          v.best v.least v.invariant c.if-used-eq0.false _ c.end_of-t.ensures w.if-t-least.false)
    ]
