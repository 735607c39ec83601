use mathlib.Core.Path.{refl}
use Rattle.image_delete.proofs.Steps.{walks_empty, walks_on}
use Rattle.image_delete.proofs.walk.read_next.Goals as goal

pub returns-then-x-n : goal.returns-then-x-n
returns-then-x-n c =
    walks_empty c.args.relaxed c.args.image.now c.args.base c.args.p c.requires _ _
    c.if-x-n.true
    (simp (
      c.clear.ensures,
      c.tick.ensures,
    )) refl

pub returns : goal.returns
returns c =
    walks_on c.args.relaxed c.args.image.now c.args.base c.args.p c.requires _ _
    c.if-x-n.false _ c.next_tag.ensures
    (simp c.tick.ensures) refl
