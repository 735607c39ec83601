use mathlib.Core.Path.{refl}
use Rattle.image_delete.proofs.Steps.{mark_set, marks}
use Rattle.image_delete.proofs.walk.set_mark.Goals as goal

pub returns-then-m-ne-UNMARKED : goal.returns-then-m-ne-UNMARKED
returns-then-m-ne-UNMARKED c =
    mark_set c.args.relaxed c.args.image.now c.args.base c.args.p c.requires _ _
    c.if-m-ne-UNMARKED.true _
    c.read_tag.ensures
    (simp c.tick.ensures) refl

pub returns : goal.returns
returns c =
    marks c.args.relaxed c.args.image.now c.args.base c.args.p c.requires _ _
    c.if-m-ne-UNMARKED.false
    (simp c.tick-2.ensures)
    (simp c.entry_at-entry.ensures)
