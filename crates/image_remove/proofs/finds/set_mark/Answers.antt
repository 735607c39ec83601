use Rattle.image_remove.proofs.Steps.{mark_set, marks}
use Rattle.image_remove.proofs.finds.set_mark.Goals as goal

pub returns-then-m-ne-UNMARKED : goal.returns-then-m-ne-UNMARKED
returns-then-m-ne-UNMARKED c =
    mark_set c.args.image.now c.args.base c.args.p c.requires _ _ c.if-m-ne-UNMARKED.true
    c.not_there.ensures.value c.not_there.ensures.image_after

pub returns : goal.returns
returns c =
    marks c.args.image.now c.args.base c.args.p c.requires _ _ c.if-m-ne-UNMARKED.false
    (simp (c.put_wanted.ensures, c.tick.ensures))
    (simp c.entry_at-entry.ensures)
