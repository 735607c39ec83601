use Rattle.image_insert.proofs.Steps.{stamps}
use Rattle.image_insert.proofs.inserts.stamp.Goals as goal

pub returns : goal.returns
returns c =
    stamps c.args.image.now c.args.base c.args.p c.requires _ _
    (simp (c.clear.ensures, c.put_number.ensures, c.tick.ensures, c.number_from-t.ensures))
    (simp c.entry_at-entry.ensures)
