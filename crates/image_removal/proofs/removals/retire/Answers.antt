use Rattle.image_removal.proofs.Steps.{retires}
use Rattle.image_removal.proofs.removals.retire.Goals as goal

pub returns : goal.returns
returns c =
    retires c.args.image.now c.args.base c.args.p c.requires _ _
    (simp (
      c.clear.ensures,
      c.put_number.ensures,
      c.tick.ensures,
      c.number_from-t.ensures,
    ))
    (simp (c.deed_of-done.ensures, c.entry_at-entry.ensures))
