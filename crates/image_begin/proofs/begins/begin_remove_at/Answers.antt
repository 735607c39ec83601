use mathlib.Core.Path.{sym}
use lib.ListN.{get_or}
use Rattle.image_begin.proofs.Begun.{remove_begins_lem, remove_stored}
use Rattle.image_begin.proofs.begins.begin_remove_at.Goals as goal

pub returns : goal.returns
returns c =
    let x = c.args in
    let e = sym c.in_default.ensures in
    remove_begins_lem x.image.now x.processor c.requires x.due x.ticket e _ _
    c.begin_walk-began.ensures.value
    (remove_stored x.image.now _ _ _ 29 (get_or x.image.now 2 0) x.due x.ticket
    c.begin_walk-began.ensures.image_after c.put_wanted.ensures)
