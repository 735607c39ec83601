use mathlib.Core.Path.{sym}
use Rattle.image_begin.proofs.Begun.{relaxed_begins_lem}
use Rattle.image_begin.proofs.begins.begin_relaxed_at.Goals as goal

pub returns : goal.returns
returns c =
    let e = sym c.in_default.ensures in
    relaxed_begins_lem c.args.image.now c.args.processor c.requires e _ _
    c.begin_walk.ensures.value c.begin_walk.ensures.image_after
