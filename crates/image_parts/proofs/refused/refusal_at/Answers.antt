use mathlib.Core.Path.{◌∙◌}
use Rattle.image_parts.proofs.Refusals.{refusal_in_lem}
use Rattle.image_parts.proofs.refused.refusal_at.Goals as goal

pub returns : goal.returns
returns c =
    c.refusal_of.ensures
    ∙ rw (c.idle_at-idle.ensures, c.processor_of.ensures, c.number_from.ensures)
    (refusal_in_lem c.args.b.now c.requires c.args.c)
