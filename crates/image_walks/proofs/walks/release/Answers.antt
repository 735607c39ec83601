use mathlib.Core.Path.{refl}
use Rattle.image_walks.proofs.Steps.{releases}
use Rattle.image_walks.proofs.walks.release.Goals as goal

pub returns : goal.returns
returns c =
    releases c.args.removal c.args.image.now c.args.base c.args.p c.requires _ _
    (simp (
      c.tick.ensures,
      c.seek_tag-first.ensures.0,
    )) refl
