use mathlib.Core.Path.{refl, sym, ◌∙◌}
use Rattle.image_walks.proofs.Steps.{approach_ahead, approach_there}
use Rattle.image_walks.proofs.walks.approach.Goals as goal

pub returns-then-ahead : goal.returns-then-ahead
returns-then-ahead c =
    approach_ahead c.args.removal c.args.image.now c.args.base c.args.p c.requires _
    _ (sym c.if-ahead.true
    ∙ c.before-ahead.ensures)
    (simp c.tick.ensures) refl

pub returns : goal.returns
returns c =
    approach_there c.args.removal c.args.image.now c.args.base c.args.p c.requires _
    _ (sym c.if-ahead.false
    ∙ c.before-ahead.ensures)
    (simp (
      c.tick.ensures,
      c.seek_tag-first.ensures.0,
    )) refl
