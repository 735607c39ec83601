use mathlib.Core.Path.{refl, sym, ◌∙◌}
use Rattle.image_walks.proofs.Steps.{confirm_ahead, confirm_done}
use Rattle.image_walks.proofs.walks.confirm.Goals as goal

pub returns-then-ahead : goal.returns-then-ahead
returns-then-ahead c =
    confirm_ahead c.args.removal c.args.image.now c.args.base c.args.p c.requires _
    _ (sym c.if-ahead.true
    ∙ c.before-ahead.ensures)
    (simp (
      c.tick.ensures,
      c.seek_tag-first.ensures.0,
    )) refl

pub returns : goal.returns
returns c =
    confirm_done c.args.removal c.args.image.now c.args.base c.args.p c.requires _ _
    (sym c.if-ahead.false
    ∙ c.before-ahead.ensures)
    (simp (
      c.tick.ensures,
      c.seek_tag-first.ensures.0,
    )) refl
