use mathlib.Core.Path.{refl, sym, ◌∙◌}
use Rattle.image_remove.proofs.Steps.{search_ahead, search_down, search_done}
use Rattle.image_remove.proofs.finds.search.Goals as goal

pub returns-then-ahead : goal.returns-then-ahead
returns-then-ahead c =
    search_ahead c.args.image.now c.args.base c.args.p c.requires _ _
    (sym c.if-ahead.true
    ∙ rw c.wanted_at-wanted.ensures at
    c.before_key-ahead.ensures)
    (simp c.tick.ensures) refl

pub returns-then-i-gt1 : goal.returns-then-i-gt1
returns-then-i-gt1 c =
    search_down c.args.image.now c.args.base c.args.p c.requires _ _
    (sym c.if-ahead.false
    ∙ rw c.wanted_at-wanted.ensures at
    c.before_key-ahead.ensures)
    c.if-i-gt1.true (simp c.tick.ensures) refl

pub returns : goal.returns
returns c =
    search_done c.args.image.now c.args.base c.args.p c.requires _ _
    (sym c.if-ahead.false
    ∙ rw c.wanted_at-wanted.ensures at
    c.before_key-ahead.ensures)
    c.if-i-gt1.false (simp c.tick.ensures) refl
