use mathlib.Core.Path.{refl, sym, ◌∙◌}
use Rattle.image_walks.proofs.Steps.{search_ahead, search_down, insert_searched_lem}
use Rattle.image_walks.proofs.Steps.{removal_searched_lem}
use Rattle.image_walks.proofs.walks.search.Goals as goal

pub returns-then-ahead : goal.returns-then-ahead
returns-then-ahead c =
    search_ahead c.args.removal c.args.image.now c.args.base c.args.p c.requires _ _
    (sym c.if-ahead.true
    ∙ c.before-ahead.ensures)
    (simp c.tick.ensures) refl

pub returns-then-i-gt1 : goal.returns-then-i-gt1
returns-then-i-gt1 c =
    search_down c.args.removal c.args.image.now c.args.base c.args.p c.requires _ _
    (sym c.if-ahead.false
    ∙ c.before-ahead.ensures) c.if-i-gt1.true
    (simp c.tick.ensures) refl

pub returns-then-removal : goal.returns-then-removal
returns-then-removal c =
    let w = c.if-removal.true in
    removal_searched_lem c.args.image.now c.args.base c.args.p (rw w at c.requires) _ _
    (sym c.if-ahead.false
    ∙ c.before-ahead.ensures)
    c.if-i-gt1.false (simp c.tick.ensures) refl

pub returns : goal.returns
returns c =
    let w = c.if-removal.false in
    insert_searched_lem c.args.image.now c.args.base c.args.p (rw w at c.requires) _ _
    (sym c.if-ahead.false
    ∙ c.before-ahead.ensures)
    c.if-i-gt1.false (simp c.tick.ensures) refl
