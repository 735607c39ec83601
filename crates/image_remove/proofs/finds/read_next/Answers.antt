use mathlib.Core.Path.{refl, sym, ◌∙◌}
use Rattle.image_remove.proofs.Steps.{reads_on, reads_key, reads_none}
use Rattle.image_remove.proofs.finds.read_next.Goals as goal

pub returns-then-before_key : goal.returns-then-before_key
returns-then-before_key c =
    reads_on c.args.image.now c.args.base c.args.p c.requires _ _
    (sym c.if-before_key.true
    ∙ rw c.wanted_at-wanted.ensures at
    c.before_key.ensures)
    (simp c.tick.ensures) refl

pub returns-then-has_key : goal.returns-then-has_key
returns-then-has_key c =
    let key = c.wanted_at-wanted.ensures in
    reads_key c.args.image.now c.args.base c.args.p c.requires _ _
    (sym c.if-before_key.false ∙ rw key at c.before_key.ensures)
    (sym c.if-has_key.true ∙ rw key at c.has_key.ensures)
    (simp c.tick-then-has_key.ensures) refl

pub returns : goal.returns
returns c =
    let key = c.wanted_at-wanted.ensures in
    reads_none c.args.image.now c.args.base c.args.p c.requires _ _
    (sym c.if-before_key.false ∙ rw key at c.before_key.ensures)
    (sym c.if-has_key.false ∙ rw key at c.has_key.ensures)
    c.not_there.ensures.value c.not_there.ensures.image_after
