use Rattle.std.proofs.Common.{◌≡◌, ◌||◌, ℕ, ◌+◌, ◌∙◌, ap, arith, leb}
use Rattle.laws.specs.Every.{every_below}
use Rattle.image.specs.Puts.{piece}
use Rattle.image_check.proofs.Masks.{masked}
use Rattle.image_check.proofs.levels.levels_low.Goals as goal

pub returns : goal.returns
returns c =
    let a = c.args in
    let e : c.loop-k.k ≡ 8 = omega arith in
    c.loop-k.invariant
    ∙ ap (λ (n : ℕ). every_below (λ (i : ℕ). leb a.l i || leb (piece a.b.now a.o (a.j + i)) a.top) n) e
    ∙ masked (λ (i : ℕ). leb (piece a.b.now a.o (a.j + i)) a.top) a.l 8 c.requires.2
