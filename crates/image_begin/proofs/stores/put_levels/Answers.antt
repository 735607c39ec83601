use Rattle.std.proofs.Common.{◌≡◌, ◌+◌, ◌-◌, ◌≤◌, length, arith}
use borrow.Rule.Slice.PartMut.{mid_of, mid_len}
use Rattle.image_begin.proofs.Stored.{levels_stored}
use Rattle.image_begin.proofs.stores.put_levels.Goals as goal

pub returns : goal.returns
returns c =
    let a = c.args in
    let at = a.o + a.j in
    let high : at + a.l ≤ length a.b.now = omega arith in
    let long : length (mid_of at (at + a.l - at) a.b.now) ≡ a.l =
    omega (arith, mid_len at (at + a.l) a.b.now high) in
    levels_stored a.b.now c.fill.new.self a.o a.j a.l _ a.v (c.fill.ensures.after (λ y e. e)) long high
