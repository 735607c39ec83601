use Rattle.std.proofs.Common.{◌≡◌, ◌+◌, ◌-◌, ◌≤◌, length, arith}
use borrow.Rule.Slice.PartMut.{mid_of, mid_len}
use Rattle.image_make.proofs.Made.{filled}
use Rattle.image_make.proofs.make.repeat.Goals as goal

pub returns : goal.returns
returns c =
    let a = c.args in
    let high : a.o + a.n ≤ length a.b.now = omega arith in
    let long : length (mid_of a.o (a.o + a.n - a.o) a.b.now) ≡ a.n =
    omega (arith, mid_len a.o (a.o + a.n) a.b.now high) in
    filled a.b.now c.fill.new.self a.o a.n _ a.v (c.fill.ensures.after (λ y e. e)) long high
