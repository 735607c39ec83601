use Rattle.std.proofs.Common.{◌≡◌, ◌+◌, ◌-◌, ◌≤◌, length, arith}
use borrow.Rule.Slice.PartMut.{mid_of, mid_len}
use Rattle.image.proofs.Runs.{cleared}
use Rattle.image.proofs.numbers.clear.Goals as goal

pub returns : goal.returns
returns c =
    let a = c.args in
    let high : a.o + 9 + a.l ≤ length a.b.now = omega arith in
    let long : length (mid_of a.o (a.o + 9 + a.l - a.o) a.b.now) ≡ 9 + a.l =
    omega (arith, mid_len a.o (a.o + 9 + a.l) a.b.now high) in
    cleared a.b.now c.fill.new.self a.o a.l _ (c.fill.ensures.after (λ y e. e)) long high
