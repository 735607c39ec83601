use borrow.Author.Tests.{lt-ltb}
use Rattle.sheet_format.specs.Kept.{room_for}
use Rattle.sheet_format.proofs.kept.kept_line.Goals as goal

pub returns : goal.returns
returns c =
    let x = c.args in
    simp (
      c.byte_at.ensures,
      lt-ltb x.k
          (room_for x.kept.now) c.if-kept-k.false,
    )
