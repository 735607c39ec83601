use Rattle.image_make.proofs.Made.{header_stored}
use Rattle.image_make.proofs.make.put_header.Goals as goal

pub returns : goal.returns
returns c =
    let a = c.args in
    header_stored a.b.now _ a.p a.n a.l c.repeat.ensures
