use Rattle.image_make.proofs.Made.{node_stored}
use Rattle.image_make.proofs.make.put_node.Goals as goal

pub returns : goal.returns
returns c =
    let a = c.args in
    node_stored a.b.now _ _ _ _ a.o a.tail c.repeat.ensures c.repeat-2.ensures c.repeat-3.ensures c.repeat-4.ensures
