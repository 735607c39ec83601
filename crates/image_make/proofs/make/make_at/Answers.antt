use Rattle.image_make.proofs.Made.{all_stored, made_read, made_sound}
use Rattle.image_make.proofs.make.make_at.Goals as goal

pub returns : goal.returns
returns c =
    let P = c.args.p in
    let N = c.args.n in
    let L = c.args.l in
    let r = c.requires in
    let e =
    all_stored P N L c.args.image.now _ _ _ r.0 r.4 c.put_header.ensures
    c.put_processors.ensures
    c.put_nodes.ensures in record {
      image_after = e;
      sound = (
        rw e (made_sound P N L r.1 r.2 r.3 r.4 r.5 r.6),
        rw e (made_read P N L r.1 r.2 r.3 r.4 r.5 r.6),
      );
    }
