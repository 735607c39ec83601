-- Number, space, line and line feed, stored in turn, are the refusal's text.
use Rattle.darthog.proofs.Texts.{Parts, text_stored}
use Rattle.darthog.proofs.printing.print_refusal.Goals as goal

pub returns-clause-area_after : goal.returns-clause-area_after
returns-clause-area_after c =
    let m = c.decimal_into-middle in
    let e = c.decimal_into-end in
    let a = c.args in
    let parts : Parts a.area.now m.new.area e.new.area a.number a.line m.result e.result =
    record {
      middle = m.ensures.value;
      number = m.ensures.area_after;
      end = e.ensures.value;
      line = e.ensures.area_after;
    } in
    text_stored _ _ _ _ _ _ _ parts c.requires
