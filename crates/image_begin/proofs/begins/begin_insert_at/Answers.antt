use mathlib.Core.Path.{sym, ap, ◌∙◌}
use native.Mathlib.Omega.{arith}
use Rattle.rules.specs.declared.answers.Answer.TheVariants as ans
use Rattle.image_begin.proofs.Begun.{based, insert_without, insert_begins_lem, insert_stored, chosen_low}
use Rattle.image_begin.proofs.Choices.{some_found, none_found}
use Rattle.image_begin.proofs.begins.begin_insert_at.Goals as goal

pub fill-requires : goal.fill-requires
fill-requires c =
    let b = c.args.image.now in
    let B = based b c.requires in
    let k = c.tick.auto.b in
    let x = chosen_low b _ (some_found _ _ c.in-Some-choose.ensures).0 in (
      omega (arith, k, x, B.long),
      omega (arith, k, B.long, B.processors_high, B.nodes_high),
      B.levels_high,
    )

pub returns-in_default-choose : goal.returns-in_default-choose
returns-in_default-choose c =
    let a = c.args in
    insert_without a.image.now a.processor a.due a.item a.height c.requires
    (sym c.in_default.ensures) _
    (none_found _ (sym c.in_default-choose.is ∙ c.choose.ensures))
    (ap ans.Refused c.number-in_default-choose.ensures)

pub returns : goal.returns
returns c =
    let b = c.args.image.now in
    let due = c.args.due in
    let item = c.args.item in
    let height = c.args.height in
    let x = some_found _ _ c.in-Some-choose.ensures in
    insert_begins_lem b c.args.processor due item height c.requires (sym c.in_default.ensures) _ x.0 x.1 _ _
    (insert_stored b _ _ _ _ _ _ _ _ _ due item height _ c.tick.ensures
    c.number_from-t.ensures c.fill.ensures c.begin.ensures)
    (simp c.number_from-t.ensures)
