use mathlib.Core.Path.{◌∙◌, ap}
use lib.ListN.{drop}
use lib.Seq.{get_or-drop}
use borrow.Author.Tests.{ne_eqb}
use Rattle.sheet_format.specs.Columns.{is_space}
use Rattle.sheet_format.proofs.Found.{longer}
use Rattle.sheet_format.proofs.columns.number_at.Goals as goal

pub returns : goal.returns
returns c =
    let x = c.args in
    let e =
    ap is_space (get_or-drop x.at x.line.now 5 0) ∙ ne_eqb _ 32 c.if-line-at-eq-SPACE.false in
    c.value_at.ensures ∙ longer (drop x.at x.line.now) e
