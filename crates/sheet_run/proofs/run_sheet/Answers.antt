use lib.ListN.{length}
use Rattle.sheet_run.proofs.Outcomes.{told}
use Rattle.sheet_run.proofs.run_sheet.Goals as goal

pub returns-then-sheet-le-SHORT-clause-numbers : goal.returns-then-sheet-le-SHORT-clause-numbers
returns-then-sheet-le-SHORT-clause-numbers c =
    told c.args.sheet.now (length c.args.history.now) c.run_keeping.ensures.value

pub returns-else-sheet-le-SHORT-clause-numbers : goal.returns-else-sheet-le-SHORT-clause-numbers
returns-else-sheet-le-SHORT-clause-numbers c =
    told c.args.sheet.now (length c.args.history.now)
    c.run_keeping-else-sheet-le-SHORT.ensures.value
