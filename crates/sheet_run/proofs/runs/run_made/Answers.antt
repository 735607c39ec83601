use mathlib.Core.Path.{ap}
use Rattle.record_check.proofs.MadeLaws.{made_fresh}
use Rattle.sheet_format.specs.Sheets.{queue_made}
use Rattle.sheet_run.proofs.runs.run_made.Goals as goal

pub returns : goal.returns
returns c =
    let l = c.args.l in
    let e = ap queue_made (made_fresh l.first l.second l.third c.requires.l_value) in
    let twice = c.run_twice.ensures in
    record { value = rw e twice.value; area_after = rw e twice.area_after }
