use mathlib.Core.Path.{ap, ◌∙◌}
use Rattle.due.specs.Due.{reported_minutes}
use Rattle.rules.specs.Answers.{plain_report}
use Rattle.host_calls.proofs.Stored.{told_alike}
use Rattle.host_calls.proofs.reads.darthog_due.Goals as goal

pub returns : goal.returns
returns c =
    c.reply.ensures
    ∙ ap plain_report (told_alike c.due_from_seconds.result)
    ∙ ap (λ r. plain_report (reported_minutes r)) c.due_from_seconds.ensures.value
