use Rattle.std.proofs.Common.{rules, arith}
use Rattle.std.proofs.lemmas.Grind.{common_steps}
use Rattle.image_check.proofs.Tests.{node_tests}
use Rattle.image_check.proofs.nodes.node_passes.Goals as goal

pub returns-then-stamp_passes : goal.returns-then-stamp_passes
returns-then-stamp_passes c =
    rw (← node_tests c.args.b.now c.args.x c.requires.1 c.requires.3 c.requires.4) (search rules)

pub returns-else-stamp_passes : goal.returns-else-stamp_passes
returns-else-stamp_passes c =
    rw (← node_tests c.args.b.now c.args.x c.requires.1 c.requires.3 c.requires.4) (grind (arith, common_steps))
