use Rattle.std.proofs.Common.{arith}
use Rattle.std.proofs.lemmas.Grind.{common_steps}
use Rattle.image_check.proofs.Tests.{misfit, tests_of}
use Rattle.image_check.proofs.whole.passes.Goals as goal

pub returns-then-length-lt-SHORTEST : goal.returns-then-length-lt-SHORTEST
returns-then-length-lt-SHORTEST c =
    misfit c.args.image.now (λ e. omega (arith, c.if-length-lt-SHORTEST.true))

pub returns-then-processors_pass : goal.returns-then-processors_pass
returns-then-processors_pass c = rw (← tests_of c.args.image.now) (grind (arith, common_steps))

pub returns-else-processors_pass : goal.returns-else-processors_pass
returns-else-processors_pass c = rw (← tests_of c.args.image.now) (grind (arith, common_steps))
