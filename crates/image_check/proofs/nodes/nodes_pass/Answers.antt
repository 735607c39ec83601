use Rattle.std.proofs.Common.{rules, arith, ◌≡◌, ◌+◌, true, false, get_or}
use Rattle.std.proofs.lemmas.Iterator.{cases_from_all, YieldsList-from_range}
use borrow.Author.Tests.{tests}
use Rattle.laws.proofs.Chains.{every_from_all}
use Rattle.image_check.specs.Tests.{node_ok}
use Rattle.image_check.proofs.nodes.nodes_pass.Goals as goal

pub returns : goal.returns
returns c =
    let f = node_ok c.args.b.now in
    let end = get_or c.args.b.now 1 0 + 2 in
    every_from_all f end _
    (cases_from_all _ _ _ (λ k. f k ≡ true) (λ k. f k ≡ false) c.all.ensures.ran
    (YieldsList-from_range 0 end end (cc) (omega arith))
    (λ x q k. search (rules, tests)) (λ x q k. search (rules, tests)))
