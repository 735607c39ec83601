use Rattle.std.proofs.Common.{rules, arith, ◌≡◌, ℕ, true, false, get_or}
use Rattle.std.proofs.lemmas.Iterator.{cases_from_all, YieldsList-from_range}
use borrow.Author.Tests.{tests}
use Rattle.laws.proofs.Chains.{every_from_all}
use Rattle.record.specs.Queues.{processor_at}
use Rattle.rules.specs.Choice.{began_after}
use Rattle.image.specs.Image.{queue_in}
use Rattle.image_begin.proofs.choice.all_after.Goals as goal

pub returns : goal.returns
unfolding queue_in
returns c =
    let q = queue_in c.args.b.now in
    let f = λ (k : ℕ). began_after c.args.t (processor_at q k).stage (processor_at q k).begin in
    let end = get_or c.args.b.now 0 0 in
    every_from_all f end _
    (cases_from_all _ _ _ (λ k. f k ≡ true) (λ k. f k ≡ false) c.all.ensures.ran
    (YieldsList-from_range 0 end end (cc) (omega arith))
    (λ x q k. search (rules, tests)) (λ x q k. search (rules, tests)))
