use Rattle.std.proofs.Common.{rules, arith, ◌≡◌, ℕ, true, false, leb, get_or}
use Rattle.std.proofs.lemmas.Iterator.{cases_from_all, YieldsList-from_range}
use borrow.Author.Tests.{tests}
use Rattle.laws.proofs.Chains.{every_from_all}
use Rattle.record.proofs.levels.all_at_most.Goals as goal

pub returns : goal.returns
returns c =
    let f = λ (k : ℕ). leb (get_or c.args.a k 0) c.args.top in
    every_from_all f c.args.n _
    (cases_from_all _ _ _ (λ k. f k ≡ true) (λ k. f k ≡ false) c.all.ensures.ran
    (YieldsList-from_range 0 c.args.n c.args.n (cc) (omega arith))
    (λ x q k. search (rules, tests)) (λ x q k. search (rules, tests)))
