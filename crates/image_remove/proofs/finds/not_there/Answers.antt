use mathlib.Core.Path.{ap}
use Rattle.rules.specs.declared.answers.Answer.TheVariants as ans
use Rattle.image_remove.proofs.Steps.{lost_stored}
use Rattle.image_remove.proofs.finds.not_there.Goals as goal

pub returns : goal.returns
returns c =
    record {
      value = ap ans.NotThere c.wanted_at-wanted.ensures;
      image_after =
          lost_stored c.args.image.now _ _ _ c.args.p c.tick.ensures c.clear.ensures
          c.put_wanted.ensures;
    }
