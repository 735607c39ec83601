-- The parts of an accepted call, each over variables: what the code holds is what the definition
-- says. Assumes nothing.
use mathlib.Core.Path.{◌≡◌, ap, ◌∙◌}
use mathlib.Core.Bool.{true}
use Prim.Native.Nat.{ℕ, ◌<◌}
use Rattle.record_check.specs.Check.{valid}
use Rattle.record.specs.declared.nodes.Node.{Node}
use Rattle.record.specs.declared.queues.Processor.{Processor}
use Rattle.record.specs.declared.queues.Queue.{Queue}
use Rattle.record.specs.declared.stages.Place.{Place}
use Rattle.record.specs.Limits.{node_slots}
use Rattle.record.specs.Nodes.{forward_at}
use Rattle.record.specs.Queues.{node_at, processor_at}
use Rattle.rules.specs.declared.decisions.Decision.{Decision}
use Rattle.rules.specs.declared.decisions.StepView.{StepView}
use Rattle.rules.specs.Calls.{reading_place, next_of, step_decision}
use Rattle.rules.specs.Calls.{step_view_from}
use Rattle.rules.specs.Decide.{decide}
use Rattle.queue_begin.proofs.Bounds.{place_low, own_low, next_low}

module _ (q : Queue) (p : ℕ) where
  -- what is read and decided
  pub decided :
      (c : Processor) (a : Place) (here own ahead : Node) (next : ℕ) (s : StepView) (d : Decision) →
      c ≡ processor_at q p →
      a ≡ reading_place c.stage →
      here ≡ node_at q a.node →
      next ≡ forward_at here a.level →
      ahead ≡ node_at q next →
      own ≡ node_at q c.own →
      s ≡ step_view_from here own ahead next c a q.node_count q.level_count →
      d ≡ decide s c.stage →
      d ≡ step_decision q (processor_at q p)
  decided c a here own ahead next s d ec ea eh en eA eo es ed =
      ed ∙ simp (es, eo, eA, en, eh, ea, ec)

-- the nodes that a step reads, as the code has their numbers
module _
    (q : Queue)
    (p : ℕ)
    (v : valid q ≡ true)
    (h : p < q.processor_count)
    (c : Processor)
    (e : c ≡ processor_at q p) where
  place_is : (a : Place) → a ≡ reading_place c.stage → a ≡ reading_place (processor_at q p).stage
  place_is a f = f ∙ ap (λ (x : Processor). reading_place x.stage) e

  pub here_low : (a : Place) → a ≡ reading_place c.stage → a.node < node_slots
  here_low a f = rw (place_is a f) (place_low q p v h)

  pub ahead_low :
      (a : Place) (here : Node) (next : ℕ) →
      a ≡ reading_place c.stage →
      here ≡ node_at q a.node →
      next ≡ forward_at here a.level →
      next < node_slots
  ahead_low a here next f g k =
      let there = ap (λ (n : Node). forward_at n a.level) g in
      let at : next ≡ next_of q (reading_place (processor_at q p).stage) =
      k ∙ (there ∙ ap (λ (b : Place). next_of q b) (place_is a f)) in
      rw at (next_low q p v h)

  pub own_read_low : c.own < node_slots
  own_read_low = rw e (own_low q p v h)
