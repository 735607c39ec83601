-- Which locks a stage says that its processor holds, and which one its step asks for. W1 and W11 of
-- document 02 rest on this.
use Rattle.std.specs.Prelude.{ℕ, ◌≡◌, Bool, true}
use Rattle.record.specs.declared.queues.Processor.{Processor}
use Rattle.record.specs.declared.queues.Queue.{Queue}
use Rattle.record.specs.declared.stages.Insert.TheVariants as ins
use Rattle.record.specs.declared.stages.Job.{Job}
use Rattle.record.specs.declared.stages.Place.{Place}
use Rattle.record.specs.declared.stages.Removal.TheVariants as rem
use Rattle.record.specs.declared.stages.Seek.TheVariants as seek
use Rattle.record.specs.declared.stages.Stage.{Stage}
use Rattle.record.specs.declared.stages.Stage.TheVariants as stage
use Rattle.record.specs.Nodes.{lock_at}
use Rattle.record.specs.Queues.{node_at}
use Rattle.record.specs.Stages.{row_of, carried}

-- a level's lock of a node, or the node's own
pub data Lock : Type 0 where
  level : ℕ → ℕ → Lock
  node : ℕ → Lock

-- 0 where it is free, p + 1 where processor p holds it
abbrev pub holder_of : Queue → Lock → ℕ
holder_of q (level n i) = lock_at (node_at q n) i
holder_of q (node n) = (node_at q n).node_lock

-- by the table of stages: the place's lock at its level, own's lock at that level, own's node lock
abbrev pub holds_place : Stage → Bool
holds_place g = (row_of g).holds_place

abbrev pub holds_own : Stage → Bool
holds_own g = (row_of g).holds_own

abbrev pub holds_node : Stage → Bool
holds_node g = (row_of g).holds_node

-- the processor's stage says that it holds the lock
pub data Claims (c : Processor) : Lock → Type 0 where
  of_place : holds_place c.stage ≡ true →
      Claims c (level (carried c.stage).place.node (carried c.stage).place.level)
  of_own : holds_own c.stage ≡ true → Claims c (level c.own (carried c.stage).place.level)
  of_node : holds_node c.stage ≡ true → Claims c (node c.own)

-- the lock that the processor's next step asks for: at G2 that of its place, at L1 own's node lock,
-- at L2 own's lock at the place's level
pub data Asks (c : Processor) : Lock → Type 0 where
  insert_place : (a : Place) → c.stage ≡ stage.Insert (ins.Seek (seek.Take a)) →
      Asks c (level a.node a.level)
  removal_place : (job : Job) (a : Place) → c.stage ≡ stage.Removal job (rem.Seek (seek.Take a)) →
      Asks c (level a.node a.level)
  own_node : (job : Job) → c.stage ≡ stage.Removal job rem.HoldNode → Asks c (node c.own)
  own_level : (job : Job) (a : Place) → c.stage ≡ stage.Removal job (rem.HoldOwn a) →
      Asks c (level c.own a.level)
