-- Check 21 (01, refusals): every number of the record is in its range, no time is later than the
-- clock, and head and tail have no stamp. The head and the tail are looked at like every node, an
-- idle processor like a busy one, and what is past P, N + 1 or L not at all. An own node is one of
-- 1 to N where the stage has one; where it has none, the number that is stored is that of any node.
-- So is a place's, but for W3: there it is one of 1 to N. The key that a Remove carries has the
-- ranges of 38, and its ticket may be later than the clock (02, W5).
use Rattle.std.specs.Prelude.{ℕ, ◌+◌, Bool, true, cond, ◌&&◌, leb, Option, Some, None}
use Rattle.laws.specs.Every.{every_below, all_at_most}
use Rattle.record_check.specs.declared.check.Sizes.{Sizes}
use Rattle.record.specs.declared.nodes.Node.{Node}
use Rattle.record.specs.declared.nodes.Use.{Use}
use Rattle.record.specs.declared.nodes.Use.TheVariants as use'
use Rattle.record.specs.declared.queues.Processor.{Processor}
use Rattle.record.specs.declared.queues.Queue.{Queue}
use Rattle.record.specs.declared.stages.Carried.{Carried}
use Rattle.record.specs.declared.stages.Place.{Place}
use Rattle.record.specs.declared.stages.Wanted.{Wanted}
use Rattle.record.specs.Limits.{max_processors, max_nodes, max_levels, max_number}
use Rattle.record.specs.Queues.{node_at, processor_at}
use Rattle.record.specs.Stages.{carried}

-- x is one of 1 to top
abbrev pub within : ℕ → ℕ → Bool
within x top = leb 1 x && leb x top

abbrev pub sizes_of : Queue → Sizes
sizes_of q = record {
  processor_count = q.processor_count;
  node_count = q.node_count;
  level_count = q.level_count;
  clock = q.clock;
}

abbrev pub sizes_valid : Sizes → Bool
sizes_valid s =
    within s.processor_count max_processors
    && within s.node_count max_nodes
    && within s.level_count max_levels
    && leb s.clock max_number

-- forward numbers and holders of the levels 1 to L, the node lock's holder, and who set the mark
abbrev pub links_valid : Sizes → Node → Bool
links_valid s n =
    all_at_most n.forward s.level_count (s.node_count + 1)
    && all_at_most n.level_locks s.level_count s.processor_count
    && leb n.node_lock s.processor_count
    && leb n.mark s.processor_count

-- due, item, ticket and height
abbrev pub entry_valid : Sizes → Node → Bool
entry_valid s n =
    leb n.due max_number
    && leb n.item max_number
    && leb n.ticket s.clock
    && within n.height s.level_count

-- a stamp, on a node that is for an entry or is the head or the tail
abbrev pub stamp_valid : Option ℕ → Bool → ℕ → Bool
stamp_valid None entry clock = true
stamp_valid (Some t) entry clock = entry && leb t clock

abbrev pub use_valid : Use → ℕ → Bool
use_valid use'.Never clock = true
use_valid use'.InUse clock = true
use_valid (use'.Retired t) clock = leb t clock

-- node x
abbrev pub node_valid : Sizes → ℕ → Node → Bool
node_valid s x n =
    links_valid s n
    && entry_valid s n
    && stamp_valid n.stamp (within x s.node_count) s.clock
    && use_valid n.state s.clock

abbrev pub place_valid : Sizes → Place → Bool
place_valid s a = leb a.node (s.node_count + 1) && within a.level s.level_count

-- the own node: one of 1 to N where the stage has one
abbrev pub own_valid : Sizes → Bool → ℕ → Bool
own_valid s has x = cond has (within x s.node_count) (leb x (s.node_count + 1))

-- the place at W3: one of 1 to N
abbrev pub marking_valid : Sizes → Bool → ℕ → Bool
marking_valid s marking x = cond marking (within x s.node_count) true

-- the key of a Remove
abbrev pub wanted_valid : Wanted → Bool
wanted_valid w = leb w.due max_number && within w.ticket max_number

-- what a stage carries
abbrev pub carried_valid : Sizes → Carried → ℕ → Bool
carried_valid s g own =
    own_valid s g.own own
    && place_valid s g.place
    && leb g.ahead (s.node_count + 1)
    && marking_valid s g.marking g.place.node
    && wanted_valid g.wanted

abbrev pub processor_valid : Sizes → Processor → Bool
processor_valid s c =
    leb c.begin s.clock
    && all_at_most c.saved s.level_count (s.node_count + 1)
    && carried_valid s (carried c.stage) c.own

-- nodes 0 to N + 1 and processors 0 to P - 1
abbrev pub valid : Queue → Bool
valid q =
    sizes_valid (sizes_of q)
    && every_below (λ x. node_valid (sizes_of q) x (node_at q x)) (q.node_count + 2)
    && every_below (λ p. processor_valid (sizes_of q) (processor_at q p)) q.processor_count
