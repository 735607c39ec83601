-- How many steps of an S line wait after one that waited: all that are left, until the clock is
-- 999,999. Nothing but the clock changes in between.
use Rattle.std.specs.Prelude.{ℕ, ◌+◌, ◌-◌, cond, ltb}
use Rattle.record.specs.declared.queues.Queue.{Queue}
use Rattle.record.specs.Limits.{max_number}

-- of so many that are left at this time
abbrev pub waits_left : ℕ → ℕ → ℕ
waits_left left time = cond (ltb left (max_number - time)) left (max_number - time)

-- a record whose clock is m later
abbrev pub later : Queue → ℕ → Queue
later q m = record {
  processor_count = q.processor_count;
  node_count = q.node_count;
  level_count = q.level_count;
  clock = q.clock + m;
  nodes = q.nodes;
  processors = q.processors;
}
