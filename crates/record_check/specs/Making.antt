-- Making a queue, and refusals 11, 12 and 13: "P, N, L out of range", looked at in this order.
use Rattle.std.specs.Prelude.{ℕ, Bool, cond, ◌||◌, ltb, Result, Ok, Err}
use Rattle.record.specs.declared.queues.Queue.{Queue}
use Rattle.record.specs.declared.refusals.Refusal.{Refusal}
use Rattle.record.specs.declared.refusals.Refusal.TheVariants as refusal
use Rattle.record_check.specs.declared.making.Unmade.{Unmade}
use Rattle.record.specs.Limits.{max_processors, max_nodes, max_levels}
use Rattle.record.specs.Queues.{fresh_queue}

-- x is not one of 1 to top
abbrev pub outside : ℕ → ℕ → Bool
outside x top = ltb x 1 || ltb top x

abbrev pub made : ℕ → ℕ → ℕ → Result Queue Refusal
made p n l =
    cond (outside p max_processors) (Err refusal.Processors)
    (cond (outside n max_nodes) (Err refusal.Entries)
    (cond (outside l max_levels) (Err refusal.Levels)
    (Ok (fresh_queue p n l))))

-- what the making by value gives beside a refusal: the smallest queue
abbrev pub unmade : Refusal → Unmade
unmade r = record { refusal = r; queue = fresh_queue 1 1 1 }

abbrev pub given : Result Queue Refusal → Result Queue Unmade
given (Ok q) = Ok q
given (Err r) = Err (unmade r)
