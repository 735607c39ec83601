-- The numbers of a stage in the image, in the bounds that the table of stages (record/specs/Stages)
-- sets for its tag: a number that it does not carry is 0.
use Rattle.std.specs.Prelude.{Bool, cond, ◌&&◌, ℕ, ◌+◌, leb}
use Rattle.record.specs.Limits.{max_number}
use Rattle.record.specs.Stages.{Row, row_of}
use Rattle.image.specs.Tags.{code, stage_of}

-- the table's row of a tag, but for its place, the node that G3 read, its job and its key
abbrev pub row_at : ℕ → Row
row_at t = row_of (stage_of (code t 0 0 0 0 0 0))

abbrev pub between : ℕ → ℕ → ℕ → Bool
between low x top = leb low x && leb x top

-- the place's level i, the node x that G3 read, the place's node a and the own node, for N entries
-- and L levels
abbrev pub in_bounds : Row → ℕ → ℕ → ℕ → ℕ → ℕ → ℕ → Bool
in_bounds r a i x own n l =
    between (cond r.placed 1 0) i (cond r.placed l 0)
    && leb x (cond r.releases (n + 1) 0)
    && between (cond r.marks 1 0) a (cond r.marks n (cond r.placed (n + 1) 0))
    && between (cond r.owns 1 0) own (cond r.owns n (n + 1))

-- the job, and the due minute and the ticket that a Remove carries; the ticket may be later than
-- the clock
abbrev pub errand_in_bounds : Row → ℕ → ℕ → ℕ → Bool
errand_in_bounds r job due ticket =
    leb job (cond r.removes 1 0)
    && (leb due (cond r.seeks max_number 0)
    && between (cond r.seeks 1 0) ticket (cond r.seeks max_number 0))
