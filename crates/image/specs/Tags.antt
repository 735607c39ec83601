-- The record's enums as numbers: a tag, and the numbers that the case carries. A number that a case
-- does not carry is 0.
--
--   stamp   0 none         1 a time
--   use     0 never used   1 in use   2 retired, with a time
--   stage   0 to 32: the column `tag` of the table in record/specs/Stages
--   job     0 to deliver   1 to take back; 0 at a stage that has none
use Rattle.std.specs.Prelude.{ℕ, ◌-◌, Bool, cond, ◌&&◌, eqb, leb, Option, Some, None}
use Rattle.record.specs.declared.nodes.Use.{Use}
use Rattle.record.specs.declared.nodes.Use.TheVariants as use'
use Rattle.record.specs.declared.stages.Place.{Place}
use Rattle.record.specs.declared.stages.Seek.{Seek}
use Rattle.record.specs.declared.stages.Seek.TheVariants as seek
use Rattle.record.specs.declared.stages.Insert.{Insert}
use Rattle.record.specs.declared.stages.Insert.TheVariants as ins
use Rattle.record.specs.declared.stages.Removal.{Removal}
use Rattle.record.specs.declared.stages.Removal.TheVariants as rem
use Rattle.record.specs.declared.stages.Job.{Job}
use Rattle.record.specs.declared.stages.Job.TheVariants as jobs
use Rattle.record.specs.declared.stages.Delete.{Delete}
use Rattle.record.specs.declared.stages.Delete.TheVariants as del
use Rattle.record.specs.declared.stages.Relaxed.{Relaxed}
use Rattle.record.specs.declared.stages.Relaxed.TheVariants as rlx
use Rattle.record.specs.declared.stages.Remove.{Remove}
use Rattle.record.specs.declared.stages.Remove.TheVariants as rmv
use Rattle.record.specs.declared.stages.Stage.{Stage}
use Rattle.record.specs.declared.stages.Stage.TheVariants as stage
use Rattle.record.specs.Stages.{place, wanted_of, Row, row_of, insert_row, delete_row, relaxed_row}
use Rattle.record.specs.Stages.{remove_row, removal_row}

-- a tag and a time
pub record Timed : Type 0 where
  pub tag : ℕ
  pub time : ℕ

-- a stage: its tag, its place's node and level, the node that G3 read, a removal's job, and the due
-- minute and the ticket that a Remove carries
pub record Code : Type 0 where
  pub tag : ℕ
  pub node : ℕ
  pub level : ℕ
  pub ahead : ℕ
  pub job : ℕ
  pub due : ℕ
  pub ticket : ℕ

abbrev pub timed : ℕ → ℕ → Timed
timed tag time = record { tag = tag; time = time }

abbrev pub timed_same : Timed → Timed → Bool
timed_same x y = eqb x.tag y.tag && eqb x.time y.time

abbrev pub stamp_timed : Option ℕ → Timed
stamp_timed None = timed 0 0
stamp_timed (Some t) = timed 1 t

abbrev pub stamp_of : Timed → Option ℕ
stamp_of x = cond (eqb x.tag 1) (Some x.time) None

abbrev pub use_timed : Use → Timed
use_timed use'.Never = timed 0 0
use_timed use'.InUse = timed 1 0
use_timed (use'.Retired t) = timed 2 t

abbrev pub use_of : Timed → Use
use_of x =
    cond (eqb x.tag 2) (use'.Retired x.time) (cond (eqb x.tag 1) use'.InUse use'.Never)

-- numbers are taken where they are the ones that are written for what they are read as
abbrev pub stamp_taken : Timed → Bool
stamp_taken x = timed_same (stamp_timed (stamp_of x)) x

abbrev pub use_taken : Timed → Bool
use_taken x = timed_same (use_timed (use_of x)) x

abbrev pub code : ℕ → ℕ → ℕ → ℕ → ℕ → ℕ → ℕ → Code
code tag node level ahead job due ticket = record {
  tag = tag;
  node = node;
  level = level;
  ahead = ahead;
  job = job;
  due = due;
  ticket = ticket;
}

abbrev pub code_same : Code → Code → Bool
code_same x y =
    (eqb x.tag y.tag && eqb x.node y.node)
    && (eqb x.level y.level && eqb x.ahead y.ahead)
    && (eqb x.job y.job && (eqb x.due y.due && eqb x.ticket y.ticket))

-- by the stage's row in the table (record/specs/Stages)
abbrev pub code_of : Row → Code
code_of r =
    code r.tag (cond r.placed r.place.node 0) (cond r.placed r.place.level 0)
    r.ahead r.job (cond r.seeks r.wanted.due 0) (cond r.seeks r.wanted.ticket 0)

abbrev pub stage_code : Stage → Code
stage_code g = code_of (row_of g)

-- the tags by the stages' names, whatever their places are
abbrev pub anywhere : Place
anywhere = place 0 1

abbrev pub insert_tag : Insert → ℕ
insert_tag i = (insert_row i).tag

abbrev pub delete_tag : Delete → ℕ
delete_tag d = (delete_row d).tag

abbrev pub relaxed_tag : Relaxed → ℕ
relaxed_tag d = (relaxed_row d).tag

abbrev pub remove_tag : Remove → ℕ
remove_tag r = (remove_row r).tag

abbrev pub removal_tag : Removal → ℕ
removal_tag r = (removal_row r).tag

-- back: by the tag, the place and the node that G3 read; a removal also by its job, and a Remove by
-- its key
abbrev pub seek_of : ℕ → Place → ℕ → Seek
seek_of k a b =
    cond (eqb k 0) (seek.Approach a)
    (cond (eqb k 1) (seek.Take a) (cond (eqb k 2) (seek.Confirm a) (seek.Release a b)))

abbrev pub insert_of : ℕ → Place → ℕ → Insert
insert_of tag a b =
    cond (eqb tag 1) (ins.Search a)
    (cond (leb tag 5) (ins.Seek (seek_of (tag - 2) a b))
    (cond (eqb tag 6) (ins.Copy a)
    (cond (eqb tag 7) (ins.Link a)
    (cond (eqb tag 8) (ins.FreeLevel a)
    (cond (eqb tag 9) ins.FreeNode ins.Stamp)))))

abbrev pub removal_of : ℕ → Place → ℕ → Removal
removal_of tag a b =
    cond (eqb tag 14) (rem.Search a)
    (cond (eqb tag 15) rem.HoldNode
    (cond (leb tag 19) (rem.Seek (seek_of (tag - 16) a b))
    (cond (eqb tag 20) (rem.HoldOwn a)
    (cond (eqb tag 21) (rem.Unlink a)
    (cond (eqb tag 22) (rem.LeadBack a)
    (cond (eqb tag 23) (rem.FreeOwn a)
    (cond (eqb tag 24) (rem.FreeLevel a)
    (cond (eqb tag 25) rem.FreeNode rem.Retire))))))))

abbrev pub delete_of : ℕ → Place → Delete
delete_of tag a =
    cond (eqb tag 11) (del.ReadNext a) (cond (eqb tag 12) (del.TestStamp a) (del.SetMark a))

abbrev pub relaxed_of : ℕ → Place → Relaxed
relaxed_of tag a = cond (eqb tag 27) (rlx.ReadNext a) (rlx.SetMark a)

abbrev pub remove_of : ℕ → Place → Remove
remove_of tag a =
    cond (eqb tag 29) (rmv.Search a)
    (cond (eqb tag 30) (rmv.ReadNext a) (cond (eqb tag 31) (rmv.TestStamp a) (rmv.SetMark a)))

abbrev pub job_of : ℕ → Job
job_of n = cond (eqb n 0) jobs.Deliver jobs.TakeBack

abbrev pub place_of : Code → Place
place_of x = record { node = x.node; level = x.level }

abbrev pub stage_of : Code → Stage
stage_of x =
    cond (eqb x.tag 0) stage.Idle
    (cond (leb x.tag 10) (stage.Insert (insert_of x.tag (place_of x) x.ahead))
    (cond (leb x.tag 13) (stage.Delete (delete_of x.tag (place_of x)))
    (cond (leb x.tag 26)
    (stage.Removal (job_of x.job) (removal_of x.tag (place_of x) x.ahead))
    (cond (leb x.tag 28) (stage.Relaxed (relaxed_of x.tag (place_of x)))
    (stage.Remove (wanted_of x.due x.ticket) (remove_of x.tag (place_of x)))))))

abbrev pub stage_taken : Code → Bool
stage_taken x = code_same (stage_code (stage_of x)) x
