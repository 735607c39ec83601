-- The stages of an operation in one table, from which the rest follows: what a stage carries
-- (below), the locks that it claims (rules/specs/Locks), where it reads (rules/specs/Calls) and its
-- numbers in the image (image/specs/Tags).
use Rattle.std.specs.Prelude.{ℕ, ◌+◌, Bool, true, false, cond}
use Rattle.record.specs.declared.stages.Place.{Place}
use Rattle.record.specs.declared.stages.Seek.{Seek}
use Rattle.record.specs.declared.stages.Seek.TheVariants as seek
use Rattle.record.specs.declared.stages.Insert.{Insert}
use Rattle.record.specs.declared.stages.Insert.TheVariants as ins
use Rattle.record.specs.declared.stages.Removal.{Removal}
use Rattle.record.specs.declared.stages.Removal.TheVariants as rem
use Rattle.record.specs.declared.stages.Job.{Job}
use Rattle.record.specs.declared.stages.Job.TheVariants as jobs
use Rattle.record.specs.declared.stages.Delete.{Delete}
use Rattle.record.specs.declared.stages.Delete.TheVariants as del
use Rattle.record.specs.declared.stages.Relaxed.{Relaxed}
use Rattle.record.specs.declared.stages.Relaxed.TheVariants as rlx
use Rattle.record.specs.declared.stages.Wanted.{Wanted}
use Rattle.record.specs.declared.stages.Remove.{Remove}
use Rattle.record.specs.declared.stages.Remove.TheVariants as rmv
use Rattle.record.specs.declared.stages.Stage.{Stage}
use Rattle.record.specs.declared.stages.Stage.TheVariants as stage
use Rattle.record.specs.declared.stages.Carried.{Carried}

abbrev pub place : ℕ → ℕ → Place
place x i = record { node = x; level = i }

abbrev pub wanted_of : ℕ → ℕ → Wanted
wanted_of due ticket = record { due = due; ticket = ticket }

-- what stands for a key where a stage carries none
abbrev pub none_wanted : Wanted
none_wanted = wanted_of 0 1

-- a line of the table
pub record Row : Type 0 where
  pub tag : ℕ  -- its number in the image
  pub owns : Bool  -- the operation has an own node
  pub placed : Bool  -- it carries a place
  pub walks : Bool  -- it reads at level 1, whatever level its place has
  pub marks : Bool  -- its place is marked next
  pub holds_place : Bool  -- it holds the lock of its place: the node's, at the level
  pub holds_own : Bool  -- it holds the own node's lock at the level of its place
  pub holds_node : Bool  -- it holds the own node's node lock
  pub place : Place  -- its place; the head at level 1 where it carries none
  pub releases : Bool  -- it carries the node that G3 read
  pub ahead : ℕ  -- that node; 0 where it carries none
  pub removes : Bool  -- it follows a mark, and has a job
  pub job : ℕ  -- that job's number in the image; 0 where it has none
  pub seeks : Bool  -- it carries the key of a Remove
  pub wanted : Wanted  -- that key; due 0 and ticket 1 where it carries none

-- yes and no, as wide as each other
abbrev pub ● : Bool
● = true

abbrev pub ○ : Bool
○ = false

-- a stage that is in no Lock-seek
abbrev pub row : ℕ → Bool → Bool → Bool → Bool → Bool → Bool → Bool → Place → Row
row tag owns placed walks marks holds_place holds_own holds_node a = record {
  tag = tag;
  owns = owns;
  placed = placed;
  walks = walks;
  marks = marks;
  holds_place = holds_place;
  holds_own = holds_own;
  holds_node = holds_node;
  place = a;
  releases = ○;
  ahead = 0;
  removes = ○;
  job = 0;
  seeks = ○;
  wanted = none_wanted;
}

-- a Lock-seek: what its four stages differ in, and the row from the tag of its first one on
abbrev pub seek_part :
    Seek → record { tag : ℕ; holds : Bool; place : Place; releases : Bool; ahead : ℕ }
seek_part (seek.Approach a) {- G1 -} =
    record { tag = 0; holds = ○; place = a; releases = ○; ahead = 0 }
seek_part (seek.Take a) {- G2 -} =
    record { tag = 1; holds = ○; place = a; releases = ○; ahead = 0 }
seek_part (seek.Confirm a) {- G3 -} =
    record { tag = 2; holds = ●; place = a; releases = ○; ahead = 0 }
seek_part (seek.Release a b) {- G4 -} =
    record { tag = 3; holds = ●; place = a; releases = ●; ahead = b }

abbrev pub seek_row : ℕ → Seek → Row
seek_row first k = record {
  tag = first + (seek_part k).tag;
  owns = ●;
  placed = ●;
  walks = ○;
  marks = ○;
  holds_place = (seek_part k).holds;
  holds_own = ○;
  holds_node = ●;
  place = (seek_part k).place;
  releases = (seek_part k).releases;
  ahead = (seek_part k).ahead;
  removes = ○;
  job = 0;
  seeks = ○;
  wanted = none_wanted;
}

-- The table: the stage, its step in document 01, its tag, and then the columns
--   o owns   p placed   w walks   m marks   P holds_place   O holds_own   N holds_node   its place
--                                          tag o p w m P O N
abbrev pub insert_row : Insert → Row
insert_row (ins.Search a) {-  Search -} = row 01 ● ● ○ ○ ○ ○ ● a
insert_row (ins.Seek k) {-  G1 to G4 -} = seek_row 2 k
insert_row (ins.Copy a) {-        I1 -} = row 06 ● ● ○ ○ ● ○ ● a
insert_row (ins.Link a) {-        I2 -} = row 07 ● ● ○ ○ ● ○ ● a
insert_row (ins.FreeLevel a) {-   I3 -} = row 08 ● ● ○ ○ ● ○ ● a
insert_row ins.FreeNode {-        I4 -} = row 09 ● ○ ○ ○ ○ ○ ● (place 0 1)
insert_row ins.Stamp {-           I5 -} = row 10 ● ○ ○ ○ ○ ○ ○ (place 0 1)

abbrev pub delete_row : Delete → Row
delete_row (del.ReadNext a) {-    W1 -} = row 11 ○ ● ● ○ ○ ○ ○ a
delete_row (del.TestStamp a) {-   W2 -} = row 12 ○ ● ● ○ ○ ○ ○ a
delete_row (del.SetMark a) {-     W3 -} = row 13 ○ ● ● ● ○ ○ ○ a

-- a Relaxed Delete_Min (02, W3)
abbrev pub relaxed_row : Relaxed → Row
relaxed_row (rlx.ReadNext a) {-   W1 -} = row 27 ○ ● ● ○ ○ ○ ○ a
relaxed_row (rlx.SetMark a) {-    W3 -} = row 28 ○ ● ● ● ○ ○ ○ a

-- a Remove (02, W5), whatever its key
abbrev pub remove_row : Remove → Row
remove_row (rmv.Search a) {- Search -} = row 29 ○ ● ○ ○ ○ ○ ○ a
remove_row (rmv.ReadNext a) {-  on -} = row 30 ○ ● ● ○ ○ ○ ○ a
remove_row (rmv.TestStamp a) {- W2 -} = row 31 ○ ● ● ○ ○ ○ ○ a
remove_row (rmv.SetMark a) {-   W3 -} = row 32 ○ ● ● ● ○ ○ ○ a

-- what follows a mark, whatever its job
abbrev pub removal_row : Removal → Row
removal_row (rem.Search a) {- Search -} = row 14 ● ● ○ ○ ○ ○ ○ a
removal_row rem.HoldNode {-       L1 -} = row 15 ● ○ ○ ○ ○ ○ ○ (place 0 1)
removal_row (rem.Seek k) {- G1 to G4 -} = seek_row 16 k
removal_row (rem.HoldOwn a) {-    L2 -} = row 20 ● ● ○ ○ ● ○ ● a
removal_row (rem.Unlink a) {-     L3 -} = row 21 ● ● ○ ○ ● ● ● a
removal_row (rem.LeadBack a) {-   L4 -} = row 22 ● ● ○ ○ ● ● ● a
removal_row (rem.FreeOwn a) {-    L5 -} = row 23 ● ● ○ ○ ● ● ● a
removal_row (rem.FreeLevel a) {-  L6 -} = row 24 ● ● ○ ○ ● ○ ● a
removal_row rem.FreeNode {-       L7 -} = row 25 ● ○ ○ ○ ○ ○ ● (place 0 1)
removal_row rem.Retire {-         L8 -} = row 26 ● ○ ○ ○ ○ ○ ○ (place 0 1)

-- with the key that a Remove carries, and with a removal's job
abbrev pub for_key : Wanted → Row → Row
for_key w r = record {
  tag = r.tag;
  owns = r.owns;
  placed = r.placed;
  walks = r.walks;
  marks = r.marks;
  holds_place = r.holds_place;
  holds_own = r.holds_own;
  holds_node = r.holds_node;
  place = r.place;
  releases = r.releases;
  ahead = r.ahead;
  removes = r.removes;
  job = r.job;
  seeks = ●;
  wanted = w;
}

abbrev pub job_number : Job → ℕ
job_number jobs.Deliver = 0
job_number jobs.TakeBack = 1

abbrev pub for_job : Job → Row → Row
for_job j r = record {
  tag = r.tag;
  owns = r.owns;
  placed = r.placed;
  walks = r.walks;
  marks = r.marks;
  holds_place = r.holds_place;
  holds_own = r.holds_own;
  holds_node = r.holds_node;
  place = r.place;
  releases = r.releases;
  ahead = r.ahead;
  removes = ●;
  job = job_number j;
  seeks = r.seeks;
  wanted = r.wanted;
}

abbrev pub row_of : Stage → Row
row_of stage.Idle {-                 -} = row 00 ○ ○ ○ ○ ○ ○ ○ (place 0 1)
row_of (stage.Insert i) = insert_row i
row_of (stage.Delete d) = delete_row d
row_of (stage.Relaxed x) = relaxed_row x
row_of (stage.Remove w x) = for_key w (remove_row x)
row_of (stage.Removal job r) = for_job job (removal_row r)

-- the tags are 0 to 32
abbrev pub tag_count : ℕ
tag_count = 33

-- the numbers that a stage carries
abbrev pub carried_of : Row → Carried
carried_of r = record {
  own = r.owns;
  place = r.place;
  ahead = cond r.releases r.ahead r.place.node;
  marking = r.marks;
  wanted = r.wanted;
}

abbrev pub carried : Stage → Carried
carried g = carried_of (row_of g)

abbrev pub is_idle : Stage → Bool
is_idle stage.Idle = true
is_idle (stage.Insert i) = false
is_idle (stage.Delete d) = false
is_idle (stage.Relaxed x) = false
is_idle (stage.Remove w x) = false
is_idle (stage.Removal job r) = false
