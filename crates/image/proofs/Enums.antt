-- Stamps, uses and stages as numbers, there and back. Assumes nothing.
use Rattle.std.specs.Prelude.{Option, ℕ, Some, None}
use mathlib.Core.Path.{◌≡◌, refl, ◌∙◌, ap}
use mathlib.Core.Bool.{true, false, ◌&&◌}
use Prim.Native.Nat.{ℕ}
use lib.Dec.{eqb}
use borrow.Author.Tests.{eqb-true, eq-eqb}
use Rattle.laws.proofs.Counting.{and_left, and_right, and_both}
use Rattle.record.specs.declared.nodes.Use.{Use}
use Rattle.record.specs.declared.nodes.Use.TheVariants as use'
use Rattle.record.specs.declared.stages.Seek.TheVariants as seek
use Rattle.record.specs.declared.stages.Insert.TheVariants as ins
use Rattle.record.specs.declared.stages.Removal.{Removal}
use Rattle.record.specs.declared.stages.Removal.TheVariants as rem
use Rattle.record.specs.declared.stages.Job.{Job}
use Rattle.record.specs.declared.stages.Job.TheVariants as jobs
use Rattle.record.specs.declared.stages.Delete.TheVariants as del
use Rattle.record.specs.declared.stages.Relaxed.TheVariants as rlx
use Rattle.record.specs.declared.stages.Remove.TheVariants as rmv
use Rattle.record.specs.declared.stages.Stage.{Stage}
use Rattle.record.specs.declared.stages.Stage.TheVariants as stage
use Rattle.record.specs.Stages.{job_number}
use Rattle.image.specs.Tags.{Timed, Code, timed, timed_same, stamp_timed, stamp_of}
use Rattle.image.specs.Tags.{use_timed, use_of, stamp_taken, use_taken, code, code_same, stage_code}
use Rattle.image.specs.Tags.{job_of, stage_of, stage_taken}

pub timed_same_lem : (x : Timed) → timed_same x x ≡ true
timed_same_lem x =
    and_both (eqb x.tag x.tag) (eqb x.time x.time) (eq-eqb x.tag x.tag refl)
    (eq-eqb x.time x.time refl)

pub timed_eq : (x y : Timed) → timed_same x y ≡ true → x ≡ y
timed_eq x y h =
    let t : x.tag ≡ y.tag =
    eqb-true _ _ (and_left (eqb x.tag y.tag) (eqb x.time y.time) h) in
    let u : x.time ≡ y.time =
    eqb-true _ _ (and_right (eqb x.tag y.tag) (eqb x.time y.time) h) in
    ap (λ (a : ℕ). timed a x.time) t ∙ ap (λ (a : ℕ). timed y.tag a) u

pub stamp_back : (s : Option ℕ) → stamp_of (stamp_timed s) ≡ s
stamp_back None = refl
stamp_back (Some t) = refl

pub use_back : (s : Use) → use_of (use_timed s) ≡ s
use_back use'.Never = refl
use_back use'.InUse = refl
use_back (use'.Retired t) = refl

pub stamp_taken_lem : (s : Option ℕ) → stamp_taken (stamp_timed s) ≡ true
stamp_taken_lem s = rw (stamp_back s) (timed_same_lem (stamp_timed s))

pub use_taken_lem : (s : Use) → use_taken (use_timed s) ≡ true
use_taken_lem s = rw (use_back s) (timed_same_lem (use_timed s))

pub code_same_lem : (x : Code) → code_same x x ≡ true
code_same_lem x =
    rw (
      eq-eqb x.tag x.tag refl,
      eq-eqb x.node x.node refl,
      eq-eqb x.level x.level refl,
      eq-eqb x.ahead x.ahead refl,
      eq-eqb x.job x.job refl,
      eq-eqb x.due x.due refl,
      eq-eqb x.ticket x.ticket refl,
    )
    refl

-- two pairs of numbers that are the same
pair_same : (a b c d : ℕ) → (eqb a b && eqb c d) ≡ true → (a ≡ b) × (c ≡ d)
pair_same a b c d h = (
  eqb-true a b (and_left (eqb a b) (eqb c d) h),
  eqb-true c d (and_right (eqb a b) (eqb c d) h),
)

pub code_eq : (x y : Code) → code_same x y ≡ true → x ≡ y
code_eq x y h =
    let tn = eqb x.tag y.tag && eqb x.node y.node in
    let la = eqb x.level y.level && eqb x.ahead y.ahead in
    let key = eqb x.due y.due && eqb x.ticket y.ticket in
    let j = eqb x.job y.job in
    let placed = and_left (tn && la) (j && key) h in
    let errand = and_right (tn && la) (j && key) h in
    let p = pair_same x.tag y.tag x.node y.node (and_left tn la placed) in
    let q = pair_same x.level y.level x.ahead y.ahead (and_right tn la placed) in
    let e = eqb-true x.job y.job (and_left j key errand) in
    let k = pair_same x.due y.due x.ticket y.ticket (and_right j key errand) in
    let same :
    code x.tag x.node x.level x.ahead x.job x.due x.ticket
    ≡ code y.tag y.node y.level y.ahead y.job y.due y.ticket = cc in
    same

pub job_back : (j : Job) → job_of (job_number j) ≡ j
job_back jobs.Deliver = refl
job_back jobs.TakeBack = refl

removal_back : (j : Job) (r : Removal) →
    stage_of (stage_code (stage.Removal j r)) ≡ stage.Removal (job_of (job_number j)) r
removal_back j (rem.Search a) = refl
removal_back j rem.HoldNode = refl
removal_back j (rem.Seek (seek.Approach a)) = refl
removal_back j (rem.Seek (seek.Take a)) = refl
removal_back j (rem.Seek (seek.Confirm a)) = refl
removal_back j (rem.Seek (seek.Release a b)) = refl
removal_back j (rem.HoldOwn a) = refl
removal_back j (rem.Unlink a) = refl
removal_back j (rem.LeadBack a) = refl
removal_back j (rem.FreeOwn a) = refl
removal_back j (rem.FreeLevel a) = refl
removal_back j rem.FreeNode = refl
removal_back j rem.Retire = refl

pub stage_back : (s : Stage) → stage_of (stage_code s) ≡ s
stage_back stage.Idle = refl
stage_back (stage.Insert (ins.Search a)) = refl
stage_back (stage.Insert (ins.Seek (seek.Approach a))) = refl
stage_back (stage.Insert (ins.Seek (seek.Take a))) = refl
stage_back (stage.Insert (ins.Seek (seek.Confirm a))) = refl
stage_back (stage.Insert (ins.Seek (seek.Release a b))) = refl
stage_back (stage.Insert (ins.Copy a)) = refl
stage_back (stage.Insert (ins.Link a)) = refl
stage_back (stage.Insert (ins.FreeLevel a)) = refl
stage_back (stage.Insert ins.FreeNode) = refl
stage_back (stage.Insert ins.Stamp) = refl
stage_back (stage.Delete (del.ReadNext a)) = refl
stage_back (stage.Delete (del.TestStamp a)) = refl
stage_back (stage.Delete (del.SetMark a)) = refl
stage_back (stage.Relaxed (rlx.ReadNext a)) = refl
stage_back (stage.Relaxed (rlx.SetMark a)) = refl
stage_back (stage.Remove w (rmv.Search a)) = refl
stage_back (stage.Remove w (rmv.ReadNext a)) = refl
stage_back (stage.Remove w (rmv.TestStamp a)) = refl
stage_back (stage.Remove w (rmv.SetMark a)) = refl
stage_back (stage.Removal j r) =
    removal_back j r ∙ ap (λ (k : Job). stage.Removal k r) (job_back j)

pub stage_taken_lem : (s : Stage) → stage_taken (stage_code s) ≡ true
stage_taken_lem s = rw (stage_back s) (code_same_lem (stage_code s))

-- what a stage does not carry is written as 0
idle_zeros : stage_code stage.Idle ≡ code 0 0 0 0 0 0 0
idle_zeros = refl

-- some of what is refused: an unknown tag or job, a time where there is none, a place where the
-- stage has none, a node of G3, a job or a key at another stage
unknown_stage : (n l b j d t : ℕ) → stage_taken (code 33 n l b j d t) ≡ false
unknown_stage n l b j d t = refl

unknown_job : stage_taken (code 26 0 0 0 2 0 0) ≡ false
unknown_job = refl

idle_with_a_place : stage_taken (code 0 1 1 0 0 0 0) ≡ false
idle_with_a_place = refl

search_with_the_node_of_g3 : stage_taken (code 1 3 1 7 0 0 0) ≡ false
search_with_the_node_of_g3 = refl

walk_with_a_job : stage_taken (code 30 3 1 0 1 5 7) ≡ false
walk_with_a_job = refl

removal_with_a_key : stage_taken (code 14 3 1 0 1 5 7) ≡ false
removal_with_a_key = refl

unknown_stamp : (t : ℕ) → stamp_taken (timed 2 t) ≡ false
unknown_stamp t = refl

no_stamp_with_a_time : stamp_taken (timed 0 5) ≡ false
no_stamp_with_a_time = refl

unknown_use : (t : ℕ) → use_taken (timed 3 t) ≡ false
unknown_use t = refl

in_use_with_a_time : use_taken (timed 1 5) ≡ false
in_use_with_a_time = refl
