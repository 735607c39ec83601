-- A stage's kind: idle or busy. Assumes nothing.
use mathlib.Core.Path.{◌≡◌, refl}
use mathlib.Core.Bool.{true, false}
use Prim.Native.Nat.{ℕ, ◌≤◌}
use native.Mathlib.Omega.{arith}
use Rattle.record.specs.declared.stages.Seek.TheVariants as seek
use Rattle.record.specs.declared.stages.Insert.{Insert}
use Rattle.record.specs.declared.stages.Insert.TheVariants as ins
use Rattle.record.specs.declared.stages.Removal.{Removal}
use Rattle.record.specs.declared.stages.Removal.TheVariants as rem
use Rattle.record.specs.declared.stages.Delete.{Delete}
use Rattle.record.specs.declared.stages.Delete.TheVariants as del
use Rattle.record.specs.declared.stages.Job.{Job}
use Rattle.record.specs.declared.stages.Relaxed.{Relaxed}
use Rattle.record.specs.declared.stages.Relaxed.TheVariants as rlx
use Rattle.record.specs.declared.stages.Wanted.{Wanted}
use Rattle.record.specs.declared.stages.Remove.{Remove}
use Rattle.record.specs.declared.stages.Remove.TheVariants as rmv
use Rattle.record.specs.declared.stages.Stage.{Stage}
use Rattle.record.specs.declared.stages.Stage.TheVariants as stage
use Rattle.record.specs.Stages.{is_idle}
use Rattle.rules.proofs.View.{info}

pub kind_idle : (h : ℕ) (s : Stage) → is_idle s ≡ true → (info h s).kind ≡ 0
kind_idle h stage.Idle e = refl
kind_idle h (stage.Insert i) e = cc
kind_idle h (stage.Delete i) e = cc
kind_idle h (stage.Relaxed i) e = cc
kind_idle h (stage.Remove w i) e = cc
kind_idle h (stage.Removal job r) e = cc

pub insert_kind : (h : ℕ) (i : Insert) → (info h (stage.Insert i)).kind ≡ 1
insert_kind h (ins.Search a) = refl
insert_kind h (ins.Seek (seek.Approach a)) = refl
insert_kind h (ins.Seek (seek.Take a)) = refl
insert_kind h (ins.Seek (seek.Confirm a)) = refl
insert_kind h (ins.Seek (seek.Release a b)) = refl
insert_kind h (ins.Copy a) = refl
insert_kind h (ins.Link a) = refl
insert_kind h (ins.FreeLevel a) = refl
insert_kind h ins.FreeNode = refl
insert_kind h ins.Stamp = refl

pub walk_kind : (h : ℕ) (d : Delete) → (info h (stage.Delete d)).kind ≡ 2
walk_kind h (del.ReadNext a) = refl
walk_kind h (del.TestStamp a) = refl
walk_kind h (del.SetMark a) = refl

pub relaxed_kind : (h : ℕ) (d : Relaxed) → (info h (stage.Relaxed d)).kind ≡ 2
relaxed_kind h (rlx.ReadNext a) = refl
relaxed_kind h (rlx.SetMark a) = refl

pub remove_kind : (h : ℕ) (w : Wanted) (d : Remove) → (info h (stage.Remove w d)).kind ≡ 2
remove_kind h w (rmv.Search a) = refl
remove_kind h w (rmv.ReadNext a) = refl
remove_kind h w (rmv.TestStamp a) = refl
remove_kind h w (rmv.SetMark a) = refl

pub removal_kind : (job : Job) (h : ℕ) (r : Removal) → (info h (stage.Removal job r)).kind ≡ 3
removal_kind job h (rem.Search a) = refl
removal_kind job h rem.HoldNode = refl
removal_kind job h (rem.Seek (seek.Approach a)) = refl
removal_kind job h (rem.Seek (seek.Take a)) = refl
removal_kind job h (rem.Seek (seek.Confirm a)) = refl
removal_kind job h (rem.Seek (seek.Release a b)) = refl
removal_kind job h (rem.HoldOwn a) = refl
removal_kind job h (rem.Unlink a) = refl
removal_kind job h (rem.LeadBack a) = refl
removal_kind job h (rem.FreeOwn a) = refl
removal_kind job h (rem.FreeLevel a) = refl
removal_kind job h rem.FreeNode = refl
removal_kind job h rem.Retire = refl

pub kind_busy : (h : ℕ) (s : Stage) → is_idle s ≡ false → 1 ≤ (info h s).kind
kind_busy h stage.Idle e = cc
kind_busy h (stage.Insert i) e = omega (arith, insert_kind h i)
kind_busy h (stage.Delete i) e = omega (arith, walk_kind h i)
kind_busy h (stage.Relaxed i) e = omega (arith, relaxed_kind h i)
kind_busy h (stage.Remove w i) e = omega (arith, remove_kind h w i)
kind_busy h (stage.Removal job r) e = omega (arith, removal_kind job h r)

pub idle_false : (h : ℕ) (s : Stage) → 1 ≤ (info h s).kind → is_idle s ≡ false
idle_false h stage.Idle e = absurd (omega arith)
idle_false h (stage.Insert i) e = refl
idle_false h (stage.Delete i) e = refl
idle_false h (stage.Relaxed i) e = refl
idle_false h (stage.Remove w i) e = refl
idle_false h (stage.Removal job r) e = refl
