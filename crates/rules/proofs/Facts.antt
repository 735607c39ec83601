-- Facts that hold of every stage's claims.
use mathlib.Core.Path.{◌≡◌, refl}
use Prim.Native.Nat.{ℕ, ◌≤◌, ◌<◌}
use native.Mathlib.Omega.{arith}
use Rattle.record.specs.declared.stages.Seek.TheVariants as seek
use Rattle.record.specs.declared.stages.Insert.TheVariants as ins
use Rattle.record.specs.declared.stages.Delete.TheVariants as del
use Rattle.record.specs.declared.stages.Removal.TheVariants as rem
use Rattle.record.specs.declared.stages.Relaxed.TheVariants as rlx
use Rattle.record.specs.declared.stages.Remove.TheVariants as rmv
use Rattle.record.specs.declared.stages.Stage.{Stage}
use Rattle.record.specs.declared.stages.Stage.TheVariants as stage
use Rattle.rules.specs.Calls.{reading_place}
use Rattle.rules.proofs.View.{Info, info}

pub record Facts (f : Info) : Type 0 where
  pub kind_high : f.kind ≤ 3
  pub nx_high : f.nx ≤ 4
  pub near_hp : 1 ≤ f.nx → f.hp ≡ 1
  pub near_kind : 1 ≤ f.nx → 1 ≤ f.kind
  pub near_own : 1 ≤ f.nx → f.kind ≡ 2 → ⊥
  pub place_own : f.hp ≡ 1 → f.kind ≡ 2 → ⊥
  pub own_own : f.ho ≡ 1 → f.kind ≡ 3
  pub node_own : f.hn ≡ 1 → f.kind ≡ 2 → ⊥
  pub four : f.nx ≡ 4 → f.ho ≡ 1
  pub two : f.nx ≡ 2 → f.kind ≡ 1
  pub two_lo : f.nx ≡ 2 → 1 ≤ f.level → f.lo < f.level
  pub two_hn : f.nx ≡ 2 → f.hn ≡ 1
  pub four_past : f.nx ≡ 4 → f.past ≡ 1
  pub four_kind : f.nx ≡ 4 → f.kind ≡ 3
  pub place_kind : f.hp ≡ 1 → f.kind ≡ 0 → ⊥
  pub node_kind : f.hn ≡ 1 → 1 ≤ f.kind
  pub hn_high : f.hn ≤ 1
  pub past_high : f.past ≤ 1
  pub node_past : f.kind ≡ 3 → f.hn ≡ 1 → f.past ≡ 1

pub facts : (h : ℕ) (s : Stage) → Facts (info h s)
facts h stage.Idle = omega arith
facts h (stage.Insert (ins.Search a)) = omega arith
facts h (stage.Insert (ins.Seek (seek.Approach a))) = omega arith
facts h (stage.Insert (ins.Seek (seek.Take a))) = omega arith
facts h (stage.Insert (ins.Seek (seek.Confirm a))) = omega arith
facts h (stage.Insert (ins.Seek (seek.Release a b))) = omega arith
facts h (stage.Insert (ins.Copy a)) = omega arith
facts h (stage.Insert (ins.Link a)) = omega arith
facts h (stage.Insert (ins.FreeLevel a)) = omega arith
facts h (stage.Insert ins.FreeNode) = omega arith
facts h (stage.Insert ins.Stamp) = omega arith
facts h (stage.Delete (del.ReadNext a)) = omega arith
facts h (stage.Delete (del.TestStamp a)) = omega arith
facts h (stage.Delete (del.SetMark a)) = omega arith
facts h (stage.Relaxed (rlx.ReadNext a)) = omega arith
facts h (stage.Relaxed (rlx.SetMark a)) = omega arith
facts h (stage.Remove w (rmv.Search a)) = omega arith
facts h (stage.Remove w (rmv.ReadNext a)) = omega arith
facts h (stage.Remove w (rmv.TestStamp a)) = omega arith
facts h (stage.Remove w (rmv.SetMark a)) = omega arith
facts h (stage.Removal job (rem.Search a)) = omega arith
facts h (stage.Removal job rem.HoldNode) = omega arith
facts h (stage.Removal job (rem.Seek (seek.Approach a))) = omega arith
facts h (stage.Removal job (rem.Seek (seek.Take a))) = omega arith
facts h (stage.Removal job (rem.Seek (seek.Confirm a))) = omega arith
facts h (stage.Removal job (rem.Seek (seek.Release a b))) = omega arith
facts h (stage.Removal job (rem.HoldOwn a)) = omega arith
facts h (stage.Removal job (rem.Unlink a)) = omega arith
facts h (stage.Removal job (rem.LeadBack a)) = omega arith
facts h (stage.Removal job (rem.FreeOwn a)) = omega arith
facts h (stage.Removal job (rem.FreeLevel a)) = omega arith
facts h (stage.Removal job rem.FreeNode) = omega arith
facts h (stage.Removal job rem.Retire) = omega arith

-- what a stage claims beside own's links does not go by own's height
pub record Like (f g : Info) : Type 0 where
  pub kind : f.kind ≡ g.kind
  pub node : f.node ≡ g.node
  pub level : f.level ≡ g.level
  pub hp : f.hp ≡ g.hp
  pub ho : f.ho ≡ g.ho
  pub hn : f.hn ≡ g.hn

like : {f g : Info} → f.kind ≡ g.kind → f.node ≡ g.node → f.level ≡ g.level → f.hp ≡ g.hp → f.ho ≡ g.ho → f.hn ≡ g.hn → Like f g
like a b c d e h = record { kind = a; node = b; level = c; hp = d; ho = e; hn = h }

pub info_any : (h g : ℕ) (s : Stage) → Like (info h s) (info g s)
info_any h g stage.Idle = like refl refl refl refl refl refl
info_any h g (stage.Insert (ins.Search a)) = like refl refl refl refl refl refl
info_any h g (stage.Insert (ins.Seek (seek.Approach a))) = like refl refl refl refl refl refl
info_any h g (stage.Insert (ins.Seek (seek.Take a))) = like refl refl refl refl refl refl
info_any h g (stage.Insert (ins.Seek (seek.Confirm a))) = like refl refl refl refl refl refl
info_any h g (stage.Insert (ins.Seek (seek.Release a b))) = like refl refl refl refl refl refl
info_any h g (stage.Insert (ins.Copy a)) = like refl refl refl refl refl refl
info_any h g (stage.Insert (ins.Link a)) = like refl refl refl refl refl refl
info_any h g (stage.Insert (ins.FreeLevel a)) = like refl refl refl refl refl refl
info_any h g (stage.Insert ins.FreeNode) = like refl refl refl refl refl refl
info_any h g (stage.Insert ins.Stamp) = like refl refl refl refl refl refl
info_any h g (stage.Delete (del.ReadNext a)) = like refl refl refl refl refl refl
info_any h g (stage.Delete (del.TestStamp a)) = like refl refl refl refl refl refl
info_any h g (stage.Delete (del.SetMark a)) = like refl refl refl refl refl refl
info_any h g (stage.Relaxed (rlx.ReadNext a)) = like refl refl refl refl refl refl
info_any h g (stage.Relaxed (rlx.SetMark a)) = like refl refl refl refl refl refl
info_any h g (stage.Remove w (rmv.Search a)) = like refl refl refl refl refl refl
info_any h g (stage.Remove w (rmv.ReadNext a)) = like refl refl refl refl refl refl
info_any h g (stage.Remove w (rmv.TestStamp a)) = like refl refl refl refl refl refl
info_any h g (stage.Remove w (rmv.SetMark a)) = like refl refl refl refl refl refl
info_any h g (stage.Removal job (rem.Search a)) = like refl refl refl refl refl refl
info_any h g (stage.Removal job rem.HoldNode) = like refl refl refl refl refl refl
info_any h g (stage.Removal job (rem.Seek (seek.Approach a))) = like refl refl refl refl refl refl
info_any h g (stage.Removal job (rem.Seek (seek.Take a))) = like refl refl refl refl refl refl
info_any h g (stage.Removal job (rem.Seek (seek.Confirm a))) = like refl refl refl refl refl refl
info_any h g (stage.Removal job (rem.Seek (seek.Release a b))) = like refl refl refl refl refl refl
info_any h g (stage.Removal job (rem.HoldOwn a)) = like refl refl refl refl refl refl
info_any h g (stage.Removal job (rem.Unlink a)) = like refl refl refl refl refl refl
info_any h g (stage.Removal job (rem.LeadBack a)) = like refl refl refl refl refl refl
info_any h g (stage.Removal job (rem.FreeOwn a)) = like refl refl refl refl refl refl
info_any h g (stage.Removal job (rem.FreeLevel a)) = like refl refl refl refl refl refl
info_any h g (stage.Removal job rem.FreeNode) = like refl refl refl refl refl refl
info_any h g (stage.Removal job rem.Retire) = like refl refl refl refl refl refl

pub kind_any : (h g : ℕ) (s : Stage) → (info h s).kind ≡ (info g s).kind
kind_any h g s = (info_any h g s).kind

-- a stage's place is what it claims
pub place_info : (h : ℕ) (s : Stage) → ((reading_place s).node ≡ (info h s).node) × ((reading_place s).level ≡ (info h s).level)
place_info h stage.Idle = (refl, refl)
place_info h (stage.Insert (ins.Search a)) = (refl, refl)
place_info h (stage.Insert (ins.Seek (seek.Approach a))) = (refl, refl)
place_info h (stage.Insert (ins.Seek (seek.Take a))) = (refl, refl)
place_info h (stage.Insert (ins.Seek (seek.Confirm a))) = (refl, refl)
place_info h (stage.Insert (ins.Seek (seek.Release a b))) = (refl, refl)
place_info h (stage.Insert (ins.Copy a)) = (refl, refl)
place_info h (stage.Insert (ins.Link a)) = (refl, refl)
place_info h (stage.Insert (ins.FreeLevel a)) = (refl, refl)
place_info h (stage.Insert ins.FreeNode) = (refl, refl)
place_info h (stage.Insert ins.Stamp) = (refl, refl)
place_info h (stage.Delete (del.ReadNext a)) = (refl, refl)
place_info h (stage.Delete (del.TestStamp a)) = (refl, refl)
place_info h (stage.Delete (del.SetMark a)) = (refl, refl)
place_info h (stage.Relaxed (rlx.ReadNext a)) = (refl, refl)
place_info h (stage.Relaxed (rlx.SetMark a)) = (refl, refl)
place_info h (stage.Remove w (rmv.Search a)) = (refl, refl)
place_info h (stage.Remove w (rmv.ReadNext a)) = (refl, refl)
place_info h (stage.Remove w (rmv.TestStamp a)) = (refl, refl)
place_info h (stage.Remove w (rmv.SetMark a)) = (refl, refl)
place_info h (stage.Removal job (rem.Search a)) = (refl, refl)
place_info h (stage.Removal job rem.HoldNode) = (refl, refl)
place_info h (stage.Removal job (rem.Seek (seek.Approach a))) = (refl, refl)
place_info h (stage.Removal job (rem.Seek (seek.Take a))) = (refl, refl)
place_info h (stage.Removal job (rem.Seek (seek.Confirm a))) = (refl, refl)
place_info h (stage.Removal job (rem.Seek (seek.Release a b))) = (refl, refl)
place_info h (stage.Removal job (rem.HoldOwn a)) = (refl, refl)
place_info h (stage.Removal job (rem.Unlink a)) = (refl, refl)
place_info h (stage.Removal job (rem.LeadBack a)) = (refl, refl)
place_info h (stage.Removal job (rem.FreeOwn a)) = (refl, refl)
place_info h (stage.Removal job (rem.FreeLevel a)) = (refl, refl)
place_info h (stage.Removal job rem.FreeNode) = (refl, refl)
place_info h (stage.Removal job rem.Retire) = (refl, refl)
