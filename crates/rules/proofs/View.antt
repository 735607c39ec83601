-- The record as functions of numbers, and what a stage claims of its processor.
use Prim.Native.Nat.{ℕ, ◌+◌, ◌-◌, ◌*◌, ◌≤◌}
use lib.Dec.{eqb}
use mathlib.Core.Bool.{Bool, false, cond}
use Rattle.record.specs.Stages.{place}
use Rattle.record.specs.declared.stages.Place.{Place}
use Rattle.record.specs.declared.stages.Seek.{Seek}
use Rattle.record.specs.declared.stages.Seek.TheVariants as seek
use Rattle.record.specs.declared.stages.Insert.{Insert}
use Rattle.record.specs.declared.stages.Insert.TheVariants as ins
use Rattle.record.specs.declared.stages.Delete.{Delete}
use Rattle.record.specs.declared.stages.Delete.TheVariants as del
use Rattle.record.specs.declared.stages.Removal.{Removal}
use Rattle.record.specs.declared.stages.Removal.TheVariants as rem
use Rattle.record.specs.declared.stages.Relaxed.{Relaxed}
use Rattle.record.specs.declared.stages.Relaxed.TheVariants as rlx
use Rattle.record.specs.declared.stages.Wanted.{Wanted}
use Rattle.record.specs.declared.stages.Remove.{Remove}
use Rattle.record.specs.declared.stages.Remove.TheVariants as rmv
use Rattle.record.specs.declared.stages.Stage.{Stage}
use Rattle.record.specs.declared.stages.Stage.TheVariants as stage

-- a processor: saved is a function of the level
pub record Pr : Type 0 where
  pub begin : ℕ
  pub own : ℕ
  pub stage : Stage
  pub saved : ℕ → ℕ

-- lk: 0 is free, q + 1 is held by q.  mk: 0 is unmarked.  st: ever is no stamp.
-- us: 0 is never used, 1 is in use (the head and the tail too), 2 + r is retired at r.
pub record View : Type 0 where
  pub procs : ℕ
  pub nodes : ℕ
  pub top : ℕ
  pub clock : ℕ
  pub fwd : ℕ → ℕ → ℕ
  pub lk : ℕ → ℕ → ℕ
  pub nl : ℕ → ℕ
  pub mk : ℕ → ℕ
  pub st : ℕ → ℕ
  pub us : ℕ → ℕ
  pub ht : ℕ → ℕ
  pub due : ℕ → ℕ
  pub tick : ℕ → ℕ
  pub item : ℕ → ℕ
  pub pr : ℕ → Pr

abbrev pub tail : View → ℕ
tail v = v.nodes + 1

-- above every entry's rank
abbrev pub last : ℕ
last = 2000000000000

abbrev pub entry_rank : ℕ → ℕ → ℕ
entry_rank d t = d * 1000000 + t + 1

unfoldable pub rank : ℕ → (ℕ → ℕ) → (ℕ → ℕ) → ℕ → ℕ
rank n due tick x = cond (eqb x 0) 0 (cond (eqb x (n + 1)) last (entry_rank (due x) (tick x)))

abbrev pub key : View → ℕ → ℕ
key v = rank v.nodes v.due v.tick

-- What a stage says of its processor.
--   kind: 0 idle, 1 an Insert, 2 a walk, 3 a remover with an own node
--   node, level: the place.  b: the b of G4, elsewhere the place's node
--   hp, ho, hn: 1 if it holds the place's lock, own's lock at the level, own's node lock
--   nx: what it knows of a's forward number: 1 at I1, 2 at I2, 3 at L2 and L3, 4 at L4
--   lo: own is linked at the levels 1 to lo
--   from: the saved nodes of the levels from this one on are of this operation
--   strict: 1 on a walk (no eligible key is below the place's), 2 at W1 (every one is above it)
--   early: 1 where the place is an entry's node, 2 at W3 (and its stamp is before the begin)
--   past: 1 for a remover past L1
-- goal: without an own node, the key that the place is before. found: the key that the place has,
-- or 0
pub record Info : Type 0 where
  pub kind : ℕ
  pub node : ℕ
  pub level : ℕ
  pub b : ℕ
  pub hp : ℕ
  pub ho : ℕ
  pub hn : ℕ
  pub nx : ℕ
  pub lo : ℕ
  pub from : ℕ
  pub strict : ℕ
  pub early : ℕ
  pub past : ℕ
  pub goal : ℕ
  pub found : ℕ

abbrev pub seeks : ℕ → ℕ → ℕ → Seek → Info
seeks k lo past (seek.Approach a) = record { kind = k; node = a.node; level = a.level; b = a.node; hp = 0; ho = 0; hn = 1; nx = 0; lo = a.level - lo; from = 1; strict = 0; early = 0; past = past; goal = 0; found = 0 }
seeks k lo past (seek.Take a) = record { kind = k; node = a.node; level = a.level; b = a.node; hp = 0; ho = 0; hn = 1; nx = 0; lo = a.level - lo; from = 1; strict = 0; early = 0; past = past; goal = 0; found = 0 }
seeks k lo past (seek.Confirm a) = record { kind = k; node = a.node; level = a.level; b = a.node; hp = 1; ho = 0; hn = 1; nx = 0; lo = a.level - lo; from = 1; strict = 0; early = 0; past = past; goal = 0; found = 0 }
seeks k lo past (seek.Release a b) = record { kind = k; node = a.node; level = a.level; b = b; hp = 1; ho = 0; hn = 1; nx = 0; lo = a.level - lo; from = 1; strict = 0; early = 0; past = past; goal = 0; found = 0 }

abbrev pub inserts : ℕ → Insert → Info
inserts h (ins.Search a) = record { kind = 1; node = a.node; level = a.level; b = a.node; hp = 0; ho = 0; hn = 1; nx = 0; lo = 0; from = a.level + 1; strict = 0; early = 0; past = 0; goal = 0; found = 0 }
inserts h (ins.Seek k) = seeks 1 1 0 k
inserts h (ins.Copy a) = record { kind = 1; node = a.node; level = a.level; b = a.node; hp = 1; ho = 0; hn = 1; nx = 1; lo = a.level - 1; from = 1; strict = 0; early = 0; past = 0; goal = 0; found = 0 }
inserts h (ins.Link a) = record { kind = 1; node = a.node; level = a.level; b = a.node; hp = 1; ho = 0; hn = 1; nx = 2; lo = a.level - 1; from = 1; strict = 0; early = 0; past = 0; goal = 0; found = 0 }
inserts h (ins.FreeLevel a) = record { kind = 1; node = a.node; level = a.level; b = a.node; hp = 1; ho = 0; hn = 1; nx = 0; lo = a.level; from = 1; strict = 0; early = 0; past = 0; goal = 0; found = 0 }
inserts h ins.FreeNode = record { kind = 1; node = 0; level = 1; b = 0; hp = 0; ho = 0; hn = 1; nx = 0; lo = h; from = 9; strict = 0; early = 0; past = 0; goal = 0; found = 0 }
inserts h ins.Stamp = record { kind = 1; node = 0; level = 1; b = 0; hp = 0; ho = 0; hn = 0; nx = 0; lo = h; from = 9; strict = 0; early = 0; past = 0; goal = 0; found = 0 }

-- an operation without an own node, at the place a
abbrev pub standing : ℕ → ℕ → ℕ → ℕ → ℕ → Place → Info
standing strict early goal found from a = record { kind = 2; node = a.node; level = a.level; b = a.node; hp = 0; ho = 0; hn = 0; nx = 0; lo = 0; from = from; strict = strict; early = early; past = 0; goal = goal; found = found }

-- a walk at the node of a: it seeks no key
abbrev pub walk_info : ℕ → ℕ → Place → Info
walk_info strict early a = standing strict early last 0 9 (place a.node 1)

abbrev pub walks : Delete → Info
walks (del.ReadNext a) = walk_info 2 0 a
walks (del.TestStamp a) = walk_info 1 0 a
walks (del.SetMark a) = walk_info 1 2 a

-- of a Relaxed Delete_Min (02, W3): at its W3 nothing is known of the stamp
abbrev pub relaxes : Relaxed → Info
relaxes (rlx.ReadNext a) = walk_info 2 0 a
relaxes (rlx.SetMark a) = walk_info 1 1 a

-- of a Remove before its mark (02, W5): until it is at its key the place is before it
abbrev pub finds : Wanted → Remove → Info
finds w (rmv.Search a) = standing 0 0 (entry_rank w.due w.ticket) 0 (a.level + 1) a
finds w (rmv.ReadNext a) = standing 0 0 (entry_rank w.due w.ticket) 0 9 (place a.node 1)
finds w (rmv.TestStamp a) = standing 0 0 last (entry_rank w.due w.ticket) 9 (place a.node 1)
finds w (rmv.SetMark a) = standing 0 2 last (entry_rank w.due w.ticket) 9 (place a.node 1)

abbrev pub removals : ℕ → Removal → Info
removals h (rem.Search a) = record { kind = 3; node = a.node; level = a.level; b = a.node; hp = 0; ho = 0; hn = 0; nx = 0; lo = h; from = a.level + 1; strict = 0; early = 0; past = 0; goal = 0; found = 0 }
removals h rem.HoldNode = record { kind = 3; node = 0; level = 1; b = 0; hp = 0; ho = 0; hn = 0; nx = 0; lo = h; from = 1; strict = 0; early = 0; past = 0; goal = 0; found = 0 }
removals h (rem.Seek k) = seeks 3 0 1 k
removals h (rem.HoldOwn a) = record { kind = 3; node = a.node; level = a.level; b = a.node; hp = 1; ho = 0; hn = 1; nx = 3; lo = a.level - 0; from = 1; strict = 0; early = 0; past = 1; goal = 0; found = 0 }
removals h (rem.Unlink a) = record { kind = 3; node = a.node; level = a.level; b = a.node; hp = 1; ho = 1; hn = 1; nx = 3; lo = a.level - 0; from = 1; strict = 0; early = 0; past = 1; goal = 0; found = 0 }
removals h (rem.LeadBack a) = record { kind = 3; node = a.node; level = a.level; b = a.node; hp = 1; ho = 1; hn = 1; nx = 4; lo = a.level - 1; from = 1; strict = 0; early = 0; past = 1; goal = 0; found = 0 }
removals h (rem.FreeOwn a) = record { kind = 3; node = a.node; level = a.level; b = a.node; hp = 1; ho = 1; hn = 1; nx = 0; lo = a.level - 1; from = 1; strict = 0; early = 0; past = 1; goal = 0; found = 0 }
removals h (rem.FreeLevel a) = record { kind = 3; node = a.node; level = a.level; b = a.node; hp = 1; ho = 0; hn = 1; nx = 0; lo = a.level - 1; from = 1; strict = 0; early = 0; past = 1; goal = 0; found = 0 }
removals h rem.FreeNode = record { kind = 3; node = 0; level = 1; b = 0; hp = 0; ho = 0; hn = 1; nx = 0; lo = 0; from = 9; strict = 0; early = 0; past = 1; goal = 0; found = 0 }
removals h rem.Retire = record { kind = 3; node = 0; level = 1; b = 0; hp = 0; ho = 0; hn = 0; nx = 0; lo = 0; from = 9; strict = 0; early = 0; past = 1; goal = 0; found = 0 }

abbrev pub info : ℕ → Stage → Info
info h stage.Idle = record { kind = 0; node = 0; level = 1; b = 0; hp = 0; ho = 0; hn = 0; nx = 0; lo = 0; from = 9; strict = 0; early = 0; past = 0; goal = 0; found = 0 }
info h (stage.Insert i) = inserts h i
info h (stage.Delete d) = walks d
info h (stage.Relaxed x) = relaxes x
info h (stage.Remove w x) = finds w x
info h (stage.Removal job r) = removals h r

-- the key of the operation, k being the own node's
abbrev pub rank_for : Stage → ℕ → ℕ
rank_for stage.Idle k = k
rank_for (stage.Insert i) k = k
rank_for (stage.Delete d) k = k
rank_for (stage.Relaxed x) k = k
rank_for (stage.Remove w x) k = entry_rank w.due w.ticket
rank_for (stage.Removal job r) k = k

-- whether r is the key that a Remove carries; nothing else asks
abbrev pub unasked : ℕ → Bool
unasked r = false

abbrev pub asks_for : Stage → ℕ → Bool
asks_for stage.Idle = unasked
asks_for (stage.Insert i) = unasked
asks_for (stage.Delete d) = unasked
asks_for (stage.Relaxed x) = unasked
asks_for (stage.Remove w x) = λ r. eqb r (entry_rank w.due w.ticket)
asks_for (stage.Removal job r) = unasked

-- the due minute and the ticket that a Remove carries are in their ranges
abbrev pub Wants : Stage → Type 0
Wants stage.Idle = Unit {0}
Wants (stage.Insert i) = Unit {0}
Wants (stage.Delete d) = Unit {0}
Wants (stage.Relaxed x) = Unit {0}
Wants (stage.Remove w x) = (w.due ≤ 999999) × (w.ticket ≤ 999999)
Wants (stage.Removal job r) = Unit {0}

-- what processor q claims in v
abbrev pub claim : View → ℕ → Info
claim v q = info (v.ht (v.pr q).own) (v.pr q).stage
