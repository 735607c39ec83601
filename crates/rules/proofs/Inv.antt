-- The invariant: named parts, each over the functions that it speaks of.
use mathlib.Core.Path.{◌≡◌}
use Prim.Native.Nat.{ℕ, suc, ◌+◌, ◌≤◌, ◌<◌}
use lib.Dec.{eqb}
use mathlib.Core.Bool.{cond}
use Rattle.rules.proofs.Put.{ever}
use Rattle.rules.proofs.View.{Pr, View, Info, claim, key, tail, last}

-- C1: s is what a linked n leads to
pub record Next (until : ℕ → ℕ → ℕ) (k : ℕ → ℕ) (tail i n s : ℕ) : Type 0 where
  pub below : s ≤ tail
  pub on : ever ≤ until s i
  pub less : k n < k s
  pub none : (x : ℕ) → x ≤ tail → ever ≤ until x i → k n < k x → k s ≤ k x

abbrev pub Ordered : (ℕ → ℕ → ℕ) → (ℕ → ℕ → ℕ) → (ℕ → ℕ) → ℕ → Type 0
Ordered fwd until k tail = (n i : ℕ) → 1 ≤ i → n < tail → ever ≤ until n i → Next until k tail i n (fwd n i)

-- C3: two nodes that are or were used have different keys
abbrev pub Apart : (ℕ → ℕ) → (ℕ → ℕ) → ℕ → Type 0
Apart us k tail = (n m : ℕ) → n ≤ tail → m ≤ tail → 1 ≤ us n → 1 ≤ us m → k n ≡ k m → n ≡ m

-- the head and the tail
pub record Ends (until : ℕ → ℕ → ℕ) (us st k : ℕ → ℕ) (top tail : ℕ) : Type 0 where
  pub head_on : (i : ℕ) → i ≤ top → until 0 i ≡ ever
  pub tail_on : (i : ℕ) → i ≤ top → until tail i ≡ ever
  pub head_used : us 0 ≡ 1
  pub tail_used : us tail ≡ 1
  pub head_stamp : st 0 ≡ ever
  pub head_key_lem : k 0 ≡ 0
  pub tail_key_lem : k tail ≡ last
  pub keys : (n : ℕ) → 1 ≤ n → n < tail → (1 ≤ k n) × (k n < last)

-- what is known of one entry's node
pub record Entered (until : ℕ → ℕ → ℕ) (us mk nl ht tick due : ℕ → ℕ) (top clock n : ℕ) : Type 0 where
  pub low_height : 1 ≤ ht n
  pub high_height : ht n ≤ top
  pub above : (j : ℕ) → ht n < j → until n j < ever
  pub ticket : tick n ≤ clock
  pub used_by : us n ≤ clock + 2
  pub due_range : due n ≤ 999999
  pub never : us n ≡ 0 → (j : ℕ) → until n j ≡ 0
  pub retired : (r : ℕ) → us n ≡ r + 2 → (j : ℕ) → 1 ≤ j → until n j ≤ r
  pub retired_marked : 2 ≤ us n → 1 ≤ mk n
  -- in use, unmarked and with a free node lock, it is linked at every level up to its height
  pub full : us n ≡ 1 → mk n ≡ 0 → nl n ≡ 0 → (j : ℕ) → 1 ≤ j → j ≤ ht n → ever ≤ until n j

pub record Core (v : View) (until : ℕ → ℕ → ℕ) : Type 0 where
  pub level_count : 1 ≤ v.top
  pub levels_high : v.top ≤ 8
  pub size : v.nodes ≤ 200
  pub clock : v.clock < ever
  pub ordered : Ordered v.fwd until (key v) (tail v)
  pub down : (n i : ℕ) → 1 ≤ i → until n (i + 1) ≤ until n i
  pub past : (n i : ℕ) → 1 ≤ i → until n i < ever → until n i ≤ v.clock
  pub apart : Apart v.us (key v) (tail v)
  pub ends : Ends until v.us v.st (key v) v.top (tail v)
  pub entered : (n : ℕ) → 1 ≤ n → n < tail v → Entered until v.us v.mk v.nl v.ht v.tick v.due v.top v.clock n

-- S1: a place or a saved node that may be read on from, for an operation begun at T that seeks the key g
pub record Readable (until : ℕ → ℕ → ℕ) (k : ℕ → ℕ) (tail T g a i : ℕ) : Type 0 where
  pub below : a < tail
  pub seen : T ≤ until a i
  pub before : k a < g

-- S2: what a lock holder knows
pub record Near (fwd until : ℕ → ℕ → ℕ) (k : ℕ → ℕ) (own a i nx : ℕ) : Type 0 where
  pub on : 1 ≤ nx → ever ≤ until a i
  pub after : 1 ≤ nx → nx ≤ 2 → k own < k (fwd a i)
  pub same : nx ≡ 2 → fwd own i ≡ fwd a i
  pub next : nx ≡ 3 → fwd a i ≡ own
  pub same_four : nx ≡ 4 → fwd own i ≡ fwd a i
  pub after_four : nx ≡ 4 → k own < k (fwd own i)

-- S3: an Insert's own node. It is in use while the Insert holds its node lock; a node retired under an Insert that has only to stamp it was
-- retired after that Insert began
pub record Inserts (until : ℕ → ℕ → ℕ) (us st tick : ℕ → ℕ) (n T own lo hn : ℕ) : Type 0 where
  pub low : 1 ≤ own
  pub high : own ≤ n
  pub used : hn ≡ 1 → us own ≡ 1
  pub later : (us own ≡ 1 → ⊥) → T + 2 ≤ us own
  pub ticket : tick own ≡ T
  pub unstamped : st own ≡ ever
  pub linked : hn ≡ 1 → (j : ℕ) → 1 ≤ j → j ≤ lo → ever ≤ until own j
  pub off : hn ≡ 1 → (j : ℕ) → lo < j → until own j ≡ 0

-- and a remover's: its links are known past L1; before, they are whole once the node lock is free
pub record Removes (until : ℕ → ℕ → ℕ) (us mk nl ht : ℕ → ℕ) (n own lo past : ℕ) : Type 0 where
  pub low : 1 ≤ own
  pub high : own ≤ n
  pub used : us own ≡ 1
  pub marked : 1 ≤ mk own
  pub linked : past ≡ 1 → (j : ℕ) → 1 ≤ j → j ≤ lo → ever ≤ until own j
  pub off : past ≡ 1 → (j : ℕ) → lo < j → until own j < ever
  pub whole : past ≡ 0 → nl own ≡ 0 → (j : ℕ) → 1 ≤ j → j ≤ ht own → ever ≤ until own j

-- V1
pub record Eligible (us st mk : ℕ → ℕ) (n T x : ℕ) : Type 0 where
  pub low : 1 ≤ x
  pub high : x ≤ n
  pub used : us x ≡ 1
  pub stamped : st x < T
  pub unmarked : mk x ≡ 0

pub record Walks (us st mk k : ℕ → ℕ) (n T own a i strict early found : ℕ) : Type 0 where
  pub ownless : own ≡ 0
  pub ahead : 1 ≤ strict → (x : ℕ) → Eligible us st mk n T x → k a + strict ≤ k x + 1
  pub entry : 1 ≤ early → 1 ≤ a
  pub stamped : early ≡ 2 → st a < T
  pub named : 1 ≤ found → k a ≡ found

-- the key that a processor seeks: its goal while it has no own node
abbrev pub sought : (ℕ → ℕ) → ℕ → ℕ → ℕ → ℕ
sought k own kind goal = cond (eqb kind 2) goal (k own)

-- processor q, its record c and what it claims, f
pub record Busy (v : View) (until : ℕ → ℕ → ℕ) (q : ℕ) (c : Pr) (f : Info) : Type 0 where
  pub begun : 1 ≤ c.begin
  pub begun_by : c.begin ≤ v.clock
  pub low : 1 ≤ f.level
  pub high : f.level ≤ v.top
  pub place : Readable until (key v) (tail v) c.begin
      (sought (key v) c.own f.kind f.goal) f.node f.level
  pub read : Readable until (key v) (tail v) c.begin
      (sought (key v) c.own f.kind f.goal) f.b f.level
  pub saved : (j : ℕ) → f.from ≤ j → 1 ≤ j → j ≤ v.top →
      Readable until (key v) (tail v) c.begin (sought (key v) c.own f.kind f.goal)
      (c.saved j) j
  pub holds_place_lock : f.hp ≡ 1 → v.lk f.node f.level ≡ suc q
  pub holds_own_lock : f.ho ≡ 1 → v.lk c.own f.level ≡ suc q
  pub holds_node_lock : f.hn ≡ 1 → v.nl c.own ≡ suc q
  pub near : Near v.fwd until (key v) c.own f.node f.level f.nx
  pub inserts : f.kind ≡ 1 → Inserts until v.us v.st v.tick v.nodes c.begin c.own f.lo f.hn
  pub within : f.from ≡ 1 → f.level ≤ v.ht c.own
  pub removes : f.kind ≡ 3 → Removes until v.us v.mk v.nl v.ht v.nodes c.own f.lo f.past
  pub walks : f.kind ≡ 2 → Walks v.us v.st v.mk (key v) v.nodes c.begin c.own
      f.node f.level f.strict f.early f.found

-- C4
pub record Back (fwd until : ℕ → ℕ → ℕ) (k : ℕ → ℕ) (tail T n i : ℕ) : Type 0 where
  pub below : fwd n i < tail
  pub seen : T ≤ until (fwd n i) i
  pub less : k (fwd n i) < k n

pub record Unlinking (v : View) (q n i : ℕ) : Type 0 where
  pub kind : (claim v q).kind ≡ 3
  pub nx : (claim v q).nx ≡ 4
  pub hp : (claim v q).hp ≡ 1
  pub ho : (claim v q).ho ≡ 1
  pub own : (v.pr q).own ≡ n
  pub level : (claim v q).level ≡ i

pub data Led (v : View) (until : ℕ → ℕ → ℕ) (T n i : ℕ) : Type 0 where
  back : Back v.fwd until (key v) (tail v) T n i → Led v until T n i
  unlinker : (q : ℕ) → Unlinking v q n i → Led v until T n i

-- S4: at most one Insert and at most one remover own a node
abbrev pub One : (ℕ → Info) → (ℕ → Pr) → Type 0
One f c = (p q : ℕ) → 1 ≤ (f p).kind → (f p).kind ≡ (f q).kind → ((f p).kind ≡ 2 → ⊥) → (c p).own ≡ (c q).own → p ≡ q

-- and where a remover past L1 and an Insert own the same node, the Insert has freed its node lock
abbrev pub Yields : (ℕ → Info) → (ℕ → Pr) → Type 0
Yields f c = (p q : ℕ) → (f p).kind ≡ 3 → (f p).past ≡ 1 → (f q).kind ≡ 1 → (c p).own ≡ (c q).own → (f q).hn ≡ 0

pub record Inv (v : View) (until : ℕ → ℕ → ℕ) : Type 0 where
  pub core : Core v until
  pub busy : (q : ℕ) → 1 ≤ (claim v q).kind → Busy v until q (v.pr q) (claim v q)
  pub led : (q n i : ℕ) → 1 ≤ (claim v q).kind → 1 ≤ i → n < tail v → (v.pr q).begin ≤ until n i → until n i < ever → Led v until (v.pr q).begin n i
  pub one : One (claim v) v.pr
  pub yields : Yields (claim v) v.pr

-- a processor that knows exactly at which levels its own node is linked
pub data Exact (f : Info) : Type 0 where
  inserting : f.kind ≡ 1 → f.hn ≡ 1 → Exact f
  removing : f.kind ≡ 3 → f.past ≡ 1 → Exact f

-- the node locks: whoever holds one says so, and owns the node
abbrev pub NodeHeld : View → Type 0
NodeHeld v = (q n : ℕ) → v.nl n ≡ suc q → ((claim v q).hn ≡ 1) × ((v.pr q).own ≡ n)
