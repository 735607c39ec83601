-- The queue record seen as a view.
use Rattle.std.specs.Prelude.{Option, ℕ, Some, None}
use mathlib.Core.Path.{◌≡◌, refl, sym, ap, ◌∙◌}
use mathlib.Core.List.{List}
use Prim.Native.Nat.{ℕ, ◌+◌, ◌-◌, ◌≤◌}
use native.Mathlib.Omega.{arith}
use lib.Dec.{ltb, eqb}
use lib.ListN.{get_or}
use borrow.Author.Tests.{le-ltb, ne_eqb}
use mathlib.Core.Bool.{cond}
use Rattle.record.specs.declared.keys.Key.{Key}
use Rattle.record.specs.declared.nodes.Node.{Node}
use Rattle.record.specs.declared.queues.Queue.{Queue}
use Rattle.record.specs.declared.queues.Processor.{Processor}
use Rattle.record.specs.declared.nodes.Use.{Use}
use Rattle.record.specs.declared.nodes.Use.TheVariants as use'
use Rattle.record.specs.Keys.{key_before}
use Rattle.record.specs.Queues.{node_at, processor_at}
use Rattle.rules.specs.Calls.{key_for, at_key, step_view_of}
use Rattle.record.specs.Nodes.{stamped_before, key_of}
use Rattle.record.specs.declared.stages.Place.{Place}
use Rattle.rules.proofs.Put.{ever}
use Rattle.rules.proofs.View.{Pr, View, rank_for, asks_for, Wants, rank}
use Rattle.rules.proofs.Machine.{view_for}
use Rattle.rules.proofs.Ranks.{Ranked, node_ranked, before_ranked, ranked_for, asked_for}
use Rattle.rules.proofs.Ranks.{rank_at_lem}

abbrev pub level_of : List ℕ → ℕ → ℕ
level_of l i = cond (eqb i 0) 0 (get_or l (i - 1) 0)

abbrev pub stamp_number : Option ℕ → ℕ
stamp_number None = ever
stamp_number (Some t) = t

abbrev pub use_number : Use → ℕ
use_number use'.Never = 0
use_number use'.InUse = 1
use_number (use'.Retired r) = r + 2

abbrev pub use_of : ℕ → ℕ → Node → ℕ
use_of n x d = cond (eqb x 0) 1 (cond (eqb x (n + 1)) 1 (use_number d.state))

abbrev pub pr_of : Processor → Pr
pr_of c = record { begin = c.begin; own = c.own; stage = c.stage; saved = λ i. get_or c.saved (i - 1) 0 }

abbrev pub seen_as : ℕ → ℕ → ℕ → ℕ → (ℕ → Node) → (ℕ → Pr) → View
seen_as P N L t nd pr = record {
  procs = P;
  nodes = N;
  top = L;
  clock = t;
  fwd = λ n. level_of (nd n).forward;
  lk = λ n. level_of (nd n).level_locks;
  nl = λ n. (nd n).node_lock;
  mk = λ n. (nd n).mark;
  st = λ n. stamp_number (nd n).stamp;
  us = λ n. use_of N n (nd n);
  ht = λ n. (nd n).height;
  due = λ n. (nd n).due;
  tick = λ n. (nd n).ticket;
  item = λ n. (nd n).item;
  pr = pr;
}

abbrev pub view_of : Queue → View
view_of q = seen_as q.processor_count q.node_count q.level_count q.clock (node_at q) (λ p. pr_of (processor_at q p))

pub level_pos : (l : List ℕ) (i : ℕ) → 1 ≤ i → get_or l (i - 1) 0 ≡ level_of l i
level_pos l i i≥ = rw (ne_eqb i 0 (λ h. omega arith))

pub stamp_before_lem : (s : Option ℕ) (T : ℕ) → T ≤ ever → stamped_before s T ≡ ltb (stamp_number s) T
stamp_before_lem None T T≤ = sym (le-ltb ever T T≤)
stamp_before_lem (Some t) T T≤ = refl

-- the view of a step, read from the record and from the view
module _ (q : Queue) (c : Processor) (a : Place) (a≥ : 1 ≤ a.level) (T≤ : c.begin ≤ ever)
    (small : (n : ℕ) → n ≤ q.node_count + 1 → ((node_at q n).due ≤ 999999) × ((node_at q n).ticket ≤ 999999))
    (next≤ : level_of (node_at q a.node).forward a.level ≤ q.node_count + 1)
    (own≤ : c.own ≤ q.node_count + 1)
    (wants : Wants c.stage) where
  abbrev v : View
  v = view_of q

  next_same : get_or (node_at q a.node).forward (a.level - 1) 0 ≡ v.fwd a.node a.level
  next_same = level_pos (node_at q a.node).forward a.level a≥

  ranked : (y : ℕ) → y ≤ q.node_count + 1 →
      Ranked (key_of q.node_count y (node_at q y)) (rank q.node_count v.due v.tick y)
  ranked y y≤ =
      rw (rank_at_lem q.node_count v.due v.tick y)
      (node_ranked q.node_count y (node_at q y).due (node_at q y).ticket (small y y≤).0
      (small y y≤).1)

  abbrev goal : Key
  goal = key_for c.stage (key_of q.node_count c.own (node_at q c.own))

  abbrev goal_rank : ℕ
  goal_rank = rank_for c.stage (rank q.node_count v.due v.tick c.own)

  goal_ranked : Ranked goal goal_rank
  goal_ranked = ranked_for c.stage _ _ wants (ranked c.own own≤)

  pub step_view_same : step_view_of q c a ≡ view_for v (pr_of c) goal_rank (asks_for c.stage) a
  step_view_same = λ i. record {
    own = c.own;
    height = (node_at q c.own).height;
    own_node_lock = (node_at q c.own).node_lock;
    next = next_same i;
    next_before_key = (ap (λ (y : ℕ). key_before (key_of q.node_count y (node_at q y)) goal) next_same
        ∙ before_ranked _ goal _ goal_rank (ranked (v.fwd a.node a.level) next≤) goal_ranked)
        i;
    next_has_key = (ap (λ (y : ℕ). at_key c.stage (key_of q.node_count y (node_at q y))) next_same
        ∙ asked_for c.stage _ _ wants (ranked (v.fwd a.node a.level) next≤)) i;
    place_lock = level_pos (node_at q a.node).level_locks a.level a≥ i;
    own_next = level_pos (node_at q c.own).forward a.level a≥ i;
    own_lock = level_pos (node_at q c.own).level_locks a.level a≥ i;
    next_is_tail = ap (λ (y : ℕ). eqb y (q.node_count + 1)) next_same i;
    level_count = q.level_count;
    marked = ltb 0 (node_at q a.node).mark;
    stamped = stamp_before_lem (node_at q a.node).stamp c.begin T≤ i;
    saved_above = get_or c.saved (a.level + 1 - 1) 0;
    saved_below = get_or c.saved (a.level - 1 - 1) 0;
    saved_at_height = get_or c.saved ((node_at q c.own).height - 1) 0;
    place_entry = record { due = (node_at q a.node).due; item = (node_at q a.node).item; ticket = (node_at q a.node).ticket };
    own_entry = record { due = (node_at q c.own).due; item = (node_at q c.own).item; ticket = (node_at q c.own).ticket };
  }
