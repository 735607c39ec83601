-- Check 21 is kept by every call: a fresh queue passes it, and after a call on any record that passes it, reached or not, the record passes it.
-- Assumes unchanged.
use Rattle.std.specs.Prelude.{Some, None}
use mathlib.Core.Path.{◌≡◌}
use mathlib.Core.Bool.{true}
use mathlib.Core.List.{List, [], ◌∷◌}
use Prim.Native.Nat.{ℕ, ◌+◌, ◌-◌, ◌≤◌, ◌<◌}
use native.Mathlib.Omega.{arith}
use lib.ListN.{get_or}
use Rattle.record_check.specs.declared.check.Sizes.{Sizes}
use Rattle.record.specs.declared.nodes.Node.{Node}
use Rattle.record.specs.declared.queues.Processor.{Processor}
use Rattle.record.specs.declared.queues.Queue.{Queue}
use Rattle.record.specs.declared.stages.Carried.{Carried}
use Rattle.record.specs.declared.stages.Place.{Place}
use Rattle.record_check.specs.Check.{sizes_of, valid}
use Rattle.record.specs.Limits.{max_number}
use Rattle.record.specs.Nodes.{fresh_node, with_forward, with_lock, with_node_lock, with_mark, with_stamp, retired_at, filled}
use Rattle.record.specs.Queues.{node_at, processor_at, fresh_processor, fresh_queue}
use Rattle.record.specs.Stages.{carried}
use Rattle.rules.specs.declared.decisions.Effect.{Effect}
use Rattle.rules.specs.declared.decisions.Effect.TheVariants as eff
use Rattle.rules.specs.declared.decisions.ProcessorChange.{ProcessorChange}
use Rattle.rules.specs.declared.decisions.ProcessorChange.TheVariants as change
use Rattle.rules.specs.declared.decisions.Decision.{Decision}
use Rattle.rules.specs.Effects.{node_of, changed, begin_after, saved_after, processor_after, applied}
use Rattle.rules.specs.Runs.{Turn, after, after_all}
use Rattle.rules.proofs.Slots.{set_either, below_either, replicate_either}
use Rattle.rules.proofs.ValidFacts.{Within, ValidNode, ValidPlace, ValidCarried, ValidProcessor, ValidQueue, facts_valid}
use Rattle.rules.proofs.ValidDecisions.{ValidFill, ValidEffect, ValidChange, ValidDecision, Does, unchanged, applies, does}
use Rattle.rules.proofs.Untouched.{node_high}

-- the sizes after an accepted call
abbrev later : Sizes → Sizes
later s = record { processor_count = s.processor_count; node_count = s.node_count; level_count = s.level_count; clock = s.clock + 1 }

not_stamped : (t : ℕ) → None ≡ Some t → ⊥
not_stamped t e = cc

module _ (s : Sizes) where
  -- no time is after the clock when the clock has gone on
  node_later : (x : ℕ) (n : Node) → ValidNode s x n → ValidNode (later s) x n
  node_later x n N = record {
    forward = N.forward;
    level_locks = N.level_locks;
    node_lock = N.node_lock;
    mark = N.mark;
    due = N.due;
    item = N.item;
    ticket = omega (arith, N.ticket);
    height = N.height;
    stamped = N.stamped;
    stamp_time = λ t e. omega (arith, N.stamp_time t e);
    retired = λ t e. omega (arith, N.retired t e);
  }

  place_later : (a : Place) → ValidPlace s a → ValidPlace (later s) a
  place_later a A = record { node = A.node; level = A.level }

  carried_later : (g : Carried) (own : ℕ) → ValidCarried s g own → ValidCarried (later s) g own
  carried_later g own G = record {
    own_high = G.own_high;
    has_own = G.has_own;
    place = place_later g.place G.place;
    ahead = G.ahead;
    marks = G.marks;
    wanted = G.wanted;
  }

  processor_later : (c : Processor) → ValidProcessor s c → ValidProcessor (later s) c
  processor_later c C = record { begin = omega (arith, C.begin); saved = C.saved; carries = carried_later (carried c.stage) c.own C.carries }

  -- each write of a node x
  module _ (x : ℕ) (n : Node) (N : ValidNode s x n) where
    with_lock_lem : (i h : ℕ) → h ≤ s.processor_count → ValidNode s x (with_lock n i h)
    with_lock_lem i h h≤ = record {
      forward = N.forward;
      level_locks = λ k k<. set_either (λ y. y ≤ s.processor_count) n.level_locks (i - 1) k h 0 (λ e. h≤) (N.level_locks k k<);
      node_lock = N.node_lock;
      mark = N.mark;
      due = N.due;
      item = N.item;
      ticket = N.ticket;
      height = N.height;
      stamped = N.stamped;
      stamp_time = N.stamp_time;
      retired = N.retired;
    }

    with_forward_lem : (i y : ℕ) → y ≤ s.node_count + 1 → ValidNode s x (with_forward n i y)
    with_forward_lem i y y≤ = record {
      forward = λ k k<. set_either (λ y. y ≤ s.node_count + 1) n.forward (i - 1) k y 0 (λ e. y≤) (N.forward k k<);
      level_locks = N.level_locks;
      node_lock = N.node_lock;
      mark = N.mark;
      due = N.due;
      item = N.item;
      ticket = N.ticket;
      height = N.height;
      stamped = N.stamped;
      stamp_time = N.stamp_time;
      retired = N.retired;
    }

    with_node_lock_lem : (h : ℕ) → h ≤ s.processor_count → ValidNode s x (with_node_lock n h)
    with_node_lock_lem h h≤ = record {
      forward = N.forward;
      level_locks = N.level_locks;
      node_lock = h≤;
      mark = N.mark;
      due = N.due;
      item = N.item;
      ticket = N.ticket;
      height = N.height;
      stamped = N.stamped;
      stamp_time = N.stamp_time;
      retired = N.retired;
    }

    with_mark_lem : (h : ℕ) → h ≤ s.processor_count → ValidNode s x (with_mark n h)
    with_mark_lem h h≤ = record {
      forward = N.forward;
      level_locks = N.level_locks;
      node_lock = N.node_lock;
      mark = h≤;
      due = N.due;
      item = N.item;
      ticket = N.ticket;
      height = N.height;
      stamped = N.stamped;
      stamp_time = N.stamp_time;
      retired = N.retired;
    }

    with_stamp_lem : (t : ℕ) → Within x s.node_count → t ≤ s.clock → ValidNode s x (with_stamp n t)
    with_stamp_lem t X t≤ = record {
      forward = N.forward;
      level_locks = N.level_locks;
      node_lock = N.node_lock;
      mark = N.mark;
      due = N.due;
      item = N.item;
      ticket = N.ticket;
      height = N.height;
      stamped = λ u e. X;
      stamp_time = λ u e. let same : t ≡ u = cc in omega arith;
      retired = N.retired;
    }

    retired_at_lem : (t : ℕ) → t ≤ s.clock → ValidNode s x (retired_at n t)
    retired_at_lem t t≤ = record {
      forward = N.forward;
      level_locks = N.level_locks;
      node_lock = N.node_lock;
      mark = N.mark;
      due = N.due;
      item = N.item;
      ticket = N.ticket;
      height = N.height;
      stamped = N.stamped;
      stamp_time = N.stamp_time;
      retired = λ u e. let same : t ≡ u = cc in omega arith;
    }

    filled_valid : (h t due item height : ℕ) → h ≤ s.processor_count → t ≤ s.clock → ValidFill s x due item height → ValidNode s x (filled n s.level_count (s.node_count + 1) h t due item height)
    filled_valid h t due item height h≤ t≤ F =
        record {
          forward = λ k k<. below_either (λ y. y ≤ s.node_count + 1) n.forward s.level_count k (s.node_count + 1) 0 (omega arith) (N.forward k k<);
          level_locks = λ k k<. below_either (λ y. y ≤ s.processor_count) n.level_locks s.level_count k 0 0 (omega arith) (N.level_locks k k<);
          node_lock = h≤;
          mark = omega arith;
          due = F.due;
          item = F.item;
          ticket = t≤;
          height = F.height;
          stamped = λ u e. absurd (not_stamped u e);
          stamp_time = λ u e. absurd (not_stamped u e);
          retired = λ u e. cc;
        }

-- the node that an effect of a processor with the number h for its locks changes, at the next time
changed_valid : (s : Sizes) (h : ℕ) → h ≤ s.processor_count → (n : Node) (e : Effect) → ValidEffect s e → ValidNode s (node_of e) n →
    ValidNode (later s) (node_of e) (changed s.level_count (s.node_count + 1) h (s.clock + 1) e n)
changed_valid s h h≤ n eff.Keep E N = node_later s 0 n N
changed_valid s h h≤ n (eff.HoldLevel a) E N = with_lock_lem (later s) a.node n (node_later s a.node n N) a.level h h≤
changed_valid s h h≤ n (eff.FreeLevel a) E N = with_lock_lem (later s) a.node n (node_later s a.node n N) a.level 0 (omega arith)
changed_valid s h h≤ n (eff.SetForward a x) E N = with_forward_lem (later s) a.node n (node_later s a.node n N) a.level x E.to
changed_valid s h h≤ n (eff.HoldNode x) E N = with_node_lock_lem (later s) x n (node_later s x n N) h h≤
changed_valid s h h≤ n (eff.FreeNode x) E N = with_node_lock_lem (later s) x n (node_later s x n N) 0 (omega arith)
changed_valid s h h≤ n (eff.Mark x) E N = with_mark_lem (later s) x n (node_later s x n N) h h≤
changed_valid s h h≤ n (eff.Stamp x) E N = with_stamp_lem (later s) x n (node_later s x n N) (s.clock + 1) E (omega arith)
changed_valid s h h≤ n (eff.Retire x) E N = retired_at_lem (later s) x n (node_later s x n N) (s.clock + 1) (omega arith)
changed_valid s h h≤ n (eff.Fill x due item height) E N =
    filled_valid (later s) x n (node_later s x n N) h (s.clock + 1) due item height h≤ (omega arith)
    (record { node = E.node; due = E.due; item = E.item; height = E.height })

begin_valid : (t begin : ℕ) (c : ProcessorChange) → begin ≤ t → begin_after t begin c ≤ t
begin_valid t begin change.Keep h = h
begin_valid t begin (change.Save a) h = h
begin_valid t begin change.Clear h = omega arith
begin_valid t begin change.Begin h = omega arith

saved_valid : (s : Sizes) (l : List ℕ) (c : ProcessorChange) (k : ℕ) → ValidChange s c → get_or l k 0 ≤ s.node_count + 1 → get_or (saved_after s.level_count l c) k 0 ≤ s.node_count + 1
saved_valid s l change.Keep k C h = h
saved_valid s l (change.Save a) k C h = set_either (λ y. y ≤ s.node_count + 1) l (a.level - 1) k a.node 0 (λ e. C.node) h
saved_valid s l change.Clear k C h = below_either (λ y. y ≤ s.node_count + 1) l s.level_count k 0 0 (omega arith) h
saved_valid s l change.Begin k C h = h

processor_after_valid : (s : Sizes) (c : Processor) (d : Decision) → ValidProcessor s c → ValidDecision s d → ValidProcessor (later s) (processor_after s.level_count (s.clock + 1) c d)
processor_after_valid s c d C D =
    record {
      begin = begin_valid (s.clock + 1) c.begin d.change (omega (arith, C.begin));
      saved = λ k k<. saved_valid s c.saved d.change k D.change (C.saved k k<);
      carries = carried_later s (carried d.stage) d.own D.carries;
    }

pub applied_valid : (q : Queue) (p : ℕ) (d : Decision) → ValidQueue q → q.clock < max_number → p < q.processor_count → ValidDecision (sizes_of q) d → ValidQueue (applied q p d)
applied_valid q p d Q c< p< D =
    let s = sizes_of q in
    let z = node_of d.effect in
    record {
      sizes = record { processor_count = Q.sizes.processor_count; node_count = Q.sizes.node_count; level_count = Q.sizes.level_count; clock = omega arith };
      nodes = λ x x≤. set_either (ValidNode (later s) x) q.nodes z x (changed q.level_count (q.node_count + 1) (p + 1) (q.clock + 1) d.effect (node_at q z)) (fresh_node 0)
          (λ e. rw e (changed_valid s (p + 1) (omega arith) (node_at q z) d.effect D.effect (Q.nodes z (node_high s d.effect D.effect))))
          (node_later s x (node_at q x) (Q.nodes x x≤));
      processors = λ r r<. set_either (ValidProcessor (later s)) q.processors p r (processor_after q.level_count (q.clock + 1) (processor_at q p) d) fresh_processor
          (λ e. processor_after_valid s (processor_at q p) d (Q.processors p p<) D)
          (processor_later s (processor_at q r) (Q.processors r r<));
    }

does_valid : (q r : Queue) → Does q r → valid q ≡ true → valid r ≡ true
does_valid q r unchanged v = v
does_valid q r (applies p d Q c< p< D) v = facts_valid (applied q p d) (applied_valid q p d Q c< p< D)

pub kept_valid : (q : Queue) (c : Turn) → valid q ≡ true → valid (after q c) ≡ true
kept_valid q c v = does_valid q (after q c) (does q c) v

pub kept_valid_all : (q : Queue) (cs : List Turn) → valid q ≡ true → valid (after_all q cs) ≡ true
unfolding after_all
kept_valid_all q [] v = v
kept_valid_all q (c ∷ cs) v = kept_valid_all (after q c) cs (kept_valid q c v)

-- what stands in the arrays of a fresh queue, within them and past their ends
fresh_node_valid : (s : Sizes) (x tail : ℕ) → 1 ≤ s.level_count → tail ≤ s.node_count + 1 → ValidNode s x (fresh_node tail)
fresh_node_valid s x tail l t =
    record {
      forward = λ k k<. replicate_either (λ y. y ≤ s.node_count + 1) 8 k tail 0 t (omega arith);
      level_locks = λ k k<. replicate_either (λ y. y ≤ s.processor_count) 8 k 0 0 (omega arith) (omega arith);
      node_lock = omega arith;
      mark = omega arith;
      due = omega arith;
      item = omega arith;
      ticket = omega arith;
      height = omega arith;
      stamped = λ u e. absurd (not_stamped u e);
      stamp_time = λ u e. absurd (not_stamped u e);
      retired = λ u e. cc;
    }

fresh_processor_valid : (s : Sizes) → 1 ≤ s.level_count → ValidProcessor s fresh_processor
fresh_processor_valid s l =
    record {
      begin = omega arith;
      saved = λ k k<. replicate_either (λ y. y ≤ s.node_count + 1) 8 k 0 0 (omega arith) (omega arith);
      carries = record {
        own_high = omega arith;
        has_own = λ e. cc;
        place = omega arith;
        ahead = omega arith;
        marks = λ e. cc;
        wanted = omega arith;
      };
    }

pub fresh_valid : (P N L : ℕ) → 1 ≤ P → P ≤ 16 → 1 ≤ N → N ≤ 200 → 1 ≤ L → L ≤ 8 → valid (fresh_queue P N L) ≡ true
fresh_valid P N L P≥ P≤ N≥ N≤ L≥ L≤ =
    let s = sizes_of (fresh_queue P N L) in
    facts_valid (fresh_queue P N L)
    (record {
      sizes = omega arith;
      nodes = λ x x≤. replicate_either (ValidNode s x) 202 x (fresh_node (N + 1)) (fresh_node 0) (fresh_node_valid s x (N + 1) L≥ (omega arith)) (fresh_node_valid s x 0 L≥ (omega arith));
      processors = λ p p<. replicate_either (ValidProcessor s) 16 p fresh_processor fresh_processor (fresh_processor_valid s L≥) (fresh_processor_valid s L≥);
    })

pub reached_valid : (P N L : ℕ) → 1 ≤ P → P ≤ 16 → 1 ≤ N → N ≤ 200 → 1 ≤ L → L ≤ 8 → (cs : List Turn) → valid (after_all (fresh_queue P N L) cs) ≡ true
reached_valid P N L P≥ P≤ N≥ N≤ L≥ L≤ cs = kept_valid_all (fresh_queue P N L) cs (fresh_valid P N L P≥ P≤ N≥ N≤ L≥ L≤)
