-- The record's arrays keep their lengths: in a fresh record, and after each call. Assumes nothing.
use mathlib.Core.Path.{◌≡◌, refl, sym, ◌∙◌}
use mathlib.Core.List.{List}
use Prim.Native.Nat.{ℕ, ◌+◌, ◌-◌, ◌<◌}
use lib.ListN.{length, get_or, set, length-set, length-replicate}
use Rattle.laws.proofs.Counting.{length_below}
use Rattle.image.specs.OneToOne.{Sized}
use Rattle.record.specs.declared.nodes.Node.{Node}
use Rattle.record.specs.declared.queues.Processor.{Processor}
use Rattle.record.specs.declared.queues.Queue.{Queue}
use Rattle.record.specs.Limits.{max_processors, node_slots}
use Rattle.record.specs.Nodes.{fresh_node}
use Rattle.record.specs.Queues.{fresh_queue, fresh_processor, node_at, processor_at}
use Rattle.rules.specs.declared.decisions.Effect.{Effect}
use Rattle.rules.specs.declared.decisions.Effect.TheVariants as eff
use Rattle.rules.specs.declared.decisions.ProcessorChange.{ProcessorChange}
use Rattle.rules.specs.declared.decisions.ProcessorChange.TheVariants as change
use Rattle.rules.specs.declared.decisions.Decision.{Decision}
use Rattle.rules.specs.Effects.{node_of, changed, saved_after, processor_after, applied}
use Rattle.rules.proofs.Slots.{set_either, replicate_either}

pub fresh_sized : (P N L : ℕ) → Sized (fresh_queue P N L)
fresh_sized P N L = record {
  nodes_long = length-replicate {A = Node} node_slots (fresh_node (N + 1));
  processors_long = length-replicate {A = Processor} max_processors fresh_processor;
  forward_long =
      λ i h. replicate_either (λ n. length n.forward ≡ 8) node_slots i (fresh_node (N + 1))
      (fresh_node 0) refl refl;
  locks_long =
      λ i h. replicate_either (λ n. length n.level_locks ≡ 8) node_slots i (fresh_node (N + 1))
      (fresh_node 0) refl refl;
  saved_long =
      λ p h. replicate_either (λ c. length c.saved ≡ 8) max_processors p fresh_processor
      fresh_processor refl refl;
}

-- a node and a processor after a call
forward_kept : (l tail h t : ℕ) (e : Effect) (n : Node) → length n.forward ≡ 8 →
    length (changed l tail h t e n).forward ≡ 8
forward_kept l tail h t eff.Keep n k = k
forward_kept l tail h t (eff.HoldLevel a) n k = k
forward_kept l tail h t (eff.FreeLevel a) n k = k
forward_kept l tail h t (eff.SetForward a x) n k = length-set n.forward (a.level - 1) x ∙ k
forward_kept l tail h t (eff.HoldNode x) n k = k
forward_kept l tail h t (eff.FreeNode x) n k = k
forward_kept l tail h t (eff.Mark x) n k = k
forward_kept l tail h t (eff.Stamp x) n k = k
forward_kept l tail h t (eff.Retire x) n k = k
forward_kept l tail h t (eff.Fill x due item height) n k = length_below n.forward l tail ∙ k

locks_kept : (l tail h t : ℕ) (e : Effect) (n : Node) → length n.level_locks ≡ 8 →
    length (changed l tail h t e n).level_locks ≡ 8
locks_kept l tail h t eff.Keep n k = k
locks_kept l tail h t (eff.HoldLevel a) n k = length-set n.level_locks (a.level - 1) h ∙ k
locks_kept l tail h t (eff.FreeLevel a) n k = length-set n.level_locks (a.level - 1) 0 ∙ k
locks_kept l tail h t (eff.SetForward a x) n k = k
locks_kept l tail h t (eff.HoldNode x) n k = k
locks_kept l tail h t (eff.FreeNode x) n k = k
locks_kept l tail h t (eff.Mark x) n k = k
locks_kept l tail h t (eff.Stamp x) n k = k
locks_kept l tail h t (eff.Retire x) n k = k
locks_kept l tail h t (eff.Fill x due item height) n k = length_below n.level_locks l 0 ∙ k

saved_kept : (l : ℕ) (saved : List ℕ) (k : ProcessorChange) → length saved ≡ 8 →
    length (saved_after l saved k) ≡ 8
saved_kept l saved change.Keep h = h
saved_kept l saved (change.Save a) h = length-set saved (a.level - 1) a.node ∙ h
saved_kept l saved change.Clear h = length_below saved l 0 ∙ h
saved_kept l saved change.Begin h = h

-- what holds of every slot of a list, after one slot was written from what it held
slots_kept :
    {A : Type 0} (P : A → Type 0) (f : A → A) (l : List A) (k n : ℕ) (d : A) →
    ((x : A) → P x → P (f x)) →
    ((i : ℕ) → i < n → P (get_or l i d)) →
    (i : ℕ) → i < n → P (get_or (set l k (f (get_or l k d))) i d)
slots_kept {A} P f l k n d step all i h =
    set_either P l k i (f (get_or l k d)) d (λ e. step (get_or l k d) (rw (sym e) (all i h))) (all i h)

pub applied_sized : (q : Queue) → Sized q → (p : ℕ) (d : Decision) → Sized (applied q p d)
applied_sized q S p d =
    let k = node_of d.effect in
    let f = changed q.level_count (q.node_count + 1) (p + 1) (q.clock + 1) d.effect in
    let g : Processor → Processor = λ c. processor_after q.level_count (q.clock + 1) c d in
    record {
      nodes_long = length-set q.nodes k (f (node_at q k)) ∙ S.nodes_long;
      processors_long = length-set q.processors p (g (processor_at q p)) ∙ S.processors_long;
      forward_long =
          slots_kept (λ n. length n.forward ≡ 8) f q.nodes k node_slots (fresh_node 0)
          (forward_kept q.level_count (q.node_count + 1) (p + 1) (q.clock + 1) d.effect)
          S.forward_long;
      locks_long =
          slots_kept (λ n. length n.level_locks ≡ 8) f q.nodes k node_slots (fresh_node 0)
          (locks_kept q.level_count (q.node_count + 1) (p + 1) (q.clock + 1) d.effect)
          S.locks_long;
      saved_long =
          slots_kept (λ c. length c.saved ≡ 8) g q.processors p max_processors fresh_processor
          (λ c h. saved_kept q.level_count c.saved d.change h) S.saved_long;
    }
