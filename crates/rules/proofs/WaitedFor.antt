-- On every reached record the processor that a waiting step names is busy, is not the caller, and
-- its stage says that it holds the lock. Assumes nothing.
use mathlib.Core.Path.{◌≡◌, refl, sym, ap, ◌∙◌, subst}
use mathlib.Core.Bool.{Bool, true, false}
use Prim.Native.Nat.{ℕ, suc, ◌<◌}
use native.Mathlib.Omega.{arith}
use lib.Dec.{ltb}
use borrow.Author.Tests.{ltb-true, ltb-false}
use Rattle.laws.proofs.Booleans.{no}
use Rattle.record.specs.declared.queues.Processor.{Processor}
use Rattle.record.specs.declared.queues.Queue.{Queue}
use Rattle.record.specs.declared.stages.Stage.{Stage}
use Rattle.record.specs.declared.stages.Stage.TheVariants as stage
use Rattle.record.specs.Queues.{fresh_queue, processor_at}
use Rattle.record.specs.Stages.{carried, is_idle}
use Rattle.rules.specs.Book.{Book, Open, nothing, inserting, walking, relaxing, seeking}
use Rattle.rules.specs.Book.{unlinking}
use Rattle.rules.specs.Calls.{idle_at}
use Rattle.rules.specs.Demand3.{WaitedFor, WaitsForABusyHolder}
use Rattle.rules.specs.Locks.{Lock, level, node, holder_of, holds_place, holds_own, holds_node}
use Rattle.rules.specs.Locks.{Claims, of_place, of_own, of_node}
use Rattle.rules.specs.Locks.{Asks, insert_place, removal_place, own_node, own_level}
use Rattle.rules.specs.Runs.{after_all}
use Rattle.rules.specs.Waits.{Holder}
use Rattle.rules.proofs.Concrete.{view_of}
use Rattle.rules.proofs.LockFacts.{locks_agree}
use Rattle.rules.proofs.Meaning.{sound_after}
use Rattle.rules.proofs.Move.{busy_at}
use Rattle.rules.proofs.Rel.{opens}
use Rattle.rules.proofs.Sound.{Sound}
use Rattle.rules.proofs.View.{View, key}
use Rattle.rules.proofs.Waits.{waits_for_the_holder}

-- the ways to claim a lock
claimed :
    (c : Processor) (l : Lock) {A : Type 0} →
    (holds_place c.stage ≡ true →
    l ≡ level (carried c.stage).place.node (carried c.stage).place.level → A) →
    (holds_own c.stage ≡ true → l ≡ level c.own (carried c.stage).place.level → A) →
    (holds_node c.stage ≡ true → l ≡ node c.own → A) →
    Claims c l → A
claimed c l by_place by_own by_node (of_place x) = by_place x refl
claimed c l by_place by_own by_node (of_own x) = by_own x refl
claimed c l by_place by_own by_node (of_node x) = by_node x refl

-- whoever claims a lock is busy
busy_by : (holds : Stage → Bool) → holds stage.Idle ≡ false → (g : Stage) → holds g ≡ true →
    is_idle g ≡ false
busy_by holds none stage.Idle h = no (sym none ∙ h)
busy_by holds none (stage.Insert i) h = refl
busy_by holds none (stage.Delete d) h = refl
busy_by holds none (stage.Relaxed d) h = refl
busy_by holds none (stage.Remove w d) h = refl
busy_by holds none (stage.Removal job r) h = refl

claims_busy : (c : Processor) (l : Lock) → Claims c l → is_idle c.stage ≡ false
claims_busy c l =
    claimed c l (λ x e. busy_by holds_place refl c.stage x)
    (λ x e. busy_by holds_own refl c.stage x) (λ x e. busy_by holds_node refl c.stage x)

-- and has something open
abbrev is_open : Open → Bool
is_open nothing = false
is_open (inserting t) = true
is_open (walking t) = true
is_open (relaxing t) = true
is_open (seeking w t) = true
is_open (unlinking job t) = true

open_busy : (g : Stage) (T t : ℕ) → is_idle g ≡ false → is_open (opens g T t) ≡ true
open_busy stage.Idle T t i = no (sym i)
open_busy (stage.Insert i) T t e = refl
open_busy (stage.Delete d) T t e = refl
open_busy (stage.Relaxed d) T t e = refl
open_busy (stage.Remove w d) T t e = refl
open_busy (stage.Removal job r) T t e = refl

abbrev is_node : Lock → Bool
is_node (level n i) = false
is_node (node n) = true

abbrev node_in : Lock → ℕ
node_in (level n i) = n
node_in (node n) = n

module _ (q : Queue) (b : Book) (S : Sound q b) (p : ℕ) where
  abbrev v : View
  v = view_of q

  abbrev c : Processor
  c = processor_at q p

  held_claimed : (h : ℕ) (l : Lock) → Asks c l → holder_of q l ≡ suc h → Claims (processor_at q h) l
  held_claimed h l (insert_place a e) x =
      (locks_agree q b S).held_is_claimed h a.node a.level
      (busy_at v S.until S.inv p _ e (omega arith)).low x
  held_claimed h l (removal_place job a e) x =
      (locks_agree q b S).held_is_claimed h a.node a.level
      (busy_at v S.until S.inv p _ e (omega arith)).low x
  held_claimed h l (own_node job e) x =
      (locks_agree q b S).node_held_is_claimed h c.own x
  held_claimed h l (own_level job a e) x =
      (locks_agree q b S).held_is_claimed h c.own a.level
      (busy_at v S.until S.inv p _ e (omega arith)).low x

  -- nobody asks for a lock that it claims: at L2 the place's key is below own's
  not_claimed : (l : Lock) → Asks c l → Claims c l → ⊥
  not_claimed l (insert_place a e) =
      claimed c l (λ x z. no (sym (ap holds_place e) ∙ x)) (λ x z. no (sym (ap holds_own e) ∙ x))
      (λ x z. no (ap is_node z))
  not_claimed l (removal_place job a e) =
      claimed c l (λ x z. no (sym (ap holds_place e) ∙ x)) (λ x z. no (sym (ap holds_own e) ∙ x))
      (λ x z. no (ap is_node z))
  not_claimed l (own_node job e) =
      claimed c l (λ x z. no (sym (ap is_node z))) (λ x z. no (sym (ap is_node z)))
      (λ x z. no (sym (ap holds_node e) ∙ x))
  not_claimed l (own_level job a e) =
      claimed c l
      (λ x z.
      let same : c.own ≡ a.node =
      ap node_in z ∙ ap (λ (g : Stage). (carried g).place.node) e in
      let less = (busy_at v S.until S.inv p _ e (omega arith)).place.before in
      let k : key v c.own ≡ key v a.node = ap (key v) same in
      omega (arith, less, k))
      (λ x z. no (sym (ap holds_own e) ∙ x)) (λ x z. no (ap is_node z))

  waited_for : (h : ℕ) → Holder q p h → WaitedFor q b p h
  waited_for h H =
      let says = held_claimed h H.lock H.asks H.holds in
      let busy = claims_busy (processor_at q h) H.lock says in
      record {
        holder = H;
        says = says;
        there = inside (ltb h q.processor_count) refl busy;
        busy = busy;
        begun = λ z. no
            (ap is_open (sym z ∙ S.rel.opened h)
            ∙ open_busy (processor_at q h).stage (processor_at q h).begin
            (v.tick (processor_at q h).own) busy);
        other = λ z. not_claimed H.lock H.asks
            (subst (λ (r : ℕ). Claims (processor_at q r) H.lock) z says);
      }
    where
      inside : (t : Bool) → ltb h q.processor_count ≡ t → idle_at q h ≡ false →
          h < q.processor_count
      inside true z i = ltb-true h q.processor_count z
      inside false z i = no (sym i ∙ S.confined h (ltb-false h q.processor_count z))

pub waits_for_a_busy_holder : WaitsForABusyHolder
waits_for_a_busy_holder P N L R cs b h p r e =
    let q = after_all (fresh_queue P N L) cs in
    waited_for q b (sound_after P N L R cs b h) p r (waits_for_the_holder q p r e)
