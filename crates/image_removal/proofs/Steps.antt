-- What each stage of a removal stores is what the definition says. Assumes nothing.
use Rattle.std.specs.Prelude.{Some, None}
use mathlib.Core.Path.{◌≡◌, refl, sym, ◌∙◌, ap}
use mathlib.Core.Bool.{Bool, true, false, cond}
use mathlib.Core.List.{List, [], ◌∷◌, ◌++◌}
use Prim.Native.Nat.{ℕ, ◌+◌, ◌*◌, ◌-◌, ◌≤◌, ◌<◌}
use native.Mathlib.Omega.{arith}
use lib.Dec.{eqb}
use lib.ListN.{get_or}
use borrow.Author.Tests.{le-leb, lt-leb}
use Rattle.record.specs.declared.nodes.Node.{Node}
use Rattle.record.specs.declared.queues.Processor.{Processor}
use Rattle.record.specs.declared.stages.Seek.TheVariants as seek
use Rattle.record.specs.declared.stages.Removal.{Removal}
use Rattle.record.specs.declared.stages.Removal.TheVariants as rem
use Rattle.record.specs.declared.stages.Job.TheVariants as jobs
use Rattle.record.specs.declared.stages.Stage.{Stage}
use Rattle.record.specs.Nodes.{forward_at, lock_at}
use Rattle.record.specs.Queues.{node_at, processor_at, saved_at}
use Rattle.record.specs.Stages.{place, job_number}
use Rattle.image.specs.Tags.{job_of}
use Rattle.image.specs.Numbers.{number32}
use Rattle.image.specs.Pieces.{processor_image}
use Rattle.rules.specs.declared.answers.Answer.{Answer}
use Rattle.rules.specs.declared.answers.Answer.TheVariants as ans
use Rattle.rules.specs.declared.answers.Deed.TheVariants as deed
use Rattle.rules.specs.declared.answers.Entry.{Entry}
use Rattle.rules.specs.declared.decisions.Effect.TheVariants as eff
use Rattle.rules.specs.Calls.{step_view_of}
use Rattle.rules.specs.Decide.{moved, waits, answers, removing, attempt, node_tried, own_tried}
use Rattle.rules.specs.Decide.{handing}
use Rattle.image.specs.Puts.{puts, four, piece, clears, rests}
use Rattle.image.specs.Image.{queue_in}
use Rattle.image_parts.specs.Given.{Stepped}
use Rattle.image_parts.specs.Reads.{entry_in}
use Rattle.image.proofs.Fields.{node_is, processor_is, eight_at}
use Rattle.image_parts.specs.Ready.{Placed, Owned}
use Rattle.image_parts.proofs.Pieces.{moves, put_forward, put_lock, put_holder}
use Rattle.image_parts.proofs.Pieces.{put_retired, put_idle_job}
use Rattle.image.proofs.Puts.{puts_append}
use Rattle.image.proofs.Sizes.{sized_in}
use Rattle.image_parts.proofs.Readings.{mine, job_at, arm, clock_is, levels_is, fits_below}
use Rattle.image_parts.proofs.Readings.{ends_below, own_is, mine_is, own_low, entry_is}

-- a stage of processor p's removal, whatever its job
abbrev removal : List ℕ → ℕ → Removal → Stage
removal b p r = removing (job_at b p) r

-- what the stages of a removal read besides
module _ (b : List ℕ) (base p tag : ℕ) (r : Placed b base p tag) where
  own_lock_is : lock_at (node_at (queue_in b) (processor_at (queue_in b) p).own) (mine b p 7)
      ≡ get_or b (base + 41 * mine b p 4 + (8 + (mine b p 7 - 1))) 0
  own_lock_is =
      let k = mine b p 7 - 1 in
      ap (λ (x : ℕ). lock_at (node_at (queue_in b) x) (mine b p 7)) (own_is b base p tag r)
      ∙ ap (λ (n : Node). get_or n.level_locks k 0)
      (node_is b base r.start r.nodes_high (mine b p 4)
      (omega (arith, r.own_high, r.nodes_high)))
      ∙ eight_at (piece b (base + 41 * mine b p 4)) 8 k (omega (arith, r.level_low, r.level_high))

  onward_is : forward_at (node_at (queue_in b) (processor_at (queue_in b) p).own) (mine b p 7)
      ≡ get_or b (base + 41 * mine b p 4 + (mine b p 7 - 1)) 0
  onward_is =
      let k = mine b p 7 - 1 in
      let z : 0 + k ≡ k = omega arith in
      ap (λ (x : ℕ). forward_at (node_at (queue_in b) x) (mine b p 7)) (own_is b base p tag r)
      ∙ ap (λ (n : Node). get_or n.forward k 0)
      (node_is b base r.start r.nodes_high (mine b p 4)
      (omega (arith, r.own_high, r.nodes_high)))
      ∙ eight_at (piece b (base + 41 * mine b p 4)) 0 k (omega (arith, r.level_low, r.level_high))
      ∙ ap (piece b (base + 41 * mine b p 4)) z

  down_is : saved_at (processor_at (queue_in b) p) (mine b p 7 - 1)
      ≡ mine b p (9 + (mine b p 7 - 1 - 1))
  down_is =
      ap (λ (c : Processor). get_or c.saved (mine b p 7 - 1 - 1) 0)
      (processor_is b p r.processors_high r.low)
      ∙ eight_at (piece b (7 + 26 * p)) 9 (mine b p 7 - 1 - 1)
      (omega (arith, r.level_low, r.level_high))

module _ (b : List ℕ) (base p tag : ℕ) (r : Owned b base p tag) where
  tall_is : (node_at (queue_in b) (processor_at (queue_in b) p).own).height
      ≡ get_or b (base + 41 * mine b p 4 + 35) 0
  tall_is =
      ap (λ (x : ℕ). (node_at (queue_in b) x).height) (mine_is b base p tag r)
      ∙ ap (λ (n : Node). n.height)
      (node_is b base r.start r.nodes_high (mine b p 4) (own_low b base p tag r))

  holder_is : (node_at (queue_in b) (processor_at (queue_in b) p).own).node_lock
      ≡ get_or b (base + 41 * mine b p 4 + 16) 0
  holder_is =
      ap (λ (x : ℕ). (node_at (queue_in b) x).node_lock) (mine_is b base p tag r)
      ∙ ap (λ (n : Node). n.node_lock)
      (node_is b base r.start r.nodes_high (mine b p 4) (own_low b base p tag r))

  top_is : saved_at (processor_at (queue_in b) p) (get_or b (base + 41 * mine b p 4 + 35) 0)
      ≡ mine b p (9 + (get_or b (base + 41 * mine b p 4 + 35) 0 - 1))
  top_is =
      let k = get_or b (base + 41 * mine b p 4 + 35) 0 - 1 in
      ap (λ (c : Processor). get_or c.saved k 0) (processor_is b p r.processors_high r.low)
      ∙ eight_at (piece b (7 + 26 * p)) 9 k (omega (arith, r.height_low, r.height_high))

-- L1
module _ (b : List ℕ) (base p : ℕ) (r : Owned b base p 15) (after : List ℕ) (answer : Answer) where
  pub holds_node_lock :
      attempt (get_or b (base + 41 * mine b p 4 + 16) 0) ≡ None →
      after ≡ puts
      (puts (puts b 0 (four 3 (number32 b 3 + 1))) (base + 41 * mine b p 4) ((16, p + 1) ∷ []))
      (7 + 26 * p)
      ((5, 16) ∷ (6, mine b p (9 + (get_or b (base + 41 * mine b p 4 + 35) 0 - 1))) ∷
      (7, get_or b (base + 41 * mine b p 4 + 35) 0) ∷ []) →
      answer ≡ ans.Moved →
      Stepped b p after answer
  unfolding processor_image
  holds_node_lock h e f =
      let q = queue_in b in
      let c = processor_at q p in
      let s = step_view_of q c (place 0 1) in
      arm b base p 15 r.sound r.start r.nodes_high r.processors_high r.low
      r.few r.early r.tagged (removal b p (rem.HoldNode)) refl refl
      (moved s (eff.HoldNode (mine b p 4))
      (removal b p
      (rem.Seek
      (seek.Approach
      (place (mine b p (9 + (get_or b (base + 41 * mine b p 4 + 35) 0 - 1)))
      (get_or b (base + 41 * mine b p 4 + 35) 0))))))
      (ap (node_tried (job_at b p) s) (ap attempt (holder_is b base p 15 r) ∙ h)
      ∙ rw (tall_is b base p 15 r, top_is b base p 15 r, mine_is b base p 15 r) refl)
      ((16, p + 1) ∷ [])
      ((5, 16) ∷ (6, mine b p (9 + (get_or b (base + 41 * mine b p 4 + 35) 0 - 1))) ∷
      (7, get_or b (base + 41 * mine b p 4 + 35) 0) ∷ []) (own_low b base p 15 r)
      (omega arith, tt) (omega arith, (omega arith, (omega arith, tt)))
      (put_holder (node_at q (mine b p 4)) (p + 1)) (refl) after e answer f

  pub node_waits :
      (x : ℕ) → attempt (get_or b (base + 41 * mine b p 4 + 16) 0) ≡ Some x →
      after ≡ puts (puts b 0 (four 3 (number32 b 3 + 1))) (7 + 26 * p) ([]) →
      answer ≡ ans.Waits x →
      Stepped b p after answer
  unfolding processor_image
  node_waits x h e f =
      let q = queue_in b in
      let c = processor_at q p in
      let s = step_view_of q c (place 0 1) in
      arm b base p 15 r.sound r.start r.nodes_high r.processors_high r.low
      r.few r.early r.tagged (removal b p (rem.HoldNode)) refl refl
      (waits s (removal b p (rem.HoldNode)) x)
      (ap (node_tried (job_at b p) s) (ap attempt (holder_is b base p 15 r) ∙ h))
      ([]) ([]) (omega arith) tt tt
      (refl) (refl) after e answer f

-- L2
module _ (b : List ℕ) (base p : ℕ) (r : Placed b base p 20) (after : List ℕ) (answer : Answer) where
  pub holds_own_lock :
      attempt (get_or b (base + 41 * mine b p 4 + (8 + (mine b p 7 - 1))) 0) ≡ None →
      after ≡ puts
      (puts (puts b 0 (four 3 (number32 b 3 + 1))) (base + 41 * mine b p 4)
      ((8 + (mine b p 7 - 1), p + 1) ∷ [])) (7 + 26 * p) ((5, 21) ∷ []) →
      answer ≡ ans.Moved →
      Stepped b p after answer
  unfolding processor_image
  holds_own_lock h e f =
      let q = queue_in b in
      let c = processor_at q p in
      let a = place (mine b p 6) (mine b p 7) in
      let k = mine b p 7 - 1 in
      let s = step_view_of q c a in
      let k< : k < 8 = omega (arith, r.level_high, r.level_low) in
      arm b base p 20 r.sound r.start r.nodes_high r.processors_high r.low
      r.few r.early r.tagged (removal b p (rem.HoldOwn a)) refl refl
      (moved s (eff.HoldLevel (place (mine b p 4) (mine b p 7))) (removal b p (rem.Unlink a)))
      (ap (own_tried (job_at b p) s a) (ap attempt (own_lock_is b base p 20 r) ∙ h)
      ∙ rw (own_is b base p 20 r) refl)
      ((8 + k, p + 1) ∷ []) ((5, 21) ∷ []) (omega (arith, r.own_high, r.nodes_high))
      (omega arith, tt) (omega arith, tt)
      (put_lock (node_at q (mine b p 4)) (mine b p 7 - 1) (p + 1) [] k<
      ((sized_in b).locks_long (mine b p 4) (omega (arith, r.own_high, r.nodes_high))))
      (refl) after e answer f

  pub own_waits :
      (x : ℕ) →
      attempt (get_or b (base + 41 * mine b p 4 + (8 + (mine b p 7 - 1))) 0) ≡ Some x →
      after ≡ puts (puts b 0 (four 3 (number32 b 3 + 1))) (7 + 26 * p) ([]) →
      answer ≡ ans.Waits x →
      Stepped b p after answer
  unfolding processor_image
  own_waits x h e f =
      let q = queue_in b in
      let c = processor_at q p in
      let a = place (mine b p 6) (mine b p 7) in
      let k = mine b p 7 - 1 in
      let s = step_view_of q c a in
      let k< : k < 8 = omega (arith, r.level_high, r.level_low) in
      arm b base p 20 r.sound r.start r.nodes_high r.processors_high r.low
      r.few r.early r.tagged (removal b p (rem.HoldOwn a)) refl refl
      (waits s (removal b p (rem.HoldOwn a)) x)
      (ap (own_tried (job_at b p) s a) (ap attempt (own_lock_is b base p 20 r) ∙ h))
      ([]) ([]) (omega arith) tt tt
      (refl) (refl) after e answer f

-- L3
module _ (b : List ℕ) (base p : ℕ) (r : Placed b base p 21) (after : List ℕ) (answer : Answer) where
  pub unlinks :
      after ≡ puts
      (puts (puts b 0 (four 3 (number32 b 3 + 1))) (base + 41 * mine b p 6)
      ((mine b p 7 - 1, get_or b (base + 41 * mine b p 4 + (mine b p 7 - 1)) 0) ∷ []))
      (7 + 26 * p) ((5, 22) ∷ []) →
      answer ≡ ans.Moved →
      Stepped b p after answer
  unfolding processor_image
  unlinks e f =
      let q = queue_in b in
      let c = processor_at q p in
      let a = place (mine b p 6) (mine b p 7) in
      let k = mine b p 7 - 1 in
      let s = step_view_of q c a in
      let k< : k < 8 = omega (arith, r.level_high, r.level_low) in
      arm b base p 21 r.sound r.start r.nodes_high r.processors_high r.low
      r.few r.early r.tagged (removal b p (rem.Unlink a)) refl refl
      (moved s (eff.SetForward a (get_or b (base + 41 * mine b p 4 + (mine b p 7 - 1)) 0))
      (removal b p (rem.LeadBack a))) (rw (onward_is b base p 21 r) refl)
      ((k, get_or b (base + 41 * mine b p 4 + (mine b p 7 - 1)) 0) ∷ []) ((5, 22) ∷ [])
      (omega (arith, r.node_low)) (omega arith, tt) (omega arith, tt)
      (put_forward (node_at q (mine b p 6)) (mine b p 7 - 1)
      (get_or b (base + 41 * mine b p 4 + (mine b p 7 - 1)) 0) [] k<
      ((sized_in b).forward_long (mine b p 6) (omega (arith, r.node_low)))) (refl) after e
      answer f

-- L4
module _ (b : List ℕ) (base p : ℕ) (r : Placed b base p 22) (after : List ℕ) (answer : Answer) where
  pub leads_back :
      after ≡ puts
      (puts (puts b 0 (four 3 (number32 b 3 + 1))) (base + 41 * mine b p 4)
      ((mine b p 7 - 1, mine b p 6) ∷ [])) (7 + 26 * p) ((5, 23) ∷ []) →
      answer ≡ ans.Moved →
      Stepped b p after answer
  unfolding processor_image
  leads_back e f =
      let q = queue_in b in
      let c = processor_at q p in
      let a = place (mine b p 6) (mine b p 7) in
      let k = mine b p 7 - 1 in
      let s = step_view_of q c a in
      let k< : k < 8 = omega (arith, r.level_high, r.level_low) in
      arm b base p 22 r.sound r.start r.nodes_high r.processors_high r.low
      r.few r.early r.tagged (removal b p (rem.LeadBack a)) refl refl
      (moved s (eff.SetForward (place (mine b p 4) (mine b p 7)) (mine b p 6))
      (removal b p (rem.FreeOwn a))) (rw (own_is b base p 22 r) refl)
      ((k, mine b p 6) ∷ []) ((5, 23) ∷ []) (omega (arith, r.own_high, r.nodes_high))
      (omega arith, tt) (omega arith, tt)
      (put_forward (node_at q (mine b p 4)) (mine b p 7 - 1) (mine b p 6) [] k<
      ((sized_in b).forward_long (mine b p 4) (omega (arith, r.own_high, r.nodes_high))))
      (refl) after e answer f

-- L5
module _ (b : List ℕ) (base p : ℕ) (r : Placed b base p 23) (after : List ℕ) (answer : Answer) where
  pub frees_own :
      after ≡ puts
      (puts (puts b 0 (four 3 (number32 b 3 + 1))) (base + 41 * mine b p 4)
      ((8 + (mine b p 7 - 1), 0) ∷ [])) (7 + 26 * p) ((5, 24) ∷ []) →
      answer ≡ ans.Moved →
      Stepped b p after answer
  unfolding processor_image
  frees_own e f =
      let q = queue_in b in
      let c = processor_at q p in
      let a = place (mine b p 6) (mine b p 7) in
      let k = mine b p 7 - 1 in
      let s = step_view_of q c a in
      let k< : k < 8 = omega (arith, r.level_high, r.level_low) in
      arm b base p 23 r.sound r.start r.nodes_high r.processors_high r.low
      r.few r.early r.tagged (removal b p (rem.FreeOwn a)) refl refl
      (moved s (eff.FreeLevel (place (mine b p 4) (mine b p 7))) (removal b p (rem.FreeLevel a)))
      (rw (own_is b base p 23 r) refl)
      ((8 + k, 0) ∷ []) ((5, 24) ∷ []) (omega (arith, r.own_high, r.nodes_high))
      (omega arith, tt) (omega arith, tt)
      (put_lock (node_at q (mine b p 4)) (mine b p 7 - 1) 0 [] k<
      ((sized_in b).locks_long (mine b p 4) (omega (arith, r.own_high, r.nodes_high))))
      (refl) after e answer f

-- L6
module _ (b : List ℕ) (base p : ℕ) (r : Placed b base p 24) (after : List ℕ) (answer : Answer) where
  pub frees_last :
      mine b p 7 ≤ 1 →
      after ≡ puts
      (puts (puts b 0 (four 3 (number32 b 3 + 1))) (base + 41 * mine b p 6)
      ((8 + (mine b p 7 - 1), 0) ∷ [])) (7 + 26 * p) ((5, 25) ∷ (6, 0) ∷ (7, 0) ∷ []) →
      answer ≡ ans.Moved →
      Stepped b p after answer
  unfolding processor_image
  frees_last h e f =
      let q = queue_in b in
      let c = processor_at q p in
      let a = place (mine b p 6) (mine b p 7) in
      let k = mine b p 7 - 1 in
      let s = step_view_of q c a in
      let k< : k < 8 = omega (arith, r.level_high, r.level_low) in
      arm b base p 24 r.sound r.start r.nodes_high r.processors_high r.low
      r.few r.early r.tagged (removal b p (rem.FreeLevel a)) refl refl
      (moved s (eff.FreeLevel a) (removal b p (rem.FreeNode))) (rw (le-leb _ _ h) refl)
      ((8 + k, 0) ∷ []) ((5, 25) ∷ (6, 0) ∷ (7, 0) ∷ []) (omega (arith, r.node_low))
      (omega arith, tt) (omega arith, (omega arith, (omega arith, tt)))
      (put_lock (node_at q (mine b p 6)) (mine b p 7 - 1) 0 [] k<
      ((sized_in b).locks_long (mine b p 6) (omega (arith, r.node_low)))) (refl) after e answer
      f

  pub frees_down :
      1 < mine b p 7 →
      after ≡ puts
      (puts (puts b 0 (four 3 (number32 b 3 + 1))) (base + 41 * mine b p 6)
      ((8 + (mine b p 7 - 1), 0) ∷ [])) (7 + 26 * p)
      ((5, 16) ∷ (6, mine b p (9 + ((mine b p 7 - 1) - 1))) ∷ (7, (mine b p 7 - 1)) ∷ []) →
      answer ≡ ans.Moved →
      Stepped b p after answer
  unfolding processor_image
  frees_down h e f =
      let q = queue_in b in
      let c = processor_at q p in
      let a = place (mine b p 6) (mine b p 7) in
      let k = mine b p 7 - 1 in
      let s = step_view_of q c a in
      let k< : k < 8 = omega (arith, r.level_high, r.level_low) in
      arm b base p 24 r.sound r.start r.nodes_high r.processors_high r.low
      r.few r.early r.tagged (removal b p (rem.FreeLevel a)) refl refl
      (moved s (eff.FreeLevel a)
      (removal b p
      (rem.Seek
      (seek.Approach (place (mine b p (9 + (mine b p 7 - 1 - 1))) (mine b p 7 - 1))))))
      (rw (lt-leb _ _ h, down_is b base p 24 r) refl)
      ((8 + k, 0) ∷ []) ((5, 16) ∷ (6, mine b p (9 + (k - 1))) ∷ (7, k) ∷ [])
      (omega (arith, r.node_low)) (omega arith, tt)
      (omega arith, (omega arith, (omega arith, tt)))
      (put_lock (node_at q (mine b p 6)) (mine b p 7 - 1) 0 [] k<
      ((sized_in b).locks_long (mine b p 6) (omega (arith, r.node_low)))) (refl) after e answer
      f

-- L8: what it tells, by the job's number
told : (n : ℕ) (e : Entry) →
    handing (job_of n) e ≡ ans.Did (cond (eqb n 0) deed.HandedOut deed.TakenBack) e
told n e = go (eqb n 0)
  where
    go : (t : Bool) →
        handing (cond t jobs.Deliver jobs.TakeBack) e
        ≡ ans.Did (cond t deed.HandedOut deed.TakenBack) e
    go true = refl
    go false = refl

module _ (b : List ℕ) (base p : ℕ) (r : Owned b base p 26) (after : List ℕ) (answer : Answer) where
  pub retires :
      after ≡ puts
      (puts
      (puts (puts b 0 (four 3 (number32 b 3 + 1))) (base + 41 * mine b p 4)
      ((36, 2) ∷ four 37 (number32 b 3 + 1))) (7 + 26 * p) (clears (get_or b 2 0) ++ rests))
      (7 + 26 * p) ((17, 0) ∷ []) →
      answer
      ≡ ans.Did (cond (eqb (mine b p 17) 0) deed.HandedOut deed.TakenBack)
      (entry_in b (base + 41 * mine b p 4)) →
      Stepped b p after answer
  retires e f =
      let q = queue_in b in
      let c = processor_at q p in
      let E = entry_in b (base + 41 * mine b p 4) in
      let l = get_or b 2 0 in
      arm b base p 26 r.sound r.start r.nodes_high r.processors_high r.low
      r.few r.early r.tagged (removal b p (rem.Retire)) refl refl
      (answers (eff.Retire (mine b p 4))
      (ans.Did (cond (eqb (mine b p 17) 0) deed.HandedOut deed.TakenBack) E))
      (rw (
        mine_is b base p 26 r,
        entry_is b base r.start r.nodes_high (mine b p 4) (own_low b base p 26 r),
      ) (ap (answers (eff.Retire (mine b p 4))) (told (mine b p 17) E)))
      ((36, 2) ∷ four 37 (number32 b 3 + 1)) ((clears l ++ rests) ++ ((17, 0) ∷ []))
      (own_low b base p 26 r) (fits_below 41 ((36, 2) ∷ four 37 (number32 b 3 + 1)) refl)
      (ends_below l ((17, 0) ∷ []) r.levels_high (omega arith, tt))
      (rw (clock_is b) (put_retired (node_at q (mine b p 4)) (number32 b 3 + 1)))
      (rw (levels_is b)
      (put_idle_job (moves c (removal b p (rem.Retire)) c.saved) l r.levels_high
      ((sized_in b).saved_long p r.few) (job_number (job_at b p)) refl)) after
      (e ∙ sym (puts_append _ (7 + 26 * p) (clears l ++ rests) ((17, 0) ∷ []))) answer f
