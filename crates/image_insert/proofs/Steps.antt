-- What each stage of an Insert stores is what the definition says. Assumes nothing.
use mathlib.Core.Path.{◌≡◌, refl, ◌∙◌, ap}
use mathlib.Core.List.{List, [], ◌∷◌, ◌++◌}
use Prim.Native.Nat.{ℕ, ◌+◌, ◌*◌, ◌-◌, ◌≤◌, ◌<◌}
use native.Mathlib.Omega.{arith}
use lib.ListN.{get_or}
use borrow.Author.Tests.{lt-ltb, le-ltb}
use Rattle.record.specs.declared.stages.Seek.TheVariants as seek
use Rattle.record.specs.declared.stages.Insert.TheVariants as ins
use Rattle.record.specs.declared.stages.Stage.TheVariants as stage
use Rattle.record.specs.Queues.{node_at, processor_at}
use Rattle.record.specs.Stages.{place}
use Rattle.image.specs.Numbers.{number32}
use Rattle.image.specs.Pieces.{processor_image}
use Rattle.rules.specs.declared.answers.Answer.{Answer}
use Rattle.rules.specs.declared.answers.Answer.TheVariants as ans
use Rattle.rules.specs.declared.answers.Deed.TheVariants as deed
use Rattle.rules.specs.declared.answers.Entry.{Entry}
use Rattle.rules.specs.declared.decisions.Effect.TheVariants as eff
use Rattle.rules.specs.Calls.{entry_of, step_view_of}
use Rattle.rules.specs.Decide.{moved, answers}
use Rattle.image.specs.Puts.{puts, four, clears, rests}
use Rattle.image.specs.Image.{queue_in}
use Rattle.image_parts.specs.Given.{Stepped}
use Rattle.image_parts.specs.Reads.{entry_in}
use Rattle.image_parts.specs.Ready.{Placed, Owned}
use Rattle.image_parts.proofs.Pieces.{moves, put_forward, put_lock, put_stamp, put_idle}
use Rattle.image.proofs.Sizes.{sized_in}
use Rattle.image_parts.proofs.Readings.{mine, onward, arm, clock_is, levels_is, clears_below}
use Rattle.image_parts.proofs.Readings.{own_is, next_is, height_is, up_is, mine_is, own_low}
use Rattle.image_parts.proofs.Readings.{entry_is, fits_below}

-- I1
module _ (b : List ℕ) (base p : ℕ) (r : Placed b base p 6) (after : List ℕ) (answer : Answer) where
  pub copies :
      after ≡ puts
      (puts (puts b 0 (four 3 (number32 b 3 + 1))) (base + 41 * mine b p 4)
      ((mine b p 7 - 1, onward b base p) ∷ [])) (7 + 26 * p) ((5, 7) ∷ []) →
      answer ≡ ans.Moved →
      Stepped b p after answer
  unfolding processor_image
  copies e f =
      let q = queue_in b in
      let c = processor_at q p in
      let a = place (mine b p 6) (mine b p 7) in
      let k = mine b p 7 - 1 in
      let s = step_view_of q c a in
      let k< : k < 8 = omega (arith, r.level_high, r.level_low) in
      arm b base p 6 r.sound r.start r.nodes_high r.processors_high r.low r.few
      r.early r.tagged (stage.Insert (ins.Copy a)) refl refl
      (moved s (eff.SetForward (place (mine b p 4) (mine b p 7)) (onward b base p))
      (stage.Insert (ins.Link a))) (rw (next_is b base p 6 r, own_is b base p 6 r) refl)
      ((k, onward b base p) ∷ []) ((5, 7) ∷ []) (omega (arith, r.own_high, r.nodes_high))
      (omega arith, tt) (omega arith, tt)
      (put_forward (node_at q (mine b p 4)) (mine b p 7 - 1) (onward b base p) [] k<
      ((sized_in b).forward_long (mine b p 4) (omega (arith, r.own_high, r.nodes_high))))
      refl after e answer f

-- I2
module _ (b : List ℕ) (base p : ℕ) (r : Placed b base p 7) (after : List ℕ) (answer : Answer) where
  pub links :
      after ≡ puts
      (puts (puts b 0 (four 3 (number32 b 3 + 1))) (base + 41 * mine b p 6)
      ((mine b p 7 - 1, mine b p 4) ∷ [])) (7 + 26 * p) ((5, 8) ∷ []) →
      answer ≡ ans.Moved →
      Stepped b p after answer
  unfolding processor_image
  links e f =
      let q = queue_in b in
      let c = processor_at q p in
      let a = place (mine b p 6) (mine b p 7) in
      let k = mine b p 7 - 1 in
      let s = step_view_of q c a in
      let k< : k < 8 = omega (arith, r.level_high, r.level_low) in
      arm b base p 7 r.sound r.start r.nodes_high r.processors_high r.low r.few
      r.early r.tagged (stage.Insert (ins.Link a)) refl refl
      (moved s (eff.SetForward a (mine b p 4)) (stage.Insert (ins.FreeLevel a)))
      (rw (own_is b base p 7 r) refl)
      ((k, mine b p 4) ∷ []) ((5, 8) ∷ []) (omega (arith, r.node_low)) (omega arith, tt)
      (omega arith, tt)
      (put_forward (node_at q (mine b p 6)) (mine b p 7 - 1) (mine b p 4) [] k<
      ((sized_in b).forward_long (mine b p 6) (omega (arith, r.node_low)))) refl after e answer
      f

-- I3
module _ (b : List ℕ) (base p : ℕ) (r : Placed b base p 8) (after : List ℕ) (answer : Answer) where
  pub frees_up :
      mine b p 7 < get_or b (base + 41 * mine b p 4 + 35) 0 →
      after ≡ puts
      (puts (puts b 0 (four 3 (number32 b 3 + 1))) (base + 41 * mine b p 6)
      ((8 + (mine b p 7 - 1), 0) ∷ [])) (7 + 26 * p)
      ((5, 2) ∷ (6, mine b p (9 + mine b p 7)) ∷ (7, mine b p 7 + 1) ∷ []) →
      answer ≡ ans.Moved →
      Stepped b p after answer
  unfolding processor_image
  frees_up h e f =
      let q = queue_in b in
      let c = processor_at q p in
      let a = place (mine b p 6) (mine b p 7) in
      let k = mine b p 7 - 1 in
      let s = step_view_of q c a in
      let k< : k < 8 = omega (arith, r.level_high, r.level_low) in
      arm b base p 8 r.sound r.start r.nodes_high r.processors_high r.low r.few
      r.early r.tagged (stage.Insert (ins.FreeLevel a)) refl refl
      (moved s (eff.FreeLevel a)
      (stage.Insert
      (ins.Seek (seek.Approach (place (mine b p (9 + mine b p 7)) (mine b p 7 + 1))))))
      (rw (
        height_is b base p 8 r,
        lt-ltb _ _ h,
        up_is b base p 8 r
            (omega (arith, r.height_high)),
      ) refl)
      ((8 + k, 0) ∷ []) ((5, 2) ∷ (6, mine b p (9 + mine b p 7)) ∷ (7, mine b p 7 + 1) ∷ [])
      (omega (arith, r.node_low)) (omega arith, tt)
      (omega arith, (omega arith, (omega arith, tt)))
      (put_lock (node_at q (mine b p 6)) (mine b p 7 - 1) 0 [] k<
      ((sized_in b).locks_long (mine b p 6) (omega (arith, r.node_low)))) refl after e answer f

  pub frees_last :
      get_or b (base + 41 * mine b p 4 + 35) 0 ≤ mine b p 7 →
      after ≡ puts
      (puts (puts b 0 (four 3 (number32 b 3 + 1))) (base + 41 * mine b p 6)
      ((8 + (mine b p 7 - 1), 0) ∷ [])) (7 + 26 * p) ((5, 9) ∷ (6, 0) ∷ (7, 0) ∷ []) →
      answer ≡ ans.Moved →
      Stepped b p after answer
  unfolding processor_image
  frees_last h e f =
      let q = queue_in b in
      let c = processor_at q p in
      let a = place (mine b p 6) (mine b p 7) in
      let k = mine b p 7 - 1 in
      let s = step_view_of q c a in
      let k< : k < 8 = omega (arith, r.level_high, r.level_low) in
      arm b base p 8 r.sound r.start r.nodes_high r.processors_high r.low r.few
      r.early r.tagged (stage.Insert (ins.FreeLevel a)) refl refl
      (moved s (eff.FreeLevel a) (stage.Insert ins.FreeNode))
      (rw (height_is b base p 8 r, le-ltb _ _ h) refl)
      ((8 + k, 0) ∷ []) ((5, 9) ∷ (6, 0) ∷ (7, 0) ∷ []) (omega (arith, r.node_low))
      (omega arith, tt) (omega arith, (omega arith, (omega arith, tt)))
      (put_lock (node_at q (mine b p 6)) (mine b p 7 - 1) 0 [] k<
      ((sized_in b).locks_long (mine b p 6) (omega (arith, r.node_low)))) refl after e answer f

-- I5
module _ (b : List ℕ) (base p : ℕ) (r : Owned b base p 10) (after : List ℕ) (answer : Answer) where
  pub stamps :
      after ≡ puts
      (puts (puts b 0 (four 3 (number32 b 3 + 1))) (base + 41 * mine b p 4)
      ((18, 1) ∷ four 19 (number32 b 3 + 1))) (7 + 26 * p) (clears (get_or b 2 0) ++ rests) →
      answer ≡ ans.Did deed.Inserted (entry_in b (base + 41 * mine b p 4)) →
      Stepped b p after answer
  stamps e f =
      let q = queue_in b in
      let c = processor_at q p in
      let g = stage.Insert ins.Stamp in
      let E = entry_in b (base + 41 * mine b p 4) in
      arm b base p 10 r.sound r.start r.nodes_high r.processors_high r.low
      r.few r.early r.tagged g refl refl
      (answers (eff.Stamp (mine b p 4)) (ans.Did deed.Inserted E))
      (ap (λ (x : ℕ). answers (eff.Stamp x) (ans.Did deed.Inserted (entry_of (node_at q x))))
      (mine_is b base p 10 r)
      ∙ ap (λ (x : Entry). answers (eff.Stamp (mine b p 4)) (ans.Did deed.Inserted x))
      (entry_is b base r.start r.nodes_high (mine b p 4) (own_low b base p 10 r)))
      ((18, 1) ∷ four 19 (number32 b 3 + 1)) (clears (get_or b 2 0) ++ rests) (own_low b base p 10 r)
      (omega arith, (omega arith, (omega arith, (omega arith, (omega arith, tt)))))
      (clears_below (get_or b 2 0) rests r.levels_high (fits_below 26 rests refl))
      (rw (clock_is b) (put_stamp (node_at q (mine b p 4)) (number32 b 3 + 1)))
      (rw (levels_is b)
      (put_idle (moves c g c.saved) (get_or b 2 0) r.levels_high
      ((sized_in b).saved_long p r.few) refl))
      after e answer f
