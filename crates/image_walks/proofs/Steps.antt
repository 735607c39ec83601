-- What each stage of a walk stores is what the definition says. Assumes nothing.
use Rattle.std.specs.Prelude.{Some, None}
use mathlib.Core.Path.{◌≡◌, refl, sym, ◌∙◌, ap}
use mathlib.Core.Bool.{Bool, true, false}
use mathlib.Core.List.{List, [], ◌∷◌}
use Prim.Native.Nat.{ℕ, ◌+◌, ◌*◌, ◌-◌, ◌≤◌, ◌<◌}
use native.Mathlib.Omega.{arith}
use lib.ListN.{get_or}
use borrow.Author.Tests.{le-leb, lt-leb}
use Rattle.record.specs.declared.stages.Insert.TheVariants as ins
use Rattle.record.specs.declared.stages.Removal.TheVariants as rem
use Rattle.record.specs.declared.stages.Seek.TheVariants as seek
use Rattle.record.specs.declared.stages.Stage.TheVariants as stage
use Rattle.record.specs.Keys.{key_before}
use Rattle.record.specs.Queues.{node_at, processor_at}
use Rattle.record.specs.Stages.{place}
use Rattle.rules.specs.declared.answers.Answer.{Answer}
use Rattle.rules.specs.declared.answers.Answer.TheVariants as ans
use Rattle.rules.specs.declared.decisions.Effect.TheVariants as eff
use Rattle.rules.specs.Calls.{step_view_of}
use Rattle.rules.specs.Decide.{moved, waits, saving, attempt, removing}
use Rattle.image.specs.Image.{queue_in}
use Rattle.image.specs.Numbers.{number32}
use Rattle.image.specs.Pieces.{processor_image}
use Rattle.image.specs.Puts.{puts, four}
use Rattle.image.proofs.Sizes.{sized_in}
use Rattle.image_parts.specs.Given.{Stepped}
use Rattle.image_parts.specs.Ready.{key_in, Placed, Owned}
use Rattle.image_parts.proofs.Pieces.{put_lock, put_holder}
use Rattle.image_parts.proofs.Readings.{mine, job_at, onward, arm, next_is, before_is}
use Rattle.image_parts.proofs.Readings.{place_lock_is, mine_is, own_low}
use Rattle.image_walks.specs.Walks.{search_tag, seek_tag}
use Rattle.image_walks.proofs.Tags.{
  searching,
  seeking,
  sought,
  after as left,
  search_tag_lem,
  approach_tag,
  take_tag,
  confirm_tag,
  release_tag,
  search_busy,
  seek_busy,
  search_goes,
  search_falls,
  search_ends,
  approach_goes,
  approach_ends,
  take_goes,
  take_stays,
  confirm_goes,
  confirm_ends,
  release_goes,
  search_moves,
  approach_moves,
  takes_next,
  confirms_next,
  releases_next,
  leaves,
  takes_again,
  search_saves,
  insert_leaves,
  removal_leaves,
}

-- Search
module _ (w : Bool) (b : List ℕ) (base p : ℕ) (r : Placed b base p (search_tag w)) (after : List ℕ)
    (answer : Answer) where
  pub search_ahead :
      true ≡ key_before (key_in b base (onward b base p)) (key_in b base (mine b p 4)) →
      after ≡ puts (puts b 0 (four 3 (number32 b 3 + 1))) (7 + 26 * p) ((6, onward b base p) ∷ []) →
      answer ≡ ans.Moved →
      Stepped b p after answer
  search_ahead h e f =
      let q = queue_in b in
      let c = processor_at q p in
      let j = job_at b p in
      let a = place (mine b p 6) (mine b p 7) in
      let s = step_view_of q c a in
      let k< : mine b p 7 - 1 < 8 = omega (arith, r.level_high, r.level_low) in
      arm b base p (search_tag w) r.sound r.start r.nodes_high r.processors_high
      r.low r.few
      r.early r.tagged (searching j w a) (search_tag_lem b p w)
      (search_busy j w a)
      (moved s eff.Keep (searching j w (place (onward b base p) (mine b p 7))))
      (search_goes (step_view_of q c) a j w (before_is b base p (search_tag w) r ∙ sym h)
      ∙ ap (λ (n : ℕ). moved s eff.Keep (searching j w (place n (mine b p 7))))
      (next_is b base p (search_tag w) r))
      [] ((6, onward b base p) ∷ []) (omega arith) tt (omega arith, tt)
      refl
      (search_moves c a j w (onward b base p)) after e answer f

  pub search_down :
      false ≡ key_before (key_in b base (onward b base p)) (key_in b base (mine b p 4)) →
      1 < mine b p 7 →
      after ≡ puts (puts b 0 (four 3 (number32 b 3 + 1))) (7 + 26 * p)
      ((9 + (mine b p 7 - 1), mine b p 6) ∷ (7, mine b p 7 - 1) ∷ []) →
      answer ≡ ans.Moved →
      Stepped b p after answer
  search_down h i e f =
      let q = queue_in b in
      let c = processor_at q p in
      let j = job_at b p in
      let a = place (mine b p 6) (mine b p 7) in
      let s = step_view_of q c a in
      let k< : mine b p 7 - 1 < 8 = omega (arith, r.level_high, r.level_low) in
      arm b base p (search_tag w) r.sound r.start r.nodes_high r.processors_high
      r.low r.few
      r.early r.tagged (searching j w a) (search_tag_lem b p w)
      (search_busy j w a)
      (saving s a (searching j w (place (mine b p 6) (mine b p 7 - 1))))
      (search_falls (step_view_of q c) a j w (before_is b base p (search_tag w) r ∙ sym h)
      (lt-leb _ _ i))
      [] ((9 + (mine b p 7 - 1), mine b p 6) ∷ (7, mine b p 7 - 1) ∷ []) (omega arith) tt
      (omega arith, (omega arith, tt))
      refl
      (search_saves c a j ((sized_in b).saved_long p r.few) (mine b p 7 - 1) (mine b p 6) k< w
      (mine b p 7 - 1)) after e answer f

module _ (b : List ℕ) (base p : ℕ) (r : Placed b base p 1) (after : List ℕ) (answer : Answer) where
  pub insert_searched_lem :
      false ≡ key_before (key_in b base (onward b base p)) (key_in b base (mine b p 4)) →
      mine b p 7 ≤ 1 →
      after ≡ puts (puts b 0 (four 3 (number32 b 3 + 1))) (7 + 26 * p)
      ((9 + (mine b p 7 - 1), mine b p 6) ∷ (5, 2) ∷ []) →
      answer ≡ ans.Moved →
      Stepped b p after answer
  insert_searched_lem h i e f =
      let q = queue_in b in
      let c = processor_at q p in
      let j = job_at b p in
      let a = place (mine b p 6) (mine b p 7) in
      let s = step_view_of q c a in
      let k< : mine b p 7 - 1 < 8 = omega (arith, r.level_high, r.level_low) in
      arm b base p 1 r.sound r.start r.nodes_high r.processors_high r.low r.few
      r.early r.tagged (searching j false a) refl refl
      (saving s a (left j false a))
      (search_ends (step_view_of q c) a j false (before_is b base p 1 r ∙ sym h) (le-leb _ _ i))
      [] ((9 + (mine b p 7 - 1), mine b p 6) ∷ (5, 2) ∷ []) (omega arith) tt
      (omega arith, (omega arith, tt))
      refl
      (insert_leaves c a j ((sized_in b).saved_long p r.few) (mine b p 7 - 1) (mine b p 6) k<)
      after e answer f

module _ (b : List ℕ) (base p : ℕ) (r : Placed b base p 14) (after : List ℕ) (answer : Answer) where
  pub removal_searched_lem :
      false ≡ key_before (key_in b base (onward b base p)) (key_in b base (mine b p 4)) →
      mine b p 7 ≤ 1 →
      after ≡ puts (puts b 0 (four 3 (number32 b 3 + 1))) (7 + 26 * p)
      ((9 + (mine b p 7 - 1), mine b p 6) ∷ (5, 15) ∷ (6, 0) ∷ (7, 0) ∷ []) →
      answer ≡ ans.Moved →
      Stepped b p after answer
  removal_searched_lem h i e f =
      let q = queue_in b in
      let c = processor_at q p in
      let j = job_at b p in
      let a = place (mine b p 6) (mine b p 7) in
      let s = step_view_of q c a in
      let k< : mine b p 7 - 1 < 8 = omega (arith, r.level_high, r.level_low) in
      arm b base p 14 r.sound r.start r.nodes_high r.processors_high r.low r.few
      r.early r.tagged (searching j true a) refl refl
      (saving s a (left j true a))
      (search_ends (step_view_of q c) a j true (before_is b base p 14 r ∙ sym h) (le-leb _ _ i))
      [] ((9 + (mine b p 7 - 1), mine b p 6) ∷ (5, 15) ∷ (6, 0) ∷ (7, 0) ∷ []) (omega arith) tt
      (omega arith, (omega arith, (omega arith, (omega arith, tt))))
      refl
      (removal_leaves c a j ((sized_in b).saved_long p r.few) (mine b p 7 - 1) (mine b p 6) k<)
      after e answer f

-- G1
module _ (w : Bool) (b : List ℕ) (base p : ℕ) (r : Placed b base p (seek_tag w)) (after : List ℕ)
    (answer : Answer) where
  pub approach_ahead :
      true ≡ key_before (key_in b base (onward b base p)) (key_in b base (mine b p 4)) →
      after ≡ puts (puts b 0 (four 3 (number32 b 3 + 1))) (7 + 26 * p) ((6, onward b base p) ∷ []) →
      answer ≡ ans.Moved →
      Stepped b p after answer
  approach_ahead h e f =
      let q = queue_in b in
      let c = processor_at q p in
      let j = job_at b p in
      let a = place (mine b p 6) (mine b p 7) in
      let s = step_view_of q c a in
      let k< : mine b p 7 - 1 < 8 = omega (arith, r.level_high, r.level_low) in
      arm b base p (seek_tag w) r.sound r.start r.nodes_high r.processors_high
      r.low r.few
      r.early r.tagged (seeking j w (seek.Approach a))
      (approach_tag b p w) (seek_busy j w (seek.Approach a))
      (moved s eff.Keep (seeking j w (seek.Approach (place (onward b base p) (mine b p 7)))))
      (approach_goes (step_view_of q c) a j w (before_is b base p (seek_tag w) r ∙ sym h)
      ∙ ap (λ (n : ℕ). moved s eff.Keep (seeking j w (seek.Approach (place n (mine b p 7)))))
      (next_is b base p (seek_tag w) r))
      [] ((6, onward b base p) ∷ []) (omega arith) tt (omega arith, tt)
      refl
      (approach_moves c a j w (onward b base p)) after e answer f

  pub approach_there :
      false ≡ key_before (key_in b base (onward b base p)) (key_in b base (mine b p 4)) →
      after ≡ puts (puts b 0 (four 3 (number32 b 3 + 1))) (7 + 26 * p) ((5, seek_tag w + 1) ∷ []) →
      answer ≡ ans.Moved →
      Stepped b p after answer
  approach_there h e f =
      let q = queue_in b in
      let c = processor_at q p in
      let j = job_at b p in
      let a = place (mine b p 6) (mine b p 7) in
      let s = step_view_of q c a in
      let k< : mine b p 7 - 1 < 8 = omega (arith, r.level_high, r.level_low) in
      arm b base p (seek_tag w) r.sound r.start r.nodes_high r.processors_high
      r.low r.few
      r.early r.tagged (seeking j w (seek.Approach a))
      (approach_tag b p w) (seek_busy j w (seek.Approach a))
      (moved s eff.Keep (seeking j w (seek.Take a)))
      (approach_ends (step_view_of q c) a j w (before_is b base p (seek_tag w) r ∙ sym h))
      [] ((5, seek_tag w + 1) ∷ []) (omega arith) tt (omega arith, tt)
      refl
      (takes_next c a j w) after e answer f

-- G2
module _ (w : Bool) (b : List ℕ) (base p : ℕ) (r : Placed b base p (seek_tag w + 1))
    (after : List ℕ) (answer : Answer) where
  pub takes :
      attempt (get_or b (base + 41 * mine b p 6 + (8 + (mine b p 7 - 1))) 0) ≡ None →
      after ≡ puts
      (puts (puts b 0 (four 3 (number32 b 3 + 1))) (base + 41 * mine b p 6)
      ((8 + (mine b p 7 - 1), p + 1) ∷ [])) (7 + 26 * p) ((5, seek_tag w + 2) ∷ []) →
      answer ≡ ans.Moved →
      Stepped b p after answer
  takes h e f =
      let q = queue_in b in
      let c = processor_at q p in
      let j = job_at b p in
      let a = place (mine b p 6) (mine b p 7) in
      let s = step_view_of q c a in
      let k< : mine b p 7 - 1 < 8 = omega (arith, r.level_high, r.level_low) in
      arm b base p (seek_tag w + 1) r.sound r.start r.nodes_high r.processors_high
      r.low r.few
      r.early r.tagged (seeking j w (seek.Take a))
      (take_tag b p w) (seek_busy j w (seek.Take a))
      (moved s (eff.HoldLevel a) (seeking j w (seek.Confirm a)))
      (take_goes (step_view_of q c) a j w
      (ap attempt (place_lock_is b base p (seek_tag w + 1) r) ∙ h))
      ((8 + (mine b p 7 - 1), p + 1) ∷ []) ((5, seek_tag w + 2) ∷ []) (omega (arith, r.node_low))
      (omega arith, tt) (omega arith, tt)
      (put_lock (node_at q (mine b p 6)) (mine b p 7 - 1) (p + 1) [] k<
      ((sized_in b).locks_long (mine b p 6) (omega (arith, r.node_low, r.nodes_high))))
      (confirms_next c a j w) after e answer f

  pub take_waits :
      (x : ℕ) →
      attempt (get_or b (base + 41 * mine b p 6 + (8 + (mine b p 7 - 1))) 0) ≡ Some x →
      after ≡ puts (puts b 0 (four 3 (number32 b 3 + 1))) (7 + 26 * p) [] →
      answer ≡ ans.Waits x →
      Stepped b p after answer
  take_waits x h e f =
      let q = queue_in b in
      let c = processor_at q p in
      let j = job_at b p in
      let a = place (mine b p 6) (mine b p 7) in
      let s = step_view_of q c a in
      let k< : mine b p 7 - 1 < 8 = omega (arith, r.level_high, r.level_low) in
      arm b base p (seek_tag w + 1) r.sound r.start r.nodes_high r.processors_high
      r.low r.few
      r.early r.tagged (seeking j w (seek.Take a))
      (take_tag b p w) (seek_busy j w (seek.Take a))
      (waits s (seeking j w (seek.Take a)) x)
      (take_stays (step_view_of q c) a j w x
      (ap attempt (place_lock_is b base p (seek_tag w + 1) r) ∙ h))
      [] [] (omega arith) tt tt
      refl
      refl after e answer f

-- G3
module _ (w : Bool) (b : List ℕ) (base p : ℕ) (r : Placed b base p (seek_tag w + 2))
    (after : List ℕ) (answer : Answer) where
  pub confirm_ahead :
      true ≡ key_before (key_in b base (onward b base p)) (key_in b base (mine b p 4)) →
      after ≡ puts (puts b 0 (four 3 (number32 b 3 + 1))) (7 + 26 * p)
      ((5, seek_tag w + 3) ∷ (8, onward b base p) ∷ []) →
      answer ≡ ans.Moved →
      Stepped b p after answer
  confirm_ahead h e f =
      let q = queue_in b in
      let c = processor_at q p in
      let j = job_at b p in
      let a = place (mine b p 6) (mine b p 7) in
      let s = step_view_of q c a in
      let k< : mine b p 7 - 1 < 8 = omega (arith, r.level_high, r.level_low) in
      arm b base p (seek_tag w + 2) r.sound r.start r.nodes_high r.processors_high
      r.low r.few
      r.early r.tagged (seeking j w (seek.Confirm a))
      (confirm_tag b p w) (seek_busy j w (seek.Confirm a))
      (moved s eff.Keep (seeking j w (seek.Release a (onward b base p))))
      (confirm_goes (step_view_of q c) a j w (before_is b base p (seek_tag w + 2) r ∙ sym h)
      ∙ ap (λ (n : ℕ). moved s eff.Keep (seeking j w (seek.Release a n)))
      (next_is b base p (seek_tag w + 2) r))
      [] ((5, seek_tag w + 3) ∷ (8, onward b base p) ∷ []) (omega arith) tt
      (omega arith, (omega arith, tt))
      refl
      (releases_next c a j w (onward b base p)) after e answer f

  pub confirm_done :
      false ≡ key_before (key_in b base (onward b base p)) (key_in b base (mine b p 4)) →
      after ≡ puts (puts b 0 (four 3 (number32 b 3 + 1))) (7 + 26 * p) ((5, seek_tag w + 4) ∷ []) →
      answer ≡ ans.Moved →
      Stepped b p after answer
  confirm_done h e f =
      let q = queue_in b in
      let c = processor_at q p in
      let j = job_at b p in
      let a = place (mine b p 6) (mine b p 7) in
      let s = step_view_of q c a in
      let k< : mine b p 7 - 1 < 8 = omega (arith, r.level_high, r.level_low) in
      arm b base p (seek_tag w + 2) r.sound r.start r.nodes_high r.processors_high
      r.low r.few
      r.early r.tagged (seeking j w (seek.Confirm a))
      (confirm_tag b p w) (seek_busy j w (seek.Confirm a))
      (moved s eff.Keep (sought j w a))
      (confirm_ends (step_view_of q c) a j w (before_is b base p (seek_tag w + 2) r ∙ sym h))
      [] ((5, seek_tag w + 4) ∷ []) (omega arith) tt (omega arith, tt)
      refl
      (leaves c a j w) after e answer f

-- G4
module _ (w : Bool) (b : List ℕ) (base p : ℕ) (r : Placed b base p (seek_tag w + 3))
    (after : List ℕ) (answer : Answer) where
  pub releases :
      after ≡ puts
      (puts (puts b 0 (four 3 (number32 b 3 + 1))) (base + 41 * mine b p 6)
      ((8 + (mine b p 7 - 1), 0) ∷ [])) (7 + 26 * p)
      ((5, seek_tag w + 1) ∷ (6, mine b p 8) ∷ (8, 0) ∷ []) →
      answer ≡ ans.Moved →
      Stepped b p after answer
  releases e f =
      let q = queue_in b in
      let c = processor_at q p in
      let j = job_at b p in
      let a = place (mine b p 6) (mine b p 7) in
      let s = step_view_of q c a in
      let k< : mine b p 7 - 1 < 8 = omega (arith, r.level_high, r.level_low) in
      arm b base p (seek_tag w + 3) r.sound r.start r.nodes_high r.processors_high
      r.low r.few
      r.early r.tagged (seeking j w (seek.Release a (mine b p 8)))
      (release_tag b p w)
      (seek_busy j w (seek.Release a (mine b p 8)))
      (moved s (eff.FreeLevel a) (seeking j w (seek.Take (place (mine b p 8) (mine b p 7)))))
      (release_goes (step_view_of q c) a j w (mine b p 8))
      ((8 + (mine b p 7 - 1), 0) ∷ []) ((5, seek_tag w + 1) ∷ (6, mine b p 8) ∷ (8, 0) ∷ [])
      (omega (arith, r.node_low)) (omega arith, tt)
      (omega arith, (omega arith, (omega arith, tt)))
      (put_lock (node_at q (mine b p 6)) (mine b p 7 - 1) 0 [] k<
      ((sized_in b).locks_long (mine b p 6) (omega (arith, r.node_low, r.nodes_high))))
      (takes_again c a j w (mine b p 8)) after e answer f

-- I4
module _ (b : List ℕ) (base p : ℕ) (r : Owned b base p 9) (after : List ℕ) (answer : Answer) where
  pub insert_frees :
      after ≡ puts
      (puts (puts b 0 (four 3 (number32 b 3 + 1))) (base + 41 * mine b p 4) ((16, 0) ∷ []))
      (7 + 26 * p) ((5, 10) ∷ []) →
      answer ≡ ans.Moved →
      Stepped b p after answer
  unfolding processor_image
  insert_frees e f =
      let q = queue_in b in
      let c = processor_at q p in
      let s = step_view_of q c (place 0 1) in
      arm b base p 9 r.sound r.start r.nodes_high r.processors_high r.low r.few
      r.early r.tagged (stage.Insert ins.FreeNode) refl refl
      (moved s (eff.FreeNode (mine b p 4)) (stage.Insert ins.Stamp))
      (ap (λ (x : ℕ). moved s (eff.FreeNode x) (stage.Insert ins.Stamp)) (mine_is b base p 9 r))
      ((16, 0) ∷ []) ((5, 10) ∷ []) (own_low b base p 9 r) (omega arith, tt) (omega arith, tt)
      (put_holder (node_at q (mine b p 4)) 0) refl after e answer f

-- L7
module _ (b : List ℕ) (base p : ℕ) (r : Owned b base p 25) (after : List ℕ) (answer : Answer) where
  pub removal_frees :
      after ≡ puts
      (puts (puts b 0 (four 3 (number32 b 3 + 1))) (base + 41 * mine b p 4) ((16, 0) ∷ []))
      (7 + 26 * p) ((5, 26) ∷ []) →
      answer ≡ ans.Moved →
      Stepped b p after answer
  unfolding processor_image
  removal_frees e f =
      let q = queue_in b in
      let c = processor_at q p in
      let s = step_view_of q c (place 0 1) in
      arm b base p 25 r.sound r.start r.nodes_high r.processors_high r.low
      r.few r.early r.tagged (removing (job_at b p) rem.FreeNode) refl refl
      (moved s (eff.FreeNode (mine b p 4)) (removing (job_at b p) rem.Retire))
      (rw (mine_is b base p 25 r) refl)
      ((16, 0) ∷ []) ((5, 26) ∷ []) (own_low b base p 25 r) (omega arith, tt) (omega arith, tt)
      (put_holder (node_at q (mine b p 4)) 0) (refl) after e answer f
