-- The walks' stages by their tags, what they decide, and their bytes: for an Insert and for a
-- removal alike. Assumes nothing.
use Rattle.std.specs.Prelude.{Option, ℕ, Some, None}
use mathlib.Core.Path.{◌≡◌, refl, ap}
use mathlib.Core.Bool.{Bool, true, false}
use mathlib.Core.List.{List, [], ◌∷◌}
use Prim.Native.Nat.{ℕ, ◌+◌, ◌-◌, ◌<◌}
use lib.Dec.{leb}
use lib.ListN.{length, set}
use Rattle.record.specs.declared.queues.Processor.{Processor}
use Rattle.record.specs.declared.stages.Place.{Place}
use Rattle.record.specs.declared.stages.Seek.{Seek}
use Rattle.record.specs.declared.stages.Seek.TheVariants as seek
use Rattle.record.specs.declared.stages.Insert.TheVariants as ins
use Rattle.record.specs.declared.stages.Removal.TheVariants as rem
use Rattle.record.specs.declared.stages.Job.{Job}
use Rattle.record.specs.declared.stages.Stage.{Stage}
use Rattle.record.specs.declared.stages.Stage.TheVariants as stage
use Rattle.record.specs.Stages.{place, is_idle}
use Rattle.rules.specs.declared.decisions.Effect.TheVariants as eff
use Rattle.rules.specs.declared.decisions.StepView.{StepView}
use Rattle.rules.specs.Calls.{reading_place}
use Rattle.rules.specs.Decide.{moved, waits, saving, decide, removing}
use Rattle.rules.specs.Decide.{attempt, place_tried, insert_sought, removal_sought}
use Rattle.image.specs.Tags.{stage_of}
use Rattle.image.specs.Pieces.{processor_image}
use Rattle.image.specs.Puts.{puts_in}
use Rattle.image_parts.proofs.Pieces.{moves, put_saved}
use Rattle.image_parts.proofs.Readings.{mine, code_in, job_at}
use Rattle.image_walks.specs.Walks.{search_tag, seek_tag}

-- a stage of the Search, of the Lock-seek, and the one after the Lock-seek; j is a removal's job
abbrev pub searching : Job → Bool → Place → Stage
searching j true a = removing j (rem.Search a)
searching j false a = stage.Insert (ins.Search a)

abbrev pub seeking : Job → Bool → Seek → Stage
seeking j true k = removing j (rem.Seek k)
seeking j false k = stage.Insert (ins.Seek k)

abbrev pub sought : Job → Bool → Place → Stage
sought j true a = removing j (rem.HoldOwn a)
sought j false a = stage.Insert (ins.Copy a)

-- the one after the Search
abbrev pub after : Job → Bool → Place → Stage
after j true a = removing j rem.HoldNode
after j false a = stage.Insert (ins.Seek (seek.Approach a))

-- by their tags
module _ (b : List ℕ) (p : ℕ) where
  abbrev here : Place
  here = place (mine b p 6) (mine b p 7)

  pub search_tag_lem : (w : Bool) → stage_of (code_in b p (search_tag w)) ≡ searching (job_at b p) w here
  search_tag_lem true = refl
  search_tag_lem false = refl

  pub approach_tag :
      (w : Bool) → stage_of (code_in b p (seek_tag w)) ≡ seeking (job_at b p) w (seek.Approach here)
  approach_tag true = refl
  approach_tag false = refl

  pub take_tag :
      (w : Bool) → stage_of (code_in b p (seek_tag w + 1)) ≡ seeking (job_at b p) w (seek.Take here)
  take_tag true = refl
  take_tag false = refl

  pub confirm_tag :
      (w : Bool) → stage_of (code_in b p (seek_tag w + 2)) ≡ seeking (job_at b p) w (seek.Confirm here)
  confirm_tag true = refl
  confirm_tag false = refl

  pub release_tag :
      (w : Bool) → stage_of (code_in b p (seek_tag w + 3))
      ≡ seeking (job_at b p) w (seek.Release here (mine b p 8))
  release_tag true = refl
  release_tag false = refl

pub search_busy : (j : Job) (w : Bool) (a : Place) → is_idle (searching j w a) ≡ false
search_busy j true a = refl
search_busy j false a = refl

pub seek_busy : (j : Job) (w : Bool) (k : Seek) → is_idle (seeking j w k) ≡ false
seek_busy j true k = refl
seek_busy j false k = refl

-- what they decide, of what is seen at a place
module _ (see : Place → StepView) (a : Place) (j : Job) where
  pub search_goes :
      (w : Bool) → (see a).next_before_key ≡ true →
      decide (see (reading_place (searching j w a))) (searching j w a)
      ≡ moved (see a) eff.Keep (searching j w (place (see a).next a.level))
  search_goes true h = rw h refl
  search_goes false h = rw h refl

  pub search_falls :
      (w : Bool) → (see a).next_before_key ≡ false → leb a.level 1 ≡ false →
      decide (see (reading_place (searching j w a))) (searching j w a)
      ≡ saving (see a) a (searching j w (place a.node (a.level - 1)))
  search_falls true h l = rw (h, l) refl
  search_falls false h l = rw (h, l) refl

  pub search_ends :
      (w : Bool) → (see a).next_before_key ≡ false → leb a.level 1 ≡ true →
      decide (see (reading_place (searching j w a))) (searching j w a)
      ≡ saving (see a) a (after j w a)
  search_ends true h l = rw (h, l) refl
  search_ends false h l = rw (h, l) refl

  pub approach_goes :
      (w : Bool) → (see a).next_before_key ≡ true →
      decide (see (reading_place (seeking j w (seek.Approach a)))) (seeking j w (seek.Approach a))
      ≡ moved (see a) eff.Keep (seeking j w (seek.Approach (place (see a).next a.level)))
  approach_goes true h = rw h refl
  approach_goes false h = rw h refl

  pub approach_ends :
      (w : Bool) → (see a).next_before_key ≡ false →
      decide (see (reading_place (seeking j w (seek.Approach a)))) (seeking j w (seek.Approach a))
      ≡ moved (see a) eff.Keep (seeking j w (seek.Take a))
  approach_ends true h = rw h refl
  approach_ends false h = rw h refl

  pub take_goes :
      (w : Bool) → attempt (see a).place_lock ≡ None →
      decide (see (reading_place (seeking j w (seek.Take a)))) (seeking j w (seek.Take a))
      ≡ moved (see a) (eff.HoldLevel a) (seeking j w (seek.Confirm a))
  take_goes true h =
      ap (λ (t : Option ℕ). removal_sought j (see a) (place_tried a t)) h
  take_goes false h = ap (λ (t : Option ℕ). insert_sought (see a) (place_tried a t)) h

  pub take_stays :
      (w : Bool) (x : ℕ) → attempt (see a).place_lock ≡ Some x →
      decide (see (reading_place (seeking j w (seek.Take a)))) (seeking j w (seek.Take a))
      ≡ waits (see a) (seeking j w (seek.Take a)) x
  take_stays true x h =
      ap (λ (t : Option ℕ). removal_sought j (see a) (place_tried a t)) h
  take_stays false x h = ap (λ (t : Option ℕ). insert_sought (see a) (place_tried a t)) h

  pub confirm_goes :
      (w : Bool) → (see a).next_before_key ≡ true →
      decide (see (reading_place (seeking j w (seek.Confirm a)))) (seeking j w (seek.Confirm a))
      ≡ moved (see a) eff.Keep (seeking j w (seek.Release a (see a).next))
  confirm_goes true h = rw h refl
  confirm_goes false h = rw h refl

  pub confirm_ends :
      (w : Bool) → (see a).next_before_key ≡ false →
      decide (see (reading_place (seeking j w (seek.Confirm a)))) (seeking j w (seek.Confirm a))
      ≡ moved (see a) eff.Keep (sought j w a)
  confirm_ends true h = rw h refl
  confirm_ends false h = rw h refl

  pub release_goes :
      (w : Bool) (x : ℕ) →
      decide (see (reading_place (seeking j w (seek.Release a x)))) (seeking j w (seek.Release a x))
      ≡ moved (see a) (eff.FreeLevel a) (seeking j w (seek.Take (place x a.level)))
  release_goes true x = refl
  release_goes false x = refl

-- what is stored for it in the processor's bytes
module _ (c : Processor) (a : Place) (j : Job) where
  abbrev bytes_at : Stage → List (ℕ × ℕ) → List ℕ
  bytes_at g es = puts_in (processor_image (moves c g c.saved)) es

  abbrev bytes_of : Stage → List ℕ
  bytes_of g = processor_image (moves c g c.saved)

  pub search_moves :
      (w : Bool) (x : ℕ) →
      bytes_at (searching j w a) ((6, x) ∷ []) ≡ bytes_of (searching j w (place x a.level))
  unfolding processor_image
  search_moves true x = refl
  search_moves false x = refl

  pub approach_moves :
      (w : Bool) (x : ℕ) →
      bytes_at (seeking j w (seek.Approach a)) ((6, x) ∷ [])
      ≡ bytes_of (seeking j w (seek.Approach (place x a.level)))
  unfolding processor_image
  approach_moves true x = refl
  approach_moves false x = refl

  pub takes_next :
      (w : Bool) →
      bytes_at (seeking j w (seek.Approach a)) ((5, seek_tag w + 1) ∷ [])
      ≡ bytes_of (seeking j w (seek.Take a))
  unfolding processor_image
  takes_next true = refl
  takes_next false = refl

  pub confirms_next :
      (w : Bool) →
      bytes_at (seeking j w (seek.Take a)) ((5, seek_tag w + 2) ∷ [])
      ≡ bytes_of (seeking j w (seek.Confirm a))
  unfolding processor_image
  confirms_next true = refl
  confirms_next false = refl

  pub releases_next :
      (w : Bool) (x : ℕ) →
      bytes_at (seeking j w (seek.Confirm a)) ((5, seek_tag w + 3) ∷ (8, x) ∷ [])
      ≡ bytes_of (seeking j w (seek.Release a x))
  unfolding processor_image
  releases_next true x = refl
  releases_next false x = refl

  pub leaves :
      (w : Bool) → bytes_at (seeking j w (seek.Confirm a)) ((5, seek_tag w + 4) ∷ [])
      ≡ bytes_of (sought j w a)
  unfolding processor_image
  leaves true = refl
  leaves false = refl

  pub takes_again :
      (w : Bool) (x : ℕ) →
      bytes_at (seeking j w (seek.Release a x)) ((5, seek_tag w + 1) ∷ (6, x) ∷ (8, 0) ∷ [])
      ≡ bytes_of (seeking j w (seek.Take (place x a.level)))
  unfolding processor_image
  takes_again true x = refl
  takes_again false x = refl

  -- with a saved node
  module _ (long : length c.saved ≡ 8) (k v : ℕ) (low : k < 8) where
    abbrev bytes_with : Stage → List ℕ
    bytes_with g = processor_image (moves c g (set c.saved k v))

    pub search_saves :
        (w : Bool) (i : ℕ) →
        bytes_at (searching j w a) ((9 + k, v) ∷ (7, i) ∷ [])
        ≡ bytes_with (searching j w (place a.node i))
    unfolding processor_image
    search_saves true i =
        put_saved (moves c (searching j true a) c.saved) k v ((7, i) ∷ []) low long
    search_saves false i =
        put_saved (moves c (searching j false a) c.saved) k v ((7, i) ∷ []) low long

    pub insert_leaves :
        bytes_at (searching j false a) ((9 + k, v) ∷ (5, 2) ∷ []) ≡ bytes_with (after j false a)
    unfolding processor_image
    insert_leaves = put_saved (moves c (searching j false a) c.saved) k v ((5, 2) ∷ []) low long

    pub removal_leaves :
        bytes_at (searching j true a) ((9 + k, v) ∷ (5, 15) ∷ (6, 0) ∷ (7, 0) ∷ [])
        ≡ bytes_with (after j true a)
    unfolding processor_image
    removal_leaves =
        put_saved (moves c (searching j true a) c.saved) k v ((5, 15) ∷ (6, 0) ∷ (7, 0) ∷ [])
        low long
