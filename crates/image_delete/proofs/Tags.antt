-- The stages W1 and W3 of a Delete_Min (false) and of a Relaxed one (true): their tags, what they
-- decide and what is stored for it. Assumes nothing.
use mathlib.Core.Path.{◌≡◌, refl, ◌∙◌}
use mathlib.Core.Bool.{Bool, true, false, cond}
use mathlib.Core.List.{List, [], ◌∷◌}
use Prim.Native.Nat.{ℕ}
use lib.Dec.{eqb}
use Rattle.record.specs.declared.queues.Processor.{Processor}
use Rattle.record.specs.declared.stages.Place.{Place}
use Rattle.record.specs.declared.stages.Removal.TheVariants as rem
use Rattle.record.specs.declared.stages.Job.TheVariants as jobs
use Rattle.record.specs.declared.stages.Delete.TheVariants as del
use Rattle.record.specs.declared.stages.Relaxed.TheVariants as rlx
use Rattle.record.specs.declared.stages.Stage.{Stage}
use Rattle.record.specs.declared.stages.Stage.TheVariants as stage
use Rattle.record.specs.Stages.{place, is_idle}
use Rattle.rules.specs.declared.answers.Answer.TheVariants as ans
use Rattle.rules.specs.declared.decisions.Effect.TheVariants as eff
use Rattle.rules.specs.declared.decisions.StepView.{StepView}
use Rattle.rules.specs.Calls.{reading_place}
use Rattle.rules.specs.Decide.{moved, answers, marking, removing, decide}
use Rattle.image.specs.Tags.{stage_code, stage_of}
use Rattle.image.specs.Pieces.{processor_image, errand_bytes}
use Rattle.image.specs.Puts.{puts_in}
use Rattle.image_parts.proofs.Pieces.{moves}
use Rattle.image_parts.proofs.Readings.{mine, code_in}

-- W1, W3, and where W1 goes on to at the node x
abbrev pub reading : Bool → Place → Stage
reading true a = stage.Relaxed (rlx.ReadNext a)
reading false a = stage.Delete (del.ReadNext a)

abbrev pub setting : Bool → Place → Stage
setting true a = stage.Relaxed (rlx.SetMark a)
setting false a = stage.Delete (del.SetMark a)

abbrev pub onto : Bool → ℕ → Stage
onto true x = cond (eqb x 0) (reading true (place x 1)) (setting true (place x 1))
onto false x = stage.Delete (del.TestStamp (place x 1))

-- their tags
abbrev pub read_tag : Bool → ℕ
read_tag w = cond w 27 11

abbrev pub set_tag : Bool → ℕ
set_tag w = cond w 28 13

abbrev pub onto_tag : Bool → ℕ → ℕ
onto_tag w x = cond w (cond (eqb x 0) 27 28) 12

module _ (b : List ℕ) (p : ℕ) where
  abbrev here : Place
  here = place (mine b p 6) (mine b p 7)

  pub read_tag_lem : (w : Bool) → stage_of (code_in b p (read_tag w)) ≡ reading w here
  read_tag_lem true = refl
  read_tag_lem false = refl

  pub set_tag_lem : (w : Bool) → stage_of (code_in b p (set_tag w)) ≡ setting w here
  set_tag_lem true = refl
  set_tag_lem false = refl

pub read_busy : (w : Bool) (a : Place) → is_idle (reading w a) ≡ false
read_busy true a = refl
read_busy false a = refl

pub set_busy : (w : Bool) (a : Place) → is_idle (setting w a) ≡ false
set_busy true a = refl
set_busy false a = refl

-- what they decide, of what is seen at a place: a walk looks at level 1
module _ (see : Place → StepView) (a : Place) where
  abbrev s : StepView
  s = see (place a.node 1)

  pub read_ends : (w : Bool) → s.next_is_tail ≡ true →
      decide (see (reading_place (reading w a))) (reading w a) ≡ answers eff.Keep ans.Empty
  read_ends true h = rw h refl
  read_ends false h = rw h refl

  either : (t : Bool) (g h : Stage) →
      cond t (moved s eff.Keep g) (moved s eff.Keep h) ≡ moved s eff.Keep (cond t g h)
  either true g h = refl
  either false g h = refl

  pub read_goes : (w : Bool) → s.next_is_tail ≡ false →
      decide (see (reading_place (reading w a))) (reading w a)
      ≡ moved s eff.Keep (onto w s.next)
  read_goes true h =
      rw h refl
      ∙ either (eqb s.next 0) (reading true (place s.next 1))
      (setting true (place s.next 1))
  read_goes false h = rw h refl

  pub set_passes : (w : Bool) → s.marked ≡ true →
      decide (see (reading_place (setting w a))) (setting w a) ≡ moved s eff.Keep (reading w a)
  set_passes true h = rw h refl
  set_passes false h = rw h refl

  pub set_marks : (w : Bool) → s.marked ≡ false →
      decide (see (reading_place (setting w a))) (setting w a) ≡ marking jobs.Deliver s a
  set_marks true h = rw h refl
  set_marks false h = rw h refl

-- they have neither a job nor a key
pub read_plain : (w : Bool) (a : Place) →
    errand_bytes (stage_code (reading w a)) ≡ errand_bytes (stage_code stage.Idle)
read_plain true a = refl
read_plain false a = refl

-- what is stored for it in the processor's bytes
module _ (c : Processor) (a : Place) where
  abbrev bytes_at : Stage → List (ℕ × ℕ) → List ℕ
  bytes_at g es = puts_in (processor_image (moves c g c.saved)) es

  abbrev bytes_of : Stage → List ℕ
  bytes_of g = processor_image (moves c g c.saved)

  pub reads_next : (w : Bool) (x : ℕ) →
      bytes_at (reading w a) ((5, onto_tag w x) ∷ (6, x) ∷ (7, 1) ∷ []) ≡ bytes_of (onto w x)
  unfolding processor_image
  reads_next false x = refl
  reads_next true x = go (eqb x 0)
    where
      go : (t : Bool) →
          bytes_at (reading true a) ((5, cond t 27 28) ∷ (6, x) ∷ (7, 1) ∷ [])
          ≡ bytes_of (cond t (reading true (place x 1)) (setting true (place x 1)))
      go true = refl
      go false = refl

  pub reads_again : (w : Bool) →
      bytes_at (setting w a) ((5, read_tag w) ∷ []) ≡ bytes_of (reading w a)
  unfolding processor_image
  reads_again true = refl
  reads_again false = refl

  -- the node x marked, and the Search of its removal begun on so many levels
  pub set_starts : (w : Bool) (x levels : ℕ) →
      bytes_at (setting w a) ((4, x) ∷ (5, 14) ∷ (6, 0) ∷ (7, levels) ∷ [])
      ≡ processor_image
      (record {
        begin = c.begin;
        own = x;
        stage = removing jobs.Deliver (rem.Search (place 0 levels));
        saved = c.saved;
      })
  unfolding processor_image
  set_starts true x levels = refl
  set_starts false x levels = refl
