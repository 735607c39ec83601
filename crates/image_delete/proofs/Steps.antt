-- What each stage of a walk stores is what the definition says. W1 and W3 are a Delete_Min's (w is
-- false) and a Relaxed one's (w is true). Assumes nothing.
use mathlib.Core.Path.{◌≡◌, refl, ◌∙◌, ap}
use mathlib.Core.Bool.{Bool, true, false}
use mathlib.Core.List.{List, [], ◌∷◌, ◌++◌}
use Prim.Native.Nat.{ℕ, ◌+◌, ◌*◌}
use native.Mathlib.Omega.{arith}
use lib.ListN.{get_or}
use borrow.Author.Tests.{eq-eqb, ne_eqb, lt-ltb}
use Rattle.record.specs.declared.stages.Removal.TheVariants as rem
use Rattle.record.specs.declared.stages.Job.TheVariants as jobs
use Rattle.record.specs.declared.stages.Delete.TheVariants as del
use Rattle.record.specs.declared.stages.Stage.TheVariants as stage
use Rattle.record.specs.Nodes.{stamped_before}
use Rattle.record.specs.Queues.{node_at, processor_at}
use Rattle.record.specs.Stages.{place}
use Rattle.image.specs.Numbers.{number32}
use Rattle.image.specs.Pieces.{processor_image}
use Rattle.rules.specs.declared.answers.Answer.{Answer}
use Rattle.rules.specs.declared.answers.Answer.TheVariants as ans
use Rattle.rules.specs.declared.answers.Deed.TheVariants as deed
use Rattle.rules.specs.declared.decisions.Effect.TheVariants as eff
use Rattle.rules.specs.Calls.{step_view_of}
use Rattle.rules.specs.Decide.{moved, answers, removing}
use Rattle.image.specs.Puts.{puts, four, clears, rests}
use Rattle.image.specs.Image.{queue_in}
use Rattle.image_parts.specs.Given.{Stepped}
use Rattle.image_parts.specs.Reads.{entry_in, stamp_in}
use Rattle.image_parts.specs.Ready.{Walked}
use Rattle.image_parts.proofs.Pieces.{moves, put_mark}
use Rattle.image_parts.proofs.Pieces.{put_idle}
use Rattle.rules.specs.declared.decisions.ProcessorChange.TheVariants as change
use Rattle.image.proofs.Sizes.{sized_in}
use Rattle.image_parts.proofs.Readings.{mine, arm, levels_is, clears_below, fits_below}
use Rattle.image_parts.proofs.Readings.{entry_is}
use Rattle.image_parts.proofs.Walks.{after_is, stamped_is, marked_is, entries_is}
use Rattle.image_delete.proofs.Tags.{reading, setting, onto, read_tag, set_tag, onto_tag}
use Rattle.image_delete.proofs.Tags.{read_tag_lem, set_tag_lem, read_busy, set_busy, read_ends}
use Rattle.image_delete.proofs.Tags.{read_goes, set_passes, set_marks, reads_next}
use Rattle.image_delete.proofs.Tags.{reads_again, set_starts, read_plain}

-- W1
module _ (w : Bool) (b : List ℕ) (base p : ℕ) (r : Walked b base p (read_tag w)) (after : List ℕ)
    (answer : Answer) where
  pub walks_empty :
      get_or b (base + 41 * mine b p 6 + 0) 0 ≡ get_or b 1 0 + 1 →
      after ≡ puts (puts b 0 (four 3 (number32 b 3 + 1))) (7 + 26 * p)
      (clears (get_or b 2 0) ++ rests) →
      answer ≡ ans.Empty →
      Stepped b p after answer
  walks_empty h e f =
      let q = queue_in b in
      let c = processor_at q p in
      let a = place (mine b p 6) (mine b p 7) in
      arm b base p (read_tag w) r.sound r.start r.nodes_high r.processors_high r.low
      r.few r.early r.tagged (reading w a)
      (read_tag_lem b p w) (read_busy w a)
      (answers eff.Keep ans.Empty)
      (read_ends (step_view_of q c) a w
      (rw (after_is b base p (read_tag w) r, entries_is b, eq-eqb _ _ h) refl))
      ([]) (clears (get_or b 2 0) ++ rests) (omega arith) tt
      (clears_below (get_or b 2 0) rests r.levels_high (fits_below 26 rests refl))
      (refl) (rw (levels_is b)
      (put_idle (moves c (reading w a) c.saved) (get_or b 2 0) r.levels_high
      ((sized_in b).saved_long p r.few) (read_plain w a))) after e answer f

  pub walks_on :
      (get_or b (base + 41 * mine b p 6 + 0) 0 ≡ get_or b 1 0 + 1 → ⊥) →
      (v : ℕ) → v ≡ onto_tag w (get_or b (base + 41 * mine b p 6 + 0) 0) →
      after ≡ puts (puts b 0 (four 3 (number32 b 3 + 1))) (7 + 26 * p)
      ((5, v) ∷ (6, get_or b (base + 41 * mine b p 6 + 0) 0) ∷ (7, 1) ∷ []) →
      answer ≡ ans.Moved →
      Stepped b p after answer
  walks_on h v is e f =
      let q = queue_in b in
      let c = processor_at q p in
      let a = place (mine b p 6) (mine b p 7) in
      let s = step_view_of q c (place (mine b p 6) 1) in
      let x = get_or b (base + 41 * mine b p 6 + 0) 0 in
      arm b base p (read_tag w) r.sound r.start r.nodes_high r.processors_high r.low
      r.few r.early r.tagged (reading w a)
      (read_tag_lem b p w) (read_busy w a)
      (moved s eff.Keep (onto w x))
      (read_goes (step_view_of q c) a w
      (rw (after_is b base p (read_tag w) r, entries_is b, ne_eqb _ _ h) refl)
      ∙ ap (λ (n : ℕ). moved s eff.Keep (onto w n)) (after_is b base p (read_tag w) r))
      ([]) ((5, onto_tag w x) ∷ (6, x) ∷ (7, 1) ∷ []) (omega arith) tt
      (omega arith, (omega arith, (omega arith, tt)))
      (refl) (reads_next c a w x) after
      (e ∙ ap (λ (n : ℕ). puts (puts b 0 (four 3 (number32 b 3 + 1))) (7 + 26 * p)
      ((5, n) ∷ (6, x) ∷ (7, 1) ∷ [])) is) answer f

-- W2
module _ (b : List ℕ) (base p : ℕ) (r : Walked b base p 12) (after : List ℕ) (answer : Answer) where
  abbrev stamped : Bool
  stamped = stamped_before (stamp_in b (base + 41 * mine b p 6)) (number32 b (7 + 26 * p + 0))

  pub stamp_misses :
      stamped ≡ false →
      after ≡ puts (puts b 0 (four 3 (number32 b 3 + 1))) (7 + 26 * p) ((5, 11) ∷ []) →
      answer ≡ ans.Moved →
      Stepped b p after answer
  unfolding processor_image
  stamp_misses h e f =
      let q = queue_in b in
      let c = processor_at q p in
      let a = place (mine b p 6) (mine b p 7) in
      let s = step_view_of q c (place (mine b p 6) 1) in
      arm b base p 12 r.sound r.start r.nodes_high r.processors_high r.low
      r.few r.early r.tagged (stage.Delete (del.TestStamp a)) refl refl
      (moved s eff.Keep (stage.Delete (del.ReadNext a)))
      (rw (stamped_is b base p 12 r, h) refl)
      ([]) ((5, 11) ∷ []) (omega arith) tt (omega arith, tt)
      (refl) (refl) after e answer f

  pub stamp_passes :
      stamped ≡ true →
      after ≡ puts (puts b 0 (four 3 (number32 b 3 + 1))) (7 + 26 * p) ((5, 13) ∷ []) →
      answer ≡ ans.Moved →
      Stepped b p after answer
  unfolding processor_image
  stamp_passes h e f =
      let q = queue_in b in
      let c = processor_at q p in
      let a = place (mine b p 6) (mine b p 7) in
      let s = step_view_of q c (place (mine b p 6) 1) in
      arm b base p 12 r.sound r.start r.nodes_high r.processors_high r.low
      r.few r.early r.tagged (stage.Delete (del.TestStamp a)) refl refl
      (moved s eff.Keep (stage.Delete (del.SetMark a)))
      (rw (stamped_is b base p 12 r, h) refl)
      ([]) ((5, 13) ∷ []) (omega arith) tt (omega arith, tt)
      (refl) (refl) after e answer f

-- W3
module _ (w : Bool) (b : List ℕ) (base p : ℕ) (r : Walked b base p (set_tag w)) (after : List ℕ)
    (answer : Answer) where
  pub mark_set :
      (get_or b (base + 41 * mine b p 6 + 17) 0 ≡ 0 → ⊥) →
      (v : ℕ) → v ≡ read_tag w →
      after ≡ puts (puts b 0 (four 3 (number32 b 3 + 1))) (7 + 26 * p) ((5, v) ∷ []) →
      answer ≡ ans.Moved →
      Stepped b p after answer
  mark_set h v is e f =
      let q = queue_in b in
      let c = processor_at q p in
      let a = place (mine b p 6) (mine b p 7) in
      let s = step_view_of q c (place (mine b p 6) 1) in
      let m = get_or b (base + 41 * mine b p 6 + 17) 0 in
      arm b base p (set_tag w) r.sound r.start r.nodes_high r.processors_high r.low
      r.few r.early r.tagged (setting w a)
      (set_tag_lem b p w) (set_busy w a)
      (moved s eff.Keep (reading w a))
      (set_passes (step_view_of q c) a w
      (rw (marked_is b base p (set_tag w) r, lt-ltb 0 m (omega arith)) refl))
      ([]) ((5, read_tag w) ∷ []) (omega arith) tt (omega arith, tt)
      (refl) (reads_again c a w) after
      (e ∙ ap (λ (n : ℕ). puts (puts b 0 (four 3 (number32 b 3 + 1))) (7 + 26 * p)
      ((5, n) ∷ [])) is) answer f

  pub marks :
      get_or b (base + 41 * mine b p 6 + 17) 0 ≡ 0 →
      after ≡ puts
      (puts (puts b 0 (four 3 (number32 b 3 + 1))) (base + 41 * mine b p 6) ((17, p + 1) ∷ []))
      (7 + 26 * p) ((4, mine b p 6) ∷ (5, 14) ∷ (6, 0) ∷ (7, get_or b 2 0) ∷ []) →
      answer ≡ ans.Did deed.Marked (entry_in b (base + 41 * mine b p 6)) →
      Stepped b p after answer
  marks h e f =
      let q = queue_in b in
      let c = processor_at q p in
      let a = place (mine b p 6) (mine b p 7) in
      arm b base p (set_tag w) r.sound r.start r.nodes_high r.processors_high r.low
      r.few r.early r.tagged (setting w a)
      (set_tag_lem b p w) (set_busy w a)
      (record {
        effect = eff.Mark (mine b p 6);
        stage =
            removing jobs.Deliver (rem.Search (place 0 (get_or b 2 0)));
        own = mine b p 6;
        change =
            change.Keep;
        answer = ans.Did deed.Marked (entry_in b (base + 41 * mine b p 6));
      })
      (set_marks (step_view_of q c) a w (rw (marked_is b base p (set_tag w) r, h) refl)
      ∙ rw (
        entry_is b base r.start r.nodes_high
            (mine b p 6) (omega (arith, r.node_low)),
        levels_is b,
      ) refl)
      ((17, p + 1) ∷ []) ((4, mine b p 6) ∷ (5, 14) ∷ (6, 0) ∷ (7, get_or b 2 0) ∷ [])
      (omega (arith, r.node_low)) (omega arith, tt)
      (omega arith, (omega arith, (omega arith, (omega arith, tt))))
      (put_mark (node_at q (mine b p 6)) (p + 1)) (set_starts c a w (mine b p 6) (get_or b 2 0))
      after e answer f
