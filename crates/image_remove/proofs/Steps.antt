-- What each stage of a Remove before its mark stores is what the definition says (02, W5). Assumes
-- nothing.
use mathlib.Core.Path.{◌≡◌, refl, sym, ◌∙◌, ap}
use mathlib.Core.Bool.{Bool, true, false}
use mathlib.Core.List.{List, [], ◌∷◌, ◌++◌}
use Prim.Native.Nat.{ℕ, ◌+◌, ◌*◌, ◌-◌, ◌≤◌, ◌<◌}
use native.Mathlib.Omega.{arith}
use lib.Dec.{leb}
use lib.ListN.{length, get_or, set}
use borrow.Author.Tests.{lt-ltb, le-leb, lt-leb}
use Rattle.record.specs.declared.queues.Processor.{Processor}
use Rattle.record.specs.declared.stages.Job.TheVariants as jobs
use Rattle.record.specs.declared.stages.Place.{Place}
use Rattle.record.specs.declared.stages.Removal.TheVariants as rem
use Rattle.record.specs.declared.stages.Remove.{Remove}
use Rattle.record.specs.declared.stages.Remove.TheVariants as rmv
use Rattle.record.specs.declared.stages.Stage.TheVariants as stage
use Rattle.record.specs.declared.stages.Wanted.{Wanted}
use Rattle.record.specs.Keys.{entry_key, key_before, key_same}
use Rattle.record.specs.Nodes.{stamped_before}
use Rattle.record.specs.Queues.{node_at, processor_at}
use Rattle.record.specs.Stages.{place, wanted_of}
use Rattle.rules.specs.declared.answers.Answer.{Answer}
use Rattle.rules.specs.declared.answers.Answer.TheVariants as ans
use Rattle.rules.specs.declared.answers.Deed.TheVariants as deed
use Rattle.rules.specs.declared.decisions.Decision.{Decision}
use Rattle.rules.specs.declared.decisions.Effect.TheVariants as eff
use Rattle.rules.specs.declared.decisions.ProcessorChange.TheVariants as change
use Rattle.rules.specs.declared.decisions.StepView.{StepView}
use Rattle.rules.specs.Calls.{reading_place, step_view_of}
use Rattle.rules.specs.Decide.{moved, saving, missing, marking, removing, decide}
use Rattle.rules.specs.Effects.{node_of, changed, processor_after}
use Rattle.image.specs.Image.{queue_in}
use Rattle.image.specs.Layout.{wanted_due_in, wanted_ticket_in}
use Rattle.image.specs.Numbers.{number32, bytes_of32}
use Rattle.image.specs.Pieces.{node_image, processor_image, errand_bytes}
use Rattle.image.specs.Puts.{puts, puts_in, four, clears, rests, wants}
use Rattle.image.specs.Tags.{stage_code, stage_of}
use Rattle.image.proofs.Puts.{Below, puts_append}
use Rattle.image.proofs.Sizes.{sized_in}
use Rattle.image_parts.specs.Given.{Stepped}
use Rattle.image_parts.specs.Reads.{entry_in, stamp_in}
use Rattle.image_parts.specs.Ready.{next_in, key_in, Seeking}
use Rattle.image_parts.proofs.Pieces.{moves, put_saved, put_idle_key, put_mark}
use Rattle.image_parts.proofs.Readings.{mine, code_in, onward, stage_is, next_from, wanted_before}
use Rattle.image_parts.proofs.Readings.{wanted_there, arm, levels_is, fits_below, ends_below}
use Rattle.image_parts.proofs.Readings.{entry_is}
use Rattle.image_parts.proofs.Walks.{stamped_is, marked_is}

-- what a Remove carries: its place, and its key
abbrev at : List ℕ → ℕ → Place
at b p = place (mine b p 6) (mine b p 7)

abbrev wanted : List ℕ → ℕ → Wanted
wanted b p = wanted_of (wanted_due_in b p) (wanted_ticket_in b p)

-- the bytes after the answer N
abbrev lost : List ℕ → ℕ → List ℕ
lost b p =
    puts (puts b 0 (four 3 (number32 b 3 + 1))) (7 + 26 * p)
    ((clears (get_or b 2 0) ++ rests) ++ wants 0 0)

-- what the stages decide, of what is seen at a place: behind the Search it is looked at on level 1
module _ (see : Place → StepView) (w : Wanted) (a : Place) where
  abbrev decides : Remove → Decision
  decides g = decide (see (reading_place (stage.Remove w g))) (stage.Remove w g)

  abbrev first : StepView
  first = see (place a.node 1)

  search_goes : (see a).next_before_key ≡ true → decides (rmv.Search a)
      ≡ moved (see a) eff.Keep (stage.Remove w (rmv.Search (place (see a).next a.level)))
  search_goes h = rw h refl

  search_falls : (see a).next_before_key ≡ false → leb a.level 1 ≡ false → decides (rmv.Search a)
      ≡ saving (see a) a (stage.Remove w (rmv.Search (place a.node (a.level - 1))))
  search_falls h l = rw (h, l) refl

  search_ends : (see a).next_before_key ≡ false → leb a.level 1 ≡ true → decides (rmv.Search a)
      ≡ saving (see a) a (stage.Remove w (rmv.ReadNext a))
  search_ends h l = rw (h, l) refl

  read_goes : first.next_before_key ≡ true → decides (rmv.ReadNext a)
      ≡ moved first eff.Keep (stage.Remove w (rmv.ReadNext (place first.next 1)))
  read_goes h = rw h refl

  read_finds :
      first.next_before_key ≡ false → first.next_has_key ≡ true → decides (rmv.ReadNext a)
      ≡ moved first eff.Keep (stage.Remove w (rmv.TestStamp (place first.next 1)))
  read_finds h k = rw (h, k) refl

  read_misses :
      first.next_before_key ≡ false → first.next_has_key ≡ false →
      decides (rmv.ReadNext a) ≡ missing w
  read_misses h k = rw (h, k) refl

  stamp_passes : first.stamped ≡ true → decides (rmv.TestStamp a)
      ≡ moved first eff.Keep (stage.Remove w (rmv.SetMark a))
  stamp_passes h = rw h refl

  stamp_misses : first.stamped ≡ false → decides (rmv.TestStamp a) ≡ missing w
  stamp_misses h = rw h refl

  mark_passes : first.marked ≡ false → decides (rmv.SetMark a) ≡ marking jobs.TakeBack first a
  mark_passes h = rw h refl

  mark_misses : first.marked ≡ true → decides (rmv.SetMark a) ≡ missing w
  mark_misses h = rw h refl

-- what is stored for it in the processor's bytes
module _ (c : Processor) (w : Wanted) (a : Place) where
  abbrev storing : Remove → List (ℕ × ℕ) → List ℕ
  storing g fs = puts_in (processor_image (moves c (stage.Remove w g) c.saved)) fs

  abbrev bytes_with : List ℕ → Remove → List ℕ
  bytes_with saved g = processor_image (moves c (stage.Remove w g) saved)

  search_moves : (x : ℕ) →
      storing (rmv.Search a) ((6, x) ∷ []) ≡ bytes_with c.saved (rmv.Search (place x a.level))
  unfolding processor_image
  search_moves x = refl

  read_moves : (x : ℕ) → storing (rmv.ReadNext a) ((6, x) ∷ (7, 1) ∷ [])
      ≡ bytes_with c.saved (rmv.ReadNext (place x 1))
  unfolding processor_image
  read_moves x = refl

  read_stays : (x : ℕ) → storing (rmv.ReadNext a) ((5, 31) ∷ (6, x) ∷ (7, 1) ∷ [])
      ≡ bytes_with c.saved (rmv.TestStamp (place x 1))
  unfolding processor_image
  read_stays x = refl

  stamp_leaves : storing (rmv.TestStamp a) ((5, 32) ∷ []) ≡ bytes_with c.saved (rmv.SetMark a)
  unfolding processor_image
  stamp_leaves = refl

  -- the node x marked, and the Search of its removal begun on so many levels
  mark_starts : (x levels : ℕ) →
      storing (rmv.SetMark a)
      (((4, x) ∷ (5, 14) ∷ (6, 0) ∷ (7, levels) ∷ (17, 1) ∷ []) ++ wants 0 0)
      ≡ processor_image
      (record {
        begin = c.begin;
        own = x;
        stage = removing jobs.TakeBack (rem.Search (place 0 levels));
        saved = c.saved;
      })
  unfolding processor_image
  mark_starts x levels = refl

  -- with a saved node
  module _ (long : length c.saved ≡ 8) (k v : ℕ) (low : k < 8) where
    search_saves : (i : ℕ) → storing (rmv.Search a) ((9 + k, v) ∷ (7, i) ∷ [])
        ≡ bytes_with (set c.saved k v) (rmv.Search (place a.node i))
    unfolding processor_image
    search_saves i =
        put_saved (moves c (stage.Remove w (rmv.Search a)) c.saved) k v ((7, i) ∷ []) low long

    search_leaves : storing (rmv.Search a) ((9 + k, v) ∷ (5, 30) ∷ [])
        ≡ bytes_with (set c.saved k v) (rmv.ReadNext a)
    unfolding processor_image
    search_leaves =
        put_saved (moves c (stage.Remove w (rmv.Search a)) c.saved) k v ((5, 30) ∷ []) low long

-- the stage g of the tag: what it decides, and what is stored for it
module _ (b : List ℕ) (base p tag : ℕ) (r : Seeking b base p tag) (g : Remove)
    (is : stage_of (code_in b p tag) ≡ stage.Remove (wanted b p) g) where
  abbrev view : Place → StepView
  view a = step_view_of (queue_in b) (processor_at (queue_in b) p) a

  abbrev decided : Decision
  decided =
      decide (view (reading_place (stage.Remove (wanted b p) g))) (stage.Remove (wanted b p) g)

  at_stage : (processor_at (queue_in b) p).stage ≡ stage.Remove (wanted b p) g
  at_stage =
      stage_is b p tag r.walked.processors_high r.walked.low r.walked.tagged ∙ is

  -- the node after the place at the level i, against the key
  module _ (i : ℕ) (low : 1 ≤ i) (high : i ≤ 8)
      (leads : next_in b base (mine b p 6) i ≤ get_or b 1 0 + 1) where
    next_at : (view (place (mine b p 6) i)).next ≡ next_in b base (mine b p 6) i
    next_at =
        next_from b base r.walked.start r.walked.nodes_high (mine b p 6) i
        r.walked.node_low low high

    before_at :
        (view (place (mine b p 6) i)).next_before_key
        ≡ key_before (key_in b base (next_in b base (mine b p 6) i))
        (entry_key (wanted_due_in b p) (wanted_ticket_in b p))
    before_at =
        wanted_before b base p r.walked.start r.walked.nodes_high (wanted b p) g at_stage
        (place (mine b p 6) i) (next_in b base (mine b p 6) i) next_at leads

    there_at :
        (view (place (mine b p 6) i)).next_has_key
        ≡ key_same (key_in b base (next_in b base (mine b p 6) i))
        (entry_key (wanted_due_in b p) (wanted_ticket_in b p))
    there_at =
        wanted_there b base p r.walked.start r.walked.nodes_high (wanted b p) g at_stage
        (place (mine b p 6) i) (next_in b base (mine b p 6) i) next_at leads

  -- a step that decides d
  module _ (d : Decision) (decides : decided ≡ d) (after : List ℕ) (answer : Answer) where
    steps :
        (es fs : List (ℕ × ℕ)) → node_of d.effect < get_or b 1 0 + 2 → Below 41 es → Below 26 fs →
        puts_in (node_image (node_at (queue_in b) (node_of d.effect))) es
        ≡ node_image
        (changed (queue_in b).level_count ((queue_in b).node_count + 1) (p + 1) ((queue_in b).clock + 1)
        d.effect (node_at (queue_in b) (node_of d.effect))) →
        puts_in (processor_image
        (moves (processor_at (queue_in b) p) (stage.Remove (wanted b p) g)
        (processor_at (queue_in b) p).saved)) fs
        ≡ processor_image
        (processor_after (queue_in b).level_count ((queue_in b).clock + 1) (processor_at (queue_in b) p)
        d) →
        after ≡ puts
        (puts (puts b 0 (four 3 (number32 b 3 + 1))) (base + 41 * node_of d.effect) es)
        (7 + 26 * p) fs →
        answer ≡ d.answer →
        Stepped b p after answer
    steps es fs x< es< fs< node processor e f =
        let w = r.walked in
        arm b base p tag w.sound w.start w.nodes_high w.processors_high w.low
        w.few w.early w.tagged (stage.Remove (wanted b p) g) is refl d decides es fs x< es<
        fs< node processor after e answer f

  -- N, at any of the stages
  errand : errand_bytes (stage_code (stage.Remove (wanted b p) g))
      ≡ (0 ∷ []) ++ bytes_of32 (wanted_due_in b p) ++ bytes_of32 (wanted_ticket_in b p)
  errand = of g
    where
      of : (g : Remove) → errand_bytes (stage_code (stage.Remove (wanted b p) g))
          ≡ (0 ∷ []) ++ bytes_of32 (wanted_due_in b p) ++ bytes_of32 (wanted_ticket_in b p)
      of (rmv.Search a) = refl
      of (rmv.ReadNext a) = refl
      of (rmv.TestStamp a) = refl
      of (rmv.SetMark a) = refl

  misses :
      decided ≡ missing (wanted b p) → (after : List ℕ) (answer : Answer) →
      answer ≡ ans.NotThere (wanted b p) →
      after ≡ lost b p →
      Stepped b p after answer
  misses decides after answer f e =
      let c = processor_at (queue_in b) p in
      let w = r.walked in
      steps (missing (wanted b p)) decides after answer
      [] ((clears (get_or b 2 0) ++ rests) ++ wants 0 0) (omega arith) tt
      (ends_below (get_or b 2 0) (wants 0 0) w.levels_high (fits_below 26 (wants 0 0) refl))
      refl
      (rw (levels_is b)
      (put_idle_key (moves c (stage.Remove (wanted b p) g) c.saved) (get_or b 2 0) w.levels_high
      ((sized_in b).saved_long p w.few) (wanted_due_in b p) (wanted_ticket_in b p) errand))
      e f

-- the key of node x, against the one that is carried
abbrev pub earlier : List ℕ → ℕ → ℕ → ℕ → Bool
earlier b base p x =
    key_before (key_in b base x) (entry_key (wanted_due_in b p) (wanted_ticket_in b p))

abbrev pub same : List ℕ → ℕ → ℕ → ℕ → Bool
same b base p x = key_same (key_in b base x) (entry_key (wanted_due_in b p) (wanted_ticket_in b p))

-- the Search
module _ (b : List ℕ) (base p : ℕ) (r : Seeking b base p 29) (after : List ℕ) (answer : Answer)
  where
    abbrev x : ℕ
    x = onward b base p

    searched : (view b base p 29 r (rmv.Search (at b p)) refl (at b p)).next_before_key
        ≡ earlier b base p x
    searched =
        before_at b base p 29 r (rmv.Search (at b p)) refl (mine b p 7) r.level_low
        r.level_high r.next_low

    pub search_ahead :
        true ≡ earlier b base p x →
        after ≡ puts (puts b 0 (four 3 (number32 b 3 + 1))) (7 + 26 * p) ((6, x) ∷ []) →
        answer ≡ ans.Moved →
        Stepped b p after answer
    search_ahead h e f =
        let g = rmv.Search (at b p) in
        let c = processor_at (queue_in b) p in
        let w = wanted b p in
        let see = view b base p 29 r g refl in
        steps b base p 29 r g refl
        (moved (see (at b p)) eff.Keep (stage.Remove w (rmv.Search (place x (mine b p 7)))))
        (search_goes see w (at b p) (searched ∙ sym h)
        ∙ ap (λ (n : ℕ). moved (see (at b p)) eff.Keep
        (stage.Remove w (rmv.Search (place n (mine b p 7)))))
        (next_at b base p 29 r g refl (mine b p 7) r.level_low r.level_high r.next_low))
        after answer [] ((6, x) ∷ []) (omega arith) tt (fits_below 26 ((6, x) ∷ []) refl) refl
        (search_moves c w (at b p) x) e f

    pub search_down :
        false ≡ earlier b base p x → 1 < mine b p 7 →
        after ≡ puts (puts b 0 (four 3 (number32 b 3 + 1))) (7 + 26 * p)
        ((9 + (mine b p 7 - 1), mine b p 6) ∷ (7, mine b p 7 - 1) ∷ []) →
        answer ≡ ans.Moved →
        Stepped b p after answer
    search_down h i e f =
        let g = rmv.Search (at b p) in
        let c = processor_at (queue_in b) p in
        let w = wanted b p in
        let see = view b base p 29 r g refl in
        let k = mine b p 7 - 1 in
        let k< : k < 8 = omega (arith, r.level_high, r.level_low) in
        steps b base p 29 r g refl
        (saving (see (at b p)) (at b p) (stage.Remove w (rmv.Search (place (mine b p 6) k))))
        (search_falls see w (at b p) (searched ∙ sym h) (lt-leb _ _ i))
        after answer [] ((9 + k, mine b p 6) ∷ (7, k) ∷ []) (omega arith) tt
        (omega arith, (omega arith, tt)) refl
        (search_saves c w (at b p) ((sized_in b).saved_long p r.walked.few) k (mine b p 6) k< k)
        e f

    pub search_done :
        false ≡ earlier b base p x → mine b p 7 ≤ 1 →
        after ≡ puts (puts b 0 (four 3 (number32 b 3 + 1))) (7 + 26 * p)
        ((9 + (mine b p 7 - 1), mine b p 6) ∷ (5, 30) ∷ []) →
        answer ≡ ans.Moved →
        Stepped b p after answer
    search_done h i e f =
        let g = rmv.Search (at b p) in
        let c = processor_at (queue_in b) p in
        let w = wanted b p in
        let see = view b base p 29 r g refl in
        let k = mine b p 7 - 1 in
        let k< : k < 8 = omega (arith, r.level_high, r.level_low) in
        steps b base p 29 r g refl
        (saving (see (at b p)) (at b p) (stage.Remove w (rmv.ReadNext (at b p))))
        (search_ends see w (at b p) (searched ∙ sym h) (le-leb _ _ i))
        after answer [] ((9 + k, mine b p 6) ∷ (5, 30) ∷ []) (omega arith) tt
        (omega arith, (omega arith, tt)) refl
        (search_leaves c w (at b p) ((sized_in b).saved_long p r.walked.few) k (mine b p 6) k<)
        e f

-- on along level 1
module _ (b : List ℕ) (base p : ℕ) (r : Seeking b base p 30) (after : List ℕ) (answer : Answer)
  where
    abbrev y : ℕ
    y = next_in b base (mine b p 6) 1

    abbrev level1 : Place
    level1 = place (mine b p 6) 1

    read_before : (view b base p 30 r (rmv.ReadNext (at b p)) refl level1).next_before_key
        ≡ earlier b base p y
    read_before =
        before_at b base p 30 r (rmv.ReadNext (at b p)) refl 1 (omega arith) (omega arith)
        r.first_low

    read_there : (view b base p 30 r (rmv.ReadNext (at b p)) refl level1).next_has_key
        ≡ same b base p y
    read_there =
        there_at b base p 30 r (rmv.ReadNext (at b p)) refl 1 (omega arith) (omega arith)
        r.first_low

    read_next : (view b base p 30 r (rmv.ReadNext (at b p)) refl level1).next ≡ y
    read_next =
        next_at b base p 30 r (rmv.ReadNext (at b p)) refl 1 (omega arith) (omega arith)
        r.first_low

    pub reads_on :
        true ≡ earlier b base p y →
        after ≡ puts (puts b 0 (four 3 (number32 b 3 + 1))) (7 + 26 * p) ((6, y) ∷ (7, 1) ∷ []) →
        answer ≡ ans.Moved →
        Stepped b p after answer
    reads_on h e f =
        let g = rmv.ReadNext (at b p) in
        let c = processor_at (queue_in b) p in
        let w = wanted b p in
        let see = view b base p 30 r g refl in
        let fs : List (ℕ × ℕ) = (6, y) ∷ (7, 1) ∷ [] in
        steps b base p 30 r g refl
        (moved (see level1) eff.Keep (stage.Remove w (rmv.ReadNext (place y 1))))
        (read_goes see w (at b p) (read_before ∙ sym h)
        ∙ ap (λ (n : ℕ). moved (see level1) eff.Keep (stage.Remove w (rmv.ReadNext (place n 1))))
        read_next)
        after answer [] fs (omega arith) tt (fits_below 26 fs refl) refl
        (read_moves c w (at b p) y) e f

    pub reads_key :
        false ≡ earlier b base p y → true ≡ same b base p y →
        after ≡ puts (puts b 0 (four 3 (number32 b 3 + 1))) (7 + 26 * p)
        ((5, 31) ∷ (6, y) ∷ (7, 1) ∷ []) →
        answer ≡ ans.Moved →
        Stepped b p after answer
    reads_key h k e f =
        let g = rmv.ReadNext (at b p) in
        let c = processor_at (queue_in b) p in
        let w = wanted b p in
        let see = view b base p 30 r g refl in
        let fs : List (ℕ × ℕ) = (5, 31) ∷ (6, y) ∷ (7, 1) ∷ [] in
        steps b base p 30 r g refl
        (moved (see level1) eff.Keep (stage.Remove w (rmv.TestStamp (place y 1))))
        (read_finds see w (at b p) (read_before ∙ sym h) (read_there ∙ sym k)
        ∙ ap (λ (n : ℕ). moved (see level1) eff.Keep (stage.Remove w (rmv.TestStamp (place n 1))))
        read_next)
        after answer [] fs (omega arith) tt (fits_below 26 fs refl) refl
        (read_stays c w (at b p) y) e f

    pub reads_none :
        false ≡ earlier b base p y → false ≡ same b base p y →
        answer ≡ ans.NotThere (wanted b p) →
        after ≡ lost b p →
        Stepped b p after answer
    reads_none h k f e =
        let g = rmv.ReadNext (at b p) in
        misses b base p 30 r g refl
        (read_misses (view b base p 30 r g refl) (wanted b p) (at b p) (read_before ∙ sym h)
        (read_there ∙ sym k)) after answer f e

-- the stamp
module _ (b : List ℕ) (base p : ℕ) (r : Seeking b base p 31) (after : List ℕ) (answer : Answer)
  where
    abbrev stamped : Bool
    stamped = stamped_before (stamp_in b (base + 41 * mine b p 6)) (number32 b (7 + 26 * p + 0))

    pub stamp_lost :
        stamped ≡ false → answer ≡ ans.NotThere (wanted b p) → after ≡ lost b p →
        Stepped b p after answer
    stamp_lost h f e =
        let g = rmv.TestStamp (at b p) in
        misses b base p 31 r g refl
        (stamp_misses (view b base p 31 r g refl) (wanted b p) (at b p)
        (stamped_is b base p 31 r.walked ∙ h)) after answer f e

    pub stamp_found :
        stamped ≡ true →
        after ≡ puts (puts b 0 (four 3 (number32 b 3 + 1))) (7 + 26 * p) ((5, 32) ∷ []) →
        answer ≡ ans.Moved →
        Stepped b p after answer
    stamp_found h e f =
        let g = rmv.TestStamp (at b p) in
        let c = processor_at (queue_in b) p in
        let w = wanted b p in
        let see = view b base p 31 r g refl in
        let fs : List (ℕ × ℕ) = (5, 32) ∷ [] in
        steps b base p 31 r g refl
        (moved (see (place (mine b p 6) 1)) eff.Keep (stage.Remove w (rmv.SetMark (at b p))))
        (stamp_passes see w (at b p) (stamped_is b base p 31 r.walked ∙ h))
        after answer [] fs (omega arith) tt (fits_below 26 fs refl) refl
        (stamp_leaves c w (at b p)) e f

-- the mark
module _ (b : List ℕ) (base p : ℕ) (r : Seeking b base p 32) (after : List ℕ) (answer : Answer)
  where
    abbrev mark_at : ℕ
    mark_at = base + 41 * mine b p 6 + 17

    pub mark_set :
        (get_or b mark_at 0 ≡ 0 → ⊥) → answer ≡ ans.NotThere (wanted b p) →
        after ≡ lost b p →
        Stepped b p after answer
    mark_set h f e =
        let g = rmv.SetMark (at b p) in
        misses b base p 32 r g refl
        (mark_misses (view b base p 32 r g refl) (wanted b p) (at b p)
        (rw (marked_is b base p 32 r.walked, lt-ltb 0 (get_or b mark_at 0) (omega arith)) refl))
        after answer f e

    pub marks :
        get_or b mark_at 0 ≡ 0 →
        after ≡ puts
        (puts (puts b 0 (four 3 (number32 b 3 + 1))) (base + 41 * mine b p 6) ((17, p + 1) ∷ []))
        (7 + 26 * p)
        (((4, mine b p 6) ∷ (5, 14) ∷ (6, 0) ∷ (7, get_or b 2 0) ∷ (17, 1) ∷ []) ++ wants 0 0) →
        answer ≡ ans.Did deed.Marked (entry_in b (base + 41 * mine b p 6)) →
        Stepped b p after answer
    marks h e f =
        let g = rmv.SetMark (at b p) in
        let q = queue_in b in
        let w = r.walked in
        let fs = ((4, mine b p 6) ∷ (5, 14) ∷ (6, 0) ∷ (7, get_or b 2 0) ∷ (17, 1) ∷ []) ++ wants 0 0
        in
        steps b base p 32 r g refl
        (record {
          effect = eff.Mark (mine b p 6);
          stage = removing jobs.TakeBack (rem.Search (place 0 (get_or b 2 0)));
          own = mine b p 6;
          change = change.Keep;
          answer = ans.Did deed.Marked (entry_in b (base + 41 * mine b p 6));
        })
        (mark_passes (view b base p 32 r g refl) (wanted b p) (at b p)
        (rw (marked_is b base p 32 w, h) refl)
        ∙ rw (
          entry_is b base w.start w.nodes_high (mine b p 6) (omega (arith, w.node_low)),
          levels_is b,
        ) refl)
        after answer ((17, p + 1) ∷ []) fs (omega (arith, w.node_low)) (omega arith, tt)
        (fits_below 26 fs refl) (put_mark (node_at q (mine b p 6)) (p + 1))
        (mark_starts (processor_at q p) (wanted b p) (at b p) (mine b p 6) (get_or b 2 0)) e f

-- what the code's stores of N come to
pub lost_stored : (b c d e : List ℕ) (p : ℕ) → c ≡ puts b 0 (four 3 (number32 b 3 + 1)) →
    d ≡ puts c (7 + 26 * p) (clears (get_or b 2 0) ++ rests) → e ≡ puts d (7 + 26 * p) (wants 0 0) →
    e ≡ lost b p
lost_stored b c d e p f g h =
    h ∙ ap (λ (l : List ℕ). puts l (7 + 26 * p) (wants 0 0))
    (g ∙ ap (λ (l : List ℕ). puts l (7 + 26 * p) (clears (get_or b 2 0) ++ rests)) f)
    ∙ sym (puts_append (puts b 0 (four 3 (number32 b 3 + 1))) (7 + 26 * p)
    (clears (get_or b 2 0) ++ rests) (wants 0 0))
