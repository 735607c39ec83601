-- What a stage reads, by its bytes; and one law for every step, by what its stage decides and
-- stores. Assumes nothing.
use mathlib.Core.Path.{◌≡◌, refl, sym, ◌∙◌, ap}
use mathlib.Core.Bool.{Bool, true, false, ◌&&◌, false≢true}
use mathlib.Core.List.{List, [], ◌∷◌, ◌++◌, append_assoc}
use Prim.Native.Nat.{ℕ, zero, suc, ◌+◌, ◌*◌, ◌-◌, ◌≤◌, ◌<◌}
use native.Mathlib.Omega.{arith}
use lib.Dec.{ltb}
use lib.ListN.{get_or}
use borrow.Author.Tests.{ltb-true}
use Rattle.laws.proofs.Counting.{and_left, and_right}
use Rattle.record.specs.declared.keys.Key.{Key}
use Rattle.record.specs.declared.nodes.Node.{Node}
use Rattle.record.specs.declared.queues.Processor.{Processor}
use Rattle.record.specs.declared.stages.Job.{Job}
use Rattle.record.specs.declared.stages.Place.{Place}
use Rattle.record.specs.declared.stages.Wanted.{Wanted}
use Rattle.record.specs.declared.stages.Remove.{Remove}
use Rattle.record.specs.declared.stages.Remove.TheVariants as rmv
use Rattle.record.specs.declared.stages.Stage.{Stage}
use Rattle.record.specs.declared.stages.Stage.TheVariants as stage
use Rattle.record.specs.Keys.{node_key, entry_key, key_before, key_same}
use Rattle.record.specs.Nodes.{key_of, lock_at}
use Rattle.record.specs.Queues.{node_at, processor_at, saved_at}
use Rattle.record.specs.Stages.{place, row_of, is_idle}
use Rattle.image.specs.Tags.{Code, code, job_of, stage_of}
use Rattle.image.specs.Numbers.{number32}
use Rattle.image.specs.Pieces.{node_image, processor_image}
use Rattle.rules.specs.declared.answers.Answer.{Answer}
use Rattle.rules.specs.declared.decisions.Decision.{Decision}
use Rattle.rules.specs.declared.calls.Call.TheVariants as call
use Rattle.rules.specs.Calls.{called_valid, entry_of, reading_place, key_for, at_key, next_of}
use Rattle.rules.specs.Calls.{step_view_of, step_decision}
use Rattle.rules.specs.Effects.{node_of, changed, processor_after, accepted}
use Rattle.rules.specs.Decide.{decide}
use Rattle.image.specs.Puts.{puts, puts_in, four, piece, clears, rests}
use Rattle.image.specs.Image.{start_of, queue_in, Sound}
use Rattle.image_parts.specs.Given.{Stepped}
use Rattle.image_parts.specs.Reads.{entry_in}
use Rattle.image.proofs.Puts.{Below}
use Rattle.image.proofs.Fields.{number, node_is, processor_is, eight_at, number_at}
use Rattle.image_parts.specs.Ready.{next_in, key_in, Placed, Owned}
use Rattle.image_parts.proofs.Pieces.{moves}
use Rattle.rules.proofs.Inner.{step_accepted}
use Rattle.image_parts.proofs.Given.{gives}

head_is : (b : List ℕ) (base : ℕ) → base ≡ start_of b → base ≡ 7 + 26 * (queue_in b).processor_count
unfolding queue_in
head_is b base h = h

tail_is : (b : List ℕ) (x : ℕ) → x < get_or b 1 0 + 2 → x < (queue_in b).node_count + 2
unfolding queue_in
tail_is b x h = h

low_is : (b : List ℕ) (p : ℕ) → p < get_or b 0 0 → p < (queue_in b).processor_count
unfolding queue_in
low_is b p h = h

pub clock_is : (b : List ℕ) → (queue_in b).clock ≡ number32 b 3
unfolding queue_in
clock_is b = refl

-- the bytes of processor p, and the node after its place
abbrev pub mine : List ℕ → ℕ → ℕ → ℕ
mine b p j = get_or b (7 + 26 * p + j) 0

-- the numbers of its stage, with this tag; and the job of a removal
abbrev pub code_in : List ℕ → ℕ → ℕ → Code
code_in b p tag =
    code tag (mine b p 6) (mine b p 7) (mine b p 8) (mine b p 17) (number32 b (7 + 26 * p + 18))
    (number32 b (7 + 26 * p + 22))

abbrev pub job_at : List ℕ → ℕ → Job
job_at b p = job_of (mine b p 17)

pub stage_is :
    (b : List ℕ) (p tag : ℕ) → get_or b 0 0 ≤ 16 → p < get_or b 0 0 → mine b p 5 ≡ tag →
    (processor_at (queue_in b) p).stage ≡ stage_of (code_in b p tag)
stage_is b p tag many low tagged =
    let o = 7 + 26 * p in
    let f = piece b o in
    let coded : ℕ → ℕ → Code = code (f 5) (f 6) (f 7) (f 8) (f 17) in
    ap (λ (c : Processor). c.stage) (processor_is b p many low)
    ∙ ap (λ (d : ℕ). stage_of (coded d (number f 22))) (sym (number_at b o 18))
    ∙ ap (λ (t : ℕ). stage_of (coded (number32 b (o + 18)) t)) (sym (number_at b o 22))
    ∙ ap (λ (t : ℕ). stage_of (code_in b p t)) tagged

abbrev pub onward : List ℕ → ℕ → ℕ → ℕ
onward b base p = get_or b (base + 41 * mine b p 6 + (mine b p 7 - 1)) 0

module _ (b : List ℕ) (base : ℕ) (start : base ≡ start_of b) (short : get_or b 1 0 ≤ 200) where
  pub key_is : (x : ℕ) → x ≤ get_or b 1 0 + 1 → key_of (queue_in b).node_count x (node_at (queue_in b) x)
      ≡ key_in b base x
  unfolding queue_in
  key_is x h =
      ap (λ (n : Node). node_key (get_or b 1 0) x n.due n.ticket)
      (node_is b base start short x (omega arith))
      ∙ rw (number_at b (base + 41 * x) 23, number_at b (base + 41 * x) 27) refl

  pub next_from :
      (x i : ℕ) → x ≤ get_or b 1 0 + 1 → 1 ≤ i → i ≤ 8 →
      next_of (queue_in b) (place x i) ≡ next_in b base x i
  next_from x i h l m =
      let o = base + 41 * x in
      let z : 0 + (i - 1) ≡ i - 1 = omega arith in
      ap (λ (n : Node). get_or n.forward (i - 1) 0) (node_is b base start short x (omega arith))
      ∙ eight_at (piece b o) 0 (i - 1) (omega arith) ∙ ap (piece b o) z

-- the operation's key is the own node's, at a stage that has one
own_key : (g : Stage) (k : Key) → (row_of g).owns ≡ true → key_for g k ≡ k
own_key stage.Idle k h = refl
own_key (stage.Insert i) k h = refl
own_key (stage.Delete d) k h = refl
own_key (stage.Relaxed d) k h = refl
own_key (stage.Remove w (rmv.Search a)) k h = absurd (false≢true h)
own_key (stage.Remove w (rmv.ReadNext a)) k h = absurd (false≢true h)
own_key (stage.Remove w (rmv.TestStamp a)) k h = absurd (false≢true h)
own_key (stage.Remove w (rmv.SetMark a)) k h = absurd (false≢true h)
own_key (stage.Removal j r) k h = refl

module _ (b : List ℕ) (base p tag : ℕ) (r : Placed b base p tag) where
  pub own_is : (processor_at (queue_in b) p).own ≡ mine b p 4
  own_is = ap (λ (c : Processor). c.own) (processor_is b p r.processors_high r.low)

  pub next_is : next_of (queue_in b) (place (mine b p 6) (mine b p 7)) ≡ onward b base p
  next_is =
      next_from b base r.start r.nodes_high (mine b p 6) (mine b p 7) r.node_low
      r.level_low r.level_high

  pub before_is :
      (step_view_of (queue_in b) (processor_at (queue_in b) p) (place (mine b p 6) (mine b p 7))).next_before_key
      ≡ key_before (key_in b base (onward b base p)) (key_in b base (mine b p 4))
  before_is =
      let q = queue_in b in
      let k : ℕ → Key = λ y. key_of q.node_count y (node_at q y) in
      ap (key_before (k (next_of q (place (mine b p 6) (mine b p 7)))))
      (own_key (processor_at q p).stage (k (processor_at q p).own) r.owns)
      ∙ ap (λ (y : ℕ). key_before (k y) (k (processor_at q p).own)) next_is
      ∙ ap (λ (y : ℕ). key_before (k (onward b base p)) (k y)) own_is
      ∙ ap (λ (y : Key). key_before y (k (mine b p 4)))
      (key_is b base r.start r.nodes_high (onward b base p) r.next_low)
      ∙ ap (λ (y : Key). key_before (key_in b base (onward b base p)) y)
      (key_is b base r.start r.nodes_high (mine b p 4)
      (omega (arith, r.own_high, r.nodes_high)))

-- a Remove's key: whether the node after a place is before it, and whether it has it
module _ (b : List ℕ) (base p : ℕ) (start : base ≡ start_of b) (short : get_or b 1 0 ≤ 200)
    (w : Wanted) (g : Remove) (is : (processor_at (queue_in b) p).stage ≡ stage.Remove w g)
    (a : Place) (y : ℕ) (next : next_of (queue_in b) a ≡ y) (high : y ≤ get_or b 1 0 + 1) where
  abbrev ahead_key : ℕ → Key
  ahead_key x = key_of (queue_in b).node_count x (node_at (queue_in b) x)

  ahead_is : ahead_key (next_of (queue_in b) a) ≡ key_in b base y
  ahead_is = ap ahead_key next ∙ key_is b base start short y high

  pub wanted_before :
      (step_view_of (queue_in b) (processor_at (queue_in b) p) a).next_before_key
      ≡ key_before (key_in b base y) (entry_key w.due w.ticket)
  wanted_before =
      ap (λ (g : Stage). key_before (ahead_key (next_of (queue_in b) a))
      (key_for g (ahead_key (processor_at (queue_in b) p).own))) is
      ∙ ap (λ (k : Key). key_before k (entry_key w.due w.ticket)) ahead_is

  pub wanted_there :
      (step_view_of (queue_in b) (processor_at (queue_in b) p) a).next_has_key
      ≡ key_same (key_in b base y) (entry_key w.due w.ticket)
  wanted_there =
      ap (λ (g : Stage). at_key g (ahead_key (next_of (queue_in b) a))) is
      ∙ ap (λ (k : Key). key_same k (entry_key w.due w.ticket)) ahead_is

-- a step at the stage g, whose bytes are read: what is decided, and what is stored in one node and
-- in the processor
module _ (b : List ℕ) (base p tag : ℕ) (s : Sound b) (start : base ≡ start_of b)
    (short : get_or b 1 0 ≤ 200) (many : get_or b 0 0 ≤ 16) (low : p < get_or b 0 0) (few : p < 16)
    (early : number32 b 3 < 999999) (tagged : mine b p 5 ≡ tag) (g : Stage)
    (is : stage_of (code_in b p tag) ≡ g) (busy : is_idle g ≡ false) (d : Decision)
    (decides : decide (step_view_of (queue_in b) (processor_at (queue_in b) p) (reading_place g)) g
    ≡ d) where
  at_stage : (processor_at (queue_in b) p).stage ≡ g
  at_stage = stage_is b p tag many low tagged ∙ is

  pub arm :
      (es fs : List (ℕ × ℕ)) → node_of d.effect < get_or b 1 0 + 2 → Below 41 es → Below 26 fs →
      puts_in (node_image (node_at (queue_in b) (node_of d.effect))) es
      ≡ node_image
      (changed (queue_in b).level_count ((queue_in b).node_count + 1) (p + 1) ((queue_in b).clock + 1)
      d.effect (node_at (queue_in b) (node_of d.effect))) →
      puts_in (processor_image
      (moves (processor_at (queue_in b) p) g (processor_at (queue_in b) p).saved)) fs
      ≡ processor_image
      (processor_after (queue_in b).level_count ((queue_in b).clock + 1) (processor_at (queue_in b) p) d)
      →
      (after : List ℕ) →
      after ≡ puts
      (puts (puts b 0 (four 3 (number32 b 3 + 1))) (base + 41 * node_of d.effect) es)
      (7 + 26 * p) fs →
      (r : Answer) → r ≡ d.answer →
      Stepped b p after r
  arm es fs x< es< fs< node processor after e r f =
      let q = queue_in b in
      let c = processor_at q p in
      let decided : step_decision q c ≡ d =
      ap (λ (x : Stage). decide (step_view_of q c (reading_place x)) x) at_stage ∙ decides in
      gives b base p s (head_is b base start) (low_is b p low) d (called_valid q (call.Step p))
      (step_accepted q p (rw (clock_is b) early) (low_is b p low) (ap is_idle at_stage ∙ busy)
      ∙ ap (accepted q p) decided)
      es fs (tail_is b (node_of d.effect) x<) es< fs< node
      (ap (λ (x : Stage). puts_in (processor_image (moves c x c.saved)) fs) at_stage ∙ processor)
      after (rw (clock_is b) e) r f

-- what the stages of an Insert read besides
module _ (b : List ℕ) (base p tag : ℕ) (r : Placed b base p tag) where
  pub place_lock_is : lock_at (node_at (queue_in b) (mine b p 6)) (mine b p 7)
      ≡ get_or b (base + 41 * mine b p 6 + (8 + (mine b p 7 - 1))) 0
  place_lock_is =
      let k = mine b p 7 - 1 in
      ap (λ (n : Node). get_or n.level_locks k 0)
      (node_is b base r.start r.nodes_high (mine b p 6) (omega (arith, r.node_low)))
      ∙ eight_at (piece b (base + 41 * mine b p 6)) 8 k (omega (arith, r.level_low, r.level_high))

  pub height_is : (node_at (queue_in b) (processor_at (queue_in b) p).own).height
      ≡ get_or b (base + 41 * mine b p 4 + 35) 0
  height_is =
      ap (λ (x : ℕ). (node_at (queue_in b) x).height) (own_is b base p tag r)
      ∙ ap (λ (n : Node). n.height)
      (node_is b base r.start r.nodes_high (mine b p 4)
      (omega (arith, r.own_high, r.nodes_high)))

  pub up_is : mine b p 7 < 8 → saved_at (processor_at (queue_in b) p) (mine b p 7 + 1)
      ≡ mine b p (9 + mine b p 7)
  up_is h =
      let z : mine b p 7 + 1 - 1 ≡ mine b p 7 = omega arith in
      rw z (ap (λ (c : Processor). get_or c.saved (mine b p 7) 0)
      (processor_is b p r.processors_high r.low)
      ∙ eight_at (piece b (7 + 26 * p)) 9 (mine b p 7) h)

-- stages with no place
pub levels_is : (b : List ℕ) → (queue_in b).level_count ≡ get_or b 2 0
unfolding queue_in
levels_is b = refl

pub clears_below : (l : ℕ) (es : List (ℕ × ℕ)) → l ≤ 8 → Below 26 es → Below 26 (clears l ++ es)
clears_below zero es h k = k
clears_below (suc l) es h k =
    rw (append_assoc (clears l) ((9 + l, 0) ∷ []) es)
    (clears_below l ((9 + l, 0) ∷ es) (omega arith) (omega arith, k))

-- stores at places that are all low, by their numbers; and these, then others
abbrev low_test : ℕ → List (ℕ × ℕ) → Bool
low_test w [] = true
low_test w (e ∷ es) = ltb e.0 w && low_test w es

pub fits_below : (w : ℕ) (es : List (ℕ × ℕ)) → low_test w es ≡ true → Below w es
fits_below w [] h = tt
fits_below w (e ∷ es) h = (
  ltb-true e.0 w (and_left (ltb e.0 w) (low_test w es) h),
  fits_below w es (and_right (ltb e.0 w) (low_test w es) h),
)

pub below_both : (w : ℕ) (xs ys : List (ℕ × ℕ)) → Below w xs → Below w ys → Below w (xs ++ ys)
below_both w [] ys h k = k
below_both w (x ∷ xs) ys h k = (h.0, below_both w xs ys h.1 k)

-- what is stored where an operation ends
pub ends_below :
    (l : ℕ) (es : List (ℕ × ℕ)) → l ≤ 8 → Below 26 es → Below 26 ((clears l ++ rests) ++ es)
ends_below l es few k =
    rw (append_assoc (clears l) rests es)
    (clears_below l (rests ++ es) few (below_both 26 rests es (fits_below 26 rests refl) k))

module _ (b : List ℕ) (base p tag : ℕ) (r : Owned b base p tag) where
  pub mine_is : (processor_at (queue_in b) p).own ≡ mine b p 4
  mine_is = ap (λ (c : Processor). c.own) (processor_is b p r.processors_high r.low)

  pub own_low : mine b p 4 < get_or b 1 0 + 2
  own_low = omega (arith, r.own_high, r.nodes_high)

pub entry_is : (b : List ℕ) (base : ℕ) → base ≡ start_of b → get_or b 1 0 ≤ 200 → (x : ℕ) →
    x < get_or b 1 0 + 2 → entry_of (node_at (queue_in b) x) ≡ entry_in b (base + 41 * x)
entry_is b base start short x h =
    ap entry_of (node_is b base start short x h)
    ∙ rw (
      number_at b (base + 41 * x) 23,
      number_at b (base + 41 * x) 27,
      number_at b
          (base + 41 * x) 31,
    ) refl
