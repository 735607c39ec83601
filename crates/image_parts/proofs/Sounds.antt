-- What a step may take for granted, from check 21; and the bytes after it. Assumes nothing.
use Rattle.std.specs.Prelude.{Some, None}
use mathlib.Core.Path.{◌≡◌, refl, sym, ◌∙◌, ap, subst}
use mathlib.Core.Bool.{true}
use mathlib.Core.List.{List}
use Prim.Native.Nat.{ℕ, ◌+◌, ◌*◌, ◌-◌, ◌≤◌, ◌<◌}
use native.Mathlib.Omega.{arith}
use lib.ListN.{length, get_or, drop}
use lib.Seq.{get_or-take, get_or-drop}
use Rattle.record_check.specs.Check.{sizes_of, valid}
use Rattle.record.specs.declared.nodes.Node.{Node}
use Rattle.record.specs.declared.queues.Processor.{Processor}
use Rattle.record.specs.declared.queues.Queue.{Queue}
use Rattle.record.specs.declared.refusals.Refusal.{Refusal}
use Rattle.record.specs.Refusals.{refusal_number}
use Rattle.record.specs.declared.stages.Place.{Place}
use Rattle.record.specs.declared.stages.Seek.TheVariants as seek
use Rattle.record.specs.declared.stages.Insert.TheVariants as ins
use Rattle.record.specs.declared.stages.Removal.TheVariants as rem
use Rattle.record.specs.declared.stages.Delete.TheVariants as del
use Rattle.record.specs.declared.stages.Relaxed.TheVariants as rlx
use Rattle.record.specs.declared.stages.Remove.TheVariants as rmv
use Rattle.record.specs.declared.stages.Stage.TheVariants as stage
use Rattle.record.specs.declared.stages.Stage.{Stage}
use Rattle.record.specs.Nodes.{fresh_node}
use Rattle.record.specs.Queues.{node_at, processor_at}
use Rattle.record.specs.Stages.{place, wanted_of, carried}
use Rattle.image.specs.Tags.{stage_code, stage_of}
use Rattle.image.specs.Layout.{wanted_due_in, wanted_ticket_in}
use Rattle.image.specs.Numbers.{number32}
use Rattle.image.specs.Pieces.{processor_image}
use Rattle.rules.specs.declared.answers.Answer.{Answer}
use Rattle.rules.specs.declared.answers.Answer.TheVariants as ans
use Rattle.rules.specs.declared.answers.Outcome.{Outcome}
use Rattle.rules.specs.Answers.{refused}
use Rattle.rules.specs.declared.calls.Call.{Call}
use Rattle.rules.specs.Calls.{taken, node_refusal, called_valid}
use Rattle.rules.proofs.ValidFacts.{ValidWanted, ValidCarried, ValidQueue, valid_facts}
use Rattle.rules.proofs.Allowed.{first_told, first_none}
use Rattle.rules.proofs.Inner.{call_inner, call_told}
use Rattle.image_parts.proofs.Kept.{sized_after}
use Rattle.image.specs.Image.{image_of, start_of, processor_part, queue_in, Sound}
use Rattle.image_parts.specs.Given.{Gives, refusal_in, Called}
use Rattle.image.specs.OneToOne.{Trim}
use Rattle.image.proofs.Inverse.{trim_in, processor_part_lem, read_write}
use Rattle.image.proofs.Sizes.{sized_in}
use Rattle.image.proofs.Lengths.{length_image}
use Rattle.rules.specs.Demand3.{SameOutside}
use Rattle.rules.specs.Runs.{Turn, calls, after}
use Rattle.rules.proofs.Untouched.{untouched}
use Rattle.rules.proofs.Valid.{kept_valid}
use Rattle.image.proofs.Fields.{processor_is, node_is}
use Rattle.image_parts.specs.Ready.{height_in, next_in, Placed, Owned, Walked, Seeking}
use Rattle.image_parts.proofs.Readings.{mine, onward, code_in, stage_is, next_from}

-- what each stage may take for granted, by what the stage of its tag carries
module _ (b : List ℕ) (base p tag : ℕ) (s : Sound b) (start : base ≡ start_of b)
    (low : p < get_or b 0 0) (early : number32 b 3 < 999999) (tagged : mine b p 5 ≡ tag) where
  facts : ValidQueue (queue_in b)
  facts = valid_facts (queue_in b) s.passes

  many : get_or b 0 0 ≤ 16
  unfolding queue_in
  many = facts.sizes.processor_count.high

  short : get_or b 1 0 ≤ 200
  unfolding queue_in
  short = facts.sizes.node_count.high

  few : get_or b 2 0 ≤ 8
  unfolding queue_in
  few = facts.sizes.level_count.high

  long : length b ≡ base + 41 * (get_or b 1 0 + 2)
  long = s.long ∙ ap (λ (k : ℕ). k + 41 * (get_or b 1 0 + 2)) (sym start)

  abbrev told : Stage
  told = stage_of (code_in b p tag)

  at_stage : (processor_at (queue_in b) p).stage ≡ told
  at_stage = stage_is b p tag many low tagged

  carries : ValidCarried (sizes_of (queue_in b)) (carried told) (mine b p 4)
  unfolding queue_in
  carries =
      let c = processor_at (queue_in b) p in
      let o : c.own ≡ mine b p 4 =
      ap (λ (c : Processor). c.own) (processor_is b p many low) in
      subst (λ (g : Stage). ValidCarried (sizes_of (queue_in b)) (carried g) (mine b p 4)) at_stage
      (subst (λ (x : ℕ). ValidCarried (sizes_of (queue_in b)) (carried c.stage) x) o
      (facts.processors p low).carries)

  -- the own node, and its height
  owning :
      (carried told).own ≡ true →
      (1 ≤ mine b p 4) × (mine b p 4 ≤ get_or b 1 0)
      × (1 ≤ height_in b base (mine b p 4)) × (height_in b base (mine b p 4) ≤ 8)
  unfolding queue_in
  owning own =
      let x = mine b p 4 in
      let w = carries.has_own own in
      let h = (facts.nodes x (omega arith)).height in
      let e : (node_at (queue_in b) x).height ≡ height_in b base x =
      ap (λ (n : Node). n.height) (node_is b base start short x (omega arith)) in (
        w.low,
        w.high,
        rw e at h.low,
        omega (arith, rw e at h.high, few),
      )

  -- where a node leads at a level
  leads : (x i : ℕ) → x ≤ get_or b 1 0 + 1 → 1 ≤ i → i ≤ get_or b 2 0 →
      next_in b base x i ≤ get_or b 1 0 + 1
  unfolding queue_in
  leads x i h l m =
      rw (next_from b base start short x i h l (omega (arith, few))) at
      ((facts.nodes x h).forward (i - 1) (omega arith))

  -- the place, and where it leads at its level
  placing :
      (carried told).place ≡ place (mine b p 6) (mine b p 7) →
      (mine b p 6 ≤ get_or b 1 0 + 1) × (1 ≤ mine b p 7) × (mine b p 7 ≤ get_or b 2 0)
      × (onward b base p ≤ get_or b 1 0 + 1)
  unfolding queue_in
  placing at =
      let v = carries.place in
      let node : mine b p 6 ≤ get_or b 1 0 + 1 = rw (ap (λ (x : Place). x.node) at) at v.node in
      let l : 1 ≤ mine b p 7 = rw (ap (λ (x : Place). x.level) at) at v.level.low in
      let h : mine b p 7 ≤ get_or b 2 0 = rw (ap (λ (x : Place). x.level) at) at v.level.high in
      (node, l, h, leads (mine b p 6) (mine b p 7) node l h)

  -- a stage with a place and an own node
  pub placed :
      (carried told).own ≡ true → (carried told).place ≡ place (mine b p 6) (mine b p 7) →
      Placed b base p tag
  placed own at =
      let o = owning own in
      let a = placing at in
      record {
        sound = s;
        start = start;
        long = long;
        processors_high = many;
        low = low;
        few = omega (arith, many);
        early = early;
        tagged = tagged;
        node_low = a.0;
        level_low = a.1;
        level_high = omega (arith, a.2, few);
        own_low = o.0;
        own_high = o.1;
        nodes_high = short;
        height_low = o.2;
        height_high = o.3;
        next_low = a.3;
        owns = ap (λ (g : Stage). (carried g).own) at_stage ∙ own;
      }

  pub owned : (carried told).own ≡ true → Owned b base p tag
  owned own =
      let o = owning own in
      record {
        sound = s;
        start = start;
        long = long;
        processors_high = many;
        low = low;
        few = omega (arith, many);
        early = early;
        tagged = tagged;
        own_low = o.0;
        own_high = o.1;
        nodes_high = short;
        levels_high = few;
        height_low = o.2;
        height_high = o.3;
      }

  pub walked : (carried told).place.node ≡ mine b p 6 → Walked b base p tag
  unfolding queue_in
  walked at = record {
    sound = s;
    start = start;
    long = long;
    processors_high = many;
    low = low;
    few = omega (arith, many);
    early = early;
    tagged = tagged;
    node_low = rw at at carries.place.node;
    nodes_high = short;
    levels_high = few;
  }

  pub seeking :
      (carried told).place ≡ place (mine b p 6) (mine b p 7) →
      (carried told).wanted ≡ wanted_of (wanted_due_in b p) (wanted_ticket_in b p) →
      Seeking b base p tag
  seeking at key =
      let a = placing at in
      let w : ValidWanted (wanted_of (wanted_due_in b p) (wanted_ticket_in b p)) =
      subst ValidWanted key carries.wanted in
      record {
        walked = walked (ap (λ (x : Place). x.node) at);
        level_low = a.1;
        level_high = omega (arith, a.2, few);
        next_low = a.3;
        first_low = leads (mine b p 6) 1 a.0 (omega arith) (omega (arith, a.1, a.2));
        due_high = w.due;
        ticket_low = w.ticket.low;
        ticket_high = w.ticket.high;
      }

-- the record that a call gives: its image is read as it, and it passes check 21
pub trim_after : (q u : Queue) → SameOutside q u → Trim q → Trim u
trim_after q u o t =
    let p = o.processor_count in
    let n = o.node_count in
    record {
      processors_high = omega (arith, t.processors_high);
      nodes_high = omega (arith, t.nodes_high);
      nodes = λ x h l. o.nodes x (omega arith) ∙ t.nodes x (omega arith) l
          ∙ ap (λ (k : ℕ). fresh_node (k + 1)) (sym n);
      processors = λ x h l. o.processors x (omega arith) ∙ t.processors x (omega arith) l;
    }

-- the record after a call of any kind: its image is read as it, and passes
module _ (b : List ℕ) (s : Sound b) (c : Turn) (u : Queue) (is : u ≡ after (queue_in b) c) where
  pub back_after : queue_in (image_of u) ≡ u
  unfolding queue_in
  back_after =
      let q = queue_in b in
      let v = (valid_facts q s.passes).sizes in
      let t = trim_in b v.processor_count.high v.node_count.high in
      read_write u (rw is (sized_after q (sized_in b) c))
      (rw is (trim_after q (after q c) (untouched q c) t))

  sound_image : Sound (image_of u)
  unfolding queue_in
  sound_image = record {
    long = length_image u;
    image = ap image_of back_after;
    passes = ap valid back_after ∙ ap valid is ∙ kept_valid (queue_in b) c s.passes;
  }

module _ (b : List ℕ) (s : Sound b) (c : Turn) (o : Outcome) (is : o.queue ≡ after (queue_in b) c)
    (l : List ℕ) (r : Answer) (g : Gives o l r) where
  pub sound_after : Sound l
  sound_after = rw g.bytes (sound_image b s c o.queue is)

  pub queue_after_lem : queue_in l ≡ o.queue
  queue_after_lem = ap queue_in g.bytes ∙ back_after b s c o.queue is

-- the inner form is the call
pub call_is : (b : List ℕ) → Sound b → (c : Call) → (called_valid (queue_in b) c).queue
    ≡ after (queue_in b) (calls c)
call_is b s c = ap (λ (o : Outcome). o.queue) (sym (call_inner (queue_in b) c s.passes))

-- a refused call
pub refuses : (b : List ℕ) → Sound b → (o : Outcome) (n : Refusal) (r : Answer) → o
    ≡ refused (queue_in b) n → r ≡ ans.Refused (refusal_number n) → Gives o b r
refuses b s o n r e f = record {
  bytes = sym s.image ∙ ap (λ (u : Outcome). image_of u.queue) (sym e);
  answer = f ∙ ap (λ (u : Outcome). u.answer) (sym e);
}

module _ (b : List ℕ) (s : Sound b) (c : Call) where
  -- what a call leaves passes again
  pub kept_sound : (after : List ℕ) (r : Answer) → Gives (called_valid (queue_in b) c) after r →
      Called b c after r
  kept_sound after r g = (g, sound_after b s (calls c) _ (call_is b s c) after r g)

  -- refused before a node is looked for, and for want of one
  pub refused_early :
      (n : Refusal) → refusal_in b c ≡ Some n → (r : Answer) → r ≡ ans.Refused (refusal_number n) →
      Called b c b r
  refused_early n e r f =
      let at = first_told (refusal_in b c) (node_refusal c (taken (queue_in b) c)) n e in
      kept_sound b r (refuses b s _ n r (call_told (queue_in b) c n at) f)

  pub refused_late :
      refusal_in b c ≡ None → (n : Refusal) → node_refusal c (taken (queue_in b) c) ≡ Some n →
      (r : Answer) → r ≡ ans.Refused (refusal_number n) → Called b c b r
  refused_late e n g r f =
      let at = first_none (refusal_in b c) (node_refusal c (taken (queue_in b) c)) e ∙ g in
      kept_sound b r (refuses b s _ n r (call_told (queue_in b) c n at) f)

module _ (b : List ℕ) (p : ℕ) (s : Sound b) (r : Answer) where
  pub processors_high : get_or b 0 0 ≤ 16
  unfolding queue_in
  processors_high = (valid_facts (queue_in b) s.passes).sizes.processor_count.high

-- a stage's tag is at most 32
tag_low : (g : Stage) → (stage_code g).tag ≤ 32
tag_low stage.Idle = omega arith
tag_low (stage.Insert (ins.Search a)) = omega arith
tag_low (stage.Insert (ins.Copy a)) = omega arith
tag_low (stage.Insert (ins.Link a)) = omega arith
tag_low (stage.Insert (ins.FreeLevel a)) = omega arith
tag_low (stage.Insert ins.FreeNode) = omega arith
tag_low (stage.Insert ins.Stamp) = omega arith
tag_low (stage.Insert (ins.Seek (seek.Approach a))) = omega arith
tag_low (stage.Removal j (rem.Seek (seek.Approach a))) = omega arith
tag_low (stage.Insert (ins.Seek (seek.Take a))) = omega arith
tag_low (stage.Removal j (rem.Seek (seek.Take a))) = omega arith
tag_low (stage.Insert (ins.Seek (seek.Confirm a))) = omega arith
tag_low (stage.Removal j (rem.Seek (seek.Confirm a))) = omega arith
tag_low (stage.Insert (ins.Seek (seek.Release a b))) = omega arith
tag_low (stage.Removal j (rem.Seek (seek.Release a b))) = omega arith
tag_low (stage.Delete (del.ReadNext a)) = omega arith
tag_low (stage.Delete (del.TestStamp a)) = omega arith
tag_low (stage.Delete (del.SetMark a)) = omega arith
tag_low (stage.Relaxed (rlx.ReadNext a)) = omega arith
tag_low (stage.Relaxed (rlx.SetMark a)) = omega arith
tag_low (stage.Removal j (rem.Search a)) = omega arith
tag_low (stage.Removal j (rem.HoldOwn a)) = omega arith
tag_low (stage.Removal j (rem.Unlink a)) = omega arith
tag_low (stage.Removal j (rem.LeadBack a)) = omega arith
tag_low (stage.Removal j (rem.FreeOwn a)) = omega arith
tag_low (stage.Removal j (rem.FreeLevel a)) = omega arith
tag_low (stage.Removal j rem.HoldNode) = omega arith
tag_low (stage.Removal j rem.FreeNode) = omega arith
tag_low (stage.Removal j rem.Retire) = omega arith
tag_low (stage.Remove w (rmv.Search a)) = omega arith
tag_low (stage.Remove w (rmv.ReadNext a)) = omega arith
tag_low (stage.Remove w (rmv.TestStamp a)) = omega arith
tag_low (stage.Remove w (rmv.SetMark a)) = omega arith

tag_of : (c : Processor) → get_or (processor_image c) 5 0 ≡ (stage_code c.stage).tag
unfolding processor_image
tag_of c = refl

pub tag_high : (b : List ℕ) (p : ℕ) → Sound b → p < get_or b 0 0 → mine b p 5 ≤ 32
unfolding queue_in
tag_high b p s low =
    let e : mine b p 5 ≡ (stage_code (processor_at (queue_in b) p).stage).tag =
    sym (get_or-take 26 (drop (7 + 26 * p) b) 5 0 (omega arith) ∙ get_or-drop (7 + 26 * p) b 5 0)
    ∙ ap (λ (l : List ℕ). get_or (processor_part l p) 5 0) (sym s.image)
    ∙ ap (λ (l : List ℕ). get_or l 5 0) (processor_part_lem (queue_in b) p low)
    ∙ tag_of (processor_at (queue_in b) p) in
    rw e (tag_low (processor_at (queue_in b) p).stage)

more : (t k : ℕ) → k ≤ t → (t ≡ k → ⊥) → k + 1 ≤ t
more t k h n = omega arith

pub beyond :
    (t : ℕ) → (t ≡ 0 → ⊥) → (t ≡ 1 → ⊥) → (t ≡ 2 → ⊥) → (t ≡ 3 → ⊥) → (t ≡ 4 → ⊥) → (t ≡ 5 → ⊥) →
    (t ≡ 6 → ⊥) → (t ≡ 7 → ⊥) → (t ≡ 8 → ⊥) → (t ≡ 9 → ⊥) → (t ≡ 10 → ⊥) → (t ≡ 11 → ⊥) →
    (t ≡ 12 → ⊥) → (t ≡ 13 → ⊥) → (t ≡ 14 → ⊥) → (t ≡ 15 → ⊥) → (t ≡ 16 → ⊥) → (t ≡ 17 → ⊥) →
    (t ≡ 18 → ⊥) → (t ≡ 19 → ⊥) → (t ≡ 20 → ⊥) → (t ≡ 21 → ⊥) → (t ≡ 22 → ⊥) → (t ≡ 23 → ⊥) →
    (t ≡ 24 → ⊥) → (t ≡ 25 → ⊥) → (t ≡ 26 → ⊥) → (t ≡ 27 → ⊥) → (t ≡ 28 → ⊥) → (t ≡ 29 → ⊥) →
    (t ≡ 30 → ⊥) → (t ≡ 31 → ⊥) → (t ≡ 32 → ⊥) → 32 < t
beyond t n0 n1 n2 n3 n4 n5 n6 n7 n8 n9 n10 n11 n12 n13 n14 n15 n16 n17 n18 n19 n20 n21 n22 n23 n24
    n25 n26 n27 n28 n29 n30 n31 n32 =
    (more t 32
    (more t 31
    (more t 30
    (more t 29
    (more t 28
    (more t 27
    (more t 26
    (more t 25
    (more t 24
    (more t 23
    (more t 22
    (more t 21
    (more t 20
    (more t 19
    (more t 18
    (more t 17
    (more t 16
    (more t 15
    (more t 14
    (more t 13
    (more t 12
    (more t 11
    (more t 10
    (more t 9
    (more t 8
    (more t 7
    (more t 6
    (more t 5 (more t 4 (more t 3 (more t 2 (more t 1 (more t 0 (omega arith) n0) n1) n2) n3) n4)
    n5) n6) n7) n8) n9) n10) n11) n12) n13) n14) n15) n16) n17) n18) n19) n20) n21) n22) n23) n24)
    n25) n26) n27) n28) n29) n30) n31) n32)

pub never : (b : List ℕ) (p : ℕ) → Sound b → p < get_or b 0 0 → 32 < mine b p 5 → ⊥
never b p s low high = omega (arith, tag_high b p s low)
