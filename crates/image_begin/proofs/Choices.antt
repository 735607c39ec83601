-- The choice of a node by the bytes. Assumes nothing.
use Rattle.std.specs.Prelude.{Some, None}
use mathlib.Core.Path.{◌≡◌, refl, sym, ◌∙◌, ap, subst}
use mathlib.Core.Bool.{Bool, true, false, cond, ◌||◌, true≢false}
use mathlib.Core.List.{List}
use Prim.Native.Nat.{ℕ, zero, suc, ◌+◌, ◌*◌, ◌/◌, ◌≤◌, ◌<◌}
use native.Mathlib.Omega.{arith}
use native.Mathlib.Numerals.{add-one}
use native.Mathlib.Decide.{ℕ_discrete}
use lib.Dec.{eqb, ltb}
use lib.ListN.{get_or}
use borrow.Author.Tests.{eq-eqb, ne_eqb, lt-ltb, le-ltb, ltb-true, ltb-false, eqb-true, eqb-false}
use Rattle.laws.proofs.Booleans.{cond_cases}
use Rattle.laws.proofs.Counting.{and_left, and_right}
use Rattle.record.specs.declared.nodes.Node.{Node}
use Rattle.record.specs.declared.nodes.Use.{Use}
use Rattle.record.specs.declared.nodes.Use.TheVariants as use'
use Rattle.record.specs.declared.queues.Processor.{Processor}
use Rattle.record.specs.Limits.{max_number}
use Rattle.record.specs.Queues.{processor_at}
use Rattle.image.specs.Numbers.{number32}
use Rattle.image.specs.Tags.{Timed, timed, use_timed, use_of, use_taken, stamp_taken}
use Rattle.image.specs.Pieces.{read_node, timed_at}
use Rattle.image.specs.Image.{queue_in, is_image, node_part, start_of, Sound}
use Rattle.image.specs.Puts.{piece}
use Rattle.image.proofs.Fields.{number, part_bytes, node_is, processor_is, number_at}
use Rattle.image.proofs.Inverse.{image_taken, image_facts, trim_in}
use Rattle.image.proofs.Parts.{all_at}
use Rattle.image.proofs.Sizes.{sized_in}
use Rattle.rules.specs.Choice.{is_never, retirement, never_used, longest_retired, state_of}
use Rattle.rules.specs.Choice.{began_after, all_began_after, chosen}
use Rattle.rules.proofs.ValidDecisions.{longest_retired_high}
use Rattle.rules.proofs.ValidFacts.{valid_facts}
use Rattle.rules.proofs.Chosen.{chosen_never, chosen_none, chosen_retired}
use Rattle.image_parts.proofs.Refusals.{idle_is}
use Rattle.image_begin.specs.Stores.{Based, late, end_of, found}

-- a use as one number
abbrev word_of : Use → ℕ
word_of u = (use_timed u).tag + 256 * (use_timed u).time

never_word : (u : Use) → word_of u ≡ 0 → is_never u ≡ true
never_word use'.Never h = refl
never_word use'.InUse h = absurd (omega arith)
never_word (use'.Retired t) h = absurd (omega arith)

used_word : (u : Use) → (word_of u ≡ 0 → ⊥) → is_never u ≡ false
used_word use'.Never h = absurd (h refl)
used_word use'.InUse h = refl
used_word (use'.Retired t) h = refl

retired_word : (t : ℕ) → end_of (word_of (use'.Retired t)) ≡ 2 + 256 * t
retired_word t = rw (ne_eqb (2 + 256 * t) 1 (λ e. omega arith)) refl

time_word : (u : Use) → (use_timed u).time ≡ retirement u
time_word use'.Never = refl
time_word use'.InUse = refl
time_word (use'.Retired t) = refl

word_before : (v w : ℕ) → ltb (2 + 256 * v) (2 + 256 * w) ≡ ltb v w
word_before v w = go (ltb v w) refl
  where
    go : (x : Bool) → ltb v w ≡ x → ltb (2 + 256 * v) (2 + 256 * w) ≡ x
    go true e = lt-ltb (2 + 256 * v) (2 + 256 * w) (omega (arith, ltb-true v w e))
    go false e = le-ltb (2 + 256 * v) (2 + 256 * w) (omega (arith, ltb-false v w e))

retired_low : (u : Use) (c : ℕ) → ((t : ℕ) → u ≡ use'.Retired t → t ≤ c) → retirement u ≤ c
retired_low use'.Never c h = omega arith
retired_low use'.InUse c h = omega arith
retired_low (use'.Retired t) c h = h t refl

-- none of the nodes 1 to i was never used: the one retired longest ago, and its use
pub record Seen (state : ℕ → Use) (i best least : ℕ) : Type 0 where
  pub none : never_used state i ≡ 0
  pub longest : best ≡ longest_retired state i
  pub since : least ≡ cond (eqb best 0) late (2 + 256 * retirement (state best))

-- one more node
module _ (state : ℕ → Use) (i best least : ℕ) (s : Seen state i best least)
    (small : (x : ℕ) → x ≤ suc i → retirement (state x) ≤ max_number)
    (used : is_never (state (suc i)) ≡ false) (t : ℕ) (f : t ≡ end_of (word_of (state (suc i)))) where
  least_high : least ≤ late
  least_high =
      let low : best ≤ suc i = omega (arith, longest_retired_high state i) in
      rw s.since
      (cond_cases (λ x. x ≤ late) (eqb best 0) _ _ (λ e. omega arith)
      (λ e. omega (arith, small best low)))

  none_more : never_used state (suc i) ≡ 0
  none_more = rw (s.none, used) refl

  since_more : t < least → t ≡ 2 + 256 * retirement (state (suc i))
  since_more l = go (state (suc i)) refl
    where
      go : (u : Use) → state (suc i) ≡ u → t ≡ 2 + 256 * retirement (state (suc i))
      go use'.Never e = absurd (true≢false (sym (ap is_never e) ∙ used))
      go use'.InUse e = let g : t ≡ late = f ∙ ap (λ (u : Use). end_of (word_of u)) e in
          absurd (omega (arith, least_high))
      go (use'.Retired v) e =
          f ∙ ap (λ (u : Use). end_of (word_of u)) e ∙ retired_word v
          ∙ sym (ap (λ (u : Use). 2 + 256 * retirement u) e)

  longest_more : longest_retired state (suc i) ≡ cond (ltb t least) (suc i) best
  longest_more = go (state (suc i)) refl
    where
      first : (x : Bool) (v r : ℕ) → v ≤ max_number →
          ltb (2 + 256 * v) (cond x late (2 + 256 * r)) ≡ (x || ltb v r)
      first true v r h = lt-ltb (2 + 256 * v) late (omega arith)
      first false v r h = word_before v r

      go : (u : Use) → state (suc i) ≡ u → longest_retired state (suc i)
          ≡ cond (ltb t least) (suc i) best
      go use'.Never e = absurd (true≢false (sym (ap is_never e) ∙ used))
      go use'.InUse e =
          let g : t ≡ late = f ∙ ap (λ (u : Use). end_of (word_of u)) e in
          let r : longest_retired state (suc i) ≡ best = rw e (sym s.longest) in
          r ∙ sym (rw (le-ltb t least (omega (arith, least_high))) refl)
      go (use'.Retired v) e =
          let g : t ≡ 2 + 256 * v =
          f ∙ ap (λ (u : Use). end_of (word_of u)) e ∙ retired_word v in
          let l : v ≤ max_number = rw e at (small (suc i) (omega arith)) in
          let d : ltb t least ≡ (eqb best 0 || ltb v (retirement (state best))) =
          rw (g, s.since) (first (eqb best 0) v _ l) in
          rw (e, ← s.longest) (ap (λ (c : Bool). cond c (suc i) best) (sym d))

  earlier : t < least → Seen state (suc i) (suc i) t
  earlier l = record {
    none = none_more;
    longest = sym (longest_more ∙ rw (lt-ltb t least l) refl);
    since = rw (ne_eqb (suc i) 0 (λ z. omega arith)) (since_more l);
  }

  later : least ≤ t → Seen state (suc i) best least
  later l = record {
    none = none_more;
    longest = sym (longest_more ∙ rw (le-ltb t least l) refl);
    since = s.since;
  }

pub found_some : (x : ℕ) → 0 < x → Some x ≡ found x
found_some x h = rw (ne_eqb x 0 (λ e. omega arith)) refl

pub some_found : (x n : ℕ) → Some x ≡ found n → (x ≡ n) × (x ≡ 0 → ⊥)
some_found x n e = go (eqb n 0) refl e
  where
    go : (t : Bool) → eqb n 0 ≡ t → Some x ≡ cond t None (Some n) → (x ≡ n) × (x ≡ 0 → ⊥)
    go true h k = absurd (cc)
    go false h k =
        let z : x ≡ n = cc in
        let ne = eqb-false n 0 h in
        (z, λ l. ne (sym z ∙ l))

pub none_found : (n : ℕ) → None ≡ found n → n ≡ 0
none_found n e = go (eqb n 0) refl e
  where
    go : (t : Bool) → eqb n 0 ≡ t → None ≡ cond t None (Some n) → n ≡ 0
    go true h k = eqb-true n 0 h
    go false h k = absurd (cc)

never_first : (state : ℕ → Use) (i : ℕ) → never_used state i ≡ 0 → is_never (state (suc i)) ≡ true →
    never_used state (suc i) ≡ suc i
never_first state i e f = rw (e, f) refl

-- the first that was never used is the lowest of all
never_stays : (state : ℕ → Use) (n k : ℕ) → k ≤ n → 0 < never_used state k → never_used state n
    ≡ never_used state k
never_stays state zero k h l = let z : k ≡ 0 = omega arith in rw z refl
never_stays state (suc n) k h l = go (ℕ_discrete k (suc n)) (never_stays state n k)
  where
    go : Dec (k ≡ suc n) →
        (k ≤ n → 0 < never_used state k → never_used state n ≡ never_used state k) →
        never_used state (suc n) ≡ never_used state k
    go (yes e) r = ap (never_used state) (sym e)
    go (no ne) r = let d = r (omega arith) l in
        rw (d, lt-ltb 0 (never_used state k) l) refl

module _ (b : List ℕ) (base : ℕ) (p : Based b base) (s : Sound b) where
  -- sound bytes of a use are those that are written
  taken : is_image b ≡ true
  taken =
      rw (sym s.image)
      (image_taken (queue_in b) (sized_in b) (trim_in b p.processors_high p.nodes_high))

  early : (x : ℕ) → x ≤ get_or b 1 0 → retirement (state_of (queue_in b) x) ≤ max_number
  unfolding queue_in
  early x h =
      let v = valid_facts (queue_in b) s.passes in
      omega (
        arith,
        v.sizes.clock,
        retired_low (state_of (queue_in b) x) _
            (v.nodes x (omega arith)).retired,
      )

  module _ (x : ℕ) (low : x ≤ get_or b 1 0) where
    abbrev here : Timed
    here = timed (piece b (base + 41 * x) 36) (number (piece b (base + 41 * x)) 37)

    use_taken_lem : use_taken here ≡ true
    unfolding read_node
    use_taken_lem =
        let m = node_part b x in
        let k = all_at (λ k. (read_node (node_part b k)).ok) (get_or b 1 0 + 2) x
        (image_facts b taken).known (omega arith) in
        let u = and_right (stamp_taken (timed_at m 18)) (use_taken (timed_at m 36)) k in
        let e : timed_at m 36 ≡ here =
        ap (λ (f : ℕ → ℕ). timed (f 36) (number f 37)) (part_bytes b 41 (start_of b + 41 * x))
        ∙ ap (λ (o : ℕ). timed (piece b (o + 41 * x) 36) (number (piece b (o + 41 * x)) 37))
        (sym p.start) in
        subst (λ (y : Timed). use_taken y ≡ true) e u

    state_is : state_of (queue_in b) x ≡ use_of here
    state_is =
        ap (λ (n : Node). n.state) (node_is b base p.start p.nodes_high x (omega arith))

    word_is : number32 b (base + 41 * x + 36) ≡ word_of (state_of (queue_in b) x)
    word_is =
        let q = queue_in b in
        let g = use_timed (use_of here) in
        let tag : g.tag ≡ here.tag = eqb-true _ _ (and_left _ _ use_taken_lem) in
        let time : g.time ≡ here.time =
        eqb-true _ _
        (and_right (eqb g.tag here.tag) (eqb g.time here.time) use_taken_lem) in
        let small : here.time ≤ max_number =
        omega (arith, time_word (use_of here), rw state_is at (early x low)) in
        let e : number (piece b (base + 41 * x)) 36 ≡ here.tag + 256 * here.time = omega arith in
        number_at b (base + 41 * x) 36 ∙ e ∙ sym (rw (tag, time) refl) ∙ sym (ap word_of state_is)

  module _ (i : ℕ) (low : i + 1 ≤ get_or b 1 0) (word : ℕ)
      (e : word ≡ number32 b (base + 41 * (i + 1) + 36)) where
    word_here : word ≡ word_of (state_of (queue_in b) (suc i))
    word_here = e ∙ word_is (i + 1) low ∙ ap (λ (k : ℕ). word_of (state_of (queue_in b) k)) (add-one i)

    used_here : (word ≡ 0 → ⊥) → is_never (state_of (queue_in b) (suc i)) ≡ false
    used_here used = used_word (state_of (queue_in b) (suc i)) (λ z. used (word_here ∙ z))

    -- node i + 1 was never used
    pub takes_never : never_used (state_of (queue_in b)) i ≡ 0 → word ≡ 0 → i + 1 ≡ chosen (queue_in b)
    unfolding queue_in
    takes_never none h =
        let state = state_of (queue_in b) in
        let k : never_used state (i + 1) ≡ i + 1 =
        rw (add-one i)
        (never_first state i none (never_word (state (suc i)) (sym word_here ∙ h))) in
        chosen_never (queue_in b) (i + 1) 0
        (sym (never_stays state (get_or b 1 0) (i + 1) low (rw k (omega arith)) ∙ k)) (omega arith)

    module _ (best least : ℕ) (seen : Seen (state_of (queue_in b)) i best least)
        (used : word ≡ 0 → ⊥) (t : ℕ) (f : t ≡ end_of word) where
      pub seen_earlier : t < least → Seen (state_of (queue_in b)) (i + 1) (i + 1) t
      seen_earlier l =
          rw (add-one i)
          (earlier (state_of (queue_in b)) i best least seen (λ x h. early x (omega arith))
          (used_here used) t (f ∙ ap end_of word_here) l)

      pub seen_later : least ≤ t → Seen (state_of (queue_in b)) (i + 1) best least
      seen_later l =
          rw (add-one i)
          (later (state_of (queue_in b)) i best least seen (λ x h. early x (omega arith))
          (used_here used) t (f ∙ ap end_of word_here) l)

module _ (b : List ℕ) (p : ℕ) (many : get_or b 0 0 ≤ 16) (low : p < get_or b 0 0) where
  pub after_idle : (t : ℕ) → get_or b (7 + 26 * p + 5) 0 ≡ 0 → true
      ≡ began_after t (processor_at (queue_in b) p).stage (processor_at (queue_in b) p).begin
  after_idle t h = sym (rw (idle_is b p many low, eq-eqb (get_or b (7 + 26 * p + 5) 0) 0 h) refl)

  pub after_busy :
      (t : ℕ) → (get_or b (7 + 26 * p + 5) 0 ≡ 0 → ⊥) → ltb t (number32 b (7 + 26 * p + 0))
      ≡ began_after t (processor_at (queue_in b) p).stage (processor_at (queue_in b) p).begin
  after_busy t h =
      sym (rw (idle_is b p many low, ne_eqb (get_or b (7 + 26 * p + 5) 0) 0 h)
      (ap (λ (c : Processor). ltb t c.begin) (processor_is b p many low)
      ∙ rw (number_at b (7 + 26 * p) 0) refl))

-- after the last node
module _ (b : List ℕ) (i best least : ℕ) (all : i ≡ get_or b 1 0)
    (s : Seen (state_of (queue_in b)) i best least) where
  none_never : 0 ≡ never_used (state_of (queue_in b)) (queue_in b).node_count
  unfolding queue_in
  none_never = sym s.none ∙ ap (never_used (state_of (queue_in b))) all

  longest_all : best ≡ longest_retired (state_of (queue_in b)) (queue_in b).node_count
  unfolding queue_in
  longest_all = s.longest ∙ ap (longest_retired (state_of (queue_in b))) all

  pub takes_none : best ≡ 0 → 0 ≡ chosen (queue_in b)
  takes_none = chosen_none (queue_in b) 0 best none_never longest_all (omega arith)

  module _ (some : best ≡ 0 → ⊥) (after : Bool) (t : ℕ) (since : t ≡ least / 256)
      (e : after ≡ all_began_after (queue_in b) t) where
    retaken_is : cond after best 0 ≡ chosen (queue_in b)
    retaken_is =
        let k : least ≡ 2 + 256 * retirement (state_of (queue_in b) best) =
        s.since ∙ rw (ne_eqb best 0 some) refl in
        chosen_retired (queue_in b) 0 best none_never longest_all (omega arith) some t after
        (omega arith) e

    pub takes_retired : after ≡ true → best ≡ chosen (queue_in b)
    takes_retired h = sym (ap (λ (u : Bool). cond u best 0) h) ∙ retaken_is

    pub leaves_retired : after ≡ false → 0 ≡ chosen (queue_in b)
    leaves_retired h = sym (ap (λ (u : Bool). cond u best 0) h) ∙ retaken_is
