-- What check 21 says of a record, as facts: `valid_facts` and `facts_valid` go there and back. Assumes nothing.
use Rattle.std.specs.Prelude.{Option, ℕ, Some, None}
use mathlib.Core.Path.{◌≡◌, refl}
use mathlib.Core.Bool.{Bool, true, false, ◌&&◌}
use mathlib.Core.List.{List}
use Prim.Native.Nat.{ℕ, ◌+◌, ◌≤◌, ◌<◌}
use native.Mathlib.Omega.{arith}
use lib.Dec.{leb}
use lib.ListN.{get_or}
use borrow.Author.Tests.{leb-true, le-leb}
use Rattle.laws.specs.Every.{all_at_most}
use Rattle.laws.proofs.Counting.{and_left, and_right, and_both, every_at, every_of}
use Rattle.record_check.specs.declared.check.Sizes.{Sizes}
use Rattle.record.specs.declared.nodes.Node.{Node}
use Rattle.record.specs.declared.nodes.Use.{Use}
use Rattle.record.specs.declared.nodes.Use.TheVariants as use'
use Rattle.record.specs.declared.queues.Processor.{Processor}
use Rattle.record.specs.declared.queues.Queue.{Queue}
use Rattle.record.specs.declared.stages.Carried.{Carried}
use Rattle.record.specs.declared.stages.Place.{Place}
use Rattle.record.specs.declared.stages.Wanted.{Wanted}
use Rattle.record_check.specs.Check.{within, sizes_of, sizes_valid, stamp_valid, use_valid, node_valid}
use Rattle.record_check.specs.Check.{place_valid, own_valid, marking_valid, wanted_valid, carried_valid}
use Rattle.record_check.specs.Check.{processor_valid, valid}
use Rattle.record.specs.Limits.{max_processors, max_nodes, max_levels, max_number}
use Rattle.record.specs.Queues.{node_at, processor_at}
use Rattle.record.specs.Stages.{carried}

-- x is one of 1 to top
pub record Within (x top : ℕ) : Type 0 where
  pub low : 1 ≤ x
  pub high : x ≤ top

pub record ValidSizes (s : Sizes) : Type 0 where
  pub processor_count : Within s.processor_count max_processors
  pub node_count : Within s.node_count max_nodes
  pub level_count : Within s.level_count max_levels
  pub clock : s.clock ≤ max_number

-- node x; slot k is level k + 1
pub record ValidNode (s : Sizes) (x : ℕ) (n : Node) : Type 0 where
  pub forward : (k : ℕ) → k < s.level_count → get_or n.forward k 0 ≤ s.node_count + 1
  pub level_locks : (k : ℕ) → k < s.level_count → get_or n.level_locks k 0 ≤ s.processor_count
  pub node_lock : n.node_lock ≤ s.processor_count
  pub mark : n.mark ≤ s.processor_count
  pub due : n.due ≤ max_number
  pub item : n.item ≤ max_number
  pub ticket : n.ticket ≤ s.clock
  pub height : Within n.height s.level_count
  -- only an entry's node is stamped
  pub stamped : (t : ℕ) → n.stamp ≡ Some t → Within x s.node_count
  pub stamp_time : (t : ℕ) → n.stamp ≡ Some t → t ≤ s.clock
  pub retired : (t : ℕ) → n.state ≡ use'.Retired t → t ≤ s.clock

pub record ValidWanted (w : Wanted) : Type 0 where
  pub due : w.due ≤ max_number
  pub ticket : Within w.ticket max_number

pub record ValidPlace (s : Sizes) (a : Place) : Type 0 where
  pub node : a.node ≤ s.node_count + 1
  pub level : Within a.level s.level_count

-- what a stage carries, and the own node's number
pub record ValidCarried (s : Sizes) (g : Carried) (own : ℕ) : Type 0 where
  pub own_high : own ≤ s.node_count + 1
  -- an own node is an entry's
  pub has_own : g.own ≡ true → Within own s.node_count
  pub place : ValidPlace s g.place
  pub ahead : g.ahead ≤ s.node_count + 1
  -- the place at W3 is an entry's node
  pub marks : g.marking ≡ true → Within g.place.node s.node_count
  -- the key of a Remove
  pub wanted : ValidWanted g.wanted

pub record ValidProcessor (s : Sizes) (c : Processor) : Type 0 where
  pub begin : c.begin ≤ s.clock
  pub saved : (k : ℕ) → k < s.level_count → get_or c.saved k 0 ≤ s.node_count + 1
  pub carries : ValidCarried s (carried c.stage) c.own

pub record ValidQueue (q : Queue) : Type 0 where
  pub sizes : ValidSizes (sizes_of q)
  pub nodes : (x : ℕ) → x ≤ q.node_count + 1 → ValidNode (sizes_of q) x (node_at q x)
  pub processors : (p : ℕ) → p < q.processor_count → ValidProcessor (sizes_of q) (processor_at q p)

-- the parts of a test that passes, and a test from its parts
and_three : (a b c : Bool) → (a && b && c) ≡ true → (a ≡ true) × (b ≡ true) × (c ≡ true)
and_three true true true h = (refl, refl, refl)
and_three true true false h = cc
and_three true false c h = cc
and_three false b c h = cc

and_four : (a b c d : Bool) → (a && b && c && d) ≡ true → (a ≡ true) × (b ≡ true) × (c ≡ true) × (d ≡ true)
and_four a b c d h = let t = and_three a b c (and_left (a && b && c) d h) in (t.0, t.1, t.2, and_right (a && b && c) d h)

and_all_three : (a b c : Bool) → a ≡ true → b ≡ true → c ≡ true → (a && b && c) ≡ true
and_all_three a b c x y z = rw (x, y, z)

and_all_four : (a b c d : Bool) → a ≡ true → b ≡ true → c ≡ true → d ≡ true → (a && b && c && d) ≡ true
and_all_four a b c d x y z w = rw (x, y, z, w)

within_facts : (x top : ℕ) → within x top ≡ true → Within x top
within_facts x top h = record { low = leb-true _ _ (and_left _ _ h); high = leb-true _ _ (and_right (leb 1 x) (leb x top) h) }

facts_within : (x top : ℕ) → Within x top → within x top ≡ true
facts_within x top w = and_both _ _ (le-leb _ _ w.low) (le-leb _ _ w.high)

most_facts : (l : List ℕ) (n top : ℕ) → all_at_most l n top ≡ true → (k : ℕ) → k < n → get_or l k 0 ≤ top
most_facts l n top h k k< = leb-true _ _ (every_at (λ k. leb (get_or l k 0) top) n k h k<)

facts_most : (l : List ℕ) (n top : ℕ) → ((k : ℕ) → k < n → get_or l k 0 ≤ top) → all_at_most l n top ≡ true
facts_most l n top h = every_of (λ k. leb (get_or l k 0) top) n (λ k k<. le-leb _ _ (h k k<))

pub sizes_facts : (s : Sizes) → sizes_valid s ≡ true → ValidSizes s
sizes_facts s h =
    let t = and_four _ _ _ _ h in
    record { processor_count = within_facts _ _ t.0; node_count = within_facts _ _ t.1; level_count = within_facts _ _ t.2; clock = leb-true _ _ t.3 }

pub facts_sizes : (s : Sizes) → ValidSizes s → sizes_valid s ≡ true
facts_sizes s v = and_all_four _ _ _ _ (facts_within _ _ v.processor_count) (facts_within _ _ v.node_count) (facts_within _ _ v.level_count) (le-leb _ _ v.clock)

-- a stamp on a node that is for an entry (e) or is the head or the tail
stamp_entry : (u : Option ℕ) (e : Bool) (clock t : ℕ) → stamp_valid u e clock ≡ true → u ≡ Some t → e ≡ true
stamp_entry None e clock t h f = cc
stamp_entry (Some v) e clock t h f = and_left _ _ h

stamp_late : (u : Option ℕ) (e : Bool) (clock t : ℕ) → stamp_valid u e clock ≡ true → u ≡ Some t → t ≤ clock
stamp_late None e clock t h f = cc
stamp_late (Some v) e clock t h f = let same : v ≡ t = cc in omega (arith, leb-true v clock (and_right e (leb v clock) h))

facts_stamp : (u : Option ℕ) (e : Bool) (clock : ℕ) → ((t : ℕ) → u ≡ Some t → e ≡ true) → ((t : ℕ) → u ≡ Some t → t ≤ clock) → stamp_valid u e clock ≡ true
facts_stamp None e clock h k = refl
facts_stamp (Some v) e clock h k = and_both _ _ (h v refl) (le-leb _ _ (k v refl))

use_facts : (u : Use) (clock t : ℕ) → use_valid u clock ≡ true → u ≡ use'.Retired t → t ≤ clock
use_facts use'.Never clock t h f = cc
use_facts use'.InUse clock t h f = cc
use_facts (use'.Retired v) clock t h f = let same : v ≡ t = cc in omega (arith, leb-true v clock h)

facts_use : (u : Use) (clock : ℕ) → ((t : ℕ) → u ≡ use'.Retired t → t ≤ clock) → use_valid u clock ≡ true
facts_use use'.Never clock h = refl
facts_use use'.InUse clock h = refl
facts_use (use'.Retired v) clock h = le-leb _ _ (h v refl)

pub node_facts : (s : Sizes) (x : ℕ) (n : Node) → node_valid s x n ≡ true → ValidNode s x n
node_facts s x n h =
    let t = and_four _ _ _ _ h in
    let links = and_four _ _ _ _ t.0 in
    let entry = and_four _ _ _ _ t.1 in
    record {
      forward = most_facts n.forward _ _ links.0;
      level_locks = most_facts n.level_locks _ _ links.1;
      node_lock = leb-true _ _ links.2;
      mark = leb-true _ _ links.3;
      due = leb-true _ _ entry.0;
      item = leb-true _ _ entry.1;
      ticket = leb-true _ _ entry.2;
      height = within_facts _ _ entry.3;
      stamped = λ u f. within_facts _ _ (stamp_entry n.stamp (within x s.node_count) s.clock u t.2 f);
      stamp_time = λ u f. stamp_late n.stamp (within x s.node_count) s.clock u t.2 f;
      retired = λ u f. use_facts n.state s.clock u t.3 f;
    }

pub facts_node : (s : Sizes) (x : ℕ) (n : Node) → ValidNode s x n → node_valid s x n ≡ true
facts_node s x n v =
    and_all_four _ _ _ _
    (and_all_four _ _ _ _ (facts_most n.forward _ _ v.forward) (facts_most n.level_locks _ _ v.level_locks) (le-leb _ _ v.node_lock) (le-leb _ _ v.mark))
    (and_all_four _ _ _ _ (le-leb _ _ v.due) (le-leb _ _ v.item) (le-leb _ _ v.ticket) (facts_within _ _ v.height))
    (facts_stamp n.stamp _ _ (λ t f. facts_within _ _ (v.stamped t f)) v.stamp_time)
    (facts_use n.state _ v.retired)

pub place_facts : (s : Sizes) (a : Place) → place_valid s a ≡ true → ValidPlace s a
place_facts s a h = record { node = leb-true _ _ (and_left _ _ h); level = within_facts _ _ (and_right (leb a.node (s.node_count + 1)) (within a.level s.level_count) h) }

pub facts_place : (s : Sizes) (a : Place) → ValidPlace s a → place_valid s a ≡ true
facts_place s a v = and_both _ _ (le-leb _ _ v.node) (facts_within _ _ v.level)

own_facts : (s : Sizes) (has : Bool) (x : ℕ) → own_valid s has x ≡ true → (x ≤ s.node_count + 1) × (has ≡ true → Within x s.node_count)
own_facts s true x h = let w = within_facts x s.node_count h in (omega arith, λ e. w)
own_facts s false x h = (leb-true _ _ h, λ e. cc)

facts_own : (s : Sizes) (has : Bool) (x : ℕ) → x ≤ s.node_count + 1 → (has ≡ true → Within x s.node_count) → own_valid s has x ≡ true
facts_own s true x h k = facts_within _ _ (k refl)
facts_own s false x h k = le-leb _ _ h

marking_facts : (s : Sizes) (marking : Bool) (x : ℕ) → marking_valid s marking x ≡ true → marking ≡ true → Within x s.node_count
marking_facts s true x h e = within_facts _ _ h
marking_facts s false x h e = cc

facts_marking : (s : Sizes) (marking : Bool) (x : ℕ) → (marking ≡ true → Within x s.node_count) → marking_valid s marking x ≡ true
facts_marking s true x h = facts_within _ _ (h refl)
facts_marking s false x h = refl

wanted_facts : (w : Wanted) → wanted_valid w ≡ true → ValidWanted w
wanted_facts w h = record {
  due = leb-true _ _ (and_left _ _ h);
  ticket = within_facts _ _ (and_right (leb w.due max_number) (within w.ticket max_number) h);
}

facts_wanted : (w : Wanted) → ValidWanted w → wanted_valid w ≡ true
facts_wanted w v = and_both _ _ (le-leb _ _ v.due) (facts_within _ _ v.ticket)

pub carried_facts : (s : Sizes) (g : Carried) (own : ℕ) → carried_valid s g own ≡ true → ValidCarried s g own
carried_facts s g own h =
    let rest = own_valid s g.own own && place_valid s g.place
    && leb g.ahead (s.node_count + 1) && marking_valid s g.marking g.place.node in
    let t = and_four _ _ _ _ (and_left rest (wanted_valid g.wanted) h) in
    let o = own_facts s g.own own t.0 in
    record {
      own_high = o.0;
      has_own = o.1;
      place = place_facts s g.place t.1;
      ahead = leb-true _ _ t.2;
      marks = marking_facts s g.marking g.place.node t.3;
      wanted = wanted_facts g.wanted (and_right rest (wanted_valid g.wanted) h);
    }

pub facts_carried : (s : Sizes) (g : Carried) (own : ℕ) → ValidCarried s g own → carried_valid s g own ≡ true
facts_carried s g own v =
    and_both _ _
    (and_all_four _ _ _ _ (facts_own s g.own own v.own_high v.has_own)
    (facts_place s g.place v.place) (le-leb _ _ v.ahead)
    (facts_marking s g.marking g.place.node v.marks))
    (facts_wanted g.wanted v.wanted)

pub processor_facts : (s : Sizes) (c : Processor) → processor_valid s c ≡ true → ValidProcessor s c
processor_facts s c h =
    let t = and_three _ _ _ h in
    record { begin = leb-true _ _ t.0; saved = most_facts c.saved _ _ t.1; carries = carried_facts s (carried c.stage) c.own t.2 }

pub facts_processor : (s : Sizes) (c : Processor) → ValidProcessor s c → processor_valid s c ≡ true
facts_processor s c v = and_all_three _ _ _ (le-leb _ _ v.begin) (facts_most c.saved _ _ v.saved) (facts_carried s (carried c.stage) c.own v.carries)

pub valid_facts : (q : Queue) → valid q ≡ true → ValidQueue q
valid_facts q h =
    let t = and_three _ _ _ h in
    record {
      sizes = sizes_facts (sizes_of q) t.0;
      nodes = λ x x≤. node_facts (sizes_of q) x (node_at q x) (every_at (λ x. node_valid (sizes_of q) x (node_at q x)) (q.node_count + 2) x t.1 (omega arith));
      processors = λ p p<. processor_facts (sizes_of q) (processor_at q p) (every_at (λ p. processor_valid (sizes_of q) (processor_at q p)) q.processor_count p t.2 p<);
    }

pub facts_valid : (q : Queue) → ValidQueue q → valid q ≡ true
facts_valid q v =
    and_all_three _ _ _ (facts_sizes (sizes_of q) v.sizes)
    (every_of (λ x. node_valid (sizes_of q) x (node_at q x)) (q.node_count + 2) (λ x x<. facts_node (sizes_of q) x (node_at q x) (v.nodes x (omega arith))))
    (every_of (λ p. processor_valid (sizes_of q) (processor_at q p)) q.processor_count (λ p p<. facts_processor (sizes_of q) (processor_at q p) (v.processors p p<)))
