-- What one more node adds to the loops of markers: to the count, and to the area, which has the
-- bytes of the nodes before it at its front. Assumes nothing.
use mathlib.Core.Path.{◌≡◌, refl, sym, ap, ◌∙◌}
use mathlib.Core.Bool.{Bool, true, false, cond}
use mathlib.Core.List.{List, [], ◌∷◌, ◌++◌, append-nil, append_assoc}
use Prim.Native.Nat.{ℕ, zero, suc, ◌+◌, ◌*◌, ◌≤◌, ◌<◌}
use native.Mathlib.Decide.{ℕ_discrete}
use native.Mathlib.Nat.{le_of_suc-le-suc, not-suc-le-zero}
use native.Mathlib.Numerals.{add-one}
use native.Mathlib.Omega.{arith}
use lib.ListN.{length, get_or, set, length-append}
use Rattle.laws.proofs.HowMany.{many_more}
use Rattle.laws.specs.Front.{at_front}
use Rattle.laws.specs.HowMany.{how_many}
use Rattle.record.specs.declared.nodes.Node.{Node}
use Rattle.record.specs.declared.queues.Queue.{Queue}
use Rattle.record.specs.Limits.{node_slots}
use Rattle.record.specs.Nodes.{is_in_use}
use Rattle.record.specs.Queues.{node_at}
use Rattle.record_check.proofs.Reading.{no_node, node_read}
use Rattle.record_markers.specs.Markers.{marker_byte, in_use_at, pair_at, pairs_to}
use Rattle.record_markers.proofs.Pairs.{length_pairs}

-- one byte more at the front
front_one :
    (ps a : List ℕ) (x : ℕ) →
    length ps < length a →
    set (at_front ps a) (length ps) x ≡ at_front (ps ++ (x ∷ [])) a
front_one ps [] x h = absurd (not-suc-le-zero h)
front_one [] (y ∷ a) x h = refl
front_one (p ∷ ps) (y ∷ a) x h = ap (λ (l : List ℕ). p ∷ l) (front_one ps a x (le_of_suc-le-suc h))

-- two bytes more
front_two :
    (ps a : List ℕ) (at x m : ℕ) →
    at ≡ length ps →
    at + 2 ≤ length a →
    set (set (at_front ps a) at x) (at + 1) m ≡ at_front (ps ++ (x ∷ m ∷ [])) a
front_two ps a at x m e h =
    let n = length-append ps (x ∷ []) in
    let first = ap (λ (k : ℕ). set (at_front ps a) k x) e ∙ front_one ps a x (omega arith) in
    let place : at + 1 ≡ length (ps ++ (x ∷ [])) = omega (arith, n) in
    rw (first, place) (front_one (ps ++ (x ∷ [])) a m (omega (arith, n)))
    ∙ ap (λ (l : List ℕ). at_front l a) (append_assoc ps (x ∷ []) (m ∷ []))

-- no more pass of the numbers up to i than of those up to n
many_low : (f : ℕ → Bool) (i n : ℕ) → i ≤ n → how_many f i ≤ how_many f n
many_low f i zero h = let e : i ≡ 0 = omega arith in rw e (omega arith)
many_low f i (suc n) h = go (ℕ_discrete i (suc n)) (many_low f i n)
  where
    go : Dec (i ≡ suc n) → (i ≤ n → how_many f i ≤ how_many f n) → how_many f i ≤ how_many f (suc n)
    go (yes e) r = rw e (omega arith)
    go (no ne) r = omega (arith, r (omega arith))

pairs_more : (q : Queue) (i : ℕ) → pairs_to q (i + 1) ≡ pairs_to q i ++ pair_at q (i + 1)
pairs_more q i = rw add-one

-- one node more
module _ (q : Queue) (i : ℕ) where
  many_is : (b : Bool) → in_use_at q (i + 1) ≡ b →
      how_many (in_use_at q) (i + 1) ≡ how_many (in_use_at q) i + cond b 1 0
  many_is b e =
      many_more (in_use_at q) i ∙ ap (λ (c : Bool). how_many (in_use_at q) i + cond c 1 0) e

  -- in use
  module _ (e : in_use_at q (i + 1) ≡ true) where
    pub count_used : (k : ℕ) → k ≡ how_many (in_use_at q) i → k + 1 ≡ how_many (in_use_at q) (i + 1)
    count_used k h = omega (arith, many_is true e)

    -- the bytes of the nodes up to n have room, and so have this node's
    pub room_used :
        (n at size : ℕ) →
        i + 1 ≤ n →
        at ≡ 2 * how_many (in_use_at q) i →
        2 * how_many (in_use_at q) n ≤ size →
        at + 2 ≤ size
    room_used n at size h k room = omega (arith, many_is true e, many_low (in_use_at q) (i + 1) n h)

    pub place_used : (at : ℕ) → at ≡ 2 * how_many (in_use_at q) i →
        at + 2 ≡ 2 * how_many (in_use_at q) (i + 1)
    place_used at k = omega (arith, many_is true e)

    pair_used : pair_at q (i + 1) ≡ (i + 1) ∷ marker_byte (node_at q (i + 1)).mark ∷ []
    pair_used =
        ap (λ (b : Bool). cond b ((i + 1) ∷ marker_byte (node_at q (i + 1)).mark ∷ []) []) e

    pub area_used :
        (a₀ a : List ℕ) (at m : ℕ) →
        at ≡ 2 * how_many (in_use_at q) i →
        at + 2 ≤ length a₀ →
        a ≡ at_front (pairs_to q i) a₀ →
        m ≡ (node_at q (i + 1)).mark →
        set (set a at (i + 1)) (at + 1) (marker_byte m) ≡ at_front (pairs_to q (i + 1)) a₀
    area_used a₀ a at m k room f g =
        let l : at ≡ length (pairs_to q i) = k ∙ sym (length_pairs q i) in
        let b = marker_byte (node_at q (i + 1)).mark in
        rw (f, g) (front_two (pairs_to q i) a₀ at (i + 1) b l room)
        ∙ ap (λ (ps : List ℕ). at_front ps a₀)
        (ap (λ (r : List ℕ). pairs_to q i ++ r) (sym pair_used) ∙ sym (pairs_more q i))

  -- not in use
  module _ (e : in_use_at q (i + 1) ≡ false) where
    pub count_unused : how_many (in_use_at q) i ≡ how_many (in_use_at q) (i + 1)
    count_unused = omega (arith, many_is false e)

    pub pairs_unused : pairs_to q i ≡ pairs_to q (i + 1)
    pairs_unused =
        sym (append-nil (pairs_to q i))
        ∙ ap (λ (b : Bool). pairs_to q i
        ++ cond b ((i + 1) ∷ marker_byte (node_at q (i + 1)).mark ∷ []) []) (sym e)
        ∙ sym (pairs_more q i)

-- the node that a loop reads of a record by value
module _ (q : Queue) (i : ℕ) (long : length q.nodes ≡ node_slots) (low : i < node_slots) where
  pub read_is : node_at q i ≡ get_or q.nodes i no_node
  read_is = sym (node_read q i long low)

  pub used_is : (b : Bool) → is_in_use (get_or q.nodes i no_node).state ≡ b → in_use_at q i ≡ b
  used_is b e = ap (λ (n : Node). is_in_use n.state) read_is ∙ e
