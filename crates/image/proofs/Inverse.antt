-- Reading undoes writing, on records whose slots past P and N + 1 are fresh; writing undoes reading, on bytes that are taken. Assumes nothing.
use mathlib.Core.Path.{◌≡◌, refl, sym, ◌∙◌, ap}
use mathlib.Core.Bool.{Bool, true, false, cond, ◌&&◌}
use mathlib.Core.List.{List, [], ◌∷◌, ◌++◌, append-nil}
use Prim.Native.Nat.{ℕ, ◌+◌, ◌*◌, ◌≤◌, ◌<◌}
use native.Mathlib.Omega.{arith}
use lib.Dec.{eqb, leb, ltb}
use lib.ListN.{length, get_or, take, drop, length-take, length-drop, get_or-eq_default}
use lib.Seq.{take-add, take_all, drop_at, drop-drop, get_or-take, get_or-drop, length-take-le}
use borrow.Author.Tests.{eq-eqb, eqb-true, le-leb, leb-true, le-ltb, ltb-true, ltb-false}
use Rattle.laws.proofs.Counting.{and_left, and_right, and_both}
use Rattle.record.specs.declared.queues.Queue.{Queue}
use Rattle.record.specs.Limits.{max_processors, node_slots}
use Rattle.record.specs.Nodes.{fresh_node}
use Rattle.record.specs.Queues.{fresh_processor, node_at, processor_at}
use Rattle.image.specs.Lists.{all_below}
use Rattle.image.specs.Numbers.{number32}
use Rattle.image.specs.Pieces.{node_image, read_node, processor_image, read_processor}
use Rattle.image.specs.Image.{header_image, nodes_image, processors_image}
use Rattle.image.specs.OneToOne.{Sized, Trim, Bytes, WrittenIsRead, ReadIsWritten, SameImage}
use Rattle.image.proofs.Bytes.{number_back, four_back, from_part}
use Rattle.image.proofs.Lengths.{length_node, length_processor, headed, length_front}
use Rattle.image.proofs.Lengths.{length_image}
use Rattle.image.proofs.Parts.{joined_part, joined_parts, joined_same, listed_same}
use Rattle.image.proofs.Parts.{get_d_listed, listed_whole, all_at, all_of}
use Rattle.image.proofs.Sides.{node_back, processor_back, node_kept, processor_kept}
use Rattle.image.specs.Image.{image_of, length_of, start_of, processor_part, node_part, processor_in}
use Rattle.image.specs.Image.{node_in, queue_in, has_room, fits, is_image}
use Rattle.image.proofs.Fields.{node_at_lem, processor_at_lem}
use Rattle.image.proofs.Sizes.{sized_in}

-- the parts of an image
module _ (q : Queue) where
  pub processor_part_lem : (p : ℕ) → p < q.processor_count → processor_part (image_of q) p
      ≡ processor_image (processor_at q p)
  processor_part_lem p h =
      rw (sym (drop-drop (26 * p) 7 (image_of q)))
      (joined_part (λ k. processor_image (processor_at q k)) 26
      (λ k. length_processor (processor_at q k)) q.processor_count p
      (nodes_image q (q.node_count + 2)) h)

  node_part_lem : (x : ℕ) → x < q.node_count + 2 → node_part (image_of q) x ≡ node_image (node_at q x)
  node_part_lem x h =
      let cut : drop (7 + 26 * q.processor_count) (image_of q)
      ≡ nodes_image q (q.node_count + 2) ++ [] =
      drop_at (headed q ++ processors_image q q.processor_count) (nodes_image q (q.node_count + 2))
      (7 + 26 * q.processor_count) (length_front q)
      ∙ sym (append-nil (nodes_image q (q.node_count + 2))) in
      rw (sym (drop-drop (41 * x) (7 + 26 * q.processor_count) (image_of q)), cut)
      (joined_part (λ k. node_image (node_at q k)) 41 (λ k. length_node (node_at q k))
      (q.node_count + 2) x [] h)

  module _ (s : Sized q) (t : Trim q) where
    processor_read : (p : ℕ) → p < q.processor_count →
        ((read_processor (processor_part (image_of q) p)).processor ≡ processor_at q p) ×
        ((read_processor (processor_part (image_of q) p)).ok ≡ true)
    processor_read p h =
        let e = processor_part_lem p h in
        let f = processor_back (processor_at q p)
        (s.saved_long p (omega (arith, t.processors_high))) in
        (rw (e, f) refl, rw (e, f) refl)

    node_read : (x : ℕ) → x < q.node_count + 2 →
        ((read_node (node_part (image_of q) x)).node ≡ node_at q x) ×
        ((read_node (node_part (image_of q) x)).ok ≡ true)
    node_read x h =
        let l : x < node_slots = omega (arith, t.nodes_high) in
        let e = node_part_lem x h in
        let f = node_back (node_at q x) (s.forward_long x l) (s.locks_long x l) in
        (rw (e, f) refl, rw (e, f) refl)

    processor_same : (p : ℕ) → p < max_processors → processor_in (image_of q) p ≡ processor_at q p
    processor_same p h = go (ltb p q.processor_count) refl
      where
        go : (u : Bool) → ltb p q.processor_count ≡ u →
            cond u (read_processor (processor_part (image_of q) p)).processor fresh_processor
            ≡ processor_at q p
        go true e = (processor_read p (ltb-true _ _ e)).0
        go false e = sym (t.processors p (ltb-false _ _ e) h)

    node_same : (x : ℕ) → x < node_slots → node_in (image_of q) x ≡ node_at q x
    node_same x h = go (ltb x (q.node_count + 2)) refl
      where
        go : (u : Bool) → ltb x (q.node_count + 2) ≡ u →
            cond u (read_node (node_part (image_of q) x)).node (fresh_node (q.node_count + 1))
            ≡ node_at q x
        go true e = (node_read x (ltb-true _ _ e)).0
        go false e = let g : q.node_count + 1 < x = omega (arith, ltb-false x (q.node_count + 2) e) in
            sym (t.nodes x g h)

    pub read_write : queue_in (image_of q) ≡ q
    unfolding queue_in
    read_write =
        let n = listed_same (node_in (image_of q)) (λ x. node_at q x) node_slots node_same
        ∙ listed_whole q.nodes node_slots (fresh_node 0) s.nodes_long in
        let c = listed_same (processor_in (image_of q)) (λ p. processor_at q p) max_processors processor_same
        ∙ listed_whole q.processors max_processors fresh_processor s.processors_long in
        rw (n, c, number_back q.clock) refl

    pub image_taken : is_image (image_of q) ≡ true
    unfolding is_image
    image_taken =
        and_both _ _ (and_both _ _
        (and_both _ _
        (and_both _ _ (le-leb q.processor_count max_processors t.processors_high)
        (le-leb (q.node_count + 2) node_slots t.nodes_high))
        (eq-eqb _ _ (length_image q)))
        (all_of (λ p. (read_processor (processor_part (image_of q) p)).ok) q.processor_count
        (λ p h. (processor_read p h).1)))
        (all_of (λ x. (read_node (node_part (image_of q) x)).ok) (q.node_count + 2)
        (λ x h. (node_read x h).1))

pub written_is_read : WrittenIsRead
written_is_read q s t = (image_taken q s t, read_write q s t)

pub same_image : SameImage
same_image q r s t u v e = sym (read_write q s t) ∙ ap queue_in e ∙ read_write r u v

-- what it says that bytes are an image
pub record IsImage (b : List ℕ) : Type 0 where
  pub few : get_or b 0 0 ≤ max_processors
  pub short : get_or b 1 0 ≤ 200
  pub long : length b ≡ length_of b
  pub called : all_below (λ p. (read_processor (processor_part b p)).ok) (get_or b 0 0) ≡ true
  pub known : all_below (λ x. (read_node (node_part b x)).ok) (get_or b 1 0 + 2) ≡ true

pub image_facts : (b : List ℕ) → is_image b ≡ true → IsImage b
unfolding is_image
image_facts b ok =
    let called = all_below (λ p. (read_processor (processor_part b p)).ok) (get_or b 0 0) in
    let known = all_below (λ x. (read_node (node_part b x)).ok) (get_or b 1 0 + 2) in
    let front = and_left (fits b && called) known ok in
    let sized = and_left (fits b) called front in
    let room = and_left (has_room b) (eqb (length b) (length_of b)) sized in
    let low : get_or b 1 0 + 2 ≤ node_slots =
    leb-true _ _
    (and_right (leb (get_or b 0 0) max_processors) (leb (get_or b 1 0 + 2) node_slots) room) in
    record {
      few = leb-true _ _
          (and_left (leb (get_or b 0 0) max_processors) (leb (get_or b 1 0 + 2) node_slots) room);
      short = omega arith;
      long = eqb-true _ _ (and_right (has_room b) (eqb (length b) (length_of b)) sized);
      called = and_right (fits b) called front;
      known = and_right (fits b && called) known ok;
    }

part_low : (b : List ℕ) → Bytes b → (w j : ℕ) → Bytes (take w (drop j b))
part_low b low w j k = go (ltb k w) refl
  where
    go : (t : Bool) → ltb k w ≡ t → get_or (take w (drop j b)) k 0 < 256
    go true h = let l = ltb-true k w h in
        rw (get_or-take w (drop j b) k 0 l, get_or-drop j b k 0) (low (j + k))
    go false h =
        let l = ltb-false k w h in
        rw (get_or-eq_default (take w (drop j b)) 0 {n = k}
        (rw (length-take w (drop j b)) (omega arith))) (omega arith)

part_long : (b : List ℕ) (w j : ℕ) → j + w ≤ length b → length (take w (drop j b)) ≡ w
part_long b w j h = length-take-le w (drop j b) (rw (length-drop j b) (omega arith))

module _ (b : List ℕ) (low : Bytes b) (is : IsImage b) where
  kept_processor : (p : ℕ) → p < get_or b 0 0 → processor_image (processor_at (queue_in b) p)
      ≡ processor_part b p
  kept_processor p h =
      ap processor_image (processor_at_lem b p is.few h)
      ∙ processor_kept (processor_part b p) (part_low b low 26 (7 + 26 * p))
      (part_long b 26 (7 + 26 * p) (omega (arith, is.long)))
      (all_at (λ k. (read_processor (processor_part b k)).ok) (get_or b 0 0) p is.called h)

  node_same_bytes : (x : ℕ) → x < get_or b 1 0 + 2 → node_image (node_at (queue_in b) x) ≡ node_part b x
  node_same_bytes x h =
      ap node_image (node_at_lem b x is.short h)
      ∙ node_kept (node_part b x) (part_low b low 41 (start_of b + 41 * x))
      (part_long b 41 (start_of b + 41 * x) (omega (arith, is.long)))
      (all_at (λ k. (read_node (node_part b k)).ok) (get_or b 1 0 + 2) x is.known h)

  header_same : header_image (get_or b 0 0) (get_or b 1 0) (get_or b 2 0) (number32 b 3) ≡ take 7 b
  header_same =
      ap (λ (r : List ℕ). get_or b 0 0 ∷ get_or b 1 0 ∷ get_or b 2 0 ∷ r) (four_back b low 3)
      ∙ from_part b 0 7 (omega (arith, is.long))

  write_read : image_of (queue_in b) ≡ b
  unfolding queue_in
  write_read =
      let c = joined_same (λ p. processor_image (processor_at (queue_in b) p)) (processor_part b)
      (get_or b 0 0) kept_processor ∙ joined_parts b 26 7 (get_or b 0 0) in
      let n = joined_same (λ x. node_image (node_at (queue_in b) x)) (node_part b) (get_or b 1 0 + 2)
      node_same_bytes ∙ joined_parts b 41 (start_of b) (get_or b 1 0 + 2) in
      joined_up header_same c n
      ∙ ap (λ (r : List ℕ). r ++ take (41 * (get_or b 1 0 + 2)) (drop (start_of b) b))
      (sym (take-add 7 (26 * get_or b 0 0) b))
      ∙ sym (take-add (start_of b) (41 * (get_or b 1 0 + 2)) b)
      ∙ take_all (length_of b) b (omega (arith, is.long))
    where
      joined_up : {x y z x' y' z' : List ℕ} → x ≡ x' → y ≡ y' → z ≡ z' → x ++ y ++ z
          ≡ x' ++ y' ++ z'
      joined_up e f g = rw (e, f, g) refl

-- the record that bytes are read as has fresh slots past its sizes
pub trim_in : (b : List ℕ) → get_or b 0 0 ≤ 16 → get_or b 1 0 ≤ 200 → Trim (queue_in b)
unfolding queue_in
trim_in b few short = record {
  processors_high = few;
  nodes_high = omega arith;
  nodes = λ x h l. get_d_listed (node_in b) node_slots x (fresh_node 0) l
      ∙ rw (le-ltb x (get_or b 1 0 + 2) (omega arith)) refl;
  processors =
      λ p h l. get_d_listed (processor_in b) max_processors p fresh_processor l
      ∙ rw (le-ltb p (get_or b 0 0) h) refl;
}

pub read_is_written : ReadIsWritten
read_is_written b low ok =
    let is = image_facts b ok in
    (write_read b low is, (sized_in b, trim_in b is.few is.short))
