-- The bytes of a queue that was just made: one more byte, processor or node, and all of them.
-- Assumes nothing.
use mathlib.Core.Path.{◌≡◌, refl, sym, ◌∙◌, ap}
use mathlib.Core.List.{List, [], ◌∷◌, ◌++◌}
use Prim.Native.Nat.{ℕ, zero, suc, ◌+◌, ◌-◌, ◌*◌, ◌≤◌}
use native.Mathlib.Numerals.{add-one}
use native.Mathlib.Omega.{arith}
use borrow.Rule.Slice.PartMut.{put_mid}
use lib.ListN.{length, set, replicate}
use lib.Seq.{sets}
use Rattle.std.proofs.lemmas.List.{length-replicate, replicate_more}
use Rattle.record.specs.declared.queues.Queue.{Queue}
use Rattle.record.specs.Nodes.{fresh_node}
use Rattle.record.specs.Queues.{fresh_processor, fresh_queue, node_at, processor_at}
use Rattle.rules.proofs.Valid.{fresh_valid}
use Rattle.record_check.specs.Check.{valid}
use Rattle.image.specs.Layout.{image_length}
use Rattle.image.specs.Image.{header_image, processors_image, nodes_image, image_of, queue_in}
use Rattle.image.specs.Image.{Sound}
use Rattle.image.specs.Lists.{stored_at, joined}
use Rattle.image.specs.Pieces.{node_image, processor_image}
use Rattle.image.proofs.Inverse.{read_write}
use Rattle.image.proofs.Lengths.{length_node, length_processor, headed, length_front, length_image}
use Rattle.image.proofs.Lists.{joined_next, none_joined}
use Rattle.image.proofs.Parts.{joined_same}
use Rattle.image.proofs.Places.{next, written_none, written_whole}
use Rattle.image.proofs.Runs.{put_mid-sets}
use Rattle.image_parts.proofs.Arrays.{fresh_sized}
use Rattle.image_parts.proofs.Reached.{processor_fresh, node_fresh, fresh_trim}
use Rattle.image_make.specs.Fresh.{repeated, fresh_processors, fresh_nodes}

-- n bytes that were written at once
repeated_is : (v n : ℕ) → replicate n v ≡ repeated v n
unfolding joined
repeated_is v zero = refl
repeated_is v (suc n) =
    ap (λ (k : ℕ). replicate k v) (sym (add-one n)) ∙ sym (replicate_more n v)
    ∙ ap (λ (r : List ℕ). r ++ (v ∷ [])) (repeated_is v n)

pub filled : (b ys : List ℕ) (o n k v : ℕ) → ys ≡ replicate k v → k ≡ n → o + n ≤ length b →
    put_mid o (o + n - o) b ys ≡ stored_at b o (repeated v n)
unfolding stored_at
filled b ys o n k v is long high =
    let e : o + length ys ≡ o + n = omega (arith, ap length is, length-replicate {A = ℕ} k v) in
    put_mid-sets b ys o (o + n) e high
    ∙ ap (sets b o) (is ∙ ap (λ (i : ℕ). replicate i v) long ∙ repeated_is v n)

-- one more processor and one more node
pub none_called : (b : List ℕ) → b ≡ stored_at b 7 (fresh_processors 0)
none_called b = rw (none_joined (λ (k : ℕ). processor_image fresh_processor)) (written_none b 7)

idle_bytes : repeated 0 26 ≡ processor_image fresh_processor
unfolding joined processor_image
idle_bytes = refl

pub one_called :
    (a l m : List ℕ) (p : ℕ) → m ≡ stored_at l (7 + 26 * p) (repeated 0 26) →
    l ≡ stored_at a 7 (fresh_processors p) → m ≡ stored_at a 7 (fresh_processors (p + 1))
one_called a l m p e h =
    joined_next (λ (k : ℕ). processor_image fresh_processor) 26 (λ k. length_processor fresh_processor)
    7 p a l m (e ∙ ap (stored_at l (7 + 26 * p)) idle_bytes) h

pub none_noded : (b : List ℕ) (o tail : ℕ) → b ≡ stored_at b o (fresh_nodes tail 0)
none_noded b o tail =
    rw (none_joined (λ (k : ℕ). node_image (fresh_node tail))) (written_none b o)

pub one_noded :
    (a l m : List ℕ) (o x tail : ℕ) → m ≡ stored_at l (o + 41 * x) (node_image (fresh_node tail)) →
    l ≡ stored_at a o (fresh_nodes tail x) → m ≡ stored_at a o (fresh_nodes tail (x + 1))
one_noded a l m o x tail e h =
    joined_next (λ (k : ℕ). node_image (fresh_node tail)) 41 (λ k. length_node (fresh_node tail))
    o x a l m e h

-- the pieces of a node, and of the header
node_bytes_lem :
    (tail : ℕ) →
    ((repeated tail 8 ++ repeated 0 27) ++ repeated 1 1) ++ repeated 0 5
    ≡ node_image (fresh_node tail)
unfolding joined node_image
node_bytes_lem tail = refl

length_8 : (v : ℕ) → length (repeated v 8) ≡ 8
unfolding joined
length_8 v = refl

length_35 : (v w : ℕ) → length (repeated v 8 ++ repeated w 27) ≡ 35
unfolding joined
length_35 v w = refl

length_36 : (u v w : ℕ) → length ((repeated u 8 ++ repeated v 27) ++ repeated w 1) ≡ 36
unfolding joined
length_36 u v w = refl

pub node_stored :
    (a b c d e : List ℕ) (o tail : ℕ) →
    b ≡ stored_at a o (repeated tail 8) → c ≡ stored_at b (o + 8) (repeated 0 27) →
    d ≡ stored_at c (o + 35) (repeated 1 1) → e ≡ stored_at d (o + 36) (repeated 0 5) →
    e ≡ stored_at a o (node_image (fresh_node tail))
node_stored a b c d e o tail f g h k =
    let x = next a o b c 8 (repeated tail 8) (repeated 0 27) g f (length_8 tail) in
    let y = next a o c d 35 (repeated tail 8 ++ repeated 0 27) (repeated 1 1) h x
    (length_35 tail 0) in
    let z =
    next a o d e 36 ((repeated tail 8 ++ repeated 0 27) ++ repeated 1 1) (repeated 0 5) k y
    (length_36 tail 0 1) in
    z ∙ ap (stored_at a o) (node_bytes_lem tail)

header_bytes_lem : (p n l : ℕ) → (p ∷ n ∷ l ∷ []) ++ repeated 0 4 ≡ header_image p n l 0
unfolding joined
header_bytes_lem p n l = refl

three : (a : List ℕ) (p n l : ℕ) → set (set (set a 0 p) 1 n) 2 l ≡ stored_at a 0 (p ∷ n ∷ l ∷ [])
unfolding stored_at
three a p n l = refl

pub header_stored :
    (a b : List ℕ) (p n l : ℕ) → b ≡ stored_at (set (set (set a 0 p) 1 n) 2 l) 3 (repeated 0 4) →
    b ≡ stored_at a 0 (header_image p n l 0)
header_stored a b p n l e =
    next a 0 (set (set (set a 0 p) 1 n) 2 l) b 3 (p ∷ n ∷ l ∷ []) (repeated 0 4) e (three a p n l)
    refl
    ∙ ap (stored_at a 0) (header_bytes_lem p n l)

-- all of it
module _ (P N L : ℕ) where
  abbrev made : Queue
  made = fresh_queue P N L

  pub all_stored :
      (a b c d : List ℕ) → length a ≡ image_length P N → N ≤ 200 →
      b ≡ stored_at a 0 (header_image P N L 0) → c ≡ stored_at b 7 (fresh_processors P) →
      d ≡ stored_at c (7 + 26 * P) (fresh_nodes (N + 1) (N + 2)) →
      d ≡ image_of made
  all_stored a b c d long short f g h =
      let cs : fresh_processors P ≡ processors_image made P =
      joined_same (λ (k : ℕ). processor_image fresh_processor)
      (λ k. processor_image (processor_at made k)) P
      (λ k l. ap processor_image (sym (processor_fresh P N L k))) in
      let ns : fresh_nodes (N + 1) (N + 2) ≡ nodes_image made (N + 2) =
      joined_same (λ (k : ℕ). node_image (fresh_node (N + 1))) (λ k. node_image (node_at made k))
      (N + 2) (λ k l. ap node_image (sym (node_fresh P N L k (omega arith)))) in
      let z : 7 + 26 * P ≡ 0 + (7 + 26 * P) = omega arith in
      let e = next a 0 b c 7 (headed made) (processors_image made P) (g ∙ ap (stored_at b 7) cs) f refl in
      let i =
      next a 0 c d (7 + 26 * P) (headed made ++ processors_image made P) (nodes_image made (N + 2))
      (h ∙ ap (stored_at c (7 + 26 * P)) ns
      ∙ ap (λ (j : ℕ). stored_at c j (nodes_image made (N + 2))) z) e
      (length_front made) in
      i ∙ written_whole a (image_of made) (length_image made ∙ sym long)

  module _ (p_low : 1 ≤ P) (few : P ≤ 16) (n_low : 1 ≤ N) (short : N ≤ 200) (l_low : 1 ≤ L)
      (l_high : L ≤ 8) where
    pub made_read : queue_in (image_of made) ≡ made
    made_read = read_write made (fresh_sized P N L) (fresh_trim P N L few short)

    pub made_sound : Sound (image_of made)
    unfolding queue_in
    made_sound = record {
      long = length_image made;
      image = ap image_of made_read;
      passes = ap valid made_read ∙ fresh_valid P N L p_low few n_low short l_low l_high;
    }
