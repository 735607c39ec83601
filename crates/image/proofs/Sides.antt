-- One node and one processor as bytes, there and back. Assumes nothing.
use mathlib.Core.Path.{◌≡◌, refl, ◌∙◌, ap}
use mathlib.Core.Bool.{true}
use mathlib.Core.List.{List, [], ◌∷◌, ◌++◌}
use Prim.Native.Nat.{ℕ}
use lib.ListN.{length, get_or}
use Rattle.laws.proofs.Counting.{and_left, and_right}
use Rattle.record.specs.declared.nodes.Node.{Node}
use Rattle.record.specs.declared.queues.Processor.{Processor}
use Rattle.image.specs.Numbers.{bytes_of32, number32, eight}
use Rattle.image.specs.Tags.{stamp_timed, stamp_of, stamp_taken, use_timed, use_of, use_taken}
use Rattle.image.specs.Tags.{Code, stage_code, stage_of}
use Rattle.image.specs.Pieces.{timed_bytes, timed_at, code_bytes, errand_bytes, code_at}
use Rattle.image.specs.Pieces.{node_image, read_node, processor_image, read_processor}
use Rattle.image.specs.OneToOne.{Bytes}
use Rattle.image.proofs.Bytes.{number_back, four_back, from_whole, eight_back}
use Rattle.image.proofs.Enums.{timed_eq, stamp_back}
use Rattle.image.proofs.Enums.{stamp_taken_lem, use_back, use_taken_lem, code_eq, stage_back}
use Rattle.image.proofs.Enums.{stage_taken_lem}

-- what is read of what is written
pub node_back :
    (n : Node) → length n.forward ≡ 8 → length n.level_locks ≡ 8 → read_node (node_image n)
    ≡ record { ok = true; node = n }
unfolding node_image read_node
node_back n forward locks =
    rw (
      number_back (stamp_timed n.stamp).time,
      number_back (use_timed n.state).time,
      number_back n.due,
      number_back n.ticket,
      number_back n.item,
      stamp_taken_lem n.stamp,
      stamp_back n.stamp,
      use_taken_lem n.state,
      use_back n.state,
      eight_back n.forward forward,
      eight_back n.level_locks locks,
    )
    refl

pub processor_back :
    (c : Processor) → length c.saved ≡ 8 → read_processor (processor_image c)
    ≡ record { ok = true; processor = c }
unfolding processor_image read_processor
processor_back c saved =
    rw (
      number_back c.begin,
      number_back (stage_code c.stage).due,
      number_back (stage_code c.stage).ticket,
      stage_taken_lem c.stage,
      stage_back c.stage,
      eight_back c.saved saved,
    )
    refl

-- what is written of what is read and taken: the bytes of a node, but for the pieces that are not single bytes
glued : List ℕ → List ℕ → List ℕ → List ℕ → List ℕ → List ℕ → List ℕ
glued b s d t i u =
    (eight b 0 ++ eight b 8 ++ (get_or b 16 0 ∷ []) ++ (get_or b 17 0 ∷ [])) ++
    (s ++ d ++ t ++ i ++ (get_or b 35 0 ∷ []) ++ u)

module _ (b : List ℕ) (s s' d d' t t' i i' u u' : List ℕ) where
  glued_same :
      s ≡ s' → d ≡ d' → t ≡ t' → i ≡ i' → u ≡ u' → glued b s d t i u ≡ glued b s' d' t' i' u'
  glued_same es ed et ei eu = rw (es, ed, et, ei, eu) refl

-- the same of a processor: its begin, and a Remove's due and ticket
joint : List ℕ → List ℕ → List ℕ → List ℕ → List ℕ
joint b t d k =
    t ++ (get_or b 4 0 ∷ []) ++ code_bytes (code_at b) ++ eight (eight b 9) 0
    ++ ((get_or b 17 0 ∷ []) ++ d ++ k)

module _ (b t t' d d' k k' : List ℕ) where
  joint_same : t ≡ t' → d ≡ d' → k ≡ k' → joint b t d k ≡ joint b t' d' k'
  joint_same et ed ek = rw (et, ed, ek) refl

module _ (b : List ℕ) (low : Bytes b) where
  pub node_kept : length b ≡ 41 → (read_node b).ok ≡ true → node_image (read_node b).node ≡ b
  unfolding node_image read_node glued
  node_kept long ok =
      let stamped = stamp_taken (timed_at b 18) in
      let used = use_taken (timed_at b 36) in
      let s = timed_eq (stamp_timed (stamp_of (timed_at b 18))) (timed_at b 18)
      (and_left stamped used ok) in
      let u = timed_eq (use_timed (use_of (timed_at b 36))) (timed_at b 36)
      (and_right stamped used ok) in
      glued_same b _ _ _ _ _ _ _ _ _ _
      (ap timed_bytes s ∙ ap (λ (r : List ℕ). get_or b 18 0 ∷ r) (four_back b low 19))
      (four_back b low 23)
      (four_back b low 27)
      (four_back b low 31)
      (ap timed_bytes u ∙ ap (λ (r : List ℕ). get_or b 36 0 ∷ r) (four_back b low 37))
      ∙ from_whole b 41 long

  pub processor_kept : length b ≡ 26 → (read_processor b).ok ≡ true →
      processor_image (read_processor b).processor ≡ b
  unfolding processor_image read_processor joint
  processor_kept long ok =
      let e = code_eq (stage_code (stage_of (code_at b))) (code_at b) ok in
      ap (λ (x : Code). bytes_of32 (number32 b 0) ++ (get_or b 4 0 ∷ []) ++ code_bytes x ++ eight
      (eight b 9) 0 ++ errand_bytes x) e
      ∙ joint_same b _ _ _ _ _ _ (four_back b low 0) (four_back b low 18) (four_back b low 22)
      ∙ from_whole b 26 long
