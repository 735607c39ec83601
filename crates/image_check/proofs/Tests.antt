-- The tests of a node's, of a processor's and of all bytes. Assumes nothing.
use mathlib.Core.Path.{◌≡◌, refl, sym, ◌∙◌, ap}
use mathlib.Core.Bool.{Bool, true, false, ◌&&◌, and-false}
use mathlib.Core.List.{List}
use Prim.Native.Nat.{ℕ, zero, suc, ◌+◌, ◌*◌, ◌≤◌, ◌<◌}
use native.Mathlib.Omega.{arith}
use lib.Dec.{eqb, leb}
use lib.ListN.{length, get_or}
use borrow.Author.Tests.{eq-eqb, eqb-true, eqb-false, ne_eqb, le-leb, lt-leb}
use Rattle.laws.specs.Every.{every_below, all_at_most}
use Rattle.laws.proofs.Counting.{and_left, and_right, and_both}
use Rattle.record_check.specs.declared.check.Sizes.{Sizes}
use Rattle.record_check.specs.Check.{within, stamp_valid, use_valid, sizes_of, sizes_valid, node_valid}
use Rattle.record_check.specs.Check.{carried_valid, processor_valid, valid}
use Rattle.record_check.proofs.SizeLaws.{sizes_bounds}
use Rattle.image.specs.Tags.{Code, timed, stamp_of, stamp_taken, use_of, use_taken}
use Rattle.image.specs.Tags.{stage_of, stage_taken}
use Rattle.record.specs.declared.nodes.Node.{Node}
use Rattle.record.specs.declared.queues.Processor.{Processor}
use Rattle.record.specs.Queues.{node_at, processor_at}
use Rattle.record.specs.Stages.{carried}
use Rattle.image.specs.Lists.{all_below}
use Rattle.image.specs.Numbers.{number32}
use Rattle.image.specs.Pieces.{read_node, read_processor}
use Rattle.image.specs.OneToOne.{Bytes}
use Rattle.image.specs.Puts.{piece}
use Rattle.image.specs.Image.{start_of, length_of, processor_part, node_part, queue_in, has_room, is_image}
use Rattle.image.specs.Image.{passes_of, Sound}
use Rattle.image.proofs.Fields.{number, eight_from, node_from, code_from, processor_from, part_bytes}
use Rattle.image.proofs.Fields.{node_is, processor_is, eight_at, number_at}
use Rattle.image.proofs.Inverse.{image_facts, read_is_written}
use Rattle.image_check.specs.Bounds.{row_at, in_bounds, errand_in_bounds}
use Rattle.image_check.specs.Tests.{sizes, links_test, entry_test, node_ok, processor_ok}
use Rattle.image_check.proofs.Stages.{stage_tests}

levels_same : (f : ℕ → ℕ) (j l top : ℕ) → l ≤ 8 → all_at_most (eight_from f j) l top
    ≡ every_below (λ (k : ℕ). leb (f (j + k)) top) l
levels_same f j zero top h = refl
levels_same f j (suc l) top h =
    rw (levels_same f j l top (omega arith), eight_at f j l (omega arith)) refl

abbrev node_taken : (ℕ → ℕ) → Bool
node_taken f = stamp_taken (timed (f 18) (number f 19)) && use_taken (timed (f 36) (number f 37))

abbrev processor_taken : (ℕ → ℕ) → Bool
processor_taken f = stage_taken (code_from f)

node_ok_lem : (b : List ℕ) → (read_node b).ok ≡ node_taken (λ (j : ℕ). get_or b j 0)
unfolding read_node
node_ok_lem b = refl

processor_ok_lem : (b : List ℕ) → (read_processor b).ok ≡ processor_taken (λ (j : ℕ). get_or b j 0)
unfolding read_processor
processor_ok_lem b = refl

spread : (m s u l e sv uv : Bool) → (l && (e && (m && ((s && sv) && (u && uv)))))
    ≡ ((s && u) && ((((l && m) && e) && sv) && uv))
spread m s u false e sv uv = sym (and-false (s && u))
spread false s u true e sv uv = and-false e ∙ sym (and-false (s && u))
spread true s u true false sv uv = sym (and-false (s && u))
spread true false u true true sv uv = refl
spread true true false true true sv uv = and-false sv
spread true true true true true sv uv = refl

-- node x, in the order of the code
module _ (b : List ℕ) (x : ℕ) (low : x ≤ get_or b 1 0 + 1) (short : get_or b 1 0 ≤ 200)
    (few : get_or b 2 0 ≤ 8) where
  pub node_tests :
      (links_test b (start_of b + 41 * x) (get_or b 0 0) (get_or b 1 0) (get_or b 2 0)
      && (entry_test b (start_of b + 41 * x) (get_or b 2 0) (number32 b 3)
      && (leb (get_or b (start_of b + 41 * x + 17) 0) (get_or b 0 0)
      && ((stamp_taken
      (timed (get_or b (start_of b + 41 * x + 18) 0) (number32 b (start_of b + 41 * x + 19)))
      && stamp_valid
      (stamp_of
      (timed (get_or b (start_of b + 41 * x + 18) 0) (number32 b (start_of b + 41 * x + 19))))
      (within x (get_or b 1 0)) (number32 b 3))
      && (use_taken
      (timed (get_or b (start_of b + 41 * x + 36) 0) (number32 b (start_of b + 41 * x + 37)))
      && use_valid
      (use_of
      (timed (get_or b (start_of b + 41 * x + 36) 0) (number32 b (start_of b + 41 * x + 37))))
      (number32 b 3))))))
      ≡ node_ok b x
  unfolding queue_in node_ok
  node_tests =
      let o = start_of b + 41 * x in
      let f = piece b o in
      let n = node_from f in
      let g = number32 b 3 in
      let e : (read_node (node_part b x)).ok ≡ node_taken f =
      node_ok_lem (node_part b x) ∙ ap node_taken (part_bytes b 41 o) in
      rw (
        number_at b o 23,
        number_at b o 31,
        number_at b o 27,
        number_at b o 19,
        number_at b o 37,
        sym (levels_same f 0 (get_or b 2 0) (get_or b 1 0 + 1) few),
        sym (levels_same f 8 (get_or b 2 0) (get_or b 0 0) few),
      )
      (spread (leb (f 17) (get_or b 0 0)) (stamp_taken (timed (f 18) (number f 19)))
      (use_taken (timed (f 36) (number f 37)))
      (all_at_most (eight_from f 0) (get_or b 2 0) (get_or b 1 0 + 1) && all_at_most (eight_from f 8)
      (get_or b 2 0) (get_or b 0 0) && leb (f 16) (get_or b 0 0))
      (leb (number f 23) 999999 && leb (number f 31) 999999 && leb (number f 27) g && within (f 35)
      (get_or b 2 0))
      (stamp_valid n.stamp (within x (get_or b 1 0)) g) (use_valid n.state g)
      ∙ ap (λ (t : Bool). t && node_valid (sizes_of (queue_in b)) x n) (sym e)
      ∙ ap (λ (m : Node). (read_node (node_part b x)).ok && node_valid (sizes_of (queue_in b)) x m)
      (sym (node_is b (start_of b) refl short x (omega arith))))

swap : (e t v : Bool) → (e && (t && v)) ≡ (t && (e && v))
swap true t v = refl
swap false t v = sym (and-false t)

tag_past : (x : Code) → 32 < x.tag → stage_taken x ≡ false
tag_past x h =
    let t = x.tag in
    rw (
      ne_eqb t 0 (λ e. omega arith),
      lt-leb t 10 (omega arith),
      lt-leb t 13 (omega arith),
      lt-leb t 26 (omega arith),
      lt-leb t 28 (omega arith),
      ne_eqb t 29 (λ e. omega arith),
      ne_eqb t 30 (λ e. omega arith),
      ne_eqb t 31 (λ e. omega arith),
      ne_eqb 32 t (λ e. omega arith),
    )
    refl

-- processor p
module _ (b : List ℕ) (p : ℕ) (low : p < get_or b 0 0) (many : get_or b 0 0 ≤ 16)
    (tall : 1 ≤ get_or b 2 0) (few : get_or b 2 0 ≤ 8) where
  processor_taken_lem : (read_processor (processor_part b p)).ok ≡ processor_taken (piece b (7 + 26 * p))
  processor_taken_lem =
      processor_ok_lem (processor_part b p) ∙ ap processor_taken (part_bytes b 26 (7 + 26 * p))

  abbrev saved : Bool
  saved = every_below (λ (k : ℕ). leb (piece b (7 + 26 * p) (9 + k)) (get_or b 1 0 + 1)) (get_or b 2 0)

  -- the begin time and the saved nodes
  abbrev early : Bool
  early = leb (number32 b (7 + 26 * p + 0)) (number32 b 3) && saved

  -- the stage and the own node
  abbrev late : (ℕ → ℕ) → Bool
  late f =
      stage_taken (code_from f)
      && carried_valid (sizes_of (queue_in b)) (carried (stage_of (code_from f))) (f 4)

  processor_parts : (early && late (piece b (7 + 26 * p))) ≡ processor_ok b p
  unfolding queue_in processor_ok
  processor_parts =
      let o = 7 + 26 * p in
      let f = piece b o in
      let s = sizes_of (queue_in b) in
      rw (number_at b o 0, sym (levels_same f 9 (get_or b 2 0) (get_or b 1 0 + 1) few))
      (swap (leb (number f 0) (number32 b 3) && all_at_most (eight_from f 9) (get_or b 2 0)
      (get_or b 1 0 + 1)) (processor_taken f) _
      ∙ ap (λ (t : Bool). t && processor_valid s (processor_from f)) (sym processor_taken_lem)
      ∙ ap (λ (c : Processor). (read_processor (processor_part b p)).ok && processor_valid s c)
      (sym (processor_is b p many low)))

  processor_early : early ≡ false → false ≡ processor_ok b p
  processor_early h =
      sym (ap (λ (t : Bool). t && late (piece b (7 + 26 * p))) h) ∙ processor_parts

  -- a begin time past the clock, and saved nodes past the tail
  pub processor_begun :
      {v w : ℕ} → v ≡ number32 b 3 → w ≡ number32 b (7 + 26 * p + 0) → v < w →
      false ≡ processor_ok b p
  processor_begun e f h =
      processor_early (ap (λ (t : Bool). t && saved)
      (lt-leb (number32 b (7 + 26 * p + 0)) (number32 b 3) (rw (sym e, sym f) h)))

  pub processor_saved : {t : Bool} → t ≡ saved → t ≡ false → false ≡ processor_ok b p
  processor_saved e h =
      processor_early (ap (λ (t : Bool). leb (number32 b (7 + 26 * p + 0)) (number32 b 3) && t)
      (sym e ∙ h) ∙ and-false (leb (number32 b (7 + 26 * p + 0)) (number32 b 3)))

  pub processor_past : 32 < get_or b (7 + 26 * p + 5) 0 → false ≡ processor_ok b p
  unfolding processor_ok
  processor_past h =
      let f = piece b (7 + 26 * p) in
      sym (ap (λ (t : Bool). t && processor_valid (sizes_of (queue_in b)) (processor_at (queue_in b) p))
      (processor_taken_lem ∙ tag_past (code_from f) h))

  -- where the begin time and the saved nodes pass: the job and the key, the place and the own node
  abbrev errand : ℕ → ℕ → Bool
  errand due ticket =
      errand_in_bounds (row_at (get_or b (7 + 26 * p + 5) 0)) (get_or b (7 + 26 * p + 17) 0) due ticket

  abbrev placing : Bool
  placing =
      in_bounds (row_at (get_or b (7 + 26 * p + 5) 0)) (get_or b (7 + 26 * p + 6) 0)
      (get_or b (7 + 26 * p + 7) 0) (get_or b (7 + 26 * p + 8) 0) (get_or b (7 + 26 * p + 4) 0)
      (get_or b 1 0) (get_or b 2 0)

  module _ {v w : ℕ} {t : Bool} (e : v ≡ number32 b 3) (f : w ≡ number32 b (7 + 26 * p + 0))
      (h : w ≤ v) (g : t ≡ saved) (k : t ≡ true) (known : get_or b (7 + 26 * p + 5) 0 < 33) where
    processor_tests :
        (errand (number32 b (7 + 26 * p + 18)) (number32 b (7 + 26 * p + 22)) && placing)
        ≡ processor_ok b p
    unfolding queue_in
    processor_tests =
        let o = 7 + 26 * p in
        let f' = piece b o in
        let begun = le-leb (number32 b (o + 0)) (number32 b 3) (rw (sym e, sym f) h) in
        rw (number_at b o 18, number_at b o 22)
        (sym (stage_tests (f' 5) known (sizes_of (queue_in b)) (f' 6) (f' 7) (f' 8) (f' 17)
        (number f' 18) (number f' 22) (f' 4) tall)
        ∙ sym (ap (λ (t : Bool). t && late f') (and_both _ saved begun (sym g ∙ k)))
        ∙ processor_parts)

    module _ {d n : ℕ} {u : Bool} (due : d ≡ number32 b (7 + 26 * p + 18))
        (ticket : n ≡ number32 b (7 + 26 * p + 22)) (is : u ≡ errand d n) where
      pub processor_errand : {z : Bool} → u ≡ z → (z && placing) ≡ processor_ok b p
      processor_errand passed =
          ap (λ (t : Bool). t && placing)
          (sym passed ∙ is ∙ ap (λ (x : ℕ). errand x n) due ∙ ap (errand _) ticket)
          ∙ processor_tests

-- all bytes
every_both : (f g : ℕ → Bool) (n : ℕ) → every_below (λ k. f k && g k) n
    ≡ (every_below f n && every_below g n)
every_both f g zero = refl
every_both f g (suc n) = rw (every_both f g n) (four (every_below f n) (every_below g n) (f n) (g n))
  where
    four : (a c x y : Bool) → ((a && c) && (x && y)) ≡ ((a && x) && (c && y))
    four false c x y = refl
    four true true x y = refl
    four true false x y = sym (and-false x)

mix : (ca vc kn vn : Bool) → ((ca && vc) && (kn && vn)) ≡ ((ca && kn) && (vn && vc))
mix false vc kn vn = refl
mix true vc false vn = and-false vc
mix true true true true = refl
mix true true true false = refl
mix true false true true = refl
mix true false true false = refl

module _ (b : List ℕ) where
  nodes_every : every_below (node_ok b) (get_or b 1 0 + 2)
      ≡ (all_below (λ x. (read_node (node_part b x)).ok) (get_or b 1 0 + 2) && every_below
      (λ x. node_valid (sizes_of (queue_in b)) x (node_at (queue_in b) x)) (get_or b 1 0 + 2))
  unfolding node_ok all_below
  nodes_every =
      every_both (λ x. (read_node (node_part b x)).ok)
      (λ x. node_valid (sizes_of (queue_in b)) x (node_at (queue_in b) x)) (get_or b 1 0 + 2)

  processors_every : every_below (processor_ok b) (get_or b 0 0)
      ≡ (all_below (λ p. (read_processor (processor_part b p)).ok) (get_or b 0 0) && every_below
      (λ p. processor_valid (sizes_of (queue_in b)) (processor_at (queue_in b) p)) (get_or b 0 0))
  unfolding processor_ok all_below
  processors_every =
      every_both (λ p. (read_processor (processor_part b p)).ok)
      (λ p. processor_valid (sizes_of (queue_in b)) (processor_at (queue_in b) p)) (get_or b 0 0)

  pub misfit : (length b ≡ length_of b → ⊥) → false ≡ passes_of b
  unfolding passes_of is_image
  misfit h = sym (rw (ne_eqb (length b) (length_of b) h, and-false (has_room b)) refl)

  pub outsized : false ≡ sizes_valid (sizes (get_or b 0 0) (get_or b 1 0) (get_or b 2 0) (number32 b 3)) →
      false ≡ passes_of b
  unfolding passes_of queue_in
  outsized h = sym (rw (sym h) (and-false (is_image b)))

  pub all_tests : true ≡ sizes_valid (sizes (get_or b 0 0) (get_or b 1 0) (get_or b 2 0) (number32 b 3)) →
      length b ≡ length_of b →
      get_or b 0 0 ≤ 16 → get_or b 1 0 ≤ 200 →
      (every_below (processor_ok b) (get_or b 0 0) && every_below (node_ok b) (get_or b 1 0 + 2)) ≡ passes_of b
  unfolding passes_of is_image queue_in
  all_tests h long few short =
      rw (
        sym h,
        eq-eqb (length b) (length_of b) long,
        le-leb (get_or b 0 0) 16 few,
        le-leb
            (get_or b 1 0 + 2) 202 (omega arith),
        nodes_every,
        processors_every,
      ) (mix
      (all_below (λ p. (read_processor (processor_part b p)).ok) (get_or b 0 0))
      (every_below (λ p. processor_valid (sizes_of (queue_in b)) (processor_at (queue_in b) p))
      (get_or b 0 0))
      (all_below (λ x. (read_node (node_part b x)).ok) (get_or b 1 0 + 2))
      (every_below (λ x. node_valid (sizes_of (queue_in b)) x (node_at (queue_in b) x))
      (get_or b 1 0 + 2)))

  -- in the order of the code
  pub tests_of :
      (sizes_valid (sizes (get_or b 0 0) (get_or b 1 0) (get_or b 2 0) (number32 b 3))
      && (eqb (length b) (length_of b)
      && (every_below (processor_ok b) (get_or b 0 0) && every_below (node_ok b) (get_or b 1 0 + 2))))
      ≡ passes_of b
  tests_of = go (sizes_valid known) (eqb (length b) (length_of b)) refl refl
    where
      known : Sizes
      known = sizes (get_or b 0 0) (get_or b 1 0) (get_or b 2 0) (number32 b 3)

      go : (x y : Bool) → sizes_valid known ≡ x → eqb (length b) (length_of b) ≡ y →
          (x && (y && (every_below (processor_ok b) (get_or b 0 0)
          && every_below (node_ok b) (get_or b 1 0 + 2)))) ≡ passes_of b
      go false y h k = outsized (sym h)
      go true false h k = misfit (eqb-false (length b) (length_of b) k)
      go true true h k =
          let z = sizes_bounds known h in
          all_tests (sym h) (eqb-true (length b) (length_of b) k) z.processors_high z.nodes_high

  -- bytes that pass are sound
  pub passes_sound : Bytes b → passes_of b ≡ true → Sound b
  unfolding passes_of
  passes_sound low ok =
      let t = and_left (is_image b) (valid (queue_in b)) ok in
      record {
        long = (image_facts b t).long;
        image = (read_is_written b low t).0;
        passes = and_right (is_image b) (valid (queue_in b)) ok;
      }
