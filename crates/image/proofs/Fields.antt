-- A node and a processor of the record that bytes are read as, by their bytes. Assumes nothing.
use mathlib.Core.Path.{◌≡◌, refl, sym, ◌∙◌, ap, fun_ext}
use mathlib.Core.Bool.{Bool, true, false, cond}
use mathlib.Core.List.{List, [], ◌∷◌}
use Prim.Native.Nat.{ℕ, zero, suc, ◌+◌, ◌*◌, ◌<◌, ◌≤◌}
use native.Mathlib.Omega.{arith}
use lib.Dec.{ltb}
use lib.ListN.{get_or, take, drop, length-take, get_or-eq_default}
use lib.Seq.{get_or-take, get_or-drop}
use borrow.Author.Tests.{ltb-true, ltb-false, lt-ltb}
use Rattle.record.specs.declared.nodes.Node.{Node}
use Rattle.record.specs.declared.queues.Processor.{Processor}
use Rattle.record.specs.Limits.{max_processors, node_slots}
use Rattle.record.specs.Nodes.{fresh_node}
use Rattle.record.specs.Queues.{fresh_processor, node_at, processor_at}
use Rattle.image.specs.Tags.{Code, timed, stamp_of, use_of, code, stage_of}
use Rattle.image.specs.Numbers.{number32}
use Rattle.image.specs.Pieces.{read_node, read_processor}
use Rattle.image.proofs.Parts.{get_d_listed}
use Rattle.image.specs.Puts.{piece}
use Rattle.image.specs.Image.{start_of, processor_part, node_part, processor_in, node_in, queue_in}

abbrev pub number : (ℕ → ℕ) → ℕ → ℕ
number f j = f j + 256 * f (j + 1) + 65536 * f (j + 2) + 16777216 * f (j + 3)

abbrev pub eight_from : (ℕ → ℕ) → ℕ → List ℕ
eight_from f j =
    f j ∷ f (j + 1) ∷ f (j + 2) ∷ f (j + 3) ∷ f (j + 4) ∷ f (j + 5) ∷ f (j + 6) ∷ f (j + 7) ∷ []

abbrev pub node_from : (ℕ → ℕ) → Node
node_from f = record {
  forward = eight_from f 0;
  level_locks = eight_from f 8;
  node_lock = f 16;
  mark = f 17;
  stamp = stamp_of (timed (f 18) (number f 19));
  due = number f 23;
  ticket = number f 27;
  item = number f 31;
  height = f 35;
  state = use_of (timed (f 36) (number f 37));
}

-- the numbers of a processor's stage
abbrev pub code_from : (ℕ → ℕ) → Code
code_from f = code (f 5) (f 6) (f 7) (f 8) (f 17) (number f 18) (number f 22)

abbrev pub processor_from : (ℕ → ℕ) → Processor
processor_from f =
    record
    { begin = number f 0; own = f 4; stage = stage_of (code_from f); saved = eight_from f 9 }

-- the bytes of a part, 0 past its end
pub part_bytes : (b : List ℕ) (w o : ℕ) →
    ◌≡◌ {A = ℕ → ℕ} (λ (j : ℕ). get_or (take w (drop o b)) j 0)
    (λ (j : ℕ). cond (ltb j w) (piece b o j) 0)
part_bytes b w o = fun_ext (λ j. go j (ltb j w) refl)
  where
    go : (j : ℕ) (t : Bool) → ltb j w ≡ t → get_or (take w (drop o b)) j 0 ≡ cond t (piece b o j) 0
    go j true h = get_or-take w (drop o b) j 0 (ltb-true j w h) ∙ get_or-drop o b j 0
    go j false h =
        let l = ltb-false j w h in
        get_or-eq_default (take w (drop o b)) 0 {n = j}
        (rw (length-take w (drop o b)) (omega arith))

read_node_lem : (b : List ℕ) → (read_node b).node ≡ node_from (λ (j : ℕ). get_or b j 0)
unfolding read_node
read_node_lem b = refl

read_processor_lem : (b : List ℕ) → (read_processor b).processor ≡ processor_from (λ (j : ℕ). get_or b j 0)
unfolding read_processor
read_processor_lem b = refl

module _ (b : List ℕ) where
  pub node_at_lem : (x : ℕ) → get_or b 1 0 ≤ 200 → x < get_or b 1 0 + 2 → node_at (queue_in b) x
      ≡ (read_node (node_part b x)).node
  unfolding queue_in
  node_at_lem x n h =
      get_d_listed (node_in b) node_slots x (fresh_node 0) (omega arith) ∙ rw (lt-ltb _ _ h) refl

  pub processor_at_lem : (p : ℕ) → get_or b 0 0 ≤ 16 → p < get_or b 0 0 → processor_at (queue_in b) p
      ≡ (read_processor (processor_part b p)).processor
  unfolding queue_in
  processor_at_lem p n h =
      get_d_listed (processor_in b) max_processors p fresh_processor (omega arith) ∙ rw (lt-ltb _ _ h) refl

  -- base is where the nodes start
  pub node_is : (base : ℕ) → base ≡ start_of b → get_or b 1 0 ≤ 200 → (x : ℕ) → x < get_or b 1 0 + 2 →
      node_at (queue_in b) x ≡ node_from (piece b (base + 41 * x))
  node_is base start n x h =
      node_at_lem x n h ∙ read_node_lem (node_part b x) ∙ ap node_from (part_bytes b 41 (start_of b + 41 * x))
      ∙ ap (λ (o : ℕ). node_from (piece b (o + 41 * x))) (sym start)

  pub processor_is : (p : ℕ) → get_or b 0 0 ≤ 16 → p < get_or b 0 0 → processor_at (queue_in b) p
      ≡ processor_from (piece b (7 + 26 * p))
  processor_is p n h =
      processor_at_lem p n h ∙ read_processor_lem (processor_part b p)
      ∙ ap processor_from (part_bytes b 26 (7 + 26 * p))

-- one of eight bytes
pub eight_at : (f : ℕ → ℕ) (j k : ℕ) → k < 8 → get_or (eight_from f j) k 0 ≡ f (j + k)
eight_at f j zero h = let z : j + 0 ≡ j = omega arith in rw z refl
eight_at f j (suc zero) h = refl
eight_at f j (suc (suc zero)) h = refl
eight_at f j (suc (suc (suc zero))) h = refl
eight_at f j (suc (suc (suc (suc zero)))) h = refl
eight_at f j (suc (suc (suc (suc (suc zero))))) h = refl
eight_at f j (suc (suc (suc (suc (suc (suc zero)))))) h = refl
eight_at f j (suc (suc (suc (suc (suc (suc (suc zero))))))) h = refl
eight_at f j (suc (suc (suc (suc (suc (suc (suc (suc k)))))))) h = absurd (omega arith)

-- a number of four bytes in a piece
pub number_at : (b : List ℕ) (o j : ℕ) → number32 b (o + j) ≡ number (piece b o) j
number_at b o j =
    let x : o + j + 1 ≡ o + (j + 1) = omega arith in
    let y : o + j + 2 ≡ o + (j + 2) = omega arith in
    let z : o + j + 3 ≡ o + (j + 3) = omega arith in
    rw (x, y, z) refl
