-- Stores in one node's and in one processor's bytes. Assumes nothing.
use mathlib.Core.Path.{◌≡◌, refl, sym, ◌∙◌, ap}
use mathlib.Core.List.{List, [], ◌∷◌, ◌++◌, append-nil, append_assoc}
use Prim.Native.Nat.{ℕ, zero, suc, ◌+◌, ◌≤◌, ◌<◌}
use native.Mathlib.Omega.{arith}
use lib.ListN.{length, set, drop, length-set}
use lib.Seq.{set-append_left}
use Rattle.record.specs.declared.nodes.Node.{Node}
use Rattle.record.specs.declared.queues.Processor.{Processor}
use Rattle.record.specs.declared.stages.Stage.{Stage}
use Rattle.record.specs.declared.stages.Stage.TheVariants as stage
use Rattle.laws.specs.Every.{set_below}
use Rattle.laws.proofs.Counting.{length_below}
use Rattle.record.specs.Nodes.{with_node_lock, with_stamp, with_mark, retired_at}
use Rattle.image.specs.Tags.{stage_code}
use Rattle.image.specs.Numbers.{bytes_of32, eight}
use Rattle.image.specs.Pieces.{node_image, processor_image, code_bytes, errand_bytes}
use Rattle.image.proofs.Bytes.{eight_back}
use Rattle.image.specs.Puts.{puts_in, four, clears, rests, wants}
use Rattle.image.proofs.Puts.{set_after}

eight_set : (l : List ℕ) (k v : ℕ) → length l ≡ 8 → set (eight l 0) k v ≡ eight (set l k v) 0
eight_set l k v h =
    ap (λ (r : List ℕ). set r k v) (eight_back l h)
    ∙ sym (eight_back (set l k v) (length-set l k v ∙ h))

-- a node with other levels
abbrev pub leveled : Node → List ℕ → List ℕ → Node
leveled n forward locks = record {
  forward = forward;
  level_locks = locks;
  node_lock = n.node_lock;
  mark = n.mark;
  stamp = n.stamp;
  due = n.due;
  ticket = n.ticket;
  item = n.item;
  height = n.height;
  state = n.state;
}

-- a forward number and a level lock, of the level k + 1, and then what else is stored
module _ (n : Node) (k v : ℕ) (es : List (ℕ × ℕ)) (low : k < 8) where
  pub put_forward : length n.forward ≡ 8 → puts_in (node_image n) ((k, v) ∷ es)
      ≡ puts_in (node_image (leveled n (set n.forward k v) n.level_locks)) es
  unfolding node_image
  put_forward long =
      ap (λ (r : List ℕ). puts_in r es)
      (set-append_left (eight n.forward 0) (drop 8 (node_image n)) k v low
      ∙ ap (λ (r : List ℕ). r ++ drop 8 (node_image n)) (eight_set n.forward k v long))

  pub put_lock : length n.level_locks ≡ 8 → puts_in (node_image n) ((8 + k, v) ∷ es)
      ≡ puts_in (node_image (leveled n n.forward (set n.level_locks k v))) es
  unfolding node_image
  put_lock long =
      ap (λ (r : List ℕ). puts_in r es)
      (set_after (eight n.forward 0) (drop 8 (node_image n)) (8 + k) k v refl
      ∙ ap (λ (r : List ℕ). eight n.forward 0 ++ r)
      (set-append_left (eight n.level_locks 0) (drop 16 (node_image n)) k v low
      ∙ ap (λ (r : List ℕ). r ++ drop 16 (node_image n)) (eight_set n.level_locks k v long)))

-- a processor with another stage and other saved nodes
abbrev pub moves : Processor → Stage → List ℕ → Processor
moves c g saved = record { begin = c.begin; own = c.own; stage = g; saved = saved }

pub put_saved :
    (c : Processor) (k v : ℕ) (es : List (ℕ × ℕ)) → k < 8 → length c.saved ≡ 8 →
    puts_in (processor_image c) ((9 + k, v) ∷ es)
    ≡ puts_in (processor_image (moves c c.stage (set c.saved k v))) es
unfolding processor_image
put_saved c k v es low long =
    let h = (bytes_of32 c.begin ++ (c.own ∷ [])) ++ code_bytes (stage_code c.stage) in
    let t = errand_bytes (stage_code c.stage) in
    ap (λ (l : List ℕ). puts_in l es)
    (set_after h (eight c.saved 0 ++ t) (9 + k) k v refl
    ∙ ap (λ (r : List ℕ). h ++ r)
    (set-append_left (eight c.saved 0) t k v low
    ∙ ap (λ (r : List ℕ). r ++ t) (eight_set c.saved k v long)))

-- the node lock, and a stamp
pub put_holder : (n : Node) (v : ℕ) → puts_in (node_image n) ((16, v) ∷ [])
    ≡ node_image (with_node_lock n v)
unfolding node_image
put_holder n v = refl

pub put_stamp : (n : Node) (t : ℕ) → puts_in (node_image n) ((18, 1) ∷ four 19 t)
    ≡ node_image (with_stamp n t)
unfolding node_image
put_stamp n t = refl

-- an idle processor
put_clears :
    (c : Processor) (l : ℕ) (es : List (ℕ × ℕ)) → l ≤ 8 → length c.saved ≡ 8 →
    puts_in (processor_image c) (clears l ++ es)
    ≡ puts_in (processor_image (moves c c.stage (set_below c.saved l 0))) es
put_clears c zero es few long = refl
put_clears c (suc k) es few long =
    ap (puts_in (processor_image c)) (append_assoc (clears k) ((9 + k, 0) ∷ []) es)
    ∙ put_clears c k ((9 + k, 0) ∷ es) (omega arith) long
    ∙ put_saved (moves c c.stage (set_below c.saved k 0)) k 0 es (omega arith)
    (length_below c.saved k 0 ∙ long)

module _ (c : Processor) (l : ℕ) (few : l ≤ 8) (long : length c.saved ≡ 8) where
  abbrev idled : Processor
  idled = record { begin = 0; own = 0; stage = stage.Idle; saved = set_below c.saved l 0 }

  -- its bytes, with this job and this key
  abbrev idled_with : List ℕ → List ℕ
  idled_with t =
      bytes_of32 0
      ++ (0 ∷ [])
      ++ code_bytes (stage_code stage.Idle)
      ++ eight (set_below c.saved l 0) 0
      ++ t

  put_ends :
      (es : List (ℕ × ℕ)) (t : List ℕ) → errand_bytes (stage_code c.stage) ≡ t →
      puts_in (processor_image c) ((clears l ++ rests) ++ es) ≡ puts_in (idled_with t) es
  unfolding processor_image
  put_ends es t e =
      ap (puts_in (processor_image c)) (append_assoc (clears l) rests es)
      ∙ put_clears c l (rests ++ es) few long
      ∙ ap (λ (r : List ℕ). puts_in (idled_with r) es) e

  -- after a stage that has neither, one that has a job, and one that has a key
  pub put_idle :
      errand_bytes (stage_code c.stage) ≡ errand_bytes (stage_code stage.Idle) →
      puts_in (processor_image c) (clears l ++ rests) ≡ processor_image idled
  unfolding processor_image
  put_idle e =
      ap (puts_in (processor_image c)) (sym (append-nil (clears l ++ rests))) ∙ put_ends [] _ e

  pub put_idle_job :
      (job : ℕ) → errand_bytes (stage_code c.stage) ≡ (job ∷ []) ++ bytes_of32 0 ++ bytes_of32 0 →
      puts_in (processor_image c) ((clears l ++ rests) ++ ((17, 0) ∷ [])) ≡ processor_image idled
  unfolding processor_image
  put_idle_job job e = put_ends ((17, 0) ∷ []) _ e

  pub put_idle_key :
      (due ticket : ℕ) →
      errand_bytes (stage_code c.stage) ≡ (0 ∷ []) ++ bytes_of32 due ++ bytes_of32 ticket →
      puts_in (processor_image c) ((clears l ++ rests) ++ wants 0 0) ≡ processor_image idled
  unfolding processor_image
  put_idle_key due ticket e = put_ends (wants 0 0) _ e

pub put_mark : (n : Node) (h : ℕ) → puts_in (node_image n) ((17, h) ∷ []) ≡ node_image (with_mark n h)
unfolding node_image
put_mark n h = refl

pub put_retired : (n : Node) (t : ℕ) → puts_in (node_image n) ((36, 2) ∷ four 37 t)
    ≡ node_image (retired_at n t)
unfolding node_image
put_retired n t = refl
