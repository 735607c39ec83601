-- Stores in the image of a record: in one node's bytes, in one processor's, in the clock's. Assumes nothing.
use mathlib.Core.Path.{◌≡◌, refl, sym, ◌∙◌, ap}
use mathlib.Core.List.{List, [], ◌++◌, append-nil, append_assoc}
use Prim.Native.Nat.{ℕ, ◌+◌, ◌*◌, ◌<◌}
use lib.ListN.{length, set}
use lib.Seq.{get_or-set_same, get_or-set_other}
use Rattle.record.specs.declared.nodes.Node.{Node}
use Rattle.record.specs.declared.queues.Processor.{Processor}
use Rattle.record.specs.declared.queues.Queue.{Queue}
use Rattle.record.specs.Nodes.{fresh_node}
use Rattle.record.specs.Queues.{fresh_processor, node_at, processor_at}
use Rattle.image.specs.Pieces.{node_image, processor_image}
use Rattle.image.specs.Image.{nodes_image, processors_image}
use Rattle.image.proofs.Lengths.{length_node, length_processor, length_front, headed}
use Rattle.image.specs.Puts.{puts, puts_in, four}
use Rattle.image.specs.Image.{image_of}
use Rattle.image.proofs.Puts.{Below, puts_after, puts_piece}

abbrev pub with_node : Queue → ℕ → Node → Queue
with_node q x n =
    record {
      processor_count = q.processor_count;
      node_count = q.node_count;
      level_count = q.level_count;
      clock =
          q.clock;
      nodes = set q.nodes x n;
      processors = q.processors;
    }

abbrev pub with_processor : Queue → ℕ → Processor → Queue
with_processor q p c =
    record {
      processor_count = q.processor_count;
      node_count = q.node_count;
      level_count = q.level_count;
      clock =
          q.clock;
      nodes = q.nodes;
      processors = set q.processors p c;
    }

abbrev pub with_clock : Queue → ℕ → Queue
with_clock q t =
    record {
      processor_count = q.processor_count;
      node_count = q.node_count;
      level_count = q.level_count;
      clock = t;
      nodes =
          q.nodes;
      processors = q.processors;
    }

module _ (q : Queue) (es : List (ℕ × ℕ)) where
  pub put_processor :
      (p : ℕ) (c : Processor) → p < q.processor_count → p < length q.processors → Below 26 es →
      puts_in (processor_image (processor_at q p)) es ≡ processor_image c →
      puts (image_of q) (7 + 26 * p) es ≡ image_of (with_processor q p c)
  put_processor p c low long fits here =
      ap (λ (r : List ℕ). puts r (7 + 26 * p) es)
      (append_assoc (headed q) (processors_image q q.processor_count) (nodes_image q (q.node_count + 2)))
      ∙ puts_after (headed q) (processors_image q q.processor_count ++ nodes_image q (q.node_count + 2)) 7
      (26 * p) es refl
      ∙ ap (λ (r : List ℕ). headed q ++ r)
      (puts_piece (λ k. processor_image (processor_at q k))
      (λ k. processor_image (processor_at (with_processor q p c) k)) 26
      (λ k. length_processor (processor_at q k)) p es fits
      (here ∙ ap processor_image (sym (get_or-set_same q.processors p c fresh_processor long)))
      (λ k ne. ap processor_image (sym (get_or-set_other q.processors p k c fresh_processor ne)))
      q.processor_count (nodes_image q (q.node_count + 2)) low)
      ∙ sym (append_assoc (headed q) (processors_image (with_processor q p c) q.processor_count)
      (nodes_image q (q.node_count + 2)))

  pub put_node :
      (base x : ℕ) (n : Node) → base ≡ 7 + 26 * q.processor_count → x < q.node_count + 2 →
      x < length q.nodes → Below 41 es →
      puts_in (node_image (node_at q x)) es ≡ node_image n →
      puts (image_of q) (base + 41 * x) es ≡ image_of (with_node q x n)
  put_node base x n start low long fits here =
      puts_after (headed q ++ processors_image q q.processor_count) (nodes_image q (q.node_count + 2)) base
      (41 * x) es (length_front q ∙ sym start)
      ∙ ap (λ (r : List ℕ). (headed q ++ processors_image q q.processor_count) ++ r)
      (ap (λ (r : List ℕ). puts r (41 * x) es) (sym (append-nil (nodes_image q (q.node_count + 2))))
      ∙ puts_piece (λ k. node_image (node_at q k)) (λ k. node_image (node_at (with_node q x n) k)) 41
      (λ k. length_node (node_at q k)) x es fits
      (here ∙ ap node_image (sym (get_or-set_same q.nodes x n (fresh_node 0) long)))
      (λ k ne. ap node_image (sym (get_or-set_other q.nodes x k n (fresh_node 0) ne)))
      (q.node_count + 2) [] low
      ∙ append-nil (nodes_image (with_node q x n) (q.node_count + 2)))

pub put_clock : (q : Queue) (t : ℕ) → puts (image_of q) 0 (four 3 t) ≡ image_of (with_clock q t)
put_clock q t = refl
