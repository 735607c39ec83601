-- One law for every call in place: the stores of the clock, of one node and of the processor give
-- the image of the record that the definition gives. Assumes nothing.
use mathlib.Core.Path.{◌≡◌, sym, ◌∙◌, ap}
use mathlib.Core.List.{List}
use Prim.Native.Nat.{ℕ, ◌+◌, ◌*◌, ◌<◌}
use native.Mathlib.Omega.{arith}
use Rattle.record.specs.Queues.{node_at, processor_at}
use Rattle.image.specs.Pieces.{node_image, processor_image}
use Rattle.rules.specs.declared.answers.Answer.{Answer}
use Rattle.rules.specs.declared.answers.Outcome.{Outcome}
use Rattle.rules.specs.declared.decisions.Decision.{Decision}
use Rattle.rules.specs.Effects.{node_of, changed, processor_after, applied, accepted}
use Rattle.rules.proofs.ValidFacts.{valid_facts}
use Rattle.image.specs.Puts.{puts, puts_in, four}
use Rattle.image.specs.Image.{image_of, queue_in, Sound}
use Rattle.image.proofs.Sizes.{sized_in}
use Rattle.image.proofs.Puts.{Below}
use Rattle.image.proofs.Whole.{with_node, with_clock, put_node, put_processor, put_clock}
use Rattle.image_parts.specs.Given.{Gives}

-- an accepted call: the stores of the clock, of one node and of the processor
module _ (b : List ℕ) (base p : ℕ) (s : Sound b) (start : base ≡ 7 + 26 * (queue_in b).processor_count)
    (low : p < (queue_in b).processor_count) (d : Decision) (o : Outcome)
    (is : o ≡ accepted (queue_in b) p d) where
  pub gives :
      (es fs : List (ℕ × ℕ)) → node_of d.effect < (queue_in b).node_count + 2 → Below 41 es →
      Below 26 fs →
      puts_in (node_image (node_at (queue_in b) (node_of d.effect))) es
      ≡ node_image
      (changed (queue_in b).level_count ((queue_in b).node_count + 1) (p + 1) ((queue_in b).clock + 1)
      d.effect (node_at (queue_in b) (node_of d.effect))) →
      puts_in (processor_image (processor_at (queue_in b) p)) fs
      ≡ processor_image
      (processor_after (queue_in b).level_count ((queue_in b).clock + 1) (processor_at (queue_in b) p) d)
      →
      (after : List ℕ) →
      after ≡ puts
      (puts (puts b 0 (four 3 ((queue_in b).clock + 1))) (base + 41 * node_of d.effect) es)
      (7 + 26 * p) fs →
      (r : Answer) → r ≡ d.answer →
      Gives o after r
  gives es fs x< es< fs< node processor after e r f =
      let q = queue_in b in
      let t = q.clock + 1 in
      let x = node_of d.effect in
      let m = changed q.level_count (q.node_count + 1) (p + 1) t d.effect (node_at q x) in
      let c = processor_after q.level_count t (processor_at q p) d in
      let S = sized_in b in
      let v = (valid_facts q s.passes).sizes in
      let e1 : puts b 0 (four 3 t) ≡ image_of (with_clock q t) =
      ap (λ (l : List ℕ). puts l 0 (four 3 t)) (sym s.image) ∙ put_clock q t in
      let e2 : puts (puts b 0 (four 3 t)) (base + 41 * x) es
      ≡ image_of (with_node (with_clock q t) x m) =
      ap (λ (l : List ℕ). puts l (base + 41 * x) es) e1
      ∙ put_node (with_clock q t) es base x m start x<
      (omega (arith, S.nodes_long, v.node_count.high)) es< node in
      let e3 : puts (puts (puts b 0 (four 3 t)) (base + 41 * x) es) (7 + 26 * p) fs
      ≡ image_of (applied q p d) =
      ap (λ (l : List ℕ). puts l (7 + 26 * p) fs) e2
      ∙ put_processor (with_node (with_clock q t) x m) fs p c low
      (omega (arith, S.processors_long, v.processor_count.high)) fs< processor in
      record {
        bytes = e ∙ e3 ∙ ap (λ (u : Outcome). image_of u.queue) (sym is);
        answer = f ∙ ap (λ (u : Outcome). u.answer) (sym is);
      }
