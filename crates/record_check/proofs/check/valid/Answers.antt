-- The sizes' bounds keep every index and cast in range; what `all` gives are the tests of every node and processor.
use mathlib.Core.Path.{◌≡◌, refl, sym, ◌∙◌}
use mathlib.Core.Bool.{true, false}
use Prim.Native.Nat.{ℕ, ◌+◌}
use native.Mathlib.Omega.{arith}
use lib.ListN.{length, get_or}
use borrow.Author.Rules.{rules}
use borrow.Author.Tests.{tests}
use Rattle.std.proofs.lemmas.Iterator.{cases_from_all, YieldsList-from_range}
use Rattle.laws.proofs.Arrays.{unmapped}
use Rattle.laws.proofs.Chains.{every_from_all}
use Rattle.record.specs.Limits.{max_processors, node_slots}
use Rattle.record_check.specs.Check.{sizes_of, sizes_valid, node_valid, processor_valid}
use Rattle.record_check.proofs.Reading.{no_node, no_processor, nodes_read, processors_read}
use Rattle.record_check.proofs.SizeLaws.{nodes_valid, sizes_bounds, valid_rest}
use Rattle.record_check.proofs.check.valid.Goals as goal

pub returns-then-nodes : goal.returns-then-nodes
returns-then-nodes c =
    let q = c.args.q in
    let sized : sizes_valid (sizes_of q) ≡ true = sym c.sizes_valid.ensures ∙ c.if-not-sizes_valid.false in
    let b = sizes_bounds (sizes_of q) sized in
    let l : length q.nodes ≡ node_slots = search (rules, unmapped) in
    let m : length q.processors ≡ max_processors = search (rules, unmapped) in
    let n = q.node_count + 2 in
    let f = λ (k : ℕ). node_valid (sizes_of q) k (get_or q.nodes k no_node) in
    let h = every_from_all f n _
    (cases_from_all _ _ _ (λ k. f k ≡ true) (λ k. f k ≡ false) c.all-nodes.ensures.ran
    (YieldsList-from_range 0 n n (cc) (omega arith))
    (λ x q k. search (rules, tests)) (λ x q k. search (rules, tests))) in
    let g = λ (k : ℕ). processor_valid (sizes_of q) (get_or q.processors k no_processor) in
    let j = every_from_all g q.processor_count _
    (cases_from_all _ _ _ (λ k. g k ≡ true) (λ k. g k ≡ false) c.all-processors.ensures.ran
    (YieldsList-from_range 0 q.processor_count q.processor_count (cc) (omega arith))
    (λ x q k. search (rules, tests)) (λ x q k. search (rules, tests))) in
    let nodes : nodes_valid q n ≡ true = sym (nodes_read q b l) ∙ sym h ∙ c.if-nodes.true in
    j ∙ processors_read q b m ∙ sym (valid_rest q sized ∙ rw nodes refl)

pub returns-else-nodes : goal.returns-else-nodes
returns-else-nodes c =
    let q = c.args.q in
    let sized : sizes_valid (sizes_of q) ≡ true = sym c.sizes_valid.ensures ∙ c.if-not-sizes_valid.false in
    let b = sizes_bounds (sizes_of q) sized in
    let l : length q.nodes ≡ node_slots = search (rules, unmapped) in
    let n = q.node_count + 2 in
    let f = λ (k : ℕ). node_valid (sizes_of q) k (get_or q.nodes k no_node) in
    let h = every_from_all f n _
    (cases_from_all _ _ _ (λ k. f k ≡ true) (λ k. f k ≡ false) c.all-nodes.ensures.ran
    (YieldsList-from_range 0 n n (cc) (omega arith))
    (λ x q k. search (rules, tests)) (λ x q k. search (rules, tests))) in
    let nodes : nodes_valid q n ≡ false = sym (nodes_read q b l) ∙ sym h ∙ c.if-nodes.false in
    c.if-nodes.false ∙ sym (valid_rest q sized ∙ rw nodes refl)
