use Rattle.std.proofs.Common.{rules, arith, ◌≡◌, ◌∙◌, refl, sym, ap, ℕ, true, false, get_or, length, take}
use Rattle.std.proofs.lemmas.Iterator.{first_from_Range, cases_from_all, YieldsList-from_slice}
use Rattle.std.proofs.lemmas.List.{get_or-take, length-take-le}
use Rattle.std.specs.Prelude.{is_some}
use borrow.Author.Tests.{tests}
use Rattle.laws.proofs.Arrays.{unmapped}
use Rattle.record.specs.declared.nodes.Node.{Node}
use Rattle.record.specs.declared.queues.Processor.{Processor}
use Rattle.record.specs.Limits.{node_slots, max_processors}
use Rattle.record.specs.Queues.{processor_at}
use Rattle.record_check.proofs.Reading.{no_node, node_read, no_processor, processor_read}
use Rattle.rules.specs.Choice.{is_never, state_of, began_after}
use Rattle.rules.proofs.Chosen.{after_to, chosen_never, chosen_none, chosen_retired}
use Rattle.queue_begin.specs.Found.{found}
use Rattle.queue_begin.proofs.Bounds.{nodes_high, processors_high}
use Rattle.queue_begin.proofs.Choosing.{never_found, every_item, some_found, none_found}
use Rattle.queue_begin.proofs.Choosing.{retired_none, retired_some, then_found}
use Rattle.queue_begin.proofs.choice.choose.Goals as goal

pub returns-then-is_some : goal.returns-then-is_some
returns-then-is_some c =
    let q = c.args.q in
    let long : length q.nodes ≡ node_slots = search (rules, unmapped) in
    let high = nodes_high q c.requires in
    let seen = λ (k : ℕ). (get_or q.nodes k no_node).state in
    let never = never_found seen (state_of q) q.node_count _
    (λ k l. ap (λ (n : Node). n.state) (node_read q k long (omega (arith, l, high))))
    (first_from_Range _ _ _ _ (λ k. is_never (seen k) ≡ true) (λ k. is_never (seen k) ≡ false) c.find-never.ensures.ran
    (λ x q k. search (rules, tests)) (λ x q k. search (rules, tests))) in
    never ∙ ap found (chosen_never q _ 0 refl (some_found _ (sym (c.is_some.ensures ∙ ap is_some never) ∙ c.if-is_some.true)))

pub returns-in_err-x : goal.returns-in_err-x
returns-in_err-x c =
    let q = c.args.q in
    let long : length q.nodes ≡ node_slots = search (rules, unmapped) in
    let high = nodes_high q c.requires in
    let seen = λ (k : ℕ). (get_or q.nodes k no_node).state in
    let never = never_found seen (state_of q) q.node_count _
    (λ k l. ap (λ (n : Node). n.state) (node_read q k long (omega (arith, l, high))))
    (first_from_Range _ _ _ _ (λ k. is_never (seen k) ≡ true) (λ k. is_never (seen k) ≡ false) c.find-never.ensures.ran
    (λ x q k. search (rules, tests)) (λ x q k. search (rules, tests))) in
    let none = none_found _ (sym (c.is_some.ensures ∙ ap is_some never) ∙ c.if-is_some.false) in
    c.from_residual.ensures ∙ ap found (chosen_none q _ _ refl refl none (retired_none (state_of q) _ c.in_err-x.ensures))

pub returns : goal.returns
returns c =
    let q = c.args.q in
    let long : length q.nodes ≡ node_slots = search (rules, unmapped) in
    let high = nodes_high q c.requires in
    let seen = λ (k : ℕ). (get_or q.nodes k no_node).state in
    let never = never_found seen (state_of q) q.node_count _
    (λ k l. ap (λ (n : Node). n.state) (node_read q k long (omega (arith, l, high))))
    (first_from_Range _ _ _ _ (λ k. is_never (seen k) ≡ true) (λ k. is_never (seen k) ≡ false) c.find-never.ensures.ran
    (λ x q k. search (rules, tests)) (λ x q k. search (rules, tests))) in
    let none = none_found _ (sym (c.is_some.ensures ∙ ap is_some never) ∙ c.if-is_some.false) in
    let t = c.in_ok-x.retired in
    let r = retired_some (state_of q) _ c.in_ok-x.x t c.in_ok-x.ensures in
    let f = λ (p : Processor). began_after t p.stage p.begin in
    let processors : length q.processors ≡ max_processors = search (rules, unmapped) in
    let few = processors_high q c.requires in
    let rest : c.iter.result.rest.now ≡ take q.processor_count q.processors = c.iter.ensures.rest ∙ ap (λ n. take n q.processors) c.from.ensures in
    let after : c.all-free.result ≡ after_to q t q.processor_count =
    every_item f (λ p. f (processor_at q p)) q.processor_count no_processor c.iter.result.rest.now _
    (ap length rest ∙ length-take-le _ _ (omega arith))
    (λ k l. ap (λ xs. f (get_or xs k no_processor)) rest ∙ ap f (get_or-take _ _ k _ l ∙ processor_read q k processors (omega arith)))
    (cases_from_all _ _ _ (λ p. f p ≡ true) (λ p. f p ≡ false) c.all-free.ensures.ran (YieldsList-from_slice _ refl)
    (λ x b k. search (rules, tests)) (λ x b k. search (rules, tests))) in
    c.then_some.ensures ∙ then_found c.all-free.result _ _ r.1 r.0 ∙ ap found (chosen_retired q _ _ refl refl none r.0 t _ r.2 after)
