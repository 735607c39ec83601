use Rattle.std.proofs.Common.{rules, arith, ◌≡◌, ◌<◌, ◌∙◌, sym, ap, true, length, ltb}
use Rattle.std.specs.Prelude.{MatchOption}
use borrow.Author.Tests.{tests}
use Rattle.laws.proofs.Arrays.{unmapped}
use Rattle.record.specs.declared.nodes.Node.{Node}
use Rattle.record.specs.Limits.{node_slots}
use Rattle.record_check.proofs.Reading.{node_read}
use Rattle.rules.specs.Choice.{state_of}
use Rattle.queue_begin.proofs.Choosing.{longest_older, longest_no_older, longest_same}
use Rattle.queue_begin.proofs.choice.longest_retired.Goals as goal
use Rattle.queue_begin.proofs.choice.longest_retired.Goals.{in-Retired+then-is_none_or, in-Retired+else-is_none_or, in_default}

pub loop-x-preserved : goal.loop-x-preserved
loop-x-preserved c =
    let q = c.args.q.now in
    let x = c.loop-x.x in
    let best = c.loop-x.best in
    let long : length q.nodes ≡ node_slots = search (rules, unmapped) in
    let low : c.from.result < node_slots = omega (arith, c.from.ensures) in
    let read = ap (state_of q) (sym c.from.ensures) ∙ ap (λ (n : Node). n.state) (sym (node_read q _ long low)) in
    elim c.match-q-from.branch [
      | in-Retired+then-is_none_or w ↦
          let told : MatchOption best (w.is_none_or.result ≡ true) (λ p. w.is_none_or.result ≡ ltb w.in-Retired.t p.1) = search (rules, tests) in
          w.best-is ∙ longest_older (state_of q) x w.in-Retired.t best _ c.loop-x.auto.x (read ∙ w.in-Retired.is) c.loop-x.invariant told w.if-is_none_or.true
      | in-Retired+else-is_none_or w ↦
          let told : MatchOption best (w.is_none_or.result ≡ true) (λ p. w.is_none_or.result ≡ ltb w.in-Retired.t p.1) = search (rules, tests) in
          w.best-is ∙ longest_no_older (state_of q) x w.in-Retired.t best _ c.loop-x.auto.x (read ∙ w.in-Retired.is) c.loop-x.invariant told w.if-is_none_or.false
      | in_default w ↦ w.best-is ∙ longest_same (state_of q) x best c.loop-x.auto.x (λ t e. w.in_default.not-Retired t (sym read ∙ e)) c.loop-x.invariant
    ]
