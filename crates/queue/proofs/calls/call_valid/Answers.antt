use Rattle.std.proofs.Common.{◌<◌, sym, subst}
use Rattle.record.specs.Limits.{max_processors, node_slots}
use Rattle.rules.specs.declared.decisions.Decision.{Decision}
use Rattle.rules.specs.Calls.{processor_of}
use Rattle.rules.specs.Effects.{node_of}
use Rattle.rules.proofs.Allowed.{allowed}
use Rattle.rules.proofs.Inner.{call_kept}
use Rattle.queue_begin.proofs.Bounds.{processor_low, changed_low}
use Rattle.queue.proofs.Refused.{taken_number, no_refusal, call_made}
use Rattle.queue.proofs.calls.call_valid.Goals as goal

pub applied-after-requires-clause-p_lt_max_processors :
    goal.applied-after-requires-clause-p_lt_max_processors
applied-after-requires-clause-p_lt_max_processors c =
    let q = c.args.q in
    let f = c.args.c in
    let x = taken_number q f _ _ c.taken.ensures c.unwrap_or-x.ensures in
    let none = no_refusal q f _ _ _ c.processor_of-p.ensures c.idle_at-idle.ensures c.refusal_of-early.ensures _ _ c.in_default.is x c.node_refusal-late.ensures c.in_default-late.is in
    let a = allowed q f none in (
      subst (λ k. k < max_processors) (sym c.processor_of-p.ensures) (processor_low q (processor_of f) c.requires a.here),
      subst (λ (d : Decision). node_of d.effect < node_slots) (sym c.decision_of-d.ensures) (changed_low q c.requires f a),
    )

pub returns : goal.returns
returns c =
    let q = c.args.q in
    let f = c.args.c in
    let x = taken_number q f _ _ c.taken.ensures c.unwrap_or-x.ensures in
    let none = no_refusal q f _ _ _ c.processor_of-p.ensures c.idle_at-idle.ensures c.refusal_of-early.ensures _ _ c.in_default.is x c.node_refusal-late.ensures c.in_default-late.is in
    call_kept q f _ c.requires (call_made q f _ _ _ c.processor_of-p.ensures c.decision_of-d.ensures c.applied-after.ensures none)
