-- The step, on the view.
use mathlib.Core.Bool.{Bool, ◌&&◌}
use Prim.Native.Nat.{ℕ, suc, ◌+◌, ◌-◌}
use lib.Dec.{ltb, leb, eqb}
use mathlib.Core.Bool.{cond}
use Rattle.record.specs.declared.stages.Place.{Place}
use Rattle.record.specs.declared.stages.Stage.{Stage}
use Rattle.rules.specs.declared.answers.Entry.{Entry}
use Rattle.rules.specs.declared.decisions.Effect.{Effect}
use Rattle.rules.specs.declared.decisions.Effect.TheVariants as eff
use Rattle.rules.specs.declared.decisions.ProcessorChange.{ProcessorChange}
use Rattle.rules.specs.declared.decisions.ProcessorChange.TheVariants as change
use Rattle.rules.specs.declared.decisions.Decision.{Decision}
use Rattle.rules.specs.declared.decisions.StepView.{StepView}
use Rattle.rules.specs.Decide.{decide}
use Rattle.rules.specs.Calls.{reading_place}
use Rattle.rules.specs.Effects.{begin_after}
use Rattle.laws.specs.Update.{changed_at}
use Rattle.rules.proofs.Put.{ever, put, save_at, clear_to}
use Rattle.rules.proofs.View.{Pr, View, rank_for, unasked, asks_for, key, tail}
use Rattle.rules.proofs.Assemble.{ticked}

abbrev pub entry_at : View → ℕ → Entry
entry_at v n = record { due = v.due n; item = v.item n; ticket = v.tick n }

-- what a step of c at the place a reads, k being the operation's key; a Remove asks a key
abbrev pub view_for : View → Pr → ℕ → (ℕ → Bool) → Place → StepView
view_for v c k asks a = record {
  own = c.own;
  height = v.ht c.own;
  own_node_lock = v.nl c.own;
  next = v.fwd a.node a.level;
  next_before_key = ltb (key v (v.fwd a.node a.level)) k;
  next_has_key = asks (key v (v.fwd a.node a.level));
  place_lock = v.lk a.node a.level;
  own_next = v.fwd c.own a.level;
  own_lock = v.lk c.own a.level;
  next_is_tail = eqb (v.fwd a.node a.level) (tail v);
  level_count = v.top;
  marked = ltb 0 (v.mk a.node);
  stamped = ltb (v.st a.node) c.begin;
  saved_above = c.saved (a.level + 1);
  saved_below = c.saved (a.level - 1);
  saved_at_height = c.saved (v.ht c.own);
  place_entry = entry_at v a.node;
  own_entry = entry_at v c.own;
}

abbrev pub view : View → Pr → ℕ → Place → StepView
view v c k a = view_for v c k unasked a

abbrev pub with_locks : View → (ℕ → ℕ → ℕ) → (ℕ → ℕ) → View
with_locks w lk nl = record { procs = w.procs; nodes = w.nodes; top = w.top; clock = w.clock; fwd = w.fwd; lk = lk; nl = nl; mk = w.mk; st = w.st; us = w.us; ht = w.ht; due = w.due; tick = w.tick; item = w.item; pr = w.pr }

abbrev pub with_fwd : View → (ℕ → ℕ → ℕ) → View
with_fwd w fwd = record { procs = w.procs; nodes = w.nodes; top = w.top; clock = w.clock; fwd = fwd; lk = w.lk; nl = w.nl; mk = w.mk; st = w.st; us = w.us; ht = w.ht; due = w.due; tick = w.tick; item = w.item; pr = w.pr }

abbrev pub with_status : View → (ℕ → ℕ) → (ℕ → ℕ) → (ℕ → ℕ) → View
with_status w mk st us = record { procs = w.procs; nodes = w.nodes; top = w.top; clock = w.clock; fwd = w.fwd; lk = w.lk; nl = w.nl; mk = mk; st = st; us = us; ht = w.ht; due = w.due; tick = w.tick; item = w.item; pr = w.pr }

-- the levels 1 to l of node x made w
abbrev pub relevel : (ℕ → ℕ → ℕ) → ℕ → ℕ → ℕ → ℕ → ℕ → ℕ
relevel f x l w = changed_at f x (λ i. cond (ltb 0 i && leb i l) w (f x i))

-- node x filled in for an Insert of processor p
abbrev pub filled : View → ℕ → ℕ → ℕ → ℕ → ℕ → (ℕ → ℕ → ℕ) → (ℕ → ℕ → ℕ) → View
filled v p x d t h fwd lk = record {
  procs = v.procs;
  nodes = v.nodes;
  top = v.top;
  clock = v.clock;
  fwd = fwd;
  lk = lk;
  nl = changed_at v.nl x (suc p);
  mk = changed_at v.mk x 0;
  st = changed_at v.st x ever;
  us = changed_at v.us x 1;
  ht = changed_at v.ht x h;
  due = changed_at v.due x d;
  tick = changed_at v.tick x (v.clock + 1);
  item = changed_at v.item x t;
  pr = v.pr;
}

abbrev pub effected : View → Effect → ℕ → View
effected v eff.Keep p = v
effected v (eff.HoldLevel a) p = with_locks v (put v.lk a.node a.level (suc p)) v.nl
effected v (eff.FreeLevel a) p = with_locks v (put v.lk a.node a.level 0) v.nl
effected v (eff.SetForward a x) p = with_fwd v (put v.fwd a.node a.level x)
effected v (eff.HoldNode x) p = with_locks v v.lk (changed_at v.nl x (suc p))
effected v (eff.FreeNode x) p = with_locks v v.lk (changed_at v.nl x 0)
effected v (eff.Mark x) p = with_status v (changed_at v.mk x (suc p)) v.st v.us
effected v (eff.Stamp x) p = with_status v v.mk (changed_at v.st x (v.clock + 1)) v.us
effected v (eff.Retire x) p = with_status v v.mk v.st (changed_at v.us x (v.clock + 1 + 2))
effected v (eff.Fill x d i h) p = filled v p x d i h (relevel v.fwd x v.top (tail v)) (relevel v.lk x v.top 0)

abbrev pub saved_after : ℕ → (ℕ → ℕ) → ProcessorChange → ℕ → ℕ
saved_after l s change.Keep = s
saved_after l s (change.Save a) = save_at s a.level a.node
saved_after l s change.Clear = clear_to l s
saved_after l s change.Begin = s

abbrev pub pr_after : ℕ → ℕ → Pr → Decision → Pr
pr_after l t c d = record { begin = begin_after t c.begin d.change; own = d.own; stage = d.stage; saved = saved_after l c.saved d.change }

abbrev pub decision : View → ℕ → Stage → Decision
decision v p s =
    decide (view_for v (v.pr p) (rank_for s (key v (v.pr p).own)) (asks_for s) (reading_place s)) s

-- a decision applied
abbrev pub carried : View → ℕ → Decision → View
carried v p d = ticked (effected v d.effect p) p (pr_after v.top (v.clock + 1) (v.pr p) d)
