-- The book and the record: B1 and B2, kept by every step.
use mathlib.Core.Path.{◌≡◌, refl, sym, ap, subst, ◌∙◌}
use mathlib.Core.Bool.{true, false}
use Prim.Native.Nat.{ℕ, suc, ◌+◌, ◌≤◌}
use native.Mathlib.Omega.{arith}
use native.Mathlib.Decide.{ℕ_discrete}
use lib.Dec.{ltb}
use Rattle.record.specs.declared.stages.Stage.{Stage}
use Rattle.record.specs.declared.stages.Stage.TheVariants as stage
use Rattle.rules.specs.declared.answers.Answer.{Answer}
use Rattle.rules.specs.declared.answers.Answer.TheVariants as ans
use Rattle.rules.specs.declared.decisions.Effect.{Effect}
use Rattle.rules.specs.declared.decisions.Effect.TheVariants as eff
use Rattle.rules.specs.declared.decisions.Decision.{Decision}
use Rattle.laws.specs.Update.{changed_at}
use Rattle.laws.proofs.Updating.{changed_same, changed_other}
use Rattle.rules.specs.Effects.{begin_after}
use Rattle.rules.proofs.View.{Pr, View, info, claim}
use Rattle.rules.proofs.Facts.{kind_any}
use Rattle.rules.proofs.StageKinds.{kind_busy}
use Rattle.rules.proofs.Assemble.{ticked}
use Rattle.rules.proofs.Machine.{effected, pr_after, carried}
use Rattle.rules.specs.Book.{BookEntry, Open, nothing, inserting, walking, relaxing, seeking}
use Rattle.rules.specs.Book.{unlinking, Book, is_gone, agrees, moves, feed_step}

-- B1: what a processor has open, by its stage, its begin and its own node's ticket
abbrev pub opens : Stage → ℕ → ℕ → Open
opens stage.Idle T t = nothing
opens (stage.Insert i) T t = inserting t
opens (stage.Delete d) T t = walking T
opens (stage.Relaxed d) T t = relaxing T
opens (stage.Remove w d) T t = seeking w T
opens (stage.Removal job r) T t = unlinking job t

pub opens_idle : (h : ℕ) (s : Stage) → (info h s).kind ≡ 0 → (T t : ℕ) → opens s T t ≡ nothing
opens_idle h stage.Idle k T t = refl
opens_idle h (stage.Insert i) k T t = absurd (omega (arith, kind_busy h (stage.Insert i) refl))
opens_idle h (stage.Delete d) k T t = absurd (omega (arith, kind_busy h (stage.Delete d) refl))
opens_idle h (stage.Relaxed d) k T t = absurd (omega (arith, kind_busy h (stage.Relaxed d) refl))
opens_idle h (stage.Remove w d) k T t =
    absurd (omega (arith, kind_busy h (stage.Remove w d) refl))
opens_idle h (stage.Removal job r) k T t =
    absurd (omega (arith, kind_busy h (stage.Removal job r) refl))

abbrev pub line_of : (ℕ → ℕ) → (ℕ → ℕ) → (ℕ → ℕ) → (ℕ → ℕ) → ℕ → BookEntry
line_of due item st mk n = record {
  written = true;
  due = due n;
  item = item n;
  answered_at = st n;
  marked = ltb 0 (mk n);
  handed_out = false;
  taken_back = false;
}

-- a call that moves or waits
abbrev pub counted : Book → Book
counted b = record { count = b.count + 1; entry = b.entry; opened = b.opened }

pub record Found (us tick : ℕ → ℕ) (nodes t : ℕ) : Type 0 where
  pub node : ℕ
  pub low : 1 ≤ node
  pub high : node ≤ nodes
  pub used : us node ≡ 1
  pub ticket : tick node ≡ t

-- the book has an entry with the node's ticket, due and item
pub record Filed (entry : ℕ → BookEntry) (tick dues items : ℕ → ℕ) (n : ℕ) : Type 0 where
  pub written : (entry (tick n)).written ≡ true
  pub due : (entry (tick n)).due ≡ dues n
  pub item : (entry (tick n)).item ≡ items n

-- q removes node n
abbrev pub Marker : View → ℕ → ℕ → Type 0
Marker v n q = ((claim v q).kind ≡ 3) × ((v.pr q).own ≡ n)

pub record Rel (v : View) (b : Book) : Type 0 where
  pub count : b.count ≡ v.clock
  pub opened : (p : ℕ) → b.opened p ≡ opens (v.pr p).stage (v.pr p).begin
      (v.tick (v.pr p).own)
  -- B2
  pub kept : (n : ℕ) → 1 ≤ n → n ≤ v.nodes → v.us n ≡ 1 → b.entry (v.tick n) ≡ line_of v.due v.item v.st v.mk n
  pub found : (t : ℕ) → (b.entry t).written ≡ true → is_gone (b.entry t) ≡ false →
      Found v.us v.tick v.nodes t
  pub unhanded : (t : ℕ) → (b.entry t).marked ≡ false → is_gone (b.entry t) ≡ false
  -- the entry of an open Insert, whose node may be retired already
  pub filed : (q : ℕ) → (claim v q).kind ≡ 1 → Filed b.entry v.tick v.due v.item (v.pr q).own
  -- tickets are times, and have passed
  pub late : (t : ℕ) → (b.entry t).written ≡ true → (1 ≤ t) × (t ≤ b.count)
  -- a marked node in use is that of the remover which its mark names
  pub marker : (n q : ℕ) → 1 ≤ n → n ≤ v.nodes → v.us n ≡ 1 → v.mk n ≡ suc q → Marker v n q

pub record Booked (v : View) (p : ℕ) (b : Book) (d : Decision) : Type 0 where
  pub after : Book
  pub fed : feed_step b p d.answer ≡ agrees after
  pub rel : Rel (carried v p d) after

-- a step that neither begins, answers nor marks
abbrev pub moving : Answer → Type 0
moving (ans.Refused n) = ⊥
moving (ans.Began t) = ⊥
moving ans.Moved = Unit {0}
moving (ans.Waits h) = Unit {0}
moving ans.Empty = ⊥
moving (ans.NotThere w) = ⊥
moving (ans.Did d e) = ⊥

abbrev pub quiet : Effect → Type 0
quiet eff.Keep = Unit {0}
quiet (eff.HoldLevel a) = Unit {0}
quiet (eff.FreeLevel a) = Unit {0}
quiet (eff.SetForward a x) = Unit {0}
quiet (eff.HoldNode x) = Unit {0}
quiet (eff.FreeNode x) = Unit {0}
quiet (eff.Mark x) = ⊥
quiet (eff.Stamp x) = ⊥
quiet (eff.Retire x) = ⊥
quiet (eff.Fill x d i h) = ⊥

pub record Quiet (own : ℕ) (s : Stage) (d : Decision) : Type 0 where
  pub answer : moving d.answer
  pub effect : quiet d.effect
  pub own_same : d.own ≡ own
  pub begin_same : (t begin : ℕ) → begin_after t begin d.change ≡ begin
  pub kind_same : (h : ℕ) → (info h d.stage).kind ≡ (info h s).kind
  pub opens_same : (T t : ℕ) → opens d.stage T t ≡ opens s T t

pub quiet_by : {own : ℕ} {s : Stage} {d : Decision} → moving d.answer → quiet d.effect →
    d.own ≡ own → ((t begin : ℕ) → begin_after t begin d.change ≡ begin) →
    ((h : ℕ) → (info h d.stage).kind ≡ (info h s).kind) →
    ((T t : ℕ) → opens d.stage T t ≡ opens s T t) → Quiet own s d
quiet_by answer effect own begin kind opening = record {
  answer = answer;
  effect = effect;
  own_same = own;
  begin_same = begin;
  kind_same = kind;
  opens_same = opening;
}

rel_effected : (v : View) (p : ℕ) (b : Book) (e : Effect) → quiet e → Rel v b → Rel (effected v e p) b
rel_effected v p b eff.Keep q R = R
rel_effected v p b (eff.HoldLevel a) q R = record { count = R.count; opened = R.opened; kept = R.kept; found = R.found; unhanded = R.unhanded; filed = R.filed; late = R.late; marker = R.marker }
rel_effected v p b (eff.FreeLevel a) q R = record { count = R.count; opened = R.opened; kept = R.kept; found = R.found; unhanded = R.unhanded; filed = R.filed; late = R.late; marker = R.marker }
rel_effected v p b (eff.SetForward a x) q R = record { count = R.count; opened = R.opened; kept = R.kept; found = R.found; unhanded = R.unhanded; filed = R.filed; late = R.late; marker = R.marker }
rel_effected v p b (eff.HoldNode x) q R = record { count = R.count; opened = R.opened; kept = R.kept; found = R.found; unhanded = R.unhanded; filed = R.filed; late = R.late; marker = R.marker }
rel_effected v p b (eff.FreeNode x) q R = record { count = R.count; opened = R.opened; kept = R.kept; found = R.found; unhanded = R.unhanded; filed = R.filed; late = R.late; marker = R.marker }
rel_effected v p b (eff.Mark x) q R = absurd q
rel_effected v p b (eff.Stamp x) q R = absurd q
rel_effected v p b (eff.Retire x) q R = absurd q
rel_effected v p b (eff.Fill x d i h) q R = absurd q

pub pr_same : (v : View) (p : ℕ) (e : Effect) → (effected v e p).pr ≡ v.pr
pr_same v p eff.Keep = refl
pr_same v p (eff.HoldLevel a) = refl
pr_same v p (eff.FreeLevel a) = refl
pr_same v p (eff.SetForward a x) = refl
pr_same v p (eff.HoldNode x) = refl
pr_same v p (eff.FreeNode x) = refl
pr_same v p (eff.Mark x) = refl
pr_same v p (eff.Stamp x) = refl
pr_same v p (eff.Retire x) = refl
pr_same v p (eff.Fill x d i h) = refl

pub procs_same : (v : View) (p : ℕ) (e : Effect) → (effected v e p).procs ≡ v.procs
procs_same v p eff.Keep = refl
procs_same v p (eff.HoldLevel a) = refl
procs_same v p (eff.FreeLevel a) = refl
procs_same v p (eff.SetForward a x) = refl
procs_same v p (eff.HoldNode x) = refl
procs_same v p (eff.FreeNode x) = refl
procs_same v p (eff.Mark x) = refl
procs_same v p (eff.Stamp x) = refl
procs_same v p (eff.Retire x) = refl
procs_same v p (eff.Fill x d i h) = refl

-- a time that has passed has passed one call later
pub still_past : {t n : ℕ} → (1 ≤ t) × (t ≤ n) → (1 ≤ t) × (t ≤ n + 1)
still_past {t} {n} h = (h.0, omega (arith, h.1))

rel_ticked : (w : View) (b : Book) (p : ℕ) (c : Pr) → Rel w b → c.begin ≡ (w.pr p).begin → c.own ≡ (w.pr p).own →
    (info (w.ht c.own) c.stage).kind ≡ (claim w p).kind →
    ((T t : ℕ) → opens c.stage T t ≡ opens (w.pr p).stage T t) →
    Rel (ticked w p c) (counted b)
rel_ticked w b p c R began own kind same =
    record { count = omega (arith, R.count); opened = λ q. opened q (ℕ_discrete q p); kept = R.kept; found = R.found; unhanded = R.unhanded; filed = λ q. filed q (ℕ_discrete q p); late = λ t w. still_past (R.late t w); marker = λ n q n≥ n≤ nu m. marker n q (ℕ_discrete q p) (R.marker n q n≥ n≤ nu m) }
  where
    marker : (n q : ℕ) → Dec (q ≡ p) → Marker w n q → Marker (ticked w p c) n q
    marker n q (yes e) = rw (e, changed_same w.pr p c) λ M. (kind ∙ M.0, own ∙ M.1)
    marker n q (no d) = rw (changed_other w.pr p c q d) λ M. M

    filed : (q : ℕ) → Dec (q ≡ p) → (claim (ticked w p c) q).kind ≡ 1 → Filed b.entry w.tick w.due w.item (changed_at w.pr p c q).own
    filed q (yes e) = rw (e, changed_same w.pr p c) λ k. subst (λ (n : ℕ). Filed b.entry w.tick w.due w.item n) (sym own) (R.filed p (sym kind ∙ k))
    filed q (no d) = rw (changed_other w.pr p c q d) (R.filed q)

    opened : (q : ℕ) → Dec (q ≡ p) →
        b.opened q ≡ opens (changed_at w.pr p c q).stage (changed_at w.pr p c q).begin
        (w.tick (changed_at w.pr p c q).own)
    opened q (yes e) =
        rw (e, changed_same w.pr p c)
        (R.opened p
        ∙ sym (same c.begin (w.tick c.own)
        ∙ ap (λ (k : ℕ). opens (w.pr p).stage k (w.tick c.own)) began
        ∙ ap (λ (k : ℕ). opens (w.pr p).stage (w.pr p).begin (w.tick k)) own))
    opened q (no d) = rw (changed_other w.pr p c q d) (R.opened q)

moves_busy : (b : Book) (h : ℕ) (k : Stage) (T t : ℕ) → 1 ≤ (info h k).kind →
    moves b (opens k T t) ≡ agrees (counted b)
moves_busy b h stage.Idle T t k≥ = absurd (omega arith)
moves_busy b h (stage.Insert i) T t k≥ = refl
moves_busy b h (stage.Delete d) T t k≥ = refl
moves_busy b h (stage.Relaxed d) T t k≥ = refl
moves_busy b h (stage.Remove w d) T t k≥ = refl
moves_busy b h (stage.Removal job r) T t k≥ = refl

fed_moving : (b : Book) (p h : ℕ) (k : Stage) (T t : ℕ) → 1 ≤ (info h k).kind →
    b.opened p ≡ opens k T t → (a : Answer) → moving a → feed_step b p a ≡ agrees (counted b)
fed_moving b p h k T t k≥ e (ans.Refused n) m = absurd m
fed_moving b p h k T t k≥ e (ans.Began n) m = absurd m
fed_moving b p h k T t k≥ e ans.Moved m = rw e (moves_busy b h k T t k≥)
fed_moving b p h k T t k≥ e (ans.Waits l) m = rw e (moves_busy b h k T t k≥)
fed_moving b p h k T t k≥ e ans.Empty m = absurd m
fed_moving b p h k T t k≥ e (ans.NotThere w) m = absurd m
fed_moving b p h k T t k≥ e (ans.Did d x) m = absurd m

pub quiet_booked : (v : View) (p : ℕ) (b : Book) (d : Decision) → Rel v b → 1 ≤ (claim v p).kind →
    Quiet (v.pr p).own (v.pr p).stage d → Booked v p b d
quiet_booked v p b d R busy Q =
    record {
      after = counted b;
      fed = fed_moving b p (v.ht (v.pr p).own) (v.pr p).stage (v.pr p).begin
          (v.tick (v.pr p).own) busy (R.opened p) d.answer Q.answer;
      rel = rel_ticked (effected v d.effect p) b p (pr_after v.top (v.clock + 1) (v.pr p) d) (rel_effected v p b d.effect Q.effect R)
          (Q.begin_same (v.clock + 1) (v.pr p).begin ∙ ap (λ (f : ℕ → Pr). (f p).begin) (sym same)) (Q.own_same ∙ ap (λ (f : ℕ → Pr). (f p).own) (sym same))
          (Q.kind_same _ ∙ kind_any _ _ (v.pr p).stage
          ∙ ap (λ (f : ℕ → Pr). (info ((effected v d.effect p).ht (f p).own) (f p).stage).kind)
          (sym same))
          (λ T t. Q.opens_same T t ∙ ap (λ (f : ℕ → Pr). opens (f p).stage T t) (sym same));
    }
  where
    same : (effected v d.effect p).pr ≡ v.pr
    same = pr_same v p d.effect
