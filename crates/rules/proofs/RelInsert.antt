-- A new Insert: the book's new entry is the node that was filled in. Assumes nothing.
use mathlib.Core.Path.{◌≡◌, refl, sym, ap, ◌∙◌}
use mathlib.Core.Bool.{true, false}
use Prim.Native.Nat.{ℕ, suc, ◌+◌, ◌≤◌}
use native.Mathlib.Omega.{arith}
use native.Mathlib.Decide.{ℕ_discrete}
use Rattle.laws.specs.Update.{changed_at}
use Rattle.laws.proofs.Updating.{changed_same, changed_other}
use Rattle.rules.specs.Book.{BookEntry, inserting, Book, is_gone, just_filed, after_call}
use Rattle.rules.proofs.Put.{ever}
use Rattle.rules.proofs.View.{View, info, claim}
use Rattle.rules.proofs.Inv.{Inv}
use Rattle.rules.proofs.Facts.{kind_any}
use Rattle.rules.proofs.Assemble.{ticked}
use Rattle.rules.proofs.Machine.{filled}
use Rattle.rules.proofs.Begin.{inserter}
use Rattle.rules.proofs.Rel.{opens, opens_idle, line_of, Found, Filed, Marker, Rel, still_past}

module _ (v : View) (u : ℕ → ℕ → ℕ) (I : Inv v u) (b : Book) (R : Rel v b) (p x d i h : ℕ) (fwd lk : ℕ → ℕ → ℕ)
    (x≥ : 1 ≤ x) (x≤ : x ≤ v.nodes) (free : v.us x ≡ 1 → ⊥) (own_ne : (q : ℕ) → 1 ≤ (claim v q).kind → (v.pr q).own ≡ x → ⊥)
    (idle : (claim v p).kind ≡ 0) where
  abbrev t : ℕ
  t = v.clock + 1

  abbrev new_line : BookEntry
  new_line = just_filed d i

  abbrev w : View
  w = filled v p x d i h fwd lk

  pub rel_insert : Rel (ticked w p (inserter v p x)) (after_call b (changed_at b.entry t new_line) p (inserting t))
  rel_insert = record { count = omega (arith, R.count); opened = λ q. opened q (ℕ_discrete q p); kept = λ n. kept' n (ℕ_discrete n x); found = λ s. found s (ℕ_discrete s t); unhanded = λ s. unhanded s (ℕ_discrete s t); filed = λ q. filed q (ℕ_discrete q p); late = λ s. late s (ℕ_discrete s t); marker = λ n q. marker n q (ℕ_discrete n x) }
    where
      unhanded : (s : ℕ) → Dec (s ≡ t) → (changed_at b.entry t new_line s).marked ≡ false →
          is_gone (changed_at b.entry t new_line s) ≡ false
      unhanded s (yes e) = rw (e, changed_same b.entry t new_line) λ m. refl
      unhanded s (no ne) = rw (changed_other b.entry t new_line s ne) (R.unhanded s)

      removes : (n q : ℕ) → Dec (q ≡ p) → Marker v n q → Marker (ticked w p (inserter v p x)) n q
      removes n q (yes e) = rw e λ M. absurd (omega (arith, M.0))
      removes n q (no ne) = rw (changed_other v.pr p (inserter v p x) q ne) λ M. (kind_any (w.ht (v.pr q).own) (v.ht (v.pr q).own) (v.pr q).stage ∙ M.0, M.1)

      marker : (n q : ℕ) → Dec (n ≡ x) → 1 ≤ n → n ≤ v.nodes → w.us n ≡ 1 → w.mk n ≡ suc q → Marker (ticked w p (inserter v p x)) n q
      marker n q (yes e) = rw (e, changed_same v.mk x 0) λ n≥ n≤ nu m. absurd (omega arith)
      marker n q (no ne) = rw (changed_other v.us x 1 n ne, changed_other v.mk x 0 n ne) λ n≥ n≤ nu m. removes n q (ℕ_discrete q p) (R.marker n q n≥ n≤ nu m)

      opened : (q : ℕ) → Dec (q ≡ p) → changed_at b.opened p (inserting t) q ≡
          opens (changed_at v.pr p (inserter v p x) q).stage (changed_at v.pr p (inserter v p x) q).begin
          (w.tick (changed_at v.pr p (inserter v p x) q).own)
      opened q (yes e) = rw (e, changed_same v.pr p (inserter v p x), changed_same b.opened p (inserting t), changed_same v.tick x t)
      opened q (no ne) = rw (changed_other v.pr p (inserter v p x) q ne, changed_other b.opened p (inserting t) q ne) (same (ℕ_discrete (claim v q).kind 0))
        where
          same : Dec ((claim v q).kind ≡ 0) → b.opened q ≡ opens (v.pr q).stage (v.pr q).begin
              (w.tick (v.pr q).own)
          same (yes z) = R.opened q
              ∙ (opens_idle (v.ht (v.pr q).own) (v.pr q).stage z (v.pr q).begin
              (v.tick (v.pr q).own)
              ∙ sym (opens_idle (v.ht (v.pr q).own) (v.pr q).stage z (v.pr q).begin
              (w.tick (v.pr q).own)))
          same (no z) = R.opened q
              ∙ sym (ap (λ (k : ℕ). opens (v.pr q).stage (v.pr q).begin k)
              (changed_other v.tick x t (v.pr q).own (own_ne q (omega arith))))

      kept' : (n : ℕ) → Dec (n ≡ x) → 1 ≤ n → n ≤ v.nodes → w.us n ≡ 1 → changed_at b.entry t new_line (w.tick n) ≡ line_of w.due w.item w.st w.mk n
      kept' n (yes e) = rw (e, changed_same v.tick x t, changed_same b.entry t new_line, changed_same v.due x d, changed_same v.item x i, changed_same v.st x ever, changed_same v.mk x 0) λ n≥ n≤ nu. refl
      kept' n (no ne) = rw (changed_other v.tick x t n ne, changed_other v.us x 1 n ne, changed_other v.due x d n ne, changed_other v.item x i n ne, changed_other v.st x ever n ne, changed_other v.mk x 0 n ne) λ n≥ n≤ nu.
          changed_other b.entry t new_line (v.tick n) (λ e. omega (arith, (I.core.entered n n≥ (omega arith)).ticket)) ∙ R.kept n n≥ n≤ nu

      found : (s : ℕ) → Dec (s ≡ t) → (changed_at b.entry t new_line s).written ≡ true →
          is_gone (changed_at b.entry t new_line s) ≡ false → Found w.us w.tick v.nodes s
      found s (yes e) = rw e λ y m. record { node = x; low = x≥; high = x≤; used = changed_same v.us x 1; ticket = changed_same v.tick x t }
      found s (no ne) = rw (changed_other b.entry t new_line s ne) λ y m.
          let F = R.found s y m in
          let nx : (F.node ≡ x → ⊥) = λ e. free (rw e at F.used) in
          record { node = F.node; low = F.low; high = F.high; used = rw (changed_other v.us x 1 F.node nx) F.used; ticket = rw (changed_other v.tick x t F.node nx) F.ticket }

      late :
          (s : ℕ) → Dec (s ≡ t) → (changed_at b.entry t new_line s).written ≡ true →
          (1 ≤ s) × (s ≤ b.count + 1)
      late s (yes e) = λ y. (omega arith, omega (arith, R.count))
      late s (no ne) = rw (changed_other b.entry t new_line s ne) λ y. still_past (R.late s y)

      filed : (q : ℕ) → Dec (q ≡ p) → (info (w.ht (changed_at v.pr p (inserter v p x) q).own) (changed_at v.pr p (inserter v p x) q).stage).kind ≡ 1 →
          Filed (changed_at b.entry t new_line) w.tick w.due w.item (changed_at v.pr p (inserter v p x) q).own
      filed q (yes e) = rw (e, changed_same v.pr p (inserter v p x)) λ k. record {
        written = rw (changed_same v.tick x t, changed_same b.entry t new_line);
        due = rw (changed_same v.tick x t, changed_same b.entry t new_line, changed_same v.due x d);
        item = rw (changed_same v.tick x t, changed_same b.entry t new_line, changed_same v.item x i);
      }
      filed q (no ne) = rw (changed_other v.pr p (inserter v p x) q ne) λ k. old q (kind_any (v.ht (v.pr q).own) (w.ht (v.pr q).own) (v.pr q).stage ∙ k)
        where
          old : (q : ℕ) → (claim v q).kind ≡ 1 → Filed (changed_at b.entry t new_line) w.tick w.due w.item (v.pr q).own
          old q k =
              let o = (v.pr q).own in
              let ne = own_ne q (omega arith) in
              let F = R.filed q k in
              let S = (I.busy q (omega arith)).inserts k in
              let late : (v.tick (v.pr q).own ≡ t → ⊥) = λ e. omega (arith, (I.core.entered o S.low (omega (arith, S.high))).ticket) in
              record {
                written = rw (changed_other v.tick x t o ne, changed_other b.entry t new_line (v.tick o) late) F.written;
                due = rw (changed_other v.tick x t o ne, changed_other b.entry t new_line (v.tick o) late, changed_other v.due x d o ne) F.due;
                item = rw (changed_other v.tick x t o ne, changed_other b.entry t new_line (v.tick o) late, changed_other v.item x i o ne) F.item;
              }
