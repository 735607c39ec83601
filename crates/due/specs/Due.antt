-- A due minute from a count of seconds (02, W8): the minute nearest to it, half a minute to the
-- even one; 35 past `max_seconds`. `Nearest` is what has to be believed; `nearest_minute` computes
-- it, and proofs/Nearest proves what `OneNearest` and `TakenIfDue` state.
use Rattle.std.specs.Prelude.{ℕ, ◌+◌, ◌-◌, ◌*◌, ◌/◌, ◌%◌, ◌≤◌, ◌<◌, ◌≡◌, cond, [], ◌∷◌, ltb, Result, Ok, Err}
use Rattle.record.specs.Limits.{max_number}
use Rattle.record.specs.Refusals.{refusal_number}
use Rattle.record.specs.Report.{Report, report}
use Rattle.record.specs.declared.refusals.Refusal.{Refusal}
use Rattle.record.specs.declared.refusals.Refusal.TheVariants as refusal

-- the greatest count of seconds that becomes a due minute (02, W8)
abbrev pub max_seconds : ℕ
max_seconds = 59999969

-- how many seconds lie between s seconds and m minutes; `-` does not go below 0, so that one of
-- the two differences is 0
abbrev pub apart : ℕ → ℕ → ℕ
apart s m = (s - m * 60) + (m * 60 - s)

-- m is the minute nearest to s seconds: no other is nearer, and if another is as near, m is the
-- even one of them
pub record Nearest (s m : ℕ) : Type 0 where
  pub none_nearer : (k : ℕ) → apart s m ≤ apart s k
  pub even_of_two : (k : ℕ) → (k ≡ m → ⊥) → apart s k ≡ apart s m → m % 2 ≡ 0

-- the same computed: less than half a minute is dropped, more counts as a minute, and exactly half
-- a minute makes an odd minute even
abbrev pub nearest_minute : ℕ → ℕ
nearest_minute s =
    cond (ltb (s % 60) 30) (s / 60)
    (cond (ltb 30 (s % 60)) (s / 60 + 1)
    (s / 60 + s / 60 % 2))

abbrev pub due_from_seconds : ℕ → Result ℕ Refusal
due_from_seconds s = cond (ltb max_seconds s) (Err refusal.TooLarge) (Ok (nearest_minute s))

-- what an answer says of the seconds
abbrev pub Meant : ℕ → Result ℕ Refusal → Type 0
Meant s (Err r) = (max_seconds < s) × (r ≡ refusal.TooLarge)
Meant s (Ok m) = (s ≤ max_seconds) × Nearest s m

-- every count has one nearest minute, and that is the computed one
abbrev pub OneNearest : Type 0
OneNearest = (s m : ℕ) → (Nearest s m → m ≡ nearest_minute s) × (m ≡ nearest_minute s → Nearest s m)

-- a count is taken exactly if its nearest minute is one that an Insert takes
abbrev pub TakenIfDue : Type 0
TakenIfDue =
    (s m : ℕ) → Nearest s m → (s ≤ max_seconds → m ≤ max_number) × (m ≤ max_number → s ≤ max_seconds)

-- each answer in document 01's numbers: 0 and the minute, or the number of the refusal
abbrev pub reported_minutes : Result ℕ Refusal → Report
reported_minutes (Err r) = report (refusal_number r) []
reported_minutes (Ok m) = report 0 (m ∷ [])
