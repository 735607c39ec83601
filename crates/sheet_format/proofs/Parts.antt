-- The part of a slice from a place to its end, and the parts of a sheet that start at its lines. Assumes nothing.
use mathlib.Core.Path.{◌≡◌, ap}
use mathlib.Core.List.{List}
use Prim.Native.Nat.{ℕ, ◌+◌, ◌-◌, ◌*◌, ◌<◌}
use native.Mathlib.Nat.{div-mul-le_self}
use native.Mathlib.Omega.{arith}
use lib.ListN.{length, take, drop, length-drop}
use lib.Seq.{take_all}
use Rattle.sheet_format.specs.Lines.{part_at, line_count}

pub tail_part : (s : List ℕ) (a : ℕ) → take (length s - a) (drop a s) ≡ drop a s
tail_part s a = take_all (length s - a) (drop a s) (simp length-drop (omega arith))

-- a line that is counted starts within the sheet
pub line_start : (s : List ℕ) (k : ℕ) → k < line_count s → 30 * k < length s
line_start s k h = omega (arith, div-mul-le_self (length s + 29) 30)

-- line k + 1 starts behind k lines
pub part_next : (s : List ℕ) (k : ℕ) → drop (30 * k) s ≡ part_at s (k + 1)
part_next s k =
    let e : 30 * k ≡ 30 * (k + 1 - 1) = omega arith in
    ap (λ (n : ℕ). drop n s) e
