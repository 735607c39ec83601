-- What stands behind the spaces of a number's columns, written, is the number.
use mathlib.Core.Path.{◌≡◌, ap, ◌∙◌}
use Prim.Native.Nat.{◌+◌, ◌-◌}
use native.Mathlib.Omega.{arith}
use lib.ListN.{length, drop, take}
use Rattle.sheet_format.specs.Columns.{columns, trimmed, decimal}
use Rattle.sheet_format.proofs.Padding.{length_columns}
use Rattle.darthog.proofs.Texts.{trimmed_at, digits_of, length_decimal, digits_written}
use Rattle.darthog.proofs.decimals.decimal_into.Goals as goal

pub returns : goal.returns
returns c =
    let s = c.columns_of-columns.result in
    let n = c.args.n in
    let b = c.spaces_before in
    let k = b.result in
    let e : s ≡ columns n = c.columns_of-columns.ensures in
    let l : length s ≡ 7 = ap length e ∙ length_columns n in
    let t : drop k s ≡ trimmed s =
    trimmed_at s k b.ensures.within b.ensures.before b.ensures.found in
    let d : take (7 - k) (drop k s) ≡ decimal n = digits_of s n k e t in
    record {
      value = ap (λ x. c.args.at + length x) d;
      area_after =
          digits_written c.args.area.now (decimal n) c.args.at _ _
          (c.copy_from_slice.ensures.after ∙ d)
          (let m = ap length d in omega (arith, m))
          (omega (arith, length_decimal n, c.requires));
    }
