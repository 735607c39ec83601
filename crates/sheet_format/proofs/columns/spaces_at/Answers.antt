use mathlib.Core.Path.{◌≡◌}
use Prim.Native.Nat.{◌+◌, ◌-◌, ◌≤◌}
use native.Mathlib.Omega.{arith}
use lib.ListN.{length, drop, take, length-drop}
use Rattle.std.proofs.lemmas.List.{length-take-le}
use Rattle.sheet_format.proofs.Spaces.{blank_before, full_there}
use Rattle.sheet_format.proofs.columns.spaces_at.Goals as goal

pub returns-clause-upper_bound : goal.returns-clause-upper_bound
returns-clause-upper_bound c =
    let x = c.args in
    let s = drop x.at x.line.now in
    let w = x.at + x.width - x.at in
    let e : w ≡ x.width = omega arith in
    let f : w ≤ length s = simp length-drop (omega arith) in
    let long : length (take w s) ≡ w = length-take-le w s f in
    let h : c.spaces_before.result ≤ w = omega (arith, long, c.spaces_before.ensures.within) in
    (omega arith, blank_before s w c.spaces_before.result h c.spaces_before.ensures.before)

pub returns-clause-result_value : goal.returns-clause-result_value
returns-clause-result_value c h =
    let x = c.args in
    let s = drop x.at x.line.now in
    let w = x.at + x.width - x.at in
    let e : w ≡ x.width = omega arith in
    let f : w ≤ length s = simp length-drop (omega arith) in
    let long : length (take w s) ≡ w = length-take-le w s f in
    full_there s w c.spaces_before.result (omega (arith, h, e))
    (c.spaces_before.ensures.found (omega (arith, long, h, e)))
