use mathlib.Core.Path.{refl}
use Prim.Native.Nat.{◌+◌, ◌*◌, ◌≤◌}
use native.Mathlib.Omega.{arith}
use Rattle.image_parts.proofs.Attempts.{tried}
use Rattle.image_parts.proofs.Readings.{mine}
use Rattle.image_removal.proofs.Steps.{holds_node_lock, node_waits}
use Rattle.image_removal.proofs.removals.hold_node.Goals as goal

pub returns-in-None : goal.returns-in-None
returns-in-None c =
    let b = c.args.image.now in
    let low : 7 ≤ c.args.base + 41 * mine b c.args.p 4 + 16 =
    omega (arith, c.requires.start) in
    holds_node_lock b c.args.base c.args.p c.requires _ _
    (tried b _ _ _ _ _ low c.tick.ensures c.try_lock.ensures.0 c.in-None.is)
    (simp (c.try_lock.ensures.1, c.in-None.is, c.tick.ensures)) refl

pub returns-in-Some : goal.returns-in-Some
returns-in-Some c =
    let b = c.args.image.now in
    let low : 7 ≤ c.args.base + 41 * mine b c.args.p 4 + 16 =
    omega (arith, c.requires.start) in
    node_waits b c.args.base c.args.p c.requires _ _ _
    (tried b _ _ _ _ _ low c.tick.ensures c.try_lock.ensures.0
    c.in-Some.is)
    (simp (c.try_lock.ensures.1, c.in-Some.is, c.tick.ensures)) refl
