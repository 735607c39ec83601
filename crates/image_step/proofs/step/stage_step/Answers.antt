use mathlib.Core.Path.{refl}
use native.Mathlib.Omega.{arith}
use Rattle.image_parts.proofs.Sounds.{placed, owned, walked, seeking, never, beyond}
use Rattle.image_step.proofs.step.stage_step.Goals as goal

pub search-requires : goal.search-requires
search-requires c =
    placed _ _ _ 1 c.requires.0 c.requires.1 c.requires.2 c.requires.3 c.in-1.is refl refl

pub approach-requires : goal.approach-requires
approach-requires c =
    placed _ _ _ 2 c.requires.0 c.requires.1 c.requires.2 c.requires.3 c.in-2.is refl refl

pub take-requires : goal.take-requires
take-requires c =
    placed _ _ _ 3 c.requires.0 c.requires.1 c.requires.2 c.requires.3 c.in-3.is refl refl

pub confirm-requires : goal.confirm-requires
confirm-requires c =
    placed _ _ _ 4 c.requires.0 c.requires.1 c.requires.2 c.requires.3 c.in-4.is refl refl

pub release-requires : goal.release-requires
release-requires c =
    placed _ _ _ 5 c.requires.0 c.requires.1 c.requires.2 c.requires.3 c.in-5.is refl refl

pub copy-requires : goal.copy-requires
copy-requires c =
    placed _ _ _ 6 c.requires.0 c.requires.1 c.requires.2 c.requires.3 c.in-6.is refl refl

pub link-requires : goal.link-requires
link-requires c =
    placed _ _ _ 7 c.requires.0 c.requires.1 c.requires.2 c.requires.3 c.in-7.is refl refl

pub free_level-requires : goal.free_level-requires
free_level-requires c =
    placed _ _ _ 8 c.requires.0 c.requires.1 c.requires.2 c.requires.3 c.in-8.is refl refl

pub free_node-requires : goal.free_node-requires
free_node-requires c =
    owned _ _ _ 9 c.requires.0 c.requires.1 c.requires.2 c.requires.3 c.in-9.is refl

pub stamp-requires : goal.stamp-requires
stamp-requires c =
    owned _ _ _ 10 c.requires.0 c.requires.1 c.requires.2 c.requires.3 c.in-10.is refl

pub read_next-requires : goal.read_next-requires
read_next-requires c =
    walked _ _ _ 11 c.requires.0 c.requires.1 c.requires.2 c.requires.3 c.in-11.is refl

pub test_stamp-requires : goal.test_stamp-requires
test_stamp-requires c =
    walked _ _ _ 12 c.requires.0 c.requires.1 c.requires.2 c.requires.3 c.in-12.is refl

pub set_mark-requires : goal.set_mark-requires
set_mark-requires c =
    walked _ _ _ 13 c.requires.0 c.requires.1 c.requires.2 c.requires.3 c.in-13.is refl

pub search-requires-in-14 : goal.search-requires-in-14
search-requires-in-14 c =
    placed _ _ _ 14 c.requires.0 c.requires.1 c.requires.2 c.requires.3 c.in-14.is refl refl

pub hold_node-requires : goal.hold_node-requires
hold_node-requires c =
    owned _ _ _ 15 c.requires.0 c.requires.1 c.requires.2 c.requires.3 c.in-15.is refl

pub approach-requires-in-16 : goal.approach-requires-in-16
approach-requires-in-16 c =
    placed _ _ _ 16 c.requires.0 c.requires.1 c.requires.2 c.requires.3 c.in-16.is refl refl

pub take-requires-in-17 : goal.take-requires-in-17
take-requires-in-17 c =
    placed _ _ _ 17 c.requires.0 c.requires.1 c.requires.2 c.requires.3 c.in-17.is refl refl

pub confirm-requires-in-18 : goal.confirm-requires-in-18
confirm-requires-in-18 c =
    placed _ _ _ 18 c.requires.0 c.requires.1 c.requires.2 c.requires.3 c.in-18.is refl refl

pub release-requires-in-19 : goal.release-requires-in-19
release-requires-in-19 c =
    placed _ _ _ 19 c.requires.0 c.requires.1 c.requires.2 c.requires.3 c.in-19.is refl refl

pub hold_own-requires : goal.hold_own-requires
hold_own-requires c =
    placed _ _ _ 20 c.requires.0 c.requires.1 c.requires.2 c.requires.3 c.in-20.is refl refl

pub unlink-requires : goal.unlink-requires
unlink-requires c =
    placed _ _ _ 21 c.requires.0 c.requires.1 c.requires.2 c.requires.3 c.in-21.is refl refl

pub lead_back-requires : goal.lead_back-requires
lead_back-requires c =
    placed _ _ _ 22 c.requires.0 c.requires.1 c.requires.2 c.requires.3 c.in-22.is refl refl

pub free_own-requires : goal.free_own-requires
free_own-requires c =
    placed _ _ _ 23 c.requires.0 c.requires.1 c.requires.2 c.requires.3 c.in-23.is refl refl

pub free_level-requires-in-24 : goal.free_level-requires-in-24
free_level-requires-in-24 c =
    placed _ _ _ 24 c.requires.0 c.requires.1 c.requires.2 c.requires.3 c.in-24.is refl refl

pub free_node-requires-in-25 : goal.free_node-requires-in-25
free_node-requires-in-25 c =
    owned _ _ _ 25 c.requires.0 c.requires.1 c.requires.2 c.requires.3 c.in-25.is refl

pub retire-requires : goal.retire-requires
retire-requires c =
    owned _ _ _ 26 c.requires.0 c.requires.1 c.requires.2 c.requires.3 c.in-26.is refl

pub read_next-requires-in-27 : goal.read_next-requires-in-27
read_next-requires-in-27 c =
    walked _ _ _ 27 c.requires.0 c.requires.1 c.requires.2 c.requires.3 c.in-27.is refl

pub set_mark-requires-in-28 : goal.set_mark-requires-in-28
set_mark-requires-in-28 c =
    walked _ _ _ 28 c.requires.0 c.requires.1 c.requires.2 c.requires.3 c.in-28.is refl

pub search-requires-in-29 : goal.search-requires-in-29
search-requires-in-29 c =
    seeking _ _ _ 29 c.requires.0 c.requires.1 c.requires.2 c.requires.3 c.in-29.is refl refl

pub read_next-requires-in-30 : goal.read_next-requires-in-30
read_next-requires-in-30 c =
    seeking _ _ _ 30 c.requires.0 c.requires.1 c.requires.2 c.requires.3 c.in-30.is refl refl

pub test_stamp-requires-in-31 : goal.test_stamp-requires-in-31
test_stamp-requires-in-31 c =
    seeking _ _ _ 31 c.requires.0 c.requires.1 c.requires.2 c.requires.3 c.in-31.is refl refl

pub set_mark-requires-in-32 : goal.set_mark-requires-in-32
set_mark-requires-in-32 c =
    seeking _ _ _ 32 c.requires.0 c.requires.1 c.requires.2 c.requires.3 c.in-32.is refl refl

pub returns-in_default : goal.returns-in_default
returns-in_default c =
    let r = c.in_default.in_default-own.rest in
    absurd
    (never c.args.image.now c.args.p c.requires.0 c.requires.2
    (beyond _ (λ z. omega (arith, c.requires.4, z))
    r.0.0.0.0.0.0.0.0.0.0.0.0.0.0.0.0.0.0.0.0.0.0.0.0.0.0.0.0.0.0.0.1
    r.0.0.0.0.0.0.0.0.0.0.0.0.0.0.0.0.0.0.0.0.0.0.0.0.0.0.0.0.0.0.1
    r.0.0.0.0.0.0.0.0.0.0.0.0.0.0.0.0.0.0.0.0.0.0.0.0.0.0.0.0.0.1
    r.0.0.0.0.0.0.0.0.0.0.0.0.0.0.0.0.0.0.0.0.0.0.0.0.0.0.0.0.1
    r.0.0.0.0.0.0.0.0.0.0.0.0.0.0.0.0.0.0.0.0.0.0.0.0.0.0.0.1
    r.0.0.0.0.0.0.0.0.0.0.0.0.0.0.0.0.0.0.0.0.0.0.0.0.0.0.1
    r.0.0.0.0.0.0.0.0.0.0.0.0.0.0.0.0.0.0.0.0.0.0.0.0.0.1
    r.0.0.0.0.0.0.0.0.0.0.0.0.0.0.0.0.0.0.0.0.0.0.0.0.1
    r.0.0.0.0.0.0.0.0.0.0.0.0.0.0.0.0.0.0.0.0.0.0.0.1
    r.0.0.0.0.0.0.0.0.0.0.0.0.0.0.0.0.0.0.0.0.0.0.1
    r.0.0.0.0.0.0.0.0.0.0.0.0.0.0.0.0.0.0.0.0.0.1
    r.0.0.0.0.0.0.0.0.0.0.0.0.0.0.0.0.0.0.0.0.1
    r.0.0.0.0.0.0.0.0.0.0.0.0.0.0.0.0.0.0.0.1
    r.0.0.0.0.0.0.0.0.0.0.0.0.0.0.0.0.0.0.1
    r.0.0.0.0.0.0.0.0.0.0.0.0.0.0.0.0.0.1
    r.0.0.0.0.0.0.0.0.0.0.0.0.0.0.0.0.1
    r.0.0.0.0.0.0.0.0.0.0.0.0.0.0.0.1
    r.0.0.0.0.0.0.0.0.0.0.0.0.0.0.1
    r.0.0.0.0.0.0.0.0.0.0.0.0.0.1
    r.0.0.0.0.0.0.0.0.0.0.0.0.1
    r.0.0.0.0.0.0.0.0.0.0.0.1
    r.0.0.0.0.0.0.0.0.0.0.1
    r.0.0.0.0.0.0.0.0.0.1
    r.0.0.0.0.0.0.0.0.1
    r.0.0.0.0.0.0.0.1
    r.0.0.0.0.0.0.1
    r.0.0.0.0.0.1
    r.0.0.0.0.1
    r.0.0.0.1
    r.0.0.1
    r.0.1
    r.1))
