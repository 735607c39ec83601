-- The refusals' numbers, as hosts and histories tell them.
use Rattle.std.specs.Prelude.{ℕ}
use Rattle.record.specs.declared.refusals.Refusal.{Refusal}
use Rattle.record.specs.declared.refusals.Refusal.TheVariants as refusal

abbrev pub refusal_number : Refusal → ℕ
refusal_number refusal.Processors = 11
refusal_number refusal.Entries = 12
refusal_number refusal.Levels = 13
refusal_number refusal.Invalid = 21
refusal_number refusal.ClockSpent = 31
refusal_number refusal.NoProcessor = 32
refusal_number refusal.Busy = 33
refusal_number refusal.Idle = 34
refusal_number refusal.TooLarge = 35
refusal_number refusal.Height = 36
refusal_number refusal.NoNode = 37
refusal_number refusal.Key = 38
refusal_number refusal.NoItem = 39
refusal_number refusal.Form = 41
refusal_number refusal.Misplaced = 42
refusal_number refusal.Room = 43
