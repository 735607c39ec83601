-- What several stages read in the image's bytes.
use Rattle.std.specs.Prelude.{List, ℕ, ◌+◌, Option, get_or}
use Rattle.record.specs.declared.stages.Wanted.{Wanted}
use Rattle.record.specs.Stages.{wanted_of}
use Rattle.rules.specs.declared.answers.Entry.{Entry}
use Rattle.image.specs.Numbers.{number32}
use Rattle.image.specs.Tags.{timed, stamp_of}

-- the entry and the stamp of the node whose bytes start at o
abbrev pub entry_in : List ℕ → ℕ → Entry
entry_in b o =
    record { due = number32 b (o + 23); item = number32 b (o + 31); ticket = number32 b (o + 27) }

abbrev pub stamp_in : List ℕ → ℕ → Option ℕ
stamp_in b o = stamp_of (timed (get_or b (o + 18) 0) (number32 b (o + 19)))

-- the key that a Remove carries, of the processor whose bytes start at o
abbrev pub wanted_in : List ℕ → ℕ → Wanted
wanted_in b o = wanted_of (number32 b (o + 18)) (number32 b (o + 22))
