-- What a run of lines leaves in the area that is lent for its history, and which record, be there
-- room for all of it or not. It alone is no run of a sheet: the sheet's own run leaves the area as
-- it was on 43.
use Rattle.std.specs.Prelude.{ℕ, ◌-◌, ◌*◌, ◌/◌, Bool, cond, List, [], ◌∷◌, ltb, length, take}
use Rattle.record.specs.declared.queues.Queue.{Queue}
use Rattle.rules.specs.Runs.{Turn, after, after_all}
use Rattle.sheet_format.specs.Calls.{all_calls, call_prints}
use Rattle.sheet_format.specs.Events.{event_length}
use Rattle.laws.specs.Front.{at_front}

-- so many bytes of the room take whole lines
abbrev pub whole_bytes : ℕ → ℕ
whole_bytes room = event_length * (room / event_length)

-- the lines of a history that have room in whole
abbrev pub whole_lines : List ℕ → ℕ → List ℕ
whole_lines h room = take (whole_bytes room) h

-- written, the lines that have room in whole stand at the front; only counted, nothing changes
abbrev pub area_with : List ℕ → List ℕ → Bool → List ℕ
area_with h area writing = cond writing (at_front (whole_lines h (length area)) area) area

-- the calls that are made with room for so many lines of history: up to the first whose line has no
-- room, and that one too
unfoldable pub calls_within : Queue → List Turn → ℕ → List Turn
calls_within q [] room = []
calls_within q (c ∷ cs) room =
    let n = length (call_prints q c) in
    c ∷ cond (ltb room n) [] (calls_within (after q c) cs (room - n))

-- the record after the calls of a sheet that are made with room for so many bytes
abbrev pub queue_after : List ℕ → Queue → ℕ → Queue
queue_after s q room = after_all q (calls_within q (all_calls s q) (room / event_length))
