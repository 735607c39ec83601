-- The calls that a sheet makes, in order, and what they print.
use Rattle.std.specs.Prelude.{ℕ, zero, suc, ◌+◌, ◌-◌, cond, List, [], ◌∷◌, ◌++◌, eqb}
use Rattle.record.specs.declared.queues.Queue.{Queue}
use Rattle.rules.specs.declared.calls.Call.{Call}
use Rattle.rules.specs.declared.calls.Call.TheVariants as call
use Rattle.rules.specs.Answers.{is_refused}
use Rattle.rules.specs.Calls.{called}
use Rattle.rules.specs.Runs.{Turn, calls, backlog, markers, after, after_all}
use Rattle.sheet_format.specs.declared.events.HistoryLine.{HistoryLine}
use Rattle.sheet_format.specs.declared.lines.SheetLine.{SheetLine}
use Rattle.sheet_format.specs.Events.{call_events}
use Rattle.sheet_format.specs.Letters.{letter_i, letter_d, letter_l, letter_x}
use Rattle.sheet_format.specs.Lines.{line_of, part_at, line_count}

-- what belongs to the letter of a line after the Q line: I, D, L, X, or S
abbrev pub by_letter : {A : Type 0} → ℕ → A → A → A → A → A → A
by_letter letter i d r x s =
    cond (eqb letter letter_i) i
    (cond (eqb letter letter_d) d (cond (eqb letter letter_l) r (cond (eqb letter letter_x) x s)))

-- the call of a line
abbrev pub call_of : SheetLine → Call
call_of l =
    by_letter l.letter (call.Insert l.first l.second l.third l.fourth)
    (call.DeleteMin l.first) (call.Relaxed l.first)
    (call.Remove l.first l.second l.third) (call.Step l.first)

-- how often a line makes it, if none is refused
abbrev pub calls_of : SheetLine → ℕ
calls_of l = by_letter l.letter 1 1 1 1 l.second

-- the calls of a line, n at most; a refused one is the last
unfoldable pub line_calls : Queue → SheetLine → ℕ → List Turn
line_calls q l zero = []
line_calls q l (suc n) =
    calls (call_of l)
    ∷ cond (is_refused (called q (call_of l)).answer) [] (line_calls (called q (call_of l)).queue l n)

-- the calls of the lines 2 to k + 1, on the queue that the Q line makes
unfoldable pub sheet_calls : List ℕ → Queue → ℕ → List Turn
sheet_calls s q zero = []
sheet_calls s q (suc k) =
    let l = line_of (part_at s (k + 2)) in
    sheet_calls s q k ++ line_calls (after_all q (sheet_calls s q k)) l (calls_of l)

-- all calls of a sheet
abbrev pub all_calls : List ℕ → Queue → List Turn
all_calls s q = sheet_calls s q (line_count s - 1)

-- what a turn prints on the record that it is made on, at the clock after it
abbrev pub call_prints : Queue → Turn → List HistoryLine
call_prints q (calls c) = call_events c (called q c).queue.clock (called q c).answer
call_prints q backlog = []
call_prints q (markers area) = []

-- what a list of them prints
unfoldable pub calls_print : Queue → List Turn → List HistoryLine
calls_print q [] = []
calls_print q (c ∷ cs) = call_prints q c ++ calls_print (after q c) cs
