-- The history and the book: the answers of the calls that a sheet makes agree with the book.
use Rattle.std.specs.Prelude.{ℕ, ◌≡◌, List}
use Rattle.record.specs.declared.queues.Queue.{Queue}
use Rattle.rules.specs.Book.{Book, empty_book, agrees, judged}
use Rattle.sheet_format.specs.Calls.{all_calls}
use Rattle.sheet_format.specs.Lines.{line_of, part_at}
use Rattle.sheet_format.specs.Sheets.{made_by, queue_made}

-- the book, fed with the sheet's calls on this queue and their answers, agrees with every one
pub record Agreed (s : List ℕ) (q : Queue) : Type 0 where
  pub book : Book
  pub judges : judged empty_book q (all_calls s q) ≡ agrees book

-- on the queue that the sheet's Q line makes
abbrev pub SheetAgrees : List ℕ → Type 0
SheetAgrees s = Agreed s (queue_made (made_by (line_of (part_at s 1))))
