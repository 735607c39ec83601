-- A list of calls on lent bytes: one test of the bytes, then every call in place.
use Rattle.std.specs.Prelude.{◌≡◌, cond, List, ◌++◌, ℕ}
use Rattle.record.specs.Queues.{fresh_queue}
use Rattle.rules.specs.Book.{Book, empty_book, agrees, judged}
use Rattle.rules.specs.Demand3.{InRange}
use Rattle.rules.specs.Runs.{Turn, after_all}
use Rattle.image.specs.Image.{image_of, queue_in, passes_of}
use Rattle.image_list.specs.Plain.{calls_to, record_to, written_to, turns}

-- 21 where the bytes are not the image of a record that passes check 21: then nothing is called
unfoldable pub list_code : List ℕ → ℕ
list_code b = cond (passes_of b) 0 21

-- the bytes after the calls l, answered into the area a
unfoldable pub bytes_after_list : List ℕ → List ℕ → List ℕ → List ℕ
bytes_after_list b l a = cond (passes_of b) (image_of (record_to (queue_in b) l (turns l a))) b

-- and the area
unfoldable pub answers_after_list : List ℕ → List ℕ → List ℕ → List ℕ
answers_after_list b l a = cond (passes_of b) (written_to (queue_in b) l a (turns l a)) a

-- The bytes are those of the record that the calls cs led to from a queue that was made, and each
-- call of the list is made on the record that these and those before it lead to; the book agrees
-- with all that the definitions give back, to cs and then to the list's calls. The answers written
-- are the numbers of the same replies.
pub record AgreesOn (P N L : ℕ) (cs : List Turn) (b l a : List ℕ) : Type 0 where
  pub read : queue_in b ≡ after_all (fresh_queue P N L) cs
  pub led :
      (k : ℕ) → record_to (queue_in b) l k ≡ after_all (fresh_queue P N L) (cs ++ calls_to l k)
  pub book : Book
  pub judges : judged empty_book (fresh_queue P N L) (cs ++ calls_to l (turns l a)) ≡ agrees book

abbrev pub ListAgrees : List ℕ → List ℕ → List ℕ → Type 0
ListAgrees b l a =
    (P N L : ℕ) → InRange P N L → (cs : List Turn) →
    b ≡ image_of (after_all (fresh_queue P N L) cs) → AgreesOn P N L cs b l a
