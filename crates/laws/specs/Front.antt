-- A lent area with a text at its front.
use Rattle.std.specs.Prelude.{List, ◌++◌, ℕ, length, drop}

-- behind the text it is as it was
abbrev pub at_front : List ℕ → List ℕ → List ℕ
at_front text area = text ++ drop (length text) area
