-- The three parts of an output line.
use Rattle.std.specs.Prelude.{ℕ, Bool, List, [], ◌∷◌, ◌++◌}
use Rattle.text.specs.Fields.{comma, line_feed}
use Rattle.text.specs.Rows.{decimal, bytes_text, group_text, flag_text}

abbrev pub between : ℕ → List ℕ
between c = comma ∷ c ∷ comma ∷ []

-- line number, letter, status
unfoldable pub head_text : ℕ → ℕ → ℕ → List ℕ
head_text number letter status = decimal number ++ (between letter ++ decimal status)

-- decided, group
unfoldable pub middle_text : Bool → ℕ → List ℕ
middle_text decided group = between (flag_text decided) ++ group_text group

-- stores, bytes, line feed
unfoldable pub tail_text : ℕ → List ℕ → List ℕ
tail_text stores bytes =
    (comma ∷ []) ++ (decimal stores ++ ((comma ∷ []) ++ (bytes_text bytes ++ line_feed ∷ [])))
