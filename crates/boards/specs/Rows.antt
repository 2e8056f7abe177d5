-- The sixteen rows taken as one value (document 01, "The record" and "Groups").
use Rattle.std.specs.Prelude.{ℕ, ◌≡◌, ◌&&◌, ◌||◌, not, List, [], ◌∷◌, get_or}
use Rattle.boards.specs.Lists.{for}
use Rattle.boards.specs.Boards.{has, set_of, Links, unlink}
use Rattle.boards.specs.declared.Closure.{Closure}

-- bit b of row a: board a depends on board b
unfoldable pub links_of : List ℕ → Links
links_of rows a b = has (get_or rows a 0) b

-- the sixteen rows of a relation
unfoldable pub rows_of : Links → List ℕ
rows_of d = for 16 (λ a. set_of (d a) ∷ [])

-- the rows when the rows and the columns of the boards of g are emptied
unfoldable pub emptied : List ℕ → ℕ → List ℕ
emptied rows g = rows_of (unlink (has g) (links_of rows))

-- the group g, handed back with these rows when its rows and columns are emptied
pub record Grouped (rows : List ℕ) (g : ℕ) (c : Closure) : Type 0 where
  pub members : c.members ≡ g
  pub left : c.rows ≡ emptied rows g

-- the boards of g and of h; those of g that are not in h
abbrev pub union : ℕ → ℕ → ℕ
union g h = set_of (λ j. has g j || has h j)

abbrev pub minus : ℕ → ℕ → ℕ
minus g h = set_of (λ j. has g j && not (has h j))
