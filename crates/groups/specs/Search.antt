-- What a search of a group hands back (document 02, Req 04), and what its inner functions promise each other.
use Rattle.std.specs.Prelude.{ℕ, ◌≡◌, Bool, true, ◌&&◌, ◌||◌, not, List, eqb}
use Rattle.boards.specs.Lists.{count}
use Rattle.boards.specs.Boards.{has, set_of, meets, Links}
use Rattle.boards.specs.Rows.{links_of, Grouped}
use Rattle.groups.specs.declared.Direction.{Direction}
use Rattle.groups.specs.declared.Direction.TheVariants.{Rows, Columns}
use Rattle.groups.specs.declared.Found.{Found}
use Rattle.groups.specs.declared.Progress.{Progress}

-- the group g with the rows when it is emptied, and a count that is the number of its boards
pub record Searched (rows : List ℕ) (g : ℕ) (f : Found) : Type 0 where
  pub closure : Grouped rows g f.closure
  pub counted : f.count ≡ count 16 (has g)

-- ---- between the functions of the search

-- the dependences that it follows: along the rows or, turned, along the columns
abbrev pub followed : List ℕ → Direction → Links
followed rows Rows = links_of rows
followed rows Columns = λ a b. links_of rows b a

-- the boards of g, without b unless the test holds
abbrev pub kept : Bool → ℕ → ℕ → ℕ
kept test b g = set_of (λ j. has g j && (test || not (eqb b j)))

-- the boards of m, and all that one of g depends on; pass d g is with_rows d g g
unfoldable pub with_rows : Links → ℕ → ℕ → ℕ
with_rows d m g = set_of (λ j. has m j || meets g (λ i. d i j))

-- The invariant of a pass that begins with the members m: the boards whose rows were added are among them, the boards
-- of those rows were joined to them, and the rows are counted.
pub record PassInvariant (d : Links) (m : ℕ) (p : Progress) : Type 0 where
  pub inside : (j : ℕ) → has p.added j ≡ true → has m j ≡ true
  pub covered : p.members ≡ with_rows d m p.added
  pub counted : p.count ≡ count 16 (has p.added)
