-- That the order of components is right, and the only one that is (document 02, Req 07).
use Rattle.std.specs.Prelude.{ℕ, ◌≤◌, ◌<◌, ◌≡◌, Bool, true, false, List, ◌⊎◌, ◌↔◌, ltb, length, get_or}
use Rattle.boards.specs.Boards.{has, Links, Chain}
use Rattle.volatile.specs.Volatile.{depends, bad_record}
use Rattle.volatile.specs.declared.Record.{Record}
use Rattle.components.specs.Components.{order}

-- the boards at place x of a list of sets; none past its end
abbrev pub at : List ℕ → ℕ → ℕ
at sets x = get_or sets x 0

-- all that the boards at place y depend on, through any chain, is at y itself or before place x
abbrev pub DependsBefore : Links → List ℕ → ℕ → ℕ → Type 0
DependsBefore d sets x y =
    (i j z : ℕ) → has (at sets y) i ≡ true → Chain d i j → has (at sets z) j ≡ true → (z < x) ⊎ (z ≡ y)

-- The sets are the strongly connected components of the boards of which `board` holds, in the order in which they
-- commit.
pub record Orders (d : Links) (board : ℕ → Bool) (sets : List ℕ) : Type 0 where
  -- none is empty
  pub some : (x : ℕ) → x < length sets → (j : ℕ) × (has (at sets x) j ≡ true)
  -- each board stands in exactly one of them, no other board in any
  pub each : (j : ℕ) → board j ≡ true → (x : ℕ) × (has (at sets x) j ≡ true)
  pub once : (x y j : ℕ) → has (at sets x) j ≡ true → has (at sets y) j ≡ true → x ≡ y
  pub no_other : (x j : ℕ) → has (at sets x) j ≡ true → board j ≡ true
  -- two boards are in one of them exactly when chains lead both ways
  pub connected : (x i j : ℕ) → has (at sets x) i ≡ true → board j ≡ true
      → (has (at sets x) j ≡ true) ↔ (Chain d i j × Chain d j i)
  -- each comes after all that it depends on
  pub after : (x y i j : ℕ) → has (at sets x) i ≡ true → has (at sets y) j ≡ true → Chain d i j → y ≤ x
  -- and its lowest board is below that of any later one that might stand in its place
  pub lowest_first : (x y j : ℕ) → x < y → DependsBefore d sets x y → has (at sets y) j ≡ true
      → (i : ℕ) × (has (at sets x) i ≡ true) × (i < j)

-- dependences among sixteen boards only, as every record of the code has them: sixteen rows of sixteen bits
abbrev pub SixteenBoards : Record → Type 0
SixteenBoards r = (a b : ℕ) → depends r a b ≡ true → (a < 16) × (b < 16)

-- For every record that passes test 12, the order is right, and every list that is right is this one.
abbrev pub OrderRight : Type 0
OrderRight =
    (p : ℕ) (r : Record) → p ≤ 16 → bad_record p r ≡ false → SixteenBoards r
    → let right = Orders (depends r) (λ j. ltb j p) in
    right (order p (depends r)) × ((sets : List ℕ) → right sets → sets ≡ order p (depends r))
