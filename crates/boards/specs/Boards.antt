-- Sets of boards, tags, dependences between boards, and groups (document 01, "The image", "The record", "Groups").
use Rattle.std.specs.Prelude.{ℕ, zero, suc, ◌+◌, ◌*◌, ◌/◌, ◌%◌, ◌^◌, ◌<◌, ◌≡◌, Bool, true, false, ◌&&◌, ◌||◌, not}
use Rattle.std.specs.Prelude.{cond, ◌⊎◌, ◌↔◌, eqb, leb, Option, None, Some}
use Rattle.boards.specs.Lists.{any, every}

-- ---- sets: a set of boards is a number, bit j for board j

unfoldable pub has : ℕ → ℕ → Bool
has g zero = eqb (g % 2) 1
has g (suc j) = has (g / 2) j

-- the set of the boards below n of which p holds
unfoldable pub mask : ℕ → (ℕ → Bool) → ℕ
mask zero p = 0
mask (suc n) p = cond (p 0) 1 0 + 2 * mask n (λ j. p (suc j))

-- sixteen boards at most
abbrev pub set_of : (ℕ → Bool) → ℕ
set_of p = mask 16 p

abbrev pub single : ℕ → ℕ
single i = set_of (λ j. eqb i j)

abbrev pub with_board : ℕ → ℕ → ℕ
with_board g i = set_of (λ j. has g j || eqb i j)

-- whether g has a board of which p holds; whether all boards of g are in h
abbrev pub meets : ℕ → (ℕ → Bool) → Bool
meets g p = any 16 (λ j. has g j && p j)

abbrev pub within : ℕ → ℕ → Bool
within g h = every 16 (λ j. not (has g j) || has h j)

-- whether g has a board at or above p
unfoldable pub beyond : ℕ → ℕ → Bool
beyond p g = any 16 (λ j. leb p j && has g j)

-- ---- tags: a block's tag is 0 for no active writer, j + 1 for writer j

abbrev pub tag_of : Option ℕ → ℕ
tag_of None = 0
tag_of (Some j) = suc j

-- the tag names a member of g; it names a writer
unfoldable pub tagged_in : ℕ → ℕ → Bool
tagged_in g zero = false
tagged_in g (suc j) = has g j

unfoldable pub tagged : ℕ → Bool
tagged zero = false
tagged (suc j) = true

-- ---- dependences: d i j says that board i depends on board j

abbrev pub Links : Type 0
Links = ℕ → ℕ → Bool

unfoldable pub unlinked : Links
unlinked i j = false

unfoldable pub link : Links → ℕ → ℕ → Links
link d i j = λ a b. (eqb a i && eqb b j) || d a b

-- the rows and the columns of the boards of which p holds are emptied
unfoldable pub unlink : (ℕ → Bool) → Links → Links
unlink p d = λ a b. not (p a) && (not (p b) && d a b)

-- ---- groups

-- the boards of g and all that one of them depends on
unfoldable pub pass : Links → ℕ → ℕ
pass d g = set_of (λ j. has g j || meets g (λ i. d i j))

unfoldable pub passes : Links → ℕ → ℕ → ℕ
passes d zero g = g
passes d (suc n) g = pass d (passes d n g)

-- The commit group: board i and all that it depends on through any chain. Sixteen passes reach them all,
-- which GroupsFollowChains says.
unfoldable pub commit_group : Links → ℕ → ℕ
commit_group d i = passes d 16 (single i)

-- The fault group: board i and all that depend on it through any chain.
unfoldable pub fault_group : Links → ℕ → ℕ
fault_group d i = commit_group (λ a b. d b a) i

-- A chain of dependences from i to j.
pub data Chain (d : Links) : ℕ → ℕ → Type 0 where
  here : {i : ℕ} → Chain d i i
  step : {i j k : ℕ} → d i j ≡ true → Chain d j k → Chain d i k

-- the boards of g are exactly those of which P holds
abbrev pub Exactly : ℕ → (ℕ → Type 0) → Type 0
Exactly g P = (j : ℕ) → (has g j ≡ true) ↔ P j

-- A board is in the commit group of i exactly when a chain leads from i to it, in the fault group when one leads from
-- it to i.
abbrev pub GroupsFollowChains : Type 0
GroupsFollowChains =
    (d : Links) → ((a b : ℕ) → d a b ≡ true → (a < 16) × (b < 16)) → (i : ℕ) → i < 16
    → Exactly (commit_group d i) (λ j. Chain d i j) × Exactly (fault_group d i) (λ j. Chain d j i)

-- What the words that calls and ledger share mean: sets by their members, links by their two boards.
pub record WordsByMembers : Type 0 where
  pub bit : (g j : ℕ) → has g j ≡ eqb (g / 2 ^ j % 2) 1
  pub of_set : (p : ℕ → Bool) → Exactly (set_of p) (λ j. (j < 16) × (p j ≡ true))
  pub with_one : (g i : ℕ) → Exactly (with_board g i) (λ j. (j < 16) × ((has g j ≡ true) ⊎ (i ≡ j)))
  pub met : (g : ℕ) (p : ℕ → Bool) → (meets g p ≡ true) ↔ ((j : ℕ) × (j < 16) × (has g j ≡ true) × (p j ≡ true))
  pub inside : (g h : ℕ) → (within g h ≡ true) ↔ ((j : ℕ) → j < 16 → has g j ≡ true → has h j ≡ true)
  pub linked : (d : Links) (i j a b : ℕ) → (link d i j a b ≡ true) ↔ (((a ≡ i) × (b ≡ j)) ⊎ (d a b ≡ true))
  pub left : (p : ℕ → Bool) (d : Links) (a b : ℕ)
      → (unlink p d a b ≡ true) ↔ ((p a ≡ false) × (p b ≡ false) × (d a b ≡ true))
