-- The record: its methods and test 12 (document 01, "The record", "Groups" and refusal 12).
use Rattle.std.specs.Prelude.{ℕ, Bool, true, false, ◌&&◌, ◌||◌, not, cond, List, eqb, leb, get_or, replicate}
use Rattle.boards.specs.Lists.{any}
use Rattle.boards.specs.Boards.{has, with_board, meets, within, beyond, Links, link}
use Rattle.boards.specs.Rows.{links_of, rows_of, emptied}
use Rattle.volatile.specs.declared.Record.{Record}
use Rattle.volatile.specs.declared.Commit.{Commit}

unfoldable pub closed : Commit
closed = record { starter = 0; members = 0; acknowledged = 0 }

-- on, else empty; and off, which is all zero
unfoldable pub fresh : Record
fresh = record { on = true; rows = replicate 16 0; commit = closed }

unfoldable pub off : Record
off = record { on = false; rows = replicate 16 0; commit = closed }

-- bit j of row i: board i depends on board j
unfoldable pub depends : Record → Links
depends r = links_of r.rows

-- ---- the open commit, as the calls speak of it

-- the members of the open commit, 0 if none is open
unfoldable pub engaged : Record → ℕ
engaged r = r.commit.members

-- the commit that board i acknowledges, if i is a member: one at most is open, so i does not matter
unfoldable pub commit_of : Record → ℕ → Commit
commit_of r i = r.commit

-- the commit that is left: none if the open one has a member in g, and so is dropped
unfoldable pub left_open : Record → ℕ → Commit
left_open r g = cond (meets r.commit.members (has g)) closed r.commit

-- ---- the methods

unfoldable pub depend : Record → ℕ → ℕ → Record
depend r i j = record { on = r.on; rows = rows_of (link (depends r) i j); commit = r.commit }

-- The rows and columns of g are emptied; an open commit with a member in g is dropped.
unfoldable pub clear : Record → ℕ → Record
clear r g = record { on = r.on; rows = emptied r.rows g; commit = left_open r g }

-- a commit opened with nobody's acknowledgement yet
unfoldable pub opened : Record → ℕ → ℕ → Record
opened r i g = record { on = r.on; rows = r.rows; commit = record { starter = i; members = g; acknowledged = 0 } }

unfoldable pub acknowledge : Record → ℕ → Record
acknowledge r i =
    record {
      on = r.on;
      rows = r.rows;
      commit =
          record {
            starter = r.commit.starter;
            members = r.commit.members;
            acknowledged = with_board r.commit.acknowledged i;
          };
    }

-- The start of a commit of the members g by board i, who acknowledges. The plan of a start makes these two steps.
unfoldable pub start : Record → ℕ → ℕ → Record
start r i g = acknowledge (opened r i g) i

-- ---- test 12, for P boards

-- row i has a bit at or above P, is at or above P and not empty, or has its own board's bit
unfoldable pub bad_row : ℕ → ℕ → ℕ → Bool
bad_row p i row = beyond p row || ((leb p i && not (eqb row 0)) || has row i)

unfoldable pub bad_rows : ℕ → List ℕ → Bool
bad_rows p rows = any 16 (λ i. bad_row p i (get_or rows i 0))

-- acknowledged not within members, equal to members, or without the starter
unfoldable pub bad_open : Commit → Bool
bad_open c =
    not (within c.acknowledged c.members)
    || (eqb c.acknowledged c.members || not (has c.acknowledged c.starter))

-- none open, and starter or acknowledged not 0
unfoldable pub bad_closed : Commit → Bool
bad_closed c = not (eqb c.starter 0) || not (eqb c.acknowledged 0)

unfoldable pub bad_commit : ℕ → Commit → Bool
bad_commit p c =
    beyond p c.members
    || (beyond p c.acknowledged || cond (eqb c.members 0) (bad_closed c) (bad_open c))

unfoldable pub bad_record : ℕ → Record → Bool
bad_record p r = not r.on || (bad_rows p r.rows || bad_commit p r.commit)
