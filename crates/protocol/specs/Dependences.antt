-- The links between boards by the notes alone (document 01, "Accesses" and "The ledger"; document 02, Req 01 and 06).
-- Calls and ledger make, find and drop a link by other words; only notes, `is_pending` and `covers` are those of the
-- ledger.
use Rattle.std.specs.Prelude.{ℕ, ◌+◌, ◌*◌, ◌/◌, Bool, true, false, ◌&&◌, ◌||◌, not, cond, List, [], ◌∷◌, eqb, length}
use Rattle.boards.specs.Lists.{any, every}
use Rattle.protocol.specs.Ledger.{Access, Wrote, ReadFrom, Note, is_pending, covers}
use Rattle.protocol.specs.declared.Shape.{Shape}

-- how many cells an access has; whether it is a write
unfoldable pub width : Access → ℕ
width (Wrote bytes) = length bytes
width (ReadFrom sources) = length sources

unfoldable pub is_write : Access → Bool
is_write (Wrote bytes) = true
is_write (ReadFrom sources) = false

-- whether p holds of the block of one of a note's cells
unfoldable pub in_blocks : Shape → Note → (ℕ → Bool) → Bool
in_blocks s n p = any (width n.access) (λ x. p ((n.cell + x) / s.size))

-- whether a note wrote every cell of block b
unfoldable pub wrote_all : Shape → Note → ℕ → Bool
wrote_all s n b = every s.size (λ x. covers n (b * s.size + x))

-- whether the newest write of these notes in block b is by board j and still pending
unfoldable pub last_by : Shape → List Note → ℕ → ℕ → Bool
last_by s [] j b = false
last_by s (n ∷ ns) j b =
    cond (is_write n.access && in_blocks s n (eqb b)) (is_pending n.fate && eqb n.board j) (last_by s ns j b)

-- whether a still pending access of board i came upon a still pending write of board j, in a block where it binds
unfoldable pub came_upon : (Note → ℕ → Bool) → Shape → List Note → ℕ → ℕ → Bool
came_upon binds s [] i j = false
came_upon binds s (n ∷ ns) i j =
    (is_pending n.fate && (eqb n.board i && in_blocks s n (λ b. binds n b && last_by s ns j b)))
    || came_upon binds s ns i j

-- Board i depends on another board j: a still pending access of i came upon a still pending write of j in a block that
-- it did not write whole, or a still pending write of j came upon a still pending write of i.
unfoldable pub depends_by_notes : Shape → List Note → ℕ → ℕ → Bool
depends_by_notes s notes i j =
    not (eqb i j)
    && (came_upon (λ n b. not (wrote_all s n b)) s notes i j || came_upon (λ n b. is_write n.access) s notes j i)
