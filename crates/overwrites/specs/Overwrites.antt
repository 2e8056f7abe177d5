-- Who is rolled back after a write over another board's block (document 02, Req 01), at every point of every list of
-- calls.
use Rattle.std.specs.Prelude.{ℕ, suc, ◌+◌, ◌*◌, ◌≤◌, ◌<◌, ◌≡◌, false, List, ◌≢◌, ◌⊎◌, length}
use Rattle.boards.specs.Boards.{Exactly}
use Rattle.volatile.specs.Volatile.{depends}
use Rattle.volatile.specs.declared.Record.{Record}
use Rattle.protocol.specs.Image.{Area, byte, base}
use Rattle.protocol.specs.Accesses.{board_of}
use Rattle.protocol.specs.Calls.{Write, Fault, format}
use Rattle.protocol.specs.Ledger.{done}
use Rattle.protocol.specs.Claim.{verdict, System, Call, answer, next, formatted, later}
use Rattle.protocol.specs.declared.Shape.{Shape}
use Rattle.protocol.specs.declared.Requester.{Requester}

-- Where no board depends on another, a write from cell a on by whoever makes it, done with allowance k, and a block b
-- that another board j tagged.
pub record Overwrite (s : Shape) (w : System) (who : Requester) (j b a : ℕ) (bytes : List ℕ) (k : ℕ) : Type 0 where
  pub no_links : (c d : ℕ) → depends w.state c d ≡ false
  pub outcome : verdict (answer w (Write who a bytes) k) ≡ done
  pub tag : byte w.image (base s Area.Tags + b) ≡ suc j
  pub other : board_of s who ≢ j

-- n cells from a on lie in block b
abbrev pub Inside : Shape → ℕ → ℕ → ℕ → Type 0
Inside s b a n = (b * s.size ≤ a) × (a + n ≤ b * s.size + s.size)

-- a fault of board i made next, if done, answers exactly the boards of which P holds
abbrev pub RollsBack : System → ℕ → (ℕ → Type 0) → Type 0
RollsBack w i P =
    (k : ℕ) → verdict (answer w (Fault i) k) ≡ done → Exactly (answer w (Fault i) k).reply.answer.group P

-- a fault of j takes back j alone, one of i takes back both
abbrev pub OldWriterDepends : ℕ → ℕ → System → Type 0
OldWriterDepends i j w = RollsBack w j (λ c. c ≡ j) × RollsBack w i (λ c. (c ≡ i) ⊎ (c ≡ j))

-- a fault of either takes back both
abbrev pub BothDepend : ℕ → ℕ → System → Type 0
BothDepend i j w = RollsBack w j (λ c. (c ≡ i) ⊎ (c ≡ j)) × RollsBack w i (λ c. (c ≡ i) ⊎ (c ≡ j))

-- At any point of a list, after a write in the block: of all its S bytes, the old writer depends on the new one; of
-- fewer, each on the other.
abbrev pub FaultsAfterOverwrite : Type 0
FaultsAfterOverwrite =
    (s : Shape) (image : List ℕ) (r : Record) (m : ℕ) → verdict (format s image r m) ≡ done
    → (calls : List Call) (who : Requester) (j b a : ℕ) (bytes : List ℕ) (k : ℕ)
    → let w = later s (formatted s image r m) calls in
    let after = next s w (Write who a bytes) k in
    let i = board_of s who in
    Overwrite s w who j b a bytes k
    → Inside s b a (length bytes)
    → (length bytes ≡ s.size → OldWriterDepends i j after) × (length bytes < s.size → BothDepend i j after)

-- With S = 1 every write is such a write: cell a is all of block a.
abbrev pub SingleCells : Type 0
SingleCells =
    (s : Shape) (image : List ℕ) (r : Record) (m : ℕ) → verdict (format s image r m) ≡ done
    → (calls : List Call) (who : Requester) (j a : ℕ) (bytes : List ℕ) (k : ℕ)
    → let w = later s (formatted s image r m) calls in
    s.size ≡ 1
    → Overwrite s w who j a a bytes k
    → OldWriterDepends (board_of s who) j (next s w (Write who a bytes) k)
