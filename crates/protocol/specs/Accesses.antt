-- What calls and ledger share of an access: its board, the blocks that it touches, and how it binds boards
-- (document 01, "Accesses"; document 02, Req 01, 03 and 06).
use Rattle.std.specs.Prelude.{ℕ, zero, suc, ◌+◌, ◌-◌, ◌*◌, ◌/◌, Bool, ◌&&◌, cond, List, [], ◌∷◌, eqb, leb}
use Rattle.protocol.specs.declared.Shape.{Shape}
use Rattle.protocol.specs.declared.Requester.{Requester}
use Rattle.protocol.specs.declared.Requester.TheVariants.{Board, Port}
use Rattle.protocol.specs.declared.Binding.{Binding}
use Rattle.protocol.specs.declared.Binding.TheVariants.{OneWay, TwoWay, Opposite}

-- the board whose access it is: the port's is the last, P − 1
unfoldable pub board_of : Shape → Requester → ℕ
board_of s (Board i) = i
board_of s Port = s.boards - 1

-- the blocks that 1 to S cells from a on touch: the first, and the last if it is another
unfoldable pub touched : Shape → ℕ → ℕ → List ℕ
touched s a n =
    let first = a / s.size in
    let last = (a + n - 1) / s.size in
    first ∷ cond (eqb first last) [] (last ∷ [])

-- whether the n cells from a on include every cell of block b
abbrev pub whole : Shape → ℕ → ℕ → ℕ → Bool
whole s a n b = leb a (b * s.size) && leb (b * s.size + s.size) (a + n)

-- Board i accesses block b, whose tag is that of another board j. A read makes i depend on j. A write of n cells from a
-- on makes each depend on the other; if it covers the whole block, it makes only j depend on i.
unfoldable pub read_binding : ℕ → Binding
read_binding b = OneWay

unfoldable pub write_binding : Shape → ℕ → ℕ → ℕ → Binding
write_binding s a n b = cond (whole s a n b) Opposite TwoWay

-- Binding, for the record and for the ledger alike: X holds dependences, and link adds one to them.
module _ {X : Type 0} (link : X → ℕ → ℕ → X) where
  unfoldable pub bind_boards : Binding → X → ℕ → ℕ → X
  bind_boards OneWay x i j = link x i j
  bind_boards TwoWay x i j = link (link x i j) j i
  bind_boards Opposite x i j = link x j i

  -- an access by board i to a block with this tag: 0 for no active writer, j + 1 for writer j
  unfoldable pub bind_tag : Binding → X → ℕ → ℕ → X
  bind_tag how x i zero = x
  bind_tag how x i (suc j) = cond (eqb i j) x (bind_boards how x i j)

  -- to each of these blocks, whose bindings and tags are given
  unfoldable pub bind_blocks : (ℕ → Binding) → (ℕ → ℕ) → X → ℕ → List ℕ → X
  bind_blocks how tag x i [] = x
  bind_blocks how tag x i (b ∷ bs) = bind_blocks how tag (bind_tag (how b) x i (tag b)) i bs
