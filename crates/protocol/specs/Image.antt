-- The image: its areas, its header, and the stores that change it (document 01, "The image").
use Rattle.std.specs.Prelude.{ℕ, zero, suc, ◌+◌, ◌*◌, ◌/◌, ◌%◌, ◌^◌, Bool, ◌&&◌, cond, List, [], ◌∷◌, ◌++◌, eqb}
use Rattle.std.specs.Prelude.{ltb, leb, length, get_or, set}
use Rattle.boards.specs.Lists.{any, every}
use Rattle.protocol.specs.declared.Shape.{Shape}

-- ---- shapes

-- P from 1 to 16, S one of 1, 2, 4, 8, 16, 32, 64, B from 1 to 1,024, B × S at most 16,384, K at most 64
unfoldable pub allowed : Shape → Bool
allowed s =
    leb 1 s.boards
    && (leb s.boards 16
    && (any 7 (λ p. eqb (2 ^ p) s.size)
    && (leb 1 s.blocks
    && (leb s.blocks 1024 && (leb (s.blocks * s.size) 16384 && leb s.context 64)))))

-- the cells, and the context bytes of all boards
abbrev pub cells : Shape → ℕ
cells s = s.blocks * s.size

abbrev pub contexts : Shape → ℕ
contexts s = s.boards * s.context

-- ---- areas

-- Bytes 0 to 8; byte 9, the decision; bytes 10 and 11, the deciding group; the tags; the current and the
-- recovery bank; the tentative contexts; the recovery contexts, called checkpoints here.
pub data Area : Type 0 where
  Header Decision Group Tags Current Recovery Tentative Checkpoint : Area

unfoldable pub size : Shape → Area → ℕ
size s Header = 9
size s Decision = 1
size s Group = 2
size s Tags = s.blocks
size s Current = cells s
size s Recovery = cells s
size s Tentative = contexts s
size s Checkpoint = contexts s

unfoldable pub base : Shape → Area → ℕ
base s Header = 0
base s Decision = 9
base s Group = 10
base s Tags = 12
base s Current = 12 + s.blocks
base s Recovery = 12 + s.blocks + cells s
base s Tentative = 12 + s.blocks + 2 * cells s
base s Checkpoint = 12 + s.blocks + 2 * cells s + contexts s

unfoldable pub total : Shape → ℕ
total s = 12 + s.blocks + 2 * cells s + 2 * contexts s

-- ---- the header

-- document 01's "mark", hexadecimal 52 53 4D 31
unfoldable pub mark : List ℕ
mark = 0x52 ∷ 0x53 ∷ 0x4D ∷ 0x31 ∷ []

-- the power of two that a block size is; 7 for a number that is none of the seven
unfoldable pub exponent_from : ℕ → ℕ → ℕ → ℕ
exponent_from zero p n = p
exponent_from (suc left) p n = let later = exponent_from left (suc p) n in cond (eqb (2 ^ p) n) p later

unfoldable pub exponent : ℕ → ℕ
exponent n = exponent_from 7 0 n

-- bytes 0 to 8
unfoldable pub header : Shape → List ℕ
header s = mark ++ (s.boards ∷ exponent s.size ∷ s.blocks % 256 ∷ s.blocks / 256 ∷ s.context ∷ [])

abbrev pub byte : List ℕ → ℕ → ℕ
byte image i = get_or image i 0

unfoldable pub shape_of : List ℕ → Shape
shape_of image =
    record {
      boards = byte image 4;
      size = 2 ^ byte image 5;
      blocks = byte image 6 + 256 * byte image 7;
      context = byte image 8;
    }

-- the mark, an allowed shape, the exact length, and byte 9 at most `most`:
-- 0 for all calls but power-up, which allows 1
unfoldable pub in_order : ℕ → List ℕ → Bool
in_order most image =
    every 4 (λ i. eqb (byte image i) (byte mark i))
    && (allowed (shape_of image) && (eqb (length image) (total (shape_of image)) && leb (byte image 9) most))

-- ---- the image by areas

-- what stands at each index of each area; 0 past an area's end
abbrev pub Memory : Type 0
Memory = Area → ℕ → ℕ

unfoldable pub view : Shape → List ℕ → Memory
view s image a i = cond (ltb i (size s a)) (byte image (base s a + i)) 0

-- ---- stores

-- a byte stored at an offset of the image, and a list of them made in order
pub record Store : Type 0 where
  pub at : ℕ
  pub value : ℕ

unfoldable pub made : List Store → List ℕ → List ℕ
made [] image = image
made (s ∷ ss) image = made ss (set image s.at s.value)

-- the same said of an index of an area
pub record Put : Type 0 where
  pub area : Area
  pub index : ℕ
  pub value : ℕ

abbrev pub put : Area → ℕ → ℕ → Put
put a i v = record { area = a; index = i; value = v }

unfoldable pub raw : Shape → Put → Store
raw s p = record { at = base s p.area + p.index; value = p.value }

-- areas are told apart by their numbers
unfoldable pub rank : Area → ℕ
rank Header = 0
rank Decision = 1
rank Group = 2
rank Tags = 3
rank Current = 4
rank Recovery = 5
rank Tentative = 6
rank Checkpoint = 7

unfoldable pub change : Memory → Put → Memory
change m p a i = cond (eqb (rank p.area) (rank a) && eqb p.index i) p.value (m a i)

unfoldable pub after : List Put → Memory → Memory
after [] m = m
after (p ∷ ps) m = after ps (change m p)
