-- The fields of an event line (document 01, "Event lines and `rsmrun`"). A text is the list of its bytes.
use Rattle.std.specs.Prelude.{ℕ, zero, suc, ◌+◌, ◌-◌, ◌*◌, Bool, true, false, ◌&&◌, cond, List, [], ◌∷◌, eqb, leb}
use Rattle.std.specs.Prelude.{Option, None, Some}
use Prim.Native.Char.{code}
use Prim.Native.String.{String, [] as []ˢ, ◌∷◌ as ◌∷ˢ◌}

-- the bytes of a quoted text of plain characters
unfoldable pub codes : String → List ℕ
codes []ˢ = []
codes (c ∷ˢ s) = code c ∷ codes s

abbrev pub comma : ℕ
comma = 44

abbrev pub line_feed : ℕ
line_feed = 10

-- ---- fields, parted by commas

-- the text before the first d, and after it; without a d, all of it and nothing
unfoldable pub until : ℕ → List ℕ → List ℕ
until d [] = []
until d (c ∷ s) = cond (eqb c d) [] (c ∷ until d s)

unfoldable pub past : ℕ → List ℕ → List ℕ
past d [] = []
past d (c ∷ s) = cond (eqb c d) s (past d s)

abbrev pub before : List ℕ → List ℕ
before s = until comma s

abbrev pub after : List ℕ → List ℕ
after s = past comma s

unfoldable pub commas : List ℕ → ℕ
commas [] = 0
commas (c ∷ s) = let rest = commas s in cond (eqb c comma) (suc rest) rest

-- field 0 of a readable line is its letter
unfoldable pub field : ℕ → List ℕ → List ℕ
field zero s = before s
field (suc i) s = field i (after s)

-- ---- numbers: 0 to 65,535 without leading zeros

abbrev pub between : ℕ → ℕ → ℕ → Bool
between low high c = leb low c && leb c high

-- a number whose digits so far made v, and those that follow
unfoldable pub number_from : ℕ → List ℕ → Option ℕ
number_from v [] = Some v
number_from v (c ∷ s) =
    let w = 10 * v + (c - 48) in
    let rest = number_from w s in
    cond (between 48 57 c && leb w 65535) rest None

-- a field read as a number
unfoldable pub number_of : List ℕ → Option ℕ
number_of [] = None
number_of (c ∷ []) = number_from 0 (c ∷ [])
number_of (c ∷ d ∷ s) = let whole = number_from 0 (c ∷ d ∷ s) in cond (eqb c 48) None whole

-- ---- bytes: pairs of hexadecimal digits 0-9 A-F, perhaps none

-- the value of a hexadecimal digit; 16 for any other character
unfoldable pub digit : ℕ → ℕ
digit c = cond (between 48 57 c) (c - 48) (cond (between 65 70 c) (c - 55) 16)

unfoldable pub pairs : List ℕ → Bool
pairs [] = true
pairs (h ∷ []) = false
pairs (h ∷ l ∷ s) = leb (digit h) 15 && (leb (digit l) 15 && pairs s)

unfoldable pub decoded : List ℕ → List ℕ
decoded [] = []
decoded (h ∷ []) = []
decoded (h ∷ l ∷ s) = (16 * digit h + digit l) ∷ decoded s
