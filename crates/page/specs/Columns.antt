-- The lines of a page: 31 characters and a line feed each (document 02, Req 05).
use Rattle.std.specs.Prelude.{ℕ, zero, suc, ◌+◌, ◌/◌, ◌%◌, cond, List, [], ◌∷◌, ◌++◌, eqb}
use Prim.Native.Char.{code}
use Rattle.text.specs.Fields.{line_feed}
use Rattle.text.specs.Rows.{group_text}
use Rattle.page.specs.declared.Saved.{Saved}

abbrev pub blank : ℕ
blank = code " "

-- the decimal digits of a number, right-aligned with blanks in w characters; of 0 none
unfoldable pub leading : ℕ → ℕ → List ℕ
leading zero n = []
leading (suc w) n = leading w (n / 10) ++ cond (eqb n 0) blank (48 + n % 10) ∷ []

-- likewise, and of 0 one
unfoldable pub padded : ℕ → ℕ → List ℕ
padded zero n = []
padded (suc w) n = leading w (n / 10) ++ (48 + n % 10) ∷ []

-- blocks in 8 characters, bytes in 10, a blank before each; the line feed
unfoldable pub amounts_text : ℕ → ℕ → List ℕ
amounts_text blocks bytes = blank ∷ padded 8 blocks ++ (blank ∷ padded 10 bytes ++ line_feed ∷ [])

-- the commit that has this count, in 6 characters; a blank; its members, in 4
unfoldable pub commit_line : ℕ → Saved → List ℕ
commit_line n c = padded 6 n ++ (blank ∷ group_text c.members ++ amounts_text c.blocks c.bytes)

-- "TOTAL " and a blank, "----"
unfoldable pub total_head : List ℕ
total_head =
    code "T" ∷ code "O" ∷ code "T" ∷ code "A" ∷ code "L" ∷ blank ∷ blank
    ∷ code "-" ∷ code "-" ∷ code "-" ∷ code "-" ∷ []

unfoldable pub total_line : ℕ → ℕ → List ℕ
total_line blocks bytes = total_head ++ amounts_text blocks bytes
