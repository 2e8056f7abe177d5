-- Output lines (document 01, "Output fields").
use Rattle.std.specs.Prelude.{ℕ, ◌+◌, ◌/◌, ◌%◌, Bool, cond, List, [], ◌∷◌, ◌++◌, ltb, leb, take}
use Rattle.std.specs.Prelude.{Option, None, Some, Result}
use Rattle.protocol.specs.Replies.{Answer, answer_says}
use Rattle.protocol.specs.declared.Answer.{Answer as Taken}
use Rattle.protocol.specs.declared.Refusal.{Refusal}
use Rattle.text.specs.Fields.{comma, line_feed}
use Rattle.text.specs.Letters.{power_up_letter, row_character}
use Rattle.text.specs.declared.Rows.{Rows}

-- the letter of a line, what was answered, and the bytes read
pub record Row : Type 0 where
  pub letter : ℕ
  pub answer : Answer
  pub bytes : List ℕ

-- a decimal digit, where the number is not smaller than its place
unfoldable pub digit_at : ℕ → ℕ → List ℕ
digit_at place n = cond (leb place n) ((48 + n / place % 10) ∷ []) []

-- a number up to 99,999 in decimal
unfoldable pub decimal : ℕ → List ℕ
decimal n = digit_at 10000 n ++ (digit_at 1000 n ++ (digit_at 100 n ++ (digit_at 10 n ++ (48 + n % 10) ∷ [])))

-- a hexadecimal digit, in capitals; a byte; four digits
unfoldable pub hexadecimal : ℕ → ℕ
hexadecimal d = cond (ltb d 10) (48 + d) (55 + d)

unfoldable pub byte_text : ℕ → List ℕ
byte_text b = hexadecimal (b / 16) ∷ hexadecimal (b % 16) ∷ []

unfoldable pub bytes_text : List ℕ → List ℕ
bytes_text [] = []
bytes_text (b ∷ bs) = byte_text b ++ bytes_text bs

unfoldable pub group_text : ℕ → List ℕ
group_text g = byte_text (g / 256) ++ byte_text (g % 256)

unfoldable pub flag_text : Bool → ℕ
flag_text b = cond b 49 48

-- line number, letter, status, decided, group, stores, bytes, parted by commas; a line feed
unfoldable pub row_text : ℕ → Row → List ℕ
row_text n r =
    let a = r.answer in
    decimal n
    ++ (comma ∷ r.letter ∷ comma ∷ decimal a.status
    ++ (comma ∷ flag_text a.decided ∷ comma ∷ group_text a.group
    ++ (comma ∷ decimal a.stores ++ (comma ∷ bytes_text r.bytes ++ line_feed ∷ []))))

-- the rows of a line have its number
unfoldable pub rows_text : ℕ → List Row → List ℕ
rows_text n [] = []
rows_text n (r ∷ rs) = row_text n r ++ rows_text n rs

-- ---- what the code's rows mean, with the bytes in its buffer

unfoldable pub following : Option (Result Taken Refusal) → List Row
following None = []
following (Some answer) = record { letter = power_up_letter; answer = answer_says answer; bytes = [] } ∷ []

unfoldable pub rows_meant : Rows → List ℕ → List Row
rows_meant r buffer =
    let f = r.first in
    record { letter = row_character f.letter; answer = answer_says f.answer; bytes = take f.count buffer }
    ∷ following r.after
