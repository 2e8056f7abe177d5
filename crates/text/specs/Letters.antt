-- The letters of event lines, and the commas of each (document 01, "Event lines and `rsmrun`").
use Rattle.std.specs.Prelude.{ℕ, List, [], ◌∷◌, eqb, find, Option, None, Some}
use Prim.Native.Char.{code}
use Rattle.text.specs.declared.Listing.{Listing}
use Rattle.text.specs.declared.Letter.{Letter}
use Rattle.text.specs.declared.Letter.TheVariants as letter

abbrev pub format_letter : ℕ
format_letter = code "F"

abbrev pub read_letter : ℕ
read_letter = code "R"

abbrev pub write_letter : ℕ
write_letter = code "W"

abbrev pub start_letter : ℕ
start_letter = code "C"

abbrev pub acknowledge_letter : ℕ
acknowledge_letter = code "A"

abbrev pub fault_letter : ℕ
fault_letter = code "X"

abbrev pub power_up_letter : ℕ
power_up_letter = code "U"

abbrev pub allow_letter : ℕ
allow_letter = code "Z"

-- in the row of a line that can't be taken apart
abbrev pub unknown_letter : ℕ
unknown_letter = code "?"

-- the character of each
abbrev pub character_of : Letter → ℕ
character_of letter.Format = format_letter
character_of letter.Read = read_letter
character_of letter.Write = write_letter
character_of letter.Start = start_letter
character_of letter.Acknowledge = acknowledge_letter
character_of letter.Fault = fault_letter
character_of letter.PowerUp = power_up_letter
character_of letter.Allow = allow_letter

-- the character of a row's letter, `?` for none
abbrev pub row_character : Option Letter → ℕ
row_character (Some l) = character_of l
row_character None = unknown_letter

-- F 4, R 3, W 3, C 2, A 2, X 1, U 0, Z 1
unfoldable pub table : List Listing
table =
    record { letter = letter.Format; commas = 4 }
    ∷ record { letter = letter.Read; commas = 3 }
    ∷ record { letter = letter.Write; commas = 3 }
    ∷ record { letter = letter.Start; commas = 2 }
    ∷ record { letter = letter.Acknowledge; commas = 2 }
    ∷ record { letter = letter.Fault; commas = 1 }
    ∷ record { letter = letter.PowerUp; commas = 0 }
    ∷ record { letter = letter.Allow; commas = 1 }
    ∷ []

-- a character read as a letter of a table
unfoldable pub looked_up : ℕ → List Listing → Option Listing
looked_up c es = find (λ e. eqb (character_of e.letter) c) es

-- a field read as a letter, which stands alone in it
unfoldable pub letter_of : List ℕ → Option Listing
letter_of [] = None
letter_of (c ∷ []) = looked_up c table
letter_of (c ∷ d ∷ s) = None
