-- A line taken apart (document 01, "Event lines and `rsmrun`").
use Rattle.std.specs.Prelude.{ℕ, cond, List, eqb, leb, length, take, Option, None, Some, Result, Ok, Err}
use Rattle.protocol.specs.Calls.{Request, Read, Write, Start, Acknowledge, Fault, PowerUp}
use Rattle.protocol.specs.Replies.{refusal_number}
use Rattle.protocol.specs.declared.Refusal.{Refusal}
use Rattle.protocol.specs.declared.Shape.{Shape}
use Rattle.protocol.specs.declared.Requester.TheVariants.{Board}
use Rattle.text.specs.Fields.{field, commas, number_of, pairs, decoded}
use Rattle.text.specs.Letters.{letter_of}
use Rattle.text.specs.declared.Listing.{Listing}
use Rattle.text.specs.declared.Letter.{Letter}
use Rattle.text.specs.declared.Letter.TheVariants as letter
use Rattle.text.specs.declared.Event.{Event as Parsed}
use Rattle.text.specs.declared.Event.TheVariants as parsed

-- What a line asks for: a format, a request, the allowance of the next line; or it is refused by a number.
pub data Event : Type 0 where
  Format : Shape → Event
  Make : Request → Event
  Allow : ℕ → Event
  Refused : ℕ → Event

-- a line that can't be taken apart
abbrev pub unreadable : Event
unreadable = Refused 6

-- what follows if a field is a number; if it is pairs of hexadecimal digits
unfoldable pub with_number : Option ℕ → (ℕ → Event) → Event
with_number (Some n) f = f n
with_number None f = unreadable

unfoldable pub with_bytes : List ℕ → (List ℕ → Event) → Event
with_bytes s f = cond (pairs s) (f (decoded s)) unreadable

abbrev pub number_at : ℕ → List ℕ → (ℕ → Event) → Event
number_at i s f = with_number (number_of (field i s)) f

abbrev pub bytes_at : ℕ → List ℕ → (List ℕ → Event) → Event
bytes_at i s f = with_bytes (field i s) f

-- a read is answered in a buffer of as many bytes as the largest block has
abbrev pub room : ℕ
room = 64

-- the fields that follow each letter
unfoldable pub format_of : List ℕ → Event
format_of s =
    number_at 1 s (λ p. number_at 2 s (λ size. number_at 3 s (λ b. number_at 4 s (λ k.
    Format (record { boards = p; size = size; blocks = b; context = k })))))

unfoldable pub read_of : List ℕ → Event
read_of s = number_at 1 s (λ i. number_at 2 s (λ a. number_at 3 s (λ n. Make (Read (Board i) a n room))))

unfoldable pub write_of : List ℕ → Event
write_of s = number_at 1 s (λ i. number_at 2 s (λ a. bytes_at 3 s (λ bytes. Make (Write (Board i) a bytes))))

unfoldable pub start_of : List ℕ → Event
start_of s = number_at 1 s (λ i. bytes_at 2 s (λ bytes. Make (Start i bytes)))

unfoldable pub acknowledge_of : List ℕ → Event
acknowledge_of s = number_at 1 s (λ i. bytes_at 2 s (λ bytes. Make (Acknowledge i bytes)))

unfoldable pub fault_of : List ℕ → Event
fault_of s = number_at 1 s (λ i. Make (Fault i))

unfoldable pub allow_of : List ℕ → Event
allow_of s = number_at 1 s (λ k. Allow k)

-- the letter chooses
unfoldable pub by_letter : Letter → List ℕ → Event
by_letter letter.Format s = format_of s
by_letter letter.Read s = read_of s
by_letter letter.Write s = write_of s
by_letter letter.Start s = start_of s
by_letter letter.Acknowledge s = acknowledge_of s
by_letter letter.Fault s = fault_of s
by_letter letter.PowerUp s = Make PowerUp
by_letter letter.Allow s = allow_of s

-- a line whose first field was read as a letter has that letter's commas
unfoldable pub with_letter : Option Listing → List ℕ → Event
with_letter (Some e) s = let event = by_letter e.letter s in cond (eqb (commas s) e.commas) event unreadable
with_letter None s = unreadable

-- a line has at most 160 characters
unfoldable pub taken : List ℕ → Event
taken s = let event = with_letter (letter_of (field 0 s)) s in cond (leb (length s) 160) event unreadable

-- what the code's answer means, with the bytes in its buffer
unfoldable pub meant : Result Parsed Refusal → List ℕ → Event
meant (Ok (parsed.Format s)) b = Format s
meant (Ok (parsed.Read i a n)) b = Make (Read (Board i) a n room)
meant (Ok (parsed.Write i a n)) b = Make (Write (Board i) a (take n b))
meant (Ok (parsed.Start i n)) b = Make (Start i (take n b))
meant (Ok (parsed.Acknowledge i n)) b = Make (Acknowledge i (take n b))
meant (Ok (parsed.Fault i)) b = Make (Fault i)
meant (Ok parsed.PowerUp) b = Make PowerUp
meant (Ok (parsed.Allow k)) b = Allow k
meant (Err r) b = Refused (refusal_number r)

-- how many bytes of the buffer the code's answer counts on
unfoldable pub counted : Result Parsed Refusal → ℕ
counted (Ok (parsed.Format s)) = 0
counted (Ok (parsed.Read i a n)) = 0
counted (Ok (parsed.Write i a n)) = n
counted (Ok (parsed.Start i n)) = n
counted (Ok (parsed.Acknowledge i n)) = n
counted (Ok (parsed.Fault i)) = 0
counted (Ok parsed.PowerUp) = 0
counted (Ok (parsed.Allow k)) = 0
counted (Err r) = 0
