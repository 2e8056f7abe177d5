-- A row is its parts, and how long they are; the rows of a line.
use Prim.Native.Nat.{ℕ, ◌+◌, ◌*◌, ◌≤◌}
use mathlib.Core.Path.{◌≡◌}
use mathlib.Core.Bool.{Bool}
use mathlib.Core.List.{List, [], ◌++◌, append_assoc, append-nil}
use lib.ListN.{length, take, length-append}
use native.Mathlib.Omega.{arith}
use Rattle.protocol.specs.Replies.{Answer}
use Rattle.text.specs.Letters.{power_up_letter, row_character}
use Rattle.text.specs.Rows.{decimal, row_text, rows_text, following, rows_meant}
use Rattle.std.specs.Prelude.{None, Some, Result}
use Rattle.protocol.specs.Replies.{answer_says}
use Rattle.protocol.specs.declared.Answer.{Answer as Taken}
use Rattle.protocol.specs.declared.Refusal.{Refusal}
use Rattle.text.specs.declared.Rows.{Rows}
use Rattle.digits.specs.Append.{Writes}
use Rattle.digits.specs.declared.Output.{Output}
use Rattle.digits.proofs.Laws.{writes_then, length_decimal, length_group, length_bytes}
use Rattle.printing.specs.Parts.{head_text, middle_text, tail_text}

pub length_head : (number letter status : ℕ) → length (head_text number letter status) ≤ 13
unfolding head_text
length_head number letter status =
    simp length-append (omega (arith, length_decimal number, length_decimal status))

pub length_middle : (decided : Bool) (group : ℕ) → length (middle_text decided group) ≡ 7
unfolding middle_text
length_middle decided group = omega (arith, length_group group)

pub length_tail : (stores : ℕ) (bs : List ℕ) → length (tail_text stores bs) ≤ 8 + 2 * length bs
unfolding tail_text
length_tail stores bs = simp length-append (omega (arith, length_decimal stores, length_bytes bs))

-- a row is its parts
pub row_parts : (n letter : ℕ) (a : Answer) (bs : List ℕ) →
    head_text n letter a.status ++ (middle_text a.decided a.group ++ tail_text a.stores bs)
    ≡ row_text n (record { letter = letter; answer = a; bytes = bs })
unfolding head_text middle_text tail_text row_text
row_parts n letter a bs = append_assoc (decimal n) _ _

pub length_row : (n letter : ℕ) (a : Answer) (bs : List ℕ) →
    length (row_text n (record { letter = letter; answer = a; bytes = bs })) ≤ 28 + 2 * length bs
length_row n letter a bs =
    rw (← row_parts n letter a bs)
    (simp length-append
    (omega
    (arith, length_head n letter a.status, length_middle a.decided a.group, length_tail a.stores bs)))

-- ---- the rows of a line, of which the first was written

module _ (number : ℕ) (rows : Rows) (buffer : List ℕ) {a b : Output}
    (m : Writes
    (row_text number
    (record {
      letter = row_character rows.first.letter;
      answer = answer_says rows.first.answer;
      bytes = take rows.first.count buffer;
    })) a b)
  where
    pub rows_alone : rows.after ≡ None → Writes (rows_text number (rows_meant rows buffer)) a b
    unfolding rows_text rows_meant following
    rows_alone e = rw (e, append-nil) m

    pub rows_both : {answer : Result Taken Refusal} {c : Output} → rows.after ≡ Some answer
        → Writes (row_text number (record { letter = power_up_letter; answer = answer_says answer; bytes = [] })) b c
        → Writes (rows_text number (rows_meant rows buffer)) a c
    unfolding rows_text rows_meant following
    rows_both e n = rw (e, append-nil) (writes_then m n)
