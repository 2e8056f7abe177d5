-- The call `order` (document 02, Req 07): its tests, and the components that it answers.
use Rattle.std.specs.Prelude.{ℕ, ◌+◌, ◌≤◌, ◌≡◌, true, not, cond, List, [], ◌∷◌, ◌++◌, eqb, length, take, drop}
use Rattle.std.specs.Prelude.{Result, Ok, Err}
use Rattle.boards.specs.Lists.{count}
use Rattle.boards.specs.Boards.{has, Links}
use Rattle.volatile.specs.Volatile.{depends, engaged, bad_record}
use Rattle.volatile.specs.declared.Record.{Record}
use Rattle.components.specs.Components.{order_from, order}
use Rattle.protocol.specs.Image.{shape_of, in_order}
use Rattle.protocol.specs.Calls.{Test, test, first, filled}
use Rattle.protocol.specs.Replies.{refusal_number}
use Rattle.protocol.specs.declared.Refusal.{Refusal}

-- 11 for the header, 12, 14
abbrev pub order_tests : List ℕ → Record → List Test
order_tests image r =
    test (not (in_order 0 image)) 11
    ∷ test (bad_record (shape_of image).boards r) 12
    ∷ test (not (eqb (engaged r) 0)) 14
    ∷ []

-- 0 or the refusal, and the components in their order; none if it is refused
abbrev pub order_status : List ℕ → Record → ℕ
order_status image r = first (order_tests image r)

unfoldable pub components : List ℕ → Record → List ℕ
components image r = cond (eqb (order_status image r) 0) (order (shape_of image).boards (depends r)) []

-- 0 or the number of the refusal; how many components there are, 0 if refused
pub record Ordered : Type 0 where
  pub status : ℕ
  pub count : ℕ

-- what the code's answer is in these numbers
abbrev pub ordered_says : Result ℕ Refusal → Ordered
ordered_says (Ok n) = record { status = 0; count = n }
ordered_says (Err e) = record { status = refusal_number e; count = 0 }

-- What the call promises: status and count, and the lent masks afterwards, of which those from the count on stay.
pub record AnswersOrder (image : List ℕ) (r : Record) (masks : List ℕ) (a : Ordered) (after : List ℕ) : Type 0 where
  pub answer : a ≡ record { status = order_status image r; count = length (components image r) }
  pub masks_after : after ≡ filled (components image r) masks

-- ---- for the recursion

-- every board left has with it all that depend on it
abbrev pub WithDependents : Links → ℕ → Type 0
WithDependents d left = (a b : ℕ) → has left b ≡ true → d a b ≡ true → has left a ≡ true

-- the order of the boards left is put from place `at` on, and ends at r, whatever bound n the recursion is given; the
-- other masks stay
pub record PutFrom (d : Links) (left at : ℕ) (before : List ℕ) (r : ℕ) (after : List ℕ) : Type 0 where
  pub end : (n : ℕ) → count 16 (has left) ≤ n → r ≡ at + length (order_from d n left)
  pub masks : (n : ℕ) → count 16 (has left) ≤ n
      → after ≡ take at before ++ (order_from d n left ++ drop (at + length (order_from d n left)) before)
