-- Same: whether two images have the same shape and recovery state (document 01, end of "Commit, fault, power").
use Rattle.std.specs.Prelude.{ℕ, ◌+◌, Bool, false, ◌&&◌, not, List, [], ◌∷◌, eqb, Result, Ok, Err}
use Rattle.boards.specs.Lists.{every}
use Rattle.protocol.specs.Image.{Area, Memory, Recovery, Checkpoint, cells, contexts, byte, shape_of, in_order, view}
use Rattle.protocol.specs.Calls.{Test, test, first}
use Rattle.protocol.specs.Replies.{refusal_number}
use Rattle.protocol.specs.declared.Refusal.{Refusal}
use Rattle.protocol.specs.declared.Shape.{Shape}

-- what comparing two images answers: 0 or the number of the refusal, and whether they are the same; refused, no
pub record Compared : Type 0 where
  pub status : ℕ
  pub same : Bool

-- what the code's answer is in these numbers
abbrev pub compared_says : Result Bool Refusal → Compared
compared_says (Ok b) = record { status = 0; same = b }
compared_says (Err e) = record { status = refusal_number e; same = false }

-- the first image, then the second
unfoldable pub compare_tests : List ℕ → List ℕ → List Test
compare_tests image other = test (not (in_order 0 image)) 11 ∷ test (not (in_order 0 other)) 11 ∷ []

-- P, S, B and K agree
unfoldable pub same_shape : Shape → Shape → Bool
same_shape s t =
    eqb s.boards t.boards
    && (eqb s.size t.size && (eqb s.blocks t.blocks && eqb s.context t.context))

-- two memories agree on the first bytes of an area, as many as size says
unfoldable pub same_area : Memory → Memory → Area → ℕ → Bool
same_area m n area size = every size (λ i. eqb (m area i) (n area i))

-- the recovery banks and the recovery contexts agree
unfoldable pub same_areas : Shape → Memory → Memory → Bool
same_areas s m n = same_area m n Recovery (cells s) && same_area m n Checkpoint (contexts s)

unfoldable pub compare : List ℕ → List ℕ → Compared
compare image other =
    let s = shape_of image in
    let t = shape_of other in
    let status = first (compare_tests image other) in
    record {
      status = status;
      same = eqb status 0 && (same_shape s t && same_areas s (view s image) (view t other));
    }

-- two images agree on n bytes from an offset on, for an inner contract
abbrev pub same_bytes : List ℕ → List ℕ → ℕ → ℕ → Bool
same_bytes image other at n = every n (λ i. eqb (byte image (at + i)) (byte other (at + i)))
