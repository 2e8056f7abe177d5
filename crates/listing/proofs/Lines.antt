-- The lines of an order: one more, and how long they are.
use Prim.Native.Nat.{ℕ, ◌+◌, ◌*◌, ◌<◌}
use mathlib.Core.Path.{◌≡◌, refl, sym, ◌∙◌, ap}
use mathlib.Core.List.{List, [], ◌∷◌, ◌++◌, append_assoc}
use lib.ListN.{length, get_or, take, length-append}
use lib.Seq.{take-suc}
use native.Mathlib.Omega.{arith}
use native.Mathlib.Numerals.{add-one}
use Rattle.text.specs.Fields.{line_feed}
use Rattle.text.specs.Rows.{group_text}
use Rattle.digits.proofs.Laws.{length_group}
use Rattle.listing.specs.Listing.{component_lines}

pub length_lines : (gs : List ℕ) → length (component_lines gs) ≡ 5 * length gs
unfolding component_lines
length_lines [] = refl
length_lines (g ∷ gs) =
    length-append (group_text g) (line_feed ∷ component_lines gs)
    ∙ omega (arith, length_group g, length_lines gs)

lines_append : (gs hs : List ℕ) → component_lines (gs ++ hs) ≡ component_lines gs ++ component_lines hs
unfolding component_lines
lines_append [] hs = refl
lines_append (g ∷ gs) hs =
    ap (λ l. group_text g ++ (line_feed ∷ l)) (lines_append gs hs)
    ∙ sym (append_assoc (group_text g) (line_feed ∷ component_lines gs) (component_lines hs))

-- the line of one component more
pub lines_more : (gs : List ℕ) (x : ℕ) → x < length gs
    → component_lines (take (x + 1) gs) ≡ component_lines (take x gs) ++ (group_text (get_or gs x 0) ++ line_feed ∷ [])
unfolding component_lines
lines_more gs x l = rw (add-one, take-suc gs x 0, lines_append)
