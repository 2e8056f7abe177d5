-- Storing functions one after the other: each reads the image as the one before left it.
use Prim.Native.Nat.{ℕ}
use mathlib.Core.Path.{◌≡◌, sym, ◌∙◌, ap, subst}
use mathlib.Core.Bool.{false}
use mathlib.Core.List.{List, [], ◌++◌, map, map-append}
use lib.ListN.{length}
use Rattle.protocol.specs.Image.{Memory, Put, raw, after, view, total}
use Rattle.protocol.specs.declared.Shape.{Shape}
use Rattle.boards.proofs.Basics.{All}
use Rattle.protocol.proofs.Bridge.{Valid, view_made_fun}
use Rattle.store.specs.Puts.{Puts}
use Rattle.store.specs.Budget.{Makes, WellBudget}
use Rattle.store.specs.declared.Budget.{Budget}
use Rattle.store.proofs.Laws.{makes_none, makes_then, makes_all, makes_instead, makes_length, makes_well}

-- the puts of two functions in a row
pub then_puts : {s : Shape} (ps qs : List Put) {b r r' : Budget} {x y z : List ℕ}
    → Puts s ps b x r y → Puts s qs r y r' z → Puts s (ps ++ qs) b x r' z
then_puts {s} ps qs {b} {r' = r'} {x = x} {z = z} m n =
    record {
      makes = subst (λ ss. Makes ss b x r' z) (sym (map-append (raw s) ps qs)) (makes_then m.makes n.makes);
    }

-- Q is what the next function stores, read off the image that it finds. It is Q of the memory after ps, unless the
-- budget is cut, and then nothing more is stored.
pub then_reads : {s : Shape} (ps : List Put) (Q : Memory → List Put) {b r r' : Budget} {x y z : List ℕ}
    → length x ≡ total s → All (Valid s) ps → WellBudget b
    → Puts s ps b x r y → Puts s (Q (view s y)) r y r' z → Puts s (ps ++ Q (after ps (view s x))) b x r' z
then_reads {s} ps Q {b} {r} {r'} {x} {y} {z} long valid well m n =
    let seen : r.cut ≡ false → view s y ≡ after ps (view s x) =
    λ e. ap (view s) (makes_all m.makes e) ∙ view_made_fun s ps x long valid
    in
    then_puts ps (Q (after ps (view s x))) m
    (record {
      makes =
          makes_instead n.makes (map (raw s) (Q (after ps (view s x)))) (makes_well m.makes well)
          (λ e. ap (λ w. map (raw s) (Q w)) (seen e));
    })

-- what the next function may ask of the image and the budget that one leaves
pub puts_length : {s : Shape} {ps : List Put} {k r : Budget} {x y : List ℕ} → Puts s ps k x r y → length y ≡ length x
puts_length p = makes_length p.makes

pub puts_well : {s : Shape} {ps : List Put} {k r : Budget} {x y : List ℕ} → Puts s ps k x r y → WellBudget k
    → WellBudget r
puts_well p w = makes_well p.makes w

pub puts_none : (s : Shape) (k : Budget) (x : List ℕ) → Puts s [] k x k x
puts_none s k x = record { makes = makes_none k x }
