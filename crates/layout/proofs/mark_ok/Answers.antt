-- `layout::mark_ok` meets its contract: the first four bytes are those of the mark, one by one.
use Prim.Native.Nat.{ℕ, ◌≤◌}
use mathlib.Core.Path.{◌≡◌, refl, ◌∙◌}
use mathlib.Core.Bool.{Bool, true, false, ◌&&◌}
use mathlib.Core.List.{List, [], ◌∷◌}
use lib.Dec.{eqb}
use lib.ListN.{length}
use native.Mathlib.Omega.{arith}
use Rattle.std.specs.List.{starts_with}
use Rattle.boards.specs.Lists.{every}
use Rattle.boards.proofs.Basics.{eqb_comm}
use Rattle.protocol.specs.Image.{byte, mark}
use Rattle.layout.proofs.mark_ok.Goals as goal

four : (p q r s : Bool) → p && (q && (r && (s && true))) ≡ (((true && p) && q) && r) && s
four false q r s = refl
four true false r s = refl
four true true false s = refl
four true true true false = refl
four true true true true = refl

marked : (xs : List ℕ) → 4 ≤ length xs → starts_with eqb xs mark ≡ every 4 (λ i. eqb (byte xs i) (byte mark i))
unfolding mark every
marked [] l = absurd (omega arith)
marked (a ∷ []) l = absurd (omega arith)
marked (a ∷ b ∷ []) l = absurd (omega arith)
marked (a ∷ b ∷ c ∷ []) l = absurd (omega arith)
marked (a ∷ b ∷ c ∷ d ∷ rest) l =
    rw (eqb_comm a 0x52, eqb_comm b 0x53, eqb_comm c 0x4D, eqb_comm d 0x31)
    (four (eqb 0x52 a) (eqb 0x53 b) (eqb 0x4D c) (eqb 0x31 d))

pub returns : goal.returns
unfolding mark
returns c = c.starts_with.ensures.value ∙ marked c.args.image.now c.requires
