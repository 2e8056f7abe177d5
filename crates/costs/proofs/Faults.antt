-- The forecast of a fault is right.
use Prim.Native.Nat.{ℕ, ◌≤◌, ◌<◌}
use mathlib.Core.Path.{◌≡◌, refl, sym, ◌∙◌, ap}
use mathlib.Core.Bool.{true, false}
use mathlib.Core.List.{List}
use mathlib.Core.Logic.{⊎_elim, ◌≢◌}
use lib.Dec.{eqb}
use lib.ListN.{length}
use native.Mathlib.Omega.{arith}
use borrow.Author.Tests.{eqb-true, eqb-false}
use Rattle.boards.specs.Boards.{fault_group, tagged_in}
use Rattle.boards.proofs.Basics.{decide}
use Rattle.volatile.specs.Volatile.{depends}
use Rattle.volatile.specs.declared.Record.{Record}
use Rattle.protocol.specs.Image.{Memory, Recovery, Current, shape_of, view}
use Rattle.protocol.specs.Calls.{Fault, first, refusals, blocks_copied, plan, refused}
use Rattle.protocol.specs.declared.Shape.{Shape}
use Rattle.protocol.proofs.Copies.{blocks_inside, current}
use Rattle.protocol.proofs.Counts.{length_blocks}
use Rattle.protocol.proofs.Outcomes.{turned_down}
use Rattle.protocol.proofs.Plans.{inside_indecisive}
use Rattle.costs.specs.Forecasts.{blocks_cost, fault_forecast}
use Rattle.costs.specs.Claims.{answer_of, FaultForetold, FaultForecastRight}
use Rattle.costs.proofs.Answers.{answered_refused, answered_taken, done_answer, cut_nine}
use Rattle.costs.proofs.Counted.{blocks_counted}

module _ (image : List ℕ) (r : Record) (i : ℕ) where
  abbrev s : Shape
  s = shape_of image

  abbrev m : Memory
  m = view s image

  abbrev g : ℕ
  g = fault_group (depends r) i

  restored : length (blocks_copied s m Recovery Current (tagged_in g)) ≡ blocks_cost s m g
  restored = length_blocks s m Recovery Current (tagged_in g) ∙ sym (blocks_counted s g m)

  abbrev number : ℕ
  number = first (refusals image s m r (Fault i))

  module _ (z : number ≡ 0) where
    done : (k : ℕ) → blocks_cost s m g ≤ k
        → answer_of image r (Fault i) k ≡ record { status = 0; decided = false; group = g; stores = blocks_cost s m g }
    unfolding plan
    done k l =
        done_answer image refl r (Fault i) z k (rw restored l)
        ∙ rw (inside_indecisive (blocks_inside s m Recovery Current (tagged_in g) current), restored)

    cut : (k : ℕ) → k < blocks_cost s m g → (answer_of image r (Fault i) k).status ≡ 9
    unfolding plan
    cut k l = cut_nine image refl r (Fault i) z k (rw restored l)

    taken : FaultForetold image r i (fault_forecast image r i)
    unfolding fault_forecast refusals
    taken = rw (answered_taken {n = number} _ _ z) (record { enough = done; short = cut })

  refused_alike : number ≢ 0 → FaultForetold image r i (fault_forecast image r i)
  unfolding fault_forecast refusals refused
  refused_alike some =
      rw (answered_refused {n = number} g (blocks_cost s m g) some)
      (record {
        enough = λ k l. ap (λ o. o.reply.answer) (turned_down image refl r (Fault i) some k);
        short = λ k l. absurd (omega arith);
      })

pub fault_forecast_right : FaultForecastRight
fault_forecast_right image r i =
    ⊎_elim
    (λ (e : eqb (number image r i) 0 ≡ true). taken image r i (eqb-true _ 0 e))
    (λ (e : eqb (number image r i) 0 ≡ false). refused_alike image r i (eqb-false _ 0 e))
    (decide (eqb (number image r i) 0))
