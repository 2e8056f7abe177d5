-- How an F within the limits ends, and its turn.
use Prim.Native.Nat.{ℕ}
use mathlib.Core.Path.{◌≡◌, sym, ◌∙◌, ap}
use mathlib.Core.Bool.{true, false}
use mathlib.Core.List.{[], ◌∷◌}
use mathlib.Core.Logic.{⊎_elim}
use lib.Dec.{eqb, ltb}
use lib.ListN.{length, length-replicate}
use borrow.Author.Tests.{eq-eqb}
use Rattle.boards.proofs.Basics.{decide}
use Rattle.volatile.specs.Volatile.{fresh}
use Rattle.protocol.specs.Image.{allowed, total}
use Rattle.protocol.specs.Calls.{PowerUp, Outcome, first, perform, refused, executed, format_tests, formatting, format}
use Rattle.protocol.specs.Ledger.{done, cut, refused as turned_away}
use Rattle.protocol.specs.Claim.{verdict}
use Rattle.protocol.specs.declared.Shape.{Shape}
use Rattle.protocol.proofs.Outcomes.{not_done, not_cut, done_status, cut_status}
use Rattle.text.specs.Letters.{power_up_letter}
use Rattle.text.specs.Turns.{Player, uncut, row, moved, ended, play}
use Rattle.history.specs.History.{zeros, begun, FormatsAnew}

module _ (s : Shape) (p : Player) where
  -- an F beyond the limits is refused
  pub within : (verdict (begun s p) ≡ turned_away → ⊥) → allowed s ≡ true
  unfolding verdict format format_tests first refused
  within h =
      ⊎_elim
      (λ (a : allowed s ≡ true). a)
      (λ (a : allowed s ≡ false). absurd (h (rw a)))
      (decide (allowed s))

  module _ (fine : allowed s ≡ true) where
    -- within the limits it makes its stores
    pub carried : begun s p ≡ executed p.k (formatting s) (zeros s) 0 fresh []
    unfolding format format_tests first
    carried = rw (fine, eq-eqb (length (zeros s)) (total s) (length-replicate (total s) 0))

    not_refused : verdict (begun s p) ≡ turned_away → ⊥
    unfolding verdict executed
    not_refused v =
        let short = ltb p.k (length (formatting s)) in
        let away = sym (ap verdict carried) ∙ v in
        ⊎_elim
        (λ (e : short ≡ true). not_cut away (rw e))
        (λ (e : short ≡ false). not_done away (rw e))
        (decide short)

pub formats_anew : FormatsAnew
unfolding play
formats_anew = record { turns = λ s p fine. rw fine; not_refused = not_refused }

-- the turn of a call that is done, and of one that is cut
module _ (letter : ℕ) (o : Outcome) where
  pub ended_done : verdict o ≡ done → ended letter o ≡ record { rows = row letter o ∷ []; next = moved o }
  unfolding ended
  ended_done v = let e : eqb o.reply.answer.status 9 ≡ false = ap (λ n. eqb n 9) (done_status o v) in rw e

  pub ended_cut : verdict o ≡ cut →
      let u = perform o.image o.reply.next PowerUp uncut in
      ended letter o ≡ record { rows = row letter o ∷ row power_up_letter u ∷ []; next = moved u }
  unfolding ended
  ended_cut v = let e : eqb o.reply.answer.status 9 ≡ true = ap (λ n. eqb n 9) (cut_status o v) in rw e
