-- A write that is cut undoes every pending note, as a power-up does: what is kept of each cell stays, and a power-up
-- that is done leaves that.
use Prim.Native.Nat.{ℕ, ◌<◌}
use mathlib.Core.Path.{◌≡◌, refl, sym, ◌∙◌, ap}
use mathlib.Core.Bool.{true}
use mathlib.Core.List.{List, [], ◌∷◌}
use Rattle.protocol.specs.Image.{Current, Recovery, cells, size, view}
use Rattle.protocol.specs.Calls.{Write, PowerUp}
use Rattle.protocol.specs.Ledger.{Verdict, refused, done, cut, undone, Ledger, cleared, all_undone}
use Rattle.protocol.specs.Ledger.{commit_effect, effect, update}
use Rattle.protocol.specs.Claim.{verdict, System, waits, answer, next, formatted, later}
use Rattle.protocol.specs.declared.Shape.{Shape}
use Rattle.protocol.specs.declared.Requester.{Requester}
use Rattle.boards.proofs.Basics.{clash}
use Rattle.protocol.proofs.Outcomes.{not_cut}
use Rattle.protocol.proofs.Bridge.{view_at}
use Rattle.protocol.proofs.Marks.{marks, live, marks_settled}
use Rattle.protocol.proofs.Agreement.{kept_cell, undone_cell, live_undone}
use Rattle.protocol.proofs.Invariant.{Invariant, up, down, step}
use Rattle.protocol.proofs.Demand3.{invariant_at, reached, write_agrees}
use Rattle.torn.specs.Torn.{power_ups, Recovers, TornWriteUndone}

-- ---- what is kept of a cell

module _ (s : Shape) (a : ℕ) where
  -- stays when a power-up is made, whatever becomes of it
  powered_kept : (k : ℕ) (v : Verdict) (l : Ledger) → kept_cell (update s PowerUp k v l) a ≡ kept_cell l a
  unfolding update effect commit_effect
  powered_kept k refused l = refl
  powered_kept k done l = undone_cell l a
  powered_kept k cut l = undone_cell l a

  powered_all_kept : (w : System) (ks : List ℕ)
      → kept_cell (later s w (power_ups ks)).ledger a ≡ kept_cell w.ledger a
  unfolding later next power_ups
  powered_all_kept w [] = refl
  powered_all_kept w (k ∷ ks) =
      powered_all_kept (next s w PowerUp k) ks ∙ powered_kept k (verdict (answer w PowerUp k)) w.ledger

  -- and when a write is cut
  torn_kept : (w : System) (who : Requester) (c : ℕ) (bytes : List ℕ) (k : ℕ)
      → verdict (answer w (Write who c bytes) k) ≡ cut
      → kept_cell (next s w (Write who c bytes) k).ledger a ≡ kept_cell w.ledger a
  unfolding next update commit_effect
  torn_kept w who c bytes k v = rw v (undone_cell w.ledger a)

-- ---- a power-up that is done leaves in both banks what is kept

module _ (s : Shape) (w : System) (k : ℕ) (v : verdict (answer w PowerUp k) ≡ done) where
  abbrev image : List ℕ
  image = (answer w PowerUp k).image

  after : (next s w PowerUp k).ledger ≡ all_undone w.ledger
  unfolding next update effect
  after = ap (λ x. update s PowerUp k x w.ledger) v

  both_banks : Invariant s (next s w PowerUp k) → (a : ℕ) → a < cells s
      → (view s image Current a ≡ kept_cell w.ledger a) × (view s image Recovery a ≡ kept_cell w.ledger a)
  unfolding next waits all_undone cleared
  both_banks (up h q on) a l = (
    on.current a l ∙ ap (λ g. live (marks g.notes a)) after
        ∙ ap live (marks_settled (λ i. true) undone w.ledger.notes a)
        ∙ live_undone (marks w.ledger.notes a),
    on.recovery a l ∙ ap (λ g. kept_cell g a) after ∙ undone_cell w.ledger a,
  )
  both_banks (down h q o c) a l = clash q (ap (λ x. waits PowerUp x w.waiting) v)

-- power-ups from a point on at which each cell is kept as an image has it in its recovery bank
recovers : {s : Shape} (before : List ℕ) (w : System) → Invariant s w
    → ((a : ℕ) → a < cells s → view s before Recovery a ≡ kept_cell w.ledger a) → Recovers s before w
unfolding size
recovers {s} before w inv same ks k v a l =
    let last = later s w (power_ups ks) in
    let image = (answer last PowerUp k).image in
    let banks = both_banks s last k v (step last (reached w (power_ups ks) inv) PowerUp k).1 a l in
    let kept = powered_all_kept s a w ks ∙ sym (same a l) ∙ view_at s before Recovery a l in (
      sym (view_at s image Current a l) ∙ banks.0 ∙ kept,
      sym (view_at s image Recovery a l) ∙ banks.1 ∙ kept,
    )

pub torn_write_undone : TornWriteUndone
torn_write_undone s image r m v calls who a bytes k torn =
    let w = later s (formatted s image r m) calls in
    let write = Write who a bytes in
    let inv = invariant_at s image r m v calls in
    let on = (write_agrees w who a bytes k (λ e. not_cut e torn) inv).0 in (
      recovers w.image (next s w write k) (step w inv write k).1
          (λ c l. on.recovery c l ∙ sym (torn_kept s c w who a bytes k torn)),
      recovers w.image w inv on.recovery,
    )
