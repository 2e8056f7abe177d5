-- One line more of a piece, played and printed, and the rest of the piece kept.
use Prim.Native.Nat.{ℕ, ◌+◌, ◌-◌, ◌≤◌}
use mathlib.Core.Path.{◌≡◌, sym, ◌∙◌, ap, subst}
use mathlib.Core.Bool.{true, false}
use mathlib.Core.List.{List, ◌++◌}
use mathlib.Core.Logic.{⊎_elim}
use native.Mathlib.Omega.{arith}
use lib.ListN.{length, take, drop, length-drop}
use lib.Seq.{take_all, length-take-le}
use Rattle.boards.proofs.Basics.{decide}
use Rattle.text.specs.Events.{Event, taken}
use Rattle.text.specs.Whole.{Goes}
use Rattle.text.proofs.Steps.{taken_long}
use Rattle.digits.proofs.Laws.{take_x}
use Rattle.pieces.specs.Pieces.{Unbroken, WholeLine, Output, kept_length, Keeps, Stopped, LongAlike}
use Rattle.pieces.specs.declared.Stop.{Stop}
use Rattle.pieces.specs.declared.Stop.TheVariants.{Unfinished, Full, Limit}
use Rattle.pieces.proofs.Lines.{unbroken_take}
use Rattle.pieces.proofs.Pieces.{line_more, kept_stands, kept_on}
use Rattle.reports.specs.Reports.{State, reporting, goes}
use Rattle.reports.specs.Tasks.{state_of, event_text, state_after, SteppedOn}
use Rattle.reports.specs.declared.Stepped.{Stepped}
use Rattle.reports.proofs.Laws.{goes_steps, ends_steps}
use Rattle.feeder.specs.Feeding.{Stops, Progresses, Feeds}
use Rattle.feeder.specs.declared.Progress.{Progress}

-- ---- one line more

-- the text of the line stands behind what was written
pub progressed : (w v : State) {piece : List ℕ} {read end written : ℕ} {r : Stepped} {out area x : List ℕ} →
    WholeLine piece read end → goes v ≡ true →
    SteppedOn v (taken (take (end - read) (drop read piece))) written out r area x →
    Output reporting w piece v read (take written out) →
    Output reporting w piece (state_of r.task area) (end + 1) (take r.written x)
progressed w v {piece} {read} {end} {written} {r} {out} {area} {x} cut going m so =
    let line = take (end - read) (drop read piece) in
    subst (λ (u : State). Output reporting w piece u (end + 1) (take r.written x)) (sym m.next)
    (subst (λ (t : List ℕ). Output reporting w piece (state_after v (taken line)) (end + 1) t)
    (sym (take_x m.written))
    (line_more reporting w v (take written out) cut (goes_steps v line going) so))

-- ---- what is kept

-- what a state makes of a line depends on what it is taken for
long_alike : LongAlike reporting
long_alike v l m h k =
    ⊎_elim
    (λ (e : goes v ≡ true).
    goes_steps v l e
    ∙ ap (λ (event : Event). Goes (event_text v event) (state_after v event)) (taken_long l h ∙ sym (taken_long m k))
    ∙ sym (goes_steps v m e))
    (λ (e : goes v ≡ false). ends_steps v l e ∙ sym (ends_steps v m e))
    (decide (goes v))

stopped : (stop : Stop) (v : State) (rest : List ℕ) (written : ℕ) (out : List ℕ) →
    Stops stop v rest written out → Stopped reporting stop v rest
stopped Unfinished v rest written out u = u.1
stopped Full v rest written out u = tt
stopped Limit v rest written out u = λ l. ends_steps v l u

-- where no line feed is left
unbroken_so : (stop : Stop) (v : State) (rest : List ℕ) (written : ℕ) (out : List ℕ) →
    Stops stop v rest written out → stop ≡ Unfinished → Unbroken rest
unbroken_so stop v rest written out u e = (subst (λ s. Stops s v rest written out) e u).1

-- why the lines stopped, seen from what is kept of the rest
still : (stop : Stop) (v : State) {rest : List ℕ} {held : ℕ} {input : List ℕ} (written : ℕ) (out : List ℕ) →
    Keeps stop rest held input → Stops stop v rest written out → Stops stop v (take held input) written out
unfolding kept_length
still Unfinished v {rest} {held} written out k u = (u.0, rw k.same (unbroken_take held rest u.1))
still Full v {rest} {held} written out k u =
    let all : take held rest ≡ rest = take_all held rest (omega (arith, k.size)) in
    rw (k.same, all) u
still Limit v written out k u = u

-- a piece whose lines were played, and what is kept of its rest at the input's start
pub fed : (w : State) (input : List ℕ) {end : ℕ} {p : Progress} {area out after : List ℕ} {held : ℕ} →
    length after ≡ length input → end ≤ length input → Progresses w (take end input) p area out →
    Keeps p.stop (drop p.read (take end input)) held after →
    Feeds w (take end input) (record { progress = p; held = held }) after area out
fed w input {end} {p} {area} {out} {after} {held} long l played k =
    let v = state_of p.task area in
    let rest = drop p.read (take end input) in
    let why = played.stops in
    record {
      output = λ more.
          played.output more
          ∙ ap (λ (s : List ℕ). take p.written out ++ s)
          (kept_stands k reporting v long_alike (stopped p.stop v rest p.written out why) more);
      stops = still p.stop v p.written out k why;
      kept =
          kept_on k (omega (arith, length-drop p.read (take end input), length-take-le end input l))
          (unbroken_so p.stop v rest p.written out why);
      read = played.read;
      keeps = k;
      written = played.written;
      fits = played.fits;
    }
