-- The run after some lines: it prints what follows them, and its allowance is that of the last line.
use Prim.Native.Nat.{ℕ, ◌+◌, ◌≤◌}
use mathlib.Core.Path.{◌≡◌, refl, sym, ◌∙◌, ap}
use mathlib.Core.Bool.{true, false}
use mathlib.Core.List.{List, [], ◌∷◌, ◌++◌, append_assoc}
use mathlib.Core.Logic.{⊎_elim}
use native.Mathlib.Omega.{arith}
use lib.Dec.{eqb}
use lib.ListN.{length}
use Rattle.boards.specs.Lists.{any_of}
use Rattle.boards.proofs.Basics.{decide, or_false}
use Rattle.protocol.specs.Calls.{Outcome}
use Rattle.text.specs.Events.{Event, Format, Make, Allow, Refused, taken}
use Rattle.text.specs.Turns.{Player, uncut, ended, play}
use Rattle.text.specs.Whole.{Line, output_by, Run, start, most_lines, line_text, next_run, rsmrun, output}
use Rattle.text.proofs.Steps.{output_goes, run_goes}
use Rattle.history.specs.History.{run_after, printed, player_after, begins, NoneBegins, allowance}
use Rattle.history.specs.History.{Plays, Prints, AllowanceLeft}

-- ---- lines

run_append : (r : Run) (ls ms : List Line) → run_after r (ls ++ ms) ≡ run_after (run_after r ls) ms
unfolding run_after
run_append r [] ms = refl
run_append r (l ∷ ls) ms = run_append (next_run r l) ls ms

-- lines before and after a line
pub after_line : (before : List Line) (l : Line) (ls : List Line) →
    run_after start (before ++ l ∷ ls) ≡ run_after (next_run (run_after start before) l) ls
unfolding run_after
after_line before l ls = run_append start before (l ∷ ls)

pub none_begin : (l : Line) (ls : List Line) → NoneBegins (l ∷ ls) → (begins (taken l) ≡ false) × NoneBegins ls
unfolding any_of
none_begin l ls h = or_false (begins (taken l)) (any_of (λ m. begins (taken m)) ls) h

-- ---- output

all_played : (r : Run) (ls rest : List Line) → r.played + length ls ≤ most_lines →
    output_by rsmrun r (ls ++ rest) ≡ printed r ls ++ output_by rsmrun (run_after r ls) rest
unfolding run_after next_run printed
all_played r [] rest h = refl
all_played r (l ∷ ls) rest h =
    let r' = next_run r l in
    output_goes rsmrun l (ls ++ rest) (run_goes r l (omega arith))
    ∙ ap (λ (t : List ℕ). line_text r l ++ t) (all_played r' ls rest (omega arith))
    ∙ sym (append_assoc (line_text r l) (printed r' ls) (output_by rsmrun (run_after r' ls) rest))

pub prints : {text : List ℕ} {ls rest : List Line} → Plays text ls rest → Prints text ls rest
unfolding output start
prints {ls = ls} {rest = rest} h = ap (output_by rsmrun start) h.whole ∙ all_played start ls rest (omega arith)

-- ---- allowances

ended_spent : (letter : ℕ) (o : Outcome) → (ended letter o).next.k ≡ uncut
unfolding ended
ended_spent letter o =
    let nine = eqb o.reply.answer.status 9 in
    ⊎_elim (λ (e : nine ≡ true). rw e) (λ (e : nine ≡ false). rw e) (decide nine)

spent : (p : Player) (event : Event) → (play p event).next.k ≡ allowance event
unfolding play allowance
spent p (Format s) = ended_spent _ _
spent p (Make request) = ended_spent _ _
spent p (Allow k) = refl
spent p (Refused n) = refl

pub allowance_left : AllowanceLeft
unfolding run_after next_run
allowance_left ls l = ap (λ (r : Run). r.player.k) (after_line ls l []) ∙ spent (player_after ls) (taken l)
