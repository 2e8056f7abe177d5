-- From a finished format on, the player agrees at the system after the calls that the lines make.
use Prim.Native.Nat.{ℕ}
use mathlib.Core.Path.{◌≡◌, refl, sym, ◌∙◌, ap}
use mathlib.Core.Bool.{true, false}
use mathlib.Core.List.{List, [], ◌∷◌, ◌++◌}
use mathlib.Core.Logic.{⊎_elim}
use lib.Dec.{eqb}
use Rattle.boards.proofs.Basics.{decide}
use Rattle.protocol.specs.Calls.{first, perform, refused, format_tests, format}
use Rattle.protocol.specs.Claim.{System, Call, answer, next, formatted, later}
use Rattle.protocol.specs.declared.Shape.{Shape}
use Rattle.protocol.proofs.Outcomes.{not_done}
use Rattle.protocol.proofs.Demand3.{demand_3}
use Rattle.text.specs.Events.{Event, Format, Make, Allow, Refused, taken}
use Rattle.text.specs.Letters.{format_letter}
use Rattle.text.specs.Turns.{Player, Turn, uncut, ended, play}
use Rattle.text.specs.Whole.{Line, Run, next_run, start}
use Rattle.history.specs.History.{run_after, player_after, begins, NoneBegins, zeros, begun}
use Rattle.history.specs.History.{system_begun, allowance, allowance_after, calls_of, calls_made, Agrees}
use Rattle.history.specs.History.{TextFaithful}
use Rattle.history.proofs.Runs.{after_line, none_begin, prints}
use Rattle.history.proofs.Formats.{within, formats_anew, ended_done}

abbrev player_at : System → ℕ → Player
player_at w k = record { image = w.image; state = w.state; k = k }

later_append : (s : Shape) (w : System) (cs ds : List Call) → later s w (cs ++ ds) ≡ later s (later s w cs) ds
unfolding later
later_append s w [] ds = refl
later_append s w (c ∷ cs) ds = later_append s (next s w c.request c.k) cs ds

-- one line: the player goes where the line's calls take the system
step : (s : Shape) (w : System) (k : ℕ) (event : Event) → begins event ≡ false →
    (play (player_at w k) event).next ≡ player_at (later s w (calls_of w k event)) (allowance event)
unfolding play calls_of allowance later begins format format_tests first refused ended next answer
step s w k (Format t) h = rw h
step s w k (Make request) h =
    let nine = eqb (perform w.image w.state request k).reply.answer.status 9 in
    ⊎_elim (λ (e : nine ≡ true). rw e) (λ (e : nine ≡ false). rw e) (decide nine)
step s w k (Allow j) h = refl
step s w k (Refused n) h = refl

-- any lines
follow : (s : Shape) (w : System) (k : ℕ) (r : Run) (ls : List Line) → r.player ≡ player_at w k → NoneBegins ls →
    (run_after r ls).player ≡ player_at (later s w (calls_made s w k ls)) (allowance_after k ls)
unfolding run_after next_run calls_made later allowance_after
follow s w k r [] at h = at
follow s w k r (l ∷ ls) at h =
    let none = none_begin l ls h in
    let calls = calls_of w k (taken l) in
    let j = allowance (taken l) in
    let here = ap (λ (p : Player). (play p (taken l)).next) at ∙ step s w k (taken l) none.0 in
    follow s (later s w calls) j (next_run r l) ls here none.1
    ∙ ap (λ v. player_at v (allowance_after j ls)) (sym (later_append s w calls _))

agrees : {w : System} {k : ℕ} {p : Player} → p ≡ player_at w k → Agrees w k p
unfolding play answer
agrees {w} {k} {p} e =
    let image : p.image ≡ w.image = ap (λ (q : Player). q.image) e in
    let state : p.state ≡ w.state = ap (λ (q : Player). q.state) e in
    let left : p.k ≡ k = ap (λ (q : Player). q.k) e in
    record { image = image; state = state; allowance_left = left; turns = λ request. rw (image, state, left) }

pub text_faithful : TextFaithful
unfolding formatted next_run
text_faithful text before f ls rest s h =
    let p = player_after before in
    let w = system_begun s p in
    let fine = within s p (λ e. not_done e h.outcome) in
    let first : (play p (taken f)).next ≡ player_at w uncut =
    ap (λ (e : Event). (play p e).next) h.shape
    ∙ ap (λ (t : Turn). t.next) (formats_anew.turns s p fine ∙ ended_done format_letter (begun s p) h.outcome)
    in
    let last = follow s w uncut (next_run (run_after start before) f) ls first h.none_begins in (
      prints h.plays,
      agrees (ap (λ (r : Run). r.player) (after_line before f ls) ∙ last),
      demand_3 s (zeros s) p.state p.k h.outcome (calls_made s w uncut ls),
    )
