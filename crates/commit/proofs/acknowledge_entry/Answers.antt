-- `acknowledge_entry` meets its contract: the beginning, then 15 and 16.
use mathlib.Core.Path.{◌≡◌, sym, ◌∙◌, ap}
use mathlib.Core.List.{[], ◌∷◌}
use native.Mathlib.Omega.{arith}
use Rattle.boards.specs.Boards.{has}
use Rattle.volatile.specs.Volatile.{engaged}
use Rattle.protocol.specs.Calls.{Acknowledge, first, test, refusals, refusal_at, entry_tests, acknowledge_tests}
use Rattle.protocol.proofs.Refusals.{first_held, first_passed}
use Rattle.entry.proofs.Laws.{small, refused_first, handed_on}
use Rattle.commit.specs.Begin.{begin_tests}
use Rattle.commit.proofs.Laws.{acknowledge_other, acknowledge_last}
use Rattle.commit.proofs.acknowledge_entry.Goals as goal
use Rattle.commit.proofs.acknowledge_entry.Goals.{After-has, After-has-2}

-- whether the board is a member, as the code found it
member : (c : After-has) → has (engaged c.args.state) c.args.board ≡ c.has.result
member c = sym (c.has.ensures ∙ ap (λ g. has g c.args.board) c.engaged-engaged.ensures)

-- all tests but 16 are passed: what the code found decides
last : (c : After-has-2) → refusal_at c.args.image.now c.args.state (Acknowledge c.args.board c.args.context.now)
    ≡ first (test c.has-2.result 16 ∷ [])
last c =
    let twice = c.has-2.ensures ∙ ap (λ o. has o.acknowledged c.args.board) c.commit_of-open.ensures in
    acknowledge_last _ _ _ _ c.in_ok-s.ensures.none
    (sym (c.has.ensures ∙ ap (λ g. has g c.args.board) c.engaged-engaged.ensures) ∙ c.if-not-has.false)
    ∙ ap (λ b. first (test b 16 ∷ [])) (sym twice)

pub returns-in_err-s : goal.returns-in_err-s
unfolding refusals entry_tests acknowledge_tests
returns-in_err-s c =
    handed_on _ _ _ c.from_residual.ensures.1 (refused_first (begin_tests _ _ _ _) _ _ c.in_err-s.ensures)

pub overflow_cast-i : goal.overflow_cast-i
overflow_cast-i c = omega (arith, small c.in_ok-s.ensures.known.entry)

pub has-requires : goal.has-requires
has-requires c = small c.in_ok-s.ensures.known.entry

pub returns-then-not-has : goal.returns-then-not-has
returns-then-not-has c =
    acknowledge_other _ _ _ _ c.in_ok-s.ensures.none
    (member (goal.at.returns-then-not-has c).After-has ∙ c.if-not-has.true)

pub has-requires-2 : goal.has-requires-2
has-requires-2 c = small c.in_ok-s.ensures.known.entry

pub returns-then-has : goal.returns-then-has
returns-then-has c = last (goal.at.returns-then-has c).After-has-2 ∙ first_held 16 [] c.if-has.true

pub returns : goal.returns
unfolding first
returns c =
    record {
      none = last (goal.at.returns c).After-has-2 ∙ first_passed 16 [] c.if-has.false;
      known = c.in_ok-s.ensures.known;
    }
