-- `admit` meets its contract: the tests of a read in their order.
use Prim.Native.Nat.{◌<◌}
use mathlib.Core.Path.{◌≡◌, subst}
use mathlib.Core.Bool.{◌||◌}
use mathlib.Core.List.{[], ◌∷◌}
use native.Mathlib.Omega.{arith}
use lib.Dec.{ltb}
use Rattle.std.proofs.lemmas.Bool.Decides.{nat_tests}
use Rattle.boards.specs.Boards.{has}
use Rattle.volatile.specs.Volatile.{engaged}
use Rattle.protocol.specs.Accesses.{board_of}
use Rattle.protocol.specs.Calls.{Read, refusal_at, refusals, entry_tests, read_tests, first, test}
use Rattle.entry.proofs.Laws.{same_board, small, handed_on, refused_first}
use Rattle.admission.proofs.Tests.{placed, read_own, read_at}
use Rattle.admission.proofs.admit.Goals as goal
use Rattle.admission.proofs.admit.Goals.{After-board_of-board, After-locate-p}

-- the board is one of sixteen
board_small : (c : After-board_of-board) → c.board_of-board.result < 16
board_small c =
    let k = c.in_ok-s.ensures.known in
    subst (λ i. i < 16) (same_board c.args.who k.shaped c.board_of-board.ensures) (small k)

-- once the place is known, the tags of both blocks decide, then the board
rest : (c : After-locate-p) →
    let s = c.in_ok-s.s in
    let p = c.locate-p.result in
    refusal_at c.args.image.now c.args.state (Read c.args.who c.args.cell c.args.n c.args.room)
    ≡ first
    (test (ltb s.boards p.first.tag || ltb s.boards p.last.tag) 11
    ∷ test (has (engaged c.args.state) (board_of s c.args.who)) 13
    ∷ [])
rest c =
    read_at _ _ _ _ c.in_ok-s.ensures (cc) (cc) (omega arith) c.locate-p.ensures

pub returns-in_err-s : goal.returns-in_err-s
unfolding refusals
returns-in_err-s c =
    handed_on _ _ _ c.from_residual.ensures.1 (refused_first (entry_tests _ _ _) _ _ c.in_err-s.ensures)

pub returns-then-bad_range : goal.returns-then-bad_range
unfolding read_tests first
returns-then-bad_range c =
    grind (arith, nat_tests, read_own c.args.who c.args.cell c.args.n c.args.room c.in_ok-s.ensures)

pub returns-then-over_port_limit : goal.returns-then-over_port_limit
unfolding read_tests first
returns-then-over_port_limit c =
    grind (arith, nat_tests, read_own c.args.who c.args.cell c.args.n c.args.room c.in_ok-s.ensures)

pub returns-then-n-room : goal.returns-then-n-room
unfolding read_tests first
returns-then-n-room c =
    grind (arith, nat_tests, read_own c.args.who c.args.cell c.args.n c.args.room c.in_ok-s.ensures)

pub overflow_cast-board : goal.overflow_cast-board
overflow_cast-board c = omega (arith, board_small (goal.at.overflow_cast-board c).After-board_of-board)

pub returns-then-p-s : goal.returns-then-p-s
unfolding first
returns-then-p-s c = grind (arith, nat_tests, rest (goal.at.returns-then-p-s c).After-locate-p)

pub has-requires : goal.has-requires
has-requires c = board_small (goal.at.has-requires c).After-board_of-board

pub returns-then-has : goal.returns-then-has
unfolding first
returns-then-has c = grind (arith, nat_tests, rest (goal.at.returns-then-has c).After-locate-p)

pub returns : goal.returns
unfolding first
returns c = grind (arith, nat_tests, rest (goal.at.returns c).After-locate-p, placed, c.in_ok-s.ensures)
