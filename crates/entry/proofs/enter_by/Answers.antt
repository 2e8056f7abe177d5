-- `enter_by` meets its contract: the three tests in their order.
use Prim.Native.Nat.{◌≤◌, ◌<◌}
use mathlib.Core.Path.{◌≡◌, sym, ◌∙◌, ap, subst}
use mathlib.Core.Bool.{false}
use native.Mathlib.Omega.{arith}
use Rattle.protocol.specs.Image.{shape_of}
use Rattle.protocol.specs.Accesses.{board_of}
use Rattle.protocol.specs.Replies.{refusal_number}
use Rattle.volatile.specs.Volatile.{bad_record}
use Rattle.layout.proofs.Laws.{bounded}
use Rattle.entry.proofs.Laws.{entry_eleven, entry_twelve, entry_one, entry_none, same_board, handed_on}
use Rattle.entry.proofs.enter_by.Goals as goal
use Rattle.entry.proofs.enter_by.Goals.{After-board_of}

-- what is known once the header and the record are passed: the board is that of the image's shape
same : (c : After-board_of) → board_of (shape_of c.args.image.now) c.args.who ≡ c.board_of.result
same c = same_board c.args.who c.in_ok-s.ensures.shaped c.board_of.ensures

pub returns-in_err-s : goal.returns-in_err-s
returns-in_err-s c =
    handed_on _ _ _ c.from_residual.ensures.1
    (entry_eleven _ _ _ c.in_err-s.ensures.0 ∙ sym (ap refusal_number c.in_err-s.ensures.1))

pub overflow_cast-s : goal.overflow_cast-s
overflow_cast-s c = omega (arith, (bounded c.in_ok-s.ensures.shaped.allowed_shape).limits.most_boards)

pub returns-then-bad_record : goal.returns-then-bad_record
returns-then-bad_record c =
    let h = c.in_ok-s.ensures in
    entry_twelve _ _ _ h.ordered h.shaped.shape (sym c.bad_record.ensures ∙ c.if-bad_record.true)

pub board_of-requires : goal.board_of-requires
board_of-requires c = c.in_ok-s.ensures.shaped.allowed_shape

pub returns-then-board_of-s : goal.returns-then-board_of-s
returns-then-board_of-s c =
    let h = c.in_ok-s.ensures in
    entry_one _ _ _ h.ordered h.shaped.shape (sym c.bad_record.ensures ∙ c.if-bad_record.false)
    (subst (λ i. c.in_ok-s.s.boards ≤ i) (sym (same (goal.at.returns-then-board_of-s c).After-board_of))
    c.if-board_of-s.true)

pub returns : goal.returns
returns c =
    let h = c.in_ok-s.ensures in
    let recorded : bad_record c.in_ok-s.s.boards c.args.state ≡ false =
    sym c.bad_record.ensures ∙ c.if-bad_record.false in
    let board = subst (λ i. i < c.in_ok-s.s.boards) (sym (same (goal.at.returns c).After-board_of))
    c.if-board_of-s.false in
    record {
      none = entry_none _ _ _ h.ordered h.shaped.shape recorded board;
      known = record { shaped = h.shaped; recorded = recorded; board = board };
    }
