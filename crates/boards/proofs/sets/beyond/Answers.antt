-- The bits from p on, by a shift.
use Rattle.std.proofs.Common.{sym, arith}
use Rattle.boards.proofs.Masks.{beyond_shift, beyond_none}
use Rattle.boards.proofs.sets.beyond.Goals as goal

pub returns-then-p-ge16 : goal.returns-then-p-ge16
returns-then-p-ge16 c = sym (beyond_none c.args.p c.args.g c.if-p-ge16.true (omega arith))

pub returns : goal.returns
returns c = beyond_shift c.args.p c.args.g c.if-p-ge16.false (omega arith)
