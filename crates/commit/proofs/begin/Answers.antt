-- `begin` meets its contract: the first tests, then that of the context.
use mathlib.Core.Path.{ap}
use native.Mathlib.Omega.{arith}
use Rattle.protocol.specs.Calls.{entry_tests}
use Rattle.entry.proofs.Laws.{refused_first, handed_on}
use Rattle.commit.proofs.Laws.{begin_long, begin_full}
use Rattle.commit.proofs.begin.Goals as goal

pub returns-in_err-s : goal.returns-in_err-s
returns-in_err-s c =
    handed_on _ _ _ c.from_residual.ensures.1 (refused_first (entry_tests _ _ _) _ _ c.in_err-s.ensures)

pub returns-then-context-s : goal.returns-then-context-s
returns-then-context-s c =
    let passed = c.in_ok-s.ensures in
    let same = ap (λ s. s.context) passed.known.shaped.shape in
    begin_long _ _ _ _ passed.none (λ e. omega (arith, c.if-context-s.true, e, same))

pub returns : goal.returns
returns c =
    let passed = c.in_ok-s.ensures in
    let same = ap (λ s. s.context) passed.known.shaped.shape in
    record {
      none = begin_full _ _ _ _ passed.none (omega (arith, c.if-context-s.false, same));
      known = record { entry = passed.known; full = omega (arith, c.if-context-s.false) };
    }
