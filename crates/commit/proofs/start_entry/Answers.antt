-- `start_entry` meets its contract: the beginning, then 14.
use native.Mathlib.Omega.{arith}
use Rattle.protocol.specs.Calls.{refusals, entry_tests, start_tests}
use Rattle.entry.proofs.Laws.{refused_first, handed_on}
use Rattle.commit.specs.Begin.{begin_tests}
use Rattle.commit.proofs.Laws.{start_open, start_passes}
use Rattle.commit.proofs.start_entry.Goals as goal

pub returns-in_err-s : goal.returns-in_err-s
unfolding refusals entry_tests start_tests
returns-in_err-s c =
    handed_on _ _ _ c.from_residual.ensures.1 (refused_first (begin_tests _ _ _ _) _ _ c.in_err-s.ensures)

pub returns-then-engaged-ne0 : goal.returns-then-engaged-ne0
returns-then-engaged-ne0 c =
    start_open _ _ _ _ c.in_ok-s.ensures.none (λ z. omega (arith, c.if-engaged-ne0.true, c.engaged.ensures, z))

pub returns : goal.returns
returns c =
    let begun = c.in_ok-s.ensures in
    record {
      none = start_passes _ _ _ _ begun.none (omega (arith, c.engaged.ensures, c.if-engaged-ne0.false));
      known = begun.known;
    }
