-- `admit_write` meets its contract: refused as a read, or for its tag, or taken as a read.
use mathlib.Core.Path.{◌∙◌}
use native.Mathlib.Omega.{arith}
use Rattle.std.proofs.lemmas.Bool.Decides.{nat_tests}
use Rattle.entry.proofs.Laws.{handed_on, refused_first}
use Rattle.admission.proofs.Tests.{as_read, write_tests_as, write_last}
use Rattle.admission.proofs.admit_write.Goals as goal

pub returns-in_err-p : goal.returns-in_err-p
returns-in_err-p c =
    handed_on _ _ _ c.from_residual.ensures.1
    (write_tests_as _ _ _ _ c.args.bytes.now ∙ refused_first (as_read _ _ _ _ c.args.bytes.now) _ _ c.in_err-p.ensures)

pub returns-then-tagged_in : goal.returns-then-tagged_in
returns-then-tagged_in c =
    let last = write_last _ _ _ _ c.args.bytes.now c.in_ok-p.ensures in
    grind (arith, nat_tests)

pub returns : goal.returns
returns c =
    let last = write_last _ _ _ _ c.args.bytes.now c.in_ok-p.ensures in
    record { none = grind (arith, nat_tests); known = c.in_ok-p.ensures.known }
