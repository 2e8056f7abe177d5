-- `bad_record` meets its contract, test by test.
use mathlib.Core.Path.{◌∙◌, sym}
use Rattle.volatile.specs.Volatile.{bad_record}
use Rattle.entry.proofs.Chains.{or_stop, or_pass}
use Rattle.entry.proofs.checks.bad_record.Goals as goal

pub returns-then-not-r : goal.returns-then-not-r
unfolding bad_record
returns-then-not-r c = or_stop _ c.if-not-r.true

pub returns-then-bad_rows : goal.returns-then-bad_rows
unfolding bad_record
returns-then-bad_rows c =
    or_pass c.if-not-r.false (or_stop _ (sym c.bad_rows.ensures ∙ c.if-bad_rows.true))

pub returns : goal.returns
unfolding bad_record
returns c =
    or_pass c.if-not-r.false
    (or_pass (sym c.bad_rows.ensures ∙ c.if-bad_rows.false) c.bad_commit.ensures)
