-- `meaning_of` meets its contract, case by case.
use mathlib.Core.Path.{◌≡◌, refl}
use mathlib.Core.Bool.{true, false}
use borrow.Author.Tests.{eq-eqb, ne_eqb}
use denote.Enum.Bare.{sameb}
use Rattle.std.specs.IoError.{error_kind}
use Rattle.std.specs.contracts.io.ErrorKind.{the_type}
use Rattle.std.specs.declared.io.ErrorKind.{ErrorKind}
use Rattle.std.specs.declared.io.ErrorKind.TheVariants.{Interrupted}
use Rattle.pieces.specs.Answers.{interrupted, meaning}
use Rattle.pieces.proofs.meaning_of.Goals as goal

-- what the comparison with `Interrupted` answers
compared : (k : ErrorKind) → interrupted k ≡ sameb the_type k Interrupted
compared Interrupted = refl
compared _ = refl

pub returns-in-Ok : goal.returns-in-Ok
unfolding meaning
returns-in-Ok c = rw (c.in-Ok.is, eq-eqb _ _ c.if-end-held.true)

pub returns-in-Ok-2 : goal.returns-in-Ok-2
unfolding meaning
returns-in-Ok-2 c = rw (c.in-Ok-2.is, ne_eqb c.in-Ok-2.end c.args.held (λ e. c.if-end-held.false (cc)))

pub returns-in-Err : goal.returns-in-Err
unfolding meaning
returns-in-Err c =
    let yes : interrupted (error_kind c.in-Err.e) ≡ true = cc (compared c.kind.result) in
    rw (c.in-Err.is, yes)

pub returns-in-Err-2 : goal.returns-in-Err-2
unfolding meaning
returns-in-Err-2 c =
    let no : interrupted (error_kind c.in-Err-2.e) ≡ false = cc (compared c.kind.result) in
    rw (c.in-Err-2.is, no)
