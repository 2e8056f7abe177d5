-- `take_bytes` meets its contract.
use mathlib.Core.Path.{sym, ◌∙◌}
use native.Mathlib.Omega.{arith}
use Rattle.text.specs.Events.{meant, counted}
use Rattle.events.proofs.Laws.{alone, has_bytes, bytes_none, bytes_missing, bytes_made}
use Rattle.events.proofs.Laws.{told, other, bytes, count_fits}
use borrow.Author.Rules.{rules}
use Rattle.events.proofs.take_bytes.Goals as goal

pub overflow_sub-listing : goal.overflow_sub-listing
overflow_sub-listing c =
    omega (arith, has_bytes _ c.requires.0 c.requires.1)

pub read_numbers-requires : goal.read_numbers-requires
read_numbers-requires c =
    let letter = alone c.args.line.now c.requires.0 in
    (letter.0, omega arith)

pub returns-in_default : goal.returns-in_default
unfolding meant counted
returns-in_default c =
    (sym (bytes_none _ c.requires.0 c.requires.1 c.in_default.is c.read_numbers.ensures), omega arith)

pub returns-then-end-line : goal.returns-then-end-line
unfolding meant counted
returns-then-end-line c =
    let other = bytes_missing _ c.requires.0 c.requires.1 c.in-Ok.is c.read_numbers.ensures c.if-end-line.true in
    (sym other, omega arith)

pub returns-in_default-read_bytes : goal.returns-in_default-read_bytes
unfolding meant counted
returns-in_default-read_bytes c =
    let made = bytes_made _ c.requires.0 c.requires.1 c.in-Ok.is c.read_numbers.ensures c.if-end-line.false in
    let malformed = told c.in_default-read_bytes.is c.read_bytes.ensures in
    (sym (made ∙ other malformed _), omega arith)

pub returns : goal.returns
returns c =
    let made = bytes_made _ c.requires.0 c.requires.1 c.in-Ok.is c.read_numbers.ensures c.if-end-line.false in
    let counts = told c.in-Some.is c.read_bytes.ensures in
    (c.with_count.ensures.0 _ ∙ sym (made ∙ bytes counts _), omega (arith, count_fits counts (search rules)))
