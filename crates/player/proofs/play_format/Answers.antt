-- `play_format` meets its contract: refused on the image as it is, or made of zeros.
use mathlib.Core.Path.{sym, ◌∙◌}
use native.Mathlib.Omega.{arith}
use lib.ListN.{take, replicate}
use borrow.Author.Rules.{rules}
use Rattle.layout.proofs.Laws.{bounded}
use Rattle.text.specs.Turns.{play}
use Rattle.turns.proofs.Turning.{formatted, formatted_lent}
use Rattle.player.proofs.play_format.Goals as goal

pub returns-then-not-allowed : goal.returns-then-not-allowed
unfolding play
returns-then-not-allowed c buffer =
    rw (sym c.allowed.ensures ∙ c.if-not-allowed.true)
    (formatted c.args.s (take c.args.p.length c.args.area.now) c.args.p.k c.args.p.state
    (formatted_lent c.args.s c.args.area.now c.args.p.length c.args.p.k c.args.p.state
    (omega (arith, c.requires.whole, c.requires.fits))
    c.format-reply.ensures)
    (c.end_turn.ensures buffer))

pub total-size-requires : goal.total-size-requires
total-size-requires c = sym c.allowed.ensures ∙ c.if-not-allowed.false

pub format_anew-reply-requires : goal.format_anew-reply-requires
format_anew-reply-requires c =
    let fine = sym c.allowed.ensures ∙ c.if-not-allowed.false in
    omega (arith, c.total-size.ensures, (bounded fine).most_total, c.requires.whole)

pub end_turn-requires-2 : goal.end_turn-requires-2
end_turn-requires-2 c =
    let fine = sym c.allowed.ensures ∙ c.if-not-allowed.false in
    (omega (arith, c.total-size.ensures, (bounded fine).most_total), search rules, omega arith)

pub returns : goal.returns
unfolding play
returns c buffer =
    let fine = sym c.allowed.ensures ∙ c.if-not-allowed.false in
    rw (fine, sym c.total-size.ensures)
    (formatted c.args.s (replicate c.total-size.result 0) c.args.p.k c.args.p.state c.format_anew-reply.ensures
    (c.end_turn-2.ensures buffer))
