-- `format` meets its contract: refused by the shape, refused by the length, or ended by what is left of the budget.
use mathlib.Core.Path.{sym, ◌∙◌}
use Rattle.store.proofs.Laws.{makes_begun}
use Rattle.store.proofs.Ends.{left_most}
use Rattle.format.proofs.Laws.{turned_shape, turned_length, ended}
use Rattle.format.proofs.format.Goals as goal

pub returns-then-not-allowed : goal.returns-then-not-allowed
returns-then-not-allowed c =
    turned_shape c.args.state c.args.k (sym c.allowed.ensures ∙ c.if-not-allowed.true)
    c.refusal.ensures

pub total-requires : goal.total-requires
total-requires c = sym c.allowed.ensures ∙ c.if-not-allowed.false

pub returns-then-image-total : goal.returns-then-image-total
returns-then-image-total c =
    let fine = sym c.allowed.ensures ∙ c.if-not-allowed.false in
    turned_length c.args.state c.args.k fine (λ e. c.if-image-total.true (e ∙ sym c.total.ensures))
    c.refusal-then-image-total.ensures

pub lay_out-left-requires : goal.lay_out-left-requires
lay_out-left-requires c =
    let fine = sym c.allowed.ensures ∙ c.if-not-allowed.false in
    (fine, c.if-image-total.false ∙ c.total.ensures)

pub finish-requires : goal.finish-requires
finish-requires c =
    left_most c.new-whole.ensures c.lay_out-left.ensures

pub returns : goal.returns
returns c =
    let fine = sym c.allowed.ensures ∙ c.if-not-allowed.false in
    ended c.args.state c.args.k fine (c.if-image-total.false ∙ c.total.ensures) c.fresh-next.ensures
    (makes_begun c.new-whole.ensures c.lay_out-left.ensures) c.finish.ensures
