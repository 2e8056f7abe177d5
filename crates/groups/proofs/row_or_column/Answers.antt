-- `row_or_column` meets its contract: a row is the set of its boards.
use mathlib.Core.Path.{◌∙◌, refl, sym, ap}
use borrow.Author.Rules.{rules}
use Rattle.boards.specs.Boards.{set_of}
use Rattle.boards.specs.Rows.{links_of}
use Rattle.boards.proofs.Masks.{mask_told, Sixteen}
use Rattle.groups.specs.Search.{followed}
use Rattle.groups.proofs.row_or_column.Goals as goal

pub returns-in-Rows : goal.returns-in-Rows
unfolding links_of
returns-in-Rows c =
    let sixteen : Sixteen c.args.rows = record { long = search rules; small = λ a. search rules } in
    mask_told 16 _ _ (sixteen.small c.args.a).fits (λ j l. refl)
    ∙ ap (λ d. set_of (followed c.args.rows d c.args.a)) (sym c.in-Rows.is)

pub returns-in-Columns : goal.returns-in-Columns
returns-in-Columns c =
    c.column.ensures ∙ ap (λ d. set_of (followed c.args.rows d c.args.a)) (sym c.in-Columns.is)
