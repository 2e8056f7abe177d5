-- One row has one board more.
use Rattle.std.proofs.Common.{◌∙◌, ap, refl, rules, set}
use Rattle.boards.specs.Rows.{links_of}
use Rattle.boards.proofs.Masks.{Sixteen, set_linked}
use Rattle.volatile.specs.Volatile.{depend, depends}
use Rattle.volatile.proofs.Records.{record_same}
use Rattle.volatile.proofs.Record.depend.Goals as goal

pub returns : goal.returns
unfolding depend depends links_of
returns c =
    let a = c.args in
    let sixteen : Sixteen a.self.rows = record { long = search rules; small = λ a. search rules } in
    record_same
    (ap (set a.self.rows a.i) c.with_board.ensures ∙ set_linked a.self.rows sixteen a.i a.j c.requires.0)
    refl
