-- `to_be_decided` meets its contract.
use mathlib.Core.Path.{◌∙◌, ap}
use Rattle.protocol.specs.Replies.{refusal_number}
use Rattle.turns.specs.Turned.{player_of}
use Rattle.page.specs.Saving.{decided_by}
use Rattle.saving.proofs.Lines.{meant_by_refusal, counted_by_refusal}
use Rattle.reports.proofs.to_be_decided.Goals as goal

pub decided_by-requires : goal.decided_by-requires
decided_by-requires c = rw (counted_by_refusal c.args.line) c.requires.1

pub returns-in-Page : goal.returns-in-Page
returns-in-Page c =
    let meant = meant_by_refusal c.args.line c.args.buffer.now in
    rw c.in-Page.is
    (c.decided_by.ensures refusal_number ∙ ap (decided_by (player_of c.args.session c.args.area.now)) meant)
