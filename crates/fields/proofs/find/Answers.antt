-- `find` meets its contract: the first d is as far behind the start as characters stand before it.
use Rattle.std.proofs.Common.{◌∙◌, rules, tests, eqb, ap}
use Rattle.std.specs.Prelude.{unwrap_or}
use lib.ListN.{length}
use Rattle.std.proofs.lemmas.Iterator.{YieldsList-from_slice}
use Rattle.std.proofs.lemmas.Iterator.Search.{position_from_yields_List}
use Rattle.fields.proofs.Laws.{found_until}
use Rattle.fields.proofs.find.Goals as goal

pub returns : goal.returns
returns c =
    let s = c.args.s.now in
    let found = position_from_yields_List (λ x. eqb x c.args.d) _ _ c.position.result c.position.ensures.ran
    (YieldsList-from_slice s cc) (λ x b q k. search (rules, tests)) in
    c.unwrap_or.ensures ∙ ap (λ r. unwrap_or r (length s)) found ∙ found_until c.args.d s
