-- `look_up` meets its contract.
use Rattle.std.proofs.Common.{rules, tests, eqb, ◌∙◌}
use Rattle.std.proofs.lemmas.Iterator.{YieldsList-from_slice}
use Rattle.std.proofs.lemmas.Iterator.Search.{find_from_yields_List}
use Rattle.text.specs.Letters.{character_of, table, looked_up}
use Rattle.text.specs.declared.Listing.{Listing}
use Rattle.fields.proofs.look_up.Goals as goal

pub returns : goal.returns
unfolding looked_up table
returns c =
    c.copied.ensures
    ∙ find_from_yields_List (λ (e : Listing). eqb (character_of e.letter) c.args.c) _ _ c.find.result c.find.ensures.ran
    (YieldsList-from_slice table cc) (λ x b q k. search (rules, tests))
