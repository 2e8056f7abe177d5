-- `read_bytes` meets its contract.
use mathlib.Core.Path.{sym, ◌∙◌, ap}
use Rattle.std.specs.Prelude.{Some}
use Rattle.boards.proofs.Basics.{if_true}
use Rattle.hexadecimal.proofs.Laws.{length_decoded}
use Rattle.hexadecimal.proofs.read_bytes.Goals as goal

pub returns : goal.returns
returns c =
    let fits = sym c.pairs.ensures ∙ c.if-not-pairs.false in
    record {
      tells = ap Some (sym (length_decoded _)) ∙ sym (if_true _ _ fits);
      puts = c.decode.ensures ∙ sym (if_true _ _ fits);
    }
