-- `inspect::same_bytes` meets its contract: the two parts are equal byte by byte.
use Rattle.std.proofs.lemmas.Bool.Decides.{Decides-eqb}
use Rattle.std.proofs.lemmas.Slice.Eq.{slice_eq-Decides}
use Rattle.inspect.proofs.Laws.{bytes_agree}
use Rattle.inspect.proofs.same_bytes.Goals as goal

pub returns : goal.returns
returns c =
    bytes_agree c.args.image.now c.args.other.now c.args.at c.args.n c.requires.0 c.requires.1
    (slice_eq-Decides Decides-eqb _ _ _ c.eq.ensures)
