-- `put_text` meets its contract: the part of the buffer behind its end was overwritten.
use mathlib.Core.Path.{refl}
use native.Mathlib.Omega.{arith}
use Rattle.digits.proofs.Laws.{placed_part, writes}
use Rattle.digits.proofs.Output.put_text.Goals as goal

pub returns : goal.returns
returns c =
    writes refl (record {
      place = refl;
      room = omega arith;
      buffer = placed_part _ _ _ _ _ c.copy_from_slice.ensures.after (omega arith);
    })
