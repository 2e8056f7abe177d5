-- `put_bytes` meets its contract: the part of the buffer behind its end became the digits.
use mathlib.Core.Path.{refl}
use native.Mathlib.Omega.{arith}
use Rattle.digits.proofs.Laws.{placed_part, writes, length_bytes}
use Rattle.digits.proofs.Output.put_bytes.Goals as goal

pub returns : goal.returns
returns c =
    let long = length_bytes c.args.bytes.now in
    writes refl (record {
      place = omega (arith, long);
      room = omega arith;
      buffer = placed_part _ _ _ _ _ c.fill_digits.ensures (omega (arith, long));
    })
