-- `fill_digits` meets its contract: after x rounds the digits of the first x bytes are written.
use mathlib.Core.Path.{ap}
use native.Mathlib.Omega.{arith}
use lib.ListN.{length, take}
use lib.Seq.{take_all}
use Rattle.text.specs.Rows.{byte_text, bytes_text}
use Rattle.digits.proofs.Laws.{appends_none, appends_one, appends_more, appends_then, appends_whole}
use Rattle.digits.proofs.Laws.{length_bytes, bytes_more}
use Rattle.digits.proofs.fill_digits.Goals as goal

pub loop-x-init : goal.loop-x-init
unfolding bytes_text
loop-x-init c = appends_none _ 0 (omega arith)

pub loop-x-preserved : goal.loop-x-preserved
unfolding byte_text
loop-x-preserved c =
    rw (
      bytes_more c.args.bytes.now c.loop-x.x (omega arith),
      ← c.hexadecimal.ensures,
      ← c.hexadecimal-in-loop-x.ensures,
    )
    (appends_then c.loop-x.invariant
    (appends_more (appends_one _ _ _ (omega arith) (omega arith)) _ (omega arith) (omega arith)))

pub returns : goal.returns
returns c =
    let x = c.loop-x.x in
    let bytes = c.args.bytes.now in
    let all = take_all x bytes (omega arith) in
    rw (← all) (appends_whole c.loop-x.invariant (omega (arith, length_bytes (take x bytes), ap length all)))
