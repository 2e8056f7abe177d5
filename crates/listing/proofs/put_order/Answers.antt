-- `put_order` meets its contract: the lines of the components, or the refusal's number.
use native.Mathlib.Omega.{arith}
use lib.Seq.{length-take-le}
use Rattle.digits.proofs.Laws.{writes_then}
use Rattle.listing.proofs.Printed.{few, refusal_text, order_lines}
use Rattle.listing.proofs.put_order.Goals as goal

pub slice_bounds-masks-end : goal.slice_bounds-masks-end
slice_bounds-masks-end c = omega (arith, few c.args.image.now c.args.state c.in-Ok.count c.in-Ok.ensures)

pub slice_bounds-put_lines-end : goal.slice_bounds-put_lines-end
slice_bounds-put_lines-end c =
    let at_most = few c.args.image.now c.args.state c.in-Ok.count c.in-Ok.ensures in
    omega (arith, length-take-le c.in-Ok.count c.order.new.masks (omega (arith, at_most)))

pub returns-in-Ok : goal.returns-in-Ok
returns-in-Ok c =
    rw (← order_lines c.args.image.now c.args.state c.in-Ok.count c.in-Ok.ensures)
    c.put_lines.ensures

pub returns-in-Err : goal.returns-in-Err
returns-in-Err c =
    rw (← refusal_text c.args.image.now c.args.state c.in-Err.why c.in-Err.ensures, ← c.number.ensures)
    (writes_then c.put_decimal.ensures c.put.ensures)
