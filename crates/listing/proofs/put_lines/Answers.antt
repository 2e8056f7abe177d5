-- `put_lines` meets its contract: after x rounds the lines of the first x masks are written.
use native.Mathlib.Omega.{arith}
use lib.ListN.{take}
use lib.Seq.{length-take-le}
use Rattle.digits.proofs.Laws.{writes_none, writes_then, length_group}
use Rattle.listing.specs.Listing.{component_lines}
use Rattle.listing.proofs.Lines.{length_lines, lines_more}
use Rattle.listing.proofs.put_lines.Goals as goal

pub loop-component-init : goal.loop-component-init
unfolding component_lines
loop-component-init c = writes_none _ (omega arith)

pub put_group-requires : goal.put_group-requires
put_group-requires c =
    let x = c.loop-component.component-index in
    omega (arith, length_lines (take x c.args.masks.now), length-take-le x c.args.masks.now (omega arith))

pub put-requires : goal.put-requires
put-requires c =
    let x = c.loop-component.component-index in
    omega (arith, length_lines (take x c.args.masks.now), length-take-le x c.args.masks.now (omega arith), length_group)

pub loop-component-preserved : goal.loop-component-preserved
loop-component-preserved c =
    rw (lines_more c.args.masks.now c.loop-component.component-index (omega arith))
    (writes_then c.loop-component.invariant (writes_then c.put_group.ensures c.put.ensures))
