use lib.ListN.{take}
use Rattle.digits.specs.Append.{Writes}
use Rattle.listing.specs.Listing.{component_lines}
use Rattle.listing.proofs.put_lines.Given as goal

abbrev pub invariant-loop-component : goal.invariant-loop-component
invariant-loop-component l = Writes (component_lines (take l.component-index l.masks)) l.initial.out l.out
