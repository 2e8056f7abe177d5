-- `complete` meets its contract: the members' blocks, their contexts, byte 9.
use mathlib.Core.Path.{◌∙◌}
use native.Mathlib.Omega.{arith}
use Rattle.protocol.specs.Image.{total}
use Rattle.blocks.specs.Banks.{bank, filled}
use Rattle.blocks.proofs.Blocks.{cleared}
use Rattle.store.proofs.Chains.{puts_length, puts_well}
use Rattle.blocks.proofs.Composite.{completes}
use Rattle.blocks.proofs.complete.Goals as goal

pub copy_contexts-kept-requires : goal.copy_contexts-kept-requires
copy_contexts-kept-requires c = (
  c.requires.0,
  puts_length c.copy_blocks-saved.ensures ∙ c.requires.1,
  puts_well c.copy_blocks-saved.ensures c.requires.2,
)

pub store-requires : goal.store-requires
unfolding total
store-requires c = omega arith

pub returns : goal.returns
unfolding bank filled
returns c =
    completes c.requires.1 c.requires.2 c.args.g c.copy_blocks-saved.ensures
    c.copy_contexts-kept.ensures
    (cleared c.args.s c.store.ensures)
