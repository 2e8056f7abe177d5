-- The direction of a copy: a save goes from the current bank to the recovery bank, a rollback the other way.
use Rattle.std.specs.Prelude.{List, ℕ}
use Rattle.boards.specs.Boards.{tagged_in}
use Rattle.protocol.specs.Image.{Area, Current, Recovery, Memory, Put}
use Rattle.protocol.specs.Calls.{block_copied, blocks_copied}
use Rattle.protocol.specs.declared.Shape.{Shape}
use Rattle.blocks.specs.declared.Copying.{Copying}
use Rattle.blocks.specs.declared.Copying.TheVariants.{Save, Restore}

-- the bank that a copy reads, and the one that it fills
unfoldable pub bank : Copying → Area
bank Save = Current
bank Restore = Recovery

unfoldable pub filled : Copying → Area
filled Save = Recovery
filled Restore = Current

-- a block, and all blocks, tagged by a member of g
abbrev pub block_puts : Shape → Memory → ℕ → Copying → ℕ → List Put
block_puts s m g how b = block_copied s m (bank how) (filled how) (tagged_in g) b

abbrev pub blocks_puts : Shape → Memory → ℕ → Copying → List Put
blocks_puts s m g how = blocks_copied s m (bank how) (filled how) (tagged_in g)
