-- `put_bytes` meets its contract: the first block's tag, the last one's, then the bytes.
use Rattle.store.proofs.Laws.{makes_then}
use Rattle.access.specs.Leaves.{first_tag_store}
use Rattle.access.proofs.put_bytes.Goals as goal

pub returns : goal.returns
unfolding first_tag_store
returns c = search makes_then
