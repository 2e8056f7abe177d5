-- What a commit saves when its last member acknowledges.
use Rattle.std.specs.Prelude.{ℕ, ◌+◌, ◌&&◌, cond, eqb, leb, Option, Some, None}
use Rattle.volatile.specs.Volatile.{commit_of}
use Rattle.volatile.specs.declared.Record.{Record}
use Rattle.protocol.specs.Image.{Memory}
use Rattle.protocol.specs.declared.Shape.{Shape}
use Rattle.page.specs.Saving.{saved}
use Rattle.page.specs.declared.Saved.{Saved}

-- board i has acknowledged, which gave the record r; k stores are allowed
unfoldable pub if_all_acknowledged : Shape → Memory → Record → ℕ → ℕ → Option Saved
if_all_acknowledged s m r i k =
    let c = commit_of r i in
    cond (eqb c.acknowledged c.members && leb (s.context + 3) k) (Some (saved s m c.members)) None
