-- The commit that a line decides, and what it saves (document 02, Req 05), read off the state before the line.
use Rattle.std.specs.Prelude.{ℕ, ◌+◌, ◌*◌, cond, length, Option, Some, None}
use Rattle.protocol.specs.Image.{Memory, shape_of, view}
use Rattle.protocol.specs.Calls.{Request, plan, perform}
use Rattle.protocol.specs.declared.Shape.{Shape}
use Rattle.costs.specs.Forecasts.{boards_of, tagged_blocks}
use Rattle.text.specs.Events.{Event, Format, Make, Allow, Refused}
use Rattle.text.specs.Turns.{Player}
use Rattle.page.specs.declared.Saved.{Saved}

-- a commit of the members g saves the m blocks that they tagged and their g contexts: m × S + g × K bytes
unfoldable pub saved : Shape → Memory → ℕ → Saved
saved s m g =
    let n = length (tagged_blocks s m g) in
    record { members = g; blocks = n; bytes = n * s.size + length (boards_of s g) * s.context }

-- what the commit of a start or an acknowledgement saves, whose plan names its members, cut or not
abbrev pub saved_by : Player → Request → Saved
saved_by p request =
    let s = shape_of p.image in
    let m = view s p.image in
    saved s m (plan s m p.state request).group

-- a call decides a commit exactly if it is answered so
unfoldable pub decided_by : Player → Event → Option Saved
decided_by p (Format s) = None
decided_by p (Make request) =
    cond (perform p.image p.state request p.k).reply.answer.decided (Some (saved_by p request)) None
decided_by p (Allow k) = None
decided_by p (Refused n) = None
