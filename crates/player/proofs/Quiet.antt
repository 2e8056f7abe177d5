-- A storing call on the image at the area's start, and its turn.
use Prim.Native.Nat.{ℕ}
use mathlib.Core.Path.{◌≡◌}
use mathlib.Core.List.{List, []}
use native.Mathlib.Omega.{arith}
use lib.ListN.{take}
use Rattle.protocol.specs.Image.{Memory}
use Rattle.protocol.specs.Calls.{Request, plan}
use Rattle.protocol.specs.declared.Shape.{Shape}
use Rattle.protocol.specs.Replies.{reply_says}
use Rattle.protocol.specs.declared.Reply.{Reply}
use Rattle.store.specs.Promise.{Performed}
use Rattle.text.specs.Events.{Make}
use Rattle.text.specs.Turns.{request_letter, ended, play}
use Rattle.turns.specs.Turned.{player_of, Ready, Turns}
use Rattle.turns.specs.declared.Session.{Session}
use Rattle.turns.specs.declared.Turned.{Turned}
use Rattle.turns.proofs.Laws.{no_bytes}
use Rattle.turns.proofs.Turning.{lent, left, called}

-- a call that plans no bytes: its turn is the one that its reply and the area are ended with
pub stored : (request : Request) (p : Session) (area : List ℕ) → Ready p area
    → ((s : Shape) (m : Memory) → (plan s m p.state request).bytes ≡ [])
    → {reply : Reply} {part : List ℕ} → Performed request p.k (lent p.length area) p.state reply part
    → {r : Turned} {x buffer : List ℕ} → Turns (ended (request_letter request)
    (record { reply = reply_says reply; image = take p.length (left p.length area part); bytes = [] })) r x buffer
    → Turns (play (player_of p area) (Make request)) r x buffer
unfolding play
stored request p area ready none made t =
    called request p.k p.state area p.length (omega (arith, ready.whole, ready.fits)) made (request_letter request)
    (no_bytes (take p.length area) p.state request p.k (none _ _)) t
