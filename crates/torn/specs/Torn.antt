-- A write that is cut, in one block or over the border of two (document 02, Req 06: "A cut between the two blocks'
-- bytes must still undo the lot"), at every point of every list of calls: once a power-up after it is done, each cell's
-- bytes are its recovery byte from before the write.
use Rattle.std.specs.Prelude.{ℕ, ◌+◌, ◌<◌, ◌≡◌, List, map}
use Rattle.volatile.specs.declared.Record.{Record}
use Rattle.protocol.specs.Image.{Area, byte, base, cells}
use Rattle.protocol.specs.Calls.{Write, PowerUp, format}
use Rattle.protocol.specs.Ledger.{done, cut}
use Rattle.protocol.specs.Claim.{verdict, System, Call, answer, next, formatted, later}
use Rattle.protocol.specs.declared.Shape.{Shape}
use Rattle.protocol.specs.declared.Requester.{Requester}

-- in the image `after` both bytes of each cell, current and recovery, are the cell's recovery byte in the image
-- `before`
abbrev pub Recovered : Shape → List ℕ → List ℕ → Type 0
Recovered s before after =
    (a : ℕ) → a < cells s
    → let recovery = byte before (base s Area.Recovery + a) in
    (byte after (base s Area.Current + a) ≡ recovery) × (byte after (base s Area.Recovery + a) ≡ recovery)

-- power-ups one after the other, each with its allowance: any of them may be cut
unfoldable pub power_ups : List ℕ → List Call
power_ups ks = map (λ k. record { request = PowerUp; k = k }) ks

-- a power-up that is done, right after w or after other power-ups, leaves each cell its recovery byte of the image
-- `before`
abbrev pub Recovers : Shape → List ℕ → System → Type 0
Recovers s before w =
    (ks : List ℕ) (k : ℕ)
    → let last = answer (later s w (power_ups ks)) PowerUp k in
    verdict last ≡ done → Recovered s before last.image

-- A write with an allowance with which it is cut, and power-ups after it; the same power-ups in its place leave the
-- same in each cell. A write that is not refused (`AccessesTaken`) and has L stores to make is cut by each allowance
-- below L: between the tags, between the blocks' bytes, before the last one (`Demand1`, which has L). No power-up is
-- refused (`Demand3`), so one is done with a large enough allowance.
abbrev pub TornWriteUndone : Type 0
TornWriteUndone =
    (s : Shape) (image : List ℕ) (r : Record) (m : ℕ) → verdict (format s image r m) ≡ done
    → (calls : List Call) (who : Requester) (a : ℕ) (bytes : List ℕ) (k : ℕ)
    → let w = later s (formatted s image r m) calls in
    verdict (answer w (Write who a bytes) k) ≡ cut
    → Recovers s w.image (next s w (Write who a bytes) k) × Recovers s w.image w
