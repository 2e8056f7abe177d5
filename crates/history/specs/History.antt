-- The text that `rsmrun` plays joined to demand 3 (document 01, "The ledger", "Event lines and `rsmrun`").
use Rattle.std.specs.Prelude.{ℕ, ◌≤◌, ◌≡◌, Bool, true, false, cond, List, [], ◌∷◌, ◌++◌, ◌≢◌, eqb, length, replicate}
use Rattle.boards.specs.Lists.{any_of}
use Rattle.volatile.specs.Volatile.{off}
use Rattle.protocol.specs.Image.{allowed, total}
use Rattle.protocol.specs.Calls.{Request, PowerUp, Outcome, refusal_of, format}
use Rattle.protocol.specs.Ledger.{Verdict, refused, done, cut}
use Rattle.protocol.specs.Claim.{verdict, System, Call, answer, formatted, later, Faithful}
use Rattle.protocol.specs.declared.Shape.{Shape}
use Rattle.text.specs.Events.{Event, Format, Make, Allow, Refused, taken}
use Rattle.text.specs.Rows.{Row}
use Rattle.text.specs.Letters.{format_letter, power_up_letter}
use Rattle.text.specs.Turns.{Player, uncut, row, ended, request_letter, play}
use Rattle.text.specs.Whole.{Line, lines, output_by, Run, start, most_lines, line_text, next_run, rsmrun, output}

-- ---- lines

-- the run after some lines, and what they print where all are played; the player after the first lines of a text
unfoldable pub run_after : Run → List Line → Run
run_after r [] = r
run_after r (l ∷ ls) = run_after (next_run r l) ls

unfoldable pub printed : Run → List Line → List ℕ
printed r [] = []
printed r (l ∷ ls) = line_text r l ++ printed (next_run r l) ls

abbrev pub player_after : List Line → Player
player_after ls = (run_after start ls).player

-- an F within the limits begins a new image
unfoldable pub begins : Event → Bool
begins (Format s) = allowed s
begins (Make request) = false
begins (Allow k) = false
begins (Refused n) = false

abbrev pub NoneBegins : List Line → Type 0
NoneBegins ls = any_of (λ l. begins (taken l)) ls ≡ false

-- it formats zeros of the exact length: what that answers, and the system of demand 3 that it leaves
abbrev pub zeros : Shape → List ℕ
zeros s = replicate (total s) 0

abbrev pub begun : Shape → Player → Outcome
begun s p = format s (zeros s) p.state p.k

abbrev pub system_begun : Shape → Player → System
system_begun s p = formatted s (zeros s) p.state p.k

-- ---- calls

-- the allowance that a line leaves to the next one: a Z leaves its k; every line spends the one that it had
unfoldable pub allowance : Event → ℕ
allowance (Format s) = uncut
allowance (Make request) = uncut
allowance (Allow k) = k
allowance (Refused n) = uncut

abbrev pub call : Request → ℕ → Call
call request k = record { request = request; k = k }

-- the calls that a line makes under the allowance k: a request and, if it is cut, a power-up, uncut; other lines none
unfoldable pub calls_of : System → ℕ → Event → List Call
calls_of w k (Format s) = []
calls_of w k (Make request) =
    let cut_now = eqb (answer w request k).reply.answer.status 9 in
    call request k ∷ cond cut_now (call PowerUp uncut ∷ []) []
calls_of w k (Allow j) = []
calls_of w k (Refused n) = []

-- the allowance of the line after some lines, of which the first has k
unfoldable pub allowance_after : ℕ → List Line → ℕ
allowance_after k [] = k
allowance_after k (l ∷ ls) = allowance_after (allowance (taken l)) ls

-- the calls that lines make one after the other, the first line under the allowance k
unfoldable pub calls_made : Shape → System → ℕ → List Line → List Call
calls_made s w k [] = []
calls_made s w k (l ∷ ls) =
    let calls = calls_of w k (taken l) in
    calls ++ calls_made s (later s w calls) (allowance (taken l)) ls

-- ---- what is played

-- the first lines of a text, all of them played, and what follows
pub record Plays (text : List ℕ) (ls rest : List Line) : Type 0 where
  pub whole : lines text ≡ ls ++ rest
  pub within_limit : length ls ≤ most_lines

-- the text prints what these lines print, and then what the run after them prints of the rest
abbrev pub Prints : List ℕ → List Line → List Line → Type 0
Prints text ls rest = output text ≡ printed start ls ++ output_by rsmrun (run_after start ls) rest

-- Whatever was played before a line, the next one has the allowance that it leaves.
abbrev pub AllowanceLeft : Type 0
AllowanceLeft = (ls : List Line) (l : Line) → (player_after (ls ++ l ∷ [])).k ≡ allowance (taken l)

-- An F within the limits prints what a format of zeros answers, which is done or cut.
pub record FormatsAnew : Type 0 where
  pub turns : (s : Shape) (p : Player) → allowed s ≡ true → play p (Format s) ≡ ended format_letter (begun s p)
  pub not_refused : (s : Shape) (p : Player) → allowed s ≡ true → verdict (begun s p) ≢ refused

-- A stretch of a text: an F of shape s with this verdict, and lines after it of which none begins a new image.
pub record Stretch (text : List ℕ) (before : List Line) (f : Line) (ls rest : List Line) (s : Shape) (v : Verdict)
    : Type 0 where
  pub plays : Plays text (before ++ f ∷ ls) rest
  pub shape : taken f ≡ Format s
  pub outcome : verdict (begun s (player_after before)) ≡ v
  pub none_begins : NoneBegins ls

-- ---- after an F that is done

-- a player has image and record of a system, and the allowance k, so that a call line prints what the system answers
pub record Agrees (w : System) (k : ℕ) (p : Player) : Type 0 where
  pub image : p.image ≡ w.image
  pub state : p.state ≡ w.state
  pub allowance_left : p.k ≡ k
  pub turns : (request : Request) → play p (Make request) ≡ ended (request_letter request) (answer w request k)

-- The text joined to demand 3: the player agrees with the system that the format and the calls of the lines leave, and
-- demand 3 holds of these calls. The stretch may end after any of its lines.
abbrev pub TextFaithful : Type 0
TextFaithful =
    (text : List ℕ) (before : List Line) (f : Line) (ls rest : List Line) (s : Shape)
    → Stretch text before f ls rest s done
    → let w = system_begun s (player_after before) in
    let calls = calls_made s w uncut ls in
    let played = before ++ f ∷ ls in
    Prints text played rest
    × Agrees (later s w calls) (allowance_after uncut ls) (player_after played)
    × Faithful s w calls

-- ---- where there is no image

abbrev pub row_11 : ℕ → Row
row_11 letter = record { letter = letter; answer = (refusal_of 11 off).answer; bytes = [] }

-- the record is off, and a call line prints one row: 11, zeros and no, no bytes
pub record Refuses (p : Player) : Type 0 where
  pub state : p.state ≡ off
  pub turns : (request : Request) → (play p (Make request)).rows ≡ row_11 (request_letter request) ∷ []

-- It is so before the first F within the limits, and after one that is cut, whose power-up is answered 11 too.
pub record TextRefused : Type 0 where
  pub at_first : (text : List ℕ) (ls rest : List Line) → Plays text ls rest → NoneBegins ls
      → Prints text ls rest × Refuses (player_after ls)
  pub after_cut : (text : List ℕ) (before : List Line) (f : Line) (ls rest : List Line) (s : Shape)
      → Stretch text before f ls rest s cut
      → let p = player_after before in
      let played = before ++ f ∷ ls in
      Prints text played rest
      × ((play p (Format s)).rows ≡ row format_letter (begun s p) ∷ row_11 power_up_letter ∷ [])
      × Refuses (player_after played)
