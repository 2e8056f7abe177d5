-- Demand 3 as a statement: what holds of every list of calls, on the definitions that the promises cite.
use Rattle.std.specs.Prelude.{ℕ, suc, ◌+◌, ◌<◌, ◌≤◌, ◌≡◌, Bool, true, false, ◌&&◌, not, cond, List, [], ◌∷◌, ◌≢◌}
use Rattle.std.specs.Prelude.{length, eqb}
use Rattle.std.proofs.Math.Option.{Option}
use Rattle.boards.specs.Lists.{any_of}
use Rattle.boards.specs.Boards.{fault_group, Chain, Exactly}
use Rattle.protocol.specs.Image.{cells, byte, base, Area, allowed, total}
use Rattle.protocol.specs.Calls.{Request, Read, Write, Start, Acknowledge, Fault, PowerUp, Outcome, perform}
use Rattle.protocol.specs.Calls.{format, context_status, context_part}
use Rattle.protocol.specs.Ledger.{Verdict, refused, done, cut, Note, Ledger, blank, source, byte_from, sources_of}
use Rattle.protocol.specs.Ledger.{Fate, is_pending, not_undone, note_is, from_undone, reads_undone}
use Rattle.protocol.specs.Ledger.{members_of, started}
use Rattle.protocol.specs.Ledger.{decides_now, update}
use Rattle.protocol.specs.Dependences.{last_by, depends_by_notes}
use Rattle.protocol.specs.declared.Shape.{Shape}
use Rattle.protocol.specs.declared.Requester.TheVariants.{Board}
use Rattle.volatile.specs.Volatile.{depends, engaged}
use Rattle.volatile.specs.declared.Record.{Record}

-- refused, done or cut, read off the status
unfoldable pub verdict : Outcome → Verdict
verdict o =
    let status = o.reply.answer.status in
    cond (eqb status 0) done (cond (eqb status 9) cut refused)

-- image and record as the last call left them, the ledger, and whether a cut waits for a power-up done after it
pub record System : Type 0 where
  pub image : List ℕ
  pub state : Record
  pub ledger : Ledger
  pub waiting : Bool

-- a call of a list: what it asks for, and its allowance
pub record Call : Type 0 where
  pub request : Request
  pub k : ℕ

unfoldable pub waits : Request → Verdict → Bool → Bool
waits request refused w = w
waits request cut w = true
waits (Read who a n room) done w = w
waits (Write who a bytes) done w = w
waits (Start i context) done w = w
waits (Acknowledge i context) done w = w
waits (Fault i) done w = w
waits PowerUp done w = false

-- what a request with allowance k is answered in a system, and the system after it
unfoldable pub answer : System → Request → ℕ → Outcome
answer w request k = perform w.image w.state request k

unfoldable pub next : Shape → System → Request → ℕ → System
next s w request k =
    let o = answer w request k in
    record {
      image = o.image;
      state = o.reply.next;
      ledger = update s request k (verdict o) w.ledger;
      waiting = waits request (verdict o) w.waiting;
    }

-- the image and record that a format leaves, with a blank ledger
unfoldable pub formatted : Shape → List ℕ → Record → ℕ → System
formatted s image r k =
    let o = format s image r k in
    record { image = o.image; state = o.reply.next; ledger = blank s; waiting = false }

-- ---- what holds at each point of the list

pub record Holds (s : Shape) (w : System) : Type 0 where
  -- each cell's current byte is that of its last write not undone, or zero
  pub current : w.waiting ≡ false → (a : ℕ) → a < cells s
      → byte w.image (base s Area.Current + a) ≡ byte_from w.ledger.notes a (source w.ledger.notes a)
  -- Context answers each board's kept context
  pub context : w.waiting ≡ false → (i : ℕ) → i < s.boards
      → (context_status w.image i ≡ 0) × (context_part w.image i ≡ w.ledger.kept i)
  -- no read pending or kept is noted with an undone write
  pub reads : any_of (reads_undone w.ledger.notes) w.ledger.notes ≡ false
  -- the links are those that the notes alone tell
  pub links : (i j : ℕ) → w.ledger.links i j ≡ depends_by_notes s w.ledger.notes i j
  -- and so are the record's rows and the tags
  pub rows : w.waiting ≡ false → (i j : ℕ) → depends w.state i j ≡ depends_by_notes s w.ledger.notes i j
  pub tags : w.waiting ≡ false → (b j : ℕ) → b < s.blocks
      → eqb (byte w.image (base s Area.Tags + b)) (suc j) ≡ last_by s w.ledger.notes j b
  -- the record is off exactly while a cut waits; else no request whatever would be answered 11 or 12
  pub powered : w.state.on ≡ not w.waiting
  pub ready : w.waiting ≡ false → (request : Request) (k : ℕ)
      → ((answer w request k).reply.answer.status ≢ 11) × ((answer w request k).reply.answer.status ≢ 12)

-- ---- what holds of each answer

-- the bytes of the writes that a read from cell a on is noted with, zero where there is none
unfoldable pub bytes_from : List Note → ℕ → List (Option ℕ) → List ℕ
bytes_from notes a [] = []
bytes_from notes a (k ∷ ks) = byte_from notes a k ∷ bytes_from notes (suc a) ks

unfoldable pub newest : List Note → List (Option ℕ)
newest [] = []
newest (n ∷ ns) = sources_of n.access

-- members and decision are those of the ledger l, in which the commit is open and board i has still to acknowledge
pub record Commits (s : Shape) (i : ℕ) (context : List ℕ) (k : ℕ) (l : Ledger) (o : Outcome) : Type 0 where
  pub members : verdict o ≡ done → o.reply.answer.group ≡ members_of i l.commits
  pub decided : o.reply.answer.decided ≡ decides_now s i context k l (verdict o)

abbrev pub Answers : Shape → System → Request → ℕ → Type 0
Answers s w (Read who a n room) k =
    let notes = (next s w (Read who a n room) k).ledger.notes in
    verdict (answer w (Read who a n room) k) ≡ done
    → (answer w (Read who a n room) k).bytes ≡ bytes_from notes a (newest notes)
Answers s w (Write who a bytes) k = Unit {0}
Answers s w (Start i context) k =
    Commits s i context k (started i w.ledger) (answer w (Start i context) k)
    × (verdict (answer w (Start i context) k) ≡ done
    → Exactly (answer w (Start i context) k).reply.answer.group (λ j. Chain w.ledger.links i j))
Answers s w (Acknowledge i context) k = Commits s i context k w.ledger (answer w (Acknowledge i context) k)
Answers s w (Fault i) k =
    verdict (answer w (Fault i) k) ≡ done
    → ((answer w (Fault i) k).reply.answer.group ≡ fault_group w.ledger.links i)
    × Exactly (answer w (Fault i) k).reply.answer.group (λ j. Chain w.ledger.links j i)
Answers s w PowerUp k = verdict (answer w PowerUp k) ≢ refused

-- The whole list: at each point what holds there, and of each call its answer.
pub data Faithful (s : Shape) : System → List Call → Type 0 where
  end : {w : System} → Holds s w → Faithful s w []
  and_then : {w : System} {c : Call} {cs : List Call} → Holds s w → Answers s w c.request c.k
      → Faithful s (next s w c.request c.k) cs
      → Faithful s w (c ∷ cs)

-- Demand 3: every list of calls after a finished format of any shape, any buffer, record and allowance.
abbrev pub Demand3 : Type 0
Demand3 =
    (s : Shape) (image : List ℕ) (r : Record) (k : ℕ) → verdict (format s image r k) ≡ done
    → (calls : List Call) → Faithful s (formatted s image r k) calls

-- A format of an allowed shape over a buffer of the exact length is done if its budget covers its stores,
-- one more than the length.
abbrev pub FormatDone : Type 0
FormatDone =
    (s : Shape) (image : List ℕ) (r : Record) (k : ℕ) → allowed s ≡ true → length image ≡ total s → total s + 1 ≤ k
    → verdict (format s image r k) ≡ done

-- the system after more calls
unfoldable pub later : Shape → System → List Call → System
later s w [] = w
later s w (c ∷ cs) = later s (next s w c.request c.k) cs

-- ---- accesses

-- 1 to S cells from a on that do not pass the last one, in whichever blocks they lie
abbrev pub InRange : Shape → ℕ → ℕ → Type 0
InRange s a n = (0 < n) × (n ≤ s.size) × (a + n ≤ cells s)

-- At every point of every list where no cut waits and no commit is open, each board's read of such cells is done, if it
-- fits its buffer, and no write of them is refused.
abbrev pub AccessesTaken : Type 0
AccessesTaken =
    (s : Shape) (image : List ℕ) (r : Record) (m : ℕ) → verdict (format s image r m) ≡ done
    → (calls : List Call) (i a : ℕ)
    → let w = later s (formatted s image r m) calls in
    w.waiting ≡ false
    → engaged w.state ≡ 0
    → i < s.boards
    → ((n room k : ℕ) → InRange s a n → n ≤ room → verdict (answer w (Read (Board i) a n room) k) ≡ done)
    × ((bytes : List ℕ) (k : ℕ) → InRange s a (length bytes)
    → verdict (answer w (Write (Board i) a bytes) k) ≢ refused)

-- ---- transactions

-- Document 01's transaction of board i at a point: its pending notes, which are those since it was last cleared, for a
-- clearing leaves none of them pending.
unfoldable pub transaction : List Note → ℕ → ℕ → Bool
transaction notes i k = note_is (λ n. is_pending n.fate && eqb n.board i) notes k

-- The notes of a transaction have one fate at every later point, whatever the system was: no test tells them apart.
abbrev pub TransactionsWhole : Type 0
TransactionsWhole =
    (s : Shape) (w : System) (calls : List Call) (i a b : ℕ) (p : Fate → Bool)
    → transaction w.ledger.notes i a ≡ true
    → transaction w.ledger.notes i b ≡ true
    → let after = (later s w calls).ledger.notes in
    note_is (λ n. p n.fate) after a ≡ note_is (λ n. p n.fate) after b

-- No board keeps a transaction that read an undone byte: while one of its notes is not undone, none of them is noted
-- with an undone write.
abbrev pub NoUndoneReadKept : Type 0
NoUndoneReadKept =
    (s : Shape) (image : List ℕ) (r : Record) (k : ℕ) → verdict (format s image r k) ≡ done
    → (calls more : List Call) (i a b : ℕ)
    → let w = later s (formatted s image r k) calls in
    let after = (later s w more).ledger.notes in
    transaction w.ledger.notes i a ≡ true
    → transaction w.ledger.notes i b ≡ true
    → note_is (λ n. not_undone n.fate) after a ≡ true
    → note_is (λ n. any_of (from_undone after) (sources_of n.access)) after b ≡ false
