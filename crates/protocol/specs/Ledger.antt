-- The ledger (document 01, "The ledger"): it is told the shape, each request with its allowance, and whether it was
-- refused, done or cut. Of a read's buffer it uses nothing.
use Rattle.std.specs.Prelude.{ℕ, suc, ◌+◌, ◌-◌, Bool, true, false, ◌&&◌, not, cond, List, [], ◌∷◌, map, eqb, ltb}
use Rattle.std.specs.Prelude.{leb, length, get_or, replicate}
use Rattle.std.proofs.Math.Option.{Option, none, some}
use Rattle.boards.specs.Lists.{span, any_of, select}
use Rattle.boards.specs.Boards.{has, with_board, meets, Links, unlinked, link, unlink, commit_group, fault_group}
use Rattle.protocol.specs.Accesses.{board_of, touched, read_binding, write_binding, bind_blocks}
use Rattle.protocol.specs.declared.Binding.{Binding}
use Rattle.protocol.specs.Calls.{Request, Read, Write, Start, Acknowledge, Fault, PowerUp}
use Rattle.protocol.specs.declared.Shape.{Shape}

-- all that the ledger is told of an answer
pub data Verdict : Type 0 where
  refused done cut : Verdict

-- document 01: each note is "pending, kept or undone"
pub data Fate : Type 0 where
  pending kept undone : Fate

-- A note's number is how many notes are older. A read is noted with the number of each cell's last write
-- not undone, if there is one.
pub data Access : Type 0 where
  Wrote : List ℕ → Access
  ReadFrom : List (Option ℕ) → Access

pub record Note : Type 0 where
  pub board : ℕ
  pub cell : ℕ
  pub access : Access
  pub fate : Fate

-- an open commit
pub record OpenCommit : Type 0 where
  pub members : ℕ
  pub acknowledged : ℕ

-- notes newest first; links between boards; open commits; each board's given and kept context
pub record Ledger : Type 0 where
  pub notes : List Note
  pub links : Links
  pub commits : List OpenCommit
  pub given : ℕ → List ℕ
  pub kept : ℕ → List ℕ

unfoldable pub blank : Shape → Ledger
blank s =
    record {
      notes = [];
      links = unlinked;
      commits = [];
      given = λ i. replicate s.context 0;
      kept = λ i. replicate s.context 0;
    }

-- ---- reading the notes

unfoldable pub is_pending : Fate → Bool
is_pending pending = true
is_pending kept = false
is_pending undone = false

unfoldable pub not_undone : Fate → Bool
not_undone pending = true
not_undone kept = true
not_undone undone = false

-- the bytes that a note wrote: none for a read
unfoldable pub written : Access → List ℕ
written (Wrote bytes) = bytes
written (ReadFrom sources) = []

-- the writes that a note is noted with: none for a write
unfoldable pub sources_of : Access → List (Option ℕ)
sources_of (Wrote bytes) = []
sources_of (ReadFrom sources) = sources

-- a note wrote cell a; what it wrote there, if it did
unfoldable pub covers : Note → ℕ → Bool
covers n a = leb n.cell a && ltb a (n.cell + length (written n.access))

abbrev pub byte_in : Note → ℕ → ℕ
byte_in n a = get_or (written n.access) (a - n.cell) 0

-- a note wrote in block b
unfoldable pub wrote_in : Shape → ℕ → Note → Bool
wrote_in s b n =
    ltb 0 (length (written n.access)) && any_of (eqb b) (touched s n.cell (length (written n.access)))

-- the last write noted in block b, undone ones included: j + 1 if it is pending and by board j, else 0
unfoldable pub writer : Shape → List Note → ℕ → ℕ
writer s [] b = 0
writer s (n ∷ ns) b = cond (wrote_in s b n) (cond (is_pending n.fate) (suc n.board) 0) (writer s ns b)

-- the number of cell a's last write not undone; the byte that write number k put into its cell a, 0 for none
unfoldable pub source : List Note → ℕ → Option ℕ
source [] a = none
source (n ∷ ns) a = cond (covers n a && not_undone n.fate) (some (length ns)) (source ns a)

unfoldable pub byte_from : List Note → ℕ → Option ℕ → ℕ
byte_from [] a k = 0
byte_from (n ∷ ns) a none = 0
byte_from (n ∷ ns) a (some k) = cond (eqb k (length ns)) (byte_in n a) (byte_from ns a (some k))

-- whether there is a note number k, and p holds of it
unfoldable pub note_is : (Note → Bool) → List Note → ℕ → Bool
note_is p [] k = false
note_is p (n ∷ ns) k = cond (eqb k (length ns)) (p n) (note_is p ns k)

-- a read pending or kept that is noted with an undone write
unfoldable pub from_undone : List Note → Option ℕ → Bool
from_undone notes none = false
from_undone notes (some k) = not (note_is (λ n. not_undone n.fate) notes k)

unfoldable pub reads_undone : List Note → Note → Bool
reads_undone notes n = not_undone n.fate && any_of (from_undone notes) (sources_of n.access)

-- ---- changing the ledger

-- the pending notes of the boards of which p holds get this fate
unfoldable pub settled : (ℕ → Bool) → Fate → Note → Note
settled p fate n =
    record {
      board = n.board;
      cell = n.cell;
      access = n.access;
      fate = cond (is_pending n.fate && p n.board) fate n.fate;
    }

-- To clear boards: all links from or to them and all open commits with one of them are dropped.
-- Their pending notes get the fate at the same time.
unfoldable pub cleared : (ℕ → Bool) → Fate → Ledger → Ledger
cleared p fate l =
    record {
      notes = map (settled p fate) l.notes;
      links = unlink p l.links;
      commits = select (λ c. not (meets c.members p)) l.commits;
      given = l.given;
      kept = l.kept;
    }

-- power-up, and last in every cut call
unfoldable pub all_undone : Ledger → Ledger
all_undone l = cleared (λ i. true) undone l

-- an access done: links by the last writers of its blocks, then a pending note
unfoldable pub noted : Shape → (ℕ → Binding) → ℕ → ℕ → ℕ → Access → Ledger → Ledger
noted s how i a n access l =
    record {
      notes = record { board = i; cell = a; access = access; fate = pending } ∷ l.notes;
      links = bind_blocks link how (writer s l.notes) l.links i (touched s a n);
      commits = l.commits;
      given = l.given;
      kept = l.kept;
    }

-- the commit group of i along the links becomes an open commit
unfoldable pub started : ℕ → Ledger → Ledger
started i l =
    record {
      notes = l.notes;
      links = l.links;
      commits = record { members = commit_group l.links i; acknowledged = 0 } ∷ l.commits;
      given = l.given;
      kept = l.kept;
    }

-- board i acknowledges the commit that has it as member, and its context is given
unfoldable pub acknowledged_by : ℕ → OpenCommit → OpenCommit
acknowledged_by i c =
    record {
      members = c.members;
      acknowledged = cond (has c.members i) (with_board c.acknowledged i) c.acknowledged;
    }

unfoldable pub with_context : ℕ → List ℕ → Ledger → Ledger
with_context i context l =
    record {
      notes = l.notes;
      links = l.links;
      commits = map (acknowledged_by i) l.commits;
      given = λ j. cond (eqb i j) context (l.given j);
      kept = l.kept;
    }

-- the members of the commit that has i as member, 0 for none; those where all members have acknowledged
unfoldable pub members_of : ℕ → List OpenCommit → ℕ
members_of i [] = 0
members_of i (c ∷ cs) = cond (has c.members i) c.members (members_of i cs)

unfoldable pub complete : ℕ → List OpenCommit → ℕ
complete i [] = 0
complete i (c ∷ cs) = cond (has c.members i && eqb c.acknowledged c.members) c.members (complete i cs)

-- the members whose commit is decided by board i's acknowledgement with allowance k, 0 for none
unfoldable pub decided_by : Shape → ℕ → ℕ → List OpenCommit → ℕ
decided_by s i k commits = cond (leb (s.context + 3) k) (complete i commits) 0

-- whether board i's acknowledgement, done or cut, decides its commit
unfoldable pub decides_now : Shape → ℕ → List ℕ → ℕ → Ledger → Verdict → Bool
decides_now s i context k l refused = false
decides_now s i context k l done = not (eqb (decided_by s i k (with_context i context l).commits) 0)
decides_now s i context k l cut = not (eqb (decided_by s i k (with_context i context l).commits) 0)

-- the members' pending notes and given contexts become kept, the members are cleared
unfoldable pub decided : ℕ → Ledger → Ledger
decided g l =
    let rest = cleared (has g) kept l in
    record {
      notes = rest.notes;
      links = rest.links;
      commits = rest.commits;
      given = rest.given;
      kept = λ i. cond (has g i) (l.given i) (l.kept i);
    }

unfoldable pub acknowledged : Shape → ℕ → List ℕ → ℕ → Ledger → Ledger
acknowledged s i context k l =
    let after = with_context i context l in
    let g = decided_by s i k after.commits in
    cond (eqb g 0) after (decided g after)

-- what a start or an acknowledgement, done or cut, does; nothing for the other requests
unfoldable pub commit_effect : Shape → Request → ℕ → Ledger → Ledger
commit_effect s (Read who a n room) k l = l
commit_effect s (Write who a bytes) k l = l
commit_effect s (Start i context) k l = acknowledged s i context k (started i l)
commit_effect s (Acknowledge i context) k l = acknowledged s i context k l
commit_effect s (Fault i) k l = l
commit_effect s PowerUp k l = l

unfoldable pub effect : Shape → Request → ℕ → Ledger → Ledger
effect s (Read who a n room) k l =
    noted s read_binding (board_of s who) a n (ReadFrom (span (source l.notes) a n)) l
effect s (Write who a bytes) k l =
    let n = length bytes in
    noted s (write_binding s a n) (board_of s who) a n (Wrote bytes) l
effect s (Start i context) k l = commit_effect s (Start i context) k l
effect s (Acknowledge i context) k l = commit_effect s (Acknowledge i context) k l
effect s (Fault i) k l = cleared (has (fault_group l.links i)) undone l
effect s PowerUp k l = all_undone l

-- the ledger after a request with allowance k
unfoldable pub update : Shape → Request → ℕ → Verdict → Ledger → Ledger
update s request k refused l = l
update s request k done l = effect s request k l
update s request k cut l = all_undone (commit_effect s request k l)
