-- That pages are right (document 02, Req 05).
use Rattle.std.specs.Prelude.{ℕ, suc, ◌+◌, ◌-◌, ◌*◌, ◌^◌, ◌<◌, ◌≡◌, Bool, false, ◌&&◌, not, cond, List, [], ◌∷◌}
use Rattle.std.specs.Prelude.{◌++◌, eqb, ltb, length, take, Option, Some, None}
use Rattle.boards.specs.Lists.{any_of}
use Rattle.protocol.specs.Image.{Memory, Decision, shape_of, view}
use Rattle.protocol.specs.Calls.{Request, stored_group, perform}
use Rattle.protocol.specs.Replies.{Answer}
use Rattle.protocol.specs.declared.Shape.{Shape}
use Rattle.costs.specs.Forecasts.{boards_of, tagged_blocks}
use Rattle.text.specs.Events.{Event, Make, taken}
use Rattle.text.specs.Turns.{Player, play}
use Rattle.text.specs.Whole.{Line, lines, Run, start, most_lines, next_run}
use Rattle.page.specs.declared.Saved.{Saved}
use Rattle.page.specs.declared.Totals.{Totals}
use Rattle.page.specs.Saving.{decided_by}
use Rattle.page.specs.Columns.{blank, padded, commit_line, total_line}
use Rattle.page.specs.Page.{most_commits, full_status, added, decided_text, page_goes, page}

-- ---- a page is the list of its commits

unfoldable pub listed : Option Saved → List Saved
listed None = []
listed (Some c) = c ∷ []

-- the decided commits of lines from a run on, of which a run takes no more than `most_lines`
unfoldable pub commits : Run → List Line → List Saved
commits r [] = []
commits r (l ∷ ls) =
    let rest = commits (next_run r l) ls in
    cond (ltb r.played most_lines) (listed (decided_by r.player (taken l)) ++ rest) []

-- the first of them, which are printed
unfoldable pub printed : List ℕ → List Saved
printed text = take most_commits (commits start (lines text))

-- their lines, counted from n on
unfoldable pub numbered : ℕ → List Saved → List ℕ
numbered n [] = []
numbered n (c ∷ cs) = commit_line n c ++ numbered (suc n) cs

unfoldable pub sum : (Saved → ℕ) → List Saved → ℕ
sum f [] = 0
sum f (c ∷ cs) = f c + sum f cs

-- A page has the lines of the commits that are printed, counted from 1, and the sums over these; nothing else.
abbrev pub PageOfCommits : Type 0
PageOfCommits =
    (text : List ℕ)
    → let cs = printed text in
    page text ≡ numbered 1 cs ++ total_line (sum (λ c. c.blocks) cs) (sum (λ c. c.bytes) cs)

-- ---- columns

abbrev pub LinesOf31 : Type 0
LinesOf31 = (text : List ℕ) → any_of (λ l. not (eqb (length l) 31)) (lines (page text)) ≡ false

-- the members fit four hexadecimal digits, blocks and bytes their columns
unfoldable pub fits : Saved → Bool
fits c = ltb c.members (16 ^ 4) && (ltb c.blocks (10 ^ 8) && ltb c.bytes (10 ^ 10))

-- Every number that is printed fits its column.
pub record NumbersFit (text : List ℕ) : Type 0 where
  pub counts : length (printed text) < 10 ^ 6
  pub each : any_of (λ c. not (fits c)) (printed text) ≡ false
  pub blocks : sum (λ c. c.blocks) (printed text) < 10 ^ 8
  pub bytes : sum (λ c. c.bytes) (printed text) < 10 ^ 10

-- the number that digits behind blanks say, after those that said n
unfoldable pub number_said : ℕ → List ℕ → ℕ
number_said n [] = n
number_said n (c ∷ cs) = number_said (cond (eqb c blank) n (n * 10 + (c - 48))) cs

-- A column of w characters has w in any case and says the number that it was made of, if that fits.
abbrev pub ColumnsSay : Type 0
ColumnsSay = (w n : ℕ) → (length (padded w n) ≡ w) × (n < 10 ^ w → number_said 0 (padded w n) ≡ n)

-- ---- 18

-- A decided commit c after those of the totals t, in a run that goes on as r: one of the first 9,999 is answered 0, and
-- the reading goes on, up to the last line that a run takes; the next one is answered 18, nothing of it is printed or
-- summed, and the reading stops.
pub record Answered18 (t : Totals) (c : Saved) (r : Run) : Type 0 where
  pub printed : t.commits < most_commits
      → (full_status t ≡ 0) × (page_goes (record { run = r; totals = added t c }) ≡ ltb r.played most_lines)
  pub full : t.commits ≡ most_commits
      → (full_status t ≡ 18) × (decided_text t (Some c) ≡ []) × ((added t c).blocks ≡ t.blocks)
      × ((added t c).bytes ≡ t.bytes) × (page_goes (record { run = r; totals = added t c }) ≡ false)

abbrev pub FullAnswers18 : Type 0
FullAnswers18 = (t : Totals) (c : Saved) (r : Run) → Answered18 t c r

-- ---- what the numbers are

-- A commit c, of the shape s, that a call decides: m is what stands in the image when it does, and the answers are
-- those that it gives with each allowance.
pub record DecidedSo (s : Shape) (m : Memory) (answer : ℕ → Answer) (c : Saved) : Type 0 where
  -- byte 9 is 1, the members stand in bytes 10 and 11, and the blocks are those whose tags name one of them
  pub decision : m Decision 0 ≡ 1
  pub members : stored_group m ≡ c.members
  pub blocks : length (tagged_blocks s m c.members) ≡ c.blocks
  -- with g members: the bytes; and the stores and the group of the call wherever it is done
  pub bytes : c.bytes ≡ c.blocks * s.size + length (boards_of s c.members) * s.context
  pub stores : (k : ℕ) → (answer k).status ≡ 0
      → (answer k).stores
      ≡ s.context + (4 + c.blocks * (s.size + 1) + length (boards_of s c.members) * s.context)
  pub group : (k : ℕ) → (answer k).status ≡ 0 → (answer k).group ≡ c.members

-- Any image, record and allowance, the call done or cut: it decides by its third store after the context.
abbrev pub CommitsRight : Type 0
CommitsRight =
    (p : Player) (request : Request) (c : Saved)
    → decided_by p (Make request) ≡ Some c
    → let s = shape_of p.image in
    let call = perform p.image p.state request in
    ((call (s.context + 2)).reply.answer.decided ≡ false)
    × DecidedSo s (view s (call (s.context + 3)).image) (λ k. (call k).reply.answer) c

-- A line gives a commit exactly if one of its rows says decided.
abbrev pub RowsSayDecided : Type 0
RowsSayDecided =
    (p : Player) (e : Event)
    → any_of (λ r. r.answer.decided) (play p e).rows ≡ not (eqb (length (listed (decided_by p e))) 0)
