-- That forecasts are right (document 02, Req 02): of a fault made next, and of a commit started next, over every list
-- of calls up to its decision. Any image and record, not only those that a list of calls leaves.
use Rattle.std.specs.Prelude.{ℕ, ◌+◌, ◌-◌, ◌≤◌, ◌<◌, ◌≡◌, Bool, true, false, ◌&&◌, ◌||◌, not, cond, List, [], ◌∷◌}
use Rattle.std.specs.Prelude.{map, ◌≢◌, ◌⊎◌, eqb, leb, length}
use Rattle.boards.specs.Lists.{any_of}
use Rattle.boards.specs.Boards.{has, meets}
use Rattle.volatile.specs.declared.Record.{Record}
use Rattle.protocol.specs.Image.{shape_of}
use Rattle.protocol.specs.Calls.{Request, Read, Write, Start, Acknowledge, Fault, PowerUp, perform}
use Rattle.protocol.specs.Claim.{Call}
use Rattle.protocol.specs.declared.Shape.{Shape}
use Rattle.protocol.specs.Replies.{Answer}
use Rattle.costs.specs.Forecasts.{Forecast, those, commit_forecast, fault_forecast}

abbrev pub answer_of : List ℕ → Record → Request → ℕ → Answer
answer_of image r request k = (perform image r request k).reply.answer

-- the answer that a forecast says of a call that decides nothing
abbrev pub foretold : Forecast → Answer
foretold f = record { status = f.status; decided = false; group = f.group; stores = f.stores }

-- ---- a fault

-- A fault of board i made next with an allowance of at least the figure is answered as the forecast says: refused with
-- its number, or done with its group and exactly so many stores. With every smaller allowance it is cut.
pub record FaultForetold (image : List ℕ) (r : Record) (i : ℕ) (f : Forecast) : Type 0 where
  pub enough : (k : ℕ) → f.stores ≤ k → answer_of image r (Fault i) k ≡ foretold f
  pub short : (k : ℕ) → k < f.stores → (answer_of image r (Fault i) k).status ≡ 9

abbrev pub FaultForecastRight : Type 0
FaultForecastRight = (image : List ℕ) (r : Record) (i : ℕ) → FaultForetold image r i (fault_forecast image r i)

-- ---- lists of calls

-- a call with what it was answered
pub record AnsweredCall : Type 0 where
  pub request : Request
  pub k : ℕ
  pub answer : Answer

-- the calls made one after the other, each on the image and record that the one before it left
unfoldable pub played : List ℕ → Record → List Call → List AnsweredCall
played image r [] = []
played image r (c ∷ cs) =
    let o = perform image r c.request c.k in
    record { request = c.request; k = c.k; answer = o.reply.answer } ∷ played o.image o.reply.next cs

abbrev pub is_done : AnsweredCall → Bool
is_done x = eqb x.answer.status 0

abbrev pub is_cut : AnsweredCall → Bool
is_cut x = eqb x.answer.status 9

-- a start or an acknowledgement by a board of g; up to the decision those that are not refused are the calls of the
-- commit of g
unfoldable pub commit_request : ℕ → Request → Bool
commit_request g (Read who a n room) = false
commit_request g (Write who a bytes) = false
commit_request g (Start i context) = has g i
commit_request g (Acknowledge i context) = has g i
commit_request g (Fault i) = false
commit_request g PowerUp = false

abbrev pub of_commit : ℕ → AnsweredCall → Bool
of_commit g x = commit_request g x.request && (is_done x || is_cut x)

-- a call by a board of g that decides; the calls up to the first such one, with it
abbrev pub ends_commit : ℕ → AnsweredCall → Bool
ends_commit g x = of_commit g x && x.answer.decided

unfoldable pub until_decided : ℕ → List AnsweredCall → List AnsweredCall
until_decided g [] = []
until_decided g (x ∷ xs) = let rest = until_decided g xs in x ∷ cond (ends_commit g x) [] rest

-- a power-up, or a fault that rolls back a board of g: it drops the commit
unfoldable pub drops : ℕ → Request → ℕ → Bool
drops g (Read who a n room) group = false
drops g (Write who a bytes) group = false
drops g (Start i context) group = false
drops g (Acknowledge i context) group = false
drops g (Fault i) group = meets g (has group)
drops g PowerUp group = true

abbrev pub drops_commit : ℕ → AnsweredCall → Bool
drops_commit g x = drops g x.request x.answer.group

-- a call of the commit that is cut; one that is done, but with another group than g
abbrev pub commit_cut : ℕ → AnsweredCall → Bool
commit_cut g x = of_commit g x && is_cut x

abbrev pub another_group : ℕ → AnsweredCall → Bool
another_group g x = of_commit g x && (is_done x && not (eqb x.answer.group g))

-- the stores of a call if it is one of the commit; of all its calls
abbrev pub cost : ℕ → AnsweredCall → ℕ
cost g x = cond (of_commit g x) x.answer.stores 0

unfoldable pub total_cost : ℕ → List AnsweredCall → ℕ
total_cost g [] = 0
total_cost g (x ∷ xs) = cost g x + total_cost g xs

-- each call of the commit is allowed what the earlier ones left of the supply, or more; other calls are not counted
unfoldable pub supplied : ℕ → ℕ → List AnsweredCall → Bool
supplied g left [] = true
supplied g left (x ∷ xs) = (not (of_commit g x) || leb left x.k) && supplied g (left - cost g x) xs

-- ---- a commit

-- What a forecast says of a start made next with a context of K bytes: refused, it is answered just so; if not, the
-- start is done or cut.
pub record StartForetold (f : Forecast) (a : Answer) : Type 0 where
  pub refused : f.status ≢ 0 → a ≡ foretold f
  pub taken : f.status ≡ 0 → (a.status ≡ 0) ⊎ (a.status ≡ 9)

-- the number of a start whose context has not K bytes: 3, after 11, 12 and 1 and before 14
abbrev pub without_context : Forecast → ℕ
without_context f = cond (eqb f.status 0 || eqb f.status 14) 3 f.status

-- A start made next is answered so; with a context of another length it is refused by that number.
abbrev pub CommitRefusedAlike : Type 0
CommitRefusedAlike =
    (image : List ℕ) (r : Record) (i : ℕ) (context : List ℕ) (k : ℕ)
    → let f = commit_forecast image r i in
    let a = answer_of image r (Start i context) k in
    (length context ≡ (shape_of image).context → StartForetold f a)
    × (length context ≢ (shape_of image).context → a.status ≡ without_context f)

-- a start of board i made next and any calls after it: those up to the decision
abbrev pub commit_run : List ℕ → Record → ℕ → List ℕ → ℕ → List Call → List AnsweredCall
commit_run image r i context k calls =
    until_decided (commit_forecast image r i).group
    (played image r (record { request = Start i context; k = k } ∷ calls))

-- Where the forecast is not refused, and up to the decision no call is cut and none drops the commit: the start is
-- done; it and every done acknowledgement of a member answer the forecast's group; if the commit is decided, their
-- stores add up to the figure.
abbrev pub CommitForecastRight : Type 0
CommitForecastRight =
    (image : List ℕ) (r : Record) (i : ℕ) (context : List ℕ) (k : ℕ) (calls : List Call)
    → length context ≡ (shape_of image).context
    → let f = commit_forecast image r i in
    let run = commit_run image r i context k calls in
    f.status ≡ 0
    → any_of (λ x. drops_commit f.group x || is_cut x) run ≡ false
    → ((answer_of image r (Start i context) k).status ≡ 0)
    × (any_of (another_group f.group) run ≡ false)
    × (any_of (ends_commit f.group) run ≡ true → total_cost f.group run ≡ f.stores)

-- a supply of at least the figure, which the calls of the commit share and no other call draws on
abbrev pub Enough : Forecast → ℕ → List AnsweredCall → Type 0
Enough f supply run = (f.stores ≤ supply) × (supplied f.group supply run ≡ true)

-- With such a supply no call of the commit is cut up to the decision, as long as no call drops the commit.
abbrev pub SupplySuffices : Type 0
SupplySuffices =
    (image : List ℕ) (r : Record) (i : ℕ) (context : List ℕ) (k : ℕ) (calls : List Call) (supply : ℕ)
    → length context ≡ (shape_of image).context
    → let f = commit_forecast image r i in
    let run = commit_run image r i context k calls in
    f.status ≡ 0
    → Enough f supply run
    → any_of (drops_commit f.group) run ≡ false
    → any_of (commit_cut f.group) run ≡ false

-- the start and one acknowledgement by each other member, ascending, each with its context and its allowance
unfoldable pub commit_calls : Shape → ℕ → ℕ → (ℕ → List ℕ) → (ℕ → ℕ) → List Call
commit_calls s g i context k =
    record { request = Start i (context i); k = k i }
    ∷ map (λ j. record { request = Acknowledge j (context j); k = k j })
    (those s.boards (λ j. has g j && not (eqb i j)))

-- And such a supply completes the commit: with contexts of K bytes these calls are all done, they decide, and their
-- stores add up to the figure.
abbrev pub CommitCompletes : Type 0
CommitCompletes =
    (image : List ℕ) (r : Record) (i : ℕ) (context : ℕ → List ℕ) (k : ℕ → ℕ) (supply : ℕ)
    → ((j : ℕ) → length (context j) ≡ (shape_of image).context)
    → let f = commit_forecast image r i in
    let run = played image r (commit_calls (shape_of image) f.group i context k) in
    f.status ≡ 0
    → Enough f supply run
    → (any_of (λ x. not (is_done x)) run ≡ false)
    × (any_of (ends_commit f.group) run ≡ true)
    × (total_cost f.group run ≡ f.stores)
