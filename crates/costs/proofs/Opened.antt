-- The state in which the commit of g is open, and how a call made in it may end.
use Prim.Native.Nat.{ℕ, suc, ◌+◌, ◌*◌, ◌^◌, ◌≤◌, ◌<◌}
use mathlib.Core.Path.{◌≡◌, refl, ◌∙◌, ap}
use mathlib.Core.Bool.{true, false, ◌||◌}
use mathlib.Core.List.{List, [], ◌++◌, append-nil}
use mathlib.Core.Logic.{◌≢◌}
use lib.Dec.{eqb}
use borrow.Author.Tests.{ne_eqb}
use Rattle.boards.specs.Boards.{has, tagged_in}
use Rattle.boards.proofs.Basics.{clash, and_false, false_or}
use Rattle.boards.proofs.Groups.{count}
use Rattle.volatile.specs.declared.Record.{Record}
use Rattle.volatile.proofs.Order.{orderly}
use Rattle.protocol.specs.Image.{Memory, Tags, shape_of, view}
use Rattle.protocol.specs.Accesses.{board_of}
use Rattle.protocol.specs.Calls.{Request, Read, Write, Start, Acknowledge, Fault, PowerUp, Test, first, refusals}
use Rattle.protocol.specs.Calls.{entry_tests, refused as refuse, refusal_at, perform}
use Rattle.protocol.specs.declared.Shape.{Shape}
use Rattle.protocol.proofs.Outcomes.{turned_down}
use Rattle.protocol.proofs.Demand1.{same_record}
use Rattle.protocol.proofs.Refusals.{uncut, refusals_uncut, begun}
use Rattle.costs.specs.Claims.{AnsweredCall, is_cut, commit_request, of_commit, drops}
use Rattle.costs.proofs.Counted.{deciding_cost, figure}

-- a call with its answer
abbrev pub called : List ℕ → Record → Request → ℕ → AnsweredCall
called image r request k = record { request = request; k = k; answer = (perform image r request k).reply.answer }

-- a power-up drops every commit
pub no_power_up : (g : ℕ) (request : Request) (group : ℕ) → drops g request group ≡ false → request ≢ PowerUp
unfolding drops
no_power_up g request group calm e = clash (ap (λ q. drops g q group) e) calm

-- a refused call is one of no commit, and changes nothing
pub refused_call : {s : Shape} (image : List ℕ) (r : Record) (request : Request) → request ≢ PowerUp
    → shape_of image ≡ s → first (refusals image s (view s image) r request) ≢ 0 → (k : ℕ)
    → ((g : ℕ) → of_commit g (called image r request k) ≡ false)
    × ((perform image r request k).image ≡ image)
    × ((perform image r request k).reply.next ≡ r)
unfolding refuse
refused_call {s} image r request other same e k =
    let tests = refusals image s (view s image) r request in
    let o = turned_down image same r request e k ∙ ap (refuse (first tests) image) (same_record r request other) in
    let never = uncut tests (refusals_uncut image s (view s image) r request) in
    let neither = false_or (ne_eqb (first tests) 0 e) (ne_eqb (first tests) 9 never) in
    let told = ap (λ x. eqb x.reply.answer.status 0 || eqb x.reply.answer.status 9) o ∙ neither in
    (λ g. and_false (commit_request g request) told, ap (λ x. x.image) o, ap (λ x. x.reply.next) o)

off_stops : (image : List ℕ) (r : Record) (i : ℕ) (ts : List Test) → r.on ≡ false
    → first (entry_tests image r i ++ ts) ≢ 0
off_stops image r i ts down z =
    let e = (begun image r i ts refl z).0 in
    clash (orderly (shape_of image).boards r e.recorded).on down

-- so is every call but a power-up while the record is off
pub off_refused : (image : List ℕ) (r : Record) (request : Request) → request ≢ PowerUp → r.on ≡ false
    → refusal_at image r request ≢ 0
unfolding refusals
off_refused image r (Read who a n room) other down z = off_stops image r (board_of (shape_of image) who) _ down z
off_refused image r (Write who a bytes) other down z = off_stops image r (board_of (shape_of image) who) _ down z
off_refused image r (Start i context) other down z = off_stops image r i _ down z
off_refused image r (Acknowledge i context) other down z = off_stops image r i _ down z
off_refused image r (Fault i) other down z = off_stops image r i [] down (rw append-nil z)
off_refused image r PowerUp other down z = other refl

-- g is a group of boards, of which there are at most sixteen
pub record Grouped (s : Shape) (g : ℕ) : Type 0 where
  pub few : s.boards ≤ 16
  pub small : g < 2 ^ 16
  pub below : (j : ℕ) → has g j ≡ true → j < s.boards
  pub some : g ≢ 0

-- The members g of a commit in an image of the shape s, and the memory at its start.
module _ (s : Shape) (g : ℕ) (m₀ : Memory) where
  -- n members have acknowledged the commit of g, not all, and the blocks tagged in g are those of its start
  pub record Open (image : List ℕ) (r : Record) (n : ℕ) : Type 0 where
    pub shape : shape_of image ≡ s
    pub members : r.commit.members ≡ g
    pub inside : (j : ℕ) → has r.commit.acknowledged j ≡ true → has g j ≡ true
    pub given : count s.boards (has r.commit.acknowledged) ≡ n
    pub less : n < count s.boards (has g)
    pub tags : (b : ℕ) → tagged_in g (view s image Tags b) ≡ tagged_in g (m₀ Tags b)

  -- how a call ends that leaves image and record so: it is none of the commit's, done or refused, or cut; or it gives a
  -- context to the commit, or decides it, or is cut
  pub data Turn (n : ℕ) (x : AnsweredCall) (image : List ℕ) (r : Record) : Type 0 where
    aside : of_commit g x ≡ false → Open image r n → Turn n x image r
    breaks : of_commit g x ≡ false → is_cut x ≡ true → r.on ≡ false → Turn n x image r
    gives : of_commit g x ≡ true → x.answer ≡ record { status = 0; decided = false; group = g; stores = s.context }
        → Open image r (suc n) → Turn n x image r
    ends : of_commit g x ≡ true
        → x.answer ≡ record { status = 0; decided = true; group = g; stores = deciding_cost s g m₀ }
        → suc n ≡ count s.boards (has g) → Turn n x image r
    stops : of_commit g x ≡ true → is_cut x ≡ true → x.k + n * s.context < figure s g m₀ → Turn n x image r

  -- how a call made in such a state ends
  abbrev pub Turned : ℕ → List ℕ → Record → Request → ℕ → Type 0
  Turned n image r request k =
      let o = perform image r request k in Turn n (called image r request k) o.image o.reply.next
