-- What committing in the order of components does, with nothing else between (document 02, Req 07): each commit has
-- exactly its component as group. Any image and record, not only those that a list of calls leaves.
use Rattle.std.specs.Prelude.{ℕ, ◌+◌, ◌*◌, ◌^◌, ◌<◌, ◌≡◌, Bool, true, false, ◌&&◌, not, cond, List, [], ◌∷◌, ◌++◌}
use Rattle.std.specs.Prelude.{map, eqb, ltb, leb, length}
use Rattle.boards.specs.Lists.{any_of}
use Rattle.boards.specs.Boards.{has}
use Rattle.volatile.specs.Volatile.{depends, engaged, bad_record}
use Rattle.volatile.specs.declared.Record.{Record}
use Rattle.components.specs.Components.{order}
use Rattle.components.specs.Claims.{SixteenBoards}
use Rattle.protocol.specs.Image.{Memory, Tags, shape_of, in_order, view}
use Rattle.protocol.specs.Calls.{Request, Start, Acknowledge, bad_tags, perform}
use Rattle.protocol.specs.Claim.{Call}
use Rattle.protocol.specs.declared.Shape.{Shape}
use Rattle.protocol.specs.Replies.{Answer}
use Rattle.costs.specs.Forecasts.{those, boards_of, blocks_cost}
use Rattle.costs.specs.Claims.{AnsweredCall, played}

-- ---- who calls when

-- how often board j is in a list
unfoldable pub times : ℕ → List ℕ → ℕ
times j [] = 0
times j (i ∷ is) = cond (eqb i j) 1 0 + times j is

-- the boards of g in any order: each once, and no other
abbrev pub InAnyOrder : ℕ → List ℕ → Type 0
InAnyOrder g callers = (j : ℕ) → times j callers ≡ cond (has g j) 1 0

-- such a list for each component
pub data Sequence : List ℕ → List (List ℕ) → Type 0 where
  ends : Sequence [] []
  goes_on : {g : ℕ} {gs : List ℕ} {callers : List ℕ} {later : List (List ℕ)} → InAnyOrder g callers
      → Sequence gs later
      → Sequence (g ∷ gs) (callers ∷ later)

-- There is such a list for any sets of boards below 16, and, whichever board of a set is to start, one that begins with
-- it.
pub record SequencesThere : Type 0 where
  pub ascending : (gs : List ℕ) → any_of (leb (2 ^ 16)) gs ≡ false → Sequence gs (map (λ g. those 16 (has g)) gs)
  pub any_start : (g i : ℕ) → g < 2 ^ 16 → has g i ≡ true
      → InAnyOrder g (i ∷ those 16 (λ j. has g j && not (eqb i j)))

-- ---- the calls, with the answers that are due

-- The shape, the memory before the first call, and each board's context and allowance.
module _ (s : Shape) (m : Memory) (context : ℕ → List ℕ) (k : ℕ → ℕ) where
  -- Of a call of the commit of g: done, with g as group. It stores its context; the last call decides, and makes the
  -- stores that document 01 counts after the context.
  unfoldable pub answer_due : ℕ → Bool → Answer
  answer_due g last =
      let completing = 4 + blocks_cost s m g + length (boards_of s g) * s.context in
      record { status = 0; decided = last; group = g; stores = s.context + cond last completing 0 }

  -- board i's call, after which the commit has `behind` more
  abbrev pub call_due : ℕ → Request → ℕ → ℕ → AnsweredCall
  call_due g request i behind = record { request = request; k = k i; answer = answer_due g (eqb behind 0) }

  unfoldable pub acknowledgements_due : ℕ → List ℕ → List AnsweredCall
  acknowledgements_due g [] = []
  acknowledgements_due g (j ∷ js) =
      call_due g (Acknowledge j (context j)) j (length js) ∷ acknowledgements_due g js

  -- the first board starts, the others acknowledge
  unfoldable pub commit_due : ℕ → List ℕ → List AnsweredCall
  commit_due g [] = []
  commit_due g (i ∷ js) = call_due g (Start i (context i)) i (length js) ∷ acknowledgements_due g js

  -- one commit after the other
  unfoldable pub commits_due : List ℕ → List (List ℕ) → List AnsweredCall
  commits_due [] later = []
  commits_due (g ∷ gs) [] = []
  commits_due (g ∷ gs) (callers ∷ later) = commit_due g callers ++ commits_due gs later

abbrev pub call_of : AnsweredCall → Call
call_of x = record { request = x.request; k = x.k }

-- ---- the claim

-- image and record after the calls
pub record End : Type 0 where
  pub image : List ℕ
  pub state : Record

unfoldable pub end_of : List ℕ → Record → List Call → End
end_of image r [] = record { image = image; state = r }
end_of image r (c ∷ cs) = let o = perform image r c.request c.k in end_of o.image o.reply.next cs

-- There is a call for each board, and they are answered as is due: none refused or cut, each with its component as
-- group, each component's last one decides. At the end no link is left and, where no tag was above P, no block is
-- tagged.
pub record Committed (s : Shape) (image : List ℕ) (r : Record) (due : List AnsweredCall) : Type 0 where
  pub calls : length due ≡ s.boards
  pub answers : played image r (map call_of due) ≡ due
  pub unlinked : (a b : ℕ) → depends (end_of image r (map call_of due)).state a b ≡ false
  pub untagged : bad_tags s (view s image) ≡ false
      → (b : ℕ) → b < s.blocks → view s (end_of image r (map call_of due)).image Tags b ≡ 0

-- From any image and record that pass 11 for the header and 12, with no commit open; the calls of each component's
-- boards in any order, with contexts of K bytes and allowances that suffice.
abbrev pub CommitsInOrder : Type 0
CommitsInOrder =
    (image : List ℕ) (r : Record) → in_order 0 image ≡ true → bad_record (shape_of image).boards r ≡ false
    → engaged r ≡ 0 → SixteenBoards r
    → let s = shape_of image in
    let components = order s.boards (depends r) in
    (callers : List (List ℕ)) → Sequence components callers
    → (context : ℕ → List ℕ) → ((j : ℕ) → length (context j) ≡ s.context) → (k : ℕ → ℕ)
    → let due = commits_due s (view s image) context k components callers in
    any_of (λ x. ltb x.k x.answer.stores) due ≡ false
    → Committed s image r due
