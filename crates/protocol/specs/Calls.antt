-- Every call but Same: when it is refused, what it stores, what it answers (document 01, from "Accesses" to the
-- refusals).
use Rattle.std.specs.Prelude.{ℕ, suc, ◌+◌, ◌-◌, ◌*◌, ◌/◌, ◌%◌, Bool, false, ◌&&◌, ◌||◌, not, cond, List, [], ◌∷◌}
use Rattle.std.specs.Prelude.{◌++◌, map, eqb, ltb, leb, length, get_or, take, drop}
use Rattle.boards.specs.Lists.{for, span, any, any_of}
use Rattle.boards.specs.Boards.{has, beyond, tagged_in, tagged, commit_group, fault_group}
use Rattle.protocol.specs.Image.{Memory, Area, Decision, Group, Tags, Current, Recovery, Tentative, Checkpoint}
use Rattle.protocol.specs.Image.{cells, allowed, total, header, mark, shape_of, in_order, view, base}
use Rattle.protocol.specs.Image.{Store, made, Put, put, raw, after}
use Rattle.volatile.specs.Volatile.{fresh, off, depends, engaged, commit_of, depend, clear, opened, acknowledge}
use Rattle.volatile.specs.Volatile.{bad_record}
use Rattle.protocol.specs.Accesses.{board_of, touched, read_binding, write_binding, bind_blocks}
use Rattle.protocol.specs.declared.Shape.{Shape}
use Rattle.protocol.specs.declared.Requester.{Requester}
use Rattle.protocol.specs.declared.Requester.TheVariants.{Board, Port}
use Rattle.volatile.specs.declared.Record.{Record}
use Rattle.protocol.specs.Replies.{Answer, Reply, refusal_answer}

-- What a call asks for, with all arguments but image, record and budget: boards and cells by number, bytes; of an
-- access who makes it, of a read's answer buffer its length, `room`. (Document 01 calls the papers that come later
-- "requests"; not here.)
pub data Request : Type 0 where
  Read : (who : Requester) (cell n room : ℕ) → Request
  Write : (who : Requester) (cell : ℕ) (bytes : List ℕ) → Request
  Start : (board : ℕ) (context : List ℕ) → Request
  Acknowledge : (board : ℕ) (context : List ℕ) → Request
  Fault : (board : ℕ) → Request
  PowerUp : Request

abbrev pub tags_of : Shape → Memory → ℕ → ℕ → List ℕ
tags_of s m a n = map (m Tags) (touched s a n)

-- ---- refusals ("Refusals that come from the input", "Refusals that come from the state"; 17: document 02, Req 03)

-- a reason to refuse, with its number; the number of the first that holds, in the stated order; 0 for none
pub record Test : Type 0 where
  pub holds : Bool
  pub number : ℕ

abbrev pub test : Bool → ℕ → Test
test b n = record { holds = b; number = n }

unfoldable pub first : List Test → ℕ
first [] = 0
first (t ∷ ts) = cond t.holds t.number (first ts)

-- n is 0 or above S, or the access passes the last cell. It may go on into the next block (document 02, Req 06).
unfoldable pub bad_range : Shape → ℕ → ℕ → Bool
bad_range s a n = eqb n 0 || (ltb s.size n || ltb (cells s) (a + n))

-- the port asks for more than 4 cells; a board has no limit but S
unfoldable pub over_port_limit : Requester → ℕ → Bool
over_port_limit (Board i) n = false
over_port_limit Port n = ltb 4 n

-- the deciding group, low byte first
unfoldable pub stored_group : Memory → ℕ
stored_group m = m Group 0 + 256 * m Group 1

-- power-up: a tag above P, or a decision for a group that is empty or has a board at or above P
unfoldable pub bad_tags : Shape → Memory → Bool
bad_tags s m = any s.blocks (λ b. ltb s.boards (m Tags b))

unfoldable pub bad_decision : Shape → Memory → Bool
bad_decision s m =
    let g = stored_group m in
    eqb (m Decision 0) 1 && (eqb g 0 || beyond s.boards g)

-- Each call's tests, in the stated order.

-- what every request but power-up tests first: 11 for the header, 12, 1
unfoldable pub entry_tests : List ℕ → Record → ℕ → List Test
entry_tests image r i =
    let p = (shape_of image).boards in
    test (not (in_order 0 image)) 11 ∷ test (bad_record p r) 12 ∷ test (leb p i) 1 ∷ []

-- of an access: 2, and 17 right after it
abbrev pub range_tests : Shape → Requester → ℕ → ℕ → List Test
range_tests s who a n = test (bad_range s a n) 2 ∷ test (over_port_limit who n) 17 ∷ []

unfoldable pub read_tests : Shape → Memory → Record → Requester → ℕ → ℕ → ℕ → List Test
read_tests s m r who a n room =
    range_tests s who a n
    ++ test (ltb room n) 5
    ∷ test (any_of (ltb s.boards) (tags_of s m a n)) 11
    ∷ test (has (engaged r) (board_of s who)) 13
    ∷ []

unfoldable pub write_tests : Shape → Memory → Record → Requester → ℕ → ℕ → List Test
write_tests s m r who a n =
    let tags = tags_of s m a n in
    range_tests s who a n
    ++ test (any_of (ltb s.boards) tags) 11
    ∷ test (has (engaged r) (board_of s who) || any_of (tagged_in (engaged r)) tags) 13
    ∷ []

-- in these n is the length of the context
abbrev pub context_test : Shape → ℕ → Test
context_test s n = test (not (eqb n s.context)) 3

unfoldable pub start_tests : Shape → Record → ℕ → List Test
start_tests s r n = context_test s n ∷ test (not (eqb (engaged r) 0)) 14 ∷ []

unfoldable pub acknowledge_tests : Shape → Record → ℕ → ℕ → List Test
acknowledge_tests s r i n =
    context_test s n
    ∷ test (not (has (engaged r) i)) 15
    ∷ test (has (commit_of r i).acknowledged i) 16
    ∷ []

unfoldable pub power_tests : List ℕ → Shape → Memory → List Test
power_tests image s m =
    test (not (in_order 1 image)) 11 ∷ test (bad_tags s m) 11 ∷ test (bad_decision s m) 11 ∷ []

unfoldable pub refusals : List ℕ → Shape → Memory → Record → Request → List Test
refusals image s m r (Read who a n room) = entry_tests image r (board_of s who) ++ read_tests s m r who a n room
refusals image s m r (Write who a bytes) =
    entry_tests image r (board_of s who) ++ write_tests s m r who a (length bytes)
refusals image s m r (Start i context) = entry_tests image r i ++ start_tests s r (length context)
refusals image s m r (Acknowledge i context) = entry_tests image r i ++ acknowledge_tests s r i (length context)
refusals image s m r (Fault i) = entry_tests image r i
refusals image s m r PowerUp = power_tests image s m

-- ---- stores

-- bytes stored one after the other from an index of an area on
unfoldable pub placing : Area → ℕ → List ℕ → List Put
placing area i [] = []
placing area i (b ∷ bs) = put area i b ∷ placing area (suc i) bs

-- the tags of the touched blocks that differ from the writer's, first block first, judged by the memory at entry
unfoldable pub tagging : Memory → ℕ → List ℕ → List Put
tagging m i [] = []
tagging m i (b ∷ bs) = cond (eqb (m Tags b) (suc i)) [] (put Tags b (suc i) ∷ []) ++ tagging m i bs

-- n bytes from index i on copied from one area to another
unfoldable pub copying : Memory → Area → Area → ℕ → ℕ → List Put
copying m from to i n = placing to i (span (m from) i n)

-- a block whose tag passes the test: its S bytes from one bank to the other, then its tag 0
unfoldable pub block_copied : Shape → Memory → Area → Area → (ℕ → Bool) → ℕ → List Put
block_copied s m from to chosen b =
    cond (chosen (m Tags b)) (copying m from to (b * s.size) s.size ++ put Tags b 0 ∷ []) []

-- blocks ascending
unfoldable pub blocks_copied : Shape → Memory → Area → Area → (ℕ → Bool) → List Put
blocks_copied s m from to chosen = for s.blocks (block_copied s m from to chosen)

-- each member's tentative context to recovery, boards ascending
unfoldable pub context_saved : Shape → Memory → ℕ → ℕ → List Put
context_saved s m g i = cond (has g i) (copying m Tentative Checkpoint (i * s.context) s.context) []

-- all that follows the deciding store: the members' blocks, their contexts, byte 9 set to 0
unfoldable pub completing : Shape → Memory → ℕ → List Put
completing s m g =
    blocks_copied s m Current Recovery (tagged_in g)
    ++ (for s.boards (context_saved s m g) ++ put Decision 0 0 ∷ [])

-- bytes 10 and 11, then byte 9 set to 1, which decides, then the rest
unfoldable pub deciding : Shape → Memory → ℕ → List Put
deciding s m g = put Group 0 (g % 256) ∷ put Group 1 (g / 256) ∷ put Decision 0 1 ∷ completing s m g

-- a decided commit is completed, then every block still tagged is rolled back
unfoldable pub completed_first : Shape → Memory → List Put
completed_first s m = cond (eqb (m Decision 0) 1) (completing s m (stored_group m)) []

unfoldable pub recovering : Shape → Memory → List Put
recovering s m =
    let done = completed_first s m in
    done ++ blocks_copied s (after done m) Recovery Current tagged

-- ---- what a call does if it is not refused and not cut

pub record Plan : Type 0 where
  pub group : ℕ
  pub next : Record
  pub stores : List Put
  pub bytes : List ℕ

-- a board's context is stored; when all members have acknowledged, the commit is decided and completed
unfoldable pub acknowledging : Shape → Memory → Record → ℕ → List ℕ → Plan
acknowledging s m before i context =
    let r = acknowledge before i in
    let c = commit_of r i in
    let g = c.members in
    let all = eqb c.acknowledged g in
    let given = placing Tentative (i * s.context) context in
    record {
      group = g;
      next = cond all (clear r g) r;
      stores = given ++ cond all (deciding s (after given m) g) [];
      bytes = [];
    }

unfoldable pub plan : Shape → Memory → Record → Request → Plan
plan s m r (Read who a n room) =
    record {
      group = 0;
      next = bind_blocks depend read_binding (m Tags) r (board_of s who) (touched s a n);
      stores = [];
      bytes = span (m Current) a n;
    }
plan s m r (Write who a bytes) =
    let i = board_of s who in
    let n = length bytes in
    record {
      group = 0;
      next = bind_blocks depend (write_binding s a n) (m Tags) r i (touched s a n);
      stores = tagging m i (touched s a n) ++ placing Current a bytes;
      bytes = [];
    }
plan s m r (Start i context) = acknowledging s m (opened r i (commit_group (depends r) i)) i context
plan s m r (Acknowledge i context) = acknowledging s m r i context
plan s m r (Fault i) =
    let g = fault_group (depends r) i in
    record { group = g; next = clear r g; stores = blocks_copied s m Recovery Current (tagged_in g); bytes = [] }
plan s m r PowerUp = record { group = 0; next = fresh; stores = recovering s m; bytes = [] }

-- ---- answers

-- the answer with the next record, every byte of the image afterwards, and the bytes that a read answers
pub record Outcome : Type 0 where
  pub reply : Reply
  pub image : List ℕ
  pub bytes : List ℕ

-- a refusal: its number, zero and no for the rest; nothing changed
abbrev pub refusal_of : ℕ → Record → Reply
refusal_of n r = record { answer = refusal_answer n; next = r }

unfoldable pub refused : ℕ → List ℕ → Record → Outcome
refused n image r = record { reply = refusal_of n r; image = image; bytes = [] }

-- whether a store sets byte 9 to 1
unfoldable pub decides : Store → Bool
decides s = eqb s.at 9 && eqb s.value 1

-- The first min (k, L) of L stores are made. If k < L the answer is "cut" and the record is off.
-- The count and "decided" are those of the stores made.
unfoldable pub executed : ℕ → List Store → List ℕ → ℕ → Record → List ℕ → Outcome
executed k stores image group next bytes =
    let cut = ltb k (length stores) in
    let some = take k stores in
    let answer : Answer =
    record { status = cond cut 9 0; decided = any_of decides some; group = cond cut 0 group; stores = length some }
    in
    record {
      reply = record { answer = answer; next = cond cut off next };
      image = made some image;
      bytes = cond cut [] bytes;
    }

-- a refused power-up answers the off record, every other refused call the record that it was given
unfoldable pub record_refused : Record → Request → Record
record_refused r (Read who cell n room) = r
record_refused r (Write who cell bytes) = r
record_refused r (Start board context) = r
record_refused r (Acknowledge board context) = r
record_refused r (Fault board) = r
record_refused r PowerUp = off

-- the number of a request's refusal, 0 for none
abbrev pub refusal_at : List ℕ → Record → Request → ℕ
refusal_at image r request = first (refusals image (shape_of image) (view (shape_of image) image) r request)

-- a plan carried out under a budget of k stores
abbrev pub carried_out : Shape → Plan → ℕ → List ℕ → Outcome
carried_out s p k image = executed k (map (raw s) p.stores) image p.group p.next p.bytes

-- a request with a budget of k stores, which document 01 calls the allowance; a read makes none
unfoldable pub perform : List ℕ → Record → Request → ℕ → Outcome
perform image r request k =
    let s = shape_of image in
    let n = refusal_at image r request in
    cond (eqb n 0) (carried_out s (plan s (view s image) r request) k image)
    (refused n image (record_refused r request))

-- a read changes only the first n bytes of its answer buffer
unfoldable pub filled : List ℕ → List ℕ → List ℕ
filled bytes buffer = bytes ++ drop (length bytes) buffer

-- ---- format

unfoldable pub format_tests : Shape → List ℕ → List Test
format_tests s image = test (not (allowed s)) 4 ∷ test (not (eqb (length image) (total s))) 5 ∷ []

-- byte 0 to 0, the others ascending, then byte 0 to the mark's first byte
unfoldable pub formatting : Shape → List Store
formatting s =
    record { at = 0; value = 0 }
    ∷ (span (λ i. record { at = i; value = get_or (header s) i 0 }) 1 (total s - 1)
    ++ record { at = 0; value = get_or mark 0 0 } ∷ [])

unfoldable pub format : Shape → List ℕ → Record → ℕ → Outcome
format s image r k =
    let n = first (format_tests s image) in
    cond (eqb n 0) (executed k (formatting s) image 0 fresh []) (refused n image r)

-- ---- Context, which changes nothing

-- 11 for the header, 1
unfoldable pub context_tests : List ℕ → ℕ → List Test
context_tests image i = test (not (in_order 0 image)) 11 ∷ test (leb (shape_of image).boards i) 1 ∷ []

-- 0 or the refusal, and the board's recovery context, a part of the image
abbrev pub context_status : List ℕ → ℕ → ℕ
context_status image i = first (context_tests image i)

unfoldable pub context_part : List ℕ → ℕ → List ℕ
context_part image i =
    let s = shape_of image in
    cond (eqb (context_status image i) 0) (take s.context (drop (base s Checkpoint + i * s.context) image)) []
