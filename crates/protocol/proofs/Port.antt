-- A port access is that of board P − 1, but for 17.
use Prim.Native.Nat.{ℕ}
use mathlib.Core.Path.{◌≡◌, refl, sym, ◌∙◌, ap}
use mathlib.Core.Bool.{Bool, true, false, ◌&&◌, cond}
use mathlib.Core.List.{List, ◌∷◌, ◌++◌}
use mathlib.Core.Logic.{⊎_elim, ◌≢◌}
use lib.Dec.{eqb, ltb}
use lib.ListN.{length, drop}
use native.Mathlib.Omega.{arith}
use borrow.Author.Tests.{eqb-true, eqb-false, lt-leb}
use Rattle.boards.specs.Lists.{any_of}
use Rattle.boards.proofs.Basics.{decide, and_false, All, none, also}
use Rattle.protocol.specs.Image.{shape_of, in_order, view}
use Rattle.protocol.specs.Accesses.{board_of}
use Rattle.protocol.specs.Calls.{Request, Read, Write, Test, test, first, refusals, refusal_at, over_port_limit}
use Rattle.protocol.specs.Calls.{entry_tests, read_tests, write_tests, plan, record_refused, perform}
use Rattle.protocol.specs.Calls.{refused as refuse}
use Rattle.protocol.specs.Ledger.{refused, done, cut, Verdict, Ledger, noted, update, effect, commit_effect}
use Rattle.protocol.specs.Ledger.{all_undone}
use Rattle.protocol.specs.Port.{last_board, before_17, passes_to_17, NotedForBoard, AsLastBoard}
use Rattle.protocol.specs.Port.{PortAsLastBoard}
use Rattle.protocol.specs.declared.Shape.{Shape}
use Rattle.protocol.specs.declared.Requester.{Requester}
use Rattle.protocol.specs.declared.Requester.TheVariants.{Board, Port}
use Rattle.volatile.specs.declared.Record.{Record}
use Rattle.protocol.proofs.Bridge.{limits, order_sound}
use Rattle.protocol.proofs.Refusals.{Numbered, first_stops, first_goes_on, Clear, not_held, other_number}
use Rattle.protocol.proofs.Refusals.{first_clear}
use Rattle.protocol.proofs.Outcomes.{status_test, turned_down}

-- a read and a write of board i are noted for i
read_noted : (a n room k : ℕ) → NotedForBoard (λ who. Read who a n room) k
unfolding board_of update effect noted
read_noted a n room k s i l = refl

write_noted : (a : ℕ) (bytes : List ℕ) (k : ℕ) → NotedForBoard (λ who. Write who a bytes) k
unfolding board_of update effect noted
write_noted a bytes k s i l = refl

-- a test of 17 after others: it answers where it holds and none of them does; else the number is that without it
between : (before rest : List Test) → Numbered before → (b : Bool)
    → first (before ++ test b 17 ∷ rest)
    ≡ cond (eqb (first before) 0 && b) 17 (first (before ++ test false 17 ∷ rest))
unfolding first
between before rest numbered false = rw (and_false (eqb (first before) 0) {b = false} refl)
between before rest numbered true =
    ⊎_elim
    (λ (e : eqb (first before) 0 ≡ true). rw e (first_goes_on before _ numbered (eqb-true _ 0 e)))
    (λ (e : eqb (first before) 0 ≡ false).
    let some = eqb-false _ 0 e in
    rw e (first_stops before _ some ∙ sym (first_stops before _ some)))
    (decide (eqb (first before) 0))

-- ---- reads and writes alike

-- What is needed of an access of n cells from a on: the tests that follow 17, which know the board only and have the
-- numbers 5, 11 and 13; that a board's is noted for it; and that nothing but 17 tells the port from board P − 1.
record AlikeBut17 (a n : ℕ) (by : Requester → Request) (image : List ℕ) (r : Record) (k : ℕ) : Type 0 where
  rest : ℕ → List Test
  tests : (who : Requester)
      → let i = board_of (shape_of image) who in
      refusal_at image r (by who) ≡ first (before_17 image r i a n ++ test (over_port_limit who n) 17 ∷ rest i)
  numbers : (i : ℕ) (p : ℕ → Bool) → p 5 ≡ false → p 11 ≡ false → p 13 ≡ false → All (Clear p) (rest i)
  kept : record_refused r (by Port) ≡ r
  same : refusal_at image r (by Port) ≡ refusal_at image r (by (Board (last_board (shape_of image))))
      → perform image r (by Port) k ≡ perform image r (by (Board (last_board (shape_of image)))) k
  own_note : NotedForBoard by k
  effects : (s : Shape) (l : Ledger) → effect s (by Port) k l ≡ effect s (by (Board (last_board s))) k l
  commits : (s : Shape) (l : Ledger) → commit_effect s (by Port) k l ≡ commit_effect s (by (Board (last_board s))) k l

module _ {a n : ℕ} {by : Requester → Request} {image : List ℕ} {r : Record} {k : ℕ}
    (h : AlikeBut17 a n by image r k) where
  abbrev last : ℕ
  last = last_board (shape_of image)

  abbrev limited : Bool
  limited = passes_to_17 image r last a n && ltb 4 n

  -- a number that is not that of the first test to hold is not answered
  never : (who : Requester) (m : ℕ) → eqb 0 m ≡ false → eqb 9 m ≡ false
      → let i = board_of (shape_of image) who in
      eqb (first (before_17 image r i a n ++ test (over_port_limit who n) 17 ∷ h.rest i)) m ≡ false
      → (perform image r (by who) k).reply.answer.status ≢ m
  never who m at_done at_cut other =
      eqb-false _ m
      (status_test (λ n. eqb n m) at_done at_cut image r (by who) k ∙ ap (λ n. eqb n m) (h.tests who) ∙ other)

  boards_never_17 : (i : ℕ) → (perform image r (by (Board i)) k).reply.answer.status ≢ 17
  unfolding board_of over_port_limit entry_tests
  boards_never_17 i = never (Board i) 17 refl refl (first_clear {p = λ n. eqb n 17} refl others)
    where
      others : All (Clear (λ n. eqb n 17)) (before_17 image r i a n ++ test false 17 ∷ h.rest i)
      others =
          also (other_number refl)
          (also (other_number refl)
          (also (other_number refl)
          (also (other_number refl) (also (not_held refl) (h.numbers i _ refl refl refl)))))

  -- the port's number by the board's
  number : refusal_at image r (by Port) ≡ cond limited 17 (refusal_at image r (by (Board last)))
  unfolding board_of over_port_limit entry_tests any_of
  number =
      h.tests Port ∙ between (before_17 image r last a n) (h.rest last) refl (ltb 4 n)
      ∙ ap (cond limited 17) (sym (h.tests (Board last)))

  port : perform image r (by Port) k ≡ cond limited (refuse 17 image r) (perform image r (by (Board last)) k)
  port =
      ⊎_elim
      (λ (e : limited ≡ true).
      let n = number ∙ ap (λ b. cond b 17 (refusal_at image r (by (Board last)))) e in
      rw e (turned_down image refl r (by Port) (rw n (λ z. omega arith)) k ∙ rw (n, h.kept)))
      (λ (e : limited ≡ false).
      rw e (h.same (number ∙ ap (λ b. cond b 17 (refusal_at image r (by (Board last)))) e)))
      (decide limited)

  -- a header in order has P above 0
  port_never_1 : (perform image r (by Port) k).reply.answer.status ≢ 1
  unfolding board_of over_port_limit entry_tests first
  port_never_1 =
      never Port 1 refl refl
      (⊎_elim
      (λ (e : in_order 0 image ≡ true). first_clear {p = λ n. eqb n 1} refl (others e))
      (λ (e : in_order 0 image ≡ false). rw e)
      (decide (in_order 0 image)))
    where
      others : in_order 0 image ≡ true
          → All (Clear (λ n. eqb n 1)) (before_17 image r last a n ++ test (ltb 4 n) 17 ∷ h.rest last)
      others e =
          let some = (limits _ (order_sound e).0.allowed_shape).some_boards in
          also (other_number refl)
          (also (other_number refl)
          (also (not_held (lt-leb (shape_of image).boards last (omega (arith, some))))
          (also (other_number refl) (also (other_number refl) (h.numbers last _ refl refl refl)))))

  ledger : (s : Shape) (v : Verdict) (l : Ledger)
      → update s (by Port) k v l ≡ update s (by (Board (last_board s))) k v l
  unfolding update
  ledger s refused l = refl
  ledger s done l = h.effects s l
  ledger s cut l = ap all_undone (h.commits s l)

  as_last_board : AsLastBoard a n by image r k
  as_last_board = record {
    port = port;
    boards_never_17 = boards_never_17;
    port_never_1 = port_never_1;
    own_note = h.own_note;
    ledger = ledger;
  }

-- ---- a read, a write

read_alike : (a n room : ℕ) (image : List ℕ) (r : Record) (k : ℕ)
    → AlikeBut17 a n (λ who. Read who a n room) image r k
unfolding refusals entry_tests read_tests board_of plan record_refused perform effect commit_effect
read_alike a n room image r k =
    let s = shape_of image in
    record {
      rest = λ i. drop 2 (read_tests s (view s image) r (Board i) a n room);
      tests = λ who. refl;
      numbers = λ i p five eleven thirteen.
          also (other_number five) (also (other_number eleven) (also (other_number thirteen) none));
      kept = refl;
      same = λ e. rw e;
      own_note = read_noted a n room k;
      effects = λ s l. refl;
      commits = λ s l. refl;
    }

write_alike : (a : ℕ) (bytes image : List ℕ) (r : Record) (k : ℕ)
    → AlikeBut17 a (length bytes) (λ who. Write who a bytes) image r k
unfolding refusals entry_tests write_tests board_of plan record_refused perform effect commit_effect
write_alike a bytes image r k =
    let s = shape_of image in
    record {
      rest = λ i. drop 2 (write_tests s (view s image) r (Board i) a (length bytes));
      tests = λ who. refl;
      numbers = λ i p five eleven thirteen. also (other_number eleven) (also (other_number thirteen) none);
      kept = refl;
      same = λ e. rw e;
      own_note = write_noted a bytes k;
      effects = λ s l. refl;
      commits = λ s l. refl;
    }

pub port_as_last_board : PortAsLastBoard
port_as_last_board =
    record {
      reads = λ a n room image r k. as_last_board (read_alike a n room image r k);
      writes = λ a bytes image r k. as_last_board (write_alike a bytes image r k);
    }
