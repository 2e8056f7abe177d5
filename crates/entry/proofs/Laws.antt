-- The first tests of a call, and what a call that passed them knows.
use Prim.Native.Nat.{ℕ, ◌≤◌, ◌<◌}
use mathlib.Core.Path.{◌≡◌, sym, ◌∙◌, ap, subst}
use mathlib.Core.Logic.{◌≢◌}
use mathlib.Core.Bool.{true, false}
use mathlib.Core.List.{List, ◌++◌}
use borrow.Author.Tests.{le-leb, lt-leb}
use Rattle.protocol.specs.Image.{in_order, shape_of}
use Rattle.volatile.specs.Volatile.{bad_record}
use Rattle.protocol.specs.Accesses.{board_of}
use Rattle.protocol.specs.Calls.{Request, Test, first, entry_tests, refusal_at, refusal_of, record_refused}
use Rattle.protocol.specs.declared.Shape.{Shape}
use Rattle.protocol.specs.declared.Requester.{Requester}
use Rattle.volatile.specs.declared.Record.{Record}
use Rattle.protocol.specs.Replies.{reply_says}
use Rattle.protocol.specs.Replies.{refusal_number}
use Rattle.protocol.specs.declared.Refusal.{Refusal}
use Rattle.protocol.specs.declared.Reply.{Reply}
use Rattle.store.specs.Promise.{Performed}
use Rattle.store.proofs.Ends.{turned_by}
use Rattle.protocol.proofs.Numbers.{refusal_not_zero}
use Rattle.protocol.proofs.Bridge.{board_small}
use Rattle.protocol.proofs.Refusals.{first_stops}
use Rattle.layout.specs.Headers.{Shaped}
use Rattle.layout.proofs.Laws.{bounded}
use Rattle.entry.specs.Tested.{Tested, EntryPassed}
use Rattle.std.proofs.Common.{Result, Ok, Err}
use Rattle.std.specs.Result.{IsErrAnd}

-- the three first tests, by the shape that was read
module _ (image : List ℕ) (r : Record) (i : ℕ) where
  pub entry_eleven : in_order 0 image ≡ false → first (entry_tests image r i) ≡ 11
  unfolding entry_tests first
  entry_eleven e = rw e

  module _ {s : Shape} (e : in_order 0 image ≡ true) (same : shape_of image ≡ s) where
    pub entry_twelve : bad_record s.boards r ≡ true → first (entry_tests image r i) ≡ 12
    unfolding entry_tests first
    entry_twelve f = rw (e, same, f)

    module _ (f : bad_record s.boards r ≡ false) where
      pub entry_one : s.boards ≤ i → first (entry_tests image r i) ≡ 1
      unfolding entry_tests first
      entry_one l = rw (e, same, f, le-leb s.boards i l)

      pub entry_none : i < s.boards → first (entry_tests image r i) ≡ 0
      unfolding entry_tests first
      entry_none l = rw (e, same, f, lt-leb s.boards i l)

-- the board of a requester, worked out by the shape that was read
pub same_board : {image : List ℕ} {s : Shape} {i : ℕ} (who : Requester) → Shaped image s → i ≡ board_of s who
    → board_of (shape_of image) who ≡ i
same_board who h q = ap (λ s. board_of s who) h.shape ∙ sym q

-- a board is one of sixteen
pub small : {image : List ℕ} {r : Record} {i : ℕ} {s : Shape} → EntryPassed image r i s → i < 16
small h = board_small (bounded h.shaped.allowed_shape).limits h.board

-- ---- tests that refuse

-- a refusal that `?` handed on
pub handed_on : {T : Type 0} {n : ℕ} (Known : T → Type 0) (r : Result T Refusal) (why : Refusal)
    → IsErrAnd r (λ e. e ≡ why) → n ≡ refusal_number why → Tested n Known r
handed_on Known (Ok t) why h e = elim h [ ]
handed_on Known (Err x) why h e = e ∙ sym (ap refusal_number h)

-- what is known of tests that passed
pub if_taken : {T : Type 0} (n : ℕ) (Known : T → Type 0) {r : Result T Refusal} {t : T} → Tested n Known r → r ≡ Ok t
    → (n ≡ 0) × Known t
if_taken n Known h e = let p = subst (Tested n Known) e h in (p.none, p.known)

-- the first of a call's tests refuse it, by whatever number and whatever follows them
module _ (ts us : List Test) {m : ℕ} (e : first ts ≡ m) (some : m ≢ 0) where
  pub refused_first_by : first (ts ++ us) ≡ m
  refused_first_by = first_stops ts us (λ z. some (sym e ∙ z)) ∙ e

  pub call_refused_first_by : {image : List ℕ} (state : Record) (request : Request) {k : ℕ} {next : Record}
      {reply : Reply} → refusal_at image state request ≡ first (ts ++ us) → reply_says reply ≡ refusal_of m next
      → next ≡ record_refused state request → Performed request k image state reply image
  call_refused_first_by state request same g h = turned_by state request (same ∙ refused_first_by) some h g

-- and by a refusal
module _ (ts us : List Test) (why : Refusal) (e : first ts ≡ refusal_number why) where
  pub refused_first : first (ts ++ us) ≡ refusal_number why
  refused_first = refused_first_by ts us e (refusal_not_zero why)

  pub call_refused_first : {image : List ℕ} (state : Record) (request : Request) {k : ℕ} {next : Record}
      {reply : Reply} → refusal_at image state request ≡ first (ts ++ us)
      → reply_says reply ≡ refusal_of (refusal_number why) next → next ≡ record_refused state request
      → Performed request k image state reply image
  call_refused_first = call_refused_first_by ts us e (refusal_not_zero why)
