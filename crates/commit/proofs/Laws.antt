-- How a start and an acknowledgement begin and end.
use Prim.Native.Nat.{ℕ}
use mathlib.Core.Path.{◌≡◌, refl, sym, ◌∙◌, ap}
use mathlib.Core.Bool.{true, false, not}
use mathlib.Core.List.{List, [], ◌∷◌, ◌++◌}
use mathlib.Core.Logic.{◌≢◌}
use lib.Dec.{eqb}
use lib.ListN.{length}
use borrow.Author.Tests.{eq-eqb, ne_eqb}
use Rattle.boards.specs.Lists.{any_of}
use Rattle.boards.specs.Boards.{has, commit_group}
use Rattle.boards.specs.Rows.{links_of, emptied, Grouped}
use Rattle.boards.specs.declared.Closure.{Closure}
use Rattle.protocol.specs.Image.{shape_of}
use Rattle.volatile.specs.Volatile.{engaged, commit_of, acknowledge, opened, start, depends}
use Rattle.protocol.specs.Calls.{Start, Acknowledge, Test, first, test, refusals, refusal_at, entry_tests}
use Rattle.protocol.specs.Calls.{context_test, start_tests, acknowledge_tests}
use Rattle.volatile.specs.declared.Record.{Record}
use Rattle.volatile.specs.declared.Commit.{Commit}
use Rattle.boards.proofs.Basics.{false_not}
use Rattle.protocol.proofs.Refusals.{entry_goes_on, first_goes_on, first_held, first_passed}
use Rattle.commit.specs.Begin.{begin_tests}

-- ---- the tests

module _ (image : List ℕ) (r : Record) (i n : ℕ) (entered : first (entry_tests image r i) ≡ 0) where
  pub begin_long : n ≢ (shape_of image).context → first (begin_tests image r i n) ≡ 3
  begin_long e = entry_goes_on image r i _ entered ∙ first_held 3 [] (false_not (ne_eqb _ _ e))

  pub begin_full : n ≡ (shape_of image).context → first (begin_tests image r i n) ≡ 0
  unfolding first
  begin_full e =
      entry_goes_on image r i (context_test (shape_of image) n ∷ []) entered ∙ first_passed 3 [] (ap not (eq-eqb _ _ e))

-- those that follow

module _ (image : List ℕ) (state : Record) (i : ℕ) (context : List ℕ)
    (begun : first (begin_tests image state i (length context)) ≡ 0)
  where
    own : (ts : List Test) → first (begin_tests image state i (length context) ++ ts) ≡ first ts
    unfolding entry_tests any_of
    own ts = first_goes_on (begin_tests image state i (length context)) ts refl begun

    start_last : refusal_at image state (Start i context) ≡ first (test (not (eqb (engaged state) 0)) 14 ∷ [])
    unfolding refusals entry_tests start_tests
    start_last = own _

    pub start_open : engaged state ≢ 0 → refusal_at image state (Start i context) ≡ 14
    start_open e = start_last ∙ first_held 14 [] (false_not (ne_eqb _ _ e))

    pub start_passes : engaged state ≡ 0 → refusal_at image state (Start i context) ≡ 0
    unfolding first
    start_passes e = start_last ∙ first_passed 14 [] (ap not (eq-eqb _ _ e))

    pub acknowledge_other : has (engaged state) i ≡ false → refusal_at image state (Acknowledge i context) ≡ 15
    unfolding refusals entry_tests acknowledge_tests
    acknowledge_other e = own _ ∙ first_held 15 _ (false_not e)

    pub acknowledge_last : has (engaged state) i ≡ true → refusal_at image state (Acknowledge i context)
        ≡ first (test (has (commit_of state i).acknowledged i) 16 ∷ [])
    unfolding refusals entry_tests acknowledge_tests
    acknowledge_last e = own _ ∙ first_passed 15 _ (ap not e)

-- ---- how the two calls end

-- a start is the acknowledgement of its own opened commit
pub started : {r : Record} (state : Record) (i : ℕ) {g : ℕ} → r ≡ start state i g
    → g ≡ commit_group (links_of state.rows) i
    → r ≡ acknowledge (opened state i (commit_group (depends state) i)) i
unfolding start depends
started state i e f = e ∙ ap (λ h. acknowledge (opened state i h) i) f

-- the group that was searched in the rows is the group of the opened commit, with the emptied rows of the record
pub started_group : {r : Record} (state : Record) (i : ℕ) {g : ℕ} {c : Closure} → r ≡ start state i c.members
    → Grouped state.rows g c → Grouped r.rows (commit_of r i).members c
unfolding start opened acknowledge commit_of
started_group state i {c = c} e h =
    record {
      members = ap (λ r. r.commit.members) (sym e);
      left = h.left ∙ ap (emptied state.rows) (sym h.members) ∙ rw e;
    }

-- an acknowledgement leaves rows and members
pub acknowledged_group : {r : Record} (state : Record) (i : ℕ) {o : Commit} {c : Closure} → r ≡ acknowledge state i
    → o ≡ commit_of state i → Grouped r.rows o.members c → Grouped r.rows (commit_of r i).members c
unfolding acknowledge commit_of
acknowledged_group {r} state i {o = o} e f h =
    let same : o.members ≡ (commit_of r i).members = ap (λ o. o.members) f ∙ rw e in
    record { members = h.members ∙ same; left = h.left ∙ ap (emptied r.rows) same }
