-- Accesses that are in range are taken: while no commit is open, of their tests only 11 and 12 are left, and by demand
-- 3 these do not hold.
use Prim.Native.Nat.{ℕ, zero, suc, ◌<◌, ◌≤◌}
use mathlib.Core.Path.{◌≡◌, refl, sym, ◌∙◌, ap, subst}
use mathlib.Core.Bool.{Bool, true, false, ◌||◌, not}
use mathlib.Core.List.{List, [], ◌∷◌, ◌++◌, map}
use mathlib.Core.Logic.{◌≢◌, ⊎_elim}
use lib.Dec.{eqb, ltb, leb}
use lib.ListN.{length}
use native.Mathlib.Omega.{arith}
use borrow.Author.Tests.{eqb-true, le-ltb, lt-leb}
use Rattle.boards.specs.Lists.{any_of}
use Rattle.boards.specs.Boards.{has, tagged_in}
use Rattle.volatile.specs.Volatile.{engaged}
use Rattle.protocol.specs.Image.{shape_of, view, raw}
use Rattle.protocol.specs.Accesses.{board_of}
use Rattle.protocol.specs.Calls.{Request, Read, Write, first, refusals, refusal_at, tags_of, bad_range}
use Rattle.protocol.specs.Calls.{entry_tests, read_tests, write_tests, over_port_limit, plan, executed, perform}
use Rattle.protocol.specs.Ledger.{refused, done}
use Rattle.protocol.specs.Claim.{verdict, System, answer, formatted, later, InRange, AccessesTaken}
use Rattle.protocol.specs.declared.Shape.{Shape}
use Rattle.protocol.specs.declared.Requester.TheVariants.{Board}
use Rattle.volatile.specs.declared.Record.{Record}
use Rattle.boards.proofs.Basics.{decide, or_true, false_or, not_false, All, none, also, all_append}
use Rattle.boards.proofs.Groups.{has_zero}
use Rattle.protocol.proofs.Refusals.{Clear, not_held, other_number, first_clear}
use Rattle.protocol.proofs.Outcomes.{taken, status_test, not_done, not_cut}
use Rattle.protocol.proofs.Plans.{Ranged, in_range}
use Rattle.protocol.proofs.Invariant.{Invariant, up, down}
use Rattle.protocol.proofs.Order.{of_state}
use Rattle.protocol.proofs.Demand3.{invariant_at, demand_3}
use Rattle.protocol.proofs.Transactions.{holds_later}

-- ---- tests of the state, and others

-- the number of another test than those of 11 and 12
unfoldable of_others : ℕ → Bool
of_others n = not (eqb n 0 || of_state n)

-- if no other test holds, and the status is neither 11 nor 12, then no test holds
untested : {s : Shape} (w : System) (request : Request) (k : ℕ) → shape_of w.image ≡ s
    → All (Clear of_others) (refusals w.image s (view s w.image) w.state request)
    → ((answer w request k).reply.answer.status ≢ 11) × ((answer w request k).reply.answer.status ≢ 12)
    → refusal_at w.image w.state request ≡ 0
unfolding answer of_state of_others
untested w request k same clear ready =
    let n = refusal_at w.image w.state request in
    let status = (perform w.image w.state request k).reply.answer.status in
    let none_other = subst
    (λ t. of_others (first (refusals w.image t (view t w.image) w.state request)) ≡ false) (sym same)
    (first_clear refl clear) in
    ⊎_elim
    (λ (z : eqb n 0 ≡ true). eqb-true n 0 z)
    (λ (t : of_state n ≡ true).
    ⊎_elim
    (λ (e : eqb status 11 ≡ true). absurd (ready.0 (eqb-true status 11 e)))
    (λ (e : eqb status 12 ≡ true). absurd (ready.1 (eqb-true status 12 e)))
    (or_true (eqb status 11) (eqb status 12)
    (status_test of_state refl refl w.image w.state request k ∙ t)))
    (or_true (eqb n 0) (of_state n) (not_false (eqb n 0 || of_state n) none_other))

-- ---- the tests of an access while no commit is open

untagged_in : (t : ℕ) → tagged_in 0 t ≡ false
unfolding tagged_in
untagged_in zero = refl
untagged_in (suc j) = has_zero j

none_tagged : (ts : List ℕ) → any_of (tagged_in 0) ts ≡ false
unfolding any_of
none_tagged [] = refl
none_tagged (t ∷ ts) = false_or (untagged_in t) (none_tagged ts)

module _ {s : Shape} (w : System) (same : shape_of w.image ≡ s) (idle : engaged w.state ≡ 0) {i : ℕ}
    (board : i < s.boards) {a n : ℕ} (range : Ranged s a n)
  where
    entry_clear : All (Clear of_others) (entry_tests w.image w.state i)
    unfolding entry_tests of_others of_state
    entry_clear =
        also (other_number refl)
        (also (other_number refl)
        (also (not_held (ap (λ t. leb t.boards i) same ∙ lt-leb s.boards i board)) none))

    outside : has (engaged w.state) i ≡ false
    outside = ap (λ g. has g i) idle ∙ has_zero i

    read_clear : (room : ℕ) → n ≤ room
        → All (Clear of_others) (refusals w.image s (view s w.image) w.state (Read (Board i) a n room))
    unfolding refusals read_tests over_port_limit board_of of_others of_state
    read_clear room fits =
        all_append entry_clear
        (also (not_held (in_range s a n range))
        (also (not_held refl)
        (also (not_held (le-ltb room n fits)) (also (other_number refl) (also (not_held outside) none)))))

    write_clear : (bytes : List ℕ) → length bytes ≡ n
        → All (Clear of_others) (refusals w.image s (view s w.image) w.state (Write (Board i) a bytes))
    unfolding refusals write_tests over_port_limit board_of of_others of_state
    write_clear bytes e =
        let tags = tags_of s (view s w.image) a (length bytes) in
        let untied = ap (λ g. any_of (tagged_in g) tags) idle ∙ none_tagged tags in
        all_append entry_clear
        (also (not_held (ap (bad_range s a) e ∙ in_range s a n range))
        (also (not_held refl)
        (also (other_number refl) (also (not_held (false_or outside untied)) none))))

-- ---- what a call answers that is not refused

module _ (image : List ℕ) (r : Record) (request : Request) (z : refusal_at image r request ≡ 0) (k : ℕ) where
  not_refused : verdict (perform image r request k) ≢ refused
  unfolding executed verdict
  not_refused v =
      let s = shape_of image in
      let ends = ap verdict (taken image refl r request z k) in
      ⊎_elim
      (λ (c : ltb k (length (map (raw s) (plan s (view s image) r request).stores)) ≡ true).
      not_cut v (ends ∙ rw c))
      (λ (c : ltb k (length (map (raw s) (plan s (view s image) r request).stores)) ≡ false).
      not_done v (ends ∙ rw c))
      (decide (ltb k (length (map (raw s) (plan s (view s image) r request).stores))))

read_done : (image : List ℕ) (r : Record) (i a n room k : ℕ) → refusal_at image r (Read (Board i) a n room) ≡ 0
    → verdict (perform image r (Read (Board i) a n room) k) ≡ done
unfolding executed verdict plan
read_done image r i a n room k z =
    ap verdict (taken image refl r (Read (Board i) a n room) z k) ∙ rw (le-ltb k 0 (omega arith))

pub accesses_taken : AccessesTaken
unfolding later answer
accesses_taken s image r m v calls i a q idle board =
    let w = later s (formatted s image r m) calls in
    let same = shape_at (invariant_at s image r m v calls) in
    let ready = (holds_later (formatted s image r m) calls [] (demand_3 s image r m v (calls ++ []))).ready q in (
      λ n room k range fits.
          read_done w.image w.state i a n room k
          (untested w (Read (Board i) a n room) k same (read_clear w same idle board (in_cells range) room fits)
          (ready _ k)),
      λ bytes k range.
          not_refused w.image w.state (Write (Board i) a bytes)
          (untested w (Write (Board i) a bytes) k same (write_clear w same idle board (in_cells range) bytes refl)
          (ready _ k))
          k,
    )
  where
    in_cells : {n : ℕ} → InRange s a n → Ranged s a n
    in_cells (some, few, within) = record { some = some; few = few; within = within }

    shape_at : {w : System} → Invariant s w → shape_of w.image ≡ s
    shape_at (up h q on) = h.shape
    shape_at (down h q o c) = h.shape
