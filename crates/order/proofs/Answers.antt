-- What the call answers: refused, or the order of all boards.
use Prim.Native.Nat.{ℕ, zero, suc, ◌≤◌}
use mathlib.Core.Path.{◌≡◌, refl, sym, ◌∙◌, ap}
use mathlib.Core.Bool.{Bool, true, false, not, cond}
use mathlib.Core.List.{List, [], ◌∷◌}
use mathlib.Core.Logic.{⊎_elim, ◌≢◌}
use Rattle.std.specs.Prelude.{Ok, Err}
use lib.Dec.{eqb}
use lib.ListN.{length}
use native.Mathlib.Omega.{arith}
use native.Mathlib.Nat.{zero-add}
use borrow.Author.Tests.{eq-eqb, ne_eqb, eqb-true, eqb-false, lt-leb}
use Rattle.boards.specs.Boards.{has, Links}
use Rattle.boards.specs.Rows.{links_of, minus}
use Rattle.boards.proofs.Basics.{decide}
use Rattle.boards.proofs.Groups.{count, Bounded}
use Rattle.boards.proofs.Masks.{Sixteen}
use Rattle.volatile.specs.Volatile.{depends, engaged, bad_record}
use Rattle.volatile.specs.declared.Record.{Record}
use Rattle.components.specs.Components.{component, ready, lowest, order_from, all_boards, order}
use Rattle.components.proofs.Orders.{record_bounded, all_back, boards_counted}
use Rattle.protocol.specs.Image.{in_order, shape_of}
use Rattle.protocol.specs.Calls.{Test, test, first, entry_tests, filled}
use Rattle.protocol.specs.declared.Shape.{Shape}
use Rattle.protocol.proofs.Bridge.{limits, order_sound}
use Rattle.protocol.specs.Replies.{refusal_number}
use Rattle.protocol.specs.declared.Refusal.{Refusal}
use Rattle.protocol.proofs.Refusals.{entered, first_held, first_passed, first_stops, entry_goes_on}
use Rattle.protocol.proofs.Numbers.{refusal_not_zero}
use Rattle.costs.specs.Forecasts.{commit_tests, commit_forecast}
use Rattle.costs.proofs.Answers.{answered_status}
use Rattle.order.specs.Call.{Ordered, order_status, components, ordered_says, AnswersOrder, WithDependents, PutFrom}
use Rattle.order.specs.Claims.{RefusedAsForecast}
use Rattle.order.proofs.Next.{rows_bounded}

-- ---- the tests, of which the first two are made as for board 0, which every shape has

module _ (image : List ℕ) (r : Record) where
  stops_so : first (entry_tests image r 0) ≢ 0 → order_status image r ≡ first (entry_tests image r 0)
  unfolding entry_tests first
  stops_so stops =
      ⊎_elim
      (λ (e : in_order 0 image ≡ true).
      ⊎_elim
      (λ (f : bad_record (shape_of image).boards r ≡ true). rw (e, f))
      (λ (f : bad_record (shape_of image).boards r ≡ false).
      let some = (limits (shape_of image) (order_sound e).0.allowed_shape).some_boards in
      absurd (stops (rw (e, f, lt-leb (shape_of image).boards 0 (omega arith)))))
      (decide (bad_record (shape_of image).boards r)))
      (λ (e : in_order 0 image ≡ false). rw e)
      (decide (in_order 0 image))

  pub entry_stops : (why : Refusal) → first (entry_tests image r 0) ≡ refusal_number why
      → order_status image r ≡ refusal_number why
  entry_stops why e = stops_so (λ z. refusal_not_zero why (sym e ∙ z)) ∙ e

  -- the last one: whether a commit is open
  abbrev open_test : List Test
  open_test = test (not (eqb (engaged r) 0)) 14 ∷ []

  module _ (passes : first (entry_tests image r 0) ≡ 0) where
    goes_on : order_status image r ≡ first open_test
    unfolding first
    goes_on = let h = entered image r 0 refl passes in rw (h.ordered, h.recorded)

    pub commit_open : engaged r ≢ 0 → order_status image r ≡ 14
    commit_open e = goes_on ∙ first_held 14 [] (ap not (ne_eqb (engaged r) 0 e))

    pub all_passed : engaged r ≡ 0 → order_status image r ≡ 0
    unfolding first
    all_passed e = goes_on ∙ first_passed 14 [] (ap not (eq-eqb (engaged r) 0 e))

  -- ---- the answer

  pub refused_by : {n : ℕ} {a : Ordered} {masks : List ℕ} → order_status image r ≡ n → n ≢ 0
      → a ≡ record { status = n; count = 0 } → AnswersOrder image r masks a masks
  unfolding components filled
  refused_by {n} e some same =
      let stops : eqb (order_status image r) 0 ≡ false = ap (λ x. eqb x 0) e ∙ ne_eqb n 0 some in
      record { answer = same ∙ rw (stops, e); masks_after = rw stops }

  pub refused_so : (why : Refusal) {masks : List ℕ} → order_status image r ≡ refusal_number why
      → AnswersOrder image r masks (ordered_says (Err why)) masks
  refused_so why e = refused_by e (refusal_not_zero why) refl

-- all boards are left: the code's rows are sixteen numbers of sixteen bits
module _ (image : List ℕ) (r : Record) (rows : Sixteen r.rows) {s : Shape} (same : shape_of image ≡ s)
    (most : s.boards ≤ 16) (recorded : bad_record s.boards r ≡ false)
  where
    bounded : Bounded s.boards (depends r)
    unfolding depends
    bounded = record_bounded s.boards r recorded (rows_bounded rows).ends

    pub all_dependents : WithDependents (links_of r.rows) (all_boards s.boards)
    unfolding depends
    all_dependents = (all_back most bounded).onto

    pub few_boards : count 16 (has (all_boards s.boards)) ≤ s.boards
    few_boards = omega (arith, boards_counted most)

    pub taken_so : {n : ℕ} {masks after : List ℕ} → order_status image r ≡ 0
        → PutFrom (links_of r.rows) (all_boards s.boards) 0 masks n after
        → AnswersOrder image r masks (ordered_says (Ok n)) after
    unfolding components filled order depends
    taken_so {n} {masks} {after} z p =
        let passes : eqb (order_status image r) 0 ≡ true = ap (λ x. eqb x 0) z in
        let count = p.end s.boards few_boards ∙ zero-add _ in
        record {
          answer = rw (passes, z, same) (ap (λ x. record { status = 0; count = x }) count);
          masks_after = rw (passes, same) (p.masks s.boards few_boards ∙ rw zero-add);
        }

-- ---- sixteen components at most

either_long : (b : Bool) (xs ys : List ℕ) (n : ℕ) → length xs ≤ n → length ys ≤ n → length (cond b xs ys) ≤ n
either_long true xs ys n l m = l
either_long false xs ys n l m = m

at_most : (d : Links) (n left : ℕ) → length (order_from d n left) ≤ n
unfolding order_from
at_most d zero left = omega arith
at_most d (suc n) left =
    let c = component d (lowest 16 (ready d left)) in
    let later = at_most d n (minus left c) in
    either_long (eqb left 0) [] (c ∷ order_from d n (minus left c)) (suc n) (omega arith) (omega arith)

pub few_components : (image : List ℕ) (r : Record) → length (components image r) ≤ 16
unfolding components first order
few_components image r =
    ⊎_elim
    (λ (e : in_order 0 image ≡ true).
    let p = (shape_of image).boards in
    let most = (limits (shape_of image) (order_sound e).0.allowed_shape).most_boards in
    let few = at_most (depends r) p (all_boards p) in
    either_long (eqb (order_status image r) 0) (order p (depends r)) [] 16 (omega arith) (omega arith))
    (λ (e : in_order 0 image ≡ false). rw e (omega arith))
    (decide (in_order 0 image))

-- ---- the refusals of a commit forecast

pub refused_as_forecast : RefusedAsForecast
unfolding commit_forecast
refused_as_forecast image r =
    let entry = entry_tests image r 0 in
    let told = answered_status (first (commit_tests image r 0)) _ _ in
    ⊎_elim
    (λ (z : eqb (first entry) 0 ≡ true).
    let passes = eqb-true (first entry) 0 z in
    goes_on image r passes ∙ sym (told ∙ entry_goes_on image r 0 (open_test image r) passes))
    (λ (z : eqb (first entry) 0 ≡ false).
    let stops = eqb-false (first entry) 0 z in
    stops_so image r stops ∙ sym (told ∙ first_stops entry (open_test image r) stops))
    (decide (eqb (first entry) 0))
