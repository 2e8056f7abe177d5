-- A commit whose forecast is not refused can be made: the start and one acknowledgement by each other member decide it.
use Prim.Native.Nat.{ℕ, zero, suc, ◌+◌, ◌-◌, ◌*◌, ◌^◌, ◌≤◌, ◌<◌}
use mathlib.Core.Path.{◌≡◌, refl, sym, ◌∙◌, ap}
use mathlib.Core.Bool.{Bool, true, false, ◌&&◌, ◌||◌, not}
use mathlib.Core.List.{List, [], ◌∷◌, ◌++◌, map, append-nil}
use mathlib.Core.Logic.{⊎_elim, ◌≢◌}
use lib.Dec.{eqb, leb}
use lib.ListN.{length}
use lib.Pow.{pow_pos}
use native.Mathlib.Omega.{arith}
use borrow.Author.Tests.{eq-eqb, ne_eqb, eqb-true, leb-true, lt-leb}
use Rattle.boards.specs.Lists.{for, any_of}
use Rattle.boards.specs.Boards.{has, with_board, beyond}
use Rattle.boards.proofs.Basics.{decide, clash, true_and, and_false, and_true, or_right, true_or, or_false, false_or}
use Rattle.boards.proofs.Basics.{test_ext, eqb_same, not_true, not_false, All, none, also, all_append}
use Rattle.boards.proofs.Basics.{all_cond, all_for, all_map, row_fits}
use Rattle.boards.proofs.Groups.{count, has_with, has_zero, count_one_more}
use Rattle.volatile.specs.Volatile.{engaged, commit_of, opened, bad_record, bad_commit, bad_closed}
use Rattle.volatile.specs.declared.Record.{Record}
use Rattle.volatile.proofs.Order.{orderly}
use Rattle.protocol.specs.Image.{Memory, in_order, shape_of, view}
use Rattle.protocol.specs.Calls.{Request, Start, Acknowledge, first, refusals, entry_tests, start_tests}
use Rattle.protocol.specs.Calls.{acknowledge_tests, perform}
use Rattle.protocol.specs.Claim.{Call, verdict}
use Rattle.protocol.specs.declared.Shape.{Shape}
use Rattle.protocol.proofs.Order.{order_kept}
use Rattle.protocol.proofs.Refusals.{begun, start_passed}
use Rattle.costs.specs.Forecasts.{those}
use Rattle.costs.specs.Claims.{AnsweredCall, played, is_done, of_commit, ends_commit, total_cost, supplied}
use Rattle.costs.specs.Claims.{commit_calls, CommitCompletes}
use Rattle.costs.proofs.Counted.{length_those, figure, commit_counted}
use Rattle.costs.proofs.Opened.{called, Grouped, Open}
use Rattle.costs.proofs.Given.{Giving, own_call, acks_less, some_answer, some_acks, some_open, all_count}
use Rattle.costs.proofs.Given.{all_answer, acknowledge_giving}
use Rattle.costs.proofs.Starts.{start_shape, start_memory, start_group, forecast_number, forecast_status}
use Rattle.costs.proofs.Starts.{forecast_figures, start_taken, start_entered, start_member, start_grouped}
use Rattle.costs.proofs.Starts.{start_giving}
use Rattle.costs.proofs.Commits.{own_cost}

-- ---- lists of numbers

-- each number once
data Distinct : List ℕ → Type 0 where
  empty : Distinct []
  first_of : {j : ℕ} {js : List ℕ} → All (λ x. j ≢ x) js → Distinct js → Distinct (j ∷ js)

distinct_more : {js : List ℕ} (n : ℕ) → Distinct js → All (λ x. x ≢ n) js → Distinct (js ++ n ∷ [])
distinct_more n empty none = first_of none empty
distinct_more n (first_of a d) (also e es) = first_of (all_append a (also e none)) (distinct_more n d es)

module _ (p : ℕ → Bool) where
  those_all : (n : ℕ) → All (λ j. (j < n) × (p j ≡ true)) (those n p)
  unfolding those
  those_all n = all_for n _ (λ i l. all_cond (p i) (λ e. also (l, e) none) (λ e. none))

  those_distinct : (n : ℕ) → Distinct (those n p)
  unfolding those for
  those_distinct zero = empty
  those_distinct (suc n) =
      ⊎_elim
      (λ (e : p n ≡ true).
      rw e (distinct_more n (those_distinct n) (all_map (λ j h e. let l = h.0 in omega arith) (those_all n))))
      (λ (e : p n ≡ false). rw (e, append-nil) (those_distinct n))
      (decide (p n))

-- ---- one call

-- image and record in order
pub record InOrder (s : Shape) (image : List ℕ) (r : Record) : Type 0 where
  pub ordered : in_order 0 image ≡ true
  pub recorded : bad_record s.boards r ≡ false
  pub small : r.commit.acknowledged < 2 ^ 16

pub done_leaves : {s : Shape} (image : List ℕ) (r : Record) (request : Request) (k : ℕ) → shape_of image ≡ s
    → r.commit.acknowledged < 2 ^ 16 → (perform image r request k).reply.answer.status ≡ 0
    → InOrder s (perform image r request k).image (perform image r request k).reply.next
unfolding verdict
done_leaves image r request k same small e =
    let left = order_kept image r request k small (rw e) in
    record {
      ordered = left.header;
      recorded = ap (λ t. bad_record t.boards (perform image r request k).reply.next) (sym same) ∙ left.state;
      small = left.small;
    }

module _ (s : Shape) (g : ℕ) (m₀ : Memory) (group : Grouped s g) (context : ℕ → List ℕ)
    (full : (j : ℕ) → length (context j) ≡ s.context) (k : ℕ → ℕ)
  where
    abbrev acknowledgements : List ℕ → List Call
    acknowledgements js = map (λ j. record { request = Acknowledge j (context j); k = k j }) js

    -- what is left of the supply covers what is still to be stored
    record Covers (n left : ℕ) (run : List AnsweredCall) : Type 0 where
      enough : figure s g m₀ ≤ n * s.context + left
      shared : supplied g left run ≡ true

    -- the calls are done and decide, and store what is still to be stored
    record Completed (n : ℕ) (run : List AnsweredCall) : Type 0 where
      all_done : any_of (λ x. not (is_done x)) run ≡ false
      decided : any_of (ends_commit g) run ≡ true
      sum : n * s.context + total_cost g run ≡ figure s g m₀

    -- boards that may acknowledge
    abbrev pub May : Record → ℕ → Type 0
    May r j = (j < s.boards) × (has g j ≡ true) × (has r.commit.acknowledged j ≡ false)

    pub acknowledge_taken : {n : ℕ} (image : List ℕ) (r : Record) (j : ℕ) → Open s g m₀ image r n → InOrder s image r
        → May r j → first (refusals image s (view s image) r (Acknowledge j (context j))) ≡ 0
    unfolding refusals entry_tests acknowledge_tests first engaged commit_of
    acknowledge_taken image r j w o (below, member, awaited) =
        rw (
          o.ordered,
          w.shape,
          o.recorded,
          lt-leb s.boards j below,
          eq-eqb (length (context j)) s.context (full j),
          ap (λ x. has x j) w.members ∙ member,
          awaited,
        )

    -- a call of the commit, and the acknowledgements that are left: none after the deciding one
    module _ {n : ℕ} (image : List ℕ) (r : Record) (request : Request) (before : Record) (i : ℕ)
        (h : Giving s g m₀ n image r request before i (context i))
      where
        abbrev x : AnsweredCall
        x = called image r request (k i)

        abbrev image' : List ℕ
        image' = (perform image r request (k i)).image

        abbrev next : Record
        next = (perform image r request (k i)).reply.next

        abbrev acks : ℕ
        acks = with_board before.commit.acknowledged i

        own : of_commit g x ≡ true
        own = own_call s g m₀ group h (k i)

        allowed_enough : {left : ℕ} {run : List AnsweredCall} → Covers n left (x ∷ run) → left ≤ k i
        unfolding supplied
        allowed_enough {left} c =
            let one = (and_true (not (of_commit g x) || leb left (k i)) _ c.shared).0 in
            leb-true left (k i) (sym (ap (λ b. not b || leb left (k i)) own) ∙ one)

        last : {left : ℕ} → eqb acks g ≡ true → Covers n left (x ∷ []) → Completed n (x ∷ [])
        unfolding any_of total_cost
        last e c =
            let sum = ap (λ c. c * s.context) (all_count s g m₀ group h e) in
            let enough = allowed_enough c in
            let a = all_answer s g m₀ group h e (k i) (omega (arith, c.enough)) in
            let cost = own_cost s g m₀ x a own in
            record {
              all_done = false_or {a = not (is_done x)} (ap (λ y. not (eqb y.status 0)) a) refl;
              decided = true_or false (true_and own (ap (λ y. y.decided) a));
              sum = omega arith;
            }

        more : {left : ℕ} {run : List AnsweredCall} → eqb acks g ≡ false → s.context ≤ k i
            → Covers n left (x ∷ run) → (Covers (suc n) (left - s.context) run → Completed (suc n) run)
            → Completed n (x ∷ run)
        unfolding any_of total_cost supplied
        more {left} {run} e l c rest =
            let a = some_answer s g m₀ group h e (k i) l in
            let cost = own_cost s g m₀ x a own in
            let others = (and_true (not (of_commit g x) || leb left (k i)) _ c.shared).1 in
            let covers : Covers (suc n) (left - s.context) run =
            record {
              enough = omega (arith, c.enough);
              shared = sym (ap (λ c. supplied g (left - c) run) cost) ∙ others;
            }
            in
            let after = rest covers in
            let sum = after.sum in
            record {
              all_done = false_or {a = not (is_done x)} (ap (λ y. not (eqb y.status 0)) a) after.all_done;
              decided = or_right (ends_commit g x) after.decided;
              sum = omega arith;
            }

        -- boards that were awaited and are not i are still awaited
        still : (js : List ℕ) → next.commit.acknowledged ≡ acks → All (May before) js → All (λ j. i ≢ j) js
            → All (May next) js
        still [] e none none = none
        still (j ∷ js) e (also (below, member, awaited) hs) (also apart rest) =
            let l : j < 16 = omega (arith, group.few) in
            let now = ap (λ a. has a j) e ∙ has_with before.commit.acknowledged i j l in
            also (below, member, now ∙ false_or awaited (ne_eqb i j apart)) (still js e hs rest)

        completes : (js : List ℕ) {left : ℕ} → r.commit.acknowledged < 2 ^ 16
            → n + suc (length js) ≡ count s.boards (has g) → All (May before) js → All (λ j. i ≢ j) js
            → Covers n left (x ∷ played image' next (acknowledgements js))
            → (Open s g m₀ image' next (suc n) → InOrder s image' next → All (May next) js
            → Covers (suc n) (left - s.context) (played image' next (acknowledgements js))
            → Completed (suc n) (played image' next (acknowledgements js)))
            → Completed n (x ∷ played image' next (acknowledgements js))
        unfolding played
        completes [] small many may apart c rest =
            ⊎_elim
            (λ e. last e c)
            (λ e. let less = acks_less s g m₀ group h e in absurd (omega arith))
            (decide (eqb acks g))
        completes (j ∷ js) small many may apart c rest =
            ⊎_elim
            (λ e. let all = all_count s g m₀ group h e in absurd (omega arith))
            (λ e.
            let fits = row_fits s.context (count s.boards (has g)) n (omega arith) in
            let enough = allowed_enough c in
            let l : s.context ≤ k i = omega (arith, c.enough) in
            let a = some_answer s g m₀ group h e (k i) l in
            more e l c
            (rest (some_open s g m₀ group h e (k i) l)
            (done_leaves image r request (k i) h.before_it.shape small (ap (λ y. y.status) a))
            (still (j ∷ js) (some_acks s g m₀ group h e (k i) l) may apart)))
            (decide (eqb acks g))

    -- the acknowledgements that are left
    go : (js : List ℕ) {n left : ℕ} (image : List ℕ) (r : Record) → Open s g m₀ image r n → InOrder s image r
        → All (May r) js → Distinct js → n + length js ≡ count s.boards (has g)
        → Covers n left (played image r (acknowledgements js)) → Completed n (played image r (acknowledgements js))
    unfolding played
    go [] image r w o none empty many c = let less = w.less in absurd (omega arith)
    go (j ∷ js) image r w o (also may rest) (first_of apart d) many c =
        let taken = acknowledge_taken image r j w o may in
        completes image r (Acknowledge j (context j)) r j (acknowledge_giving s g m₀ j (context j) w taken) js
        o.small many rest apart c
        (λ w o may c. go js _ _ w o may d (omega arith) c)

-- ---- the claim

-- without an open commit nobody has acknowledged
pub none_acknowledged : (p : ℕ) (r : Record) → bad_record p r ≡ false → engaged r ≡ 0 → r.commit.acknowledged ≡ 0
unfolding engaged bad_commit bad_closed
none_acknowledged p r e free =
    let c = r.commit in
    let one = or_false (beyond p c.members) _ (orderly p r e).commit in
    let two = or_false (beyond p c.acknowledged) _ one.1 in
    let closed : bad_closed c ≡ false = rw free at two.1 in
    eqb-true c.acknowledged 0 (not_false _ (or_false (not (eqb c.starter 0)) _ closed).1)

module _ (image : List ℕ) (r : Record) (i : ℕ) (context : ℕ → List ℕ)
    (full : (j : ℕ) → length (context j) ≡ (shape_of image).context) (z : forecast_number image r i ≡ 0) (k : ℕ → ℕ)
  where
    abbrev shape : Shape
    shape = start_shape image r i

    abbrev members : ℕ
    members = start_group image r i

    abbrev memory : Memory
    memory = start_memory image r i

    -- the members but i
    abbrev other : ℕ → Bool
    other j = has members j && not (eqb i j)

    abbrev others : List ℕ
    others = those shape.boards other

    not_itself : (j : ℕ) → other j ≡ true → i ≢ j
    not_itself j e q = clash (eq-eqb i j q) (not_true _ (and_true (has members j) _ e).1)

    many : suc (length others) ≡ count shape.boards (has members)
    many =
        let self = and_false (has members i) (ap not (eqb_same i)) in
        let own = start_member image r i (context i) (full i) z in
        let below = (start_entered image r i (context i) (full i) z).board in
        ap suc (length_those shape.boards other)
        ∙ sym (count_one_more shape.boards other (has members) i below self own
        (λ j l q. test_ext _ _ (λ y. true_and y (ap not (ne_eqb i j q))) (λ y. (and_true (has members j) _ y).0)))

    abbrev run : List AnsweredCall
    run = played image r (commit_calls shape members i context k)

    completed : {supply : ℕ} → figure shape members memory ≤ supply → supplied members supply run ≡ true
        → Completed shape members memory (start_grouped image r i (context i) (full i) z) context full k 0 run
    unfolding played commit_calls opened refusals
    completed {supply} enough given =
        let p = shape.boards in
        let group = start_grouped image r i (context i) (full i) z in
        let entered = start_entered image r i (context i) (full i) z in
        let taken = start_taken image r i (context i) (full i) z in
        let tests = begun image r i (start_tests shape r (length (context i))) refl taken in
        let free = (start_passed shape r (length (context i)) tests.1).none_open in
        completes shape members memory group context full k image r (Start i (context i)) (opened r i members) i
        (start_giving image r i (context i) (full i) z) others
        (rw (none_acknowledged p r entered.recorded free) (pow_pos 16))
        (omega (arith, many))
        (all_map (λ j h. (h.0, (and_true (has members j) _ h.1).0, has_zero j)) (those_all other p))
        (all_map (λ j h. not_itself j h.1) (those_all other p))
        (record { enough = omega arith; shared = given })
        (λ w o may c.
        go shape members memory group context full k others _ _ w o may (those_distinct other p) (omega (arith, many))
        c)

pub commit_completes : CommitCompletes
commit_completes image r i context k supply full taken =
    let z = sym (forecast_status image r i) ∙ taken in
    rw (forecast_figures image r i z)
    (λ given.
    let counted = commit_counted (start_shape image r i) (start_group image r i) (start_memory image r i) in
    let c = completed image r i context full z k {supply = supply} (omega (arith, given.0)) given.1 in
    (c.all_done, c.decided, let sum = c.sum in omega arith))
