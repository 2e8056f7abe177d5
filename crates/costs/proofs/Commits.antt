-- The forecast of a commit is right, over every list of calls.
use Prim.Native.Nat.{ℕ, suc, ◌+◌, ◌-◌, ◌*◌, ◌≤◌}
use mathlib.Core.Path.{◌≡◌, refl, sym, ◌∙◌, ap, ap₂}
use mathlib.Core.Bool.{Bool, true, false, ◌||◌, not, cond}
use mathlib.Core.List.{List, [], ◌∷◌}
use mathlib.Core.Logic.{⊎_elim, ◌≢◌}
use lib.Dec.{eqb, leb}
use lib.ListN.{length}
use native.Mathlib.Omega.{arith}
use borrow.Author.Tests.{eq-eqb, ne_eqb, eqb-true, eqb-false, leb-true}
use Rattle.boards.specs.Lists.{any_of}
use Rattle.boards.proofs.Basics.{decide, clash, and_true, true_and, and_false, or_false, false_or, false_and}
use Rattle.boards.proofs.Basics.{if_true, if_false}
use Rattle.volatile.specs.Volatile.{engaged, bad_record}
use Rattle.volatile.specs.declared.Record.{Record}
use Rattle.protocol.specs.Image.{Memory, in_order, shape_of}
use Rattle.protocol.specs.Calls.{Start, Test, test, first, refusals, entry_tests, start_tests}
use Rattle.protocol.specs.Calls.{refused as refuse, refusal_at, perform}
use Rattle.protocol.specs.Claim.{Call}
use Rattle.protocol.specs.declared.Shape.{Shape}
use Rattle.protocol.specs.Replies.{Answer}
use Rattle.protocol.proofs.Outcomes.{turned_down}
use Rattle.protocol.proofs.Refusals.{first_held, first_passed, first_stops, entry_goes_on}
use Rattle.costs.specs.Forecasts.{commit_cost, commit_forecast}
use Rattle.costs.specs.Claims.{answer_of, AnsweredCall, played, is_done, is_cut, of_commit, ends_commit}
use Rattle.costs.specs.Claims.{until_decided, drops_commit, commit_cut, another_group, cost, total_cost, supplied}
use Rattle.costs.specs.Claims.{StartForetold, without_context, CommitRefusedAlike, CommitForecastRight}
use Rattle.costs.specs.Claims.{SupplySuffices}
use Rattle.costs.proofs.Answers.{answered_refused, done_or_cut}
use Rattle.costs.proofs.Counted.{figure, commit_counted}
use Rattle.costs.proofs.Starts.{start_shape, start_memory, start_group, forecast_number, forecast_status}
use Rattle.costs.proofs.Starts.{forecast_figures, start_number, start_taken, start_grouped, start_giving}
use Rattle.costs.proofs.Opened.{called, no_power_up, refused_call, off_refused, Grouped, Open}
use Rattle.costs.proofs.Opened.{Turn, aside, breaks, gives, ends, stops}
use Rattle.costs.proofs.Given.{given_turn}
use Rattle.costs.proofs.Turns.{turn}

module _ (s : Shape) (g : ℕ) (m₀ : Memory) where
  -- of the calls from a point on where n members have acknowledged: their groups, and the sum still to be stored
  abbrev Sums : ℕ → List AnsweredCall → Type 0
  Sums n run =
      any_of (λ x. drops_commit g x || is_cut x) run ≡ false
      → (any_of (another_group g) run ≡ false)
      × (any_of (ends_commit g) run ≡ true → n * s.context + total_cost g run ≡ figure s g m₀)

  -- and that it is enough
  abbrev Suffices : ℕ → List AnsweredCall → Type 0
  Suffices n run =
      (left : ℕ) → figure s g m₀ ≤ n * s.context + left → supplied g left run ≡ true
      → any_of (drops_commit g) run ≡ false → any_of (commit_cut g) run ≡ false

  record Told (n : ℕ) (run : List AnsweredCall) : Type 0 where
    sums : Sums n run
    suffices : Suffices n run

  -- of calls that begin in this state: where the commit is open, and where the record is off
  abbrev IfOpen : List ℕ → Record → List AnsweredCall → Type 0
  IfOpen image r run = (n : ℕ) → Open s g m₀ image r n → Told n run

  abbrev IfOff : Record → List AnsweredCall → Type 0
  IfOff r run = r.on ≡ false → any_of (drops_commit g) run ≡ false → any_of (commit_cut g) run ≡ false

  ended : (n : ℕ) → Told n []
  unfolding any_of
  ended n = record { sums = λ e. (refl, λ d. clash d refl); suffices = λ left enough given calm. refl }

  module _ (x : AnsweredCall) {answer : Answer} (e : x.answer ≡ answer) where
    -- a call answered with the group g gives no other
    right_group : answer.group ≡ g → another_group g x ≡ false
    right_group same =
        and_false (of_commit g x)
        (and_false (is_done x) (ap not (eq-eqb x.answer.group g (ap (λ a. a.group) e ∙ same))))

    pub own_cost : of_commit g x ≡ true → cost g x ≡ answer.stores
    own_cost own = if_true x.answer.stores 0 own ∙ ap (λ a. a.stores) e

  module _ (n : ℕ) (x : AnsweredCall) where
    -- a call that does not decide, after which as much less is to be stored as it stored
    told_more : {n' : ℕ} {run : List AnsweredCall} → commit_cut g x ≡ false → another_group g x ≡ false
        → ends_commit g x ≡ false → n * s.context + cost g x ≡ n' * s.context → Told n' run → Told n (x ∷ run)
    unfolding any_of total_cost supplied
    told_more {run = run} whole right late less t =
        record {
          sums =
              λ e.
              let rest = t.sums (or_false (drops_commit g x || is_cut x) _ e).1 in (
                false_or right rest.0,
                λ d. let sum = rest.1 (sym (ap (λ b. b || any_of (ends_commit g) run) late) ∙ d) in omega arith,
              );
          suffices =
              λ left enough given calm.
              false_or whole
              (t.suffices (left - cost g x) (omega arith)
              (and_true (not (of_commit g x) || leb left x.k) _ given).1
              (or_false (drops_commit g x) _ calm).1);
        }

    -- the deciding call
    told_last : commit_cut g x ≡ false → another_group g x ≡ false
        → n * s.context + cost g x ≡ figure s g m₀ → Told n (x ∷ [])
    unfolding any_of total_cost
    told_last whole right all =
        record {
          sums = λ e. (false_or right refl, λ d. omega arith);
          suffices = λ left enough given calm. false_or whole refl;
        }

    -- a call that is cut: one of the commit had less than was left, after another the record is off
    told_cut : {run : List AnsweredCall} → is_cut x ≡ true → ((left : ℕ) → figure s g m₀ ≤ n * s.context + left
        → supplied g left (x ∷ run) ≡ true → any_of (drops_commit g) run ≡ false
        → any_of (commit_cut g) (x ∷ run) ≡ false)
        → Told n (x ∷ run)
    unfolding any_of
    told_cut short rest =
        record {
          sums =
              λ e.
              let now = (or_false (drops_commit g x || is_cut x) _ e).0 in
              clash short (or_false (drops_commit g x) (is_cut x) now).1;
          suffices = λ left enough given calm. rest left enough given (or_false (drops_commit g x) _ calm).1;
        }

    module _ (xs : List AnsweredCall) where
      more : ends_commit g x ≡ false → Told n (x ∷ until_decided g xs) → Told n (until_decided g (x ∷ xs))
      unfolding until_decided
      more e t = rw e t

      by_turn : {image : List ℕ} {r : Record} → Turn s g m₀ n x image r → IfOpen image r (until_decided g xs)
          → IfOff r (until_decided g xs) → Told n (until_decided g (x ∷ xs))
      unfolding until_decided any_of supplied
      by_turn (aside out w) rest off =
          let none = if_false x.answer.stores 0 out in
          more (false_and _ out)
          (told_more (false_and _ out) (false_and _ out) (false_and _ out) (omega arith) (rest n w))
      by_turn (breaks out short down) rest off =
          more (false_and _ out) (told_cut short (λ left enough given calm. false_or (false_and _ out) (off down calm)))
      by_turn (gives own e w) rest off =
          let late = and_false (of_commit g x) (ap (λ a. a.decided) e) in
          let whole = and_false (of_commit g x) (ap (λ a. eqb a.status 9) e) in
          let each = own_cost x e own in
          more late (told_more whole (right_group x e refl) late (omega arith) (rest (suc n) w))
      by_turn (ends own e all) rest off =
          let whole = and_false (of_commit g x) (ap (λ a. eqb a.status 9) e) in
          let each = own_cost x e own in
          let sum = ap (λ a. a * s.context) all in
          rw (true_and own (ap (λ a. a.decided) e)) (told_last whole (right_group x e refl) (omega arith))
      by_turn (stops own short less) rest off =
          told_cut short
          (λ left enough given calm.
          let one = (and_true (not (of_commit g x) || leb left x.k) _ given).0 in
          let k = leb-true left x.k (sym (ap (λ b. not b || leb left x.k) own) ∙ one) in
          absurd (omega arith))

      -- the call's turn, if it does not drop the commit
      told_first : {image : List ℕ} {r : Record} → (drops_commit g x ≡ false → Turn s g m₀ n x image r)
          → IfOpen image r (until_decided g xs) → IfOff r (until_decided g xs)
          → Told n (until_decided g (x ∷ xs))
      unfolding until_decided any_of
      told_first turned rest off =
          record {
            sums =
                λ e.
                let calm = (or_false (drops_commit g x) (is_cut x) (or_false (drops_commit g x || is_cut x) _ e).0).0 in
                (by_turn (turned calm) rest off).sums e;
            suffices =
                λ left enough given e.
                (by_turn (turned (or_false (drops_commit g x) _ e).0) rest off).suffices left enough given e;
          }

  -- while the record is off every call but a power-up is refused
  off_run : (calls : List Call) (image : List ℕ) (r : Record) → IfOff r (until_decided g (played image r calls))
  unfolding played until_decided any_of
  off_run [] image r down calm = refl
  off_run (c ∷ cs) image r down calm =
      let x = called image r c.request c.k in
      let o = perform image r c.request c.k in
      let now = or_false (drops_commit g x) _ calm in
      let other = no_power_up g c.request _ now.0 in
      let same = refused_call image r c.request other refl (off_refused image r c.request other down) c.k in
      let out = same.0 g in
      let late : cond (ends_commit g x) [] (until_decided g (played o.image o.reply.next cs))
      ≡ until_decided g (played image r cs) =
      if_false _ _ (false_and _ out) ∙ ap₂ (λ a b. until_decided g (played a b cs)) same.1 same.2 in
      false_or (false_and _ out)
      (ap (any_of (commit_cut g)) late
      ∙ off_run cs image r down (sym (ap (any_of (drops_commit g)) late) ∙ now.1))

  -- from a point on where the commit is open
  open_run : Grouped s g → (calls : List Call) (image : List ℕ) (r : Record)
      → IfOpen image r (until_decided g (played image r calls))
  unfolding played until_decided
  open_run group [] image r n w = ended n
  open_run group (c ∷ cs) image r n w =
      let o = perform image r c.request c.k in
      told_first n (called image r c.request c.k) (played o.image o.reply.next cs)
      (turn s g m₀ group image r w c.request c.k)
      (open_run group cs o.image o.reply.next)
      (off_run cs o.image o.reply.next)

-- ---- the start

module _ (image : List ℕ) (r : Record) (i : ℕ) (context : List ℕ) (full : length context ≡ (shape_of image).context)
    (z : forecast_number image r i ≡ 0)
  where
    abbrev started : ℕ → List Call → List AnsweredCall
    started k calls = played image r (record { request = Start i context; k = k } ∷ calls)

    abbrev members : ℕ
    members = start_group image r i

    from_start : (k : ℕ) (calls : List Call)
        → Told (start_shape image r i) members (start_memory image r i) 0 (until_decided members (started k calls))
    unfolding played
    from_start k calls =
        let o = perform image r (Start i context) k in
        let boards = start_grouped image r i context full z in
        let given = start_giving image r i context full z in
        let rest = played o.image o.reply.next calls in
        told_first _ members (start_memory image r i) 0 (called image r (Start i context) k) rest
        (λ calm. given_turn _ members (start_memory image r i) boards given k)
        (open_run _ members (start_memory image r i) boards calls o.image o.reply.next)
        (off_run (start_shape image r i) members (start_memory image r i) calls o.image o.reply.next)

    start_done : (k : ℕ) (calls : List Call)
        → any_of (λ x. drops_commit members x || is_cut x) (until_decided members (started k calls)) ≡ false
        → (answer_of image r (Start i context) k).status ≡ 0
    unfolding any_of until_decided played
    start_done k calls calm =
        let x = called image r (Start i context) k in
        let first_calm = (or_false (drops_commit members x || is_cut x) _ calm).0 in
        let whole = (or_false (drops_commit members x) (is_cut x) first_calm).1 in
        let ended = done_or_cut image refl r (Start i context) (start_taken image r i context full z) k in
        ⊎_elim (λ e. e) (λ e. clash (ap (λ n. eqb n 9) e) whole) ended

-- ---- the claims

-- a start with the number of the forecast is answered alike
start_alike : (image : List ℕ) (r : Record) (i : ℕ) (context : List ℕ) (k : ℕ)
    → refusal_at image r (Start i context) ≡ forecast_number image r i
    → StartForetold (commit_forecast image r i) (answer_of image r (Start i context) k)
unfolding commit_forecast refuse
start_alike image r i context k same =
    let n = forecast_number image r i in
    let stores = commit_cost (start_shape image r i) (start_memory image r i) (start_group image r i) in
    record {
      refused =
          λ some.
          let other : n ≢ 0 = λ z. some (forecast_status image r i ∙ z) in
          ap (λ o. o.reply.answer) (turned_down image refl r (Start i context) (λ z. other (sym same ∙ z)) k)
          ∙ rw (same, answered_refused {n = n} _ stores other);
      taken = λ z. done_or_cut image refl r (Start i context) (same ∙ sym (forecast_status image r i) ∙ z) k;
    }

-- the first tests give 11, 12 or 1, never 14
three_tests : (a b c : Bool) → ◌≢◌ {A = ℕ} (cond a 11 (cond b 12 (cond c 1 0))) 14
three_tests true b c e = omega arith
three_tests false true c e = omega arith
three_tests false false true e = omega arith
three_tests false false false e = omega arith

entry_numbers : (image : List ℕ) (r : Record) (i : ℕ) → first (entry_tests image r i) ≢ 14
unfolding entry_tests first
entry_numbers image r i =
    let p = (shape_of image).boards in three_tests (not (in_order 0 image)) (bad_record p r) (leb p i)

pub commit_refused_alike : CommitRefusedAlike
unfolding refusals start_tests first refuse
commit_refused_alike image r i context k =
    (λ full. start_alike image r i context k (start_number image r i context full), other_length)
  where
    entry_number : ℕ
    entry_number = first (entry_tests image r i)

    own_tests : List Test
    own_tests = start_tests (start_shape image r i) r (length context)

    open_test : List Test
    open_test = test (not (eqb (engaged r) 0)) 14 ∷ []

    status_is : {n : ℕ} → n ≢ 0 → refusal_at image r (Start i context) ≡ n
        → (answer_of image r (Start i context) k).status ≡ n
    status_is some e =
        ap (λ o. o.reply.answer.status) (turned_down image refl r (Start i context) (λ z. some (sym e ∙ z)) k) ∙ e

    foretold_as : {n : ℕ} → forecast_number image r i ≡ n
        → without_context (commit_forecast image r i) ≡ cond (eqb n 0 || eqb n 14) 3 n
    foretold_as e = ap (λ n. cond (eqb n 0 || eqb n 14) 3 n) (forecast_status image r i ∙ e)

    other_length : length context ≢ (shape_of image).context
        → (answer_of image r (Start i context) k).status ≡ without_context (commit_forecast image r i)
    other_length short =
        ⊎_elim
        (λ (z : eqb entry_number 0 ≡ true).
        let on = eqb-true entry_number 0 z in
        let long = ne_eqb (length context) (shape_of image).context short in
        let three = entry_goes_on image r i own_tests on ∙ first_held 3 open_test (ap not long) in
        let last = entry_goes_on image r i open_test on in
        status_is (λ n. omega arith) three
        ∙ sym (⊎_elim
        (λ (e : eqb (engaged r) 0 ≡ true). foretold_as (last ∙ first_passed 14 [] (ap not e)))
        (λ (e : eqb (engaged r) 0 ≡ false). foretold_as (last ∙ first_held 14 [] (ap not e)))
        (decide (eqb (engaged r) 0))))
        (λ (z : eqb entry_number 0 ≡ false).
        let some = eqb-false entry_number 0 z in
        let other = ne_eqb entry_number 14 (entry_numbers image r i) in
        status_is some (first_stops (entry_tests image r i) own_tests some)
        ∙ sym (foretold_as (first_stops (entry_tests image r i) open_test some) ∙ rw (z, other)))
        (decide (eqb entry_number 0))

pub commit_forecast_right : CommitForecastRight
commit_forecast_right image r i context k calls full taken =
    let z = sym (forecast_status image r i) ∙ taken in
    rw (forecast_figures image r i z)
    (λ calm.
    let t = (from_start image r i context full z k calls).sums calm in
    let counted = commit_counted (start_shape image r i) (start_group image r i) (start_memory image r i) in
    (start_done image r i context full z k calls calm, t.0, λ d. let sum = t.1 d in omega arith))

pub supply_suffices : SupplySuffices
supply_suffices image r i context k calls supply full taken =
    let z = sym (forecast_status image r i) ∙ taken in
    rw (forecast_figures image r i z)
    (λ given calm.
    let counted = commit_counted (start_shape image r i) (start_group image r i) (start_memory image r i) in
    (from_start image r i context full z k calls).suffices supply (omega (arith, given.0)) given.1 calm)
