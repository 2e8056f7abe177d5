-- What a forecast answers, and a call that is taken, by its plan and its allowance.
use Prim.Native.Nat.{ℕ, ◌≤◌, ◌<◌}
use mathlib.Core.Path.{◌≡◌, sym, ◌∙◌, ap, subst}
use mathlib.Core.Bool.{true, false}
use mathlib.Core.List.{List, map}
use mathlib.Core.Logic.{⊎_elim, ◌≢◌, ◌⊎◌, inl, inr}
use lib.Dec.{eqb, ltb}
use lib.ListN.{length, take, length-map}
use lib.Seq.{take_all}
use native.Mathlib.Omega.{arith}
use borrow.Author.Tests.{eqb-true, ne_eqb, le-ltb}
use Rattle.boards.specs.Lists.{any_of}
use Rattle.boards.proofs.Basics.{decide, All}
use Rattle.boards.proofs.Groups.{below_or}
use Rattle.volatile.specs.declared.Record.{Record}
use Rattle.protocol.specs.Image.{raw, shape_of, view}
use Rattle.protocol.specs.Calls.{Request, first, refusals, Plan, plan, executed, perform}
use Rattle.protocol.specs.declared.Shape.{Shape}
use Rattle.protocol.proofs.Bridge.{Sound, Valid}
use Rattle.protocol.proofs.Outcomes.{decisive, made_decides, taken}
use Rattle.protocol.proofs.Outcomes.{cut_status, Finished, Stopped, Result, turned_away, stopped, finished, result}
use Rattle.protocol.proofs.Plans.{plan_valid}
use Rattle.costs.specs.Forecasts.{refused, answered}

-- a forecast answers its refusal, or group and figure
pub answered_status : (n group stores : ℕ) → (answered n group stores).status ≡ n
unfolding answered
answered_status n group stores =
    ⊎_elim
    (λ (e : eqb n 0 ≡ true). rw e (sym (eqb-true n 0 e)))
    (λ (e : eqb n 0 ≡ false). rw e)
    (decide (eqb n 0))

pub answered_refused : {n : ℕ} (group stores : ℕ) → n ≢ 0 → answered n group stores ≡ refused n
unfolding answered
answered_refused {n} group stores some = rw (ne_eqb n 0 some)

pub answered_taken : {n : ℕ} (group stores : ℕ) → n ≡ 0
    → answered n group stores ≡ record { status = 0; group = group; stores = stores }
unfolding answered
answered_taken group stores z = rw z

module _ {s : Shape} (image : List ℕ) (same : shape_of image ≡ s) (r : Record) (request : Request)
    (passed : first (refusals image s (view s image) r request) ≡ 0)
  where
    abbrev the_plan : Plan
    the_plan = plan s (view s image) r request

    taken_valid : Sound s image × All (Valid s) the_plan.stores
    taken_valid =
        subst
        (λ t. first (refusals image t (view t image) r request) ≡ 0
        → Sound t image × All (Valid t) (plan t (view t image) r request).stores)
        same (plan_valid image r request) passed

    pub done_answer : (k : ℕ) → length the_plan.stores ≤ k
        → (perform image r request k).reply.answer
        ≡ record {
          status = 0;
          decided = any_of decisive the_plan.stores;
          group = the_plan.group;
          stores = length the_plan.stores;
        }
    unfolding executed
    done_answer k l =
        let ps = the_plan.stores in
        let long : ltb k (length (map (raw s) ps)) ≡ false = rw (length-map ps (raw s)) (le-ltb k (length ps) l) in
        let all : take k (map (raw s) ps) ≡ map (raw s) ps = take_all k _ (rw (length-map ps (raw s)) l) in
        let decided = made_decides s k ps taken_valid.1 ∙ ap (any_of decisive) (take_all k ps l) in
        ap (λ o. o.reply.answer) (taken image same r request passed k)
        ∙ rw (long, decided, all, length-map ps (raw s))

    ends_so : (k : ℕ) → Result s image r request k
    ends_so k = result taken_valid.0 r request k (λ z. taken_valid.1)

    pub done_finished : (k : ℕ) → length the_plan.stores ≤ k
        → Finished s (view s image) the_plan (perform image r request k)
    done_finished k l = go (ends_so k)
      where
        go : Result s image r request k → Finished s (view s image) the_plan (perform image r request k)
        go (turned_away v a b c e) = absurd (e passed)
        go (stopped e f) = let short = f.short in absurd (omega arith)
        go (finished e k f) = f

    pub cut_stopped : (k : ℕ) → k < length the_plan.stores
        → Stopped s (view s image) the_plan k (perform image r request k)
    cut_stopped k l = go (ends_so k)
      where
        go : Result s image r request k → Stopped s (view s image) the_plan k (perform image r request k)
        go (turned_away v a b c e) = absurd (e passed)
        go (stopped e f) = f
        go (finished e k f) = absurd (omega arith)

    pub cut_nine : (k : ℕ) → k < length the_plan.stores → (perform image r request k).reply.answer.status ≡ 9
    cut_nine k l = cut_status (perform image r request k) (cut_stopped k l).ended

    pub done_or_cut : (k : ℕ) → ((perform image r request k).reply.answer.status ≡ 0)
        ⊎ ((perform image r request k).reply.answer.status ≡ 9)
    done_or_cut k =
        ⊎_elim (λ l. inr (cut_nine k l)) (λ l. inl (ap (λ a. a.status) (done_answer k l)))
        (below_or k (length the_plan.stores))
