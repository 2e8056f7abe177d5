-- The numbers of a decided commit are right: what stood in the image when it was decided, and the stores of the call.
use Prim.Native.Nat.{ℕ, ◌+◌, ◌-◌, ◌*◌}
use mathlib.Core.Path.{◌≡◌, refl, sym, ◌∙◌, ap, subst, fun_ext}
use mathlib.Core.Bool.{false}
use mathlib.Core.List.{List}
use mathlib.Core.Logic.{⊎_elim}
use lib.ListN.{length, take}
use lib.Seq.{take_all}
use native.Mathlib.Omega.{arith}
use borrow.Author.Tests.{lt-leb}
use Rattle.boards.specs.Boards.{has}
use Rattle.boards.proofs.Basics.{and_false, take_append}
use Rattle.boards.proofs.Groups.{below_or, set_split}
use Rattle.volatile.specs.declared.Record.{Record}
use Rattle.protocol.specs.Image.{Memory, Tentative, rank, change, after, shape_of, view}
use Rattle.protocol.specs.Calls.{Request, stored_group, deciding, acknowledging, Plan, plan, perform}
use Rattle.protocol.specs.declared.Shape.{Shape}
use Rattle.protocol.proofs.Memory.{after_append}
use Rattle.protocol.proofs.Copies.{length_placing}
use Rattle.protocol.proofs.Safety.{given_puts, decision, deciding_stores}
use Rattle.costs.specs.Forecasts.{those, boards_of, tagged_blocks, blocks_cost}
use Rattle.costs.proofs.Answers.{done_answer, cut_stopped, cut_nine}
use Rattle.costs.proofs.Counted.{length_those, blocks_counted}
use Rattle.costs.proofs.Given.{given_tags, deciding_length}
use Rattle.page.specs.Saving.{saved}
use Rattle.page.specs.Claims.{DecidedSo, CommitsRight}
use Rattle.page.proofs.Decisions.{all_acknowledged, gives_decides, Decides}
use Rattle.page.proofs.Bounds.{decides, saves}

-- the context, bytes 10 and 11 and the deciding store
at_decision : (s : Shape) (m : Memory) (i g : ℕ) (context : List ℕ) → length context ≡ s.context
    → after (take (s.context + 3) (deciding_stores s m i g context)) m ≡ decision s m i g context
unfolding deciding decision after
at_decision s m i g context full =
    let puts = given_puts s m i g context in
    let long = length_placing Tentative (i * s.context) context in
    let three : s.context + 3 - length puts ≡ 3 = omega arith in
    rw (take_append (s.context + 3) puts, three, take_all (s.context + 3) puts (omega arith), after_append)

-- they leave as many blocks tagged in g as there were
tagged_still : (s : Shape) (m : Memory) (i g : ℕ) (context : List ℕ)
    → length (tagged_blocks s (decision s m i g context) g) ≡ length (tagged_blocks s m g)
unfolding tagged_blocks decision change rank
tagged_still s m i g context = ap (λ p. length (those s.blocks p)) (fun_ext (given_tags s m i g context))

-- ---- a call that decided

module _ {image : List ℕ} {r : Record} {request : Request} {k : ℕ} (d : Decides image r request k) where
  abbrev s : Shape
  s = shape_of image

  abbrev m : Memory
  m = view s image

  abbrev the_plan : Plan
  the_plan = plan s m r request

  abbrev g : ℕ
  g = the_plan.group

  planned_stores : the_plan.stores ≡ deciding_stores s m d.i g d.context
  unfolding acknowledging
  planned_stores =
      subst (λ p. p.stores ≡ deciding_stores s m d.i p.group d.context) (sym d.gives.planned)
      (rw d.all)

  planned_length : length the_plan.stores
      ≡ s.context + (4 + length (tagged_blocks s m g) * (s.size + 1) + length (boards_of s g) * s.context)
  unfolding blocks_cost boards_of
  planned_length =
      let long = ap length planned_stores ∙ deciding_length s m d.i g d.context d.gives.full m (λ b. refl) in
      let boards = ap (λ n. n * s.context) (length_those s.boards (has g)) in
      omega (arith, blocks_counted s g m)

  -- the memory that its deciding store leaves
  decided_memory : view s (perform image r request (s.context + 3)).image ≡ decision s m d.i g d.context
  decided_memory =
      (cut_stopped image refl r request d.gives.passed (s.context + 3) (omega (arith, planned_length))).memory
      ∙ rw planned_stores (at_decision s m d.i g d.context d.gives.full)

  -- with any allowance: done, it made all its stores and answers its group
  done_so : (n : ℕ) → (perform image r request n).reply.answer.status ≡ 0
      → ((perform image r request n).reply.answer.stores ≡ length the_plan.stores)
      × ((perform image r request n).reply.answer.group ≡ g)
  done_so n e =
      let z = d.gives.passed in
      ⊎_elim
      (λ l. absurd (omega (arith, cut_nine image refl r request z n l)))
      (λ l. let a = done_answer image refl r request z n l in (ap (λ a. a.stores) a, ap (λ a. a.group) a))
      (below_or n (length the_plan.stores))

  decided_right : DecidedSo s (view s (perform image r request (s.context + 3)).image)
      (λ n. (perform image r request n).reply.answer)
      (saved s m g)
  unfolding saved decision change rank stored_group
  decided_right =
      rw decided_memory
      (record {
        decision = refl;
        members = set_split g;
        blocks = tagged_still s m d.i g d.context;
        bytes = refl;
        stores = λ n e. (done_so n e).0 ∙ planned_length;
        group = λ n e. (done_so n e).1;
      })

  -- not before its third store after the context
  undecided_before : (perform image r request (s.context + 2)).reply.answer.decided ≡ false
  undecided_before =
      gives_decides image r d.gives (s.context + 2)
      ∙ and_false (all_acknowledged d.before d.i) (lt-leb (s.context + 3) (s.context + 2) (omega arith))

pub commits_right : CommitsRight
commits_right p request c d =
    let s = shape_of p.image in
    let call = perform p.image p.state request in
    let by_then = view s (call (s.context + 3)).image in
    let how = decides p request d in (
      undecided_before how,
      subst (DecidedSo s by_then (λ n. (call n).reply.answer)) (saves p request d) (decided_right how),
    )
