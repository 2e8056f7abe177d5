-- A context given to the commit of g, by a start or an acknowledgement: it stays open, is decided, or the call is cut.
use Prim.Native.Nat.{ℕ, suc, ◌+◌, ◌*◌, ◌≤◌, ◌<◌}
use mathlib.Core.Path.{◌≡◌, refl, sym, ◌∙◌, ap, subst}
use mathlib.Core.Bool.{true, false, ◌||◌}
use mathlib.Core.List.{List, ◌++◌, append-nil}
use mathlib.Core.Logic.{⊎_elim}
use lib.Dec.{eqb}
use lib.ListN.{length, length-append}
use lib.Seq.{take-length}
use native.Mathlib.Omega.{arith}
use borrow.Author.Tests.{eqb-true, eqb-false}
use Rattle.boards.specs.Lists.{any_of}
use Rattle.boards.specs.Boards.{has, with_board, tagged_in}
use Rattle.boards.proofs.Basics.{decide, true_and, or_true, or_right, true_or, test_ext, row_fits}
use Rattle.boards.proofs.Groups.{below_or, count, larger_count, has_with, has_below, has_ext, mask_below}
use Rattle.boards.proofs.Groups.{count_same, count_with}
use Rattle.volatile.specs.Volatile.{engaged, commit_of, clear, acknowledge}
use Rattle.volatile.specs.declared.Record.{Record}
use Rattle.protocol.specs.Image.{Memory, Tags, Tentative, Put, rank, after, view}
use Rattle.protocol.specs.Calls.{Request, Acknowledge, first, refusals, placing, deciding, acknowledging, Plan, plan}
use Rattle.protocol.specs.Calls.{Outcome, perform}
use Rattle.protocol.specs.declared.Shape.{Shape}
use Rattle.protocol.proofs.Copies.{length_placing}
use Rattle.protocol.proofs.Safety.{given_puts, deciding_stores}
use Rattle.protocol.proofs.Counts.{length_deciding}
use Rattle.protocol.proofs.Outcomes.{decisive}
use Rattle.protocol.proofs.Plans.{given_inside, inside_indecisive, decided_after}
use Rattle.protocol.proofs.Refusals.{begun, acknowledge_passed}
use Rattle.costs.specs.Claims.{is_done, commit_request, of_commit}
use Rattle.costs.proofs.Answers.{done_answer, done_finished, cut_nine, done_or_cut}
use Rattle.costs.proofs.Counted.{deciding_cost, figure}
use Rattle.costs.proofs.Kept.{tags_kept, placing_apart}
use Rattle.costs.proofs.Opened.{called, Grouped, Open, gives, ends, stops, Turned}

-- the stores of board i's context and of the commit of g, which it completes
module _ (s : Shape) (m : Memory) (i g : ℕ) (context : List ℕ) where
  -- the context leaves the tags
  pub given_tags : (b : ℕ) → tagged_in g (after (given_puts s m i g context) m Tags b) ≡ tagged_in g (m Tags b)
  unfolding rank
  given_tags b = tags_kept m (placing_apart Tentative (i * s.context) context (omega arith)) b

  -- all stores, counted in any memory in which the same blocks are tagged in g
  pub deciding_length : length context ≡ s.context → (m₀ : Memory)
      → ((b : ℕ) → tagged_in g (m Tags b) ≡ tagged_in g (m₀ Tags b))
      → length (deciding_stores s m i g context) ≡ deciding_cost s g m₀
  deciding_length full m₀ tags =
      let puts = given_puts s m i g context in
      let same = count_same s.blocks _ (λ b. tagged_in g (m₀ Tags b)) (λ b l. given_tags b ∙ tags b) in
      length-append puts (deciding s (after puts m) g)
      ∙ rw (length_placing Tentative (i * s.context) context ∙ full, length_deciding s (after puts m) g, same)

module _ (s : Shape) (g : ℕ) (m₀ : Memory) where
  -- a call of board i, taken, that gives a context to the commit of g, open in `before`, which n have acknowledged
  pub record Giving (n : ℕ) (image : List ℕ) (r : Record) (request : Request) (before : Record) (i : ℕ)
      (context : List ℕ) : Type 0
    where
      pub before_it : Open s g m₀ image before n
      pub passed : first (refusals image s (view s image) r request) ≡ 0
      pub planned : plan s (view s image) r request ≡ acknowledging s (view s image) before i context
      pub own : commit_request g request ≡ true
      pub board : i < s.boards
      pub full : length context ≡ s.context
      pub member : has g i ≡ true
      pub awaited : has before.commit.acknowledged i ≡ false

  module _ (group : Grouped s g) {n : ℕ} {image : List ℕ} {r : Record} {request : Request} {before : Record} {i : ℕ}
      {context : List ℕ} (h : Giving n image r request before i context)
    where
      abbrev m : Memory
      m = view s image

      abbrev acks : ℕ
      acks = with_board before.commit.acknowledged i

      abbrev context_puts : List Put
      context_puts = placing Tentative (i * s.context) context

      one_more : count s.boards (has acks) ≡ suc n
      one_more =
          count_with s.boards before.commit.acknowledged i group.few h.board h.awaited
          ∙ ap suc h.before_it.given

      context_length : length context_puts ≡ s.context
      context_length = length_placing Tentative (i * s.context) context ∙ h.full

      context_tags : (b : ℕ) → tagged_in g (after context_puts m Tags b) ≡ tagged_in g (m₀ Tags b)
      context_tags b = given_tags s m i g context b ∙ h.before_it.tags b

      -- acknowledged boards are members
      pub acks_inside : (j : ℕ) → has acks j ≡ true → has g j ≡ true
      acks_inside j y =
          let old = before.commit.acknowledged in
          let l = has_below 16 acks j (mask_below 16 (λ j. has old j || eqb i j)) y in
          ⊎_elim (h.before_it.inside j) (λ e. subst (λ c. has g c ≡ true) (eqb-true i j e) h.member)
          (or_true (has old j) (eqb i j) (sym (has_with old i j l) ∙ y))

      -- if as many have acknowledged as there are members, all have
      pub acks_less : eqb acks g ≡ false → suc n < count s.boards (has g)
      acks_less e =
          let most = larger_count s.boards (has acks) (has g) acks_inside in
          ⊎_elim
          (λ l. l)
          (λ l.
          let same : (j : ℕ) → j < 16 → has acks j ≡ has g j =
          λ j k. test_ext _ _ (acks_inside j) (λ y. most.1 (omega (arith, one_more)) j (group.below j y) ∙ y) in
          absurd (eqb-false acks g e (has_ext 16 acks g (mask_below 16 _) group.small same)))
          (below_or (suc n) (count s.boards (has g)))

      -- ---- by whether all have acknowledged

      abbrev the_plan : Plan
      the_plan = plan s m r request

      plan_group : the_plan.group ≡ g
      unfolding acknowledging commit_of acknowledge
      plan_group = ap (λ p. p.group) h.planned ∙ h.before_it.members

      pub some_stores : eqb acks g ≡ false → the_plan.stores ≡ context_puts
      unfolding acknowledging commit_of acknowledge
      some_stores e =
          ap (λ p. p.stores) h.planned
          ∙ rw (ap (eqb acks) h.before_it.members ∙ e) (append-nil context_puts)

      pub some_next : eqb acks g ≡ false → the_plan.next ≡ acknowledge before i
      unfolding acknowledging commit_of acknowledge
      some_next e = ap (λ p. p.next) h.planned ∙ rw (ap (eqb acks) h.before_it.members ∙ e)

      pub all_stores : eqb acks g ≡ true → the_plan.stores ≡ context_puts ++ deciding s (after context_puts m) g
      unfolding acknowledging commit_of acknowledge
      all_stores e =
          ap (λ p. p.stores) h.planned
          ∙ rw (ap (eqb acks) h.before_it.members ∙ e)
          (ap (λ x. context_puts ++ deciding s (after context_puts m) x) h.before_it.members)

      pub all_next : eqb acks g ≡ true → the_plan.next ≡ clear (acknowledge before i) g
      unfolding acknowledging commit_of acknowledge
      all_next e =
          ap (λ p. p.next) h.planned
          ∙ rw (ap (eqb acks) h.before_it.members ∙ e) (ap (clear (acknowledge before i)) h.before_it.members)

      pub all_length : eqb acks g ≡ true → length the_plan.stores ≡ deciding_cost s g m₀
      all_length e = ap length (all_stores e) ∙ deciding_length s m i g context h.full m₀ h.before_it.tags

      abbrev outcome : ℕ → Outcome
      outcome k = perform image r request k

      -- the call is one of the commit's, since it is not refused
      pub own_call : (k : ℕ) → of_commit g (called image r request k) ≡ true
      own_call k =
          true_and h.own
          (⊎_elim
          (λ e. true_or _ (ap (λ a. eqb a 0) e))
          (λ e. or_right (is_done (called image r request k)) (ap (λ a. eqb a 9) e))
          (done_or_cut image h.before_it.shape r request h.passed k))

      -- some have not: the context alone is stored
      module _ (e : eqb acks g ≡ false) (k : ℕ) (l : s.context ≤ k) where
        pub some_long : length the_plan.stores ≤ k
        some_long = rw (some_stores e, context_length) l

        pub some_answer : (outcome k).reply.answer
            ≡ record { status = 0; decided = false; group = g; stores = s.context }
        some_answer =
            let quiet = inside_indecisive (given_inside s i context h.board h.full) in
            done_answer image h.before_it.shape r request h.passed k some_long
            ∙ rw (some_stores e, plan_group, context_length, quiet)

        pub some_acks : (outcome k).reply.next.commit.acknowledged ≡ acks
        unfolding acknowledge
        some_acks =
            ap (λ x. x.commit.acknowledged)
            ((done_finished image h.before_it.shape r request h.passed k some_long).next ∙ some_next e)

        pub some_open : Open s g m₀ (outcome k).image (outcome k).reply.next (suc n)
        unfolding acknowledge
        some_open =
            let f = done_finished image h.before_it.shape r request h.passed k some_long in
            record {
              shape = f.sound.shape;
              members = ap (λ x. x.commit.members) (f.next ∙ some_next e) ∙ h.before_it.members;
              inside = λ j y. acks_inside j (sym (ap (λ x. has x j) some_acks) ∙ y);
              given = ap (λ x. count s.boards (has x)) some_acks ∙ one_more;
              less = acks_less e;
              tags = λ b.
                  ap (λ x. tagged_in g (x Tags b)) (f.memory ∙ ap (λ ps. after ps m) (some_stores e)) ∙ context_tags b;
            }

      -- all have: the commit is decided
      pub all_count : eqb acks g ≡ true → suc n ≡ count s.boards (has g)
      all_count e = sym one_more ∙ ap (λ x. count s.boards (has x)) (eqb-true acks g e)

      pub all_answer : eqb acks g ≡ true → (k : ℕ) → deciding_cost s g m₀ ≤ k
          → (outcome k).reply.answer ≡ record { status = 0; decided = true; group = g; stores = deciding_cost s g m₀ }
      all_answer e k l =
          let ps = the_plan.stores in
          let decided : any_of decisive ps ≡ true =
          ap (any_of decisive) (sym (take-length ps))
          ∙ rw (all_length e, all_stores e)
          (decided_after s m i g context (deciding_cost s g m₀) (omega (arith, h.full)))
          in
          done_answer image h.before_it.shape r request h.passed k (rw (all_length e) l)
          ∙ rw (decided, plan_group, all_length e)

      given_cut : (k : ℕ) → k < length the_plan.stores → k + n * s.context < figure s g m₀
          → Turned s g m₀ n image r request k
      given_cut k l less =
          stops (own_call k) (ap (λ x. eqb x 9) (cut_nine image h.before_it.shape r request h.passed k l)) less

      pub given_turn : (k : ℕ) → Turned s g m₀ n image r request k
      given_turn k =
          ⊎_elim
          (λ (e : eqb acks g ≡ true).
          let each = ap (λ x. x * s.context) (all_count e) in
          ⊎_elim
          (λ l. given_cut k (rw (all_length e) l) (omega (arith, each)))
          (λ l. ends (own_call k) (all_answer e k l) (all_count e))
          (below_or k (deciding_cost s g m₀)))
          (λ (e : eqb acks g ≡ false).
          let fits = row_fits s.context (count s.boards (has g)) n (omega (arith, acks_less e)) in
          ⊎_elim
          (λ l. given_cut k (rw (some_stores e, context_length) l) (omega (arith, fits)))
          (λ l. gives (own_call k) (some_answer e k l) (some_open e k l))
          (below_or k s.context))
          (decide (eqb acks g))

  -- an acknowledgement that is taken while the commit is open
  pub acknowledge_giving : {n : ℕ} {image : List ℕ} {r : Record} (i : ℕ) (context : List ℕ) → Open s g m₀ image r n
      → first (refusals image s (view s image) r (Acknowledge i context)) ≡ 0
      → Giving n image r (Acknowledge i context) r i context
  unfolding refusals plan commit_request engaged commit_of
  acknowledge_giving {image = image} {r} i context w passed =
      let b = begun image r i _ w.shape passed in
      let p = acknowledge_passed s r i (length context) b.1 in
      let member = sym (ap (λ x. has x i) w.members) ∙ p.member in
      record {
        before_it = w;
        passed = passed;
        planned = refl;
        own = member;
        board = b.0.board;
        full = p.full;
        member = member;
        awaited = p.awaited;
      }
