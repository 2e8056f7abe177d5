-- The commit of one component: a start and its acknowledgements, each answered as is due.
use Prim.Native.Nat.{ℕ, suc, ◌*◌, ◌^◌, ◌≤◌, ◌<◌}
use mathlib.Core.Path.{◌≡◌, refl, sym, ◌∙◌, ap, subst}
use mathlib.Core.Bool.{Bool, true, false, ◌&&◌, ◌||◌, not, cond, or-false as or-none, and-true as and_yes}
use mathlib.Core.List.{List, [], ◌∷◌}
use mathlib.Core.Logic.{⊎_elim}
use lib.Dec.{eqb, ltb, eqb-suc-zero}
use lib.ListN.{length}
use lib.Seq.{take-length}
use native.Mathlib.Omega.{arith}
use native.Mathlib.Nat.{add-zero}
use borrow.Author.Tests.{lt-leb, eq-eqb, eqb-true, ltb-false}
use Rattle.boards.specs.Lists.{any_of}
use Rattle.boards.specs.Boards.{has, with_board, meets, tagged_in, Links, unlink, commit_group}
use Rattle.boards.proofs.Basics.{decide, clash, or_false, and_true, true_and, and_false, false_and, not_true, refute}
use Rattle.boards.proofs.Basics.{test_ext, or_right}
use Rattle.boards.proofs.Groups.{Bounded, has_ext, has_with, has_small, has_zero, mask_below, meets_yes, below_or}
use Rattle.boards.proofs.Groups.{has_none, count_none, count_some}
use Rattle.volatile.specs.Volatile.{closed, depends, engaged, left_open, opened, clear, acknowledge}
use Rattle.volatile.specs.declared.Record.{Record}
use Rattle.volatile.proofs.Records.{depends_clear}
use Rattle.protocol.specs.Image.{Memory, Tags, Tentative, rank, change, after, shape_of, view}
use Rattle.protocol.specs.Calls.{Request, Start, Acknowledge, Outcome, first, entry_tests, start_tests, refusals}
use Rattle.protocol.specs.Calls.{placing, acknowledging, plan, perform}
use Rattle.protocol.specs.declared.Shape.{Shape}
use Rattle.protocol.specs.Replies.{Answer}
use Rattle.protocol.proofs.Bridge.{Limits}
use Rattle.protocol.proofs.Copies.{placing_other}
use Rattle.protocol.proofs.Safety.{decision, decision_done, completed}
use Rattle.costs.specs.Forecasts.{boards_of}
use Rattle.costs.specs.Claims.{AnsweredCall, commit_request}
use Rattle.costs.proofs.Answers.{done_finished}
use Rattle.costs.proofs.Counted.{length_those, deciding_cost, blocks_counted}
use Rattle.costs.proofs.Opened.{called, Grouped, Open}
use Rattle.costs.proofs.Given.{Giving, acks_inside, some_stores, some_next, some_long, some_answer, some_acks}
use Rattle.costs.proofs.Given.{some_open, all_stores, all_next, all_length, all_answer, acknowledge_giving}
use Rattle.costs.proofs.Completes.{InOrder, done_leaves, acknowledge_taken}
use Rattle.shutdown.specs.Shutdown.{times, InAnyOrder, answer_due, call_due}
use Rattle.shutdown.specs.Shutdown.{acknowledgements_due, commit_due}
use Rattle.shutdown.proofs.Runs.{Leads, leads_none, leads_more}
use Rattle.shutdown.proofs.Times.{times_head, times_other}

-- an allowance that does not suffice for the stores that are due
abbrev pub short : AnsweredCall → Bool
short x = ltb x.k x.answer.stores

-- ---- who is awaited

-- The boards whose calls are still to come, in their order: the members of g that have not acknowledged.
abbrev pub Awaits : ℕ → ℕ → List ℕ → Type 0
Awaits g acknowledged js = (j : ℕ) → times j js ≡ cond (has g j && not (has acknowledged j)) 1 0

module _ (g : ℕ) (small : g < 2 ^ 16) (old i : ℕ) (js : List ℕ) (waits : Awaits g old (i ∷ js)) where
  first_awaited : (has g i ≡ true) × (has old i ≡ false)
  first_awaited =
      ⊎_elim
      (λ (y : has g i && not (has old i) ≡ true).
      let both = and_true (has g i) (not (has old i)) y in
      (both.0, not_true (has old i) both.1))
      (λ (y : has g i && not (has old i) ≡ false).
      let none : times i (i ∷ js) ≡ 0 = waits i ∙ ap (λ t. cond t 1 0) y in
      absurd (omega (arith, times_head i js)))
      (decide (has g i && not (has old i)))

  -- a board whose call is over is awaited no more
  awaits_less : Awaits g (with_board old i) js
  awaits_less j =
      ⊎_elim
      (λ (l : j < 16).
      let now = has_with old i j l in
      ⊎_elim
      (λ (q : eqb i j ≡ true).
      let gone : has (with_board old i) j ≡ true = now ∙ or_right (has old j) q in
      let own : times i (i ∷ js) ≡ 1 =
      waits i ∙ ap (λ t. cond t 1 0) (true_and first_awaited.0 (ap not first_awaited.1)) in
      let head = times_head i js in
      let none : times i js ≡ 0 = omega arith in
      ap (λ x. times x js) (sym (eqb-true i j q)) ∙ none
      ∙ sym (ap (λ t. cond t 1 0) (and_false (has g j) (ap not gone))))
      (λ (q : eqb i j ≡ false).
      let stays : has (with_board old i) j ≡ has old j = now ∙ ap (λ t. has old j || t) q ∙ or-none (has old j) in
      sym (times_other i j js q) ∙ waits j ∙ ap (λ t. cond (has g j && not t) 1 0) (sym stays))
      (decide (eqb i j)))
      (λ (l : 16 ≤ j).
      let out = has_small 16 g j small l in
      let none : times j (i ∷ js) ≡ 0 = waits j ∙ ap (λ t. cond t 1 0) (false_and (not (has old j)) out) in
      let apart : eqb i j ≡ false =
      refute (eqb i j) (λ q. clash (ap (has g) (sym (eqb-true i j q)) ∙ first_awaited.0) out) in
      sym (times_other i j js apart) ∙ none
      ∙ sym (ap (λ t. cond t 1 0) (false_and (not (has (with_board old i) j)) out)))
      (below_or j 16)

-- all are awaited before the start
awaits_all : (g : ℕ) (boards : List ℕ) → InAnyOrder g boards → Awaits g 0 boards
awaits_all g boards each j =
    each j ∙ ap (λ t. cond t 1 0) (sym (ap (λ t. has g j && not t) (has_zero j) ∙ and_yes (has g j)))

-- nobody is awaited exactly if all members have acknowledged
nobody_awaited : (g acks : ℕ) → g < 2 ^ 16 → acks < 2 ^ 16 → ((j : ℕ) → has acks j ≡ true → has g j ≡ true)
    → Awaits g acks [] → eqb acks g ≡ true
unfolding times
nobody_awaited g acks small few inside waits =
    eq-eqb acks g
    (has_ext 16 acks g few small
    (λ j l. test_ext _ _ (inside j)
    (λ y. ⊎_elim
    (λ e. e)
    (λ e.
    let one : 0 ≡ 1 = waits j ∙ ap (λ t. cond t 1 0) (true_and y (ap not e)) in
    absurd (omega arith))
    (decide (has acks j)))))

somebody_awaited : (g acks j : ℕ) (js : List ℕ) → g < 2 ^ 16 → Awaits g acks (j ∷ js) → eqb acks g ≡ false
somebody_awaited g acks j js small waits =
    refute (eqb acks g)
    (λ e.
    let h = first_awaited g small acks j js waits in
    clash (ap (λ x. has x j) (eqb-true acks g e) ∙ h.0) h.1)

-- The members g of a commit, the memory before the first call of all, the memory and the dependences at its start.
module _ (s : Shape) (limits : Limits s) (g : ℕ) (group : Grouped s g) (m₀ m : Memory) {d : Links} (b : Bounded 16 d)
    (context : ℕ → List ℕ) (full : (j : ℕ) → length (context j) ≡ s.context) (k : ℕ → ℕ)
  where
    -- the commit is open, n have acknowledged, tags and dependences are those of the start
    pub record Going (image : List ℕ) (r : Record) (n : ℕ) : Type 0 where
      pub opened : Open s g m₀ image r n
      pub sound : InOrder s image r
      pub rows : depends r ≡ d
      pub tags : (b : ℕ) → view s image Tags b ≡ m Tags b

    -- the commit is completed: its rows and columns are empty, its blocks have no tag
    pub record Gone (image : List ℕ) (r : Record) : Type 0 where
      pub shape : shape_of image ≡ s
      pub sound : InOrder s image r
      pub closed_now : engaged r ≡ 0
      pub rows : depends r ≡ unlink (has g) d
      pub tag_zero : (b : ℕ) → b < s.blocks → tagged_in g (m Tags b) ≡ true → view s image Tags b ≡ 0
      pub tag_left : (b : ℕ) → tagged_in g (m Tags b) ≡ false → view s image Tags b ≡ m Tags b

    -- the calls are answered as is due, and complete the commit
    pub record Completes (image : List ℕ) (r : Record) (due : List AnsweredCall) : Type 0 where
      pub image_after : List ℕ
      pub record_after : Record
      pub leads : Leads image r due image_after record_after
      pub gone : Gone image_after record_after

    -- ---- the answers that are due

    some_due : record { status = 0; decided = false; group = g; stores = s.context }
        ≡ answer_due s m₀ context k g false
    unfolding answer_due
    some_due = rw add-zero

    all_due : record { status = 0; decided = true; group = g; stores = deciding_cost s g m₀ }
        ≡ answer_due s m₀ context k g true
    unfolding answer_due boards_of
    all_due = rw (blocks_counted s g m₀, length_those s.boards (has g))

    -- ---- one call, by board i, whose commit is open in `before`

    module _ {n : ℕ} {image : List ℕ} {r : Record} {request : Request} {before : Record} (i : ℕ)
        (h : Giving s g m₀ n image r request before i (context i)) (small : r.commit.acknowledged < 2 ^ 16)
        (rows : depends before ≡ d) (tags : (b : ℕ) → view s image Tags b ≡ m Tags b)
      where
        abbrev acks : ℕ
        acks = with_board before.commit.acknowledged i

        -- the call with an answer
        abbrev told : Answer → AnsweredCall
        told a = record { request = request; k = k i; answer = a }

        abbrev outcome : Outcome
        outcome = perform image r request (k i)

        given_tags : (b : ℕ) → after (placing Tentative (i * s.context) (context i)) (view s image) Tags b ≡ m Tags b
        unfolding rank
        given_tags b =
            let ps = placing Tentative (i * s.context) (context i) in
            ap (λ qs. after qs (view s image) Tags b) (sym (take-length ps))
            ∙ placing_other Tentative (i * s.context) (context i) (view s image) (length ps) Tags b (omega arith)
            ∙ tags b

        decision_tags : (b : ℕ) → decision s (view s image) i g (context i) Tags b ≡ m Tags b
        unfolding decision change rank
        decision_tags b = given_tags b

        -- a commit with a member in the group is dropped
        dropped : engaged (clear (acknowledge before i) g) ≡ 0
        unfolding engaged clear left_open acknowledge closed
        dropped =
            let l : i < 16 = omega (arith, h.board, limits.most_boards) in
            let own : meets before.commit.members (has g) ≡ true =
            meets_yes before.commit.members (has g) i l (ap (λ x. has x i) h.before_it.members ∙ h.member)
            h.member in
            rw own

        -- not the last: it is done, and the commit goes on
        module _ (e : eqb acks g ≡ false) (l : s.context ≤ k i) where
          some_called : called image r request (k i) ≡ told (answer_due s m₀ context k g false)
          some_called = ap told (some_answer s g m₀ group h e (k i) l ∙ some_due)

          some_going : Going outcome.image outcome.reply.next (suc n)
          unfolding acknowledge depends
          some_going =
              let long = some_long s g m₀ group h e (k i) l in
              let f = done_finished image h.before_it.shape r request h.passed (k i) long in
              let stored = ap (λ ps. after ps (view s image)) (some_stores s g m₀ group h e) in
              let a = some_answer s g m₀ group h e (k i) l in
              record {
                opened = some_open s g m₀ group h e (k i) l;
                sound = done_leaves image r request (k i) h.before_it.shape small (ap (λ y. y.status) a);
                rows = ap depends (f.next ∙ some_next s g m₀ group h e) ∙ rows;
                tags = λ b. ap (λ x. x Tags b) (f.memory ∙ stored) ∙ given_tags b;
              }

        -- the last: it is done, and the commit is completed
        module _ (e : eqb acks g ≡ true) (l : deciding_cost s g m₀ ≤ k i) where
          all_called : called image r request (k i) ≡ told (answer_due s m₀ context k g true)
          all_called = ap told (all_answer s g m₀ group h e (k i) l ∙ all_due)

          all_gone : Gone outcome.image outcome.reply.next
          unfolding acknowledge depends
          all_gone =
              let f =
              done_finished image h.before_it.shape r request h.passed (k i)
              (rw (all_length s g m₀ group h e) l) in
              let stored = ap (λ ps. after ps (view s image)) (all_stores s g m₀ group h e) in
              let a = all_answer s g m₀ group h e (k i) l in
              let now = acknowledge before i in
              let next = f.next ∙ all_next s g m₀ group h e in
              let m₁ = decision s (view s image) i g (context i) in
              let memory = f.memory ∙ stored ∙ decision_done s (view s image) i g (context i) in
              let c = completed s limits.some_size m₁ g in
              record {
                shape = f.sound.shape;
                sound = done_leaves image r request (k i) h.before_it.shape small (ap (λ y. y.status) a);
                closed_now = ap engaged next ∙ dropped;
                rows =
                    ap depends next ∙ depends_clear now (subst (Bounded 16) (sym rows) b) g ∙ ap (unlink (has g)) rows;
                tag_zero = λ b l t.
                    ap (λ x. x Tags b) memory ∙ c.tag_zero b l (ap (tagged_in g) (decision_tags b) ∙ t);
                tag_left = λ b t.
                    ap (λ x. x Tags b) memory ∙ c.tag_left b (ap (tagged_in g) (decision_tags b) ∙ t)
                    ∙ decision_tags b;
              }

        -- the last call of the commit
        last_call : Awaits g before.commit.acknowledged (i ∷ [])
            → any_of short (call_due s m₀ context k g request i 0 ∷ []) ≡ false
            → Completes image r (call_due s m₀ context k g request i 0 ∷ [])
        unfolding any_of
        last_call waits enough =
            let old = before.commit.acknowledged in
            let e =
            nobody_awaited g acks group.small (mask_below 16 _) (acks_inside s g m₀ group h)
            (awaits_less g group.small old i [] waits) in
            let l : deciding_cost s g m₀ ≤ k i =
            subst (λ a. a.stores ≤ k i) (sym all_due) (ltb-false (k i) _ (or_false _ false enough).0) in
            record {
              image_after = outcome.image;
              record_after = outcome.reply.next;
              leads = leads_more (call_due s m₀ context k g request i 0) (all_called e l) leads_none;
              gone = all_gone e l;
            }

        -- a call that others follow
        earlier_call : (j : ℕ) (js : List ℕ) → Awaits g before.commit.acknowledged (i ∷ j ∷ js)
            → any_of short
            (call_due s m₀ context k g request i (suc (length js)) ∷ acknowledgements_due s m₀ context k g (j ∷ js))
            ≡ false
            → ((image : List ℕ) (r : Record) → Going image r (suc n) → Awaits g r.commit.acknowledged (j ∷ js)
            → any_of short (acknowledgements_due s m₀ context k g (j ∷ js)) ≡ false
            → Completes image r (acknowledgements_due s m₀ context k g (j ∷ js)))
            → Completes image r
            (call_due s m₀ context k g request i (suc (length js)) ∷ acknowledgements_due s m₀ context k g (j ∷ js))
        unfolding any_of
        earlier_call j js waits enough rest =
            let due = acknowledgements_due s m₀ context k g (j ∷ js) in
            let old = before.commit.acknowledged in
            let less = awaits_less g group.small old i (j ∷ js) waits in
            let e = somebody_awaited g acks j js group.small less in
            let own = call_due s m₀ context k g request i (suc (length js)) in
            let one = or_false (short own) (any_of short due) enough in
            let more = eqb-suc-zero (length js) in
            let l : s.context ≤ k i =
            subst (λ a. a.stores ≤ k i) (sym some_due)
            (subst (λ t. (answer_due s m₀ context k g t).stores ≤ k i) more (ltb-false (k i) _ one.0)) in
            let answered = some_called e l ∙ ap (λ t. told (answer_due s m₀ context k g t)) (sym more) in
            let c =
            rest outcome.image outcome.reply.next (some_going e l)
            (subst (λ x. Awaits g x (j ∷ js)) (sym (some_acks s g m₀ group h e (k i) l)) less) one.1 in
            record {
              image_after = c.image_after;
              record_after = c.record_after;
              leads = leads_more (call_due s m₀ context k g request i (suc (length js))) answered c.leads;
              gone = c.gone;
            }

    -- an acknowledgement that is awaited is taken
    giving : (j : ℕ) (js : List ℕ) (n : ℕ) (image : List ℕ) (r : Record) → Going image r n
        → Awaits g r.commit.acknowledged (j ∷ js)
        → Giving s g m₀ n image r (Acknowledge j (context j)) r j (context j)
    giving j js n image r w waits =
        let (member, awaited) = first_awaited g group.small r.commit.acknowledged j js waits in
        acknowledge_giving s g m₀ j (context j) w.opened
        (acknowledge_taken s g m₀ group context full k image r j w.opened w.sound
        (group.below j member, member, awaited))

    -- the acknowledgements that are left
    acknowledged : (js : List ℕ) (j n : ℕ) (image : List ℕ) (r : Record) → Going image r n
        → Awaits g r.commit.acknowledged (j ∷ js)
        → any_of short (acknowledgements_due s m₀ context k g (j ∷ js)) ≡ false
        → Completes image r (acknowledgements_due s m₀ context k g (j ∷ js))
    unfolding acknowledgements_due
    acknowledged [] j n image r w waits enough =
        last_call j (giving j [] n image r w waits) w.sound.small w.rows w.tags waits enough
    acknowledged (j' ∷ js) j n image r w waits enough =
        earlier_call j (giving j (j' ∷ js) n image r w waits) w.sound.small w.rows w.tags j' js waits enough
        (acknowledged js j' (suc n))

    -- the whole commit, from a state with none open, in which board i's commit group is g
    module _ (image : List ℕ) (r : Record) (same : shape_of image ≡ s) (sound : InOrder s image r)
        (free : engaged r ≡ 0) (rows : depends r ≡ d) (start_tags : (b : ℕ) → view s image Tags b ≡ m Tags b)
        (old_tags : (b : ℕ) → tagged_in g (m Tags b) ≡ tagged_in g (m₀ Tags b))
      where
        start_taken : (i : ℕ) → i < s.boards
            → first (refusals image s (view s image) r (Start i (context i))) ≡ 0
        unfolding refusals entry_tests start_tests first engaged
        start_taken i below =
            rw (
              sound.ordered,
              same,
              sound.recorded,
              lt-leb s.boards i below,
              eq-eqb (length (context i)) s.context (full i),
              free,
            )

        start_giving : (i : ℕ) → has g i ≡ true → commit_group d i ≡ g
            → Giving s g m₀ 0 image r (Start i (context i)) (opened r i g) i (context i)
        unfolding plan opened commit_request
        start_giving i member group_is =
            let below = group.below i member in
            let own : commit_group (depends r) i ≡ g = ap (λ x. commit_group x i) rows ∙ group_is in
            record {
              before_it =
                  record {
                    shape = same;
                    members = refl;
                    inside = λ j y. clash y (has_zero j);
                    given = count_none s.boards (has 0) has_zero;
                    less = count_some s.boards (has g) i below member;
                    tags = λ b. ap (tagged_in g) (start_tags b) ∙ old_tags b;
                  };
              passed = start_taken i below;
              planned = ap (λ x. acknowledging s (view s image) (opened r i x) i (context i)) own;
              own = member;
              board = below;
              full = full i;
              member = member;
              awaited = has_zero i;
            }

        pub committed : (boards : List ℕ) → InAnyOrder g boards → ((i : ℕ) → has g i ≡ true → commit_group d i ≡ g)
            → any_of short (commit_due s m₀ context k g boards) ≡ false
            → Completes image r (commit_due s m₀ context k g boards)
        unfolding commit_due acknowledgements_due opened depends times
        committed [] each group_is enough =
            absurd (group.some (has_none 16 g group.small (λ j l. refute (has g j)
            (λ y. let one : 0 ≡ 1 = each j ∙ ap (λ t. cond t 1 0) y in absurd (omega arith)))))
        committed (i ∷ []) each group_is enough =
            let waits = awaits_all g (i ∷ []) each in
            let member = (first_awaited g group.small 0 i [] waits).0 in
            last_call i (start_giving i member (group_is i member)) sound.small rows start_tags waits enough
        committed (i ∷ j ∷ js) each group_is enough =
            let waits = awaits_all g (i ∷ j ∷ js) each in
            let member = (first_awaited g group.small 0 i (j ∷ js) waits).0 in
            earlier_call i (start_giving i member (group_is i member)) sound.small rows start_tags j js waits enough
            (λ image r. acknowledged js j 1 image r)
