-- One component after the other commits, each with itself as group.
use Prim.Native.Nat.{ℕ, zero, suc, ◌+◌, ◌^◌, ◌≤◌, ◌<◌}
use mathlib.Core.Path.{◌≡◌, refl, sym, ◌∙◌, ap, subst}
use mathlib.Core.Bool.{true, false, not}
use mathlib.Core.List.{List, [], ◌∷◌}
use mathlib.Core.Logic.{◌⊎◌, inl, inr, ⊎_elim}
use lib.Dec.{eqb}
use lib.ListN.{length, length-append}
use lib.Pow.{pow_pos}
use native.Mathlib.Omega.{arith}
use borrow.Author.Tests.{eqb-true, lt-ltb, ltb-true, ltb-false}
use Rattle.boards.specs.Lists.{any_of}
use Rattle.boards.specs.Boards.{has, tagged_in, Links, Chain, here, step, unlink, commit_group}
use Rattle.boards.specs.Rows.{minus}
use Rattle.boards.proofs.Basics.{decide, clash, or_false, refute, test_ext, any_none, false_not, not_true, not_false}
use Rattle.boards.proofs.Groups.{has_zero, has_ext, below_or, count, Bounded, bounded_more, Backward, Forward}
use Rattle.boards.proofs.Groups.{unlink_true, true_unlink, unlink_bounded, links_ext, chain_join, chain_more}
use Rattle.boards.proofs.Groups.{chain_outside_forward}
use Rattle.boards.proofs.Groups.{in_commit_group, commit_group_small, mask_below, count_none}
use Rattle.volatile.specs.Volatile.{depends, engaged, bad_record}
use Rattle.volatile.specs.declared.Record.{Record}
use Rattle.components.specs.Components.{order_from, all_boards, order}
use Rattle.components.specs.Claims.{SixteenBoards}
use Rattle.components.proofs.Ready.{minus_has, has_minus}
use Rattle.components.proofs.Ready as next
use Rattle.components.proofs.Orders.{record_bounded, has_all, all_back, boards_counted, none_counted}
use Rattle.components.proofs.Orders.{order_none, order_some}
use Rattle.protocol.specs.Image.{Memory, Tags, size, shape_of, in_order, view}
use Rattle.protocol.specs.Calls.{bad_tags}
use Rattle.protocol.specs.declared.Shape.{Shape}
use Rattle.protocol.proofs.Bridge.{Limits, limits, order_sound, view_past}
use Rattle.protocol.proofs.Plans.{any_of_append}
use Rattle.costs.specs.Claims.{AnsweredCall}
use Rattle.costs.proofs.Opened.{Grouped}
use Rattle.costs.proofs.Completes.{InOrder, none_acknowledged}
use Rattle.shutdown.specs.Shutdown.{InAnyOrder, Sequence, goes_on, commit_due}
use Rattle.shutdown.specs.Shutdown.{commits_due}
use Rattle.shutdown.specs.Shutdown.{CommitsInOrder}
use Rattle.shutdown.proofs.Runs.{Leads, leads_none, leads_then, leads_all, leads_end}
use Rattle.shutdown.proofs.Times.{length_callers, length_commit, count_parts}
use Rattle.shutdown.proofs.Member.{short, Gone, Completes, committed}

-- ---- tags

module _ (left c : ℕ) where
  -- a tag of a board left, without those of c
  tagged_rest : (t : ℕ) → tagged_in (minus left c) t ≡ true → (tagged_in left t ≡ true) × (tagged_in c t ≡ false)
  unfolding tagged_in
  tagged_rest zero e = clash e refl
  tagged_rest (suc j) e = minus_has left c j e

  rest_tagged : (t : ℕ) → left < 2 ^ 16 → tagged_in left t ≡ true → tagged_in c t ≡ false
      → tagged_in (minus left c) t ≡ true
  unfolding tagged_in
  rest_tagged zero small e f = e
  rest_tagged (suc j) small e f = has_minus left c j small e f

-- the dependences left when the boards of c are gone too
unlink_more : (left c : ℕ) → left < 2 ^ 16 → (d : Links)
    → unlink (has c) (unlink (λ j. not (has left j)) d) ≡ unlink (λ j. not (has (minus left c) j)) d
unlink_more left c small d =
    links_ext
    (λ a b. test_ext _ _
    (λ e.
    let (p, q, f) = unlink_true (has c) (unlink (λ j. not (has left j)) d) a b e in
    let (x, y, h) = unlink_true (λ j. not (has left j)) d a b f in
    true_unlink (λ j. not (has (minus left c) j)) d a b
    (ap not (has_minus left c a small (not_false _ x) p)) (ap not (has_minus left c b small (not_false _ y) q)) h)
    (λ e.
    let (p, q, h) = unlink_true (λ j. not (has (minus left c) j)) d a b e in
    let x = minus_has left c a (not_false _ p) in
    let y = minus_has left c b (not_false _ q) in
    true_unlink (has c) (unlink (λ j. not (has left j)) d) a b x.1 y.1
    (true_unlink (λ j. not (has left j)) d a b (ap not x.0) (ap not y.0) h)))

-- The dependences and the memory before the first call.
module _ (s : Shape) (limit : Limits s) {d : Links} (bound : Bounded s.boards d) (m₀ : Memory) where
  b : Bounded 16 d
  b = bounded_more bound limit.most_boards

  -- the boards of `left` have still to commit: the dependences are those among them, and a tag is what it was, or 0 for
  -- a board that is gone
  record Standing (left : ℕ) (image : List ℕ) (r : Record) : Type 0 where
    shape : shape_of image ≡ s
    sound : InOrder s image r
    free : engaged r ≡ 0
    rows : depends r ≡ unlink (λ j. not (has left j)) d
    tags : (x : ℕ) → (view s image Tags x ≡ m₀ Tags x)
        ⊎ ((view s image Tags x ≡ 0) × (tagged_in left (m₀ Tags x) ≡ false))
    cleared : (x : ℕ) → x < s.blocks → m₀ Tags x ≤ s.boards
        → (view s image Tags x ≡ 0) ⊎ (tagged_in left (view s image Tags x) ≡ true)

  module _ {left : ℕ} (small : left < 2 ^ 16) (back : Backward (has left) d) (some : eqb left 0 ≡ false) where
    abbrev c : ℕ
    c = next.gone b small back some

    abbrev rest : ℕ
    rest = next.rest b small back some

    abbrev first : ℕ
    first = next.next b small back some

    abbrev among : Links
    among = unlink (λ j. not (has left j)) d

    among_bounded : Bounded 16 among
    among_bounded = unlink_bounded b (λ j. not (has left j))

    -- a chain among the boards left stays there
    stays : {i j : ℕ} → Chain among i j → has left i ≡ true → has left j ≡ true
    stays here h = h
    stays (step {i} {j} e r) h = stays r (not_false _ (unlink_true (λ j. not (has left j)) d i j e).1)

    -- any board of the component has the component as commit group
    group_is : (i : ℕ) → has c i ≡ true → commit_group among i ≡ c
    group_is i member =
        let l = next.left_below b small back (next.next_inside b small back some i member) in
        let in_c = next.in_next b small back some in
        has_ext 16 (commit_group among i) c (commit_group_small among i) (next.component_small b _)
        (λ j k. test_ext _ _
        (λ y.
        let chain = (in_commit_group among_bounded i l j).0 y in
        next.next_closed b small back some i j member
        (chain_more (λ x z e. (unlink_true (λ j. not (has left j)) d x z e).2) chain)
        (stays chain (next.next_inside b small back some i member)))
        (λ y.
        (in_commit_group among_bounded i l j).1
        (chain_outside_forward gone_forward
        (chain_join ((in_c i).0 member).1 ((in_c j).0 y).0)
        (ap not (next.next_inside b small back some j y)))))
      where
        gone_forward : Forward (λ j. not (has left j)) d
        gone_forward =
            record {
              onto = λ x y h e.
                  false_not (refute (has left y) (λ f. clash (back.onto x y f e) (not_true (has left x) h)));
            }

    -- the boards left are those of the component and the others
    parts_counted : count 16 (has left) ≡ count 16 (has c) + count 16 (has rest)
    parts_counted =
        count_parts 16 (has left) (has c) (has rest)
        (λ j. ⊎_elim
        (λ (h : has c j ≡ true).
        let out = refute (has rest j) (λ y. clash h (minus_has left c j y).1) in
        rw (next.next_inside b small back some j h, h, out) (omega arith))
        (λ (h : has c j ≡ false).
        let same : has left j ≡ has rest j =
        test_ext _ _ (λ y. has_minus left c j small y h) (λ y. (minus_has left c j y).0) in
        rw (same, h) (omega arith))
        (decide (has c j)))

    -- the tags that the component's boards have are those that they had
    old_tags : {image : List ℕ} {r : Record} → Standing left image r
        → (x : ℕ) → tagged_in c (view s image Tags x) ≡ tagged_in c (m₀ Tags x)
    unfolding tagged_in
    old_tags w x =
        ⊎_elim
        (ap (tagged_in c))
        (λ t. ap (tagged_in c) t.0 ∙ sym (inside_tag (m₀ Tags x) t.1))
        (w.tags x)
      where
        inside_tag : (t : ℕ) → tagged_in left t ≡ false → tagged_in c t ≡ false
        inside_tag zero e = refl
        inside_tag (suc j) e = refute (has c j) (λ h. clash (next.next_inside b small back some j h) e)

    -- a completed commit of the component leaves the others standing
    module _ (below : (j : ℕ) → has left j ≡ true → j < s.boards) (context : ℕ → List ℕ)
        (full : (j : ℕ) → length (context j) ≡ s.context) (k : ℕ → ℕ)
      where
        grouped : Grouped s c
        grouped =
            record {
              few = limit.most_boards;
              small = next.component_small b first;
              below = λ j h. below j (next.next_inside b small back some j h);
              some = λ z.
                  clash ((next.in_next b small back some first).1 (here, here))
                  (ap (λ g. has g first) z ∙ has_zero first);
            }

        module _ {image : List ℕ} {r : Record} (w : Standing left image r) where
          abbrev CompletedCommit : List AnsweredCall → Type 0
          CompletedCommit due =
              Completes s limit c grouped m₀ (view s image) among_bounded context full k image r due

          commit_so : (boards : List ℕ) → InAnyOrder c boards
              → any_of short (commit_due s m₀ context k c boards) ≡ false
              → CompletedCommit (commit_due s m₀ context k c boards)
          commit_so boards each enough =
              committed s limit c grouped m₀ (view s image) among_bounded context full k image r w.shape w.sound
              w.free w.rows (λ x. refl) (old_tags w) boards each group_is enough

          still_standing : (image' : List ℕ) (r' : Record)
              → Gone s limit c grouped m₀ (view s image) among_bounded context full k image' r'
              → Standing rest image' r'
          unfolding size
          still_standing image' r' g =
              record {
                shape = g.shape;
                sound = g.sound;
                free = g.closed_now;
                rows = g.rows ∙ unlink_more left c small d;
                tags = tags_now;
                cleared = λ x l few. ⊎_elim
                    (λ t. inl (g.tag_zero x l t))
                    (λ t. ⊎_elim
                    (λ z. inl (g.tag_left x t ∙ z))
                    (λ y. inr (ap (tagged_in rest) (g.tag_left x t) ∙ rest_tagged left c _ small y t))
                    (w.cleared x l few))
                    (decide (tagged_in c (view s image Tags x)));
              }
            where
              not_rest : (t : ℕ) → tagged_in left t ≡ false → tagged_in rest t ≡ false
              not_rest t e = refute (tagged_in rest t) (λ y. clash (tagged_rest left c t y).0 e)

              tags_now : (x : ℕ) → (view s image' Tags x ≡ m₀ Tags x)
                  ⊎ ((view s image' Tags x ≡ 0) × (tagged_in rest (m₀ Tags x) ≡ false))
              tags_now x =
                  ⊎_elim
                  (λ (t : tagged_in c (view s image Tags x) ≡ true).
                  let gone : tagged_in rest (m₀ Tags x) ≡ false =
                  refute (tagged_in rest (m₀ Tags x))
                  (λ y. clash (sym (old_tags w x) ∙ t) (tagged_rest left c (m₀ Tags x) y).1) in
                  ⊎_elim
                  (λ (l : x < s.blocks). inr (g.tag_zero x l t, gone))
                  (λ (l : s.blocks ≤ x). inr (view_past s image' Tags x l, gone))
                  (below_or x s.blocks))
                  (λ (t : tagged_in c (view s image Tags x) ≡ false).
                  ⊎_elim
                  (λ e. inl (g.tag_left x t ∙ e))
                  (λ e. inr (g.tag_left x t ∙ e.0, not_rest (m₀ Tags x) e.1))
                  (w.tags x))
                  (decide (tagged_in c (view s image Tags x)))

  -- each board left has its call, all calls are answered as is due, and then nobody is left
  record AllGone (left : ℕ) (image : List ℕ) (r : Record) (due : List AnsweredCall) : Type 0 where
    many : length due ≡ count 16 (has left)
    image_after : List ℕ
    record_after : Record
    leads : Leads image r due image_after record_after
    standing : Standing 0 image_after record_after

  module _ (context : ℕ → List ℕ) (full : (j : ℕ) → length (context j) ≡ s.context) (k : ℕ → ℕ) where
    -- the components of a list commit one after the other
    abbrev CommitAll : ℕ → List ℕ → List ℕ → Record → Type 0
    CommitAll left gs image r =
        (boards : List (List ℕ)) → Sequence gs boards → any_of short (commits_due s m₀ context k gs boards) ≡ false
        → AllGone left image r (commits_due s m₀ context k gs boards)

    nobody_left : {left : ℕ} {image : List ℕ} {r : Record} → eqb left 0 ≡ true → Standing left image r
        → CommitAll left [] image r
    unfolding commits_due
    nobody_left {left} {image} {r} z w boards sequence enough =
        record {
          many = sym (count_none 16 (has left) (λ j. ap (λ x. has x j) (eqb-true left 0 z) ∙ has_zero j));
          image_after = image;
          record_after = r;
          leads = leads_none;
          standing = subst (λ x. Standing x image r) (eqb-true left 0 z) w;
        }

    module _ {left : ℕ} (small : left < 2 ^ 16) (back : Backward (has left) d) (some : eqb left 0 ≡ false)
        (below : (j : ℕ) → has left j ≡ true → j < s.boards)
      where
        next_gone : (gs : List ℕ) → ((image : List ℕ) (r : Record) → Standing (rest small back some) image r
            → CommitAll (rest small back some) gs image r)
            → (image : List ℕ) (r : Record) → Standing left image r → CommitAll left (c small back some ∷ gs) image r
        unfolding commits_due
        next_gone gs others image r w _ (goes_on {callers = boards} {later = later} each sequence) enough =
            let own = commit_due s m₀ context k (c small back some) boards in
            let due = commits_due s m₀ context k gs later in
            let both = or_false (any_of short own) (any_of short due) (sym (any_of_append short own due) ∙ enough) in
            let now = commit_so small back some below context full k w boards each both.0 in
            let standing = still_standing small back some below context full k w _ _ now.gone in
            let more = others _ _ standing later sequence both.1 in
            let own_many =
            length_commit s m₀ context k (c small back some) boards
            ∙ length_callers (c small back some) (next.component_small b (first small back some)) boards each in
            record {
              many =
                  length-append own (commits_due s m₀ context k gs later)
                  ∙ omega (arith, own_many, more.many, parts_counted small back some);
              image_after = more.image_after;
              record_after = more.record_after;
              leads = leads_then now.leads more.leads;
              standing = more.standing;
            }

    all_gone : (n : ℕ) {left : ℕ} → left < 2 ^ 16 → Backward (has left) d → count 16 (has left) ≤ n
        → ((j : ℕ) → has left j ≡ true → j < s.boards) → (image : List ℕ) (r : Record) → Standing left image r
        → CommitAll left (order_from d n left) image r
    all_gone zero {left} small back few below image r w =
        let z = none_counted b small back few in
        subst (λ gs. CommitAll left gs image r) (sym (order_none d left 0 z)) (nobody_left z w)
    all_gone (suc n) {left} small back few below image r w =
        ⊎_elim
        (λ (z : eqb left 0 ≡ true).
        subst (λ gs. CommitAll left gs image r) (sym (order_none d left (suc n) z)) (nobody_left z w))
        (λ (some : eqb left 0 ≡ false).
        let less = next.rest_fewer b small back some in
        subst (λ gs. CommitAll left gs image r) (sym (order_some d left n some))
        (next_gone small back some below _
        (all_gone n (next.rest_small b small back some) (next.rest_back b small back some) (omega arith)
        (λ j h. below j (minus_has left (c small back some) j h).0))
        image r w))
        (decide (eqb left 0))

-- ---- the claim

-- no tag names a board of the empty set
untagged : (t : ℕ) → tagged_in 0 t ≡ false
unfolding tagged_in
untagged zero = refl
untagged (suc j) = has_zero j

module _ (image : List ℕ) (r : Record) (ordered : in_order 0 image ≡ true)
    (recorded : bad_record (shape_of image).boards r ≡ false) (free : engaged r ≡ 0) (sixteen : SixteenBoards r)
  where
    abbrev shape : Shape
    shape = shape_of image

    limit : Limits shape
    limit = limits shape (order_sound ordered).0.allowed_shape

    bound : Bounded shape.boards (depends r)
    bound = record_bounded shape.boards r recorded sixteen

    abbrev everybody : ℕ
    everybody = all_boards shape.boards

    is_board : (j : ℕ) → j < shape.boards → has everybody j ≡ true
    is_board j l = has_all limit.most_boards j ∙ lt-ltb j shape.boards l

    -- before the first call everybody has still to commit
    at_first : Standing shape limit bound (view shape image) everybody image r
    unfolding tagged_in
    at_first =
        record {
          shape = refl;
          sound =
              record {
                ordered = ordered;
                recorded = recorded;
                small = rw (none_acknowledged shape.boards r recorded free) (pow_pos 16);
              };
          free = free;
          rows =
              links_ext
              (λ x y. test_ext _ _
              (λ e.
              let l = bound.ends x y e in
              true_unlink (λ j. not (has everybody j)) (depends r) x y
              (ap not (is_board x l.0)) (ap not (is_board y l.1)) e)
              (λ e. (unlink_true (λ j. not (has everybody j)) (depends r) x y e).2));
          tags = λ x. inl refl;
          cleared = λ x l few. low (view shape image Tags x) few;
        }
      where
        low : (t : ℕ) → t ≤ shape.boards → (t ≡ 0) ⊎ (tagged_in everybody t ≡ true)
        low zero l = inl refl
        low (suc j) l = inr (is_board j l)

    committed_all : (boards : List (List ℕ)) → Sequence (order shape.boards (depends r)) boards
        → (context : ℕ → List ℕ) → ((j : ℕ) → length (context j) ≡ shape.context) → (k : ℕ → ℕ)
        → any_of short (commits_due shape (view shape image) context k (order shape.boards (depends r)) boards)
        ≡ false
        → AllGone shape limit bound (view shape image) everybody image r
        (commits_due shape (view shape image) context k (order shape.boards (depends r)) boards)
    unfolding order
    committed_all boards sequence context full k enough =
        all_gone shape limit bound (view shape image) context full k shape.boards (mask_below 16 _)
        (all_back limit.most_boards bound) (omega (arith, boards_counted limit.most_boards))
        (λ j h. ltb-true j shape.boards (sym (has_all limit.most_boards j) ∙ h))
        image r at_first boards sequence enough

pub commits_in_order : CommitsInOrder
unfolding bad_tags
commits_in_order image r ordered recorded free sixteen boards sequence context full k enough =
    let s = shape_of image in
    let due = commits_due s (view s image) context k (order s.boards (depends r)) boards in
    let all = committed_all image r ordered recorded free sixteen boards sequence context full k enough in
    let stands = all.standing in
    let end = leads_end all.leads in
    record {
      calls = all.many ∙ boards_counted (limits s (order_sound ordered).0.allowed_shape).most_boards;
      answers = leads_all all.leads;
      unlinked = λ a b.
          ap (λ w. depends w.state a b) end ∙ ap (λ d. d a b) stands.rows
          ∙ refute _ (λ e. clash (ap not (has_zero a)) (unlink_true (λ j. not (has 0 j)) (depends r) a b e).0);
      untagged = λ none x l.
          let few : view s image Tags x ≤ s.boards = ltb-false s.boards _ (any_none s.blocks _ none x l) in
          ap (λ w. view s w.image Tags x) end
          ∙ ⊎_elim (λ z. z) (λ y. clash y (untagged (view s all.image_after Tags x))) (stands.cleared x l few);
    }
