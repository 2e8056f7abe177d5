-- Components by chains; the boards that may go next; the lowest of them.
use Prim.Native.Nat.{ℕ, zero, suc, ◌^◌, ◌≤◌, ◌<◌}
use mathlib.Core.Path.{◌≡◌, sym, ◌∙◌, ap}
use mathlib.Core.Bool.{Bool, true, false, ◌&&◌, not}
use mathlib.Core.Logic.{◌⊎◌, inl, inr, ⊎_elim, ◌↔◌}
use lib.Dec.{eqb}
use native.Mathlib.Omega.{arith}
use borrow.Author.Tests.{eq-eqb, eqb-true, eqb-false}
use Rattle.boards.specs.Lists.{any}
use Rattle.boards.specs.Boards.{has, set_of, Links, Chain, here, step, commit_group, fault_group}
use Rattle.boards.specs.Rows.{minus}
use Rattle.boards.proofs.Basics.{decide, clash, and_true, true_and, not_true, false_not, refute, test_ext}
use Rattle.boards.proofs.Basics.{any_some, any_none}
use Rattle.boards.proofs.Groups.{has_below, has_ext, has_none, mask_below, count, larger_count, below_or}
use Rattle.boards.proofs.Groups.{count_some, words_by_members}
use Rattle.boards.proofs.Groups.{Bounded, Backward, chain_join, backward_chain, in_commit_group, in_fault_group}
use Rattle.boards.proofs.Groups.{commit_group_self, commit_group_small}
use Rattle.components.specs.Components.{intersection, component, ready, lowest}

-- ---- sets

-- the boards of a set that is made by a test
in_set : (p : ℕ → Bool) (j : ℕ) → (has (set_of p) j ≡ true) ↔ ((j < 16) × (p j ≡ true))
in_set = words_by_members.of_set

-- of the boards that are left without others
pub minus_has : (g h j : ℕ) → has (minus g h) j ≡ true → (has g j ≡ true) × (has h j ≡ false)
minus_has g h j e =
    let both = and_true (has g j) (not (has h j)) ((in_set (λ j. has g j && not (has h j)) j).0 e).1 in
    (both.0, not_true (has h j) both.1)

pub has_minus : (g h j : ℕ) → g < 2 ^ 16 → has g j ≡ true → has h j ≡ false → has (minus g h) j ≡ true
has_minus g h j small e f =
    (in_set (λ j. has g j && not (has h j)) j).1 (has_below 16 g j small e, true_and e (false_not f))

-- a set inside another has fewer boards if it lacks one of that
fewer_inside : (g h i : ℕ) → ((j : ℕ) → has g j ≡ true → has h j ≡ true) → i < 16 → has g i ≡ false → has h i ≡ true
    → count 16 (has g) < count 16 (has h)
fewer_inside g h i inside l lacks e =
    let more = larger_count 16 (has g) (has h) inside in
    ⊎_elim (λ k. k) (λ k. clash (more.1 k i l ∙ e) lacks) (below_or (count 16 (has g)) (count 16 (has h)))

-- a set that is not empty has a board
has_some : (g : ℕ) → g < 2 ^ 16 → eqb g 0 ≡ false → (j : ℕ) × (j < 16) × (has g j ≡ true)
has_some g small e =
    ⊎_elim
    (any_some 16 (has g))
    (λ none. absurd (eqb-false g 0 e (has_none 16 g small (any_none 16 (has g) none))))
    (decide (any 16 (has g)))

-- ---- the lowest number

-- 0 if the test holds there, else the lowest number behind it
module _ (n : ℕ) (p : ℕ → Bool) where
  lowest_here : p 0 ≡ true → lowest (suc n) p ≡ 0
  unfolding lowest
  lowest_here e = rw e

  lowest_later : p 0 ≡ false → lowest (suc n) p ≡ suc (lowest n (λ i. p (suc i)))
  unfolding lowest
  lowest_later e = rw e

pub lowest_holds : (n : ℕ) (p : ℕ → Bool) (i : ℕ) → i < n → p i ≡ true → (lowest n p < n) × (p (lowest n p) ≡ true)
lowest_holds zero p i l e = absurd (omega arith)
lowest_holds (suc n) p zero l e = rw (lowest_here n p e) (omega arith, e)
lowest_holds (suc n) p (suc i) l e =
    ⊎_elim
    (λ (z : p 0 ≡ true). rw (lowest_here n p z) (omega arith, z))
    (λ (z : p 0 ≡ false).
    let rest = lowest_holds n (λ i. p (suc i)) i (omega arith) e in
    rw (lowest_later n p z) (omega (arith, rest.0), rest.1))
    (decide (p 0))

pub lowest_least : (n : ℕ) (p : ℕ → Bool) (i : ℕ) → p i ≡ true → lowest n p ≤ i
unfolding lowest
lowest_least zero p i e = omega arith
lowest_least (suc n) p zero e = rw (lowest_here n p e) (omega arith)
lowest_least (suc n) p (suc i) e =
    ⊎_elim
    (λ (z : p 0 ≡ true). rw (lowest_here n p z) (omega arith))
    (λ (z : p 0 ≡ false). rw (lowest_later n p z) (omega (arith, lowest_least n (λ i. p (suc i)) i e)))
    (decide (p 0))

-- ---- components and boards that may go next

module _ {d : Links} (b : Bounded 16 d) where
  module _ (i : ℕ) (l : i < 16) where
    in_component : (j : ℕ) → (has (component d i) j ≡ true) ↔ (Chain d i j × Chain d j i)
    unfolding component
    in_component j =
        let both : ℕ → Bool = λ j. has (commit_group d i) j && has (fault_group d i) j in (
          λ h.
              let s = and_true (has (commit_group d i) j) _ ((in_set both j).0 h).1 in
              ((in_commit_group b i l j).0 s.0, (in_fault_group b i l j).0 s.1),
          λ c.
              let reach = (in_commit_group b i l j).1 c.0 in
              (in_set both j).1 (
                has_below 16 (commit_group d i) j (commit_group_small d i) reach,
                true_and reach ((in_fault_group b i l j).1 c.1),
              ),
        )

    pub component_self : has (component d i) i ≡ true
    component_self = (in_component i).1 (here, here)

  pub component_small : (i : ℕ) → component d i < 2 ^ 16
  unfolding component
  component_small i = mask_below 16 _

  -- The boards left, of which each has its dependents with it.
  module _ {left : ℕ} (small : left < 2 ^ 16) (back : Backward (has left) d) where
    -- what it says that a board may go next: it is left, and every board left that it depends on depends on it
    pub record Ready (i : ℕ) : Type 0 where
      pub stays : has left i ≡ true
      pub mutual_with : (j : ℕ) → Chain d i j → has left j ≡ true → Chain d j i

    pub left_below : {i : ℕ} → has left i ≡ true → i < 16
    left_below {i} e = has_below 16 left i small e

    ready_says : (i : ℕ) → ready d left i ≡ true → Ready i
    unfolding ready
    ready_says i e =
        let both = and_true (has left i) _ e in
        let l = left_below both.0 in
        let same = eqb-true (intersection (commit_group d i) left) (component d i) both.1 in
        record {
          stays = both.0;
          mutual_with = λ j c y.
              let reach = (in_commit_group b i l j).1 c in
              let inside = (in_set (λ j. has (commit_group d i) j && has left j) j).1
              (left_below y, true_and reach y) in
              ((in_component i l j).0 (sym (ap (λ g. has g j) same) ∙ inside)).1;
        }

    says_ready : (i : ℕ) → Ready i → ready d left i ≡ true
    unfolding ready
    says_ready i r =
        let l = left_below r.stays in
        let inside : ℕ → Bool = λ j. has (commit_group d i) j && has left j in
        true_and r.stays
        (eq-eqb (intersection (commit_group d i) left) (component d i)
        (has_ext 16 (intersection (commit_group d i) left) (component d i) (mask_below 16 inside) (component_small i)
        (λ j k. test_ext _ _
        (λ y.
        let s = and_true (has (commit_group d i) j) _ ((in_set inside j).0 y).1 in
        let c = (in_commit_group b i l j).0 s.0 in
        (in_component i l j).1 (c, r.mutual_with j c s.1))
        (λ y.
        let c = (in_component i l j).0 y in
        (in_set inside j).1 (k, true_and ((in_commit_group b i l j).1 c.0) (backward_chain back c.1 r.stays))))))

    -- Some board may go next, if any is left: a board does, or it depends on one left that does not depend on it, whose
    -- commit group is smaller.
    find : (n i : ℕ) → has left i ≡ true → count 16 (has (commit_group d i)) ≤ n → (j : ℕ) × Ready j
    find zero i e few =
        let l = left_below e in
        absurd (omega (arith, count_some 16 (has (commit_group d i)) i l (commit_group_self d i l)))
    find (suc n) i e few = go (decide (any 16 other)) (find n)
      where
        other : ℕ → Bool
        other j = has left j && (has (commit_group d i) j && not (has (commit_group d j) i))

        go : (any 16 other ≡ true) ⊎ (any 16 other ≡ false)
            → ((i : ℕ) → has left i ≡ true → count 16 (has (commit_group d i)) ≤ n → (j : ℕ) × Ready j)
            → (j : ℕ) × Ready j
        go (inl some) smaller =
            let l = left_below e in
            let (j, k, o) = any_some 16 other some in
            let s = and_true (has left j) _ o in
            let t = and_true (has (commit_group d i) j) _ s.1 in
            let c = (in_commit_group b i l j).0 t.0 in
            let fewer =
            fewer_inside (commit_group d j) (commit_group d i) i
            (λ h y. (in_commit_group b i l h).1 (chain_join c ((in_commit_group b j k h).0 y))) l
            (not_true (has (commit_group d j) i) t.1) (commit_group_self d i l) in
            smaller j s.0 (omega (arith, fewer))
        go (inr none) smaller =
            let l = left_below e in (
              i,
              record {
                stays = e;
                mutual_with = λ j c y.
                    let k = left_below y in
                    let out = any_none 16 other none j k in
                    (in_commit_group b j k i).0
                    (⊎_elim
                    (λ h. h)
                    (λ h. clash (true_and y (true_and ((in_commit_group b i l j).1 c) (false_not h))) out)
                    (decide (has (commit_group d j) i)));
              },
            )

    -- the next board, if any is left
    module _ (any_left : eqb left 0 ≡ false) where
      abbrev pub next : ℕ
      next = lowest 16 (ready d left)

      pub next_holds : (next < 16) × (ready d left next ≡ true)
      next_holds =
          let (i, l, e) = has_some left small any_left in
          let (j, r) = find (count 16 (has (commit_group d i))) i e (omega arith) in
          lowest_holds 16 (ready d left) j (left_below r.stays) (says_ready j r)

      next_below : next < 16
      next_below = next_holds.0

      pub next_ready : Ready next
      next_ready = ready_says next next_holds.1

      pub next_least : (i : ℕ) → Ready i → next ≤ i
      next_least i r = lowest_least 16 (ready d left) i (says_ready i r)

      -- its component, and the boards left without it
      abbrev pub gone : ℕ
      gone = component d next

      abbrev pub rest : ℕ
      rest = minus left gone

      pub in_next : (j : ℕ) → (has gone j ≡ true) ↔ (Chain d next j × Chain d j next)
      in_next = in_component next next_below

      pub next_inside : (j : ℕ) → has gone j ≡ true → has left j ≡ true
      next_inside j h = backward_chain back ((in_next j).0 h).1 next_ready.stays

      pub rest_small : rest < 2 ^ 16
      rest_small = mask_below 16 _

      pub rest_fewer : count 16 (has rest) < count 16 (has left)
      rest_fewer =
          let own = (in_next next).1 (here, here) in
          fewer_inside rest left next (λ j y. (minus_has left gone j y).0) next_below
          (refute (has rest next) (λ y. clash own (minus_has left gone next y).1)) next_ready.stays

      -- a board left that a board of the component depends on is in the component
      pub next_closed : (a j : ℕ) → has gone a ≡ true → Chain d a j → has left j ≡ true → has gone j ≡ true
      next_closed a j h c y =
          let k = chain_join ((in_next a).0 h).0 c in
          (in_next j).1 (k, next_ready.mutual_with j k y)

      pub rest_back : Backward (has rest) d
      rest_back =
          record {
            onto = λ x y h e.
                let s = minus_has left gone y h in
                let stays = back.onto x y s.0 e in
                has_minus left gone x small stays
                (refute (has gone x) (λ g. clash (next_closed x y g (step e here) s.0) s.1));
          }
