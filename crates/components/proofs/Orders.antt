-- The order of components is right, and the only list that is.
use Prim.Native.Nat.{ℕ, zero, suc, ◌+◌, ◌^◌, ◌≤◌, ◌<◌}
use mathlib.Core.Path.{◌≡◌, refl, sym, ◌∙◌, ap, ap₂, fun_ext, subst}
use mathlib.Core.Bool.{true, false}
use mathlib.Core.List.{List, [], ◌∷◌}
use mathlib.Core.Logic.{◌⊎◌, inl, inr, ⊎_elim}
use lib.Dec.{eqb, ltb}
use lib.ListN.{length}
use lib.Pow.{pow_mono}
use native.Mathlib.Omega.{arith}
use native.Mathlib.Nat.{pow-suc, lt_of_lt_of_le}
use borrow.Author.Tests.{eqb-true, lt-ltb, le-ltb}
use Rattle.boards.specs.Boards.{has, Links, Chain, here}
use Rattle.boards.specs.Rows.{minus}
use Rattle.boards.proofs.Basics.{decide, clash, refute, test_ext}
use Rattle.boards.proofs.Groups.{has_zero, has_ext, has_mask, has_beyond, mask_below, count, below_or}
use Rattle.boards.proofs.Groups.{Bounded, bounded_more, Backward, chain_join}
use Rattle.volatile.specs.Volatile.{depends, bad_record}
use Rattle.volatile.specs.declared.Record.{Record}
use Rattle.volatile.proofs.Order.{orderly, rows_within}
use Rattle.components.specs.Components.{component, ready, lowest, order_from, all_boards, order}
use Rattle.components.specs.Claims.{at, DependsBefore, Orders, SixteenBoards, OrderRight}
use Rattle.components.proofs.Ready.{minus_has, has_minus}
use Rattle.components.proofs.Ready as next

-- every number is below two to its own power
own_power : (n : ℕ) → n < 2 ^ n
own_power zero = omega arith
own_power (suc n) = omega (arith, pow-suc 2 n, own_power n)

module _ {d : Links} (b : Bounded 16 d) {left : ℕ} (small : left < 2 ^ 16) (back : Backward (has left) d) where
  -- nobody is left
  none_left : eqb left 0 ≡ true → (j : ℕ) → has left j ≡ true → ⊥
  none_left z j e = clash e (ap (λ g. has g j) (eqb-true left 0 z) ∙ has_zero j)

  empty_right : eqb left 0 ≡ true → Orders d (has left) []
  empty_right z =
      record {
        some = λ x l. absurd (omega arith);
        each = λ j e. absurd (none_left z j e);
        once = λ x y j h k. clash h (has_zero j);
        no_other = λ x j h. clash h (has_zero j);
        connected = λ x i j h e. clash h (has_zero i);
        after = λ x y i j h k c. clash h (has_zero i);
        lowest_first = λ x y j l f h. clash h (has_zero j);
      }

  empty_only : eqb left 0 ≡ true → (sets : List ℕ) → Orders d (has left) sets → sets ≡ []
  empty_only z [] o = refl
  empty_only z (g ∷ gs) o =
      let (j, h) = o.some 0 (omega arith) in
      absurd (none_left z j (o.no_other 0 j h))

  -- some are left: the next component, and an order of the others behind it
  module _ (any_left : eqb left 0 ≡ false) where
    abbrev gone : ℕ
    gone = next.gone b small back any_left

    abbrev rest : ℕ
    rest = next.rest b small back any_left

    abbrev i₀ : ℕ
    i₀ = next.next b small back any_left

    module _ {sets : List ℕ} (o : Orders d (has rest) sets) where
      -- boards of later sets are left and not of the next component
      later : (x j : ℕ) → has (at sets x) j ≡ true → (has left j ≡ true) × (has gone j ≡ false)
      later x j h = minus_has left gone j (o.no_other x j h)

      stands : (j : ℕ) → has left j ≡ true → (x : ℕ) × (has (at (gone ∷ sets) x) j ≡ true)
      stands j e =
          ⊎_elim
          (λ h. (0, h))
          (λ h. let (x, k) = o.each j (has_minus left gone j small e h) in (suc x, k))
          (decide (has gone j))

      once_of : (x y j : ℕ) → has (at (gone ∷ sets) x) j ≡ true → has (at (gone ∷ sets) y) j ≡ true → x ≡ y
      once_of zero zero j h k = refl
      once_of zero (suc y) j h k = clash h (later y j k).1
      once_of (suc x) zero j h k = clash k (later x j h).1
      once_of (suc x) (suc y) j h k = ap suc (o.once x y j h k)

      only_left : (x j : ℕ) → has (at (gone ∷ sets) x) j ≡ true → has left j ≡ true
      only_left zero j h = next.next_inside b small back any_left j h
      only_left (suc x) j h = (later x j h).0

      connected_of : (x i j : ℕ) → has (at (gone ∷ sets) x) i ≡ true → has left j ≡ true
          → (has (at (gone ∷ sets) x) j ≡ true → Chain d i j × Chain d j i)
          × (Chain d i j × Chain d j i → has (at (gone ∷ sets) x) j ≡ true)
      connected_of zero i j h e =
          let in_next = next.in_next b small back any_left in
          let s = (in_next i).0 h in (
            λ k. let t = (in_next j).0 k in (chain_join s.1 t.0, chain_join t.1 s.0),
            λ c. (in_next j).1 (chain_join s.0 c.0, chain_join c.1 s.1),
          )
      connected_of (suc x) i j h e =
          let in_next = next.in_next b small back any_left in
          ⊎_elim
          (λ g.
          let t = (in_next j).0 g in (
            λ k. clash g (later x j k).1,
            λ c.
                clash ((in_next i).1 (chain_join t.0 c.1, chain_join c.0 t.1)) (later x i h).1,
          ))
          (λ g. o.connected x i j h (has_minus left gone j small e g))
          (decide (has gone j))

      after_of : (x y i j : ℕ) → has (at (gone ∷ sets) x) i ≡ true → has (at (gone ∷ sets) y) j ≡ true → Chain d i j
          → y ≤ x
      after_of x zero i j h k c = omega arith
      after_of zero (suc y) i j h k c =
          let s = later y j k in
          clash (next.next_closed b small back any_left i j h c s.0) s.1
      after_of (suc x) (suc y) i j h k c = omega (arith, o.after x y i j h k c)

      lowest_of : (x y j : ℕ) → x < y → DependsBefore d (gone ∷ sets) x y → has (at (gone ∷ sets) y) j ≡ true
          → (i : ℕ) × (has (at (gone ∷ sets) x) i ≡ true) × (i < j)
      lowest_of x zero j l f h = absurd (omega arith)
      lowest_of zero (suc y) j l f h =
          let s = later y j h in
          let r : next.Ready b small back j =
          record {
            stays = s.0;
            mutual_with = λ k c e.
                let (z, g) = stands k e in
                let here_too : has (at sets y) k ≡ true =
                ⊎_elim
                (λ q. absurd (omega arith))
                (λ (q : z ≡ suc y). subst (λ x. has (at (gone ∷ sets) x) k ≡ true) q g)
                (f j k z h c g)
                in
                ((o.connected y j k h (o.no_other y k here_too)).0 here_too).1;
          }
          in
          let least = next.next_least b small back any_left j r in
          let own = (next.in_next b small back any_left i₀).1 (here, here) in (
            i₀,
            own,
            ⊎_elim (λ l. l) (λ l. clash (subst (λ x. has gone x ≡ true) (omega arith) own) s.1)
                (below_or i₀ j),
          )
      lowest_of (suc x) (suc y) j l f h =
          o.lowest_first x y j (omega arith)
          (λ a k z g c q. ⊎_elim (λ (e : suc z < suc x). inl (omega arith)) (λ (e : suc z ≡ suc y). inr (omega arith))
          (f a k (suc z) g c q))
          h

      some_of : (x : ℕ) → x < suc (length sets) → (j : ℕ) × (has (at (gone ∷ sets) x) j ≡ true)
      some_of zero l = (i₀, (next.in_next b small back any_left i₀).1 (here, here))
      some_of (suc x) l = o.some x (omega arith)

      right_more : Orders d (has left) (gone ∷ sets)
      right_more =
          record {
            some = some_of;
            each = stands;
            once = once_of;
            no_other = only_left;
            connected = connected_of;
            after = after_of;
            lowest_first = lowest_of;
          }

    -- a list that is right has the next component first, and behind it one that is right for the others
    module _ {g : ℕ} {sets : List ℕ} (o : Orders d (has left) (g ∷ sets)) where
      -- the next board stands in the first set: else that set had a lower one, which might go next
      next_first : has g i₀ ≡ true
      next_first =
          let ready = next.next_ready b small back any_left in
          let (y, h) = o.each i₀ ready.stays in
          go y h
        where
          go : (y : ℕ) → has (at (g ∷ sets) y) i₀ ≡ true → has g i₀ ≡ true
          go zero h = h
          go (suc y) h =
              let ready = next.next_ready b small back any_left in
              let (a, s, l) =
              o.lowest_first 0 (suc y) i₀ (omega arith)
              (λ i j z e c k.
              let stays = o.no_other z j k in
              let to = chain_join ((o.connected (suc y) i₀ i h (o.no_other (suc y) i e)).0 e).0 c in
              let together = (o.connected (suc y) i₀ j h stays).1 (to, ready.mutual_with j to stays) in
              inr (o.once z (suc y) j k together))
              h in
              let lower : next.Ready b small back a =
              record {
                stays = o.no_other 0 a s;
                mutual_with = λ k c e.
                    let (z, q) = o.each k e in
                    let first : z ≡ 0 = omega (arith, o.after 0 z a k s q c) in
                    let too : has g k ≡ true = subst (λ x. has (at (g ∷ sets) x) k ≡ true) first q in
                    ((o.connected 0 a k s e).0 too).1;
              }
              in
              absurd (omega (arith, next.next_least b small back any_left a lower))

      first_same : (j : ℕ) → has g j ≡ has gone j
      first_same j =
          let in_next = next.in_next b small back any_left j in
          test_ext _ _
          (λ h. in_next.1 ((o.connected 0 i₀ j next_first (o.no_other 0 j h)).0 h))
          (λ h. (o.connected 0 i₀ j next_first (next.next_inside b small back any_left j h)).1 (in_next.0 h))

      first_is : g ≡ gone
      first_is =
          has_ext (g + 16) g gone
          (lt_of_lt_of_le (own_power g) (pow_mono {i = g} {j = g + 16} (omega arith)))
          (lt_of_lt_of_le (next.component_small b i₀) (pow_mono {i = 16} {j = g + 16} (omega arith)))
          (λ j l. first_same j)

      rest_right : Orders d (has rest) sets
      rest_right =
          record {
            some = λ x l. o.some (suc x) (omega arith);
            each = λ j e.
                let s = minus_has left gone j e in
                let (x, h) = o.each j s.0 in
                placed j s.1 x h;
            once = λ x y j h k. let e = o.once (suc x) (suc y) j h k in omega arith;
            no_other = λ x j h. has_minus left gone j small (o.no_other (suc x) j h) (not_next x j h);
            connected = λ x i j h e. o.connected (suc x) i j h (minus_has left gone j e).0;
            after = λ x y i j h k c. let e = o.after (suc x) (suc y) i j h k c in omega arith;
            lowest_first = λ x y j l f h.
                o.lowest_first (suc x) (suc y) j (omega arith) (before x y f) h;
          }
        where
          not_next : (x j : ℕ) → has (at sets x) j ≡ true → has gone j ≡ false
          not_next x j h =
              refute (has gone j) (λ e. let same = o.once 0 (suc x) j (first_same j ∙ e) h in absurd (omega arith))

          placed : (j : ℕ) → has gone j ≡ false → (x : ℕ) → has (at (g ∷ sets) x) j ≡ true
              → (x : ℕ) × (has (at sets x) j ≡ true)
          placed j out zero h = clash (sym (first_same j) ∙ h) out
          placed j out (suc x) h = (x, h)

          before : (x y : ℕ) → DependsBefore d sets x y → DependsBefore d (g ∷ sets) (suc x) (suc y)
          before x y f i j zero h c k = inl (omega arith)
          before x y f i j (suc z) h c k =
              ⊎_elim (λ e. inl (omega arith)) (λ (e : z ≡ y). inr (ap suc e)) (f i j z h c k)

-- the list is right for the boards left, and the only one that is
abbrev Only : Links → ℕ → List ℕ → Type 0
Only d left sets = Orders d (has left) sets × ((others : List ℕ) → Orders d (has left) others → others ≡ sets)

module _ {d : Links} (b : Bounded 16 d) {left : ℕ} (small : left < 2 ^ 16) (back : Backward (has left) d) where
  empty_right_only : eqb left 0 ≡ true → Only d left []
  empty_right_only z = (empty_right b small back z, empty_only b small back z)

  more_only : (some : eqb left 0 ≡ false) (sets : List ℕ) → Only d (next.rest b small back some) sets
      → Only d left (next.gone b small back some ∷ sets)
  more_only some sets r = (right_more b small back some r.0, only)
    where
      only : (others : List ℕ) → Orders d (has left) others → others ≡ next.gone b small back some ∷ sets
      only [] o =
          let stays = (next.next_ready b small back some).stays in
          let (x, h) = o.each (next.next b small back some) stays in
          clash h (has_zero (next.next b small back some))
      only (g ∷ gs) o =
          ap₂ (λ c l. c ∷ l) (first_is b small back some o) (r.1 gs (rest_right b small back some o))

  -- nobody is left if there are none to be counted
  pub none_counted : count 16 (has left) ≤ 0 → eqb left 0 ≡ true
  none_counted few = go (decide (eqb left 0))
    where
      go : (eqb left 0 ≡ true) ⊎ (eqb left 0 ≡ false) → eqb left 0 ≡ true
      go (inl z) = z
      go (inr some) =
          let fewer = next.rest_fewer b small back some in absurd (omega arith)

-- the definition by whether any are left
module _ (d : Links) (left : ℕ) where
  pub order_none : (n : ℕ) → eqb left 0 ≡ true → order_from d n left ≡ []
  unfolding order_from
  order_none zero z = refl
  order_none (suc n) z = rw z

  pub order_some : (n : ℕ) → eqb left 0 ≡ false
      → order_from d (suc n) left
      ≡ component d (lowest 16 (ready d left)) ∷ order_from d n (minus left (component d (lowest 16 (ready d left))))
  unfolding order_from
  order_some n some = rw some

from_right : {d : Links} → Bounded 16 d → (n : ℕ) {left : ℕ} → left < 2 ^ 16 → Backward (has left) d
    → count 16 (has left) ≤ n → Only d left (order_from d n left)
from_right {d} b zero {left} small back few =
    let z = none_counted b small back few in
    subst (Only d left) (sym (order_none d left 0 z)) (empty_right_only b small back z)
from_right {d} b (suc n) {left} small back few =
    ⊎_elim
    (λ (z : eqb left 0 ≡ true).
    subst (Only d left) (sym (order_none d left (suc n) z)) (empty_right_only b small back z))
    (λ (some : eqb left 0 ≡ false).
    let less = next.rest_fewer b small back some in
    subst (Only d left) (sym (order_some d left n some))
    (more_only b small back some _
    (from_right b n (next.rest_small b small back some) (next.rest_back b small back some) (omega arith))))
    (decide (eqb left 0))

-- ---- the claim

-- there are p numbers below p
lower_counted : (p n : ℕ) → n ≤ p → count n (λ j. ltb j p) ≡ n
unfolding count
lower_counted p zero l = refl
lower_counted p (suc n) l = rw (lt-ltb n p (omega arith)) (omega (arith, lower_counted p n (omega arith)))

all_counted : (p n : ℕ) → p ≤ n → count n (λ j. ltb j p) ≡ p
unfolding count
all_counted p zero l = lower_counted p 0 (omega arith) ∙ omega arith
all_counted p (suc n) l =
    ⊎_elim
    (λ (k : n < p). lower_counted p (suc n) (omega arith) ∙ omega arith)
    (λ (k : p ≤ n). more_counted p n k (all_counted p n k))
    (below_or n p)
  where
    more_counted : (p n : ℕ) → p ≤ n → count n (λ j. ltb j p) ≡ p → count (suc n) (λ j. ltb j p) ≡ p
    more_counted p n k e = rw (le-ltb n p k) (omega arith)

-- the boards below p, and dependences among them
module _ {p : ℕ} (most : p ≤ 16) where
  pub has_all : (j : ℕ) → has (all_boards p) j ≡ ltb j p
  has_all j =
      ⊎_elim
      (has_mask 16 (λ j. ltb j p) j)
      (λ l. has_beyond 16 (λ j. ltb j p) j l ∙ sym (le-ltb j p (omega arith)))
      (below_or j 16)

  pub boards_counted : count 16 (has (all_boards p)) ≡ p
  boards_counted = ap (count 16) (fun_ext has_all) ∙ all_counted p 16 most

  pub all_back : {d : Links} → Bounded p d → Backward (has (all_boards p)) d
  all_back b = record { onto = λ x y h e. has_all x ∙ lt-ltb x p (b.ends x y e).0 }

-- a record that passes test 12 has dependences among the boards below P alone
pub record_bounded : (p : ℕ) (r : Record) → bad_record p r ≡ false → SixteenBoards r → Bounded p (depends r)
unfolding depends
record_bounded p r e sixteen =
    let rows = rows_within p r.rows (orderly p r e).rows in
    record {
      ends = λ x y h.
          let l = sixteen x y h in
          let w = rows.ends x y l.0 l.1 h in
          (w.0, w.1);
    }

pub order_right : OrderRight
unfolding order
order_right p r most e sixteen =
    let b = record_bounded p r e sixteen in
    let all : has (all_boards p) ≡ (λ j. ltb j p) = fun_ext (has_all most) in
    let few : count 16 (has (all_boards p)) ≤ p = omega (arith, boards_counted most) in
    subst (λ q. Orders (depends r) q (order_from (depends r) p (all_boards p))
    × ((sets : List ℕ) → Orders (depends r) q sets → sets ≡ order_from (depends r) p (all_boards p)))
    all (from_right (bounded_more b most) p (mask_below 16 _) (all_back most b) few)
