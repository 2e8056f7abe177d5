-- The masks: where the components of the boards left are put.
use Prim.Native.Nat.{ℕ, zero, suc, ◌+◌, ◌^◌, ◌≤◌, ◌<◌}
use mathlib.Core.Path.{◌≡◌, sym, ◌∙◌, ap, ap₂, subst}
use mathlib.Core.List.{List, [], ◌∷◌, ◌++◌, append_assoc}
use lib.ListN.{length, take, drop, set, take-append-drop}
use lib.Seq.{take-suc-set, drop-set-lt}
use native.Mathlib.Omega.{arith}
use native.Mathlib.Nat.{add-zero}
use native.Mathlib.Numerals.{add-one}
use borrow.Author.Tests.{eq-eqb}
use Rattle.boards.specs.Boards.{has, Links}
use Rattle.boards.specs.Rows.{minus}
use Rattle.boards.proofs.Groups.{count, Bounded, Backward}
use Rattle.components.specs.Components.{component, ready, lowest, order_from}
use Rattle.components.proofs.Orders.{order_none, order_some}
use Rattle.components.proofs.Ready as next
use Rattle.order.specs.Call.{WithDependents, PutFrom}
use Rattle.order.proofs.Next.{left_back, left_some}

-- nobody is left: nothing is put
pub put_none : (d : Links) (left at : ℕ) (masks : List ℕ) → left ≡ 0 → PutFrom d left at masks at masks
put_none d left at masks z =
    let none : (n : ℕ) → order_from d n left ≡ [] = λ n. order_none d left n (eq-eqb left 0 z) in
    record {
      end = λ n few. rw (none n) (sym (add-zero at));
      masks = λ n few. rw (none n, add-zero) (sym (take-append-drop at masks));
    }

-- some are left: their next component, then those of the others
module _ {d : Links} (b : Bounded 16 d) {left : ℕ} (small : left < 2 ^ 16) (some : 0 < left)
    (dependents : WithDependents d left) {own others : ℕ} (e : own ≡ component d (lowest 16 (ready d left)))
    (f : others ≡ minus left own)
  where
    back : Backward (has left) d
    back = left_back b left small some dependents

    others_are : others ≡ next.rest b small back (left_some b left small some dependents)
    others_are = f ∙ ap (minus left) e

    -- they are fewer, and have their dependents with them
    pub others_fewer : count 16 (has others) < count 16 (has left)
    others_fewer =
        subst (λ g. count 16 (has g) < count 16 (has left)) (sym others_are)
        (next.rest_fewer b small back (left_some b left small some dependents))

    pub others_dependents : WithDependents d others
    others_dependents =
        subst (WithDependents d) (sym others_are)
        (next.rest_back b small back (left_some b left small some dependents)).onto

    order_is : (n : ℕ) → order_from d (suc n) left ≡ own ∷ order_from d n others
    order_is n =
        order_some d left n (left_some b left small some dependents)
        ∙ ap₂ (λ g h. g ∷ order_from d n h) (sym e) (sym others_are)

    pub put_more : (at : ℕ) (masks : List ℕ) (r : ℕ) (after : List ℕ) → at < length masks
        → PutFrom d others (at + 1) (set masks at own) r after → PutFrom d left at masks r after
    put_more at masks r after l p = record { end = ends; masks = puts }
      where
        ends : (n : ℕ) → count 16 (has left) ≤ n → r ≡ at + length (order_from d n left)
        ends zero few = absurd (omega (arith, others_fewer))
        ends (suc n) few =
            let rest = p.end n (omega (arith, others_fewer)) in
            let one = ap length (order_is n) in
            omega arith

        puts : (n : ℕ) → count 16 (has left) ≤ n
            → after ≡ take at masks ++ (order_from d n left ++ drop (at + length (order_from d n left)) masks)
        puts zero few = absurd (omega (arith, others_fewer))
        puts (suc n) few =
            let o = order_from d n others in
            let k = length o in
            let place : at + 1 + k ≡ at + suc k = omega arith in
            let head : take (at + 1) (set masks at own) ≡ take at masks ++ own ∷ [] =
            ap (λ x. take x (set masks at own)) (add-one at) ∙ take-suc-set masks at own l in
            let tail : drop (at + 1 + k) (set masks at own) ≡ drop (at + suc k) masks =
            ap (λ x. drop x (set masks at own)) place ∙ drop-set-lt (at + suc k) masks at own (omega arith) in
            p.masks n (omega (arith, others_fewer))
            ∙ ap₂ (λ x y. x ++ (o ++ y)) head tail
            ∙ append_assoc (take at masks) (own ∷ []) (o ++ drop (at + suc k) masks)
            ∙ ap (λ x. take at masks ++ (x ++ drop (at + length x) masks)) (sym (order_is n))
