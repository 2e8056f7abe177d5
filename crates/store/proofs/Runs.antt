-- Laws of stores in a loop's rounds, in a part of the image, and away from what is read.
use Prim.Native.Nat.{ℕ, ◌+◌, ◌-◌, ◌≤◌}
use mathlib.Core.Path.{◌≡◌, sym, ◌∙◌, ap, ap₂}
use mathlib.Core.List.{List, [], ◌∷◌, ◌++◌, append-nil}
use mathlib.Core.Logic.{◌≢◌}
use lib.ListN.{length, get_or, set, take, drop, take-append-drop, drop_of_length-le, length-drop, length-set}
use lib.ListN.{length-map}
use lib.Seq.{take_all, drop-set-add, take-set-le}
use native.Mathlib.Omega.{arith}
use native.Mathlib.Nat.{zero-add}
use native.Mathlib.Numerals.{add-one}
use Rattle.boards.specs.Lists.{span}
use Rattle.protocol.specs.Image.{Store, made}
use Rattle.boards.proofs.Basics.{All, all_take, take_map, span_more}
use Rattle.protocol.proofs.Bridge.{made_else}
use Rattle.store.specs.declared.Budget.{Budget}
use Rattle.store.specs.Budget.{Makes}
use Rattle.store.specs.Runs.{shifted}
use Rattle.store.proofs.Laws.{makes_then}

-- ---- rounds of a loop

-- the rounds so far and one more
pub makes_round : (f : ℕ → Store) (j : ℕ) {b r r' : Budget} {x y z : List ℕ} →
    Makes (span f 0 j) b x r y → Makes (f j ∷ []) r y r' z → Makes (span f 0 (j + 1)) b x r' z
makes_round f j m n = rw (add-one, span_more f 0 j, zero-add) (makes_then m n)

-- ---- what stores leave

-- a byte that no store is made at stays
pub makes_else : {ss : List Store} {b r : Budget} {x y : List ℕ} → Makes ss b x r y → (i : ℕ) →
    All (λ s. s.at ≢ i) ss → get_or y i 0 ≡ get_or x i 0
makes_else {b} {x} m i h = ap (λ l. get_or l i 0) m.image ∙ made_else i x (all_take b.left h)

-- ---- a part of the image

-- stores made in the part from n on are the shifted stores made in the whole
pub made_part : (n : ℕ) (ss : List Store) (x : List ℕ) → n ≤ length x →
    take n x ++ made ss (drop n x) ≡ made (shifted n ss) x
unfolding made shifted
made_part n [] x l = take-append-drop n x
made_part n (s ∷ ss) x l =
    let next = set x (n + s.at) s.value in
    ap₂ (λ (p q : List ℕ). p ++ made ss q)
    (sym (take-set-le n x (n + s.at) s.value (omega arith)))
    (sym (drop-set-add n x s.at s.value))
    ∙ made_part n ss next (simp length-set l)

pub makes_part : {ss : List Store} {b r : Budget} {y : List ℕ} (n : ℕ) (x : List ℕ) → n ≤ length x →
    Makes ss b (drop n x) r y → Makes (shifted n ss) b x r (take n x ++ y)
unfolding shifted
makes_part {ss} {b} n x l m =
    record {
      image = rw (m.image, made_part n (take b.left ss) x l, take_map);
      budget = rw length-map m.budget;
    }

-- A leaf that is lent `&mut x[n..]` makes stores f read off that part: in the whole they are the shifted ones. Both
-- lists are as the borrow checker has them.
pub makes_lent : (f : List ℕ → List Store) {b r : Budget} {y : List ℕ} (n : ℕ) (x : List ℕ) → n ≤ length x →
    let lent = take (length x - n) (drop n x) in
    Makes (f lent) b lent r y →
    Makes (shifted n (f (drop n x))) b x r (take n x ++ (y ++ drop (length x - n) (drop n x)))
makes_lent f n x l m =
    let size : length (drop n x) ≤ length x - n = omega (arith, length-drop n x) in
    rw (drop_of_length-le (drop n x) size, append-nil)
    (makes_part n x l (rw (take_all (length x - n) (drop n x) size) at m))
