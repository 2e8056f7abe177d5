-- The image by areas: what puts change and what they leave.
use Prim.Native.Nat.{ℕ}
use mathlib.Core.Path.{◌≡◌, refl, ◌∙◌, ap}
use mathlib.Core.Bool.{◌&&◌, cond}
use mathlib.Core.List.{List, [], ◌∷◌, ◌++◌}
use mathlib.Core.Logic.{◌≢◌}
use lib.Dec.{eqb}
use borrow.Author.Tests.{eqb-true}
use Rattle.protocol.specs.Image.{Area, Memory, Put, put, rank, change, after}
use Rattle.boards.proofs.Basics.{and_true, refute, true_and, if_true, if_false, eqb_same, All, none, also}

-- ---- one put

-- a put to another place
pub record Away (a : Area) (i : ℕ) (p : Put) : Type 0 where
  pub apart : rank p.area ≡ rank a → p.index ≡ i → ⊥

-- it is of another area, or at another index
pub else_area : {a b : Area} {i j v : ℕ} → rank b ≢ rank a → Away a i (put b j v)
else_area h = record { apart = λ r f. h r }

pub else_index : {a b : Area} {i j v : ℕ} → j ≢ i → Away a i (put b j v)
else_index h = record { apart = λ r f. h f }

-- what one put changes
pub change_away : (m : Memory) {p : Put} {a : Area} {i : ℕ} → Away a i p → change m p a i ≡ m a i
unfolding change
change_away m {p} {a} {i} h = if_false p.value (m a i) (refute _ (λ e.
    let both = and_true (eqb (rank p.area) (rank a)) (eqb p.index i) e in
    h.apart (eqb-true _ _ both.0) (eqb-true _ _ both.1)))

pub change_same : (m : Memory) (a : Area) (i v : ℕ) → change m (put a i v) a i ≡ v
unfolding change
change_same m a i v = if_true v (m a i) (true_and (eqb_same (rank a)) (eqb_same i))

pub change_area : (m : Memory) (a b : Area) (i j v : ℕ) → rank a ≢ rank b → change m (put a i v) b j ≡ m b j
change_area m a b i j v h = change_away m (else_area h)

pub change_index : (m : Memory) (a : Area) (i j v : ℕ) → i ≢ j → change m (put a i v) a j ≡ m a j
change_index m a i j v h = change_away m (else_index h)

-- ---- lists of puts

pub after_append : (ps qs : List Put) (m : Memory) → after (ps ++ qs) m ≡ after qs (after ps m)
unfolding after
after_append [] qs m = refl
after_append (p ∷ ps) qs m = after_append ps qs (change m p)

-- puts to other places leave a place as it is
pub untouched : {a : Area} {i : ℕ} {ps : List Put} → All (Away a i) ps → (m : Memory) → after ps m a i ≡ m a i
unfolding after
untouched none m = refl
untouched (also {x} h t) m = untouched t (change m x) ∙ change_away m h

-- what a place holds afterwards rests on no other place
pub after_local : (ps : List Put) (m n : Memory) (a : Area) (i : ℕ) → m a i ≡ n a i → after ps m a i ≡ after ps n a i
unfolding after change
after_local [] m n a i e = e
after_local (p ∷ ps) m n a i e =
    after_local ps (change m p) (change n p) a i
    (ap (λ v. cond (eqb (rank p.area) (rank a) && eqb p.index i) p.value v) e)
