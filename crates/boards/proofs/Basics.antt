-- Laws of tests, loops and ranges that every other proof uses.
use Prim.Native.Nat.{ℕ, zero, suc, ◌+◌, ◌-◌, ◌*◌, ◌≤◌, ◌<◌}
use mathlib.Core.Path.{◌≡◌, refl, sym, ◌∙◌, ap, ap₂}
use mathlib.Core.Bool.{Bool, true, false, ◌&&◌, ◌||◌, not, cond, true≢false, false≢true}
use mathlib.Core.List.{List, [], ◌∷◌, ◌++◌, map}
use mathlib.Core.Logic.{◌⊎◌, inl, inr, ⊎_elim}
use lib.Dec.{eqb}
use lib.ListN.{length, get_or, take}
use lib.Seq.{take-nil}
use native.Mathlib.Omega.{arith}
use native.Mathlib.Nat.{not-suc-le-zero, sub-zero, zero-sub, suc-sub-suc, zero-add, add-zero, suc-add, suc-mul}
use native.Mathlib.Nat.{mul-le-mul_right}
use native.Mathlib.Numerals.{add-one}
use borrow.Author.Tests.{eq-eqb, eqb-true}
use Rattle.boards.specs.Lists.{for, span, every, any, any_of}

-- ---- tests

pub decide : (b : Bool) → (b ≡ true) ⊎ (b ≡ false)
decide true = inl refl
decide false = inr refl

pub clash {ℓ} : {X : Type ℓ} {b : Bool} → b ≡ true → b ≡ false → X
clash p q = absurd (true≢false (sym p ∙ q))

pub and_true : (a b : Bool) → a && b ≡ true → (a ≡ true) × (b ≡ true)
and_true true b h = (refl, h)
and_true false b h = absurd (false≢true h)

pub true_and : {a b : Bool} → a ≡ true → b ≡ true → a && b ≡ true
true_and {a} {b} p q = ap (λ x. x && b) p ∙ q

pub false_and : {a : Bool} (b : Bool) → a ≡ false → a && b ≡ false
false_and b p = ap (λ x. x && b) p

pub and_false : (a : Bool) {b : Bool} → b ≡ false → a && b ≡ false
and_false true p = p
and_false false p = refl

pub or_false : (a b : Bool) → a || b ≡ false → (a ≡ false) × (b ≡ false)
or_false true b h = absurd (true≢false h)
or_false false b h = (refl, h)

pub false_or : {a b : Bool} → a ≡ false → b ≡ false → a || b ≡ false
false_or {a} {b} p q = ap (λ x. x || b) p ∙ q

pub or_true : (a b : Bool) → a || b ≡ true → (a ≡ true) ⊎ (b ≡ true)
or_true true b h = inl refl
or_true false b h = inr h

pub true_or : {a : Bool} (b : Bool) → a ≡ true → a || b ≡ true
true_or b p = ap (λ x. x || b) p

pub or_right : (a : Bool) {b : Bool} → b ≡ true → a || b ≡ true
or_right true p = refl
or_right false p = p

pub not_true : (a : Bool) → not a ≡ true → a ≡ false
not_true true h = absurd (false≢true h)
not_true false h = refl

pub not_false : (a : Bool) → not a ≡ false → a ≡ true
not_false true h = refl
not_false false h = absurd (true≢false h)

pub false_not : {a : Bool} → a ≡ false → not a ≡ true
false_not p = ap not p

-- a test is false where its truth is absurd
pub refute : (b : Bool) → (b ≡ true → ⊥) → b ≡ false
refute true f = absurd (f refl)
refute false f = refl

-- two tests with the same truth are equal
pub test_ext : (a b : Bool) → (a ≡ true → b ≡ true) → (b ≡ true → a ≡ true) → a ≡ b
test_ext true b f g = sym (f refl)
test_ext false true f g = g refl
test_ext false false f g = refl

pub if_true {ℓ} : {X : Type ℓ} {b : Bool} (x y : X) → b ≡ true → cond b x y ≡ x
if_true x y p = ap (λ c. cond c x y) p

pub if_false {ℓ} : {X : Type ℓ} {b : Bool} (x y : X) → b ≡ false → cond b x y ≡ y
if_false x y p = ap (λ c. cond c x y) p

pub eqb_same : (n : ℕ) → eqb n n ≡ true
eqb_same n = eq-eqb n n refl

pub eqb_comm : (a b : ℕ) → eqb a b ≡ eqb b a
eqb_comm a b = test_ext _ _ (λ e. eq-eqb b a (sym (eqb-true a b e))) (λ e. eq-eqb a b (sym (eqb-true b a e)))

-- ---- tests over a range

below_zero {ℓ} : {X : Type ℓ} {i : ℕ} → i < 0 → X
below_zero h = absurd (not-suc-le-zero h)

-- i < suc n: below n, or n itself
pub below_suc : (i n : ℕ) → i < suc n → (i < n) ⊎ (i ≡ n)
below_suc i n h = go (eqb i n) refl
  where
    go : (b : Bool) → eqb i n ≡ b → (i < n) ⊎ (i ≡ n)
    go true e = inr (eqb-true i n e)
    go false e = inl (omega (arith, borrow.Author.Tests.eqb-false i n e))

pub every_at : (n : ℕ) (p : ℕ → Bool) → every n p ≡ true → (i : ℕ) → i < n → p i ≡ true
unfolding every
every_at zero p h i l = below_zero l
every_at (suc n) p h i l =
    let both = and_true (every n p) (p n) h in
    ⊎_elim (λ k. every_at n p both.0 i k) (λ e. ap p e ∙ both.1) (below_suc i n l)

pub every_all : (n : ℕ) (p : ℕ → Bool) → ((i : ℕ) → i < n → p i ≡ true) → every n p ≡ true
unfolding every
every_all zero p h = refl
every_all (suc n) p h = true_and (every_all n p (λ i l. h i (omega arith))) (h n (omega arith))

-- some number passes exactly if not every number fails
any_every : (n : ℕ) (p : ℕ → Bool) → any n p ≡ not (every n (λ i. not (p i)))
unfolding any every
any_every zero p = refl
any_every (suc n) p = rw (any_every n p) (either (every n (λ i. not (p i))) (p n))
  where
    either : (a b : Bool) → not a || b ≡ not (a && not b)
    either true true = refl
    either true false = refl
    either false b = refl

pub any_none : (n : ℕ) (p : ℕ → Bool) → any n p ≡ false → (i : ℕ) → i < n → p i ≡ false
any_none n p h i l =
    not_true (p i) (every_at n (λ i. not (p i)) (not_false _ (sym (any_every n p) ∙ h)) i l)

pub none_any : (n : ℕ) (p : ℕ → Bool) → ((i : ℕ) → i < n → p i ≡ false) → any n p ≡ false
none_any n p h = any_every n p ∙ ap not (every_all n (λ i. not (p i)) (λ i l. ap not (h i l)))

pub some_any : (n : ℕ) (p : ℕ → Bool) (i : ℕ) → i < n → p i ≡ true → any n p ≡ true
some_any n p i l h = go (decide (any n p))
  where
    go : (any n p ≡ true) ⊎ (any n p ≡ false) → any n p ≡ true
    go (inl e) = e
    go (inr e) = clash h (any_none n p e i l)

pub any_some : (n : ℕ) (p : ℕ → Bool) → any n p ≡ true → (i : ℕ) × (i < n) × (p i ≡ true)
unfolding any
any_some zero p h = absurd (false≢true h)
any_some (suc n) p h =
    ⊎_elim
    (λ e. let r = any_some n p e in (r.0, omega (arith, r.1), r.2))
    (λ e. (n, omega arith, e))
    (or_true (any n p) (p n) h)

-- ---- a statement of every element of a list

pub data All {X : Type 0} (P : X → Type 0) : List X → Type 0 where
  none : All P []
  also : {x : X} {xs : List X} → P x → All P xs → All P (x ∷ xs)

module _ {X : Type 0} {P : X → Type 0} where
  pub all_append : {xs ys : List X} → All P xs → All P ys → All P (xs ++ ys)
  all_append none q = q
  all_append (also h p) q = also h (all_append p q)

  pub all_cond : (b : Bool) {xs ys : List X} → (b ≡ true → All P xs) → (b ≡ false → All P ys) → All P (cond b xs ys)
  all_cond true p q = p refl
  all_cond false p q = q refl

  pub all_for : (n : ℕ) (f : ℕ → List X) → ((i : ℕ) → i < n → All P (f i)) → All P (for n f)
  unfolding for
  all_for zero f h = none
  all_for (suc n) f h = all_append (all_for n f (λ i l. h i (omega arith))) (h n (omega arith))

  pub all_map : {Q : X → Type 0} {xs : List X} → ((x : X) → P x → Q x) → All P xs → All Q xs
  all_map f none = none
  all_map f (also h p) = also (f _ h) (all_map f p)

  pub all_mapped : {Y : Type 0} {Q : Y → Type 0} (f : X → Y) {xs : List X} → ((x : X) → P x → Q (f x)) → All P xs
      → All Q (map f xs)
  all_mapped f g none = none
  all_mapped f g (also h p) = also (g _ h) (all_mapped f g p)

  pub any_of_false : (t : X → Bool) {xs : List X} → ((x : X) → P x → t x ≡ false) → All P xs → any_of t xs ≡ false
  unfolding any_of
  any_of_false t f none = refl
  any_of_false t f (also h p) = false_or (f _ h) (any_of_false t f p)

pub false_any_of : {X : Type 0} (t : X → Bool) (xs : List X) → any_of t xs ≡ false → All (λ x. t x ≡ false) xs
unfolding any_of
false_any_of t [] h = none
false_any_of t (x ∷ xs) h =
    let both = or_false (t x) (any_of t xs) h in
    also both.0 (false_any_of t xs both.1)

-- ---- ranges

module _ {X : Type 0} (f : ℕ → X) where
  pub length_span : (a n : ℕ) → length (span f a n) ≡ n
  unfolding span
  length_span a zero = refl
  length_span a (suc n) = ap suc (length_span (suc a) n)

  pub get_or_span : (a n x : ℕ) (d : X) → x < n → get_or (span f a n) x d ≡ f (a + x)
  unfolding span
  get_or_span a zero x d l = below_zero l
  get_or_span a (suc n) zero d l = ap f (omega arith)
  get_or_span a (suc n) (suc x) d l = get_or_span (suc a) n x d (omega arith) ∙ ap f (omega arith)

  -- a range in two parts
  pub span_append : (a m n : ℕ) → span f a (m + n) ≡ span f a m ++ span f (a + m) n
  unfolding span
  span_append a zero n = rw (zero-add, add-zero)
  span_append a (suc m) n =
      rw suc-add (ap (λ l. f a ∷ l) (span_append (suc a) m n ∙ ap (λ b. span f (suc a) m ++ span f b n) (omega arith)))

  pub span_more : (a n : ℕ) → span f a (suc n) ≡ span f a n ++ f (a + n) ∷ []
  unfolding span
  span_more a n = sym (ap (span f a) (add-one n)) ∙ span_append a n 1

  -- what holds at each of the numbers
  pub all_span : {P : X → Type 0} (a n : ℕ) → ((i : ℕ) → a ≤ i → i < a + n → P (f i)) → All P (span f a n)
  unfolding span
  all_span a zero h = none
  all_span a (suc n) h =
      also (h a (omega arith) (omega arith)) (all_span (suc a) n (λ i l m. h i (omega arith) (omega arith)))

  -- two ranges that agree number by number
  pub span_same : (g : ℕ → X) (a b n : ℕ) → ((x : ℕ) → x < n → f (a + x) ≡ g (b + x)) → span f a n ≡ span g b n
  unfolding span
  span_same g a b zero h = refl
  span_same g a b (suc n) h =
      ap₂ (λ x l. x ∷ l)
      (ap f (omega arith) ∙ h 0 (omega arith) ∙ ap g (omega arith))
      (span_same g (suc a) (suc b) n (λ x l. ap f (omega arith) ∙ h (suc x) (omega arith) ∙ ap g (omega arith)))

-- of rows of n, one after the other, row i ends within the first b if it is one of them
pub row_fits : (n b i : ℕ) → i < b → i * n + n ≤ b * n
row_fits n b i l = omega (arith, suc-mul i n, mul-le-mul_right n l)

-- ---- prefixes

pub take_map : {X Y : Type 0} (k : ℕ) (f : X → Y) (xs : List X) → take k (map f xs) ≡ map f (take k xs)
take_map zero f xs = refl
take_map (suc k) f [] = refl
take_map (suc k) f (x ∷ xs) = ap (λ r. f x ∷ r) (take_map k f xs)

module _ {X : Type 0} where
  -- a prefix of an append, and of a list with a statement of every element
  pub take_append : (k : ℕ) (xs ys : List X) → take k (xs ++ ys) ≡ take k xs ++ take (k - length xs) ys
  take_append k [] ys = rw (take-nil, sub-zero)
  take_append zero (x ∷ xs) ys = rw zero-sub
  take_append (suc k) (x ∷ xs) ys = rw suc-sub-suc (ap (λ l. x ∷ l) (take_append k xs ys))

  pub all_take : {P : X → Type 0} (k : ℕ) {xs : List X} → All P xs → All P (take k xs)
  all_take zero p = none
  all_take (suc k) none = none
  all_take (suc k) (also h p) = also h (all_take k p)
