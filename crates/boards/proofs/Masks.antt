-- Laws for code: sets of boards by bit operations, tags, rows set one at a time.
use Prim.Native.Nat.{ℕ, zero, suc, ◌+◌, ◌-◌, ◌*◌, ◌/◌, ◌%◌, ◌^◌, ◌≤◌, ◌<◌, min, max}
use mathlib.Core.Path.{◌≡◌, refl, sym, ◌∙◌, ap, ap₂}
use mathlib.Core.Bool.{Bool, true, false, ◌&&◌, ◌||◌, not, and_comm, or_comm}
use mathlib.Core.List.{List}
use mathlib.Core.Logic.{◌⊎◌, inl, inr}
use mir.Syntax.{w16}
use mir.Val.{Fits}
use lib.Dec.{leb, eqb, lit<, eqb-zero-suc, eqb-suc-zero, eqb-suc-suc}
use lib.Bits.{bit_and, bit_or, and_step, or_step, or_lt, and_lt}
use lib.Count.{count_trailing_zeros, under}
use lib.ListN.{length, get_or, set, length-set}
use lib.Seq.{ext_get_or, get_or-set_same, get_or-set_other}
use lib.Pow.{shl_exact, pow_pos, pow-lt}
use native.Mathlib.Omega.{arith}
use native.Mathlib.Nat.{pow-suc, one-mul, div-eq_of_lt, div-lt_iff_lt-mul}
use borrow.Author.Tests.{eq-eqb, ne_eqb, eqb-true, eqb-false, leb-true, leb-false}
use Rattle.boards.specs.Boards.{has, mask, set_of, single, with_board, meets, within, beyond, tagged_in, Links}
use Rattle.boards.specs.Boards.{link, unlink}
use Rattle.boards.specs.Rows.{links_of, rows_of, union, minus}
use Rattle.boards.proofs.Basics.{decide, clash, false_and, test_ext, eqb_comm}
use Rattle.boards.proofs.Basics.{every_at, every_all, any_none, any_some}
use Rattle.boards.proofs.Groups.{has_zero, has_mask, has_none, has_ext, has_single, has_small, has_below}
use Rattle.boards.proofs.Groups.{has_beyond}
use Rattle.boards.proofs.Groups.{mask_below, no_beyond, length_for, get_or_for}

-- ---- bits

-- what holds of 0 and 1 holds of a digit
digit : (P : ℕ → Type 0) → P 0 → P 1 → (a : ℕ) → P (a % 2)
digit P p q a = go (a % 2) (omega arith)
  where
    go : (x : ℕ) → x < 2 → P x
    go zero l = p
    go (suc zero) l = q
    go (suc (suc n)) l = absurd (omega arith)

digits : (P : ℕ → ℕ → Type 0) → P 0 0 → P 0 1 → P 1 0 → P 1 1 → (a b : ℕ) → P (a % 2) (b % 2)
digits P p q r s a b = digit (λ x. P x (b % 2)) (digit (P 0) p q b) (digit (P 1) r s b) a

-- the boards of what is computed digit by digit
by_digits : (op f : ℕ → ℕ → ℕ) (t : Bool → Bool → Bool) →
    ((a b : ℕ) → op a b ≡ op (a / 2) (b / 2) * 2 + f (a % 2) (b % 2)) →
    ((a b : ℕ) → (f (a % 2) (b % 2) < 2) × (eqb (f (a % 2) (b % 2)) 1 ≡ t (eqb (a % 2) 1) (eqb (b % 2) 1))) →
    (a b j : ℕ) → has (op a b) j ≡ t (has a j) (has b j)
unfolding has
by_digits op f t step bit a b zero =
    let low : op a b % 2 ≡ f (a % 2) (b % 2) = omega (arith, step a b, (bit a b).0) in
    ap (λ x. eqb x 1) low ∙ (bit a b).1
by_digits op f t step bit a b (suc j) =
    let high : op a b / 2 ≡ op (a / 2) (b / 2) = omega (arith, step a b, (bit a b).0) in
    ap (λ x. has x j) high ∙ by_digits op f t step bit (a / 2) (b / 2) j

pub has_or : (a b j : ℕ) → has (bit_or a b) j ≡ has a j || has b j
has_or =
    by_digits bit_or max (λ x y. x || y) or_step
    (digits (λ x y. (max x y < 2) × (eqb (max x y) 1 ≡ eqb x 1 || eqb y 1))
    (lit< tt, refl) (lit< tt, refl) (lit< tt, refl) (lit< tt, refl))

pub has_and : (a b j : ℕ) → has (bit_and a b) j ≡ has a j && has b j
has_and =
    by_digits bit_and min (λ x y. x && y) and_step
    (digits (λ x y. (min x y < 2) × (eqb (min x y) 1 ≡ eqb x 1 && eqb y 1))
    (lit< tt, refl) (lit< tt, refl) (lit< tt, refl) (lit< tt, refl))

-- the complement within n bits
pub has_not : (n g j : ℕ) → g < 2 ^ n → j < n → has (2 ^ n - 1 - g) j ≡ not (has g j)
unfolding has
has_not zero g j h l = absurd (omega arith)
has_not (suc n) g zero h l =
    let low : (2 ^ suc n - 1 - g) % 2 ≡ 1 - g % 2 = omega (arith, pow-suc 2 n) in
    ap (λ x. eqb x 1) low ∙ digit (λ x. eqb (1 - x) 1 ≡ not (eqb x 1)) refl refl g
has_not (suc n) g (suc j) h l =
    let high : (2 ^ suc n - 1 - g) / 2 ≡ 2 ^ n - 1 - g / 2 = omega (arith, pow-suc 2 n) in
    ap (λ x. has x j) high ∙ has_not n (g / 2) j (omega (arith, pow-suc 2 n)) (omega arith)

pub has_power : (i j : ℕ) → has (2 ^ i) j ≡ eqb i j
unfolding has
has_power zero zero = refl
has_power zero (suc j) = has_zero j ∙ sym (eqb-zero-suc j)
has_power (suc i) zero = ne_eqb (2 ^ suc i % 2) 1 (omega (arith, pow-suc 2 i)) ∙ sym (eqb-suc-zero i)
has_power (suc i) (suc j) =
    let high : 2 ^ suc i / 2 ≡ 2 ^ i = omega (arith, pow-suc 2 i) in
    ap (λ x. has x j) high ∙ has_power i j ∙ sym (eqb-suc-suc i j)

-- the number of trailing zeros of a set that is not empty is a board of it
pub has_lowest : (n g : ℕ) → 0 < g → g < 2 ^ n → has g (count_trailing_zeros n g) ≡ true
unfolding has count_trailing_zeros
has_lowest zero g p s = absurd (omega arith)
has_lowest (suc n) g p s =
    go (g % 2) refl (λ e. has_lowest n (g / 2) (omega arith) (omega (arith, pow-suc 2 n)))
  where
    go : (d : ℕ) → g % 2 ≡ d → (g % 2 ≡ 0 → has (g / 2) (count_trailing_zeros n (g / 2)) ≡ true) →
        has g (under d (count_trailing_zeros n (g / 2))) ≡ true
    go zero e higher = higher e
    go (suc d) e higher = eq-eqb (g % 2) 1 (omega arith)

-- ---- sets

-- a number below 2 ^ n is the set of its boards
pub mask_told : (n g : ℕ) (p : ℕ → Bool) → g < 2 ^ n → ((j : ℕ) → j < n → has g j ≡ p j) → g ≡ mask n p
mask_told n g p s e = has_ext n g (mask n p) s (mask_below n p) (λ j l. e j l ∙ sym (has_mask n p j l))

pub mask_ext : (n : ℕ) (p q : ℕ → Bool) → ((j : ℕ) → j < n → p j ≡ q j) → mask n p ≡ mask n q
mask_ext n p q e = mask_told n (mask n p) q (mask_below n p) (λ j l. has_mask n p j l ∙ e j l)

-- one board by a shift
pub power_single : (i : ℕ) → i < 16 → 1 * 2 ^ i % 65536 ≡ single i
power_single i l =
    shl_exact 1 i 16 (omega arith) (omega arith) ∙ one-mul (2 ^ i)
    ∙ mask_told 16 (2 ^ i) (λ j. eqb i j) (pow-lt l) (λ j k. has_power i j)

pub or_with : (g i : ℕ) → g < 2 ^ 16 → bit_or g (single i) ≡ with_board g i
or_with g i s =
    mask_told 16 _ _ (or_lt 16 g (single i) s (mask_below 16 _))
    (λ j l. has_or g (single i) j ∙ ap (λ b. has g j || b) (has_single i j l))

-- sets with a board in common, by their common bits
pub and_meets : (g h : ℕ) → g < 2 ^ 16 → h < 2 ^ 16 → not (eqb (bit_and g h) 0) ≡ meets g (has h)
and_meets g h s t = go (decide (meets g (has h)))
  where
    go : (meets g (has h) ≡ true) ⊎ (meets g (has h) ≡ false) → not (eqb (bit_and g h) 0) ≡ meets g (has h)
    go (inl e) =
        let (j, l, both) = any_some 16 (λ j. has g j && has h j) e in
        ap not (ne_eqb (bit_and g h) 0 (λ z. clash (has_and g h j ∙ both) (ap (λ x. has x j) z ∙ has_zero j))) ∙ sym e
    go (inr e) =
        ap not (eq-eqb (bit_and g h) 0 (has_none 16 (bit_and g h) (and_lt 16 g h s t)
        (λ j l. has_and g h j ∙ any_none 16 (λ j. has g j && has h j) e j l))) ∙ sym e

implied : (a b : Bool) → (a && b ≡ a → not a || b ≡ true) × (not a || b ≡ true → a && b ≡ a)
implied true true = (λ e. refl, λ e. refl)
implied true false = (λ e. e, λ e. e)
implied false b = (λ e. refl, λ e. refl)

-- a set within another, by their common bits
pub and_within : (g h : ℕ) → g < 2 ^ 16 → h < 2 ^ 16 → eqb (bit_and g h) g ≡ within g h
and_within g h s t =
    test_ext (eqb (bit_and g h) g) (within g h)
    (λ e. every_all 16 _ (λ j l. (implied (has g j) (has h j)).0
    (sym (has_and g h j) ∙ ap (λ x. has x j) (eqb-true (bit_and g h) g e))))
    (λ e. eq-eqb (bit_and g h) g (has_ext 16 _ _ (and_lt 16 g h s t) s
    (λ j l. has_and g h j ∙ (implied (has g j) (has h j)).1 (every_at 16 _ e j l))))

-- the boards of one set that are not in another, by a complement
pub and_minus : (g h : ℕ) → g < 2 ^ 16 → h < 2 ^ 16 → bit_and g (65535 - h) ≡ minus g h
and_minus g h s t =
    mask_told 16 _ _ (and_lt 16 g (65535 - h) s (omega arith))
    (λ j l. has_and g (65535 - h) j ∙ ap (λ b. has g j && b) (has_not 16 h j t l))

-- the boards of two sets
pub or_union : (g h : ℕ) → g < 2 ^ 16 → h < 2 ^ 16 → bit_or g h ≡ union g h
or_union g h s t = mask_told 16 _ _ (or_lt 16 g h s t) (λ j l. has_or g h j)

-- ---- boards at or above p

-- with no bit at or above p a set is below 2 ^ p
below_power : (p g : ℕ) → p < 16 → g < 2 ^ 16 → beyond p g ≡ false → g < 2 ^ p
unfolding beyond
below_power p g l s e = omega (arith, mask_below p (has g), same)
  where
    part : (j : ℕ) → j < 16 → (leb p j ≡ true) ⊎ (leb p j ≡ false) → has g j ≡ has (mask p (has g)) j
    part j k (inl t) =
        sym (ap (λ b. b && has g j) t) ∙ any_none 16 (λ j. leb p j && has g j) e j k
        ∙ sym (has_beyond p (has g) j (leb-true p j t))
    part j k (inr t) = sym (has_mask p (has g) j (leb-false p j t))

    same : g ≡ mask p (has g)
    same =
        has_ext 16 g (mask p (has g)) s (omega (arith, mask_below p (has g), pow-lt l))
        (λ j k. part j k (decide (leb p j)))

pub beyond_shift : (p g : ℕ) → p < 16 → g < 2 ^ 16 → not (eqb (g / 2 ^ p) 0) ≡ beyond p g
beyond_shift p g l s = go (decide (beyond p g))
  where
    small : g / 2 ^ p ≡ 0 → g < 2 ^ p
    small z = omega (arith, (div-lt_iff_lt-mul {x = g} {y = 1} (pow_pos p)).0 (omega arith))

    go : (beyond p g ≡ true) ⊎ (beyond p g ≡ false) → not (eqb (g / 2 ^ p) 0) ≡ beyond p g
    go (inl e) =
        ap not (ne_eqb (g / 2 ^ p) 0 (λ z. clash e (no_beyond p g (λ j l h. has_below p g j (small z) h)))) ∙ sym e
    go (inr e) = ap not (eq-eqb (g / 2 ^ p) 0 (div-eq_of_lt (below_power p g l s e))) ∙ sym e

pub beyond_none : (p g : ℕ) → 16 ≤ p → g < 2 ^ 16 → beyond p g ≡ false
beyond_none p g l s = no_beyond p g (λ j below h. omega (arith, has_below 16 g j s h))

-- ---- tags

-- a tag by the writer that it names
pub tagged_none : (g : ℕ) {t : ℕ} → t ≡ 0 → false ≡ tagged_in g t
unfolding tagged_in
tagged_none g e = rw e

pub tagged_past : (g j : ℕ) {t : ℕ} → g < 65536 → 16 ≤ j → t ≡ suc j → false ≡ tagged_in g t
unfolding tagged_in
tagged_past g j h l e = rw e (sym (has_small 16 g j h l))

pub tagged_board : (g j : ℕ) {t : ℕ} → t ≡ suc j → has g j ≡ tagged_in g t
unfolding tagged_in
tagged_board g j e = rw e

-- ---- the sixteen rows

-- sixteen numbers of sixteen bits
pub record Sixteen (rows : List ℕ) : Type 0 where
  pub long : length rows ≡ 16
  pub small : (a : ℕ) → Fits w16 (get_or rows a 0)

-- rows are those of a relation if each is the set of its boards
pub rows_told : (d : Links) (rows : List ℕ) → length rows ≡ 16 → ((a : ℕ) → a < 16 → get_or rows a 0 ≡ set_of (d a)) →
    rows ≡ rows_of d
unfolding rows_of
rows_told d rows e same =
    let row : ℕ → ℕ = λ a. set_of (d a) in
    ext_get_or 0 rows _ (e ∙ sym (length_for row 16))
    (λ a l. same a (omega arith) ∙ sym (get_or_for row 16 a 0 (omega arith)))

-- a board added to one row
pub set_linked : (rows : List ℕ) → Sixteen rows → (i j : ℕ) → i < 16 →
    set rows i (with_board (get_or rows i 0) j) ≡ rows_of (link (links_of rows) i j)
unfolding link links_of
set_linked rows s i j l =
    rows_told (link (links_of rows) i j) _ (length-set rows i _ ∙ s.long) (λ a k. go a k (decide (eqb a i)))
  where
    board : ℕ
    board = with_board (get_or rows i 0) j

    go : (a : ℕ) → a < 16 → (eqb a i ≡ true) ⊎ (eqb a i ≡ false) →
        get_or (set rows i board) a 0 ≡ set_of (link (links_of rows) i j a)
    go a k (inl e) =
        let same : a ≡ i = eqb-true a i e in
        ap (λ x. get_or (set rows i board) x 0) same ∙ get_or-set_same rows i board 0 (omega (arith, s.long))
        ∙ mask_ext 16 _ _ (λ b m. or_comm (has (get_or rows i 0) b) (eqb j b)
        ∙ ap₂ (λ x y. x || y) (eqb_comm j b ∙ sym (ap (λ t. t && eqb b j) e))
        (ap (λ x. has (get_or rows x 0) b) (sym same)))
    go a k (inr e) =
        get_or-set_other rows i a board 0 (eqb-false a i e)
        ∙ mask_told 16 _ _ (s.small a).fits (λ b m. sym (ap (λ t. (t && eqb b j) || has (get_or rows a 0) b) e))

-- row a with the rows and the columns of g emptied
pub emptied_member : (row a g : ℕ) → has g a ≡ true → 0 ≡ set_of (unlink (has g) (λ a. has row) a)
unfolding unlink
emptied_member row a g e = mask_told 16 0 _ (pow_pos 16) (λ j l. has_zero j ∙ sym (false_and _ (ap not e)))

pub emptied_other : (row a g : ℕ) → row < 2 ^ 16 → g < 2 ^ 16 → has g a ≡ false →
    bit_and row (65535 - g) ≡ set_of (unlink (has g) (λ a. has row) a)
unfolding unlink
emptied_other row a g s t e =
    and_minus row g s t
    ∙ mask_ext 16 _ _ (λ j l. and_comm (has row j) (not (has g j))
    ∙ sym (ap (λ t. not t && (not (has g j) && has row j)) e))
