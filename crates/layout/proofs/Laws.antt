-- What an allowed shape and an image in order give, as plain inequalities.
use Prim.Native.Nat.{ℕ, ◌+◌, ◌*◌, ◌^◌, ◌≤◌, ◌<◌}
use mathlib.Core.Path.{◌≡◌, refl, sym, ◌∙◌, subst}
use mathlib.Core.Bool.{Bool, true, false, ◌||◌, cond}
use mathlib.Core.List.{List}
use mathlib.Core.Logic.{⊎_elim}
use lib.Dec.{eqb, leb}
use lib.ListN.{length, get_or}
use lib.Pow.{pow-lt, pow_mono}
use native.Mathlib.Omega.{arith}
use native.Mathlib.Nat.{mul-le-mul}
use borrow.Author.Tests.{eq-eqb, eqb-true, leb-true, leb-false, le-leb}
use Rattle.boards.specs.Lists.{any}
use Rattle.protocol.specs.Image.{allowed, exponent, exponent_from, total, byte, shape_of, in_order, Tags, base}
use Rattle.protocol.specs.Image.{size, view}
use Rattle.protocol.specs.declared.Shape.{Shape}
use Rattle.boards.proofs.Basics.{decide, refute, any_some, some_any}
use Rattle.layout.specs.Headers.{Shaped}
use Rattle.protocol.proofs.Bridge.{Limits, limits, Sound, order_sound, view_at}

-- ---- sizes

-- of seven tests one holds exactly when the number of the first that holds is at most 6
first_of : (a b c d e f g : Bool) → ((((((false || a) || b) || c) || d) || e) || f) || g ≡
    leb (cond a 0 (cond b 1 (cond c 2 (cond d 3 (cond e 4 (cond f 5 (cond g 6 7))))))) 6
first_of true b c d e f g = refl
first_of false true c d e f g = refl
first_of false false true d e f g = refl
first_of false false false true e f g = refl
first_of false false false false true f g = refl
first_of false false false false false true g = refl
first_of false false false false false false true = refl
first_of false false false false false false false = refl

-- a size is one of the seven exactly when its exponent is at most 6, and is then at most 64
pub one_of_seven : (n : ℕ) → any 7 (λ p. eqb (2 ^ p) n) ≡ leb (exponent n) 6
unfolding any exponent exponent_from
one_of_seven n = first_of (eqb 1 n) (eqb 2 n) (eqb 4 n) (eqb 8 n) (eqb 16 n) (eqb 32 n) (eqb 64 n)

pub small : (n : ℕ) → exponent n ≤ 6 → n ≤ 64
small n h =
    let q = any_some 7 _ (one_of_seven n ∙ le-leb _ _ h) in
    omega (arith, eqb-true (2 ^ q.0) n q.2, pow_mono {i = q.0} {j = 6} (omega arith))

-- so the tests before it keep the product from wrapping
pub product : (m n : ℕ) → m ≤ 1024 → exponent n ≤ 6 → m * n < 2 ^ 64
product m n l h = omega (arith, mul-le-mul l (small n h))

-- a power above 6 is of no allowed size
pub power_within : (q b : ℕ) → q < 7 → 2 ^ q ≡ 2 ^ b → b ≤ 6
power_within q b l e =
    ⊎_elim
    (λ h. leb-true _ _ h)
    (λ h. absurd (omega (arith, pow-lt {i = q} {j = b} (omega (arith, leb-false b 6 h)))))
    (decide (leb b 6))

-- ---- shapes

-- the bounds of an allowed shape, of its context bytes and of its image
pub record Bounded (s : Shape) : Type 0 where
  pub limits : Limits s
  pub most_exponent : exponent s.size ≤ 6
  pub most_contexts : s.boards * s.context ≤ 1024
  pub most_total : total s ≤ 35852

pub bounded : {s : Shape} → allowed s ≡ true → Bounded s
unfolding total
bounded {s} h =
    let l = limits s h in
    let q = l.power in
    let seven = some_any 7 (λ p. eqb (2 ^ p) s.size) q.0 q.1 (eq-eqb _ _ q.2) in
    let contexts : s.boards * s.context ≤ 16 * 64 = mul-le-mul l.most_boards l.most_context in
    record {
      limits = l;
      most_exponent = leb-true _ _ (sym (one_of_seven s.size) ∙ seven);
      most_contexts = contexts;
      most_total = omega arith;
    }

-- a shape is not allowed if a bound fails; it is allowed by its context if all others hold
pub refused : {s : Shape} → (Bounded s → ⊥) → false ≡ allowed s
refused {s} h = sym (refute (allowed s) (λ e. h (bounded e)))

pub passed : (s : Shape) → (1 ≤ s.boards) × (s.boards ≤ 16) × (exponent s.size ≤ 6) × (1 ≤ s.blocks)
    × (s.blocks ≤ 1024) × (s.blocks * s.size ≤ 16384) → leb s.context 64 ≡ allowed s
unfolding allowed
passed s h = rw (
  one_of_seven s.size,
  le-leb _ _ h.0,
  le-leb _ _ h.1,
  le-leb _ _ h.2,
  le-leb _ _ h.3,
  le-leb _ _ h.4,
  le-leb _ _ h.5,
)

-- ---- images

-- the power of two that an allowed block size is, as the header holds it
power_small : (image : List ℕ) → allowed (shape_of image) ≡ true → byte image 5 ≤ 6
unfolding shape_of
power_small image h =
    let q = (bounded {s = shape_of image} h).limits.power in power_within q.0 (byte image 5) q.1 q.2

-- what an image in order gives of its shape s
pub record Geometry (most : ℕ) (s : Shape) (image : List ℕ) : Type 0 where
  pub sound : Sound s image
  pub shape : Bounded s
  pub enough : 12 ≤ length image
  pub power : byte image 5 ≤ 6
  pub decision : byte image 9 ≤ most

pub geometry : {most : ℕ} {image : List ℕ} → in_order most image ≡ true → Geometry most (shape_of image) image
unfolding shape_of total
geometry {image} h =
    let s = shape_of image in
    let both = order_sound h in
    let long = both.0.long in
    record {
      sound = both.0;
      shape = bounded {s = s} both.0.allowed_shape;
      enough = omega arith;
      power = power_small image both.0.allowed_shape;
      decision = both.1;
    }

-- an image of the shape that its header names has bytes 0 to 11 and such a power
pub shaped_power : {image : List ℕ} {s : Shape} → Shaped image s → (12 ≤ length image) × (byte image 5 ≤ 6)
unfolding total
shaped_power {image} h =
    let allowed_shape = subst (λ s. allowed s ≡ true) (sym h.shape) h.allowed_shape in
    (omega (arith, h.long), power_small image allowed_shape)

-- an image is out of order if any of that fails
pub disordered : {most : ℕ} {image : List ℕ} → (Geometry most (shape_of image) image → ⊥) → in_order most image ≡ false
disordered {most} {image} h = refute (in_order most image) (λ e. h (geometry e))

-- a block's tag in the image
pub tag_read : (s : Shape) (x : List ℕ) (b : ℕ) → b < s.blocks → view s x Tags b ≡ get_or x (12 + b) 0
unfolding base size
tag_read s x b l = view_at s x Tags b l
