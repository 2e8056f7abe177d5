-- Accesses: the blocks that they touch, and the links that they make.
use Prim.Native.Nat.{ℕ, zero, suc, ◌+◌, ◌-◌, ◌*◌, ◌/◌, ◌≤◌, ◌<◌}
use native.Mathlib.Nat.{le-div_iff_mul-le, div-lt_iff_lt-mul, div-mul-le_self, lt-div-mul-add, le_trans}
use mathlib.Core.Path.{◌≡◌, refl, sym, ◌∙◌, ap, subst}
use mathlib.Core.Bool.{Bool, true, false, not}
use mathlib.Core.List.{List, [], ◌∷◌}
use mathlib.Core.Logic.{⊎_elim}
use lib.Dec.{eqb, leb}
use native.Mathlib.Omega.{arith}
use borrow.Author.Tests.{eq-eqb, eqb-true, eqb-false, leb-true, le-leb}
use Rattle.boards.specs.Lists.{any_of}
use Rattle.boards.specs.Boards.{Links, link, Chain, step}
use Rattle.protocol.specs.Accesses.{touched, whole, write_binding, bind_boards, bind_tag, bind_blocks}
use Rattle.protocol.specs.declared.Binding.{Binding}
use Rattle.protocol.specs.declared.Binding.TheVariants.{OneWay, TwoWay, Opposite}
use Rattle.protocol.specs.declared.Shape.{Shape}
use Rattle.boards.proofs.Basics.{decide, clash, and_true, true_and, or_true, or_right, true_or}
use Rattle.boards.proofs.Basics.{All, none, also, all_map}
use Rattle.boards.proofs.Groups.{Forward, Bounded, chain_more, chain_last, link_new, link_old, link_cases, link_bounded}
use Rattle.protocol.proofs.Marks.{To, to, From, from}

-- ---- touched blocks

div_mono : {k a b : ℕ} → 0 < k → a ≤ b → a / k ≤ b / k
div_mono {k} {a} {b} h l = (le-div_iff_mul-le h).1 (le_trans (div-mul-le_self a k) l)

div_next : (k a b : ℕ) → 0 < k → b < a + k → b / k ≤ a / k + 1
div_next k a b h l =
    let top = lt-div-mul-add {a = a} {b = k} h in
    let q = (div-lt_iff_lt-mul {k = k} {x = b} {y = a / k + 2} h).1 (omega arith) in
    omega arith

-- a cell between the bounds of block b lies in it
pub div_inside : (k b a : ℕ) → b * k ≤ a → a < b * k + k → a / k ≡ b
div_inside k b a low high =
    let from = (le-div_iff_mul-le {k = k} {x = b} {y = a} (omega arith)).1 low in
    let to = (div-lt_iff_lt-mul {k = k} {x = a} {y = suc b} (omega arith)).1 (omega arith) in
    omega arith

-- a cell of an access of at most S cells lies in a touched block
pub cell_touched : (s : Shape) (a n c : ℕ) → 0 < s.size → n ≤ s.size → a ≤ c → c < a + n
    → any_of (eqb (c / s.size)) (touched s a n) ≡ true
unfolding touched any_of
cell_touched s a n c pos small lo hi =
    let first = a / s.size in
    let last = (a + n - 1) / s.size in
    let q = c / s.size in
    let up : first ≤ q = div_mono pos lo in
    let down : q ≤ last = div_mono pos (omega arith) in
    let near : last ≤ first + 1 = div_next s.size a (a + n - 1) pos (omega arith) in
    ⊎_elim
    (λ (e : eqb q first ≡ true). true_or _ e)
    (λ (e : eqb q first ≡ false).
    let ne = eqb-false q first e in
    let is_last : q ≡ last = omega arith in
    ⊎_elim
    (λ (f : eqb first last ≡ true). let g = eqb-true first last f in absurd (ne (omega arith)))
    (λ (f : eqb first last ≡ false). rw f (or_right (eqb q first) (true_or _ (eq-eqb q last is_last))))
    (decide (eqb first last)))
    (decide (eqb q first))

-- a block is overwritten whole: by its bounds
module _ (s : Shape) (a n b : ℕ) where
  pub whole_bounds : whole s a n b ≡ true → (a ≤ b * s.size) × (b * s.size + s.size ≤ a + n)
  whole_bounds e =
      let both = and_true (leb a (b * s.size)) (leb (b * s.size + s.size) (a + n)) e in
      (leb-true a (b * s.size) both.0, leb-true (b * s.size + s.size) (a + n) both.1)

  pub bounds_whole : a ≤ b * s.size → b * s.size + s.size ≤ a + n → whole s a n b ≡ true
  bounds_whole low high = true_and (le-leb a (b * s.size) low) (le-leb (b * s.size + s.size) (a + n) high)

-- a fact of all elements is one of each that is found
pub all_found : {P : ℕ → Type 0} (b : ℕ) (bs : List ℕ) → All P bs → any_of (eqb b) bs ≡ true → P b
unfolding any_of
all_found b [] none e = clash e refl
all_found {P} b (c ∷ bs) (also h hs) e =
    ⊎_elim
    (λ (i : eqb b c ≡ true). subst P (sym (eqb-true b c i)) h)
    (λ (i : any_of (eqb b) bs ≡ true). all_found b bs hs i)
    (or_true (eqb b c) (any_of (eqb b) bs) e)

-- ---- links made by an access of board i to blocks with given bindings and tags

-- no link is lost
tie_wider : (how : Binding) (d : Links) (i j a b : ℕ) → d a b ≡ true → bind_boards link how d i j a b ≡ true
unfolding bind_boards
tie_wider OneWay d i j a b h = link_old d i j a b h
tie_wider TwoWay d i j a b h = link_old _ _ _ a b (link_old d _ _ a b h)
tie_wider Opposite d i j a b h = link_old d _ _ a b h

bind_wider : (how : Binding) (d : Links) (i t a b : ℕ) → d a b ≡ true → bind_tag link how d i t a b ≡ true
unfolding bind_tag
bind_wider how d i zero a b h = h
bind_wider how d i (suc j) a b h =
    ⊎_elim (λ (e : eqb i j ≡ true). rw e h) (λ (e : eqb i j ≡ false). rw e (tie_wider how d i j a b h))
    (decide (eqb i j))

pub binds_wider : (how : ℕ → Binding) (tag : ℕ → ℕ) (d : Links) (i : ℕ) (bs : List ℕ) (a b : ℕ) → d a b ≡ true
    → bind_blocks link how tag d i bs a b ≡ true
unfolding bind_blocks
binds_wider how tag d i [] a b h = h
binds_wider how tag d i (c ∷ bs) a b h =
    binds_wider how tag (bind_tag link (how c) d i (tag c)) i bs a b (bind_wider (how c) d i (tag c) a b h)

-- whether a binding makes the board depend on the writer; whether it makes the writer depend on the board
unfoldable pub goes_forth : Binding → Bool
goes_forth OneWay = true
goes_forth TwoWay = true
goes_forth Opposite = false

unfoldable pub goes_back : Binding → Bool
goes_back OneWay = false
goes_back TwoWay = true
goes_back Opposite = true

-- a write goes back in every block, and forth where it leaves a cell
pub write_forth : (s : Shape) (a n b : ℕ) → goes_forth (write_binding s a n b) ≡ not (whole s a n b)
unfolding write_binding goes_forth
write_forth s a n b = ⊎_elim (λ (e : whole s a n b ≡ true). rw e) (λ (e : whole s a n b ≡ false). rw e)
    (decide (whole s a n b))

pub write_back : (s : Shape) (a n b : ℕ) → goes_back (write_binding s a n b) ≡ true
unfolding write_binding goes_back
write_back s a n b = ⊎_elim (λ (e : whole s a n b ≡ true). rw e) (λ (e : whole s a n b ≡ false). rw e)
    (decide (whole s a n b))

-- where it goes forth the board comes to reach all that a tag's board reaches; where it goes back, what reaches a tag's
-- board comes to reach the board
tie_forth : (how : Binding) (d : Links) (i j : ℕ) → goes_forth how ≡ true → bind_boards link how d i j i j ≡ true
unfolding bind_boards goes_forth
tie_forth OneWay d i j w = link_new d i j
tie_forth TwoWay d i j w = link_old (link d i j) _ _ i j (link_new d i j)
tie_forth Opposite d i j w = clash w refl

tie_back : (how : Binding) (d : Links) (i j : ℕ) → goes_back how ≡ true → bind_boards link how d i j j i ≡ true
unfolding bind_boards goes_back
tie_back OneWay d i j w = clash w refl
tie_back TwoWay d i j w = link_new (link d i j) j i
tie_back Opposite d i j w = link_new d j i

bind_from : (how : Binding) (d : Links) (i t m : ℕ) → goes_forth how ≡ true → From d m t
    → Chain (bind_tag link how d i t) i m
unfolding bind_tag
bind_from how d i zero m w h = elim h [ ]
bind_from how d i (suc j) m w (from c) =
    ⊎_elim
    (λ (e : eqb i j ≡ true). rw e (subst (λ x. Chain d x m) (sym (eqb-true i j e)) c))
    (λ (e : eqb i j ≡ false). rw e (step (tie_forth how d i j w) (chain_more (tie_wider how d i j) c)))
    (decide (eqb i j))

bind_to : (how : Binding) (d : Links) (i t m : ℕ) → goes_back how ≡ true → To d m t
    → Chain (bind_tag link how d i t) m i
unfolding bind_tag
bind_to how d i zero m w h = elim h [ ]
bind_to how d i (suc j) m w (to c) =
    ⊎_elim
    (λ (e : eqb i j ≡ true). rw e (subst (λ x. Chain d m x) (sym (eqb-true i j e)) c))
    (λ (e : eqb i j ≡ false). rw e (chain_last (chain_more (tie_wider how d i j) c) (tie_back how d i j w)))
    (decide (eqb i j))

pub from_more : {d e : Links} {m t : ℕ} → ((a b : ℕ) → d a b ≡ true → e a b ≡ true) → From d m t → From e m t
from_more wider (from c) = from (chain_more wider c)

pub to_more : {d e : Links} {m t : ℕ} → ((a b : ℕ) → d a b ≡ true → e a b ≡ true) → To d m t → To e m t
to_more wider (to c) = to (chain_more wider c)

pub binds_from : (how : ℕ → Binding) (tag : ℕ → ℕ) (d : Links) (i : ℕ) (bs : List ℕ)
    → All (λ b. goes_forth (how b) ≡ true → (m : ℕ) → From d m (tag b) → Chain (bind_blocks link how tag d i bs) i m) bs
unfolding bind_blocks
binds_from how tag d i [] = none
binds_from how tag d i (b ∷ bs) =
    let e = bind_tag link (how b) d i (tag b) in
    also
    (λ w m h. chain_more (binds_wider how tag e i bs) (bind_from (how b) d i (tag b) m w h))
    (all_map (λ x f w m h. f w m (from_more (bind_wider (how b) d i (tag b)) h)) (binds_from how tag e i bs))

pub binds_to : (how : ℕ → Binding) (tag : ℕ → ℕ) (d : Links) (i : ℕ) (bs : List ℕ)
    → All (λ b. goes_back (how b) ≡ true → (m : ℕ) → To d m (tag b) → Chain (bind_blocks link how tag d i bs) m i) bs
unfolding bind_blocks
binds_to how tag d i [] = none
binds_to how tag d i (b ∷ bs) =
    let e = bind_tag link (how b) d i (tag b) in
    also
    (λ w m h. chain_more (binds_wider how tag e i bs) (bind_to (how b) d i (tag b) m w h))
    (all_map (λ x f w m h. f w m (to_more (bind_wider (how b) d i (tag b)) h)) (binds_to how tag e i bs))

-- links stay between boards below n
module _ {n : ℕ} {i : ℕ} (small : i < n) where
  tie_bounded : (how : Binding) (d : Links) (j : ℕ) → j < n → Bounded n d → Bounded n (bind_boards link how d i j)
  unfolding bind_boards
  tie_bounded OneWay d j l h = link_bounded h small l
  tie_bounded TwoWay d j l h = link_bounded (link_bounded h small l) l small
  tie_bounded Opposite d j l h = link_bounded h l small

  pub bind_bounded : (how : Binding) (d : Links) (t : ℕ) → t ≤ n → Bounded n d → Bounded n (bind_tag link how d i t)
  unfolding bind_tag
  bind_bounded how d zero l h = h
  bind_bounded how d (suc j) l h =
      ⊎_elim (λ (e : eqb i j ≡ true). rw e h) (λ (e : eqb i j ≡ false). rw e (tie_bounded how d j l h))
      (decide (eqb i j))

  pub binds_bounded : (how : ℕ → Binding) (tag : ℕ → ℕ) (d : Links) (bs : List ℕ) → ((b : ℕ) → tag b ≤ n) → Bounded n d
      → Bounded n (bind_blocks link how tag d i bs)
  unfolding bind_blocks
  binds_bounded how tag d [] l h = h
  binds_bounded how tag d (b ∷ bs) l h =
      binds_bounded how tag (bind_tag link (how b) d i (tag b)) bs l (bind_bounded (how b) d (tag b) (l b) h)

-- a set closed under dependence stays so, if the board is not in it and, after a write, no tag names one of it
link_forward : {p : ℕ → Bool} {d : Links} (i j : ℕ) → p i ≡ false → Forward p d → Forward p (link d i j)
link_forward {p} {d} i j out f =
    record {
      onto =
          λ a b h e.
          ⊎_elim (λ q. clash h (ap p q.0 ∙ out)) (λ (o : d a b ≡ true). f.onto a b h o) (link_cases d i j a b e);
    }

pub data Outside (p : ℕ → Bool) : Binding → ℕ → Type 0 where
  reading : {t : ℕ} → Outside p OneWay t
  untagged : {how : Binding} → Outside p how 0
  writing : {how : Binding} {j : ℕ} → p j ≡ false → Outside p how (suc j)

tie_forward : {p : ℕ → Bool} (how : Binding) {d : Links} (i j : ℕ) → p i ≡ false → Outside p how (suc j)
    → Forward p d → Forward p (bind_boards link how d i j)
unfolding bind_boards
tie_forward OneWay i j out o f = link_forward i j out f
tie_forward TwoWay i j out (writing q) f = link_forward j i q (link_forward i j out f)
tie_forward Opposite i j out (writing q) f = link_forward j i q f

bind_forward : {p : ℕ → Bool} {how : Binding} {d : Links} (i t : ℕ) → p i ≡ false → Outside p how t → Forward p d
    → Forward p (bind_tag link how d i t)
unfolding bind_tag
bind_forward i zero out o f = f
bind_forward {how = how} i (suc j) out o f =
    ⊎_elim (λ (e : eqb i j ≡ true). rw e f) (λ (e : eqb i j ≡ false). rw e (tie_forward how i j out o f))
    (decide (eqb i j))

pub binds_forward : {p : ℕ → Bool} {how : ℕ → Binding} {tag : ℕ → ℕ} {d : Links} (i : ℕ) (bs : List ℕ) → p i ≡ false
    → All (λ b. Outside p (how b) (tag b)) bs → Forward p d
    → Forward p (bind_blocks link how tag d i bs)
unfolding bind_blocks
binds_forward i [] out none f = f
binds_forward {how = how} {tag = tag} {d = d} i (b ∷ bs) out (also o os) f =
    binds_forward {d = bind_tag link (how b) d i (tag b)} i bs out os (bind_forward i (tag b) out o f)
