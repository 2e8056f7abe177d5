-- The image as a list of bytes against the image by areas: where each area stands, and what stores leave in each.
use Prim.Native.Nat.{ℕ, zero, suc, ◌+◌, ◌*◌, ◌^◌, ◌≤◌, ◌<◌}
use mathlib.Core.Path.{◌≡◌, refl, sym, ◌∙◌, ap, ap₂, fun_ext}
use mathlib.Core.Bool.{Bool, true, false, ◌&&◌, cond}
use mathlib.Core.List.{List, [], ◌∷◌, ◌++◌, map}
use mathlib.Core.Logic.{◌≢◌, ⊎_elim}
use lib.Dec.{eqb, ltb, leb, lit<}
use lib.ListN.{length, get_or, set, take, drop, length-set}
use lib.Seq.{get_or-set_same, get_or-set_other, drop-cons}
use lib.Pow.{pow_pos, pow_mono}
use native.Mathlib.Omega.{arith}
use native.Mathlib.Nat.{add-suc, not-suc-le-zero}
use borrow.Author.Tests.{eq-eqb, eqb-true, leb-true, lt-leb, lt-ltb, le-ltb, ltb-true, ltb-false}
use Rattle.boards.specs.Lists.{span, every, any}
use Rattle.protocol.specs.Image.{Area, Header, Decision, Group, Tags, Current, Recovery, Tentative, Checkpoint}
use Rattle.protocol.specs.Image.{allowed, total, base, size, rank, mark, byte, shape_of}
use Rattle.protocol.specs.Image.{in_order, view, Store, made, Put, raw, change, after}
use Rattle.protocol.specs.Calls.{decides, first, context_tests, context_status, context_part}
use Rattle.protocol.specs.declared.Shape.{Shape}
use Rattle.boards.proofs.Basics.{decide, clash, and_true, true_and, test_ext, if_true, if_false, below_suc}
use Rattle.boards.proofs.Basics.{every_at, every_all, any_some, All, none, also, all_mapped, row_fits}

-- what is equal to either arm of a choice where that arm is taken
either : {X : Type 0} (b : Bool) {x y z : X} → (b ≡ true → z ≡ x) → (b ≡ false → z ≡ y) → z ≡ cond b x y
either true f g = f refl
either false f g = g refl

-- ---- shapes in order

-- the bounds of an allowed shape
pub record Limits (s : Shape) : Type 0 where
  pub some_boards : 1 ≤ s.boards
  pub most_boards : s.boards ≤ 16
  pub power : (p : ℕ) × (p < 7) × (2 ^ p ≡ s.size)
  pub some_size : 1 ≤ s.size
  pub most_size : s.size ≤ 64
  pub some_blocks : 1 ≤ s.blocks
  pub most_blocks : s.blocks ≤ 1024
  pub most_cells : s.blocks * s.size ≤ 16384
  pub most_context : s.context ≤ 64

pub limits : (s : Shape) → allowed s ≡ true → Limits s
unfolding allowed
limits s h =
    let a = and_true (leb 1 s.boards) _ h in
    let b = and_true (leb s.boards 16) _ a.1 in
    let c = and_true (any 7 (λ p. eqb (2 ^ p) s.size)) _ b.1 in
    let d = and_true (leb 1 s.blocks) _ c.1 in
    let e = and_true (leb s.blocks 1024) _ d.1 in
    let f = and_true (leb (s.blocks * s.size) 16384) _ e.1 in
    let q = any_some 7 _ c.0 in
    let power : 2 ^ q.0 ≡ s.size = eqb-true _ _ q.2 in
    record {
      some_boards = leb-true _ _ a.0;
      most_boards = leb-true _ _ b.0;
      power = (q.0, q.1, power);
      some_size = omega (arith, pow_pos q.0);
      most_size = omega (arith, pow_mono {i = q.0} {j = 6} (omega arith));
      some_blocks = leb-true _ _ d.0;
      most_blocks = leb-true _ _ e.0;
      most_cells = leb-true _ _ f.0;
      most_context = leb-true _ _ f.1;
    }

pub board_small : {s : Shape} {i : ℕ} → Limits s → i < s.boards → i < 16
board_small bound l = omega (arith, bound.most_boards)

-- an image in order but for byte 9, and of the shape s
pub record Sound (s : Shape) (image : List ℕ) : Type 0 where
  pub allowed_shape : allowed s ≡ true
  pub shape : shape_of image ≡ s
  pub marked : every 4 (λ i. eqb (byte image i) (byte mark i)) ≡ true
  pub long : length image ≡ total s

-- it is in order by byte 9 alone
pub in_order_sound : (s : Shape) (image : List ℕ) → Sound s image → (k : ℕ) → in_order k image ≡ leb (byte image 9) k
unfolding in_order
in_order_sound s image h k = rw (h.marked, h.shape, h.allowed_shape, eq-eqb _ _ h.long)

pub order_sound : {most : ℕ} {image : List ℕ} → in_order most image ≡ true
    → Sound (shape_of image) image × (byte image 9 ≤ most)
unfolding in_order
order_sound {image = image} h =
    let s = shape_of image in
    let a = and_true (every 4 (λ i. eqb (byte image i) (byte mark i))) _ h in
    let b = and_true (allowed s) _ a.1 in
    let c = and_true (eqb (length image) (total s)) _ b.1 in
    (record { allowed_shape = b.0; shape = refl; marked = a.0; long = eqb-true _ _ c.0 }, leb-true _ _ c.1)

-- an image is sound by the bytes of its header, if they are those of a list with the mark and the shape
pub sound_bytes : {s : Shape} (from image : List ℕ) → ((i : ℕ) → i < 9 → byte image i ≡ byte from i) →
    allowed s ≡ true → shape_of from ≡ s → every 4 (λ i. eqb (byte from i) (byte mark i)) ≡ true →
    length image ≡ total s → Sound s image
unfolding shape_of
sound_bytes from image same fine shape marked long =
    record {
      allowed_shape = fine;
      shape = rw (same 4 (lit< tt), same 5 (lit< tt), same 6 (lit< tt), same 7 (lit< tt), same 8 (lit< tt)) shape;
      marked = every_all 4 _ (λ i l. rw (same i (omega arith)) (every_at 4 _ marked i l));
      long = long;
    }

-- ---- areas one after the other

-- what holds of each of the eight areas holds of every area
pub each : (P : Area → Type 0) →
    (P Header × P Decision × P Group × P Tags × P Current × P Recovery × P Tentative × P Checkpoint) → (a : Area) → P a
each P h Header = h.0
each P h Decision = h.1
each P h Group = h.2
each P h Tags = h.3
each P h Current = h.4
each P h Recovery = h.5
each P h Tentative = h.6
each P h Checkpoint = h.7

areas : List Area
areas = Header ∷ Decision ∷ Group ∷ Tags ∷ Current ∷ Recovery ∷ Tentative ∷ Checkpoint ∷ []

ranked : (a : Area) → get_or areas (rank a) Checkpoint ≡ a
unfolding areas rank
ranked = each (λ a. get_or areas (rank a) Checkpoint ≡ a) (refl, refl, refl, refl, refl, refl, refl, refl)

-- areas with the same number are the same
pub rank_area : (a b : Area) → rank a ≡ rank b → a ≡ b
rank_area a b e = sym (ranked a) ∙ ap (λ n. get_or areas n Checkpoint) e ∙ ranked b

-- where the area of rank n begins: the sizes of those before it
edge : Shape → ℕ → ℕ
edge s zero = 0
edge s (suc n) = edge s n + size s (get_or areas n Checkpoint)

base_edge : (s : Shape) (a : Area) → base s a ≡ edge s (rank a)
unfolding base edge rank size areas
base_edge s = each (λ a. base s a ≡ edge s (rank a)) (omega arith)

edge_grows : (s : Shape) (m n : ℕ) → m < n → edge s m + size s (get_or areas m Checkpoint) ≤ edge s n
unfolding edge
edge_grows s m zero l = absurd (not-suc-le-zero l)
edge_grows s m (suc n) l =
    ⊎_elim
    (λ k. let ih = edge_grows s m n k in omega arith)
    (λ e. rw e (omega arith))
    (below_suc m n l)

-- an area ends before one of a higher rank begins, all but the header begin past it, and all end within the image
pub ends : (s : Shape) (a b : Area) → rank a < rank b → base s a + size s a ≤ base s b
ends s a b l =
    let h = edge_grows s (rank a) (rank b) l in
    omega (arith, base_edge s a, base_edge s b, ap (size s) (ranked a))

pub past_header : (s : Shape) (a : Area) → rank a ≢ 0 → 9 ≤ base s a
unfolding base size rank
past_header s a h = ends s Header a (omega arith)

pub ends_within : (s : Shape) (a : Area) → base s a + size s a ≤ total s
unfolding base size total
ends_within s = each (λ a. base s a + size s a ≤ total s) (omega arith)

-- every place of an area is a byte of the image
pub fits : (s : Shape) (a : Area) (i : ℕ) → i < size s a → base s a + i < total s
fits s a i l = omega (arith, ends_within s a)

-- different places of areas have different offsets
pub apart : (s : Shape) (a b : Area) (i j : ℕ) → i < size s a → j < size s b →
    base s a + i ≡ base s b + j → (rank a ≡ rank b) × (i ≡ j)
apart s a b i j l k e = (same, omega (arith, ap (base s) (rank_area a b same)))
  where
    not_less : (a b : Area) (i j : ℕ) → i < size s a → base s a + i ≡ base s b + j → rank b ≤ rank a
    not_less a b i j l e =
        ⊎_elim
        (λ h. absurd (omega (arith, ends s a b (ltb-true _ _ h))))
        (λ h. ltb-false _ _ h)
        (decide (ltb (rank a) (rank b)))

    same : rank a ≡ rank b
    same = omega (arith, not_less a b i j l e, not_less b a j i k (sym e))

-- ---- the view

-- a place of an area is a byte of the image; past the area's end stands 0
pub view_at : (s : Shape) (image : List ℕ) (a : Area) (i : ℕ) → i < size s a →
    view s image a i ≡ byte image (base s a + i)
unfolding view
view_at s image a i l = if_true _ _ (lt-ltb _ _ l)

pub view_past : (s : Shape) (image : List ℕ) (a : Area) (i : ℕ) → size s a ≤ i → view s image a i ≡ 0
unfolding view
view_past s image a i l = if_false _ _ (le-ltb _ _ l)

pub view_decision : {s : Shape} {image : List ℕ} → Sound s image → view s image Decision 0 ≡ byte image 9
unfolding view size base
view_decision h = refl

-- a part of an area as a part of the image
pub part_view : (s : Shape) (image : List ℕ) (a : Area) (i n : ℕ) → length image ≡ total s → i + n ≤ size s a →
    take n (drop (base s a + i) image) ≡ span (view s image a) i n
unfolding span
part_view s image a i zero e l = refl
part_view s image a i (suc n) e l =
    let inside : i < size s a = omega arith in
    let next = part_view s image a (suc i) n e (omega arith) in
    let cut = drop-cons image (base s a + i) 0 (omega (arith, fits s a i inside)) in
    rw (cut, ← add-suc, next, view_at s image a i inside)

-- ---- puts

-- a put of an index that its area has, not of the header
pub record Valid (s : Shape) (p : Put) : Type 0 where
  pub body : rank p.area ≢ 0
  pub within : p.index < size s p.area

-- ---- stores

pub length_made : (ss : List Store) (image : List ℕ) → length (made ss image) ≡ length image
unfolding made
length_made [] image = refl
length_made (s ∷ ss) image = length_made ss _ ∙ length-set image s.at s.value

pub made_append : (ss ts : List Store) (image : List ℕ) → made (ss ++ ts) image ≡ made ts (made ss image)
unfolding made
made_append [] ts image = refl
made_append (s ∷ ss) ts image = made_append ss ts _

-- a byte that no store is made at stays
pub made_else : (i : ℕ) {ss : List Store} (image : List ℕ) → All (λ s. s.at ≢ i) ss →
    byte (made ss image) i ≡ byte image i
unfolding made
made_else i image none = refl
made_else i image (also {x = s} h hs) =
    made_else i _ hs ∙ get_or-set_other image s.at i s.value 0 (λ e. h (sym e))

-- a store of a valid put decides if it sets the decision byte to 1
pub decides_raw : (s : Shape) (p : Put) → Valid s p → decides (raw s p) ≡ eqb (rank p.area) 1 && eqb p.value 1
unfolding decides raw base size rank
decides_raw s p v = ap (λ b. b && eqb p.value 1) (test_ext _ _ forth back)
  where
    forth : eqb (base s p.area + p.index) 9 ≡ true → eqb (rank p.area) 1 ≡ true
    forth h = eq-eqb _ _ (apart s p.area Decision p.index 0 v.within (omega arith) (eqb-true _ _ h)).0

    back : eqb (rank p.area) 1 ≡ true → eqb (base s p.area + p.index) 9 ≡ true
    back h =
        let same = rank_area p.area Decision (eqb-true _ _ h) in
        eq-eqb (base s p.area + p.index) 9 (omega (arith, ap (base s) same, ap (size s) same))

-- a store leaves the view of a place that is not its own
view_other : (s : Shape) (image : List ℕ) (at v : ℕ) (a : Area) (i : ℕ) → (i < size s a → base s a + i ≢ at) →
    view s (set image at v) a i ≡ view s image a i
unfolding view
view_other s image at v a i other =
    let new = set image at v in
    either (ltb i (size s a))
    (λ t. view_at s new a i (ltb-true _ _ t) ∙ get_or-set_other image at (base s a + i) v 0 (other (ltb-true _ _ t)))
    (λ t. view_past s new a i (ltb-false _ _ t))

-- a valid put changes the view as its store changes the image
view_set : (s : Shape) (p : Put) (image : List ℕ) → length image ≡ total s → Valid s p → (a : Area) (i : ℕ) →
    view s (set image (base s p.area + p.index) p.value) a i ≡ change (view s image) p a i
unfolding change
view_set s p image e v a i = either here hit (λ h. view_other s image at p.value a i (missed h))
  where
    at : ℕ
    at = base s p.area + p.index

    here : Bool
    here = eqb (rank p.area) (rank a) && eqb p.index i

    hit : here ≡ true → view s (set image at p.value) a i ≡ p.value
    hit h =
        let both = and_true (eqb (rank p.area) (rank a)) (eqb p.index i) h in
        ap₂ (view s _) (sym (rank_area p.area a (eqb-true _ _ both.0))) (sym (eqb-true _ _ both.1))
        ∙ view_at s _ p.area p.index v.within
        ∙ get_or-set_same image at p.value 0 (omega (arith, fits s p.area p.index v.within))

    missed : here ≡ false → i < size s a → base s a + i ≢ at
    missed h l q =
        let both = apart s p.area a p.index i v.within l (sym q) in
        clash (true_and (eq-eqb _ _ both.0) (eq-eqb _ _ both.1)) h

-- the view after the stores of valid puts is the view after the puts
pub view_made_fun : (s : Shape) (ps : List Put) (image : List ℕ) → length image ≡ total s → All (Valid s) ps →
    view s (made (map (raw s) ps) image) ≡ after ps (view s image)
unfolding made raw after
view_made_fun s ps image e none = refl
view_made_fun s ps image e (also {x = p} {xs = qs} v vs) =
    view_made_fun s qs _ (simp length-set e) vs ∙ ap (after qs) (fun_ext λ a. fun_ext λ i. view_set s p image e v a i)

-- valid puts leave the header, so the image stays sound
pub header_kept : {s : Shape} {ps : List Put} (image : List ℕ) (i : ℕ) → i < 9 → All (Valid s) ps →
    byte (made (map (raw s) ps) image) i ≡ byte image i
unfolding raw
header_kept {s} image i l vs =
    made_else i image (all_mapped (raw s) (λ p v e. omega (arith, past_header s p.area v.body)) vs)

pub made_sound : {s : Shape} {ps : List Put} {image : List ℕ} → Sound s image → All (Valid s) ps →
    Sound s (made (map (raw s) ps) image)
made_sound {image} h vs =
    sound_bytes image _ (λ i l. header_kept image i l vs) h.allowed_shape h.shape h.marked
    (length_made _ image ∙ h.long)

-- ---- Context

-- Context answers the board's part of the recovery contexts
pub context_of : {s : Shape} {image : List ℕ} → Sound s image → byte image 9 ≡ 0 → (i : ℕ) → i < s.boards →
    (context_status image i ≡ 0) × (context_part image i ≡ span (view s image Checkpoint) (i * s.context) s.context)
unfolding context_tests context_part first size
context_of {s} {image} h z i l =
    let k = s.context in
    rw (in_order_sound s image h 0, z, h.shape, lt-leb s.boards i l)
    (refl, part_view s image Checkpoint (i * k) k h.long (row_fits k s.boards i l))
