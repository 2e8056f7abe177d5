-- The ledger's links against the notes: what settling notes and noting an access do to the links told from the notes.
use Prim.Native.Nat.{ℕ, zero, suc, ◌+◌, ◌-◌, ◌*◌, ◌/◌, ◌≤◌, ◌<◌}
use mathlib.Core.Path.{◌≡◌, refl, sym, ◌∙◌, ap, ap₂, fun_ext}
use mathlib.Core.Bool.{Bool, true, false, ◌&&◌, ◌||◌, not, cond, and_assoc, and_comm, or_assoc, or_comm, or-false}
use mathlib.Core.List.{List, [], ◌∷◌, map}
use mathlib.Core.Logic.{⊎_elim}
use lib.Dec.{eqb, ltb, leb}
use lib.ListN.{length}
use native.Mathlib.Omega.{arith}
use borrow.Author.Tests.{eq-eqb, ne_eqb, eqb-true, eqb-false, ltb-true, ltb-false, lt-ltb, le-leb, leb-true}
use Rattle.boards.specs.Lists.{any, every, any_of}
use Rattle.boards.specs.Boards.{Links, link, unlink}
use Rattle.protocol.specs.Accesses.{touched, whole, bind_boards, bind_tag, bind_blocks}
use Rattle.protocol.specs.declared.Binding.{Binding}
use Rattle.protocol.specs.declared.Binding.TheVariants.{OneWay, TwoWay, Opposite}
use Rattle.protocol.specs.Ledger.{Fate, pending, kept, undone, Access, Wrote, ReadFrom, Note, is_pending}
use Rattle.protocol.specs.Ledger.{written, covers, wrote_in, writer, settled}
use Rattle.protocol.specs.Dependences.{width, is_write, in_blocks, wrote_all, last_by, came_upon}
use Rattle.protocol.specs.Dependences.{depends_by_notes}
use Rattle.protocol.specs.declared.Shape.{Shape}
use Rattle.boards.proofs.Basics.{decide, clash, and_true, true_and, and_false, or_true, eqb_comm}
use Rattle.boards.proofs.Basics.{not_true, refute, test_ext, some_any, any_some, none_any, All, none, also}
use Rattle.boards.proofs.Basics.{false_any_of}
use Rattle.boards.proofs.Basics.{every_at, every_all}
use Rattle.protocol.proofs.Accesses.{cell_touched, all_found, whole_bounds, bounds_whole, goes_forth, goes_back}
use Rattle.protocol.proofs.Marks.{Ends, keeps, undoes}

-- which access binds its board to the writer in a block, and which the writer to its board
abbrev pub parts_bind : Shape → Note → ℕ → Bool
parts_bind s n b = not (wrote_all s n b)

abbrev pub writes_bind : Note → ℕ → Bool
writes_bind n b = is_write n.access

-- ---- tests over a range

any_same : (n : ℕ) {p q : ℕ → Bool} → ((x : ℕ) → p x ≡ q x) → any n p ≡ any n q
any_same n h = ap (any n) (fun_ext h)

any_or : (n : ℕ) (p q : ℕ → Bool) → any n (λ x. p x || q x) ≡ any n p || any n q
unfolding any
any_or zero p q = refl
any_or (suc n) p q = rw (any_or n p q) (regroup (any n p) (any n q) (p n) (q n))
  where
    regroup : (a b c d : Bool) → (a || b) || (c || d) ≡ (a || c) || (b || d)
    regroup true b c d = refl
    regroup false true true d = refl
    regroup false true false d = refl
    regroup false false c d = refl

any_false : (n : ℕ) → any n (λ x. false) ≡ false
any_false n = none_any n (λ x. false) (λ x l. refl)

any_and : (n : ℕ) (c : Bool) (p : ℕ → Bool) → any n (λ x. c && p x) ≡ c && any n p
any_and n true p = refl
any_and n false p = any_false n

-- ---- the blocks touched are the blocks of the cells

any_of_found : (p : ℕ → Bool) (c : ℕ) (bs : List ℕ) → any_of (eqb c) bs ≡ true → p c ≡ true → any_of p bs ≡ true
any_of_found p c bs found h =
    ⊎_elim
    (λ (e : any_of p bs ≡ true). e)
    (λ (e : any_of p bs ≡ false). clash h (all_found c bs (false_any_of p bs e) found))
    (decide (any_of p bs))

pub touched_cells : (s : Shape) (a n : ℕ) (p : ℕ → Bool) → 0 < s.size → 0 < n → n ≤ s.size
    → any_of p (touched s a n) ≡ any n (λ x. p ((a + x) / s.size))
unfolding touched any_of
touched_cells s a n p positive some few =
    let first = a / s.size in
    let last = (a + n - 1) / s.size in
    let at_cell : ℕ → Bool = λ x. p ((a + x) / s.size) in
    let by_first : p first ≡ true → any n at_cell ≡ true =
    λ h. some_any n at_cell 0 some (ap (λ c. p (c / s.size)) (omega arith) ∙ h) in
    let by_last : p last ≡ true → any n at_cell ≡ true =
    λ h. some_any n at_cell (n - 1) (omega arith) (ap (λ c. p (c / s.size)) (omega arith) ∙ h) in
    test_ext (p first || any_of p (cond (eqb first last) [] (last ∷ []))) (any n at_cell)
    (λ h.
    ⊎_elim
    by_first
    (λ (r : any_of p (cond (eqb first last) [] (last ∷ [])) ≡ true).
    ⊎_elim
    (λ (e : eqb first last ≡ true). clash (rw e at r) refl)
    (λ (e : eqb first last ≡ false). by_last (⊎_elim (λ q. q) (λ q. clash q refl) (or_true (p last) false (rw e at r))))
    (decide (eqb first last)))
    (or_true (p first) (any_of p (cond (eqb first last) [] (last ∷ []))) h))
    (λ h.
    let x = any_some n at_cell h in
    let in_range = x.1 in
    any_of_found p ((a + x.0) / s.size) (touched s a n)
    (cell_touched s a n (a + x.0) positive few (omega arith) (omega arith)) x.2)

-- a note overwrote the whole of block b: it wrote every cell of it
pub whole_cells : (s : Shape) (n : Note) (b : ℕ) → 0 < s.size
    → whole s n.cell (length (written n.access)) b ≡ wrote_all s n b
unfolding wrote_all covers
whole_cells s n b positive =
    let w = length (written n.access) in
    let first = b * s.size in
    let last = first + (s.size - 1) in
    let hit : ℕ → Bool = λ x. covers n (first + x) in
    test_ext (leb n.cell first && leb (first + s.size) (n.cell + w)) (every s.size hit)
    (λ h.
    let ends = whole_bounds s n.cell w b h in
    every_all s.size hit (λ x l.
    true_and (le-leb n.cell (first + x) (omega (arith, ends)))
    (lt-ltb (first + x) (n.cell + w) (omega (arith, ends)))))
    (λ h.
    let low = (and_true (leb n.cell (first + 0)) _ (every_at s.size hit h 0 positive)).0 in
    let high = (and_true (leb n.cell last) _ (every_at s.size hit h (s.size - 1) (omega arith))).1 in
    bounds_whole s n.cell w b (omega (arith, leb-true n.cell (first + 0) low))
    (omega (arith, ltb-true last (n.cell + w) high)))

-- a note wrote in block b: one of its cells lies there
wrote_in_cells : (s : Shape) (b : ℕ) (n : Note) → 0 < s.size → width n.access ≤ s.size
    → wrote_in s b n ≡ is_write n.access && in_blocks s n (eqb b)
unfolding wrote_in in_blocks written width is_write any
wrote_in_cells s b n positive = go n.access
  where
    go : (x : Access) → width x ≤ s.size
        → ltb 0 (length (written x)) && any_of (eqb b) (touched s n.cell (length (written x)))
        ≡ is_write x && any (width x) (λ y. eqb b ((n.cell + y) / s.size))
    go (ReadFrom sources) few = refl
    go (Wrote bytes) few =
        ⊎_elim
        (λ (e : ltb 0 (length bytes) ≡ true).
        rw e (touched_cells s n.cell (length bytes) (eqb b) positive (ltb-true 0 (length bytes) e) few))
        (λ (e : ltb 0 (length bytes) ≡ false).
        let none : length bytes ≡ 0 = omega (arith, ltb-false 0 (length bytes) e) in
        rw none)
        (decide (ltb 0 (length bytes)))

-- a tag names a writer
unfoldable pub names : ℕ → ℕ → Bool
names zero j = false
names (suc m) j = eqb m j

pub names_eqb : (t j : ℕ) → eqb t (suc j) ≡ names t j
unfolding names
names_eqb zero j = ne_eqb 0 (suc j) (λ e. omega arith)
names_eqb (suc m) j = test_ext (eqb (suc m) (suc j)) (eqb m j)
    (λ e. eq-eqb m j (omega (arith, eqb-true (suc m) (suc j) e)))
    (λ e. eq-eqb (suc m) (suc j) (ap suc (eqb-true m j e)))

-- the tag that the ledger finds is that of the newest write
abbrev pub Narrow : Shape → List Note → Type 0
Narrow s ns = All (λ n. width n.access ≤ s.size) ns

tag_names : (f : Fate) (m j : ℕ) → names (cond (is_pending f) (suc m) 0) j ≡ is_pending f && eqb m j
unfolding is_pending names
tag_names pending m j = refl
tag_names kept m j = refl
tag_names undone m j = refl

pub writer_last : (s : Shape) → 0 < s.size → (ns : List Note) → Narrow s ns → (j b : ℕ)
    → names (writer s ns b) j ≡ last_by s ns j b
unfolding writer last_by names
writer_last s positive [] none j b = refl
writer_last s positive (n ∷ ns) (also few rest) j b =
    let older = writer_last s positive ns rest j b in
    let same = wrote_in_cells s b n positive few in
    ⊎_elim
    (λ (e : wrote_in s b n ≡ true). rw (e, sym same ∙ e) (tag_names n.fate n.board j))
    (λ (e : wrote_in s b n ≡ false). rw (e, sym same ∙ e) older)
    (decide (wrote_in s b n))

-- ---- settling the notes of some boards is unlinking them

-- a note settled is pending if it was, and none of theirs
pending_settled : (p : ℕ → Bool) {f : Fate} → Ends f → (n : Note)
    → is_pending (settled p f n).fate ≡ is_pending n.fate && not (p n.board)
unfolding settled is_pending
pending_settled p e n = go e n.fate (p n.board)
  where
    go : {f : Fate} → Ends f → (g : Fate) (b : Bool) → is_pending (cond (is_pending g && b) f g) ≡ is_pending g && not b
    go keeps pending true = refl
    go undoes pending true = refl
    go e pending false = refl
    go e kept b = refl
    go e undone b = refl

-- where a board is tested for being j, so is a test of it
at_board : (p : ℕ → Bool) (m j : ℕ) (x : Bool) → (x && not (p m)) && eqb m j ≡ not (p j) && (x && eqb m j)
at_board p m j x =
    ⊎_elim
    (λ (e : eqb m j ≡ true). rw (e, eqb-true m j e) (turn x (not (p j))))
    (λ (e : eqb m j ≡ false). rw e (none_left x (not (p m)) (not (p j))))
    (decide (eqb m j))
  where
    turn : (x y : Bool) → (x && y) && true ≡ y && (x && true)
    turn true true = refl
    turn true false = refl
    turn false true = refl
    turn false false = refl

    none_left : (x y z : Bool) → (x && y) && false ≡ z && (x && false)
    none_left true true true = refl
    none_left true true false = refl
    none_left true false true = refl
    none_left true false false = refl
    none_left false y true = refl
    none_left false y false = refl

module _ (s : Shape) (p : ℕ → Bool) {f : Fate} (ends : Ends f) where
  last_settled : (ns : List Note) (j b : ℕ) → last_by s (map (settled p f) ns) j b ≡ not (p j) && last_by s ns j b
  unfolding last_by in_blocks settled
  last_settled [] j b = sym (and_false (not (p j)) refl)
  last_settled (n ∷ ns) j b =
      let rest = last_settled ns j b in
      let test = is_write n.access && in_blocks s n (eqb b) in
      go test (is_pending (settled p f n).fate) (pending_settled p ends n) rest
    where
      go : (t x : Bool) → x ≡ is_pending n.fate && not (p n.board)
          → last_by s (map (settled p f) ns) j b ≡ not (p j) && last_by s ns j b
          → cond t (x && eqb n.board j) (last_by s (map (settled p f) ns) j b)
          ≡ not (p j) && cond t (is_pending n.fate && eqb n.board j) (last_by s ns j b)
      go true x e rest = rw e (at_board p n.board j (is_pending n.fate))
      go false x e rest = rest

  -- which access binds in which block is no matter of its fate
  module _ (binds : Note → ℕ → Bool) (same : (n : Note) (b : ℕ) → binds (settled p f n) b ≡ binds n b)
    where
      found_settled : (n : Note) (ns : List Note) (j : ℕ)
          → in_blocks s (settled p f n) (λ b. binds (settled p f n) b && last_by s (map (settled p f) ns) j b)
          ≡ not (p j) && in_blocks s n (λ b. binds n b && last_by s ns j b)
      unfolding in_blocks settled
      found_settled n ns j =
          any_same (width n.access) (λ x.
          let b = (n.cell + x) / s.size in
          ap₂ ◌&&◌ (same n b) (last_settled ns j b)
          ∙ swap (binds n b) (not (p j)) (last_by s ns j b))
          ∙ any_and (width n.access) (not (p j))
          (λ x. let b = (n.cell + x) / s.size in binds n b && last_by s ns j b)
        where
          swap : (x y z : Bool) → x && (y && z) ≡ y && (x && z)
          swap true y z = refl
          swap false true z = refl
          swap false false z = refl

      came_settled : (ns : List Note) (i j : ℕ)
          → came_upon binds s (map (settled p f) ns) i j ≡ not (p i) && (not (p j) && came_upon binds s ns i j)
      unfolding came_upon settled
      came_settled [] i j = sym (and_false (not (p i)) (and_false (not (p j)) refl))
      came_settled (n ∷ ns) i j =
          let now = in_blocks s n (λ b. binds n b && last_by s ns j b) in
          rw (pending_settled p ends n, found_settled n ns j, came_settled ns i j)
          (join (is_pending n.fate) now (came_upon binds s ns i j) (at_board p n.board i (is_pending n.fate)))
        where
          shuffle : (q r x m y z : Bool)
              → ((q && (x && m)) && (r && y)) || (q && (r && z)) ≡ q && (r && ((x && (m && y)) || z))
          shuffle false r x m y z = refl
          shuffle true false true true y z = refl
          shuffle true false true false y z = refl
          shuffle true false false m y z = refl
          shuffle true true true true y z = refl
          shuffle true true true false y z = refl
          shuffle true true false m y z = refl

          join : (x y z : Bool) → (x && not (p n.board)) && eqb n.board i ≡ not (p i) && (x && eqb n.board i)
              → ((x && not (p n.board)) && (eqb n.board i && (not (p j) && y)))
              || (not (p i) && (not (p j) && z))
              ≡ not (p i) && (not (p j) && ((x && (eqb n.board i && y)) || z))
          join x y z e =
              ap (λ h. h || (not (p i) && (not (p j) && z)))
              (sym (and_assoc (x && not (p n.board)) (eqb n.board i) (not (p j) && y))
              ∙ ap (λ h. h && (not (p j) && y)) e)
              ∙ shuffle (not (p i)) (not (p j)) x (eqb n.board i) y z

  pub depends_settled : (ns : List Note) (i j : ℕ)
      → depends_by_notes s (map (settled p f) ns) i j ≡ unlink p (depends_by_notes s ns) i j
  unfolding depends_by_notes unlink settled wrote_all covers
  depends_settled ns i j =
      rw (came_settled (parts_bind s) (λ n b. refl) ns i j, came_settled writes_bind (λ n b. refl) ns j i)
      (gather (not (eqb i j)) (not (p i)) (not (p j)) (came_upon (parts_bind s) s ns i j)
      (came_upon writes_bind s ns j i))
    where
      gather : (e q r x y : Bool) → e && ((q && (r && x)) || (r && (q && y))) ≡ q && (r && (e && (x || y)))
      gather true true true x y = refl
      gather true true false x y = refl
      gather true false true x y = refl
      gather true false false x y = refl
      gather false true true x y = refl
      gather false true false x y = refl
      gather false false r x y = refl

-- ---- an access noted is its blocks bound

-- whether board x comes to depend on y where an access of board i binds it and a tag's writer
unfoldable pub binds_now : Binding → ℕ → ℕ → ℕ → ℕ → Bool
binds_now how i t x y =
    not (eqb x y) && ((eqb i x && (goes_forth how && names t y)) || (eqb i y && (goes_back how && names t x)))

link_eq : (d : Links) (i j x y : ℕ) → link d i j x y ≡ d x y || (eqb i x && eqb j y)
unfolding link
link_eq d i j x y = ap₂ (λ a b. (a && b) || d x y) (eqb_comm x i) (eqb_comm y j) ∙ or_comm (eqb i x && eqb j y) (d x y)

-- two boards apart, linked, are not one
apart : (i j x y : ℕ) → eqb i j ≡ false → eqb i x && eqb j y ≡ not (eqb x y) && (eqb i x && eqb j y)
apart i j x y e =
    test_ext (eqb i x && eqb j y) (not (eqb x y) && (eqb i x && eqb j y))
    (λ h.
    let both = and_true (eqb i x) (eqb j y) h in
    true_and
    (ap not (ne_eqb x y (λ q. eqb-false i j e (eqb-true i x both.0 ∙ q ∙ sym (eqb-true j y both.1)))))
    h)
    (λ h. (and_true (not (eqb x y)) (eqb i x && eqb j y) h).1)

-- where nobody else is named nothing is bound
unbound : (how : Binding) (d : Links) (i t x y : ℕ) → ((j : ℕ) → names t j ≡ true → i ≡ j)
    → d x y ≡ d x y || binds_now how i t x y
unfolding binds_now
unbound how d i t x y own = sym (ap (λ h. d x y || h) (refute _ none_bound) ∙ or-false (d x y))
  where
    same : (g : Bool) (x y : ℕ) → eqb i x && (g && names t y) ≡ true → x ≡ y
    same g x y h =
        let both = and_true (eqb i x) (g && names t y) h in
        sym (eqb-true i x both.0) ∙ own y (and_true g (names t y) both.1).1

    none_bound : not (eqb x y)
        && ((eqb i x && (goes_forth how && names t y)) || (eqb i y && (goes_back how && names t x)))
        ≡ true
        → ⊥
    none_bound h =
        let both = and_true (not (eqb x y)) _ h in
        let differ = eqb-false x y (not_true (eqb x y) both.0) in
        differ
        (⊎_elim (same (goes_forth how) x y) (λ r. sym (same (goes_back how) y x r))
        (or_true (eqb i x && (goes_forth how && names t y)) (eqb i y && (goes_back how && names t x)) both.1))

bind_other : (how : Binding) (d : Links) (i j x y : ℕ) → eqb i j ≡ false
    → bind_boards link how d i j x y ≡ d x y || binds_now how i (suc j) x y
unfolding bind_boards binds_now names goes_forth goes_back
bind_other OneWay d i j x y e =
    link_eq d i j x y
    ∙ ap (λ h. d x y || h) (apart i j x y e ∙ ap (λ h. not (eqb x y) && h) (right (eqb i x && eqb j y) (eqb i y)))
  where
    right : (a b : Bool) → a ≡ a || (b && false)
    right true b = refl
    right false true = refl
    right false false = refl
bind_other Opposite d i j x y e =
    link_eq d j i x y
    ∙ ap (λ h. d x y || h) (apart j i x y (ne_eqb j i (λ q. eqb-false i j e (sym q)))
    ∙ ap (λ h. not (eqb x y) && h)
    (and_comm (eqb j x) (eqb i y) ∙ sym (ap (λ h. h || (eqb i y && eqb j x)) (and_false (eqb i x) refl))))
bind_other TwoWay d i j x y e =
    link_eq (link d i j) j i x y
    ∙ ap₂ ◌||◌ (link_eq d i j x y ∙ ap (λ h. d x y || h) (apart i j x y e))
    (apart j i x y (ne_eqb j i (λ q. eqb-false i j e (sym q))))
    ∙ gather (d x y) (not (eqb x y)) (eqb i x && eqb j y) (eqb j x) (eqb i y)
  where
    gather : (d e a b c : Bool) → (d || (e && a)) || (e && (b && c)) ≡ d || (e && (a || (c && b)))
    gather true e a b c = refl
    gather false false a b c = refl
    gather false true true b c = refl
    gather false true false true true = refl
    gather false true false true false = refl
    gather false true false false true = refl
    gather false true false false false = refl

bind_now : (how : Binding) (d : Links) (i t x y : ℕ) → bind_tag link how d i t x y ≡ d x y || binds_now how i t x y
unfolding bind_tag names
bind_now how d i zero x y = unbound how d i 0 x y (λ j h. clash h refl)
bind_now how d i (suc j) x y =
    ⊎_elim
    (λ (e : eqb i j ≡ true). rw e (unbound how d i (suc j) x y (λ k h. eqb-true i j e ∙ eqb-true j k h)))
    (λ (e : eqb i j ≡ false). rw e (bind_other how d i j x y e))
    (decide (eqb i j))

binds_eq : (how : ℕ → Binding) (tag : ℕ → ℕ) (d : Links) (i : ℕ) (bs : List ℕ) (x y : ℕ)
    → bind_blocks link how tag d i bs x y ≡ d x y || any_of (λ b. binds_now (how b) i (tag b) x y) bs
unfolding bind_blocks any_of
binds_eq how tag d i [] x y = sym (or-false (d x y))
binds_eq how tag d i (b ∷ bs) x y =
    binds_eq how tag (bind_tag link (how b) d i (tag b)) i bs x y
    ∙ ap (λ h. h || any_of (λ b. binds_now (how b) i (tag b) x y) bs) (bind_now (how b) d i (tag b) x y)
    ∙ or_assoc (d x y) (binds_now (how b) i (tag b) x y) (any_of (λ b. binds_now (how b) i (tag b) x y) bs)

-- the blocks bound, one for each cell
bound_cells : (w : ℕ) (e q r : Bool) (f g : ℕ → Bool)
    → any w (λ c. e && ((q && f c) || (r && g c))) ≡ e && ((q && any w f) || (r && any w g))
bound_cells w e q r f g =
    any_and w e (λ c. (q && f c) || (r && g c))
    ∙ ap (λ h. e && h)
    (any_or w (λ c. q && f c) (λ c. r && g c) ∙ ap₂ ◌||◌ (any_and w q f) (any_and w r g))

module _ (s : Shape) (positive : 0 < s.size) (ns : List Note) (narrow : Narrow s ns) (n : Note)
    (waits : is_pending n.fate ≡ true) (some : 0 < width n.access) (few : width n.access ≤ s.size)
    (how : ℕ → Binding)
    (to_writer : (b : ℕ) → goes_forth (how b) ≡ parts_bind s n b)
    (to_board : (b : ℕ) → goes_back (how b) ≡ writes_bind n b)
  where
    abbrev touches : List ℕ
    touches = touched s n.cell (width n.access)

    bound_now : (x y : ℕ)
        → any_of (λ b. binds_now (how b) n.board (writer s ns b) x y) touches
        ≡ not (eqb x y)
        && ((eqb n.board x && in_blocks s n (λ b. parts_bind s n b && last_by s ns y b))
        || (eqb n.board y && in_blocks s n (λ b. writes_bind n b && last_by s ns x b)))
    unfolding binds_now in_blocks
    bound_now x y =
        touched_cells s n.cell (width n.access) _ positive some few
        ∙ any_same (width n.access) (λ c.
        let b = (n.cell + c) / s.size in
        rw (to_writer b, to_board b, writer_last s positive ns narrow y b, writer_last s positive ns narrow x b))
        ∙ bound_cells (width n.access) (not (eqb x y)) (eqb n.board x) (eqb n.board y)
        (λ c. let b = (n.cell + c) / s.size in parts_bind s n b && last_by s ns y b)
        (λ c. let b = (n.cell + c) / s.size in writes_bind n b && last_by s ns x b)

    pub depends_noted : (x y : ℕ)
        → bind_blocks link how (writer s ns) (depends_by_notes s ns) n.board touches x y
        ≡ depends_by_notes s (n ∷ ns) x y
    unfolding depends_by_notes came_upon
    depends_noted x y =
        binds_eq how (writer s ns) (depends_by_notes s ns) n.board touches x y
        ∙ ap (λ h. depends_by_notes s ns x y || h) (bound_now x y)
        ∙ rw waits
        (gather (not (eqb x y)) (came_upon (parts_bind s) s ns x y) (came_upon writes_bind s ns y x)
        (eqb n.board x && in_blocks s n (λ b. parts_bind s n b && last_by s ns y b))
        (eqb n.board y && in_blocks s n (λ b. writes_bind n b && last_by s ns x b)))
      where
        gather : (e a b x y : Bool) → (e && (a || b)) || (e && (x || y)) ≡ e && ((x || a) || (y || b))
        gather false a b x y = refl
        gather true true b true y = refl
        gather true true b false y = refl
        gather true false true true y = refl
        gather true false true false true = refl
        gather true false true false false = refl
        gather true false false true y = refl
        gather true false false false true = refl
        gather true false false false false = refl
