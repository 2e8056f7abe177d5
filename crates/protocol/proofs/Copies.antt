-- What the memory is after the puts of a copying loop, whole and cut after any number of them.
use Prim.Native.Nat.{ℕ, zero, suc, ◌+◌, ◌-◌, ◌*◌, ◌/◌, ◌%◌, ◌≤◌, ◌<◌}
use mathlib.Core.Path.{◌≡◌, refl, sym, ◌∙◌, ap, subst}
use mathlib.Core.Bool.{Bool, true, false}
use mathlib.Core.List.{List, [], ◌∷◌, ◌++◌}
use mathlib.Core.Logic.{◌≢◌, ◌⊎◌, inl, inr, ⊎_elim}
use lib.Dec.{ltb, leb}
use lib.ListN.{length, get_or, take, length-append}
use lib.Seq.{take_all, take-length, take-append-le}
use native.Mathlib.Omega.{arith}
use native.Mathlib.Nat.{not-suc-le-zero, mul-add-div_right, div-eq_of_lt, div-add-mod', mod-lt}
use native.Mathlib.Nat.{add-zero, le_refl}
use borrow.Author.Tests.{leb-true, leb-false, ltb-true, ltb-false}
use Rattle.boards.specs.Lists.{for, span}
use Rattle.boards.specs.Boards.{has}
use Rattle.protocol.specs.Image.{Area, Tags, Current, Recovery, Tentative, Checkpoint, Memory, Put, put, rank}
use Rattle.protocol.specs.Image.{size, cells, change, after}
use Rattle.protocol.specs.Calls.{placing, copying, block_copied, blocks_copied, context_saved}
use Rattle.protocol.specs.declared.Shape.{Shape}
use Rattle.boards.proofs.Basics.{decide, clash, if_true, below_suc, All}
use Rattle.boards.proofs.Basics.{none, also, all_append, all_cond, all_for, length_span, get_or_span, all_take}
use Rattle.boards.proofs.Basics.{take_append, row_fits}
use Rattle.protocol.proofs.Memory.{Away, after_append, after_local, change_area}
use Rattle.protocol.proofs.Memory.{change_same, else_area, else_index, untouched}

-- k puts of a loop are `part` puts of round b, all of them if all of the loop's are made, at each place that no other
-- round touches
pub record Round (n : ℕ) (f : ℕ → List Put) (b k : ℕ) : Type 0 where
  pub part : ℕ
  pub whole : length (for n f) ≤ k → length (f b) ≤ part
  pub seen : (a : Area) (i : ℕ) → ((c : ℕ) → c ≢ b → All (Away a i) (f c)) → (m : Memory)
      → after (take k (for n f)) m a i ≡ after (take part (f b)) m a i

pub round : (n : ℕ) (f : ℕ → List Put) (b k : ℕ) → b < n → Round n f b k
unfolding for
round zero f b k h = absurd (not-suc-le-zero h)
round (suc n) f b k h =
    let rounds = for n f in
    let left = k - length rounds in
    let seam : (m : Memory) → after (take k (rounds ++ f n)) m ≡ after (take left (f n)) (after (take k rounds) m) =
    λ m. rw take_append (after_append (take k rounds) (take left (f n)) m) in
    ⊎_elim
    (λ c. let r = round n f b k c in
    record {
      part = r.part;
      whole = λ w. r.whole (omega (arith, length-append rounds (f n)));
      seen = λ a i u m.
          ap (λ v. v a i) (seam m)
          ∙ untouched (all_take left (u n (omega arith))) (after (take k rounds) m)
          ∙ r.seen a i u m;
    })
    (λ e. subst (λ c. Round (suc n) f c k) (sym e)
    (record {
      part = left;
      whole = λ w. omega (arith, length-append rounds (f n));
      seen = λ a i u m.
          ap (λ v. v a i) (seam m)
          ∙ after_local (take left (f n)) (after (take k rounds) m) m a i
          (untouched (all_take k (all_for n f (λ c l. u c (omega arith)))) m);
    }))
    (below_suc b n h)

-- all puts of a loop are all of round b at such a place
pub round_whole : (n : ℕ) (f : ℕ → List Put) (b : ℕ) → b < n → (a : Area) (i : ℕ)
    → ((c : ℕ) → c ≢ b → All (Away a i) (f c)) → (m : Memory) → after (for n f) m a i ≡ after (f b) m a i
round_whole n f b h a i u m =
    let r = round n f b (length (for n f)) h in
    ap (λ ps. after ps m a i) (sym (take-length (for n f)))
    ∙ r.seen a i u m
    ∙ ap (λ ps. after ps m a i) (take_all r.part (f b) (r.whole (le_refl _)))

-- ---- rows of equal length, one after the other

-- index x of row i, of rows of n, stands at i * n + x: the row and x are told by it, and it is below b rows if i is
pub flat_div : (n i x : ℕ) → x < n → (i * n + x) / n ≡ i
flat_div n i x h = mul-add-div_right (omega arith) i x ∙ rw (div-eq_of_lt h) (omega arith)

pub flat_split : (n i j x y : ℕ) → x < n → y < n → i * n + x ≡ j * n + y → (i ≡ j) × (x ≡ y)
flat_split n i j x y h l e =
    let same : i ≡ j = sym (flat_div n i x h) ∙ ap (λ v. v / n) e ∙ flat_div n j y l in
    (same, omega (arith, ap (λ v. v * n) same))

pub flat_below : (n b i x : ℕ) → i < b → x < n → i * n + x < b * n
flat_below n b i x h l = omega (arith, row_fits n b i h)

-- an index is its row's start and its place in the row
pub flat_index : (n a i : ℕ) → 0 < n → a / n ≡ i → (x : ℕ) × (x < n) × (a ≡ i * n + x)
flat_index n a i h e = (a % n, mod-lt a h, omega (arith, div-add-mod' a n, ap (λ v. v * n) e))

-- ---- bytes placed one after the other

pub length_placing : (area : Area) (i : ℕ) (bs : List ℕ) → length (placing area i bs) ≡ length bs
unfolding placing
length_placing area i [] = refl
length_placing area i (b ∷ bs) = ap suc (length_placing area (suc i) bs)

pub take_placing : (k : ℕ) (area : Area) (i : ℕ) (bs : List ℕ)
    → take k (placing area i bs) ≡ placing area i (take k bs)
unfolding placing
take_placing zero area i [] = refl
take_placing zero area i (b ∷ bs) = refl
take_placing (suc k) area i [] = refl
take_placing (suc k) area i (b ∷ bs) = ap (λ l. put area i b ∷ l) (take_placing k area (suc i) bs)

one_on : (i x : ℕ) → i + suc x ≡ suc i + x
one_on i x = omega arith

-- a statement of every put
pub all_placing : {P : Put → Type 0} (area : Area) (i : ℕ) (bs : List ℕ)
    → ((x v : ℕ) → x < length bs → P (put area (i + x) v)) → All P (placing area i bs)
unfolding placing
all_placing area i [] h = none
all_placing {P} area i (b ∷ bs) h =
    also (subst (λ j. P (put area j b)) (add-zero i) (h 0 b (omega arith)))
    (all_placing area (suc i) bs (λ x v l. subst (λ j. P (put area j v)) (one_on i x) (h (suc x) v (omega arith))))

-- other areas and other indices are left
module _ (area : Area) (i : ℕ) (bs : List ℕ) (m : Memory) where
  pub placing_other : (k : ℕ) (a : Area) (j : ℕ) → rank area ≢ rank a
      → after (take k (placing area i bs)) m a j ≡ m a j
  placing_other k a j h = untouched (all_take k (all_placing area i bs (λ x v l. else_area h))) m

  pub placing_outside : (k j : ℕ) → (i ≤ j → i + length bs ≤ j)
      → after (take k (placing area i bs)) m area j ≡ m area j
  placing_outside k j h =
      untouched (all_take k (all_placing area i bs (λ x v l. else_index (λ f. omega (arith, h (omega arith)))))) m

-- all bytes are placed; of the first k puts, those before k are, and the others are not
pub placing_whole : (area : Area) (i : ℕ) (bs : List ℕ) (m : Memory) (x : ℕ) → x < length bs
    → after (placing area i bs) m area (i + x) ≡ get_or bs x 0
unfolding placing after
placing_whole area i [] m x h = absurd (not-suc-le-zero h)
placing_whole area i (b ∷ bs) m zero h =
    ap (λ j. after (placing area (suc i) bs) (change m (put area i b)) area j) (add-zero i)
    ∙ untouched (all_placing area (suc i) bs (λ x v l. else_index (omega arith))) (change m (put area i b))
    ∙ change_same m area i b
placing_whole area i (b ∷ bs) m (suc x) h =
    ap (λ j. after (placing area (suc i) bs) (change m (put area i b)) area j) (one_on i x)
    ∙ placing_whole area (suc i) bs (change m (put area i b)) x (omega arith)

-- ---- bytes copied

pub length_copying : (m : Memory) (from to : Area) (i n : ℕ) → length (copying m from to i n) ≡ n
unfolding copying
length_copying m from to i n = length_placing to i (span (m from) i n) ∙ length_span (m from) i n

pub all_copying : {P : Put → Type 0} (m : Memory) (from to : Area) (i n : ℕ)
    → ((x v : ℕ) → x < n → P (put to (i + x) v)) → All P (copying m from to i n)
unfolding copying
all_copying m from to i n h =
    all_placing to i (span (m from) i n) (λ x v l. h x v (rw length_span at l))

pub copying_whole : (m : Memory) (from to : Area) (i n : ℕ) (m' : Memory) (x : ℕ) → x < n
    → after (copying m from to i n) m' to (i + x) ≡ m from (i + x)
unfolding copying
copying_whole m from to i n m' x h =
    placing_whole to i (span (m from) i n) m' x (rw length_span h) ∙ get_or_span (m from) i n x 0 h

-- ---- blocks copied

-- k puts of the loop: only chosen blocks are changed, and each has its tag, or tag 0 and all of its cells copied
pub record Partly (s : Shape) (from to : Area) (chosen : ℕ → Bool) (m m' : Memory) : Type 0 where
  pub other : (a : Area) → rank a ≢ rank Tags → rank a ≢ rank to → (i : ℕ) → m' a i ≡ m a i
  pub tag_left : (b : ℕ) → chosen (m Tags b) ≡ false → m' Tags b ≡ m Tags b
  pub cell_left : (a : ℕ) → chosen (m Tags (a / s.size)) ≡ false → m' to a ≡ m to a
  pub block : (b : ℕ) → chosen (m Tags b) ≡ true
      → (m' Tags b ≡ m Tags b) ⊎ ((m' Tags b ≡ 0) × ((a : ℕ) → a / s.size ≡ b → m' to a ≡ m from a))

-- all puts of the loop
pub record Copied (s : Shape) (from to : Area) (chosen : ℕ → Bool) (m m' : Memory) : Type 0 where
  pub some : Partly s from to chosen m m'
  pub tag_zero : (b : ℕ) → b < s.blocks → chosen (m Tags b) ≡ true → m' Tags b ≡ 0
  pub cell_copied : (a : ℕ) → a / s.size < s.blocks → chosen (m Tags (a / s.size)) ≡ true → m' to a ≡ m from a

module _ (s : Shape) (m : Memory) (from to : Area) (chosen : ℕ → Bool) where
  -- a statement of the puts of one round, and of the loop
  pub all_block : {P : Put → Type 0} (b : ℕ)
      → (chosen (m Tags b) ≡ true → ((x v : ℕ) → x < s.size → P (put to (b * s.size + x) v)) × P (put Tags b 0))
      → All P (block_copied s m from to chosen b)
  unfolding block_copied
  all_block b h =
      all_cond (chosen (m Tags b))
      (λ e. all_append (all_copying m from to (b * s.size) s.size (h e).0) (also (h e).1 none))
      (λ e. none)

  pub all_blocks : {P : Put → Type 0}
      → ((b x v : ℕ) → b < s.blocks → chosen (m Tags b) ≡ true → x < s.size → P (put to (b * s.size + x) v))
      → ((b : ℕ) → b < s.blocks → chosen (m Tags b) ≡ true → P (put Tags b 0))
      → All P (blocks_copied s m from to chosen)
  unfolding blocks_copied
  all_blocks p q =
      all_for s.blocks (block_copied s m from to chosen)
      (λ b l. all_block b (λ e. ((λ x v h. p b x v l e h), q b l e)))

module _
    (s : Shape) (from to : Area) (chosen : ℕ → Bool) (bank : rank to ≢ rank Tags) (some : 0 < s.size) (m : Memory)
  where
    abbrev round_of : ℕ → List Put
    round_of = block_copied s m from to chosen

    abbrev loop : List Put
    loop = blocks_copied s m from to chosen

    -- a round touches the cells and the tag of its block, if that is chosen
    cell_away : (c a : ℕ) → (chosen (m Tags c) ≡ true → a / s.size ≢ c) → All (Away to a) (round_of c)
    cell_away c a h =
        all_block s m from to chosen c (λ e. (
          (λ x v l. else_index (λ f. h e (ap (λ j. j / s.size) (sym f) ∙ flat_div s.size c x l))),
          else_area (λ r. bank (sym r)),
        ))

    tag_away : (c b : ℕ) → (chosen (m Tags c) ≡ true → b ≢ c) → All (Away Tags b) (round_of c)
    tag_away c b h =
        all_block s m from to chosen c (λ e. ((λ x v l. else_area bank), else_index (λ f. h e (sym f))))

    other_cell : (b a : ℕ) → a / s.size ≡ b → (c : ℕ) → c ≢ b → All (Away to a) (round_of c)
    other_cell b a f c h = cell_away c a (λ e g. h (sym g ∙ f))

    other_tag : (b c : ℕ) → c ≢ b → All (Away Tags b) (round_of c)
    other_tag b c h = tag_away c b (λ e f. h (sym f))

    unchosen : (b c : ℕ) → b ≡ c → chosen (m Tags b) ≡ false → chosen (m Tags c) ≡ false
    unchosen b c f = subst (λ d. chosen (m Tags d) ≡ false) f

    -- the round of a chosen block: cut, it leaves the tag, and whole, it copies the cells and sets the tag to 0
    module _ (b : ℕ) (e : chosen (m Tags b) ≡ true) where
      abbrev cells_of : List Put
      cells_of = copying m from to (b * s.size) s.size

      round_puts : round_of b ≡ cells_of ++ put Tags b 0 ∷ []
      unfolding block_copied
      round_puts = if_true _ _ e

      round_cut : (l : ℕ) → l < length (round_of b) → after (take l (round_of b)) m Tags b ≡ m Tags b
      round_cut l h =
          let last = put Tags b 0 ∷ [] in
          let short : l ≤ length cells_of = omega (arith, ap length round_puts, length-append cells_of last) in
          rw (round_puts, take-append-le l cells_of last short)
          (untouched (all_take l (all_copying m from to _ _ (λ x v h. else_area bank))) m)

      round_tag : after (round_of b) m Tags b ≡ 0
      unfolding after
      round_tag = rw (round_puts, after_append) (change_same (after cells_of m) Tags b 0)

      round_cell : (a : ℕ) → a / s.size ≡ b → after (round_of b) m to a ≡ m from a
      unfolding after
      round_cell a f =
          let at = flat_index s.size a b some f in
          rw (round_puts, after_append)
          (change_area (after cells_of m) Tags to b a 0 (λ r. bank (sym r))
          ∙ rw at.2 (copying_whole m from to (b * s.size) s.size m at.0 at.1))

    module _ (k : ℕ) where
      -- a place that no round touches
      still : (a : Area) (i : ℕ) → ((c : ℕ) → c < s.blocks → All (Away a i) (round_of c))
          → after (take k loop) m a i ≡ m a i
      unfolding blocks_copied
      still a i h = untouched (all_take k (all_for s.blocks round_of h)) m

      pub partly_copied : Partly s from to chosen m (after (take k (blocks_copied s m from to chosen)) m)
      unfolding blocks_copied
      partly_copied =
          record {
            other = λ a p q i.
                untouched (all_take k (all_blocks s m from to chosen
                (λ b x v l e h. else_area (λ r. q (sym r))) (λ b l e. else_area (λ r. p (sym r))))) m;
            tag_left = λ b h. still Tags b (λ c l. tag_away c b (λ e f. clash e (unchosen b c f h)));
            cell_left = λ a h. still to a (λ c l. cell_away c a (λ e f. clash e (unchosen _ c f h)));
            block = λ b e.
                ⊎_elim
                (λ t. let r = round s.blocks round_of b k (ltb-true _ _ t) in
                ⊎_elim
                (λ u. let all = take_all r.part (round_of b) (leb-true _ _ u) in
                inr (
                  r.seen Tags b (other_tag b) m ∙ rw all (round_tag b e),
                  λ a f. r.seen to a (other_cell b a f) m ∙ rw all (round_cell b e a f),
                ))
                (λ u. inl (r.seen Tags b (other_tag b) m ∙ round_cut b e r.part (leb-false _ _ u)))
                (decide (leb (length (round_of b)) r.part)))
                (λ t. inl (still Tags b (λ c l. tag_away c b (λ d. omega (arith, ltb-false b _ t)))))
                (decide (ltb b s.blocks));
          }

    pub copied : Copied s from to chosen m (after (blocks_copied s m from to chosen) m)
    unfolding blocks_copied
    copied =
        record {
          some =
              subst (λ ps. Partly s from to chosen m (after ps m)) (take-length loop) (partly_copied (length loop));
          tag_zero = λ b l e. round_whole s.blocks round_of b l Tags b (other_tag b) m ∙ round_tag b e;
          cell_copied = λ a l e. round_whole s.blocks round_of _ l to a (other_cell _ a refl) m
              ∙ round_cell _ e a refl;
        }

-- ---- contexts saved

module _ (s : Shape) (m : Memory) (g : ℕ) where
  -- a statement of the puts of one round, and of the loop
  pub all_context : {P : Put → Type 0} (i : ℕ)
      → (has g i ≡ true → (x v : ℕ) → x < s.context → P (put Checkpoint (i * s.context + x) v))
      → All P (context_saved s m g i)
  unfolding context_saved
  all_context i h =
      all_cond (has g i) (λ e. all_copying m Tentative Checkpoint (i * s.context) s.context (h e)) (λ e. none)

  pub all_contexts : {P : Put → Type 0}
      → ((i x v : ℕ) → i < s.boards → has g i ≡ true → x < s.context → P (put Checkpoint (i * s.context + x) v))
      → All P (for s.boards (context_saved s m g))
  all_contexts h = all_for s.boards (context_saved s m g) (λ i l. all_context i (λ e x v d. h i x v l e d))

  -- other areas and other boards' contexts are left, and at the end each member's context is saved
  pub contexts_other : (k : ℕ) (a : Area) (i : ℕ) → rank a ≢ rank Checkpoint
      → after (take k (for s.boards (context_saved s m g))) m a i ≡ m a i
  contexts_other k a i h = untouched (all_take k (all_contexts (λ j x v l e d. else_area (λ r. h (sym r))))) m

  -- a round touches the context of its board, if that is a member
  context_away : (j i x : ℕ) → x < s.context → (has g j ≡ true → j ≢ i)
      → All (Away Checkpoint (i * s.context + x)) (context_saved s m g j)
  context_away j i x h n =
      all_context j (λ e y v l. else_index (λ f. n e (flat_split s.context j i y x l h f).0))

  pub contexts_left : (k i x : ℕ) → has g i ≡ false → x < s.context
      → after (take k (for s.boards (context_saved s m g))) m Checkpoint (i * s.context + x) ≡ m Checkpoint
      (i * s.context + x)
  contexts_left k i x h l =
      untouched (all_take k (all_for s.boards (context_saved s m g) (λ j d.
      context_away j i x l (λ e f. clash e (subst (λ b. has g b ≡ false) (sym f) h))))) m

  pub contexts_saved : (i x : ℕ) → i < s.boards → has g i ≡ true → x < s.context
      → after (for s.boards (context_saved s m g)) m Checkpoint (i * s.context + x)
      ≡ m Tentative (i * s.context + x)
  unfolding context_saved
  contexts_saved i x h e l =
      round_whole s.boards (context_saved s m g) i h Checkpoint _ (λ j n. context_away j i x l (λ d. n)) m
      ∙ rw e (copying_whole m Tentative Checkpoint (i * s.context) s.context m x l)

-- ---- the puts stand in their areas, past the header and the decision byte

pub record Inside (s : Shape) (p : Put) : Type 0 where
  pub past : 1 < rank p.area
  pub inside : p.index < size s p.area

pub placing_inside : (s : Shape) (area : Area) (i : ℕ) (bs : List ℕ) → 1 < rank area → i + length bs ≤ size s area
    → All (Inside s) (placing area i bs)
placing_inside s area i bs h l = all_placing area i bs (λ x v d. record { past = h; inside = omega arith })

-- the two areas of cells, neither of them tags
pub data Bank : Area → Type 0 where
  current : Bank Current
  recovery : Bank Recovery

pub bank_rank : {to : Area} → Bank to → rank Tags < rank to
unfolding rank
bank_rank current = omega arith
bank_rank recovery = omega arith

pub bank_size : {to : Area} (s : Shape) → Bank to → size s to ≡ cells s
unfolding size
bank_size s current = refl
bank_size s recovery = refl

module _ (s : Shape) (m : Memory) where
  -- in any number of rounds
  pub rounds_inside : (from to : Area) (chosen : ℕ → Bool) → Bank to → (n : ℕ) → n ≤ s.blocks
      → All (Inside s) (for n (block_copied s m from to chosen))
  unfolding rank size
  rounds_inside from to chosen k n most =
      let h = bank_rank k in
      all_for n (block_copied s m from to chosen) (λ b l.
      all_block s m from to chosen b (λ e. (
        (λ x v d.
            let cell = flat_below s.size s.blocks b x (omega arith) d in
            record { past = omega arith; inside = rw (bank_size s k) cell }),
        record { past = omega arith; inside = omega arith },
      )))

  pub blocks_inside : (from to : Area) (chosen : ℕ → Bool) → Bank to
      → All (Inside s) (blocks_copied s m from to chosen)
  unfolding blocks_copied
  blocks_inside from to chosen k = rounds_inside from to chosen k s.blocks (le_refl _)

  pub contexts_inside : (g n : ℕ) → n ≤ s.boards → All (Inside s) (for n (context_saved s m g))
  unfolding rank size
  contexts_inside g n most =
      all_for n (context_saved s m g) (λ i l.
      all_context s m g i (λ e x v d.
      record { past = omega arith; inside = flat_below s.context s.boards i x (omega arith) d }))
