-- Power cuts: whatever prefix of a call's puts was made, the memory still tells what was kept.
use Prim.Native.Nat.{ℕ, zero, suc, ◌+◌, ◌-◌, ◌*◌, ◌/◌, ◌%◌, ◌≤◌, ◌<◌}
use native.Mathlib.Nat.{div-lt_iff_lt-mul}
use mathlib.Core.Path.{◌≡◌, refl, sym, ◌∙◌, ap, subst, fun_ext}
use mathlib.Core.Bool.{Bool, true, false, cond}
use mathlib.Core.List.{List, [], ◌∷◌, ◌++◌, append_assoc, append-nil}
use mathlib.Core.Logic.{◌⊎◌, inl, inr, ⊎_elim, ◌≢◌}
use lib.Dec.{eqb, ltb}
use lib.ListN.{length, get_or, take, length-append}
use lib.Seq.{take_all}
use native.Mathlib.Omega.{arith}
use borrow.Author.Tests.{eqb-true, eqb-false, ltb-true, ltb-false}
use Rattle.boards.specs.Lists.{for, span, any_of}
use Rattle.boards.specs.Boards.{has, beyond, tagged_in, tagged}
use Rattle.protocol.specs.Image.{Area, Decision, Group, Tags, Current, Recovery, Tentative, Checkpoint, Memory}
use Rattle.protocol.specs.Image.{Put, put, rank, change, after, cells}
use Rattle.protocol.specs.Accesses.{touched}
use Rattle.protocol.specs.Calls.{stored_group, placing, copying, tagging, block_copied, blocks_copied}
use Rattle.protocol.specs.Calls.{context_saved, completing, deciding as deciding_puts, completed_first}
use Rattle.protocol.specs.Calls.{recovering}
use Rattle.protocol.specs.declared.Shape.{Shape}
use Rattle.boards.proofs.Basics.{decide, clash, All, none, also, all_append, all_map, or_true, or_false, all_take}
use Rattle.boards.proofs.Basics.{take_append}
use Rattle.protocol.proofs.Memory.{after_append, change_area, change_index, change_same, untouched}
use Rattle.protocol.proofs.Copies.{Partly, partly_copied, Copied, copied, contexts_other, contexts_left}
use Rattle.protocol.proofs.Copies.{contexts_saved, placing_other, placing_outside, length_placing, all_placing}
use Rattle.protocol.proofs.Accesses.{cell_touched}

-- ---- what a memory tells: `cell a` and `context i` are the kept bytes of cell a and of board i

-- no commit is decided: the recovery areas hold what was kept, and so does the current bank where it has no tag
pub record Idle (s : Shape) (cell : ℕ → ℕ) (context : ℕ → List ℕ) (m : Memory) : Type 0 where
  pub undecided : m Decision 0 ≡ 0
  pub tags : (b : ℕ) → b < s.blocks → m Tags b ≤ s.boards
  pub recovery : (a : ℕ) → a < cells s → m Recovery a ≡ cell a
  pub current : (a : ℕ) → a < cells s → m Tags (a / s.size) ≡ 0 → m Current a ≡ cell a
  pub contexts : (i x : ℕ) → i < s.boards → x < s.context → m Checkpoint (i * s.context + x) ≡ get_or (context i) x 0

-- a commit of g is decided: the current bank holds what was kept where g's tags still stand, and so do
-- the members' tentative contexts
pub record Deciding (s : Shape) (cell : ℕ → ℕ) (context : ℕ → List ℕ) (g : ℕ) (m : Memory) : Type 0 where
  pub decided : m Decision 0 ≡ 1
  pub group : stored_group m ≡ g
  pub some : g ≢ 0
  pub below : beyond s.boards g ≡ false
  pub tags : (b : ℕ) → b < s.blocks → m Tags b ≤ s.boards
  pub saving : (a : ℕ) → a < cells s → tagged_in g (m Tags (a / s.size)) ≡ true → m Current a ≡ cell a
  pub recovery : (a : ℕ) → a < cells s → tagged_in g (m Tags (a / s.size)) ≡ false → m Recovery a ≡ cell a
  pub current : (a : ℕ) → a < cells s → m Tags (a / s.size) ≡ 0 → m Current a ≡ cell a
  pub given : (i x : ℕ) → i < s.boards → x < s.context → has g i ≡ true
      → m Tentative (i * s.context + x) ≡ get_or (context i) x 0
  pub contexts : (i x : ℕ) → i < s.boards → x < s.context → has g i ≡ false
      → m Checkpoint (i * s.context + x) ≡ get_or (context i) x 0

pub data Safe (s : Shape) (cell : ℕ → ℕ) (context : ℕ → List ℕ) (m : Memory) : Type 0 where
  idle : Idle s cell context m → Safe s cell context m
  deciding : {g : ℕ} → Deciding s cell context g m → Safe s cell context m

-- ---- prefixes

-- P holds after every prefix of the puts
pub record Through (P : Memory → Type 0) (m : Memory) (ps : List Put) : Type 0 where
  pub prefix : (k : ℕ) → P (after (take k ps) m)

module _ {P : Memory → Type 0} where
  pub through_none : {m : Memory} → P m → Through P m []
  unfolding after
  through_none {m} h = record { prefix = λ k. go k }
    where
      go : (k : ℕ) → P (after (take k []) m)
      go zero = h
      go (suc k) = h

  pub through_append : {m : Memory} (ps qs : List Put) → Through P m ps → Through P (after ps m) qs
      → Through P m (ps ++ qs)
  unfolding after
  through_append {m} ps qs p q =
      record {
        prefix =
            λ k.
            rw (take_append k ps qs, after_append)
            (⊎_elim
            (λ (e : ltb k (length ps) ≡ true).
            let l = ltb-true k (length ps) e in
            let z : k - length ps ≡ 0 = omega arith in
            rw z (p.prefix k))
            (λ (e : ltb k (length ps) ≡ false).
            rw (take_all k ps (ltb-false k (length ps) e)) (q.prefix (k - length ps)))
            (decide (ltb k (length ps))));
      }

  -- one put
  pub through_one : {m : Memory} (p : Put) → P m → P (change m p) → Through P m (p ∷ [])
  unfolding after
  through_one {m} p h k = record { prefix = λ n. go n }
    where
      go : (n : ℕ) → P (after (take n (p ∷ [])) m)
      go zero = h
      go (suc zero) = k
      go (suc (suc n)) = k

  -- after all puts
  pub through_end : {m : Memory} {ps : List Put} → Through P m ps → P (after ps m)
  through_end {m} {ps} t = subst (λ qs. P (after qs m)) (take_all (length ps) ps (omega arith)) (t.prefix (length ps))

  pub through_map : {Q : Memory → Type 0} {m : Memory} {ps : List Put} → ((m : Memory) → P m → Q m) → Through P m ps
      → Through Q m ps
  through_map f t = record { prefix = λ k. f _ (t.prefix k) }

-- ---- blocks

-- a cell's block
pub block_below : (s : Shape) (a : ℕ) → 0 < s.size → a < cells s → a / s.size < s.blocks
block_below s a h l = (div-lt_iff_lt-mul h).1 l

module _ {s : Shape} (positive : 0 < s.size) {cell : ℕ → ℕ} {context : ℕ → List ℕ} where
  -- blocks rolled back, of a test that no untagged block passes
  restore_idle : {m m' : Memory} (chosen : ℕ → Bool) → chosen 0 ≡ false → Partly s Recovery Current chosen m m'
      → Idle s cell context m → Idle s cell context m'
  unfolding rank
  restore_idle {m} {m'} chosen zeroth p h =
      record {
        undecided = p.other Decision (omega arith) (omega arith) 0 ∙ h.undecided;
        tags =
            λ b l.
            ⊎_elim
            (λ (e : chosen (m Tags b) ≡ true).
            ⊎_elim (λ q. rw q (h.tags b l)) (λ q. rw q.0 (omega arith)) (p.block b e))
            (λ (e : chosen (m Tags b) ≡ false). rw (p.tag_left b e) (h.tags b l))
            (decide (chosen (m Tags b)));
        recovery = λ a l. p.other Recovery (omega arith) (omega arith) a ∙ h.recovery a l;
        current =
            λ a l z.
            let b = a / s.size in
            ⊎_elim
            (λ (e : chosen (m Tags b) ≡ true).
            ⊎_elim
            (λ q. clash e (ap chosen (sym q ∙ z) ∙ zeroth))
            (λ q. q.1 a refl ∙ h.recovery a l)
            (p.block b e))
            (λ (e : chosen (m Tags b) ≡ false). p.cell_left a e ∙ h.current a l (sym (p.tag_left b e) ∙ z))
            (decide (chosen (m Tags b)));
        contexts = λ i x l k. p.other Checkpoint (omega arith) (omega arith) (i * s.context + x)
            ∙ h.contexts i x l k;
      }

  pub rollback_through : {m : Memory} (chosen : ℕ → Bool) → chosen 0 ≡ false → Idle s cell context m
      → Through (Idle s cell context) m (blocks_copied s m Recovery Current chosen)
  unfolding rank
  rollback_through {m} chosen zeroth h =
      record {
        prefix = λ k. restore_idle chosen zeroth
            (partly_copied s Recovery Current chosen (omega arith) positive m k) h;
      }

  -- members' blocks saved
  save_deciding : {m m' : Memory} {g : ℕ} → Partly s Current Recovery (tagged_in g) m m'
      → Deciding s cell context g m → Deciding s cell context g m'
  unfolding rank stored_group tagged_in
  save_deciding {m} {m'} {g} p h =
      record {
        decided = p.other Decision (omega arith) (omega arith) 0 ∙ h.decided;
        group = rw (p.other Group (omega arith) (omega arith) 0, p.other Group (omega arith) (omega arith) 1)
            h.group;
        some = h.some;
        below = h.below;
        tags =
            λ b l.
            ⊎_elim
            (λ (e : tagged_in g (m Tags b) ≡ true).
            ⊎_elim (λ q. rw q (h.tags b l)) (λ q. rw q.0 (omega arith)) (p.block b e))
            (λ (e : tagged_in g (m Tags b) ≡ false). rw (p.tag_left b e) (h.tags b l))
            (decide (tagged_in g (m Tags b)));
        saving =
            λ a l t.
            let b = a / s.size in
            ⊎_elim
            (λ (e : tagged_in g (m Tags b) ≡ true). p.other Current (omega arith) (omega arith) a ∙ h.saving a l e)
            (λ (e : tagged_in g (m Tags b) ≡ false). clash t (ap (tagged_in g) (p.tag_left b e) ∙ e))
            (decide (tagged_in g (m Tags b)));
        recovery =
            λ a l t.
            let b = a / s.size in
            ⊎_elim
            (λ (e : tagged_in g (m Tags b) ≡ true).
            ⊎_elim (λ q. clash (ap (tagged_in g) q ∙ e) t) (λ q. q.1 a refl ∙ h.saving a l e) (p.block b e))
            (λ (e : tagged_in g (m Tags b) ≡ false). p.cell_left a e ∙ h.recovery a l e)
            (decide (tagged_in g (m Tags b)));
        current =
            λ a l z.
            let b = a / s.size in
            p.other Current (omega arith) (omega arith) a
            ∙ ⊎_elim
            (λ (e : tagged_in g (m Tags b) ≡ true). h.saving a l e)
            (λ (e : tagged_in g (m Tags b) ≡ false). h.current a l (sym (p.tag_left b e) ∙ z))
            (decide (tagged_in g (m Tags b)));
        given = λ i x l k e. p.other Tentative (omega arith) (omega arith) (i * s.context + x) ∙ h.given i x l k e;
        contexts = λ i x l k e. p.other Checkpoint (omega arith) (omega arith) (i * s.context + x)
            ∙ h.contexts i x l k e;
      }

  -- members' contexts saved: the tags stay, so the commit stays decided
  contexts_deciding : {m : Memory} {g : ℕ} (k : ℕ) → Deciding s cell context g m
      → Deciding s cell context g (after (take k (for s.boards (context_saved s m g))) m)
  unfolding rank stored_group
  contexts_deciding {m} {g} k h =
      let other : (a : Area) (i : ℕ) → rank a ≢ rank Checkpoint → after
      (take k (for s.boards (context_saved s m g))) m a i ≡ m a i
      = contexts_other s m g k
      in
      record {
        decided = other Decision 0 (omega arith) ∙ h.decided;
        group = rw (other Group 0 (omega arith), other Group 1 (omega arith)) h.group;
        some = h.some;
        below = h.below;
        tags = λ b l. rw (other Tags b (omega arith)) (h.tags b l);
        saving = λ a l t. other Current a (omega arith) ∙ h.saving a l
            (ap (tagged_in g) (sym (other Tags (a / s.size) (omega arith))) ∙ t);
        recovery =
            λ a l t. other Recovery a (omega arith) ∙ h.recovery a l
            (ap (tagged_in g) (sym (other Tags (a / s.size) (omega arith))) ∙ t);
        current = λ a l z. other Current a (omega arith) ∙ h.current a l
            (sym (other Tags (a / s.size) (omega arith)) ∙ z);
        given = λ i x l j e. other Tentative (i * s.context + x) (omega arith) ∙ h.given i x l j e;
        contexts = λ i x l j e. contexts_left s m g k i x e j ∙ h.contexts i x l j e;
      }

-- the loop over contexts reads the tentative contexts alone
pub contexts_cong : (s : Shape) (g : ℕ) (m n : Memory) → ((i : ℕ) → m Tentative i ≡ n Tentative i)
    → for s.boards (context_saved s m g) ≡ for s.boards (context_saved s n g)
unfolding context_saved copying
contexts_cong s g m n e =
    ap (λ (f : ℕ → ℕ). for s.boards (λ i. cond (has g i)
    (placing Checkpoint (i * s.context) (span f (i * s.context) s.context)) []))
    (fun_ext e)

-- what the completion of a commit leaves
pub record Completed (s : Shape) (g : ℕ) (m m' : Memory) : Type 0 where
  pub undecided : m' Decision 0 ≡ 0
  pub current : (a : ℕ) → m' Current a ≡ m Current a
  pub tag_zero : (b : ℕ) → b < s.blocks → tagged_in g (m Tags b) ≡ true → m' Tags b ≡ 0
  pub tag_left : (b : ℕ) → tagged_in g (m Tags b) ≡ false → m' Tags b ≡ m Tags b
  pub saved : (a : ℕ) → a < cells s → tagged_in g (m Tags (a / s.size)) ≡ true → m' Recovery a ≡ m Current a
  pub left : (a : ℕ) → tagged_in g (m Tags (a / s.size)) ≡ false → m' Recovery a ≡ m Recovery a
  pub kept : (i x : ℕ) → i < s.boards → x < s.context → has g i ≡ true
      → m' Checkpoint (i * s.context + x) ≡ m Tentative (i * s.context + x)
  pub others : (i x : ℕ) → x < s.context → has g i ≡ false
      → m' Checkpoint (i * s.context + x) ≡ m Checkpoint (i * s.context + x)

module _ (s : Shape) (positive : 0 < s.size) (m : Memory) (g : ℕ) where
  -- the three parts of the completion
  abbrev block_puts : List Put
  block_puts = blocks_copied s m Current Recovery (tagged_in g)

  abbrev saved_blocks : Memory
  saved_blocks = after block_puts m

  abbrev context_puts : List Put
  context_puts = for s.boards (context_saved s saved_blocks g)

  blocks_done : Copied s Current Recovery (tagged_in g) m saved_blocks
  unfolding rank
  blocks_done = copied s Current Recovery (tagged_in g) (omega arith) positive m

  completing_parts : completing s m g ≡ block_puts ++ (context_puts ++ put Decision 0 0 ∷ [])
  unfolding completing rank
  completing_parts =
      ap (λ ps. block_puts ++ (ps ++ put Decision 0 0 ∷ []))
      (contexts_cong s g m saved_blocks (λ i. sym (blocks_done.some.other Tentative (omega arith) (omega arith) i)))

  -- the memory before and after byte 9 is set to 0
  abbrev saved_contexts : Memory
  saved_contexts = after context_puts saved_blocks

  after_completing : after (completing s m g) m ≡ change saved_contexts (put Decision 0 0)
  unfolding after
  after_completing =
      ap (λ ps. after ps m) completing_parts
      ∙ after_append block_puts (context_puts ++ put Decision 0 0 ∷ []) m
      ∙ after_append context_puts (put Decision 0 0 ∷ []) saved_blocks

  other_context : (a : Area) (i : ℕ) → rank a ≢ rank Checkpoint → saved_contexts a i ≡ saved_blocks a i
  other_context a i h =
      subst (λ ps. after ps saved_blocks a i ≡ saved_blocks a i)
      (take_all (length context_puts) context_puts (omega arith))
      (contexts_other s saved_blocks g (length context_puts) a i h)

  pub completed : Completed s g m (after (completing s m g) m)
  unfolding rank change
  completed =
      let b = blocks_done in
      rw after_completing
      (record {
        undecided = refl;
        current = λ a. other_context Current a (omega arith) ∙ b.some.other Current (omega arith) (omega arith) a;
        tag_zero = λ c l e. other_context Tags c (omega arith) ∙ b.tag_zero c l e;
        tag_left = λ c e. other_context Tags c (omega arith) ∙ b.some.tag_left c e;
        saved = λ a l e. other_context Recovery a (omega arith) ∙ b.cell_copied a (block_below s a positive l) e;
        left = λ a e. other_context Recovery a (omega arith) ∙ b.some.cell_left a e;
        kept =
            λ i x l k e.
            contexts_saved s saved_blocks g i x l e k ∙ b.some.other Tentative (omega arith) (omega arith)
            (i * s.context + x);
        others = λ i x k e. context_left i x k e
            ∙ b.some.other Checkpoint (omega arith) (omega arith) (i * s.context + x);
      })
    where
      context_left : (i x : ℕ) → x < s.context → has g i ≡ false
          → saved_contexts Checkpoint (i * s.context + x) ≡ saved_blocks Checkpoint (i * s.context + x)
      context_left i x k e =
          subst (λ ps. after ps saved_blocks Checkpoint (i * s.context + x) ≡ saved_blocks Checkpoint
          (i * s.context + x))
          (take_all (length context_puts) context_puts (omega arith))
          (contexts_left s saved_blocks g (length context_puts) i x e k)

  -- a decided commit is safe through its completion, and idle after it
  module _ {cell : ℕ → ℕ} {context : ℕ → List ℕ} (h : Deciding s cell context g m) where
    pub completed_idle : Idle s cell context (after (completing s m g) m)
    unfolding tagged_in
    completed_idle =
        let c = completed in
        record {
          undecided = c.undecided;
          tags =
              λ b l.
              ⊎_elim
              (λ (e : tagged_in g (m Tags b) ≡ true). rw (c.tag_zero b l e) (omega arith))
              (λ (e : tagged_in g (m Tags b) ≡ false). rw (c.tag_left b e) (h.tags b l))
              (decide (tagged_in g (m Tags b)));
          recovery =
              λ a l.
              ⊎_elim
              (λ (e : tagged_in g (m Tags (a / s.size)) ≡ true). c.saved a l e ∙ h.saving a l e)
              (λ (e : tagged_in g (m Tags (a / s.size)) ≡ false). c.left a e ∙ h.recovery a l e)
              (decide (tagged_in g (m Tags (a / s.size))));
          current =
              λ a l z.
              c.current a
              ∙ ⊎_elim
              (λ (e : tagged_in g (m Tags (a / s.size)) ≡ true). h.saving a l e)
              (λ (e : tagged_in g (m Tags (a / s.size)) ≡ false). h.current a l
              (sym (c.tag_left (a / s.size) e) ∙ z))
              (decide (tagged_in g (m Tags (a / s.size))));
          contexts =
              λ i x l k.
              ⊎_elim
              (λ (e : has g i ≡ true). c.kept i x l k e ∙ h.given i x l k e)
              (λ (e : has g i ≡ false). c.others i x k e ∙ h.contexts i x l k e)
              (decide (has g i));
        }

    blocks_through : Through (Deciding s cell context g) m block_puts
    unfolding rank
    blocks_through =
        record {
          prefix = λ k. save_deciding positive
              (partly_copied s Current Recovery (tagged_in g) (omega arith) positive m k) h;
        }

    contexts_through : Through (Deciding s cell context g) saved_blocks context_puts
    contexts_through = record { prefix = λ k. contexts_deciding positive k (through_end blocks_through) }

    pub completing_through : Through (Safe s cell context) m (completing s m g)
    completing_through =
        rw completing_parts
        (through_append block_puts (context_puts ++ put Decision 0 0 ∷ [])
        (through_map (λ m d. deciding d) blocks_through)
        (through_append context_puts (put Decision 0 0 ∷ [])
        (through_map (λ m d. deciding d) contexts_through)
        (through_one (put Decision 0 0) (deciding (through_end contexts_through))
        (idle (rw after_completing at completed_idle)))))

-- ---- power-up

tagged_zero : (t : ℕ) → tagged t ≡ false → t ≡ 0
unfolding tagged
tagged_zero zero e = refl
tagged_zero (suc j) e = clash refl e

-- no block is tagged, and the current bank holds what was kept
pub record Clean (s : Shape) (cell : ℕ → ℕ) (context : ℕ → List ℕ) (m : Memory) : Type 0 where
  pub calm : Idle s cell context m
  pub untagged : (b : ℕ) → b < s.blocks → m Tags b ≡ 0

module _ {s : Shape} (positive : 0 < s.size) {cell : ℕ → ℕ} {context : ℕ → List ℕ} where
  all_restored : {m : Memory} → Idle s cell context m
      → Clean s cell context (after (blocks_copied s m Recovery Current tagged) m)
  unfolding rank tagged
  all_restored {m} h =
      let c = copied s Recovery Current tagged (omega arith) positive m in
      record {
        calm = through_end (rollback_through positive tagged refl h);
        untagged =
            λ b l.
            ⊎_elim
            (λ (e : tagged (m Tags b) ≡ true). c.tag_zero b l e)
            (λ (e : tagged (m Tags b) ≡ false). c.some.tag_left b e ∙ tagged_zero (m Tags b) e)
            (decide (tagged (m Tags b)));
      }

  completed_first_safe : {m : Memory} → Safe s cell context m
      → Through (Safe s cell context) m (completed_first s m) × Idle s cell context (after (completed_first s m) m)
  unfolding completed_first after
  completed_first_safe (idle h) = rw h.undecided (through_none (idle h), h)
  completed_first_safe {m} (deciding {g} h) =
      rw (h.decided, h.group) (completing_through s positive m g h, completed_idle s positive m g h)

  -- power-up from any safe memory is safe throughout and leaves it clean
  pub recovering_safe : {m : Memory} → Safe s cell context m
      → Through (Safe s cell context) m (recovering s m) × Clean s cell context (after (recovering s m) m)
  unfolding recovering tagged
  recovering_safe {m} h =
      let first = completed_first_safe h in
      let done = completed_first s m in
      let rest = blocks_copied s (after done m) Recovery Current tagged in (
        through_append done rest first.0 (through_map (λ m i. idle i)
            (rollback_through positive tagged refl first.1)),
        subst (λ n. Clean s cell context n) (sym (after_append done rest m)) (all_restored first.1),
      )

-- ---- a write

-- the tags while the touched blocks are tagged: each as it was, or the writer's
record Tagging (m n : Memory) (i : ℕ) : Type 0 where
  as_was : (b : ℕ) → (n Tags b ≡ m Tags b) ⊎ (n Tags b ≡ suc i)

module _ {s : Shape} {cell : ℕ → ℕ} {context : ℕ → List ℕ} where
  -- a tag that is not 0 keeps a memory idle
  tag_idle : {n : Memory} (b t : ℕ) → t < s.boards → Idle s cell context n
      → Idle s cell context (change n (put Tags b (suc t)))
  unfolding change rank
  tag_idle {n} b t l h =
      record {
        undecided = h.undecided;
        tags =
            λ c k.
            ⊎_elim
            (λ (e : eqb b c ≡ true). rw e l)
            (λ (e : eqb b c ≡ false). rw e (h.tags c k))
            (decide (eqb b c));
        recovery = h.recovery;
        current =
            λ a k z.
            ⊎_elim
            (λ (e : eqb b (a / s.size) ≡ true). absurd (positive_tag (rw e at z)))
            (λ (e : eqb b (a / s.size) ≡ false). h.current a k (rw e at z))
            (decide (eqb b (a / s.size)));
        contexts = h.contexts;
      }
    where
      positive_tag : suc t ≡ 0 → ⊥
      positive_tag e = omega arith

-- what tagging leaves: the tag of each touched block is the writer's
pub record Tagged (i : ℕ) (bs : List ℕ) (n n' : Memory) : Type 0 where
  pub hit : (b : ℕ) → any_of (eqb b) bs ≡ true → n' Tags b ≡ suc i
  pub miss : (b : ℕ) → any_of (eqb b) bs ≡ false → n' Tags b ≡ n Tags b
  pub other : (a : Area) (x : ℕ) → rank a ≢ rank Tags → n' a x ≡ n a x

-- one block tagged before the others, by a put or already
tagged_first : {i b : ℕ} {bs : List ℕ} {n n₁ n₂ : Memory} → n₁ Tags b ≡ suc i
    → ((c : ℕ) → c ≢ b → n₁ Tags c ≡ n Tags c)
    → ((a : Area) (x : ℕ) → rank a ≢ rank Tags → n₁ a x ≡ n a x) → Tagged i bs n₁ n₂ → Tagged i (b ∷ bs) n n₂
unfolding any_of
tagged_first {i} {b} {bs} {n} {n₁} {n₂} here there other t =
    record {
      hit =
          λ c h.
          ⊎_elim
          (λ (e : any_of (eqb c) bs ≡ true). t.hit c e)
          (λ (e : any_of (eqb c) bs ≡ false).
          ⊎_elim
          (λ (f : eqb c b ≡ true). t.miss c e ∙ ap (n₁ Tags) (eqb-true c b f) ∙ here)
          (λ (f : any_of (eqb c) bs ≡ true). clash f e)
          (or_true (eqb c b) (any_of (eqb c) bs) h))
          (decide (any_of (eqb c) bs));
      miss =
          λ c h.
          let both = or_false (eqb c b) (any_of (eqb c) bs) h in
          t.miss c both.1 ∙ there c (eqb-false c b both.0);
      other = λ a x h. t.other a x h ∙ other a x h;
    }

tag_more : {m n : Memory} {i : ℕ} (b : ℕ) → Tagging m n i → Tagging m (change n (put Tags b (suc i))) i
unfolding change rank
tag_more b w =
    record {
      as_was =
          λ c.
          ⊎_elim
          (λ (e : eqb b c ≡ true). inr (rw e))
          (λ (e : eqb b c ≡ false). rw e (w.as_was c))
          (decide (eqb b c));
    }

tagging_tagged : (i : ℕ) (m : Memory) (bs : List ℕ) (n : Memory) → Tagging m n i
    → Tagged i bs n (after (tagging m i bs) n)
unfolding tagging after any_of
tagging_tagged i m [] n w = record { hit = λ b h. clash h refl; miss = λ b h. refl; other = λ a x h. refl }
tagging_tagged i m (b ∷ bs) n w =
    ⊎_elim
    (λ (e : eqb (m Tags b) (suc i) ≡ true).
    rw e
    (tagged_first (⊎_elim (λ q. q ∙ eqb-true (m Tags b) (suc i) e) (λ q. q) (w.as_was b)) (λ c h. refl) (λ a x h. refl)
    (tagging_tagged i m bs n w)))
    (λ (e : eqb (m Tags b) (suc i) ≡ false).
    rw e
    (tagged_first (change_same n Tags b (suc i)) (λ c h. change_index n Tags b c (suc i) (λ q. h (sym q)))
    (λ a x h. change_area n Tags a b x (suc i) (λ q. h (sym q)))
    (tagging_tagged i m bs (change n (put Tags b (suc i))) (tag_more b w))))
    (decide (eqb (m Tags b) (suc i)))

module _ {s : Shape} {cell : ℕ → ℕ} {context : ℕ → List ℕ} where
  tagging_through : {i : ℕ} → i < s.boards → (m : Memory) (bs : List ℕ) (n : Memory) → Idle s cell context n
      → Through (Idle s cell context) n (tagging m i bs)
  unfolding tagging
  tagging_through l m [] n h = through_none h
  tagging_through {i} l m (b ∷ bs) n h =
      ⊎_elim
      (λ (e : eqb (m Tags b) (suc i) ≡ true). rw e (tagging_through l m bs n h))
      (λ (e : eqb (m Tags b) (suc i) ≡ false).
      let one : Through (Idle s cell context) n (put Tags b (suc i) ∷ []) = through_one (put Tags b (suc i)) h
      (tag_idle b i l h) in
      rw e
      (through_append (put Tags b (suc i) ∷ []) (tagging m i bs) one
      (tagging_through l m bs (after (put Tags b (suc i) ∷ []) n) (through_end one))))
      (decide (eqb (m Tags b) (suc i)))

  -- bytes placed in tagged blocks of the current bank
  placing_through : {n : Memory} (a : ℕ) (bytes : List ℕ)
      → ((c : ℕ) → a ≤ c → c < a + length bytes → n Tags (c / s.size) ≢ 0)
      → Idle s cell context n → Through (Idle s cell context) n (placing Current a bytes)
  unfolding rank
  placing_through {n} a bytes t h =
      record {
        prefix =
            λ k.
            let other : (b : Area) (j : ℕ) → rank Current ≢ rank b → after (take k (placing Current a bytes)) n b j
            ≡ n b j
            = placing_other Current a bytes n k
            in
            record {
              undecided = other Decision 0 (omega arith) ∙ h.undecided;
              tags = λ b l. rw (other Tags b (omega arith)) (h.tags b l);
              recovery = λ c l. other Recovery c (omega arith) ∙ h.recovery c l;
              current =
                  λ c l z.
                  let z' = sym (other Tags (c / s.size) (omega arith)) ∙ z in
                  placing_outside Current a bytes n k c (λ lo. outside c lo z') ∙ h.current c l z';
              contexts = λ i x l j. other Checkpoint (i * s.context + x) (omega arith) ∙ h.contexts i x l j;
            };
      }
    where
      outside : (c : ℕ) → a ≤ c → n Tags (c / s.size) ≡ 0 → a + length bytes ≤ c
      outside c lo z =
          ⊎_elim
          (λ (e : ltb c (a + length bytes) ≡ true). absurd (t c lo (ltb-true c (a + length bytes) e) z))
          (λ (e : ltb c (a + length bytes) ≡ false). ltb-false c (a + length bytes) e)
          (decide (ltb c (a + length bytes)))

-- a write: the tags first, then the bytes
pub write_tagged : (s : Shape) (m : Memory) (i a n : ℕ)
    → Tagged i (touched s a n) m (after (tagging m i (touched s a n)) m)
write_tagged s m i a n = tagging_tagged i m (touched s a n) m (record { as_was = λ b. inl refl })

pub write_through : {s : Shape} {cell : ℕ → ℕ} {context : ℕ → List ℕ} {m : Memory} (i a : ℕ) (bytes : List ℕ)
    → 0 < s.size → length bytes ≤ s.size → i < s.boards → Idle s cell context m
    → Through (Idle s cell context) m (tagging m i (touched s a (length bytes)) ++ placing Current a bytes)
write_through {s} {m = m} i a bytes positive few l h =
    let bs = touched s a (length bytes) in
    let first = tagging_through l m bs m h in
    let t = write_tagged s m i a (length bytes) in
    through_append (tagging m i bs) (placing Current a bytes) first
    (placing_through a bytes
    (λ c lo hi e.
    let q = sym (t.hit (c / s.size) (cell_touched s a (length bytes) c positive few lo hi)) ∙ e in
    omega arith)
    (through_end first))

-- ---- a start or an acknowledgement

-- an idle memory is not told apart by its tentative contexts and stored group
pub idle_same : {s : Shape} {cell : ℕ → ℕ} {context : ℕ → List ℕ} {m m' : Memory}
    → ((a : Area) (i : ℕ) → rank a ≢ rank Tentative → rank a ≢ rank Group → m' a i ≡ m a i)
    → Idle s cell context m → Idle s cell context m'
unfolding rank
idle_same {s} same h =
    record {
      undecided = same Decision 0 (omega arith) (omega arith) ∙ h.undecided;
      tags = λ b l. rw (same Tags b (omega arith) (omega arith)) (h.tags b l);
      recovery = λ a l. same Recovery a (omega arith) (omega arith) ∙ h.recovery a l;
      current = λ a l z. same Current a (omega arith) (omega arith) ∙ h.current a l
          (sym (same Tags (a / s.size) (omega arith) (omega arith)) ∙ z);
      contexts = λ i x l k. same Checkpoint (i * s.context + x) (omega arith) (omega arith) ∙ h.contexts i x l k;
    }

module _ (s : Shape) (m : Memory) (i g : ℕ) (bytes : List ℕ) where
  abbrev pub given_puts : List Put
  given_puts = placing Tentative (i * s.context) bytes

  -- the context and bytes 10 and 11
  abbrev pub announced : List Put
  announced = given_puts ++ put Group 0 (g % 256) ∷ put Group 1 (g / 256) ∷ []

  -- the memory right after the deciding store
  unfoldable pub decision : Memory
  decision = change (change (change (after given_puts m) (put Group 0 (g % 256))) (put Group 1 (g / 256)))
      (put Decision 0 1)

  abbrev pub deciding_stores : List Put
  deciding_stores = given_puts ++ deciding_puts s (after given_puts m) g

  pub stores_parts : deciding_stores ≡ announced ++ put Decision 0 1 ∷ completing s decision g
  unfolding deciding_puts decision completing blocks_copied block_copied copying context_saved change rank
  stores_parts = sym (append_assoc given_puts (put Group 0 (g % 256) ∷ put Group 1 (g / 256) ∷ [])
      (put Decision 0 1 ∷ completing s decision g))

  after_announced : change (after announced m) (put Decision 0 1) ≡ decision
  unfolding decision after
  after_announced =
      ap (λ n. change n (put Decision 0 1))
      (after_append given_puts (put Group 0 (g % 256) ∷ put Group 1 (g / 256) ∷ []) m)

  pub announced_length : length announced ≡ length bytes + 2
  announced_length =
      length-append given_puts (put Group 0 (g % 256) ∷ put Group 1 (g / 256) ∷ [])
      ∙ ap (λ n. n + 2) (length_placing Tentative (i * s.context) bytes)

  -- only tentative contexts and the stored group are touched before the deciding store
  pub announced_areas : All (λ p. (rank p.area ≡ rank Tentative) ⊎ (rank p.area ≡ rank Group)) announced
  announced_areas = all_append (all_placing Tentative (i * s.context) bytes (λ x v l. inl refl))
      (also (inr refl) (also (inr refl) none))

  announced_same : (k : ℕ) (a : Area) (j : ℕ) → rank a ≢ rank Tentative → rank a ≢ rank Group
      → after (take k announced) m a j ≡ m a j
  announced_same k a j p q =
      untouched (all_take k (all_map (λ r h. record {
        apart = λ e _. ⊎_elim (λ f. p (sym e ∙ f))
            (λ f. q (sym e ∙ f)) h;
      }) announced_areas)) m

  -- a cut before the deciding store
  pub before_decision : {cell : ℕ → ℕ} {context : ℕ → List ℕ} → Idle s cell context m → (k : ℕ) → k < length bytes + 3
      → Idle s cell context (after (take k deciding_stores) m)
  before_decision h k l =
      let short : k ≤ length announced = omega (arith, announced_length) in
      let none : k - length announced ≡ 0 = omega arith in
      rw (stores_parts, take_append k announced (put Decision 0 1 ∷ completing s decision g), none, append-nil)
      (idle_same (announced_same k) h)

  -- a cut at or after it
  pub after_decision : {cell : ℕ → ℕ} {context : ℕ → List ℕ} → 0 < s.size → Deciding s cell context g decision
      → (k : ℕ) → length bytes + 3 ≤ k
      → Safe s cell context (after (take k deciding_stores) m)
  unfolding after
  after_decision {cell} {context} positive d k l =
      let rest = completing s decision g in
      let j = k - (length bytes + 3) in
      let past : k - length announced ≡ suc j = omega (arith, announced_length) in
      rw (
        stores_parts,
        take_append k announced (put Decision 0 1 ∷ rest),
        past,
        after_append,
        take_all k announced
            (omega (arith, announced_length)),
      )
      (subst (λ n. Safe s cell context (after (take j rest) n)) (sym after_announced)
      ((completing_through s positive decision g d).prefix j))

  -- all of it
  pub decision_done : after deciding_stores m ≡ after (completing s decision g) decision
  unfolding after
  decision_done =
      ap (λ ps. after ps m) stores_parts
      ∙ after_append announced (put Decision 0 1 ∷ completing s decision g) m
      ∙ ap (after (completing s decision g)) after_announced
