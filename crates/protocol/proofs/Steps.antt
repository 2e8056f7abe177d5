-- Every call that is done keeps memory, record and ledger in agreement.
use Prim.Native.Nat.{ℕ, zero, suc, ◌+◌, ◌-◌, ◌*◌, ◌/◌, ◌≤◌, ◌<◌}
use mathlib.Core.Path.{◌≡◌, refl, sym, ◌∙◌, ap, subst}
use mathlib.Core.Bool.{true, false, ◌&&◌}
use mathlib.Core.List.{List, [], ◌∷◌, ◌++◌}
use mathlib.Core.Logic.{⊎_elim, ◌≢◌}
use lib.Dec.{eqb, ltb, leb}
use lib.ListN.{length, get_or}
use lib.Seq.{take_all}
use native.Mathlib.Omega.{arith}
use borrow.Author.Tests.{ltb-true, ltb-false, leb-true, lt-ltb, le-leb}
use Rattle.boards.specs.Lists.{span, any_of}
use Rattle.boards.specs.Boards.{has, meets, tagged_in, link, unlink}
use Rattle.protocol.specs.Image.{Area, Decision, Tags, Current, Recovery, Tentative, Checkpoint, Memory, rank}
use Rattle.protocol.specs.Image.{after, cells}
use Rattle.volatile.specs.Volatile.{closed, depends, left_open, depend, clear}
use Rattle.protocol.specs.Accesses.{touched, read_binding, write_binding, bind_boards}
use Rattle.protocol.specs.declared.Binding.{Binding}
use Rattle.protocol.specs.declared.Binding.TheVariants.{OneWay, TwoWay, Opposite}
use Rattle.protocol.specs.Accesses.{bind_tag, bind_blocks}
use Rattle.protocol.specs.Calls.{placing, tagging, blocks_copied}
use Rattle.protocol.specs.Ledger.{pending, undone, Wrote, ReadFrom, Note, Ledger, is_pending, covers, written}
use Rattle.protocol.specs.Ledger.{wrote_in, writer, source, cleared, noted}
use Rattle.protocol.specs.declared.Shape.{Shape}
use Rattle.volatile.specs.declared.Record.{Record}
use Rattle.boards.proofs.Basics.{decide, clash, and_true, true_and, and_false, All, none, also, all_map}
use Rattle.protocol.proofs.Memory.{after_append}
use Rattle.boards.proofs.Groups.{Backward, Bounded, bounded_more, link_bounded, has_zero}
use Rattle.volatile.proofs.Records.{depends_depend, depends_clear}
use Rattle.protocol.proofs.Marks.{mark, marks, live, saved, marks_settled, writer_settled, undoes}
use Rattle.protocol.proofs.Marks.{rollback_same, rollback_saved}
use Rattle.protocol.proofs.Accesses.{bind_bounded}
use Rattle.protocol.proofs.Consistent.{AccessOk, writer_below, read_covers, noted_read, noted_write}
use Rattle.protocol.proofs.Consistent.{cleared_rollback}
use Rattle.protocol.proofs.Copies.{copied, placing_other, placing_outside, placing_whole}
use Rattle.protocol.proofs.Safety.{block_below, write_tagged}
use Rattle.protocol.proofs.Agreement.{On, agrees_clear, tag_noted, untag_in, untag_out, rollback_in}

-- ---- the record's dependences

-- linking in the record is linking of its dependences
module _ {i : ℕ} (small : i < 16) where
  depends_tie : (how : Binding) (r : Record) (j : ℕ) → j < 16 → Bounded 16 (depends r)
      → depends (bind_boards depend how r i j) ≡ bind_boards link how (depends r) i j
  unfolding bind_boards
  depends_tie OneWay r j l b = depends_depend r b small l
  depends_tie TwoWay r j l b =
      let one = depends_depend r b small l in
      depends_depend (depend r i j) (subst (λ d. Bounded 16 d) (sym one) (link_bounded b small l)) l small
      ∙ ap (λ d. link d j i) one
  depends_tie Opposite r j l b = depends_depend r b l small

  depends_bind : (how : Binding) (r : Record) (t : ℕ) → t ≤ 16 → Bounded 16 (depends r)
      → depends (bind_tag depend how r i t) ≡ bind_tag link how (depends r) i t
  unfolding bind_tag
  depends_bind how r zero l b = refl
  depends_bind how r (suc j) l b =
      ⊎_elim (λ (e : eqb i j ≡ true). rw e) (λ (e : eqb i j ≡ false). rw e (depends_tie how r j l b))
      (decide (eqb i j))

  pub depends_binds : (how : ℕ → Binding) (tag : ℕ → ℕ) (r : Record) (bs : List ℕ) → ((b : ℕ) → tag b ≤ 16)
      → Bounded 16 (depends r)
      → depends (bind_blocks depend how tag r i bs) ≡ bind_blocks link how tag (depends r) i bs
  unfolding bind_blocks
  depends_binds how tag r [] l b = refl
  depends_binds how tag r (c ∷ bs) l b =
      let one = depends_bind (how c) r (tag c) (l c) b in
      let few = subst (λ d. Bounded 16 d) (sym one) (bind_bounded small (how c) (depends r) (tag c) (l c) b) in
      depends_binds how tag (bind_tag depend (how c) r i (tag c)) bs l few
      ∙ ap (λ d. bind_blocks link how tag d i bs) one

-- it leaves the open commit alone
commit_tie : (how : Binding) (r : Record) (i j : ℕ) → (bind_boards depend how r i j).commit ≡ r.commit
unfolding bind_boards depend
commit_tie OneWay r i j = refl
commit_tie TwoWay r i j = refl
commit_tie Opposite r i j = refl

commit_bind : (how : Binding) (r : Record) (i t : ℕ) → (bind_tag depend how r i t).commit ≡ r.commit
unfolding bind_tag
commit_bind how r i zero = refl
commit_bind how r i (suc j) =
    ⊎_elim (λ (e : eqb i j ≡ true). rw e) (λ (e : eqb i j ≡ false). rw e (commit_tie how r i j)) (decide (eqb i j))

pub commit_binds : (how : ℕ → Binding) (tag : ℕ → ℕ) (r : Record) (i : ℕ) (bs : List ℕ)
    → (bind_blocks depend how tag r i bs).commit ≡ r.commit
unfolding bind_blocks
commit_binds how tag r i [] = refl
commit_binds how tag r i (b ∷ bs) =
    commit_binds how tag (bind_tag depend (how b) r i (tag b)) i bs ∙ commit_bind (how b) r i (tag b)

-- blocks with the same tags are bound alike
binds_same : (how : ℕ → Binding) (tag tag' : ℕ → ℕ) (r : Record) (i : ℕ) (bs : List ℕ) → All (λ b. tag b ≡ tag' b) bs
    → bind_blocks depend how tag r i bs ≡ bind_blocks depend how tag' r i bs
unfolding bind_blocks
binds_same how tag tag' r i [] none = refl
binds_same how tag tag' r i (b ∷ bs) (also e es) =
    ap (λ t. bind_blocks depend how tag (bind_tag depend (how b) r i t) i bs) e
    ∙ binds_same how tag tag' (bind_tag depend (how b) r i (tag' b)) i bs es

-- ---- accesses

-- the tags of blocks are the last writers that the ledger notes
pub tags_written : {s : Shape} {m : Memory} {r : Record} {l : Ledger} → On s m r l → {bs : List ℕ}
    → All (λ b. b < s.blocks) bs → All (λ b. m Tags b ≡ writer s l.notes b) bs
tags_written h = all_map (λ b k. h.tags b k)

module _ {s : Shape} {m : Memory} {r : Record} {l : Ledger} (h : On s m r l) (most : s.boards ≤ 16) where
  pub depends_bounded : Bounded 16 (depends r)
  depends_bounded = subst (λ d. Bounded 16 d) (sym h.links) (bounded_more h.consistent.bounded most)

  small_tag : (b : ℕ) → writer s l.notes b ≤ 16
  small_tag b = let k = writer_below s l.notes h.consistent.boards b in omega arith

  access_links : (how : ℕ → Binding) (i a n : ℕ) → i < s.boards → All (λ b. b < s.blocks) (touched s a n)
      → depends (bind_blocks depend how (m Tags) r i (touched s a n))
      ≡ bind_blocks link how (writer s l.notes) l.links i (touched s a n)
  access_links how i a n small below =
      let noted_tags = writer s l.notes in
      ap depends (binds_same how (m Tags) noted_tags r i (touched s a n) (tags_written h below))
      ∙ depends_binds {i = i} (omega arith) how noted_tags r (touched s a n) small_tag depends_bounded
      ∙ ap (λ d. bind_blocks link how noted_tags d i (touched s a n)) h.links

  -- a read
  pub read_done : {i a n : ℕ} → AccessOk s read_binding i a n l → All (λ b. b < s.blocks) (touched s a n)
      → On s m (bind_blocks depend read_binding (m Tags) r i (touched s a n))
      (noted s read_binding i a n (ReadFrom (span (source l.notes) a n)) l)
  unfolding noted writer wrote_in written marks
  read_done {i} {a} {n} ok below =
      let os = span (source l.notes) a n in
      let same = commit_binds read_binding (m Tags) r i (touched s a n) in
      record {
        consistent = noted_read h.consistent ok;
        links = access_links read_binding i a n ok.board below;
        undecided = h.undecided;
        tags = h.tags;
        current = λ c k. rw (read_covers i a c pending os) (h.current c k);
        recovery = λ c k. rw (read_covers i a c pending os) (h.recovery c k);
        contexts = h.contexts;
        lengths = h.lengths;
        commit = rw same h.commit;
        given = λ j x k d e. h.given j x k d (rw same at e);
      }

  -- a write: the touched blocks are tagged, the covered cells hold the bytes
  module _ {i a : ℕ} (bytes : List ℕ) (ok : AccessOk s (write_binding s a (length bytes)) i a (length bytes) l)
      (below : All (λ b. b < s.blocks) (touched s a (length bytes))) where
    abbrev bs : List ℕ
    bs = touched s a (length bytes)

    abbrev tagged_memory : Memory
    tagged_memory = after (tagging m i bs) m

    abbrev written_memory : Memory
    written_memory = after (tagging m i bs ++ placing Current a bytes) m

    new : Note
    new = record { board = i; cell = a; access = Wrote bytes; fate = pending }

    split : written_memory ≡ after (placing Current a bytes) tagged_memory
    split = after_append (tagging m i bs) (placing Current a bytes) m

    -- areas other than the current bank
    beyond_cells : (b : Area) (j : ℕ) → rank Current ≢ rank b → written_memory b j ≡ tagged_memory b j
    beyond_cells b j e =
        ap (λ n. n b j) split
        ∙ subst (λ ps. after ps tagged_memory b j ≡ tagged_memory b j)
        (take_all (length (placing Current a bytes)) (placing Current a bytes) (omega arith))
        (placing_other Current a bytes tagged_memory (length (placing Current a bytes)) b j e)

    beyond_tags : (b : Area) (j : ℕ) → rank Current ≢ rank b → rank b ≢ rank Tags → written_memory b j ≡ m b j
    beyond_tags b j e f = beyond_cells b j e ∙ (write_tagged s m i a (length bytes)).other b j f

    write_tags : (b : ℕ) → b < s.blocks → written_memory Tags b ≡ writer s (new ∷ l.notes) b
    unfolding writer wrote_in written new is_pending rank
    write_tags b k =
        let t = write_tagged s m i a (length bytes) in
        let n = lt-ltb 0 (length bytes) ok.some in
        beyond_cells Tags b (omega arith)
        ∙ ⊎_elim
        (λ (e : any_of (eqb b) bs ≡ true). t.hit b e ∙ rw (n, e))
        (λ (e : any_of (eqb b) bs ≡ false). t.miss b e ∙ h.tags b k ∙ rw (and_false (ltb 0 (length bytes)) e))
        (decide (any_of (eqb b) bs))

    write_cell : (c : ℕ) → c < cells s → written_memory Current c ≡ live (marks (new ∷ l.notes) c)
    unfolding marks mark live new covers written rank
    write_cell c k =
        ap (λ n. n Current c) split
        ∙ ⊎_elim
        (λ (e : leb a c && ltb c (a + length bytes) ≡ true).
        let both = and_true (leb a c) (ltb c (a + length bytes)) e in
        let lo = leb-true a c both.0 in
        let hi = ltb-true c (a + length bytes) both.1 in
        let at : a + (c - a) ≡ c = omega arith in
        subst (λ x. after (placing Current a bytes) tagged_memory Current x ≡ get_or bytes (c - a) 0) at
        (placing_whole Current a bytes tagged_memory (c - a) (omega arith))
        ∙ rw e)
        (λ (e : leb a c && ltb c (a + length bytes) ≡ false).
        subst (λ ps. after ps tagged_memory Current c ≡ tagged_memory Current c)
        (take_all (length (placing Current a bytes)) (placing Current a bytes) (omega arith))
        (placing_outside Current a bytes tagged_memory (length (placing Current a bytes)) c (λ lo. outside c lo e))
        ∙ (write_tagged s m i a (length bytes)).other Current c (omega arith)
        ∙ h.current c k
        ∙ rw e)
        (decide (leb a c && ltb c (a + length bytes)))
      where
        outside : (c : ℕ) → a ≤ c → leb a c && ltb c (a + length bytes) ≡ false → a + length bytes ≤ c
        outside c lo e =
            ⊎_elim
            (λ (f : ltb c (a + length bytes) ≡ true). clash (true_and (le-leb a c lo) f) e)
            (λ (f : ltb c (a + length bytes) ≡ false). ltb-false c (a + length bytes) f)
            (decide (ltb c (a + length bytes)))

    -- a pending write keeps nothing yet
    write_kept : (c : ℕ) → saved (marks (new ∷ l.notes) c) ≡ saved (marks l.notes c)
    unfolding marks mark saved new
    write_kept c =
        ⊎_elim (λ (e : covers new c ≡ true). rw e) (λ (e : covers new c ≡ false). rw e) (decide (covers new c))

    abbrev how : ℕ → Binding
    how = write_binding s a (length bytes)

    pub write_done : On s written_memory (bind_blocks depend how (m Tags) r i bs)
        (noted s how i a (length bytes) (Wrote bytes) l)
    unfolding noted rank new
    write_done =
        let same = commit_binds how (m Tags) r i bs in
        record {
          consistent = noted_write h.consistent bytes ok;
          links = access_links how i a (length bytes) ok.board below;
          undecided = beyond_tags Decision 0 (omega arith) (omega arith) ∙ h.undecided;
          tags = write_tags;
          current = write_cell;
          recovery = λ c k. beyond_tags Recovery c (omega arith) (omega arith) ∙ h.recovery c k ∙ sym (write_kept c);
          contexts = λ j x k d. beyond_tags Checkpoint (j * s.context + x) (omega arith) (omega arith)
              ∙ h.contexts j x k d;
          lengths = h.lengths;
          commit = rw same h.commit;
          given = λ j x k d e. beyond_tags Tentative (j * s.context + x) (omega arith) (omega arith) ∙ h.given j x k d
              (rw same at e);
        }

  -- ---- a fault

  module _ (positive : 0 < s.size) (g : ℕ) (back : Backward (has g) l.links) where
    abbrev restored : Memory
    restored = after (blocks_copied s m Recovery Current (tagged_in g)) m

    cleared_given : (j : ℕ) → has (clear r g).commit.acknowledged j ≡ true → has r.commit.acknowledged j ≡ true
    unfolding clear left_open closed
    cleared_given j e =
        ⊎_elim
        (λ (t : meets r.commit.members (has g) ≡ true). clash (rw t at e) (has_zero j))
        (λ (t : meets r.commit.members (has g) ≡ false). rw t at e)
        (decide (meets r.commit.members (has g)))

    pub fault_done : On s restored (clear r g) (cleared (has g) undone l)
    unfolding cleared rank
    fault_done =
        let c = copied s Recovery Current (tagged_in g) (omega arith) positive m in
        record {
          consistent = cleared_rollback h.consistent (has g) back;
          links = depends_clear r depends_bounded g ∙ ap (unlink (has g)) h.links;
          undecided = c.some.other Decision (omega arith) (omega arith) 0 ∙ h.undecided;
          tags =
              λ b k.
              rw (writer_settled s (has g) undoes l.notes b)
              (⊎_elim
              (λ (e : tagged_in g (m Tags b) ≡ true).
              c.tag_zero b k e ∙ sym (untag_in (has g) (writer s l.notes b) (tag_noted h g b k e)))
              (λ (e : tagged_in g (m Tags b) ≡ false).
              c.some.tag_left b e ∙ h.tags b k
              ∙ sym (untag_out (has g) (writer s l.notes b) (tag_noted h g b k e)))
              (decide (tagged_in g (m Tags b))));
          current =
              λ a k.
              let b = a / s.size in
              let b< = block_below s a positive k in
              let order = h.consistent.order a in
              rw (marks_settled (has g) undone l.notes a)
              (⊎_elim
              (λ (e : tagged_in g (m Tags b) ≡ true).
              c.cell_copied a b< e ∙ h.recovery a k ∙ sym
              (rollback_in (writer s l.notes b) back order (tag_noted h g b b< e)))
              (λ (e : tagged_in g (m Tags b) ≡ false).
              c.some.cell_left a e ∙ h.current a k ∙ sym (rollback_same back (tag_noted h g b b< e) order.top))
              (decide (tagged_in g (m Tags b))));
          recovery =
              λ a k.
              rw (marks_settled (has g) undone l.notes a)
              (c.some.other Recovery (omega arith) (omega arith) a ∙ h.recovery a k ∙ sym
              (rollback_saved (has g) (marks l.notes a)));
          contexts = λ i x k d. c.some.other Checkpoint (omega arith) (omega arith) (i * s.context + x)
              ∙ h.contexts i x k d;
          lengths = h.lengths;
          commit = agrees_clear r g h.commit;
          given = λ i x k d e. c.some.other Tentative (omega arith) (omega arith) (i * s.context + x)
              ∙ h.given i x k d (cleared_given i e);
        }
