-- The invariant of the ledger, kept by every step: the order of writes and links in each cell, reads, open commits.
use Prim.Native.Nat.{ℕ, ◌+◌, ◌*◌, ◌/◌, ◌≤◌, ◌<◌}
use native.Mathlib.Nat.{div-mul-le_self, lt-div-mul-add}
use mathlib.Core.Path.{◌≡◌, refl, sym, ◌∙◌, ap, subst}
use mathlib.Core.Bool.{Bool, true, false, ◌&&◌, not}
use mathlib.Core.List.{List, [], ◌∷◌, map}
use mathlib.Core.Option.{Option, none, some}
use mathlib.Core.Logic.{⊎_elim}
use lib.Dec.{eqb, ltb, leb}
use lib.ListN.{length}
use native.Mathlib.Omega.{arith}
use borrow.Author.Tests.{leb-true, ltb-true, lt-ltb, le-leb}
use Rattle.boards.specs.Lists.{span, any_of, select}
use Rattle.boards.specs.Boards.{has, meets, Links, unlinked, link, unlink, Chain, here}
use Rattle.protocol.specs.Accesses.{touched, whole, read_binding, write_binding, bind_blocks}
use Rattle.protocol.specs.declared.Binding.{Binding}
use Rattle.protocol.specs.Ledger.{Access, Fate, pending, kept, undone, Wrote, ReadFrom, Note, OpenCommit}
use Rattle.protocol.specs.Ledger.{Ledger, blank}
use Rattle.protocol.specs.Ledger.{is_pending, covers, written, sources_of, wrote_in, writer, source, settled}
use Rattle.protocol.specs.Ledger.{cleared, all_undone, noted, started, acknowledged_by, with_context, decided}
use Rattle.protocol.specs.Ledger.{reads_undone}
use Rattle.protocol.specs.Dependences.{width, is_write, wrote_all, came_upon, depends_by_notes}
use Rattle.protocol.specs.declared.Shape.{Shape}
use Rattle.boards.proofs.Basics.{decide, clash, refute, and_true, true_and, and_false, All, none, also, all_map}
use Rattle.boards.proofs.Basics.{all_mapped, any_of_false, length_span, all_span, every_at, false_not}
use Rattle.boards.proofs.Groups.{Forward, Backward, Bounded, bounded_more, unlink_true, unlink_bounded}
use Rattle.boards.proofs.Groups.{links_ext, unlinked_bounded, commit_group_forward}
use Rattle.protocol.proofs.Marks.{settle, untag, Ends, mark, marks, To, to, From, from, Above, Top, KeptOrder}
use Rattle.protocol.proofs.Marks.{above_map, top_map, commit_order, rollback_order, marks_settled}
use Rattle.protocol.proofs.Marks.{writer_settled, keeps, undoes, At, Sourced, on_kept, on_pending, sourced}
use Rattle.protocol.proofs.Soundness.{Good, Backed, by_none, by_kept, by_pending, backed, good_more, good_commit}
use Rattle.protocol.proofs.Soundness.{good_rollback, untainted}
use Rattle.protocol.proofs.Accesses.{cell_touched, all_found, binds_wider, binds_from, binds_to, binds_bounded}
use Rattle.protocol.proofs.Accesses.{goes_forth, goes_back, whole_bounds, write_forth, write_back}
use Rattle.protocol.proofs.Dependences.{Narrow, parts_bind, writes_bind, whole_cells, depends_settled}
use Rattle.protocol.proofs.Dependences.{depends_noted}
use Rattle.protocol.proofs.Accesses.{binds_forward, Outside, from_more, to_more}

pub record Consistent (s : Shape) (l : Ledger) : Type 0 where
  pub bounded : Bounded s.boards l.links
  pub boards : All (λ n. n.board < s.boards) l.notes
  pub order : (a : ℕ) → KeptOrder l.links (writer s l.notes (a / s.size)) (marks l.notes a)
  pub reads : All (Good l.links l.notes) l.notes
  pub closed : All (λ c. Forward (has c.members) l.links) l.commits
  -- every note has at most S cells, and the links are those told from the notes
  pub narrow : Narrow s l.notes
  pub told : (i j : ℕ) → l.links i j ≡ depends_by_notes s l.notes i j

-- ---- lists of notes and commits

all_kept : {P : OpenCommit → Type 0} (t : OpenCommit → Bool) (cs : List OpenCommit) → All P cs → All P (select t cs)
unfolding select
all_kept t [] none = none
all_kept t (c ∷ cs) (also h hs) =
    let rest = all_kept t cs hs in
    ⊎_elim (λ (e : t c ≡ true). rw e (also h rest)) (λ (e : t c ≡ false). rw e rest) (decide (t c))

forward_less : {p : ℕ → Bool} (q : ℕ → Bool) {d : Links} → Forward p d → Forward p (unlink q d)
forward_less q {d} f = record { onto = λ a b h e. f.onto a b h (unlink_true q d a b e).2 }

-- ---- clearing boards

module _ {s : Shape} {l : Ledger} (c : Consistent s l) (p : ℕ → Bool) where
  cleared_commits : All (λ k. Forward (has k.members) (unlink p l.links))
      (select (λ k. not (meets k.members p)) l.commits)
  cleared_commits = all_kept (λ k. not (meets k.members p)) l.commits
      (all_map (λ k f. forward_less p f) c.closed)

  -- by a commit or a rollback, which keep each cell in order and each read backed
  cleared_by : {f : Fate} → Ends f
      → ((a : ℕ) → KeptOrder (unlink p l.links) (untag p (writer s l.notes (a / s.size)))
      (map (settle p f) (marks l.notes a)))
      → ((n : Note) → Good l.links l.notes n → Good (unlink p l.links) (map (settled p f) l.notes)
      (settled p f n))
      → Consistent s (cleared p f l)
  unfolding cleared settled
  cleared_by {f} e order good =
      record {
        bounded = unlink_bounded c.bounded p;
        boards = all_mapped (settled p f) (λ n h. h) c.boards;
        order = λ a. rw (writer_settled s p e l.notes (a / s.size), marks_settled p f l.notes a) (order a);
        reads = all_mapped (settled p f) good c.reads;
        closed = cleared_commits;
        narrow = all_mapped (settled p f) (λ n h. h) c.narrow;
        told = λ i j. ap (λ d. unlink p d i j) (links_ext c.told) ∙ sym (depends_settled s p e l.notes i j);
      }

  pub cleared_commit : Forward p l.links → Consistent s (cleared p kept l)
  cleared_commit f = cleared_by keeps (λ a. commit_order (writer s l.notes (a / s.size)) f (c.order a))
      (λ n h. good_commit p f h)

  pub cleared_rollback : Backward p l.links → Consistent s (cleared p undone l)
  cleared_rollback f = cleared_by undoes (λ a. rollback_order (writer s l.notes (a / s.size)) f (c.order a))
      (λ n h. good_rollback p f h)

-- everybody rolled back
pub undone_all : {s : Shape} {l : Ledger} → Consistent s l → Consistent s (all_undone l)
unfolding all_undone
undone_all c = cleared_rollback c (λ i. true) (record { onto = λ a b h e. refl })

-- ---- accesses

pub writer_below : (s : Shape) (ns : List Note) → All (λ n. n.board < s.boards) ns → (b : ℕ)
    → writer s ns b ≤ s.boards
unfolding writer
writer_below s [] none b = omega arith
writer_below s (n ∷ ns) (also h hs) b =
    let rest = writer_below s ns hs b in
    ⊎_elim
    (λ (e : wrote_in s b n ≡ true).
    rw e
    (⊎_elim
    (λ (f : is_pending n.fate ≡ true). rw f h)
    (λ (f : is_pending n.fate ≡ false). rw f (omega arith))
    (decide (is_pending n.fate))))
    (λ (e : wrote_in s b n ≡ false). rw e rest)
    (decide (wrote_in s b n))

-- what is known of an access of board i to n cells from a on that is not refused
pub record AccessOk (s : Shape) (how : ℕ → Binding) (i a n : ℕ) (l : Ledger) : Type 0 where
  pub positive : 0 < s.size
  pub board : i < s.boards
  pub some : 0 < n
  pub few : n ≤ s.size
  -- the board is in no open commit, nor is the writer of a block that it writes to
  pub outside : All (λ c. (has c.members i ≡ false)
      × All (λ b. Outside (has c.members) (how b) (writer s l.notes b)) (touched s a n)) l.commits

all_zip : {X : Type 0} {P Q R : X → Type 0} {xs : List X} → ((x : X) → P x → Q x → R x) → All P xs → All Q xs
    → All R xs
all_zip f none none = none
all_zip f (also p ps) (also q qs) = also (f _ p q) (all_zip f ps qs)

-- a read covers no cell and writes in no block
pub read_covers : (i a x : ℕ) (f : Fate) (os : List (Option ℕ)) → covers
    (record { board = i; cell = a; access = ReadFrom os; fate = f }) x ≡ false
unfolding covers written
read_covers i a x f os =
    refute (leb a x && ltb x (a + 0)) (λ e.
    let both = and_true (leb a x) (ltb x (a + 0)) e in
    let lo = leb-true a x both.0 in
    let hi = ltb-true x (a + 0) both.1 in
    omega arith)

-- so it is no write of a whole block
read_leaves : (s : Shape) (b i a : ℕ) (f : Fate) (os : List (Option ℕ)) → 0 < s.size
    → wrote_all s (record { board = i; cell = a; access = ReadFrom os; fate = f }) b ≡ false
unfolding wrote_all
read_leaves s b i a f os positive =
    refute _ (λ e. clash (every_at s.size _ e 0 positive) (read_covers i a (b * s.size + 0) f os))

module _ {s : Shape} {l : Ledger} (c : Consistent s l) {how : ℕ → Binding} {i a n : ℕ} (ok : AccessOk s how i a n l)
  where
    linked : Links
    linked = bind_blocks link how (writer s l.notes) l.links i (touched s a n)

    wider : (x y : ℕ) → l.links x y ≡ true → linked x y ≡ true
    unfolding linked
    wider = binds_wider how (writer s l.notes) l.links i (touched s a n)

    linked_bounded : Bounded s.boards linked
    unfolding linked
    linked_bounded =
        binds_bounded ok.board how (writer s l.notes) l.links (touched s a n)
        (writer_below s l.notes c.boards) c.bounded

    linked_closed : All (λ k. Forward (has k.members) linked) l.commits
    unfolding linked
    linked_closed =
        all_zip (λ k out f. binds_forward i (touched s a n) out.0 out.1 f) ok.outside c.closed

    older_reads : (x : Note) → All (Good linked (x ∷ l.notes)) l.notes
    older_reads x = all_map (λ n h. good_more wider h) c.reads

    order_wider : (x : ℕ) → KeptOrder linked (writer s l.notes (x / s.size)) (marks l.notes x)
    order_wider x =
        let o = c.order x in
        record {
          above = above_map (λ m h. to_more wider h) o.above;
          top = top_map (λ m h. from_more wider h) o.top;
        }

    -- the links made are those told from the notes, the new one among them
    module _ (access : Access) (wide : width access ≡ n) where
      abbrev new_note : Note
      new_note = record { board = i; cell = a; access = access; fate = pending }

      linked_told : ((b : ℕ) → goes_forth (how b) ≡ parts_bind s new_note b)
          → ((b : ℕ) → goes_back (how b) ≡ writes_bind new_note b) → (x y : ℕ)
          → linked x y ≡ depends_by_notes s (new_note ∷ l.notes) x y
      unfolding linked is_pending
      linked_told to_writer to_board x y =
          let some = ok.some in
          let few = ok.few in
          let tags = writer s l.notes in
          ap (λ d. bind_blocks link how tags d i (touched s a n) x y) (links_ext c.told)
          ∙ subst
          (λ w. bind_blocks link how tags (depends_by_notes s l.notes) i (touched s a w) x y
          ≡ depends_by_notes s (new_note ∷ l.notes) x y)
          wide
          (depends_noted s ok.positive l.notes c.narrow new_note refl (omega arith) (omega arith) how
          to_writer to_board x y)

    -- a cell of a touched block: what is known of its tag
    tag_from : (x : ℕ) → any_of (eqb (x / s.size)) (touched s a n) ≡ true → goes_forth (how (x / s.size)) ≡ true
        → (m : ℕ) → From l.links m (writer s l.notes (x / s.size)) → Chain linked i m
    unfolding linked
    tag_from x h =
        all_found (x / s.size) (touched s a n)
        (binds_from how (writer s l.notes) l.links i (touched s a n)) h

    -- a read's note
    source_backed : (os : List (Option ℕ)) (x : ℕ) → any_of (eqb (x / s.size)) (touched s a n) ≡ true
        → goes_forth (how (x / s.size)) ≡ true
        → Backed linked (record { board = i; cell = a; access = ReadFrom os; fate = pending } ∷ l.notes)
        (record { board = i; cell = a; access = ReadFrom os; fate = pending }) (source l.notes x)
    source_backed os x h d = go (source l.notes x) refl
      where
        new : Note
        new = record { board = i; cell = a; access = ReadFrom os; fate = pending }

        by : {k : ℕ} → Sourced l.links (writer s l.notes (x / s.size)) l.notes k
            → Backed linked (new ∷ l.notes) new (some k)
        by (on_kept w e) = by_kept (At.older w) e
        by (on_pending w e f) = by_pending (At.older w) e refl (tag_from x h d _ f)

        go : (o : Option ℕ) → source l.notes x ≡ o → Backed linked (new ∷ l.notes) new o
        go none e = by_none
        go (some k) e = by (sourced l.links (writer s l.notes (x / s.size)) l.notes x k (c.order x).top e)

module _ {s : Shape} {l : Ledger} (c : Consistent s l) {i a n : ℕ} (ok : AccessOk s read_binding i a n l) where
  pub noted_read : Consistent s (noted s read_binding i a n (ReadFrom (span (source l.notes) a n)) l)
  unfolding noted linked writer wrote_in written marks sources_of width read_binding goes_forth goes_back is_write
  noted_read =
      let os = span (source l.notes) a n in
      let new : Note = record { board = i; cell = a; access = ReadFrom os; fate = pending } in
      let wide : length os ≡ n = length_span (source l.notes) a n in
      record {
        bounded = linked_bounded c ok;
        boards = also ok.board c.boards;
        order = λ x. rw (read_covers i a x pending os) (order_wider c ok x);
        reads =
            also
            (backed (all_span (source l.notes) a n (λ x lo hi.
            source_backed c ok os x (cell_touched s a n x ok.positive ok.few lo hi) refl)))
            (older_reads c ok new);
        closed = linked_closed c ok;
        narrow = also {x = new} (let few = ok.few in omega (arith, wide)) c.narrow;
        told =
            linked_told c ok (ReadFrom os) wide
            (λ b. sym (ap not (read_leaves s b i a pending os ok.positive))) (λ b. refl);
      }

module _ {s : Shape} {l : Ledger} (c : Consistent s l) {i a : ℕ} (bytes : List ℕ)
    (ok : AccessOk s (write_binding s a (length bytes)) i a (length bytes) l) where
  new_write : Note
  new_write = record { board = i; cell = a; access = Wrote bytes; fate = pending }

  write_touches : (x : ℕ) → any_of (eqb (x / s.size)) (touched s a (length bytes)) ≡ true
      → wrote_in s (x / s.size) new_write ≡ true
  unfolding wrote_in written new_write
  write_touches x h = true_and (lt-ltb 0 (length bytes) ok.some) h

  untouched : (x : ℕ) → any_of (eqb (x / s.size)) (touched s a (length bytes)) ≡ false
      → (wrote_in s (x / s.size) new_write ≡ false) × (covers new_write x ≡ false)
  unfolding wrote_in written new_write covers
  untouched x h = (
    and_false (ltb 0 (length bytes)) h,
    refute (leb a x && ltb x (a + length bytes)) (λ e.
        let both = and_true (leb a x) (ltb x (a + length bytes)) e in
        clash
        (cell_touched s a (length bytes) x ok.positive ok.few (leb-true a x both.0)
        (ltb-true x (a + length bytes) both.1))
        h),
  )

  tag_to : (x : ℕ) → any_of (eqb (x / s.size)) (touched s a (length bytes)) ≡ true → (m : ℕ)
      → To l.links m (writer s l.notes (x / s.size)) → Chain (linked c ok) m i
  unfolding linked
  tag_to x h =
      all_found (x / s.size) (touched s a (length bytes))
      (binds_to (write_binding s a (length bytes)) (writer s l.notes) l.links i
      (touched s a (length bytes))) h (write_back s a (length bytes) (x / s.size))

  -- a cell of a touched block, covered or not
  covered : (x : ℕ) → any_of (eqb (x / s.size)) (touched s a (length bytes)) ≡ true → covers new_write x ≡ true
      → KeptOrder (linked c ok) (writer s (new_write ∷ l.notes) (x / s.size)) (marks (new_write ∷ l.notes) x)
  unfolding writer marks mark is_pending new_write
  covered x h e =
      rw (write_touches x h, e)
      (record {
        above = Above.past_waits (to here) (above_map (λ m r. to (tag_to x h m r)) (c.order x).above);
        top = Top.at_waits (from here);
      })

  -- a cell that is not covered lies in no block overwritten whole
  leaves : (x : ℕ) → covers new_write x ≡ false → goes_forth (write_binding s a (length bytes) (x / s.size)) ≡ true
  unfolding covers new_write written
  leaves x e =
      write_forth s a (length bytes) (x / s.size)
      ∙ false_not (refute (whole s a (length bytes) (x / s.size)) (λ h.
      let both = whole_bounds s a (length bytes) (x / s.size) h in
      let low = div-mul-le_self x s.size in
      let high = lt-div-mul-add {a = x} {b = s.size} ok.positive in
      clash (true_and (le-leb a x (omega (arith, both))) (lt-ltb x (a + length bytes) (omega (arith, both)))) e))

  beside : (x : ℕ) → any_of (eqb (x / s.size)) (touched s a (length bytes)) ≡ true → covers new_write x ≡ false
      → KeptOrder (linked c ok) (writer s (new_write ∷ l.notes) (x / s.size)) (marks (new_write ∷ l.notes) x)
  unfolding writer marks mark is_pending new_write
  beside x h e =
      rw (write_touches x h, e)
      (record {
        above = above_map (λ m r. to (tag_to x h m r)) (c.order x).above;
        top = top_map (λ m r. from (tag_from c ok x h (leaves x e) m r)) (c.order x).top;
      })

  elsewhere : (x : ℕ) → any_of (eqb (x / s.size)) (touched s a (length bytes)) ≡ false
      → KeptOrder (linked c ok) (writer s (new_write ∷ l.notes) (x / s.size)) (marks (new_write ∷ l.notes) x)
  unfolding writer marks new_write
  elsewhere x h = let u = untouched x h in rw (u.0, u.1) (order_wider c ok x)

  write_order : (x : ℕ)
      → KeptOrder (linked c ok) (writer s (new_write ∷ l.notes) (x / s.size)) (marks (new_write ∷ l.notes) x)
  write_order x =
      ⊎_elim
      (λ (h : any_of (eqb (x / s.size)) (touched s a (length bytes)) ≡ true).
      ⊎_elim (covered x h) (beside x h) (decide (covers new_write x)))
      (elsewhere x)
      (decide (any_of (eqb (x / s.size)) (touched s a (length bytes))))

  pub noted_write : Consistent s (noted s (write_binding s a (length bytes)) i a (length bytes) (Wrote bytes) l)
  unfolding noted new_write linked sources_of width is_write written
  noted_write =
      let n = length bytes in
      record {
        bounded = linked_bounded c ok;
        boards = also ok.board c.boards;
        order = write_order;
        reads = also (backed none) (older_reads c ok new_write);
        closed = linked_closed c ok;
        narrow = also ok.few c.narrow;
        told =
            linked_told c ok (Wrote bytes) refl
            (λ b. write_forth s a n b ∙ ap not (whole_cells s new_write b ok.positive)) (write_back s a n);
      }

-- ---- commits

pub started_ok : {s : Shape} {l : Ledger} → s.boards ≤ 16 → Consistent s l → (i : ℕ) → Consistent s (started i l)
unfolding started
started_ok h c i =
    record {
      bounded = c.bounded;
      boards = c.boards;
      order = c.order;
      reads = c.reads;
      closed = also (commit_group_forward (bounded_more c.bounded h) i) c.closed;
      narrow = c.narrow;
      told = c.told;
    }

pub handed_ok : {s : Shape} {l : Ledger} → Consistent s l → (i : ℕ) (context : List ℕ)
    → Consistent s (with_context i context l)
unfolding with_context acknowledged_by
handed_ok {l = l} c i context =
    record {
      bounded = c.bounded;
      boards = c.boards;
      order = c.order;
      reads = c.reads;
      closed = all_mapped (acknowledged_by i) (λ k f. f) c.closed;
      narrow = c.narrow;
      told = c.told;
    }

pub decided_ok : {s : Shape} {l : Ledger} → Consistent s l → (g : ℕ) → Forward (has g) l.links
    → Consistent s (decided g l)
unfolding decided
decided_ok c g f =
    let k = cleared_commit c (has g) f in
    record {
      bounded = k.bounded;
      boards = k.boards;
      order = k.order;
      reads = k.reads;
      closed = k.closed;
      narrow = k.narrow;
      told = k.told;
    }

-- ---- the beginning, and what the claim says of the reads

pub blank_ok : (s : Shape) → Consistent s (blank s)
unfolding blank writer marks depends_by_notes came_upon unlinked
blank_ok s =
    record {
      bounded = unlinked_bounded s.boards;
      boards = none;
      order = λ a. record { above = Above.empty; top = Top.empty };
      reads = none;
      closed = none;
      narrow = none;
      told = λ i j. sym (and_false (not (eqb i j)) refl);
    }

pub clean_reads : {s : Shape} {l : Ledger} → Consistent s l → any_of (reads_undone l.notes) l.notes ≡ false
clean_reads {l = l} c = any_of_false (reads_undone l.notes) untainted c.reads
