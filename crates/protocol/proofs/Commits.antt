-- Starts and acknowledgements: the context given, the decision, the completion.
use Prim.Native.Nat.{ℕ, ◌+◌, ◌-◌, ◌*◌, ◌/◌, ◌≤◌, ◌<◌}
use mathlib.Core.Path.{◌≡◌, refl, sym, ◌∙◌, ap, subst}
use mathlib.Core.Bool.{true, false, cond}
use mathlib.Core.List.{List, [], ◌∷◌, map}
use mathlib.Core.Logic.{⊎_elim, ◌≢◌}
use lib.Dec.{eqb, ltb}
use lib.ListN.{length, get_or}
use lib.Seq.{take_all}
use native.Mathlib.Omega.{arith}
use borrow.Author.Tests.{eqb-true, eqb-false, ltb-true, ltb-false}
use Rattle.boards.specs.Boards.{has, with_board, meets, tagged_in, unlink, commit_group}
use Rattle.protocol.specs.Image.{Area, Decision, Tags, Current, Recovery, Tentative, Checkpoint, Memory, Put}
use Rattle.protocol.specs.Image.{rank, change, after, cells}
use Rattle.volatile.specs.Volatile.{closed, depends, left_open, clear, opened, acknowledge}
use Rattle.protocol.specs.Calls.{stored_group, placing, completing}
use Rattle.protocol.specs.Ledger.{kept, OpenCommit, Ledger, writer, cleared, started, acknowledged_by}
use Rattle.protocol.specs.Ledger.{with_context, decided}
use Rattle.protocol.specs.declared.Shape.{Shape}
use Rattle.volatile.specs.declared.Record.{Record}
use Rattle.volatile.specs.declared.Commit.{Commit}
use Rattle.boards.proofs.Basics.{decide, clash, or_true, All, also}
use Rattle.boards.proofs.Groups.{Forward, Bounded, has_zero, has_with, no_beyond, set_split, commit_group_self}
use Rattle.boards.proofs.Groups.{commit_group_small, commit_group_below}
use Rattle.volatile.proofs.Records.{depends_clear}
use Rattle.protocol.proofs.Marks.{marks, live, saved, settle, marks_settled, writer_settled, keeps}
use Rattle.protocol.proofs.Marks.{commit_saved, commit_reads}
use Rattle.protocol.proofs.Consistent.{started_ok, handed_ok, decided_ok}
use Rattle.protocol.proofs.Copies.{placing_other, placing_outside, placing_whole, flat_split}
use Rattle.protocol.proofs.Safety.{Deciding, completed, decision, block_below}
use Rattle.protocol.proofs.Agreement.{On, Agrees, nobody, somebody, SomeBoards, kept_cell, on_idle, meets_all}
use Rattle.protocol.proofs.Agreement.{agrees_clear, tag_noted, untag_in, untag_out, commit_in}
use Rattle.protocol.proofs.Steps.{depends_bounded}

-- ---- the commit that has a board as member

pub open_commit : {p : ℕ} {c : Commit} {cs : List OpenCommit} (i : ℕ) → Agrees p c cs → has c.members i ≡ true
    → (cs ≡ record { members = c.members; acknowledged = c.acknowledged } ∷ []) × SomeBoards p c.members
open_commit i (nobody e f) h = clash h (ap (λ g. has g i) e ∙ has_zero i)
open_commit i (somebody b) h = (refl, b)

none_open : {p : ℕ} {c : Commit} {cs : List OpenCommit} → Agrees p c cs → c.members ≡ 0 → cs ≡ []
none_open (nobody e f) z = refl
none_open (somebody b) z = absurd (b.some z)

-- a commit opened with nobody's acknowledgement
pub opened_on : {s : Shape} {m : Memory} {r : Record} {l : Ledger} → s.boards ≤ 16 → On s m r l
    → r.commit.members ≡ 0
    → (i : ℕ) → i < s.boards → On s m (opened r i (commit_group (depends r) i)) (started i l)
unfolding opened started depends
opened_on {s} {m} {r} {l} most h e i k =
    let self = commit_group_self (depends r) i (omega arith) in
    let begun : Commit = record { starter = i; members = commit_group (depends r) i; acknowledged = 0 } in
    let bounded = subst (λ d. Bounded s.boards d) (sym h.links) h.consistent.bounded in
    record {
      consistent = started_ok most h.consistent i;
      links = h.links;
      undecided = h.undecided;
      tags = h.tags;
      current = h.current;
      recovery = h.recovery;
      contexts = h.contexts;
      lengths = h.lengths;
      commit =
          subst (λ d. Agrees s.boards begun (record { members = commit_group d i; acknowledged = 0 } ∷ l.commits))
          h.links
          (subst (λ cs. Agrees s.boards begun
          (record { members = commit_group (depends r) i; acknowledged = 0 } ∷ cs))
          (sym (none_open h.commit e))
          (somebody
          (record {
            some = λ z. clash self (ap (λ g. has g i) z ∙ has_zero i);
            small = commit_group_small (depends r) i;
            below = commit_group_below bounded k;
          })));
      given = λ j x a b f. clash f (has_zero j);
    }

-- ---- a board's context given

module _ {s : Shape} {m : Memory} {r : Record} {l : Ledger} (h : On s m r l) (most : s.boards ≤ 16)
    (positive : 0 < s.size)
    {i : ℕ} (board : i < s.boards) (member : has r.commit.members i ≡ true)
    (context : List ℕ) (full : length context ≡ s.context)
  where
    abbrev g : ℕ
    g = r.commit.members

    abbrev acks : ℕ
    acks = with_board r.commit.acknowledged i

    abbrev given_memory : Memory
    given_memory = after (placing Tentative (i * s.context) context) m

    pub the_commit : (l.commits ≡ record { members = g; acknowledged = r.commit.acknowledged } ∷ []) × SomeBoards
        s.boards g
    the_commit = open_commit i h.commit member

    pub handed_commits : (with_context i context l).commits ≡ record { members = g; acknowledged = acks } ∷ []
    unfolding with_context acknowledged_by
    handed_commits = ap (map (acknowledged_by i)) the_commit.0 ∙ rw member

    -- only the board's tentative context changes
    other_area : (a : Area) (j : ℕ) → rank Tentative ≢ rank a → given_memory a j ≡ m a j
    other_area a j e =
        subst (λ ps. after ps m a j ≡ m a j) (take_all (length ps) ps (omega arith))
        (placing_other Tentative (i * s.context) context m (length ps) a j e)
      where
        ps : List Put
        ps = placing Tentative (i * s.context) context

    own_context : (x : ℕ) → x < s.context → given_memory Tentative (i * s.context + x) ≡ get_or context x 0
    own_context x k = placing_whole Tentative (i * s.context) context m x (omega arith)

    other_context : (j x : ℕ) → i ≢ j → x < s.context
        → given_memory Tentative (j * s.context + x) ≡ m Tentative (j * s.context + x)
    other_context j x e k =
        subst (λ ps. after ps m Tentative (j * s.context + x) ≡ m Tentative (j * s.context + x))
        (take_all (length ps) ps (omega arith))
        (placing_outside Tentative (i * s.context) context m (length ps) (j * s.context + x) outside)
      where
        ps : List Put
        ps = placing Tentative (i * s.context) context

        outside : i * s.context ≤ j * s.context + x → i * s.context + length context ≤ j * s.context + x
        outside lo =
            ⊎_elim
            (λ (t : ltb (j * s.context + x) (i * s.context + s.context) ≡ true).
            let hi = ltb-true (j * s.context + x) (i * s.context + s.context) t in
            let y = j * s.context + x - i * s.context in
            let same = flat_split s.context i j y x (omega arith) k (omega arith) in
            absurd (e same.0))
            (λ (t : ltb (j * s.context + x) (i * s.context + s.context) ≡ false).
            let hi = ltb-false (j * s.context + x) (i * s.context + s.context) t in
            omega arith)
            (decide (ltb (j * s.context + x) (i * s.context + s.context)))

    -- the given contexts of those who have acknowledged
    acknowledged_given : (j x : ℕ) → j < s.boards → x < s.context → has acks j ≡ true
        → given_memory Tentative (j * s.context + x) ≡ get_or ((with_context i context l).given j) x 0
    unfolding with_context
    acknowledged_given j x k d e =
        ⊎_elim
        (λ (t : eqb i j ≡ true).
        rw t (subst (λ n. given_memory Tentative (n * s.context + x) ≡ get_or context x 0) (eqb-true i j t)
        (own_context x d)))
        (λ (t : eqb i j ≡ false).
        rw t
        (other_context j x (eqb-false i j t) d
        ∙ h.given j x k d
        (⊎_elim (λ a. a) (λ b. clash b t) (or_true (has r.commit.acknowledged j) (eqb i j)
        (sym (has_with r.commit.acknowledged i j (omega arith)) ∙ e)))))
        (decide (eqb i j))

    pub given_on : On s given_memory (acknowledge r i) (with_context i context l)
    unfolding acknowledge with_context rank depends
    given_on =
        record {
          consistent = handed_ok h.consistent i context;
          links = h.links;
          undecided = other_area Decision 0 (omega arith) ∙ h.undecided;
          tags = λ b k. other_area Tags b (omega arith) ∙ h.tags b k;
          current = λ a k. other_area Current a (omega arith) ∙ h.current a k;
          recovery = λ a k. other_area Recovery a (omega arith) ∙ h.recovery a k;
          contexts = λ j x k d. other_area Checkpoint (j * s.context + x) (omega arith) ∙ h.contexts j x k d;
          lengths = λ j. (given_length j, (h.lengths j).1);
          commit = subst (λ cs. Agrees s.boards (acknowledge r i).commit cs) (sym handed_commits)
              (somebody the_commit.1);
          given = acknowledged_given;
        }
      where
        given_length : (j : ℕ) → length (cond (eqb i j) context (l.given j)) ≡ s.context
        given_length j =
            ⊎_elim (λ (t : eqb i j ≡ true). rw t full) (λ (t : eqb i j ≡ false). rw t (h.lengths j).0)
            (decide (eqb i j))

    -- ---- the decision, where all members have acknowledged

    module _ (all : acks ≡ g) where
      abbrev before : Ledger
      before = with_context i context l

      abbrev settled_ledger : Ledger
      settled_ledger = decided g before

      closed_group : Forward (has g) before.links
      unfolding with_context
      closed_group = head (subst (λ cs. All (λ c. Forward (has c.members) l.links) cs) the_commit.0
          h.consistent.closed)
        where
          head : {c : OpenCommit} {cs : List OpenCommit} → All (λ c. Forward (has c.members) l.links) (c ∷ cs)
              → Forward (has c.members) l.links
          head (also f fs) = f

      -- what is kept of a cell after the decision
      decided_marks : (a : ℕ) → marks settled_ledger.notes a ≡ map (settle (has g) kept) (marks before.notes a)
      unfolding decided cleared
      decided_marks a = marks_settled (has g) kept before.notes a

      kept_in : (a : ℕ) → a < cells s → tagged_in g (given_memory Tags (a / s.size)) ≡ true
          → kept_cell settled_ledger a ≡ live (marks before.notes a)
      kept_in a k e =
          let b< = block_below s a positive k in
          ap saved (decided_marks a)
          ∙ commit_in (writer s before.notes (a / s.size)) closed_group (given_on.consistent.order a)
          (tag_noted given_on g (a / s.size) b< e)

      kept_out : (a : ℕ) → a < cells s → tagged_in g (given_memory Tags (a / s.size)) ≡ false
          → kept_cell settled_ledger a ≡ kept_cell before a
      kept_out a k e =
          let b< = block_below s a positive k in
          ap saved (decided_marks a)
          ∙ commit_saved closed_group (tag_noted given_on g (a / s.size) b< e) (given_on.consistent.order a).above

      pub decision_safe : Deciding s (kept_cell settled_ledger) settled_ledger.kept g (decision s m i g context)
      unfolding decision change rank stored_group decided tagged_in acknowledge
      decision_safe =
          let on = given_on in
          let calm = on_idle positive on in
          record {
            decided = refl;
            group = set_split g;
            some = the_commit.1.some;
            below = no_beyond s.boards g (λ j l. the_commit.1.below j);
            tags = calm.tags;
            saving = λ a k e. on.current a k ∙ sym (kept_in a k e);
            recovery = λ a k e. on.recovery a k ∙ sym (kept_out a k e);
            current = λ a k z. calm.current a k z ∙ sym (kept_out a k (ap (tagged_in g) z));
            given = λ j x k d e. rw e (on.given j x k d (subst (λ n. has n j ≡ true) (sym all) e));
            contexts = λ j x k d e. rw e (on.contexts j x k d);
          }

      -- ---- the completion

      abbrev completed_memory : Memory
      completed_memory = after (completing s (decision s m i g context) g) (decision s m i g context)

      meets_itself : meets g (has g) ≡ true
      meets_itself = meets_all the_commit.1 (has g) (λ j e. e)

      nobody_left : (clear (acknowledge r i) g).commit.acknowledged ≡ 0
      unfolding clear left_open acknowledge closed
      nobody_left = rw meets_itself

      pub decided_on : On s completed_memory (clear (acknowledge r i) g) settled_ledger
      unfolding decision change rank decided cleared acknowledge
      decided_on =
          let on = given_on in
          let c = completed s positive (decision s m i g context) g in
          record {
            consistent = decided_ok on.consistent g closed_group;
            links = depends_clear (acknowledge r i) (depends_bounded on most) g ∙ ap (unlink (has g)) on.links;
            undecided = c.undecided;
            tags =
                λ b k.
                rw (writer_settled s (has g) keeps before.notes b)
                (⊎_elim
                (λ (e : tagged_in g (given_memory Tags b) ≡ true).
                c.tag_zero b k e ∙ sym (untag_in (has g) (writer s before.notes b) (tag_noted given_on g b k e)))
                (λ (e : tagged_in g (given_memory Tags b) ≡ false).
                c.tag_left b e ∙ on.tags b k ∙ sym
                (untag_out (has g) (writer s before.notes b) (tag_noted given_on g b k e)))
                (decide (tagged_in g (given_memory Tags b))));
            current =
                λ a k.
                c.current a ∙ on.current a k ∙ sym
                (ap live (decided_marks a) ∙ commit_reads (has g) (marks before.notes a));
            recovery =
                λ a k.
                ⊎_elim
                (λ (e : tagged_in g (given_memory Tags (a / s.size)) ≡ true). c.saved a k e ∙ on.current a k ∙ sym
                (kept_in a k e))
                (λ (e : tagged_in g (given_memory Tags (a / s.size)) ≡ false). c.left a e ∙ on.recovery a k ∙ sym
                (kept_out a k e))
                (decide (tagged_in g (given_memory Tags (a / s.size))));
            contexts =
                λ j x k d.
                ⊎_elim
                (λ (e : has g j ≡ true). c.kept j x k d e ∙ rw e
                (on.given j x k d (subst (λ n. has n j ≡ true) (sym all) e)))
                (λ (e : has g j ≡ false). c.others j x d e ∙ rw e (on.contexts j x k d))
                (decide (has g j));
            lengths = λ j. ((on.lengths j).0, kept_length j);
            commit = cleared_commit;
            given = λ j x k d e. clash (ap (λ n. has n j) (sym nobody_left) ∙ e) (has_zero j);
          }
        where
          kept_length : (j : ℕ) → length (cond (has g j) (before.given j) (before.kept j)) ≡ s.context
          kept_length j =
              ⊎_elim
              (λ (t : has g j ≡ true). rw t (given_on.lengths j).0)
              (λ (t : has g j ≡ false). rw t (given_on.lengths j).1)
              (decide (has g j))

          cleared_commit : Agrees s.boards (clear (acknowledge r i) g).commit settled_ledger.commits
          cleared_commit = agrees_clear (acknowledge r i) g given_on.commit
