-- Memory and record against the ledger: how they agree while the record is on, and after a cut.
use Prim.Native.Nat.{ℕ, zero, suc, ◌+◌, ◌*◌, ◌/◌, ◌^◌, ◌<◌}
use mathlib.Core.Path.{◌≡◌, refl, sym, ◌∙◌, ap, subst, fun_ext}
use mathlib.Core.Bool.{Bool, true, false, not}
use mathlib.Core.List.{List, [], ◌∷◌, map}
use mathlib.Core.Logic.{⊎_elim, ◌≢◌}
use lib.ListN.{length, get_or}
use native.Mathlib.Omega.{arith}
use Rattle.boards.specs.Lists.{select}
use Rattle.boards.specs.Boards.{has, meets, tagged_in, Links, unlinked, unlink}
use Rattle.protocol.specs.Image.{Decision, Tags, Current, Recovery, Tentative, Checkpoint, Memory, cells}
use Rattle.volatile.specs.Volatile.{closed, fresh, depends, left_open, clear}
use Rattle.protocol.specs.Ledger.{kept, undone, OpenCommit, Ledger, writer, cleared, all_undone}
use Rattle.protocol.specs.declared.Shape.{Shape}
use Rattle.volatile.specs.declared.Record.{Record}
use Rattle.volatile.specs.declared.Commit.{Commit}
use Rattle.boards.proofs.Basics.{decide, clash, refute}
use Rattle.boards.proofs.Groups.{Forward, Backward, links_ext, has_zero, has_none, meets_no}
use Rattle.volatile.proofs.Records.{depends_fresh}
use Rattle.protocol.proofs.Marks.{Mark, gone, waits, fixed, mark, marks, live, saved, To, to, Above, KeptOrder}
use Rattle.protocol.proofs.Marks.{settle, untag, tag_in, marks_settled, writer_settled, undoes, commit_live}
use Rattle.protocol.proofs.Marks.{rollback_live, rollback_saved}
use Rattle.protocol.proofs.Consistent.{Consistent, writer_below, undone_all}
use Rattle.protocol.proofs.Safety.{Idle, Safe, Clean, block_below}

-- ---- one cell of a committing or rolled back block

to_tagged : {d : Links} {m t : ℕ} → To d m t → 0 < t
to_tagged (to c) = omega arith

pub above_none : {d : Links} {ms : List Mark} → Above d 0 ms → live ms ≡ saved ms
unfolding live saved
above_none Above.empty = refl
above_none (Above.past_gone h) = above_none h
above_none (Above.past_waits r h) = let l = to_tagged r in absurd (omega arith)
above_none Above.at_fixed = refl

-- the tags of the definitions and of the ledger's notes
pub tag_in_same : (g t : ℕ) → tagged_in g t ≡ tag_in (has g) t
unfolding tagged_in tag_in
tag_in_same g zero = refl
tag_in_same g (suc j) = refl

pub untag_in : (p : ℕ → Bool) (t : ℕ) → tag_in p t ≡ true → untag p t ≡ 0
unfolding tag_in untag
untag_in p zero e = refl
untag_in p (suc j) e = rw e

pub untag_out : (p : ℕ → Bool) (t : ℕ) → tag_in p t ≡ false → untag p t ≡ t
unfolding tag_in untag
untag_out p zero e = refl
untag_out p (suc j) e = rw e

module _ {p : ℕ → Bool} {d : Links} {ms : List Mark} where
  pub commit_in : (t : ℕ) → Forward p d → KeptOrder d t ms → tag_in p t ≡ true
      → saved (map (settle p kept) ms) ≡ live ms
  unfolding tag_in
  commit_in zero f k e = clash e refl
  commit_in (suc w) f k e = commit_live f e k.top

  pub rollback_in : (t : ℕ) → Backward p d → KeptOrder d t ms → tag_in p t ≡ true
      → live (map (settle p undone) ms) ≡ saved ms
  unfolding tag_in
  rollback_in zero f k e = clash e refl
  rollback_in (suc w) f k e = rollback_live f e k.above

-- everybody rolled back
pub live_undone : (ms : List Mark) → live (map (settle (λ i. true) undone) ms) ≡ saved ms
unfolding live saved settle mark
live_undone [] = refl
live_undone (gone ∷ ms) = live_undone ms
live_undone (waits m v ∷ ms) = live_undone ms
live_undone (fixed v ∷ ms) = refl

untag_all : (t : ℕ) → untag (λ i. true) t ≡ 0
unfolding untag
untag_all zero = refl
untag_all (suc j) = refl

-- ---- what the ledger keeps, as a power cut finds it

abbrev pub kept_cell : Ledger → ℕ → ℕ
kept_cell l a = saved (marks l.notes a)

pub undone_cell : (l : Ledger) (a : ℕ) → kept_cell (all_undone l) a ≡ kept_cell l a
unfolding all_undone cleared
undone_cell l a = ap saved (marks_settled (λ i. true) undone l.notes a) ∙ rollback_saved (λ i. true)
    (marks l.notes a)

-- ---- the record's commit and the ledger's

-- a set of boards below p that is not empty
pub record SomeBoards (p g : ℕ) : Type 0 where
  pub some : g ≢ 0
  pub small : g < 2 ^ 16
  pub below : (j : ℕ) → has g j ≡ true → j < p

pub data Agrees (p : ℕ) (c : Commit) : List OpenCommit → Type 0 where
  nobody : c.members ≡ 0 → c.acknowledged ≡ 0 → Agrees p c []
  somebody : SomeBoards p c.members
      → Agrees p c (record { members = c.members; acknowledged = c.acknowledged } ∷ [])

-- a set that is not empty meets the set of all boards
pub meets_all : {p g : ℕ} → SomeBoards p g → (q : ℕ → Bool) → ((j : ℕ) → has g j ≡ true → q j ≡ true)
    → meets g q ≡ true
meets_all {p} {g} h q f =
    ⊎_elim
    (λ (e : meets g q ≡ true). e)
    (λ (e : meets g q ≡ false).
    absurd (h.some (has_none 16 g h.small (λ j l. refute (has g j) (λ i. clash (f j i) (meets_no g q e j l i))))))
    (decide (meets g q))

-- the commits after boards are cleared
pub agrees_clear : {p : ℕ} (r : Record) (g : ℕ) {cs : List OpenCommit} → Agrees p r.commit cs
    → Agrees p (clear r g).commit (select (λ c. not (meets c.members (has g))) cs)
unfolding clear left_open select closed
agrees_clear r g (nobody e f) =
    ⊎_elim
    (λ (h : meets r.commit.members (has g) ≡ true). rw h (nobody refl refl))
    (λ (h : meets r.commit.members (has g) ≡ false). rw h (nobody e f))
    (decide (meets r.commit.members (has g)))
agrees_clear r g (somebody b) =
    ⊎_elim
    (λ (h : meets r.commit.members (has g) ≡ true). rw h (nobody refl refl))
    (λ (h : meets r.commit.members (has g) ≡ false). rw h (somebody b))
    (decide (meets r.commit.members (has g)))

pub agrees_none : {p : ℕ} {c : Commit} {cs : List OpenCommit} → Agrees p c cs
    → select (λ c. not (meets c.members (λ i. true))) cs ≡ []
unfolding select
agrees_none (nobody e f) = refl
agrees_none {c = c} (somebody b) = rw (meets_all b (λ i. true) (λ j h. refl))

-- ---- while the record is on

pub record On (s : Shape) (m : Memory) (r : Record) (l : Ledger) : Type 0 where
  pub consistent : Consistent s l
  pub links : depends r ≡ l.links
  pub undecided : m Decision 0 ≡ 0
  pub tags : (b : ℕ) → b < s.blocks → m Tags b ≡ writer s l.notes b
  pub current : (a : ℕ) → a < cells s → m Current a ≡ live (marks l.notes a)
  pub recovery : (a : ℕ) → a < cells s → m Recovery a ≡ kept_cell l a
  pub contexts : (i x : ℕ) → i < s.boards → x < s.context → m Checkpoint (i * s.context + x) ≡ get_or (l.kept i) x 0
  pub lengths : (i : ℕ) → (length (l.given i) ≡ s.context) × (length (l.kept i) ≡ s.context)
  pub commit : Agrees s.boards r.commit l.commits
  pub given : (i x : ℕ) → i < s.boards → x < s.context → has r.commit.acknowledged i ≡ true
      → m Tentative (i * s.context + x) ≡ get_or (l.given i) x 0

-- a block's tag, seen from memory and from the notes
pub tag_noted : {s : Shape} {m : Memory} {r : Record} {l : Ledger} → On s m r l → (g b : ℕ) → b < s.blocks → {t : Bool}
    → tagged_in g (m Tags b) ≡ t → tag_in (has g) (writer s l.notes b) ≡ t
tag_noted {s} {l = l} on g b k e =
    sym (tag_in_same g (writer s l.notes b)) ∙ ap (tagged_in g) (sym (on.tags b k)) ∙ e

-- a power cut finds a memory that tells what was kept
pub on_idle : {s : Shape} {m : Memory} {r : Record} {l : Ledger} → 0 < s.size → On s m r l
    → Idle s (kept_cell l) l.kept m
on_idle {s} {m} {r} {l} positive h =
    record {
      undecided = h.undecided;
      tags = λ b k. rw (h.tags b k) (writer_below s l.notes h.consistent.boards b);
      recovery = h.recovery;
      current =
          λ a k z.
          let none = sym (h.tags (a / s.size) (block_below s a positive k)) ∙ z in
          h.current a k
          ∙ above_none (subst (λ t. Above l.links t (marks l.notes a)) none (h.consistent.order a).above);
      contexts = h.contexts;
    }

-- ---- after a cut

pub record Off (s : Shape) (m : Memory) (l : Ledger) : Type 0 where
  pub consistent : Consistent s l
  pub safe : Safe s (kept_cell l) l.kept m
  pub none_open : l.commits ≡ []
  pub lengths : (i : ℕ) → (length (l.given i) ≡ s.context) × (length (l.kept i) ≡ s.context)

-- a memory that tells what a ledger keeps tells what is kept when all pending notes are undone
pub off_undone : {s : Shape} {m : Memory} {l : Ledger} → Consistent s l → Safe s (kept_cell l) l.kept m
    → select (λ c. not (meets c.members (λ i. true))) l.commits ≡ []
    → ((i : ℕ) → (length (l.given i) ≡ s.context) × (length (l.kept i) ≡ s.context)) → Off s m (all_undone l)
unfolding all_undone cleared
off_undone {s} {m} {l} c h dropped lengths =
    record {
      consistent = undone_all c;
      safe = subst (λ f. Safe s f l.kept m) (fun_ext (λ a. sym (undone_cell l a))) h;
      none_open = dropped;
      lengths = lengths;
    }

-- a power-up done leaves a clean memory and an empty record
pub powered : {s : Shape} {m : Memory} {l : Ledger} → 0 < s.size → Consistent s l → Clean s (kept_cell l) l.kept m
    → select (λ c. not (meets c.members (λ i. true))) l.commits ≡ []
    → ((i : ℕ) → (length (l.given i) ≡ s.context) × (length (l.kept i) ≡ s.context)) → On s m fresh (all_undone l)
unfolding all_undone cleared fresh closed unlink unlinked
powered {s} {m} {l} positive c h dropped lengths =
    record {
      consistent = undone_all c;
      links = depends_fresh ∙ links_ext (λ a b. refl);
      undecided = h.calm.undecided;
      tags = λ b k. h.untagged b k ∙ sym (writer_settled s (λ i. true) undoes l.notes b ∙ untag_all
          (writer s l.notes b));
      current =
          λ a k.
          h.calm.current a k (h.untagged (a / s.size) (block_below s a positive k))
          ∙ sym (ap live (marks_settled (λ i. true) undone l.notes a) ∙ live_undone (marks l.notes a));
      recovery = λ a k. h.calm.recovery a k ∙ sym (undone_cell l a);
      contexts = h.calm.contexts;
      lengths = lengths;
      commit = subst (λ cs. Agrees s.boards closed cs) (sym dropped) (nobody refl refl);
      given = λ i x l k e. clash e (has_zero i);
    }
