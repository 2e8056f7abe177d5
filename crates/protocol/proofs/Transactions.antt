-- Transactions: the notes of a board that are pending together share every later fate; so none that is kept read an
-- undone byte.
use Prim.Native.Nat.{ℕ}
use mathlib.Core.Path.{◌≡◌, refl, sym, ◌∙◌, ap, ap₂, subst}
use mathlib.Core.Bool.{Bool, true, false, ◌&&◌, cond}
use mathlib.Core.List.{List, [], ◌∷◌, ◌++◌, map}
use mathlib.Core.Logic.{⊎_elim}
use lib.Dec.{eqb}
use lib.ListN.{length}
use borrow.Author.Tests.{eqb-true}
use Rattle.boards.specs.Lists.{any_of}
use Rattle.boards.specs.Boards.{has}
use Rattle.protocol.specs.Calls.{Request, Read, Write, Start, Acknowledge, Fault, PowerUp}
use Rattle.protocol.specs.Ledger.{Verdict, refused, done, cut, Fate, pending, kept, undone, Note, Ledger}
use Rattle.protocol.specs.Ledger.{is_pending, not_undone, sources_of, note_is, from_undone, reads_undone, settled}
use Rattle.protocol.specs.Ledger.{cleared, all_undone, noted, started, with_context, decided_by, decided}
use Rattle.protocol.specs.Ledger.{acknowledged, commit_effect, effect, update}
use Rattle.protocol.specs.Claim.{System, Call, verdict, answer, next, formatted, Holds, Faithful, end, and_then}
use Rattle.protocol.specs.Claim.{later, transaction, TransactionsWhole, NoUndoneReadKept}
use Rattle.protocol.specs.declared.Shape.{Shape}
use Rattle.boards.proofs.Basics.{decide, clash, and_true, or_false}
use Rattle.protocol.proofs.Marks.{At, newest, older, at_map, at_is}
use Rattle.protocol.proofs.Demand3.{demand_3}

-- ---- notes by their numbers

-- a note number k of which p holds
record Found (p : Note → Bool) (ns : List Note) (k : ℕ) : Type 0 where
  note : Note
  there : At ns k note
  holds : p note ≡ true

found : (p : Note → Bool) (ns : List Note) (k : ℕ) → note_is p ns k ≡ true → Found p ns k
unfolding note_is
found p [] k e = clash e refl
found p (n ∷ ns) k e =
    ⊎_elim
    (λ (t : eqb k (length ns) ≡ true).
    record {
      note = n;
      there = subst (λ j. At (n ∷ ns) j n) (sym (eqb-true k (length ns) t)) newest;
      holds = rw t at e;
    })
    (λ (t : eqb k (length ns) ≡ false).
    let f = found p ns k (rw t at e) in
    record { note = f.note; there = older f.there; holds = f.holds })
    (decide (eqb k (length ns)))

at_none : (p : Note → Bool) {ns : List Note} {k : ℕ} {n : Note} → any_of p ns ≡ false → At ns k n → p n ≡ false
unfolding any_of
at_none p e (newest {n = n} {ns = ns}) = (or_false (p n) (any_of p ns) e).0
at_none p e (older {x = x} {ns = ns} h) = at_none p (or_false (p x) (any_of p ns) e).1 h

-- ---- two notes of one board and one fate

record Together (ns : List Note) (a b : ℕ) : Type 0 where
  one : Note
  other : Note
  at_one : At ns a one
  at_other : At ns b other
  board : one.board ≡ other.board
  fate : one.fate ≡ other.fate

module _ {ns : List Note} {a b : ℕ} (t : Together ns a b) where
  together_older : (n : Note) → Together (n ∷ ns) a b
  together_older n =
      record {
        one = t.one;
        other = t.other;
        at_one = older t.at_one;
        at_other = older t.at_other;
        board = t.board;
        fate = t.fate;
      }

  together_settled : (p : ℕ → Bool) (f : Fate) → Together (map (settled p f) ns) a b
  unfolding settled
  together_settled p f =
      record {
        one = settled p f t.one;
        other = settled p f t.other;
        at_one = at_map (settled p f) t.at_one;
        at_other = at_map (settled p f) t.at_other;
        board = t.board;
        fate = ap₂ (λ i g. cond (is_pending g && p i) f g) t.board t.fate;
      }

  together_fate : (p : Fate → Bool) → note_is (λ n. p n.fate) ns a ≡ note_is (λ n. p n.fate) ns b
  together_fate p =
      at_is (λ n. p n.fate) t.at_one ∙ ap p t.fate ∙ sym (at_is (λ n. p n.fate) t.at_other)

-- ---- every update keeps them together

module _ (s : Shape) {a b : ℕ} where
  undone_together : (l : Ledger) → Together l.notes a b → Together (all_undone l).notes a b
  unfolding all_undone cleared
  undone_together l t = together_settled t (λ i. true) undone

  acknowledged_together : (i : ℕ) (context : List ℕ) (k : ℕ) (l : Ledger) → Together l.notes a b
      → Together (acknowledged s i context k l).notes a b
  unfolding acknowledged with_context decided cleared
  acknowledged_together i context k l t =
      let g = decided_by s i k (with_context i context l).commits in
      ⊎_elim
      (λ (e : eqb g 0 ≡ true). rw e t)
      (λ (e : eqb g 0 ≡ false). rw e (together_settled t (has g) kept))
      (decide (eqb g 0))

  commit_together : (request : Request) (k : ℕ) (l : Ledger) → Together l.notes a b
      → Together (commit_effect s request k l).notes a b
  unfolding commit_effect started
  commit_together (Read who c n room) k l t = t
  commit_together (Write who c bytes) k l t = t
  commit_together (Start i context) k l t = acknowledged_together i context k (started i l) t
  commit_together (Acknowledge i context) k l t = acknowledged_together i context k l t
  commit_together (Fault i) k l t = t
  commit_together PowerUp k l t = t

  effect_together : (request : Request) (k : ℕ) (l : Ledger) → Together l.notes a b
      → Together (effect s request k l).notes a b
  unfolding effect noted cleared
  effect_together (Read who c n room) k l t = together_older t _
  effect_together (Write who c bytes) k l t = together_older t _
  effect_together (Start i context) k l t = commit_together (Start i context) k l t
  effect_together (Acknowledge i context) k l t = commit_together (Acknowledge i context) k l t
  effect_together (Fault i) k l t = together_settled t _ undone
  effect_together PowerUp k l t = undone_together l t

  update_together : (request : Request) (k : ℕ) (v : Verdict) (l : Ledger) → Together l.notes a b
      → Together (update s request k v l).notes a b
  unfolding update
  update_together request k refused l t = t
  update_together request k done l t = effect_together request k l t
  update_together request k cut l t = undone_together (commit_effect s request k l) (commit_together request k l t)

  later_together : (w : System) (calls : List Call) → Together w.ledger.notes a b
      → Together (later s w calls).ledger.notes a b
  unfolding later next
  later_together w [] t = t
  later_together w (c ∷ cs) t =
      later_together (next s w c.request c.k) cs
      (update_together c.request c.k (verdict (answer w c.request c.k)) w.ledger t)

-- ---- the statements

pending_is : (f : Fate) → is_pending f ≡ true → f ≡ pending
unfolding is_pending
pending_is pending e = refl
pending_is kept e = clash e refl
pending_is undone e = clash e refl

begun_together : (notes : List Note) (i a b : ℕ) → transaction notes i a ≡ true → transaction notes i b ≡ true
    → Together notes a b
unfolding transaction
begun_together notes i a b p q =
    let own : Note → Bool = λ n. is_pending n.fate && eqb n.board i in
    let x = found own notes a p in
    let y = found own notes b q in
    let x' = and_true (is_pending x.note.fate) (eqb x.note.board i) x.holds in
    let y' = and_true (is_pending y.note.fate) (eqb y.note.board i) y.holds in
    record {
      one = x.note;
      other = y.note;
      at_one = x.there;
      at_other = y.there;
      board = eqb-true _ _ x'.1 ∙ sym (eqb-true _ _ y'.1);
      fate = pending_is _ x'.0 ∙ sym (pending_is _ y'.0);
    }

pub transactions_whole : TransactionsWhole
transactions_whole s w calls i a b test p q =
    together_fate (later_together s w calls (begun_together w.ledger.notes i a b p q)) test

-- what holds at a later point, by demand 3
pub holds_later : {s : Shape} (w : System) (calls more : List Call) → Faithful s w (calls ++ more)
    → Holds s (later s (later s w calls) more)
unfolding later
holds_later w [] [] (end h) = h
holds_later {s} w [] (c ∷ cs) (and_then h a f) = holds_later (next s w c.request c.k) [] cs f
holds_later {s} w (c ∷ cs) more (and_then h a f) = holds_later (next s w c.request c.k) cs more f

-- a note that is not undone, in a list of which no such read is noted with an undone write
not_tainted : (notes : List Note) {k : ℕ} {n : Note} → any_of (reads_undone notes) notes ≡ false → At notes k n
    → not_undone n.fate ≡ true → note_is (λ n. any_of (from_undone notes) (sources_of n.access)) notes k ≡ false
unfolding reads_undone
not_tainted notes {n = n} clean at e =
    at_is (λ n. any_of (from_undone notes) (sources_of n.access)) at
    ∙ sym (ap (λ t. t && any_of (from_undone notes) (sources_of n.access)) e)
    ∙ at_none (reads_undone notes) clean at

pub no_undone_read_kept : NoUndoneReadKept
no_undone_read_kept s image r k v calls more i a b p q e =
    let first = formatted s image r k in
    let w = later s first calls in
    let t = later_together s w more (begun_together w.ledger.notes i a b p q) in
    not_tainted (later s w more).ledger.notes
    (holds_later first calls more (demand_3 s image r k v (calls ++ more))).reads t.at_other
    (ap not_undone (sym t.fate) ∙ sym (at_is (λ n. not_undone n.fate) t.at_one) ∙ e)
