-- The ledger by itself: what its notes, links and open commits keep through every call.
use Prim.Native.Nat.{ℕ}
use mathlib.Core.Path.{◌≡◌, refl, ◌∙◌, ap}
use mathlib.Core.Bool.{Bool, true, false, not}
use mathlib.Core.List.{List, ◌∷◌, map}
use mathlib.Core.Option.{Option, none, some}
use mathlib.Core.Logic.{◌⊎◌, inl, inr, ⊎_elim}
use Rattle.boards.specs.Boards.{Links, Chain, unlink}
use Rattle.protocol.specs.Ledger.{Fate, pending, kept, undone, Note, is_pending, not_undone, sources_of}
use Rattle.protocol.specs.Ledger.{from_undone, reads_undone, settled}
use Rattle.boards.proofs.Basics.{decide, clash, refute, and_false, All, none, all_map, any_of_false}
use Rattle.boards.proofs.Groups.{Forward, Backward, forward_chain, backward_chain, chain_outside_forward}
use Rattle.boards.proofs.Groups.{chain_outside_backward, chain_more}
use Rattle.protocol.proofs.Marks.{At, older, at_map, at_is, fates}

-- ---- reads

-- one of the writes that a note is noted with: kept, or pending by a board that the note's pending board reaches
pub data Backed (d : Links) (all : List Note) (n : Note) : Option ℕ → Type 0 where
  by_none : Backed d all n none
  by_kept : {k : ℕ} {w : Note} → At all k w → w.fate ≡ kept → Backed d all n (some k)
  by_pending : {k : ℕ} {w : Note} → At all k w → w.fate ≡ pending → n.fate ≡ pending → Chain d n.board w.board
      → Backed d all n (some k)

pub data Good (d : Links) (all : List Note) (n : Note) : Type 0 where
  rolled_back : n.fate ≡ undone → Good d all n
  backed : All (Backed d all n) (sources_of n.access) → Good d all n

-- more notes and more links
module _ {d e : Links} (wider : (a b : ℕ) → d a b ≡ true → e a b ≡ true) {all : List Note} {x n : Note} where
  backed_more : (o : Option ℕ) → Backed d all n o → Backed e (x ∷ all) n o
  backed_more o by_none = by_none
  backed_more o (by_kept h f) = by_kept (older h) f
  backed_more o (by_pending h f g c) = by_pending (older h) f g (chain_more wider c)

  pub good_more : Good d all n → Good e (x ∷ all) n
  good_more (rolled_back h) = rolled_back h
  good_more (backed h) = backed (all_map backed_more h)

-- a backed note is noted with no undone write
clean : {d : Links} {all : List Note} {n : Note} (o : Option ℕ) → Backed d all n o → from_undone all o ≡ false
unfolding from_undone not_undone
clean o by_none = refl
clean o (by_kept h e) = rw (at_is (λ n. not_undone n.fate) h) (ap (λ f. not (not_undone f)) e)
clean o (by_pending h e g c) = rw (at_is (λ n. not_undone n.fate) h) (ap (λ f. not (not_undone f)) e)

pub untainted : {d : Links} {all : List Note} (n : Note) → Good d all n → reads_undone all n ≡ false
unfolding reads_undone not_undone
untainted n (rolled_back h) = rw h
untainted {all = all} n (backed h) = and_false (not_undone n.fate) (any_of_false (from_undone all) clean h)

-- what settling does to a note's fate
settled_pending : (p : ℕ → Bool) (f : Fate) (n : Note) → n.fate ≡ pending → p n.board ≡ true
    → (settled p f n).fate ≡ f
unfolding settled is_pending
settled_pending p f n e h = rw (e, h)

settled_outside : (p : ℕ → Bool) (f : Fate) (n : Note) → p n.board ≡ false → (settled p f n).fate ≡ n.fate
unfolding settled
settled_outside p f n h = rw (and_false (is_pending n.fate) h)

settled_other : (p : ℕ → Bool) (f : Fate) (n : Note) → is_pending n.fate ≡ false → (settled p f n).fate ≡ n.fate
unfolding settled
settled_other p f n h = rw h

-- a kept write stays kept
still_kept : (p : ℕ → Bool) (f : Fate) (n : Note) {e : Links} {all : List Note} {k : ℕ} {w : Note} → At all k w
    → w.fate ≡ kept
    → Backed e (map (settled p f) all) (settled p f n) (some k)
unfolding is_pending
still_kept p f n {w = w} h g = by_kept (at_map (settled p f) h) (settled_other p f w (ap is_pending g) ∙ g)

module _ (p : ℕ → Bool) {d : Links} {all : List Note} {n : Note} where
  backed_commit : Forward p d → (o : Option ℕ) → Backed d all n o
      → Backed (unlink p d) (map (settled p kept) all) (settled p kept n) o
  unfolding settled
  backed_commit f o by_none = by_none
  backed_commit f o (by_kept h e) = still_kept p kept n h e
  backed_commit f o (by_pending {w = w} h e g c) =
      ⊎_elim
      (λ (inside : p w.board ≡ true). by_kept (at_map (settled p kept) h) (settled_pending p kept w e inside))
      (λ (outside : p w.board ≡ false).
      by_pending (at_map (settled p kept) h)
      (settled_outside p kept w outside ∙ e)
      (settled_outside p kept n (refute (p n.board) (λ k. clash (forward_chain f c k) outside)) ∙ g)
      (chain_outside_forward f c outside))
      (decide (p w.board))

  pub good_commit : Forward p d → Good d all n → Good (unlink p d) (map (settled p kept) all) (settled p kept n)
  unfolding settled is_pending
  good_commit f (rolled_back h) = rolled_back (settled_other p kept n (ap is_pending h) ∙ h)
  good_commit f (backed h) = backed (all_map (backed_commit f) h)

  backed_rollback : Backward p d → (n.fate ≡ pending → p n.board ≡ false) → (o : Option ℕ) → Backed d all n o
      → Backed (unlink p d) (map (settled p undone) all) (settled p undone n) o
  unfolding settled
  backed_rollback f out o by_none = by_none
  backed_rollback f out o (by_kept h e) = still_kept p undone n h e
  backed_rollback f out o (by_pending {w = w} h e g c) =
      let outside = refute (p w.board) (λ k. clash (backward_chain f c k) (out g)) in
      by_pending (at_map (settled p undone) h)
      (settled_outside p undone w outside ∙ e)
      (settled_outside p undone n (out g) ∙ g)
      (chain_outside_backward f c (out g))

  pub good_rollback : Backward p d → Good d all n
      → Good (unlink p d) (map (settled p undone) all) (settled p undone n)
  unfolding settled is_pending
  good_rollback f (rolled_back h) = rolled_back (settled_other p undone n (ap is_pending h) ∙ h)
  good_rollback f (backed h) =
      ⊎_elim
      (λ (inside : p n.board ≡ true).
      ⊎_elim
      (λ (e : n.fate ≡ pending). rolled_back (settled_pending p undone n e inside))
      (λ g. backed (all_map (backed_rollback f (λ e. never g e)) h))
      (fates n.fate))
      (λ (outside : p n.board ≡ false). backed (all_map (backed_rollback f (λ e. outside)) h))
      (decide (p n.board))
    where
      never : (n.fate ≡ kept) ⊎ (n.fate ≡ undone) → n.fate ≡ pending → p n.board ≡ false
      never (inl k) e = let z : ◌≡◌ {A = Bool} (p n.board) false = cc in z
      never (inr k) e = let z : ◌≡◌ {A = Bool} (p n.board) false = cc in z
