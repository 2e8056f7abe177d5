-- The notes of the ledger seen from one cell: its writes newest first, each pending, kept or undone.
-- What a commit, a fault and an access do to them.
use Prim.Native.Nat.{ℕ, zero, suc, ◌<◌}
use mathlib.Core.Path.{◌≡◌, refl, sym, ◌∙◌, subst}
use mathlib.Core.Bool.{Bool, true, false, ◌&&◌, cond}
use mathlib.Core.List.{List, [], ◌∷◌, map}
use mathlib.Core.Option.{Option, none, some}
use mathlib.Core.Logic.{◌⊎◌, inl, inr, ⊎_elim}
use lib.ListN.{length, length-map}
use native.Mathlib.Omega.{arith}
use borrow.Author.Tests.{eq-eqb, ne_eqb}
use Rattle.boards.specs.Boards.{Links, Chain, unlink}
use Rattle.protocol.specs.Ledger.{Fate, pending, kept, undone, Note, is_pending, not_undone, covers, byte_in}
use Rattle.protocol.specs.Ledger.{wrote_in, writer, source, byte_from, note_is, settled}
use Rattle.protocol.specs.declared.Shape.{Shape}
use Rattle.boards.proofs.Basics.{decide, clash, refute}
use Rattle.boards.proofs.Groups.{Forward, Backward, forward_chain, backward_chain, chain_outside_forward}
use Rattle.boards.proofs.Groups.{chain_outside_backward}

-- ---- the writes of one cell

pub data Mark : Type 0 where
  gone : Mark
  waits : (board byte : ℕ) → Mark
  fixed : (byte : ℕ) → Mark

unfoldable pub mark : ℕ → ℕ → Fate → Mark
mark board byte pending = waits board byte
mark board byte kept = fixed byte
mark board byte undone = gone

unfoldable pub marks : List Note → ℕ → List Mark
marks [] a = []
marks (n ∷ ns) a = cond (covers n a) (mark n.board (byte_in n a) n.fate ∷ marks ns a) (marks ns a)

-- the byte of the last write not undone, and of the last write kept
unfoldable pub live : List Mark → ℕ
live [] = 0
live (gone ∷ ms) = live ms
live (waits board byte ∷ ms) = byte
live (fixed byte ∷ ms) = byte

unfoldable pub saved : List Mark → ℕ
saved [] = 0
saved (gone ∷ ms) = saved ms
saved (waits board byte ∷ ms) = saved ms
saved (fixed byte ∷ ms) = byte

-- ---- invariants of one cell, whose block has tag t: 0 for no writer, w + 1 for writer w

-- board m reaches the writer; the writer reaches board m
pub data To (d : Links) (m : ℕ) : ℕ → Type 0 where
  to : {w : ℕ} → Chain d m w → To d m (suc w)

pub data From (d : Links) (m : ℕ) : ℕ → Type 0 where
  from : {w : ℕ} → Chain d w m → From d m (suc w)

-- every pending write later than the last kept one is by a board that reaches the writer
pub data Above (d : Links) (t : ℕ) : List Mark → Type 0 where
  empty : Above d t []
  past_gone : {ms : List Mark} → Above d t ms → Above d t (gone ∷ ms)
  past_waits : {m v : ℕ} {ms : List Mark} → To d m t → Above d t ms → Above d t (waits m v ∷ ms)
  at_fixed : {v : ℕ} {ms : List Mark} → Above d t (fixed v ∷ ms)

-- the last write not undone, if pending, is by a board that the writer reaches
pub data Top (d : Links) (t : ℕ) : List Mark → Type 0 where
  empty : Top d t []
  past_gone : {ms : List Mark} → Top d t ms → Top d t (gone ∷ ms)
  at_waits : {m v : ℕ} {ms : List Mark} → From d m t → Top d t (waits m v ∷ ms)
  at_fixed : {v : ℕ} {ms : List Mark} → Top d t (fixed v ∷ ms)

-- the two together, under other links and another tag
pub record KeptOrder (d : Links) (t : ℕ) (ms : List Mark) : Type 0 where
  pub above : Above d t ms
  pub top : Top d t ms

module _ {d e : Links} {t u : ℕ} where
  pub above_map : {ms : List Mark} → ((m : ℕ) → To d m t → To e m u) → Above d t ms → Above e u ms
  above_map f Above.empty = Above.empty
  above_map f (Above.past_gone h) = Above.past_gone (above_map f h)
  above_map f (Above.past_waits h k) = Above.past_waits (f _ h) (above_map f k)
  above_map f Above.at_fixed = Above.at_fixed

  pub top_map : {ms : List Mark} → ((m : ℕ) → From d m t → From e m u) → Top d t ms → Top e u ms
  top_map f Top.empty = Top.empty
  top_map f (Top.past_gone h) = Top.past_gone (top_map f h)
  top_map f (Top.at_waits h) = Top.at_waits (f _ h)
  top_map f Top.at_fixed = Top.at_fixed

-- ---- settling: the pending writes of the boards of which p holds get a fate

unfoldable pub settle : (ℕ → Bool) → Fate → Mark → Mark
settle p f gone = gone
settle p f (waits m v) = cond (p m) (mark m v f) (waits m v)
settle p f (fixed v) = fixed v

-- the tag of a block after its writer's notes were settled
unfoldable pub untag : (ℕ → Bool) → ℕ → ℕ
untag p zero = 0
untag p (suc j) = cond (p j) 0 (suc j)

unfoldable pub tag_in : (ℕ → Bool) → ℕ → Bool
tag_in p zero = false
tag_in p (suc j) = p j

-- ---- a commit: p is closed under dependence

module _ {p : ℕ → Bool} {d : Links} (f : Forward p d) where
  -- the writer commits: the last write not undone is now kept
  pub commit_live : {w : ℕ} {ms : List Mark} → p w ≡ true → Top d (suc w) ms
      → saved (map (settle p kept) ms) ≡ live ms
  unfolding settle saved live mark
  commit_live h Top.empty = refl
  commit_live h (Top.past_gone k) = commit_live h k
  commit_live h (Top.at_waits (from c)) = rw (forward_chain f c h)
  commit_live h Top.at_fixed = refl

  committed : {w : ℕ} {ms : List Mark} {e : Links} → p w ≡ true → Top d (suc w) ms
      → KeptOrder e 0 (map (settle p kept) ms)
  unfolding settle mark
  committed h Top.empty = record { above = Above.empty; top = Top.empty }
  committed h (Top.past_gone k) =
      let r = committed h k in
      record { above = Above.past_gone r.above; top = Top.past_gone r.top }
  committed h (Top.at_waits (from c)) =
      rw (forward_chain f c h) (record { above = Above.at_fixed; top = Top.at_fixed })
  committed h Top.at_fixed = record { above = Above.at_fixed; top = Top.at_fixed }

  -- a board that reaches a writer who does not commit does not commit either
  reach_outside : {m t : ℕ} → tag_in p t ≡ false → To d m t → p m ≡ false
  unfolding tag_in
  reach_outside {m} h (to c) = refute (p m) (λ k. clash (forward_chain f c k) h)

  to_outside : {m t : ℕ} → tag_in p t ≡ false → To d m t → To (unlink p d) m t
  unfolding tag_in
  to_outside h (to c) = to (chain_outside_forward f c h)

  from_outside : {m t : ℕ} → p m ≡ false → From d m t → From (unlink p d) m t
  from_outside h (from c) = from (chain_outside_forward f c h)

  pub commit_saved : {t : ℕ} {ms : List Mark} → tag_in p t ≡ false → Above d t ms
      → saved (map (settle p kept) ms) ≡ saved ms
  unfolding settle saved mark
  commit_saved h Above.empty = refl
  commit_saved h (Above.past_gone k) = commit_saved h k
  commit_saved h (Above.past_waits r k) = rw (reach_outside h r) (commit_saved h k)
  commit_saved h Above.at_fixed = refl

  commit_above : {t : ℕ} {ms : List Mark} → tag_in p t ≡ false → Above d t ms
      → Above (unlink p d) t (map (settle p kept) ms)
  unfolding settle mark
  commit_above h Above.empty = Above.empty
  commit_above h (Above.past_gone k) = Above.past_gone (commit_above h k)
  commit_above h (Above.past_waits r k) = rw (reach_outside h r) (Above.past_waits (to_outside h r) (commit_above h k))
  commit_above h Above.at_fixed = Above.at_fixed

  commit_top : {t : ℕ} {ms : List Mark} → tag_in p t ≡ false → Above d t ms → Top d t ms
      → Top (unlink p d) t (map (settle p kept) ms)
  unfolding settle mark
  commit_top h Above.empty Top.empty = Top.empty
  commit_top h (Above.past_gone k) (Top.past_gone l) = Top.past_gone (commit_top h k l)
  commit_top h (Above.past_waits r k) (Top.at_waits l) =
      rw (reach_outside h r) (Top.at_waits (from_outside (reach_outside h r) l))
  commit_top h Above.at_fixed Top.at_fixed = Top.at_fixed

-- a commit changes no byte that is read
pub commit_reads : (p : ℕ → Bool) (ms : List Mark) → live (map (settle p kept) ms) ≡ live ms
unfolding settle live mark
commit_reads p [] = refl
commit_reads p (gone ∷ ms) = commit_reads p ms
commit_reads p (waits m v ∷ ms) =
    ⊎_elim (λ (e : p m ≡ true). rw e) (λ (e : p m ≡ false). rw e) (decide (p m))
commit_reads p (fixed v ∷ ms) = refl

-- ---- a rollback: p is closed under being depended on

-- a rollback changes no byte that is kept
pub rollback_saved : (p : ℕ → Bool) (ms : List Mark) → saved (map (settle p undone) ms) ≡ saved ms
unfolding settle saved mark
rollback_saved p [] = refl
rollback_saved p (gone ∷ ms) = rollback_saved p ms
rollback_saved p (waits m v ∷ ms) =
    let rest = rollback_saved p ms in
    ⊎_elim (λ (e : p m ≡ true). rw e rest) (λ (e : p m ≡ false). rw e rest) (decide (p m))
rollback_saved p (fixed v ∷ ms) = refl

module _ {p : ℕ → Bool} {d : Links} (f : Backward p d) where
  -- the writer is rolled back: what is read is what was kept
  pub rollback_live : {w : ℕ} {ms : List Mark} → p w ≡ true → Above d (suc w) ms
      → live (map (settle p undone) ms) ≡ saved ms
  unfolding settle saved live mark
  rollback_live h Above.empty = refl
  rollback_live h (Above.past_gone k) = rollback_live h k
  rollback_live h (Above.past_waits (to c) k) = rw (backward_chain f c h) (rollback_live h k)
  rollback_live h Above.at_fixed = refl

  rolled_back : {w : ℕ} {ms : List Mark} {e : Links} → p w ≡ true → Above d (suc w) ms
      → KeptOrder e 0 (map (settle p undone) ms)
  unfolding settle mark
  rolled_back h Above.empty = record { above = Above.empty; top = Top.empty }
  rolled_back h (Above.past_gone k) =
      let r = rolled_back h k in
      record { above = Above.past_gone r.above; top = Top.past_gone r.top }
  rolled_back {e = e} h (Above.past_waits (to c) k) =
      let r = rolled_back {e = e} h k in
      rw (backward_chain f c h) (record { above = Above.past_gone r.above; top = Top.past_gone r.top })
  rolled_back h Above.at_fixed = record { above = Above.at_fixed; top = Top.at_fixed }

  stays_outside : {m t : ℕ} → tag_in p t ≡ false → From d m t → p m ≡ false
  unfolding tag_in
  stays_outside {m} h (from c) = refute (p m) (λ k. clash (backward_chain f c k) h)

  pub rollback_same : {t : ℕ} {ms : List Mark} → tag_in p t ≡ false → Top d t ms
      → live (map (settle p undone) ms) ≡ live ms
  unfolding settle live mark
  rollback_same h Top.empty = refl
  rollback_same h (Top.past_gone k) = rollback_same h k
  rollback_same h (Top.at_waits r) = rw (stays_outside h r)
  rollback_same h Top.at_fixed = refl

  rollback_above : {t : ℕ} {ms : List Mark} → Above d t ms → Above (unlink p d) t (map (settle p undone) ms)
  unfolding settle mark
  rollback_above Above.empty = Above.empty
  rollback_above (Above.past_gone k) = Above.past_gone (rollback_above k)
  rollback_above (Above.past_waits {m = m} (to c) k) =
      let rest = rollback_above k in
      ⊎_elim
      (λ (h : p m ≡ true). rw h (Above.past_gone rest))
      (λ (h : p m ≡ false). rw h (Above.past_waits (to (chain_outside_backward f c h)) rest))
      (decide (p m))
  rollback_above Above.at_fixed = Above.at_fixed

  rollback_top : {t : ℕ} {ms : List Mark} → tag_in p t ≡ false → Top d t ms
      → Top (unlink p d) t (map (settle p undone) ms)
  unfolding settle tag_in mark
  rollback_top h Top.empty = Top.empty
  rollback_top h (Top.past_gone k) = Top.past_gone (rollback_top h k)
  rollback_top h (Top.at_waits (from c)) =
      rw (stays_outside h (from c)) (Top.at_waits (from (chain_outside_backward f c h)))
  rollback_top h Top.at_fixed = Top.at_fixed

-- ---- both, for a block with any tag

pub commit_order : {p : ℕ → Bool} {d : Links} {ms : List Mark} (t : ℕ) → Forward p d → KeptOrder d t ms
    → KeptOrder (unlink p d) (untag p t) (map (settle p kept) ms)
unfolding untag tag_in
commit_order zero f k =
    record { above = commit_above f {t = 0} refl k.above; top = commit_top f {t = 0} refl k.above k.top }
commit_order {p} (suc w) f k =
    ⊎_elim
    (λ (h : p w ≡ true). rw h (committed f h k.top))
    (λ (h : p w ≡ false). rw h
    (record { above = commit_above f {t = suc w} h k.above; top = commit_top f {t = suc w} h k.above k.top }))
    (decide (p w))

pub rollback_order : {p : ℕ → Bool} {d : Links} {ms : List Mark} (t : ℕ) → Backward p d → KeptOrder d t ms
    → KeptOrder (unlink p d) (untag p t) (map (settle p undone) ms)
unfolding untag tag_in
rollback_order zero f k = record { above = rollback_above f k.above; top = rollback_top f {t = 0} refl k.top }
rollback_order {p} (suc w) f k =
    ⊎_elim
    (λ (h : p w ≡ true). rw h (rolled_back f h k.above))
    (λ (h : p w ≡ false). rw h
    (record { above = rollback_above f k.above; top = rollback_top f {t = suc w} h k.top }))
    (decide (p w))

-- ---- the marks and the writers of notes

mark_settled : (p : ℕ → Bool) (f g : Fate) (m v : ℕ)
    → mark m v (cond (is_pending g && p m) f g) ≡ settle p f (mark m v g)
unfolding mark settle is_pending
mark_settled p f pending m v =
    ⊎_elim (λ (e : p m ≡ true). rw e) (λ (e : p m ≡ false). rw e) (decide (p m))
mark_settled p f kept m v = refl
mark_settled p f undone m v = refl

pub marks_settled : (p : ℕ → Bool) (f : Fate) (ns : List Note) (a : ℕ)
    → marks (map (settled p f) ns) a ≡ map (settle p f) (marks ns a)
unfolding marks settled covers
marks_settled p f [] a = refl
marks_settled p f (n ∷ ns) a =
    let rest = marks_settled p f ns a in
    ⊎_elim
    (λ (e : covers n a ≡ true). rw e (cc (mark_settled p f n.fate n.board (byte_in n a))))
    (λ (e : covers n a ≡ false). rw e rest)
    (decide (covers n a))

-- a fate that ends a pending note
pub data Ends : Fate → Type 0 where
  keeps : Ends kept
  undoes : Ends undone

tag_settled : (p : ℕ → Bool) {f : Fate} → Ends f → (g : Fate) (j : ℕ)
    → cond (is_pending (cond (is_pending g && p j) f g)) (suc j) 0 ≡ untag p (cond (is_pending g) (suc j) 0)
unfolding is_pending untag
tag_settled p keeps pending j = ⊎_elim (λ (e : p j ≡ true). rw e) (λ (e : p j ≡ false). rw e) (decide (p j))
tag_settled p undoes pending j = ⊎_elim (λ (e : p j ≡ true). rw e) (λ (e : p j ≡ false). rw e) (decide (p j))
tag_settled p e kept j = refl
tag_settled p e undone j = refl

pub writer_settled : (s : Shape) (p : ℕ → Bool) {f : Fate} → Ends f → (ns : List Note) (b : ℕ)
    → writer s (map (settled p f) ns) b ≡ untag p (writer s ns b)
unfolding writer settled wrote_in untag
writer_settled s p h [] b = refl
writer_settled s p {f} h (n ∷ ns) b =
    let rest = writer_settled s p h ns b in
    ⊎_elim
    (λ (e : wrote_in s b n ≡ true). rw e (tag_settled p h n.fate n.board))
    (λ (e : wrote_in s b n ≡ false). rw e rest)
    (decide (wrote_in s b n))

-- ---- numbered notes

pub data At : List Note → ℕ → Note → Type 0 where
  newest : {n : Note} {ns : List Note} → At (n ∷ ns) (length ns) n
  older : {k : ℕ} {n x : Note} {ns : List Note} → At ns k n → At (x ∷ ns) k n

pub at_below : {ns : List Note} {k : ℕ} {n : Note} → At ns k n → k < length ns
at_below newest = omega arith
at_below (older h) = let l = at_below h in omega arith

pub at_map : (f : Note → Note) {ns : List Note} {k : ℕ} {n : Note} → At ns k n → At (map f ns) k (f n)
at_map f (newest {n = n} {ns = ns}) = subst (λ k. At (f n ∷ map f ns) k (f n)) (length-map ns f) newest
at_map f (older h) = older (at_map f h)

pub at_is : (p : Note → Bool) {ns : List Note} {k : ℕ} {n : Note} → At ns k n → note_is p ns k ≡ p n
unfolding note_is
at_is p (newest {ns = ns}) = rw (eq-eqb (length ns) (length ns) refl)
at_is p {k = k} (older {ns = ns} h) =
    let l = at_below h in
    rw (ne_eqb k (length ns) (λ e. omega arith)) (at_is p h)

-- ---- the last write not undone

-- what a read of a cell is noted with: a kept write, or a pending one by a board that the writer reaches
pub data Sourced (d : Links) (t : ℕ) (ns : List Note) (k : ℕ) : Type 0 where
  on_kept : {w : Note} → At ns k w → w.fate ≡ kept → Sourced d t ns k
  on_pending : {w : Note} → At ns k w → w.fate ≡ pending → From d w.board t → Sourced d t ns k

sourced_older : {d : Links} {t : ℕ} {n : Note} {ns : List Note} {k : ℕ} → Sourced d t ns k → Sourced d t (n ∷ ns) k
sourced_older (on_kept h e) = on_kept (older h) e
sourced_older (on_pending h e r) = on_pending (older h) e r

top_gone : {d : Links} {t : ℕ} {ms : List Mark} → Top d t (gone ∷ ms) → Top d t ms
top_gone (Top.past_gone h) = h

top_waits : {d : Links} {t m v : ℕ} {ms : List Mark} → Top d t (waits m v ∷ ms) → From d m t
top_waits (Top.at_waits h) = h

-- a note's fate, named
pub fates : (f : Fate) → (f ≡ pending) ⊎ ((f ≡ kept) ⊎ (f ≡ undone))
fates pending = inl refl
fates kept = inr (inl refl)
fates undone = inr (inr refl)

some_is : {k j : ℕ} → ◌≡◌ {A = Option ℕ} (some j) (some k) → j ≡ k
some_is e = cc

pub sourced : (d : Links) (t : ℕ) (ns : List Note) (a k : ℕ) → Top d t (marks ns a) → source ns a ≡ some k
    → Sourced d t ns k
unfolding marks source mark not_undone
sourced d t [] a k h e = let z : ◌≡◌ {A = ℕ} 0 1 = cc in absurd (omega arith)
sourced d t (n ∷ ns) a k h e =
    ⊎_elim
    (λ (c : covers n a ≡ true).
    ⊎_elim
    (λ (f : n.fate ≡ pending).
    on_pending (subst (λ j. At (n ∷ ns) j n) (some_is (rw (c, f) at e)) newest) f (top_waits (rw (c, f) at h)))
    (λ g.
    ⊎_elim
    (λ (f : n.fate ≡ kept). on_kept (subst (λ j. At (n ∷ ns) j n) (some_is (rw (c, f) at e)) newest) f)
    (λ (f : n.fate ≡ undone). sourced_older (sourced d t ns a k (top_gone (rw (c, f) at h)) (rw (c, f) at e)))
    g)
    (fates n.fate))
    (λ (c : covers n a ≡ false). sourced_older (sourced d t ns a k (rw c at h) (rw c at e)))
    (decide (covers n a))

-- a source is the number of a note
pub source_below : (ns : List Note) (a k : ℕ) → source ns a ≡ some k → k < length ns
unfolding source
source_below [] a k e = let z : ◌≡◌ {A = ℕ} 0 1 = cc in absurd (omega arith)
source_below (n ∷ ns) a k e =
    ⊎_elim
    (λ (c : covers n a && not_undone n.fate ≡ true).
    let j = some_is {k = k} {j = length ns} (rw c at e) in
    omega arith)
    (λ (c : covers n a && not_undone n.fate ≡ false). let l = source_below ns a k (rw c at e) in omega arith)
    (decide (covers n a && not_undone n.fate))

byte_none : (ns : List Note) (a : ℕ) → byte_from ns a none ≡ 0
unfolding byte_from
byte_none [] a = refl
byte_none (n ∷ ns) a = refl

-- a newer note changes no byte of an older write
pub byte_older : (n : Note) (ns : List Note) (a b : ℕ)
    → byte_from (n ∷ ns) b (source ns a) ≡ byte_from ns b (source ns a)
unfolding byte_from
byte_older n ns a b = go (source ns a) refl
  where
    go : (o : Option ℕ) → source ns a ≡ o → byte_from (n ∷ ns) b o ≡ byte_from ns b o
    go none e = sym (byte_none ns b)
    go (some k) e = let l = source_below ns a k e in rw (ne_eqb k (length ns) (λ z. omega arith))

byte_newest : (n : Note) (ns : List Note) (a : ℕ) → byte_from (n ∷ ns) a (some (length ns)) ≡ byte_in n a
unfolding byte_from
byte_newest n ns a = rw (eq-eqb (length ns) (length ns) refl)

-- the byte of a cell's last write not undone, as the claim says it
pub live_byte : (ns : List Note) (a : ℕ) → byte_from ns a (source ns a) ≡ live (marks ns a)
unfolding source marks live mark not_undone byte_from
live_byte [] a = byte_none [] a
live_byte (n ∷ ns) a =
    let rest : byte_from (n ∷ ns) a (source ns a) ≡ live (marks ns a) = byte_older n ns a a ∙ live_byte ns a in
    ⊎_elim
    (λ (c : covers n a ≡ true).
    ⊎_elim
    (λ (f : n.fate ≡ pending). rw (c, f) (byte_newest n ns a))
    (λ g.
    ⊎_elim
    (λ (f : n.fate ≡ kept). rw (c, f) (byte_newest n ns a))
    (λ (f : n.fate ≡ undone). rw (c, f) rest)
    g)
    (fates n.fate))
    (λ (c : covers n a ≡ false). rw c rest)
    (decide (covers n a))
