-- One link is left after a write over the whole of another board's block, two after a shorter one, and so who is rolled
-- back.
use Prim.Native.Nat.{ℕ, ◌+◌, ◌-◌, ◌*◌, ◌<◌}
use native.Mathlib.Omega.{arith}
use mathlib.Core.Path.{◌≡◌, refl, sym, ◌∙◌, ap, subst}
use mathlib.Core.Bool.{true}
use mathlib.Core.List.{List, [], ◌∷◌}
use mathlib.Core.Logic.{◌⊎◌, inl, inr, ⊎_elim}
use lib.ListN.{length}
use borrow.Author.Tests.{ne_eqb}
use Rattle.boards.specs.Boards.{Links, unlinked, link, Chain, here, step, Exactly}
use Rattle.protocol.specs.Image.{Tags, size, view}
use Rattle.protocol.specs.Accesses.{board_of, touched, whole, write_binding, bind_boards, bind_tag, bind_blocks}
use Rattle.protocol.specs.Calls.{Write, Fault}
use Rattle.protocol.specs.Ledger.{noted, effect, update}
use Rattle.protocol.specs.Claim.{System, answer, next}
use Rattle.protocol.specs.declared.Shape.{Shape}
use Rattle.protocol.specs.declared.Requester.{Requester}
use Rattle.boards.proofs.Basics.{refute, clash, eqb_same}
use Rattle.boards.proofs.Groups.{link_new, link_old, link_cases, links_ext}
use Rattle.protocol.proofs.Accesses.{div_inside, whole_bounds, bounds_whole}
use Rattle.protocol.proofs.Bridge.{view_at}
use Rattle.protocol.proofs.Safety.{block_below}
use Rattle.protocol.proofs.Outcomes.{not_done}
use Rattle.protocol.proofs.Plans.{Ranged}
use Rattle.protocol.proofs.Agreement.{On}
use Rattle.protocol.proofs.Invariant as Invariant
use Rattle.protocol.proofs.Invariant.{Invariant}
use Rattle.protocol.proofs.Demand3.{invariant_at, write_agrees}
use Rattle.overwrites.specs.Overwrites.{Overwrite, Inside, RollsBack, FaultsAfterOverwrite, SingleCells}

-- ---- the links that a done write leaves

touched_inside : (s : Shape) (b a n : ℕ) → 0 < n → Inside s b a n → touched s a n ≡ b ∷ []
unfolding touched
touched_inside s b a n some (low, high) =
    rw (
      div_inside s.size b a low (omega arith),
      div_inside s.size b (a + n - 1) (omega arith) (omega arith),
      eqb_same b,
    )

module _ {s : Shape} {w : System} (inv : Invariant s w) {who : Requester} {j b a : ℕ} {bytes : List ℕ} {k : ℕ}
    (o : Overwrite s w who j b a bytes k) (inside : Inside s b a (length bytes))
  where
    abbrev i : ℕ
    i = board_of s who

    abbrev n : ℕ
    n = length bytes

    abbrev after : System
    after = next s w (Write who a bytes) k

    taken : On s (view s w.image) w.state w.ledger × Ranged s a n
    taken = write_agrees w who a bytes k (λ e. not_done e o.outcome) inv

    below : b < s.blocks
    below =
        let r = taken.1 in
        subst (λ c. c < s.blocks) (div_inside s.size b a inside.0 (omega (arith, inside, r)))
        (block_below s a (omega (arith, inside, r)) (omega (arith, r)))

    linked : after.ledger.links ≡ bind_boards link (write_binding s a n b) unlinked i j
    unfolding next update effect noted bind_blocks bind_tag unlinked size
    linked =
        let tag = sym (taken.0.tags b below) ∙ view_at s w.image Tags b below ∙ o.tag in
        let none = links_ext {e = unlinked} (λ c d. sym (ap (λ e. e c d) taken.0.links) ∙ o.no_links c d) in
        rw (o.outcome, touched_inside s b a n taken.1.some inside, tag, ne_eqb i j o.other, none)

    linked_whole : n ≡ s.size → after.ledger.links ≡ link unlinked j i
    unfolding write_binding bind_boards
    linked_whole e = linked ∙ rw (bounds_whole s a n b (omega (arith, inside)) (omega (arith, inside)))

    linked_short : n < s.size → after.ledger.links ≡ link (link unlinked i j) j i
    unfolding write_binding bind_boards
    linked_short l = linked ∙ rw (refute (whole s a n b) (λ e. omega (arith, whole_bounds s a n b e)))

    -- a fault of board c answers the boards that reach it along these links
    rolls : {d : Links} {Q : ℕ → Type 0} (c : ℕ) → after.ledger.links ≡ d → ((e : ℕ) → Chain d e c → Q e)
        → ((e : ℕ) → Q e → Chain d e c) → RollsBack after c Q
    rolls c same to from m v =
        let all = ((Invariant.step after (Invariant.step w inv (Write who a bytes) k).1 (Fault c) m).0 v).1 in
        let along = subst (λ d. Exactly (answer after (Fault c) m).reply.answer.group (λ e. Chain d e c)) same all in
        λ e. (λ h. to e ((along e).0 h), λ q. (along e).1 (from e q))

-- ---- who reaches whom along them

-- a chain is empty or begins where a link does
chain_begins : {d : Links} {Q : ℕ → Type 0} → ((a b : ℕ) → d a b ≡ true → Q a) → {a b : ℕ} → Chain d a b
    → (a ≡ b) ⊎ Q a
chain_begins h here = inl refl
chain_begins h (step e c) = inr (h _ _ e)

none_long : {d : Links} {a c : ℕ} → c ≡ a → Chain d c a
none_long {d} {a} e = subst (λ x. Chain d x a) (sym e) here

one_long : {d : Links} {a b c : ℕ} → c ≡ a → d a b ≡ true → Chain d c b
one_long {d} {b = b} e l = subst (λ x. Chain d x b) (sym e) (step l here)

module _ (i j : ℕ) where
  begins_one : (a b : ℕ) → link unlinked i j a b ≡ true → a ≡ i
  unfolding unlinked
  begins_one a b h = ⊎_elim (λ q. q.0) (λ h. clash h refl) (link_cases unlinked i j a b h)

  begins_two : (a b : ℕ) → link (link unlinked i j) j i a b ≡ true → (a ≡ i) ⊎ (a ≡ j)
  begins_two a b h = ⊎_elim (λ q. inr q.0) (λ h. inl (begins_one a b h)) (link_cases (link unlinked i j) j i a b h)

pub faults_after_overwrite : FaultsAfterOverwrite
faults_after_overwrite s image r m v calls who j b a bytes k o inside =
    let inv = invariant_at s image r m v calls in
    let i = board_of s who in (
      λ e.
          let same = linked_whole inv o inside e in
          let back = link_new unlinked j i in (
            rolls inv o inside j same (λ c h. ⊎_elim (λ q. q) (λ q. q) (chain_begins (begins_one j i) h))
                (λ c q. none_long q),
            rolls inv o inside i same (λ c h. chain_begins (begins_one j i) h)
                (λ c q. ⊎_elim none_long (λ z. one_long z back) q),
          ),
      λ l.
          let same = linked_short inv o inside l in
          let forth = link_old (link unlinked i j) j i i j (link_new unlinked i j) in
          let back = link_new (link unlinked i j) j i in (
            rolls inv o inside j same (λ c h. ⊎_elim inr (λ q. q) (chain_begins (begins_two i j) h))
                (λ c q. ⊎_elim (λ z. one_long z forth) none_long q),
            rolls inv o inside i same (λ c h. ⊎_elim inl (λ q. q) (chain_begins (begins_two i j) h))
                (λ c q. ⊎_elim none_long (λ z. one_long z back) q),
          ),
    )

pub single_cells : SingleCells
single_cells s image r m v calls who j a bytes k one o =
    let range = (write_agrees _ who a bytes k (λ e. not_done e o.outcome) (invariant_at s image r m v calls)).1 in
    let cell : a * s.size ≡ a = rw one (omega arith) in
    let inside : Inside s a a (length bytes) = (omega (arith, cell), omega (arith, cell, one, range)) in
    (faults_after_overwrite s image r m v calls who j a a bytes k o inside).0 (omega (arith, one, range))
