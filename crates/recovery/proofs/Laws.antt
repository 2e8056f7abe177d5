-- Power-up by its parts: its tests, the decision, the completion, and the rollback of all tagged blocks.
use Prim.Native.Nat.{ℕ, zero, suc, ◌+◌, ◌≤◌, ◌<◌}
use mathlib.Core.Path.{◌≡◌, refl, sym, ◌∙◌, ap, subst, fun_ext}
use mathlib.Core.Bool.{Bool, true, false, not, cond, ◌||◌}
use mathlib.Core.List.{List, ◌++◌}
use mathlib.Core.Logic.{⊎_elim}
use lib.Dec.{eqb, ltb}
use lib.ListN.{length, get_or}
use native.Mathlib.Omega.{arith}
use borrow.Author.Tests.{ltb-true, ltb-false, lt-ltb, le-ltb, ne_eqb}
use Rattle.std.specs.Prelude.{Option, Some, None}
use Rattle.std.specs.Bool.{MatchBool}
use Rattle.std.specs.List.{between, AllWithin, HoldsAt}
use Rattle.std.proofs.lemmas.List.Edits.{length-between, get_or-between}
use Rattle.boards.specs.Lists.{for, every}
use Rattle.boards.specs.Boards.{beyond, has, tagged, tagged_in}
use Rattle.protocol.specs.Image.{Tags, Current, Recovery, Memory, base, size, byte, view, after, in_order, shape_of}
use Rattle.protocol.specs.Image.{total}
use Rattle.protocol.specs.Calls.{PowerUp, first, power_tests, refusal_at, stored_group, bad_tags, bad_decision}
use Rattle.protocol.specs.Calls.{block_copied, blocks_copied, completing, completed_first, recovering, plan}
use Rattle.volatile.specs.Volatile.{fresh}
use Rattle.protocol.specs.declared.Shape.{Shape}
use Rattle.protocol.specs.Replies.{reply_says}
use Rattle.protocol.specs.declared.Reply.{Reply}
use Rattle.volatile.specs.declared.Record.{Record}
use Rattle.boards.proofs.Basics.{decide, any_none, none_any, some_any, every_at}
use Rattle.protocol.proofs.Order.{tags_low, first_low}
use Rattle.protocol.proofs.Plans.{first_valid, recovering_quiet}
use Rattle.store.specs.Budget.{start}
use Rattle.store.specs.declared.Budget.{Budget}
use Rattle.store.specs.Puts.{Puts}
use Rattle.store.specs.Promise.{Performed, reply_of}
use Rattle.store.proofs.Laws.{well_start}
use Rattle.store.proofs.Chains.{puts_none, then_reads}
use Rattle.store.proofs.Ends.{ended}
use Rattle.layout.proofs.Laws.{bounded, tag_read}
use Rattle.recovery.specs.Recoverable.{Recoverable, Decides}

-- the tests in their order, by what each answered
pub by_tests : {s : Shape} (x : List ℕ) {ordered tags decision : Bool} → in_order 1 x ≡ ordered → shape_of x ≡ s
    → tags ≡ bad_tags s (view s x) → decision ≡ bad_decision s (view s x)
    → first (power_tests x (shape_of x) (view (shape_of x) x))
    ≡ cond (not ordered) 11 (cond tags 11 (cond decision 11 0))
unfolding power_tests first
by_tests x e f g h = rw (e, f, ← g, ← h)

-- the tags as a part of the image, of which one is above P or none is
module _ (s : Shape) (x : List ℕ) (long : length x ≡ total s) where
  abbrev tags : List ℕ
  tags = between 12 (12 + s.blocks) x

  many : length tags ≡ s.blocks
  unfolding total
  many = omega (arith, length-between x 12 (12 + s.blocks) (omega arith))

  read : (b : ℕ) → b < s.blocks → view s x Tags b ≡ get_or tags b 0
  read b l = tag_read s x b l ∙ sym (get_or-between x 12 (12 + s.blocks) b 0 (omega arith))

  pub tags_tested : (r : Bool) → MatchBool r ((b : ℕ) × (b < length tags) × HoldsAt (λ t. s.boards < t) tags b)
      (AllWithin (λ t. t ≤ s.boards) tags 0 (length tags)) → r ≡ bad_tags s (view s x)
  unfolding bad_tags
  tags_tested true (b, l, h) =
      let within : b < s.blocks = omega (arith, many) in
      sym (some_any s.blocks _ b within (ap (ltb s.boards) (read b within) ∙ lt-ltb _ _ (h 0)))
  tags_tested false h =
      sym (none_any s.blocks _ (λ b l.
      ap (ltb s.boards) (read b l) ∙ le-ltb _ _ (h b 0 (omega arith) (omega (arith, many)))))

-- the decision that was read, as the tests and the plan see it
module _ (s : Shape) (x : List ℕ) {d : Option ℕ} (h : Decides x d) where
  pub nothing_bad : d ≡ None → false ≡ bad_decision s (view s x)
  unfolding bad_decision view base size
  nothing_bad e = rw (ne_eqb (byte x 9) 1 (subst (Decides x) e h))

  pub group_bad : {g : ℕ} {empty : Bool} → d ≡ Some g → eqb g 0 ≡ empty
      → empty || beyond s.boards g ≡ bad_decision s (view s x)
  unfolding bad_decision stored_group view base size
  group_bad e f = let both = subst (Decides x) e h in rw (both.0, ← both.1, f)

  pub nothing_first : {b : Budget} → d ≡ None → Puts s (completed_first s (view s x)) b x b x
  unfolding completed_first view base size
  nothing_first e = rw (ne_eqb (byte x 9) 1 (subst (Decides x) e h)) (puts_none s _ x)

  pub group_first : {g : ℕ} {b r : Budget} {y : List ℕ} → d ≡ Some g → Puts s (completing s (view s x) g) b x r y
      → Puts s (completed_first s (view s x)) b x r y
  unfolding completed_first stored_group view base size
  group_first e p = let both = subst (Decides x) e h in rw (both.0, ← both.1) p

-- ---- all blocks that have a tag are those tagged in the set of all boards

all_tagged : (t : ℕ) → t ≤ 16 → tagged_in 65535 t ≡ tagged t
unfolding tagged tagged_in every has
all_tagged zero l = refl
all_tagged (suc j) l = every_at 16 (has 65535) refl j l

tags_all : (s : Shape) (m : Memory) → ((b : ℕ) → m Tags b ≤ 16)
    → blocks_copied s m Recovery Current (tagged_in 65535) ≡ blocks_copied s m Recovery Current tagged
unfolding blocks_copied block_copied
tags_all s m small = ap (for s.blocks) (fun_ext (λ b. rw (all_tagged (m Tags b) (small b))))

-- no tag is above P, nor past the last block
tags_few : (s : Shape) (x : List ℕ) → bad_tags s (view s x) ≡ false → (b : ℕ) → view s x Tags b ≤ s.boards
unfolding bad_tags view size
tags_few s x h b =
    ⊎_elim
    (λ l. ltb-false s.boards (view s x Tags b) (any_none s.blocks _ h b (ltb-true b s.blocks l)))
    (λ (l : ltb b s.blocks ≡ false). rw l (omega arith))
    (decide (ltb b s.blocks))

-- a power-up that is taken: the completion, then the rollback of the blocks tagged in the set of all boards
pub power_done : {s : Shape} {x y z : List ℕ} (state : Record) {k : ℕ} {b r left : Budget} {next : Record}
    {reply : Reply} → Recoverable x s → refusal_at x state PowerUp ≡ 0 → next ≡ fresh → b ≡ start k
    → Puts s (completed_first s (view s x)) b x r y
    → Puts s (blocks_copied s (view s y) Recovery Current (tagged_in 65535)) r y left z
    → reply_says reply ≡ reply_of k left false 0 next → Performed PowerUp k x state reply z
unfolding plan recovering
power_done {s} {x} {z = z} state {k} {b} {left = left} h n f new p q e =
    let m = view s x in
    let done = completed_first s m in
    let most = (bounded h.shaped.allowed_shape).limits.most_boards in
    let same = tags_all s (after done m)
    (λ c. omega (arith, tags_low (first_low s m) m c (tags_few s x h.tags c))) in
    let both = then_reads done (λ n. blocks_copied s n Recovery Current (tagged_in 65535)) h.shaped.long
    (first_valid s m) (well_start new) p q in
    let puts = subst (λ ps. Puts s (done ++ ps) b x left z) same both in
    ended state PowerUp h.shaped.shape n new puts.makes (recovering_quiet s m k) refl f e
