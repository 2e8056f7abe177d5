-- The stores of an acknowledgement are those of its plan; when they decide.
use Prim.Native.Nat.{ℕ, ◌+◌, ◌*◌, ◌/◌, ◌%◌, ◌≤◌, ◌<◌}
use mathlib.Core.Path.{◌≡◌, refl, sym, ◌∙◌, ap, subst}
use mathlib.Core.Bool.{true, false, not}
use mathlib.Core.List.{List, [], ◌∷◌, ◌++◌, map, append-nil}
use mathlib.Core.Logic.{⊎_elim, ◌≢◌}
use lib.Dec.{ltb, leb}
use lib.ListN.{length, take, length-map, length-append}
use native.Mathlib.Omega.{arith}
use borrow.Author.Tests.{eq-eqb, ne_eqb, ltb-true, ltb-false, lt-leb, le-leb}
use Rattle.boards.specs.Lists.{any_of}
use Rattle.protocol.specs.Image.{Decision, Group, Tentative, Memory, Put, put, raw, base, allowed, total, view}
use Rattle.protocol.specs.Image.{rank, change, after}
use Rattle.volatile.specs.Volatile.{commit_of, acknowledge, clear}
use Rattle.protocol.specs.Calls.{placing, copying, block_copied, blocks_copied, context_saved, completing, deciding}
use Rattle.protocol.specs.Calls.{acknowledging, decides}
use Rattle.protocol.specs.declared.Shape.{Shape}
use Rattle.volatile.specs.declared.Record.{Record}
use Rattle.boards.proofs.Basics.{decide, All}
use Rattle.protocol.proofs.Bridge.{Valid}
use Rattle.protocol.proofs.Copies.{length_placing}
use Rattle.protocol.proofs.Safety.{deciding_stores}
use Rattle.protocol.proofs.Plans.{given_inside, inside_valid, group_valid, inside_quiet, decides_third}
use Rattle.layout.proofs.Laws.{bounded}
use Rattle.store.specs.Budget.{Makes, WellBudget, one, start as whole}
use Rattle.store.specs.Runs.{put_stores}
use Rattle.store.specs.declared.Budget.{Budget}
use Rattle.store.specs.Puts.{Puts}
use Rattle.store.specs.Promise.{reply_of}
use Rattle.protocol.specs.Replies.{reply_says}
use Rattle.protocol.specs.declared.Reply.{Reply}
use Rattle.store.proofs.Laws.{well_start, makes_refused, makes_well, makes_length, makes_then}
use Rattle.store.proofs.Areas.{placing_stores}
use Rattle.store.proofs.Chains.{then_puts, then_reads}
use Rattle.store.proofs.Ends.{made_outcome, left_most}
use Rattle.blocks.proofs.Blocks.{context_fits}
use Rattle.decision.specs.Executed.{Executed}

-- ---- bytes 10, 11 and 9, and what follows them
abbrev group_puts : ℕ → List Put
group_puts g = put Group 0 (g % 256) ∷ put Group 1 (g / 256) ∷ put Decision 0 1 ∷ []

deciding_later : (s : Shape) (m : Memory) (g : ℕ)
    → group_puts g ++ completing s (after (group_puts g) m) g ≡ deciding s m g
unfolding deciding completing blocks_copied block_copied context_saved copying after change rank
deciding_later s m g = refl

pub announced : (s : Shape) (g : ℕ) {k r r' r'' : Budget} {x y z w : List ℕ} → Makes (one 10 (g % 256) ∷ []) k x r y
    → Makes (one 11 (g / 256) ∷ []) r y r' z → Makes (one 9 1 ∷ []) r' z r'' w
    → Puts s (group_puts g) k x r'' w
unfolding raw base
announced s g m n t = record { makes = makes_then m (makes_then n t) }

module _ {s : Shape} {x : List ℕ} (long : length x ≡ total s) {b : Budget} (well : WellBudget b) where
  -- a commit: the context, bytes 10, 11 and 9, the completion
  composed : (given : List Put) (g : ℕ) {r r' r'' : Budget} {y z w : List ℕ} → All (Valid s) given
      → Puts s given b x r y
      → Puts s (group_puts g) r y r' z
      → Puts s (completing s (view s z) g) r' z r'' w
      → Puts s (given ++ deciding s (after given (view s x)) g) b x r'' w
  composed given g {r} {r'' = r''} {y = y} {w = w} valid p q t =
      then_reads given (λ m. deciding s m g) long valid well p
      (subst (λ ps. Puts s ps r y r'' w) (deciding_later s (view s y) g)
      (then_reads (group_puts g) (λ m. completing s m g) (makes_length p.makes ∙ long) (group_valid s g)
      (makes_well p.makes well) q t))

-- ---- the context, and then the commit if all have acknowledged

-- board i's context stands within the tentative contexts
pub context_room : (s : Shape) (i : ℕ) → allowed s ≡ true → i < s.boards
    → (i * s.context + s.context ≤ 1024) × (base s Tentative + i * s.context + s.context ≤ total s)
    × (total s ≤ 35852)
unfolding base total
context_room s i h l =
    let b = bounded h in
    let f = context_fits s i l in
    (omega arith, omega arith, b.most_total)

pub given_puts : {s : Shape} (i : ℕ) (context : List ℕ) {at k : ℕ} {b : Budget} {x y : List ℕ}
    → at ≡ base s Tentative
    → Makes (put_stores (at + i * s.context) context) (whole k) x b y
    → Puts s (placing Tentative (i * s.context) context) (whole k) x b y
given_puts {s} i context e m =
    record { makes = rw (placing_stores s Tentative (i * s.context) _ context (ap (λ n. n + i * s.context) e)) m }

not_ltb : (a b : ℕ) → not (ltb a b) ≡ leb b a
not_ltb a b =
    ⊎_elim
    (λ (h : ltb a b ≡ true). ap not h ∙ sym (lt-leb b a (ltb-true a b h)))
    (λ (h : ltb a b ≡ false). ap not h ∙ sym (le-leb b a (ltb-false a b h)))
    (decide (ltb a b))

module _ {s : Shape} {x : List ℕ} (i : ℕ) (context : List ℕ) {k : ℕ} (board : i < s.boards)
    (full : length context ≡ s.context)
    {r : Record} (before : Record) (same : r ≡ acknowledge before i)
    {g : ℕ} (members : g ≡ (commit_of r i).members) {b : Budget} {y : List ℕ}
    (given : Puts s (placing Tentative (i * s.context) context) (whole k) x b y)
  where
    -- some have not: nothing is decided
    pub awaits : {reply : Reply} → reply_says reply ≡ reply_of k b false g r → (commit_of r i).acknowledged ≢ g
        → Executed s (acknowledging s (view s x) before i context) k x reply y
    unfolding acknowledging
    awaits f e =
        let ps = placing Tentative (i * s.context) context in
        let inside = given_inside s i context board full in
        let both = made_outcome g r [] false given.makes (inside_quiet s k inside) in
        rw (← same, ← members, ne_eqb _ _ e, append-nil) (record { reply = f ∙ both.0; image = both.1 })

    module _ {told : Budget} {z : List ℕ} (announced : Puts s (group_puts g) b y told z) where
      -- the commit is decided if the third store after the context was made
      decided : not told.cut ≡ any_of decides (take k (map (raw s) (deciding_stores s (view s x) i g context)))
      decided =
          let m = view s x in
          let ps = placing Tentative (i * s.context) context in
          let short : told.cut ≡ ltb k (length context + 3) =
          makes_refused (then_puts ps (group_puts g) given announced).makes
          ∙ ap (ltb k)
          (length-map (ps ++ group_puts g) (raw s) ∙ length-append ps (group_puts g)
          ∙ ap (λ n. n + 3) (length_placing Tentative (i * s.context) context))
          in
          ap not short ∙ not_ltb k (length context + 3) ∙ sym (decides_third s m i g context board full k)

      -- all have: the commit is decided and completed
      pub commits_all : {left : Budget} {w : List ℕ} {next : Record} {reply : Reply}
          → reply_says reply ≡ reply_of k left (not told.cut) g next → length x ≡ total s
          → (commit_of r i).acknowledged ≡ g → next ≡ clear r g
          → Puts s (completing s (view s z) g) told z left w
          → Executed s (acknowledging s (view s x) before i context) k x reply w
      unfolding acknowledging
      commits_all {next = next} h long e f completed =
          let ps = placing Tentative (i * s.context) context in
          let valid = inside_valid (given_inside s i context board full) in
          let all = composed long (well_start refl) ps g valid given announced completed in
          let both = made_outcome g next [] (not told.cut) all.makes decided in
          rw (← same, ← members, eq-eqb _ _ e, ← f) (record { reply = h ∙ both.0; image = both.1 })

-- what is left at the end is no more than there was
pub left_all : {s : Shape} {ps qs rs : List Put} {k : ℕ} {b b' b'' : Budget} {x y z w : List ℕ}
    → Puts s ps (whole k) x b y → Puts s qs b y b' z → Puts s rs b' z b'' w → b''.left ≤ k
left_all p q t = left_most refl (then_puts _ _ p (then_puts _ _ q t)).makes
