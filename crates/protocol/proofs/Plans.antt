-- The plans of calls that are not refused: their puts stand in their areas, and which of them decides.
use Prim.Native.Nat.{ℕ, suc, ◌+◌, ◌-◌, ◌*◌, ◌/◌, ◌%◌, ◌≤◌, ◌<◌}
use native.Mathlib.Nat.{le_refl}
use mathlib.Core.Path.{◌≡◌, refl, sym, ◌∙◌, ap}
use mathlib.Core.Bool.{Bool, true, false, ◌||◌, or_assoc}
use mathlib.Core.List.{List, [], ◌∷◌, ◌++◌, map, append-nil}
use mathlib.Core.Logic.{⊎_elim}
use lib.Dec.{eqb, ltb, leb}
use lib.ListN.{length, take}
use native.Mathlib.Omega.{arith}
use borrow.Author.Tests.{eq-eqb, eqb-true, eqb-false, ne_eqb, ltb-true, ltb-false, lt-ltb, le-ltb, leb-true, leb-false}
use Rattle.boards.specs.Lists.{any_of}
use Rattle.boards.specs.Boards.{tagged_in, tagged}
use Rattle.protocol.specs.Image.{Decision, Group, Tags, Current, Recovery, Tentative, Memory, Put, put, rank}
use Rattle.protocol.specs.Image.{size, after, cells, raw, shape_of, view}
use Rattle.protocol.specs.Accesses.{board_of, touched}
use Rattle.protocol.specs.Calls.{bad_range, stored_group, placing, tagging, completing, deciding, completed_first}
use Rattle.protocol.specs.Calls.{recovering, decides, acknowledging, plan, refusals}
use Rattle.protocol.specs.Calls.{Request, Read, Write, Start, Acknowledge, Fault, PowerUp, refusal_at}
use Rattle.protocol.specs.declared.Shape.{Shape}
use Rattle.boards.proofs.Basics.{decide, clash, All, none, also, all_append, all_cond, all_map, any_of_false}
use Rattle.boards.proofs.Basics.{or_right, all_take, take_append, false_and, row_fits}
use Rattle.volatile.specs.Volatile.{commit_of, acknowledge}
use Rattle.volatile.specs.declared.Record.{Record}
use Rattle.protocol.proofs.Refusals.{begun, write_passed, start_passed}
use Rattle.protocol.proofs.Refusals.{acknowledge_passed, power_passed}
use Rattle.protocol.proofs.Bridge.{Valid, Sound, limits, order_sound}
use Rattle.protocol.proofs.Copies.{Inside, placing_inside, blocks_inside, contexts_inside, current, recovery}
use Rattle.protocol.proofs.Safety.{block_below, announced, announced_length, announced_areas, stores_parts}
use Rattle.protocol.proofs.Safety.{deciding_stores, decision}
use Rattle.protocol.proofs.Outcomes.{decisive, made_decides}

-- ---- accesses

-- the cells of an access that is not refused
pub record Ranged (s : Shape) (a n : ℕ) : Type 0 where
  pub some : 0 < n
  pub few : n ≤ s.size
  pub within : a + n ≤ cells s

-- 2 holds for each of its reasons, and for no other
module _ (s : Shape) (a n : ℕ) where
  pub range_none : n ≡ 0 → bad_range s a n ≡ true
  unfolding bad_range
  range_none e = rw (eq-eqb n 0 e)

  pub range_long : s.size < n → bad_range s a n ≡ true
  unfolding bad_range
  range_long l = rw (lt-ltb s.size n l) (or_right (eqb n 0) refl)

  pub range_past : cells s < a + n → bad_range s a n ≡ true
  unfolding bad_range
  range_past l = rw (lt-ltb (cells s) (a + n) l) (or_right (eqb n 0) (or_right (ltb s.size n) refl))

  pub in_range : Ranged s a n → bad_range s a n ≡ false
  unfolding bad_range
  in_range r =
      rw (
        ne_eqb n 0 (λ e. omega (arith, e, r.some)),
        le-ltb s.size n r.few,
        le-ltb (cells s) (a + n) r.within,
      )

  pub ranged : bad_range s a n ≡ false → Ranged s a n
  ranged e =
      record {
        some = ⊎_elim (λ (z : eqb n 0 ≡ true). clash (range_none (eqb-true n 0 z)) e)
            (λ (z : eqb n 0 ≡ false). let positive = eqb-false n 0 z in omega arith)
            (decide (eqb n 0));
        few = ⊎_elim (λ (l : ltb s.size n ≡ true). clash (range_long (ltb-true s.size n l)) e)
            (λ (l : ltb s.size n ≡ false). ltb-false s.size n l)
            (decide (ltb s.size n));
        within = ⊎_elim (λ (l : ltb (cells s) (a + n) ≡ true). clash (range_past (ltb-true (cells s) (a + n) l)) e)
            (λ (l : ltb (cells s) (a + n) ≡ false). ltb-false (cells s) (a + n) l)
            (decide (ltb (cells s) (a + n)));
      }

pub touched_below : (s : Shape) (a n : ℕ) → 0 < s.size → Ranged s a n → All (λ b. b < s.blocks) (touched s a n)
unfolding touched
touched_below s a n positive r =
    let some = r.some in
    let within = r.within in
    let last : a + n - 1 < cells s = omega arith in
    also (block_below s a positive (omega arith))
    (all_cond (eqb (a / s.size) ((a + n - 1) / s.size)) (λ e. none)
    (λ e. also (block_below s (a + n - 1) positive last) none))

-- ---- puts in their areas

valid : {s : Shape} (p : Put) → Inside s p → Valid s p
valid p h = record { body = omega arith; within = h.inside }

pub inside_valid : {s : Shape} {ps : List Put} → All (Inside s) ps → All (Valid s) ps
inside_valid = all_map valid

tagging_inside : (s : Shape) (m : Memory) (i : ℕ) (bs : List ℕ) → All (λ b. b < s.blocks) bs
    → All (Inside s) (tagging m i bs)
unfolding tagging rank size
tagging_inside s m i [] none = none
tagging_inside s m i (b ∷ bs) (also h hs) =
    all_append
    (all_cond (eqb (m Tags b) (suc i)) (λ e. none) (λ e. also (record { past = omega arith; inside = h }) none))
    (tagging_inside s m i bs hs)

pub write_inside : (s : Shape) (m : Memory) (i a : ℕ) (bytes : List ℕ) → 0 < s.size → Ranged s a (length bytes)
    → All (Inside s) (tagging m i (touched s a (length bytes)) ++ placing Current a bytes)
unfolding rank size
write_inside s m i a bytes positive r =
    all_append
    (tagging_inside s m i (touched s a (length bytes)) (touched_below s a (length bytes) positive r))
    (placing_inside s Current a bytes (omega arith) r.within)

pub given_inside : (s : Shape) (i : ℕ) (bytes : List ℕ) → i < s.boards → length bytes ≡ s.context
    → All (Inside s) (placing Tentative (i * s.context) bytes)
unfolding rank size
given_inside s i bytes l e =
    placing_inside s Tentative (i * s.context) bytes (omega arith)
    (omega (arith, row_fits s.context s.boards i l))

decision_valid : (s : Shape) (v : ℕ) → Valid s (put Decision 0 v)
unfolding rank size
decision_valid s v = record { body = omega arith; within = omega arith }

pub group_valid : (s : Shape) (g : ℕ)
    → All (Valid s) (put Group 0 (g % 256) ∷ put Group 1 (g / 256) ∷ put Decision 0 1 ∷ [])
unfolding rank size
group_valid s g =
    also (half 0 (g % 256) (omega arith)) (also (half 1 (g / 256) (omega arith)) (also (decision_valid s 1) none))
  where
    half : (i v : ℕ) → i < 2 → Valid s (put Group i v)
    half i v l = record { body = omega arith; within = l }

-- what holds of each put past byte 9 and of byte 9 set to 0 holds of every put of a completion and of a power-up
module _ (s : Shape) (m : Memory) {P : Put → Type 0} (inside : (p : Put) → Inside s p → P p)
    (cleared : P (put Decision 0 0)) where
  all_completing : (g : ℕ) → All P (completing s m g)
  unfolding completing
  all_completing g =
      all_append (all_map inside (blocks_inside s m Current Recovery (tagged_in g) recovery))
      (all_append (all_map inside (contexts_inside s m g s.boards (le_refl _))) (also cleared none))

  all_first : All P (completed_first s m)
  unfolding completed_first
  all_first = all_cond (eqb (m Decision 0) 1) (λ e. all_completing (stored_group m)) (λ e. none)

  all_recovering : All P (recovering s m)
  unfolding recovering
  all_recovering =
      all_append all_first
      (all_map inside (blocks_inside s (after (completed_first s m) m) Recovery Current tagged current))

pub first_valid : (s : Shape) (m : Memory) → All (Valid s) (completed_first s m)
first_valid s m = all_first s m valid (decision_valid s 0)

pub recovering_valid : (s : Shape) (m : Memory) → All (Valid s) (recovering s m)
recovering_valid s m = all_recovering s m valid (decision_valid s 0)

pub deciding_valid : (s : Shape) (m : Memory) (g : ℕ) → All (Valid s) (deciding s m g)
unfolding deciding
deciding_valid s m g = all_append (group_valid s g) (all_completing s m valid (decision_valid s 0) g)

-- a context given, and with it perhaps the decision
pub acknowledging_valid : (s : Shape) (m : Memory) (r : Record) (i : ℕ) (context : List ℕ) → i < s.boards
    → length context ≡ s.context → All (Valid s) (acknowledging s m r i context).stores
unfolding acknowledging
acknowledging_valid s m r i context l full =
    let c = commit_of (acknowledge r i) i in
    let given = placing Tentative (i * s.context) context in
    all_append (inside_valid (given_inside s i context l full))
    (all_cond (eqb c.acknowledged c.members) (λ e. deciding_valid s (after given m) c.members) (λ e. none))

-- the puts of every call that is not refused, and its image
module _ (image : List ℕ) (r : Record) where
  abbrev shape : Shape
  shape = shape_of image

  abbrev memory : Memory
  memory = view shape image

  pub plan_valid : (request : Request) → refusal_at image r request ≡ 0
      → Sound shape image × All (Valid shape) (plan shape memory r request).stores
  unfolding refusals plan rank size
  plan_valid (Read who a n room) e = ((begun image r (board_of shape who) _ refl e).0.sound, none)
  plan_valid (Write who a bytes) e =
      let i = board_of shape who in
      let b = begun image r i _ refl e in
      let n = length bytes in
      let r = ranged shape a n (write_passed shape memory r who a n b.1).range in
      let blocks = touched_below shape a n (limits shape b.0.sound.allowed_shape).some_size r in
      let tags : (bs : List ℕ) → All (λ b. b < shape.blocks) bs → All (Valid shape) (tagging memory i bs) =
      λ bs h. inside_valid (tagging_inside shape memory i bs h) in
      let cells = inside_valid (placing_inside shape Current a bytes (omega arith) r.within) in
      -- in whichever order, and however many of them
      (b.0.sound, search (all_append, all_take))
  plan_valid (Start i context) e =
      let b = begun image r i _ refl e in
      let full = (start_passed shape r (length context) b.1).full in
      (b.0.sound, acknowledging_valid shape memory _ i context b.0.board full)
  plan_valid (Acknowledge i context) e =
      let b = begun image r i _ refl e in
      let full = (acknowledge_passed shape r i (length context) b.1).full in
      (b.0.sound, acknowledging_valid shape memory r i context b.0.board full)
  plan_valid (Fault i) e =
      let b = begun image r i [] refl (rw append-nil e) in
      (b.0.sound, inside_valid (blocks_inside shape memory Recovery Current _ current))
  plan_valid PowerUp e =
      ((order_sound (power_passed image shape memory e).ordered).0, recovering_valid shape memory)

-- ---- which put decides

pub any_of_append : {X : Type 0} (t : X → Bool) (xs ys : List X) → any_of t (xs ++ ys) ≡ any_of t xs || any_of t ys
unfolding any_of
any_of_append t [] ys = refl
any_of_append t (x ∷ xs) ys = ap (λ b. t x || b) (any_of_append t xs ys)
    ∙ sym (or_assoc (t x) (any_of t xs) (any_of t ys))

-- a put in its area that does not decide
record Quiet (s : Shape) (p : Put) : Type 0 where
  pub valid : Valid s p
  pub calm : decisive p ≡ false

quiet : {s : Shape} {ps : List Put} (k : ℕ) → All (Quiet s) ps → false ≡ any_of decides (take k (map (raw s) ps))
quiet {s} {ps} k h =
    sym (made_decides s k ps (all_map (λ p q. q.valid) h) ∙ any_of_false decisive (λ p q. q.calm) (all_take k h))

-- one past byte 9 does not
inside_calm : {s : Shape} (p : Put) → Inside s p → Quiet s p
unfolding decisive
inside_calm p h =
    record { valid = valid p h; calm = false_and (eqb p.value 1) (ne_eqb (rank p.area) 1 (λ e. omega arith)) }

pub inside_indecisive : {s : Shape} {ps : List Put} → All (Inside s) ps → any_of decisive ps ≡ false
inside_indecisive = any_of_false decisive (λ p h. (inside_calm p h).calm)

pub inside_quiet : (s : Shape) (k : ℕ) {ps : List Put} → All (Inside s) ps
    → false ≡ any_of decides (take k (map (raw s) ps))
inside_quiet s k h = quiet k (all_map inside_calm h)

-- nor does any of a power-up's
recovering_calm : (s : Shape) (m : Memory) → All (Quiet s) (recovering s m)
unfolding decisive rank
recovering_calm s m = all_recovering s m inside_calm (record { valid = decision_valid s 0; calm = refl })

pub recovering_quiet : (s : Shape) (m : Memory) (k : ℕ) → false ≡ any_of decides (take k (map (raw s) (recovering s m)))
recovering_quiet s m k = quiet k (recovering_calm s m)

module _ (s : Shape) (m : Memory) (i g : ℕ) (bytes : List ℕ) where
  announced_indecisive : (k : ℕ) → any_of decisive (take k (announced s m i g bytes)) ≡ false
  unfolding decisive rank
  announced_indecisive k =
      any_of_false decisive
      (λ p h. false_and (eqb p.value 1)
      (ne_eqb (rank p.area) 1 (λ e. ⊎_elim (λ f. omega arith) (λ f. omega arith) h)))
      (all_take k (announced_areas s m i g bytes))

  pub undecided_before : (k : ℕ) → k < length bytes + 3
      → any_of decisive (take k (deciding_stores s m i g bytes)) ≡ false
  undecided_before k l =
      let len = announced_length s m i g bytes in
      let none : k - length (announced s m i g bytes) ≡ 0 = omega arith in
      rw (
        stores_parts s m i g bytes,
        take_append k (announced s m i g bytes)
            (put Decision 0 1 ∷ completing s (decision s m i g bytes) g),
        none,
        append-nil,
      )
      (announced_indecisive k)

  pub decided_after : (k : ℕ) → length bytes + 3 ≤ k → any_of decisive (take k (deciding_stores s m i g bytes)) ≡ true
  unfolding any_of decisive rank
  decided_after k l =
      let len = announced_length s m i g bytes in
      let past : k - length (announced s m i g bytes) ≡ suc (k - (length bytes + 3)) = omega arith in
      rw (
        stores_parts s m i g bytes,
        take_append k (announced s m i g bytes)
            (put Decision 0 1 ∷ completing s (decision s m i g bytes) g),
        past,
        any_of_append,
      )
      (or_right (any_of decisive (take k (announced s m i g bytes))) refl)

  -- the stores of a commit decide if the third after the context is made
  pub decides_third : i < s.boards → length bytes ≡ s.context → (k : ℕ)
      → any_of decides (take k (map (raw s) (deciding_stores s m i g bytes))) ≡ leb (length bytes + 3) k
  decides_third board full k =
      let third = leb (length bytes + 3) k in
      made_decides s k _ (all_append (inside_valid (given_inside s i bytes board full)) (deciding_valid s _ g))
      ∙ ⊎_elim
      (λ (l : third ≡ true). decided_after k (leb-true _ _ l) ∙ sym l)
      (λ (l : third ≡ false). undecided_before k (leb-false _ _ l) ∙ sym l)
      (decide third)
