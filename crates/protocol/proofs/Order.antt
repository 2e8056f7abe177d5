-- What a done call leaves in order: header, record and tags; that where they are so no call is refused by 11 or 12;
-- and both at every point of a list.
use Prim.Native.Nat.{ℕ, zero, suc, ◌*◌, ◌^◌, ◌≤◌, ◌<◌}
use mathlib.Core.Path.{◌≡◌, refl, sym, ◌∙◌, ap, subst}
use mathlib.Core.Bool.{Bool, true, false, ◌&&◌, ◌||◌, not}
use mathlib.Core.List.{List, [], ◌∷◌, ◌++◌, map, append-nil}
use mathlib.Core.Logic.{⊎_elim, ◌≢◌, ◌⊎◌, inl, inr}
use lib.Dec.{eqb, ltb, leb}
use lib.ListN.{length}
use lib.Pow.{pow_pos}
use native.Mathlib.Omega.{arith}
use borrow.Author.Tests.{eqb-true, eqb-false, ltb-false, le-ltb, ltb-true}
use Rattle.boards.specs.Lists.{any_of, any}
use Rattle.boards.specs.Boards.{has, with_board, meets, tagged_in, tagged, commit_group, fault_group}
use Rattle.protocol.specs.Image.{Area, Decision, Group, Tags, Current, Recovery, Tentative, Checkpoint, Memory}
use Rattle.protocol.specs.Image.{Put, put, rank, change, after, byte, shape_of, view, size}
use Rattle.volatile.specs.Volatile.{closed, fresh, depends, engaged, commit_of, left_open, depend, clear, opened}
use Rattle.volatile.specs.Volatile.{acknowledge, bad_record, off}
use Rattle.protocol.specs.Accesses.{touched, bind_boards, bind_tag, bind_blocks}
use Rattle.protocol.specs.declared.Binding.{Binding}
use Rattle.protocol.specs.declared.Binding.TheVariants.{OneWay, TwoWay, Opposite}
use Rattle.protocol.specs.Accesses.{board_of, read_binding, write_binding}
use Rattle.protocol.specs.Calls.{Request, Read, Write, Start, Acknowledge, Fault, PowerUp, Test, first}
use Rattle.protocol.specs.Calls.{refusals, entry_tests, read_tests, write_tests, start_tests, acknowledge_tests}
use Rattle.protocol.specs.Calls.{bad_tags, stored_group, placing, tagging, blocks_copied, completing, deciding}
use Rattle.protocol.specs.Calls.{completed_first, recovering, acknowledging, Plan, plan, perform, refusal_at}
use Rattle.protocol.specs.Ledger.{done, Verdict, refused, cut}
use Rattle.protocol.specs.Claim.{verdict, System, waits, answer, next, Answers}
use Rattle.protocol.specs.Demand1.{LeftInOrder, OrderKept}
use Rattle.protocol.specs.declared.Shape.{Shape}
use Rattle.protocol.specs.declared.Requester.{Requester}
use Rattle.volatile.specs.declared.Record.{Record}
use Rattle.boards.proofs.Basics.{decide, clash, and_true, any_none, none_any, All, none, also, all_append, all_cond}
use Rattle.boards.proofs.Basics.{all_map, or_false, false_or, or_right, true_or, eqb_same}
use Rattle.boards.proofs.Groups.{has_below, has_zero, has_with, mask_below, meets_yes, commit_group_self}
use Rattle.boards.proofs.Groups.{commit_group_within}
use Rattle.volatile.proofs.Order.{Orderly, orderly, orderly_record, MayAcknowledge}
use Rattle.volatile.proofs.Order.{order_opened, rows_within}
use Rattle.volatile.proofs.Order.{depend_order, clear_order, fresh_order, awaiting_order}
use Rattle.protocol.proofs.Refusals.{Clear, not_held, other_number, first_clear}
use Rattle.protocol.proofs.Refusals.{begun, read_passed, write_passed, start_passed}
use Rattle.protocol.proofs.Refusals.{acknowledge_passed, power_passed}
use Rattle.protocol.proofs.Memory.{after_append, untouched}
use Rattle.protocol.proofs.Bridge.{Sound, Limits, limits, board_small, order_sound}
use Rattle.protocol.proofs.Bridge.{in_order_sound, view_decision}
use Rattle.protocol.proofs.Copies.{Inside, all_placing, all_blocks, all_contexts, blocks_inside, current}
use Rattle.protocol.proofs.Safety.{completed, decision, decision_done, idle}
use Rattle.protocol.proofs.Demand1.{cut_off, refused_record, same_record}
use Rattle.protocol.proofs.Outcomes.{status_test, refused_as}
use Rattle.protocol.proofs.Outcomes.{Result, turned_away, stopped, finished, result, not_done, cut_not_done}
use Rattle.protocol.proofs.Plans.{plan_valid, ranged, write_inside, given_inside}
use Rattle.protocol.proofs.Steps.{commit_binds}
use Rattle.protocol.proofs.Consistent.{writer_below}
use Rattle.protocol.proofs.Agreement.{On, on_idle}
use Rattle.protocol.proofs.Invariant.{Invariant, up, down, power_taken}

-- ---- tags

-- a put that sets no tag above p
pub record LowPut (p : ℕ) (q : Put) : Type 0 where
  low : rank q.area ≡ rank Tags → q.value ≤ p

pub tags_low : {p : ℕ} {ps : List Put} → All (LowPut p) ps → (m : Memory) (b : ℕ) → m Tags b ≤ p
    → after ps m Tags b ≤ p
unfolding after change
tags_low none m b l = l
tags_low (also {x = q} t ts) m b l =
    tags_low ts (change m q) b
    (⊎_elim
    (λ (e : eqb (rank q.area) (rank Tags) && eqb q.index b ≡ true).
    rw e (t.low (eqb-true _ _ (and_true (eqb (rank q.area) (rank Tags)) (eqb q.index b) e).0)))
    (λ (e : eqb (rank q.area) (rank Tags) && eqb q.index b ≡ false). rw e l)
    (decide (eqb (rank q.area) (rank Tags) && eqb q.index b)))

low_put : {p v : ℕ} (a : Area) {i : ℕ} → rank a ≢ rank Tags → LowPut p (put a i v)
low_put a h = record { low = λ e. absurd (h e) }

zero_low : {p b : ℕ} → LowPut p (put Tags b 0)
zero_low = record { low = λ e. omega arith }

blocks_low : {p : ℕ} (s : Shape) (m : Memory) (from to : Area) (chosen : ℕ → Bool) → rank to ≢ rank Tags
    → All (LowPut p) (blocks_copied s m from to chosen)
blocks_low s m from to chosen h = all_blocks s m from to chosen (λ b x v l e k. low_put to h) (λ b l e. zero_low)

completing_low : {p : ℕ} (s : Shape) (m : Memory) (g : ℕ) → All (LowPut p) (completing s m g)
unfolding completing rank
completing_low s m g =
    all_append (blocks_low s m Current Recovery (tagged_in g) (omega arith))
    (all_append (all_contexts s m g (λ i x v l e k. low_put Checkpoint (omega arith)))
    (also (low_put Decision (omega arith)) none))

pub first_low : {p : ℕ} (s : Shape) (m : Memory) → All (LowPut p) (completed_first s m)
unfolding completed_first
first_low s m = all_cond (eqb (m Decision 0) 1) (λ e. completing_low s m (stored_group m)) (λ e. none)

deciding_low : {p : ℕ} (s : Shape) (m : Memory) (g : ℕ) → All (LowPut p) (deciding s m g)
unfolding deciding rank
deciding_low s m g =
    also (low_put Group (omega arith))
    (also (low_put Group (omega arith)) (also (low_put Decision (omega arith)) (completing_low s m g)))

tagging_low : {p i : ℕ} → i < p → (m : Memory) (bs : List ℕ) → All (LowPut p) (tagging m i bs)
unfolding tagging
tagging_low l m [] = none
tagging_low {i = i} l m (b ∷ bs) =
    all_append
    (all_cond (eqb (m Tags b) (suc i)) (λ e. none) (λ e. also (record { low = λ r. l }) none))
    (tagging_low l m bs)

-- puts past the header's areas leave the decision
inside_undecided : {s : Shape} {ps : List Put} → All (Inside s) ps → (m : Memory) → after ps m Decision 0 ≡ m Decision 0
unfolding rank
inside_undecided h m = untouched (all_map (λ p i. record { apart = λ r e. omega arith }) h) m

-- ---- the plan of a call that is not refused

record KeepsOrder (s : Shape) (m : Memory) (p : Plan) : Type 0 where
  undecided : after p.stores m Decision 0 ≡ 0
  tags : All (LowPut s.boards) p.stores
  state : Orderly s.boards p.next
  small : p.next.commit.acknowledged < 2 ^ 16

-- the commit that is left when boards are cleared
left_small : (r : Record) (g : ℕ) → r.commit.acknowledged < 2 ^ 16 → (clear r g).commit.acknowledged < 2 ^ 16
unfolding clear left_open closed
left_small r g l =
    ⊎_elim
    (λ (e : meets r.commit.members (has g) ≡ true). rw e (pow_pos 16))
    (λ (e : meets r.commit.members (has g) ≡ false). rw e l)
    (decide (meets r.commit.members (has g)))

-- blocks bound, of which no tag is above p
tie_order : {p i j : ℕ} → i < p → j < p → i ≢ j → (how : Binding) (r : Record) → Orderly p r
    → Orderly p (bind_boards depend how r i j)
unfolding bind_boards
tie_order l k apart OneWay r o = depend_order r l k apart o
tie_order {i = i} {j} l k apart TwoWay r o =
    depend_order (depend r i j) k l (λ q. apart (sym q)) (depend_order r l k apart o)
tie_order l k apart Opposite r o = depend_order r k l (λ q. apart (sym q)) o

bind_order : {p i : ℕ} → i < p → (how : Binding) (r : Record) (t : ℕ) → t ≤ p → Orderly p r
    → Orderly p (bind_tag depend how r i t)
unfolding bind_tag
bind_order l how r zero k o = o
bind_order {i = i} l how r (suc j) k o =
    ⊎_elim
    (λ (e : eqb i j ≡ true). rw e o)
    (λ (e : eqb i j ≡ false). rw e (tie_order l k (eqb-false i j e) how r o))
    (decide (eqb i j))

binds_order : {p i : ℕ} → i < p → (how : ℕ → Binding) (tag : ℕ → ℕ) (r : Record) (bs : List ℕ)
    → All (λ b. tag b ≤ p) bs → Orderly p r → Orderly p (bind_blocks depend how tag r i bs)
unfolding bind_blocks
binds_order l how tag r [] none o = o
binds_order {i = i} l how tag r (b ∷ bs) (also k ks) o =
    binds_order l how tag (bind_tag depend (how b) r i (tag b)) bs ks (bind_order l (how b) r (tag b) k o)

low_tags : {p : ℕ} (tag : ℕ → ℕ) (bs : List ℕ) → any_of (ltb p) (map tag bs) ≡ false → All (λ b. tag b ≤ p) bs
unfolding any_of
low_tags tag [] e = none
low_tags {p} tag (b ∷ bs) e =
    let both = or_false (ltb p (tag b)) (any_of (ltb p) (map tag bs)) e in
    also (ltb-false p (tag b) both.0) (low_tags tag bs both.1)

module _ (s : Shape) (m : Memory) (r : Record) (limit : Limits s) (undecided : m Decision 0 ≡ 0) where
  abbrev P : ℕ
  P = s.boards

  -- ---- accesses

  access_state : {i : ℕ} → i < P → (how : ℕ → Binding) (bs : List ℕ) → any_of (ltb P) (map (m Tags) bs) ≡ false
      → Orderly P r → Orderly P (bind_blocks depend how (m Tags) r i bs)
  access_state l how bs tags o = binds_order l how (m Tags) r bs (low_tags (m Tags) bs tags) o

  read_keeps : (who : Requester) (a n room : ℕ) → board_of s who < P → Orderly P r → r.commit.acknowledged < 2 ^ 16
      → first (read_tests s m r who a n room) ≡ 0 → KeepsOrder s m (plan s m r (Read who a n room))
  unfolding plan after
  read_keeps who a n room l o small e =
      let p = read_passed s m r who a n room e in
      record {
        undecided = undecided;
        tags = none;
        state = access_state l read_binding (touched s a n) p.tags o;
        small = rw (commit_binds read_binding (m Tags) r (board_of s who) (touched s a n)) small;
      }

  write_keeps : (who : Requester) (a : ℕ) (bytes : List ℕ) → board_of s who < P → Orderly P r
      → r.commit.acknowledged < 2 ^ 16 → first (write_tests s m r who a (length bytes)) ≡ 0
      → KeepsOrder s m (plan s m r (Write who a bytes))
  unfolding plan rank
  write_keeps who a bytes l o small e =
      let i = board_of s who in
      let n = length bytes in
      let p = write_passed s m r who a n e in
      let inside = write_inside s m i a bytes limit.some_size (ranged s a n p.range) in
      record {
        undecided = inside_undecided inside m ∙ undecided;
        tags =
            all_append (tagging_low l m (touched s a n))
            (all_placing Current a bytes (λ x v k. low_put Current (omega arith)));
        state = access_state l (write_binding s a n) (touched s a n) p.tags o;
        small = rw (commit_binds (write_binding s a n) (m Tags) r i (touched s a n)) small;
      }

  -- ---- a fault

  fault_keeps : (i : ℕ) → Orderly P r → r.commit.acknowledged < 2 ^ 16 → KeepsOrder s m (plan s m r (Fault i))
  unfolding plan rank
  fault_keeps i o small =
      let g = fault_group (depends r) i in
      let inside = blocks_inside s m Recovery Current (tagged_in g) current in
      record {
        undecided = inside_undecided inside m ∙ undecided;
        tags = blocks_low s m Recovery Current (tagged_in g) (omega arith);
        state = clear_order P r g o.on o.rows (λ e. o.commit);
        small = left_small r g small;
      }

  -- ---- a context given

  module _ {i : ℕ} (l : i < P) {before : Record} (a : MayAcknowledge P i before) (context : List ℕ)
      (full : length context ≡ s.context) where
    abbrev acks : ℕ
    acks = with_board before.commit.acknowledged i

    abbrev g : ℕ
    g = before.commit.members

    abbrev given : List Put
    given = placing Tentative (i * s.context) context

    small_acks : acks < 2 ^ 16
    small_acks = mask_below 16 (λ j. has before.commit.acknowledged j || eqb i j)

    given_undecided : after given m Decision 0 ≡ 0
    given_undecided = inside_undecided (given_inside s i context l full) m ∙ undecided

    given_keeps : KeepsOrder s m (acknowledging s m before i context)
    unfolding acknowledging acknowledge commit_of rank
    given_keeps =
        ⊎_elim
        (λ (e : eqb acks g ≡ true).
        rw e
        (record {
          undecided =
              ap (λ n. n Decision 0) (decision_done s m i g context)
              ∙ (completed s limit.some_size (decision s m i g context) g).undecided;
          tags = all_append given_low (deciding_low s (after given m) g);
          state = clear_order P (acknowledge before i) g a.on a.rows (λ e. clash meets_itself e);
          small = left_small (acknowledge before i) g small_acks;
        }))
        (λ (e : eqb acks g ≡ false).
        rw (e, append-nil)
        (record {
          undecided = given_undecided;
          tags = given_low;
          state = awaiting_order a (eqb-false acks g e);
          small = small_acks;
        }))
        (decide (eqb acks g))
      where
        given_low : All (LowPut P) given
        given_low = all_placing Tentative (i * s.context) context (λ x v k. low_put Tentative (omega arith))

        meets_itself : meets g (has g) ≡ true
        meets_itself = meets_yes g (has g) i (board_small limit l) a.member a.member

  start_may : {i : ℕ} → i < P → Orderly P r → MayAcknowledge P i (opened r i (commit_group (depends r) i))
  unfolding opened depends
  start_may {i} l o =
      let small = board_small limit l in
      record {
        on = o.on;
        rows = o.rows;
        member = commit_group_self (depends r) i small;
        below =
            λ j k. commit_group_within (depends r) i l
            (λ a b x y e. ((rows_within P r.rows o.rows).ends a b x y e).1) j;
        inside = λ j k h. clash h (has_zero j);
        starter = has_with 0 i i small ∙ or_right (has 0 i) (eqb_same i);
      }

  -- the record of an acknowledgement that is not refused has its commit open
  acknowledge_may : {i : ℕ} → i < P → Orderly P r → r.commit.acknowledged < 2 ^ 16
      → has r.commit.members i ≡ true → MayAcknowledge P i r
  acknowledge_may {i} l o small member =
      let c = r.commit in
      let some : c.members ≢ 0 = λ z. clash member (ap (λ g. has g i) z ∙ has_zero i) in
      let began = order_opened P c small some o.commit in
      let k = has_below 16 c.acknowledged c.starter small began.starter in
      record {
        on = o.on;
        rows = o.rows;
        member = member;
        below = began.below;
        inside = began.inside;
        starter = has_with c.acknowledged i c.starter k ∙ true_or (eqb i c.starter) began.starter;
      }

-- ---- power-up

first_undecided : (s : Shape) (m : Memory) → Limits s → m Decision 0 ≤ 1 → after (completed_first s m) m Decision 0 ≡ 0
unfolding completed_first after
first_undecided s m limit few =
    ⊎_elim
    (λ (e : eqb (m Decision 0) 1 ≡ true). rw e (completed s limit.some_size m (stored_group m)).undecided)
    (λ (e : eqb (m Decision 0) 1 ≡ false). rw e (let q = eqb-false (m Decision 0) 1 e in omega arith))
    (decide (eqb (m Decision 0) 1))

power_keeps : (s : Shape) (m : Memory) (r : Record) → Limits s → m Decision 0 ≤ 1
    → KeepsOrder s m (plan s m r PowerUp)
unfolding plan recovering completed_first rank fresh closed
power_keeps s m r limit few =
    let done = completed_first s m in
    let rest = blocks_copied s (after done m) Recovery Current tagged in
    record {
      undecided =
          ap (λ n. n Decision 0) (after_append done rest m)
          ∙ inside_undecided (blocks_inside s (after done m) Recovery Current tagged current) (after done m)
          ∙ first_undecided s m limit few;
      tags =
          all_append (first_low s m) (blocks_low s (after done m) Recovery Current tagged (omega arith));
      state = fresh_order s.boards;
      small = pow_pos 16;
    }

-- ---- every call

module _ (image : List ℕ) (r : Record) (small : r.commit.acknowledged < 2 ^ 16) where
  abbrev s : Shape
  s = shape_of image

  abbrev m : Memory
  m = view s image

  -- what a board's call that is not refused has passed
  record Passed (i : ℕ) (ts : List Test) : Type 0 where
    limit : Limits s
    undecided : m Decision 0 ≡ 0
    state : Orderly s.boards r
    board : i < s.boards
    own : first ts ≡ 0

  passed_first : (i : ℕ) (ts : List Test) → first (entry_tests image r i ++ ts) ≡ 0 → Passed i ts
  passed_first i ts e =
      let b = begun image r i ts refl e in
      record {
        limit = limits s b.0.sound.allowed_shape;
        undecided = view_decision b.0.sound ∙ omega (arith, (order_sound b.0.ordered).1);
        state = orderly s.boards r b.0.recorded;
        board = b.0.board;
        own = b.1;
      }

  plan_keeps : (request : Request) → refusal_at image r request ≡ 0 → KeepsOrder s m (plan s m r request)
  unfolding refusals plan engaged
  plan_keeps (Read who a n room) e =
      let p = passed_first (board_of s who) (read_tests s m r who a n room) e in
      read_keeps s m r p.limit p.undecided who a n room p.board p.state small p.own
  plan_keeps (Write who a bytes) e =
      let p = passed_first (board_of s who) (write_tests s m r who a (length bytes)) e in
      write_keeps s m r p.limit p.undecided who a bytes p.board p.state small p.own
  plan_keeps (Start i context) e =
      let p = passed_first i (start_tests s r (length context)) e in
      given_keeps s m r p.limit p.undecided p.board
      (start_may s m r p.limit p.undecided p.board p.state) context
      (start_passed s r (length context) p.own).full
  plan_keeps (Acknowledge i context) e =
      let p = passed_first i (acknowledge_tests s r i (length context)) e in
      let q = acknowledge_passed s r i (length context) p.own in
      given_keeps s m r p.limit p.undecided p.board
      (acknowledge_may s m r p.limit p.undecided p.board p.state small q.member) context q.full
  plan_keeps (Fault i) e =
      let p = passed_first i [] (rw append-nil e) in
      fault_keeps s m r p.limit p.undecided i p.state small
  plan_keeps PowerUp e =
      let sound = order_sound (power_passed image s m e).ordered in
      let few : m Decision 0 ≤ 1 = omega (arith, view_decision sound.0, sound.1) in
      power_keeps s m r (limits s sound.0.allowed_shape) few

-- where a call is not answered refused, no test of it holds
pub not_turned_down : (image : List ℕ) (r : Record) (request : Request) (k : ℕ)
    → verdict (perform image r request k) ≢ refused → refusal_at image r request ≡ 0
not_turned_down image r request k v =
    let n = refusal_at image r request in
    ⊎_elim
    (λ (e : eqb n 0 ≡ true). eqb-true n 0 e)
    (λ (e : eqb n 0 ≡ false). absurd (v (refused_as image refl r request (eqb-false n 0 e) k)))
    (decide (eqb n 0))

pub done_taken : (image : List ℕ) (r : Record) (request : Request) (k : ℕ) → verdict (perform image r request k) ≡ done
    → refusal_at image r request ≡ 0
done_taken image r request k v = not_turned_down image r request k (λ e. not_done e v)

pub order_kept : OrderKept
unfolding bad_tags
order_kept image r request k small v =
    let e = done_taken image r request k v in
    let valid = plan_valid image r request e in
    ends (plan_keeps image r small request e) (result valid.0 r request k (λ e. valid.1))
  where
    s : Shape
    s = shape_of image

    tags : {n : Memory} → All (LowPut s.boards) (plan s (view s image) r request).stores
        → n ≡ after (plan s (view s image) r request).stores (view s image)
        → any s.blocks (λ b. ltb s.boards (view s image Tags b)) ≡ false
        → any s.blocks (λ b. ltb s.boards (n Tags b)) ≡ false
    tags low e before =
        none_any s.blocks _ (λ b l.
        let was = ltb-false s.boards (view s image Tags b) (any_none s.blocks _ before b l) in
        rw e (le-ltb s.boards _ (tags_low low (view s image) b was)))

    ends : KeepsOrder s (view s image) (plan s (view s image) r request) → Result s image r request k
        → LeftInOrder s image (perform image r request k)
    ends p (turned_away w a b c e) = not_done w v
    ends p (stopped e f) = cut_not_done f.ended v
    ends p (finished e l f) =
        record {
          same_shape = f.sound.shape;
          header =
              in_order_sound s _ f.sound 0
              ∙ ap (λ n. leb n 0) (sym (view_decision f.sound) ∙ ap (λ n. n Decision 0) f.memory ∙ p.undecided);
          state = ap (bad_record s.boards) f.next ∙ orderly_record p.state;
          small = rw f.next p.small;
          tags = tags p.tags f.memory;
        }

-- ---- where all is in order no call is refused by 11 or 12

-- the numbers of the refusals that come from the state of image and record
unfoldable pub of_state : ℕ → Bool
of_state n = eqb n 11 || eqb n 12

module _ {s : Shape} {image : List ℕ} (r : Record) (h : Sound s image) (undecided : byte image 9 ≡ 0)
    (state : bad_record s.boards r ≡ false) (tags : (b : ℕ) → view s image Tags b ≤ s.boards) where
  entry_clear : (i : ℕ) → All (Clear of_state) (entry_tests image r i)
  unfolding entry_tests of_state
  entry_clear i =
      also (not_held (ap not (in_order_sound s image h 0 ∙ ap (λ n. leb n 0) undecided)))
      (also (not_held (ap (λ t. bad_record t.boards r) h.shape ∙ state))
      (also (other_number refl) none))

  touched_low : (bs : List ℕ) → any_of (ltb s.boards) (map (view s image Tags) bs) ≡ false
  unfolding any_of
  touched_low [] = refl
  touched_low (b ∷ bs) = false_or (le-ltb s.boards (view s image Tags b) (tags b)) (touched_low bs)

  pub otherwise_refused : first (refusals image s (view s image) r PowerUp) ≡ 0 → (request : Request)
      → of_state (first (refusals image s (view s image) r request)) ≡ false
  unfolding refusals read_tests write_tests start_tests acknowledge_tests of_state
  otherwise_refused power (Read who a n room) =
      first_clear refl
      (all_append (entry_clear (board_of s who))
      (also (other_number refl)
      (also (other_number refl)
      (also (other_number refl) (also (not_held (touched_low (touched s a n))) (also (other_number refl) none))))))
  otherwise_refused power (Write who a bytes) =
      first_clear refl
      (all_append (entry_clear (board_of s who))
      (also (other_number refl)
      (also (other_number refl)
      (also (not_held (touched_low (touched s a (length bytes)))) (also (other_number refl) none)))))
  otherwise_refused power (Start i context) =
      first_clear refl (all_append (entry_clear i) (also (other_number refl) (also (other_number refl) none)))
  otherwise_refused power (Acknowledge i context) =
      first_clear refl
      (all_append (entry_clear i) (also (other_number refl) (also (other_number refl) (also (other_number refl) none))))
  otherwise_refused power (Fault i) = first_clear refl (entry_clear i)
  otherwise_refused power PowerUp = ap of_state power

pub state_numbers : (n : ℕ) → of_state n ≡ false → (n ≢ 11) × (n ≢ 12)
unfolding of_state
state_numbers n e =
    let both = or_false (eqb n 11) (eqb n 12) e in
    (eqb-false n 11 both.0, eqb-false n 12 both.1)

-- ---- at every point of a list

-- beside the invariant, of the record: the acknowledged boards are sixteen bits, and while no cut waits test 12 is
-- passed
pub record Ready (s : Shape) (w : System) : Type 0 where
  pub small : w.state.commit.acknowledged < 2 ^ 16
  pub state : w.waiting ≡ false → bad_record s.boards w.state ≡ false

module _ {s : Shape} (w : System) (h : Sound s w.image) (on : On s (view s w.image) w.state w.ledger) where
  tags_in_order : (b : ℕ) → view s w.image Tags b ≤ s.boards
  unfolding view size
  tags_in_order b =
      ⊎_elim
      (λ (e : ltb b s.blocks ≡ true).
      subst (λ t. t ≤ s.boards) (sym (on.tags b (ltb-true b s.blocks e)))
      (writer_below s w.ledger.notes on.consistent.boards b))
      (λ (e : ltb b s.blocks ≡ false). rw e (omega arith))
      (decide (ltb b s.blocks))

  -- no call is refused for the state of image or record
  pub no_state_refusal : bad_record s.boards w.state ≡ false → (request : Request) (k : ℕ)
      → ((answer w request k).reply.answer.status ≢ 11) × ((answer w request k).reply.answer.status ≢ 12)
  unfolding answer of_state
  no_state_refusal r request k =
      let calm = idle (on_idle (limits s h.allowed_shape).some_size on) in
      let zero = sym (view_decision h) ∙ on.undecided in
      let tests = otherwise_refused w.state h zero r tags_in_order (power_taken h w.state calm) request in
      state_numbers _
      (status_test of_state refl refl w.image w.state request k
      ∙ subst (λ t. of_state (first (refusals w.image t (view t w.image) w.state request)) ≡ false)
      (sym h.shape) tests)

verdicts : (v : Verdict) → (v ≡ done) ⊎ ((v ≡ cut) ⊎ (v ≡ refused))
verdicts done = inl refl
verdicts cut = inr (inl refl)
verdicts refused = inr (inr refl)

module _ {s : Shape} {w : System} (i : Invariant s w) (ready : Ready s w) (request : Request) (k : ℕ) where
  shape : shape_of w.image ≡ s
  shape = go i
    where
      go : Invariant s w → shape_of w.image ≡ s
      go (up h q on) = h.shape
      go (down h q o c) = h.shape

  done_ready : verdict (answer w request k) ≡ done → Ready s (next s w request k)
  unfolding next answer
  done_ready v =
      let left = order_kept w.image w.state request k ready.small v in
      record {
        small = left.small;
        state = λ q. subst (λ t. bad_record t.boards (answer w request k).reply.next ≡ false) shape left.state;
      }

  cut_ready : verdict (answer w request k) ≡ cut → Ready s (next s w request k)
  unfolding next answer waits off closed
  cut_ready v =
      record { small = rw (cut_off w.image w.state request k v) (pow_pos 16); state = λ q. clash (rw v) q }

  refused_ready : Answers s w request k → verdict (answer w request k) ≡ refused → Ready s (next s w request k)
  unfolding next answer waits
  refused_ready a v =
      -- no power-up is refused
      let other : request ≢ PowerUp = λ e.
      subst (λ q. Answers s w q k) e a (subst (λ q. verdict (answer w q k) ≡ refused) e v) in
      let same = refused_record w.image w.state request k v ∙ same_record w.state request other in
      record {
        small = subst (λ r. r.commit.acknowledged < 2 ^ 16) (sym same) ready.small;
        state = λ q. subst (λ r. bad_record s.boards r ≡ false) (sym same) (ready.state (rw v at q));
      }

  pub next_ready : Answers s w request k → Ready s (next s w request k)
  next_ready a = ⊎_elim done_ready (⊎_elim cut_ready (refused_ready a)) (verdicts (verdict (answer w request k)))
