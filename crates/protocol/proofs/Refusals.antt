-- Tests in their order: lists of them one after the other, what a call that is not refused has passed, and what
-- of an image the tests look at.
use Prim.Native.Nat.{ℕ, ◌+◌, ◌≤◌, ◌<◌}
use mathlib.Core.Path.{◌≡◌, refl, sym, ◌∙◌, ap, subst, fun_ext}
use mathlib.Core.Bool.{Bool, true, false}
use mathlib.Core.List.{List, [], ◌∷◌, ◌++◌}
use mathlib.Core.Logic.{⊎_elim, ◌≢◌}
use lib.Dec.{eqb, ltb}
use lib.ListN.{length}
use native.Mathlib.Omega.{arith}
use borrow.Author.Tests.{eqb-true, eqb-false, leb-false, ltb-false, ltb-true}
use Rattle.boards.specs.Lists.{every, any_of}
use Rattle.boards.specs.Boards.{has, tagged_in}
use Rattle.boards.proofs.Basics.{clash, decide, refute, or_false, not_false, All, none, also, all_map, false_any_of}
use Rattle.protocol.specs.Image.{Memory, Decision, Tags, byte, in_order}
use Rattle.protocol.specs.Image.{shape_of, view, base, size}
use Rattle.volatile.specs.Volatile.{engaged, commit_of, bad_record}
use Rattle.protocol.specs.Accesses.{board_of}
use Rattle.protocol.specs.Calls.{Request, Read, Write, Start, Acknowledge, Fault, PowerUp, Test, test, first}
use Rattle.protocol.specs.Calls.{refusals}
use Rattle.protocol.specs.Calls.{tags_of, bad_range, stored_group, bad_tags, bad_decision}
use Rattle.protocol.specs.Calls.{entry_tests, read_tests, write_tests, start_tests, acknowledge_tests}
use Rattle.protocol.specs.Calls.{power_tests}
use Rattle.protocol.specs.declared.Shape.{Shape}
use Rattle.protocol.specs.declared.Requester.{Requester}
use Rattle.volatile.specs.declared.Record.{Record}
use Rattle.protocol.proofs.Bridge.{Sound, order_sound}

-- ---- lists of tests

abbrev pub Numbered : List Test → Type 0
Numbered ts = any_of (λ t. eqb t.number 0) ts ≡ false

-- one test
pub first_held : {b : Bool} (n : ℕ) (ts : List Test) → b ≡ true → first (test b n ∷ ts) ≡ n
unfolding first
first_held n ts e = rw e

pub first_passed : {b : Bool} (n : ℕ) (ts : List Test) → b ≡ false → first (test b n ∷ ts) ≡ first ts
unfolding first
first_passed n ts e = rw e

-- two lists of tests one after the other: the first stops the call, or the second goes on. No test has the number 0.
pub first_stops : (ts us : List Test) → first ts ≢ 0 → first (ts ++ us) ≡ first ts
unfolding first
first_stops [] us h = absurd (h refl)
first_stops (t ∷ ts) us h =
    ⊎_elim
    (λ (e : t.holds ≡ true). rw e)
    (λ (e : t.holds ≡ false). rw e (first_stops ts us (rw e at h)))
    (decide t.holds)

pub first_goes_on : (ts us : List Test) → Numbered ts → first ts ≡ 0
    → first (ts ++ us) ≡ first us
unfolding first any_of
first_goes_on [] us n h = refl
first_goes_on (t ∷ ts) us n h =
    let both = or_false (eqb t.number 0) (any_of (λ t. eqb t.number 0) ts) n in
    ⊎_elim
    (λ (e : t.holds ≡ true). absurd (eqb-false t.number 0 both.0 (rw e at h)))
    (λ (e : t.holds ≡ false). rw e (first_goes_on ts us both.1 (rw e at h)))
    (decide t.holds)

-- so a call that is not refused passes both
pub first_both : (ts us : List Test) → Numbered ts → first (ts ++ us) ≡ 0
    → (first ts ≡ 0) × (first us ≡ 0)
first_both ts us n h =
    ⊎_elim
    (λ (e : eqb (first ts) 0 ≡ true). let z = eqb-true (first ts) 0 e in (z, sym (first_goes_on ts us n z) ∙ h))
    (λ (e : eqb (first ts) 0 ≡ false).
    let some = eqb-false (first ts) 0 e in
    absurd (some (sym (first_stops ts us some) ∙ h)))
    (decide (eqb (first ts) 0))

-- the number is 0 exactly when no test holds
pub none_hold : (ts : List Test) → Numbered ts → first ts ≡ 0 → All (λ t. t.holds ≡ false) ts
unfolding first any_of
none_hold [] n h = none
none_hold (t ∷ ts) n h =
    let both = or_false (eqb t.number 0) (any_of (λ t. eqb t.number 0) ts) n in
    ⊎_elim
    (λ (e : t.holds ≡ true). absurd (eqb-false t.number 0 both.0 (rw e at h)))
    (λ (e : t.holds ≡ false). also e (none_hold ts both.1 (rw e at h)))
    (decide t.holds)

-- a test that does not hold, if p holds of its number
pub record Clear (p : ℕ → Bool) (t : Test) : Type 0 where
  pub passed : p t.number ≡ true → t.holds ≡ false

module _ {p : ℕ → Bool} where
  pub not_held : {b : Bool} {n : ℕ} → b ≡ false → Clear p (test b n)
  not_held e = record { passed = λ n. e }

  pub other_number : {b : Bool} {n : ℕ} → p n ≡ false → Clear p (test b n)
  other_number e = record { passed = λ n. clash n e }

  pub first_clear : {ts : List Test} → p 0 ≡ false → All (Clear p) ts → p (first ts) ≡ false
  unfolding first
  first_clear z none = z
  first_clear z (also {x = t} h hs) =
      ⊎_elim
      (λ (e : t.holds ≡ true). rw e (refute (p t.number) (λ n. clash e (h.passed n))))
      (λ (e : t.holds ≡ false). rw e (first_clear z hs))
      (decide t.holds)

-- no refusal has the number that says "cut"
pub uncut : (ts : List Test) → any_of (λ t. eqb t.number 9) ts ≡ false → first ts ≢ 9
uncut ts h =
    let others : All (Clear (λ n. eqb n 9)) ts =
    all_map (λ t e. record { passed = λ n. clash n e }) (false_any_of (λ t. eqb t.number 9) ts h) in
    eqb-false (first ts) 9 (first_clear refl others)

pub refusals_uncut : (image : List ℕ) (s : Shape) (m : Memory) (r : Record) (request : Request)
    → any_of (λ t. eqb t.number 9) (refusals image s m r request) ≡ false
unfolding refusals entry_tests read_tests write_tests start_tests acknowledge_tests power_tests any_of
refusals_uncut image s m r (Read who a n room) = refl
refusals_uncut image s m r (Write who a bytes) = refl
refusals_uncut image s m r (Start i context) = refl
refusals_uncut image s m r (Acknowledge i context) = refl
refusals_uncut image s m r (Fault i) = refl
refusals_uncut image s m r PowerUp = refl

-- ---- what a call that is not refused has passed

pub record Entered (s : Shape) (image : List ℕ) (r : Record) (i : ℕ) : Type 0 where
  pub ordered : in_order 0 image ≡ true
  pub recorded : bad_record s.boards r ≡ false
  pub board : i < s.boards
  pub sound : Sound s image

pub record ReadPassed (s : Shape) (m : Memory) (r : Record) (i a n room : ℕ) : Type 0 where
  pub range : bad_range s a n ≡ false
  pub fits : n ≤ room
  pub tags : any_of (ltb s.boards) (tags_of s m a n) ≡ false
  pub free : has (engaged r) i ≡ false

pub record WritePassed (s : Shape) (m : Memory) (r : Record) (i a n : ℕ) : Type 0 where
  pub range : bad_range s a n ≡ false
  pub tags : any_of (ltb s.boards) (tags_of s m a n) ≡ false
  pub free : has (engaged r) i ≡ false
  pub untied : any_of (tagged_in (engaged r)) (tags_of s m a n) ≡ false

pub record StartPassed (s : Shape) (r : Record) (n : ℕ) : Type 0 where
  pub full : n ≡ s.context
  pub none_open : engaged r ≡ 0

pub record AcknowledgePassed (s : Shape) (r : Record) (i n : ℕ) : Type 0 where
  pub full : n ≡ s.context
  pub member : has (engaged r) i ≡ true
  pub awaited : has (commit_of r i).acknowledged i ≡ false

pub record PowerPassed (image : List ℕ) (s : Shape) (m : Memory) : Type 0 where
  pub ordered : in_order 1 image ≡ true
  pub tags : bad_tags s m ≡ false
  pub decision : bad_decision s m ≡ false

pub entered : {s : Shape} (image : List ℕ) (r : Record) (i : ℕ) → shape_of image ≡ s → first (entry_tests image r i) ≡ 0
    → Entered s image r i
unfolding entry_tests any_of
entered {s} image r i e z = go (none_hold (entry_tests image r i) refl z)
  where
    go : All (λ t. t.holds ≡ false) (entry_tests image r i) → Entered s image r i
    go (also a (also b (also c none))) =
        record {
          ordered = not_false (in_order 0 image) a;
          recorded = subst (λ t. bad_record t.boards r ≡ false) e b;
          board = subst (λ t. i < t.boards) e (leb-false (shape_of image).boards i c);
          sound = subst (λ t. Sound t image) e (order_sound (not_false (in_order 0 image) a)).0;
        }

module _ (s : Shape) (m : Memory) (r : Record) (who : Requester) (a n : ℕ) where
  abbrev i : ℕ
  i = board_of s who

  pub read_passed : (room : ℕ) → first (read_tests s m r who a n room) ≡ 0 → ReadPassed s m r i a n room
  unfolding read_tests any_of
  read_passed room z = go (none_hold (read_tests s m r who a n room) refl z)
    where
      go : All (λ t. t.holds ≡ false) (read_tests s m r who a n room) → ReadPassed s m r i a n room
      go (also a₁ (also l (also b (also c (also d none))))) =
          record { range = a₁; fits = ltb-false room n b; tags = c; free = d }

  pub write_passed : first (write_tests s m r who a n) ≡ 0 → WritePassed s m r i a n
  unfolding write_tests any_of
  write_passed z = go (none_hold (write_tests s m r who a n) refl z)
    where
      go : All (λ t. t.holds ≡ false) (write_tests s m r who a n) → WritePassed s m r i a n
      go (also a₁ (also l (also b (also c none)))) =
          let both = or_false (has (engaged r) i) (any_of (tagged_in (engaged r)) (tags_of s m a n)) c in
          record { range = a₁; tags = b; free = both.0; untied = both.1 }

pub start_passed : (s : Shape) (r : Record) (n : ℕ) → first (start_tests s r n) ≡ 0 → StartPassed s r n
unfolding start_tests any_of
start_passed s r n z = go (none_hold (start_tests s r n) refl z)
  where
    go : All (λ t. t.holds ≡ false) (start_tests s r n) → StartPassed s r n
    go (also a (also b none)) =
        record {
          full = eqb-true n s.context (not_false _ a);
          none_open = eqb-true (engaged r) 0 (not_false _ b);
        }

pub acknowledge_passed : (s : Shape) (r : Record) (i n : ℕ) → first (acknowledge_tests s r i n) ≡ 0
    → AcknowledgePassed s r i n
unfolding acknowledge_tests any_of
acknowledge_passed s r i n z = go (none_hold (acknowledge_tests s r i n) refl z)
  where
    go : All (λ t. t.holds ≡ false) (acknowledge_tests s r i n) → AcknowledgePassed s r i n
    go (also a (also b (also c none))) =
        record { full = eqb-true n s.context (not_false _ a); member = not_false _ b; awaited = c }

pub power_passed : (image : List ℕ) (s : Shape) (m : Memory) → first (power_tests image s m) ≡ 0
    → PowerPassed image s m
unfolding power_tests any_of
power_passed image s m z = go (none_hold (power_tests image s m) refl z)
  where
    go : All (λ t. t.holds ≡ false) (power_tests image s m) → PowerPassed image s m
    go (also a (also b (also c none))) = record { ordered = not_false (in_order 1 image) a; tags = b; decision = c }

-- the two lists of a call: the first tests of a board's call, and its own
pub entry_first : (image : List ℕ) (r : Record) (i : ℕ) (ts : List Test) → first (entry_tests image r i ++ ts) ≡ 0
    → (first (entry_tests image r i) ≡ 0) × (first ts ≡ 0)
unfolding entry_tests any_of
entry_first image r i ts h = first_both (entry_tests image r i) ts refl h

pub begun : {s : Shape} (image : List ℕ) (r : Record) (i : ℕ) (ts : List Test) → shape_of image ≡ s
    → first (entry_tests image r i ++ ts) ≡ 0 → Entered s image r i × (first ts ≡ 0)
begun image r i ts same e =
    let both = entry_first image r i ts e in
    (entered image r i same both.0, both.1)

pub entry_goes_on : (image : List ℕ) (r : Record) (i : ℕ) (ts : List Test) → first (entry_tests image r i) ≡ 0
    → first (entry_tests image r i ++ ts) ≡ first ts
unfolding entry_tests any_of
entry_goes_on image r i ts h = first_goes_on (entry_tests image r i) ts refl h

-- ---- what of an image the tests look at: its length, bytes 0 to 11, and the tags

pub record Alike (image other : List ℕ) : Type 0 where
  pub long : length image ≡ length other
  pub head : (i : ℕ) → i < 12 → byte image i ≡ byte other i
  pub tags : (b : ℕ) → b < (shape_of image).blocks → byte image (12 + b) ≡ byte other (12 + b)

module _ {image other : List ℕ} (h : Alike image other) where
  abbrev at : (i : ℕ) → i < 12 → byte image i ≡ byte other i
  at = h.head

  pub shape_alike : shape_of image ≡ shape_of other
  unfolding shape_of
  shape_alike = rw (at 4 (omega arith), at 5 (omega arith), at 6 (omega arith), at 7 (omega arith), at 8 (omega arith))

  order_alike : (most : ℕ) → in_order most image ≡ in_order most other
  unfolding in_order every
  order_alike most =
      rw (
        shape_alike,
        h.long,
        at 0 (omega arith),
        at 1 (omega arith),
        at 2 (omega arith),
        at 3 (omega arith),
        at 9 (omega arith),
      )

  entry_alike : (r : Record) (i : ℕ) → entry_tests image r i ≡ entry_tests other r i
  unfolding entry_tests
  entry_alike r i = rw (order_alike 0, shape_alike)

  abbrev s : Shape
  s = shape_of image

  tags_alike : view s image Tags ≡ view s other Tags
  unfolding view base size
  tags_alike = fun_ext (λ b. ⊎_elim
      (λ (l : ltb b s.blocks ≡ true). rw (l, h.tags b (ltb-true b s.blocks l)))
      (λ (l : ltb b s.blocks ≡ false). rw l)
      (decide (ltb b s.blocks)))

  group_alike : stored_group (view s image) ≡ stored_group (view s other)
  unfolding stored_group view base size
  group_alike = rw (at 10 (omega arith), at 11 (omega arith))

  decision_alike : view s image Decision 0 ≡ view s other Decision 0
  unfolding view base size
  decision_alike = at 9 (omega arith)

  alike : (r : Record) (request : Request)
      → refusals image s (view s image) r request ≡ refusals other s (view s other) r request
  unfolding refusals read_tests write_tests power_tests bad_tags bad_decision
  alike r (Read who a n room) = rw (entry_alike r (board_of s who), tags_alike)
  alike r (Write who a bytes) = rw (entry_alike r (board_of s who), tags_alike)
  alike r (Start i context) = rw (entry_alike r i)
  alike r (Acknowledge i context) = rw (entry_alike r i)
  alike r (Fault i) = entry_alike r i
  alike r PowerUp = rw (order_alike 1, tags_alike, group_alike, decision_alike)

  pub refusals_alike : (r : Record) (request : Request)
      → refusals image s (view s image) r request
      ≡ refusals other (shape_of other) (view (shape_of other) other) r request
  refusals_alike r request = alike r request ∙ ap (λ t. refusals other t (view t other) r request) shape_alike
