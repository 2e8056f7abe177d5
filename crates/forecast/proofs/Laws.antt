-- Loops that count, figures that fit, forecasts refused or taken.
use Prim.Native.Nat.{ℕ, zero, suc, ◌+◌, ◌-◌, ◌*◌, ◌≤◌, ◌<◌}
use native.Mathlib.Nat.{mul-le-mul}
use native.Mathlib.Omega.{arith}
use mathlib.Core.Path.{◌≡◌, refl, sym, ◌∙◌, ap, ap₂}
use mathlib.Core.Bool.{Bool, true, false, not, cond}
use mathlib.Core.List.{List, []}
use mathlib.Core.Logic.{◌≢◌}
use lib.ListN.{length, get_or}
use borrow.Author.Tests.{eq-eqb, ne_eqb}
use Rattle.std.specs.Int.{from_bool}
use Rattle.boards.specs.Boards.{has, tagged_in}
use Rattle.volatile.specs.Volatile.{engaged}
use Rattle.volatile.specs.declared.Record.{Record}
use Rattle.protocol.specs.Image.{Memory, Tags, allowed, shape_of, view, base, size}
use Rattle.protocol.specs.Calls.{Test, first, entry_tests}
use Rattle.protocol.specs.declared.Shape.{Shape}
use Rattle.protocol.proofs.Bridge.{view_at}
use Rattle.protocol.specs.Replies.{refusal_number}
use Rattle.protocol.specs.declared.Refusal.{Refusal}
use Rattle.protocol.proofs.Refusals.{first_held, first_passed, entry_goes_on}
use Rattle.protocol.proofs.Numbers.{refusal_not_zero}
use Rattle.layout.specs.Headers.{tags_at}
use Rattle.layout.proofs.Laws.{bounded}
use Rattle.costs.specs.Forecasts.{Forecast}
use Rattle.costs.specs.Forecasts.{those, boards_of, tagged_blocks, blocks_cost, refused, answered, commit_tests}
use Rattle.costs.proofs.Answers.{answered_refused, answered_taken}
use Rattle.costs.proofs.Counted.{those_more, those_most}

-- the test of a block
abbrev pub chosen : List ℕ → Shape → ℕ → ℕ → Bool
chosen image s g b = tagged_in g (view s image Tags b)

-- a test as a number
test_number : (b : Bool) → from_bool b ≡ cond b 1 0
test_number true = refl
test_number false = refl

pub test_small : (b : Bool) → from_bool b ≤ 1
test_small true = omega arith
test_small false = omega arith

-- one round of a loop that counts
pub one_more : (i : ℕ) (p : ℕ → Bool) {n one : ℕ} {yes : Bool} → n ≡ length (those i p) → yes ≡ p i
    → one ≡ from_bool yes → n + one ≡ length (those (i + 1) p)
one_more i p e t f =
    ap₂ (λ n m. n + m) e (f ∙ ap from_bool t ∙ test_number (p i)) ∙ sym (those_more i p)
    ∙ ap (λ j. length (those j p)) (omega arith)

-- numbers of which none passes the test are passed over
none_more : (p : ℕ → Bool) (b n : ℕ) → ((j : ℕ) → b ≤ j → j < b + n → p j ≡ false)
    → length (those (b + n) p) ≡ length (those b p)
none_more p b zero none = ap (λ j. length (those j p)) (omega arith)
none_more p b (suc n) none =
    let last : length (those (suc (b + n)) p) ≡ length (those (b + n) p) + 0 =
    those_more (b + n) p ∙ ap (λ t. length (those (b + n) p) + cond t 1 0) (none (b + n) (omega arith) (omega arith)) in
    let rest = none_more p b n (λ j h l. none j h (omega arith)) in
    let one : b + suc n ≡ suc (b + n) = omega arith in
    ap (λ j. length (those j p)) one ∙ omega (arith, last, rest)

-- blocks without a writer are
pub untagged_passed : (image : List ℕ) (s : Shape) (g b c : ℕ) → b ≤ c → c ≤ s.blocks
    → ((j : ℕ) → b ≤ j → j < c → get_or image (tags_at + j) 0 ≡ 0)
    → length (those b (chosen image s g)) ≡ length (those c (chosen image s g))
unfolding base size tagged_in
untagged_passed image s g b c l m none =
    let all : b + (c - b) ≡ c = omega arith in
    sym (ap (λ n. length (those n (chosen image s g))) (sym all)
    ∙ none_more (chosen image s g) b (c - b)
    (λ j h i. ap (tagged_in g) (view_at s image Tags j (omega arith) ∙ none j h (omega arith))))

-- bounds of the figures
module _ (s : Shape) (fine : allowed s ≡ true) (g : ℕ) where
  pub most_contexts : length (boards_of s g) * s.context ≤ 1024
  unfolding boards_of
  most_contexts =
      let l = (bounded fine).limits in
      let few : length (those s.boards (has g)) ≤ 16 = omega (arith, l, those_most s.boards (has g)) in
      mul-le-mul few l.most_context

  pub most_blocks : (m : Memory) → blocks_cost s m g ≤ 66560
  unfolding blocks_cost tagged_blocks
  most_blocks m =
      let l = (bounded fine).limits in
      let chosen : ℕ → Bool = λ b. tagged_in g (m Tags b) in
      let few : length (those s.blocks chosen) ≤ 1024 = omega (arith, l, those_most s.blocks chosen) in
      let each : s.size + 1 ≤ 65 = omega (arith, l) in
      mul-le-mul few each

-- after 11, 12 and 1 a commit forecast tests whether a commit is open
module _ (image : List ℕ) (r : Record) (i : ℕ) (entered : first (entry_tests image r i) ≡ 0) where
  pub commit_open : engaged r ≢ 0 → first (commit_tests image r i) ≡ 14
  commit_open e = entry_goes_on image r i _ entered ∙ first_held 14 [] (ap not (ne_eqb (engaged r) 0 e))

  pub commit_passes : engaged r ≡ 0 → first (commit_tests image r i) ≡ 0
  unfolding first
  commit_passes e = entry_goes_on image r i _ entered ∙ first_passed 14 [] (ap not (eq-eqb (engaged r) 0 e))

-- a forecast with these tests is refused, or answers the group and its cost
module _ (ts : List Test) where
  pub refused_by : {f : Forecast} {n : ℕ} (g c : ℕ) → first ts ≡ n → n ≢ 0 → f ≡ refused n → f ≡ answered (first ts) g c
  refused_by g c e some same = same ∙ sym (rw e (answered_refused g c some))

  pub refused_so : (why : Refusal) (g c : ℕ) → first ts ≡ refusal_number why
      → refused (refusal_number why) ≡ answered (first ts) g c
  refused_so why g c e = refused_by g c e (refusal_not_zero why) refl

  pub taken_so : (cost : Shape → Memory → ℕ → ℕ) {s : Shape} (image : List ℕ) {g group stores : ℕ} → first ts ≡ 0
      → shape_of image ≡ s → g ≡ group → stores ≡ cost s (view s image) g
      → record { status = 0; group = g; stores = stores }
      ≡ answered (first ts) group (cost (shape_of image) (view (shape_of image) image) group)
  taken_so cost image z shape e c = rw (c, e, sym shape) (sym (answered_taken _ _ z))
