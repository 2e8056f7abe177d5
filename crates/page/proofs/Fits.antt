-- Every number that is printed fits its column: a commit has few blocks and bytes, and few commits are printed.
use Prim.Native.Nat.{ℕ, ◌*◌, ◌^◌, ◌≤◌, ◌<◌}
use mathlib.Core.Path.{◌≡◌, refl, ap}
use mathlib.Core.Bool.{true, not}
use mathlib.Core.List.{List, [], ◌∷◌}
use lib.Dec.{ltb}
use lib.ListN.{length, length-take}
use native.Mathlib.Omega.{arith}
use native.Mathlib.Nat.{mul-suc}
use borrow.Author.Tests.{lt-ltb}
use Rattle.std.specs.Prelude.{Option, Some, None}
use Rattle.boards.proofs.Basics.{true_and, All, none, also, all_append, all_cond, all_map, all_take, any_of_false}
use Rattle.text.specs.Events.{taken}
use Rattle.text.specs.Whole.{Line, lines, Run, start, most_lines, next_run}
use Rattle.page.specs.declared.Saved.{Saved}
use Rattle.page.specs.Page.{most_commits}
use Rattle.page.specs.Claims.{listed, commits, printed, sum, fits, NumbersFit}
use Rattle.page.proofs.Bounds.{decided_fits}

-- what is known of a decided commit
abbrev Small : Saved → Type 0
Small c = (c.members < 65536) × (c.blocks ≤ 1024) × (c.bytes ≤ 17408)

small_fits : (c : Saved) → Small c → fits c ≡ true
unfolding fits
small_fits c h =
    true_and (lt-ltb c.members (16 ^ 4) (omega arith))
    (true_and (lt-ltb c.blocks (10 ^ 8) (omega arith)) (lt-ltb c.bytes (10 ^ 10) (omega arith)))

sum_most : (f : Saved → ℕ) (most : ℕ) {cs : List Saved} → All (λ c. f c ≤ most) cs → sum f cs ≤ most * length cs
unfolding sum
sum_most f most none = omega arith
sum_most f most (also {xs = cs} l p) = omega (arith, mul-suc most (length cs), sum_most f most p)

few_printed : (text : List ℕ) → length (printed text) ≤ most_commits
unfolding printed
few_printed text = omega (arith, length-take most_commits (commits start (lines text)))

all_listed : {P : Saved → Type 0} (d : Option Saved) → ((c : Saved) → d ≡ Some c → P c) → All P (listed d)
unfolding listed
all_listed None h = none
all_listed (Some c) h = also (h c refl) none

all_small : (ls : List Line) (r : Run) → All Small (commits r ls)
unfolding commits
all_small [] r = none
all_small (l ∷ ls) r =
    let now = all_listed _ (decided_fits r.player (taken l)) in
    all_cond (ltb r.played most_lines) (λ e. all_append now (all_small ls (next_run r l))) (λ e. none)

printed_small : (text : List ℕ) → All Small (printed text)
unfolding printed
printed_small text = all_take most_commits (all_small (lines text) start)

pub numbers_fit : (text : List ℕ) → NumbersFit text
numbers_fit text =
    let each = printed_small text in
    let few = few_printed text in
    let blocks = sum_most (λ c. c.blocks) 1024 (all_map (λ c h. h.1) each) in
    let bytes = sum_most (λ c. c.bytes) 17408 (all_map (λ c h. h.2) each) in
    record {
      counts = omega arith;
      each = any_of_false (λ c. not (fits c)) (λ c h. ap not (small_fits c h)) each;
      blocks = omega arith;
      bytes = omega arith;
    }
