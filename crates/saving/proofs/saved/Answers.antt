-- `saved` meets its contract.
use Prim.Native.Nat.{ℕ, ◌+◌, ◌*◌, ◌≤◌}
use mathlib.Core.Path.{ap₂}
use native.Mathlib.Omega.{arith}
use Rattle.page.specs.Saving.{saved}
use Rattle.page.specs.declared.Saved.{Saved}
use Rattle.saving.proofs.Laws.{few_bytes}
use Rattle.saving.proofs.saved.Goals as goal
use Rattle.saving.proofs.saved.Goals.{After-member_count-members}

-- the bytes that are counted
few : (c : After-member_count-members)
    → c.tagged_count-blocks.result * c.args.s.size + c.member_count-members.result * c.args.s.context ≤ 17408
few c =
    few_bytes c.args.s _ c.args.g c.requires.0 c.tagged_count-blocks.ensures c.member_count-members.ensures

pub overflow_mul-result : goal.overflow_mul-result
overflow_mul-result c = omega (arith, few (goal.at.overflow_mul-result c).After-member_count-members)

pub overflow_mul-result-2 : goal.overflow_mul-result-2
overflow_mul-result-2 c = omega (arith, few (goal.at.overflow_mul-result-2 c).After-member_count-members)

pub overflow_add-result : goal.overflow_add-result
overflow_add-result c = omega (arith, few (goal.at.overflow_add-result c).After-member_count-members)

pub returns : goal.returns
unfolding saved
returns c =
    let of-counts : ℕ → ℕ → Saved =
    λ m n. record { members = c.args.g; blocks = m; bytes = m * c.args.s.size + n * c.args.s.context } in
    ap₂ of-counts
    c.tagged_count-blocks.ensures c.member_count-members.ensures
