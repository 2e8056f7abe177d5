-- `power_up` meets its contract: refused; or a decided commit completed, and the blocks still tagged restored.
use mathlib.Core.Path.{refl, ◌∙◌}
use mathlib.Core.List.{[]}
use Rattle.protocol.specs.Calls.{PowerUp, refusals, power_tests, record_refused}
use Rattle.store.proofs.Laws.{well_start, makes_then}
use Rattle.store.proofs.Ends.{left_most}
use Rattle.store.proofs.Chains.{puts_length, puts_well}
use Rattle.blocks.specs.Banks.{bank, filled}
use Rattle.entry.proofs.Laws.{call_refused_first}
use Rattle.recovery.proofs.Laws.{power_done}
use Rattle.recovery.proofs.power_up.Goals as goal

pub returns-in-Err : goal.returns-in-Err
unfolding refusals power_tests record_refused
returns-in-Err c =
    λ state.
    call_refused_first (power_tests _ _ _) [] _ c.in-Err.ensures state PowerUp refl c.refusal.ensures c.off-none.ensures

pub complete_first-first-requires : goal.complete_first-first-requires
complete_first-first-requires c =
    let shaped = c.in-Ok.ensures.known.shaped in
    (shaped.allowed_shape, shaped.long, well_start c.new-whole.ensures)

pub copy_blocks-done-requires : goal.copy_blocks-done-requires
copy_blocks-done-requires c =
    let shaped = c.in-Ok.ensures.known.shaped in (
      shaped.allowed_shape,
      puts_length c.complete_first-first.ensures ∙ shaped.long,
      puts_well c.complete_first-first.ensures (well_start c.new-whole.ensures),
    )

pub finish-requires : goal.finish-requires
finish-requires c =
    left_most c.new-whole.ensures
    (makes_then c.complete_first-first.ensures.makes c.copy_blocks-done.ensures.makes)

pub returns : goal.returns
unfolding refusals bank filled
returns c =
    let passed = c.in-Ok.ensures in
    λ state. power_done state passed.known passed.none c.fresh-next.ensures c.new-whole.ensures
    c.complete_first-first.ensures c.copy_blocks-done.ensures c.finish.ensures
