-- `lay_out` meets its contract: byte 0, the header, zeros, byte 0 again.
use Rattle.std.proofs.Common.{rules}
use mathlib.Core.Path.{◌∙◌, ap}
use native.Mathlib.Omega.{arith}
use Rattle.store.proofs.Laws.{makes_length}
use Rattle.protocol.specs.Image.{total, mark}
use Rattle.store.specs.Budget.{one}
use Rattle.format.specs.Stores.{header_store, zero_store}
use Rattle.format.proofs.Laws.{laid_out}
use Rattle.format.proofs.lay_out.Goals as goal

pub store-unmarked-requires : goal.store-unmarked-requires
unfolding total
store-unmarked-requires c = omega arith

pub fill-named-requires-clause-within : goal.fill-named-requires-clause-within
unfolding total
fill-named-requires-clause-within c = omega arith

pub fill-filled-requires-clause-within : goal.fill-filled-requires-clause-within
unfolding total
fill-filled-requires-clause-within c = (omega arith, omega arith)

pub store-requires : goal.store-requires
unfolding total
store-requires c = omega arith

pub returns : goal.returns
unfolding mark total
returns c =
    let named = c.fill-named.ensures (header_store c.args.s) (λ i y l e. ap (one i) (search rules)) in
    let filled = c.fill-filled.ensures zero_store (λ i y l e. ap (one i) (search rules)) in
    let long = makes_length named ∙ makes_length c.store-unmarked.ensures ∙ c.requires.1 in
    laid_out c.args.s _ long (omega (arith, long)) c.store-unmarked.ensures named filled c.store.ensures
