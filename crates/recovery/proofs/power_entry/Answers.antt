-- `power_entry` meets its contract: the three tests in their order.
use mathlib.Core.Path.{refl, sym, ◌∙◌, ap}
use Rattle.protocol.specs.Replies.{refusal_number}
use Rattle.entry.proofs.Laws.{handed_on}
use Rattle.recovery.proofs.Laws.{by_tests}
use Rattle.recovery.proofs.power_entry.Goals as goal

pub returns-in_err-s : goal.returns-in_err-s
returns-in_err-s c =
    handed_on _ _ _ c.from_residual.ensures.1
    (by_tests _ c.in_err-s.ensures.0 refl refl refl ∙ sym (ap refusal_number c.in_err-s.ensures.1))

pub bad_tags-requires : goal.bad_tags-requires
bad_tags-requires c = let shaped = c.in_ok-s.ensures.shaped in (shaped.allowed_shape, shaped.long)

pub returns-then-bad_tags : goal.returns-then-bad_tags
returns-then-bad_tags c =
    let h = c.in_ok-s.ensures in
    by_tests _ h.ordered h.shaped.shape (sym c.if-bad_tags.true ∙ c.bad_tags.ensures) refl

pub bad_decision-requires : goal.bad_decision-requires
bad_decision-requires c = let shaped = c.in_ok-s.ensures.shaped in (shaped.allowed_shape, shaped.long)

pub returns-then-bad_decision : goal.returns-then-bad_decision
returns-then-bad_decision c =
    let h = c.in_ok-s.ensures in
    by_tests _ h.ordered h.shaped.shape (sym c.if-bad_tags.false ∙ c.bad_tags.ensures)
    (sym c.if-bad_decision.true ∙ c.bad_decision.ensures)

pub returns : goal.returns
returns c =
    let h = c.in_ok-s.ensures in
    let tags = sym c.if-bad_tags.false ∙ c.bad_tags.ensures in
    record {
      none = by_tests _ h.ordered h.shaped.shape tags (sym c.if-bad_decision.false ∙ c.bad_decision.ensures);
      known = record { shaped = h.shaped; tags = sym tags };
    }
