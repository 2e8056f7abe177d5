-- What is printed of an answer of `order`.
use Prim.Native.Nat.{ℕ, ◌≤◌}
use mathlib.Core.Path.{◌≡◌, sym, ◌∙◌, ap, ap₂}
use mathlib.Core.List.{List, [], ◌∷◌, ◌++◌}
use Rattle.std.specs.Prelude.{Ok, Err}
use lib.ListN.{length, take, drop}
use lib.Seq.{take-append_seam}
use native.Mathlib.Omega.{arith}
use borrow.Author.Tests.{eq-eqb, ne_eqb}
use Rattle.boards.proofs.Basics.{if_true, if_false}
use Rattle.volatile.specs.declared.Record.{Record}
use Rattle.protocol.specs.Calls.{filled}
use Rattle.protocol.specs.Replies.{refusal_number}
use Rattle.protocol.specs.declared.Refusal.{Refusal}
use Rattle.protocol.proofs.Numbers.{refusal_not_zero}
use Rattle.order.specs.Call.{order_status, components, ordered_says, AnswersOrder}
use Rattle.order.proofs.Answers.{few_components}
use Rattle.text.specs.Fields.{line_feed}
use Rattle.text.specs.Rows.{decimal}
use Rattle.listing.specs.Listing.{component_lines, order_text}

module _ (image : List ℕ) (r : Record) {masks after : List ℕ} where
  module _ (n : ℕ) (h : AnswersOrder image r masks (ordered_says (Ok n)) after) where
    count_is : n ≡ length (components image r)
    count_is = ap (λ x. x.count) h.answer

    pub few : n ≤ 16
    few = omega (arith, count_is, few_components image r)

    pub order_lines : component_lines (take n after) ≡ order_text image r
    unfolding order_text filled
    order_lines =
        let gs = components image r in
        ap component_lines (ap₂ take count_is h.masks_after ∙ take-append_seam gs (drop (length gs) masks))
        ∙ sym (if_true (component_lines gs) (decimal (order_status image r) ++ line_feed ∷ [])
        (eq-eqb (order_status image r) 0 (sym (ap (λ x. x.status) h.answer))))

  pub refusal_text : (why : Refusal) → AnswersOrder image r masks (ordered_says (Err why)) after
      → decimal (refusal_number why) ++ line_feed ∷ [] ≡ order_text image r
  unfolding order_text
  refusal_text why h =
      let same : refusal_number why ≡ order_status image r = ap (λ x. x.status) h.answer in
      ap (λ n. decimal n ++ line_feed ∷ []) same
      ∙ sym (if_false (component_lines (components image r)) (decimal (order_status image r) ++ line_feed ∷ [])
      (ne_eqb (order_status image r) 0 (λ z. refusal_not_zero why (same ∙ z))))
