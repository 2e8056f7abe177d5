-- The stores of a format, round by round and all together; how the call ends.
use Prim.Native.Nat.{ℕ, suc, ◌+◌, ◌-◌, ◌≤◌}
use mathlib.Core.Path.{◌≡◌, sym, ◌∙◌, ap, subst}
use mathlib.Core.Bool.{true, false, not}
use mathlib.Core.List.{List, [], ◌∷◌}
use mathlib.Core.Logic.{◌≢◌}
use lib.ListN.{length, get_or, get_or-eq_default}
use native.Mathlib.Omega.{arith}
use borrow.Author.Tests.{eq-eqb, ne_eqb}
use Rattle.boards.specs.Lists.{span}
use Rattle.protocol.specs.Image.{Store, allowed, total, mark, header}
use Rattle.volatile.specs.Volatile.{fresh}
use Rattle.protocol.specs.Calls.{first, refused, format_tests, formatting, format}
use Rattle.protocol.specs.declared.Shape.{Shape}
use Rattle.volatile.specs.declared.Record.{Record}
use Rattle.protocol.specs.Replies.{reply_says}
use Rattle.protocol.specs.declared.Reply.{Reply}
use Rattle.store.specs.Budget.{Makes, one, start}
use Rattle.store.specs.declared.Budget.{Budget}
use Rattle.store.proofs.Laws.{makes_none, makes_then}
use Rattle.boards.proofs.Basics.{span_append, span_more, span_same}
use Rattle.store.specs.Promise.{Formatted, reply_of}
use Rattle.protocol.specs.Calls.{refusal_of}
use Rattle.store.proofs.Ends.{made_outcome}
use Rattle.protocol.proofs.Refusals.{first_held, first_passed}
use Rattle.protocol.proofs.Format.{undecided}
use Rattle.format.specs.Stores.{header_store, zero_store}

-- ---- the stores

-- none yet
pub filled_none : (f : ℕ → Store) (a : ℕ) {b : Budget} {x : List ℕ} → Makes (span f a (a - a)) b x b x
unfolding span
filled_none f a {b} {x} = let none : a - a ≡ 0 = omega arith in rw none (makes_none b x)

-- one byte more
pub filled_more : (f : ℕ → Store) (a i : ℕ) {v : ℕ} {b r r' : Budget} {x y z : List ℕ} → a ≤ i → one i v ≡ f i →
    Makes (span f a (i - a)) b x r y → Makes (one i v ∷ []) r y r' z → Makes (span f a (i + 1 - a)) b x r' z
filled_more f a i {v} {r} {r'} {y} {z} l e m n =
    let next : i + 1 - a ≡ suc (i - a) = omega arith in
    let here : a + (i - a) ≡ i = omega arith in
    rw (next, span_more f a (i - a), here) (makes_then m (subst (λ (t : Store). Makes (t ∷ []) r y r' z) e n))

past_header : (s : Shape) (i : ℕ) → 9 ≤ i → header_store s i ≡ zero_store i
unfolding header mark
past_header s i l = ap (one i) (get_or-eq_default (header s) 0 {n = i} (omega arith))

-- byte 0, the header, zeros, byte 0 again
pub laid_out : (s : Shape) (n : ℕ) {b c d e r : Budget} {v w x y z : List ℕ} → n ≡ total s → 9 ≤ n →
    Makes (one 0 0 ∷ []) b v c w → Makes (span (header_store s) 1 8) c w d x
    → Makes (span zero_store 9 (n - 9)) d x e y →
    Makes (one 0 (get_or mark 0 0) ∷ []) e y r z → Makes (formatting s) b v r z
unfolding formatting
laid_out s n long l m o p q =
    let size : total s - 1 ≡ 8 + (n - 9) = omega arith in
    let zeros = span_same (header_store s) zero_store 9 9 (n - 9) (λ x _. past_header s (9 + x) (omega arith)) in
    rw (size, span_append (header_store s) 1 8 (n - 9), zeros)
    (makes_then m (makes_then (makes_then o p) q))

-- ---- the call

module _ {s : Shape} {image : List ℕ} (state : Record) (k : ℕ) where
  -- refused with the number of the first test that holds
  turned : (n : ℕ) {r : Reply} → first (format_tests s image) ≡ n → n ≢ 0 → reply_says r ≡ refusal_of n state →
      Formatted s image state k r image
  unfolding format refused
  turned n f h e = record { reply = e ∙ rw (f, ne_eqb n 0 h); image = rw (f, ne_eqb n 0 h) }

  -- 4 for a shape that is not allowed, then 5 for another length than its
  pub turned_shape : {r : Reply} → allowed s ≡ false → reply_says r ≡ refusal_of 4 state
      → Formatted s image state k r image
  unfolding format_tests
  turned_shape h = turned 4 (first_held 4 _ (ap not h)) (omega arith)

  pub turned_length : {r : Reply} → allowed s ≡ true → length image ≢ total s → reply_says r ≡ refusal_of 5 state →
      Formatted s image state k r image
  unfolding format_tests
  turned_length h l =
      turned 5 (first_passed 4 _ (ap not h) ∙ first_held 5 [] (ap not (ne_eqb _ _ l))) (omega arith)

  -- done or cut, by what is left of the budget
  pub ended : {left : Budget} {after : List ℕ} {next : Record} {r : Reply} → allowed s ≡ true → length image ≡ total s →
      next ≡ fresh → Makes (formatting s) (start k) image left after → reply_says r ≡ reply_of k left false 0 next →
      Formatted s image state k r after
  unfolding format format_tests first
  ended {left} h l f m e =
      let passed : first (format_tests s image) ≡ 0 = rw (h, eq-eqb _ _ l) in
      let both = made_outcome 0 fresh [] false m (sym (undecided s k)) in
      record { reply = e ∙ ap (reply_of k left false 0) f ∙ rw passed both.0; image = rw passed both.1 }
