-- The start that a commit forecast speaks of: its number, and what it gives to the commit that it opens.
use Prim.Native.Nat.{ℕ, ◌<◌}
use mathlib.Core.Path.{◌≡◌, refl, ◌∙◌, ap}
use mathlib.Core.Bool.{true, not, cond}
use mathlib.Core.List.{List, [], ◌∷◌, ◌++◌}
use lib.ListN.{length}
use borrow.Author.Tests.{eq-eqb}
use Rattle.boards.specs.Boards.{has, commit_group}
use Rattle.boards.proofs.Basics.{clash}
use Rattle.boards.proofs.Groups.{has_zero, commit_group_self, commit_group_small, commit_group_within}
use Rattle.boards.proofs.Groups.{count_none, count_some}
use Rattle.volatile.specs.Volatile.{depends, opened}
use Rattle.volatile.specs.declared.Record.{Record}
use Rattle.volatile.proofs.Order.{orderly, rows_within}
use Rattle.protocol.specs.Image.{Memory, shape_of, view}
use Rattle.protocol.specs.Calls.{Start, Test, first, refusals, entry_tests, start_tests, plan, refusal_at}
use Rattle.protocol.specs.declared.Shape.{Shape}
use Rattle.protocol.proofs.Bridge.{limits, board_small}
use Rattle.protocol.proofs.Refusals.{Entered, begun, first_passed}
use Rattle.costs.specs.Forecasts.{commit_cost, commit_tests, commit_forecast}
use Rattle.costs.specs.Claims.{commit_request}
use Rattle.costs.proofs.Answers.{answered_status, answered_taken}
use Rattle.costs.proofs.Opened.{Grouped}
use Rattle.costs.proofs.Given.{Giving}

-- tests that give one number do so behind others, too
first_tail : (ts us vs : List Test) → first us ≡ first vs → first (ts ++ us) ≡ first (ts ++ vs)
unfolding first
first_tail [] us vs e = e
first_tail (t ∷ ts) us vs e = ap (cond t.holds t.number) (first_tail ts us vs e)

module _ (image : List ℕ) (r : Record) (i : ℕ) where
  abbrev pub start_shape : Shape
  start_shape = shape_of image

  abbrev pub start_memory : Memory
  start_memory = view start_shape image

  abbrev pub start_group : ℕ
  start_group = commit_group (depends r) i

  abbrev pub forecast_number : ℕ
  forecast_number = first (commit_tests image r i)

  pub forecast_status : (commit_forecast image r i).status ≡ forecast_number
  unfolding commit_forecast
  forecast_status = answered_status forecast_number start_group (commit_cost start_shape start_memory start_group)

  pub forecast_figures : forecast_number ≡ 0
      → commit_forecast image r i
      ≡ record { status = 0; group = start_group; stores = commit_cost start_shape start_memory start_group }
  unfolding commit_forecast
  forecast_figures z = answered_taken start_group (commit_cost start_shape start_memory start_group) z

  module _ (context : List ℕ) (full : length context ≡ start_shape.context) where
    pub start_number : refusal_at image r (Start i context) ≡ forecast_number
    unfolding refusals start_tests
    start_number =
        first_tail (entry_tests image r i) (start_tests start_shape r (length context)) _
        (first_passed 3 _ (ap not (eq-eqb (length context) start_shape.context full)))

    module _ (z : forecast_number ≡ 0) where
      pub start_taken : refusal_at image r (Start i context) ≡ 0
      start_taken = start_number ∙ z

      pub start_entered : Entered start_shape image r i
      unfolding refusals
      start_entered = (begun image r i (start_tests start_shape r (length context)) refl start_taken).0

      small_board : i < 16
      small_board = board_small (limits start_shape start_entered.sound.allowed_shape) start_entered.board

      pub start_member : has start_group i ≡ true
      start_member = commit_group_self (depends r) i small_board

      pub start_grouped : Grouped start_shape start_group
      unfolding depends
      start_grouped =
          let p = start_shape.boards in
          let rows = rows_within p r.rows (orderly p r start_entered.recorded).rows in
          record {
            few = (limits start_shape start_entered.sound.allowed_shape).most_boards;
            small = commit_group_small (depends r) i;
            below = commit_group_within (depends r) i start_entered.board (λ a b x y e. (rows.ends a b x y e).1);
            some = λ none. clash start_member (ap (λ x. has x i) none ∙ has_zero i);
          }

      pub start_giving : Giving start_shape start_group start_memory 0 image r (Start i context)
          (opened r i start_group) i context
      unfolding plan opened commit_request
      start_giving =
          record {
            before_it =
                record {
                  shape = refl;
                  members = refl;
                  inside = λ j y. clash y (has_zero j);
                  given = count_none start_shape.boards (has 0) has_zero;
                  less = count_some start_shape.boards (has start_group) i start_entered.board start_member;
                  tags = λ b. refl;
                };
            passed = start_taken;
            planned = refl;
            own = start_member;
            board = start_entered.board;
            full = full;
            member = start_member;
            awaited = has_zero i;
          }
