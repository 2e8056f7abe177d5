-- The programs that play event lines, as one: each has a step of its own over the same runs.
use Rattle.std.specs.Prelude.{ℕ, ◌≡◌, Bool, List, ltb}
use Rattle.text.specs.Whole.{Line, Step, Goes, Ends, Program, output_by, Run, most_lines, rsmrun}
use Rattle.page.specs.Page.{Page, page_goes, rsmpage}
use Rattle.listing.specs.Listing.{rsmorder}

-- a state of `rsmrun`, of `rsmpage` or of `rsmorder`
pub data State : Type 0 where
  RowsState : Run → State
  PageState : Page → State
  OrderState : Run → State

unfoldable pub lifted : {A : Type 0} → (A → State) → Step A → Step State
lifted f (Goes text next) = Goes text (f next)
lifted f Ends = Ends

unfoldable pub report_step : State → Line → Step State
report_step (RowsState r) l = lifted RowsState (rsmrun.step r l)
report_step (PageState p) l = lifted PageState (rsmpage.step p l)
report_step (OrderState r) l = lifted OrderState (rsmorder.step r l)

unfoldable pub report_close : State → List ℕ
report_close (RowsState r) = rsmrun.close r
report_close (PageState p) = rsmpage.close p
report_close (OrderState r) = rsmorder.close r

unfoldable pub reporting : Program State
reporting = record { step = report_step; close = report_close }

-- its output is that of the program whose state it is
pub record EachItsOwn : Type 0 where
  pub rows : (r : Run) (ls : List Line) → output_by reporting (RowsState r) ls ≡ output_by rsmrun r ls
  pub page : (p : Page) (ls : List Line) → output_by reporting (PageState p) ls ≡ output_by rsmpage p ls
  pub order : (r : Run) (ls : List Line) → output_by reporting (OrderState r) ls ≡ output_by rsmorder r ls

-- whether a next line is played
unfoldable pub goes : State → Bool
goes (RowsState r) = ltb r.played most_lines
goes (PageState p) = page_goes p
goes (OrderState r) = ltb r.played most_lines
