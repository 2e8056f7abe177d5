-- The page of a text: a line for each decided commit, and the total line (document 02, Req 05). The lines of the text
-- are played as `rsmrun` plays them.
use Rattle.std.specs.Prelude.{ℕ, suc, ◌+◌, Bool, ◌&&◌, cond, List, [], eqb, ltb, leb, Option, Some, None}
use Rattle.text.specs.Events.{taken}
use Rattle.text.specs.Whole.{Line, lines, Step, Goes, Ends, Program, output_by, Run, start, most_lines, next_run}
use Rattle.page.specs.declared.Saved.{Saved}
use Rattle.page.specs.declared.Totals.{Totals}
use Rattle.page.specs.Saving.{decided_by}
use Rattle.page.specs.Columns.{commit_line, total_line}

-- the commits that are printed at most
abbrev pub most_commits : ℕ
most_commits = 9999

unfoldable pub no_totals : Totals
no_totals = record { commits = 0; blocks = 0; bytes = 0 }

-- what a decided commit is answered by the page: 18 for one more than are printed, else 0. It is no refusal: the call
-- that decided it was played.
unfoldable pub full_status : Totals → ℕ
full_status t = cond (ltb t.commits most_commits) 0 18

-- a decided commit is counted and, unless that is answered 18, summed
unfoldable pub added : Totals → Saved → Totals
added t c =
    cond (eqb (full_status t) 0)
    (record { commits = suc t.commits; blocks = t.blocks + c.blocks; bytes = t.bytes + c.bytes })
    (record { commits = suc t.commits; blocks = t.blocks; bytes = t.bytes })

unfoldable pub totals_after : Totals → Option Saved → Totals
totals_after t None = t
totals_after t (Some c) = added t c

-- and printed, with its count
unfoldable pub decided_text : Totals → Option Saved → List ℕ
decided_text t None = []
decided_text t (Some c) = cond (eqb (full_status t) 0) (commit_line (suc t.commits) c) []

-- a run, and the totals of its commits
pub record Page : Type 0 where
  pub run : Run
  pub totals : Totals

-- it goes on up to the last line that a run takes, unless a commit was answered 18
unfoldable pub page_goes : Page → Bool
page_goes p = ltb p.run.played most_lines && leb p.totals.commits most_commits

unfoldable pub page_step : Page → Line → Step Page
page_step p l =
    let d = decided_by p.run.player (taken l) in
    cond (page_goes p)
    (Goes (decided_text p.totals d) (record { run = next_run p.run l; totals = totals_after p.totals d }))
    Ends

unfoldable pub rsmpage : Program Page
rsmpage = record { step = page_step; close = λ p. total_line p.totals.blocks p.totals.bytes }

abbrev pub first_page : Page
first_page = record { run = start; totals = no_totals }

unfoldable pub page : List ℕ → List ℕ
page text = output_by rsmpage first_page (lines text)
