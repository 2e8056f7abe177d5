-- The order of a text (document 02, Req 07): its lines are played as `rsmrun` plays them, then the order is printed.
use Rattle.std.specs.Prelude.{ℕ, cond, List, [], ◌∷◌, ◌++◌, eqb, ltb}
use Rattle.volatile.specs.declared.Record.{Record}
use Rattle.order.specs.Call.{order_status, components}
use Rattle.text.specs.Fields.{line_feed}
use Rattle.text.specs.Rows.{decimal, group_text}
use Rattle.text.specs.Whole.{Line, lines, Step, Goes, Ends, Program, output_by, Run, start, most_lines, next_run}

-- a line of four hexadecimal digits for each component
unfoldable pub component_lines : List ℕ → List ℕ
component_lines [] = []
component_lines (g ∷ gs) = group_text g ++ (line_feed ∷ component_lines gs)

-- or the refusal's number alone on a line
unfoldable pub order_text : List ℕ → Record → List ℕ
order_text image r =
    let n = order_status image r in
    cond (eqb n 0) (component_lines (components image r)) (decimal n ++ line_feed ∷ [])

-- nothing is printed of a line; the text closes with the order
unfoldable pub order_step : Run → Line → Step Run
order_step r l = cond (ltb r.played most_lines) (Goes [] (next_run r l)) Ends

unfoldable pub rsmorder : Program Run
rsmorder = record { step = order_step; close = λ r. order_text r.player.image r.player.state }

unfoldable pub order_output : List ℕ → List ℕ
order_output text = output_by rsmorder start (lines text)
