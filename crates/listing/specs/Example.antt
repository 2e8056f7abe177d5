-- Orders from text to text, by computation: boards 1 and 2 depend on each other, board 0 on board 3; then with a commit
-- open, and of an empty text.
use Prim.Native.String.{String}
use Rattle.std.specs.Prelude.{◌≡◌, refl, List, [], ◌∷◌, ◌++◌}
use Rattle.boards.specs.Lists.{for, span, every, any, any_of}
use Rattle.boards.specs.Boards.{has, mask, beyond, tagged_in, tagged, link, unlink, pass, passes, commit_group}
use Rattle.boards.specs.Boards.{fault_group}
use Rattle.boards.specs.Rows.{links_of, rows_of, emptied}
use Rattle.volatile.specs.Volatile.{closed, fresh, off, depends, engaged, commit_of, left_open, depend, clear, opened}
use Rattle.volatile.specs.Volatile.{acknowledge, bad_row, bad_rows, bad_open, bad_closed, bad_commit, bad_record}
use Rattle.components.specs.Components.{component, ready, lowest, order_from, order}
use Rattle.protocol.specs.Image.{allowed, size, base, total, mark, exponent, exponent_from, header, shape_of, in_order}
use Rattle.protocol.specs.Image.{view, made, raw, rank, change, after}
use Rattle.protocol.specs.Accesses.{board_of, touched, read_binding, write_binding, bind_boards, bind_tag, bind_blocks}
use Rattle.protocol.specs.Calls.{first, bad_range, entry_tests, read_tests, write_tests, start_tests, refusals, placing}
use Rattle.protocol.specs.Calls.{tagging, acknowledging, plan, refused, decides, executed, over_port_limit}
use Rattle.protocol.specs.Calls.{record_refused, perform, format_tests, formatting, format}
use Rattle.order.specs.Call.{components}
use Rattle.text.specs.Fields.{codes, until, past, commas, field, number_from, number_of, digit, pairs, decoded}
use Rattle.text.specs.Letters.{table, looked_up, letter_of}
use Rattle.text.specs.Events.{with_number, with_bytes, format_of, read_of, write_of, start_of, by_letter, with_letter}
use Rattle.text.specs.Events.{taken}
use Rattle.text.specs.Rows.{digit_at, decimal, hexadecimal, byte_text, group_text}
use Rattle.text.specs.Turns.{ended, request_letter, play}
use Rattle.text.specs.Whole.{grown, lines, continued, output_by, start, next_run}
use Rattle.text.specs.Example.{text}
use Rattle.listing.specs.Listing.{component_lines, order_text, order_step, rsmorder, order_output}

unfoldable pub linked : List String
linked =
    "F,4,2,2,0"
    ∷ "W,1,0,0A"
    ∷ "W,2,1,0B"
    ∷ "W,3,2,0C"
    ∷ "R,0,2,1"
    ∷ []

pub three_orders : (order_output (text linked) ≡ text ("0006" ∷ "0008" ∷ "0001" ∷ []))
    × (order_output (text (linked ++ "C,0," ∷ [])) ≡ text ("14" ∷ []))
    × (order_output [] ≡ text ("11" ∷ []))
unfolding text linked for span every any any_of has mask beyond tagged_in tagged link unlink pass passes
    commit_group fault_group links_of rows_of emptied allowed size base total mark exponent exponent_from header
    shape_of in_order view made raw rank change after closed fresh off depends engaged commit_of left_open
    depend clear opened acknowledge bad_row bad_rows bad_open bad_closed bad_commit bad_record board_of touched
    read_binding write_binding bind_boards bind_tag bind_blocks first bad_range over_port_limit entry_tests
    read_tests write_tests start_tests refusals placing tagging acknowledging plan refused decides executed
    record_refused perform format_tests formatting format codes until past commas field number_from number_of digit
    pairs decoded table looked_up letter_of with_number with_bytes format_of read_of write_of start_of by_letter
    with_letter taken digit_at decimal hexadecimal byte_text group_text ended request_letter play grown lines
    continued output_by start next_run component ready lowest order_from order components component_lines order_text
    order_step rsmorder order_output
three_orders = (refl, refl, refl)
