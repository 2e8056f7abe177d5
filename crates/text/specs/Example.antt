-- The worked example of document 01, "Event lines and `rsmrun`", from text to text: one theorem, by computation.
use Rattle.std.specs.Prelude.{ℕ, ◌≡◌, refl, List, [], ◌∷◌, ◌++◌}
use Prim.Native.String.{String}
use Rattle.boards.specs.Lists.{for, span, every, any, any_of}
use Rattle.boards.specs.Boards.{has, mask, beyond, tagged_in, tagged, link, unlink, pass, passes, commit_group}
use Rattle.boards.specs.Boards.{fault_group}
use Rattle.boards.specs.Rows.{links_of, rows_of, emptied}
use Rattle.protocol.specs.Image.{allowed, size, base, total, mark, exponent, exponent_from, header, shape_of, in_order}
use Rattle.protocol.specs.Image.{view, made, raw, rank, change, after}
use Rattle.volatile.specs.Volatile.{closed, fresh, off, depends, engaged, commit_of, left_open, depend, clear, opened}
use Rattle.volatile.specs.Volatile.{acknowledge, bad_row, bad_rows, bad_open, bad_closed, bad_commit, bad_record}
use Rattle.protocol.specs.Accesses.{board_of, touched, read_binding, write_binding, bind_boards, bind_tag, bind_blocks}
use Rattle.protocol.specs.Calls.{first, bad_range, stored_group, bad_tags, bad_decision, entry_tests, read_tests}
use Rattle.protocol.specs.Calls.{write_tests, start_tests, acknowledge_tests, power_tests, refusals, placing, tagging}
use Rattle.protocol.specs.Calls.{copying, block_copied, blocks_copied, context_saved, completing, deciding}
use Rattle.protocol.specs.Calls.{completed_first, recovering, acknowledging, plan, refused, decides, executed}
use Rattle.protocol.specs.Calls.{over_port_limit, record_refused, perform, format_tests, formatting, format}
use Rattle.text.specs.Fields.{line_feed, codes, until, past, commas, field, number_from, number_of, digit, pairs}
use Rattle.text.specs.Fields.{decoded}
use Rattle.text.specs.Letters.{table, looked_up, letter_of}
use Rattle.text.specs.Events.{with_number, with_bytes, format_of, read_of, write_of, start_of, acknowledge_of}
use Rattle.text.specs.Events.{fault_of, allow_of, by_letter, with_letter, taken}
use Rattle.text.specs.Rows.{digit_at, decimal, hexadecimal, byte_text, bytes_text, group_text, flag_text}
use Rattle.text.specs.Rows.{row_text, rows_text}
use Rattle.text.specs.Turns.{ended, request_letter, play}
use Rattle.text.specs.Whole.{grown, lines, continued, output_by, start, line_rows, line_text, next_run, line_step}
use Rattle.text.specs.Whole.{rsmrun, output}

-- lines, each ended by a line feed
unfoldable pub text : List String → List ℕ
text [] = []
text (l ∷ ls) = codes l ++ (line_feed ∷ text ls)

unfoldable pub input : List String
input =
    "F,2,4,4,0"
    ∷ "W,0,5,0A0B"
    ∷ "R,1,6,1"
    ∷ "C,1,"
    ∷ "W,0,0,01"
    ∷ "A,0,"
    ∷ "W,1,5,FF"
    ∷ "Z,1"
    ∷ "X,1"
    ∷ "R,0,4,4"
    ∷ []

unfoldable pub answers : List String
answers =
    "1,F,0,0,0000,49,"
    ∷ "2,W,0,0,0000,3,"
    ∷ "3,R,0,0,0000,0,0B"
    ∷ "4,C,0,0,0003,0,"
    ∷ "5,W,13,0,0000,0,"
    ∷ "6,A,0,1,0003,9,"
    ∷ "7,W,0,0,0000,2,"
    ∷ "8,Z,0,0,0000,0,"
    ∷ "9,X,9,0,0000,1,"
    ∷ "9,U,0,0,0000,5,"
    ∷ "10,R,0,0,0000,0,000A0B00"
    ∷ []

pub eleven_answers : output (text input) ≡ text answers
unfolding text input answers for span every any any_of has mask beyond tagged_in tagged link unlink pass passes
    commit_group fault_group links_of rows_of emptied allowed size base total mark exponent exponent_from header
    shape_of in_order view made raw rank change after closed fresh off depends engaged commit_of left_open
    depend clear opened acknowledge bad_row bad_rows bad_open bad_closed bad_commit bad_record board_of touched
    read_binding write_binding bind_boards bind_tag bind_blocks first bad_range over_port_limit stored_group bad_tags
    bad_decision entry_tests read_tests write_tests start_tests acknowledge_tests power_tests refusals placing
    tagging copying block_copied blocks_copied context_saved completing deciding completed_first recovering
    acknowledging plan refused decides executed record_refused perform format_tests formatting format codes
    until past commas field number_from number_of digit pairs decoded table looked_up letter_of with_number
    with_bytes format_of read_of write_of start_of acknowledge_of fault_of allow_of by_letter with_letter taken
    digit_at decimal hexadecimal byte_text bytes_text group_text flag_text row_text rows_text ended request_letter
    play grown lines continued output_by start line_rows line_text next_run line_step rsmrun output
eleven_answers = refl
