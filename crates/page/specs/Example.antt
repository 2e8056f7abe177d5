-- Two pages from text to text, each a theorem by computation: the worked example of document 01, and a file with a
-- commit that is cut after its deciding store, with contexts, and with a second format.
use Prim.Native.String.{String}
use Rattle.std.specs.Prelude.{◌≡◌, refl, List, [], ◌∷◌}
use Rattle.boards.specs.Lists.{for, span, every, any, any_of}
use Rattle.boards.specs.Boards.{has, mask, beyond, tagged_in, tagged, link, unlink, pass, passes, commit_group}
use Rattle.boards.specs.Boards.{fault_group}
use Rattle.boards.specs.Rows.{links_of, rows_of, emptied}
use Rattle.protocol.specs.Image.{allowed, size, base, total, mark, exponent, exponent_from, header, shape_of, in_order}
use Rattle.protocol.specs.Image.{view, made, raw, rank, change, after}
use Rattle.volatile.specs.Volatile.{closed, fresh, off, depends, engaged, commit_of, left_open, depend, clear, opened}
use Rattle.volatile.specs.Volatile.{acknowledge, bad_row, bad_rows, bad_open, bad_closed, bad_commit, bad_record}
use Rattle.protocol.specs.Accesses.{board_of, touched, read_binding, write_binding, bind_boards, bind_tag, bind_blocks}
use Rattle.protocol.specs.Calls.{first, bad_range, stored_group, bad_tags, bad_decision, entry_tests, read_tests}
use Rattle.protocol.specs.Calls.{write_tests, start_tests, acknowledge_tests, power_tests, refusals, placing, tagging}
use Rattle.protocol.specs.Calls.{copying, block_copied, blocks_copied, context_saved, completing, deciding}
use Rattle.protocol.specs.Calls.{completed_first, recovering, acknowledging, plan, refused, decides, executed}
use Rattle.protocol.specs.Calls.{over_port_limit, record_refused, perform, format_tests, formatting, format}
use Rattle.text.specs.Fields.{codes, until, past, commas, field, number_from, number_of, digit, pairs}
use Rattle.text.specs.Fields.{decoded}
use Rattle.text.specs.Letters.{table, looked_up, letter_of}
use Rattle.text.specs.Events.{with_number, with_bytes, format_of, read_of, write_of, start_of, acknowledge_of}
use Rattle.text.specs.Events.{fault_of, allow_of, by_letter, with_letter, taken}
use Rattle.text.specs.Rows.{hexadecimal, byte_text, group_text}
use Rattle.text.specs.Turns.{ended, request_letter, play}
use Rattle.text.specs.Whole.{grown, lines, continued, output_by, start, next_run}
use Rattle.text.specs.Example.{text, input}
use Rattle.costs.specs.Forecasts.{those, boards_of, tagged_blocks}
use Rattle.page.specs.Saving.{saved, decided_by}
use Rattle.page.specs.Columns.{leading, padded, amounts_text, commit_line, total_head, total_line}
use Rattle.page.specs.Page.{no_totals, full_status, added, totals_after, decided_text, page_goes, page_step}
use Rattle.page.specs.Page.{rsmpage, page}

unfoldable pub worked_page : List String
worked_page =
    "     1 0003        1          4"
    ∷ "TOTAL  ----        1          4"
    ∷ []

-- 2 blocks of 4 bytes and 3 contexts of 2; then, in another shape, 2 blocks of 2 bytes, cut after the deciding store
unfoldable pub two_formats : List String
two_formats =
    "F,4,4,2,2"
    ∷ "W,3,1,AA"
    ∷ "R,0,0,2"
    ∷ "R,2,0,1"
    ∷ "W,0,4,BB"
    ∷ "R,2,4,1"
    ∷ "C,2,0102"
    ∷ "A,3,0304"
    ∷ "A,0,0506"
    ∷ "F,1,2,3,0"
    ∷ "W,0,0,01"
    ∷ "W,0,5,02"
    ∷ "Z,3"
    ∷ "C,0,"
    ∷ []

unfoldable pub two_formats_page : List String
two_formats_page =
    "     1 000D        2         14"
    ∷ "     2 0001        2          4"
    ∷ "TOTAL  ----        4         18"
    ∷ []

pub two_pages : (page (text input) ≡ text worked_page) × (page (text two_formats) ≡ text two_formats_page)
unfolding text input worked_page two_formats two_formats_page for span every any any_of has mask beyond tagged_in tagged
    link unlink pass passes commit_group fault_group links_of rows_of emptied allowed size base total mark exponent
    exponent_from header shape_of in_order view made raw rank change after closed fresh off depends engaged commit_of
    left_open depend clear opened acknowledge bad_row bad_rows bad_open bad_closed bad_commit bad_record board_of
    touched read_binding write_binding bind_boards bind_tag bind_blocks first bad_range over_port_limit stored_group
    bad_tags bad_decision entry_tests read_tests write_tests start_tests acknowledge_tests power_tests refusals
    placing tagging copying block_copied blocks_copied context_saved completing deciding completed_first recovering
    acknowledging plan refused decides executed record_refused perform format_tests formatting format codes
    until past commas field number_from number_of digit pairs decoded table looked_up letter_of with_number
    with_bytes format_of read_of write_of start_of acknowledge_of fault_of allow_of by_letter with_letter taken
    hexadecimal byte_text group_text ended request_letter play grown lines continued output_by start next_run
    those boards_of tagged_blocks saved decided_by leading padded amounts_text commit_line total_head total_line
    no_totals full_status added totals_after decided_text page_goes page_step rsmpage page
two_pages = (refl, refl)
