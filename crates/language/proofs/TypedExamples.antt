-- One computed table, one result: files with a typed layout, orders, and the lines that walk writes for them.
use Rattle.std.specs.Prelude.{◌≡◌, refl, Bool, true, false, ◌&&◌, List, [], ◌∷◌, ◌++◌, ℕ, eqb}
use Prim.Native.String.{String}
use Rattle.sets.specs.Word.{has, word_of, count_of}
use Rattle.order.specs.Row.{keep, later, first_in, occurs, counting, counting_row, has_all, all_small, row_fits}
use Rattle.table.specs.Base.{upd, tab, fold_up, all_below, any_below, count_below, sum_below, iter}
use Rattle.table.specs.Cell.{cell_of, table_of, bare_table, linked, linked_to, travels, next_action}
use Rattle.table.specs.Sound.{actions_fit, ready, holds_both, stage_fits, first_held, second_held, lock_is, claims, agent_fits, going_from, goes, place_fits}
use Rattle.table.specs.Sound.{core_sound, touch_sum, books_sound, sound}
use Rattle.meaning.specs.File.{place_record, agent_record, action_record, add_place, add_agent, with_action, add_action}
use Rattle.meaning.specs.Step.{turn, look, step_at, step}
use Rattle.meaning.specs.Run.{made, turned_away, step_of}
use Rattle.meaning.specs.Text.{ascii, digits, gap, joined_all}
use Rattle.meaning.specs.Sorted.{leq, insert, sorted}
use Rattle.meaning.specs.Listing.{kind_text, action_text, agent_text, lists_in, texts_of, agent_texts, stands_under, is_plain, slashed, name_text, bracketed}
use Rattle.meaning.specs.Listing.{place_texts, in_order, contents_text, listing}
use Rattle.meaning.specs.Report.{word_text, step_line, refused_line, listing_line, calls_in, report_run, report_of}
use Rattle.meaning.specs.BenchRow.{calls, agents}
use Rattle.language.specs.Machine.{begin_word, begin_part, closed, ended, least_of, follow, continues, spelled, next, apply, is_on, land, run}
use Rattle.language.specs.Machine.{step as byte_step, end_at, end, reads, taken}
use Rattle.language.specs.Read.{site_agent, site_action, site_place, site_end, bare_site, start, answer, read_text}
use Rattle.language.specs.TypedReport.{line_length, line_of, shown, shown_from, window, caret_line, pointed, typed_of, typed_report}

-- a file with a typed layout, an order, and the lines that walk writes for them
pub record Row : Type 0 where
  pub file : List ℕ
  pub order : List ℕ
  pub lines : List String

abbrev row : List ℕ → List ℕ → List String → Row
row file order lines = record { file = file; order = order; lines = lines }

pub rows : List Row
rows =
    -- read and run: without an end of the line, with a byte 10, and with 13 and 10
    row (ascii "9[exit 7] | enter 9") (agents "0") ("start enter 9 | 9[exit 7]" ∷ "0 looked 0" ∷ "end enter 9 | 9[exit 7]" ∷ [])
    ∷ row (ascii "7[]\n") [] ("start 7[]" ∷ "end 7[]" ∷ [])
    ∷ row (ascii "7[]\r\n") [] ("start 7[]" ∷ "end 7[]" ∷ [])
    -- one end of a line and no more
    ∷ row (ascii "7[]\n\n") [] ("refused 16 3" ∷ "7[]?" ∷ "   ^" ∷ [])
    ∷ row (ascii "7[]\r") [] ("refused 16 3" ∷ "7[]?" ∷ "   ^" ∷ [])
    ∷ row (ascii "\n") [] ("refused 16 0" ∷ "" ∷ "^" ∷ [])
    -- the caret stands under the byte, or one after the last where the text stops early or has too many of anything
    ∷ row [] [] ("refused 16 0" ∷ "" ∷ "^" ∷ [])
    ∷ row (ascii "7[0]") (agents "0") ("refused 16 2" ∷ "7[0]" ∷ "  ^" ∷ [])
    ∷ row (ascii "7[enter 7\n") [] ("refused 16 9" ∷ "7[enter 7" ∷ "         ^" ∷ [])
    -- bytes 32 to 126 are shown as they are, all others as `?`
    ∷ row (55 ∷ 32 ∷ 126 ∷ []) [] ("refused 16 1" ∷ "7 ~" ∷ " ^" ∷ [])
    ∷ row (55 ∷ 31 ∷ 127 ∷ 255 ∷ []) [] ("refused 16 1" ∷ "7???" ∷ " ^" ∷ [])
    -- too many of anything: seventeen actions
    ∷ row (ascii "enter 1.enter 1.enter 1.enter 1.enter 1.enter 1.enter 1.enter 1.enter 1.enter 1.enter 1.enter 1.enter 1.enter 1.enter 1.enter 1.enter 1") []
    ("refused 17 135" ∷ ".enter 1.enter 1.enter 1.enter 1.enter 1" ∷ "                                        ^" ∷ [])
    -- a text of 72 bytes is shown whole, a longer one from 40 bytes before the offset on
    ∷ row (ascii "1[2[3[4[5[6[7[8[9[10[11[12[13[14[15[16[17[18[19[20[ ]]]]]]]]]]]]]]]]]]]]") []
    ("refused 16 51" ∷ "1[2[3[4[5[6[7[8[9[10[11[12[13[14[15[16[17[18[19[20[ ]]]]]]]]]]]]]]]]]]]]" ∷ "                                                   ^" ∷ [])
    ∷ row (ascii "1[2[3[4[5[6[7[8[9[10[11[12[13[14[15[16[17[18[19[20[ ]]]]]]]]]]]]]]]]]]]]]") []
    ("refused 16 51" ∷ "[7[8[9[10[11[12[13[14[15[16[17[18[19[20[ ]]]]]]]]]]]]]]]]]]]]]" ∷ "                                        ^" ∷ [])
    -- 72 bytes and no more
    ∷ row (ascii "xxxxxxxxxxxxxxxxxxxxxxxxxxxxxxxxxxxxxxxxxxxxxxxxxxxxxxxxxxxxxxxxxxxxxxxxxxxxxxxx") []
    ("refused 16 0" ∷ "xxxxxxxxxxxxxxxxxxxxxxxxxxxxxxxxxxxxxxxxxxxxxxxxxxxxxxxxxxxxxxxxxxxxxxxx" ∷ "^" ∷ [])
    ∷ row (ascii "1[2[3[4[5[6[7[8[9[10[11[12[13[14[15[16[17[18[19[20[xxxxxxxxxxxxxxxxxxxxxxxxxxxxxxxxxxxxxxxxxxxxxxxxxxxxxxxxxxxxxxxxxxxxxxxxxxxxxxxxxxxxxxxxxxxxxxxxxxx") []
    ("refused 16 51" ∷ "[7[8[9[10[11[12[13[14[15[16[17[18[19[20[xxxxxxxxxxxxxxxxxxxxxxxxxxxxxxxx" ∷ "                                        ^" ∷ [])
    ∷ []

-- two texts are the same
same : List ℕ → List ℕ → Bool
same [] [] = true
same [] (y ∷ ys) = false
same (x ∷ xs) [] = false
same (x ∷ xs) (y ∷ ys) = eqb x y && same xs ys

-- "each line ends with byte 0A"
text_of : List String → List ℕ
text_of [] = []
text_of (line ∷ lines) = ascii line ++ (10 ∷ text_of lines)

-- every row's report is its lines
pub all_same : List Row → Bool
unfolding same text_of
all_same [] = true
all_same (r ∷ rest) = same (typed_report r.file r.order) (text_of r.lines) && all_same rest

-- computed by the checker from the definitions alone
pub typed_examples : all_same rows ≡ true
unfolding all_same rows same text_of calls has word_of count_of keep later first_in occurs counting counting_row has_all all_small row_fits upd tab fold_up
    all_below any_below count_below sum_below iter cell_of table_of bare_table linked linked_to travels next_action actions_fit ready holds_both stage_fits
    first_held second_held lock_is claims agent_fits going_from goes place_fits core_sound touch_sum books_sound sound place_record agent_record
    action_record add_place add_agent with_action add_action turn look step_at step made turned_away step_of digits gap joined_all leq insert sorted
    kind_text action_text agent_text lists_in texts_of agent_texts stands_under is_plain slashed name_text bracketed place_texts in_order contents_text
    listing word_text step_line refused_line listing_line calls_in report_run report_of begin_word begin_part closed ended least_of follow continues
    spelled next apply is_on land run byte_step end_at end reads taken site_agent site_action site_place site_end bare_site start answer read_text
    line_length line_of shown shown_from window caret_line pointed typed_of typed_report
typed_examples = refl
