-- One computed table, one result: document 01's bench cases that are marked P, the worked example of `walk`, and rows for each refusal, each
-- step and the listing. The rows stand by subject in modules of their own. Each list of rows is computed by itself, so that a slip in a definition
-- shows at the rows that it is about.
use Rattle.std.specs.Prelude.{◌≡◌, refl, Bool, true, false, ◌&&◌, List, [], ◌∷◌, ◌++◌, ℕ, eqb}
use Prim.Native.String.{String}
use Rattle.sets.specs.Word.{has, word_of, count_of, lowest_of}
use Rattle.order.specs.Row.{keep, later, first_in, occurs, counting, counting_row, has_all, all_small, row_fits}
use Rattle.table.specs.Base.{upd, tab, fold_up, all_below, any_below, count_below, sum_below, iter}
use Rattle.table.specs.Cell.{cell_of, table_of, bare_table, linked, linked_to, travels, fresh_number, next_action, row_end, unused}
use Rattle.table.specs.Idle.{idle}
use Rattle.table.specs.Sound.{actions_fit, ready, holds_both, stage_fits, first_held, second_held, lock_is, claims, agent_fits, going_from, goes, place_fits}
use Rattle.table.specs.Sound.{core_sound, touch_sum, books_sound, sound}
use Rattle.meaning.specs.File.{place_record, agent_record, action_record, touch_record, record_at, add_place, add_agent, with_action, add_action, give_touches}
use Rattle.meaning.specs.File.{load_record, load_from, load, loaded, load_of}
use Rattle.meaning.specs.Step.{on_way_to, awaited, enters_at, exits_from, opens_at, qualifies, chosen_of, choose, fires, stays, still, turn, take, release}
use Rattle.meaning.specs.Step.{asleep_on, wake, look, lock_first, put, put_or_sleep, lock_second, hold, leave, dissolve_agent, woken_by, dissolve_lock, dissolve, act}
use Rattle.meaning.specs.Step.{arrive, travel, step_at, step}
use Rattle.meaning.specs.Touch.{counted, untouched, touch_of, touches_of}
use Rattle.meaning.specs.Run.{made, turned_away, step_of, call_of, run, answers, settled, rests}
use Rattle.meaning.specs.Ask.{told_at, ask_of, commit_of, handed_of}
use Rattle.meaning.specs.Where.{outwards, nearest, holds, common, nearest_of, common_of}
use Rattle.meaning.specs.Limit.{moves_left, changes_left, ceiling_of}
use Rattle.meaning.specs.Calculus.{stands_at, may_enter, may_exit, may_open, has_room, may_release, permits, put_into, open_up, put_out, move}
use Rattle.meaning.specs.Plain.{tree_of, plain_of, land_in, pick_of, plain_word, plain_step, plain_run}
use Rattle.meaning.specs.Text.{ascii, digits, gap, joined_all, overlay}
use Rattle.meaning.specs.Sorted.{leq, insert, sorted}
use Rattle.meaning.specs.Listing.{kind_text, action_text, agent_text, lists_in, texts_of, agent_texts, stands_under, is_plain, slashed, name_text, bracketed, place_texts}
use Rattle.meaning.specs.Listing.{in_order, contents_text, listing}
use Rattle.meaning.specs.Listing.{list_answer, list_buffer}
use Rattle.meaning.specs.TreeListing.{row_text, acts_in, tree_agents, tree_places, tree_contents, tree_listing}
use Rattle.meaning.specs.Report.{word_text, step_line, refused_line, listing_line, calls_in, report_run, report_of, report}
use Rattle.meaning.specs.Codes.{check_of, idle_of}
use Rattle.meaning.specs.BenchRow.{Row, file, many_opens, many_places, calls}
use Rattle.meaning.specs.BenchPaper.{paper_rows, slip_rows}
use Rattle.meaning.specs.BenchFiles.{file_rows}
use Rattle.meaning.specs.BenchSteps.{step_rows}
use Rattle.meaning.specs.BenchListing.{listing_rows}
use Rattle.meaning.specs.BenchTables.{Computed, sample, topmost}
use Rattle.meaning.specs.BenchSound.{sound_rows}
use Rattle.meaning.specs.BenchUnsound.{unsound_rows}
use Rattle.meaning.specs.BenchCalls.{call_rows}
use Rattle.meaning.specs.BenchAfter.{after_rows}
use Rattle.meaning.proofs.BenchTouch.{crib, touch_rows}
use Rattle.meaning.specs.BenchAsk.{yard, ask_rows}
use Rattle.meaning.specs.BenchWhere.{hall, shaft, where_rows}
use Rattle.meaning.specs.BenchCeiling.{worked, lone, ceiling_rows}
use Rattle.meaning.specs.BenchOrder.{first_rows, order_rows}
use Rattle.meaning.specs.BenchKeys.{key_rows, key_numbers}
use Rattle.meaning.specs.BenchPlain.{plain_rows}
use Rattle.meaning.specs.BenchRelease.{release_rows, carrier, rested, release_numbers}

-- every row passes a test
pub every : {A : Type 0} → (A → Bool) → List A → Bool
every test [] = true
every test (row ∷ rest) = test row && every test rest

-- a list is computed only where the one before it holds: a slip in a definition shows at the first list that it is about
then : {A B : Type 0} → A → B → B
then first second = second

-- two texts are the same
same : List ℕ → List ℕ → Bool
same [] [] = true
same [] (y ∷ ys) = false
same (x ∷ xs) [] = false
same (x ∷ xs) (y ∷ ys) = eqb x y && same xs ys

-- "each line ends with byte 0A"
text_of : List String → List ℕ
text_of [] = []
text_of (line ∷ lines) = ascii line ++ (10 ∷ text_of lines)

-- ---- what walk writes

-- a row's report is its lines; to open this is to open every definition that walk rests on
pub writes : Row → Bool
unfolding every text_of file many_opens calls same has word_of count_of lowest_of fresh_number keep later first_in occurs counting counting_row has_all all_small
    row_fits chosen_of upd tab fold_up all_below any_below count_below iter cell_of table_of bare_table linked linked_to travels next_action actions_fit ready
    holds_both stage_fits first_held second_held lock_is claims agent_fits going_from goes place_fits core_sound sum_below touch_sum books_sound sound
    place_record agent_record action_record touch_record record_at add_place add_agent with_action add_action give_touches load_record load_from load on_way_to
    awaited enters_at exits_from opens_at qualifies choose fires stays still turn take release asleep_on wake look lock_first put put_or_sleep lock_second
    hold leave dissolve_agent woken_by dissolve_lock dissolve act arrive travel step_at step made turned_away step_of digits gap kind_text action_text
    agent_text lists_in texts_of agent_texts stands_under is_plain slashed name_text bracketed place_texts leq insert sorted joined_all in_order contents_text
    listing word_text step_line refused_line listing_line calls_in report_run report_of report
writes r = same (report r.cell r.order) (text_of r.lines)

files : every writes file_rows ≡ true
unfolding writes file_rows
files = refl

listings : every writes listing_rows ≡ true
unfolding writes listing_rows
listings = then files refl

keys : every writes key_rows ≡ true
unfolding writes key_rows
keys = then listings refl

releases : every writes release_rows ≡ true
unfolding writes release_rows
releases = then keys refl

paper : every writes paper_rows ≡ true
unfolding writes paper_rows
paper = then releases refl

slips : every writes slip_rows ≡ true
unfolding writes slip_rows
slips = then paper refl

first_taken : every writes first_rows ≡ true
unfolding writes first_rows
first_taken = then slips refl

steps : every writes step_rows ≡ true
unfolding writes step_rows
steps = then first_taken refl

pub rows : List (List Row)
rows = file_rows ∷ listing_rows ∷ key_rows ∷ release_rows ∷ paper_rows ∷ slip_rows ∷ first_rows ∷ step_rows ∷ []

-- computed by the checker from the definitions alone
pub bench : every (every writes) rows ≡ true
unfolding every rows
bench = rw (files, listings, keys, releases, paper, slips, first_taken, steps)

-- ---- what walk cannot show

-- a row computes to the numbers that it is to be; to open this is to open every definition that a host's calls and the plain tree rest on
unfoldable pub computes : Computed → Bool
unfolding writes told_at ask_of commit_of handed_of outwards nearest holds common nearest_of common_of moves_left changes_left ceiling_of tree_of plain_of
    land_in pick_of plain_word plain_step plain_run row_text acts_in tree_agents tree_places tree_contents tree_listing stands_at may_enter may_exit may_open
    has_room may_release permits put_into open_up put_out move answers row_end unused counted untouched touch_of touches_of call_of run sample topmost check_of
    idle_of idle load_of loaded list_answer list_buffer overlay settled rests
computes r = same r.value r.meant

plain : every computes plain_rows ≡ true
unfolding computes plain_rows
plain = then bench refl

keys_kept : every computes key_numbers ≡ true
unfolding computes key_numbers
keys_kept = then plain refl

order : every computes order_rows ≡ true
unfolding computes order_rows
order = then keys_kept refl

answered : every computes call_rows ≡ true
unfolding computes call_rows
answered = then order refl

touches : every computes touch_rows ≡ true
unfolding computes touch_rows crib
touches = then answered refl

asks : every computes ask_rows ≡ true
unfolding computes ask_rows yard
asks = then touches refl

whereabouts : every computes where_rows ≡ true
unfolding computes where_rows hall shaft
whereabouts = then asks refl

ceiling : every computes ceiling_rows ≡ true
unfolding computes ceiling_rows worked lone
ceiling = then whereabouts refl

released : every computes release_numbers ≡ true
unfolding computes release_numbers carrier rested many_places
released = then ceiling refl

after : every computes after_rows ≡ true
unfolding computes after_rows
after = then released refl

soundness : every computes sound_rows ≡ true
unfolding computes sound_rows
soundness = then after refl

ruled_out : every computes unsound_rows ≡ true
unfolding computes unsound_rows
ruled_out = then soundness refl

pub tables : List (List Computed)
tables = plain_rows ∷ key_numbers ∷ order_rows ∷ call_rows ∷ touch_rows ∷ ask_rows ∷ where_rows ∷ ceiling_rows ∷ release_numbers ∷ after_rows ∷ sound_rows ∷ unsound_rows ∷ []

-- the plain tree and the calculus, keys and the row of places in a table, the calls and answers of a host, touches, ask and commit, where a place
-- is, the ceiling, release, the table after each kind of step, soundness clause by clause, and what soundness rules out
pub numbers : every (every computes) tables ≡ true
unfolding every tables
numbers = rw (plain, keys_kept, order, answered, touches, asks, whereabouts, ceiling, released, after, soundness, ruled_out)
