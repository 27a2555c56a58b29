-- The ceiling of the worked example of `walk` (document 01), computed from the file and from the typed text: `7[enter 9] | 9[exit 7]`, two agents with
-- two actions in all.
use Rattle.std.specs.Prelude.{◌≡◌, refl, [], ◌∷◌, ℕ}
use Rattle.sets.specs.Word.{has, word_of}
use Rattle.order.specs.Row.{keep, later, counting, counting_row}
use Rattle.table.specs.Base.{upd, tab, fold_up, count_below, sum_below}
use Rattle.table.specs.Cell.{cell_of, bare_table, row_end, unused}
use Rattle.meaning.specs.File.{place_record, agent_record, action_record, record_at, add_place, add_agent, with_action, add_action, load_record, load_from}
use Rattle.meaning.specs.File.{Load, accepted, refused, load}
use Rattle.meaning.specs.Text.{ascii}
use Rattle.meaning.specs.BenchRow.{file, place, agent, enters, exits}
use Rattle.language.specs.Machine.{begin_word, begin_part, closed, ended, least_of, follow, continues, spelled, next, apply, is_on, land, step, run}
use Rattle.language.specs.Machine.{end_at, end, reads, taken}
use Rattle.language.specs.Read.{site_agent, site_action, site_place, site_end, bare_site, start, answer, read_text}
use Rattle.ceiling.specs.Ceiling.{ceiling}

-- the ceiling of the cell that a load gives; 0 where it is refused
abbrev ceiling_in : Load → ℕ
ceiling_in (accepted c) = ceiling c
ceiling_in (refused number offset) = 0

-- 5 × 2 × (2 × 2 + 1) + 2 × 2; of the thirteen calls of the example's order eleven change the cell
pub file_ceiling : ceiling_in (load (file (place 1 0 7 ∷ place 2 0 9 ∷ agent 0 1 ∷ enters 0 9 ∷ agent 1 2 ∷ exits 1 7 ∷ []))) ≡ 54
unfolding file load load_from load_record record_at place_record agent_record action_record add_place add_agent with_action add_action cell_of bare_table has upd
    tab keep later counting counting_row row_end unused count_below sum_below
file_ceiling = refl

-- as it is typed
pub text_ceiling : ceiling_in (read_text (ascii "7[enter 9] | 9[exit 7]")) ≡ 54
unfolding read_text bare_site start answer site_agent site_action site_place site_end begin_word begin_part closed ended least_of follow continues spelled next
    apply is_on land step run end_at end reads taken add_place add_agent with_action add_action cell_of bare_table has word_of upd tab fold_up keep later
    counting counting_row row_end unused count_below sum_below
text_ceiling = refl
