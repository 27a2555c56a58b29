-- Rows on the longest texts: each bound is the sum of parts that are computed here, so none is larger than its parts say.
use Rattle.std.specs.Prelude.{◌≡◌, refl, [], ℕ, ◌+◌, ◌*◌, ◌-◌, ltb, length, replicate}
use Rattle.table.specs.Base.{tab, fold_up}
use Rattle.table.specs.Cell.{State, none, release_kind}
use Rattle.table.specs.declared.Name.{Name}
use Rattle.table.specs.declared.Agent.{Agent}
use Rattle.meaning.specs.Answers.{Refused}
use Rattle.meaning.specs.Refusals.{no_such_agent}
use Rattle.meaning.specs.Text.{ascii, digits, gap, joined_all}
use Rattle.meaning.specs.Sorted.{leq, insert, sorted}
use Rattle.meaning.specs.Update.{linked_place}
use Rattle.meaning.specs.Listing.{kind_text, action_text, agent_text, lists_in, texts_of, agent_texts, stands_under, is_plain, slashed, name_text, bracketed, place_texts}
use Rattle.meaning.specs.Listing.{in_order, contents_text, listing}
use Rattle.meaning.specs.Report.{step_line}
use Rattle.meaning.specs.BenchRow.{file, agent, releases, touches, keyed}
use Rattle.lengths.specs.Longest.{last_record, longest_file, deciding_bytes, longest_word, longest_listing, longest_any, longest_report}

-- ---- the widest parts

-- a name with keys that are not all equal to it
abbrev wide_name : ℕ → ℕ → Name
wide_name n m = record { name = n; entering = n; exiting = n; opening = m }

-- an agent on the floor with sixteen actions `release n`
abbrev wide_agent : ℕ → Agent
wide_agent n = record { home = 0; stage = 0; remembered = 0; chosen = 0; next = 0; count = 16; actions = replicate 16 (record { kind = release_kind; name = n }) }

-- so many such agents and such places, all on the floor; the floor is counted among the places
abbrev wide_cell : ℕ → ℕ → ℕ → ℕ → State
wide_cell agents places n m = record {
  land = record { place = λ q. linked_place (wide_name n m) 0; used = λ q. ltb q places; order = [] };
  lock = λ q. none;
  agent = λ x. wide_agent n;
  given = λ x. ltb x agents;
  touches = λ q. 0;
}

-- the length of a listing of so many such agents and places, with a bar of three bytes before each but one
abbrev wide_sum : ℕ → ℕ → ℕ → ℕ → ℕ
wide_sum agents places n m = agents * (length (agent_text (wide_agent n)) + 3) + places * (length (bracketed (wide_name n m) []) + 3) - 3

-- the records before the end: 63 places with keys, 64 agents, sixteen actions of each, the touches of 64 places
abbrev wide_file : ℕ
wide_file = 63 * length (keyed 1 0 9 9 9 8) + 64 * length (agent 0 0) + 64 * 16 * length (releases 0 9) + 64 * length (touches 0 5)

-- ---- the rows, each computed by the checker from the definitions alone

-- a file: what stands before the end, the end, and a record with keys in its place
pub before_end : last_record ≡ wide_file
before_end = refl

pub whole_file : longest_file ≡ wide_file + length (file [])
unfolding file
whole_file = refl

pub deciding : deciding_bytes ≡ wide_file + length (keyed 1 0 9 9 9 8)
deciding = refl

-- the longest word is written
pub word : longest_word ≡ length (kind_text release_kind)
unfolding kind_text tab
word = refl

-- a listing where numbers have five digits, and one where they have twenty
pub five_digits : longest_listing ≡ wide_sum 64 63 65535 65534
unfolding tab fold_up digits gap kind_text action_text agent_text is_plain slashed name_text bracketed
five_digits = refl

pub twenty_digits : longest_any ≡ wide_sum 64 63 18446744073709551615 18446744073709551614
unfolding tab fold_up digits gap kind_text action_text agent_text is_plain slashed name_text bracketed
twenty_digits = refl

-- a listing is as long as that sum: of two such agents and two such places
pub two_of_each : length (listing (wide_cell 2 3 65535 65534)) ≡ wide_sum 2 2 65535 65534
unfolding tab fold_up digits gap joined_all leq insert sorted kind_text action_text agent_text lists_in texts_of agent_texts stands_under is_plain slashed name_text bracketed
    place_texts in_order contents_text listing
two_of_each = refl

-- a report: the longest line, one for an agent that was never given, 16,384 times, and the first and the last line with their listings
pub whole_report : longest_report ≡ 16384 * length (step_line 255 (Refused no_such_agent)) + length (ascii "start ") + length (ascii "end ") + 2 * (longest_any + 1)
unfolding tab digits step_line
whole_report = refl
