-- Ask, then commit (document 02, W9): what a step would give, and the step made only if it is still that.
use Rattle.std.specs.Prelude.{ℕ, Bool, true, ◌&&◌, cond, eqb, ltb, Ok, Err}
use Rattle.table.specs.Cell.{Land, State, cell_of, kind_of, chooses, holding, holding_both}
use Rattle.table.specs.Sound.{sound}
use Rattle.table.specs.declared.Agent.{Agent}
use Rattle.table.specs.declared.Cell.{Cell}
use Rattle.meaning.specs.Answers.{Asked, Would, Unasked}
use Rattle.meaning.specs.declared.Stepped.{Stepped}
use Rattle.meaning.specs.Codes.{word_number, ask_number}
use Rattle.meaning.specs.Refusals.{unsound_table, no_such_agent, answer_differs}
use Rattle.meaning.specs.Step.{Outcome, choice, fires, stays, step}
use Rattle.meaning.specs.StepCall.{turned_away, step_of}
-- the number for no place, handed on
pub use Rattle.meaning.specs.Codes.{none_told}

-- ---- the chosen place

-- a choice as it is told; 64 is that of an action that can't fire
abbrev pub choice_told : ℕ → ℕ
choice_told q = cond (ltb q 64) q none_told

-- "the chosen place (for enter and open at stages 2 and 3 while the action fires and the word isn't back, else 255)". At stage 2 the word is
-- back where its place is no longer linked to p; at stage 3, where the action no longer fires
unfoldable pub told_at : ℕ → Land → Agent → ℕ → ℕ
told_at stage l a wish =
    cond (chooses (kind_of a))
    (cond (eqb stage holding) (cond (stays l a) (choice_told (choice l a wish)) none_told)
    (cond (eqb stage holding_both) (cond (fires l a) a.chosen none_told) none_told))
    none_told

-- the place that an ask of agent x with this wish tells
abbrev pub told_place : State → ℕ → ℕ → ℕ
told_place c x wish = told_at (c.agent x).stage c.land (c.agent x) wish

-- ---- ask

-- a step as an ask tells it
abbrev pub would : Outcome → ℕ → Asked
would o place = Would o.word o.woken place

-- "Ask takes an agent and a wish and tells the word, the number woken and the chosen place .., changing nothing"; 10 and 11 as a step's
unfoldable pub ask_of : Cell → ℕ → ℕ → Asked
ask_of t x wish =
    cond (sound (cell_of t))
    (cond ((cell_of t).given x) (would (step (cell_of t) x wish) (told_place (cell_of t) x wish)) (Unasked no_such_agent))
    (Unasked unsound_table)

-- ---- commit

-- word (by its number), number woken and place are what is told; where an ask is refused the step refuses by itself
abbrev pub agrees : Asked → ℕ → ℕ → ℕ → Bool
agrees (Ok o) word woken place = eqb (word_number o.word) word && (eqb o.woken woken && eqb o.place place)
agrees (Err number) word woken place = true

-- "Commit takes agent, wish and these three and performs the step only if they are still what the step would give"; "18 if the answer would
-- differ, after 10 and 11"
unfoldable pub commit_of : Cell → ℕ → ℕ → ℕ → ℕ → ℕ → Stepped
commit_of t x wish word woken place = cond (agrees (ask_of t x wish) word woken place) (step_of t x wish) (turned_away t answer_differs)

-- ---- a commit of the very number that an ask gave

-- the number is that of what is told; where an ask is refused the step refuses by itself
abbrev pub hands_back : Asked → ℕ → Bool
hands_back (Ok o) n = eqb (ask_number (Ok o)) n
hands_back (Err number) n = true

-- the same commit with the three in one number, as a host hands it back unread
unfoldable pub handed_of : Cell → ℕ → ℕ → ℕ → Stepped
handed_of t x wish n = cond (hands_back (ask_of t x wish) n) (step_of t x wish) (turned_away t answer_differs)
