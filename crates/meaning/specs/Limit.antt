-- How many step calls can still change a cell, at most: "Dispatch wants a ceiling" (document 02, W12), for any table. Definitions only.
use Rattle.std.specs.Prelude.{ℕ, ◌+◌, ◌*◌, Bool, ◌&&◌, cond, leb, length}
use Rattle.sets.specs.Word.{bit}
use Rattle.table.specs.Base.{count_below, sum_below}
use Rattle.table.specs.Cell.{State, cell_of, unused, on_way, on_way_both}
use Rattle.table.specs.Sound.{sound}
use Rattle.table.specs.declared.Agent.{Agent}
use Rattle.table.specs.declared.Cell.{Cell}
use Rattle.meaning.specs.Answers.{Limit, AtMost, Uncounted}
use Rattle.meaning.specs.Refusals.{unsound_table}

-- G, "a loaded cell with G agents": how many agents are given
abbrev pub agents_of : State → ℕ
agents_of c = count_below c.given 64

-- stages 4 to 6: the agent's place has left and has not come yet
abbrev pub is_away : ℕ → Bool
is_away stage = leb on_way stage && leb stage on_way_both

-- the moves before an agent, at most: two for each unused action, since an enter or exit leaves and comes, while an open or a release is one; and one
-- more while its place is on its way
abbrev pub moves_of : Agent → ℕ
moves_of a = 2 * length (unused a) + bit (is_away a.stage)

-- those of all agents that are given; of a loaded cell, with A actions, 2 × A
unfoldable pub moves_left : State → ℕ
moves_left c = sum_below (λ x. cond (c.given x) (moves_of (c.agent x)) 0) 64

-- "5 × G × (2 × A + 1) + 2 × A", with the moves that are left in place of 2 × A
unfoldable pub changes_left : State → ℕ
unfolding moves_left
changes_left c = 5 * agents_of c * (moves_left c + 1) + moves_left c

-- the call: "Calls on a table test 10 first"
unfoldable pub ceiling_of : Cell → Limit
unfolding changes_left
ceiling_of t = cond (sound (cell_of t)) (AtMost (changes_left (cell_of t))) (Uncounted unsound_table)
