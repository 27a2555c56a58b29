-- Whether an agent is on its way, by its stage: a law for each of three ranges. Assumes nothing.
use Rattle.std.specs.Prelude.{◌≡◌, ℕ, ◌≤◌, ◌<◌}
use Rattle.std.proofs.Common.{le-leb}
use Rattle.std.proofs.lemmas.Bool.{lt-leb}
use Rattle.sets.specs.Word.{bit}
use Rattle.table.specs.Cell.{on_way, on_way_both}
use Rattle.meaning.specs.Limit.{is_away}

-- an agent is on its way at stages 4 to 6 only
pub away_before : (stage : ℕ) → stage < on_way → 0 ≡ bit (is_away stage)
away_before stage l = rw (lt-leb on_way stage l)

pub away_between : (stage : ℕ) → on_way ≤ stage → stage ≤ on_way_both → 1 ≡ bit (is_away stage)
away_between stage l m = rw (le-leb on_way stage l, le-leb stage on_way_both m)

pub away_after : (stage : ℕ) → on_way ≤ stage → on_way_both < stage → 0 ≡ bit (is_away stage)
away_after stage l m = rw (le-leb on_way stage l, lt-leb stage on_way_both m)
