-- Whether all agents are asleep or done (document 01, "Sources and what is kept").
use Rattle.std.specs.Prelude.{ℕ, Bool, true, cond, leb}
use Rattle.table.specs.Base.{all_below}
use Rattle.table.specs.Cell.{State, asleep}

-- "7: asleep. 8: done."
abbrev pub rests_at : ℕ → Bool
rests_at stage = leb asleep stage

-- every agent given is asleep or done; with no agents that is so
unfoldable pub idle : State → Bool
idle c = all_below (λ x. cond (c.given x) (rests_at (c.agent x).stage) true) 64
