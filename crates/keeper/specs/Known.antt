-- What a call whether all agents are asleep or done answers, told whether the table is sound and whether they are: `idle_of` is the case where it was told the truth.
use Rattle.std.specs.Prelude.{Bool, cond}
use Rattle.meaning.specs.Refusals.{unsound_table}
use Rattle.meaning.specs.Answers.{Idled, Idle, Busy, Unknown}

-- refused by 10, else whether they are
unfoldable pub known_idle : Bool → Bool → Idled
known_idle known rest = cond known (cond rest Idle Busy) (Unknown unsound_table)
