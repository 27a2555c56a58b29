-- The actions of an agent that follow one another, each with the full stop after it.
use Rattle.std.specs.Prelude.{◌≡◌, ℕ, ◌+◌, ◌<◌, length, get_or}
use Rattle.table.specs.declared.Agent.{Agent}
use Rattle.meaning.specs.File.{with_action}
use Rattle.language.specs.declared.Control.{Control}
use Rattle.language.specs.declared.Control.TheVariants.{Dot, Digits}
use Rattle.language.specs.declared.Field.TheVariants.{ActionNumber}
use Rattle.language.specs.Grammar.{Text}
use Rattle.parser.specs.Stretches.{Stretch}

-- before the byte at i a full stop was read last, and g is the latest agent; before a later one it is another state, and the agent has the
-- actions between the two, of which each ended in a full stop and had room
pub data Rowed (s : Text) (i : ℕ) (g : Agent) : ℕ → Control → Agent → Type 0 where
  begun : {j : ℕ} {c : Control} → Stretch s i Dot j c → Rowed s i g j c g
  more : {j kind name : ℕ} {a : Agent} {l : ℕ} {c : Control} → Rowed s i g j (Digits (ActionNumber kind) name) a → j < length s → get_or s j 0 ≡ 46
      → a.count < 16 → Stretch s (j + 1) Dot l c → Rowed s i g l c (with_action a kind name)
