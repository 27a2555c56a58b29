-- What a call reads of a cell before it does anything.
use Rattle.std.specs.Prelude.{ℕ, ◌%◌, get_or}
use Rattle.table.specs.Cell.{no_agent, cell_of}
use Rattle.table.specs.Sound.{sound}
use Rattle.table.specs.declared.Cell.{Cell}
use Rattle.soundness.specs.declared.sound.Seen.{Seen}

-- whether the cell is sound, and the agent with this number, where numbers past 63 start from 0 again
abbrev pub seen_of : Cell → ℕ → Seen
seen_of c x = record { sound = sound (cell_of c); agent = get_or c.agents (x % 64) no_agent }
