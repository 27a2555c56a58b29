-- What a host asks at its start: the library's version, and how many bytes a cell has.
use Rattle.std.specs.Prelude.{ℕ, ◌+◌, ◌*◌}

-- ---- the version

-- the three numbers of a version as one: the major number from bit 16 on, the minor one in bits 8 to 15, the patch in bits 0 to 7
abbrev pub version_number : ℕ → ℕ → ℕ → ℕ
version_number major minor patch = major * 65536 + minor * 256 + patch

-- version 6.3.0
abbrev pub keeper_version : ℕ
keeper_version = version_number 6 3 0

-- ---- how many bytes a cell has, field by field, as C lays it out

-- the name itself and the keys for entering, exiting and opening
abbrev pub name_bytes : ℕ
name_bytes = 2 + 3 * 2

-- name with its keys, parent, way
abbrev pub place_bytes : ℕ
place_bytes = name_bytes + 1 + 1

-- kind, a byte that means nothing, name
abbrev pub action_bytes : ℕ
action_bytes = 1 + 1 + 2

-- home, stage, remembered, chosen, next, count, and the row of sixteen actions
abbrev pub agent_bytes : ℕ
agent_bytes = 6 + 16 * action_bytes

-- 64 places, a lock for each, 64 agents, two sets of eight bytes, 64 counts of touches, and the row of 64 numbers
abbrev pub cell_bytes : ℕ
cell_bytes = 64 * place_bytes + 64 + 64 * agent_bytes + 2 * 8 + 64 * 8 + 64
