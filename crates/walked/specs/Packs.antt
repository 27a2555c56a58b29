-- A name and its keys in one word.
use Rattle.std.specs.Prelude.{ℕ, ◌+◌, ◌*◌, ◌/◌, ◌%◌}
use Rattle.table.specs.declared.Name.{Name}

-- the name in its lowest sixteen bits, and the keys above it in their order
abbrev pub packed_of : Name → ℕ
packed_of x = x.name + 65536 * (x.entering + 65536 * (x.exiting + 65536 * x.opening))

-- and the name of a word
abbrev pub unpacked_of : ℕ → Name
unpacked_of word = record {
  name = word % 65536;
  entering = word / 65536 % 65536;
  exiting = word / 65536 / 65536 % 65536;
  opening = word / 65536 / 65536 / 65536;
}

-- the word of a name and three keys that are all one number is so many times this number
abbrev pub fourfold : ℕ
fourfold = 281479271743489
