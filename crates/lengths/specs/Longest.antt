-- The numbers that the laws of this crate prove, each with how it is counted. A change of the cell file or of the listing changes them here.
use Rattle.std.specs.Prelude.{ℕ}

-- where the last record of a file can begin: 63 places of 11 bytes with their keys, 64 agents of 3, 1,024 actions of 5 and the touches of 64
-- places of 6 each stand before it: 693 + 192 + 5,120 + 384
abbrev pub last_record : ℕ
last_record = 6389

-- the longest accepted file: these records, and the end
abbrev pub longest_file : ℕ
longest_file = 6390

-- how many first bytes of a file decide: those before the last record, and the 11 that a record with keys would have
abbrev pub deciding_bytes : ℕ
deciding_bytes = 6400

-- the longest word of an action with the space after it: `release `
abbrev pub longest_word : ℕ
longest_word = 8

-- the longest listing where numbers have five digits. An agent has 16 * 13 + 15 bytes, sixteen actions such as `release 65535` with full stops
-- between them; a place has 25, `65535/65535/65535/65534[]`; a bar of 3 stands before each but one: 64 * 226 + 63 * 28 - 3
abbrev pub longest_listing : ℕ
longest_listing = 16225

-- the longest where they have twenty digits, the most that are written: 64 * 466 + 63 * 88 - 3
abbrev pub longest_any : ℕ
longest_any = 35365

-- the longest report: 16,384 lines of 15 bytes, and two listings of twenty digits with `start `, `end ` and the ends of their lines:
-- 245,760 + 2 * 35,365 + 12
abbrev pub longest_report : ℕ
longest_report = 316502
