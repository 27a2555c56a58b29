-- The numbers of the refusals (document 01, "Turned-away calls"; document 02 for those from 13 on).
use Rattle.std.specs.Prelude.{ℕ}

-- ---- of a file

-- "cut short: a body incomplete, or no end record"
abbrev pub cut_short : ℕ
cut_short = 1

-- "unknown kind, not 1 to 4"; "Kind 5 leaves the unknown kinds"
abbrev pub unknown_kind : ℕ
unknown_kind = 2

-- "number too large, or place number 0": "for a place record's own number" (document 02, W2), for
-- the place of a touch record or call (W3), and for one asked about (W10)
abbrev pub place_too_large : ℕ
place_too_large = 3

-- "number given twice"
abbrev pub given_twice : ℕ
given_twice = 4

-- "not yet given"
abbrev pub not_yet_given : ℕ
not_yet_given = 5

-- "name 0 in a place or action"
abbrev pub name_zero : ℕ
name_zero = 6

-- "action kind not 1 to 3"; "Action kind 4 leaves the wrong kinds" (document 02, W11)
abbrev pub wrong_kind : ℕ
wrong_kind = 7

-- "seventeenth action"
abbrev pub seventeenth : ℕ
seventeenth = 8

-- "bytes after the end record"
abbrev pub after_end : ℕ
after_end = 9

-- "A parent or home above 63 gets 13"
abbrev pub parent_too_large : ℕ
parent_too_large = 13

-- "an agent number above 63 gets 14"
abbrev pub agent_too_large : ℕ
agent_too_large = 14

-- ---- of a call on a table

-- "unsound table"
abbrev pub unsound_table : ℕ
unsound_table = 10

-- "no such agent"
abbrev pub no_such_agent : ℕ
no_such_agent = 11

-- "listing longer than the buffer"
abbrev pub too_long : ℕ
too_long = 12

-- "15, last in a touch call, if that call would make it so": a table whose sum of touches passes 1,000,000,000,000
abbrev pub too_many_touches : ℕ
too_many_touches = 15

-- ---- of a text (document 02, W8)

-- "16 for text outside the language"
abbrev pub outside_language : ℕ
outside_language = 16

-- "17 .. for too many of anything"
abbrev pub too_many : ℕ
too_many = 17

-- ---- of a commit (document 02, W9)

-- "18 if the answer would differ, after 10 and 11"
abbrev pub answer_differs : ℕ
answer_differs = 18
