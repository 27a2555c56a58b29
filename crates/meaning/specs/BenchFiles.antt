-- Rows on the cell file (document 01, "The cell file" and "Turned-away calls"): each refusal, and each two checks of which the first decides.
use Rattle.std.specs.Prelude.{List, [], ◌∷◌, ◌++◌}
use Rattle.meaning.specs.BenchRow.{Row, row, hex, agent, many_opens}

unfoldable pub file_rows : List Row
file_rows =
    -- "2 unknown kind", none of those above 6 (W3, W6) either
    row (hex "00 04") [] ("refused 2 0" ∷ [])
    -- also where it is the last byte: 2 before 1
    ∷ row (hex "07") [] ("refused 2 0" ∷ [])
    -- "1 cut short: a body incomplete", at the record, whatever its bytes say: 1 before 3
    ∷ row (hex "01 40") [] ("refused 1 0" ∷ [])
    -- "the byte offset of the record": an agent cut after a place
    ∷ row (hex "01 01 00 07 00 02 00") [] ("refused 1 5" ∷ [])
    -- an action cut after an agent
    ∷ row (hex "02 00 00 03 00 01 09") [] ("refused 1 3" ∷ [])
    -- "for a missing end, the file's length", after an action
    ∷ row (hex "02 00 00 03 00 01 09 00") [] ("refused 1 8" ∷ [])
    -- "the first faulty record decides"
    ∷ row (hex "02 00 05 05") [] ("refused 5 0" ∷ [])
    -- "3 .. place number 0", though the floor is given: 3 before 4
    ∷ row (hex "01 00 00 07 00 04") [] ("refused 3 0" ∷ [])
    -- "A parent .. above 63 gets 13" (W2), not given either: 13 before 5
    ∷ row (hex "01 01 40 07 00 04") [] ("refused 13 0" ∷ [])
    -- a place number given twice, its parent too large: "before 4"
    ∷ row (hex "01 01 00 07 00 01 01 40 07 00 04") [] ("refused 13 5" ∷ [])
    -- "of the three, the earlier byte in the record decides": place 0 and place 64 with parent 64
    ∷ row (hex "01 00 40 07 00 04") [] ("refused 3 0" ∷ [])
    ∷ row (hex "01 40 40 07 00 04") [] ("refused 3 0" ∷ [])
    -- "4 number given twice", its parent not given: 4 before 5
    ∷ row (hex "01 01 00 07 00 01 01 05 00 00 04") [] ("refused 4 5" ∷ [])
    -- "5 not yet given", with name 0: 5 before 6
    ∷ row (hex "01 01 05 00 00 04") [] ("refused 5 0" ∷ [])
    -- "given earlier": a parent given by the next record
    ∷ row (hex "01 02 01 09 00 01 01 00 07 00 04") [] ("refused 5 0" ∷ [])
    -- "an agent number above 63 gets 14", its home not given: 14 before 5
    ∷ row (hex "02 40 05 04") [] ("refused 14 0" ∷ [])
    -- its home too large as well: the earlier byte
    ∷ row (hex "02 40 40 04") [] ("refused 14 0" ∷ [])
    -- "A .. home above 63 gets 13", not given either: 13 before 5
    ∷ row (hex "02 00 40 04") [] ("refused 13 0" ∷ [])
    -- its number given twice, its home too large: 13 before 4
    ∷ row (hex "02 00 00 02 00 40 04") [] ("refused 13 3" ∷ [])
    -- its number given twice, its home not given: 4 before 5
    ∷ row (hex "02 00 00 02 00 05 04") [] ("refused 4 3" ∷ [])
    -- its home not given
    ∷ row (hex "02 00 05 04") [] ("refused 5 0" ∷ [])
    -- an action: its agent's number too large, not given either: 14 before 5
    ∷ row (hex "03 40 01 09 00 04") [] ("refused 14 0" ∷ [])
    -- its agent not given, its kind unknown: 5 before 7
    ∷ row (hex "03 00 05 09 00 04") [] ("refused 5 0" ∷ [])
    -- "7 action kind not 1 to 3", and since W11 not 4, with name 0: 7 before 6
    ∷ row (hex "02 00 00 03 00 05 00 00 04") [] ("refused 7 3" ∷ [])
    -- kind 0
    ∷ row (hex "02 00 00 03 00 00 09 00 04") [] ("refused 7 3" ∷ [])
    -- "6 name 0 in a place or action"
    ∷ row (hex "02 00 00 03 00 01 00 00 04") [] ("refused 6 3" ∷ [])
    -- touches (W3), which no listing shows: of the floor, wherever the record stands, and of a place
    ∷ row (hex "05 00 05 00 00 00 01 01 00 07 00 05 01 ff ff ff ff 04") [] ("start 7[]" ∷ "end 7[]" ∷ [])
    -- "a body incomplete", whatever its bytes say, and no end record after it
    ∷ row (hex "05 40 05 00 00") [] ("refused 1 0" ∷ [])
    ∷ row (hex "05 00 05 00 00 00") [] ("refused 1 6" ∷ [])
    -- "in it a place above 63 is 3", not given either: 3 before 5
    ∷ row (hex "05 40 05 00 00 00 04") [] ("refused 3 0" ∷ [])
    -- "a second record for a place is 4", also after one that gave none
    ∷ row (hex "05 00 00 00 00 00 05 00 05 00 00 00 04") [] ("refused 4 6" ∷ [])
    -- and after records of other places
    ∷ row (hex "05 00 05 00 00 00 01 01 00 07 00 05 01 05 00 00 00 05 00 05 00 00 00 04") [] ("refused 4 17" ∷ [])
    -- "a place not given is 5"; it stands "after that place"
    ∷ row (hex "05 01 05 00 00 00 01 01 00 07 00 04") [] ("refused 5 0" ∷ [])
    -- "Sixteen actions load"
    ∷ row (agent 0 0 ++ many_opens 16 (hex "04")) []
    ("start open 16.open 15.open 14.open 13.open 12.open 11.open 10.open 9.open 8.open 7.open 6.open 5.open 4.open 3.open 2.open 1" ∷
    "end open 16.open 15.open 14.open 13.open 12.open 11.open 10.open 9.open 8.open 7.open 6.open 5.open 4.open 3.open 2.open 1" ∷ [])
    -- "the seventeenth is 8"
    ∷ row (agent 0 0 ++ many_opens 16 (hex "03 00 03 01 00 04")) [] ("refused 8 83" ∷ [])
    -- a seventeenth with name 0: 6 before 8
    ∷ row (agent 0 0 ++ many_opens 16 (hex "03 00 03 00 00 04")) [] ("refused 6 83" ∷ [])
    -- "9 bytes after the end record", whatever they are: "the first byte after the end"
    ∷ row (hex "02 00 00 04 05") [] ("refused 9 4" ∷ [])
    -- agent 63 lives in place 63
    ∷ row (hex "01 3f 00 07 00 02 3f 3f 03 3f 03 09 00 04") [] ("start 7[open 9]" ∷ "end 7[open 9]" ∷ [])
    -- "Two-byte numbers have the low byte first": names 300 and 256, in a place and in an action
    ∷ row (hex "01 01 00 2c 01 02 00 01 03 00 01 00 01 04") [] ("start 300[enter 256]" ∷ "end 300[enter 256]" ∷ [])
    -- "Other names are 1 to 65,535"
    ∷ row (hex "01 01 00 ff ff 04") [] ("start 65535[]" ∷ "end 65535[]" ∷ [])
    ∷ []
