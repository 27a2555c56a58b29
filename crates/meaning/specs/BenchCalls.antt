-- Rows on the calls as a host makes them: answers as numbers, calls on unsound tables, the listing's buffer, idle, settled and at rest.
use Rattle.std.specs.Prelude.{List, [], ◌∷◌}
use Rattle.table.specs.Cell.{bare_table, cell_of, table_of}
use Rattle.meaning.specs.declared.Word.TheVariants.{Looked, Took, Held, Back, Slept, Left, Came, Opened, Put, Asleep, Done}
use Rattle.meaning.specs.Answers.{Did, Refused, Accepted, Rejected, Length, Unlisted, Sound, Unsound, Idle, Busy, Unknown}
use Rattle.meaning.specs.File.{load_of}
use Rattle.meaning.specs.Run.{step_of, settled, rests}
use Rattle.meaning.specs.Listing.{listing, list_answer, list_buffer}
use Rattle.meaning.specs.Report.{report}
use Rattle.meaning.specs.Codes.{idle_of, word_number, step_number, load_number, list_number, check_number, idle_number}
use Rattle.meaning.specs.Refusals.{outside_language, too_many}
use Rattle.meaning.specs.BenchRow.{hex}
use Rattle.meaning.specs.BenchTables.{Computed, number, bytes, holds, fails, loaded_from, placed, not_used, locked, staged, counted, acting}
use Rattle.meaning.specs.BenchTables.{sample, holding, entering, exiting, opening, going, going6, topmost}

unfoldable pub call_rows : List Computed
call_rows =
    -- "0 looked, 1 took, 2 held, 3 back, 4 slept, 5 left, 6 came, 7 opened, 9 asleep, 10 done"
    number 0 (word_number Looked)
    ∷ number 1 (word_number Took)
    ∷ number 2 (word_number Held)
    ∷ number 3 (word_number Back)
    ∷ number 4 (word_number Slept)
    ∷ number 5 (word_number Left)
    ∷ number 6 (word_number Came)
    ∷ number 7 (word_number Opened)
    ∷ number 8 (word_number Put)
    ∷ number 9 (word_number Asleep)
    ∷ number 10 (word_number Done)
    -- a step's answer: the word in bits 8 to 15, the number woken in bits 16 to 23; or the refusal's number
    ∷ number 0x010600 (step_number (Did Came 1))
    ∷ number 0x3f0500 (step_number (Did Left 63))
    ∷ number 0x000a00 (step_number (Did Done 0))
    ∷ number 11 (step_number (Refused 11))
    -- a load's answer: 0, or the refusal's number with the offset from bit 8 on, 56 bits of it
    ∷ number 0 (load_number Accepted)
    ∷ number 0x0a05 (load_number (Rejected 5 10))
    ∷ number 0x123409 (load_number (Rejected 9 0x1234))
    ∷ number 0x8000000000000001 (load_number (Rejected 1 0x80000000000000))
    ∷ number 0x0301 (load_number (Rejected 1 0x100000000000003))
    -- a listing's answer: the length from bit 8 on, or the refusal's number
    ∷ number 0x32f300 (list_number (Length 13043))
    ∷ number 12 (list_number (Unlisted 12))
    -- a check's answer, and whether all are asleep or done
    ∷ number 0 (check_number Sound)
    ∷ number 10 (check_number (Unsound 10))
    ∷ number 0x0100 (idle_number Idle)
    ∷ number 0 (idle_number Busy)
    ∷ number 10 (idle_number (Unknown 10))
    -- "A load starts from a bare floor", whatever the cell was; `04 04` is refused with 9 at 1 and "leaves the cell that was there"
    ∷ number 0 (load_number (load_of (table_of sample) (hex "04")).verdict)
    ∷ bytes (48 ∷ []) (listing (cell_of (load_of (table_of sample) (hex "04")).cell))
    ∷ number 0x0109 (load_number (load_of (table_of sample) (hex "04 04")).verdict)
    ∷ number 2 ((cell_of (load_of (table_of sample) (hex "04 04")).cell).agent 2).home
    -- "Calls on a table test 10 first, then 11", for a given agent and for one never given
    ∷ number 10 (step_number (step_of (table_of (not_used 0 sample)) 0 255).answer)
    ∷ number 10 (step_number (step_of (table_of (not_used 0 sample)) 9 255).answer)
    ∷ number 11 (step_number (step_of (table_of sample) 9 255).answer)
    -- 3: "If the action (on the chosen place) no longer fires: release both, back, stage 0", in tables that no load reaches
    ∷ number 0x0300 (step_number (step_of (table_of (placed 3 5 0 0 entering)) 0 255).answer)
    ∷ holds (settled (cell_of (step_of (table_of (placed 3 5 0 0 entering)) 0 255).cell))
    ∷ number 0x0300 (step_number (step_of (table_of (placed 1 5 0 0 exiting)) 2 255).answer)
    ∷ holds (settled (cell_of (step_of (table_of (placed 1 5 0 0 exiting)) 2 255).cell))
    -- opened wakes a moved agent wherever it slept
    ∷ number 0x010700 (step_number (step_of (table_of (staged 2 7 3 0 opening)) 1 255).answer)
    -- "counted from the set of sleepers": an agent that is not given is none, by left, came and opened
    ∷ number 0x000500 (step_number (step_of (table_of (staged 9 7 0 0 entering)) 0 255).answer)
    ∷ number 0x000600 (step_number (step_of (table_of (staged 9 7 3 0 going6)) 0 255).answer)
    ∷ number 0x000700 (step_number (step_of (table_of (staged 9 7 1 0 opening)) 1 255).answer)
    -- "the call answers the length, and bytes past the listing stay untouched": `7[]` in buffers of three and of five bytes
    ∷ number 0x0300 (list_number (list_answer (cell_of (loaded_from (hex "01 01 00 07 00 04"))) (1 ∷ 2 ∷ 3 ∷ [])))
    ∷ bytes (55 ∷ 91 ∷ 93 ∷ []) (list_buffer (cell_of (loaded_from (hex "01 01 00 07 00 04"))) (1 ∷ 2 ∷ 3 ∷ []))
    ∷ number 0x0300 (list_number (list_answer (cell_of (loaded_from (hex "01 01 00 07 00 04"))) (1 ∷ 2 ∷ 3 ∷ 4 ∷ 5 ∷ [])))
    ∷ bytes (55 ∷ 91 ∷ 93 ∷ 4 ∷ 5 ∷ []) (list_buffer (cell_of (loaded_from (hex "01 01 00 07 00 04"))) (1 ∷ 2 ∷ 3 ∷ 4 ∷ 5 ∷ []))
    -- "12 listing longer than the buffer": one byte short, and nothing is written
    ∷ number 12 (list_number (list_answer (cell_of (loaded_from (hex "01 01 00 07 00 04"))) (1 ∷ 2 ∷ [])))
    ∷ bytes (1 ∷ 2 ∷ []) (list_buffer (cell_of (loaded_from (hex "01 01 00 07 00 04"))) (1 ∷ 2 ∷ []))
    -- "10 first, then .. 12"
    ∷ number 10 (list_number (list_answer (not_used 0 sample) (1 ∷ [])))
    ∷ bytes (1 ∷ []) (list_buffer (not_used 0 sample) (1 ∷ []))
    -- "whether all agents are asleep or done": with no agents; at stages 0, 7 and 8; on its way; one not given; 10 first
    ∷ number 0x0100 (idle_number (idle_of bare_table))
    ∷ number 0 (idle_number (idle_of (table_of sample)))
    ∷ number 0 (idle_number (idle_of (table_of (staged 0 7 0 0 (staged 1 7 1 0 sample)))))
    ∷ number 0x0100 (idle_number (idle_of (table_of (counted 0 1 1 (staged 0 8 0 0 (staged 1 7 1 0 (staged 2 7 1 0 sample)))))))
    ∷ number 0 (idle_number (idle_of (table_of (staged 1 7 1 0 (staged 2 7 1 0 going6)))))
    ∷ number 0x0100 (idle_number (idle_of (table_of (staged 9 0 0 0 (cell_of bare_table)))))
    ∷ number 0 (idle_number (idle_of (table_of topmost)))
    ∷ number 10 (idle_number (idle_of (table_of (not_used 0 sample))))
    -- "An agent is asleep, or done, when a step call for it would answer that word": not by looked, took, held, back, slept, left, came, opened
    ∷ holds (rests (table_of (staged 0 7 0 0 sample)) 0)
    ∷ holds (rests (table_of (counted 0 1 1 (staged 0 8 0 0 sample))) 0)
    ∷ holds (rests (table_of (staged 2 7 1 0 sample)) 2)
    ∷ fails (rests (table_of sample) 0)
    ∷ fails (rests (table_of going) 0)
    ∷ fails (rests (table_of (locked 1 1 (staged 1 2 1 0 (staged 2 1 1 0 sample)))) 2)
    ∷ fails (rests (table_of (placed 1 7 3 0 holding)) 0)
    ∷ fails (rests (table_of (acting 0 0 1 5 holding)) 0)
    ∷ fails (rests (table_of entering) 0)
    ∷ fails (rests (table_of going6) 0)
    ∷ fails (rests (table_of opening) 1)
    ∷ fails (rests (table_of sample) 9)
    -- "16 for text outside the language", "17 .. for too many of anything"
    ∷ number 16 outside_language
    ∷ number 17 too_many
    -- "A cell is settled when no lock is held and nothing is on its way": read on what is in use
    ∷ holds (settled sample)
    ∷ holds (settled (locked 9 0 (placed 9 5 0 1 sample)))
    ∷ fails (settled holding)
    ∷ fails (settled going)
    ∷ fails (settled (locked 63 63 topmost))
    -- the bytes of a text: `start 0` and `end 0`, each with byte 0A
    ∷ bytes (115 ∷ 116 ∷ 97 ∷ 114 ∷ 116 ∷ 32 ∷ 48 ∷ 10 ∷ 101 ∷ 110 ∷ 100 ∷ 32 ∷ 48 ∷ 10 ∷ []) (report (hex "04") [])
    ∷ []
