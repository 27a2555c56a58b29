-- The remaining calls on a table, and every answer as numbers: refusals by the numbers of document 01, words by those of the register window.
use Rattle.std.specs.Prelude.{ℕ, ◌+◌, ◌*◌, ◌/◌, ◌%◌, ◌^◌, cond, Ok, Err, Some, None, true, false}
use Rattle.table.specs.Cell.{cell_of}
use Rattle.table.specs.Sound.{sound}
use Rattle.table.specs.Idle.{idle}
use Rattle.table.specs.declared.Cell.{Cell}
use Rattle.meaning.specs.declared.Word.{Word}
use Rattle.meaning.specs.declared.Word.TheVariants.{Looked, Took, Held, Back, Slept, Left, Came, Opened, Put, Asleep, Done}
use Rattle.meaning.specs.Answers.{Answer, Asked, Verdict, Touching, Found, Listed, Limit, Checked, Sound, Unsound, Idled, Idle, Busy, Unknown}
use Rattle.meaning.specs.Refusals.{unsound_table}

-- ---- calls that only ask

-- "a soundness check": 10 unsound table
unfoldable pub check_of : Cell → Checked
check_of t = cond (sound (cell_of t)) Sound (Unsound unsound_table)

-- "whether all agents are asleep or done": 10 first
unfoldable pub idle_of : Cell → Idled
idle_of t = cond (sound (cell_of t)) (cond (idle (cell_of t)) Idle Busy) (Unknown unsound_table)

-- ---- answers as numbers

-- "0 looked, 1 took, 2 held, 3 back, 4 slept, 5 left, 6 came, 7 opened, 8 put, 9 asleep, 10 done"
abbrev pub word_number : Word → ℕ
word_number Looked = 0
word_number Took = 1
word_number Held = 2
word_number Back = 3
word_number Slept = 4
word_number Left = 5
word_number Came = 6
word_number Opened = 7
word_number Put = 8
word_number Asleep = 9
word_number Done = 10

-- a number in bits 8 and up of an answer, over a refusal's number (or 0) in bits 0 to 7; bits 8 to 63 hold 56 bits of it
abbrev pub above : ℕ → ℕ → ℕ
above number low = number % 2 ^ 56 * 256 + low

-- "else 255" (document 02, W9): no place, where an answer has bits for one
abbrev pub none_told : ℕ
none_told = 255

-- a step's answer: the word in bits 8 to 15 and the number woken in bits 16 to 23, or the refusal's number
abbrev pub step_number : Answer → ℕ
step_number (Ok o) = above (o.woken * 256 + word_number o.word) 0
step_number (Err number) = number

-- word, number woken and place in one number: the word in bits 8 to 15, the number woken in bits 16 to 23, the place in bits 24 to 31
abbrev pub told_number : ℕ → ℕ → ℕ → ℕ
told_number word woken place = above (place * 65536 + (woken * 256 + word)) 0

-- the three in the bits of such a number
abbrev pub word_in : ℕ → ℕ
word_in n = n / 256 % 256

abbrev pub woken_in : ℕ → ℕ
woken_in n = n / 65536 % 256

abbrev pub place_in : ℕ → ℕ
place_in n = n / 16777216 % 256

-- an ask's answer: word and number woken as in a step's answer, and the place, or the refusal's number
abbrev pub ask_number : Asked → ℕ
ask_number (Ok o) = told_number (word_number o.word) o.woken o.place
ask_number (Err number) = number

-- a load's answer: 0, or the refusal's number with its offset above
abbrev pub load_number : Verdict → ℕ
load_number (Ok u) = 0
load_number (Err r) = above r.offset r.number

-- a touch call's answer: the place's count above 0, or the refusal's number
abbrev pub touch_number : Touching → ℕ
touch_number (Ok n) = above n 0
touch_number (Err number) = number

-- where a place is: the place above 0, 255 for none, or the refusal's number
abbrev pub found_number : Found → ℕ
found_number (Ok (Some p)) = above p 0
found_number (Ok None) = above none_told 0
found_number (Err number) = number

-- a listing's answer: the length above 0, or the refusal's number
abbrev pub list_number : Listed → ℕ
list_number (Ok n) = above n 0
list_number (Err number) = number

-- a check's answer: 0, or the refusal's number
abbrev pub check_number : Checked → ℕ
check_number (Ok u) = 0
check_number (Err number) = number

-- whether all are asleep or done: 1 above 0 if they are
abbrev pub idle_number : Idled → ℕ
idle_number (Ok true) = above 1 0
idle_number (Ok false) = 0
idle_number (Err number) = number

-- a ceiling's answer: how many step calls at most above 0, or the refusal's number
abbrev pub limit_number : Limit → ℕ
limit_number (Ok n) = above n 0
limit_number (Err number) = number
