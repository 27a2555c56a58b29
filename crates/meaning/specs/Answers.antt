-- What each call answers, by the name that the documents give it.
use Rattle.std.specs.Prelude.{ℕ, Bool, true, false, Option, Some, None, Result, Ok, Err}
use Rattle.meaning.specs.declared.Outcome.{Outcome}
use Rattle.meaning.specs.declared.Prospect.{Prospect}
use Rattle.meaning.specs.declared.Rejection.{Rejection}
use Rattle.meaning.specs.declared.Word.{Word}

-- ---- a load: accepted, or a refusal's number and offset

abbrev pub Verdict : Type 0
Verdict = Result Unit Rejection

abbrev pub Accepted : Verdict
Accepted = Ok (record {})

abbrev pub Rejected : ℕ → ℕ → Verdict
Rejected number offset = Err (record { number = number; offset = offset })

-- ---- a step call: a word and how many agents the step woke, or a refusal's number

abbrev pub Answer : Type 0
Answer = Result Outcome ℕ

abbrev pub Did : Word → ℕ → Answer
Did word woken = Ok (record { word = word; woken = woken })

abbrev pub Refused : ℕ → Answer
Refused = Err

-- ---- an ask: the word, how many agents the step would wake and the chosen place, or a refusal's number

abbrev pub Asked : Type 0
Asked = Result Prospect ℕ

abbrev pub Would : Word → ℕ → ℕ → Asked
Would word woken place = Ok (record { word = word; woken = woken; place = place })

abbrev pub Unasked : ℕ → Asked
Unasked = Err

-- ---- a touch call, and one for a place's touches: the place's count, or a refusal's number

abbrev pub Touching : Type 0
Touching = Result ℕ ℕ

abbrev pub Count : ℕ → Touching
Count = Ok

abbrev pub Untouched : ℕ → Touching
Untouched = Err

-- ---- where a place is: in or at this place, in none of that name, or a refusal's number

abbrev pub Found : Type 0
Found = Result (Option ℕ) ℕ

abbrev pub At : ℕ → Found
At place = Ok (Some place)

abbrev pub Nowhere : Found
Nowhere = Ok None

abbrev pub Unfound : ℕ → Found
Unfound = Err

-- ---- a listing call: the length, or a refusal's number

abbrev pub Listed : Type 0
Listed = Result ℕ ℕ

abbrev pub Length : ℕ → Listed
Length = Ok

abbrev pub Unlisted : ℕ → Listed
Unlisted = Err

-- ---- a check: the table is sound, or a refusal's number

abbrev pub Checked : Type 0
Checked = Result Unit ℕ

abbrev pub Sound : Checked
Sound = Ok (record {})

abbrev pub Unsound : ℕ → Checked
Unsound = Err

-- ---- a call for idleness: all agents are asleep or done, some are not, or a refusal's number

abbrev pub Idled : Type 0
Idled = Result Bool ℕ

abbrev pub Idle : Idled
Idle = Ok true

abbrev pub Busy : Idled
Busy = Ok false

abbrev pub Unknown : ℕ → Idled
Unknown = Err

-- ---- a call for the ceiling: how many step calls can still change the cell at most, or a refusal's number

abbrev pub Limit : Type 0
Limit = Result ℕ ℕ

abbrev pub AtMost : ℕ → Limit
AtMost = Ok

abbrev pub Uncounted : ℕ → Limit
Uncounted = Err
