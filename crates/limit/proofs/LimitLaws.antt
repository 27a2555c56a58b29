-- How large the ceiling of a cell can be; what the code counts is what is defined; told the truth of the cell, the call is answered as it is
-- defined. Assumes nothing.
use Rattle.std.specs.Prelude.{◌≡◌, refl, Bool, true, false, cond, ℕ, zero, suc, ◌+◌, ◌*◌, ◌-◌, ◌≤◌, ltb}
use Rattle.std.proofs.Common.{sym, ap, ap₂, ◌∙◌, mul-le-mul, arith, ltb-true}
use Rattle.sets.specs.Word.{bit, has, count_of}
use Rattle.table.specs.Base.{count_below}
use Rattle.table.proofs.BaseLaws.{Told, yea, nay, told, length_tab}
use Rattle.table.proofs.SumLaws.{sum_most}
use Rattle.table.specs.Cell.{State, cell_of, row_end, unused}
use Rattle.table.specs.Sound.{sound}
use Rattle.table.specs.declared.Agent.{Agent}
use Rattle.table.specs.declared.Cell.{Cell}
use Rattle.meaning.specs.Codes.{limit_number}
use Rattle.meaning.specs.Refusals.{unsound_table}
use Rattle.meaning.specs.Answers.{AtMost, Uncounted}
use Rattle.meaning.specs.Limit.{agents_of, is_away, moves_of, moves_left, changes_left, ceiling_of}
use Rattle.limit.specs.Known.{moves_at, known_ceiling}

-- ---- how large

-- a bit is one at most
bit_most : (b : Bool) → bit b ≤ 1
bit_most true = omega arith
bit_most false = omega arith

-- a row ends with its sixteenth action at most
end_most : (count : ℕ) → row_end count ≤ 16
unfolding row_end
end_most count = go (told (ltb count 16))
  where
    go : Told (ltb count 16) → cond (ltb count 16) count 16 ≤ 16
    go (yea e) = rw e (omega (arith, ltb-true count 16 e))
    go (nay e) = rw e (omega arith)

-- so there are thirty-three moves before an agent at most
pub moves_at_most : (stage next count : ℕ) → moves_at stage next count ≤ 33
moves_at_most stage next count = omega (arith, end_most count, bit_most (is_away stage))

-- the moves before an agent by what is read of it
pub moves_read : (a : Agent) → moves_of a ≡ moves_at a.stage a.next a.count
unfolding unused
moves_read a = ap (λ (n : ℕ). 2 * n + bit (is_away a.stage)) (length_tab _ (row_end a.count - a.next) a.next)

-- 64 agents at most
pub agents_most : (P : ℕ → Bool) (n : ℕ) → count_below P n ≤ n
unfolding count_below
agents_most P zero = omega arith
agents_most P (suc n) = omega (arith, agents_most P n, bit_most (P n))

-- 64 times as many before all agents
moves_part : (b : Bool) (a : Agent) → cond b (moves_of a) 0 ≤ 33
moves_part true a = omega (arith, moves_read a, moves_at_most a.stage a.next a.count)
moves_part false a = omega arith

pub moves_most : (c : State) → moves_left c ≤ 2112
unfolding moves_left
moves_most c = omega (arith, sum_most _ 64 33 (λ x _. moves_part (c.given x) (c.agent x)))

-- so the number is small
pub number_most : (agents moves most : ℕ) → agents ≤ 64 → moves ≤ most → 5 * agents * (moves + 1) + moves ≤ 320 * (most + 1) + most
number_most agents moves most a m =
    let p : 5 * agents ≤ 320 = omega arith in
    let q : moves + 1 ≤ most + 1 = omega arith in
    omega (arith, mul-le-mul p q)

-- of every cell, sound or not: it has 20 bits, and an answer's number has 56 for it
pub changes_most : (c : State) → changes_left c ≤ 678272
unfolding changes_left
changes_most c = number_most (agents_of c) (moves_left c) 2112 (agents_most c.given 64) (moves_most c)

-- so the answer's number holds it whole
pub number_whole : (t : Cell) → sound (cell_of t) ≡ true → limit_number (ceiling_of t) ≡ changes_left (cell_of t) * 256
unfolding ceiling_of
number_whole t s = rw s (omega (arith, changes_most (cell_of t)))

-- ---- what is counted

-- counted from the first on or up to the last, it is one number
first_apart : (f : ℕ → Bool) (n : ℕ) → count_below f (suc n) ≡ bit (f 0) + count_below (λ i. f (suc i)) n
unfolding count_below
first_apart f zero = omega arith
first_apart f (suc n) = omega (arith, first_apart f n)

pub count_same : (n : ℕ) (f : ℕ → Bool) → count_of n f ≡ count_below f n
unfolding count_of count_below
count_same zero f = refl
count_same (suc n) f = ap (λ (m : ℕ). bit (f 0) + m) (count_same n (λ i. f (suc i))) ∙ sym (first_apart f n)

-- ---- told the truth of the cell and the moves that are left

pub ceiling_told : (t : Cell) (b : Bool) (moves : ℕ) → b ≡ sound (cell_of t) → moves ≡ moves_left (cell_of t) → known_ceiling b t.given moves ≡ ceiling_of t
unfolding known_ceiling ceiling_of changes_left cell_of
ceiling_told t b moves h m =
    ap₂ (λ (k : Bool) (n : ℕ). cond k (AtMost (5 * count_of 64 (has t.given.bits) * (n + 1) + n)) (Uncounted unsound_table)) h m
    ∙ ap (λ (n : ℕ). cond (sound (cell_of t)) (AtMost (5 * n * (moves_left (cell_of t) + 1) + moves_left (cell_of t))) (Uncounted unsound_table)) (count_same 64 (has t.given.bits))
