-- A set of numbers below 64 as a word: bit i is set where i is a member.
use Rattle.std.specs.Prelude.{ℕ, zero, suc, ◌+◌, ◌*◌, ◌/◌, ◌%◌, ◌^◌, Bool, true, false, ◌&&◌, cond, eqb, ltb}

-- a test as a bit: 1 where it holds
abbrev pub bit : Bool → ℕ
bit true = 1
bit false = 0

-- whether i is a member of the set whose word is w
unfoldable pub has : ℕ → ℕ → Bool
has w i = eqb (w / 2 ^ i % 2) 1

-- the word of the members below n of the set whose membership test is f
unfoldable pub word_of : ℕ → (ℕ → Bool) → ℕ
word_of zero f = 0
word_of (suc n) f = word_of n (λ i. f (suc i)) * 2 + bit (f 0)

-- how many members it has below n
unfoldable pub count_of : ℕ → (ℕ → Bool) → ℕ
count_of zero f = 0
count_of (suc n) f = bit (f 0) + count_of n (λ i. f (suc i))

-- its lowest member, or n where it has none below n
unfoldable pub lowest_of : ℕ → (ℕ → Bool) → ℕ
lowest_of zero f = 0
lowest_of (suc n) f = cond (f 0) 0 (suc (lowest_of n (λ i. f (suc i))))

-- the members below n
abbrev pub upto : ℕ → (ℕ → Bool) → ℕ → Bool
upto n f j = ltb j n && f j
