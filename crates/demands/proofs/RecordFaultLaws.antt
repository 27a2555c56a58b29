-- The record at an offset is refused with the first number of the row of tests whose condition holds, and else taken apart.
-- Idea: for each kind of record the tests that can hold of it stand in the row in the order in which a record is read.
use Rattle.std.specs.Prelude.{◌≡◌, refl, Bool, true, false, not, ◌||◌, cond, List, [], ◌∷◌, ℕ, ◌+◌, ◌-◌, ◌<◌, ◌≤◌, ltb, leb, eqb, length}
use Rattle.std.proofs.Common.{arith}
use borrow.Author.Tests.{ltb-true, ltb-false, lt-ltb, le-ltb, eqb-true, eq-eqb, ne_eqb}
use Rattle.order.specs.Row.{occurs}
use Rattle.table.proofs.BaseLaws.{Told, yea, nay, told, clash, same_test}
use Rattle.table.specs.Cell.{last_kind}
use Rattle.meaning.specs.declared.Record.{Record}
use Rattle.meaning.specs.declared.Record.TheVariants.{PlaceRecord, AgentRecord, ActionRecord, EndRecord, TouchRecord, Faulty}
use Rattle.meaning.specs.Refusals.{cut_short, place_too_large, parent_too_large, agent_too_large, given_twice, not_yet_given}
use Rattle.meaning.specs.Refusals.{name_zero, wrong_kind, seventeenth}
use Rattle.meaning.specs.File.{name_at, name_given, count_at, gives_place, place_record, agent_record, action_record, touch_record, Known, record_at}
use Rattle.demands.specs.FileFaults.{kind_at, first_number, second_number, Earlier, how_often, Test, test, tests}
use Rattle.demands.specs.FileFaults.{Decides, it_holds, a_later_one, Passes, none_left, nor_this}

-- ---- a row of tests

-- the refusal of the first whose condition holds, else a record
unfoldable pub first_of : List Test → Record → Record
first_of [] r = r
first_of (test number holds ∷ rest) r = cond holds (Faulty number) (first_of rest r)

pub first_decides : {row : List Test} {number : ℕ} (r : Record) → Decides row number → first_of row r ≡ Faulty number
unfolding first_of
first_decides r (it_holds e) = rw e
first_decides r (a_later_one e d) = rw e (first_decides r d)

pub first_passes : {row : List Test} (r : Record) → Passes row → first_of row r ≡ r
unfolding first_of
first_passes r none_left = refl
first_passes r (nor_this e p) = rw e (first_passes r p)

-- not both
pub not_both : {A : Type 0} {row : List Test} {number : ℕ} → Decides row number → Passes row → A
not_both (it_holds e) (nor_this f p) = clash e f
not_both (a_later_one e d) (nor_this f p) = not_both d p

-- and no two numbers
pub one_number : {row : List Test} {m n : ℕ} → Decides row m → Decides row n → m ≡ n
one_number (it_holds e) (it_holds f) = refl
one_number (it_holds e) (a_later_one f d) = clash e f
one_number (a_later_one e d) (it_holds f) = clash f e
one_number (a_later_one e d) (a_later_one f g) = one_number d g

-- one of the two
pub data Judged (row : List Test) : Type 0 where
  decided : (number : ℕ) → Decides row number → Judged row
  passed : Passes row → Judged row

pub judged : (row : List Test) → Judged row
judged [] = passed none_left
judged (test number holds ∷ rest) = go (told holds) (judged rest)
  where
    go : Told holds → Judged rest → Judged (test number holds ∷ rest)
    go (yea e) j = decided number (it_holds e)
    go (nay e) (decided m d) = decided m (a_later_one e d)
    go (nay e) (passed p) = passed (nor_this e p)

-- ---- the kinds

-- the kind of a record: one of six, or unknown
pub data KindIs (kind : ℕ) : Type 0 where
  is_place : kind ≡ 1 → KindIs kind
  is_agent_record : kind ≡ 2 → KindIs kind
  is_action_record : kind ≡ 3 → KindIs kind
  is_end : kind ≡ 4 → KindIs kind
  is_touches_record : kind ≡ 5 → KindIs kind
  is_keyed : kind ≡ 6 → KindIs kind
  is_unknown : (ltb kind 1 || ltb 6 kind) ≡ true → ((n : ℕ) → 1 ≤ n → n ≤ 6 → eqb kind n ≡ false) → KindIs kind

-- every number is one of these
pub kind_is : (kind : ℕ) → KindIs kind
kind_is k = go (told (ltb k 1)) (told (ltb 6 k)) (told (ltb k 2)) (told (ltb k 3)) (told (ltb k 4)) (told (ltb k 5)) (told (ltb k 6))
  where
    go : Told (ltb k 1) → Told (ltb 6 k) → Told (ltb k 2) → Told (ltb k 3) → Told (ltb k 4) → Told (ltb k 5) → Told (ltb k 6) → KindIs k
    go (yea a) _ _ _ _ _ _ = is_unknown (rw a) (λ n l m. ne_eqb k n (λ q. absurd (omega (arith, ltb-true k 1 a))))
    go (nay a) (yea b) _ _ _ _ _ = is_unknown (rw (a, b)) (λ n l m. ne_eqb k n (λ q. absurd (omega (arith, ltb-true 6 k b))))
    go (nay a) (nay b) (yea c) _ _ _ _ = is_place (omega (arith, ltb-false k 1 a, ltb-true k 2 c))
    go (nay a) (nay b) (nay c) (yea d) _ _ _ = is_agent_record (omega (arith, ltb-false k 2 c, ltb-true k 3 d))
    go (nay a) (nay b) (nay c) (nay d) (yea e) _ _ = is_action_record (omega (arith, ltb-false k 3 d, ltb-true k 4 e))
    go (nay a) (nay b) (nay c) (nay d) (nay e) (yea f) _ = is_end (omega (arith, ltb-false k 4 e, ltb-true k 5 f))
    go (nay a) (nay b) (nay c) (nay d) (nay e) (nay f) (yea g) = is_touches_record (omega (arith, ltb-false k 5 f, ltb-true k 6 g))
    go (nay a) (nay b) (nay c) (nay d) (nay e) (nay f) (nay g) = is_keyed (omega (arith, ltb-false 6 k b, ltb-false k 6 g))

-- ---- the tests that can hold of each kind, in the order of the row: on the left as a record is read, on the right as the row has them

place_row : (cut zero large parent taken known unnamed : Bool) (r : Record)
    → cond cut (Faulty cut_short) (cond zero (Faulty place_too_large) (cond large (Faulty place_too_large) (cond parent (Faulty parent_too_large)
    (cond taken (Faulty given_twice) (cond known (cond unnamed (Faulty name_zero) r) (Faulty not_yet_given))))))
    ≡ cond cut (Faulty cut_short) (cond (zero || large) (Faulty place_too_large) (cond parent (Faulty parent_too_large)
    (cond taken (Faulty given_twice) (cond (not known) (Faulty not_yet_given) (cond unnamed (Faulty name_zero) r)))))
place_row true zero large parent taken known unnamed r = refl
place_row false true large parent taken known unnamed r = refl
place_row false false true parent taken known unnamed r = refl
place_row false false false true taken known unnamed r = refl
place_row false false false false true known unnamed r = refl
place_row false false false false false true unnamed r = refl
place_row false false false false false false unnamed r = refl

agent_row : (cut large parent taken known : Bool) (r : Record)
    → cond cut (Faulty cut_short) (cond large (Faulty agent_too_large) (cond parent (Faulty parent_too_large)
    (cond taken (Faulty given_twice) (cond known r (Faulty not_yet_given)))))
    ≡ cond cut (Faulty cut_short) (cond large (Faulty agent_too_large) (cond parent (Faulty parent_too_large)
    (cond taken (Faulty given_twice) (cond (not known) (Faulty not_yet_given) r))))
agent_row cut large parent taken true r = refl
agent_row cut large parent taken false r = refl

action_row : (cut large known zero wrong unnamed full : Bool) (r : Record)
    → cond cut (Faulty cut_short) (cond large (Faulty agent_too_large) (cond known (cond zero (Faulty wrong_kind) (cond wrong (Faulty wrong_kind)
    (cond unnamed (Faulty name_zero) (cond full (Faulty seventeenth) r)))) (Faulty not_yet_given)))
    ≡ cond cut (Faulty cut_short) (cond large (Faulty agent_too_large) (cond (not known) (Faulty not_yet_given) (cond (zero || wrong) (Faulty wrong_kind)
    (cond unnamed (Faulty name_zero) (cond full (Faulty seventeenth) r)))))
action_row cut large true true wrong unnamed full r = refl
action_row cut large true false wrong unnamed full r = refl
action_row cut large false zero wrong unnamed full r = refl

touch_row : (cut large taken known : Bool) (r : Record)
    → cond cut (Faulty cut_short) (cond large (Faulty place_too_large) (cond taken (Faulty given_twice) (cond known r (Faulty not_yet_given))))
    ≡ cond cut (Faulty cut_short) (cond large (Faulty place_too_large) (cond taken (Faulty given_twice) (cond (not known) (Faulty not_yet_given) r)))
touch_row cut large taken true r = refl
touch_row cut large taken false r = refl

-- ---- the record at an offset

-- what was given, as sets
abbrev pub known_from : Earlier → Known
known_from e = record {
  places = λ j. occurs j e.places;
  agents = λ j. occurs j e.agents;
  full = λ j. leb 16 (how_often j e.actions);
  counted = λ j. occurs j e.touched;
}

-- a record taken apart by its kind, whatever its numbers
abbrev pub taken_apart : List ℕ → ℕ → Record
taken_apart s at =
    cond (gives_place (kind_at s at)) (PlaceRecord (first_number s at) (second_number s at) (name_given s at))
    (cond (eqb (kind_at s at) 2) (AgentRecord (first_number s at) (second_number s at))
    (cond (eqb (kind_at s at) 3) (ActionRecord (first_number s at) (second_number s at) (name_at s at))
    (cond (eqb (kind_at s at) 4) EndRecord (TouchRecord (first_number s at) (count_at s at)))))

-- a number below 1 is 0
zero_test : (n : ℕ) → ltb n 1 ≡ eqb n 0
zero_test n = same_test (ltb n 1) (eqb n 0) (λ e. let l = ltb-true n 1 e in eq-eqb n 0 (omega arith)) (λ e. let q = eqb-true n 0 e in lt-ltb n 1 (omega arith))

-- too few bytes from an offset on
cut_test : (l at n : ℕ) → at < l → ltb (l - at) n ≡ ltb l (at + n)
cut_test l at n h = same_test (ltb (l - at) n) (ltb l (at + n)) (λ e. let q = ltb-true (l - at) n e in lt-ltb l (at + n) (omega arith))
    (λ e. let q = ltb-true l (at + n) e in lt-ltb (l - at) n (omega arith))

module _ (s : List ℕ) (e : Earlier) (at : ℕ) (l : at < length s) where
  -- it is refused with the first number whose condition holds, and else taken apart
  pub record_read : record_at (known_from e) s at ≡ first_of (tests s e at) (taken_apart s at)
  unfolding record_at place_record agent_record action_record touch_record first_of
  record_read = go (kind_is (kind_at s at))
    where
      go : KindIs (kind_at s at) → record_at (known_from e) s at ≡ first_of (tests s e at) (taken_apart s at)
      go (is_place k) = rw (k, zero_test (first_number s at), zero_test (name_at s at), cut_test (length s) at 5 l)
          (place_row (ltb (length s) (at + 5)) (eqb (first_number s at) 0) (leb 64 (first_number s at)) (leb 64 (second_number s at))
          (occurs (first_number s at) e.places) (occurs (second_number s at) e.places) (eqb (name_at s at) 0) _)
      go (is_keyed k) = rw (k, zero_test (first_number s at), zero_test (name_at s at), cut_test (length s) at 11 l)
          (place_row (ltb (length s) (at + 11)) (eqb (first_number s at) 0) (leb 64 (first_number s at)) (leb 64 (second_number s at))
          (occurs (first_number s at) e.places) (occurs (second_number s at) e.places) (eqb (name_at s at) 0) _)
      go (is_agent_record k) = rw (k, cut_test (length s) at 3 l)
          (agent_row (ltb (length s) (at + 3)) (leb 64 (first_number s at)) (leb 64 (second_number s at))
          (occurs (first_number s at) e.agents) (occurs (second_number s at) e.places) _)
      go (is_action_record k) = rw (k, zero_test (second_number s at), zero_test (name_at s at), cut_test (length s) at 5 l)
          (action_row (ltb (length s) (at + 5)) (leb 64 (first_number s at)) (occurs (first_number s at) e.agents) (eqb (second_number s at) 0)
          (ltb last_kind (second_number s at)) (eqb (name_at s at) 0) (leb 16 (how_often (first_number s at) e.actions)) _)
      go (is_touches_record k) = rw (k, cut_test (length s) at 6 l)
          (touch_row (ltb (length s) (at + 6)) (leb 64 (first_number s at)) (occurs (first_number s at) e.touched) (occurs (first_number s at) e.places) _)
      go (is_end k) = rw (k, le-ltb (length s) (at + 1) (omega arith))
      go (is_unknown u n) = rw (
        u,
        n 1 (omega arith) (omega arith),
        n 2 (omega arith) (omega arith),
        n 3 (omega arith) (omega arith),
        n 4 (omega arith) (omega arith),
        n 5 (omega arith) (omega arith),
        n 6 (omega arith) (omega arith),
      )
