-- How long a line of a report can be: 15 bytes at most for a call. Assumes nothing.
use Rattle.std.specs.Prelude.{Bool, true, false, cond, ◌++◌, eqb, ltb, leb, length, Ok, Err}
use Rattle.std.proofs.Common.{arith, length-append}
use Prim.Native.Nat.{ℕ, ◌≤◌, ◌<◌, zero-le}
use Rattle.sets.proofs.WordLaws.{count_most}
use Rattle.table.specs.Base.{tab}
use Rattle.table.specs.Cell.{State, none, fresh_number, linked, kind_of, cell_of, open_kind, release_kind, looks_home}
use Rattle.table.specs.Sound.{sound}
use Rattle.table.specs.declared.Agent.{Agent}
use Rattle.table.specs.declared.Cell.{Cell}
use Rattle.meaning.specs.Refusals.{unsound_table, no_such_agent}
use Rattle.meaning.specs.declared.Word.{Word}
use Rattle.meaning.specs.declared.Word.TheVariants.{Looked, Took, Held, Back, Slept, Left, Came, Opened, Put, Asleep, Done}
use Rattle.meaning.specs.Answers.{Answer}
use Rattle.meaning.specs.Text.{ascii, decimal}
use Rattle.meaning.specs.Step.{Outcome, stays, choice, fires, destination_of, still, turn, take as takes, release, look, lock_first, put, put_or_sleep, lock_second, hold, leave, dissolve, act, arrive, travel, step_at, step}
use Rattle.meaning.specs.Run.{made, turned_away, step_of}
use Rattle.meaning.specs.Report.{word_text, step_line}
use Rattle.lengths.proofs.Parts.{digits_short}

-- ---- a step wakes at most 64 agents

record Few (o : Outcome) : Type 0 where
  most : o.woken ≤ 64

few_cond : (b : Bool) {o p : Outcome} → Few o → Few p → Few (cond b o p)
few_cond true f g = f
few_cond false f g = g

few_still : (c : State) (w : Word) → Few (still c w)
unfolding still
few_still c w = record { most = zero-le }

module _ (c : State) (x : ℕ) where
  few_turn : (a : Agent) (w : Word) → Few (turn c x a w)
  unfolding turn still
  few_turn a w = record { most = zero-le }

  few_take : (q : ℕ) (a : Agent) → Few (takes c x q a)
  unfolding takes still
  few_take q a = few_cond (eqb (c.lock q) none) (record { most = zero-le }) (record { most = zero-le })

  few_release : (p q : ℕ) (a : Agent) (w : Word) → Few (release c x p q a w)
  unfolding release still
  few_release p q a w = record { most = zero-le }

  few_put : (a : Agent) (q : ℕ) → Few (put_or_sleep c x a q)
  unfolding put_or_sleep put
  few_put a q = few_cond (ltb q 64) {o = put c x a q} (record { most = count_most 64 _ }) (few_release _ _ _ Slept)

  few_hold : (a : Agent) (wish : ℕ) → Few (hold c x a wish)
  unfolding hold lock_second
  few_hold a wish = few_cond (stays c.land a)
      (few_cond (eqb (kind_of a) release_kind) (few_put a (fresh_number c.land.used))
      (few_cond (ltb (choice c.land a wish) 64) (few_take _ _) (few_release _ _ _ Slept)))
      (few_release _ _ _ Back)

  few_act : (a : Agent) → Few (act c x a)
  unfolding act leave dissolve
  few_act a = few_cond (fires c.land a)
      (few_cond (eqb (kind_of a) open_kind) {o = dissolve c x a a.remembered a.chosen} {p = leave c x a (destination_of c.land a)}
      (record { most = count_most 64 _ }) (record { most = count_most 64 _ }))
      (few_release _ _ _ Back)

  few_travel : (a : Agent) → Few (travel c x a)
  unfolding travel arrive
  few_travel a = few_cond (eqb a.stage 4) (few_take _ _) (few_cond (eqb a.stage 5) {p = arrive c x a (c.land.place a.home).parent} (few_take _ _)
      (record { most = count_most 64 _ }))

  step_few : (stage : ℕ) (a : Agent) (wish : ℕ) → Few (step_at stage c x a wish)
  unfolding step_at look lock_first
  step_few stage a wish =
      few_cond (eqb stage 0) (few_cond (looks_home (kind_of a)) (few_turn _ Looked) (few_cond (linked c.land a.home) (few_turn _ Looked) (few_turn _ Slept)))
      (few_cond (eqb stage 1) (few_take _ _)
      (few_cond (eqb stage 2) (few_hold a wish)
      (few_cond (eqb stage 3) (few_act a)
      (few_cond (leb stage 6) (few_travel a)
      (few_cond (eqb stage 7) (few_still c Asleep) (few_still c Done))))))

-- ---- lines

-- the number in an answer
abbrev pub number_in : Answer → ℕ
number_in (Ok o) = o.woken
number_in (Err number) = number

pub step_number_lem : (t : Cell) (x w : ℕ) → number_in (step_of t x w).answer < 100
unfolding step_of made turned_away step
step_number_lem t x w = go (sound (cell_of t)) ((cell_of t).given x)
  where
    go : (s g : Bool) → number_in (cond s (cond g (made (step (cell_of t) x w)) (turned_away t no_such_agent)) (turned_away t unsound_table)).answer < 100
    go true true = omega (arith, (step_few (cell_of t) x ((cell_of t).agent x).stage ((cell_of t).agent x) w).most)
    go true false = omega arith
    go false g = omega arith

word_length : (w : Word) → length (word_text w) ≤ 6
unfolding word_text tab
word_length Looked = omega arith
word_length Took = omega arith
word_length Held = omega arith
word_length Back = omega arith
word_length Slept = omega arith
word_length Left = omega arith
word_length Came = omega arith
word_length Opened = omega arith
word_length Put = omega arith
word_length Asleep = omega arith
word_length Done = omega arith

pub line_length : (agent : ℕ) (answer : Answer) → agent < 256 → number_in answer < 100 → length (step_line agent answer) ≤ 15
unfolding step_line tab
line_length agent (Ok o) l m = omega (
  arith,
  word_length o.word,
  digits_short 20 2 agent (omega arith),
  digits_short 20 1 o.woken (omega arith),
  length-append (decimal agent) (ascii " "),
  length-append (decimal agent ++ ascii " ") (word_text o.word),
  length-append ((decimal agent ++ ascii " ") ++ word_text o.word) (ascii " "),
  length-append (((decimal agent ++ ascii " ") ++ word_text o.word) ++ ascii " ") (decimal o.woken),
  length-append ((((decimal agent ++ ascii " ") ++ word_text o.word) ++ ascii " ") ++ decimal o.woken) (ascii "\n"),
)
line_length agent (Err number) l m = omega (
  arith,
  digits_short 20 2 agent (omega arith),
  digits_short 20 1 number (omega arith),
  length-append (decimal agent) (ascii " refused "),
  length-append (decimal agent ++ ascii " refused ") (decimal number),
  length-append ((decimal agent ++ ascii " refused ") ++ decimal number) (ascii "\n"),
)
