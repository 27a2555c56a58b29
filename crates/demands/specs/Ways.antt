-- The ways a step can go: one case for each, with its conditions as equations.
use Rattle.std.specs.Prelude.{◌≡◌, ◌≢◌, true, false, cond, ℕ, ◌≤◌, ◌<◌, eqb}
use Rattle.table.specs.Base.{upd}
use Rattle.table.specs.Cell.{State, none, linked, fresh_number, kind_of, enter_kind, exit_kind, open_kind, release_kind}
use Rattle.table.specs.Cell.{looking, found, holding, holding_both, on_way, on_way_own, on_way_both, asleep, done}
use Rattle.table.specs.Sound.{second_place}
use Rattle.meaning.specs.declared.Word.TheVariants.{Looked, Took, Held, Back, Slept, Asleep, Done}
use Rattle.meaning.specs.Update.{at_stage, with_agent, with_locks, released}
use Rattle.meaning.specs.Step.{Outcome, still, choice, stays, fires, put, leave, dissolve, arrive}
use Rattle.demands.specs.Reading.{parent_in}

-- agent x goes on to a stage, with a remembered and a chosen place
abbrev pub goes_on : State → ℕ → ℕ → ℕ → ℕ → State
goes_on c x stage remembered chosen = with_agent c x (at_stage (c.agent x) stage remembered chosen)

-- and takes the lock of q
abbrev pub takes_lock : State → ℕ → ℕ → ℕ → ℕ → ℕ → State
takes_lock c x q stage remembered chosen = with_locks (goes_on c x stage remembered chosen) (upd c.lock q x)

-- and releases the locks of p and q
abbrev pub gives_back : State → ℕ → ℕ → ℕ → ℕ → ℕ → State
gives_back c x p q stage remembered = with_locks (goes_on c x stage remembered 0) (released c.lock p q)

-- a step of agent x, given, with a wish, in a sound cell
pub data Way (c : State) (x wish : ℕ) : Outcome → Type 0 where
  is_done : done ≤ (c.agent x).stage → Way c x wish (still c Done)
  is_asleep : (c.agent x).stage ≡ asleep → Way c x wish (still c Asleep)
  -- held
  held_first : (c.agent x).stage ≡ found → c.lock (c.agent x).remembered ≢ none → Way c x wish (still c Held)
  held_second : (c.agent x).stage ≡ holding → kind_of (c.agent x) ≤ open_kind → stays c.land (c.agent x) ≡ true
      → choice c.land (c.agent x) wish < 64
      → c.lock (second_place (kind_of (c.agent x)) (c.agent x).home (choice c.land (c.agent x) wish)) ≢ none → Way c x wish (still c Held)
  held_own : (c.agent x).stage ≡ on_way → c.lock (c.agent x).home ≢ none → Way c x wish (still c Held)
  held_destination : (c.agent x).stage ≡ on_way_own → c.lock (parent_in c.land (c.agent x).home) ≢ none → Way c x wish (still c Held)
  -- stage 0
  looks_up : (c.agent x).stage ≡ looking → kind_of (c.agent x) ≤ exit_kind → linked c.land (c.agent x).home ≡ true
      → Way c x wish (still (goes_on c x found (parent_in c.land (c.agent x).home) 0) Looked)
  looks_at_home : (c.agent x).stage ≡ looking → open_kind ≤ kind_of (c.agent x) → Way c x wish (still (goes_on c x found (c.agent x).home 0) Looked)
  sleeps_alone : (c.agent x).stage ≡ looking → kind_of (c.agent x) ≤ exit_kind → linked c.land (c.agent x).home ≡ false
      → Way c x wish (still (goes_on c x asleep (c.agent x).home 0) Slept)
  -- stage 1
  takes_first : (c.agent x).stage ≡ found → c.lock (c.agent x).remembered ≡ none
      → Way c x wish (still (takes_lock c x (c.agent x).remembered holding (c.agent x).remembered 0) Took)
  -- stage 2
  goes_back : (c.agent x).stage ≡ holding → stays c.land (c.agent x) ≡ false
      → Way c x wish (still (gives_back c x (c.agent x).remembered (c.agent x).remembered looking 0) Back)
  sleeps_stuck : (c.agent x).stage ≡ holding → kind_of (c.agent x) ≤ open_kind → stays c.land (c.agent x) ≡ true
      → 64 ≤ choice c.land (c.agent x) wish
      → Way c x wish (still (gives_back c x (c.agent x).remembered (c.agent x).remembered asleep (c.agent x).remembered) Slept)
  takes_second : (q : ℕ) → (c.agent x).stage ≡ holding → kind_of (c.agent x) ≤ open_kind → stays c.land (c.agent x) ≡ true
      → choice c.land (c.agent x) wish ≡ q → q < 64
      → c.lock (second_place (kind_of (c.agent x)) (c.agent x).home q) ≡ none
      → Way c x wish (still (takes_lock c x (second_place (kind_of (c.agent x)) (c.agent x).home q) holding_both (c.agent x).remembered
      (cond (eqb (kind_of (c.agent x)) exit_kind) 0 q)) Took)
  puts : (q : ℕ) → (c.agent x).stage ≡ holding → kind_of (c.agent x) ≡ release_kind → fresh_number c.land.used ≡ q → q < 64
      → Way c x wish (put c x (c.agent x) q)
  sleeps_full : (c.agent x).stage ≡ holding → kind_of (c.agent x) ≡ release_kind → 64 ≤ fresh_number c.land.used
      → Way c x wish (still (gives_back c x (c.agent x).remembered (c.agent x).remembered asleep none) Slept)
  -- stage 3
  gives_up : (c.agent x).stage ≡ holding_both → fires c.land (c.agent x) ≡ false
      → Way c x wish (still (gives_back c x (c.agent x).remembered
      (second_place (kind_of (c.agent x)) (c.agent x).home (c.agent x).chosen) looking 0) Back)
  enters : (c.agent x).stage ≡ holding_both → kind_of (c.agent x) ≡ enter_kind → fires c.land (c.agent x) ≡ true
      → Way c x wish (leave c x (c.agent x) (c.agent x).chosen)
  exits : (c.agent x).stage ≡ holding_both → kind_of (c.agent x) ≡ exit_kind → fires c.land (c.agent x) ≡ true
      → Way c x wish (leave c x (c.agent x) (parent_in c.land (c.agent x).remembered))
  opens : (c.agent x).stage ≡ holding_both → kind_of (c.agent x) ≡ open_kind → fires c.land (c.agent x) ≡ true
      → Way c x wish (dissolve c x (c.agent x) (c.agent x).remembered (c.agent x).chosen)
  -- stages 4 to 6
  takes_own : (c.agent x).stage ≡ on_way → c.lock (c.agent x).home ≡ none → Way c x wish (still (takes_lock c x (c.agent x).home on_way_own 0 0) Took)
  takes_destination : (c.agent x).stage ≡ on_way_own → c.lock (parent_in c.land (c.agent x).home) ≡ none
      → Way c x wish (still (takes_lock c x (parent_in c.land (c.agent x).home) on_way_both 0 0) Took)
  comes : (c.agent x).stage ≡ on_way_both → Way c x wish (arrive c x (c.agent x) (parent_in c.land (c.agent x).home))
