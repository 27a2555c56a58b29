-- What each stage's step changes (document 01, "One step"), as a small change: the code answers these, and carried out on a cell they are
-- the steps of the meaning (ChangeLaws).
use Rattle.std.specs.Prelude.{ℕ, Bool, ◌&&◌, cond, List, [], ltb, leb, eqb}
use Rattle.sets.specs.Set.{member}
use Rattle.sets.specs.declared.Set.{Set}
use Rattle.table.specs.Cell.{Land, State, land_of, none, no_place, linked, linked_to, fresh_number, kind_of, exit_kind, open_kind, release_kind, looks_home}
use Rattle.table.specs.Cell.{looking, found, holding, holding_both, on_way, on_way_own, on_way_both, asleep}
use Rattle.table.specs.Sound.{second_place}
use Rattle.table.specs.declared.Place.{Place}
use Rattle.table.specs.declared.Agent.{Agent}
use Rattle.meaning.specs.declared.Word.TheVariants.{Looked, Back, Slept, Asleep, Done}
use Rattle.meaning.specs.Update.{at_stage}
use Rattle.meaning.specs.Step.{Outcome, named, choice, stays, fires, destination_of, still, turn, take, release}
use Rattle.moves.specs.Motions.{shifted}
use Rattle.moves.specs.declared.Motion.TheVariants.{Leave, Arrive, Dissolve, Put}
use Rattle.stages.specs.declared.Change.{Change}
use Rattle.stages.specs.declared.Change.TheVariants.{Still, Turn, Take, Release, Move}

-- the land of a table's places and the set of those in use, for whatever does not ask for their row
abbrev pub rowless : List Place → Set → Land
rowless ps used = land_of ps used []

-- the place with number q, where x is read at q among 64: past 63 there is none
abbrev pub own_place : ℕ → Place → Place
own_place q x = cond (ltb q 64) x no_place

-- the land that an agent sees of which the own place is h: nothing is asked of the others
abbrev pub own_land : Place → Set → Land
own_land h used = record { place = λ q. h; used = member used; order = [] }

-- q is a place linked to p, and n is its key for actions of this kind
abbrev pub child_named : ℕ → Land → ℕ → ℕ → ℕ → Bool
child_named kind l p n q = linked_to l q p && named kind l q n

-- what a change of agent x, which is a, makes of a cell
abbrev pub carried : State → ℕ → Agent → Change → Outcome
carried c x a (Still w) = still c w
carried c x a (Turn stage remembered w) = turn c x (at_stage a stage remembered 0) w
carried c x a (Take q stage remembered chosen) = take c x q (at_stage a stage remembered chosen)
carried c x a (Release p q stage remembered w) = release c x p q (at_stage a stage remembered 0) w
carried c x a (Move m) = shifted c x a m

-- ---- the stages

-- stage 0, looking
unfoldable pub looks : Land → Agent → Change
looks l a =
    cond (looks_home (kind_of a)) (Turn found a.home Looked)
    (cond (linked l a.home) (Turn found (l.place a.home).parent Looked)
    (Turn asleep a.home Slept))

-- stage 1, found
abbrev pub locks_first : Agent → Change
locks_first a = Take a.remembered holding a.remembered 0

-- stage 2, holding p, with the choice q
unfoldable pub locks_second : Agent → ℕ → Change
locks_second a q =
    cond (ltb q 64) (Take (second_place (kind_of a) a.home q) holding_both a.remembered (cond (eqb (kind_of a) exit_kind) 0 q))
    (Release a.remembered a.remembered asleep a.remembered Slept)

-- stage 2 of release, with the smallest unused number q
unfoldable pub puts_or_sleeps : Agent → ℕ → Change
puts_or_sleeps a q = cond (ltb q 64) (Move (Put q)) (Release a.remembered a.remembered asleep none Slept)

-- stage 2, holding p
unfoldable pub holds : Land → Agent → ℕ → Change
holds l a wish =
    cond (stays l a)
    (cond (eqb (kind_of a) release_kind) (puts_or_sleeps a (fresh_number l.used)) (locks_second a (choice l a wish)))
    (Release a.remembered a.remembered looking 0 Back)

-- stage 3, holding both
unfoldable pub acts : Land → Agent → Change
acts l a =
    cond (fires l a) (cond (eqb (kind_of a) open_kind) (Move Dissolve) (Move (Leave (destination_of l a))))
    (Release a.remembered (second_place (kind_of a) a.home a.chosen) looking 0 Back)

-- stages 4 to 6, on its way
unfoldable pub travels : Land → Agent → Change
travels l a =
    cond (eqb a.stage on_way) (Take a.home on_way_own 0 0)
    (cond (eqb a.stage on_way_own) (Take (l.place a.home).parent on_way_both 0 0)
    (Move (Arrive (l.place a.home).parent)))

-- stages 7 and 8, asleep and done
abbrev pub idles : ℕ → Change
idles stage = cond (eqb stage asleep) (Still Asleep) (Still Done)

-- the stages other than 2 and 3, which look at the agent's own place alone
unfoldable pub own_change : ℕ → Land → Agent → Change
own_change stage l a =
    cond (eqb stage looking) (looks l a)
    (cond (eqb stage found) (locks_first a)
    (cond (leb stage on_way_both) (travels l a)
    (idles stage)))

-- "The agent's stage, a number from 0 to 8, decides the step"
unfoldable pub change_at : ℕ → Land → Agent → ℕ → Change
change_at stage l a wish =
    cond (eqb stage looking) (looks l a)
    (cond (eqb stage found) (locks_first a)
    (cond (eqb stage holding) (holds l a wish)
    (cond (eqb stage holding_both) (acts l a)
    (cond (leb stage on_way_both) (travels l a)
    (idles stage)))))
