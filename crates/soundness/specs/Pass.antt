-- The soundness test as the program goes about it: numbers are read masked by 64, whatever they are, and tested for use beside.
use Rattle.std.specs.Prelude.{ℕ, Bool, true, false, not, ◌&&◌, ◌||◌, cond, List, leb, eqb, get_or}
use Rattle.sets.specs.Set.{member}
use Rattle.sets.specs.declared.Set.{Set}
use Rattle.table.specs.Base.{all_below, tab, iter}
use Rattle.table.specs.Cell.{none, no_place, no_action, has_action, release_kind, looking, found, asleep, done}
use Rattle.table.specs.Sound.{action_fits, ready, stage_fits, nameless}
use Rattle.table.specs.declared.Action.{Action}
use Rattle.table.specs.declared.Agent.{Agent}
use Rattle.table.specs.declared.Place.{Place}

-- ---- one agent

-- all sixteen actions of a row are in range
unfoldable pub sixteen_fit : List Action → Bool
sixteen_fit row = all_below (λ j. action_fits (get_or row j no_action)) 16

-- the stages at which an agent holds no lock and is not on its way
unfoldable pub quiet : ℕ → Bool
quiet s = leb s found || leb asleep s

-- an agent at stage s remembers a place in use (known), or is asleep with a release next and remembers no place
abbrev pub remembers_at : ℕ → Bool → ℕ → ℕ → Bool
remembers_at s known remembered kind = cond known true (eqb remembered none && (eqb s asleep && eqb kind release_kind))

-- what such a stage asks
unfoldable pub quiet_fits : ℕ → Bool → Bool → Bool → ℕ → Bool
quiet_fits s some known same kind =
    cond (eqb s looking) some
    (cond (eqb s found) (ready some known same kind)
    (cond (eqb s asleep) (some && known)
    (cond (eqb s done) (not some) false)))

-- the lock of q is x's, if q is any
unfoldable pub lock_is_at : Bool → ℕ → ℕ → ℕ → Bool
lock_is_at known q lock x = cond (eqb q none) true (known && eqb lock x)

-- the place x is in use and linked to p
unfoldable pub linked_at : Bool → Place → ℕ → Bool
linked_at known x p = known && (eqb x.way 0 && eqb x.parent p)

-- what a stage that is not quiet asks of an agent whose home is in use; first and second: the places that it holds
unfoldable pub busy_fits : Bool → (ℕ → Bool) → ℕ → Agent → ℕ → Place → Place → ℕ → ℕ → ℕ → ℕ → Bool
busy_fits known used x a kind home chosen first first_lock second second_lock =
    stage_fits a.stage (has_action a) known (eqb a.remembered a.home) kind
    (linked_at true home a.remembered) (linked_at (used a.chosen) chosen a.remembered)
    && (lock_is_at (used first) first first_lock x && lock_is_at (used second) second second_lock x)

-- ---- one place

-- the floor has no name, no keys and no parent, is not linked, and no agent of it is on its way (going)
unfoldable pub floor_stands : Place → Bool → Bool
floor_stands x going = nameless x.name && (eqb x.parent 0 && (not (eqb x.way 0) && not going))

-- what is asked of the floor; claimed: some agent's stage says that it holds the lock
unfoldable pub floor_fits : Place → ℕ → Bool → Bool → Bool
floor_fits x lock claimed going = (eqb lock none || claimed) && floor_stands x going

-- the floor is in use, and what is asked of it holds beside the locks that agents hold and the places that they move
unfoldable pub floor_sound : Place → ℕ → Set → Set → Set → Bool
floor_sound x lock used claimed going = member used 0 && floor_fits x lock (member claimed 0) (member going 0)

-- any other place has a name, whatever its keys, and a parent or destination in use (known), and an agent of it is on its way (going) just
-- where it is not linked
unfoldable pub child_stands : Place → Bool → Bool → Bool
child_stands x known going = leb 1 x.name.name && (known && cond (eqb x.way 0) (not going) going)

-- what is asked of any other place in use
unfoldable pub child_fits : Place → ℕ → Bool → Bool → Bool → Bool
child_fits x lock known claimed going = (eqb lock none || claimed) && child_stands x known going

-- ---- the way to the floor

-- the numbers in use but the floor's
abbrev pub child : Set → ℕ → Bool
child used q = not (eqb q 0) && member used q

-- one step up from each place in use; the floor and what is not in use lead to the floor
unfoldable pub parents_of : List Place → Set → List ℕ
parents_of ps used = tab (λ q. cond (child used q) (get_or ps q no_place).parent 0) 64 0

-- 64 steps up lead each place in use to the floor
unfoldable pub all_lead : (ℕ → ℕ) → Set → Bool
all_lead up used = all_below (λ q. cond (member used q) (eqb (iter up 64 q) 0) true) 64

-- ---- all places

-- what is asked of place q, which is in use and not the floor
abbrev pub child_test : List Place → List ℕ → Set → Set → Set → ℕ → Bool
child_test ps ls used claimed going q =
    child_fits (get_or ps q no_place) (get_or ls q 0) (member used (get_or ps q no_place).parent) (member claimed q) (member going q)

-- the same of place q, whether or not it is in use and not the floor
unfoldable pub child_at : List Place → List ℕ → Set → Set → Set → ℕ → Bool
child_at ps ls used claimed going q = cond (child used q) (child_test ps ls used claimed going q) true

-- what is asked of all places but the floor: each by itself, and that they lead to the floor
unfoldable pub children_fit : List Place → List ℕ → Set → Set → Set → Bool
children_fit ps ls used claimed going = all_below (child_at ps ls used claimed going) 64 && all_lead (λ q. (get_or ps q no_place).parent) used

-- what is asked of all places, the floor first
unfoldable pub lands_fit : List Place → List ℕ → Set → Set → Set → Bool
lands_fit ps ls used claimed going = floor_sound (get_or ps 0 no_place) (get_or ls 0 0) used claimed going && children_fit ps ls used claimed going
