-- What a motion makes of a cell: the step in which a place moves.
use Rattle.std.specs.Prelude.{◌≡◌, ℕ, refl}
use Rattle.table.specs.Cell.{State}
use Rattle.table.specs.declared.Agent.{Agent}
use Rattle.meaning.specs.Step.{leave, arrive, dissolve, put}
use Rattle.moves.specs.declared.Motion.{Motion}
use Rattle.moves.specs.declared.Motion.TheVariants.{Leave, Arrive, Dissolve, Put}
use Rattle.moves.specs.Motions.{shifted, woken_in}

-- that is the number that the motion answers
pub shifted_woken : (c : State) (x : ℕ) (a : Agent) (m : Motion) → (shifted c x a m).woken ≡ woken_in c a m
unfolding leave arrive dissolve put
shifted_woken c x a (Leave d) = refl
shifted_woken c x a (Arrive d) = refl
shifted_woken c x a Dissolve = refl
shifted_woken c x a (Put q) = refl
