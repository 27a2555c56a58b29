-- Where a test decides the calls, the walk from here on, with the turns that are left, finds what the whole one does.
use Rattle.std.proofs.Common.{◌≡◌, ℕ, ◌-◌, Bool}
use Rattle.meaning.specs.Where.{most_outwards, outwards}
use Rattle.locating.specs.Outwards.{Decides, up_in}
use Rattle.locating.proofs.first_outwards.Given as goal

abbrev pub invariant-loop-turn : goal.invariant-loop-turn
invariant-loop-turn g l =
    goal.F-IsAlwaysCallable g l.passes
    × ((f : ℕ → Bool) → Decides l.ps (goal.F-post g l.passes) f → outwards (65 - l._turn) (up_in l.ps) f l.at ≡ outwards most_outwards (up_in l.ps) f l.fn.q)
