-- Each turn is a law of the walk; once no place is left all of them are known to lead to the floor, or not.
use Rattle.std.proofs.Common.{◌∙◌, sym, rules}
use Rattle.sets.proofs.WalkLaws.{turn_below}
use Rattle.soundness.proofs.ClimbLaws.{floor_falls, climb_start, climb_stop, climb_turn, climb_ways, climb_ends}
use Rattle.soundness.proofs.walks.places_seen.Goals as goal

pub returns-then-not-floor_sound : goal.returns-then-not-floor_sound
returns-then-not-floor_sound c = floor_falls _ _ _ _ _ (sym c.floor_sound.ensures ∙ c.if-not-floor_sound.true)

pub loop-q-init : goal.loop-q-init
loop-q-init c =
    rw (c.into_iter-q-iterator.ensures.into_iter_gives, c.remove-q-items.ensures)
    (climb_start _ _ _ _ _ (sym c.floor_sound.ensures ∙ c.if-not-floor_sound.false))

pub bounds-cell-q : goal.bounds-cell-q
bounds-cell-q c = turn_below c.loop-q.invariant.tested.left c.in-Some.ensures.steps

pub bounds-cell-q-in-loop-q : goal.bounds-cell-q-in-loop-q
bounds-cell-q-in-loop-q c = turn_below c.loop-q.invariant.tested.left c.in-Some.ensures.steps

pub bounds-up-q : goal.bounds-up-q
bounds-up-q c = turn_below c.loop-q.invariant.tested.left c.in-Some.ensures.steps

pub returns-then-not-child_sound : goal.returns-then-not-child_sound
returns-then-not-child_sound c =
    climb_stop _ _ _ _ _ (sym c.floor_sound.ensures ∙ c.if-not-floor_sound.false) c.loop-q.invariant c.in-Some.ensures.steps
    (sym c.child_sound.ensures ∙ c.if-not-child_sound.true)

pub loop-q-preserved : goal.loop-q-preserved
loop-q-preserved c =
    rw c.known_with-known.ensures
    (climb_turn _ _ _ _ _ (sym c.floor_sound.ensures ∙ c.if-not-floor_sound.false) c.loop-q.invariant c.in-Some.ensures.steps
    (sym c.child_sound.ensures ∙ c.if-not-child_sound.false))

pub all_lead-requires : goal.all_lead-requires
all_lead-requires c =
    climb_ways _ _ _ _ _ (sym c.floor_sound.ensures ∙ c.if-not-floor_sound.false) c.loop-q.invariant c.in-None.ensures.steps.0 (search rules)

pub returns : goal.returns
returns c =
    c.all_lead.ensures
    ∙ climb_ends _ _ _ _ _ (sym c.floor_sound.ensures ∙ c.if-not-floor_sound.false) c.loop-q.invariant c.in-None.ensures.steps.0 (search rules)
