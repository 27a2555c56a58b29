-- A turn gathers one agent; once nobody is left those found are those that the motion wakes.
use Rattle.std.proofs.Common.{ℕ, ◌%◌, rules, get_or, ap, sym, subst, ◌∙◌}
use Rattle.sets.specs.Word.{count_of}
use Rattle.sets.specs.Set.{member, empty_set}
use Rattle.sets.specs.declared.Set.{Set}
use Rattle.sets.proofs.WalkLaws.{turn_below}
use Rattle.table.specs.Bounds.{Sized}
use Rattle.table.specs.Cell.{no_place}
use Rattle.updates.proofs.GatherLaws.{Gathered, gathered_start, gathered_end}
use Rattle.moves.proofs.StoreLaws.{turn_gathers}
use Rattle.moving.specs.Plan.{waking_of}
use Rattle.moving.specs.Turn.{sleepers_of}
use Rattle.moving.specs.declared.waking.Waking.{Waking}
use Rattle.moving.proofs.ShiftLaws.{woken_is}
use Rattle.moving.proofs.counts.woken_lent.Goals as goal

pub loop-i-init : goal.loop-i-init
loop-i-init c = subst (Gathered (member c.args.cell.now.given) _ empty_set) (sym c.into_iter-i-iterator.ensures.into_iter_gives) (gathered_start c.args.cell.now.given _ (search rules))

pub bounds-cell-i : goal.bounds-cell-i
bounds-cell-i c = turn_below c.loop-i.invariant.left c.in-Some.ensures.steps

pub loop-i-preserved : goal.loop-i-preserved
loop-i-preserved c = rw c.insert_if-sleepers.ensures (turn_gathers c.loop-i.invariant c.in-Some.ensures.steps _ c.wakes.ensures)

pub returns : goal.returns
returns c =
    let t = c.args.cell.now in
    let sized : Sized t = record { places = search rules; locks = search rules; agents = search rules; used = search rules; given = search rules; touches = search rules } in
    c.counted.ensures
    ∙ ap (λ (s : Set). count_of 64 (member s)) (gathered_end c.loop-i.invariant c.in-None.ensures.steps.0)
    ∙ ap (λ (w : Waking). count_of 64 (member (sleepers_of t w)))
    (c.who_wakes-waking.ensures ∙ ap (λ (k : ℕ). waking_of c.args.a c.args.motion (get_or t.places k no_place) t.used) (c.at.ensures ∙ ap (λ (k : ℕ). k % 64) c.goal.ensures))
    ∙ woken_is t sized c.args.a c.args.motion
