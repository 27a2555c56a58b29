-- Each turn is a law of the walk; the numbers that it reads are below 64.
use Rattle.std.proofs.Common.{◌∙◌, sym, rules}
use Rattle.sets.proofs.WalkLaws.{turn_below}
use Rattle.soundness.proofs.PassLaws.{passed_start}
use Rattle.soundness.proofs.TurnLaws.{kind_told, seen_out, seen_restless, seen_quiet, seen_unfit, seen_busy, walk_ends}
use Rattle.soundness.proofs.walks.agents_seen.Goals as goal

pub loop-i-init : goal.loop-i-init
loop-i-init c =
    let e = c.into_iter-i-iterator.ensures.into_iter_gives in
    rw e (passed_start c.args.cell.now (rw (← e) (search rules)))

pub bounds-cell-i : goal.bounds-cell-i
bounds-cell-i c = turn_below c.loop-i.invariant.tested.left c.in-Some.ensures.steps

-- ---- an agent that does not fit

pub returns-in_err-kind : goal.returns-in_err-kind
returns-in_err-kind c = rw c.from_residual.ensures (seen_out _ (record { used = search rules; given = search rules }) c.loop-i.invariant c.in-Some.ensures.steps c.in_err-kind.ensures)

pub returns-then-not-quiet_in : goal.returns-then-not-quiet_in
returns-then-not-quiet_in c =
    let t = kind_told _ _ c.in_ok-kind.kind c.in_ok-kind.ensures in
    seen_restless _ (record { used = search rules; given = search rules }) c.loop-i.invariant c.in-Some.ensures.steps t.0 t.1
    (sym c.is_quiet.ensures ∙ c.if-is_quiet.true) (sym c.quiet_in.ensures ∙ c.if-not-quiet_in.true)

pub returns-in_err-held : goal.returns-in_err-held
returns-in_err-held c =
    let t = kind_told _ _ c.in_ok-kind.kind c.in_ok-kind.ensures in
    rw c.from_residual-in_err-held.ensures
    (seen_unfit _ (record { used = search rules; given = search rules }) c.loop-i.invariant c.in-Some.ensures.steps t.0 t.1
    c.at.ensures c.at-else-is_quiet.ensures c.first_held-first.ensures c.at-else-is_quiet-2.ensures c.second_held-second.ensures c.at-else-is_quiet-3.ensures
    (sym c.is_quiet.ensures ∙ c.if-is_quiet.false) c.in_err-held.ensures)

-- ---- one that fits

pub loop-i-preserved-else-not-quiet_in : goal.loop-i-preserved-else-not-quiet_in
loop-i-preserved-else-not-quiet_in c =
    let t = kind_told _ _ c.in_ok-kind.kind c.in_ok-kind.ensures in
    seen_quiet _ (record { used = search rules; given = search rules }) c.loop-i.invariant c.in-Some.ensures.steps t.0 t.1
    (sym c.is_quiet.ensures ∙ c.if-is_quiet.true) (sym c.quiet_in.ensures ∙ c.if-not-quiet_in.false)

pub loop-i-preserved : goal.loop-i-preserved
loop-i-preserved c =
    let t = kind_told _ _ c.in_ok-kind.kind c.in_ok-kind.ensures in
    seen_busy _ (record { used = search rules; given = search rules }) c.loop-i.invariant c.in-Some.ensures.steps t.0 t.1
    c.at.ensures c.at-else-is_quiet.ensures c.first_held-first.ensures c.at-else-is_quiet-2.ensures c.second_held-second.ensures c.at-else-is_quiet-3.ensures
    (sym c.is_quiet.ensures ∙ c.if-is_quiet.false) c.in_ok-held.held c.in_ok-held.ensures

-- nobody is left
pub returns : goal.returns
returns c = walk_ends _ c.loop-i.held _ c.loop-i.invariant c.in-None.ensures.steps.0
