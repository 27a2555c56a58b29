-- Before each turn the machine is where the bytes so far bring it, and the table is that of the cell so far; one event is written by its law.
use native.Mathlib.Omega.{arith}
use mathlib.Core.Path.{refl, ap, ◌∙◌}
use Prim.Native.Nat.{◌%◌}
use Rattle.parser.proofs.ReadLaws.{rest_start, rest_off, rest_nothing, rest_written, rest_end}
use Rattle.parser.proofs.StretchLaws.{stretch_up, stretch_within, rest_stretch}
use Rattle.parser.proofs.RowLaws.{row_up, rest_row}
use Rattle.parser.proofs.read.Goals as goal

pub loop-i-init : goal.loop-i-init
loop-i-init c = rest_start _ _ _ c.bare-b.ensures refl

pub returns-in_default : goal.returns-in_default
returns-in_default c =
    let l = c.loop-i in
    let r = c.stretch-r.result in
    rest_off _ r.i r.at l.d l.b l.x (rest_stretch _ l.i l.at l.d l.b l.x l.invariant c.stretch-r.ensures) (stretch_within c.loop-i-test.true c.stretch-r.ensures) _
    c.moved.ensures _ c.in_default.is

pub loop-i-smaller-in-Nothing : goal.loop-i-smaller-in-Nothing
loop-i-smaller-in-Nothing c = omega (arith, stretch_within c.loop-i-test.true c.stretch-r.ensures, stretch_up c.stretch-r.ensures, c.loop-i-test.true)

pub loop-i-preserved-in-Nothing : goal.loop-i-preserved-in-Nothing
loop-i-preserved-in-Nothing c =
    let l = c.loop-i in
    let r = c.stretch-r.result in
    rest_nothing _ r.i r.at l.d l.b l.x (rest_stretch _ l.i l.at l.d l.b l.x l.invariant c.stretch-r.ensures) (stretch_within c.loop-i-test.true c.stretch-r.ensures)
    _ c.moved.ensures _ _ _ c.in-To.is c.in-Nothing.is

-- what an event leaves: the table and the marks as it writes them
pub loop-i-smaller : goal.loop-i-smaller
loop-i-smaller c =
    omega (arith, stretch_within c.loop-i-test.true c.stretch-r.ensures, stretch_up c.stretch-r.ensures, c.loop-i-test.true)

pub loop-i-preserved : goal.loop-i-preserved
loop-i-preserved c =
    let l = c.loop-i in
    let r = c.stretch-r.result in
    rest_written _ r.i r.at l.d l.b l.x (rest_stretch _ l.i l.at l.d l.b l.x l.invariant c.stretch-r.ensures) (stretch_within c.loop-i-test.true c.stretch-r.ensures)
    _ c.moved.ensures _ _ _ c.in-To.is _ _ _ _ _ _ _ _ _ _ _ c.at.ensures c.agent_written-which.ensures c.at-y.ensures c.agent_after.ensures
    c.gives_agent.ensures c.insert_if-b.ensures c.at-q.ensures c.place_after.ensures c.gives_place.ensures c.insert_if-b-in-loop-i.ensures c.marks_after-x.ensures

-- a row of actions
pub loop-i-smaller-in-Dot : goal.loop-i-smaller-in-Dot
loop-i-smaller-in-Dot c =
    omega (arith, stretch_within c.loop-i-test.true c.stretch-r.ensures, stretch_up c.stretch-r.ensures, c.loop-i-test.true, row_up c.with_row-row.ensures)

pub loop-i-preserved-in-Dot : goal.loop-i-preserved-in-Dot
loop-i-preserved-in-Dot c =
    let l = c.loop-i in
    let r = c.stretch-r.result in
    rest_row _ _ _ _ _ _
    (rest_written _ r.i r.at l.d l.b l.x (rest_stretch _ l.i l.at l.d l.b l.x l.invariant c.stretch-r.ensures) (stretch_within c.loop-i-test.true c.stretch-r.ensures)
    _ c.moved.ensures _ _ _ c.in-To.is _ _ _ _ _ _ _ _ _ _ _ c.at.ensures c.agent_written-which.ensures c.at-y.ensures c.agent_after.ensures
    c.gives_agent.ensures c.insert_if-b.ensures c.at-q.ensures c.place_after.ensures c.gives_place.ensures c.insert_if-b-in-loop-i.ensures c.marks_after-x.ensures)
    c.in-Dot.is _ _ (c.at-z.ensures ∙ ap (λ n. n % 64) c.saturating_sub.ensures) refl c.with_row-row.ensures

pub returns : goal.returns
returns c =
    let l = c.loop-i in
    c.answered.ensures ∙ rest_end _ l.i l.at l.d l.b l.x l.invariant c.loop-i-test.false _
