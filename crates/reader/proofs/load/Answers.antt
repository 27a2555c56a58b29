-- One record is read, and carried out by its law.
use native.Mathlib.Omega.{arith}
use mathlib.Core.Path.{refl, ◌∙◌, sym}
use Rattle.reader.proofs.LoadRest.{rest_all, answer_refused, answer_accepted, answer_empty}
use Rattle.reader.proofs.LoadLaws.{stopped, past_end, ended, finished, has_place, rest_place, rest_touches, rest_agent, short}
use Rattle.reader.proofs.Tags.{is_end}
use Rattle.reader.proofs.RowLaws.{row_later, rest_row}
use Rattle.reader.proofs.load.Goals as goal

pub returns-then-s-eq0 : goal.returns-then-s-eq0
returns-then-s-eq0 c = answer_empty c.args.c _ c.args.s.now c.if-s-eq0.true c.bare-d.ensures

pub loop-at-init : goal.loop-at-init
loop-at-init c = rest_all _ _ _ _ _ (omega (arith, c.if-s-eq0.false)) c.bare-d.ensures refl refl refl

-- what is neither place, agent, action, touches nor refusal is the end
pub returns-then-at-s : goal.returns-then-at-s
returns-then-at-s c =
    let l = c.loop-at in
    let e = sym (is_end _ c.in_default-r.not-PlaceRecord c.in_default-r.not-AgentRecord c.in_default-r.not-ActionRecord c.in_default-r.not-TouchRecord c.in_default.not-Faulty) in
    answer_refused _ _ 9 _ (past_end _ l.at l.d l.full l.counted l.came l.many l.invariant c.loop-at-test.true (e ∙ c.record_at-r.ensures) c.if-at-s.true)

pub returns-in_default-r : goal.returns-in_default-r
returns-in_default-r c =
    let l = c.loop-at in
    let t = c.loop-at-test.true in
    let e = sym (is_end _ c.in_default-r.not-PlaceRecord c.in_default-r.not-AgentRecord c.in_default-r.not-ActionRecord c.in_default-r.not-TouchRecord c.in_default.not-Faulty) in
    answer_accepted c.args.c _ _ _
    (finished _ l.at l.d l.full l.counted l.came l.many l.invariant t _ _ c.remove.ensures c.loaded_row-d.ensures)
    (ended _ l.at l.d l.full l.counted l.came l.many l.invariant t (e ∙ c.record_at-r.ensures) c.if-at-s.false)

pub returns-in-loop-at : goal.returns-in-loop-at
returns-in-loop-at c =
    let l = c.loop-at in
    answer_refused _ _ _ _ (stopped _ l.at l.d l.full l.counted l.came l.many l.invariant c.loop-at-test.true _ (sym c.in-Faulty.is ∙ c.record_at-r.ensures))

-- touches
pub loop-at-preserved : goal.loop-at-preserved
loop-at-preserved c =
    let l = c.loop-at in
    rw c.from.ensures
    (rest_touches _ l.at l.d l.full l.counted l.came l.many l.invariant c.loop-at-test.true _ _ _ _ (sym c.in-TouchRecord.is ∙ c.record_at-r.ensures)
    c.at-in-TouchRecord.ensures c.insert-counted.ensures)

-- an action
pub loop-at-smaller-in-ActionRecord : goal.loop-at-smaller-in-ActionRecord
loop-at-smaller-in-ActionRecord c = let l = row_later _ _ _ _ _ _ c.with_row-row.ensures in omega (arith, c.loop-at-test.true)

pub loop-at-preserved-in-ActionRecord : goal.loop-at-preserved-in-ActionRecord
loop-at-preserved-in-ActionRecord c =
    let l = c.loop-at in
    rest_row _ l.at l.d l.full l.counted l.came l.many l.invariant c.loop-at-test.true _ _ _ _ (sym c.in-ActionRecord.is ∙ c.record_at-r.ensures)
    c.at-i-in-ActionRecord.ensures _ _ _ c.with_action-first.ensures c.with_row-row.ensures c.insert_if-full.ensures

-- an agent
pub loop-at-preserved-in-AgentRecord : goal.loop-at-preserved-in-AgentRecord
loop-at-preserved-in-AgentRecord c =
    let l = c.loop-at in
    rest_agent _ l.at l.d l.full l.counted l.came l.many l.invariant c.loop-at-test.true _ _ _ _ _ (sym c.in-AgentRecord.is ∙ c.record_at-r.ensures)
    c.at-i.ensures c.with_home.ensures c.insert-d-in-AgentRecord.ensures

-- a place: there is room for its number
pub bounds-came-many : goal.bounds-came-many
bounds-came-many c =
    let l = c.loop-at in
    has_place _ l.at l.d l.full l.counted l.came l.many l.invariant c.loop-at-test.true _ _ _ (sym c.in-PlaceRecord.is ∙ c.record_at-r.ensures)

pub loop-at-preserved-in-PlaceRecord : goal.loop-at-preserved-in-PlaceRecord
loop-at-preserved-in-PlaceRecord c =
    let l = c.loop-at in
    rest_place _ l.at l.d l.full l.counted l.came l.many l.invariant c.loop-at-test.true _ _ _ _ _ _ (sym c.in-PlaceRecord.is ∙ c.record_at-r.ensures)
    c.at.ensures c.insert-d.ensures c.place_length-at.ensures

-- the file ends without an end record
pub returns : goal.returns
returns c =
    let l = c.loop-at in
    answer_refused _ _ 1 _ (short _ l.at l.d l.full l.counted l.came l.many l.invariant c.loop-at-test.false)
