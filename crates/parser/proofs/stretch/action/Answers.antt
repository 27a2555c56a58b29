-- Each word, and the number after it.
use native.Mathlib.Omega.{arith}
use Rattle.parser.specs.Stretches
use Rattle.parser.proofs.StretchLaws.{enter_spells, exit_spells, open_spells, release_spells, stretch_action}
use Rattle.parser.proofs.stretch.action.Goals as goal

pub overflow_add-i : goal.overflow_add-i
overflow_add-i c = let st = c.stands.ensures c.if-stands.true 5 (omega arith) in omega (arith, st.0, c.well_formed)

pub returns-then-stands : goal.returns-then-stands
returns-then-stands c = stretch_action enter_spells (c.stands.ensures c.if-stands.true) c.number.ensures

pub overflow_add-i-then-stands-2 : goal.overflow_add-i-then-stands-2
overflow_add-i-then-stands-2 c = let st = c.stands-2.ensures c.if-stands-2.true 4 (omega arith) in omega (arith, st.0, c.well_formed)

pub returns-then-stands-2 : goal.returns-then-stands-2
returns-then-stands-2 c = stretch_action exit_spells (c.stands-2.ensures c.if-stands-2.true) c.number-then-stands-2.ensures

pub overflow_add-i-then-stands-3 : goal.overflow_add-i-then-stands-3
overflow_add-i-then-stands-3 c = let st = c.stands-3.ensures c.if-stands-3.true 4 (omega arith) in omega (arith, st.0, c.well_formed)

pub returns-then-stands-3 : goal.returns-then-stands-3
returns-then-stands-3 c = stretch_action open_spells (c.stands-3.ensures c.if-stands-3.true) c.number-then-stands-3.ensures

pub overflow_add-i-then-stands-4 : goal.overflow_add-i-then-stands-4
overflow_add-i-then-stands-4 c = let st = c.stands-4.ensures c.if-stands-4.true 7 (omega arith) in omega (arith, st.0, c.well_formed)

pub returns-then-stands-4 : goal.returns-then-stands-4
returns-then-stands-4 c = stretch_action release_spells (c.stands-4.ensures c.if-stands-4.true) c.number-then-stands-4.ensures

pub returns : goal.returns
returns c = Stretches.still
