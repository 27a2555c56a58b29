-- Each turn adds what the lowest agent that is left has; what is added is small.
use Rattle.std.proofs.Common.{rules, ℕ, ◌≡◌, ◌+◌, ◌≤◌, ◌<◌, ◌^◌, ◌∙◌, arith, get_or, subst, sym, Some}
use Rattle.sets.specs.Word.{has}
use Rattle.sets.specs.Walk.{TakesLowest}
use Rattle.sets.proofs.WalkLaws.{rest_start, turn_below}
use Rattle.sets.specs.declared.Set.{Set}
use Rattle.table.specs.Cell.{no_agent, cell_of}
use Rattle.table.specs.declared.Cell.{Cell}
use Rattle.meaning.specs.Limit.{moves_of, moves_left}
use Rattle.lending.proofs.Added.{Added, added_start, added_turn, added_most, added_none}
use Rattle.limit.specs.Known.{moves_at}
use Rattle.limit.proofs.LimitLaws.{moves_read, moves_most}
use Rattle.limit.proofs.moves_left.Goals as goal

-- the moves before agent x
abbrev before : Cell → ℕ → ℕ
before h x = moves_of (get_or h.agents x no_agent)

-- so many moves are added, and these agents are left
abbrev Sum : Cell → ℕ → Set → Type 0
Sum h moves rest = Added (has h.given.bits) (before h) moves rest

-- what is added is small
most : (h : Cell) (moves : ℕ) (rest : Set) → Sum h moves rest → moves ≤ 2112
unfolding moves_left cell_of
most h moves rest a = omega (arith, added_most (has h.given.bits) (before h) a, moves_most (cell_of h))

-- the agent i of a turn has n moves before it
next : (h : Cell) (moves : ℕ) (rest others : Set) → Sum h moves rest → (i : ℕ) → TakesLowest rest (Some i) others
    → (n : ℕ) → n ≡ moves_at (get_or h.agents i no_agent).stage (get_or h.agents i no_agent).next (get_or h.agents i no_agent).count → Sum h (moves + n) others
next h moves rest others a i step n e =
    subst (λ (m : ℕ). Sum h (moves + m) others) (sym (e ∙ sym (moves_read (get_or h.agents i no_agent)))) (added_turn (has h.given.bits) (before h) a step)

pub loop-i-init : goal.loop-i-init
loop-i-init c =
    let t = c.args.cell.now in
    let e = c.into_iter-i-iterator.ensures.into_iter_gives in
    let small : c.into_iter-i-iterator.result.bits < 2 ^ 64 = search rules in
    subst (Sum t 0) (sym e) (added_start (has t.given.bits) (before t) t.given (rest_start t.given (subst (λ (s : Set). s.bits < 2 ^ 64) e small)))

pub bounds-cell-i : goal.bounds-cell-i
bounds-cell-i c = turn_below c.loop-i.invariant.walk.walk c.in-Some.ensures.steps

pub overflow_add-moves : goal.overflow_add-moves
overflow_add-moves c =
    let s = next c.args.cell.now c.loop-i.moves c.loop-i.i-iterator c.next.new.self c.loop-i.invariant c.in-Some.i c.in-Some.ensures.steps
    c.moves_at-moves.result c.moves_at-moves.ensures in
    let m : c.loop-i.moves + c.moves_at-moves.result ≤ 2112 = most c.args.cell.now _ _ s in
    search rules

pub loop-i-preserved : goal.loop-i-preserved
loop-i-preserved c =
    next c.args.cell.now c.loop-i.moves c.loop-i.i-iterator c.next.new.self c.loop-i.invariant c.in-Some.i c.in-Some.ensures.steps
    c.moves_at-moves.result c.moves_at-moves.ensures

pub returns : goal.returns
unfolding moves_left cell_of
returns c = added_none (has c.args.cell.now.given.bits) (before c.args.cell.now) c.loop-i.invariant c.in-None.ensures.steps
