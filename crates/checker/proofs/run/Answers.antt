-- One move is denied, made by two stores, or made by a motion; where none is left, so many are made.
use mathlib.Core.Path.{◌≡◌, refl, sym, subst}
use Prim.Native.Nat.{ℕ, ◌+◌, ◌*◌, ◌≤◌, ◌<◌}
use mathlib.Core.List.{List}
use native.Mathlib.Omega.{arith}
use lib.ListN.{length, get_or}
use Rattle.table.specs.Cell.{cell_of}
use Rattle.meaning.specs.Plain.{tree_of}
use Rattle.trail.specs.Trail.{judged}
use Rattle.checker.specs.OnTable.{Makes, by_listing}
use Rattle.checker.proofs.JudgeLaws.{denied_why, left_more, left_denied, left_none}
use Rattle.checker.proofs.TurnLaws.{decided, comes_told, comes_into, comes_shift}
use Rattle.checker.proofs.run.Goals as goal
use Rattle.checker.proofs.run.Goals.{in-Into, in-Shift}

-- a move that is left has both its bytes
both : (n moves : ℕ) (s : List ℕ) → n < moves → 2 * moves ≤ length s → 2 * n + 1 < length s
both n moves s l m = omega arith

pub returns-in-Deny : goal.returns-in-Deny
returns-in-Deny c =
    let l = c.loop-n in
    let s = c.args.trail.now in
    let turned = decided l.d l.invariant.0 (get_or s (2 * l.n) 0) (get_or s (2 * l.n + 1) 0) c.at-k.ensures c.at-i.ensures c.at-o.ensures c.at-j.ensures
    c.turn_of-t.ensures in
    let m = comes_told turned c.in-Deny.is in
    let room = both l.n c.args.moves s c.loop-n-test.true c.requires.1 in (
      refl,
      record { denied = λ _ text. left_denied (l.invariant.1 text) room m; ended = λ z. absurd (denied_why m z) },
    )

pub loop-n-preserved : goal.loop-n-preserved
loop-n-preserved c =
    let l = c.loop-n in
    let s = c.args.trail.now in
    let turned = decided l.d l.invariant.0 (get_or s (2 * l.n) 0) (get_or s (2 * l.n + 1) 0) c.at-k.ensures c.at-i.ensures c.at-o.ensures c.at-j.ensures
    c.turn_of-t.ensures in
    let m : Makes l.d (get_or s (2 * l.n) 0) (get_or s (2 * l.n + 1) 0) c.match-t.d =
    elim c.match-t.branch [
      | in-Into w ↦ subst (Makes l.d (get_or s (2 * l.n) 0) (get_or s (2 * l.n + 1) 0)) (sym w.d-is) (comes_into turned w.in-Into.is w.count_used.ensures)
      | in-Shift w ↦ subst (Makes l.d (get_or s (2 * l.n) 0) (get_or s (2 * l.n + 1) 0)) (sym w.d-is) (comes_shift turned w.in-Shift.is w.make-d.ensures)
    ] in
    let room = both l.n c.args.moves s c.loop-n-test.true c.requires.1 in
    (m.ready, λ text. left_more (l.invariant.1 text) room m)

pub returns : goal.returns
returns c =
    let l = c.loop-n in
    let m : l.n ≡ c.args.moves = omega (arith, c.loop-n-test.false, l.auto.n-end) in (
      refl,
      record {
        denied = λ z. absurd (z refl);
        ended = λ _ e text. subst (λ (k : ℕ). by_listing l.d k text ≡ judged 0 (tree_of (cell_of c.args.c)) c.args.trail.now text) m
            (left_none (l.invariant.1 text) (omega (arith, m, e)));
      },
    )
