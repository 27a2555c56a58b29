-- A member more leaves fewer places to pass; where the way meets a place that is known, or comes back to itself, nothing is to follow.
use Rattle.std.proofs.Common.{ℕ, ◌≡◌, false, ◌-◌, ◌%◌, ◌<◌, ◌∙◌, sym, arith}
use Rattle.sets.specs.Set.{member, inserted}
use Rattle.sets.specs.declared.Set.{Set}
use Rattle.table.specs.Base.{count_below}
use Rattle.soundness.proofs.LeadLaws.{count_most, count_inserted, path_start, path_more, path_found, path_lost}
use Rattle.soundness.proofs.lands.followed.Goals as goal

-- a member more leaves fewer places to pass
fewer : (s : Set) (p : ℕ) → p < 64 → member s p ≡ false → 64 - count_below (member (inserted s p)) 64 < 64 - count_below (member s) 64
fewer s p l e = let n = count_inserted s p l e in let m = count_most (member (inserted s p)) 64 in omega (arith, n, m)

-- a number below 64 is read where it stands
same : (p k : ℕ) → p < 64 → k ≡ p % 64 → k ≡ p
same p k l e = omega (arith, l, e)

pub loop-path-init : goal.loop-path-init
loop-path-init c = path_start _ c.args.known c.args.q c.requires.q_bound

pub bounds-up-at : goal.bounds-up-at
bounds-up-at c = let e = c.at.ensures in omega arith

pub loop-path-smaller : goal.loop-path-smaller
loop-path-smaller c =
    let l = c.loop-path in
    rw c.insert-path.ensures (fewer l.path l.p l.invariant.small (sym c.has.ensures ∙ c.loop-path-test.true))

pub loop-path-preserved : goal.loop-path-preserved
loop-path-preserved c =
    let l = c.loop-path in
    let a = c.args in
    rw (c.insert-path.ensures, same l.p _ l.invariant.small c.at.ensures)
    (path_more a.up.now a.known a.q l.path l.p l.invariant c.requires.ways.small (sym c.has.ensures ∙ c.loop-path-test.true))

pub returns-then-has : goal.returns-then-has
returns-then-has c =
    let l = c.loop-path in
    path_found _ c.args.known c.args.q l.path l.p l.invariant c.requires.ways (sym c.has-2.ensures ∙ c.if-has.true) (sym c.has.ensures ∙ c.loop-path-test.false)

pub returns-else-has : goal.returns-else-has
returns-else-has c =
    let l = c.loop-path in
    path_lost _ c.args.known c.args.q l.path l.p l.invariant c.requires.ways (sym c.has-2.ensures ∙ c.if-has.false) (sym c.has.ensures ∙ c.loop-path-test.false)
