-- Each turn takes the lowest place that is left and follows the way up from it.
use Rattle.std.proofs.Common.{ℕ, ◌≡◌, ◌∙◌, sym, subst, rules}
use Rattle.sets.specs.Set.{member}
use Rattle.sets.proofs.WalkLaws.{turn_of}
use Rattle.sets.proofs.WordLaws.{word_lt}
use Rattle.soundness.proofs.AllLeadLaws.{remains_start, remains_more, remains_end, remains_stop}
use Rattle.soundness.proofs.lands.all_lead.Goals as goal

pub loop-q-init : goal.loop-q-init
loop-q-init c = (rw c.into_iter-q-iterator.ensures.into_iter_gives (search rules), remains_start _ _ _ c.requires)

pub followed-all-requires-clause-q_bound : goal.followed-all-requires-clause-q_bound
followed-all-requires-clause-q_bound c = (turn_of c.loop-q.invariant.0 c.in-Some.ensures.steps).below

pub returns-then-not-has : goal.returns-then-not-has
returns-then-not-has c =
    let a = c.args in
    let l = c.loop-q in
    let e = c.in-Some.ensures.steps in
    let more = c.followed-all.result in
    let m = rw e.1.0 at c.followed-all.ensures in
    remains_stop a.up.now a.used a.known l.all l.q-iterator (rw (sym c.into_iter-q-iterator.ensures.into_iter_gives) l.invariant.1) l.invariant.0 e.0 more m
    (subst (λ (n : ℕ). member more n ≡ _) e.1.0 (sym c.has.ensures ∙ c.if-not-has.true))

pub loop-q-preserved : goal.loop-q-preserved
loop-q-preserved c =
    let l = c.loop-q in
    let e = c.in-Some.ensures.steps in
    let more = c.followed-all.result in
    let m = rw e.1.0 at c.followed-all.ensures in
    rw (e.1.1, e.1.0)
    (word_lt 64 _, remains_more _ _ _ l.all l.q-iterator l.invariant.1 l.invariant.0 e.0 more m (subst (λ (n : ℕ). member more n ≡ _) e.1.0 (sym c.has.ensures ∙ c.if-not-has.false)))

pub returns : goal.returns
returns c =
    remains_end c.args.up.now c.args.used c.args.known c.loop-q.all c.loop-q.q-iterator (rw (sym c.into_iter-q-iterator.ensures.into_iter_gives) c.loop-q.invariant.1) c.in-None.ensures.steps.0
