-- A refusal is that of the count asked for. The sum does not wrap: the touches of a place in use are part of all touches, and these and the
-- number are within the bound.
use Rattle.std.proofs.Common.{ℕ, ◌+◌, ◌≤◌, ◌≡◌, sym, ◌∙◌, subst, arith, true, false, Ok, Fits, w64}
use Rattle.std.proofs.Math.Path.{ap}
use Rattle.std.proofs.lemmas.Bool.{le-leb, lt-leb}
use Rattle.std.proofs.lemmas.Result.{err_from_is_err_and}
use Rattle.meaning.specs.Answers.{Touching}
use Rattle.table.specs.Sound.{most_touches}
use Rattle.soundness.specs.Left.{total_of}
use Rattle.soundness.proofs.LeftLaws.{left_all, left_over}
use Rattle.touch.proofs.KnownLaws.{count_most, tests_passed, same_refusal, answer_last}
use Rattle.touch.proofs.answered.Goals as goal

-- a part of all touches, and a number that is within what they leave, fit
fits_sum : (a t n m r : ℕ) → a ≤ t → r + t ≡ m → n ≤ r → m ≤ 1000000000000 → Fits w64 (a + n)
fits_sum a t n m r p s w b = omega (arith, p, s, w, b)

pub returns-in_err-count : goal.returns-in_err-count
returns-in_err-count c =
    let p = err_from_is_err_and c.from_residual.result c.from_residual.ensures.1 in
    rw (p.1, p.2) (same_refusal c.args.used c.args.touches.now c.args.place c.args.known c.args.number _ (sym c.touches_known.ensures ∙ c.in_err-count.was))

pub overflow_add-result : goal.overflow_add-result
overflow_add-result c =
    let a = c.args in
    let ts = a.touches.now in
    let p = tests_passed a.used ts a.place a.known _ (sym c.touches_known.ensures ∙ c.in_ok-count.was) in
    fits_sum _ (total_of ts a.used) _ most_touches c.in-Some.left (subst (λ (k : ℕ). k ≤ total_of ts a.used) p.1.1.1 (count_most ts a.used a.place p.1.0 p.1.1.0))
    (left_all ts a.used _ (sym c.in-Some.ensures)) (omega (arith, c.from-in-Some.ensures, c.from.ensures, c.if-from-left.true)) (omega arith)

-- the touches are within the bound with the number, over it, or over it without the number
pub returns-in-Some : goal.returns-in-Some
returns-in-Some c =
    let a = c.args in
    let ts = a.touches.now in
    ap (λ (n : ℕ). Ok (c.in_ok-count.count + n)) c.from-in-Some.ensures
    ∙ answer_last a.used ts a.place a.known c.in_ok-count.count a.number true (sym c.touches_known.ensures ∙ c.in_ok-count.was)
    (le-leb _ _ (omega (arith, left_all ts a.used _ (sym c.in-Some.ensures), c.from.ensures, c.if-from-left.true)))

pub returns-in_default : goal.returns-in_default
returns-in_default c =
    let a = c.args in
    let ts = a.touches.now in
    answer_last a.used ts a.place a.known c.in_ok-count.count a.number false (sym c.touches_known.ensures ∙ c.in_ok-count.was)
    (lt-leb _ _ (omega (arith, left_all ts a.used _ (sym c.in-Some.ensures), c.from.ensures, c.if-from-left.false)))

pub returns-in_default-2 : goal.returns-in_default-2
returns-in_default-2 c =
    let a = c.args in
    let ts = a.touches.now in
    answer_last a.used ts a.place a.known c.in_ok-count.count a.number false (sym c.touches_known.ensures ∙ c.in_ok-count.was)
    (lt-leb _ _ (omega (arith, left_over ts a.used (sym c.in_default.ensures))))
