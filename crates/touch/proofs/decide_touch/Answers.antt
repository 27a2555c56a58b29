-- What is answered, and the count that goes with it.
use Rattle.std.proofs.Common.{ap, ◌∙◌, ℕ, get_or}
use Rattle.std.specs.Result.{result_unwrap_or}
use Rattle.touch.proofs.KnownLaws.{count_told}
use Rattle.touch.proofs.decide_touch.Goals as goal

pub returns : goal.returns
returns c =
    let a = c.args in
    let told = c.answered-answer.result in
    ap (λ (k : ℕ). record { count = k; answer = told })
    (c.unwrap_or.ensures ∙ ap (λ (i : ℕ). result_unwrap_or told (get_or a.touches.now i 0)) c.at.ensures)
    ∙ count_told a.used a.touches.now a.place a.known a.number told c.answered-answer.ensures
