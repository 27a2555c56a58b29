-- By the wish's membership: the wished number, or what first_in answers.
use mathlib.Core.Path.{sym, ap, ◌∙◌}
use mathlib.Core.Bool.{Bool, cond}
use borrow.Author.Rules.{rules}
use Rattle.sets.specs.Set.{member}
use Rattle.order.specs.Row.{first_in}
use Rattle.meaning.specs.Step.{chosen_of}
use Rattle.stages.proofs.choose.chosen.Statement.{statement}
use Rattle.stages.proofs.choose.chosen.Tie as tie

returns : tie.Need-returns-then-has
unfolding chosen_of
returns c =
    let a = c.before.before.args in
    sym (ap (λ (b : Bool). cond b a.wish (first_in (member a.among) a.row)) (sym c.before.has.ensures ∙ c.if-has.true))

returns_2 : tie.Need-returns-else-has
unfolding chosen_of
returns_2 c =
    let h = c.before.before in
    let a = h.before.args in
    c.first_in.ensures ∙ sym (ap (λ (b : Bool). cond b a.wish (first_in (member a.among) a.row)) (sym h.has.ensures ∙ c.before.if-has.false))

pub chosen_spec : {M : Type 1} → statement M
chosen_spec = tie.close (tie.spec (λ c κs. search rules) (λ c κs. search rules) returns returns_2)
