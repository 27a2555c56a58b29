-- One test: the decision is carried out, or the cell is as it was.
use borrow.Author.Rules.{rules}
use Rattle.meaning.specs.Run.{turned_away}
use Rattle.asking.specs.Asked.{made_if}
use Rattle.asking.proofs.made_if.Statement.{statement}
use Rattle.asking.proofs.made_if.Tie as tie

pub made_if_spec : {M : Type 1} → statement M
unfolding made_if turned_away
made_if_spec =
    tie.close
    (tie.spec
    (λ c κs. search rules) (λ c. rw c.before.if-same.true c.carry_out.ensures)
    (λ c. rw c.if-same.false))
