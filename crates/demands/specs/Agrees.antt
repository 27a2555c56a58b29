-- The keeper beside the published calculus: soundness, liveness and completeness in the sense of source 002 section 4.1, for every
-- accepted file and every list of calls. Definitions of what is claimed; AgreesLaws proves it.
use Rattle.std.specs.Prelude.{◌≡◌, List, true, ℕ}
use Rattle.table.specs.Cell.{State, cell_of}
use Rattle.table.specs.declared.Cell.{Cell}
use Rattle.meaning.specs.Run.{Call, rests, settled}
use Rattle.meaning.specs.Calculus.{Tree}
use Rattle.meaning.specs.Plain.{plain_of}
use Rattle.calculus.specs.Terms.{Term, ◌≅◌, ◌⟶◌, ◌⟶*◌}
use Rattle.calculus.specs.TermOf.{term}
use Rattle.demands.specs.AfterCalls.{StepChanges, reached, plain_after}
use Rattle.demands.specs.TwoSteps.{Reaches}

-- the term of the loaded cell, and the term reached after the calls
abbrev pub term_before : State → Term
term_before c = term (plain_of c).tree

abbrev pub term_after : State → List Call → Term
term_after c calls = term (plain_after c calls).tree

-- some agent takes table t, by nine calls of its own at most, to a settled cell whose term is P up to equivalence
pub record ReachesTerm (t : Cell) (P : Term) : Type 0 where
  pub who : ℕ
  pub after : Tree
  pub reaches : Reaches 9 who t after
  pub same : P ≅ term after

-- what 002 section 4.1 asks of an implementation, read with the rule for release (document 02, W11)
pub record Agrees (c : State) (calls : List Call) : Type 0 where
  -- soundness: the loaded term reduces to the term reached
  pub reduces : term_before c ⟶* term_after c calls
  -- liveness: while the term reached reduces, some agent's step changes the cell for every wish
  pub live : (P : Term) → term_after c calls ⟶ P → (y : ℕ) × StepChanges (reached c calls) y
  -- and when all agents are asleep or done, it is blocked
  pub blocked : ((x : ℕ) → (cell_of (reached c calls)).given x ≡ true → rests (reached c calls) x ≡ true) → (P : Term) → term_after c calls ⟶ P → ⊥
  -- completeness: from a settled cell, each term that it reduces to is reached
  pub complete : settled (cell_of (reached c calls)) ≡ true → (P : Term) → term_after c calls ⟶ P → ReachesTerm (reached c calls) P
