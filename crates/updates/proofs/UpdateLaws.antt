-- Arrays that are read and stored at any number, the next action, and a step's answer. Assumes nothing.
-- Idea: at and past 64 an array reads its default and a store changes nothing, as for the total functions of a cell.
use Rattle.std.specs.Prelude.{◌≡◌, Bool, cond, List, ℕ, eqb, get_or}
use Rattle.std.proofs.Common.{sym, ap, ◌∙◌}
use Rattle.table.specs.Base.{tab, upd}
use Rattle.table.proofs.BaseLaws.{get_d_tab, tab_ext}
use Rattle.table.specs.Cell.{next_action, table_of}
use Rattle.table.specs.declared.Action.{Action}
use Rattle.table.specs.declared.Agent.{Agent}
use Rattle.table.specs.declared.Cell.{Cell}
use Rattle.meaning.specs.declared.Word.{Word}
use Rattle.meaning.specs.Answers.{Did}
use Rattle.meaning.specs.Step.{Outcome}
use Rattle.meaning.specs.Run.{made}

-- ---- arrays of 64

-- a store into a table that was made
pub store_tab : {A : Type 0} (d : A) (f : ℕ → A) (l : List A) (q : ℕ) (v : A) → l ≡ tab f 64 0 → tab (upd (λ j. get_or l j d) q v) 64 0 ≡ tab (upd f q v) 64 0
unfolding upd
store_tab {A} d f l q v e = tab_ext d 64 _ _ (λ j k. ap (cond (eqb j q) v) (ap (λ (z : List A). get_or z j d) e ∙ get_d_tab f 64 j d k))

-- ---- the next action

-- a test of the kind that was read is a test of the next action's kind
pub kind_tested : (f : ℕ → Bool) (a : Agent) (x : Action) (b : Bool) → x ≡ next_action a → f x.kind ≡ b → f (next_action a).kind ≡ b
kind_tested f a x b e t = sym (ap (λ (y : Action). f y.kind) e) ∙ t

pub kind_test : (a : Agent) (x : Action) (k : ℕ) (b : Bool) → x ≡ next_action a → eqb x.kind k ≡ b → eqb (next_action a).kind k ≡ b
kind_test a x k b e t = kind_tested (λ n. eqb n k) a x b e t

-- ---- a step's answer

-- a table and an answer that are those of an outcome
pub did : (d : Cell) (w : Word) (n : ℕ) (o : Outcome) → d ≡ table_of o.cell → w ≡ o.word → n ≡ o.woken → record { cell = d; answer = Did w n } ≡ made o
unfolding made
did d w n o e f g = λ i. record { cell = e i; answer = Did (f i) (g i) }
