-- What demand 2 claims of one table: a tree is reached by a few calls of one agent. Definitions only.
use Rattle.std.specs.Prelude.{◌≡◌, List, [], ◌∷◌, true, ℕ, ◌≤◌, ◌<◌, length}
use Rattle.table.specs.Cell.{cell_of}
use Rattle.table.specs.declared.Cell.{Cell}
use Rattle.meaning.specs.declared.Word.{Word}
use Rattle.meaning.specs.Answers.{Did}
use Rattle.meaning.specs.Run.{Call, step_call, Reply, step_reply, run, answers, settled}
use Rattle.meaning.specs.Calculus.{Tree, Move}
use Rattle.meaning.specs.Plain.{tree_of}

-- agent a's calls with these wishes
unfoldable pub calls_of : ℕ → List ℕ → List Call
calls_of a [] = []
calls_of a (w ∷ wishes) = step_call a w ∷ calls_of a wishes

-- each wish is a byte
pub data Bytes : List ℕ → Type 0 where
  no_wish : Bytes []
  one_wish : {w : ℕ} {rest : List ℕ} → w < 256 → Bytes rest → Bytes (w ∷ rest)

-- no call is refused
pub data Answered : List Reply → Type 0 where
  no_call : Answered []
  one_call : {word : Word} {woken : ℕ} {rest : List Reply} → Answered rest → Answered (step_reply (Did word woken) ∷ rest)

-- n calls of agent a at most, none refused, take table t to a settled cell whose tree is u
pub record Reaches (n a : ℕ) (t : Cell) (u : Tree) : Type 0 where
  pub wishes : List ℕ
  pub few : length wishes ≤ n
  pub bytes : Bytes wishes
  pub answered : Answered (answers t (calls_of a wishes))
  pub settles : settled (cell_of (run t (calls_of a wishes))) ≡ true
  pub tree : tree_of (cell_of (run t (calls_of a wishes))) ≡ u

-- demand 2 of table t: if its cell is settled, each move that the calculus permits an agent is made by nine of that agent's own calls at most
abbrev pub MovesReached : Cell → Type 0
MovesReached t = settled (cell_of t) ≡ true → (a : ℕ) (u : Tree) → Move (tree_of (cell_of t)) a u → Reaches 9 a t u
