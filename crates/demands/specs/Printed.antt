-- What program `walk` prints of a loaded cell, in words of the plain tree (document 01, "The listing" and "The plain tree"). Definitions only.
use Rattle.std.specs.Prelude.{List, [], ◌∷◌, ◌++◌, ℕ}
use Rattle.table.specs.Base.{tab}
use Rattle.table.specs.Cell.{State}
use Rattle.meaning.specs.Text.{ascii}
use Rattle.meaning.specs.Run.{Call, step_call, agent_of, Reply, step_reply, touch_reply}
use Rattle.meaning.specs.Calculus.{Tree}
use Rattle.meaning.specs.Plain.{plain_of}
use Rattle.meaning.specs.TreeListing.{tree_listing}
use Rattle.meaning.specs.Report.{Pair, step_line}
use Rattle.demands.specs.AfterCalls.{answered, plain_after}

-- "first and last line a word and the listing": of a tree
unfoldable pub tree_line : List ℕ → Tree → List ℕ
unfolding tab
tree_line word t = ((word ++ ascii " ") ++ tree_listing t) ++ ascii "\n"

-- the step calls of an order's pairs
unfoldable pub pair_calls : List Pair → List Call
pair_calls [] = []
pair_calls (k ∷ pairs) = step_call k.agent k.wish ∷ pair_calls pairs

-- "between, agent, answer, number woken": the line of a call with what it answered; walk makes no touch calls
abbrev pub reply_line : Call → Reply → List ℕ
reply_line k (step_reply a) = step_line (agent_of k) a
reply_line k (touch_reply a) = []

-- a line for each call
unfoldable pub step_lines : List Call → List Reply → List ℕ
step_lines [] answers = []
step_lines (k ∷ calls) [] = []
step_lines (k ∷ calls) (a ∷ answers) = reply_line k a ++ step_lines calls answers

-- of a loaded cell c, whether a file or a text gave it, and a list of calls: the loaded tree, the answers, and the plain tree after the calls
unfoldable pub printed_of : State → List Call → List ℕ
unfolding tab
printed_of c calls =
    tree_line (ascii "start") (plain_of c).tree
    ++ (step_lines calls (answered c calls)
    ++ tree_line (ascii "end") (plain_after c calls).tree)
