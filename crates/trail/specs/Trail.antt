-- Checking the dispatcher's claim (document 02, W13): a trail of moves, the finding on it, and the trail of a run. No lock step appears in it: a trail is
-- read on the loaded tree by what the calculus permits and makes.
use Rattle.std.specs.Prelude.{ℕ, ◌+◌, ◌*◌, ◌/◌, ◌%◌, ◌≡◌, Bool, true, ◌&&◌, cond, List, [], ◌∷◌, ◌++◌, eqb, length}
use Rattle.table.specs.Cell.{exit_kind, release_kind, chooses, fresh_number}
use Rattle.meaning.specs.Calculus.{Tree, next_of, permits, move}
use Rattle.meaning.specs.Codes.{above, none_told}
use Rattle.meaning.specs.File.{Load, accepted, refused, load}
use Rattle.meaning.specs.Plain.{Plain, tree_of, plain_step, says_move}
use Rattle.meaning.specs.Run.{Call, agent_of, Reply}
use Rattle.meaning.specs.TreeListing.{tree_listing}
use Rattle.text.specs.Same.{same_text}
use Rattle.trail.specs.declared.Finding.{Finding}
use Rattle.trail.specs.declared.Finding.TheVariants.{Upheld, Denied, BadFile}

-- ---- one move: "the agent and the place entered or opened (255 for exit and release)"

-- the byte says what the kind of action asks for: "a byte other than 255 for exit or release is a no"; for enter and open any, of which `permits` takes
-- those that are places in use
abbrev pub byte_fits : ℕ → ℕ → Bool
byte_fits kind b = cond (chooses kind) true (eqb b none_told)

-- the place that the next action of agent a is on: the one entered or opened, which the byte names; the one left; for release the one that is put out,
-- "under the smallest number unused" (W11)
abbrev pub place_of : Tree → ℕ → ℕ → ℕ
place_of t a b =
    cond (eqb (next_of t a).kind exit_kind) (t.parent (t.home a))
    (cond (eqb (next_of t a).kind release_kind) (fresh_number t.used) b)

-- "each move is one the calculus, with W11's rule for release, permits for that agent's next action in the term reached so far"
unfoldable pub allows : Tree → ℕ → ℕ → Bool
unfolding permits fresh_number
allows t a b = byte_fits (next_of t a).kind b && permits t a (place_of t a b)

-- the tree after it
unfoldable pub moved : Tree → ℕ → ℕ → Tree
unfolding move fresh_number
moved t a b = move t a (place_of t a b)

-- ---- a trail: "two bytes for each move"

-- from tree t the trail leads to u, each of its moves permitted; a trail may stop anywhere
pub data Follows : Tree → List ℕ → Tree → Type 0 where
  ends : {t : Tree} → Follows t [] t
  goes : {t u : Tree} {a b : ℕ} {rest : List ℕ} → allows t a b ≡ true → Follows (moved t a b) rest u → Follows t (a ∷ b ∷ rest) u

-- ---- the finding

-- why a trail is denied: a move that the calculus does not permit; an agent that is not given or has no action left; "an odd last byte"; another
-- listing at the end than the given one
abbrev pub not_permitted : ℕ
not_permitted = 1

abbrev pub no_action_left : ℕ
no_action_left = 2

abbrev pub odd_byte : ℕ
odd_byte = 3

abbrev pub other_layout : ℕ
other_layout = 4

-- why the next move of agent a is denied
abbrev pub why_not : Tree → ℕ → ℕ
why_not t a = cond (eqb (length (t.unused a)) 0) no_action_left not_permitted

-- from tree t, n moves on: "each move is one the calculus .. permits .., and the term at the end has the given listing"
unfoldable pub judged : ℕ → Tree → List ℕ → List ℕ → Finding
unfolding allows moved same_text tree_listing
judged n t [] text = cond (same_text text (tree_listing t)) Upheld (Denied n other_layout)
judged n t (a ∷ []) text = Denied n odd_byte
judged n t (a ∷ b ∷ rest) text = cond (allows t a b) (judged (n + 1) (moved t a b) rest text) (Denied n (why_not t a))

-- "A bad file keeps its load refusal"; then "an odd last byte in the trail is a no", whatever stands before it
unfoldable pub finding_of : Load → List ℕ → List ℕ → Finding
unfolding judged tree_of
finding_of (accepted c) trail text = cond (eqb (length trail % 2) 0) (judged 0 (tree_of c) trail text) (Denied (length trail / 2) odd_byte)
finding_of (refused number offset) trail text = BadFile number offset

-- "a checker of cell file, trail and final listing"
unfoldable pub finding : List ℕ → List ℕ → List ℕ → Finding
unfolding finding_of load
finding file trail text = finding_of (load file) trail text

-- as a number: bits 0 to 7 the load's refusal with its offset above, as a load's answer; else bits 8 to 15 the reason, 0 for yes, and from bit 16 on how
-- many moves stand before what is wrong
abbrev pub finding_number : Finding → ℕ
finding_number Upheld = 0
finding_number (Denied moves reason) = above (moves * 256 + reason) 0
finding_number (BadFile number offset) = above offset number

-- ---- the trail of a run: "written at each left, opened and put"

-- what is written of a move of agent a beside the plain tree: its pick for enter and open, else 255
abbrev pub byte_written : Plain → ℕ → ℕ
byte_written t a = cond (chooses (next_of t.tree a).kind) (t.pick a) none_told

-- by a reply to a call
abbrev pub written_by : Plain → Call → Reply → List ℕ
written_by t k reply = cond (says_move reply) (agent_of k ∷ byte_written t (agent_of k) ∷ []) []

-- the trail of a list of calls and their answers, beside the plain tree
unfoldable pub trail_run : Plain → List Call → List Reply → List ℕ
unfolding plain_step
trail_run t [] answers = []
trail_run t (k ∷ calls) [] = []
trail_run t (k ∷ calls) (a ∷ answers) = written_by t k a ++ trail_run (plain_step t k a) calls answers
