-- What is claimed of trails (document 02, W13): they are rows of reductions of the published calculus, both ways; the trail of every run is upheld; and
-- a host that asks before each step can write it. Definitions only; FollowsLaws, ReductionLaws, RunLaws and AskedLaws prove it.
use Rattle.std.specs.Prelude.{◌≡◌, cond, List, [], ◌∷◌, ◌++◌, ℕ}
use Rattle.table.specs.Cell.{State, cell_of, table_of, chooses}
use Rattle.table.specs.declared.Cell.{Cell}
use Rattle.meaning.specs.Ask.{ask_of}
use Rattle.meaning.specs.Calculus.{Tree, next_of}
use Rattle.meaning.specs.Codes.{none_told, ask_number}
use Rattle.meaning.specs.Listing.{listing}
use Rattle.meaning.specs.Plain.{plain_of, says_move}
use Rattle.meaning.specs.Run.{Call, agent_of, wish_of, call_of}
use Rattle.calculus.specs.Formed.{Formed}
use Rattle.calculus.specs.Moves.{Moves}
use Rattle.calculus.specs.Terms.{Term, ◌≅◌, ◌⟶*◌}
use Rattle.calculus.specs.TermListing.{listed}
use Rattle.calculus.specs.TermOf.{term}
use Rattle.demands.specs.AfterCalls.{reached, answered}
use Rattle.demands.specs.Agrees.{term_before}
use Rattle.demands.specs.SameListings.{OfBytes}
use Rattle.trail.specs.declared.Finding.TheVariants.{Upheld}
use Rattle.trail.specs.Trail.{Follows, finding, trail_run}
use Rattle.trail.specs.Written.{told_bytes}

-- ---- trails and the calculus

-- the byte that tells a move of agent a on place m
abbrev pub byte_of : Tree → ℕ → ℕ → ℕ
byte_of t a m = cond (chooses (next_of t a).kind) m none_told

-- a trail of bytes that leads from t to u
pub record TrailTo (t u : Tree) : Type 0 where
  pub trail : List ℕ
  pub bytes : OfBytes trail
  pub follows : Follows t trail u

-- a trail of bytes that leads from t to a tree whose term is P up to equivalence
pub record TrailToTerm (t : Tree) (P : Term) : Type 0 where
  pub after : Tree
  pub leads : TrailTo t after
  pub same : P ≅ term after

-- trails are the rows of moves of the calculus, and so the rows of reductions of a tree's term
pub record FollowsCalculus : Type 0 where
  pub moves : {t u : Tree} {trail : List ℕ} → Follows t trail u → Moves t u
  pub trails : {t u : Tree} → Formed t → Moves t u → TrailTo t u
  pub reduces : {t u : Tree} {trail : List ℕ} → Formed t → Follows t trail u → term t ⟶* term u
  pub reaches : {t : Tree} {P : Term} → Formed t → term t ⟶* P → TrailToTerm t P

-- the term that an upheld trail leads to: the loaded term reduces to it, and the text is its listing
pub record ReducesTo (c : State) (text : List ℕ) : Type 0 where
  pub after : Term
  pub reduces : term_before c ⟶* after
  pub listed : text ≡ listed after

-- a trail of bytes that is upheld with a text
pub record UpheldBy (file text : List ℕ) : Type 0 where
  pub trail : List ℕ
  pub bytes : OfBytes trail
  pub upheld : finding file trail text ≡ Upheld

-- of a file that is accepted as c: what is upheld is listed of a term to which the loaded one reduces, and with the listing of each such term some
-- trail is upheld
pub record UpheldReduces (file : List ℕ) (c : State) : Type 0 where
  pub reduces : (trail text : List ℕ) → finding file trail text ≡ Upheld → ReducesTo c text
  pub reaches : (P : Term) → term_before c ⟶* P → UpheldBy file (listed P)

-- ---- the trail of a run

-- "The trail of every run of our keeper from that file, written at each left, opened and put"
abbrev pub trail_of : State → List Call → List ℕ
trail_of c calls = trail_run (plain_of c) calls (answered c calls)

-- ".. is accepted with that run's listing": of the cell c that a file gives
abbrev pub RunUpheld : List ℕ → State → List Call → Type 0
RunUpheld file c calls = finding file (trail_of c calls) (listing (cell_of (reached c calls))) ≡ Upheld

-- ---- the trail that a host can write

-- by a call on table t: what `keeper_trail` writes of the number that `keeper_ask` answers right before it, kept where the reply says a move; a commit
-- that is refused says none
abbrev pub asked_by : Cell → Call → List ℕ
asked_by t k = cond (says_move (call_of t k).reply) (told_bytes (agent_of k) (ask_number (ask_of t (agent_of k) (wish_of k)))) []

-- the trail of a list of calls, by an ask before each
unfoldable pub trail_asked : Cell → List Call → List ℕ
unfolding call_of ask_of told_bytes
trail_asked t [] = []
trail_asked t (k ∷ calls) = asked_by t k ++ trail_asked (call_of t k).cell calls

-- it is the trail of the run
abbrev pub AskedAsRun : State → List Call → Type 0
AskedAsRun c calls = trail_asked (table_of c) calls ≡ trail_of c calls
