-- The moves of a trail made on a table, without a lock: what the code reads, tests and makes.
use Rattle.std.specs.Prelude.{ℕ, ◌*◌, ◌/◌, ◌%◌, ◌≤◌, ◌≡◌, ◌≢◌, Bool, true, false, cond, List, [], ◌∷◌, eqb, length, get_or, set}
use Rattle.sets.specs.Set.{member}
use Rattle.sets.specs.declared.Set.{Set}
use Rattle.table.specs.declared.Name.{Name}
use Rattle.table.specs.declared.Place.{Place}
use Rattle.table.specs.declared.Action.{Action}
use Rattle.table.specs.declared.Agent.{Agent}
use Rattle.table.specs.declared.Cell.{Cell}
use Rattle.table.specs.Bounds.{Sized}
use Rattle.table.specs.Cell.{Land, cell_of, put_places, put_agents, no_name, no_place, no_agent, fresh_number, kind_of, enter_kind, exit_kind, open_kind}
use Rattle.meaning.specs.Calculus.{Tree, next_of}
use Rattle.meaning.specs.Listing.{listing}
use Rattle.meaning.specs.Plain.{tree_from, tree_of}
use Rattle.meaning.specs.Run.{made}
use Rattle.meaning.specs.Update.{with_parent, at_stage, use_up}
use Rattle.meaning.specs.Answers.{Accepted, Rejected}
use Rattle.calculus.specs.Formed.{Formed}
use Rattle.demands.specs.Invariant.{Fit}
use Rattle.moves.specs.Motions.{shifted}
use Rattle.moves.specs.declared.Motion.{Motion}
use Rattle.moves.specs.declared.Motion.TheVariants.{Dissolve, Put}
use Rattle.text.specs.Same.{same_text}
use Rattle.trail.specs.declared.Finding.{Finding}
use Rattle.trail.specs.declared.Finding.TheVariants.{Upheld, Denied, BadFile}
use Rattle.trail.specs.Trail.{allows, moved, why_not, not_permitted, no_action_left, odd_byte, other_layout, judged, finding}
use Rattle.checker.specs.declared.Played.{Played}
use Rattle.checker.specs.declared.Turn.{Turn}
use Rattle.checker.specs.declared.Turn.TheVariants.{Deny, Into, Shift}

-- ---- what is read

-- where a place in use stands, and its name with its keys
abbrev pub parent_of : Land → ℕ → ℕ
parent_of l q = cond (l.used q) (l.place q).parent 0

abbrev pub name_of : Land → ℕ → Name
name_of l q = cond (l.used q) (l.place q).name no_name

-- the tree of these places with one agent, of number 0, that lives in home and has this one action
abbrev pub one_agent : Land → ℕ → Action → Tree
one_agent l home x = tree_from l (λ _. home) (λ _. x ∷ [])

-- of these places the set of those in use, and place b, if it is one of them
pub record Numbered (l : Land) (used : Set) (b : ℕ) (q : Place) : Type 0 where
  pub in_use : l.used ≡ member used
  pub is_place : l.used b ≡ true → l.place b ≡ q

-- of these places what a move of an agent that lives in home reads, told by the byte b: where its own place stands, the place there, and place b
pub record Seen (l : Land) (used : Set) (home around : ℕ) (p : Place) (b : ℕ) (q : Place) : Type 0 where
  pub stands : parent_of l home ≡ around
  pub name : name_of l around ≡ p.name
  pub told : Numbered l used b q

-- the elements of a table's arrays at these numbers modulo 64
abbrev pub agent_at : Cell → ℕ → Agent
agent_at t x = get_or t.agents (x % 64) no_agent

abbrev pub place_at : Cell → ℕ → Place
place_at t q = get_or t.places (q % 64) no_place

-- of a table what a move of agent x reads, told by the byte b
pub record Reads (t : Cell) (x : ℕ) (given used : Set) (a : Agent) (around : ℕ) (p : Place) (b : ℕ) (q : Place) : Type 0 where
  pub given_set : t.given ≡ given
  pub used_set : t.used ≡ used
  pub agent : agent_at t x ≡ a
  pub stands : (place_at t a.home).parent ≡ around
  pub place : place_at t around ≡ p
  pub told : place_at t b ≡ q

-- why a move is denied, by whether no action is left
abbrev pub why_if : Bool → ℕ
why_if over = cond over no_action_left not_permitted

-- by the kind of the agent's next action: 0 is that of none
abbrev pub why_kind : ℕ → ℕ
why_kind kind = why_if (eqb kind 0)

-- ---- what a move comes to

-- one that is allowed, by the kind of the action: the agent's own place goes into b, or to where the place around it stands
unfoldable pub turn_by : ℕ → ℕ → ℕ → Turn
turn_by kind beyond b = cond (eqb kind enter_kind) (Into b) (cond (eqb kind exit_kind) (Into beyond) Shift)

-- the move of agent x that the byte b tells
unfoldable pub turn_of : Tree → ℕ → ℕ → Turn
unfolding allows turn_by
turn_of t x b = cond (allows t x b) (turn_by (next_of t x).kind (t.parent (t.parent (t.home x))) b) (Deny (why_not t x))

-- ---- what is made

-- the table in which the own place of agent x, which is a, stands in d, and the agent's next action is used up
abbrev pub went_into : Cell → ℕ → Agent → ℕ → Cell
went_into t x a d = put_agents (put_places t (set t.places (a.home % 64) (with_parent (place_at t a.home) d))) (set t.agents (x % 64) (use_up a))

-- a motion of agent x, which is a
abbrev pub shifted_on : Cell → ℕ → Agent → Motion → Cell
shifted_on t x a motion = (made (shifted (cell_of t) x a motion)).cell

-- how a place moves when agent a opens or releases: one in its own is dissolved, or a new one is put
unfoldable pub motion_of : (ℕ → Bool) → Agent → Motion
motion_of used a = cond (eqb (kind_of a) open_kind) Dissolve (Put (fresh_number used))

-- the table after agent x, which is a, opens the place b or releases: it stands at its own place and has chosen b
unfoldable pub made_on : Cell → ℕ → Agent → ℕ → Cell
made_on t x a b = shifted_on t x (at_stage a 3 a.home b) (motion_of (cell_of t).land.used a)

-- what holds of the table all along: it is of the struct, its tree is formed, the rows of actions are in order
pub record Ready (t : Cell) : Type 0 where
  pub sized : Sized t
  pub formed : Formed (tree_of (cell_of t))
  pub fit : (x : ℕ) → (cell_of t).given x ≡ true → Fit ((cell_of t).agent x)

-- the move is allowed, and u is a table of the tree after it
pub record Makes (t : Cell) (x b : ℕ) (u : Cell) : Type 0 where
  pub allowed : allows (tree_of (cell_of t)) x b ≡ true
  pub tree : tree_of (cell_of u) ≡ moved (tree_of (cell_of t)) x b
  pub ready : Ready u

-- it is not, and for this reason it is denied
pub record Denies (t : Cell) (x b reason : ℕ) : Type 0 where
  pub refused : allows (tree_of (cell_of t)) x b ≡ false
  pub why : reason ≡ why_not (tree_of (cell_of t)) x

-- what becomes of the move of agent x that the byte b tells, by what it comes to
abbrev pub Comes : Cell → ℕ → ℕ → Turn → Type 0
Comes t x b (Deny reason) = Denies t x b reason
Comes t x b (Into d) = Makes t x b (went_into t x (agent_at t x) d)
Comes t x b Shift = Makes t x b (made_on t x (agent_at t x) b)

-- ---- the finding, from a loaded table

unfoldable pub finding_on : Cell → List ℕ → List ℕ → Finding
finding_on t trail text = cond (eqb (length trail % 2) 0) (judged 0 (tree_of (cell_of t)) trail text) (Denied (length trail / 2) odd_byte)

-- the finding on a whole trail, by the listing at its end
abbrev pub by_listing : Cell → ℕ → List ℕ → Finding
by_listing t made text = cond (same_text text (listing (cell_of t))) Upheld (Denied made other_layout)

-- so many moves of a trail from a loaded table: one is denied, or all are made; where they are the whole trail, the listing decides
pub record Stops (t : Cell) (trail : List ℕ) (moves : ℕ) (p : Played) : Type 0 where
  pub denied : p.reason ≢ 0 → (text : List ℕ) → Denied p.made p.reason ≡ judged 0 (tree_of (cell_of t)) trail text
  pub ended : p.reason ≡ 0 → length trail ≤ 2 * moves → (text : List ℕ) → by_listing p.cell p.made text ≡ judged 0 (tree_of (cell_of t)) trail text

-- from a file: a bad one is found bad with any trail; another gives a table, on which the finding is the file's
pub record Plays (file trail : List ℕ) (moves : ℕ) (p : Played) : Type 0 where
  pub bad : (number offset : ℕ) → p.verdict ≡ Rejected number offset → (s text : List ℕ) → BadFile number offset ≡ finding file s text
  pub good : p.verdict ≡ Accepted → (t : Cell) × (((s text : List ℕ) → finding_on t s text ≡ finding file s text) × Stops t trail moves p)

-- the finding whatever the listing
abbrev pub FoundAnyway : List ℕ → List ℕ → Finding → Type 0
FoundAnyway file trail r = (text : List ℕ) → r ≡ finding file trail text
