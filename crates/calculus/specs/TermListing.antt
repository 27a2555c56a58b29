-- The listing of a term (document 01, "The listing", in the order of document 02, W7), of the same parts as the listing of a tree.
-- It is the listing of every term; of a term whose agents are rows of actions, as a tree's are, it is what the keeper writes.
use Rattle.std.specs.Prelude.{ℕ, cond, List, [], ◌∷◌, ◌++◌, eqb, length}
use Rattle.table.specs.Base.{tab}
use Rattle.table.specs.Cell.{enter_kind, exit_kind, open_kind, release_kind}
use Rattle.table.specs.declared.Action.{Action}
use Rattle.meaning.specs.Text.{ascii}
use Rattle.meaning.specs.Listing.{action_text, bracketed, in_order}
use Rattle.calculus.specs.Terms.{Term, amb, nil, ◌∣◌, enter, exit, «open», release}

-- the texts of a term's parts, in no order: its agents' and its places'
pub record Texts : Type 0 where
  pub agents : List (List ℕ)
  pub places : List (List ℕ)

-- the texts of agents only
abbrev pub agents_only : List (List ℕ) → Texts
agents_only l = record { agents = l; places = [] }

-- the texts of places only
abbrev pub places_only : List (List ℕ) → Texts
places_only l = record { agents = []; places = l }

-- the texts of two terms in parallel
abbrev pub together : Texts → Texts → Texts
together p q = record { agents = p.agents ++ q.agents; places = p.places ++ q.places }

-- "agents come first, then places, each group in byte order of its own text"
unfoldable pub write : Texts → List ℕ
write p = in_order p.agents p.places

-- what follows an action: a full stop and the rest, if there is any
unfoldable pub after : List ℕ → List ℕ
unfolding tab
after [] = []
after (c ∷ rest) = ascii "." ++ (c ∷ rest)

-- an action and what follows it, such as `enter 9.exit 9`
unfoldable pub prefixed : Action → List ℕ → List ℕ
unfolding action_text after
prefixed x rest = action_text x ++ after rest

-- the text of an agent with this action and what follows it
abbrev pub action_then : ℕ → ℕ → List ℕ → Texts
action_then kind n rest = agents_only (prefixed (record { kind = kind; name = n }) rest ∷ [])

-- the texts of a term's parts
unfoldable pub texts : Term → Texts
unfolding write prefixed bracketed
texts (amb n P) = places_only (bracketed n (write (texts P)) ∷ [])
texts nil = agents_only []
texts (P ∣ Q) = together (texts P) (texts Q)
texts (enter n P) = action_then enter_kind n (write (texts P))
texts (exit n P) = action_then exit_kind n (write (texts P))
texts («open» n P) = action_then open_kind n (write (texts P))
texts (release n P) = action_then release_kind n (write (texts P))

-- what is written of a term
abbrev pub written : Term → List ℕ
written P = write (texts P)

-- "An empty floor is `0`"
unfoldable pub or_zero : List ℕ → List ℕ
unfolding tab
or_zero x = cond (eqb (length x) 0) (ascii "0") x

-- the listing of a term
unfoldable pub listed : Term → List ℕ
unfolding or_zero texts write
listed P = or_zero (written P)
