-- The term of a row of actions is one agent, written as the row is.
use Rattle.std.specs.Prelude.{◌≡◌, refl, List, [], ◌∷◌, ℕ}
use Rattle.std.proofs.Common.{ap, ◌∙◌}
use Rattle.table.specs.Base.{tab}
use Rattle.table.proofs.KindLaws.{IsKind, enters, exits, opens, releases}
use Rattle.table.specs.declared.Action.{Action}
use Rattle.meaning.specs.Text.{gap, joined_all}
use Rattle.meaning.specs.Sorted.{insert, sorted}
use Rattle.meaning.proofs.SortedLaws.{Text}
use Rattle.meaning.specs.Listing.{in_order}
use Rattle.meaning.specs.Every.{every_none, every_more, Every}
use Rattle.calculus.specs.Terms.{Term}
use Rattle.calculus.specs.TermOf.{prefix, row}
use Rattle.calculus.specs.TermListing.{agents_only, write, prefixed, action_then, texts, written}
use Rattle.calculus.proofs.TermParts.{agent_parts, place_parts, part_text}
use Rattle.calculus.proofs.RowTexts.{Fine, fine_kind, actions_text}

-- one agent and nothing else is written as it is
lone_written : (x : Text) → write (agents_only (x ∷ [])) ≡ x
unfolding write in_order sorted insert joined_all gap tab
lone_written x = refl

-- nothing is written as nothing
none_written : write (agents_only []) ≡ []
unfolding write in_order sorted joined_all tab
none_written = refl

-- ---- an action before a term

-- it is an agent, which begins with the action
prefix_texts : {k : ℕ} → IsKind k → (n : ℕ) (P : Term) → texts (prefix k n P) ≡ action_then k n (written P)
unfolding prefix texts
prefix_texts enters n P = refl
prefix_texts exits n P = refl
prefix_texts opens n P = refl
prefix_texts releases n P = refl

-- a term that is one agent and nothing else
record OneAgent (P : Term) : Type 0 where
  agents : agent_parts P ≡ P ∷ []
  places : place_parts P ≡ []

-- an action before a term is one
prefix_agent : {k : ℕ} → IsKind k → (n : ℕ) (P : Term) → OneAgent (prefix k n P)
unfolding prefix agent_parts place_parts
prefix_agent enters n P = record { agents = refl; places = refl }
prefix_agent exits n P = record { agents = refl; places = refl }
prefix_agent opens n P = record { agents = refl; places = refl }
prefix_agent releases n P = record { agents = refl; places = refl }

-- with the action in front of its text
prefix_text : {k : ℕ} → IsKind k → (n : ℕ) (P : Term) → part_text (prefix k n P) ≡ prefixed (record { kind = k; name = n }) (written P)
unfolding prefix part_text
prefix_text enters n P = refl
prefix_text exits n P = refl
prefix_text opens n P = refl
prefix_text releases n P = refl

-- ---- a row

-- its term is written as the row is
row_written : {l : List Action} → Every Fine l → written (row l) ≡ actions_text l
unfolding row actions_text texts
row_written every_none = none_written
row_written (every_more {x} {rest} f e) =
    ap write (prefix_texts (fine_kind f) x.name (row rest)) ∙ lone_written (prefixed x (written (row rest))) ∙ ap (prefixed x) (row_written e)

-- the text of a row with actions, and nothing for one without
unfoldable pub row_texts : List Action → List Text
row_texts [] = []
row_texts (x ∷ rest) = actions_text (x ∷ rest) ∷ []

-- they are the texts of its term
pub row_texts_lem : {l : List Action} → Every Fine l → texts (row l) ≡ agents_only (row_texts l)
unfolding row actions_text row_texts texts
row_texts_lem every_none = refl
row_texts_lem (every_more {x} {rest} f e) = prefix_texts (fine_kind f) x.name (row rest) ∙ ap (λ s. agents_only (prefixed x s ∷ [])) (row_written e)

-- with actions it is one part
pub row_text : {x : Action} {l : List Action} → Every Fine (x ∷ l) → part_text (row (x ∷ l)) ≡ actions_text (x ∷ l)
unfolding row actions_text
row_text (every_more {x} {rest} f e) = prefix_text (fine_kind f) x.name (row rest) ∙ ap (prefixed x) (row_written e)

-- what is so of a row with actions is so of its agents and places
pub row_parts : {K : Term → Type 0} {l : List Action} → Every Fine l → ((x : Action) (rest : List Action) → Every Fine (x ∷ rest) → K (row (x ∷ rest)))
    → Every K (agent_parts (row l)) × Every K (place_parts (row l))
unfolding row agent_parts place_parts
row_parts every_none h = (every_none, every_none)
row_parts (every_more {x} {rest} f e) h = let z = prefix_agent (fine_kind f) x.name (row rest) in
    (rw z.agents (every_more (h x rest (every_more f e)) every_none), rw z.places every_none)
