-- What is claimed of the finding on a cell file, a trail and a listing (document 02, W13). Definitions only; FindingsLaws proves it of every three.
use Rattle.std.specs.Prelude.{◌≡◌, ◌↔◌, ◌≢◌, false, List, [], ◌∷◌, ◌++◌, ℕ, ◌*◌, ◌/◌, ◌%◌, length}
use Rattle.table.specs.Cell.{State}
use Rattle.meaning.specs.Calculus.{Tree}
use Rattle.meaning.specs.File.{accepted, refused, load}
use Rattle.meaning.specs.Plain.{tree_of}
use Rattle.meaning.specs.TreeListing.{tree_listing}
use Rattle.trail.specs.declared.Finding.TheVariants.{Upheld, Denied, BadFile}
use Rattle.trail.specs.Trail.{allows, Follows, not_permitted, no_action_left, odd_byte, other_layout, finding}

-- "each move is one the calculus .. permits .., and the term at the end has the given listing": from tree t
pub record Leads (t : Tree) (trail text : List ℕ) : Type 0 where
  pub after : Tree
  pub follows : Follows t trail after
  pub listed : text ≡ tree_listing after

-- the same from a cell file, which is accepted
pub record LeadsFrom (file trail text : List ℕ) : Type 0 where
  pub cell : State
  pub loaded : load file ≡ accepted cell
  pub leads : Leads (tree_of cell) trail text

-- why a trail leads no further than to tree u, by what is left of it: its next move is not permitted, its next agent has no action left (or is not
-- given), or nothing is left and the listing is another
pub data Reason (u : Tree) (text : List ℕ) : List ℕ → ℕ → Type 0 where
  is_not_permitted : {a b : ℕ} {rest : List ℕ} → allows u a b ≡ false → length (u.unused a) ≢ 0 → Reason u text (a ∷ b ∷ rest) not_permitted
  no_action : {a b : ℕ} {rest : List ℕ} → allows u a b ≡ false → length (u.unused a) ≡ 0 → Reason u text (a ∷ b ∷ rest) no_action_left
  is_other_layout : text ≢ tree_listing u → Reason u text [] other_layout

-- from tree t the first moves of a trail, so many, are permitted, and for this reason it is denied there
pub record Stops (t : Tree) (trail text : List ℕ) (moves reason : ℕ) : Type 0 where
  pub made : List ℕ
  pub rest : List ℕ
  pub whole : made ++ rest ≡ trail
  pub count : length made ≡ moves * 2
  pub after : Tree
  pub follows : Follows t made after
  pub why : Reason after text rest reason

-- why an accepted file's trail is denied: "an odd last byte in the trail is a no", whatever the moves before it; else where it stops
pub data StopsFrom (file trail text : List ℕ) : ℕ → ℕ → Type 0 where
  by_odd_byte : (c : State) → load file ≡ accepted c → length trail % 2 ≡ 1 → StopsFrom file trail text (length trail / 2) odd_byte
  by_move : {moves reason : ℕ} (c : State) → load file ≡ accepted c → length trail % 2 ≡ 0 → Stops (tree_of c) trail text moves reason
      → StopsFrom file trail text moves reason

-- "It says yes exactly if ..", and else what it says
pub record SaysExactly (file trail text : List ℕ) : Type 0 where
  pub upheld : (finding file trail text ≡ Upheld) ↔ LeadsFrom file trail text
  -- "A bad file keeps its load refusal"
  pub bad_file : (number offset : ℕ) → (finding file trail text ≡ BadFile number offset) ↔ (load file ≡ refused number offset)
  -- how many moves were made and why not more
  pub denied : (moves reason : ℕ) → (finding file trail text ≡ Denied moves reason) ↔ StopsFrom file trail text moves reason
  -- of an accepted file it is a yes or a denial
  pub otherwise : (c : State) → load file ≡ accepted c → (LeadsFrom file trail text → ⊥)
      → (moves : ℕ) × ((reason : ℕ) × (finding file trail text ≡ Denied moves reason))
