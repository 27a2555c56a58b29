-- The listing of a tree (document 01, "The listing"), of the same parts as the listing of a cell: no lock, stage or remembered place is in it.
use Rattle.std.specs.Prelude.{ℕ, zero, suc, Bool, ◌&&◌, cond, List, [], ◌∷◌, ltb, eqb, length}
use Rattle.table.specs.Base.{tab}
use Rattle.table.specs.declared.Action.{Action}
use Rattle.meaning.specs.Text.{ascii, gap, joined}
use Rattle.meaning.specs.Calculus.{Tree}
use Rattle.meaning.specs.Listing.{action_text, texts_of, stands_under, bracketed, in_order}

-- "An agent is its unused actions, such as `enter 9.exit 9`": a text so far, and a row of actions after it
unfoldable pub row_text : List ℕ → List Action → List ℕ
unfolding action_text gap tab
row_text s [] = s
row_text s (x ∷ row) = row_text (joined (ascii ".") s (action_text x)) row

-- agent x has unused actions and lives in p
unfoldable pub acts_in : Tree → ℕ → ℕ → Bool
acts_in t x p = ltb 0 (length (t.unused x)) && eqb (t.home x) p

-- the texts of the agents with unused actions that live in p
unfoldable pub tree_agents : Tree → ℕ → List (List ℕ)
unfolding acts_in row_text
tree_agents t p = texts_of (λ x. acts_in t x p) (λ x. row_text [] (t.unused x)) 64

-- the texts of the places that stand in p, where text tells the contents of each
unfoldable pub tree_places : Tree → ℕ → (ℕ → List ℕ) → List (List ℕ)
unfolding stands_under bracketed
tree_places t p text = texts_of (λ q. stands_under (t.used q) q (t.parent q) p) (λ q. bracketed (t.name q) (text q)) 64

-- the contents of p, so many levels deep
unfoldable pub tree_contents : ℕ → Tree → ℕ → List ℕ
unfolding tree_agents tree_places in_order
tree_contents zero t p = []
tree_contents (suc depth) t p = in_order (tree_agents t p) (tree_places t p (tree_contents depth t))

-- "An empty floor is `0`"
unfoldable pub tree_listing : Tree → List ℕ
unfolding tree_contents tab
tree_listing t = cond (eqb (length (tree_contents 65 t 0)) 0) (ascii "0") (tree_contents 65 t 0)
