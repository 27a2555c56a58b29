-- The term of a tree of places: each place an ambient with its name and keys, each agent the row of its unused actions, all that a place
-- holds side by side.
use Rattle.std.specs.Prelude.{ℕ, zero, suc, cond, List, [], ◌∷◌, eqb}
use Rattle.table.specs.declared.Action.{Action}
use Rattle.meaning.specs.Calculus.{Tree, stands_at}
use Rattle.calculus.specs.Terms.{Term, amb, nil, ◌∣◌, enter, exit, «open», release}

-- an action before a term: "a kind (1 enter, 2 exit, 3 open) and a name", and 4 release (document 02, W11); a formed tree has no other kind
unfoldable pub prefix : ℕ → ℕ → Term → Term
prefix zero n P = P
prefix (suc zero) n P = enter n P
prefix (suc (suc zero)) n P = exit n P
prefix (suc (suc (suc zero))) n P = «open» n P
prefix (suc (suc (suc (suc k)))) n P = release n P

-- an agent: its actions one after the other, ending in 0
unfoldable pub row : List Action → Term
row [] = nil
row (x ∷ rest) = prefix x.kind x.name (row rest)

-- f 0, .., f (n - 1) in parallel
unfoldable pub parallel : (ℕ → Term) → ℕ → Term
parallel f zero = nil
parallel f (suc n) = f n ∣ parallel f n

-- what agent x adds to place p: its unused actions, if it lives there
unfoldable pub agent_at : Tree → ℕ → ℕ → Term
agent_at t p x = cond (eqb (t.home x) p) (row (t.unused x)) nil

-- what place q adds to place p: the ambient of its name and keys around what it holds, g q, if it stands there
unfoldable pub place_at : Tree → (ℕ → Term) → ℕ → ℕ → Term
place_at t g p q = cond (stands_at t q p) (amb (t.name q) (g q)) nil

-- what place p holds: its agents and its places, where g says what each place holds
unfoldable pub level : Tree → (ℕ → Term) → ℕ → Term
level t g p = parallel (agent_at t p) 64 ∣ parallel (place_at t g p) 64

-- what place p holds, so many levels deep
unfoldable pub contents : Tree → ℕ → ℕ → Term
contents t zero p = nil
contents t (suc k) p = level t (contents t k) p

-- what place p holds; 64 levels are all there are
abbrev pub held : Tree → ℕ → Term
held t p = contents t 64 p

-- the term of a tree: what the floor holds
unfoldable pub term : Tree → Term
term t = held t 0
