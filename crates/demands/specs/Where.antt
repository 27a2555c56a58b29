-- What is claimed of the two questions where a place is (document 02, W10), in words of a tree. Definitions only; no walk plays a part in them.
use Rattle.std.specs.Prelude.{◌≡◌, ◌≢◌, ◌⊎◌, ◌↔◌, true, ℕ}
use Rattle.table.specs.declared.Cell.{Cell}
use Rattle.meaning.specs.Answers.{Found, At, Nowhere}
use Rattle.meaning.specs.Calculus.{Tree}
use Rattle.meaning.specs.Where.{nearest_of, common_of}

-- ---- what is asked for; up says where each place stands

-- p encloses q: q stands in p, or in a place that p encloses; nothing encloses the floor
pub data Encloses (up : ℕ → ℕ) (p : ℕ) : ℕ → Type 0 where
  around : {q : ℕ} → q ≢ 0 → up q ≡ p → Encloses up p q
  further : {q : ℕ} → q ≢ 0 → Encloses up p (up q) → Encloses up p q

-- p "holds or is" q
abbrev pub HoldsOrIs : (ℕ → ℕ) → ℕ → ℕ → Type 0
HoldsOrIs up p q = (q ≡ p) ⊎ Encloses up p q

-- "the nearest enclosing place of a given name, the place itself not counted": p, if every enclosing place of that name holds or is p
pub record Nearest (up name : ℕ → ℕ) (q n p : ℕ) : Type 0 where
  pub encloses : Encloses up p q
  pub named : name p ≡ n
  pub innermost : (r : ℕ) → Encloses up r q → name r ≡ n → HoldsOrIs up r p

-- "the innermost place that holds or is both of two given places": p, if every place that holds or is both holds or is p
pub record Common (up : ℕ → ℕ) (q r p : ℕ) : Type 0 where
  pub one : HoldsOrIs up p q
  pub other : HoldsOrIs up p r
  pub innermost : (s : ℕ) → HoldsOrIs up s q → HoldsOrIs up s r → HoldsOrIs up s p

-- ---- what is answered

-- the nearest one is answered, whichever it is; "The first answers none exactly if no enclosing place has that name"
pub record NearestExact (up name : ℕ → ℕ) (q n : ℕ) (answer : Found) : Type 0 where
  pub found : (p : ℕ) → (answer ≡ At p) ↔ Nearest up name q n p
  pub nowhere : (answer ≡ Nowhere) ↔ ((p : ℕ) → Encloses up p q → name p ≢ n)

-- the innermost one is answered, whichever it is; "The second always has an answer, the floor if nothing deeper"
pub record CommonExact (up : ℕ → ℕ) (q r : ℕ) (answer : Found) : Type 0 where
  pub found : (p : ℕ) → (answer ≡ At p) ↔ Common up q r p
  pub place : ℕ
  pub always : answer ≡ At place
  pub floor : ((p : ℕ) → HoldsOrIs up p q → HoldsOrIs up p r → p ≡ 0) → answer ≡ At 0

-- ---- the claim

-- the names of a tree's places, without their keys
abbrev pub names_in : Tree → ℕ → ℕ
names_in u p = (u.name p).name

-- the answers that a table gives are those of a tree, for all places that are in use in it
pub record WhereExact (t : Cell) (u : Tree) : Type 0 where
  pub nearest : (q n : ℕ) → u.used q ≡ true → NearestExact u.parent (names_in u) q n (nearest_of t q n)
  pub common : (q r : ℕ) → u.used q ≡ true → u.used r ≡ true → CommonExact u.parent q r (common_of t q r)
