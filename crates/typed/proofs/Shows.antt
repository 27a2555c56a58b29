-- A tree of places shows contents at a place: each agent and each place of the contents has the next number, stands where it is typed, and has
-- the name and keys, or the actions, that are typed.
use Rattle.std.specs.Prelude.{◌≡◌, ◌∷◌, ℕ, ◌+◌, ◌≤◌}
use Rattle.std.proofs.Common.{arith}
use Rattle.meaning.specs.Calculus.{Tree}
use Rattle.calculus.proofs.MoveCases.{Stands}
use Rattle.language.specs.Grammar.{TypedAgent, TypedName, Contents, nothing, agent, place, name_of}
use Rattle.typed.specs.TermTyped.{actions_of}

-- in place p, with places to n and agents below a before, and places to m and agents below b after
pub data Shows (t : Tree) : ℕ → Contents → ℕ → ℕ → ℕ → ℕ → Type 0 where
  shows_nothing : {p n a : ℕ} → Shows t p nothing n a n a
  shows_agent : {p n a m b : ℕ} {r : TypedAgent} {c : Contents} → t.home a ≡ p → t.unused a ≡ actions_of (r.first ∷ r.further)
      → Shows t p c n (a + 1) m b → Shows t p (agent r c) n a m b
  shows_place : {p n a k d m b : ℕ} {h : TypedName} {c e : Contents} → Stands t (n + 1) p → t.name (n + 1) ≡ name_of h
      → Shows t (n + 1) c (n + 1) a k d → Shows t p e k d m b → Shows t p (place h c e) n a m b

-- numbers only grow
pub shows_on : {t : Tree} {p n a m b : ℕ} {c : Contents} → Shows t p c n a m b → n ≤ m
shows_on shows_nothing = omega arith
shows_on (shows_agent e u s) = shows_on s
shows_on (shows_place i w s r) = omega (arith, shows_on s, shows_on r)
