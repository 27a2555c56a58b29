-- What a place holds among the numbers so far, and that contents which a tree shows add their term to it.
-- Idea: contents of one place add nothing to any other that is not among them (`apart`); so what a place holds when its bracket closes is all
-- it holds.
use Rattle.std.specs.Prelude.{◌≡◌, ◌≢◌, ℕ, suc, ◌+◌, ◌≤◌, ◌<◌}
use Rattle.std.proofs.Common.{sym, ◌∙◌, arith, add-one}
use Rattle.std.proofs.Math.Path.{ap}
use Rattle.meaning.specs.Calculus.{Tree}
use Rattle.calculus.proofs.MoveCases.{Stands}
use Rattle.calculus.specs.Terms.{Term, amb, nil, ◌∣◌, ◌≅◌, struct_refl, struct_symm, struct_par_zero, struct_par_assoc, struct_par, struct_amb}
use Rattle.calculus.proofs.TermLaws.{◌⨾◌, of_path, zero_par, swap, struct_par_right}
use Rattle.calculus.specs.TermOf.{row, parallel, agent_at, place_at, held}
use Rattle.calculus.proofs.Contents.{agent_is, agent_not, place_is, place_not}
use Rattle.language.specs.Grammar.{Contents}
use Rattle.typed.specs.TermTyped.{agent_term, term_typed}
use Rattle.typed.proofs.Shows.{Shows, shows_nothing, shows_agent, shows_place, shows_on}

module _ (t : Tree) where
  -- what place p holds among agents below a and places to n
  unfoldable pub sofar : ℕ → ℕ → ℕ → Term
  sofar p n a = parallel (agent_at t p) a ∣ parallel (place_at t (held t) p) (suc n)

  -- one agent more
  more_agent : (p n a : ℕ) → sofar p n (a + 1) ≅ agent_at t p a ∣ sofar p n a
  unfolding sofar parallel
  more_agent p n a = of_path (ap (λ k. parallel (agent_at t p) k ∣ parallel (place_at t (held t) p) (suc n)) (add-one a)) ⨾ struct_par_assoc

  -- one place more
  more_place : (p n a : ℕ) → sofar p (n + 1) a ≅ place_at t (held t) p (n + 1) ∣ sofar p n a
  unfolding sofar parallel
  more_place p n a =
      of_path (ap (λ k. parallel (agent_at t p) a ∣ (place_at t (held t) p (n + 1) ∣ parallel (place_at t (held t) p) k)) (add-one n)) ⨾ swap

  -- an agent elsewhere adds nothing
  other_agent : (p n a q : ℕ) → t.home a ≡ q → q ≢ p → sofar p n (a + 1) ≅ sofar p n a
  other_agent p n a q e d = more_agent p n a ⨾ struct_par (of_path (agent_not t p a (λ f. d (sym e ∙ f)))) ⨾ zero_par

  -- nor does a place
  other_place : (p n a q : ℕ) → Stands t (n + 1) q → q ≢ p → sofar p (n + 1) a ≅ sofar p n a
  other_place p n a q i d =
      more_place p n a ⨾ struct_par (of_path (place_not t (held t) p (n + 1) (λ j. d (sym i.parent ∙ j.parent)))) ⨾ zero_par

  -- nor do contents of another place q, where p is not among them
  apart : {q n a m b : ℕ} {c : Contents} (p : ℕ) → Shows t q c n a m b → q ≢ p → ((k : ℕ) → n < k → k ≤ m → k ≢ p) → sofar p m b ≅ sofar p n a
  apart p shows_nothing d f = struct_refl
  apart {q} {n} {a} p (shows_agent e u s) d f = apart p s d f ⨾ other_agent p n a q e d
  apart {q} {n} {a} p (shows_place i w s r) d f =
      let g = shows_on s in
      let h = shows_on r in
      apart p r d (λ k l j. f k (omega arith) (omega arith))
      ⨾ apart p s (f (n + 1) (omega arith) (omega arith)) (λ k l j. f k (omega arith) (omega arith))
      ⨾ other_place p n a q i d

  -- new numbers hold nothing yet
  abbrev pub Empty : ℕ → ℕ → Type 0
  Empty n a = (x : ℕ) → n < x → sofar x n a ≅ nil

  -- the numbers from n to m hold nothing that comes later
  abbrev pub Closed : ℕ → ℕ → ℕ → Type 0
  Closed n m b = (x : ℕ) → n < x → x ≤ m → held t x ≅ sofar x m b

  -- contents that are shown add their term
  pub gathered : {p n a m b : ℕ} {c : Contents} → Shows t p c n a m b → p ≤ n → Empty n a → Closed n m b → sofar p m b ≅ term_typed c ∣ sofar p n a
  unfolding term_typed agent_term
  gathered shows_nothing l o z = struct_symm zero_par
  gathered {p} {n} {a} (shows_agent {r = r} e u s) l o z =
      gathered s l (λ x j. other_agent x n a p e (λ f. omega arith) ⨾ o x j) z
      ⨾ struct_par_right (more_agent p n a ⨾ struct_par (of_path (agent_is t p a e ∙ ap row u)))
      ⨾ swap ⨾ struct_symm struct_par_assoc
  gathered {p} {n} {a} {m} {b} (shows_place {k = k} {d = d} {h = w} {c = c} {e = e} i v s r) l o z =
      gathered r (omega (arith, on)) (λ x j. apart x s (λ f. omega (arith, on)) (λ y f g. (λ q. omega (arith, on))) ⨾ empty x (omega (arith, on)))
      (λ x j f. z x (omega (arith, on)) f)
      ⨾ struct_par_right (apart p s (λ f. omega arith) (λ y f g. (λ q. omega arith)) ⨾ more_place p n a
      ⨾ struct_par (of_path (place_is t (held t) p (n + 1) i ∙ ap (λ x. amb x (held t (n + 1))) v) ⨾ struct_amb
      (inside (gathered s (omega arith) empty (λ x j f. closed x (omega arith) f)))))
      ⨾ swap ⨾ struct_symm struct_par_assoc
    where
      on : n + 1 ≤ k
      on = shows_on s

      over : k ≤ m
      over = shows_on r

      empty : (x : ℕ) → n + 1 < x → sofar x (n + 1) a ≅ nil
      empty x j = other_place x n a p i (λ f. omega arith) ⨾ o x (omega arith)

      closed : (x : ℕ) → n < x → x ≤ k → held t x ≅ sofar x k d
      closed x j f = z x j (omega (arith, over)) ⨾ apart x r (λ q. omega arith) (λ y g h. (λ q. omega arith))

      inside : sofar (n + 1) k d ≅ term_typed c ∣ sofar (n + 1) (n + 1) a → held t (n + 1) ≅ term_typed c
      inside g = closed (n + 1) (omega arith) on ⨾ g
          ⨾ struct_par_right (other_place (n + 1) n a p i (λ f. omega arith) ⨾ o (n + 1) (omega arith)) ⨾ struct_par_zero
