-- The cell of a tree that fits has the tree's term, up to equivalence (document 02, W8): `layout_term`.
-- Idea: the cell shows the tree, contents that are shown add their term, and past the numbers that were given there is nothing.
use Rattle.std.specs.Prelude.{◌≡◌, ◌≢◌, ◌⊎◌, Bool, [], ℕ, zero, suc, ◌≤◌, ◌<◌, eqb}
use Rattle.std.proofs.Math.Path.{refl}
use Rattle.std.proofs.Common.{sym, ap, inl, inr, arith}
use Rattle.std.proofs.Math.Bool.{true, false, cond}
use Rattle.table.proofs.BaseLaws.{clash, eq?}
use Rattle.meaning.specs.Calculus.{Tree}
use Rattle.meaning.specs.Plain.{tree_of}
use Rattle.calculus.specs.Formed.{Formed}
use Rattle.calculus.specs.Terms.{Term, nil, ◌∣◌, ◌≅◌, struct_par, struct_par_zero}
use Rattle.calculus.proofs.TermLaws.{◌⨾◌, of_path, zero_par, pars, struct_par_right}
use Rattle.calculus.specs.TermOf.{row, parallel, agent_at, place_at, level, held, term}
use Rattle.calculus.proofs.Depth.{unfolds}
use Rattle.calculus.proofs.Contents.{place_not}
use Rattle.demands.proofs.LoadingLaws.{fresh_inv}
use Rattle.demands.proofs.AgreesLaws.{tree_formed}
use Rattle.language.specs.Grammar.{Contents}
use Rattle.language.specs.Layout.{fits, Laid, lay, bare_laid, layout}
use Rattle.language.proofs.Sites.{Later, laid}
use Rattle.typed.proofs.Numbered.{Numbered, Ready, numbered, bare_ready}
use Rattle.typed.specs.TermTyped.{term_typed}
use Rattle.typed.proofs.Shows.{Shows}
use Rattle.typed.proofs.Gathered.{sofar, gathered}
use Rattle.typed.proofs.Shown.{shown}

-- terms from n on that are nothing add nothing
parallel_rest : (f : ℕ → Term) (n m : ℕ) → n ≤ m → ((i : ℕ) → n ≤ i → f i ≡ nil) → parallel f m ≅ parallel f n
unfolding parallel
parallel_rest f n zero l h = of_path (ap (parallel f) (let z : 0 ≡ n = omega arith in z))
parallel_rest f n (suc m) l h = go (eq? n (suc m)) (λ k. parallel_rest f n m k h)
  where
    go : (n ≡ suc m) ⊎ (n ≢ suc m) → (n ≤ m → parallel f m ≅ parallel f n) → f m ∣ parallel f m ≅ parallel f n
    go (inl e) r = of_path (ap (parallel f) (sym e))
    go (inr d) r = struct_par (of_path (h m (omega arith))) ⨾ zero_par ⨾ r (omega arith)

-- a tree of places to n and agents below a
record Counted (t : Tree) (n a : ℕ) : Type 0 where
  formed : Formed t
  places : n < 64
  agents : a ≤ 64
  used : (q : ℕ) → q ≤ n → t.used q ≡ true
  unused : (q : ℕ) → n < q → t.used q ≡ false
  without : (x : ℕ) → a ≤ x → t.unused x ≡ []

module _ (t : Tree) (n a : ℕ) (w : Counted t n a) where
  -- past the last agent there is none
  no_agent_lem : (p x : ℕ) → a ≤ x → agent_at t p x ≡ nil
  unfolding agent_at row
  no_agent_lem p x l = rw (w.without x l) (go (eqb (t.home x) p))
    where
      go : (b : Bool) → cond b nil nil ≡ nil
      go true = refl
      go false = refl

  -- nor a place past the last
  no_place_lem : (p q : ℕ) → n < q → place_at t (held t) p q ≡ nil
  no_place_lem p q l = place_not t (held t) p q (λ i. clash i.used (w.unused q l))

  -- so what a place holds is what it holds among these
  held_sofar : (p : ℕ) → p ≤ n → held t p ≅ sofar t p n a
  unfolding sofar level
  held_sofar p l = of_path (unfolds t w.formed p (w.used p l))
      ⨾ pars (parallel_rest (agent_at t p) a 64 w.agents (no_agent_lem p))
      (parallel_rest (place_at t (held t) p) (suc n) 64 w.places (λ q m. no_place_lem p q m))

-- nothing stands so far
start : (t : Tree) → (p : ℕ) → sofar t p 0 0 ≅ nil
unfolding sofar parallel
start t p = zero_par ⨾ struct_par (of_path (place_not t (held t) p 0 (λ i. i.placed refl))) ⨾ zero_par

-- ---- the theorem

module _ (c : Contents) (f : fits c ≡ true) where
  -- the tree, laid
  abbrev last : Laid
  last = lay 0 c bare_laid

  -- it can be laid
  ready : Ready 0 c bare_laid
  ready = bare_ready c f

  -- and is numbered
  final : Numbered last
  final = numbered c bare_laid 0 ready

  -- with as many places and agents as it has
  after : Later 0 c bare_laid
  after = laid c bare_laid 0 ready.unbegun ready.fits

  -- so has its tree of places
  counted : Counted (tree_of last.cell) last.places last.agents
  unfolding tree_of
  counted = record {
    formed = tree_formed last.cell (fresh_inv last.cell final.fresh).sound;
    places = final.fresh.places.small last.places (final.used last.places (omega arith));
    agents = omega (arith, after.agents, ready.fits.agents);
    used = final.used;
    unused = final.unused;
    without = λ x l. rw (final.ungiven x l);
  }

  -- which shows it
  shows : Shows (tree_of last.cell) 0 c 0 0 last.places last.agents
  unfolding bare_laid
  shows = shown last.cell c bare_laid 0 ready (record { place = λ q h. refl; used = λ q h. refl; agent = λ x h. refl; given = λ x h. refl })

  -- and has its term
  pub layout_term : term (tree_of (layout c)) ≅ term_typed c
  unfolding layout term
  layout_term =
      held_sofar t last.places last.agents counted 0 (omega arith)
      ⨾ gathered t shows (omega arith) (λ x l. start t x) (λ x l h. held_sofar t last.places last.agents counted x h)
      ⨾ struct_par_right (start t 0) ⨾ struct_par_zero
    where
      t : Tree
      t = tree_of last.cell
