-- The two questions where a place is (document 02, W10) are answered exactly: of every sound table, in words of its tree, and after every accepted load
-- and every list of calls in words of the plain tree.
-- Idea: a walk outwards meets the first place that passes; on a tree no place encloses itself, so there is one nearest and one innermost place.
use Rattle.std.specs.Prelude.{◌≡◌, refl, ◌≢◌, Bool, ◌&&◌, List, ℕ, ◌<◌, ltb}
use Rattle.std.proofs.Common.{sym, ap, ◌∙◌, inl, inr, arith}
use Rattle.std.proofs.Math.Path.{subst}
use Rattle.std.proofs.Math.Bool.{true}
use Rattle.std.proofs.Math.Dec.{eqb}
use borrow.Author.Tests.{eqb-true, eqb-false, eq-eqb, ne_eqb, ltb-true, lt-ltb}
use Rattle.table.specs.Base.{iter}
use Rattle.table.proofs.BaseLaws.{Told, yea, nay, told, clash, and_left, and_right}
use Rattle.table.specs.Bounds.{Sized}
use Rattle.table.specs.Cell.{State, none, cell_of}
use Rattle.table.proofs.CellLaws.{bounded}
use Rattle.table.specs.Sound.{sound}
use Rattle.table.specs.declared.Cell.{Cell}
use Rattle.table.specs.declared.Name.{Name}
use Rattle.meaning.specs.Answers.{At, Nowhere}
use Rattle.meaning.specs.File.{load, accepted}
use Rattle.meaning.specs.Run.{Call}
use Rattle.meaning.specs.Calculus.{Tree}
use Rattle.meaning.specs.Plain.{tree_of}
use Rattle.meaning.specs.Where.{most_outwards, outwards, nearest, holds, common, parent_of, place_name, found_place, nearest_of, common_of}
use Rattle.meaning.proofs.WhereLaws.{nearest_used, common_used}
use Rattle.calculus.proofs.Up.{iter_out, acyclic, sixty_three}
use Rattle.calculus.specs.Formed.{Formed}
use Rattle.demands.proofs.SoundTest.{sound_true, sound_bounded}
use Rattle.demands.specs.Fresh.{Fresh}
use Rattle.demands.proofs.LoadingFile.{accepted_fresh}
use Rattle.demands.specs.AfterCalls.{EqualsPlain, reached, plain_after}
use Rattle.demands.proofs.DemandThree.{equals_tree, reached_sized, reached_inv, reached_tree}
use Rattle.demands.proofs.AgreesLaws.{tree_formed}
use Rattle.demands.proofs.RefusedLaws.{never}
use Rattle.demands.specs.Where.{Encloses, around, further, HoldsOrIs, Nearest, Common, NearestExact, CommonExact, names_in, WhereExact}
use Rattle.demands.proofs.OutwardsLaws.{First, first, nobody, out, inside, off_floor, beyond, steps, floor_holds, outwards_first, nearest_same, common_same}

-- a place below 64 is told as it was found
found_below : (p : ℕ) → p < 64 → found_place p ≡ At p
found_below p l = rw (ne_eqb p none (λ e. omega (arith, l)))

-- ---- on a tree

module _ (u : Tree) (w : Formed u) where
  abbrev up : ℕ → ℕ
  up = u.parent

  -- from every place in use the floor is reached in 64 steps
  leads : (q : ℕ) → u.used q ≡ true → iter up 64 q ≡ 0
  leads q k = iter_out up 63 q
      ∙ ap up (sixty_three up w.floor_parent (λ p _. w.small (up p) (w.parent_used p)) (w.small q k) (w.tree q))
      ∙ w.floor_parent

  -- what encloses a place is in use, and so is what holds or is one that is in use
  around_used : {p q : ℕ} → Encloses up p q → u.used p ≡ true
  around_used (around {q} z e) = subst (λ (p : ℕ). u.used p ≡ true) e (w.parent_used q)
  around_used (further z i) = around_used i

  held_used : {p q : ℕ} → u.used q ≡ true → HoldsOrIs up p q → u.used p ≡ true
  held_used k (inl e) = subst (λ (p : ℕ). u.used p ≡ true) e k
  held_used k (inr i) = around_used i

  -- ---- the nearest of a name

  -- the first of that name, from where q stands outwards, is the nearest
  nearest_is : {name : ℕ → ℕ} {q n p : ℕ} → q ≢ 0 → HoldsOrIs up p (up q) → name p ≡ n
      → ((r : ℕ) → HoldsOrIs up r (up q) → eqb (name r) n ≡ true → HoldsOrIs up r p) → Nearest up name q n p
  nearest_is {name} {q} {n} z h e near = record { encloses = out up z h; named = e; innermost = λ r i m. near r (inside up i) (eq-eqb (name r) n m) }

  -- ---- the innermost of both

  -- the test of holding or being r
  holds_true : (p r : ℕ) → u.used r ≡ true → HoldsOrIs up p r → holds up p r ≡ true
  unfolding holds
  holds_true p r k h = go (outwards_first up 64 (λ s. eqb s p) r (leads r k))
    where
      go : {x : ℕ} → First up (λ s. eqb s p) r x → eqb x p ≡ true
      go (first s i m near) = m
      go (nobody f) = clash (eq-eqb p p refl) (f p h)

  true_holds : (p r : ℕ) → u.used r ≡ true → p < 64 → holds up p r ≡ true → HoldsOrIs up p r
  unfolding holds
  true_holds p r k l e = go (outwards_first up 64 (λ s. eqb s p) r (leads r k)) e
    where
      go : {x : ℕ} → First up (λ s. eqb s p) r x → eqb x p ≡ true → HoldsOrIs up p r
      go (first s i m near) e = subst (λ (x : ℕ). HoldsOrIs up x r) (eqb-true s p e) i
      go (nobody f) e = let z : 64 ≡ p = eqb-true 64 p e in absurd (omega (arith, l, z))

  -- the test by which the walk from q stops
  abbrev stops : ℕ → ℕ → Bool
  stops r p = ltb p 64 && holds up p r

  stops_true : (p r : ℕ) → u.used r ≡ true → HoldsOrIs up p r → stops r p ≡ true
  stops_true p r k h = rw (lt-ltb p 64 (w.small p (held_used k h)), holds_true p r k h)

  -- the first from q outwards that passes it is the innermost
  common_is : (q r : ℕ) → u.used q ≡ true → u.used r ≡ true → Common up q r (common up q r)
  unfolding common
  common_is q r k l = go (outwards_first up 64 (stops r) q (leads q k))
    where
      go : {x : ℕ} → First up (stops r) q x → Common up q r x
      go (first p h e near) = record {
        one = h;
        other = true_holds p r l (ltb-true p 64 (and_left (ltb p 64) (holds up p r) e)) (and_right (ltb p 64) (holds up p r) e);
        innermost = λ s i j. near s i (stops_true s r l j);
      }
      go (nobody f) = clash (stops_true 0 r l (floor_holds up 64 r (leads r l))) (f 0 (floor_holds up 64 q (leads q k)))

  -- ---- one nearest and one innermost place

  -- no place encloses itself
  not_itself : {q : ℕ} → Encloses up q q → ⊥
  not_itself {q} i = let m = steps up i in off_floor up i (acyclic up w.floor_parent (w.tree q) m.0 m.1)

  -- two places that hold or are each other are one
  same_place : {p r : ℕ} → HoldsOrIs up p r → HoldsOrIs up r p → p ≡ r
  same_place (inl e) _ = sym e
  same_place (inr i) (inl e) = e
  same_place (inr i) (inr j) = absurd (not_itself (beyond up i j))

  pub nearest_one : {name : ℕ → ℕ} {q n p r : ℕ} → Nearest up name q n p → Nearest up name q n r → p ≡ r
  nearest_one {name} {q} {n} {p} {r} a b = same_place (b.innermost p a.encloses a.named) (a.innermost r b.encloses b.named)

  pub common_one : {q r p s : ℕ} → Common up q r p → Common up q r s → p ≡ s
  common_one {q} {r} {p} {s} a b = same_place (b.innermost p a.one a.other) (a.innermost s b.one b.other)

  -- ---- the answers

  module _ (name : ℕ → ℕ) (q n : ℕ) where
    -- an answer that says which place it is, and one that says that there is none
    at_nearest : (p : ℕ) → Nearest up name q n p → NearestExact up name q n (At p)
    at_nearest p a = record { found = λ r. (to r, λ b. ap At (nearest_one a b)); nowhere = (λ e. never (cc), λ f. absurd (f p a.encloses a.named)) }
      where
        to : (r : ℕ) → At p ≡ At r → Nearest up name q n r
        to r e = let z : p ≡ r = cc in subst (Nearest up name q n) z a

    at_nowhere : ((p : ℕ) → Encloses up p q → name p ≢ n) → NearestExact up name q n Nowhere
    at_nowhere f = record { found = λ r. (to r, λ b. absurd (f r b.encloses b.named)); nowhere = (λ _. f, λ _. refl) }
      where
        to : (r : ℕ) → Nowhere ≡ At r → Nearest up name q n r
        to r e = never (cc)

    at_found : (p : ℕ) → Nearest up name q n p → NearestExact up name q n (found_place p)
    at_found p a = subst (NearestExact up name q n) (sym (found_below p (w.small p (around_used a.encloses)))) (at_nearest p a)

    nearest_found : NearestExact up name q n (found_place (nearest up name q n))
    unfolding nearest
    nearest_found = go (told (eqb q 0)) (outwards_first up 64 (λ p. eqb (name p) n) (up q) (leads (up q) (w.parent_used q)))
      where
        met : q ≢ 0 → {x : ℕ} → First up (λ p. eqb (name p) n) (up q) x → NearestExact up name q n (found_place x)
        met z (first p h m near) = at_found p (nearest_is z h (eqb-true (name p) n m) near)
        met z (nobody f) = at_nowhere (λ p i e. clash (eq-eqb (name p) n e) (f p (inside up i)))

        go : Told (eqb q 0) → First up (λ p. eqb (name p) n) (up q) (outwards most_outwards up (λ p. eqb (name p) n) (up q))
            → NearestExact up name q n (found_place (nearest up name q n))
        go (yea z) _ = rw z (at_nowhere (λ p i e. off_floor up i (eqb-true q 0 z)))
        go (nay z) f = rw z (met (eqb-false q 0 z) f)

  module _ (q r : ℕ) (k : u.used q ≡ true) (l : u.used r ≡ true) where
    at_common : (p : ℕ) → Common up q r p → CommonExact up q r (At p)
    at_common p a = record {
      found = λ s. (to s, λ b. ap At (common_one a b));
      place = p;
      always = refl;
      floor = λ f. ap At (f p a.one a.other);
    }
      where
        to : (s : ℕ) → At p ≡ At s → Common up q r s
        to s e = let z : p ≡ s = cc in subst (Common up q r) z a

    common_found : CommonExact up q r (found_place (common up q r))
    common_found =
        let p : ℕ = common up q r in
        subst (CommonExact up q r) (sym (found_below p (w.small p (held_used k (common_is q r k l).one)))) (at_common p (common_is q r k l))

-- ---- every sound table

module _ (t : Cell) (z : Sized t) (s : sound (cell_of t) ≡ true) where
  abbrev c : State
  c = cell_of t

  abbrev tree : Tree
  tree = tree_of c

  formed : Formed tree
  formed = tree_formed c (sound_bounded c (bounded t z) s)

  same : EqualsPlain c tree
  same = equals_tree c

  -- a place in use of the tree is one of the table, and below 64
  in_use : (q : ℕ) → tree.used q ≡ true → c.land.used q ≡ true
  in_use q k = same.used q ∙ k

  -- parents lead from places in use to such
  stay : (q : ℕ) → c.land.used q ≡ true → c.land.used (parent_of c.land.place q) ≡ true
  stay q k = same.used (parent_of c.land.place q) ∙ subst (λ (p : ℕ). tree.used p ≡ true) (sym (same.parent q k)) (formed.parent_used q)

  -- the answers, computed over the tree
  pub nearest_tree : (q n : ℕ) → tree.used q ≡ true → nearest_of t q n ≡ found_place (nearest tree.parent (names_in tree) q n)
  nearest_tree q n k = nearest_used t q n s (formed.small q k) (in_use q k)
      ∙ ap found_place (nearest_same c.land.used (parent_of c.land.place) tree.parent same.parent stay (place_name c.land.place) (names_in tree)
      (λ p h. ap (λ (x : Name). x.name) (same.name p h)) q n (in_use q k))

  pub common_tree : (q r : ℕ) → tree.used q ≡ true → tree.used r ≡ true → common_of t q r ≡ found_place (common tree.parent q r)
  common_tree q r k l = common_used t q r s (formed.small q k) (formed.small r l) (in_use q k) (in_use r l)
      ∙ ap found_place (common_same c.land.used (parent_of c.land.place) tree.parent same.parent stay q r (in_use q k) (in_use r l))

  -- the nearest enclosing place of a name, or none
  pub nearest_exact : (q n : ℕ) → tree.used q ≡ true → NearestExact tree.parent (names_in tree) q n (nearest_of t q n)
  nearest_exact q n k = subst (NearestExact tree.parent (names_in tree) q n) (sym (nearest_tree q n k)) (nearest_found tree formed (names_in tree) q n)

  -- the innermost place that holds or is both
  pub common_exact : (q r : ℕ) → tree.used q ≡ true → tree.used r ≡ true → CommonExact tree.parent q r (common_of t q r)
  common_exact q r k l = subst (CommonExact tree.parent q r) (sym (common_tree q r k l)) (common_found tree formed q r k l)

  pub where_exact : WhereExact t tree
  where_exact = record { nearest = nearest_exact; common = common_exact }

-- ---- after calls

-- from a fresh cell
pub fresh_where : (c : State) → Fresh c → (calls : List Call) → WhereExact (reached c calls) (plain_after c calls).tree
fresh_where c f calls = subst (WhereExact (reached c calls)) (sym (reached_tree c f calls))
    (where_exact (reached c calls) (reached_sized c f calls) (sound_true (cell_of (reached c calls)) (reached_inv c f calls).sound))

-- from an accepted file
pub where_plain : (file : List ℕ) (c : State) → load file ≡ accepted c → (calls : List Call) → WhereExact (reached c calls) (plain_after c calls).tree
where_plain file c e calls = fresh_where c (accepted_fresh file c e) calls
