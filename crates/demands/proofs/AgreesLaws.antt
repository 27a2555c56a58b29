-- The keeper agrees with the published calculus: its tree is formed, so that `published` applies to the plain tree of demand 3.
use Rattle.std.specs.Prelude.{◌≡◌, ◌⊎◌, List, [], Bool, true, false, not, ◌&&◌, ℕ, ◌≤◌, ◌<◌}
use Rattle.std.proofs.Common.{sym, subst, inl, inr, arith}
use Rattle.std.proofs.lemmas.Bool.{not-true}
use Rattle.table.specs.Base.{any_below}
use Rattle.table.proofs.BaseLaws.{Told, yea, nay, told, clash, and_left, and_right, any_found, any_at}
use Rattle.table.specs.Cell.{State, cell_of}
use Rattle.meaning.specs.Run.{Call, Reply, rests}
use Rattle.meaning.specs.File.{load, accepted}
use Rattle.meaning.specs.Calculus.{Tree, Move}
use Rattle.meaning.specs.Plain.{plain_of, tree_of, History, start, moved, stayed}
use Rattle.calculus.specs.Formed.{Good, Formed}
use Rattle.calculus.specs.Terms.{Term, ◌⟶◌}
use Rattle.calculus.specs.TermOf.{term}
use Rattle.calculus.proofs.Published.{published_blocked, published}
use Rattle.calculus.specs.Moves.{Moves, moves_none, moves_then}
use Rattle.demands.specs.Reading.{parent_in, name_in}
use Rattle.demands.specs.Invariant.{Sound}
use Rattle.demands.proofs.SameTree.{tree_home, tree_unused}
use Rattle.demands.specs.Fresh.{Fresh}
use Rattle.demands.proofs.LoadingFile.{accepted_fresh}
use Rattle.demands.proofs.LoadingLaws.{fresh_inv}
use Rattle.demands.specs.AfterCalls.{StepChanges, reached, plain_after, AfterCalls}
use Rattle.demands.proofs.DemandThree.{reached_inv, reached_tree, fresh_three}
use Rattle.demands.proofs.DemandTwo.{fresh_two}
use Rattle.demands.specs.Agrees.{Agrees}

-- the tree of a sound cell is formed
pub tree_formed : (c : State) → Sound c → Formed (tree_of c)
unfolding tree_of parent_in name_in
tree_formed c i = record {
  floor_parent = i.places.floor_parent;
  floor_name = i.places.floor_name;
  floor_used = i.places.floor_used;
  tree = i.places.tree;
  parent_used = i.places.parent_used;
  small = i.places.small;
  homes = λ x. subst (λ h. c.land.used h ≡ true) (sym (tree_home c x)) (i.homes x);
  good = λ x. subst Good (sym (tree_unused c x)) (i.fit x).good;
  few = λ x l. absent x l (told (c.given x));
}
  where
    absent : (x : ℕ) → 64 ≤ x → Told (c.given x) → (tree_of c).unused x ≡ []
    absent x l (yea g) = absurd (omega (arith, i.few x g))
    absent x l (nay g) = unfold tree_of in rw g

-- the moves of a history, one after the other
pub history_moves : {t u : Tree} {calls : List Call} {answers : List Reply} → History t calls answers u → Moves t u
history_moves start = moves_none
history_moves (moved e m h) = moves_then m (history_moves h)
history_moves (stayed e h) = history_moves h

-- some agent below n is given and does not rest, or every agent below n that is given rests
awake? : (given resting : ℕ → Bool) (n : ℕ)
    → ((x : ℕ) × ((given x ≡ true) × (resting x ≡ false))) ⊎ ((x : ℕ) → x < n → given x ≡ true → resting x ≡ true)
awake? given resting n = go (told (any_below (λ x. given x && not (resting x)) n))
  where
    go : Told (any_below (λ x. given x && not (resting x)) n)
        → ((x : ℕ) × ((given x ≡ true) × (resting x ≡ false))) ⊎ ((x : ℕ) → x < n → given x ≡ true → resting x ≡ true)
    go (yea e) =
        let f = any_found (λ x. given x && not (resting x)) n e in
        let up = and_right (given f.0) (not (resting f.0)) f.1.1 in
        inl (f.0, (and_left (given f.0) (not (resting f.0)) f.1.1, not-true (resting f.0) up))
    go (nay e) = inr (λ x l g. quiet x l g (told (resting x)))
      where
        quiet : (x : ℕ) → x < n → given x ≡ true → Told (resting x) → resting x ≡ true
        quiet x l g (yea r) = r
        quiet x l g (nay r) = clash (any_at (λ y. given y && not (resting y)) n x l (rw (g, r))) e

-- ---- from a fresh cell

module _ (c : State) (f : Fresh c) (calls : List Call) where
  abbrev after : AfterCalls c calls
  after = fresh_three c f calls

  -- the loaded tree is formed
  loaded_formed : Formed (plain_of c).tree
  unfolding plain_of
  loaded_formed = tree_formed c (fresh_inv c f).sound

  -- and so is the plain tree after the calls, which is that of the cell reached
  pub reached_formed : Formed (plain_after c calls).tree
  reached_formed = subst Formed (sym (reached_tree c f calls)) (tree_formed (cell_of (reached c calls)) (reached_inv c f calls).sound)

  -- 002 section 4.1, for the keeper
  pub fresh_agrees : Agrees c calls
  fresh_agrees = record {
    reduces = published.run loaded_formed (history_moves after.history);
    live = λ P r. go P r (awake? (cell_of (reached c calls)).given (rests (reached c calls)) 64);
    blocked = λ all. published_blocked reached_formed (after.at_rest all);
    complete = λ still P r. let m = published.moves reached_formed r in record {
      who = m.who;
      after = m.after;
      same = m.same;
      reaches = fresh_two c f calls still m.who m.after (subst (λ t. Move t m.who m.after) (reached_tree c f calls) m.move);
    };
  }
    where
      go : (P : Term) → term (plain_after c calls).tree ⟶ P
          → ((x : ℕ) × (((cell_of (reached c calls)).given x ≡ true) × (rests (reached c calls) x ≡ false)))
          ⊎ ((x : ℕ) → x < 64 → (cell_of (reached c calls)).given x ≡ true → rests (reached c calls) x ≡ true)
          → (y : ℕ) × StepChanges (reached c calls) y
      go P r (inl w) = after.goes_on w.0 w.1.0 w.1.1
      go P r (inr all) = absurd (published_blocked reached_formed (after.at_rest (λ x g. all x ((reached_inv c f calls).sound.few x g) g)) P r)

-- ---- from an accepted file

pub agrees : (s : List ℕ) (c : State) → load s ≡ accepted c → (calls : List Call) → Agrees c calls
agrees s c e = fresh_agrees c (accepted_fresh s c e)
