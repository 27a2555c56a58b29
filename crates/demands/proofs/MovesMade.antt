-- The plain tree follows every step: it has again the cell's tree, by one permitted move at left, opened and put and by none at any other
-- word.
-- Idea: what fires at stage 3 is linked where the calculus wants it to stand, and the pick is the chosen place.
use Rattle.std.specs.Prelude.{◌≡◌, refl, Bool, true, ℕ, ◌<◌}
use Rattle.std.proofs.Math.Path.{sym, ap, subst}
use Rattle.std.proofs.Common.{◌∙◌, arith, ne_eqb}
use Rattle.std.proofs.Math.Bool.{false}
use Rattle.table.proofs.BaseLaws.{clash}
use Rattle.table.specs.Cell.{State, fresh_number, kind_of, name_of, enter_kind, exit_kind, open_kind, release_kind, key_of}
use Rattle.table.proofs.FreshLaws.{fresh_unused}
use Rattle.table.specs.declared.Agent.{Agent}
use Rattle.meaning.specs.Step.{Outcome, still, qualifies, target_of, fires, put, leave, dissolve, arrive}
use Rattle.meaning.specs.Calculus.{Tree, next_of, put_into, open_up, put_out, Move}
use Rattle.meaning.specs.Plain.{Plain, tree_of, plain_word, is_move}
use Rattle.calculus.proofs.MoveCases.{Stands, by_enter, by_exit, by_open, by_release, case_move}
use Rattle.demands.specs.Reading.{parent_in, name_in}
use Rattle.demands.specs.Invariant.{Under, Sound}
use Rattle.demands.proofs.Facts.{link_used, enters_fits, exits_fits, opens_fits, target_chosen}
use Rattle.demands.proofs.Stages.{ok_at, ok_given, both_move, both_open}
use Rattle.demands.specs.Ways.{Way, is_done, is_asleep, held_first, held_second, held_own, held_destination, looks_up, looks_at_home}
use Rattle.demands.specs.Ways.{sleeps_alone, takes_first, goes_back, sleeps_stuck, takes_second, puts, sleeps_full, gives_up, enters, exits, opens}
use Rattle.demands.specs.Ways.{takes_own, takes_destination, comes}
use Rattle.demands.proofs.OpeningPlaces.{linked_not_floor}
use Rattle.demands.proofs.SameTree.{given_home, given_kind, given_name}
use Rattle.demands.proofs.SamePlain.{Same}
use Rattle.demands.proofs.SameSteps.{plain_quiet, plain_took, plain_choice, plain_held, plain_left, plain_came, plain_opened, plain_put}
use Rattle.demands.proofs.SameSteps.{chosen_pick, enter_result, exit_result, open_result, release_result}

-- the tree before and after a call: one move of agent x, or no change
pub record MovedOrSame (moves : Bool) (x : ℕ) (t u : Tree) : Type 0 where
  pub made : moves ≡ true → Move t x u
  pub left_alone : moves ≡ false → u ≡ t

-- a word that is no move leaves the tree
pub unmoved : {t : Tree} {x : ℕ} → MovedOrSame false x t t
unmoved = record { made = λ e. clash e refl; left_alone = λ e. refl }

-- what the plain tree t is to be after a word: u, beside the cell c, and come by a move where the word says so
pub record Follows (c : State) (moves : Bool) (x : ℕ) (t u : Plain) : Type 0 where
  pub same : Same c u
  pub step : MovedOrSame moves x t.tree u.tree

module _ (c : State) (i : Sound c) (x : ℕ) (g : c.given x ≡ true) (t : Plain) (m : Same c t) where
  abbrev a : Agent
  a = c.agent x

  home : (tree_of c).home x ≡ a.home
  home = given_home c x g

  kind_is : {n : ℕ} → kind_of a ≡ n → (next_of (tree_of c) x).kind ≡ n
  kind_is k = given_kind c x g (i.fit x) ∙ k

  name_is : {n : ℕ} → n ≡ name_of a → n ≡ (next_of (tree_of c) x).name
  name_is e = e ∙ sym (given_name c x g (i.fit x))

  -- a place linked to another stands there
  stands : (q p : ℕ) → Under c.land q p → Stands (tree_of c) q p
  unfolding tree_of parent_in
  stands q p u = record { used = link_used c.land q u.link; placed = linked_not_floor i.places u.link; parent = u.parent }

  fires_on : (q : ℕ) → fires c.land a ≡ true → target_of a ≡ q → qualifies c.land (kind_of a) (name_of a) a.home a.remembered q ≡ true
  unfolding fires
  fires_on q f e = subst (λ r. qualifies c.land (kind_of a) (name_of a) a.home a.remembered r ≡ true) e f

  enter_made : a.stage ≡ 3 → kind_of a ≡ enter_kind → fires c.land a ≡ true → Move (tree_of c) x (put_into (tree_of c) x a.chosen)
  unfolding tree_of parent_in name_in
  enter_made s k f =
      let v = both_move c i x g s (omega arith) in
      let b = enters_fits c.land (kind_of a) (name_of a) a.home a.remembered a.chosen k
      (fires_on a.chosen f (target_chosen a (λ z. absurd (omega arith)))) in
      case_move (by_enter a.chosen (kind_is k) (λ z. linked_not_floor i.places v.under.link (sym home ∙ z))
      (stands a.chosen ((tree_of c).parent ((tree_of c).home x))
      (record { link = b.0.under.link; parent = b.0.under.parent ∙ sym v.under.parent ∙ ap (parent_in c.land) (sym home) }))
      (λ z. b.1 (z ∙ home)) (name_is b.0.name))

  exit_made : a.stage ≡ 3 → kind_of a ≡ exit_kind → fires c.land a ≡ true → Move (tree_of c) x (put_into (tree_of c) x (parent_in c.land a.remembered))
  unfolding tree_of parent_in name_in
  exit_made s k f =
      let v = both_move c i x g s (omega arith) in
      let p : parent_in c.land ((tree_of c).home x) ≡ a.remembered = ap (parent_in c.land) home ∙ v.under.parent in
      let b = exits_fits c.land (kind_of a) (name_of a) a.home a.remembered (target_of a) k (fires_on (target_of a) f refl) in
      subst (λ (d : ℕ). Move (tree_of c) x (put_into (tree_of c) x d)) (ap (parent_in c.land) p)
      (case_move (by_exit (kind_is k) (λ z. linked_not_floor i.places v.under.link (sym home ∙ z))
      (ap (λ q. key_of exit_kind (name_in c.land q)) p ∙ name_is b.2)))

  open_made : a.stage ≡ 3 → kind_of a ≡ open_kind → fires c.land a ≡ true → Move (tree_of c) x (open_up (tree_of c) x a.chosen)
  unfolding tree_of name_in
  open_made s k f =
      let b = opens_fits c.land (kind_of a) (name_of a) a.home a.remembered a.chosen k
      (fires_on a.chosen f (target_chosen a (λ z. absurd (omega arith)))) in
      let h = (ok_at 3 s (ok_given c i x g)).0.opener (omega arith) in
      case_move (by_open a.chosen (kind_is k) (stands a.chosen ((tree_of c).home x)
      (record { link = b.0.under.link; parent = b.0.under.parent ∙ h ∙ sym home })) (name_is b.0.name))

  release_made : (q : ℕ) → kind_of a ≡ release_kind → fresh_number c.land.used ≡ q → q < 64 → Move (tree_of c) x (put_out (tree_of c) x q)
  unfolding tree_of
  release_made q k e l = case_move (by_release q (kind_is k) l e)

  -- ---- every way a step can go

  -- a word that says nothing to the plain tree
  silent : {c' : State} → Same c' t → Follows c' false x t t
  silent s = record { same = s; step = unmoved }

  -- a move of the cell's tree is one of the plain tree
  has_moved : {c' : State} {u : Plain} {after : Tree} → Same c' u → u.tree ≡ after → Move (tree_of c) x after → Follows c' true x t u
  has_moved {u} s e v = record {
    same = s;
    step = record {
      made = λ _. subst (λ w. Move w x u.tree) (sym m.tree)
          (subst (Move (tree_of c) x) (sym e) v);
      left_alone = λ z. clash refl z;
    };
  }

  -- the plain tree follows each of them
  pub way_follows : {wish : ℕ} {o : Outcome} → Way c x wish o → Follows o.cell (is_move o.word) x t (plain_word t x wish o.word)
  unfolding still plain_word put leave dissolve arrive
  way_follows (is_done _) = silent m
  way_follows (is_asleep _) = silent m
  way_follows (held_first _ _) = silent m
  way_follows (held_second _ _ _ _ _) = silent m
  way_follows (held_own _ _) = silent m
  way_follows (held_destination _ _) = silent m
  way_follows (looks_up _ _ _) = silent (plain_quiet c i x g t m c.lock 1 _ 0 (λ z. absurd (omega arith)))
  way_follows (looks_at_home _ _) = silent (plain_quiet c i x g t m c.lock 1 _ 0 (λ z. absurd (omega arith)))
  way_follows (sleeps_alone _ _ _) = silent (plain_quiet c i x g t m c.lock 7 _ 0 (λ z. absurd (omega arith)))
  way_follows {wish} (takes_first _ _) = record { same = plain_took c i x g t m _ 2 _ 0 wish (λ z. absurd (omega arith)); step = unmoved }
  way_follows (goes_back _ _) = silent (plain_quiet c i x g t m _ 0 0 0 (λ z. absurd (omega arith)))
  way_follows (sleeps_stuck _ _ _ _) = silent (plain_quiet c i x g t m _ 7 _ 0 (λ z. absurd (omega arith)))
  way_follows {wish} (takes_second q s b st ch _ _) = record {
    same = plain_took c i x g t m _ 3 _ _ wish
        (λ _ k. plain_choice c i x g t m wish s b k (plain_held c i x g t m s st) ∙ ch ∙ sym (rw (ne_eqb (kind_of a) exit_kind k)));
    step = unmoved;
  }
  way_follows {wish} (puts q s k f l) =
      let e = release_result c i x g t m q k f in
      let free : c.land.used q ≡ false = subst (λ (r : ℕ). c.land.used r ≡ false) f (fresh_unused c.land.used (omega arith)) in
      has_moved (plain_put c i x g t m q wish ((ok_at 2 s (ok_given c i x g)).0.opener (omega arith)) free f e) e (release_made q k f l)
  way_follows (sleeps_full _ _ _) = silent (plain_quiet c i x g t m _ 7 _ 0 (λ z. absurd (omega arith)))
  way_follows (gives_up _ _) = silent (plain_quiet c i x g t m _ 0 0 0 (λ z. absurd (omega arith)))
  way_follows {wish} (enters s k f) =
      let e = enter_result c i x g t m s k in
      has_moved (plain_left c i x g t m a.chosen wish (both_move c i x g s (omega arith)).under.link e) e (enter_made s k f)
  way_follows {wish} (exits s k f) =
      let e = exit_result c i x g t m s k in
      has_moved (plain_left c i x g t m (parent_in c.land a.remembered) wish (both_move c i x g s (omega arith)).under.link e) e
      (exit_made s k f)
  way_follows {wish} (opens s k f) =
      let e = open_result c i x g t m s k in
      has_moved (plain_opened c i x g t m wish (chosen_pick c i x g t m s (λ z. absurd (omega arith))) ((ok_at 3 s (ok_given c i x g)).0.opener (omega arith)) (both_open c i x g s k).under e) e (open_made s k f)
  way_follows {wish} (takes_own _ _) = record { same = plain_took c i x g t m _ 5 0 0 wish (λ z. absurd (omega arith)); step = unmoved }
  way_follows {wish} (takes_destination _ _) = record { same = plain_took c i x g t m _ 6 0 0 wish (λ z. absurd (omega arith)); step = unmoved }
  way_follows {wish} (comes _) = record { same = plain_came c i x g t m wish; step = unmoved }
