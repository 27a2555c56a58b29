-- Where every place is linked, what the calculus permits an agent is what its action fires on, where the agent would look.
-- By the kinds of a move; nothing is on its way, so a place that stands somewhere is linked there.
use Rattle.std.specs.Prelude.{◌≡◌, ◌≢◌, true, false, ℕ, ◌≤◌, ◌<◌}
use Rattle.std.proofs.Math.Path.{refl, sym, ap}
use Rattle.std.proofs.Common.{◌∙◌, subst}
use native.Mathlib.Omega.{arith}
use Rattle.table.proofs.BaseLaws.{Told, yea, nay, told, clash}
use Rattle.table.specs.Cell.{Land, State, linked, kind_of, name_of, open_kind, last_kind, exit_kind, looks_home, key_of}
use Rattle.table.proofs.KindLaws.{home_kind, around_kind, kind_home, kind_around}
use Rattle.table.specs.declared.Agent.{Agent}
use Rattle.meaning.specs.Step.{awaited, qualifies, stays}
use Rattle.meaning.specs.Calculus.{Tree, next_of, move}
use Rattle.meaning.specs.Plain.{tree_of}
use Rattle.calculus.proofs.MoveCases.{MoveCase, by_enter, by_exit, by_open, by_release, case_kind}
use Rattle.demands.specs.Reading.{parent_in, name_in, agent_in}
use Rattle.demands.specs.Invariant.{Under, Travels, Sound}
use Rattle.demands.proofs.Facts.{not_yes, Comes, awaited_some, link_used, fits_linked, stays_under, enters_of, exits_of, opens_of}
use Rattle.demands.specs.Whole.{Whole}
use Rattle.demands.proofs.Actions.{name_some, kind_of_lem}
use Rattle.demands.proofs.Stages.{fit_given}
use Rattle.demands.proofs.SameTree.{given_home, given_kind, given_name, move_enter, move_exit, move_open}
use Rattle.demands.proofs.Ahead.{looks_at}

-- with nobody on its way, every place is linked
pub none_whole : (c : State) → Sound c → ((y : ℕ) → Travels (agent_in c y) → ⊥) → Whole c
none_whole c i f q u n = go (told (linked c.land q))
  where
    go : Told (linked c.land q) → linked c.land q ≡ true
    go (yea e) = e
    go (nay e) = let m = i.mover q u n e in absurd (f m.who m.goes)

-- an agent whose place is still linked to the remembered one (an opener or a release agent: that remembers its home) holds that where it would look
pub looks_same : (l : Land) (a : Agent) → kind_of a ≤ last_kind → (open_kind ≤ kind_of a → a.remembered ≡ a.home) → stays l a ≡ true → a.remembered ≡ looks_at l a
looks_same l a k o st = go (told (looks_home (kind_of a)))
  where
    go : Told (looks_home (kind_of a)) → a.remembered ≡ looks_at l a
    go (yea e) = rw e (o (home_kind (kind_of a) e))
    go (nay e) = rw e (sym (stays_under l a (around_kind (kind_of a) k e) st).parent)

-- an agent that the calculus permits a move is given
pub move_given : (c : State) {a : ℕ} {u : Tree} → MoveCase (tree_of c) a u → c.given a ≡ true
move_given c {a} m = go (told (c.given a))
  where
    go : Told (c.given a) → c.given a ≡ true
    go (yea g) = g
    go (nay g) = let z : (next_of (tree_of c) a).kind ≡ 0 = unfold tree_of in rw g in absurd (omega (arith, case_kind m))

module _ (c : State) (i : Sound c) (a : ℕ) (g : c.given a ≡ true) where
  abbrev own : Agent
  own = c.agent a

  home : (tree_of c).home a ≡ own.home
  home = given_home c a g

  own_kind : {n : ℕ} → (next_of (tree_of c) a).kind ≡ n → kind_of own ≡ n
  own_kind k = sym (given_kind c a g (i.fit a)) ∙ k

  own_name : {n : ℕ} → n ≡ (next_of (tree_of c) a).name → n ≡ name_of own
  own_name e = e ∙ given_name c a g (i.fit a)

  -- an agent that is to enter or exit does not live on the floor
  pub off_floor : {u : Tree} → MoveCase (tree_of c) a u → kind_of own ≤ exit_kind → own.home ≢ 0
  off_floor (by_enter m k h s d n) z e = h (home ∙ e)
  off_floor (by_exit k h n) z e = h (home ∙ e)
  off_floor (by_open m k s n) z e = let y = own_kind k in omega arith
  off_floor (by_release m k l f) z e = let y = own_kind k in omega arith

  module _ (whole : Whole c) where
    -- the place that the action fires on, with the tree that the move makes
    pub record Target (u : Tree) : Type 0 where
      pub place : ℕ
      pub small : place < 64
      pub fits : qualifies c.land (kind_of own) (name_of own) own.home (looks_at c.land own) place ≡ true
      pub result : u ≡ move (tree_of c) a place

    -- nothing is on its way
    unawaited : (m : ℕ) → awaited c.land m ≡ false
    unawaited m = not_yes _ (λ e. go (awaited_some c.land m e))
      where
        go : (r : ℕ) × Comes c.land m r → ⊥
        go v = clash (whole v.0 v.1.used v.1.placed) v.1.loose

    found : {u : Tree} (p m : ℕ) → 1 ≤ kind_of own → looks_at c.land own ≡ p → qualifies c.land (kind_of own) (name_of own) own.home p m ≡ true
        → u ≡ move (tree_of c) a m → Target u
    found p m k l f r = record {
      place = m;
      small = i.places.small m (link_used c.land m (fits_linked c.land _ _ _ _ m (kind_of_lem own (fit_given c i a g) k) f));
      fits = subst (λ (q : ℕ). qualifies c.land (kind_of own) (name_of own) own.home q m ≡ true) (sym l) f;
      result = r;
    }

    -- every move that the calculus permits by one of the keys has one: all but that of release
    pub target : {u : Tree} → kind_of own ≤ open_kind → MoveCase (tree_of c) a u → Target u
    unfolding tree_of parent_in name_in
    target b (by_enter m k h s d n) =
        let e = own_kind k in
        let under : Under c.land m (parent_in c.land own.home) =
        record { link = whole m s.used s.placed; parent = s.parent ∙ ap (parent_in c.land) home } in
        found (parent_in c.land own.home) m (omega arith) (rw (kind_around (kind_of own) (omega arith)))
        (enters_of c.land _ _ _ _ m e (record { under = under; name = own_name n }) (λ z. d (z ∙ sym home)))
        (sym (move_enter c a g (i.fit a) m e))
    target b (by_exit k h n) =
        let e = own_kind k in
        let p = parent_in c.land own.home in
        let name : key_of exit_kind (name_in c.land p) ≡ name_of own =
        ap (λ (q : ℕ). key_of exit_kind (name_in c.land (parent_in c.land q))) (sym home) ∙ own_name n in
        let some : 1 ≤ name_of own = name_some own (fit_given c i a g) (omega arith) in
        let z : p ≢ 0 = λ z. let no : name_of own ≡ 0 = sym name ∙ ap (key_of exit_kind) (ap (name_in c.land) z ∙ i.places.floor_name) in omega arith in
        found p p (omega arith) (rw (kind_around (kind_of own) (omega arith)))
        (exits_of c.land _ _ _ p p e refl (whole p (i.places.parent_used _) z) name) (sym (move_exit c a g (i.fit a) p e))
    target b (by_open m k s n) =
        let e = own_kind k in
        let under : Under c.land m own.home = record { link = whole m s.used s.placed; parent = s.parent ∙ home } in
        found own.home m (omega arith) (rw (kind_home (kind_of own) (omega arith) (omega arith)))
        (opens_of c.land _ _ _ _ m e (record { under = under; name = own_name n }) (unawaited m))
        (sym (move_open c a g (i.fit a) m e))
    target b (by_release m k l f) = absurd (let y = own_kind k in omega arith)
