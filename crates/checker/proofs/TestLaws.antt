-- What the tests of the code come to, one after the other.
use Rattle.std.specs.Prelude.{◌≡◌, ◌≢◌, Bool, not, ◌&&◌, ℕ}
use Rattle.std.proofs.Math.Path.{refl, sym, ap}
use Rattle.std.proofs.Common.{◌∙◌}
use Rattle.std.proofs.Math.Bool.{true, false, and-false}
use Rattle.std.proofs.Math.Dec.{eqb}
use borrow.Author.Tests.{eq-eqb, ne_eqb}
use Rattle.sets.specs.Set.{member}
use Rattle.sets.specs.declared.Set.{Set}
use Rattle.table.proofs.BaseLaws.{and_left}
use Rattle.table.specs.Cell.{Land, kind_of, fresh_number, enter_kind, exit_kind, open_kind, release_kind}
use Rattle.table.specs.declared.Action.{Action}
use Rattle.table.specs.declared.Agent.{Agent}
use Rattle.table.specs.declared.Place.{Place}
use Rattle.meaning.specs.Calculus.{stands_at, may_enter, may_exit, may_open, has_room, may_release, permits}
use Rattle.meaning.specs.Codes.{none_told}
use Rattle.moves.specs.declared.Motion.TheVariants.{Dissolve, Put}
use Rattle.trail.specs.Trail.{allows}
use Rattle.checker.specs.declared.Turn.TheVariants.{Into, Shift}
use Rattle.checker.specs.OnTable.{parent_of, name_of, one_agent, Numbered, turn_by, motion_of}

pub and_yes : (a b : Bool) → a ≡ true → b ≡ (a && b)
and_yes a b e = sym (rw e)

pub and_no : (a b : Bool) → a ≡ false → false ≡ (a && b)
and_no a b e = sym (rw e)

pub differs : (q p : ℕ) → q ≢ p → not (eqb q p) ≡ true
differs q p e = rw (ne_eqb q p e)

pub equals : (q p : ℕ) → q ≡ p → not (eqb q p) ≡ false
equals q p e = rw (eq-eqb q p e)

-- ---- a place that is read

module _ {l : Land} {used : Set} {b : ℕ} {q : Place} (n : Numbered l used b q) where
  -- it is in use, or it is not
  used_is : {o : Bool} → member used b ≡ o → l.used b ≡ o
  used_is u = ap (λ (f : ℕ → Bool). f b) n.in_use ∙ u

  module _ (h : ℕ) (x : Action) where
    -- whether it stands in p
    pub stands_unused : (p : ℕ) → member used b ≡ false → false ≡ stands_at (one_agent l h x) b p
    unfolding stands_at
    stands_unused p u = and_no _ _ (used_is u)

    pub stands_floor : (p : ℕ) → member used b ≡ true → b ≡ 0 → false ≡ stands_at (one_agent l h x) b p
    unfolding stands_at
    stands_floor p u z = and_no _ _ (equals b 0 z) ∙ and_yes _ _ (used_is u)

    pub stands_placed : (p : ℕ) → member used b ≡ true → b ≢ 0 → eqb q.parent p ≡ stands_at (one_agent l h x) b p
    unfolding stands_at
    stands_placed p u z = ap (λ (m : ℕ). eqb m p) (sym parent) ∙ and_yes _ _ (differs b 0 z) ∙ and_yes _ _ (used_is u)
      where
        parent : parent_of l b ≡ q.parent
        parent = rw (used_is u) (ap (λ (y : Place). y.parent) (n.is_place (used_is u)))

    -- its name, where it stands in some place
    pub name_there : (p : ℕ) → stands_at (one_agent l h x) b p ≡ true → q.name ≡ name_of l b
    unfolding stands_at
    name_there p e = sym (rw u (ap (λ (y : Place). y.name) (n.is_place u)))
      where
        u : l.used b ≡ true
        u = and_left (l.used b) (not (eqb b 0) && eqb (parent_of l b) p) e

-- ---- what is allowed, by the kind of the action and the byte

module _ (l : Land) (h : ℕ) (x : Action) (b : ℕ) where
  pub allow_enter : x.kind ≡ enter_kind → may_enter (one_agent l h x) 0 b ≡ allows (one_agent l h x) 0 b
  unfolding allows permits
  allow_enter k = sym (rw k)

  pub allow_open : x.kind ≡ open_kind → may_open (one_agent l h x) 0 b ≡ allows (one_agent l h x) 0 b
  unfolding allows permits
  allow_open k = sym (rw k)

  pub allow_exit : x.kind ≡ exit_kind → b ≡ none_told → may_exit (one_agent l h x) 0 (parent_of l h) ≡ allows (one_agent l h x) 0 b
  unfolding allows permits
  allow_exit k e = sym (rw (k, eq-eqb b none_told e))

  pub allow_release : x.kind ≡ release_kind → b ≡ none_told → has_room (one_agent l h x) ≡ allows (one_agent l h x) 0 b
  unfolding allows permits may_release
  allow_release k e = sym (rw (k, eq-eqb b none_told e, eq-eqb (fresh_number l.used) (fresh_number l.used) refl) (last (has_room (one_agent l h x))))
    where
      last : (a : Bool) → (a && true) ≡ a
      last true = refl
      last false = refl

  -- another byte than 255 for an action that is no enter and no open
  pub allow_byte : x.kind ≢ enter_kind → x.kind ≢ open_kind → b ≢ none_told → false ≡ allows (one_agent l h x) 0 b
  unfolding allows
  allow_byte i j e = sym (rw (ne_eqb x.kind enter_kind i, ne_eqb x.kind open_kind j, ne_eqb b none_told e))

  -- no kind of action
  pub allow_none : x.kind ≢ enter_kind → x.kind ≢ exit_kind → x.kind ≢ open_kind → x.kind ≢ release_kind → false ≡ allows (one_agent l h x) 0 b
  unfolding allows permits
  allow_none i j k m = sym (rw (ne_eqb x.kind enter_kind i, ne_eqb x.kind exit_kind j, ne_eqb x.kind open_kind k, ne_eqb x.kind release_kind m) (and-false (eqb b none_told)))

-- ---- what becomes of it, by the kind of the action

module _ (kind beyond b : ℕ) where
  pub turn_enter : kind ≡ enter_kind → Into b ≡ turn_by kind beyond b
  unfolding turn_by
  turn_enter k = sym (rw (eq-eqb kind enter_kind k))

  pub turn_exit : kind ≢ enter_kind → kind ≡ exit_kind → Into beyond ≡ turn_by kind beyond b
  unfolding turn_by
  turn_exit i k = sym (rw (ne_eqb kind enter_kind i, eq-eqb kind exit_kind k))

  pub turn_other : kind ≢ enter_kind → kind ≢ exit_kind → Shift ≡ turn_by kind beyond b
  unfolding turn_by
  turn_other i j = sym (rw (ne_eqb kind enter_kind i, ne_eqb kind exit_kind j))

module _ (used : ℕ → Bool) (a : Agent) where
  pub motion_open : kind_of a ≡ open_kind → Dissolve ≡ motion_of used a
  unfolding motion_of
  motion_open k = sym (rw (eq-eqb (kind_of a) open_kind k))

  pub motion_release : kind_of a ≢ open_kind → (q : ℕ) → q ≡ fresh_number used → Put q ≡ motion_of used a
  unfolding motion_of
  motion_release k q e = ap Put e ∙ sym (rw (ne_eqb (kind_of a) open_kind k))
