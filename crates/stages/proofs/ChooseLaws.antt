-- The set of the places on which an action fires, for each kind, and what is read from it. Assumes nothing.
-- Idea: two sets are the same where they have the same members below 64, and no place past 63 is in use.
use Rattle.std.specs.Prelude.{◌≡◌, ◌≢◌, ◌⊎◌, Bool, ◌&&◌, ◌||◌, cond, List, ℕ, ◌^◌, ◌≤◌, ◌<◌, ltb, get_or}
use Rattle.std.proofs.Math.Path.{refl, sym, ap, ap₂, fun_ext}
use Rattle.std.proofs.Common.{◌∙◌, inl, inr, lit<}
use Rattle.std.proofs.Math.Bool.{true, false, not}
use Rattle.std.proofs.Math.Dec.{eqb}
use borrow.Author.Tests.{ltb-false, ne_eqb}
use Rattle.sets.specs.Word.{upto}
use Rattle.sets.proofs.WordLaws.{has_past, has_none}
use Rattle.sets.specs.Set.{member, set_of, inserted_if, removed}
use Rattle.sets.proofs.SetLaws.{set_ext, set_member, member_set}
use Rattle.sets.specs.Set.{empty_set}
use Rattle.sets.specs.declared.Set.{Set}
use Rattle.table.proofs.BaseLaws.{Told, yea, nay, told, eq?}
use Rattle.table.specs.Cell.{Land, no_place, land_of, linked, linked_to, next_action, enter_kind, exit_kind, open_kind, looks_home}
use Rattle.table.specs.declared.Place.{Place}
use Rattle.table.specs.declared.Action.{Action}
use Rattle.table.specs.declared.Agent.{Agent}
use Rattle.meaning.specs.Step.{named, awaited, enters_at, exits_from, opens_at, qualifies, chosen_of, choose, choice, fires, stays}
use Rattle.updates.proofs.GatherLaws.{member_upto}
use Rattle.stages.specs.Changes.{rowless, child_named}
use Rattle.stages.proofs.RowlessLaws.{qualifies_rowless}

-- ---- reading a set

-- the choice from a set is the choice from those that pass the test
pub chosen_set : (row : List ℕ) (f : ℕ → Bool) (w : ℕ) → chosen_of row (member (set_of f)) w ≡ chosen_of row (upto 64 f) w
chosen_set row f w = ap (λ (g : ℕ → Bool). chosen_of row g w) (fun_ext (member_upto f))

-- ---- the set of each kind

module _ (l : Land) (kind n home p : ℕ) where
  -- enter: the children whose key for it is n, but its own place
  pub enter_set : eqb kind enter_kind ≡ true → removed (set_of (child_named enter_kind l p n)) home ≡ set_of (qualifies l kind n home p)
  unfolding qualifies enters_at
  enter_set e = set_ext _ _ (λ q b. ap (λ (x : Bool). not (eqb q home) && x) (member_set (child_named enter_kind l p n) q b) ∙ go (eqb q home) (linked_to l q p) (named enter_kind l q n) ∙ sym (rw e))
    where
      go : (h x y : Bool) → (not h && (x && y)) ≡ (x && (y && not h))
      go true true true = refl
      go true true false = refl
      go true false y = refl
      go false true true = refl
      go false true false = refl
      go false false y = refl

  -- exit: p itself, if it is linked and its key for it is n
  pub exit_set : (b : Bool) → b ≡ exits_from l n p → eqb kind enter_kind ≡ false → eqb kind exit_kind ≡ true → inserted_if empty_set p b ≡ set_of (qualifies l kind n home p)
  unfolding qualifies
  exit_set b t e f = go b ∙ set_ext _ _ (λ q _. ap (λ (x : Bool). eqb q p && x) t ∙ sym (rw (e, f)))
    where
      go : (b : Bool) → inserted_if empty_set p b ≡ set_of (λ q. eqb q p && b)
      go true = set_ext _ _ (λ q _. ap (◌||◌ (eqb q p)) (has_none q) ∙ here (eqb q p))
        where
          here : (x : Bool) → (x || false) ≡ (x && true)
          here true = refl
          here false = refl
      go false = sym (set_member empty_set (lit< tt)) ∙ set_ext _ _ (λ q _. has_none q ∙ here (eqb q p))
        where
          here : (x : Bool) → false ≡ (x && false)
          here true = refl
          here false = refl

  -- open: the children whose key for it is n and that nothing is on its way to
  pub open_set : eqb kind enter_kind ≡ false → eqb kind exit_kind ≡ false
      → set_of (λ q. member (set_of (child_named open_kind l p n)) q && not (awaited l q)) ≡ set_of (qualifies l kind n home p)
  unfolding qualifies opens_at
  open_set e f = set_ext _ _ (λ q b. ap (λ (x : Bool). x && not (awaited l q)) (member_set (child_named open_kind l p n) q b) ∙ go (linked_to l q p) (named open_kind l q n) (not (awaited l q)) ∙ sym (rw (e, f)))
    where
      go : (x y z : Bool) → ((x && y) && z) ≡ (x && (y && z))
      go true y z = refl
      go false y z = refl

  -- ---- past 63

  -- on a place that is not in use no action fires
  pub unused_not : (q : ℕ) → l.used q ≡ false → qualifies l kind n home p q ≡ false
  unfolding qualifies enters_at opens_at exits_from linked_to linked
  unused_not q e = go (told (eqb kind enter_kind)) (told (eqb kind exit_kind)) (eq? q p)
    where
      go : Told (eqb kind enter_kind) → Told (eqb kind exit_kind) → (q ≡ p) ⊎ (q ≢ p) → qualifies l kind n home p q ≡ false
      go (yea s) t m = rw (s, e)
      go (nay s) (yea t) (inl m) = rw (s, t, sym m, e) (never (eqb q q))
        where
          never : (x : Bool) → (x && false) ≡ false
          never true = refl
          never false = refl
      go (nay s) (yea t) (inr m) = rw (s, t, ne_eqb q p m)
      go (nay s) (nay t) m = rw (s, t, e)

  -- the set says of every number whether the action fires on it, where the places in use are below 64
  pub fires_member : (q : ℕ) → (64 ≤ q → l.used q ≡ false) → member (set_of (qualifies l kind n home p)) q ≡ qualifies l kind n home p q
  fires_member q u = member_upto (qualifies l kind n home p) q ∙ go (told (ltb q 64))
    where
      go : Told (ltb q 64) → upto 64 (qualifies l kind n home p) q ≡ qualifies l kind n home p q
      go (yea t) = rw t
      go (nay t) = rw t (sym (unused_not q (u (ltb-false q 64 t))))

-- ---- what an agent's action does, from what was read

module _ (ps : List Place) (used : Set) (a : Agent) (x : Action) (e : x ≡ next_action a) where
  -- its place is still linked to p
  pub stays_test : (u : Bool) (h : Place) → u ≡ member used a.home → h ≡ get_or ps a.home no_place
      → (looks_home x.kind || (u && (eqb h.way 0 && eqb h.parent a.remembered))) ≡ stays (rowless ps used) a
  unfolding stays linked_to
  stays_test u h f g = λ i. looks_home (e i).kind || (f i && (eqb (g i).way 0 && eqb (g i).parent a.remembered))

  module _ (s : Set) (f : s ≡ set_of (qualifies (rowless ps used) x.kind x.name a.home a.remembered)) where
    -- the choice
    pub choice_test : (row : List ℕ) (w q : ℕ) → q ≡ chosen_of row (member s) w → q ≡ choice (land_of ps used row) a w
    unfolding choose
    choice_test row w q g = g ∙ ap (λ (z : Set). chosen_of row (member z) w) f ∙ chosen_set row _ w
        ∙ (λ i. chosen_of row (upto 64 (qualifies_rowless ps used row i (e i).kind (e i).name a.home a.remembered)) w)

    -- the action fires
    pub fires_test : used.bits < 2 ^ 64 → (t : ℕ) (b : Bool) → t ≡ cond (eqb x.kind exit_kind) a.remembered a.chosen → b ≡ member s t → b ≡ fires (rowless ps used) a
    unfolding fires
    fires_test h t b g k = k ∙ ap₂ (λ (z : Set) (n : ℕ). member z n) f g
        ∙ fires_member (rowless ps used) x.kind x.name a.home a.remembered (cond (eqb x.kind exit_kind) a.remembered a.chosen) (λ m. has_past 64 used.bits _ h m)
        ∙ (λ i. qualifies (rowless ps used) (e i).kind (e i).name a.home a.remembered (cond (eqb (e i).kind exit_kind) a.remembered a.chosen))
