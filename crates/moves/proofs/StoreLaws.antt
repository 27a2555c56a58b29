-- Elements stored into a table: one, and one for each member of a set in a `for` over the members. Assumes nothing.
-- Idea: a number that is no member keeps its element, so the walk over the members is a sweep over all that skips some turns.
use Rattle.std.specs.Prelude.{◌≡◌, Bool, ℕ, ◌+◌, ◌^◌, ◌<◌, ◌≤◌, false, cond, List, set, slice_index_or, slice_set, refl, Some}
use Rattle.std.proofs.Common.{sym, ap, subst, ◌∙◌, arith}
use Rattle.sets.specs.Set.{member, inserted_if, removed}
use Rattle.sets.proofs.WalkLaws.{rest_start, rest_end, rest_lt, rest_member, rest_from, rest_skip, rest_more, Turn, turn_of}
use Rattle.sets.specs.Walk.{Rest, lowest_in, TakesLowest}
use Rattle.sets.specs.declared.Set.{Set}
use Rattle.table.specs.Base.{tab, upd}
use Rattle.table.proofs.BaseLaws.{upd_other, tab_ext, set_tab}
use Rattle.updates.proofs.GatherLaws.{Gathered, gathered_more}
use Rattle.table.proofs.SweepLaws.{below, sweep_start, sweep_at, sweep_hit, sweep_skip, sweep_end}

-- ---- one element

-- an element stored into a table that was made; past 63 there is none to store
module _ {A : Type 0} (d : A) (f : ℕ → A) (l : List A) (e : l ≡ tab f 64 0) (x : ℕ) (v : A) where
  pub stored_in : x < 64 → slice_set l x v ≡ tab (upd f x v) 64 0
  stored_in m = ap (λ (z : List A). set z x v) e ∙ set_tab d f 64 x v m

  pub stored_past : 64 ≤ x → l ≡ tab (upd f x v) 64 0
  stored_past m = e ∙ tab_ext d 64 f (upd f x v) (λ j k. sym (upd_other f x j v (λ h. omega arith)))

-- ---- one for each member of a set

-- f's elements become g's where a number is a member of s
module _ {A : Type 0} (d : A) (s : Set) (f g : ℕ → A) where
  -- the elements after
  abbrev pub stored : ℕ → A
  stored j = cond (member s j) (g j) (f j)

  -- what holds before each turn: the elements below some number are stored
  pub record Storing (l : List A) (rest : Set) : Type 0 where
    pub i : ℕ
    pub left : Rest (member s) i rest
    pub row : l ≡ tab (below d f stored i) 64 0

  skipped : (j : ℕ) → member s j ≡ false → stored j ≡ f j
  skipped j e = rw e

  pub storing_start : s.bits < 2 ^ 64 → (l : List A) → l ≡ tab f 64 0 → Storing l s
  storing_start h l e = record { i = 0; left = rest_start s h; row = sweep_start d f stored l e }

  module _ {l : List A} {rest : Set} (a : Storing l rest) where
    -- where nothing is left all are stored
    pub storing_end : rest.bits ≡ 0 → l ≡ tab stored 64 0
    storing_end e = sweep_end d f stored l 64 refl
        (sweep_skip d f stored l a.i 64 a.left.end (λ j h k. skipped j (rest_end a.left e j h k)) a.row)

    module _ (k : 0 < rest.bits) where
      -- up to the element of this turn nothing is to do, and it is still f's
      up : l ≡ tab (below d f stored (lowest_in rest)) 64 0
      up = sweep_skip d f stored l a.i (lowest_in rest) (rest_from a.left k) (λ j h m. skipped j (rest_skip a.left k j h m)) a.row

      pub storing_at : slice_index_or l (lowest_in rest) d ≡ f (lowest_in rest)
      storing_at = sweep_at d f stored l (lowest_in rest) (rest_lt a.left k) up

      -- a turn
      pub storing_more : (v : A) → v ≡ g (lowest_in rest) → Storing (slice_set l (lowest_in rest) v) (removed rest (lowest_in rest))
      storing_more v e = record {
        i = lowest_in rest + 1;
        left = rest_more a.left k;
        row = sweep_hit d f stored l (lowest_in rest) v (rest_lt a.left k) (e ∙ here) up;
      }
        where
          here : g (lowest_in rest) ≡ stored (lowest_in rest)
          here = rw (rest_member a.left k)

    -- what a `for` over the members takes
    module _ {i : ℕ} {t : Set} (step : TakesLowest rest (Some i) t) where
      turn : Turn rest i t
      turn = turn_of a.left.small step

      -- its element is still f's
      pub turn_at : slice_index_or l i d ≡ f i
      turn_at = subst (λ (j : ℕ). slice_index_or l j d ≡ f j) (sym turn.lowest) (storing_at turn.some)

      pub turn_stores : (v : A) → v ≡ g i → Storing (slice_set l i v) t
      turn_stores v e = subst (Storing (slice_set l i v)) (sym turn.left)
          (subst (λ (j : ℕ). Storing (slice_set l j v) (removed rest (lowest_in rest))) (sym turn.lowest) (storing_more turn.some v (e ∙ ap g turn.lowest)))

-- ---- a set gathered in a `for` over the members of another

module _ {g h : ℕ → Bool} {found rest : Set} (a : Gathered g h found rest) {i : ℕ} {t : Set} (step : TakesLowest rest (Some i) t) where
  taken : Turn rest i t
  taken = turn_of a.left.small step

  pub turn_gathers : (b : Bool) → b ≡ h i → Gathered g h (inserted_if found i b) t
  turn_gathers b e = subst (Gathered g h (inserted_if found i b)) (sym taken.left)
      (subst (λ (j : ℕ). Gathered g h (inserted_if found j b) (removed rest (lowest_in rest))) (sym taken.lowest) (gathered_more a taken.some b (e ∙ ap h taken.lowest)))
