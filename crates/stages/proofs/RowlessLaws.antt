-- What a stage's step changes does not depend on the row of places, but for the choice at stage 2, and but for stages 2 and 3 on no place other than the
-- agent's own. Assumes nothing.
use Rattle.std.specs.Prelude.{◌≡◌, Bool, true, false, ◌||◌, List, ℕ, ◌%◌, ◌<◌, ltb, leb, eqb, get_or, length}
use Rattle.std.proofs.Math.Path.{refl}
use Rattle.std.proofs.Common.{sym, ap, ap₂, ◌∙◌, arith, ltb-true, ltb-false}
use Rattle.std.proofs.Math.Bool.{cond}
use Rattle.sets.specs.declared.Set.{Set}
use Rattle.table.specs.Cell.{land_of, no_place, linked, linked_to, looking, found, holding, holding_both, on_way_both}
use Rattle.table.specs.Cell as table
use Rattle.table.proofs.BaseLaws.{Told, yea, nay, told, clash}
use Rattle.table.proofs.ElementLaws.{read_past}
use Rattle.table.specs.declared.Place.{Place}
use Rattle.table.specs.declared.Agent.{Agent}
use Rattle.meaning.specs.Step.{on_way_to, awaited, enters_at, exits_from, opens_at, qualifies, fires, stays}
use Rattle.stages.specs.declared.Change.{Change}
use Rattle.stages.specs.Changes.{rowless, own_place, own_land, looks, locks_first, acts, travels, idles, own_change, change_at}

module _ (ps : List Place) (used : Set) (row : List ℕ) where
  -- where an action fires
  pub qualifies_rowless : qualifies (rowless ps used) ≡ qualifies (land_of ps used row)
  unfolding qualifies enters_at exits_from opens_at awaited on_way_to table.travels linked linked_to
  qualifies_rowless = refl

  module _ (a : Agent) where
    pub stays_rowless : stays (rowless ps used) a ≡ stays (land_of ps used row) a
    unfolding stays linked_to
    stays_rowless = refl

    pub acts_rowless : acts (rowless ps used) a ≡ acts (land_of ps used row) a
    unfolding acts fires qualifies enters_at exits_from opens_at awaited on_way_to table.travels linked linked_to
    acts_rowless = refl

    -- the agent's own place, read of the table, is all that the other stages ask for
    own_looks : looks (own_land (get_or ps a.home no_place) used) a ≡ looks (land_of ps used row) a
    unfolding looks linked
    own_looks = refl

    own_travels : travels (own_land (get_or ps a.home no_place) used) a ≡ travels (land_of ps used row) a
    unfolding travels
    own_travels = refl

    own_change_lem : (wish : ℕ) → eqb a.stage holding ≡ false → eqb a.stage holding_both ≡ false
        → own_change a.stage (own_land (get_or ps a.home no_place) used) a ≡ change_at a.stage (land_of ps used row) a wish
    unfolding own_change change_at
    own_change_lem wish e f = rw (e, f) (ap₂ (λ (r s : Change).
        cond (eqb a.stage looking) r (cond (eqb a.stage found) (locks_first a) (cond (leb a.stage on_way_both) s (idles a.stage)))) own_looks own_travels)

    -- what is read at the number of its own place among 64, or an empty place past 63, is its own place
    own_read : length ps ≡ 64 → (k : ℕ) → k ≡ a.home % 64 → own_place a.home (get_or ps k no_place) ≡ get_or ps a.home no_place
    own_read z k e = go (told (ltb a.home 64))
      where
        go : Told (ltb a.home 64) → own_place a.home (get_or ps k no_place) ≡ get_or ps a.home no_place
        go (yea t) = let l : a.home < 64 = ltb-true a.home 64 t in let i : k ≡ a.home = omega (arith, e) in rw t (ap (λ (j : ℕ). get_or ps j no_place) i)
        go (nay t) = rw t (sym (read_past no_place ps a.home z (ltb-false a.home 64 t)))

    pub own_seen : (wish : ℕ) → length ps ≡ 64 → (k : ℕ) → k ≡ a.home % 64 → (eqb a.stage holding || eqb a.stage holding_both) ≡ false
        → own_change a.stage (own_land (own_place a.home (get_or ps k no_place)) used) a ≡ change_at a.stage (land_of ps used row) a wish
    own_seen wish z k e n = ap (λ (h : Place). own_change a.stage (own_land h used) a) (own_read z k e)
        ∙ own_change_lem wish (neither (eqb a.stage holding) (eqb a.stage holding_both) n).0 (neither (eqb a.stage holding) (eqb a.stage holding_both) n).1
      where
        neither : (b d : Bool) → (b || d) ≡ false → (b ≡ false) × (d ≡ false)
        neither true d m = clash refl m
        neither false d m = (refl, m)
