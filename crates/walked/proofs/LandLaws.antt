-- The places of a sound table: that all of them lead to the floor where all are known to, and that the floor decides first. Assumes nothing.
use Rattle.std.specs.Prelude.{◌&&◌, ◌≡◌, Bool, List, eqb}
use Rattle.std.proofs.Math.Path.{sym}
use Rattle.std.proofs.Common.{get_or, ap, ◌∙◌}
use Rattle.std.proofs.Math.Bool.{true, cond}
use Prim.Native.Nat.{ℕ, ◌<◌, ◌^◌}
use borrow.Author.Tests.{eq-eqb}
use Rattle.sets.specs.Word.{has}
use Rattle.sets.specs.Set.{member}
use Rattle.sets.proofs.WalkLaws.{lowest_lt}
use Rattle.sets.specs.Walk.{lowest_in}
use Rattle.sets.specs.declared.Set.{Set}
use Rattle.table.specs.Base.{count_below, iter}
use Rattle.table.proofs.BaseLaws.{Told, yea, nay, told, all_yes}
use Rattle.soundness.specs.Lead.{above, Ways}
use Rattle.soundness.proofs.LeadLaws.{iter_stays, count_most}
use Rattle.soundness.specs.Pass.{all_lead}
use Rattle.table.specs.declared.Place.{Place}
use Rattle.table.specs.Cell.{no_place}
use Rattle.soundness.specs.Pass.{floor_sound, children_fit, lands_fit}
use Rattle.soundness.proofs.AllLeadLaws.{Remains}

module _ (up : List ℕ) (used : Set) where
  abbrev f : ℕ → ℕ
  f = above up

  -- a place that is known leads to the floor within 64 steps
  known_leads : (known : Set) → Ways up known → (q : ℕ) → member known q ≡ true → iter f 64 q ≡ 0
  known_leads known w q e = iter_stays f w.floor (count_below (member known) 64) 64 q (count_most (member known) 64) (w.leading q e)

  all_led : ((q : ℕ) → q < 64 → member used q ≡ true → iter f 64 q ≡ 0) → true ≡ all_lead (above up) used
  unfolding all_lead
  all_led h = sym (all_yes _ 64 (λ q l. go q l (told (member used q))))
    where
      go : (q : ℕ) → q < 64 → Told (member used q) → cond (member used q) (eqb (iter f 64 q) 0) true ≡ true
      go q l (yea t) = rw t (eq-eqb (iter f 64 q) 0 (h q l t))
      go q l (nay t) = rw t

  -- all places in use are known
  pub all_known : (known : Set) → Ways up known → known.bits ≡ used.bits → true ≡ all_lead (above up) used
  all_known known w e = all_led (λ q l t. known_leads known w q (ap (λ (n : ℕ). has n q) e ∙ t))

module _ (up : List ℕ) (known begun : Set) (all rest : Set) (o : Remains up known begun all rest) (b : rest.bits < 2 ^ 64) (k : 0 < rest.bits) where
  pub remains_small : lowest_in rest < 64
  remains_small = lowest_lt 64 rest.bits b k

-- where the floor is not as it should be the whole is not, and where it is the other places decide
pub floor_decides : (ps : List Place) (ls : List ℕ) (used claimed going : Set) (b : Bool)
    → floor_sound (get_or ps 0 no_place) (get_or ls 0 0) used claimed going ≡ b → (b && children_fit ps ls used claimed going) ≡ lands_fit ps ls used claimed going
unfolding lands_fit
floor_decides ps ls used claimed going b e = sym (ap (λ (y : Bool). y && children_fit ps ls used claimed going) e)
