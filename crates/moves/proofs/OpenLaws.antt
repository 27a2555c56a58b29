-- The locks of a table in which a place is opened. Assumes nothing.
-- Idea: each lock is released by its own test; what is not in use is not walked over.
use Rattle.std.specs.Prelude.{◌≡◌, refl, ℕ, Bool, true, false, cond, ◌&&◌, List, get_or, ◌==◌, slice_index}
use Rattle.std.proofs.Common.{ap, ◌∙◌}
use Rattle.sets.specs.Set.{member, set_of}
use Rattle.sets.specs.declared.Set.{Set}
use Rattle.table.specs.Base.{tab, upd}
use Rattle.table.proofs.BaseLaws.{tab_ext, get_d_tab}
use Rattle.table.specs.Cell.{none, no_agent, cell_of}
use Rattle.table.specs.Bounds.{Sized}
use Rattle.table.specs.declared.Cell.{Cell}
use Rattle.meaning.specs.Update.{released}
use Rattle.meaning.specs.Step.{dissolve_lock}
use Rattle.updates.proofs.GatherLaws.{member_among}

-- t: the table before; place o is opened into p
module _ (t : Cell) (p o : ℕ) where
  -- agent y lives in o and holds a lock at stage 2
  abbrev holds : ℕ → Bool
  holds = λ y. ((get_or t.agents y no_agent).home == o) && (get_or t.agents y no_agent).stage == 2

  -- two locks released in a table that was made
  pub release_tab : (f : ℕ → ℕ) (ls : List ℕ) → ls ≡ tab f 64 0 → tab (released (λ j. slice_index ls j) p o) 64 0 ≡ tab (released f p o) 64 0
  unfolding upd
  release_tab f ls e = tab_ext 0 64 _ _ (λ j k. ap (λ (n : ℕ). cond (j == o) none (cond (j == p) none n)) (ap (λ (s : List ℕ). slice_index s j) e ∙ get_d_tab f 64 j 0 k))

  -- two tests in one
  both : (u b : Bool) (l : ℕ) → cond u (cond b none l) l ≡ cond (u && b) none l
  both true b l = refl
  both false b l = refl

  -- the lock of a place in use, and of one that is not, once those of the holders are let go
  pub held_freed : Sized t → (holders : Set) → holders ≡ set_of (λ y. member t.given y && ((get_or t.agents y no_agent).home == o && (get_or t.agents y no_agent).stage == 2)) → (q : ℕ)
      → cond (member t.used q) (cond (member holders (slice_index t.locks q)) none (slice_index t.locks q)) (slice_index t.locks q) ≡ dissolve_lock (cell_of t) o q
  unfolding cell_of dissolve_lock
  held_freed z holders e q = ap (λ (b : Bool). cond (member t.used q) (cond b none lock) lock)
      (ap (λ (s : Set). member s lock) e ∙ member_among t.given z.given holds lock)
      ∙ both (member t.used q) _ lock
    where
      lock : ℕ
      lock = slice_index t.locks q
