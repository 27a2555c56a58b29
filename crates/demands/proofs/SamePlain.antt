-- The plain tree beside the cell: what the two have in common, and that stage 2 reads places alike in both.
-- Idea: every test of stage 2 reads only what the two have in common.
use Rattle.std.specs.Prelude.{◌≡◌, ◌≢◌, Bool, true, ◌||◌, cond, ℕ, eqb}
use Rattle.std.proofs.Common.{ap, ◌∙◌, eqb-true}
use Rattle.table.proofs.BaseLaws.{Told, yea, nay, told, clash}
use Rattle.table.specs.Cell.{State, linked, travels, kind_of, exit_kind, holding_both}
use Rattle.table.specs.declared.Agent.{Agent}
use Rattle.meaning.specs.Plain.{Plain, tree_of, land_in}
use Rattle.demands.specs.Reading.{agent_in}
use Rattle.demands.specs.Invariant.{Places}
use Rattle.demands.proofs.SamePlaces.{Alike}

-- an agent that holds both places of an enter or open has its chosen place as its pick
abbrev pub Picked : (ℕ → ℕ) → ℕ → Agent → Type 0
Picked pick x a = a.stage ≡ holding_both → kind_of a ≢ exit_kind → pick x ≡ a.chosen

-- the plain tree has the cell's tree and the order of its places, the same places travel, and agents holding both places have their chosen place as their pick
pub record Same (c : State) (t : Plain) : Type 0 where
  pub tree : t.tree ≡ tree_of c
  pub travels : t.travels ≡ travels c.land
  pub pick : (x : ℕ) → Picked t.pick x (agent_in c x)
  pub order : t.order ≡ c.land.order

-- ---- what stage 2 chooses

-- the plain tree as stage 2 reads places agrees with the cell's places on what is in use
pub same_places : (c : State) (t : Plain) → Places c.land → Same c t → Alike (land_in t) c.land
unfolding land_in tree_of
same_places c t i m = record {
  used = λ q. ap (λ v. v.used q) m.tree;
  name = λ q u. ap (λ v. v.name q) m.tree ∙ rw u;
  parent = λ q u. ap (λ v. v.parent q) m.tree ∙ rw u;
  way = λ q u. ap (λ (f : ℕ → Bool). eqb (cond (eqb q 0 || f q) 1 0) 0) m.travels
      ∙ way q u (told (eqb q 0)) (told (eqb (c.land.place q).way 0));
  order = m.order;
}
  where
    way : (q : ℕ) → c.land.used q ≡ true → Told (eqb q 0) → Told (eqb (c.land.place q).way 0)
        → eqb (cond (eqb q 0 || travels c.land q) 1 0) 0 ≡ eqb (c.land.place q).way 0
    way q u (yea z) (yea e) = clash {b = linked c.land q} (unfold linked in rw (u, e)) (ap (linked c.land) (eqb-true q 0 z) ∙ i.floor_link)
    way q u (yea z) (nay e) = rw (z, e)
    way q u (nay z) (yea e) = unfold travels in rw (z, u, e)
    way q u (nay z) (nay e) = unfold travels in rw (z, u, e)
