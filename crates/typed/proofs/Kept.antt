-- What the laying of a tree keeps: touches are 0, and names, keys and numbers have 16 bits.
-- Idea: what every added place, agent and action keeps, the whole tree keeps.
use Rattle.std.specs.Prelude.{◌≡◌, ℕ, ◌+◌}
use mathlib.Core.List.{List, [], ◌∷◌}
use Rattle.std.proofs.Common.{arith}
use Rattle.table.specs.Bounds.{Name16}
use Rattle.table.specs.Cell.{State}
use Rattle.meaning.specs.File.{add_place, add_agent, add_action}
use Rattle.meaning.proofs.FileLaws.{bare_touches}
use Rattle.demands.proofs.LoadingNumbers.{Cell16, place16, agent16, action16, bare16}
use Rattle.language.specs.Grammar.{TypedAction, Keys, left_off, written, TypedName, Contents, nothing, agent, place, keyed_by, name_of}
use Rattle.language.specs.Layout.{Laid, lay_actions, lay_agent, lay_place, lay, bare_laid, layout}

-- K is so of a cell with a typed place, agent or action more, if it is so of the cell
pub record Keeps (K : State → Type 0) : Type 0 where
  pub by_place : (c : State) (n p : ℕ) (h : TypedName) → K c → K (add_place c n p (name_of h))
  pub by_agent : (c : State) (x p : ℕ) → K c → K (add_agent c x p)
  pub by_action : (c : State) (x : ℕ) (a : TypedAction) → K c → K (add_action c x a.kind a.number.value)

module _ (K : State → Type 0) (k : Keeps K) where
  -- of an agent's actions
  kept_actions : (ds : List TypedAction) (c : State) (x : ℕ) → K c → K (lay_actions x ds c)
  unfolding lay_actions
  kept_actions [] c x h = h
  kept_actions (a ∷ ds) c x h = kept_actions ds (add_action c x a.kind a.number.value) x (k.by_action c x a h)

  -- of contents
  kept : (c : Contents) (l : Laid) (p : ℕ) → K l.cell → K (lay p c l).cell
  unfolding lay lay_agent lay_place
  kept nothing l p h = h
  kept (agent r c) l p h = kept c (lay_agent p r l) p
      (kept_actions (r.first ∷ r.further) (add_agent l.cell l.agents p) l.agents (k.by_agent l.cell l.agents p h))
  kept (place w c e) l p h = kept e (lay (l.places + 1) c (lay_place p (name_of w) l)) p
      (kept c (lay_place p (name_of w) l) (l.places + 1) (k.by_place l.cell (l.places + 1) p w h))

  -- of the whole tree, from the bare floor
  pub layout_kept : (c : Contents) → K bare_laid.cell → K (layout c)
  unfolding layout
  layout_kept c h = kept c bare_laid 0 h

-- ---- "touches are 0"

-- no place has touches
abbrev pub Untouched : State → Type 0
Untouched c = (q : ℕ) → c.touches q ≡ 0

-- nothing that is typed gives any
untouched_kept : Keeps Untouched
unfolding add_place add_agent add_action
untouched_kept = record { by_place = λ c n p h k. k; by_agent = λ c x p k. k; by_action = λ c x a k. k }

-- so the cell of a tree has none
pub layout_untouched : (c : Contents) → Untouched (layout c)
unfolding bare_laid
layout_untouched c = layout_kept Untouched untouched_kept c bare_touches

-- ---- 16 bits

-- a typed name with its keys
pub typed16 : (h : TypedName) → Name16 (name_of h)
unfolding name_of keyed_by
typed16 h = go h.keys
  where
    go : (w : Keys) → Name16 (keyed_by h.name.value w)
    go left_off = let l = h.name.high in record { name = omega arith; entering = omega arith; exiting = omega arith; opening = omega arith }
    go (written e x o) =
        let l = h.name.high in
        let a = e.high in
        let b = x.high in
        let d = o.high in
        record { name = omega arith; entering = omega arith; exiting = omega arith; opening = omega arith }

-- what is typed has so many
numbers_kept : Keeps Cell16
numbers_kept = record {
  by_place = λ c n p h k. place16 c k n p (name_of h) (typed16 h);
  by_agent = λ c x p k. agent16 c k x p;
  by_action = λ c x a k. action16 c k x a.kind a.number.value (let l = a.number.high in omega arith);
}

-- so the cell of a tree has
pub layout16 : (c : Contents) → Cell16 (layout c)
unfolding bare_laid
layout16 c = layout_kept Cell16 numbers_kept c bare16
