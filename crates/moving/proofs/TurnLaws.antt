-- The walk over the agents that are given, turn by turn, comes to what becomes of all of them. Assumes nothing.
-- Idea: each turn stores one agent, or leaves it as it is where it stays the same, and gathers it where it is woken and where it lets a lock go.
use Rattle.std.specs.Prelude.{◌≡◌, refl, Bool, List, ℕ, ◌^◌, ◌<◌, length, get_or, set, Some}
use Rattle.std.proofs.Common.{sym, ap, subst, ◌∙◌}
use Rattle.std.proofs.lemmas.List.{set-get_or}
use Rattle.sets.specs.Set.{member, inserted_if, empty_set}
use Rattle.sets.specs.Walk.{TakesLowest}
use Rattle.sets.specs.declared.Set.{Set}
use Rattle.table.proofs.BaseLaws.{tab_get_d}
use Rattle.table.specs.Cell.{no_agent, put_agents}
use Rattle.table.specs.declared.Agent.{Agent}
use Rattle.table.specs.declared.Cell.{Cell}
use Rattle.updates.proofs.GatherLaws.{Gathered, gathered_start, gathered_end}
use Rattle.moves.proofs.StoreLaws.{Storing, storing_start, storing_end, turn_at, turn_stores, turn_gathers}
use Rattle.moving.specs.declared.waking.Waking.{Waking}
use Rattle.moving.specs.Turn.{wakes_of, frees_of, after_of, was, gone, agents_after, walked_of}

-- t: the table before
module _ (t : Cell) (w : Waking) where
  -- what holds before each turn
  pub record Walking (d : Cell) (sleepers holders rest : Set) : Type 0 where
    pub row : Storing no_agent t.given (was t w) (gone t w) d.agents rest
    pub slept : Gathered (member t.given) (λ y. wakes_of w (was t w y)) sleepers rest
    pub held : Gathered (member t.given) (λ y. frees_of w (was t w y)) holders rest
    pub others : d ≡ put_agents t d.agents

  pub walking_start : length t.agents ≡ 64 → t.given.bits < 2 ^ 64 → Walking t empty_set empty_set t.given
  walking_start n g = record {
    row = storing_start no_agent t.given (was t w) (gone t w) g t.agents (sym (tab_get_d no_agent t.agents 64 n));
    slept = gathered_start t.given _ g;
    held = gathered_start t.given _ g;
    others = refl;
  }

  -- a turn: agent i is the next, and is as it was
  module _ {d : Cell} {sleepers holders rest : Set} (a : Walking d sleepers holders rest) {i : ℕ} {u : Set} (step : TakesLowest rest (Some i) u) where
    abbrev one : Agent
    one = get_or d.agents i no_agent

    at : one ≡ was t w i
    at = turn_at no_agent t.given (was t w) (gone t w) a.row step

    module _ (woken freed : Bool) (e : woken ≡ wakes_of w one) (f : freed ≡ frees_of w one) where
      -- it is stored
      pub walking_stores : (b : Agent) → b ≡ after_of w woken one → Walking (put_agents d (set d.agents i b)) (inserted_if sleepers i woken) (inserted_if holders i freed) u
      walking_stores b g = record {
        row = turn_stores no_agent t.given (was t w) (gone t w) a.row step b (g ∙ ap (λ (v : Bool). after_of w v one) e ∙ ap (λ (x : Agent). after_of w (wakes_of w x) x) at);
        slept = turn_gathers a.slept step woken (e ∙ ap (wakes_of w) at);
        held = turn_gathers a.held step freed (f ∙ ap (frees_of w) at);
        others = ap (λ (x : Cell). put_agents x (set d.agents i b)) a.others;
      }

      -- it stays as it is
      pub walking_keeps : after_of w woken one ≡ one → Walking d (inserted_if sleepers i woken) (inserted_if holders i freed) u
      walking_keeps g = subst (λ (l : List Agent). Walking (put_agents d l) (inserted_if sleepers i woken) (inserted_if holders i freed) u)
          (set-get_or d.agents i no_agent) (walking_stores one (sym g))

  -- once none is left
  module _ {d : Cell} {sleepers holders rest : Set} (a : Walking d sleepers holders rest) (none_left : rest.bits ≡ 0) where
    pub walking_cell : d ≡ put_agents t (agents_after t w)
    walking_cell = a.others ∙ ap (put_agents t) (storing_end no_agent t.given (was t w) (gone t w) a.row none_left)

    pub walking_end : record { sleepers = sleepers; holders = holders } ≡ walked_of t w
    walking_end = λ i. record { sleepers = gathered_end a.slept none_left i; holders = gathered_end a.held none_left i }
