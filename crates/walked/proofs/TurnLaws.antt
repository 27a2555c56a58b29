-- The walk over the agents that are given, turn by turn, comes to what becomes of all of them. Assumes nothing.
-- Idea: each turn stores one agent, or leaves it as it is where it stays the same, and gathers it where it is woken and where it lets a lock go.
use Rattle.std.specs.Prelude.{◌≡◌, refl, ◌≢◌, ◌⊎◌, Bool, true, false, List, ℕ, ◌^◌, ◌≤◌, ◌<◌, length, get_or, set}
use Rattle.std.proofs.Common.{sym, ap, subst, ◌∙◌, inl, inr, pos_of_ne-zero, arith}
use Rattle.std.proofs.lemmas.List.{set-get_or}
use Rattle.sets.specs.Word.{has}
use Rattle.sets.proofs.WordLaws.{has_none}
use Rattle.sets.specs.Set.{member}
use Rattle.sets.proofs.WalkLaws.{rest_lt, lowest_found, removed_less}
use Rattle.sets.specs.Walk.{lowest_in}
use Rattle.sets.specs.declared.Set.{Set}
use Rattle.table.proofs.BaseLaws.{clash, eq?, tab_get_d}
use Rattle.table.specs.Cell.{no_agent, put_agents}
use Rattle.table.specs.declared.Agent.{Agent}
use Rattle.table.specs.declared.Cell.{Cell}
use Rattle.updates.proofs.GatherLaws.{Gathered, gathered_start, gathered_more, gathered_end}
use Rattle.moves.proofs.StoreLaws.{Storing, storing_start, storing_at, storing_more, storing_end}
use Rattle.walked.specs.Turns.{Waking, wakes, frees, becomes, changes, standing_at, start_of, turn_of, was, gone, agents_after, end_of}

-- an agent that is not stored stays as it is
pub kept : (opens woken : Bool) (p q : ℕ) (a : Agent) → changes opens woken ≡ false → becomes opens p q woken a ≡ a
kept true woken p q a e = clash refl e
kept false true p q a e = clash refl e
kept false false p q a e = refl

-- t: the table before
module _ (t : Cell) (opens : Bool) (p q r : ℕ) where
  -- what holds before each turn
  pub record Walking (d : Cell) (w : Waking) : Type 0 where
    pub so : w ≡ standing_at opens p q r w.rest w.sleepers w.holders
    pub row : Storing no_agent t.given (was t opens p q r) (gone t opens p q r) d.agents w.rest
    pub slept : Gathered (member t.given) (λ y. wakes opens p q r (was t opens p q r y)) w.sleepers w.rest
    pub held : Gathered (member t.given) (λ y. frees opens q (was t opens p q r y)) w.holders w.rest
    pub others : d ≡ put_agents t d.agents

  pub walking_start : length t.agents ≡ 64 → t.given.bits < 2 ^ 64 → Walking t (start_of t.given opens p q r)
  walking_start n g = record {
    so = refl;
    row = storing_start no_agent t.given (was t opens p q r) (gone t opens p q r) g t.agents (sym (tab_get_d no_agent t.agents 64 n));
    slept = gathered_start t.given _ g;
    held = gathered_start t.given _ g;
    others = refl;
  }

  -- the walk, said by its parts
  module _ {d : Cell} (rest sleepers holders : Set) (a : Walking d (standing_at opens p q r rest sleepers holders)) (k : 0 < rest.bits) where
    abbrev w : Waking
    w = standing_at opens p q r rest sleepers holders

    abbrev one : Agent
    one = get_or d.agents (lowest_in rest) no_agent

    at : one ≡ was t opens p q r (lowest_in rest)
    at = storing_at no_agent t.given (was t opens p q r) (gone t opens p q r) a.row k

    stores : Walking (put_agents d (set d.agents (lowest_in rest) (turn_of w one).agent)) (turn_of w one).next
    stores = record {
      so = refl;
      row = storing_more no_agent t.given (was t opens p q r) (gone t opens p q r) a.row k _ (ap (λ (b : Agent). becomes opens p q (wakes opens p q r b) b) at);
      slept = gathered_more a.slept k _ (ap (wakes opens p q r) at);
      held = gathered_more a.held k _ (ap (frees opens q) at);
      others = ap (λ (u : Cell). put_agents u (set d.agents (lowest_in rest) (turn_of w one).agent)) a.others;
    }

  module _ {d : Cell} {w : Waking} (a : Walking d w) where
    is_lowest : w.at ≡ lowest_in w.rest
    is_lowest = ap (λ (v : Waking). v.at) a.so

    module _ (l : w.at < 64) where
      pub some_left : 0 < w.rest.bits
      some_left = pos_of_ne-zero (λ e. clash (lowest_found 64 (member w.rest) (subst (λ (n : ℕ). n < 64) is_lowest l)) (ap (λ (n : ℕ). has n (lowest_in w.rest)) e ∙ has_none (lowest_in w.rest)))

      -- a turn that stores
      pub walking_stores : Walking (put_agents d (set d.agents w.at (turn_of w (get_or d.agents w.at no_agent)).agent)) (turn_of w (get_or d.agents w.at no_agent)).next
      walking_stores = subst (λ (v : Waking). Walking (put_agents d (set d.agents v.at (turn_of v (get_or d.agents v.at no_agent)).agent)) (turn_of v (get_or d.agents v.at no_agent)).next) (sym a.so)
          (stores w.rest w.sleepers w.holders (subst (Walking d) a.so a) some_left)

      -- a turn that does not
      pub walking_keeps : (turn_of w (get_or d.agents w.at no_agent)).changes ≡ false → Walking d (turn_of w (get_or d.agents w.at no_agent)).next
      walking_keeps e = subst (λ (l : List Agent). Walking (put_agents d l) (turn_of w (get_or d.agents w.at no_agent)).next)
          (ap (set d.agents w.at) (kept w.opens _ w.p w.q (get_or d.agents w.at no_agent) e) ∙ set-get_or d.agents w.at no_agent) walking_stores

      -- fewer are left
      pub walking_less : (b : Agent) → (turn_of w b).next.rest.bits < w.rest.bits
      walking_less b = removed_less w.rest a.row.left.small some_left

    -- once none is left
    module _ (l : 64 ≤ w.at) where
      none_left : w.rest.bits ≡ 0
      none_left = go (eq? w.rest.bits 0)
        where
          go : (w.rest.bits ≡ 0) ⊎ (w.rest.bits ≢ 0) → w.rest.bits ≡ 0
          go (inl e) = e
          go (inr n) = absurd (let h = rest_lt a.row.left (pos_of_ne-zero n) in let s = is_lowest in omega (arith, h, s, l))

      pub walking_cell : d ≡ put_agents t (agents_after t opens p q r)
      walking_cell = a.others ∙ ap (put_agents t) (storing_end no_agent t.given (was t opens p q r) (gone t opens p q r) a.row none_left)

      pub walking_end : w ≡ end_of t opens p q r
      walking_end = a.so ∙ (λ i. standing_at opens p q r (record { bits = none_left i }) (gathered_end a.slept none_left i) (gathered_end a.held none_left i))
