-- The step in which a place moves: the walk that wakes the sleepers, and the table after it. Assumes nothing.
-- Idea: an agent that is not given is left alone, so the walk over the given ones is a sweep over all that skips some turns.
use Rattle.std.specs.Prelude.{◌≡◌, ℕ, ◌<◌, Bool, true, false, cond, ◌&&◌, List, get_or, slice_index, slice_index_or, slice_set}
use Rattle.std.proofs.Math.Path.{refl, sym, ap}
use Rattle.std.proofs.Common.{◌∙◌}
use Rattle.sets.specs.Word.{count_of}
use Rattle.sets.proofs.WordLaws.{count_ext}
use Rattle.sets.specs.Set.{member, inserted_if, removed}
use Rattle.sets.proofs.SetLaws.{member_set}
use Rattle.sets.specs.Set.{empty_set}
use Rattle.sets.proofs.WalkLaws.{rest_end, rest_lt, rest_member, rest_from, rest_skip}
use Rattle.sets.specs.Walk.{lowest_in}
use Rattle.sets.specs.declared.Set.{Set}
use Rattle.table.specs.Base.{tab, upd}
use Rattle.table.proofs.SweepLaws.{below, sweep_start, sweep_at, sweep_hit, sweep_miss, sweep_skip, sweep_end}
use Rattle.table.specs.Cell.{no_place, no_agent, cell_of, table_of, put_places, put_locks, put_agents}
use Rattle.table.specs.Bounds.{Sized}
use Rattle.table.proofs.CellLaws.{agents_are, back}
use Rattle.table.specs.declared.Place.{Place}
use Rattle.table.specs.declared.Agent.{Agent}
use Rattle.table.specs.declared.Cell.{Cell}
use Rattle.meaning.specs.declared.Word.{Word}
use Rattle.meaning.specs.Answers.{Did}
use Rattle.meaning.specs.Update.{at_stage, released}
use Rattle.meaning.specs.Step.{asleep_on, wake}
use Rattle.meaning.specs.Run.{made}
use Rattle.updates.proofs.GatherLaws.{Gathered, gathered_start, gathered_more, gathered_end}
use Rattle.updates.proofs.UpdateLaws.{did}
use Rattle.walked.specs.Motions.{move_place}

module _ (t : Cell) (p q r : ℕ) where
  -- agent y is asleep on p, q or r
  abbrev pub sleeps : ℕ → Bool
  sleeps y = asleep_on p q r (slice_index_or t.agents y no_agent)

  -- the agents before and after
  abbrev was : ℕ → Agent
  was = λ y. slice_index_or t.agents y no_agent

  abbrev woken : ℕ → Agent
  woken = λ y. cond (member t.given y && sleeps y) (at_stage (was y) 0 0 0) (was y)

  -- what holds before each turn: the sleepers below some number are found and woken, and nothing else is changed
  pub record Waking (d : Cell) (found rest : Set) : Type 0 where
    pub walk : Gathered (member t.given) (λ y. asleep_on p q r (slice_index_or t.agents y no_agent)) found rest
    pub agents : d.agents ≡ tab (below no_agent was woken walk.i) 64 0
    pub others : d ≡ put_agents t d.agents

  pub waking_start : Sized t → Waking t empty_set t.given
  unfolding cell_of gathered_start
  waking_start z = record {
    walk = gathered_start t.given (λ y. asleep_on p q r (slice_index_or t.agents y no_agent)) z.given;
    agents = sweep_start no_agent was woken t.agents (agents_are t z);
    others = refl;
  }

  -- an agent that is not given stays as it is
  skipped : (y : ℕ) → member t.given y ≡ false → woken y ≡ was y
  skipped y e = rw e

  module _ {d : Cell} {found rest : Set} (a : Waking d found rest) (k : 0 < rest.bits) where
    -- up to the agent of this turn nothing is to do, and it is still as it was
    up : d.agents ≡ tab (below no_agent was woken (lowest_in rest)) 64 0
    up = sweep_skip no_agent was woken d.agents a.walk.i (lowest_in rest) (rest_from a.walk.left k)
        (λ j h l. skipped j (rest_skip a.walk.left k j h l)) a.agents

    at : get_or d.agents (lowest_in rest) no_agent ≡ was (lowest_in rest)
    at = sweep_at no_agent was woken d.agents (lowest_in rest) (rest_lt a.walk.left k) up

    same : asleep_on p q r (slice_index_or d.agents (lowest_in rest) no_agent) ≡ sleeps (lowest_in rest)
    same = ap (asleep_on p q r) at

    -- a turn that wakes
    pub waking_hit : asleep_on p q r (slice_index_or d.agents (lowest_in rest) no_agent) ≡ true
        → Waking (put_agents d (slice_set d.agents (lowest_in rest) (at_stage (slice_index_or d.agents (lowest_in rest) no_agent) 0 0 0)))
        (inserted_if found (lowest_in rest) true) (removed rest (lowest_in rest))
    unfolding gathered_more
    waking_hit e = record {
      walk = gathered_more a.walk k true (sym e ∙ same);
      agents = sweep_hit no_agent was woken d.agents (lowest_in rest) _ (rest_lt a.walk.left k)
          (ap (λ (b : Agent). at_stage b 0 0 0) at ∙ sym (rw (rest_member a.walk.left k, sym same ∙ e))) up;
      others = ap (λ (u : Cell). put_agents u (slice_set d.agents (lowest_in rest) (at_stage (slice_index_or d.agents (lowest_in rest) no_agent) 0 0 0))) a.others;
    }

    -- a turn that does not
    pub waking_miss : asleep_on p q r (slice_index_or d.agents (lowest_in rest) no_agent) ≡ false → Waking d found (removed rest (lowest_in rest))
    unfolding gathered_more
    waking_miss e = record {
      walk = gathered_more a.walk k false (sym e ∙ same);
      agents = sweep_miss no_agent was woken d.agents (lowest_in rest) (rw (rest_member a.walk.left k, sym same ∙ e)) up;
      others = a.others;
    }

  -- the table and the answer once the walk is over
  module _ (z : Sized t) {d : Cell} {found rest : Set} (a : Waking d found rest) (e : rest.bits ≡ 0) where
    pub waking_all : d.agents ≡ tab woken 64 0
    waking_all = sweep_end no_agent was woken d.agents 64 refl
        (sweep_skip no_agent was woken d.agents a.walk.i 64 a.walk.left.end (λ j h l. skipped j (rest_end a.walk.left e j h l)) a.agents)

    pub waking_end : (x h : ℕ) (y : Place) (b : Agent) (w : Word) (n : ℕ) (ps : List Place) (ls : List ℕ) (es : List Agent)
        → es ≡ tab (upd woken x b) 64 0 → ps ≡ tab (upd (λ j. get_or d.places j no_place) h y) 64 0 → ls ≡ tab (released (λ j. slice_index d.locks j) p q) 64 0 → n ≡ count_of 64 (member found)
        → record { cell = put_locks (put_places (put_agents d es) ps) ls; answer = Did w n }
        ≡ made (move_place (cell_of t) x h y p q r b w)
    unfolding cell_of table_of move_place wake
    waking_end x h y b w n ps ls es k f g m = did _ w n (move_place (cell_of t) x h y p q r b w)
        (λ i. put_locks (put_places (put_agents ((a.others ∙ ap (λ (u : Cell). put_agents u d.agents) (sym (back t z))) i) (k i))
        ((f ∙ ap (λ (u : Cell). tab (upd (λ j. get_or u.places j no_place) h y) 64 0) a.others) i))
        ((g ∙ ap (λ (u : Cell). tab (released (λ j. slice_index u.locks j) p q) 64 0) a.others) i))
        refl
        (m ∙ count_ext 64 _ _ (λ j i. ap (λ (s : Set). member s j) (gathered_end a.walk e) ∙ member_set (λ y. member t.given y && sleeps y) j i))
