-- The step that opens a place: the walk over the agents that are given, and the table after it. Assumes nothing.
-- Idea: each turn stores one agent and gathers it where it lets a lock go and where it is woken; what is not in use is not walked over.
use Rattle.std.specs.Prelude.{◌≡◌, ℕ, ◌<◌, Bool, cond, ◌&&◌, List, get_or, ◌==◌, slice_index, slice_index_or, slice_set}
use Rattle.std.proofs.Math.Path.{refl, ap}
use Rattle.std.proofs.Common.{sym, ◌∙◌}
use Rattle.sets.specs.Word.{count_of}
use Rattle.sets.proofs.WordLaws.{count_ext}
use Rattle.sets.specs.Set.{member, inserted_if, removed}
use Rattle.sets.specs.Set.{empty_set}
use Rattle.sets.specs.Walk.{lowest_in}
use Rattle.sets.specs.declared.Set.{Set}
use Rattle.order.specs.Row.{later}
use Rattle.table.specs.Base.{tab, upd}
use Rattle.table.proofs.BaseLaws.{tab_ext}
use Rattle.table.specs.Cell.{none, no_place, no_agent, land_of, cell_of, table_of, put_places, put_locks, put_agents, put_used, put_touches, put_order}
use Rattle.table.specs.Bounds.{Sized}
use Rattle.table.proofs.CellLaws.{agents_are, back}
use Rattle.table.specs.declared.Place.{Place}
use Rattle.table.specs.declared.Agent.{Agent}
use Rattle.table.specs.declared.Cell.{Cell}
use Rattle.meaning.specs.declared.Word.TheVariants.{Opened}
use Rattle.meaning.specs.Answers.{Did}
use Rattle.meaning.specs.Update.{at_stage, use_up, released}
use Rattle.meaning.specs.Step.{woken_by, child_of, dissolve_place, dissolve_agent, dissolve, rest_stage, pooled}
use Rattle.meaning.specs.Run.{made}
use Rattle.updates.proofs.GatherLaws.{member_among, Gathered, gathered_start, gathered_more, gathered_end}
use Rattle.updates.proofs.UpdateLaws.{did}
use Rattle.moves.proofs.OpenLaws.{release_tab, held_freed}
use Rattle.moves.proofs.StoreLaws.{stored, Storing, storing_start, storing_at, storing_more, storing_end}

-- t: the table before; place o is opened into p
module _ (t : Cell) (p o : ℕ) where
  -- the agents before, and those that are given after
  abbrev was : ℕ → Agent
  was = λ y. slice_index_or t.agents y no_agent

  abbrev gone : ℕ → Agent
  gone = λ y. dissolve_agent p o (was y)

  -- all agents after
  abbrev pub after : ℕ → Agent
  after = stored no_agent t.given was gone

  -- agent y lives in o and holds a lock at stage 2
  abbrev holds : ℕ → Bool
  holds = λ y. ((was y).home == o) && (was y).stage == 2

  -- agent y is woken
  abbrev wakes : ℕ → Bool
  wakes = λ y. woken_by p o (was y)

  -- what holds before each turn
  pub record Opening (d : Cell) (holders sleepers rest : Set) : Type 0 where
    pub row : Storing no_agent t.given was gone d.agents rest
    pub held : Gathered (member t.given) holds holders rest
    pub slept : Gathered (member t.given) wakes sleepers rest
    pub others : d ≡ put_agents t d.agents

  pub opening_start : Sized t → Opening t empty_set empty_set t.given
  unfolding cell_of
  opening_start z = record {
    row = storing_start no_agent t.given was gone z.given t.agents (agents_are t z);
    held = gathered_start t.given holds z.given;
    slept = gathered_start t.given wakes z.given;
    others = refl;
  }

  module _ {d : Cell} {holders sleepers rest : Set} (a : Opening d holders sleepers rest) (k : 0 < rest.bits) where
    at : get_or d.agents (lowest_in rest) no_agent ≡ was (lowest_in rest)
    at = storing_at no_agent t.given was gone a.row k

    -- a turn
    pub opening_more : (h s : Bool) (b : Agent)
        → h ≡ ((get_or d.agents (lowest_in rest) no_agent).home == o && (get_or d.agents (lowest_in rest) no_agent).stage == 2)
        → s ≡ woken_by p o (slice_index_or d.agents (lowest_in rest) no_agent) → b ≡ dissolve_agent p o (slice_index_or d.agents (lowest_in rest) no_agent)
        → Opening (put_agents d (slice_set d.agents (lowest_in rest) b))
        (inserted_if holders (lowest_in rest) h) (inserted_if sleepers (lowest_in rest) s) (removed rest (lowest_in rest))
    opening_more h s b f g e = record {
      row = storing_more no_agent t.given was gone a.row k b (e ∙ ap (dissolve_agent p o) at);
      held = gathered_more a.held k h (f ∙ ap (λ (c : Agent). (c.home == o) && c.stage == 2) at);
      slept = gathered_more a.slept k s (g ∙ ap (woken_by p o) at);
      others = ap (λ (u : Cell). put_agents u (slice_set d.agents (lowest_in rest) b)) a.others;
    }

  -- once the walk is over
  module _ (z : Sized t) {d : Cell} {holders sleepers rest : Set} (w : Opening d holders sleepers rest) (end : rest.bits ≡ 0) where
    pub opening_all : d.agents ≡ tab after 64 0
    opening_all = storing_end no_agent t.given was gone w.row end

    -- the table and the answer
    pub opening_end : (x : ℕ) (a b : Agent) (n : ℕ) (ps : List Place) (ms ls : List ℕ) (es : List Agent) (us : Set) (ts row : List ℕ)
        → ps ≡ tab (λ q. cond (member t.used q) (dissolve_place p o q (slice_index_or t.places q no_place)) (slice_index_or t.places q no_place)) 64 0
        → ms ≡ tab (λ q. cond (member t.used q) (cond (member holders (slice_index t.locks q)) none (slice_index t.locks q)) (slice_index t.locks q)) 64 0
        → ls ≡ tab (released (λ q. slice_index ms q) p o) 64 0 → es ≡ tab (upd after x b) 64 0 → b ≡ at_stage (use_up a) (rest_stage (use_up a)) 0 0
        → us ≡ removed t.used o → ts ≡ tab (pooled (λ q. slice_index t.touches q) p o) 64 0
        → row ≡ later (child_of (land_of t.places t.used t.order) o) t.order → n ≡ count_of 64 (member sleepers)
        → record { cell = put_order (put_touches (put_used (put_locks (put_places (put_agents d es) ps) ls) us) ts) row; answer = Did Opened n }
        ≡ made (dissolve (cell_of t) x a p o)
    unfolding cell_of table_of dissolve
    opening_end x a b n ps ms ls es us ts row e f g v r u k y m = did _ Opened n (dissolve (cell_of t) x a p o)
        (λ i. put_order (put_touches (put_used (put_locks (put_places (put_agents ((w.others ∙ ap (λ (c : Cell). put_agents c d.agents) (sym (back t z))) i)
        ((v ∙ ap (λ (c : Agent). tab (upd after x c) 64 0) r) i))
        (e i))
        ((g ∙ release_tab t p o _ ms (f ∙ tab_ext 0 64 _ _ (λ q _. held_freed t p o z holders (gathered_end w.held end) q))) i))
        (u i))
        (k i))
        (y i))
        refl
        (m ∙ count_ext 64 _ _ (λ j i. ap (λ (s : Set). member s j) (gathered_end w.slept end) ∙ member_among t.given z.given wakes j))
