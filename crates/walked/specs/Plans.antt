-- What a motion does beside what it does to the agents that it finds.
use Rattle.std.specs.Prelude.{ℕ, Bool, true, false, ◌&&◌, cond, List, eqb, ltb}
use Rattle.sets.specs.Set.{member, inserted, removed}
use Rattle.sets.specs.declared.Set.{Set}
use Rattle.order.specs.Row.{latest}
use Rattle.table.specs.Cell.{none, plain_name, name_of}
use Rattle.table.specs.declared.Place.{Place}
use Rattle.table.specs.declared.Agent.{Agent}
use Rattle.meaning.specs.declared.Word.{Word}
use Rattle.meaning.specs.declared.Word.TheVariants.{Left, Came, Opened}
use Rattle.meaning.specs.declared.Word.TheVariants as word
use Rattle.meaning.specs.Update.{linked_place, with_parent, with_way, at_stage, use_up}
use Rattle.meaning.specs.Step.{rest_stage}
use Rattle.moves.specs.declared.Motion.{Motion}
use Rattle.moves.specs.declared.Motion.TheVariants.{Leave, Arrive, Dissolve, Put}
use Rattle.moving.specs.Plan.{free_locks}

-- whether place q is opened into p, and if not, the places p, q and r whose sleepers are woken; what the place that moves becomes; the locks, the
-- places in use, the touches of the place that moves and the row; what the agent becomes; and the word that is answered
pub record Plan : Type 0 where
  pub opens : Bool
  pub p : ℕ
  pub q : ℕ
  pub r : ℕ
  pub place : Place
  pub locks : List ℕ
  pub used : Set
  pub count : ℕ
  pub order : List ℕ
  pub agent : Agent
  pub word : Word

-- the agent's own place goes on its way to d
abbrev pub leaving_of : Agent → ℕ → Place → ℕ → List ℕ → Set → List ℕ → Plan
leaving_of a d old count locks used order = record {
  opens = false;
  p = a.remembered;
  q = a.home;
  r = a.home;
  place = cond (ltb a.home 64) (with_way (with_parent old d) 1) old;
  locks = free_locks locks a.remembered a.home;
  used = used;
  count = count;
  order = order;
  agent = at_stage (use_up a) 4 0 0;
  word = Left;
}

-- it is linked to d, which is this place, and is the latest
abbrev pub arriving_of : Agent → ℕ → Place → Place → ℕ → List ℕ → Set → List ℕ → Plan
arriving_of a d old to count locks used order = record {
  opens = false;
  p = a.home;
  q = d;
  r = cond (member used d && eqb to.way 0) to.parent d;
  place = cond (ltb a.home 64) (with_way old 0) old;
  locks = free_locks locks a.home d;
  used = used;
  count = count;
  order = latest a.home order;
  agent = at_stage a (rest_stage a) 0 0;
  word = Came;
}

-- the chosen place is dissolved into the remembered one: its rows are not asked for here
abbrev pub opening_of : Agent → Place → ℕ → List ℕ → Set → List ℕ → Plan
opening_of a old count locks used order = record {
  opens = true;
  p = a.remembered;
  q = a.chosen;
  r = none;
  place = old;
  locks = locks;
  used = removed used a.chosen;
  count = count;
  order = order;
  agent = at_stage (use_up a) (rest_stage (use_up a)) 0 0;
  word = Opened;
}

-- a new place under the number n is put into the remembered one, and is the latest; its lock is free and it has no touches
abbrev pub putting_of : Agent → ℕ → Place → ℕ → List ℕ → Set → List ℕ → Plan
putting_of a n old count locks used order = record {
  opens = false;
  p = a.remembered;
  q = a.remembered;
  r = a.remembered;
  place = cond (ltb n 64) (linked_place (plain_name (name_of a)) a.remembered) old;
  locks = free_locks locks a.remembered n;
  used = inserted used n;
  count = cond (ltb n 64) 0 count;
  order = latest n order;
  agent = at_stage (use_up a) (rest_stage (use_up a)) 0 0;
  word = word.Put;
}

-- what a motion does: `old` is the place that moves, with its touches, and `to` the one that it is linked to
abbrev pub plan_of : Agent → Motion → Place → Place → ℕ → List ℕ → Set → List ℕ → Plan
plan_of a (Leave d) old to count locks used order = leaving_of a d old count locks used order
plan_of a (Arrive d) old to count locks used order = arriving_of a d old to count locks used order
plan_of a Dissolve old to count locks used order = opening_of a old count locks used order
plan_of a (Put n) old to count locks used order = putting_of a n old count locks used order
