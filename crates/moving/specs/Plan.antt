-- What a motion does beside what it does to the agents that it finds.
use Rattle.std.specs.Prelude.{ℕ, ◌&&◌, cond, List, eqb, ltb, get_or}
use Rattle.sets.specs.Set.{member, inserted, removed}
use Rattle.sets.specs.declared.Set.{Set}
use Rattle.order.specs.Row.{latest}
use Rattle.table.specs.Base.{tab}
use Rattle.table.specs.Cell.{plain_name, name_of}
use Rattle.table.specs.declared.Place.{Place}
use Rattle.table.specs.declared.Agent.{Agent}
use Rattle.meaning.specs.declared.Word.TheVariants.{Left, Came, Opened}
use Rattle.meaning.specs.declared.Word.TheVariants as word
use Rattle.meaning.specs.Update.{linked_place, with_parent, with_way, at_stage, use_up, released}
use Rattle.meaning.specs.Step.{rest_stage}
use Rattle.moves.specs.declared.Motion.{Motion}
use Rattle.moves.specs.declared.Motion.TheVariants.{Leave, Arrive, Dissolve, Put}
use Rattle.moving.specs.declared.plan.Site.{Site}
use Rattle.moving.specs.declared.plan.Plan.{Plan}
use Rattle.moving.specs.declared.waking.Waking.{Waking}
use Rattle.moving.specs.declared.waking.Waking.TheVariants.{On, Opening}

-- the place that moves
abbrev pub number_of : Agent → Motion → ℕ
number_of a (Leave d) = a.home
number_of a (Arrive d) = a.home
number_of a Dissolve = a.home
number_of a (Put n) = n

-- the place that it is linked to
abbrev pub goal_of : Motion → ℕ
goal_of (Leave d) = 0
goal_of (Arrive d) = d
goal_of Dissolve = 0
goal_of (Put n) = 0

-- who is woken: `to` is the place that the motion links to
abbrev pub waking_of : Agent → Motion → Place → Set → Waking
waking_of a (Leave d) to used = On a.remembered a.home a.home
waking_of a (Arrive d) to used = On a.home d (cond (member used d && eqb to.way 0) to.parent d)
waking_of a Dissolve to used = Opening a.remembered a.chosen
waking_of a (Put n) to used = On a.remembered a.remembered a.remembered

-- the locks once those of p and q are released
abbrev pub free_locks : List ℕ → ℕ → ℕ → List ℕ
free_locks locks p q = tab (released (λ j. get_or locks j 0) p q) 64 0

-- the agent once it came, opened or put
abbrev pub rested_of : Agent → Agent
rested_of a = at_stage a (rest_stage a) 0 0

abbrev pub leaving_of : Agent → ℕ → Site → Plan
leaving_of a d g = record {
  site = record {
    place = cond (ltb a.home 64) (with_way (with_parent g.place d) 1) g.place;
    touches = g.touches;
    locks = free_locks g.locks a.remembered a.home;
    used = g.used;
    order = g.order;
  };
  agent = at_stage (use_up a) 4 0 0;
  word = Left;
}

abbrev pub arriving_of : Agent → ℕ → Site → Plan
arriving_of a d g = record {
  site = record {
    place = cond (ltb a.home 64) (with_way g.place 0) g.place;
    touches = g.touches;
    locks = free_locks g.locks a.home d;
    used = g.used;
    order = latest a.home g.order;
  };
  agent = rested_of a;
  word = Came;
}

abbrev pub opening_of : Agent → Site → Plan
opening_of a g = record {
  site = record { place = g.place; touches = g.touches; locks = g.locks; used = removed g.used a.chosen; order = g.order };
  agent = rested_of (use_up a);
  word = Opened;
}

abbrev pub putting_of : Agent → ℕ → Site → Plan
putting_of a n g = record {
  site = record {
    place = cond (ltb n 64) (linked_place (plain_name (name_of a)) a.remembered) g.place;
    touches = cond (ltb n 64) 0 g.touches;
    locks = free_locks g.locks a.remembered n;
    used = inserted g.used n;
    order = latest n g.order;
  };
  agent = rested_of (use_up a);
  word = word.Put;
}

-- what a motion of agent a does on this site
abbrev pub plan_of : Agent → Motion → Site → Plan
plan_of a (Leave d) g = leaving_of a d g
plan_of a (Arrive d) g = arriving_of a d g
plan_of a Dissolve g = opening_of a g
plan_of a (Put n) g = putting_of a n g
