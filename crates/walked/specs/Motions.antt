-- What moving one place makes of a cell: the sum of what the steps in which a place moves have in common.
use Rattle.std.specs.Prelude.{ℕ}
use Rattle.table.specs.Base.{upd}
use Rattle.table.specs.Cell.{State}
use Rattle.table.specs.declared.Place.{Place}
use Rattle.table.specs.declared.Agent.{Agent}
use Rattle.meaning.specs.declared.Word.{Word}
use Rattle.meaning.specs.Update.{with_places, with_land, with_locks, with_agents, released}
use Rattle.meaning.specs.Step.{Outcome, wake, woken_on}

-- place h becomes y, the locks of p and q are released, all asleep on p, q or r are woken, agent x becomes b
unfoldable pub move_place : State → ℕ → ℕ → Place → ℕ → ℕ → ℕ → Agent → Word → Outcome
move_place c x h y p q r b w = record {
  cell = with_land (with_locks (with_agents c (upd (wake c p q r) x b)) (released c.lock p q))
      (with_places c.land (upd c.land.place h y));
  word = w;
  woken = woken_on c p q r;
}
