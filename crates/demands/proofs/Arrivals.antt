-- The log of arrivals beside the row: every call keeps it so.
-- Idea: came and opened let some arrive again, put lets one arrive, and no other answer changes the row.
use Rattle.std.specs.Prelude.{◌≡◌, ◌≢◌, Bool, ◌||◌, List, [], ◌∷◌, ◌++◌, ℕ, ◌<◌, eqb}
use Rattle.std.proofs.Math.Path.{refl, sym, ap, subst}
use Rattle.std.proofs.Common.{◌∙◌, append-nil, eqb-true}
use Rattle.std.proofs.Math.Bool.{true, false, not}
use Rattle.order.specs.Row.{keep, later, latest, occurs, loaded_row}
use Rattle.order.proofs.RowLaws.{occurs_append}
use Rattle.table.specs.Base.{upd}
use Rattle.table.proofs.BaseLaws.{Told, yea, nay, told, and_left, and_right}
use Rattle.table.specs.Bounds.{Sized}
use Rattle.table.specs.Cell.{Land, State, cell_of}
use Rattle.table.specs.declared.Agent.{Agent}
use Rattle.table.specs.declared.Cell.{Cell}
use Rattle.meaning.specs.Step.{Outcome, still, step, put, leave, dissolve, arrive, child_of}
use Rattle.meaning.specs.Run.{Call, step_call, touch_call, commit_call, agent_of, Called, by_step, by_touch, made, turned_away, step_of, call_of, run}
use Rattle.meaning.proofs.AskLaws.{committed}
use Rattle.meaning.specs.Touch.{counted, untouched}
use Rattle.demands.specs.Reading.{parent_in}
use Rattle.demands.specs.Invariant.{Sound, Inv}
use Rattle.demands.proofs.Facts.{parent_read}
use Rattle.demands.proofs.Stages.{ok_at, ok_given, home_given, both_open}
use Rattle.demands.proofs.OpeningPlaces.{linked_not_floor}
use Rattle.demands.specs.Ways.{Way, is_done, is_asleep, held_first, held_second, held_own, held_destination, looks_up, looks_at_home}
use Rattle.demands.specs.Ways.{sleeps_alone, takes_first, goes_back, sleeps_stuck, takes_second, puts, sleeps_full, gives_up, enters, exits, opens}
use Rattle.demands.specs.Ways.{takes_own, takes_destination, comes}
use Rattle.demands.proofs.StepWays.{step_way}
use Rattle.demands.proofs.Touching.{touched, touch_back}
use Rattle.demands.proofs.Always.{step_back, sized_called, inv_called}
use Rattle.demands.proofs.RunKeeps.{call_made, call_refused}
use Rattle.demands.specs.FirstCome.{lasts, arrived_by, arrived_at, arrivals}
use Rattle.demands.proofs.ArrivalLaws.{row_again, row_came, row_arrived}

-- the row is that of the log, and every place in use but the floor has come
pub record Logged (l : Land) (log : List ℕ) : Type 0 where
  pub row : l.order ≡ loaded_row (lasts log)
  pub came : (q : ℕ) → l.used q ≡ true → q ≢ 0 → occurs q log ≡ true

-- what came stays in the log
still_came : (q : ℕ) (log more : List ℕ) → occurs q log ≡ true → occurs q (log ++ more) ≡ true
still_came q log more o = occurs_append q log more ∙ rw o

-- nobody arrives
none_came : {l : Land} {log : List ℕ} → Logged l log → Logged l (log ++ [])
none_came {l} {log} m = subst (Logged l) (sym (append-nil log)) m

-- ---- one step

module _ (c : State) (i : Sound c) (x : ℕ) (g : c.given x ≡ true) (log : List ℕ) (m : Logged c.land log) where
  abbrev a : Agent
  a = c.agent x

  -- left: the place keeps its position until it comes
  left_logged : (d : ℕ) → Logged (leave c x a d).cell.land (log ++ [])
  unfolding leave
  left_logged d = none_came (record { row = m.row; came = m.came })

  -- came: the agent's own place arrives
  came_logged : a.home ≢ 0 → (d : ℕ) → Logged (arrive c x a d).cell.land (log ++ (a.home ∷ []))
  unfolding arrive
  came_logged n d = record {
    row = ap (latest a.home) m.row ∙ row_came a.home log (m.came a.home (home_given c i x g) n);
    came = λ q u z. still_came q log (a.home ∷ []) (m.came q u z);
  }

  -- opened: the children of the chosen place arrive, in the order of their last arrivals
  opened_logged : (p t : ℕ) → t ≢ 0 → Logged (dissolve c x a p t).cell.land (log ++ keep (child_of c.land t) (lasts log))
  unfolding dissolve
  opened_logged p t n = record {
    row = ap (later (child_of c.land t)) m.row ∙ row_again (child_of c.land t) log known;
    came = λ q u z. still_came q log (keep (child_of c.land t) (lasts log)) (m.came q (and_right (not (eqb q t)) (c.land.used q) u) z);
  }
    where
      -- a child is in use and is not the floor
      known : (q : ℕ) → child_of c.land t q ≡ true → occurs q log ≡ true
      known q e = m.came q u (λ z. n (sym (eqb-true (c.land.place q).parent t (and_right (c.land.used q) _ e))
          ∙ sym (parent_read c.land q u) ∙ ap (parent_in c.land) z ∙ i.places.floor_parent))
        where
          u : c.land.used q ≡ true
          u = and_left (c.land.used q) _ e

  -- put: the new place arrives
  put_logged : (n : ℕ) → n < 64 → Logged (put c x a n).cell.land (log ++ (n ∷ []))
  unfolding put upd occurs
  put_logged n low = record {
    row = ap (latest n) m.row ∙ row_arrived n log low;
    came = λ q u z. occurs_append q log (n ∷ []) ∙ here q u z (told (eqb q n));
  }
    where
      also : (b : Bool) → (b || true) ≡ true
      also true = refl
      also false = refl

      here : (q : ℕ) → upd c.land.used n true q ≡ true → q ≢ 0 → Told (eqb q n) → (occurs q log || (eqb q n || false)) ≡ true
      here q u z (yea e) = rw e (also (occurs q log))
      here q u z (nay e) = rw (m.came q (rw e at u) z)

  -- every way a step can go
  way_logged : {wish : ℕ} {o : Outcome} → Way c x wish o → Logged o.cell.land (log ++ arrived_by c x o.word log)
  unfolding still
  way_logged (is_done _) = none_came m
  way_logged (is_asleep _) = none_came m
  way_logged (held_first _ _) = none_came m
  way_logged (held_second _ _ _ _ _) = none_came m
  way_logged (held_own _ _) = none_came m
  way_logged (held_destination _ _) = none_came m
  way_logged (looks_up _ _ _) = none_came m
  way_logged (looks_at_home _ _) = none_came m
  way_logged (sleeps_alone _ _ _) = none_came m
  way_logged (takes_first _ _) = none_came m
  way_logged (goes_back _ _) = none_came m
  way_logged (sleeps_stuck _ _ _ _) = none_came m
  way_logged (takes_second _ _ _ _ _ _ _) = none_came m
  way_logged (puts n _ _ f low) = unfold put in
      subst (λ (r : ℕ). Logged (put c x a n).cell.land (log ++ (r ∷ []))) (sym f) (put_logged n low)
  way_logged (sleeps_full _ _ _) = none_came m
  way_logged (gives_up _ _) = none_came m
  way_logged (enters _ _ _) = unfold leave in left_logged a.chosen
  way_logged (exits _ _ _) = unfold leave in left_logged (parent_in c.land a.remembered)
  way_logged (opens s k _) = unfold dissolve in opened_logged a.remembered a.chosen (linked_not_floor i.places (both_open c i x g s k).under.link)
  way_logged (takes_own _ _) = none_came m
  way_logged (takes_destination _ _) = none_came m
  way_logged (comes s) = unfold arrive in came_logged (ok_at 6 s (ok_given c i x g)).0.placed (parent_in c.land a.home)

-- ---- calls on a table

-- what a call leaves and what it adds to the log
abbrev Goes_on : Cell → List ℕ → Call → Called → Type 0
Goes_on t log k r = Logged (cell_of r.cell).land (log ++ arrived_at (cell_of t) k r.reply log)

-- the step of the agent that a call names, a step call or a commit
step_logged : (t : Cell) (k : Call) (wish : ℕ) → Sized t → Inv (cell_of t) → (log : List ℕ) → Logged (cell_of t).land log
    → Goes_on t log k (by_step (step_of t (agent_of k) wish))
unfolding made turned_away
step_logged t k wish z i log m = go (told ((cell_of t).given (agent_of k)))
  where
    go : Told ((cell_of t).given (agent_of k)) → Goes_on t log k (by_step (step_of t (agent_of k) wish))
    go (yea g) = let x : ℕ = agent_of k in
        subst (λ s. Goes_on t log k (by_step s)) (sym (call_made t i x wish g))
        (subst (λ (d : State). Logged d.land (log ++ arrived_by (cell_of t) x (step (cell_of t) x wish).word log)) (sym (step_back t z i.sound x g wish))
        (way_logged (cell_of t) i.sound x g log m (step_way (cell_of t) i.sound x g wish)))
    go (nay g) = subst (λ s. Goes_on t log k (by_step s)) (sym (call_refused t i (agent_of k) wish g)) (none_came m)

call_logged : (t : Cell) (k : Call) → Sized t → Inv (cell_of t) → (log : List ℕ) → Logged (cell_of t).land log → Goes_on t log k (call_of t k)
unfolding call_of turned_away counted untouched
call_logged t (step_call x wish) z i log m = step_logged t (step_call x wish) wish z i log m
call_logged t (touch_call q n) z i log m = touched (λ s. Goes_on t log (touch_call q n) (by_touch s)) t q n (λ _. none_came m)
    (λ u _. subst (λ (d : State). Logged d.land (log ++ [])) (sym (touch_back t q n z u)) (none_came m))
call_logged t (commit_call x wish word woken place) z i log m =
    committed (λ s. Goes_on t log (commit_call x wish word woken place) (by_step s)) t x wish word woken place
    (step_logged t (commit_call x wish word woken place) wish z i log m) (none_came m)

-- the log goes on beside the row over every list of calls
pub run_logged : (calls : List Call) (t : Cell) → Sized t → Inv (cell_of t) → (log : List ℕ) → Logged (cell_of t).land log
    → Logged (cell_of (run t calls)).land (arrivals t log calls)
unfolding run arrivals
run_logged [] t z i log m = m
run_logged (k ∷ calls) t z i log m = run_logged calls (call_of t k).cell (sized_called t k z) (inv_called t k z i) _ (call_logged t k z i log m)
