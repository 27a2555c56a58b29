-- "Where no fitting wish is given, enter and open choose the qualifying place that has been under this parent longest": over every accepted file
-- and every list of calls, by the log of arrivals.
-- Idea: the chosen place stands before every other in the row, and the row is that of the log.
use Rattle.std.specs.Prelude.{◌≡◌, refl, ◌≢◌, ◌⊎◌, Bool, false, List, ℕ, ◌≤◌, ◌<◌, Ok, Err}
use Rattle.std.proofs.Math.Path.{sym, ap}
use Rattle.std.proofs.Common.{◌∙◌, subst, inl, inr, arith, ne_eqb}
use Rattle.std.proofs.Math.Bool.{true}
use Rattle.order.specs.Row.{occurs, position_of}
use Rattle.table.proofs.BaseLaws.{Told, yea, nay, told, clash, upd_same}
use Rattle.table.specs.Bounds.{Sized}
use Rattle.table.specs.Cell.{State, linked, kind_of, enter_kind, exit_kind, open_kind, holding, cell_of, table_of}
use Rattle.table.proofs.CellLaws.{sized_table}
use Rattle.table.specs.declared.Agent.{Agent}
use Rattle.table.specs.declared.Cell.{Cell}
use Rattle.meaning.specs.declared.Word.{Word}
use Rattle.meaning.specs.declared.Word.TheVariants.{Looked, Took, Held, Back, Slept, Left, Came, Opened, Put, Asleep, Done}
use Rattle.meaning.specs.Answers.{Answer}
use Rattle.meaning.specs.File.{load, accepted}
use Rattle.meaning.specs.Step.{Outcome, still, step, put, leave, dissolve, arrive, choice}
use Rattle.meaning.specs.Run.{Call, made, turned_away, step_of}
use Rattle.demands.specs.Invariant.{Inv}
use Rattle.demands.proofs.Facts.{link_used, fits_linked}
use Rattle.demands.proofs.Actions.{kind_of_lem}
use Rattle.demands.proofs.Stages.{ok_at, ok_given, fit_given}
use Rattle.demands.proofs.OpeningPlaces.{linked_not_floor}
use Rattle.demands.proofs.Chosen.{Chosen, the_wish, the_first, nothing_fits, choice_first}
use Rattle.demands.specs.Ways.{Way, is_done, is_asleep, held_first, held_second, held_own, held_destination, looks_up, looks_at_home}
use Rattle.demands.specs.Ways.{sleeps_alone, takes_first, goes_back, sleeps_stuck, takes_second, puts, sleeps_full, gives_up, enters, exits, opens}
use Rattle.demands.specs.Ways.{takes_own, takes_destination, comes}
use Rattle.demands.proofs.StepWays.{step_way}
use Rattle.demands.proofs.Always.{step_back}
use Rattle.demands.proofs.RunKeeps.{call_made, call_refused}
use Rattle.demands.specs.AfterCalls.{reached}
use Rattle.demands.proofs.DemandThree.{start_inv, reached_sized, reached_inv}
use Rattle.demands.specs.Fresh.{Fresh}
use Rattle.demands.proofs.LoadingFile.{accepted_fresh}
use Rattle.demands.proofs.LoadingLaws.{fresh_forth}
use Rattle.demands.proofs.LoadingOrder.{accepted_logged}
use Rattle.demands.proofs.Arrivals.{Logged, run_logged}
use Rattle.demands.proofs.ArrivalLaws.{arrival_came, row_first}
use Rattle.demands.specs.FirstCome.{places_in, arrivals, last_arrival, log_after, fits_in, TakesUnwished, chosen_by, FirstCome}

-- ---- a took at stage 2

is_took : Word → Bool
is_took Looked = false
is_took Took = true
is_took Held = false
is_took Back = false
is_took Slept = false
is_took Left = false
is_took Came = false
is_took Opened = false
is_took Put = false
is_took Asleep = false
is_took Done = false

-- an agent at stage 2 of enter or open that takes a lock has chosen a place
second_took : {c : State} {x wish : ℕ} {o : Outcome} → Way c x wish o → (c.agent x).stage ≡ holding → kind_of (c.agent x) ≢ exit_kind → is_took o.word ≡ true
    → (choice c.land (c.agent x) wish < 64) × ((o.cell.agent x).chosen ≡ choice c.land (c.agent x) wish)
unfolding still put leave dissolve arrive is_took
second_took (is_done s) e k w = clash w refl
second_took (is_asleep s) e k w = clash w refl
second_took (held_first s _) e k w = clash w refl
second_took (held_second s _ _ _ _) e k w = clash w refl
second_took (held_own s _) e k w = clash w refl
second_took (held_destination s _) e k w = clash w refl
second_took (looks_up s _ _) e k w = clash w refl
second_took (looks_at_home s _) e k w = clash w refl
second_took (sleeps_alone s _ _) e k w = clash w refl
second_took (takes_first s _) e k w = absurd (omega arith)
second_took (goes_back s _) e k w = clash w refl
second_took (sleeps_stuck s _ _ _) e k w = clash w refl
second_took {c} {x} {wish} (takes_second q s _ st ch l _) e k w =
    (subst (λ (n : ℕ). n < 64) (sym ch) l, ap (λ (a : Agent). a.chosen) (upd_same c.agent x _) ∙ rw (ne_eqb (kind_of (c.agent x)) exit_kind k) (sym ch))
second_took (puts q s _ _ _) e k w = clash w refl
second_took (sleeps_full s _ _) e k w = clash w refl
second_took (gives_up s _) e k w = clash w refl
second_took (enters s _ _) e k w = clash w refl
second_took (exits s _ _) e k w = clash w refl
second_took (opens s _ _) e k w = clash w refl
second_took (takes_own s _) e k w = absurd (omega arith)
second_took (takes_destination s _) e k w = absurd (omega arith)
second_took (comes s) e k w = clash w refl

-- the answer is took
says_took : Answer → Bool
says_took (Ok o) = is_took o.word
says_took (Err number) = false

module _ (t : Cell) (z : Sized t) (i : Inv (cell_of t)) (x wish : ℕ) (u : TakesUnwished t x wish) where
  abbrev c : State
  c = cell_of t

  says : says_took (step_of t x wish).answer ≡ true
  unfolding says_took is_took
  says = ap says_took u.took

  -- its agent is given
  given : c.given x ≡ true
  unfolding turned_away says_took
  given = go (told (c.given x))
    where
      go : Told (c.given x) → c.given x ≡ true
      go (yea g) = g
      go (nay g) = clash says (ap (λ s. says_took s.answer) (call_refused t i x wish g))

  word_took : is_took (step c x wish).word ≡ true
  unfolding made says_took
  word_took = sym (ap (λ s. says_took s.answer) (call_made t i x wish given)) ∙ says

  taken : (choice c.land (c.agent x) wish < 64) × (((step c x wish).cell.agent x).chosen ≡ choice c.land (c.agent x) wish)
  taken = second_took (step_way c i.sound x given wish) u.stage (no_exit u.kind) word_took
    where
      no_exit : (kind_of (c.agent x) ≡ enter_kind) ⊎ (kind_of (c.agent x) ≡ open_kind) → kind_of (c.agent x) ≢ exit_kind
      no_exit (inl e) z = omega arith
      no_exit (inr e) z = omega arith

  -- what it has chosen is its choice
  chosen_is : chosen_by t x wish ≡ choice c.land (c.agent x) wish
  unfolding made
  chosen_is = ap (λ s. ((cell_of s.cell).agent x).chosen) (call_made t i x wish given)
      ∙ ap (λ (d : State). (d.agent x).chosen) (step_back t z i.sound x given wish) ∙ taken.1

  -- a place that qualifies is linked, so it is in use and not the floor
  fits_link : (q : ℕ) → fits_in c x q ≡ true → linked c.land q ≡ true
  fits_link q e = fits_linked c.land _ _ _ _ q (kind_of_lem _ (fit_given c i.sound x given) (ok_at 2 u.stage (ok_given c i.sound x given)).0.some) e

  fits_small : (q : ℕ) → fits_in c x q ≡ true → q < 64
  fits_small q e = i.sound.places.small q (link_used c.land q (fits_link q e))

  -- it has come
  fits_came : {log : List ℕ} → Logged c.land log → (q : ℕ) → fits_in c x q ≡ true → occurs q log ≡ true
  fits_came m q e = m.came q (link_used c.land q (fits_link q e)) (linked_not_floor i.sound.places (fits_link q e))

  -- the choice is the first that came
  first_chosen : {log : List ℕ} → Logged c.land log → {q : ℕ} → Chosen c.land.order (fits_in c x) wish q → q < 64 → chosen_by t x wish ≡ q
      → FirstCome t log x wish
  first_chosen m (the_wish l e) s h = clash e u.unwished
  first_chosen m (nothing_fits w h) s k = absurd (omega arith)
  first_chosen {log} m (the_first q w l e before) s h = record {
    fits = ap (fits_in c x) h ∙ e;
    came = subst (λ (r : ℕ). 1 ≤ last_arrival r log) (sym h) (arrival_came q log (fits_came m q e));
    first = λ r f n. subst (λ (y : ℕ). last_arrival y log < last_arrival r log) (sym h)
        (row_first q r log (fits_came m q e) (fits_came m r f)
        (subst (λ (row : List ℕ). position_of q row < position_of r row) m.row (before r (fits_small r f) f (λ y. n (y ∙ sym h)))));
  }

-- ---- over every fresh cell whose places came as a log says, and every list of calls

module _ (c : State) (f : Fresh c) (log : List ℕ) (m : Logged c.land log) (calls : List Call) where
  -- the row after the calls is that of the log after them
  pub fresh_logged : Logged (cell_of (reached c calls)).land (arrivals (table_of c) log calls)
  fresh_logged = run_logged calls (table_of c) (sized_table c) (start_inv c f calls) log
      (subst (λ (d : State). Logged d.land log) (sym (fresh_forth c f)) m)

  -- a took at stage 2 of enter or open without a fitting wish chooses the qualifying place that came first
  pub fresh_first : (x wish : ℕ) → TakesUnwished (reached c calls) x wish → FirstCome (reached c calls) (arrivals (table_of c) log calls) x wish
  fresh_first x wish u = first_chosen (reached c calls) z i x wish u fresh_logged
      (choice_first _ _ _ _ _ wish) (taken (reached c calls) z i x wish u).0 (chosen_is (reached c calls) z i x wish u)
    where
      z : Sized (reached c calls)
      z = reached_sized c f calls

      i : Inv (cell_of (reached c calls))
      i = reached_inv c f calls

-- ---- over every accepted file and every list of calls

module _ (s : List ℕ) (c : State) (e : load s ≡ accepted c) (calls : List Call) where
  -- the row after the calls is that of the log
  pub reached_logged : Logged (cell_of (reached c calls)).land (log_after s c calls)
  reached_logged = fresh_logged c (accepted_fresh s c e) (places_in s) (accepted_logged s c e) calls

  -- a took at stage 2 of enter or open without a fitting wish chooses the qualifying place that came first
  pub first_come : (x wish : ℕ) → TakesUnwished (reached c calls) x wish → FirstCome (reached c calls) (log_after s c calls) x wish
  first_come = fresh_first c (accepted_fresh s c e) (places_in s) (accepted_logged s c e) calls
