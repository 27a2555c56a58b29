-- What each way that a step can go changes, by the word of its answer, and that it changes no more.
-- Each way writes one agent anew and some locks, or moves, wakes and releases as its sentence says; soundness gives that the locks which it
-- releases are all of the agent's.
use Rattle.std.specs.Prelude.{◌≡◌, ◌≢◌, ◌⊎◌, true, cond, ℕ, ◌≤◌, ◌<◌, eqb}
use Rattle.std.proofs.Math.Path.{refl, sym, ap, subst}
use Rattle.std.proofs.Common.{◌∙◌, inl, inr, arith}
use Rattle.std.proofs.Math.Bool.{false}
use borrow.Author.Tests.{eqb-true, eqb-false, eq-eqb, ne_eqb}
use Rattle.table.specs.Base.{upd}
use Rattle.table.proofs.BaseLaws.{Told, yea, nay, told, clash, eq?, upd_same, upd_at, upd_other}
use Rattle.table.proofs.FreshLaws.{fresh_unused}
use Rattle.table.specs.Cell.{Land, State, none, fresh_number, has_action, kind_of, exit_kind, open_kind}
use Rattle.table.specs.Sound.{second_place}
use Rattle.table.specs.declared.Place.{Place}
use Rattle.table.specs.declared.Agent.{Agent}
use Rattle.meaning.specs.declared.Word.{Word}
use Rattle.meaning.specs.declared.Word.TheVariants.{Looked, Took, Back, Slept, Left, Came, Opened, Put}
use Rattle.meaning.specs.Answers.{Did}
use Rattle.meaning.specs.Update.{at_stage, use_up, with_locks, with_agent, released}
use Rattle.meaning.specs.Step.{Outcome, still, put, leave, dissolve, arrive, wake, asleep_on, destination_of, beyond}
use Rattle.demands.specs.ByWord.{used_up, stage_by, remembered_by, chosen_by, Stepped}
use Rattle.demands.specs.NoMore.{OnlyAgent, Returned, needed, Waking, Dissolved, is_woken, is_awake, sleeps_elsewhere, around}
use Rattle.demands.specs.NoMore.{ByTaking, ByReleasing, ByLeaving, ByComing, ByOpening, ByPutting, Changes}
use Rattle.demands.specs.Reading.{parent_in, agent_in}
use Rattle.demands.proofs.ReadingLaws.{agent_given}
use Rattle.demands.specs.Invariant.{Sound, Holds, Kept, free, kept}
use Rattle.demands.specs.Ways.{Way, takes_lock, gives_back, is_done, is_asleep, held_first, held_second, held_own, held_destination, looks_up}
use Rattle.demands.specs.Ways.{looks_at_home, sleeps_alone, takes_first, goes_back, sleeps_stuck, takes_second, puts, sleeps_full, gives_up, enters, exits, opens}
use Rattle.demands.specs.Ways.{takes_own, takes_destination, comes}
use Rattle.demands.proofs.Facts.{parent_read, link_used}
use Rattle.demands.proofs.Actions.{has_some}
use Rattle.demands.proofs.Stages.{ok_at, ok_given, home_given, holds_none, returned_two, returned_three, returned_move, returned_six}
use Rattle.demands.proofs.StepWays.{kind_given}
use Rattle.demands.proofs.SteppedLaws.{stepped_at, stepped_used, stepped_held, stepped_asleep, stepped_done, looks_around, looks_inside}
use Rattle.demands.proofs.SteppedLaws.{sleeps_at_home, sleeps_around, sleeps_nowhere, took_near, took_travelling, took_none, took_choice}
use Rattle.demands.proofs.OpeningAgents.{dissolved}
use Rattle.demands.proofs.OpeningLocks.{Opener, opener, own_freed, moved_freed, others_kept}

-- ---- waking

-- each agent that is given, once all asleep on p, q or r are woken
waking : (c : State) (p q r y : ℕ) → c.given y ≡ true → Waking p q r (c.agent y) (wake c p q r y)
unfolding wake asleep_on
waking c p q r y g = go (told (eqb (c.agent y).stage 7)) (told (eqb (c.agent y).remembered p)) (told (eqb (c.agent y).remembered q))
    (told (eqb (c.agent y).remembered r))
  where
    go : Told (eqb (c.agent y).stage 7) → Told (eqb (c.agent y).remembered p) → Told (eqb (c.agent y).remembered q)
        → Told (eqb (c.agent y).remembered r) → Waking p q r (c.agent y) (wake c p q r y)
    go (nay s) _ _ _ = rw (g, s) (is_awake (eqb-false _ _ s))
    go (yea s) (yea e) _ _ = rw (g, s, e) (is_woken (eqb-true _ _ s) (inl (eqb-true _ _ e)))
    go (yea s) (nay e) (yea f) _ = rw (g, s, e, f) (is_woken (eqb-true _ _ s) (inr (inl (eqb-true _ _ f))))
    go (yea s) (nay e) (nay f) (yea k) = rw (g, s, e, f, k) (is_woken (eqb-true _ _ s) (inr (inr (eqb-true _ _ k))))
    go (yea s) (nay e) (nay f) (nay k) = rw (g, s, e, f, k) (sleeps_elsewhere (eqb-true _ _ s) (eqb-false _ _ e) (eqb-false _ _ f) (eqb-false _ _ k))

-- ---- the lock that a step takes

module _ (l : Land) (a : Agent) (chosen : ℕ) where
  needed_first : a.stage ≡ 1 → needed l a chosen ≡ a.remembered
  needed_first s = rw (ap (λ (n : ℕ). eqb n 1) s)

  needed_second : a.stage ≡ 2 → needed l a chosen ≡ second_place (kind_of a) a.home chosen
  needed_second s = rw (ap (λ (n : ℕ). eqb n 1) s, ap (λ (n : ℕ). eqb n 2) s)

  needed_own : a.stage ≡ 4 → needed l a chosen ≡ a.home
  needed_own s = rw (ap (λ (n : ℕ). eqb n 1) s, ap (λ (n : ℕ). eqb n 2) s, ap (λ (n : ℕ). eqb n 4) s)

  needed_destination : a.stage ≡ 5 → needed l a chosen ≡ (l.place a.home).parent
  needed_destination s = rw (ap (λ (n : ℕ). eqb n 1) s, ap (λ (n : ℕ). eqb n 2) s, ap (λ (n : ℕ). eqb n 4) s)

-- the chosen place that is kept gives the second place: for open it is the choice, else the second place does not ask
second_kept : (kind home q : ℕ) → second_place kind home (cond (eqb kind exit_kind) 0 q) ≡ second_place kind home q
second_kept kind home q = go (told (eqb kind open_kind))
  where
    go : Told (eqb kind open_kind) → second_place kind home (cond (eqb kind exit_kind) 0 q) ≡ second_place kind home q
    go (yea e) = let k = eqb-true kind open_kind e in rw (e, ne_eqb kind exit_kind (λ z. omega arith))
    go (nay e) = rw e

module _ (c : State) (i : Sound c) (x : ℕ) (g : c.given x ≡ true) where
  -- ---- one agent and some locks

  only_agent : (a : Agent) (lock : ℕ → ℕ) → OnlyAgent c x (with_locks (with_agent c x a) lock)
  only_agent a lock = record { land = refl; touches = refl; others = λ y n. upd_other c.agent x y a n }

  -- what holds of the agent written anew holds of agent x after
  own : {word : Word} {wish : ℕ} (f : ℕ → Agent) (a : Agent) → Stepped word c.land wish (c.agent x) a
      → Stepped word c.land wish (c.agent x) (upd f x a x)
  own {word} {wish} f a = subst (Stepped word c.land wish (c.agent x)) (sym (upd_same f x a))

  taking : (q stage remembered chosen : ℕ) → c.lock q ≡ none
      → needed c.land (c.agent x) chosen ≡ q
      → ByTaking c x (takes_lock c x q stage remembered chosen)
  taking q stage remembered chosen f e = record {
    only = only_agent (at_stage (c.agent x) stage remembered chosen) (upd c.lock q x);
    was_free = ap c.lock at ∙ f;
    taken = ap (upd c.lock q x) at ∙ upd_same c.lock q x;
    locks = λ r n. upd_other c.lock q r x (λ z. n (z ∙ sym at));
  }
    where
      at : needed c.land (c.agent x) ((takes_lock c x q stage remembered chosen).agent x).chosen ≡ q
      at = ap (λ (a : Agent). needed c.land (c.agent x) a.chosen) (upd_same c.agent x (at_stage (c.agent x) stage remembered chosen)) ∙ e

  releasing : (p q stage remembered : ℕ) → Returned c x (released c.lock p q) → ByReleasing c x (gives_back c x p q stage remembered)
  releasing p q stage remembered r = record { only = only_agent _ _; locks = r }

  -- an agent that holds nothing has no lock to give back
  idle : (c.agent x).stage ≤ 1 → Returned c x c.lock
  idle s = record { others = λ r n. refl; ours = λ r u e. go r e (i.locks r u) }
    where
      go : (r : ℕ) → c.lock r ≡ x → Kept c.land c.lock (agent_in c) r → c.lock r ≡ none
      go r e (free f) = f
      go r e (kept y h k) = absurd (holds_none s
          (subst (λ (a : Agent). Holds c.land a r) (ap (agent_in c) (sym h.by ∙ e) ∙ agent_given c x g) k))

  -- ---- leaving and coming

  -- at stage 2 it has an action, and at stage 3
  ready : (c.agent x).stage ≡ 2 → has_action (c.agent x) ≡ true
  ready s = has_some (c.agent x) (ok_at 2 s (ok_given c i x g)).0.some

  acts : (c.agent x).stage ≡ 3 → has_action (c.agent x) ≡ true
  acts s = has_some (c.agent x) (ok_at 3 s (ok_given c i x g)).0.some

  leaving : (to : ℕ) → to ≡ destination_of c.land (c.agent x) → (c.agent x).stage ≡ 3 → kind_of (c.agent x) ≤ exit_kind
      → ByLeaving c x (leave c x (c.agent x) to).cell
  unfolding leave
  leaving to e s k = record {
    place = record {
      name = ap (λ (p : Place). p.name) here;
      parent = ap (λ (p : Place). p.parent) here ∙ e;
      way = ap (λ (p : Place). p.way) here;
      others = λ q n. upd_other c.land.place (c.agent x).home q _ n;
    };
    locks = returned_move c i x g s k;
    others = λ y n h. subst (Waking _ _ _ (c.agent y)) (sym (upd_other _ x y _ n)) (waking c _ _ _ y h);
  }
    where
      here : (leave c x (c.agent x) to).cell.land.place (c.agent x).home ≡ record { name = (c.land.place (c.agent x).home).name; parent = to; way = 1 }
      here = unfold leave in upd_same c.land.place (c.agent x).home _

  -- to is the destination, read as it is
  coming : (to : ℕ) → to ≡ around c x → Returned c x (released c.lock (c.agent x).home to) → ByComing c x (arrive c x (c.agent x) to).cell
  unfolding arrive
  coming to e back = record {
    place = record {
      name = ap (λ (p : Place). p.name) here;
      parent = ap (λ (p : Place). p.parent) here;
      way = ap (λ (p : Place). p.way) here;
      others = λ q n. upd_other c.land.place (c.agent x).home q _ n;
    };
    locks = back;
    others = λ y n h. subst (Waking _ _ _ (c.agent y)) (sym (upd_other _ x y _ n)) (read y (waking c _ _ _ y h));
  }
    where
      here : (arrive c x (c.agent x) to).cell.land.place (c.agent x).home
          ≡ record { name = (c.land.place (c.agent x).home).name; parent = around c x; way = 0 }
      here = unfold arrive in upd_same c.land.place (c.agent x).home _

      read : (y : ℕ) {b : Agent} → Waking (c.agent x).home to (beyond c.land to) (c.agent y) b
          → Waking (c.agent x).home (around c x) (beyond c.land (around c x)) (c.agent y) b
      read y {b} = subst (λ (q : ℕ). Waking (c.agent x).home q (beyond c.land q) (c.agent y) b) e

  -- ---- opening

  module _ (o : Opener c x (c.agent x).remembered (c.agent x).chosen) where
    abbrev p : ℕ
    p = (c.agent x).remembered

    abbrev t : ℕ
    t = (c.agent x).chosen

    opening : ByOpening c x (dissolve c x (c.agent x) p t).cell
    unfolding dissolve
    opening = record {
      dissolved = rw (link_used c.land t o.under.link, eq-eqb t t refl);
      children = λ q u n e. rw (u, ne_eqb q t n, eq-eqb (c.land.place q).parent t e);
      places = λ q n m. place q n m (told (c.land.used q));
      own_locks = λ q u e. own_freed i o q u e;
      moved_locks = λ q u e. moved_freed i o q u e;
      locks = λ q n e. others_kept i o q n e;
      others = λ y n h. subst (Dissolved p t (c.agent y)) (sym (upd_other _ x y _ n ∙ rw h)) (dissolved p t (c.agent y));
    }
      where
        place : (q : ℕ) → q ≢ t → (c.land.place q).parent ≢ t → Told (c.land.used q)
            → (dissolve c x (c.agent x) p t).cell.land.place q ≡ c.land.place q
        place q n m (yea u) = rw (u, ne_eqb q t n, ne_eqb (c.land.place q).parent t m)
        place q n m (nay u) = rw u

  -- ---- putting

  -- n is the smallest unused number
  putting : (n : ℕ) → fresh_number c.land.used ≡ n → n < 64 → (c.agent x).stage ≡ 2 → ByPutting c x (put c x (c.agent x) n).cell
  unfolding put
  putting n f small s = record {
    new_place = upd_at c.land.place n _ _ f;
    no_agents = λ y h z. clash (home_given c i y h) (ap c.land.used z ∙ unused);
    no_places = λ q u z. clash (i.places.parent_used q) (ap c.land.used (parent_read c.land q u ∙ z) ∙ unused);
    places = λ q d. upd_other c.land.place n q _ (λ z. d (z ∙ sym f));
    new_lock = upd_at _ n _ none f;
    own_locks = λ q u e. given_back q u e (eq? q n) (eq? q (c.agent x).remembered);
    locks = λ q d e. upd_other _ n q none (λ z. d (z ∙ sym f))
        ∙ upd_other c.lock (c.agent x).remembered q none (λ z. e (ap c.lock z ∙ (ok_at 2 s (ok_given c i x g)).1.by));
    others = λ y d h. subst (Waking _ _ _ (c.agent y)) (sym (upd_other _ x y _ d)) (waking c _ _ _ y h);
  }
    where
      unused : c.land.used (fresh_number c.land.used) ≡ false
      unused = fresh_unused c.land.used (subst (λ (m : ℕ). m < 64) (sym f) small)

      given_back : (q : ℕ) → c.land.used q ≡ true → c.lock q ≡ x → (q ≡ n) ⊎ (q ≢ n)
          → (q ≡ (c.agent x).remembered) ⊎ (q ≢ (c.agent x).remembered) → released c.lock (c.agent x).remembered n q ≡ none
      given_back q u e (inl z) _ = upd_at _ n q none z
      given_back q u e (inr d) (inl z) = upd_other _ n q none d ∙ upd_at c.lock (c.agent x).remembered q none z
      given_back q u e (inr d) (inr m) = upd_other _ n q none d
          ∙ (sym (upd_other (upd c.lock (c.agent x).remembered none) (c.agent x).remembered q none m) ∙ (returned_two c i x g s).ours q u e)

  -- ---- every way

  module _ (wish : ℕ) where
    abbrev l : Land
    l = c.land

    abbrev a : Agent
    a = c.agent x

    known : a.stage ≡ 3 → l.used a.remembered ≡ true
    known s = (ok_at 3 s (ok_given c i x g)).0.known

    destination : parent_in l a.home ≡ (l.place a.home).parent
    destination = parent_read l a.home (home_given c i x g)

    -- x goes on to a stage, and with its action used up
    goes : (word : Word) (f : ℕ → Agent) (stage remembered chosen : ℕ) → used_up word ≡ 0
        → stage ≡ stage_by word a (at_stage a stage remembered chosen) → remembered_by word l a ≡ remembered → chosen_by word l a wish ≡ chosen
        → Stepped word l wish a (upd f x (at_stage a stage remembered chosen) x)
    goes word f stage remembered chosen u s r q = own f (at_stage a stage remembered chosen)
        (stepped_at word l wish a stage remembered chosen u s (sym r) (sym q))

    uses : (word : Word) (f : ℕ → Agent) (stage : ℕ) → has_action a ≡ true → used_up word ≡ 1 → stage ≡ stage_by word a (at_stage (use_up a) stage 0 0)
        → 0 ≡ remembered_by word l a → 0 ≡ chosen_by word l a wish → Stepped word l wish a (upd f x (at_stage (use_up a) stage 0 0) x)
    uses word f stage e u s r q = own f (at_stage (use_up a) stage 0 0) (stepped_used word l wish a stage e u s r q)

    pub way_changes : {o : Outcome} → Way c x wish o → Changes (Did o.word o.woken) c x wish o.cell
    unfolding still put leave dissolve arrive
    way_changes (is_done _) = (stepped_done l wish a, refl)
    way_changes (is_asleep _) = (stepped_asleep l wish a, refl)
    way_changes (held_first _ _) = (stepped_held l wish a, refl)
    way_changes (held_second _ _ _ _ _) = (stepped_held l wish a, refl)
    way_changes (held_own _ _) = (stepped_held l wish a, refl)
    way_changes (held_destination _ _) = (stepped_held l wish a, refl)
    way_changes (looks_up _ k _) = (
      goes Looked _ _ _ _ refl refl (looks_around l wish a k ∙ sym destination) refl,
      record { only = only_agent _ _; locks = refl },
    )
    way_changes (looks_at_home _ k) = (
      goes Looked _ _ _ _ refl refl (looks_inside l wish a k (kind_given c i x g)) refl,
      record { only = only_agent _ _; locks = refl },
    )
    way_changes (sleeps_alone s _ _) = (
      goes Slept _ _ _ _ refl refl (sleeps_at_home l wish a s) refl,
      record { only = only_agent _ _; locks = idle (omega arith) },
    )
    way_changes (takes_first s f) = (
      goes Took _ _ _ _ refl (omega arith) (took_near l wish a 1 refl s) (took_none l wish a 1 refl s),
      taking _ _ _ _ f (needed_first l a 0 s),
    )
    way_changes (goes_back s _) = (goes Back _ _ _ _ refl refl refl refl, releasing _ _ _ _ (returned_two c i x g s))
    way_changes (sleeps_stuck s k _ _) = (
      goes Slept _ _ _ _ refl refl (sleeps_around l wish a s k) refl,
      releasing _ _ _ _ (returned_two c i x g s),
    )
    way_changes (takes_second q s _ _ e _ f) = (
      goes Took _ _ _ _ refl (omega arith) (took_near l wish a 2 refl s) (took_choice l wish a q s e),
      taking _ _ _ _ f (needed_second l a _ s ∙ second_kept (kind_of a) a.home q),
    )
    way_changes (puts n s _ f small) = (uses Put _ _ (ready s) refl refl refl refl, putting n f small s)
    way_changes (sleeps_full s k _) = (
      goes Slept _ _ _ _ refl refl (sleeps_nowhere l wish a s k) refl,
      releasing _ _ _ _ (returned_two c i x g s),
    )
    way_changes (gives_up s _) = (goes Back _ _ _ _ refl refl refl refl, releasing _ _ _ _ (returned_three c i x g s))
    way_changes (enters s k _) = (uses Left _ _ (acts s) refl refl refl refl, leaving _ (rw k) s (omega arith))
    way_changes (exits s k _) = (
      uses Left _ _ (acts s) refl refl refl refl,
      leaving _ (parent_read l a.remembered (known s) ∙ rw k) s (omega arith),
    )
    way_changes (opens s k _) = (uses Opened _ _ (acts s) refl refl refl refl, opening (opener c i x g s k))
    way_changes (takes_own s f) = (
      goes Took _ _ _ _ refl (omega arith) (took_travelling l wish a 4 refl s) (took_none l wish a 4 refl s),
      taking _ _ _ _ f (needed_own l a 0 s),
    )
    way_changes (takes_destination s f) = (
      goes Took _ _ _ _ refl (omega arith) (took_travelling l wish a 5 refl s) (took_none l wish a 5 refl s),
      taking _ _ _ _ f (needed_destination l a 0 s ∙ sym destination),
    )
    way_changes (comes s) = (goes Came _ _ _ _ refl refl refl refl, coming _ destination (returned_six c i x g s))
