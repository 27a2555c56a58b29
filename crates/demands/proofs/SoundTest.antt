-- Soundness as a test (refusal 10) and as a proposition: each follows from the other.
-- Idea: the test is a conjunction over places and agents; its parts are those of the proposition, one by one. A lock that is held is
-- claimed by the agent that has it, and a claim matches its lock.
use Rattle.std.specs.Prelude.{◌≡◌, refl, ◌≢◌, ◌&&◌, ◌||◌, ℕ, ◌<◌, eqb}
use Rattle.std.proofs.Common.{sym, ap, ◌∙◌, subst, arith, eqb-true, eq-eqb}
use Rattle.std.proofs.Math.Bool.{true}
use Rattle.table.specs.Base.{all_below, any_below, count_below, iter}
use Rattle.table.proofs.BaseLaws.{Told, yea, nay, told, and_left, and_right, all_yes, all_at, any_at, any_found}
use Rattle.table.specs.Bounds.{Bounded}
use Rattle.table.specs.Cell.{State, none, fresh_agent}
use Rattle.table.specs.Sound.{first_held, second_held_in, lock_is, claims, goes, agent_fits, agent_sound, stands, travellers_fit, place_fits}
use Rattle.table.specs.Sound.{place_sound, leads, core_sound, sound}
use Rattle.table.proofs.SoundParts.{sound_core, sound_touches, sound_order, parts_sound}
use Rattle.table.specs.declared.Agent.{Agent}
use Rattle.demands.specs.Reading.{agent_in}
use Rattle.demands.proofs.ReadingLaws.{agent_given}
use Rattle.demands.specs.Invariant.{Places, Fit, Away, Ok, ok8, Holds, Kept, free, kept, Travels, Sound}
use Rattle.demands.proofs.Facts.{below_64}
use Rattle.demands.proofs.Actions.{unused_none}
use Rattle.demands.proofs.Stages.{holds_given, ok_given, fit_given, home_given}
use Rattle.demands.proofs.GivenLaws.{agent_all}
use Rattle.demands.proofs.SoundTestActions.{fit_empty}
use Rattle.demands.proofs.SoundTestStages.{or_right, holds_true, first_holds, second_holds}
use Rattle.demands.proofs.SoundTestAgents.{lock_holds, agent_true, home_holds, locks_hold, row_fits, agent_holds}
use Rattle.demands.proofs.SoundTestPlaces.{leads_true, stands_true, places_hold}
use Rattle.demands.proofs.SoundTestTravellers.{travellers_true, away_holds, mover_holds, single_holds}

module _ (c : State) where
  -- ---- from the proposition to the test

  module _ (i : Sound c) where
    lock_true : (q : ℕ) → c.land.used q ≡ true → (eqb (c.lock q) none || any_below (claims c q) 64) ≡ true
    lock_true q u = go (i.locks q u)
      where
        claimed : (x : ℕ) → x < 64 → Holds c.land (agent_in c x) q → any_below (claims c q) 64 ≡ true
        claimed x l h =
            let g = holds_given c x h in
            any_at (claims c q) 64 x l (unfold claims in rw g
            (holds_true (c.agent x) c q (home_given c i x g) (subst (λ (a : Agent). Holds c.land a q) (agent_given c x g) h)))

        go : Kept c.land c.lock (agent_in c) q → (eqb (c.lock q) none || any_below (claims c q) 64) ≡ true
        go (free e) = rw (eq-eqb (c.lock q) none e)
        go (kept x h k) = or_right (eqb (c.lock q) none) (any_below (claims c q) 64) (claimed x h.small k)

    place_true : (q : ℕ) → place_sound c q ≡ true
    unfolding place_fits
    place_true q = go (told (c.land.used q))
      where
        go : Told (c.land.used q) → place_sound c q ≡ true
        go (yea u) = rw (lock_true q u, stands_true c.land i.places q u, travellers_true c i q u, u)
        go (nay e) = rw e

    agent_passes : (x : ℕ) → agent_sound c x ≡ true
    agent_passes x = go (told (c.given x))
      where
        go : Told (c.given x) → agent_sound c x ≡ true
        go (yea g) = rw g (agent_true c x (c.agent x) i.places (home_given c i x g) (fit_given c i x g) (ok_given c i x g))
        go (nay e) = rw e

    -- every place in use leads to the floor, as the test says it
    pub leads_all : (q : ℕ) → leads c q ≡ true
    leads_all q = go (told (c.land.used q))
      where
        go : Told (c.land.used q) → leads c q ≡ true
        go (yea u) = rw (u, leads_true c.land i.places q u)
        go (nay e) = rw e

    -- a sound cell passes the test
    core_true : core_sound c ≡ true
    unfolding core_sound
    core_true = rw (
      i.places.floor_used,
      all_yes (agent_sound c) 64 (λ x _. agent_passes x),
      all_yes (place_sound c) 64 (λ q _. place_true q),
      all_yes (leads c) 64 (λ q _. leads_all q),
    )

    pub sound_true : sound c ≡ true
    sound_true = parts_sound c core_true i.touched i.places.order

  -- ---- and back

  module _ (small : (q : ℕ) → c.land.used q ≡ true → q < 64) (few : (x : ℕ) → c.given x ≡ true → x < 64) (t : sound c ≡ true) where
    rest : (all_below (agent_sound c) 64 && (all_below (place_sound c) 64 && all_below (leads c) 64)) ≡ true
    unfolding core_sound
    rest = and_right (c.land.used 0) _ (sound_core c t)

    both : (all_below (place_sound c) 64 && all_below (leads c) 64) ≡ true
    both = and_right (all_below (agent_sound c) 64) _ rest

    floor : c.land.used 0 ≡ true
    unfolding core_sound
    floor = and_left (c.land.used 0) _ (sound_core c t)

    agent_fits_lem : (x : ℕ) → c.given x ≡ true → agent_fits c x (c.agent x) ≡ true
    agent_fits_lem x g = rw g at (all_at (agent_sound c) 64 x (few x g) (and_left (all_below (agent_sound c) 64) _ rest))

    place_fits_lem : (q : ℕ) → c.land.used q ≡ true → place_fits c q ≡ true
    place_fits_lem q u = rw u at (all_at (place_sound c) 64 q (small q u) (and_left (all_below (place_sound c) 64) _ both))

    leads_fits : (q : ℕ) → c.land.used q ≡ true → iter (λ r. (c.land.place r).parent) 64 q ≡ 0
    leads_fits q u = eqb-true _ _ (rw u at (all_at (leads c) 64 q (small q u) (and_right (all_below (place_sound c) 64) _ both)))

    -- the three parts of the test on a place
    locked : (q : ℕ) → c.land.used q ≡ true → (eqb (c.lock q) none || any_below (claims c q) 64) ≡ true
    unfolding place_fits
    locked q u = and_left (eqb (c.lock q) none || any_below (claims c q) 64) _ (place_fits_lem q u)

    others : (q : ℕ) → c.land.used q ≡ true
        → (stands q (c.land.place q) (c.land.used (c.land.place q).parent)
        && travellers_fit q (c.land.place q).way (count_below (goes c q) 64)) ≡ true
    unfolding place_fits
    others q u = and_right (eqb (c.lock q) none || any_below (claims c q) 64) _ (place_fits_lem q u)

    places : Places c.land
    places = places_hold c.land floor small (λ q u. and_left (stands q (c.land.place q) (c.land.used (c.land.place q).parent)) _
        (others q u)) leads_fits (sound_order c t)

    travellers : (q : ℕ) → c.land.used q ≡ true → travellers_fit q (c.land.place q).way (count_below (goes c q) 64) ≡ true
    travellers q u = and_right (stands q (c.land.place q) (c.land.used (c.land.place q).parent)) _ (others q u)

    -- ---- an agent that is given

    home_fits : (x : ℕ) → c.given x ≡ true → c.land.used (c.agent x).home ≡ true
    home_fits x g = home_holds c x (c.agent x) (agent_fits_lem x g)

    agent_is : (x : ℕ) → c.given x ≡ true → Ok c.land c.lock x (c.agent x)
    agent_is x g = agent_holds c x (c.agent x) small (few x g) (places.parent_used (c.agent x).home) away (agent_fits_lem x g)
      where
        away : Travels (c.agent x) → Away c.land (c.agent x)
        away v = subst (λ (a : Agent). c.land.used a.home ≡ true → Travels a → Away c.land a) (agent_given c x g)
            (away_holds c small few travellers x) (home_fits x g) v

    homes : (x : ℕ) → c.land.used (agent_in c x).home ≡ true
    homes = agent_all c (λ _ a. c.land.used a.home ≡ true) home_fits (λ x. floor)

    -- ---- a lock that is held is claimed, and the claim matches

    lock_kept : (q : ℕ) → c.land.used q ≡ true → Kept c.land c.lock (agent_in c) q
    lock_kept q u = go (told (eqb (c.lock q) none))
      where
        in_use : q ≢ none
        in_use z = absurd (omega (arith, small q u))

        by_agent : (x : ℕ) → x < 64 → c.given x ≡ true → lock_is c x q ≡ true → Holds c.land (c.agent x) q
            → Kept c.land c.lock (agent_in c) q
        by_agent x l g e h = kept x (lock_holds c x q l in_use e) (subst (λ (a : Agent). Holds c.land a q) (sym (agent_given c x g)) h)

        claim : (x : ℕ) → x < 64 → c.given x ≡ true → Told (eqb q (first_held (c.agent x)))
            → (eqb q (first_held (c.agent x)) || eqb q (second_held_in c (c.agent x))) ≡ true → Kept c.land c.lock (agent_in c) q
        claim x l g (yea e) _ =
            let z = eqb-true q (first_held (c.agent x)) e in
            by_agent x l g (ap (lock_is c x) z ∙ and_left (lock_is c x (first_held (c.agent x))) _ (locks_hold c x (c.agent x) (agent_fits_lem x g)))
            (first_holds (c.agent x) c.land q z in_use)
        claim x l g (nay e) f =
            let z = eqb-true q (second_held_in c (c.agent x)) (rw e at f) in
            by_agent x l g (ap (lock_is c x) z ∙ and_right (lock_is c x (first_held (c.agent x))) _ (locks_hold c x (c.agent x) (agent_fits_lem x g)))
            (second_holds (c.agent x) c q (home_fits x g) z in_use)

        go : Told (eqb (c.lock q) none) → Kept c.land c.lock (agent_in c) q
        go (yea e) = free (eqb-true _ _ e)
        go (nay e) =
            let f = any_found (claims c q) 64 (rw e at (locked q u)) in
            let k : (c.given f.0 && (eqb q (first_held (c.agent f.0)) || eqb q (second_held_in c (c.agent f.0))))
            ≡ true = unfold claims in f.1.1 in
            claim f.0 f.1.0 (and_left (c.given f.0) _ k) (told _) (and_right (c.given f.0) _ k)

    -- a cell that passes the test is sound
    pub sound_holds : Sound c
    sound_holds = record {
      places = places;
      homes = homes;
      fit = agent_all c (λ _ a. Fit a) (λ x g. row_fits c x (c.agent x) (agent_fits_lem x g)) (λ x. fit_empty fresh_agent refl refl);
      few = few;
      ok = agent_all c (λ x a. Ok c.land c.lock x a) agent_is (λ x. ok8 refl (unused_none fresh_agent refl));
      locks = lock_kept;
      mover = mover_holds c small few travellers;
      touched = sound_touches c t;
      single = λ x y. single_holds c small few travellers x y (homes x);
    }

-- a cell that reads nothing at and past 64 and passes the test is sound
pub sound_bounded : (c : State) → Bounded c → sound c ≡ true → Sound c
sound_bounded c b = sound_holds c (below_64 c.land.used b.used) (below_64 c.given b.given)
