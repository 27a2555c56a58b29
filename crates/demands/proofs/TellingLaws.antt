-- The place that an ask tells: the chosen one exactly for enter and open at stages 2 and 3 while the action fires and the word isn't back, and then
-- the place that the step enters or opens.
-- Idea: by the ways of a step; at any stage but 2 and 3, and for exit and release, no place is told.
use Rattle.std.specs.Prelude.{◌≡◌, refl, ◌⊎◌, ◌≢◌, true, false, not, ◌&&◌, ℕ, ◌≤◌, ◌<◌}
use Rattle.std.proofs.Math.Path.{sym, ap, subst}
use Rattle.std.proofs.Common.{◌∙◌, inl, inr}
use native.Mathlib.Omega.{arith}
use Rattle.std.proofs.Math.Dec.{eqb}
use borrow.Author.Tests.{eq-eqb, ne_eqb, lt-ltb, le-ltb}
use Rattle.table.proofs.BaseLaws.{Told, yea, nay, told, clash, upd_same}
use Rattle.table.specs.Cell.{Land, State, kind_of, enter_kind, open_kind, chooses, holding, holding_both}
use Rattle.table.proofs.KindLaws.{Kind, is_enter, is_exit, is_open, is_release}
use Rattle.table.specs.declared.Agent.{Agent}
use Rattle.table.specs.declared.Place.{Place}
use Rattle.meaning.specs.declared.Word.{Word}
use Rattle.meaning.specs.declared.Word.TheVariants.{Took, Held, Back, Slept, Left, Opened}
use Rattle.meaning.specs.Update.{with_parent, with_way}
use Rattle.meaning.specs.Step.{Outcome, choice, fires, stays, still, put, leave, dissolve, arrive}
use Rattle.meaning.specs.Codes.{word_number}
use Rattle.meaning.specs.Ask.{none_told, told_at, told_place}
use Rattle.demands.specs.Invariant.{Sound}
use Rattle.demands.proofs.Facts.{link_used}
use Rattle.demands.proofs.Choice.{choice_fits, choice_none}
use Rattle.demands.proofs.Actions.{kind_of_lem}
use Rattle.demands.proofs.Stages.{ok_at, ok_given, fit_given, both_move, both_open}
use Rattle.demands.specs.Ways.{Way, is_done, is_asleep, held_first, held_second, held_own, held_destination, looks_up, looks_at_home}
use Rattle.demands.specs.Ways.{sleeps_alone, takes_first, goes_back, sleeps_stuck, takes_second, puts, sleeps_full, gives_up, enters, exits, opens}
use Rattle.demands.specs.Ways.{takes_own, takes_destination, comes}
use Rattle.demands.specs.Asking.{Fires, on_some, on_chosen, Chooses, chosen_place, TellsPlace, tells_chosen, tells_none, PlaceThen}

-- a word with another number is not back
unlike_back : (w : Word) → eqb (word_number w) (word_number Back) ≡ false → w ≢ Back
unlike_back w f e = clash (eq-eqb (word_number w) (word_number Back) (ap word_number e)) f

-- enter and open choose a place, an action of another kind none
chooses_one : (kind : ℕ) → (kind ≡ enter_kind) ⊎ (kind ≡ open_kind) → chooses kind ≡ true
chooses_one kind (inl e) = rw (eq-eqb kind enter_kind e)
chooses_one kind (inr e) = rw (ne_eqb kind enter_kind (λ z. omega arith), eq-eqb kind open_kind e)

chooses_none : (kind : ℕ) → kind ≢ enter_kind → kind ≢ open_kind → chooses kind ≡ false
chooses_none kind m n = rw (ne_eqb kind enter_kind m, ne_eqb kind open_kind n)

-- ---- one agent, by its stage

module _ (l : Land) (a : Agent) (wish : ℕ) where
  -- what is told of it
  abbrev telling : ℕ
  telling = told_at a.stage l a wish

  told_unchosen : chooses (kind_of a) ≡ false → telling ≡ none_told
  unfolding told_at
  told_unchosen k = rw k

  told_elsewhere : a.stage ≢ holding → a.stage ≢ holding_both → telling ≡ none_told
  unfolding told_at
  told_elsewhere m n = go (told (chooses (kind_of a)))
    where
      go : Told (chooses (kind_of a)) → telling ≡ none_told
      go (yea k) = rw (k, ne_eqb a.stage holding m, ne_eqb a.stage holding_both n)
      go (nay k) = rw k

  told_second : a.stage ≡ holding → chooses (kind_of a) ≡ true → stays l a ≡ true → choice l a wish < 64 → telling ≡ choice l a wish
  unfolding told_at
  told_second s k e low = rw (k, eq-eqb a.stage holding s, e, lt-ltb (choice l a wish) 64 low)

  -- at stage 2 none where its place is no longer linked to p, or where nothing is chosen
  told_back : a.stage ≡ holding → stays l a ≡ false → telling ≡ none_told
  unfolding told_at
  told_back s e = go (told (chooses (kind_of a)))
    where
      go : Told (chooses (kind_of a)) → telling ≡ none_told
      go (yea k) = rw (k, eq-eqb a.stage holding s, e)
      go (nay k) = rw k

  told_stuck : a.stage ≡ holding → stays l a ≡ true → 64 ≤ choice l a wish → telling ≡ none_told
  unfolding told_at
  told_stuck s e high = go (told (chooses (kind_of a)))
    where
      go : Told (chooses (kind_of a)) → telling ≡ none_told
      go (yea k) = rw (k, eq-eqb a.stage holding s, e, le-ltb (choice l a wish) 64 high)
      go (nay k) = rw k

  told_third : a.stage ≡ holding_both → chooses (kind_of a) ≡ true → fires l a ≡ true → telling ≡ a.chosen
  unfolding told_at
  told_third s k e = rw (k, ap (λ (n : ℕ). eqb n holding) s, eq-eqb a.stage holding_both s, e)

  told_gone : a.stage ≡ holding_both → fires l a ≡ false → telling ≡ none_told
  unfolding told_at
  told_gone s e = go (told (chooses (kind_of a)))
    where
      go : Told (chooses (kind_of a)) → telling ≡ none_told
      go (yea k) = rw (k, ap (λ (n : ℕ). eqb n holding) s, eq-eqb a.stage holding_both s, e)
      go (nay k) = rw k

  module _ (word : Word) where
    abbrev Tells : Type 0
    Tells = TellsPlace l a wish word telling

    none : telling ≡ none_told → (Chooses l a word → ⊥) → Tells
    none e n = subst (TellsPlace l a wish word) (sym e) (tells_none n)

    -- it has no place to choose: at another stage, as an exit or a release, or with the word back
    elsewhere : a.stage ≢ holding → a.stage ≢ holding_both → Tells
    elsewhere m n = none (told_elsewhere m n) (λ k. go k.fires)
      where
        go : Fires l a → ⊥
        go (on_some q low s e) = m s
        go (on_chosen s e) = n s

    unchosen : kind_of a ≢ enter_kind → kind_of a ≢ open_kind → Tells
    unchosen m n = none (told_unchosen (chooses_none (kind_of a) m n)) (λ c. go c.kind)
      where
        go : (kind_of a ≡ enter_kind) ⊎ (kind_of a ≡ open_kind) → ⊥
        go (inl e) = m e
        go (inr e) = n e

    -- at stage 2 it chooses what the step would choose, at stage 3 what it chose
    second : word ≢ Back → Kind (kind_of a) → a.stage ≡ holding → stays l a ≡ true → choice l a wish < 64 → Tells
    second b kind s e low = go kind
      where
        at : chosen_place l a wish ≡ choice l a wish
        at = rw (eq-eqb a.stage holding s)

        chosen : (kind_of a ≡ enter_kind) ⊎ (kind_of a ≡ open_kind) → Tells
        chosen k = subst (TellsPlace l a wish word) (at ∙ sym (told_second s (chooses_one (kind_of a) k) e low))
            (tells_chosen (record { kind = k; fires = on_some (choice l a wish) low s (choice_fits l a wish (choice l a wish) refl low); not_back = b })
            (subst (λ (q : ℕ). q < 64) (sym at) low))

        go : Kind (kind_of a) → Tells
        go (is_enter k) = chosen (inl k)
        go (is_exit k) = unchosen (λ z. omega arith) (λ z. omega arith)
        go (is_open k) = chosen (inr k)
        go (is_release k) = unchosen (λ z. omega arith) (λ z. omega arith)

    third : word ≢ Back → (kind_of a ≡ enter_kind) ⊎ (kind_of a ≡ open_kind) → a.stage ≡ holding_both → fires l a ≡ true → a.chosen < 64 → Tells
    third b k s e low = subst (TellsPlace l a wish word) (at ∙ sym (told_third s (chooses_one (kind_of a) k) e))
        (tells_chosen (record { kind = k; fires = on_chosen s e; not_back = b }) (subst (λ (q : ℕ). q < 64) (sym at) low))
      where
        at : chosen_place l a wish ≡ a.chosen
        at = rw (ap (λ (m : ℕ). eqb m holding) s)

-- ---- the ways of a step

module _ (c : State) (i : Sound c) (x : ℕ) (g : c.given x ≡ true) where
  abbrev a : Agent
  a = c.agent x

  -- the chosen place of stage 3 is in use
  enter_used : a.stage ≡ holding_both → kind_of a ≡ enter_kind → c.land.used a.chosen ≡ true
  enter_used s k = link_used c.land a.chosen ((both_move c i x g s (omega arith)).target k).link

  open_used : a.stage ≡ holding_both → kind_of a ≡ open_kind → c.land.used a.chosen ≡ true
  open_used s k = link_used c.land a.chosen (both_open c i x g s k).under.link

  at_second : a.stage ≡ holding → Kind (kind_of a)
  at_second s = kind_of_lem a (fit_given c i x g) (ok_at 2 s (ok_given c i x g)).0.some

  -- a place is told exactly where the request says
  pub way_tells : {wish : ℕ} {o : Outcome} → Way c x wish o → TellsPlace c.land a wish o.word (told_place c x wish)
  unfolding still put leave dissolve arrive
  way_tells {wish} (is_done s) = elsewhere c.land a wish _ (λ z. omega arith) (λ z. omega arith)
  way_tells {wish} (is_asleep s) = elsewhere c.land a wish _ (λ z. omega arith) (λ z. omega arith)
  way_tells {wish} (held_first s _) = elsewhere c.land a wish _ (λ z. omega arith) (λ z. omega arith)
  way_tells {wish} (held_second s _ e low _) = second c.land a wish Held (unlike_back Held refl) (at_second s) s e low
  way_tells {wish} (held_own s _) = elsewhere c.land a wish _ (λ z. omega arith) (λ z. omega arith)
  way_tells {wish} (held_destination s _) = elsewhere c.land a wish _ (λ z. omega arith) (λ z. omega arith)
  way_tells {wish} (looks_up s _ _) = elsewhere c.land a wish _ (λ z. omega arith) (λ z. omega arith)
  way_tells {wish} (looks_at_home s _) = elsewhere c.land a wish _ (λ z. omega arith) (λ z. omega arith)
  way_tells {wish} (sleeps_alone s _ _) = elsewhere c.land a wish _ (λ z. omega arith) (λ z. omega arith)
  way_tells {wish} (takes_first s _) = elsewhere c.land a wish _ (λ z. omega arith) (λ z. omega arith)
  way_tells {wish} (goes_back s e) = none c.land a wish Back (told_back c.land a wish s e) (λ k. k.not_back refl)
  way_tells {wish} (sleeps_stuck s _ e high) = none c.land a wish Slept (told_stuck c.land a wish s e high) (λ k. go k.fires)
    where
      go : Fires c.land a → ⊥
      go (on_some q low _ f) = clash f (choice_none c.land a wish i.places.order high q low)
      go (on_chosen z _) = omega arith
  way_tells {wish} (takes_second q s _ e f low _) = second c.land a wish Took (unlike_back Took refl) (at_second s) s e (subst (λ (r : ℕ). r < 64) (sym f) low)
  way_tells {wish} (puts q s k _ _) = unchosen c.land a wish _ (λ z. omega arith) (λ z. omega arith)
  way_tells {wish} (sleeps_full s k _) = unchosen c.land a wish _ (λ z. omega arith) (λ z. omega arith)
  way_tells {wish} (gives_up s e) = none c.land a wish Back (told_gone c.land a wish s e) (λ k. k.not_back refl)
  way_tells {wish} (enters s k e) =
      third c.land a wish Left (unlike_back Left refl) (inl k) s e (i.places.small a.chosen (enter_used s k))
  way_tells {wish} (exits s k e) = unchosen c.land a wish _ (λ z. omega arith) (λ z. omega arith)
  way_tells {wish} (opens s k e) =
      third c.land a wish Opened (unlike_back Opened refl) (inr k) s e (i.places.small a.chosen (open_used s k))
  way_tells {wish} (takes_own s _) = elsewhere c.land a wish _ (λ z. omega arith) (λ z. omega arith)
  way_tells {wish} (takes_destination s _) = elsewhere c.land a wish _ (λ z. omega arith) (λ z. omega arith)
  way_tells {wish} (comes s) = elsewhere c.land a wish _ (λ z. omega arith) (λ z. omega arith)

  -- an exit and a release tell none
  told_none : (wish : ℕ) → kind_of a ≢ enter_kind → kind_of a ≢ open_kind → told_place c x wish ≡ none_told
  told_none wish m n = told_unchosen c.land a wish (chooses_none (kind_of a) m n)

  -- and it is the one that the step enters or opens
  pub way_then : {wish : ℕ} {o : Outcome} → Way c x wish o → PlaceThen o.word c x o.cell (told_place c x wish)
  unfolding still put leave dissolve arrive
  way_then (is_done _) = tt
  way_then (is_asleep _) = tt
  way_then (held_first _ _) = tt
  way_then (held_second _ _ _ _ _) = tt
  way_then (held_own _ _) = tt
  way_then (held_destination _ _) = tt
  way_then (looks_up _ _ _) = tt
  way_then (looks_at_home _ _) = tt
  way_then (sleeps_alone _ _ _) = tt
  way_then (takes_first _ _) = tt
  way_then (goes_back _ _) = tt
  way_then (sleeps_stuck _ _ _ _) = tt
  way_then (takes_second _ _ _ _ _ _ _) = tt
  way_then {wish} (puts q s k _ _) = told_none wish (λ z. omega arith) (λ z. omega arith)
  way_then (sleeps_full _ _ _) = tt
  way_then (gives_up _ _) = tt
  way_then {wish} (enters s k e) = (
    λ _. ap (λ (p : Place). p.parent) (upd_same c.land.place a.home (with_way (with_parent (c.land.place a.home) a.chosen) 1))
        ∙ sym (told_third c.land a wish s (chooses_one (kind_of a) (inl k)) e),
    λ z. absurd (omega arith),
  )
  way_then {wish} (exits s k e) = (λ z. absurd (omega arith), λ _. told_none wish (λ z. omega arith) (λ z. omega arith))
  way_then {wish} (opens s k e) =
      let q : told_place c x wish ≡ a.chosen = told_third c.land a wish s (chooses_one (kind_of a) (inr k)) e in (
        subst (λ (r : ℕ). c.land.used r ≡ true) (sym q) (open_used s k),
        subst (λ (r : ℕ). (not (eqb r a.chosen) && c.land.used r) ≡ false) (sym q) (rw (eq-eqb a.chosen a.chosen refl)),
      )
  way_then (takes_own _ _) = tt
  way_then (takes_destination _ _) = tt
  way_then (comes _) = tt
