-- Leaving (enter or exit at stage 3) keeps the cell. The place that gets loose is linked under a place whose lock the agent has, so
-- nobody else's facts speak of it; a sleeper that might notice remembers one of the two places, and is woken.
use Rattle.std.specs.Prelude.{◌≡◌, refl, ◌≢◌, ℕ, ◌≤◌, Bool, true, false}
use Rattle.std.proofs.Common.{sym, ◌∙◌, subst, inl, arith}
use Rattle.std.proofs.Math.Path.{ap}
use Rattle.table.specs.Base.{upd}
use Rattle.table.proofs.BaseLaws.{clash, upd_at, upd_other, upd_all}
use Rattle.table.specs.Cell.{Land, State, linked, kind_of, enter_kind, exit_kind}
use Rattle.table.specs.declared.Name.{Name}
use Rattle.table.specs.declared.Agent.{Agent}
use Rattle.meaning.specs.Update.{use_up, at_stage, released}
use Rattle.meaning.specs.Step.{awaited, fires, send_to, leave}
use Rattle.calculus.proofs.Up.{enter_up, exit_up}
use Rattle.calculus.specs.Up.{Up}
use Rattle.demands.specs.NoMore.{Returned}
use Rattle.demands.specs.Reading.{parent_in, agent_in}
use Rattle.demands.proofs.ReadingLaws.{linked_sent, parent_sent, name_sent, wake_agent, agent_woken}
use Rattle.demands.specs.Invariant.{Under, Places, Has, ok4, Travels, Sound}
use Rattle.demands.proofs.Facts.{not_yes, Comes, awaited_yes, awaited_some, enters_fits, link_used, fires_target, target_chosen}
use Rattle.demands.proofs.Actions.{has_some, fit_stage, fit_used}
use Rattle.demands.proofs.Stages.{BothMove, both_move, ok_at, travels_away, ok_given, fit_given, home_given, returned_move}
use Rattle.demands.proofs.Unused.{released_outside, woken_untouched}
use Rattle.demands.proofs.Frame.{Calm, sleeper_frame, Apart, rouses}
use Rattle.demands.proofs.Change.{is_free, returned_has, returned_free, Change, Keeps, keeps}

-- agent x at stage 3 sends its place, linked under the remembered one, to a place d in use from where it does not stand inside itself
module _ (c : State) (i : Sound c) (x : ℕ) (g : c.given x ≡ true) (e : (c.agent x).stage ≡ 3) (m : BothMove c.land c.lock x (c.agent x))
    (d : ℕ) (ud : c.land.used d ≡ true) (tree : (q : ℕ) → Up (upd (parent_in c.land) (c.agent x).home d) q) where
  abbrev l : Land
  l = c.land

  abbrev a : Agent
  a = c.agent x

  abbrev h : ℕ
  h = (c.agent x).home

  abbrev l' : Land
  l' = send_to c.land (c.agent x).home d

  -- how a place reads after: all but its own as before
  links : (q : ℕ) → q ≢ h → linked l' q ≡ linked l q
  links q n = ap (λ (f : ℕ → Bool). f q) (linked_sent l h d) ∙ upd_other (linked l) h q false n

  loosened : (q : ℕ) → q ≡ h → linked l' q ≡ false
  loosened q z = ap (λ (f : ℕ → Bool). f q) (linked_sent l h d) ∙ upd_at (linked l) h q false z

  parents : parent_in l' ≡ upd (parent_in l) h d
  parents = parent_sent l h d (home_given c i x g)

  stands : (q : ℕ) → q ≢ h → parent_in l' q ≡ parent_in l q
  stands q n = ap (λ (f : ℕ → ℕ). f q) parents ∙ upd_other (parent_in l) h q d n

  not_floor : 0 ≢ h
  not_floor z = clash (ap (linked l) z ∙ m.under.link) i.places.floor_link

  kept_under : (q p : ℕ) → q ≢ h → Under l q p → Under l' q p
  kept_under q p n u = record { link = links q n ∙ u.link; parent = stands q n ∙ u.parent }

  -- a place that is on its way is another
  not_loose : (q : ℕ) → linked l q ≡ false → q ≢ h
  not_loose q o z = clash (ap (linked l) z ∙ m.under.link) o

  sent_places : Places l'
  sent_places = record {
    floor_used = i.places.floor_used;
    floor_parent = stands 0 not_floor ∙ i.places.floor_parent;
    floor_link = links 0 not_floor ∙ i.places.floor_link;
    floor_name = ap (λ (f : ℕ → Name). f 0) (name_sent l h d) ∙ i.places.floor_name;
    tree = subst (λ (f : ℕ → ℕ). (q : ℕ) → Up f q) (sym parents) tree;
    parent_used = subst (λ (f : ℕ → ℕ). (q : ℕ) → l.used (f q) ≡ true) (sym parents)
        (upd_all (parent_in l) h d (λ (q p : ℕ). l.used p ≡ true) ud (λ q _. i.places.parent_used q));
    small = i.places.small;
    order = i.places.order;
    named = λ q u n. subst (λ (f : ℕ → Name). 1 ≤ (f q).name) (sym (name_sent l h d)) (i.places.named q u n);
  }

  -- a sleeper on another place than the two notices nothing
  calm : (b : Agent) → Apart a.remembered h h b.remembered → Calm l l' b
  calm b w = record {
    loose = λ o z. links b.home (λ k. w.second (z ∙ k)) ∙ o;
    keeps = λ u. kept_under b.home b.remembered (λ k. w.first (sym u.parent ∙ ap (parent_in l) k ∙ m.under.parent)) u;
    child = λ q u. let n : q ≢ h = λ k. clash u.link (loosened q k) in
        record { link = sym (links q n) ∙ u.link; parent = sym (stands q n) ∙ u.parent };
    names = λ q _ _. ap (λ (f : ℕ → Name). f q) (name_sent l h d);
    up = λ k. sym (links b.remembered w.second) ∙ k;
    awaits = λ q u k. not_yes _ (λ t. clash (still q (awaited_some l q t)) k);
    full = λ _ q u. u;
  }
    where
      still : (q : ℕ) → (r : ℕ) × Comes l q r → awaited l' q ≡ true
      still q t =
          let r = t.1 in
          let n = not_loose t.0 r.loose in
          awaited_yes l' q t.0 (i.places.small t.0 r.used)
          (record { used = r.used; placed = r.placed; loose = links t.0 n ∙ r.loose; parent = stands t.0 n ∙ r.parent })

  -- all that it held is given back
  back : Returned c x (released c.lock a.remembered h)
  back = returned_move c i x g e m.kind

  keep_leave : Keeps c x (leave c x (c.agent x) d).cell
  unfolding leave agent_in
  keep_leave = keeps i change (λ z. absurd (omega arith)) (λ b k _ _ w o. sleeper_frame l l' b k (calm b w) o)
    where
      far_under : (y : ℕ) → y ≢ x → (q p : ℕ) → Has c.lock p y → Under l q p → Under l' q p
      far_under y n q p has u = kept_under q p
          (λ z. n (sym has.by ∙ ap c.lock (sym u.parent ∙ ap (parent_in l) z ∙ m.under.parent) ∙ (ok_at 3 e (ok_given c i x g)).1.by)) u

      lone : (y : ℕ) → Travels (agent_in c y) → (agent_in c y).home ≢ h
      lone y t = not_loose (agent_in c y).home (travels_away t (i.ok y)).loose

      change : Change c (leave c x (c.agent x) d).cell x (Apart a.remembered h h)
      change = record {
        steps = g;
        untouched = woken_untouched c x g _ _ _ h _ _ _ _ (home_given c i x g)
            (released_outside c.land.used c.lock _ _ (ok_at 3 e (ok_given c i x g)).0.known (home_given c i x g));
        used = λ q u. u;
        fresh = λ q n u. clash u n;
        touches = λ q _. refl;
        new = at_stage (use_up a) 4 0 0;
        woke = λ y. wake_agent a.remembered h h (agent_in c y);
        reads = agent_woken c a.remembered h h x (at_stage (use_up a) 4 0 0) g;
        roused = λ y. rouses a.remembered h h (agent_in c y);
        places = sent_places;
        home = refl;
        fit = fit_stage (use_up a) 4 0 0 (fit_used a (fit_given c i x g) (has_some a (ok_at 3 e (ok_given c i x g)).0.some));
        ok = ok4 refl (record { loose = loosened h refl; placed = λ z. not_floor (sym z) });
        has = λ y q n _ k. returned_has back n k;
        under = far_under;
        way = λ y n t v.
            let k = not_loose (agent_in c y).home v.loose in
            (links (agent_in c y).home k ∙ v.loose, stands (agent_in c y).home k);
        mine = λ q u k. is_free (returned_free back (i.few x g) u k);
        loose = λ q n z. sym (links q n) ∙ z;
        own_loose = λ _. inl (record { from = omega arith; to = omega arith });
        lone = λ _ y n t. lone y t;
      }

-- ---- enter and exit

module _ (c : State) (i : Sound c) (x : ℕ) (g : c.given x ≡ true) (e : (c.agent x).stage ≡ 3) where
  placed : BothMove c.land c.lock x (c.agent x) → (c.agent x).home ≢ 0
  placed m z = clash (ap (linked c.land) (sym z) ∙ m.under.link) i.places.floor_link

  -- stage 3 of enter: into the chosen place, which is beside its own
  pub keep_enter : kind_of (c.agent x) ≡ enter_kind → fires c.land (c.agent x) ≡ true → Keeps c x (leave c x (c.agent x) (c.agent x).chosen).cell
  keep_enter k f = keep_leave c i x g e m (c.agent x).chosen (link_used c.land (c.agent x).chosen t.link)
      (enter_up (parent_in c.land) i.places.floor_parent (c.agent x).home (c.agent x).chosen (placed m) apart
      (t.parent ∙ sym m.under.parent) i.places.tree)
    where
      m : BothMove c.land c.lock x (c.agent x)
      m = both_move c i x g e (omega arith)

      t : Under c.land (c.agent x).chosen (c.agent x).remembered
      t = m.target k

      apart : (c.agent x).chosen ≢ (c.agent x).home
      apart = subst (λ (q : ℕ). q ≢ (c.agent x).home) (target_chosen (c.agent x) (λ z. omega arith))
          (enters_fits c.land _ _ _ _ _ k (sym (fires_target c.land (c.agent x)) ∙ f)).1

  -- stage 3 of exit: to where the remembered place stands
  pub keep_exit : kind_of (c.agent x) ≡ exit_kind → Keeps c x (leave c x (c.agent x) (parent_in c.land (c.agent x).remembered)).cell
  keep_exit k = keep_leave c i x g e m (parent_in c.land (c.agent x).remembered) (i.places.parent_used _)
      (subst (λ (p : ℕ). (q : ℕ) → Up (upd (parent_in c.land) (c.agent x).home (parent_in c.land p)) q) m.under.parent
      (exit_up (parent_in c.land) i.places.floor_parent (c.agent x).home (placed m) i.places.tree))
    where
      m : BothMove c.land c.lock x (c.agent x)
      m = both_move c i x g e (omega arith)
