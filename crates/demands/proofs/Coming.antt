-- Coming (stage 6) keeps the cell. Only one link is new, so nobody loses a fact but the agent that was on its way; a sleeper that might
-- notice remembers the place that came, its destination, or the place that the destination is linked to, and is woken.
use Rattle.std.specs.Prelude.{◌≡◌, refl, ◌≢◌, ◌⊎◌, ℕ, ◌≤◌, Bool, true}
use Rattle.std.proofs.Common.{sym, ◌∙◌, inl, inr}
use Rattle.std.proofs.Math.Path.{ap, subst}
use native.Mathlib.Omega.{arith}
use Rattle.order.proofs.RowLaws.{fits_later}
use Rattle.table.proofs.BaseLaws.{clash, eq?, upd_at, upd_other}
use Rattle.table.specs.Cell.{Land, State, linked}
use Rattle.table.specs.declared.Name.{Name}
use Rattle.table.specs.declared.Agent.{Agent}
use Rattle.meaning.specs.Update.{at_stage}
use Rattle.meaning.specs.Step.{awaited, rest_stage, link_up, beyond, arrive}
use Rattle.calculus.specs.Up.{Up}
use Rattle.demands.specs.Reading.{parent_in, agent_in}
use Rattle.demands.proofs.ReadingLaws.{linked_linked, parent_linked, name_linked, agent_given, wake_agent, agent_woken}
use Rattle.demands.specs.Invariant.{Under, Places, Away, Travels, Sound}
use Rattle.demands.proofs.Facts.{not_yes, Comes, awaited_yes, awaited_some, parent_read, link_used}
use Rattle.demands.proofs.Actions.{fit_stage}
use Rattle.demands.proofs.Stages.{ok_at, rest_ok, rest_stage_lem, not_between, ok_given, fit_given, home_given, returned_six}
use Rattle.demands.proofs.Unused.{released_outside, woken_untouched}
use Rattle.demands.proofs.Frame.{Calm, sleeper_frame, Apart, rouses}
use Rattle.demands.proofs.Change.{is_free, returned_has, returned_free, Change, Keeps, keeps}

module _ (c : State) (i : Sound c) (x : ℕ) (g : c.given x ≡ true) (e : (c.agent x).stage ≡ 6) where
  abbrev l : Land
  l = c.land

  abbrev a : Agent
  a = c.agent x

  abbrev h : ℕ
  h = (c.agent x).home

  -- the destination
  abbrev d : ℕ
  d = parent_in c.land (c.agent x).home

  abbrev l' : Land
  l' = link_up c.land (c.agent x).home

  away : Away l a
  away = (ok_at 6 e (ok_given c i x g)).0

  -- how a place reads after: all but the link of its own as before
  links : (q : ℕ) → q ≢ h → linked l' q ≡ linked l q
  links q n = ap (λ (f : ℕ → Bool). f q) (linked_linked l h (home_given c i x g)) ∙ upd_other (linked l) h q true n

  linked_now : (q : ℕ) → q ≡ h → linked l' q ≡ true
  linked_now q z = ap (λ (f : ℕ → Bool). f q) (linked_linked l h (home_given c i x g)) ∙ upd_at (linked l) h q true z

  stands : (q : ℕ) → parent_in l' q ≡ parent_in l q
  stands q = ap (λ (f : ℕ → ℕ). f q) (parent_linked l h)

  -- what is linked stays linked
  kept_under : (q p : ℕ) → Under l q p → Under l' q p
  kept_under q p u = record { link = links q (λ z. clash (ap (linked l) (sym z) ∙ u.link) away.loose) ∙ u.link; parent = stands q ∙ u.parent }

  linked_places : Places l'
  linked_places = record {
    floor_used = i.places.floor_used;
    floor_parent = stands 0 ∙ i.places.floor_parent;
    floor_link = links 0 (λ z. away.placed (sym z)) ∙ i.places.floor_link;
    floor_name = ap (λ (f : ℕ → Name). f 0) (name_linked l h) ∙ i.places.floor_name;
    tree = subst (λ (f : ℕ → ℕ). (q : ℕ) → Up f q) (sym (parent_linked l h)) i.places.tree;
    parent_used = subst (λ (f : ℕ → ℕ). (q : ℕ) → l.used (f q) ≡ true) (sym (parent_linked l h)) i.places.parent_used;
    small = i.places.small;
    order = fits_later _ _ i.places.order;
    named = λ q u n. subst (λ (f : ℕ → Name). 1 ≤ (f q).name) (sym (name_linked l h)) (i.places.named q u n);
  }

  -- a destination that is linked to p
  beyond_linked : (p : ℕ) → Under l d p → p ≡ beyond l d
  beyond_linked p u = sym u.parent ∙ parent_read l d (link_used l d u.link) ∙ rw u.link

  -- a sleeper on another place than the three notices nothing
  calm : (b : Agent) → Apart h d (beyond l d) b.remembered → Calm l l' b
  calm b w = record {
    loose = λ o z. links b.home (λ k. w.first (z ∙ k)) ∙ o;
    keeps = kept_under b.home b.remembered;
    child = under;
    names = λ q _ _. ap (λ (f : ℕ → Name). f q) (name_linked l h);
    up = λ k. sym (links b.remembered w.first) ∙ k;
    awaits = λ q u k. not_yes _ (λ t. clash (still q (under q u) (awaited_some l q t)) k);
    full = λ _ q u. u;
  }
    where
      under : (q : ℕ) → Under l' q b.remembered → Under l q b.remembered
      under q u =
          let p = sym (stands q) ∙ u.parent in
          record { link = sym (links q (λ z. w.second (sym p ∙ ap (parent_in l) z))) ∙ u.link; parent = p }

      still : (q : ℕ) → Under l q b.remembered → (r : ℕ) × Comes l q r → awaited l' q ≡ true
      still q u t = go (eq? t.0 h)
        where
          go : (t.0 ≡ h) ⊎ (t.0 ≢ h) → awaited l' q ≡ true
          go (inl z) = absurd (w.third (beyond_linked b.remembered
              (subst (λ (r : ℕ). Under l r b.remembered) (sym t.1.parent ∙ ap (parent_in l) z) u)))
          go (inr n) = let r = t.1 in awaited_yes l' q t.0 (i.places.small t.0 r.used)
              (record { used = r.used; placed = r.placed; loose = links t.0 n ∙ r.loose; parent = stands t.0 ∙ r.parent })

  -- stage 6: its place is linked to the destination
  pub keep_come : Keeps c x (arrive c x (c.agent x) (parent_in c.land (c.agent x).home)).cell
  unfolding arrive agent_in
  keep_come = keeps i change (λ z. absurd (not_between (rest_stage_lem a) (omega arith) (omega arith))) (λ b k _ _ w o. sleeper_frame l l' b k (calm b w) o)
    where
      -- others on their way are of other places
      apart : (y : ℕ) → y ≢ x → Travels (agent_in c y) → (agent_in c y).home ≢ h
      apart y n t z =
          let b = agent_given c x g in
          let mine : Travels (agent_in c x) = subst Travels (sym b) (record { from = omega arith; to = omega arith }) in
          n (i.single y x t mine (z ∙ ap (λ (v : Agent). v.home) (sym b)))

      change : Change c (arrive c x (c.agent x) (parent_in c.land (c.agent x).home)).cell x (Apart h d (beyond l d))
      change = record {
        steps = g;
        untouched = woken_untouched c x g _ _ _ h _ _ _ _ (home_given c i x g)
            (released_outside c.land.used c.lock _ _ (home_given c i x g) (i.places.parent_used _));
        used = λ q u. u;
        fresh = λ q n u. clash u n;
        touches = λ q _. refl;
        new = at_stage a (rest_stage a) 0 0;
        woke = λ y. wake_agent h d (beyond l d) (agent_in c y);
        reads = agent_woken c h d (beyond l d) x (at_stage a (rest_stage a) 0 0) g;
        roused = λ y. rouses h d (beyond l d) (agent_in c y);
        places = linked_places;
        home = refl;
        fit = fit_stage a (rest_stage a) 0 0 (fit_given c i x g);
        ok = rest_ok a (fit_given c i x g);
        has = λ y q n _ k. returned_has (returned_six c i x g e) n k;
        under = λ y n q p k u. kept_under q p u;
        way = λ y n t v. (links (agent_in c y).home (apart y n t) ∙ v.loose, stands (agent_in c y).home);
        mine = λ q u k. is_free (returned_free (returned_six c i x g e) (i.few x g) u k);
        loose = λ q n z. sym (links q n) ∙ z;
        own_loose = λ z. clash (linked_now h refl) z;
        lone = λ t. absurd (not_between (rest_stage_lem a) (omega (arith, t.from)) (omega (arith, t.to)));
      }
