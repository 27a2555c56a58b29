-- Putting out (stage 2 of release) keeps the cell. The new place is nobody's home and no place's parent, so only sleepers on the place that it
-- is put into could notice it, and they are woken.
use Rattle.std.specs.Prelude.{◌≡◌, refl, ◌≢◌, ◌⊎◌, ℕ, ◌≤◌, ◌<◌, Bool, false}
use Rattle.std.proofs.Common.{sym, ap, ◌∙◌, subst, inl, inr, arith}
use Rattle.std.proofs.Math.Bool.{true}
use Rattle.order.proofs.RowLaws.{fits_later}
use Rattle.table.proofs.BaseLaws.{clash, eq?, upd_at, upd_other, upd_all}
use Rattle.table.specs.Cell.{Land, State, none, plain_name, linked, fresh_number, kind_of, name_of, release_kind}
use Rattle.table.proofs.FreshLaws.{fresh_unused}
use Rattle.table.specs.declared.Name.{Name}
use Rattle.table.specs.declared.Agent.{Agent}
use Rattle.meaning.specs.Update.{at_stage, use_up, released}
use Rattle.meaning.specs.Step.{awaited, rest_stage, put_land, put}
use Rattle.calculus.proofs.Up.{put_up}
use Rattle.calculus.specs.Up.{Up}
use Rattle.demands.specs.Reading.{parent_in, name_in, agent_in}
use Rattle.demands.proofs.ReadingLaws.{linked_put, parent_put, name_put, wake_agent, agent_woken}
use Rattle.demands.specs.Invariant.{Under, Places, Has, Fit, Ready, SleepsOn, Sound}
use Rattle.demands.proofs.Facts.{not_yes, Comes, awaited_yes, awaited_some, link_used}
use Rattle.demands.proofs.Actions.{name_some, has_some, fit_stage, fit_used}
use Rattle.demands.proofs.Stages.{ok_at, rest_ok, rest_stage_lem, not_between, holds_two, ok_given, fit_given, home_given}
use Rattle.demands.proofs.Unused.{put_untouched}
use Rattle.demands.proofs.Frame.{Calm, sleeper_frame, Apart, rouses}
use Rattle.demands.proofs.Change.{Mine, is_free, is_mine, Change, Keeps, keeps}

-- agent x at stage 2 puts out place q, which is not in use
module _ (c : State) (i : Sound c) (x : ℕ) (g : c.given x ≡ true) (e : (c.agent x).stage ≡ 2) (q : ℕ) (small : q < 64)
    (unused : c.land.used q ≡ false) where
  abbrev l : Land
  l = c.land

  abbrev a : Agent
  a = c.agent x

  -- the place that it holds
  abbrev p : ℕ
  p = (c.agent x).remembered

  abbrev l' : Land
  l' = put_land c.land q (name_of (c.agent x)) (c.agent x).remembered

  ready : Ready l a × Has c.lock p x
  ready = ok_at 2 e (ok_given c i x g)

  -- a place in use is another
  other : (s : ℕ) → l.used s ≡ true → s ≢ q
  other s u z = clash u (ap l.used z ∙ unused)

  -- how a place reads after: all but the new one as before
  links : (s : ℕ) → s ≢ q → linked l' s ≡ linked l s
  links s n = ap (λ (f : ℕ → Bool). f s) (linked_put l q (name_of a) p) ∙ upd_other (linked l) q s true n

  linked_now : (s : ℕ) → s ≡ q → linked l' s ≡ true
  linked_now s z = ap (λ (f : ℕ → Bool). f s) (linked_put l q (name_of a) p) ∙ upd_at (linked l) q s true z

  stands : (s : ℕ) → s ≢ q → parent_in l' s ≡ parent_in l s
  stands s n = ap (λ (f : ℕ → ℕ). f s) (parent_put l q (name_of a) p) ∙ upd_other (parent_in l) q s p n

  stands_new : (s : ℕ) → s ≡ q → parent_in l' s ≡ p
  stands_new s z = ap (λ (f : ℕ → ℕ). f s) (parent_put l q (name_of a) p) ∙ upd_at (parent_in l) q s p z

  names : (s : ℕ) → s ≢ q → name_in l' s ≡ name_in l s
  names s n = ap (λ (f : ℕ → Name). f s) (name_put l q (name_of a) p) ∙ upd_other (name_in l) q s (plain_name (name_of a)) n

  uses : (s : ℕ) → l.used s ≡ true → l'.used s ≡ true
  uses = upd_all l.used q true (λ s b. l.used s ≡ true → b ≡ true) (λ _. refl) (λ s _ u. u)

  used_before : (s : ℕ) → s ≢ q → l'.used s ≡ true → l.used s ≡ true
  used_before s n u = sym (upd_other l.used q s true n) ∙ u

  kept_under : (s t : ℕ) → Under l s t → Under l' s t
  kept_under s t u = let n = other s (link_used l s u.link) in record { link = links s n ∙ u.link; parent = stands s n ∙ u.parent }

  put_places_lem : Places l'
  put_places_lem = record {
    floor_used = uses 0 i.places.floor_used;
    floor_parent = stands 0 floor ∙ i.places.floor_parent;
    floor_link = links 0 floor ∙ i.places.floor_link;
    floor_name = names 0 floor ∙ i.places.floor_name;
    tree = subst (λ (f : ℕ → ℕ). (s : ℕ) → Up f s) (sym (parent_put l q (name_of a) p))
        (put_up (parent_in l) i.places.floor_parent q p (λ z. floor (sym z)) (other p ready.0.known)
        (λ s. other (parent_in l s) (i.places.parent_used s)) i.places.tree);
    parent_used = subst (λ (f : ℕ → ℕ). (s : ℕ) → l'.used (f s) ≡ true) (sym (parent_put l q (name_of a) p))
        (upd_all (parent_in l) q p (λ (s t : ℕ). l'.used t ≡ true) (uses p ready.0.known) (λ s _. uses _ (i.places.parent_used s)));
    small = upd_all l.used q true (λ s b. b ≡ true → s < 64) (λ _. small) (λ s _. i.places.small s);
    order = fits_later _ _ i.places.order;
    named = subst (λ (f : ℕ → Name). (s : ℕ) → l'.used s ≡ true → s ≢ 0 → 1 ≤ (f s).name) (sym (name_put l q (name_of a) p))
        (upd_all (name_in l) q (plain_name (name_of a)) (λ (s : ℕ) (n : Name). l'.used s ≡ true → s ≢ 0 → 1 ≤ n.name)
        (λ _ _. name_some a (fit_given c i x g) ready.0.some) (λ s n u z. i.places.named s (used_before s n u) z));
  }
    where
      floor : 0 ≢ q
      floor = other 0 i.places.floor_used

  -- a sleeper on another place than p notices nothing
  calm : (b : Agent) → l.used b.home ≡ true → SleepsOn l b → Apart p p p b.remembered → Calm l l' b
  calm b home on w = record {
    loose = λ o _. links b.home (other b.home home) ∙ o;
    keeps = kept_under b.home b.remembered;
    child = child;
    names = λ s k _. names s (other s (link_used l s k));
    up = λ k. sym (links b.remembered (elsewhere on)) ∙ k;
    awaits = λ s u k. not_yes _ (λ t. clash (still s (awaited_some l s t)) k);
    full = λ _. uses;
  }
    where
      elsewhere : SleepsOn l b → b.remembered ≢ q
      elsewhere (inl u) = other b.remembered u
      elsewhere (inr n) = λ z. let k : q ≡ none = sym z ∙ n.1 in omega arith

      child : (s : ℕ) → Under l' s b.remembered → Under l s b.remembered
      child s u =
          let n : s ≢ q = λ z. w.first (sym u.parent ∙ stands_new s z) in
          record { link = sym (links s n) ∙ u.link; parent = sym (stands s n) ∙ u.parent }

      still : (s : ℕ) → (r : ℕ) × Comes l s r → awaited l' s ≡ true
      still s t =
          let r = t.1 in
          let n = other t.0 r.used in
          awaited_yes l' s t.0 (i.places.small t.0 r.used)
          (record { used = uses t.0 r.used; placed = r.placed; loose = links t.0 n ∙ r.loose; parent = stands t.0 n ∙ r.parent })

  -- the locks after: its place and the new one are free
  abbrev locks : ℕ → ℕ
  locks = released c.lock p q

  locks_at : (s : ℕ) → s ≢ p → s ≢ q → locks s ≡ c.lock s
  locks_at s n m = upd_other _ q s none m ∙ upd_other c.lock p s none n

  spent : Fit (use_up a)
  spent = fit_used a (fit_given c i x g) (has_some a ready.0.some)

  put_kept : Keeps c x (put c x (c.agent x) q).cell
  unfolding put agent_in
  put_kept = keeps i change (λ z. absurd (not_between (rest_stage_lem (use_up a)) (omega arith) (omega arith)))
      (λ b k home on w o. sleeper_frame l l' b k (calm b home on w) o)
    where
      mine : (s : ℕ) → l.used s ≡ true → (s ≡ p) ⊎ (s ≢ p) → Mine l c.lock x a s → locks s ≡ none
      mine s u (inl z) _ = upd_other _ q s none (other s u) ∙ upd_at c.lock p s none z
      mine s u (inr n) (is_free f) = locks_at s n (other s u) ∙ f
      mine s u (inr n) (is_mine h k) = absurd (n (holds_two e k))

      fresh : (s : ℕ) → l.used s ≡ false → l'.used s ≡ true → (s ≡ q) ⊎ (s ≢ q)
          → (linked l' s ≡ true) × (locks s ≡ none) × ((put c x (c.agent x) q).cell.touches s ≡ 0)
      fresh s n u (inl z) = (linked_now s z, upd_at _ q s none z, upd_at c.touches q s 0 z)
      fresh s n u (inr d) = clash (used_before s d u) n

      loose : (s : ℕ) → linked l' s ≡ false → (s ≡ q) ⊎ (s ≢ q) → linked l s ≡ false
      loose s z (inl d) = clash (linked_now s d) z
      loose s z (inr n) = sym (links s n) ∙ z

      change : Change c (put c x (c.agent x) q).cell x (Apart p p p)
      change = record {
        steps = g;
        untouched = put_untouched c x g q ready.0.known;
        used = uses;
        fresh = λ s n u. fresh s n u (eq? s q);
        touches = λ s u. upd_other c.touches q s 0 (other s u);
        new = at_stage (use_up a) (rest_stage (use_up a)) 0 0;
        woke = λ y. wake_agent p p p (agent_in c y);
        reads = agent_woken c p p p x (at_stage (use_up a) (rest_stage (use_up a)) 0 0) g;
        roused = λ y. rouses p p p (agent_in c y);
        places = put_places_lem;
        home = refl;
        fit = fit_stage (use_up a) (rest_stage (use_up a)) 0 0 spent;
        ok = rest_ok (use_up a) spent;
        has = λ y s n u h. record {
          by = locks_at s (λ z. n (sym h.by ∙ ap c.lock z ∙ ready.1.by)) (other s u) ∙ h.by;
          small = h.small;
        };
        under = λ y n s t h u. kept_under s t u;
        way = λ y n t v. let d = other (agent_in c y).home (i.homes y) in (links _ d ∙ v.loose, stands _ d);
        mine = λ s u k. is_free (mine s u (eq? s p) k);
        loose = λ s _ z. loose s z (eq? s q);
        own_loose = λ z. inr (sym (links a.home (other a.home (home_given c i x g))) ∙ z, λ t. omega (arith, t.from));
        lone = λ t. absurd (not_between (rest_stage_lem (use_up a)) (omega (arith, t.from)) (omega (arith, t.to)));
      }

-- stage 2 of release with a number unused
pub keep_put : (c : State) → Sound c → (x : ℕ) → c.given x ≡ true → (c.agent x).stage ≡ 2 → kind_of (c.agent x) ≡ release_kind
    → (q : ℕ) → q < 64 → fresh_number c.land.used ≡ q → Keeps c x (put c x (c.agent x) q).cell
keep_put c i x g e k q l f = put_kept c i x g e q l
    (subst (λ (r : ℕ). c.land.used r ≡ false) f (fresh_unused c.land.used (omega arith)))
