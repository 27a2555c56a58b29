-- What a step does to the cell the plain tree does too, by the answered word alone: steps that change no place, leaving, coming, opening and putting
-- out.
-- Idea: its pick at the second took is the cell's choice, since both read places alike; leaving and opening are then the same move in both,
-- and a put is, since the smallest unused number is the same.
use Rattle.std.specs.Prelude.{◌≡◌, refl, ◌≢◌, Bool, false}
use Rattle.std.proofs.Math.Path.{sym, ap, ap₂, fun_ext}
use Rattle.std.proofs.Common.{◌∙◌, subst, arith, eqb-true, ne_eqb}
use Rattle.std.proofs.Math.Logic.{inl}
use Rattle.std.proofs.Math.Bool.{true}
use Prim.Native.Nat.{ℕ, ◌≤◌}
use Rattle.std.proofs.Math.Dec.{eqb}
use Rattle.order.specs.Row.{later, latest}
use Rattle.table.specs.Base.{upd}
use Rattle.table.proofs.BaseLaws.{Told, yea, nay, told, upd_same, upd_other, upd_all}
use Rattle.table.specs.Cell.{State, linked, fresh_number, next_action, kind_of, name_of, enter_kind, exit_kind, open_kind, release_kind, looks_home, chooses}
use Rattle.table.proofs.KindLaws.{Kind, is_enter, is_exit, is_open, is_release, home_kind, around_kind}
use Rattle.table.specs.declared.Action.{Action}
use Rattle.table.specs.declared.Agent.{Agent}
use Rattle.meaning.specs.declared.Word.TheVariants.{Took, Left, Came, Opened, Put}
use Rattle.meaning.specs.Update.{at_stage, use_up, with_locks}
use Rattle.meaning.specs.Step.{choose, choice, stays, put, leave, child_of, dissolve, arrive, beyond, rest_stage, dissolve_agent}
use Rattle.meaning.specs.Calculus.{next_of, stands_at, put_into, open_up, put_out, move}
use Rattle.meaning.specs.Plain.{Plain, with_picks, tree_of, land_in, held_in, pick_of, plain_word}
use Rattle.demands.specs.Reading.{parent_in, agent_in}
use Rattle.demands.proofs.ReadingLaws.{travels_sent, travels_linked, travels_put, travels_dissolved, agent_given, agent_turned, wake_agent}
use Rattle.demands.proofs.ReadingLaws.{agent_woken, agent_dissolved}
use Rattle.demands.specs.Invariant.{Under, Sound}
use Rattle.demands.proofs.Facts.{link_used, parent_read, stays_under}
use Rattle.demands.proofs.Stages.{ok_at, rest_stage_lem, not_between, SameOrReset, same_between, ok_given, fit_given, both_move}
use Rattle.demands.proofs.Actions.{kind_of_lem}
use Rattle.demands.specs.Ways.{goes_on}
use Rattle.demands.proofs.StepWays.{kind_given}
use Rattle.demands.proofs.OpeningAgents.{dissolved, dissolved_reset}
use Rattle.demands.proofs.Frame.{rouses, roused_reset}
use Rattle.demands.proofs.OpeningPlaces.{linked_not_floor, child_not_self}
use Rattle.demands.proofs.TreeOf.{tree_quiet, tree_came, tree_left, tree_put, tree_opened}
use Rattle.demands.proofs.SamePlaces.{choose_alike}
use Rattle.demands.proofs.SameTree.{given_home, given_next, given_around, given_beyond, move_enter, move_exit, move_open, move_release}
use Rattle.demands.proofs.SamePlain.{Picked, Same, same_places}

module _ (c : State) (i : Sound c) (x : ℕ) (g : c.given x ≡ true) (t : Plain) (m : Same c t) where
  -- the agent that steps
  abbrev a : Agent
  a = c.agent x

  -- the agent's home and next action are the same in both, and its pick at stage 3 is its chosen place
  home : t.tree.home x ≡ a.home
  home = ap (λ v. v.home x) m.tree ∙ given_home c x g

  next : next_of t.tree x ≡ next_action a
  next = ap (λ v. next_of v x) m.tree ∙ given_next c x g (i.fit x)

  pub chosen_pick : a.stage ≡ 3 → kind_of a ≢ exit_kind → t.pick x ≡ a.chosen
  chosen_pick = subst (Picked t.pick x) (agent_given c x g) (m.pick x)

  -- ---- the picks of all agents, when x becomes b and every other agent becomes what f says

  picks : (pick : ℕ → ℕ) {after : ℕ → Agent} (f : ℕ → Agent) (b : Agent) → after ≡ upd f x b → Picked pick x b
      → ((y : ℕ) → y ≢ x → pick y ≡ t.pick y) → ((y : ℕ) → SameOrReset (agent_in c y) (f y)) → (y : ℕ) → Picked pick y (after y)
  picks pick f b reads p o same = subst (λ (h : ℕ → Agent). (y : ℕ) → Picked pick y (h y)) (sym reads) (upd_all f x b (Picked pick) p
      (λ y n. λ s k. o y n ∙ subst (Picked t.pick y) (sym (same_between (same y) (omega arith) (omega arith))) (m.pick y) s k))

  -- ---- steps that change no place

  turned : (locks : ℕ → ℕ) (stage remembered chosen : ℕ) (pick : ℕ → ℕ) → (stage ≡ 3 → kind_of a ≢ exit_kind → pick x ≡ chosen)
      → ((y : ℕ) → y ≢ x → pick y ≡ t.pick y)
      → Same (with_locks (goes_on c x stage remembered chosen) locks) (with_picks t pick)
  unfolding agent_in next_action
  turned locks stage remembered chosen pick p o = record {
    tree = m.tree ∙ sym (tree_quiet c x g locks stage remembered chosen);
    travels = m.travels;
    pick = picks pick (agent_in c) b (agent_turned c x b g) p o (λ y. inl refl);
    order = m.order;
  }
    where
      b : Agent
      b = at_stage a stage remembered chosen

  -- no pick changes, and the agent does not come to stage 3
  pub plain_quiet : (locks : ℕ → ℕ) (stage remembered chosen : ℕ) → stage ≢ 3 → Same (with_locks (goes_on c x stage remembered chosen) locks) t
  plain_quiet locks stage remembered chosen n = turned locks stage remembered chosen t.pick (λ s. absurd (n s)) (λ y _. refl)

  -- took: the agent's pick becomes the place that stage 2 would choose
  pub plain_took : (locks : ℕ → ℕ) (stage remembered chosen wish : ℕ) → (stage ≡ 3 → kind_of a ≢ exit_kind → pick_of t x wish ≡ chosen)
      → Same (with_locks (goes_on c x stage remembered chosen) locks) (plain_word t x wish Took)
  unfolding plain_word
  plain_took locks stage remembered chosen wish p = turned locks stage remembered chosen (upd t.pick x (pick_of t x wish))
      (λ s k. upd_same t.pick x (pick_of t x wish) ∙ p s k) (λ y n. upd_other t.pick x y (pick_of t x wish) n)

  kind : (next_of t.tree x).kind ≡ kind_of a
  kind = ap (λ v. v.kind) next

  -- an action that is left, no exit and no release, chooses
  still_chooses : Kind (kind_of a) → kind_of a ≤ open_kind → kind_of a ≢ exit_kind → chooses (next_of t.tree x).kind ≡ true
  still_chooses (is_enter e) b n = ap chooses (kind ∙ e)
  still_chooses (is_exit e) b n = absurd (n e)
  still_chooses (is_open e) b n = ap chooses (kind ∙ e)
  still_chooses (is_release e) b n = absurd (omega arith)

  -- where p is the place that the agent holds, the plain tree picks what the cell chooses for enter and open
  pub plain_choice : (wish : ℕ) → a.stage ≡ 2 → kind_of a ≤ open_kind → kind_of a ≢ exit_kind → held_in t.tree x ≡ a.remembered
      → pick_of t x wish ≡ choice c.land a wish
  unfolding pick_of
  plain_choice wish s b n e = rw (still_chooses (kind_of_lem a (fit_given c i x g) (ok_at 2 s (ok_given c i x g)).0.some) b n)
      (choose_alike (land_in t) c.land (same_places c t i.places m) (next_of t.tree x).kind (next_of t.tree x).name
      (t.tree.home x) (held_in t.tree x) wish
      ∙ ap (λ (v : Action). choose c.land v.kind v.name (t.tree.home x) (held_in t.tree x) wish) next
      ∙ ap (λ (h : ℕ). choose c.land (kind_of a) (name_of a) h (held_in t.tree x) wish) home
      ∙ ap (λ (p : ℕ). choose c.land (kind_of a) (name_of a) a.home p wish) e)

  -- where the agent's own place stands
  around : t.tree.parent (t.tree.home x) ≡ parent_in c.land a.home
  around = ap (λ v. v.parent (v.home x)) m.tree ∙ given_around c x g

  -- an agent at stage 2 that stays holds the place that the plain tree takes for p
  pub plain_held : a.stage ≡ 2 → stays c.land a ≡ true → held_in t.tree x ≡ a.remembered
  plain_held s st = go (told (looks_home (kind_of a)))
    where
      go : Told (looks_home (kind_of a)) → held_in t.tree x ≡ a.remembered
      go (yea k) = rw (ap looks_home kind ∙ k) (home ∙ sym ((ok_at 2 s (ok_given c i x g)).0.opener (home_kind (kind_of a) k)))
      go (nay k) = rw (ap looks_home kind ∙ k)
          (around ∙ (stays_under c.land a (around_kind (kind_of a) (kind_given c i x g) k) st).parent)

  -- ---- leaving, opening, coming

  -- left: the move is made in both, and its place travels
  pub plain_left : (d wish : ℕ) → linked c.land a.home ≡ true → move t.tree x (t.pick x) ≡ put_into (tree_of c) x d
      → Same (leave c x a d).cell (plain_word t x wish Left)
  unfolding plain_word agent_in leave
  plain_left d wish k e = record {
    tree = e ∙ sym (tree_left c x g d u);
    travels = ap₂ (λ (f : ℕ → Bool) (h : ℕ). upd f h true) m.travels home
        ∙ sym (travels_sent c.land a.home d u (linked_not_floor i.places k));
    pick = picks t.pick (λ y. wake_agent a.remembered a.home a.home (agent_in c y)) gone
        (agent_woken c a.remembered a.home a.home x gone g) (λ s. absurd (omega arith)) (λ y _. refl)
        (λ y. roused_reset (rouses a.remembered a.home a.home (agent_in c y)));
    order = m.order;
  }
    where
      u : c.land.used a.home ≡ true
      u = link_used c.land a.home k

      gone : Agent
      gone = at_stage (use_up a) 4 0 0

  -- came: its place travels no more
  pub plain_came : (wish : ℕ) → Same (arrive c x a (parent_in c.land a.home)).cell (plain_word t x wish Came)
  unfolding plain_word agent_in arrive
  plain_came wish = record {
    tree = m.tree ∙ sym (tree_came c x g d);
    travels = ap₂ (λ (f : ℕ → Bool) (h : ℕ). upd f h false) m.travels home ∙ sym (travels_linked c.land a.home);
    pick = picks t.pick (λ y. wake_agent a.home d (beyond c.land d) (agent_in c y)) gone
        (agent_woken c a.home d (beyond c.land d) x gone g) (λ s. absurd (not_between (rest_stage_lem a) (omega arith) (omega arith)))
        (λ y _. refl) (λ y. roused_reset (rouses a.home d (beyond c.land d) (agent_in c y)));
    order = ap₂ latest home m.order;
  }
    where
      d : ℕ
      d = parent_in c.land a.home

      gone : Agent
      gone = at_stage a (rest_stage a) 0 0

  -- what stands in a place other than the floor: the same in the cell and in its tree
  freed : (p : ℕ) → p ≢ 0 → (q : ℕ) → stands_at (tree_of c) q p ≡ child_of c.land p q
  unfolding stands_at tree_of
  freed p n q = go (told (c.land.used q)) (told (eqb q 0))
    where
      floor : c.land.used q ≡ true → eqb q 0 ≡ true → (c.land.place q).parent ≡ 0
      floor k o = sym (parent_read c.land q k) ∙ ap (parent_in c.land) (eqb-true q 0 o) ∙ i.places.floor_parent

      go : Told (c.land.used q) → Told (eqb q 0) → stands_at (tree_of c) q p ≡ child_of c.land p q
      go (yea k) (yea o) = rw (k, o) (sym (ne_eqb (c.land.place q).parent p (λ e. n (sym e ∙ floor k o))))
      go (yea k) (nay o) = rw (k, o)
      go (nay k) _ = rw k

  -- opened: the move is made in both
  pub plain_opened : (wish : ℕ) → t.pick x ≡ a.chosen → a.remembered ≡ a.home → Under c.land a.chosen a.remembered
      → move t.tree x (t.pick x) ≡ open_up (tree_of c) x a.chosen
      → Same (dissolve c x a a.remembered a.chosen).cell (plain_word t x wish Opened)
  unfolding plain_word agent_in dissolve
  plain_opened wish picked h u e = record {
    tree = e ∙ sym (tree_opened c x g a.remembered a.chosen h (λ z. child_not_self i.places u (h ∙ z)) z);
    travels = m.travels ∙ sym (travels_dissolved c.land a.remembered a.chosen u.link);
    pick = picks t.pick (λ y. dissolve_agent a.remembered a.chosen (agent_in c y)) gone
        (agent_dissolved c a.remembered a.chosen x gone g z)
        (λ s. absurd (not_between (rest_stage_lem (use_up a)) (omega arith) (omega arith))) (λ y _. refl)
        (λ y. dissolved_reset (dissolved a.remembered a.chosen (agent_in c y)));
    order = ap₂ later (fun_ext (λ q. ap₂ (λ v (p : ℕ). stands_at v q p) m.tree picked ∙ freed a.chosen z q)) m.order;
  }
    where
      z : a.chosen ≢ 0
      z = linked_not_floor i.places u.link

      gone : Agent
      gone = at_stage (use_up a) (rest_stage (use_up a)) 0 0

  -- the smallest unused number is the same in both
  same_fresh : fresh_number t.tree.used ≡ fresh_number c.land.used
  unfolding tree_of
  same_fresh = ap (λ v. fresh_number v.used) m.tree

  -- put: the move is made in both, and the new place is the latest
  pub plain_put : (q wish : ℕ) → a.remembered ≡ a.home → c.land.used q ≡ false → fresh_number c.land.used ≡ q
      → move t.tree x (fresh_number t.tree.used) ≡ put_out (tree_of c) x q
      → Same (put c x a q).cell (plain_word t x wish Put)
  unfolding plain_word agent_in put
  plain_put q wish h u f e = record {
    tree = e ∙ sym (tree_put c x g q (i.fit x) h);
    travels = m.travels ∙ sym (travels_put c.land q (name_of a) a.remembered u);
    pick = picks t.pick (λ y. wake_agent a.remembered a.remembered a.remembered (agent_in c y)) gone
        (agent_woken c a.remembered a.remembered a.remembered x gone g)
        (λ s. absurd (not_between (rest_stage_lem (use_up a)) (omega arith) (omega arith))) (λ y _. refl)
        (λ y. roused_reset (rouses a.remembered a.remembered a.remembered (agent_in c y)));
    order = ap₂ latest (same_fresh ∙ f) m.order;
  }
    where
      gone : Agent
      gone = at_stage (use_up a) (rest_stage (use_up a)) 0 0

  -- ---- the moves of the plain tree

  -- enter goes into the chosen place
  pub enter_result : a.stage ≡ 3 → kind_of a ≡ enter_kind → move t.tree x (t.pick x) ≡ put_into (tree_of c) x a.chosen
  enter_result s k = ap₂ (λ v q. move v x q) m.tree (chosen_pick s (λ z. absurd (omega arith))) ∙ move_enter c x g (i.fit x) a.chosen k

  -- exit goes to where the place around stands
  pub exit_result : a.stage ≡ 3 → kind_of a ≡ exit_kind → move t.tree x (t.pick x) ≡ put_into (tree_of c) x (parent_in c.land a.remembered)
  exit_result s k = ap (λ v. move v x (t.pick x)) m.tree ∙ move_exit c x g (i.fit x) (t.pick x) k
      ∙ ap (put_into (tree_of c) x) (given_beyond c x g a.remembered (both_move c i x g s (omega arith)).under.parent)

  -- open dissolves the chosen place
  pub open_result : a.stage ≡ 3 → kind_of a ≡ open_kind → move t.tree x (t.pick x) ≡ open_up (tree_of c) x a.chosen
  open_result s k = ap₂ (λ v q. move v x q) m.tree (chosen_pick s (λ z. absurd (omega arith))) ∙ move_open c x g (i.fit x) a.chosen k

  -- release puts out a place under the smallest unused number
  pub release_result : (q : ℕ) → kind_of a ≡ release_kind → fresh_number c.land.used ≡ q
      → move t.tree x (fresh_number t.tree.used) ≡ put_out (tree_of c) x q
  release_result q k e = ap₂ (λ v r. move v x r) m.tree (same_fresh ∙ e) ∙ move_release c x g (i.fit x) q k
