-- A motion by its parts is the motion. Assumes nothing.
-- Idea: the tables are compared field by field; each array has at most one element that changes, or is the definition's own table.
use Rattle.std.specs.Prelude.{◌≡◌, Bool, false, ◌&&◌, List, ℕ, ◌%◌, ◌<◌, ltb, get_or, set}
use Rattle.std.proofs.Math.Path.{refl, ap}
use Rattle.std.proofs.Common.{sym, ap₂, ◌∙◌, arith}
use Rattle.std.proofs.Math.Bool.{true, cond}
use Rattle.std.proofs.Math.Dec.{eqb}
use Rattle.std.proofs.lemmas.List.{set-get_or}
use Rattle.sets.specs.Word.{count_of}
use Rattle.sets.proofs.WordLaws.{count_ext, word_has, word_lt}
use Rattle.sets.specs.Set.{member, inserted}
use Rattle.sets.proofs.SetLaws.{member_set}
use Rattle.table.specs.Base.{tab, upd}
use Rattle.table.proofs.BaseLaws.{Told, yea, nay, told, clash, tab_ext}
use Rattle.table.specs.Bounds.{Sized}
use Rattle.table.specs.Cell.{no_place, no_agent, linked, cell_of, table_of, name_of, plain_name, put_agents}
use Rattle.table.proofs.CellLaws.{table_eq, places_are, used_are, given_are, touches_are, in_use}
use Rattle.table.specs.declared.Place.{Place}
use Rattle.table.specs.declared.Agent.{Agent}
use Rattle.table.specs.declared.Cell.{Cell}
use Rattle.meaning.specs.declared.Stepped.{Stepped}
use Rattle.meaning.specs.Update.{with_parent, with_way, linked_place, at_stage}
use Rattle.meaning.specs.Step.{rest_stage, asleep_on, woken_by, woken_on, wake, leave, arrive, put, dissolve, dissolve_lock, beyond}
use Rattle.meaning.specs.Run.{made}
use Rattle.updates.proofs.UpdateLaws.{did}
use Rattle.moves.specs.declared.Motion.{Motion}
use Rattle.moves.specs.declared.Motion.TheVariants.{Leave, Arrive, Dissolve, Put}
use Rattle.moves.specs.Motions.{shifted, woken_in}
use Rattle.moves.proofs.PutLaws.{inserted_test}
use Rattle.moves.proofs.OpenLaws.{release_tab, held_freed}
use Rattle.moving.specs.Plan.{number_of, goal_of}
use Rattle.moving.specs.Shift.{held_locks}
use Rattle.moving.proofs.ShiftLaws.{put_one}
use Rattle.walked.specs.Turns.{Waking, agents_after, sleepers_of, holders_of}
use Rattle.walked.specs.Plans.{Plan, plan_of}
use Rattle.walked.specs.Shifts.{plan_in, walked_by, walk_of, with_mover, moved_on, opened_of, answer_of}

-- ---- one element, at a number that is read masked by 64

masked : (n : ℕ) → n < 64 → n % 64 ≡ n
masked n h = omega (arith, h)

-- an element that stays
kept_one : {A : Type 0} (d : A) (f : ℕ → A) (l : List A) → l ≡ tab f 64 0 → (k : ℕ) → set l k (get_or l k d) ≡ tab f 64 0
kept_one d f l e k = set-get_or l k d ∙ e

module _ (t : Cell) (z : Sized t) where
  -- ---- those asleep are woken
  module _ (p q r : ℕ) where
    woken_count : count_of 64 (member (sleepers_of t false p q r)) ≡ woken_on (cell_of t) p q r
    unfolding cell_of
    woken_count = count_ext 64 _ _ (λ j l. member_set (λ y. member t.given y && asleep_on p q r (get_or t.agents y no_agent)) j l)

    both : (g s : Bool) (a b : Agent) → cond g (cond s a b) b ≡ cond (g && s) a b
    both true s a b = refl
    both false s a b = refl

    woken_agents : agents_after t false p q r ≡ tab (wake (cell_of t) p q r) 64 0
    unfolding cell_of wake
    woken_agents = tab_ext no_agent 64 _ _ (λ j l. both (member t.given j) (asleep_on p q r (get_or t.agents j no_agent)) _ _)

    pub moved_agents : (x : ℕ) (b : Agent) → set (agents_after t false p q r) (x % 64) (cond (ltb x 64) b (get_or (agents_after t false p q r) (x % 64) no_agent)) ≡ tab (upd (wake (cell_of t) p q r) x b) 64 0
    moved_agents x b = put_one no_agent (wake (cell_of t) p q r) (agents_after t false p q r) woken_agents x b b (λ h. refl)

  -- ---- the place that moves
  moved_place : (f : Place → Place) (n : ℕ) → set t.places (n % 64) (cond (ltb n 64) (f (get_or t.places (n % 64) no_place)) (get_or t.places (n % 64) no_place))
      ≡ tab (upd (cell_of t).land.place n (f ((cell_of t).land.place n))) 64 0
  unfolding cell_of
  moved_place f n = put_one no_place (cell_of t).land.place t.places (places_are t z) n _ _ (λ h. ap (λ (k : ℕ). f (get_or t.places k no_place)) (masked n h))

  kept_touches : (k : ℕ) → set t.touches k (get_or t.touches k 0) ≡ tab (cell_of t).touches 64 0
  kept_touches k = kept_one 0 (cell_of t).touches t.touches (touches_are t z) k

  -- what a place is linked to is asked of one in use only
  beyond_is : (d : ℕ) → cond (member t.used d && eqb (get_or t.places (d % 64) no_place).way 0) (get_or t.places (d % 64) no_place).parent d ≡ beyond (cell_of t).land d
  unfolding cell_of linked
  beyond_is d = go (told (member t.used d))
    where
      go : Told (member t.used d) → cond (member t.used d && eqb (get_or t.places (d % 64) no_place).way 0) (get_or t.places (d % 64) no_place).parent d
          ≡ cond (member t.used d && eqb (get_or t.places d no_place).way 0) (get_or t.places d no_place).parent d
      go (yea y) = ap (λ (k : ℕ). cond (member t.used d && eqb (get_or t.places k no_place).way 0) (get_or t.places k no_place).parent d) (masked d (in_use t z d y))
      go (nay y) = rw y

  -- ---- those whom a motion wakes
  pub woken_is : (a : Agent) (m : Motion) → count_of 64 (member (walk_of t (plan_in t a m)).sleepers) ≡ woken_in (cell_of t) a m
  unfolding cell_of
  woken_is a (Leave d) = woken_count a.remembered a.home a.home
  woken_is a (Arrive d) = woken_count a.home d (plan_in t a (Arrive d)).r ∙ ap (λ (r : ℕ). woken_on (cell_of t) a.home d r) (beyond_is d)
  woken_is a Dissolve = count_ext 64 _ _ (λ j l. member_set (λ y. member t.given y && woken_by a.remembered a.chosen (get_or t.agents y no_agent)) j l)
  woken_is a (Put n) = woken_count a.remembered a.remembered a.remembered

  -- ---- the motions
  module _ (x : ℕ) (a : Agent) where
    abbrev on : Motion → Stepped
    on m = record {
      cell = moved_on (with_mover (walked_by t (plan_in t a m)) x (plan_in t a m)) (number_of a m % 64) (plan_in t a m);
      answer = answer_of (plan_in t a m) (walk_of t (plan_in t a m));
    }

    left : (d : ℕ) → on (Leave d) ≡ made (leave (cell_of t) x a d)
    unfolding cell_of table_of leave
    left d = did _ _ _ (leave (cell_of t) x a d)
        (table_eq (moved_place (λ y. with_way (with_parent y d) 1) a.home) refl (moved_agents a.remembered a.home a.home x _) (used_are t z) (given_are t z) (kept_touches (a.home % 64)) refl)
        refl (woken_is a (Leave d))

    came : (d : ℕ) → on (Arrive d) ≡ made (arrive (cell_of t) x a d)
    unfolding cell_of table_of arrive
    came d = did _ _ _ (arrive (cell_of t) x a d)
        (table_eq (moved_place (λ y. with_way y 0) a.home) refl
        (moved_agents a.home d (plan_in t a (Arrive d)).r x rested ∙ ap (λ (r : ℕ). tab (upd (wake (cell_of t) a.home d r) x rested) 64 0) (beyond_is d))
        (used_are t z) (given_are t z) (kept_touches (a.home % 64)) refl)
        refl (woken_is a (Arrive d))
      where
        rested : Agent
        rested = at_stage a (rest_stage a) 0 0

    set_down : (n : ℕ) → on (Put n) ≡ made (put (cell_of t) x a n)
    unfolding cell_of table_of put
    set_down n = did _ _ _ (put (cell_of t) x a n)
        (table_eq (put_one no_place (cell_of t).land.place t.places (places_are t z) n (linked_place (plain_name (name_of a)) a.remembered) _ (λ h. refl)) refl
        (moved_agents a.remembered a.remembered a.remembered x _) (sym (word_has 64 (inserted t.used n).bits (word_lt 64 _)) ∙ inserted_test t n) (given_are t z)
        (put_one 0 (cell_of t).touches t.touches (touches_are t z) n 0 0 (λ h. refl)) refl)
        refl (woken_is a (Put n))

    -- a motion that opens nothing
    pub moves_on : (m : Motion) → (plan_in t a m).opens ≡ false → on m ≡ made (shifted (cell_of t) x a m)
    moves_on (Leave d) e = left d
    moves_on (Arrive d) e = came d
    moves_on Dissolve e = clash refl e
    moves_on (Put n) e = set_down n

    -- ---- a place is opened
    abbrev in_two : Motion → Stepped
    in_two m = record {
      cell = opened_of (with_mover (walked_by t (plan_in t a m)) x (plan_in t a m)) (plan_in t a m) (walk_of t (plan_in t a m));
      answer = answer_of (plan_in t a m) (walk_of t (plan_in t a m));
    }

    opened : in_two Dissolve ≡ made (dissolve (cell_of t) x a a.remembered a.chosen)
    unfolding cell_of table_of dissolve
    opened = did _ _ _ (dissolve (cell_of t) x a a.remembered a.chosen)
        (table_eq refl
        (release_tab t a.remembered a.chosen (dissolve_lock (cell_of t) a.chosen) (held_locks t.locks t.used (holders_of t true a.remembered a.chosen 64))
        (tab_ext 0 64 _ _ (λ q _. held_freed t a.remembered a.chosen z _ refl q)))
        (put_one no_agent _ (agents_after t true a.remembered a.chosen 64) refl x _ _ (λ h. refl)) refl (given_are t z) refl refl)
        refl (woken_is a Dissolve)

    pub opens_up : (m : Motion) → (plan_in t a m).opens ≡ true → in_two m ≡ made (shifted (cell_of t) x a m)
    opens_up (Leave d) e = clash e refl
    opens_up (Arrive d) e = clash e refl
    opens_up Dissolve e = opened
    opens_up (Put n) e = clash e refl

    -- ---- as the program goes about it: numbers are masked, and what is read and made has names
    module _ (m : Motion) (n k g j i : ℕ) (l : Plan) (c : Cell) (w : Waking) (b : Agent)
        (e_n : n ≡ number_of a m) (e_k : k ≡ n % 64) (e_g : g ≡ goal_of m) (e_j : j ≡ g % 64)
        (e_l : l ≡ plan_of a m (get_or t.places k no_place) (get_or t.places j no_place) (get_or t.touches k 0) t.locks t.used t.order)
        (e_c : c ≡ walked_by t l) (e_w : w ≡ walk_of t l) (e_i : i ≡ x % 64) (e_b : b ≡ cond (ltb x 64) l.agent (get_or c.agents i no_agent)) where
      number_is : k ≡ number_of a m % 64
      number_is = e_k ∙ ap (λ (y : ℕ). y % 64) e_n

      plan_is : l ≡ plan_in t a m
      plan_is = e_l ∙ ap₂ (λ (u v : ℕ). plan_of a m (get_or t.places u no_place) (get_or t.places v no_place) (get_or t.touches u 0) t.locks t.used t.order)
          number_is (e_j ∙ ap (λ (y : ℕ). y % 64) e_g)

      -- the cell with the moving agent
      mover_is : put_agents c (set c.agents i b) ≡ with_mover (walked_by t l) x l
      mover_is = ap (λ (y : Agent). put_agents c (set c.agents i y)) e_b
          ∙ ap₂ (λ (u : Cell) (v : ℕ). put_agents u (set u.agents v (cond (ltb x 64) l.agent (get_or u.agents v no_agent)))) e_c e_i

      pub ends_on : l.opens ≡ false
          → record { cell = moved_on (put_agents c (set c.agents i b)) k l; answer = answer_of l w } ≡ made (shifted (cell_of t) x a m)
      ends_on o = (λ z. record { cell = moved_on (mover_is z) (number_is z) l; answer = answer_of l (e_w z) })
          ∙ ap (λ (y : Plan). record { cell = moved_on (with_mover (walked_by t y) x y) (number_of a m % 64) y; answer = answer_of y (walk_of t y) }) plan_is
          ∙ moves_on m (sym (ap (λ (y : Plan). y.opens) plan_is) ∙ o)

      pub ends_open : l.opens ≡ true
          → record { cell = opened_of (put_agents c (set c.agents i b)) l w; answer = answer_of l w } ≡ made (shifted (cell_of t) x a m)
      ends_open o = (λ z. record { cell = opened_of (mover_is z) l (e_w z); answer = answer_of l (e_w z) })
          ∙ ap (λ (y : Plan). record { cell = opened_of (with_mover (walked_by t y) x y) y (walk_of t y); answer = answer_of y (walk_of t y) }) plan_is
          ∙ opens_up m (sym (ap (λ (y : Plan). y.opens) plan_is) ∙ o)
