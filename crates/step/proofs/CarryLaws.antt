-- What is decided of what is seen of a table, carried out, is the step call. Assumes nothing.
-- Idea: a field that is not changed is the table of its own elements, and a changed one has one value stored.
use Rattle.std.specs.Prelude.{◌≡◌, Bool, true, false, ◌&&◌, List, ltb, eqb, set, length}
use Rattle.std.proofs.Math.Path.{refl, sym, ap, ap₂}
use Rattle.std.proofs.Common.{subst, ◌∙◌, arith, length-set, ltb-true, ltb-false}
use Rattle.std.proofs.Math.Bool.{cond}
use Prim.Native.Nat.{ℕ, ◌%◌, ◌≤◌, ◌<◌}
use Rattle.std.proofs.Math.ListN.{get_or}
use Rattle.std.proofs.lemmas.List.{set-get_or}
use Rattle.std.proofs.Math.Seq.{set_out}
use Rattle.sets.specs.Set.{member}
use Rattle.table.specs.Base.{tab, upd}
use Rattle.table.proofs.BaseLaws.{Told, yea, nay, told, set_list}
use Rattle.table.specs.Cell.{none, no_agent, cell_of, table_of, put_locks, put_agents}
use Rattle.table.specs.Sound.{sound}
use Rattle.table.specs.Bounds.{Sized}
use Rattle.table.proofs.ElementLaws.{read_past, store_past}
use Rattle.table.proofs.CellLaws.{locks_are, back, agent_set, is_given}
use Rattle.table.specs.declared.Agent.{Agent}
use Rattle.table.specs.declared.Cell.{Cell}
use Rattle.meaning.specs.declared.Word.{Word}
use Rattle.meaning.specs.declared.Word.TheVariants.{Took, Held}
use Rattle.meaning.specs.Answers.{Answer, Did, Refused}
use Rattle.meaning.specs.Refusals.{unsound_table, no_such_agent}
use Rattle.meaning.specs.Update.{at_stage, with_locks, with_agent}
use Rattle.meaning.specs.Step.{still, turn, take, release, step_at, step}
use Rattle.meaning.specs.Run.{made, turned_away, step_of}
use Rattle.meaning.specs.Ask.{none_told}
use Rattle.soundness.specs.Seen.{seen_of}
use Rattle.updates.proofs.UpdateLaws.{did, store_tab}
use Rattle.stages.specs.Changes.{carried}
use Rattle.stages.proofs.ChangeLaws.{step_carried}
use Rattle.stages.specs.declared.Change.{Change}
use Rattle.stages.specs.declared.Change.TheVariants.{Still, Turn, Take, Release, Move}
use Rattle.step.specs.declared.Decision.{Decision}
use Rattle.step.specs.Decided.{becoming, staying, refusing, locked_choice, told_by, wanted_by, settling, change_in, settling_in, decided, agent_at, settled, carried_out}

-- ---- the agent's row

-- a number below 64 is its own index
pub index : (x : ℕ) → x < 64 → x % 64 ≡ x
index x l = omega arith

-- ---- locks

-- past 63 nothing is stored
pub lock_none : (ls : List ℕ) (q v : ℕ) → length ls ≡ 64 → 64 ≤ q → set ls q v ≡ ls
lock_none ls q v e l = set_out ls q v (subst (λ (n : ℕ). n ≤ q) (sym e) l)

-- a lock that is stored is one value changed
lock_set : (ls : List ℕ) (q v : ℕ) → length ls ≡ 64 → set ls q v ≡ tab (upd (λ j. get_or ls j 0) q v) 64 0
lock_set ls q v e = go (told (ltb q 64))
  where
    go : Told (ltb q 64) → set ls q v ≡ tab (upd (λ j. get_or ls j 0) q v) 64 0
    go (yea t) = set_list 0 ls 64 q v e (ltb-true q 64 t)
    go (nay t) = lock_none ls q v e (ltb-false q 64 t) ∙ store_past 0 ls q v e (ltb-false q 64 t)

-- and two that are stored are two
locks_set : (ls : List ℕ) (p q v : ℕ) → length ls ≡ 64 → set (set ls p v) q v ≡ tab (upd (upd (λ j. get_or ls j 0) p v) q v) 64 0
locks_set ls p q v e = lock_set (set ls p v) q v (length-set ls p v ∙ e) ∙ store_tab 0 (upd (λ j. get_or ls j 0) p v) (set ls p v) q v (lock_set ls p v e)

-- so two that were stored one after the other
pub locks_put : (ls ms ns : List ℕ) (p q v : ℕ) → length ls ≡ 64 → ms ≡ tab (upd (λ j. get_or ls j 0) p v) 64 0 → ns ≡ tab (upd (λ j. get_or ms j 0) q v) 64 0 → ns ≡ set (set ls p v) q v
locks_put ls ms ns p q v e f g = g ∙ store_tab 0 (upd (λ j. get_or ls j 0) p v) ms q v f ∙ sym (locks_set ls p q v e)

-- a lock that is read at the number among 64 of a place that is there is free exactly if it is free
pub lock_read : (ls : List ℕ) (q : ℕ) → length ls ≡ 64 → (ltb q 64 && eqb (get_or ls (q % 64) 0) none) ≡ eqb (get_or ls q 0) none
lock_read ls q e = go (told (ltb q 64))
  where
    go : Told (ltb q 64) → (ltb q 64 && eqb (get_or ls (q % 64) 0) none) ≡ eqb (get_or ls q 0) none
    go (yea t) = rw t (ap (λ (i : ℕ). eqb (get_or ls i 0) none) (index q (ltb-true q 64 t)))
    go (nay t) = rw t (sym (ap (λ (v : ℕ). eqb v none) (read_past 0 ls q e (ltb-false q 64 t))))

-- ---- the changes

module _ (t : Cell) (z : Sized t) (x : ℕ) where
  abbrev a : Agent
  a = agent_at t x

  -- no lock is stored
  unlocked : (v : ℕ) → set (set t.locks none v) none v ≡ t.locks
  unlocked v = lock_none (set t.locks none v) none v (length-set t.locks none v ∙ z.locks) (omega arith) ∙ lock_none t.locks none v z.locks (omega arith)

  -- the table as it was
  pub unsettled : (answer : Answer) (k : ℕ) → settled t x (staying a answer k) ≡ t
  unsettled answer k = λ i. put_locks (put_agents t (set-get_or t.agents (x % 64) no_agent i)) (unlocked none i)

  module _ (l : x < 64) where
    -- nothing changes
    carry_still : (w : Word) (k : ℕ) → carried_out t x (staying a (Did w 0) k) ≡ made (still (cell_of t) w)
    unfolding still carried_out
    carry_still w k = did _ w 0 (still (cell_of t) w) (unsettled (Did w 0) k ∙ sym (back t z)) refl refl

    -- agent x becomes b
    stored : (b : Agent) → set t.agents (x % 64) b ≡ tab (upd (cell_of t).agent x b) 64 0
    stored b = ap (λ (i : ℕ). set t.agents i b) (index x l) ∙ agent_set t z x b l

    -- the table with that agent and other locks is that of the cell with them
    changed : (d : Decision) (f : ℕ → ℕ) → set (set t.locks d.first d.lock) d.second d.lock ≡ tab f 64 0
        → settled t x d ≡ table_of (with_locks (with_agent (cell_of t) x (at_stage a d.stage d.remembered d.choice)) f)
    unfolding table_of
    changed d f g = λ i. put_locks (put_agents (sym (back t z) i) (stored (at_stage a d.stage d.remembered d.choice) i)) (g i)

    carry_turn : (stage remembered choice : ℕ) (w : Word) (k : ℕ)
        → carried_out t x (becoming stage remembered choice none none none (Did w 0) k) ≡ made (turn (cell_of t) x (at_stage a stage remembered choice) w)
    unfolding turn still carried_out
    carry_turn stage remembered choice w k =
        did _ w 0 (turn (cell_of t) x (at_stage a stage remembered choice) w)
        (changed (becoming stage remembered choice none none none (Did w 0) k) _ (unlocked none ∙ locks_are t z)) refl refl

    -- and takes the lock of q, which is free
    carry_took : (stage remembered choice q k : ℕ) → eqb (get_or t.locks q 0) none ≡ true
        → carried_out t x (becoming stage remembered choice q none x (Did Took 0) k) ≡ made (take (cell_of t) x q (at_stage a stage remembered choice))
    unfolding take still cell_of carried_out
    carry_took stage remembered choice q k h =
        rw h (did _ Took 0 _ (changed (becoming stage remembered choice q none x (Did Took 0) k) _
        (lock_none (set t.locks q x) none x (length-set t.locks q x ∙ z.locks) (omega arith) ∙ lock_set t.locks q x z.locks)) refl refl)

    -- the place is held
    carry_held : (q k : ℕ) (b : Agent) → eqb (get_or t.locks q 0) none ≡ false → carried_out t x (staying a (Did Held 0) k) ≡ made (take (cell_of t) x q b)
    unfolding take cell_of
    carry_held q k b h = rw h (carry_still Held k)

    -- and the locks of p and q are released
    carry_release : (stage remembered choice p q : ℕ) (w : Word) (k : ℕ)
        → carried_out t x (becoming stage remembered choice p q none (Did w 0) k) ≡ made (release (cell_of t) x p q (at_stage a stage remembered choice) w)
    unfolding release still cell_of carried_out
    carry_release stage remembered choice p q w k =
        did _ w 0 (release (cell_of t) x p q (at_stage a stage remembered choice) w)
        (changed (becoming stage remembered choice p q none (Did w 0) k) _ (locks_set t.locks p q none z.locks)) refl refl

    -- ---- the call

    -- what a change makes of the agent and the locks of a table, carried out, is what it makes of the cell
    pub settles : (k : Change) → carried_out t x (settling_in t x a k) ≡ made (carried (cell_of t) x a k)
    unfolding carried_out
    settles (Still w) = carry_still w none_told
    settles (Turn stage remembered w) = carry_turn stage remembered 0 w none_told
    settles (Take q stage remembered chosen) = go (told (eqb (get_or t.locks q 0) none))
      where
        o : ℕ
        o = told_by a (locked_choice stage chosen)

        pick : (b d : Bool) → b ≡ d → carried_out t x (cond b (becoming stage remembered chosen q none x (Did Took 0) o) (staying a (Did Held 0) o))
            ≡ carried_out t x (cond d (becoming stage remembered chosen q none x (Did Took 0) o) (staying a (Did Held 0) o))
        pick b d e = ap (λ (y : Bool). carried_out t x (cond y (becoming stage remembered chosen q none x (Did Took 0) o) (staying a (Did Held 0) o))) e

        go : Told (eqb (get_or t.locks q 0) none) → carried_out t x (settling_in t x a (Take q stage remembered chosen)) ≡ made (carried (cell_of t) x a (Take q stage remembered chosen))
        go (yea e) = pick _ true (lock_read t.locks q z.locks ∙ e) ∙ carry_took stage remembered chosen q o e
        go (nay e) = pick _ false (lock_read t.locks q z.locks ∙ e) ∙ carry_held q o (at_stage a stage remembered chosen) e
    settles (Release p q stage remembered w) = carry_release stage remembered 0 p q w none_told
    settles (Move m) = refl

  module _ (wish : ℕ) where
    -- a refused call leaves the table
    turned : (number k : ℕ) → carried_out t x (staying a (Refused number) k) ≡ turned_away t number
    unfolding carried_out turned_away
    turned number k = ap (λ (u : Cell). record { cell = u; answer = Refused number }) (unsettled (Refused number) k)

    -- a call of an agent that is given, on a sound table, makes the step
    stepped : member t.given x ≡ true → carried_out t x (settling_in t x a (change_in t a wish)) ≡ made (step (cell_of t) x wish)
    unfolding step cell_of
    stepped g =
        let low : x < 64 = is_given t z x g in
        let read : a ≡ get_or t.agents x no_agent = ap (λ (i : ℕ). get_or t.agents i no_agent) (index x low) in
        settles low (change_in t a wish)
        ∙ ap made (step_carried (cell_of t) x a a.stage wish ∙ ap (λ (b : Agent). step_at b.stage (cell_of t) x b wish) read)

    -- what is decided of what is seen of a table, carried out, is the step call
    pub decided_step : carried_out t x (decided (seen_of t x) t x wish) ≡ step_of t x wish
    unfolding decided step_of cell_of
    decided_step = go (told (sound (cell_of t))) (told (member t.given x))
      where
        go : Told (sound (cell_of t)) → Told (member t.given x) → carried_out t x (decided (seen_of t x) t x wish) ≡ step_of t x wish
        go (nay s) _ = rw s (turned unsound_table none_told)
        go (yea s) (nay g) = rw (s, g) (turned no_such_agent none_told)
        go (yea s) (yea g) = rw (s, g) (stepped g)

-- ---- what is decided of a table of which the agent, and then one lock, were read

module _ (t : Cell) (x wish : ℕ) (y : Bool) (e : y ≡ sound (cell_of t)) (k : ℕ) (i : k ≡ x % 64) where
  abbrev read : Agent
  read = get_or t.agents k no_agent

  -- where the call is a step
  pub step_decided : (y && member t.given x) ≡ true → (r : Change) → r ≡ change_in t read wish → (j : ℕ) → j ≡ wanted_by r % 64
      → settling r x read (get_or t.locks j 0) ≡ decided (seen_of t x) t x wish
  unfolding decided
  step_decided h r f j g = ap (λ (n : ℕ). settling r x read (get_or t.locks n 0)) g ∙ ap (settling_in t x read) f
      ∙ ap (λ (n : ℕ). settling_in t x (get_or t.agents n no_agent) (change_in t (get_or t.agents n no_agent) wish)) i
      ∙ sym (ap (λ (b : Bool). cond b (settling_in t x (agent_at t x) (change_in t (agent_at t x) wish)) (refusing (sound (cell_of t)) (agent_at t x)))
      (ap (λ (b : Bool). b && member t.given x) (sym e) ∙ h))

  -- and where it is none
  pub none_decided : (y && member t.given x) ≡ false → refusing y read ≡ decided (seen_of t x) t x wish
  unfolding decided
  none_decided h = ap₂ (λ (b : Bool) (n : ℕ). refusing b (get_or t.agents n no_agent)) e i
      ∙ sym (ap (λ (b : Bool). cond b (settling_in t x (agent_at t x) (change_in t (agent_at t x) wish)) (refusing (sound (cell_of t)) (agent_at t x)))
      (ap (λ (b : Bool). b && member t.given x) (sym e) ∙ h))
