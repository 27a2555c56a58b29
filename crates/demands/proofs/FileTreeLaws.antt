-- "It starts as the file says, with nothing travelling and no picks": of every accepted file, the plain tree beside the cell starts as the one that
-- the bytes of the file say, and after any list of calls it is that one with the answers followed.
-- Idea: record by record; a place or agent that a record gives was not given before, so what is read of it is the record's.
use Rattle.std.specs.Prelude.{◌≡◌, ◌≢◌, ◌⊎◌, true, false, ◌||◌, ℕ, zero, suc, ◌+◌, ◌≤◌, ◌<◌, ltb, eqb, length}
use Rattle.std.proofs.Math.Path.{refl, sym, ap, ap₂, fun_ext}
use Rattle.std.proofs.Common.{◌∙◌, subst, inl, inr, arith, eq-eqb, ne_eqb, leb-false}
use mathlib.Core.List.{List, [], ◌∷◌, ◌++◌}
use Rattle.std.proofs.Math.Bool.{cond}
use Rattle.table.specs.Base.{upd}
use Rattle.table.proofs.BaseLaws.{Told, yea, nay, told, eq?, upd_same, upd_other, upd_all}
use Rattle.table.specs.Cell.{State, no_name, fresh_agent, unused, cell_of, bare_table}
use Rattle.table.specs.declared.Name.{Name}
use Rattle.table.specs.declared.Action.{Action}
use Rattle.table.specs.declared.Agent.{Agent}
use Rattle.meaning.specs.Refusals.{after_end}
use Rattle.meaning.specs.declared.Record.{Record}
use Rattle.meaning.specs.declared.Record.TheVariants.{PlaceRecord, AgentRecord, ActionRecord, EndRecord, TouchRecord, Faulty}
use Rattle.meaning.specs.Update.{with_home}
use Rattle.meaning.specs.File.{byte_at, name_at, name_given, place_length, record_at, add_place, add_agent, with_action, add_action, give_touches, is_full}
use Rattle.meaning.specs.File.{Progress, with_cell, with_counted, known_in, bare_progress, Load, accepted, refused, load_record, load_from, load}
use Rattle.meaning.proofs.FileLaws.{Fits, place, agent, action, end, touch, faulty, record_fits, bare_used, bare_given, load_either}
use Rattle.meaning.specs.Run.{Call}
use Rattle.meaning.specs.Calculus.{Tree}
use Rattle.meaning.specs.Plain.{Plain, tree_of, plain_of, plain_run}
use Rattle.demands.specs.AfterCalls.{answered, plain_after}
use Rattle.demands.specs.Reading.{parent_in, name_in}
use Rattle.demands.proofs.Actions.{unused_none, unused_more}
use Rattle.demands.specs.Fresh.{Fresh}
use Rattle.demands.proofs.Loading.{bare_fresh, bare_parent, used_added, parent_added, name_added, add_place_lem, add_agent_lem, add_action_lem, give_touches_lem}
use Rattle.demands.proofs.LoadingRecords.{Stands, a_place, an_agent, an_action, the_end, touches, at_fault, record_stands}
use Rattle.demands.proofs.LoadingOrder.{accepted_logged}
use Rattle.demands.specs.FileTree.{bare_tree, with_place_record, with_agent_record, with_action_record, with_records, tree_in, plain_in}

-- trees that read alike are equal
tree_equal : {t u : Tree} → t.used ≡ u.used → t.name ≡ u.name → t.parent ≡ u.parent → t.home ≡ u.home → t.unused ≡ u.unused → t ≡ u
tree_equal used name parent home unused = λ j. record { used = used j; name = name j; parent = parent j; home = home j; unused = unused j }

-- ---- the bare floor

bare_name : (q : ℕ) → name_in (cell_of bare_table).land q ≡ no_name
unfolding name_in
bare_name q = go (eq? q 0)
  where
    go : (q ≡ 0) ⊎ (q ≢ 0) → name_in (cell_of bare_table).land q ≡ no_name
    go (inl e) = ap (name_in (cell_of bare_table).land) e ∙ bare_fresh.places.floor_name
    go (inr n) = rw (bare_used q, ne_eqb q 0 n)

bare_tree_lem : tree_of (cell_of bare_table) ≡ bare_tree
unfolding tree_of name_in parent_in
bare_tree_lem = tree_equal (fun_ext bare_used) (fun_ext bare_name) (fun_ext bare_parent) (fun_ext (λ x. rw (bare_given x))) (fun_ext (λ x. rw (bare_given x)))

-- ---- what a record adds

module _ (c : State) (f : Fresh c) where
  -- a place record
  tree_place : (n p : ℕ) (m : Name) → n ≢ 0 → n < 64 → c.land.used n ≡ false → c.land.used p ≡ true → 1 ≤ m.name
      → tree_of (add_place c n p m) ≡ with_place_record (tree_of c) n p m
  unfolding tree_of name_in parent_in with_place_record
  tree_place n p m n0 low new known named = tree_equal (used_added c f n p m n0 low new known named) (name_added c f n p m n0 low new known named)
      (parent_added c f n p m n0 low new known named) (unfold add_place in refl) (unfold add_place in refl)

  -- an agent record
  tree_agent : (n home : ℕ) → n < 64 → c.given n ≡ false → tree_of (add_agent c n home) ≡ with_agent_record (tree_of c) n home
  unfolding tree_of with_agent_record add_agent
  tree_agent n home low new = tree_equal refl refl refl
      (fun_ext (upd_all c.agent n a (λ x v. cond (eqb x n || c.given x) v.home 0 ≡ upd homes n home x)
      (rw (eq-eqb n n refl) (sym (upd_same homes n home))) (λ x d. rw (ne_eqb x n d) (sym (upd_other homes n x home d)))))
      (fun_ext (upd_all c.agent n a (λ x v. cond (eqb x n || c.given x) (unused v) [] ≡ cond (c.given x) (unused (c.agent x)) [])
      (rw (eq-eqb n n refl, new) none) (λ x d. rw (ne_eqb x n d))))
    where
      a : Agent
      a = with_home (c.agent n) home

      homes : ℕ → ℕ
      homes x = cond (c.given x) (c.agent x).home 0

      none : unused a ≡ []
      none = ap (λ (b : Agent). unused (with_home b home)) (f.no_agents n low new) ∙ unused_none (with_home fresh_agent home) refl

  -- an action record
  tree_action : (n kind name : ℕ) → c.given n ≡ true → is_full c n ≡ false
      → tree_of (add_action c n kind name) ≡ with_action_record (tree_of c) n (record { kind = kind; name = name })
  unfolding tree_of with_action_record add_action
  tree_action n kind name known room = tree_equal refl refl refl
      (fun_ext (upd_all c.agent n a (λ x v. cond (c.given x) v.home 0 ≡ cond (c.given x) (c.agent x).home 0)
      (unfold with_action in refl) (λ x _. refl)))
      (fun_ext (upd_all c.agent n a (λ x v. cond (c.given x) (unused v) [] ≡ upd rows n (rows n ++ (more ∷ [])) x)
      (rw known (longer ∙ sym (upd_same rows n _)))
      (λ x d. sym (upd_other rows n x _ d))))
    where
      more : Action
      more = record { kind = kind; name = name }

      a : Agent
      a = with_action (c.agent n) kind name

      rows : ℕ → List Action
      rows x = cond (c.given x) (unused (c.agent x)) []

      longer : unused a ≡ unused (c.agent n) ++ (more ∷ [])
      longer = let w = f.agents n known in
          unused_more (c.agent n) kind name w.fit.ordered (leb-false 16 (c.agent n).count room) w.row

  -- a touch record
  tree_touches : (q n : ℕ) → tree_of (give_touches c q n) ≡ tree_of c
  unfolding tree_of give_touches
  tree_touches q n = refl

-- ---- the whole file

-- a load that is accepted gives a cell of this tree
data Says (t : Tree) : Load → Type 0 where
  says : {c : State} → tree_of c ≡ t → Says t (accepted c)
  away : {number offset : ℕ} → Says t (refused number offset)

-- what the record at an offset says, and the rest of the file
module _ (turns : ℕ) (t : Tree) (s : List ℕ) (at : ℕ) where
  from_place : (byte_at s at ≡ 1) ⊎ (byte_at s at ≡ 6) → with_records (suc turns) t s at
      ≡ with_records turns (with_place_record t (byte_at s (at + 1)) (byte_at s (at + 2)) (name_given s at)) s (at + place_length (byte_at s at))
  unfolding with_records
  from_place (inl e) = rw e
  from_place (inr e) = rw e

  from_agent : byte_at s at ≡ 2 → with_records (suc turns) t s at ≡ with_records turns (with_agent_record t (byte_at s (at + 1)) (byte_at s (at + 2))) s (at + 3)
  unfolding with_records
  from_agent e = rw e

  from_action : byte_at s at ≡ 3 → with_records (suc turns) t s at
      ≡ with_records turns (with_action_record t (byte_at s (at + 1)) (record { kind = byte_at s (at + 2); name = name_at s at })) s (at + 5)
  unfolding with_records
  from_action e = rw e

  from_end : byte_at s at ≡ 4 → with_records (suc turns) t s at ≡ t
  unfolding with_records
  from_end e = rw e

  from_touches : byte_at s at ≡ 5 → with_records (suc turns) t s at ≡ with_records turns t s (at + 6)
  unfolding with_records
  from_touches e = rw e

-- the load of the rest
abbrev Rest : ℕ → List ℕ → Type 0
Rest turns s = (p : Progress) (next : ℕ) → Fresh p.cell → Says (with_records turns (tree_of p.cell) s next) (load_from turns p s next)

load_from_lem : (turns : ℕ) (s : List ℕ) → Rest turns s
unfolding load_from
load_from_lem zero s p at f = away
load_from_lem (suc turns) s p at f = go (told (ltb at (length s))) (record_fits (known_in p) s at) (record_stands s at (known_in p)) (load_from_lem turns s)
  where
    c : State
    c = p.cell

    t : Tree
    t = tree_of p.cell

    -- the tree of the cell that a record makes, with what the rest of the file says
    so : {l : Load} (next : ℕ) {u v : Tree} → u ≡ v → with_records (suc turns) t s at ≡ with_records turns v s next → Says (with_records turns u s next) l
        → Says (with_records (suc turns) t s at) l
    so {l} next e k = subst (λ (w : Tree). Says w l) (ap (λ (w : Tree). with_records turns w s next) e ∙ sym k)

    rest : Rest turns s → (r : Record) → Fits (known_in p) r → Stands s at r
        → Says (with_records (suc turns) t s at) (load_record (λ q i. load_from turns q s i) p s at r)
    rest h (PlaceRecord n parent m) (place one low under new known named) (a_place e i j k) =
        let z : n ≢ 0 = λ z. absurd (omega arith) in
        unfold load_record in so (at + place_length (byte_at s at))
        (tree_place c f n parent m z low new known named
        ∙ ap₂ (λ (q r : ℕ). with_place_record t q r m) i j ∙ ap (with_place_record t (byte_at s (at + 1)) (byte_at s (at + 2))) k) (from_place turns t s at e)
        (h (with_cell p (add_place c n parent m)) (at + place_length (byte_at s at)) (add_place_lem c f n parent m z low new known named))
    rest h (AgentRecord n home) (agent low under new known) (an_agent e i j) = unfold load_record in so (at + 3)
        (tree_agent c f n home low new ∙ ap₂ (with_agent_record t) i j) (from_agent turns t s at e)
        (h (with_cell p (add_agent c n home)) (at + 3) (add_agent_lem c f n home low new known))
    rest h (ActionRecord n kind m) (action low known room one three named) (an_action e i j k) = unfold load_record in so (at + 5)
        (tree_action c f n kind m known room ∙ ap₂ (λ (x v : ℕ). with_action_record t x (record { kind = v; name = m })) i j
        ∙ ap (λ (v : ℕ). with_action_record t (byte_at s (at + 1)) (record { kind = byte_at s (at + 2); name = v })) k) (from_action turns t s at e)
        (h (with_cell p (add_action c n kind m)) (at + 5) (add_action_lem c f n kind m low known room one three named))
    rest h (TouchRecord q n) (touch low new known few) (touches e) = unfold load_record in so (at + 6)
        (tree_touches c f q _) (from_touches turns t s at e)
        (h (with_counted p q _) (at + 6) (give_touches_lem c f q _ known few))
    rest h EndRecord end (the_end e) = unfold load_record in last (told (ltb (at + 1) (length s)))
      where
        last : Told (ltb (at + 1) (length s))
            → Says (with_records (suc turns) t s at) (cond (ltb (at + 1) (length s)) (refused after_end (at + 1)) (accepted p.cell))
        last (yea l) = rw l away
        last (nay l) = rw l (says (sym (from_end turns t s at e)))
    rest h (Faulty n) faulty at_fault = unfold load_record in away

    go : Told (ltb at (length s)) → Fits (known_in p) (record_at (known_in p) s at) → Stands s at (record_at (known_in p) s at) → Rest turns s
        → Says (with_records (suc turns) t s at) (load_from (suc turns) p s at)
    go (yea e) k g h = rw e (rest h _ k g)
    go (nay e) k g h = rw e away

-- a file without bytes says a bare floor
tree_empty : (s : List ℕ) → length s ≡ 0 → tree_in s ≡ bare_tree
unfolding tree_in with_records
tree_empty [] e = refl
tree_empty (byte ∷ rest) e = absurd (omega arith)

load_whole : (s : List ℕ) → Says (tree_in s) (load s)
unfolding tree_in
load_whole s = load_either s (Says (tree_in s)) (λ e. says (bare_tree_lem ∙ sym (tree_empty s e)))
    (subst (λ (u : Tree). Says (with_records (suc (length s)) u s 0) (load_from (suc (length s)) bare_progress s 0)) bare_tree_lem
    (load_from_lem (suc (length s)) s bare_progress 0 bare_fresh))

-- ---- the claim

module _ (s : List ℕ) (c : State) (e : load s ≡ accepted c) where
  -- the tree of an accepted file's cell is the one that the file's bytes say
  pub tree_as_file : tree_of c ≡ tree_in s
  tree_as_file = go (subst (Says (tree_in s)) e (load_whole s))
    where
      go : {d : State} → Says (tree_in s) (accepted d) → tree_of d ≡ tree_in s
      go (says k) = k

  -- the plain tree starts as the file says
  pub starts_as_file : plain_of c ≡ plain_in s
  unfolding plain_of plain_in
  starts_as_file = λ j. record {
    tree = tree_as_file j;
    travels = λ q. false;
    pick = (plain_of c).pick;
    order = (accepted_logged s c e).row j;
  }

  -- and after calls it is what their agents, wishes and answers make of that
  pub plain_from_file : (calls : List Call) → plain_after c calls ≡ plain_run (plain_in s) calls (answered c calls)
  plain_from_file calls = ap (λ (t : Plain). plain_run t calls (answered c calls)) starts_as_file
