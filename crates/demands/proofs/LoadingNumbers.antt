-- The names, keys and numbers of an accepted file's cell have 16 bits, for each is two bytes of the file.
-- Idea: record by record; a place record gives one name with its keys, an action record one number.
use Rattle.std.specs.Prelude.{◌≡◌, ◌≢◌, ◌⊎◌, Bool, cond, List, [], ◌∷◌, ltb, eqb, length, get_or, set, replicate}
use Rattle.std.proofs.Common.{sym, inl, inr, arith, ltb-true, ltb-false}
use Rattle.std.proofs.Math.Path.{subst}
use Rattle.std.proofs.Math.Bool.{true, false}
use Prim.Native.Nat.{ℕ, zero, suc, ◌+◌, ◌<◌}
use Rattle.std.proofs.lemmas.List.{get_or-replicate}
use Rattle.std.proofs.Math.ListN.{get_or-eq_default}
use Rattle.table.specs.Base.{upd, tab}
use Rattle.table.proofs.BaseLaws.{Told, yea, nay, told, eq?, upd_all}
use Rattle.table.specs.Bounds.{Name16, Names16}
use Rattle.table.specs.Cell.{State, no_name, plain_name, no_action, cell_of, bare_table, unused}
use Rattle.table.specs.declared.Name.{Name}
use Rattle.table.specs.declared.Place.{Place}
use Rattle.table.specs.declared.Action.{Action}
use Rattle.table.specs.declared.Agent.{Agent}
use Rattle.table.specs.declared.Cell.{Cell}
use Rattle.meaning.specs.declared.Record.{Record}
use Rattle.meaning.specs.declared.Record.TheVariants.{PlaceRecord, AgentRecord, ActionRecord, EndRecord, TouchRecord, Faulty}
use Rattle.meaning.specs.Refusals.{after_end}
use Rattle.meaning.specs.Every.{every_none, every_more}
use Rattle.meaning.specs.File.{two_bytes, byte_at, name_at, keyed_name, name_given, record_at, add_place, add_agent, add_action, give_touches}
use Rattle.meaning.specs.File.{Progress, known_in, bare_progress, Load, accepted, refused, load_record, load_from, load}
use Rattle.meaning.proofs.FileLaws.{bare_bounded, bare_agent, bare_place, load_either}
use Rattle.meaning.specs.Plain.{tree_of}
use Rattle.calculus.proofs.TreeNumbers.{no_name16}
use Rattle.calculus.specs.Numbers.{Row16, Numbers16}
use Rattle.demands.specs.SameListings.{OfBytes}
use Rattle.demands.proofs.LoadingRecords.{Stands, a_place, an_agent, an_action, the_end, touches, at_fault, record_stands}

-- the names and keys of a cell's places and the numbers of its agents' actions have 16 bits
pub record Cell16 (c : State) : Type 0 where
  pub place : (q : ℕ) → Name16 (c.land.place q).name
  pub action : (x j : ℕ) → (get_or (c.agent x).actions j no_action).name < 65536

-- so it is of every value of the struct
pub table16 : (t : Cell) → Names16 t → Cell16 (cell_of t)
unfolding cell_of
table16 t n = record { place = n.place; action = n.action }

-- ---- the tree of such a cell

-- a row of actions whose numbers have 16 bits
tab16 : (f : ℕ → Action) → ((j : ℕ) → (f j).name < 65536) → (n k : ℕ) → Row16 (tab f n k)
unfolding tab
tab16 f h zero k = every_none
tab16 f h (suc n) k = every_more (h k) (tab16 f h n (suc k))

-- its names, keys and numbers
pub tree16 : (c : State) → Cell16 c → Numbers16 (tree_of c)
unfolding tree_of unused
tree16 c n = record { names = λ q. name q (c.land.used q); actions = λ x. row x (c.given x) }
  where
    name : (q : ℕ) (b : Bool) → Name16 (cond b (c.land.place q).name no_name)
    name q true = n.place q
    name q false = no_name16

    row : (x : ℕ) (b : Bool) → Row16 (cond b (unused (c.agent x)) [])
    row x true = tab16 _ (n.action x) _ _
    row x false = every_none

-- ---- what a record adds

-- a number of two bytes
two16 : {a b : ℕ} → a < 256 → b < 256 → two_bytes a b < 65536
two16 l m = omega arith

module _ (s : List ℕ) (b : OfBytes s) (at : ℕ) where
  -- the name in a place or action record
  name16 : name_at s at < 65536
  name16 = two16 (b (at + 3)) (b (at + 4))

  -- a name that a record gives, with its keys
  given16 : Name16 (name_given s at)
  given16 = go (eqb (byte_at s at) 6)
    where
      go : (keyed : Bool) → Name16 (cond keyed (keyed_name s at) (plain_name (name_at s at)))
      go true = record { name = name16; entering = two16 (b (at + 5)) (b (at + 6)); exiting = two16 (b (at + 7)) (b (at + 8)); opening = two16 (b (at + 9)) (b (at + 10)) }
      go false = record { name = name16; entering = name16; exiting = name16; opening = name16 }

-- an array with one element more in range
set16 : (l : List Action) (i : ℕ) (v : Action) → v.name < 65536 → ((j : ℕ) → (get_or l j no_action).name < 65536) → (j : ℕ) → (get_or (set l i v) j no_action).name < 65536
set16 [] i v a h j = h j
set16 (x ∷ l) zero v a h zero = a
set16 (x ∷ l) zero v a h (suc j) = h (suc j)
set16 (x ∷ l) (suc i) v a h zero = h 0
set16 (x ∷ l) (suc i) v a h (suc j) = set16 l i v a (λ k. h (suc k)) j

module _ (c : State) (n : Cell16 c) where
  -- a place record
  pub place16 : (number parent : ℕ) (name : Name) → Name16 name → Cell16 (add_place c number parent name)
  unfolding add_place
  place16 number parent name m = record {
    place = upd_all c.land.place number _ (λ q v. Name16 v.name) m (λ q _. n.place q);
    action = n.action;
  }

  -- one agent changed
  agents16 : (number : ℕ) (a : Agent) → ((j : ℕ) → (get_or a.actions j no_action).name < 65536)
      → (x j : ℕ) → (get_or (upd c.agent number a x).actions j no_action).name < 65536
  agents16 number a h = upd_all c.agent number a (λ x v. (j : ℕ) → (get_or v.actions j no_action).name < 65536) h (λ x _. n.action x)

  -- an agent record
  pub agent16 : (number home : ℕ) → Cell16 (add_agent c number home)
  unfolding add_agent
  agent16 number home = record { place = n.place; action = agents16 number _ (n.action number) }

  -- an action record
  pub action16 : (number kind name : ℕ) → name < 65536 → Cell16 (add_action c number kind name)
  unfolding add_action
  action16 number kind name m = record {
    place = n.place;
    action = agents16 number _ (set16 (c.agent number).actions (c.agent number).count (record { kind = kind; name = name }) m (n.action number));
  }

  -- a touch record
  touches16 : (q many : ℕ) → Cell16 (give_touches c q many)
  unfolding give_touches
  touches16 q many = record { place = n.place; action = n.action }

-- the bare floor has no names and no actions
pub bare16 : Cell16 (cell_of bare_table)
bare16 = record { place = λ q. name q (eq? q 0); action = λ x. actions x (told (ltb x 64)) }
  where
    name : (q : ℕ) → (q ≡ 0) ⊎ (q ≢ 0) → Name16 ((cell_of bare_table).land.place q).name
    name q (inl e) = subst (λ (r : ℕ). Name16 ((cell_of bare_table).land.place r).name) (sym e) (unfold cell_of in unfold bare_table in no_name16)
    name q (inr d) = subst (λ (v : Place). Name16 v.name) (sym (bare_place q d)) no_name16

    none16 : (j : ℕ) → Told (ltb j 16) → (get_or (replicate 16 no_action) j no_action).name < 65536
    none16 j (yea l) = subst (λ (v : Action). v.name < 65536) (sym (get_or-replicate 16 j no_action no_action (ltb-true j 16 l))) (omega arith)
    none16 j (nay l) = subst (λ (v : Action). v.name < 65536) (sym (get_or-eq_default (replicate 16 no_action) no_action (ltb-false j 16 l))) (omega arith)

    actions : (x : ℕ) → Told (ltb x 64) → (j : ℕ) → (get_or ((cell_of bare_table).agent x).actions j no_action).name < 65536
    actions x (yea l) j = subst (λ (a : Agent). (get_or a.actions j no_action).name < 65536) (sym (bare_agent x (ltb-true x 64 l))) (none16 j (told (ltb j 16)))
    actions x (nay l) j = subst (λ (a : Agent). (get_or a.actions j no_action).name < 65536) (sym (bare_bounded.agent x (ltb-false x 64 l))) (omega arith)

-- ---- the whole file

-- a load that is accepted gives such a cell
data Loaded16 : Load → Type 0 where
  taken : {c : State} → Cell16 c → Loaded16 (accepted c)
  away : {number offset : ℕ} → Loaded16 (refused number offset)

module _ (s : List ℕ) (b : OfBytes s) where
  -- the load of the rest
  abbrev Rest : ℕ → Type 0
  Rest turns = (p : Progress) (next : ℕ) → Cell16 p.cell → Loaded16 (load_from turns p s next)

  -- from an offset on
  load_from_lem : (turns : ℕ) → Rest turns
  unfolding load_from
  load_from_lem zero p at n = away
  load_from_lem (suc turns) p at n = go (told (ltb at (length s))) (record_stands s at (known_in p)) (load_from_lem turns)
    where
      rest : Rest turns → (r : Record) → Stands s at r → Loaded16 (load_record (λ q i. load_from turns q s i) p s at r)
      rest h (PlaceRecord number parent name) (a_place _ _ _ f) = unfold load_record in
          h _ _ (place16 p.cell n number parent name (subst Name16 (sym f) (given16 s b at)))
      rest h (AgentRecord number home) (an_agent _ _ _) = unfold load_record in h _ _ (agent16 p.cell n number home)
      rest h (ActionRecord number kind name) (an_action _ _ _ f) = unfold load_record in
          h _ _ (action16 p.cell n number kind name (subst (λ (k : ℕ). k < 65536) (sym f) (name16 s b at)))
      rest h (TouchRecord q touched) (touches _) = unfold load_record in h _ _ (touches16 p.cell n q _)
      rest h EndRecord (the_end _) = unfold load_record in last (ltb (at + 1) (length s))
        where
          last : (more : Bool) → Loaded16 (cond more (refused after_end (at + 1)) (accepted p.cell))
          last true = away
          last false = taken n
      rest h (Faulty number) at_fault = unfold load_record in away

      go : Told (ltb at (length s)) → Stands s at (record_at (known_in p) s at) → Rest turns → Loaded16 (load_from (suc turns) p s at)
      go (yea e) t h = rw e (rest h _ t)
      go (nay e) t h = rw e away

  -- so does every file
  pub accepted16 : (c : State) → load s ≡ accepted c → Cell16 c
  accepted16 c e = go (subst Loaded16 e (load_either s Loaded16 (λ _. taken bare16) (load_from_lem (suc (length s)) bare_progress 0 bare16)))
    where
      go : {d : State} → Loaded16 (accepted d) → Cell16 d
      go (taken n) = n
