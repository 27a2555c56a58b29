-- An agent's row of action records is taken at once: each record of it is the one that the definition reads there, so that after the row
-- the load is where the definition's is. Assumes nothing.
use mathlib.Core.Path.{◌≡◌, refl, sym, ap, ◌∙◌, subst}
use Rattle.std.proofs.Common.{◌≢◌}
use mathlib.Core.Bool.{Bool, true, false, cond}
use mathlib.Core.List.{List}
use Prim.Native.Nat.{ℕ, zero, suc, ◌+◌, ◌-◌, ◌%◌, ◌<◌, ◌≤◌}
use native.Mathlib.Nat.{le_refl}
use native.Mathlib.Omega.{arith}
use lib.Dec.{ltb, leb, eqb}
use lib.ListN.{length, get_or, set}
use lib.Seq.{get_or-set_same, set-set}
use borrow.Author.Tests.{eqb-true, le-ltb, lt-leb, ltb-false}
use Rattle.sets.specs.Set.{member, inserted_if}
use Rattle.sets.specs.declared.Set.{Set}
use Rattle.table.proofs.BaseLaws.{length_tab}
use Rattle.table.specs.Cell.{no_agent, last_kind, table_of, put_agents}
use Rattle.table.specs.declared.Agent.{Agent}
use Rattle.table.specs.declared.Cell.{Cell}
use Rattle.meaning.specs.declared.Record.{Record}
use Rattle.meaning.specs.declared.Record.TheVariants.{PlaceRecord, AgentRecord, ActionRecord, EndRecord, TouchRecord, Faulty}
use Rattle.meaning.specs.File.{byte_at, name_at, action_record, Known, record_at, with_action}
use Rattle.meaning.proofs.FileLaws.{Fits, action, record_fits}
use Rattle.reader.specs.KnownSets.{known_by}
use Rattle.reader.specs.ActionRow.{own_record, after_record, with_row}
use Rattle.reader.proofs.LoadRest.{Rest}
use Rattle.reader.proofs.LoadLaws.{rest_action}
use Rattle.reader.specs.declared.rows.Reached.{Reached}

-- ---- one record of the row

module _ (s : List ℕ) (at n : ℕ) where
  -- a record of the row has five bytes, and is what is read there after agent n was given and while it has room
  pub data Own : Record → Type 0 where
    own : {m kind name : ℕ} → m ≡ n → 5 ≤ length s - at → ((k : Known) → k.agents n ≡ true → k.full n ≡ false → record_at k s at ≡ ActionRecord m kind name)
        → Own (ActionRecord m kind name)
    ended : Own EndRecord
    faulty : {number : ℕ} → Own (Faulty number)

  own_if : (b : Bool) (x y : Record) → (b ≡ true → Own x) → (b ≡ false → Own y) → Own (cond b x y)
  own_if true x y f g = f refl
  own_if false x y f g = g refl

  read_there : (k : Known) → ltb (length s - at) 5 ≡ false → byte_at s at ≡ 3 → byte_at s (at + 1) ≡ n → k.agents n ≡ true → k.full n ≡ false
      → record_at k s at ≡ action_record true false n (byte_at s (at + 2)) (name_at s at)
  unfolding record_at
  read_there k long three mine given room = rw (three, long, mine, given, room)

  pub own_is : Own (own_record s at n)
  unfolding own_record action_record
  own_is =
      own_if (ltb (length s - at) 5) _ _ (λ e. ended) (λ long.
      own_if (eqb (byte_at s at) 3) _ _ (λ three.
      own_if (eqb (byte_at s (at + 1)) n) _ _ (λ mine.
      own_if (leb 64 n) _ _ (λ e. faulty) (λ low.
      own_if (ltb (byte_at s (at + 2)) 1) _ _ (λ e. faulty) (λ one.
      own_if (ltb last_kind (byte_at s (at + 2))) _ _ (λ e. faulty) (λ last.
      own_if (ltb (name_at s at) 1) _ _ (λ e. faulty) (λ named.
      own refl (ltb-false _ _ long) (λ k given room.
      read_there k long (eqb-true _ _ three) (eqb-true _ _ mine) given room ∙ is low one last named))))))
      (λ e. ended)) (λ e. ended))
    where
      is : leb 64 n ≡ false → ltb (byte_at s (at + 2)) 1 ≡ false → ltb last_kind (byte_at s (at + 2)) ≡ false → ltb (name_at s at) 1 ≡ false
          → action_record true false n (byte_at s (at + 2)) (name_at s at) ≡ ActionRecord n (byte_at s (at + 2)) (name_at s at)
      is low one last named = rw (low, one, last, named)

  -- its five bytes are there
  pub own_long : (m kind name : ℕ) → ActionRecord m kind name ≡ own_record s at n → at + 5 ≤ length s
  own_long m kind name e = go (subst Own (sym e) own_is)
    where
      go : Own (ActionRecord m kind name) → at + 5 ≤ length s
      go (own mine long reads) = omega arith

-- ---- the row

module _ (s : List ℕ) (n at : ℕ) (a : Agent) where
  room_left : a.count < 16 → 16 - a.count ≡ suc (16 - (a.count + 1))
  room_left l = omega arith

  -- an agent without room stays as it is
  pub row_full : 16 ≤ a.count → record { agent = a; at = at } ≡ with_row (16 - a.count) s n at a
  unfolding with_row
  row_full l = sym (ap (λ (k : ℕ). with_row k s n at a) none)
    where
      none : 16 - a.count ≡ 0
      none = omega arith

  row_turn : a.count < 16 → (x : Record) → x ≡ own_record s at n
      → after_record (λ next b. with_row (16 - (a.count + 1)) s n next b) at a x ≡ with_row (16 - a.count) s n at a
  unfolding with_row
  row_turn l x e = ap (after_record (λ next b. with_row (16 - (a.count + 1)) s n next b) at a) e ∙ sym (ap (λ (k : ℕ). with_row k s n at a) (room_left l))

  -- one action more
  pub row_more : a.count < 16 → (m kind name : ℕ) → ActionRecord m kind name ≡ own_record s at n
      → with_row (16 - (a.count + 1)) s n (at + 5) (with_action a kind name) ≡ with_row (16 - a.count) s n at a
  unfolding after_record
  row_more l m kind name e = row_turn l (ActionRecord m kind name) e

  -- a record that is no action ends it
  stays : (rest : ℕ → Agent → Reached) (x : Record) → ((i k m : ℕ) → x ≢ ActionRecord i k m) → record { agent = a; at = at } ≡ after_record rest at a x
  unfolding after_record
  stays rest (PlaceRecord i p m) t = refl
  stays rest (AgentRecord i h) t = refl
  stays rest (ActionRecord i k m) t = absurd (t i k m refl)
  stays rest EndRecord t = refl
  stays rest (TouchRecord i m) t = refl
  stays rest (Faulty i) t = refl

  pub row_ends : a.count < 16 → (x : Record) → x ≡ own_record s at n → ((i k m : ℕ) → x ≢ ActionRecord i k m)
      → record { agent = a; at = at } ≡ with_row (16 - a.count) s n at a
  row_ends l x e t = stays _ x t ∙ row_turn l x e

-- it ends where it starts, or later
later : (room : ℕ) (s : List ℕ) (n at : ℕ) (a : Agent) → at ≤ (with_row room s n at a).at
unfolding with_row
later zero s n at a = le_refl at
later (suc room) s n at a = go (λ next b. later room s n next b) (own_record s at n)
  where
    go : ((next : ℕ) (b : Agent) → next ≤ (with_row room s n next b).at) → (x : Record) → at ≤ (after_record (λ next b. with_row room s n next b) at a x).at
    go f (PlaceRecord i p m) = le_refl at
    go f (AgentRecord i h) = le_refl at
    go f (ActionRecord i k m) = let l = f (at + 5) (with_action a k m) in omega arith
    go f EndRecord = le_refl at
    go f (TouchRecord i m) = le_refl at
    go f (Faulty i) = le_refl at

pub row_later : (room : ℕ) (s : List ℕ) (n at : ℕ) (a : Agent) (y : Reached) → y ≡ with_row room s n at a → at ≤ y.at
row_later room s n at a y e = subst (λ (z : Reached). at ≤ z.at) (sym e) (later room s n at a)

-- ---- the load after the row

-- agent n was given and had room, and stands in the table d at i
module _ (s : List ℕ) (d : Cell) (full counted : Set) (came : List ℕ) (many n i : ℕ) (e : i ≡ n % 64) (low : i < length d.agents)
    (given : member d.given n ≡ true) (room : member full n ≡ false) where
  -- the table with this agent there
  abbrev agent_in : Agent → Cell
  agent_in a = put_agents d (set d.agents i a)

  -- the load goes on with the agent so far
  abbrev Onward : Reached → Type 0
  Onward y = Rest s y.at (agent_in y.agent) (inserted_if full n (ltb 15 y.agent.count)) counted came many

  -- one action more
  onward_more : (at : ℕ) (a : Agent) → a.count < 16 → Onward (record { agent = a; at = at }) → (kind name : ℕ) → at < length s
      → ((k : Known) → k.agents n ≡ true → k.full n ≡ false → record_at k s at ≡ ActionRecord n kind name)
      → Onward (record { agent = with_action a kind name; at = at + 5 })
  unfolding with_action
  onward_more at a l r kind name short reads =
      subst (λ (t : Cell). Rest s (at + 5) t (inserted_if full n (ltb 15 (a.count + 1))) counted came many) again
      (rest_action s at (agent_in a) full counted came many still short n kind name i (sym (reads _ given room)) e (with_action a kind name) _ new refl)
    where
      still : Rest s at (agent_in a) full counted came many
      still = subst (λ (b : Bool). Rest s at (agent_in a) (inserted_if full n b) counted came many) (le-ltb 15 a.count (omega arith)) r

      there : get_or (set d.agents i a) i no_agent ≡ a
      there = get_or-set_same d.agents i a no_agent low

      new : with_action a kind name ≡ cond (leb 16 (get_or (set d.agents i a) i no_agent).count) (get_or (set d.agents i a) i no_agent)
          (with_action (get_or (set d.agents i a) i no_agent) kind name)
      new = sym (ap (λ (x : Agent). cond (leb 16 x.count) x (with_action x kind name)) there
          ∙ ap (λ (b : Bool). cond b a (with_action a kind name)) (lt-leb 16 a.count l))

      again : put_agents d (set (set d.agents i a) i (with_action a kind name)) ≡ agent_in (with_action a kind name)
      again = ap (put_agents d) (set-set d.agents i a (with_action a kind name))

  onward_after : (left at : ℕ) (a : Agent) → suc left ≡ 16 - a.count
      → ((next : ℕ) (b : Agent) → left ≡ 16 - b.count → Onward (record { agent = b; at = next }) → Onward (with_row left s n next b))
      → Onward (record { agent = a; at = at }) → (x : Record) → Own s at n x → Onward (after_record (λ next b. with_row left s n next b) at a x)
  unfolding after_record with_action
  onward_after left at a f go r (ActionRecord m kind name) (own mine long reads) =
      go (at + 5) (with_action a kind name) (omega arith)
      (onward_more at a (omega arith) r kind name (omega arith) (λ k g h. reads k g h ∙ ap (λ (j : ℕ). ActionRecord j kind name) mine))
  onward_after left at a f go r EndRecord ended = r
  onward_after left at a f go r (Faulty j) faulty = r
  onward_after left at a f go r (PlaceRecord _ _ _) x = elim x [ ]
  onward_after left at a f go r (AgentRecord _ _) x = elim x [ ]
  onward_after left at a f go r (TouchRecord _ _) x = elim x [ ]

  pub onward_row : (left at : ℕ) (a : Agent) → left ≡ 16 - a.count → Onward (record { agent = a; at = at }) → Onward (with_row left s n at a)
  unfolding with_row
  onward_row zero at a f r = r
  onward_row (suc left) at a f r = onward_after left at a f (λ next b. onward_row left next b) r (own_record s at n) (own_is s at n)

-- one action record and the row after it
pub rest_row : (s : List ℕ) (at : ℕ) (d : Cell) (full counted : Set) (came : List ℕ) (many : ℕ) (r : Rest s at d full counted came many) → at < length s
    → (n k m i : ℕ) → ActionRecord n k m ≡ record_at (known_by d.used d.given full counted) s at → i ≡ n % 64 → (a : Agent) (y : Reached) (f : Set)
    → a ≡ cond (leb 16 (get_or d.agents i no_agent).count) (get_or d.agents i no_agent) (with_action (get_or d.agents i no_agent) k m)
    → y ≡ with_row (16 - a.count) s n (at + 5) a → f ≡ inserted_if full n (ltb 15 y.agent.count)
    → Rest s y.at (put_agents d (set d.agents i y.agent)) f counted came many
unfolding table_of
rest_row s at d full counted came many r short n k m i q e a y f b w g = go (subst (Fits known) (sym q) (record_fits known s at))
  where
    known : Known
    known = known_by d.used d.given full counted

    sized : length d.agents ≡ 64
    sized = ap (λ (t : Cell). length t.agents) r.is ∙ length_tab r.made.cell.agent 64 0

    low : i < length d.agents
    low = omega (arith, sized)

    go : Fits known (ActionRecord n k m) → Rest s y.at (put_agents d (set d.agents i y.agent)) f counted came many
    go (action _ given room _ _ _) =
        subst (λ (u : Set). Rest s y.at (put_agents d (set d.agents i y.agent)) u counted came many) (sym g)
        (subst (Onward s d full counted came many n i e low given room) (sym w)
        (onward_row s d full counted came many n i e low given room (16 - a.count) (at + 5) a refl
        (rest_action s at d full counted came many r short n k m i q e a _ b refl)))
