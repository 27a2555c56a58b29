-- One turn of the load loop, on the table of the cell so far: each record changes one element and one set, as the definition does, and a
-- place is noted as the next that came.
use Rattle.std.specs.Prelude.{◌≡◌, Bool, true, false, ◌&&◌, ◌||◌, List, ◌≢◌, ◌⊎◌, eqb, length}
use Rattle.std.proofs.Math.Path.{refl, sym, ap, ap₂}
use Rattle.std.proofs.Common.{◌∙◌, subst, inl, inr, arith, eqb-true, eq-eqb, ne_eqb, lt-ltb, le-ltb, le-leb, ltb-true, ltb-false}
use Rattle.std.proofs.Math.Bool.{not, cond}
use Prim.Native.Nat.{ℕ, zero, suc, ◌+◌, ◌%◌, ◌<◌, ◌≤◌}
use Rattle.std.proofs.Math.Dec.{ltb, leb}
use Rattle.std.proofs.Math.ListN.{get_or, set}
use Rattle.std.proofs.lemmas.Bool.{lt-leb}
use Rattle.sets.specs.Set.{member, set_of, inserted, inserted_if, removed}
use Rattle.sets.proofs.SetLaws.{set_eq, member_set, set_ext}
use Rattle.sets.specs.declared.Set.{Set}
use Rattle.order.specs.Row.{filled_row}
use Rattle.order.proofs.RowLawsLoaded.{came_room, came_more, came_end}
use Rattle.table.specs.Base.{upd, tab}
use Rattle.table.proofs.BaseLaws.{Told, yea, nay, told, eq?, upd_at, upd_other, get_d_tab, set_tab}
use Rattle.table.specs.Cell.{State, no_place, no_agent, table_of, put_places, put_agents, put_used, put_given, put_touches, put_order}
use Rattle.table.specs.declared.Name.{Name}
use Rattle.table.specs.declared.Place.{Place}
use Rattle.table.specs.declared.Agent.{Agent}
use Rattle.table.specs.declared.Cell.{Cell}
use Rattle.meaning.specs.Refusals.{cut_short, after_end}
use Rattle.meaning.specs.declared.Record.{Record}
use Rattle.meaning.specs.declared.Record.TheVariants.{PlaceRecord, AgentRecord, ActionRecord, EndRecord, TouchRecord, Faulty}
use Rattle.meaning.specs.Update.{linked_place, with_home}
use Rattle.meaning.specs.File.{byte_at, place_length, record_at, add_place, with_action, add_agent, add_action, give_touches, is_full, Known, with_cell, with_counted, known_in, accepted, refused, load_record, load_from, load}
use Rattle.reader.specs.KnownSets.{known_by}
use Rattle.reader.proofs.LoadRest.{Rest, loaded_at, five_bytes}
use Rattle.meaning.proofs.FileLaws.{Fits, place, agent, action, touch, record_fits, record_same}

module _ (s : List ℕ) (at : ℕ) (d : Cell) (full counted : Set) (came : List ℕ) (many : ℕ) (r : Rest s at d full counted came many) where
  abbrev c : State
  c = r.made.cell

  used_at : (j : ℕ) → j < 64 → member d.used j ≡ c.land.used j
  unfolding table_of
  used_at j l = ap (λ (t : Cell). member t.used j) r.is ∙ member_set c.land.used j l

  given_at : (j : ℕ) → j < 64 → member d.given j ≡ c.given j
  unfolding table_of
  given_at j l = ap (λ (t : Cell). member t.given j) r.is ∙ member_set c.given j l

  full_at : (j : ℕ) → j < 64 → member full j ≡ is_full c j
  full_at j l = ap (λ (f : Set). member f j) r.filled ∙ member_set (is_full c) j l

  counted_at : (j : ℕ) → j < 64 → member counted j ≡ r.made.counted j
  counted_at j l = ap (λ (f : Set). member f j) r.numbered ∙ member_set r.made.counted j l

  -- what was given so far
  abbrev known : Known
  known = known_by d.used d.given full counted

  -- x is the record that the program reads
  abbrev Reads : Record → Type 0
  Reads x = x ≡ record_at known s at

  -- it is the definition's
  read : record_at known s at ≡ record_at (known_in r.made) s at
  read = record_same known (known_in r.made) used_at given_at full_at counted_at s at

  fits : {x : Record} → Reads x → Fits known x
  fits q = subst (Fits known) (sym q) (record_fits known s at)

  -- ---- the end of the file

  pub short : length s ≤ at → refused cut_short (length s) ≡ load s
  unfolding load_from
  short l = go r.turns refl
    where
      go : (k : ℕ) → r.turns ≡ k → refused cut_short (length s) ≡ load s
      go zero e = sym (ap (λ (n : ℕ). load_from n r.made s at) e) ∙ r.rest
      go (suc k) e = sym (ap (λ (n : ℕ). load_from n r.made s at) e ∙ rw (le-ltb at (length s) l)) ∙ r.rest

  module _ (low : at < length s) where
    more : (k : ℕ) × (r.turns ≡ suc k)
    more = go r.turns refl
      where
        go : (k : ℕ) → r.turns ≡ k → (k : ℕ) × (r.turns ≡ suc k)
        go zero e = absurd (omega (arith, r.enough))
        go (suc k) e = (k, e)

    -- what the load comes to where the record is x
    turn_is : (x : Record) → Reads x → load_record (λ v i. load_from more.0 v s i) r.made s at x ≡ load s
    unfolding load_from
    turn_is x q = sym (rw (lt-ltb at (length s) low, ← read, ← q)) ∙ ap (λ (n : ℕ). load_from n r.made s at) (sym more.1) ∙ r.rest

    pub stopped : (n : ℕ) → Reads (Faulty n) → refused n at ≡ load s
    unfolding load_record
    stopped n q = turn_is (Faulty n) q

    pub past_end : Reads EndRecord → at + 1 < length s → refused after_end (at + 1) ≡ load s
    unfolding load_record
    past_end q l = sym (rw (lt-ltb (at + 1) (length s) l)) ∙ turn_is EndRecord q

    pub ended : Reads EndRecord → length s ≤ at + 1 → accepted c ≡ load s
    unfolding load_record
    ended q l = sym (rw (le-ltb (at + 1) (length s) l)) ∙ turn_is EndRecord q

    -- the table with the row of those that came is that of the cell
    pub finished : (u : Set) (row : List ℕ) → u ≡ removed d.used 0 → row ≡ filled_row (member u) came → put_order d row ≡ table_of c
    unfolding table_of
    finished u row e f = λ j. put_order (r.is j) (made j)
      where
        made : row ≡ c.land.order
        made = f ∙ ap (λ (s : Set). filled_row (member s) came) e
            ∙ came_end r.listed (member (removed d.used 0)) (λ q l. member_set _ q l ∙ ap (λ (b : Bool). not (eqb q 0) && b) (used_at q l))

    -- ---- one element of the table

    module _ (n i : ℕ) (l : n < 64) (e : i ≡ n % 64) where
      same : i ≡ n
      same = omega arith

      pub agent_at : get_or d.agents i no_agent ≡ c.agent n
      unfolding table_of
      agent_at = ap₂ (λ (t : Cell) (j : ℕ). get_or t.agents j no_agent) r.is same ∙ get_d_tab c.agent 64 n no_agent l

      agent_put : (a : Agent) → set d.agents i a ≡ tab (upd c.agent n a) 64 0
      unfolding table_of
      agent_put a = ap₂ (λ (t : Cell) (j : ℕ). set t.agents j a) r.is same ∙ set_tab no_agent c.agent 64 n a l

      place_put : (x : Place) → set d.places i x ≡ tab (upd c.land.place n x) 64 0
      unfolding table_of
      place_put x = ap₂ (λ (t : Cell) (j : ℕ). set t.places j x) r.is same ∙ set_tab no_place c.land.place 64 n x l

      touches_put : (m : ℕ) → set d.touches i m ≡ tab (upd c.touches n m) 64 0
      unfolding table_of
      touches_put m = ap₂ (λ (t : Cell) (j : ℕ). set t.touches j m) r.is same ∙ set_tab 0 c.touches 64 n m l

    -- one number more in a set
    one_more : (f : ℕ → Bool) (t u : Set) (n : ℕ) → ((j : ℕ) → j < 64 → member t j ≡ f j) → u ≡ inserted t n → u.bits ≡ (set_of (λ j. eqb j n || f j)).bits
    one_more f t u n g e = ap (λ (v : Set). v.bits) (e ∙ set_ext _ _ (λ j k. ap (◌||◌ (eqb j n)) (g j k)))

    -- ---- a place record

    -- the table with one place more
    abbrev new_place : ℕ → Name → ℕ → Set → Cell
    new_place p m i u = put_used (put_places d (set d.places i (linked_place m p))) u

    -- its number was not loaded before, and now it is
    not_loaded : (n : ℕ) → n < 64 → member d.used n ≡ false → loaded_at c n ≡ false
    not_loaded n l e = ap (λ (b : Bool). not (eqb n 0) && b) (sym (used_at n l) ∙ e) ∙ never (not (eqb n 0))
      where
        never : (b : Bool) → (b && false) ≡ false
        never true = refl
        never false = refl

    also_loaded : (n : ℕ) → 1 ≤ n → (q : ℕ) → (not (eqb q 0) && (eqb q n || c.land.used q)) ≡ (loaded_at c q || eqb q n)
    also_loaded n one q = go (told (eqb q n))
      where
        last : (b : Bool) → true ≡ (b || true)
        last true = refl
        last false = refl

        plain : (b : Bool) → b ≡ (b || false)
        plain true = refl
        plain false = refl

        go : Told (eqb q n) → (not (eqb q 0) && (eqb q n || c.land.used q)) ≡ (loaded_at c q || eqb q n)
        go (yea e) = rw (e, ne_eqb q 0 (λ z. let y = eqb-true q n e in omega arith)) (last (c.land.used q))
        go (nay e) = rw e (plain (loaded_at c q))

    pub has_place : (n p : ℕ) (m : Name) → Reads (PlaceRecord n p m) → many < 64
    has_place n p m q = go (fits q)
      where
        go : Fits known (PlaceRecord n p m) → many < 64
        go (place one l under new _ named) = came_room r.listed n l (not_loaded n l new)

    pub rest_place : (n p : ℕ) (m : Name) (i : ℕ) (u : Set) (long : ℕ) → Reads (PlaceRecord n p m) → i ≡ n % 64 → u ≡ inserted d.used n
        → long ≡ place_length (byte_at s at) → Rest s (at + long) (new_place p m i u) full counted (set came many n) (many + 1)
    unfolding table_of add_place load_record
    rest_place n p m i u long q e f g = go (fits q)
      where
        go : Fits known (PlaceRecord n p m) → Rest s (at + long) (new_place p m i u) full counted (set came many n) (many + 1)
        go (place one l under new known named) = record {
          made = with_cell r.made (add_place c n p m);
          turns = more.0;
          is = λ j. put_used (put_places (r.is j) (place_put n i l e (linked_place m p) j)) (record { bits = one_more c.land.used d.used u n used_at f j });
          listed = came_more r.listed n l (not_loaded n l new) (loaded_at (add_place c n p m)) (also_loaded n one);
          filled = r.filled;
          numbered = r.numbered;
          enough = omega (arith, r.enough, more.1, five_bytes (byte_at s at) long g);
          rest = rw g (turn_is (PlaceRecord n p m) q);
        }

    -- ---- a touch record

    pub rest_touches : (n m i : ℕ) (u : Set) → Reads (TouchRecord n m) → i ≡ n % 64 → u ≡ inserted counted n
        → Rest s (at + 6) (put_touches d (set d.touches i m)) full u came many
    unfolding table_of give_touches load_record
    rest_touches n m i u q e f = go (fits q)
      where
        go : Fits known (TouchRecord n m) → Rest s (at + 6) (put_touches d (set d.touches i m)) full u came many
        go (touch l new given _) = record {
          made = with_counted r.made n m;
          turns = more.0;
          listed = r.listed;
          is = λ j. put_touches (r.is j) (touches_put n i l e m j);
          filled = r.filled;
          numbered = set_eq (one_more r.made.counted counted u n counted_at f);
          enough = omega (arith, r.enough, more.1);
          rest = turn_is (TouchRecord n m) q;
        }

    -- ---- an agent record

    home_full : (n h j : ℕ) → is_full c j ≡ is_full (add_agent c n h) j
    unfolding add_agent
    home_full n h j = go (eq? j n)
      where
        go : (j ≡ n) ⊎ (j ≢ n) → leb 16 (c.agent j).count ≡ leb 16 (upd c.agent n (with_home (c.agent n) h) j).count
        go (inl e) = ap (λ (k : ℕ). leb 16 (c.agent k).count) e ∙ sym (ap (λ (a : Agent). leb 16 a.count) (upd_at c.agent n j (with_home (c.agent n) h) e))
        go (inr q) = sym (ap (λ (a : Agent). leb 16 a.count) (upd_other c.agent n j (with_home (c.agent n) h) q))

    -- the table with one agent changed
    abbrev new_agent : ℕ → Agent → Set → Cell
    new_agent i a u = put_given (put_agents d (set d.agents i a)) u

    pub rest_agent : (n h i : ℕ) (a : Agent) (u : Set) → Reads (AgentRecord n h) → i ≡ n % 64 → a ≡ with_home (get_or d.agents i no_agent) h
        → u ≡ inserted d.given n → Rest s (at + 3) (new_agent i a u) full counted came many
    unfolding table_of add_agent load_record
    rest_agent n h i a u q e b f = go (fits q)
      where
        go : Fits known (AgentRecord n h) → Rest s (at + 3) (new_agent i a u) full counted came many
        go (agent l under new known) = record {
          made = with_cell r.made (add_agent c n h);
          turns = more.0;
          listed = r.listed;
          is = λ j. put_given (put_agents (r.is j)
              ((ap (set d.agents i) (b ∙ ap (λ (x : Agent). with_home x h) (agent_at n i l e)) ∙ agent_put n i l e (with_home (c.agent n) h)) j))
              (record { bits = one_more c.given d.given u n given_at f j });
          filled = r.filled ∙ set_ext _ _ (λ j k. home_full n h j);
          numbered = r.numbered;
          enough = omega (arith, r.enough, more.1);
          rest = turn_is (AgentRecord n h) q;
        }

    -- ---- an action record

    module _ (n k m i : ℕ) (q : Reads (ActionRecord n k m)) (e : i ≡ n % 64) where
      low_room : (n < 64) × (is_full c n ≡ false)
      low_room = go (fits q)
        where
          go : Fits known (ActionRecord n k m) → (n < 64) × (is_full c n ≡ false)
          go (action l _ room one three named) = (l, sym (full_at n l) ∙ room)

      abbrev l : n < 64
      l = low_room.0

      full_there : (j : ℕ) → j ≡ n → is_full (add_action c n k m) j ≡ leb 16 ((c.agent n).count + 1)
      unfolding add_action with_action
      full_there j f = ap (λ (a : Agent). leb 16 a.count) (upd_at c.agent n j (with_action (c.agent n) k m) f)

      full_else : (j : ℕ) → j ≢ n → is_full (add_action c n k m) j ≡ is_full c j
      unfolding add_action with_action
      full_else j f = ap (λ (a : Agent). leb 16 a.count) (upd_other c.agent n j (with_action (c.agent n) k m) f)

      filled_now : (b : Bool) → b ≡ ltb 15 ((c.agent n).count + 1) → inserted_if full n b ≡ set_of (is_full (add_action c n k m))
      filled_now true f = set_ext _ _ (λ j h. go j h (eq? j n))
        where
          go : (j : ℕ) → j < 64 → (j ≡ n) ⊎ (j ≢ n) → (eqb j n || member full j) ≡ is_full (add_action c n k m) j
          go j h (inl t) = rw (eq-eqb j n t) (sym (full_there j t ∙ le-leb 16 ((c.agent n).count + 1) (omega (arith, ltb-true 15 ((c.agent n).count + 1) (sym f)))))
          go j h (inr t) = rw (ne_eqb j n t) (full_at j h ∙ sym (full_else j t))
      filled_now false f = r.filled ∙ set_ext _ _ (λ j h. go j (eq? j n))
        where
          go : (j : ℕ) → (j ≡ n) ⊎ (j ≢ n) → is_full c j ≡ is_full (add_action c n k m) j
          go j (inl t) = ap (is_full c) t ∙ low_room.1 ∙ sym (full_there j t ∙ lt-leb 16 ((c.agent n).count + 1) (omega (arith, ltb-false 15 ((c.agent n).count + 1) (sym f))))
          go j (inr t) = sym (full_else j t)

      -- the agent as it is where it has sixteen actions, and else with one more
      abbrev more_in : Agent → Agent
      more_in x = cond (leb 16 x.count) x (with_action x k m)

      pub rest_action : (a : Agent) (f : Set) → a ≡ more_in (get_or d.agents i no_agent) → f ≡ inserted_if full n (ltb 15 a.count)
          → Rest s (at + 5) (new_agent i a d.given) f counted came many
      unfolding table_of add_action load_record with_action
      rest_action a f b h = record {
        made = with_cell r.made (add_action c n k m);
        turns = more.0;
        listed = r.listed;
        is = λ j. put_agents (r.is j) ((ap (set d.agents i) new ∙ agent_put n i l e (with_action (c.agent n) k m)) j);
        filled = h ∙ filled_now (ltb 15 a.count) (ap (λ (x : Agent). ltb 15 x.count) new);
        numbered = r.numbered;
        enough = omega (arith, r.enough, more.1);
        rest = turn_is (ActionRecord n k m) q;
      }
        where
          new : a ≡ with_action (c.agent n) k m
          new = b ∙ ap more_in (agent_at n i l e) ∙ ap (λ (t : Bool). cond t (c.agent n) (with_action (c.agent n) k m)) low_room.1
