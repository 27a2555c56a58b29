-- "Loaded places count in file order": the row of an accepted file's cell is that of its place records, in their order.
-- Idea: record by record; a place that a record gives was not in use, so it has not come before.
use Rattle.std.specs.Prelude.{◌≡◌, refl, ◌≢◌, ◌⊎◌, Bool, true, false, ◌||◌, cond, ℕ, zero, suc, ◌+◌, ◌<◌, ltb, eqb, length}
use Rattle.std.proofs.Math.Path.{sym, ap}
use Rattle.std.proofs.Common.{◌∙◌, subst, inl, inr, arith, eqb-true}
use mathlib.Core.List.{List, [], ◌∷◌, ◌++◌, append-nil, append_assoc}
use Rattle.order.specs.Row.{latest, occurs}
use Rattle.order.proofs.RowLaws.{occurs_append}
use Rattle.order.proofs.RowLawsLater.{loaded_none}
use Rattle.table.proofs.BaseLaws.{Told, yea, nay, told, clash}
use Rattle.table.specs.Cell.{Land, State, cell_of, bare_table}
use Rattle.table.specs.declared.Name.{Name}
use Rattle.meaning.specs.Refusals.{after_end}
use Rattle.meaning.specs.declared.Record.{Record}
use Rattle.meaning.specs.declared.Record.TheVariants.{PlaceRecord, AgentRecord, ActionRecord, EndRecord, TouchRecord, Faulty}
use Rattle.meaning.specs.File.{byte_at, place_length, record_at, add_place, add_agent, add_action, give_touches}
use Rattle.meaning.specs.File.{Progress, with_cell, with_counted, known_in, bare_progress, Load, accepted, refused, load_record, load_from, load}
use Rattle.meaning.proofs.FileLaws.{Fits, place, agent, action, end, touch, faulty, record_fits, bare_used, bare_order, load_either}
use Rattle.demands.specs.FirstCome.{places_from, places_in, lasts}
use Rattle.demands.proofs.ArrivalLaws.{row_new}
use Rattle.demands.proofs.LoadingRecords.{Stands, a_place, an_agent, an_action, the_end, touches, at_fault, record_stands}
use Rattle.demands.proofs.Arrivals.{Logged}

-- the log so far beside the row, and every place of the log is in use
pub record Loading (l : Land) (log : List ℕ) : Type 0 where
  pub logged : Logged l log
  pub used : (q : ℕ) → occurs q log ≡ true → l.used q ≡ true

-- the bare floor: nobody has come
pub loading_bare : Loading (cell_of bare_table).land []
unfolding lasts occurs
loading_bare = record {
  logged = record { row = bare_order ∙ loaded_none; came = λ q u n. absurd (n (eqb-true q 0 (sym (bare_used q) ∙ u))) };
  used = λ q o. clash o refl;
}

-- one place more
pub loading_place : (c : State) (log : List ℕ) (n parent : ℕ) (name : Name) → n < 64 → c.land.used n ≡ false → Loading c.land log
    → Loading (add_place c n parent name).land (log ++ (n ∷ []))
unfolding add_place occurs
loading_place c log n parent name low new m = record {
  logged = record {
    row = ap (latest n) m.logged.row ∙ row_new n log low (never (told (occurs n log)));
    came = λ q u z. occurs_append q log (n ∷ []) ∙ added q u z (told (eqb q n));
  };
  used = λ q o. known q (told (eqb q n)) (sym (occurs_append q log (n ∷ [])) ∙ o);
}
  where
    never : Told (occurs n log) → occurs n log ≡ false
    never (yea o) = clash (m.used n o) new
    never (nay o) = o

    also : (b : Bool) → (b || true) ≡ true
    also true = refl
    also false = refl

    added : (q : ℕ) → (eqb q n || c.land.used q) ≡ true → q ≢ 0 → Told (eqb q n) → (occurs q log || (eqb q n || false)) ≡ true
    added q u z (yea e) = rw e (also (occurs q log))
    added q u z (nay e) = rw (m.logged.came q (rw e at u) z)

    known : (q : ℕ) → Told (eqb q n) → (occurs q log || (eqb q n || false)) ≡ true → (eqb q n || c.land.used q) ≡ true
    known q (yea e) o = rw e
    known q (nay e) o = rw e (m.used q (first (occurs q log) (rw e at o)))
      where
        first : (b : Bool) → (b || false) ≡ true → b ≡ true
        first true k = refl
        first false k = k

-- ---- the whole file

-- a load that is accepted gives a cell beside whose row the log stands
data Ordered (log : List ℕ) : Load → Type 0 where
  ordered : {c : State} → Logged c.land log → Ordered log (accepted c)
  away : {number offset : ℕ} → Ordered log (refused number offset)

-- what the record at an offset adds
module _ (turns : ℕ) (s : List ℕ) (at : ℕ) where
  from_place : (byte_at s at ≡ 1) ⊎ (byte_at s at ≡ 6)
      → places_from (suc turns) s at ≡ byte_at s (at + 1) ∷ places_from turns s (at + place_length (byte_at s at))
  unfolding places_from
  from_place (inl e) = rw e
  from_place (inr e) = rw e

  from_agent : byte_at s at ≡ 2 → places_from (suc turns) s at ≡ places_from turns s (at + 3)
  unfolding places_from
  from_agent e = rw e

  from_action : byte_at s at ≡ 3 → places_from (suc turns) s at ≡ places_from turns s (at + 5)
  unfolding places_from
  from_action e = rw e

  from_end : byte_at s at ≡ 4 → places_from (suc turns) s at ≡ []
  unfolding places_from
  from_end e = rw e

  from_touches : byte_at s at ≡ 5 → places_from (suc turns) s at ≡ places_from turns s (at + 6)
  unfolding places_from
  from_touches e = rw e

  -- the load of the rest
  abbrev Rest : Type 0
  Rest = (p : Progress) (next : ℕ) (log : List ℕ) → Loading p.cell.land log → Ordered (log ++ places_from turns s next) (load_from turns p s next)

load_from_lem : (turns : ℕ) (p : Progress) (s : List ℕ) (at : ℕ) (log : List ℕ) → Loading p.cell.land log
    → Ordered (log ++ places_from turns s at) (load_from turns p s at)
unfolding load_from
load_from_lem zero p s at log m = away
load_from_lem (suc turns) p s at log m = go (told (ltb at (length s))) (record_fits (known_in p) s at) (record_stands s at (known_in p))
    (λ q next more k. load_from_lem turns q s next more k)
  where
    -- the log so far and that of the rest
    so : {l : Load} {more : List ℕ} → more ≡ log ++ places_from (suc turns) s at → Ordered more l → Ordered (log ++ places_from (suc turns) s at) l
    so {l} e = subst (λ (n : List ℕ). Ordered n l) e

    -- a record that gives no place
    quiet : (next : ℕ) → places_from (suc turns) s at ≡ places_from turns s next → log ++ places_from turns s next ≡ log ++ places_from (suc turns) s at
    quiet next e = ap (λ (n : List ℕ). log ++ n) (sym e)

    rest : Rest turns s at → (r : Record) → Fits (known_in p) r → Stands s at r
        → Ordered (log ++ places_from (suc turns) s at) (load_record (λ q i. load_from turns q s i) p s at r)
    rest h (PlaceRecord n parent name) (place one low under new known named) (a_place e f _ _) =
        let next = at + place_length (byte_at s at) in
        unfold load_record in so (append_assoc log (n ∷ []) (places_from turns s next)
        ∙ ap (λ (t : List ℕ). log ++ t) (ap (λ (k : ℕ). k ∷ places_from turns s next) f ∙ sym (from_place turns s at e)))
        (h (with_cell p (add_place p.cell n parent name)) next (log ++ (n ∷ [])) (loading_place p.cell log n parent name low new m))
    rest h (AgentRecord n home) (agent low under new known) (an_agent e _ _) =
        unfold load_record in so (quiet (at + 3) (from_agent turns s at e)) (h (with_cell p (add_agent p.cell n home)) (at + 3) log (unfold add_agent in m))
    rest h (ActionRecord n k name) (action low known room one three named) (an_action e _ _ _) =
        unfold load_record in so (quiet (at + 5) (from_action turns s at e)) (h (with_cell p (add_action p.cell n k name)) (at + 5) log (unfold add_action in m))
    rest h (TouchRecord q n) (touch low new known few) (touches e) =
        unfold load_record in so (quiet (at + 6) (from_touches turns s at e)) (h (with_counted p q _) (at + 6) log (unfold give_touches in m))
    rest h EndRecord end (the_end e) = unfold load_record in last (told (ltb (at + 1) (length s)))
      where
        last : Told (ltb (at + 1) (length s))
            → Ordered (log ++ places_from (suc turns) s at) (cond (ltb (at + 1) (length s)) (refused after_end (at + 1)) (accepted p.cell))
        last (yea l) = rw l away
        last (nay l) = rw l (so (sym (append-nil log) ∙ ap (λ (t : List ℕ). log ++ t) (sym (from_end turns s at e))) (ordered m.logged))
    rest h (Faulty n) faulty at_fault = unfold load_record in away

    go : Told (ltb at (length s)) → Fits (known_in p) (record_at (known_in p) s at) → Stands s at (record_at (known_in p) s at) → Rest turns s at
        → Ordered (log ++ places_from (suc turns) s at) (load_from (suc turns) p s at)
    go (yea e) t k h = rw e (rest h _ t k)
    go (nay e) t k h = rw e away

-- a file without bytes gives no place
places_empty : (s : List ℕ) → length s ≡ 0 → places_in s ≡ []
unfolding places_in places_from
places_empty [] e = refl
places_empty (byte ∷ rest) e = absurd (omega arith)

load_whole : (s : List ℕ) → Ordered (places_in s) (load s)
unfolding places_in
load_whole s = load_either s (Ordered (places_in s)) (λ e. ordered (subst (Logged (cell_of bare_table).land) (sym (places_empty s e)) loading_bare.logged))
    (load_from_lem (suc (length s)) bare_progress s 0 [] loading_bare)

-- the row of every accepted file's cell is that of its place records
pub accepted_logged : (s : List ℕ) (c : State) → load s ≡ accepted c → Logged c.land (places_in s)
accepted_logged s c e = go (subst (Ordered (places_in s)) e (load_whole s))
  where
    go : {d : State} → Ordered (places_in s) (accepted d) → Logged d.land (places_in s)
    go (ordered m) = m
