-- Every accepted file gives a fresh cell, and the sum of its touches is that of the file's touch records.
-- Idea: record by record. While a file is read only places whose touches were given have some, and these are in use: a new place has none, and
-- a touch record gives a place its first.
use Rattle.std.specs.Prelude.{◌≡◌, ◌≢◌, ◌⊎◌, List, [], ◌∷◌, ◌||◌, cond, ℕ, zero, suc, ◌+◌, ◌^◌, ◌≤◌, ◌<◌, ltb, eqb, length}
use Rattle.std.proofs.Math.Path.{refl, ap}
use Rattle.std.proofs.Common.{sym, ◌∙◌, subst, inl, inr, arith, eq-eqb, ne_eqb}
use Rattle.std.proofs.Math.Bool.{true, false}
use Rattle.table.specs.Base.{upd}
use Rattle.table.proofs.BaseLaws.{Told, yea, nay, told, clash, eq?, upd_other}
use Rattle.table.proofs.SumLaws.{sum_ext, sum_most}
use Rattle.table.specs.Cell.{State, cell_of, bare_table, last_kind}
use Rattle.table.specs.Sound.{touches_at, touch_sum}
use Rattle.table.specs.declared.Name.{Name}
use Rattle.meaning.specs.Refusals.{after_end}
use Rattle.meaning.specs.declared.Record.{Record}
use Rattle.meaning.specs.declared.Record.TheVariants.{PlaceRecord, AgentRecord, ActionRecord, EndRecord, TouchRecord, Faulty}
use Rattle.meaning.specs.Update.{with_touches}
use Rattle.meaning.specs.File.{byte_at, count_at, place_length, record_at, add_place, add_agent, add_action, give_touches, is_full}
use Rattle.meaning.specs.File.{Progress, with_cell, with_counted, known_in, bare_progress, Load, accepted, refused, load_record, load_from, load}
use Rattle.meaning.proofs.FileLaws.{Fits, place, agent, action, end, touch, faulty, record_fits, bare_touches, load_either}
use Rattle.demands.specs.Fresh.{Fresh}
use Rattle.demands.proofs.Touches.{touch_sum_lem}
use Rattle.demands.specs.TouchTotal.{touches_from, touches_in}
use Rattle.demands.proofs.LoadingRecords.{Stands, a_place, an_agent, an_action, the_end, touches, at_fault, record_stands}
use Rattle.demands.proofs.Loading.{bare_fresh, add_place_lem, add_agent_lem, add_action_lem, give_touches_lem}

-- ---- what the records so far made

record Begun (p : Progress) : Type 0 where
  fresh : Fresh p.cell
  nowhere_else : (q : ℕ) → p.counted q ≡ false → p.cell.touches q ≡ 0
  in_use : (q : ℕ) → p.counted q ≡ true → p.cell.land.used q ≡ true

-- the bare floor
begun_bare : Begun bare_progress
begun_bare = record { fresh = bare_fresh; nowhere_else = λ q _. bare_touches q; in_use = λ q e. clash e refl }

-- no touches so far
bare_sum : touch_sum (cell_of bare_table) ≡ 0
unfolding touch_sum
bare_sum = let m = sum_most (touches_at (cell_of bare_table)) 64 0 (λ q _. none q (told ((cell_of bare_table).land.used q))) in omega (arith, m)
  where
    none : (q : ℕ) → Told ((cell_of bare_table).land.used q) → touches_at (cell_of bare_table) q ≤ 0
    none q (yea u) = rw (u, bare_touches q) (omega arith)
    none q (nay u) = rw u (omega arith)

module _ (p : Progress) (b : Begun p) where
  abbrev c : State
  c = p.cell

  -- a place record: the place has no touches so far
  module _ (n parent : ℕ) (name : Name) (n0 : n ≢ 0) (low : n < 64) (new : c.land.used n ≡ false) (known : c.land.used parent ≡ true)
      (named : 1 ≤ name.name) where
    begun_place : Begun (with_cell p (add_place c n parent name))
    begun_place = record {
      fresh = add_place_lem c b.fresh n parent name n0 low new known named;
      nowhere_else = unfold add_place in b.nowhere_else;
      in_use = unfold add_place in λ q e. still q (b.in_use q e);
    }
      where
        still : (q : ℕ) → c.land.used q ≡ true → (eqb q n || c.land.used q) ≡ true
        still q u = rw (ne_eqb q n (λ z. clash u (ap c.land.used z ∙ new)), u)

    place_sum : touch_sum (add_place c n parent name) ≡ touch_sum c
    unfolding touch_sum add_place
    place_sum = sum_ext (touches_at (add_place c n parent name)) (touches_at c) 64 (λ q _. at q (eq? q n))
      where
        no_touches : Told (p.counted n) → c.touches n ≡ 0
        no_touches (yea e) = clash (b.in_use n e) new
        no_touches (nay e) = b.nowhere_else n e

        at : (q : ℕ) → (q ≡ n) ⊎ (q ≢ n) → touches_at (add_place c n parent name) q ≡ touches_at c q
        at q (inl e) = rw (eq-eqb q n e, ap c.land.used e ∙ new, ap c.touches e ∙ no_touches (told (p.counted n)))
        at q (inr m) = rw (ne_eqb q n m)

  -- an agent or an action record
  begun_agent : (n home : ℕ) → n < 64 → c.given n ≡ false → c.land.used home ≡ true → Begun (with_cell p (add_agent c n home))
  begun_agent n home low new known = record {
    fresh = add_agent_lem c b.fresh n home low new known;
    nowhere_else = unfold add_agent in b.nowhere_else;
    in_use = unfold add_agent in b.in_use;
  }

  agent_sum : (n home : ℕ) → touch_sum (add_agent c n home) ≡ touch_sum c
  unfolding add_agent touch_sum
  agent_sum n home = refl

  begun_action : (n kind name : ℕ) → n < 64 → c.given n ≡ true → is_full c n ≡ false → 1 ≤ kind → kind ≤ last_kind → 1 ≤ name
      → Begun (with_cell p (add_action c n kind name))
  begun_action n kind name low known room one three named = record {
    fresh = add_action_lem c b.fresh n kind name low known room one three named;
    nowhere_else = unfold add_action in b.nowhere_else;
    in_use = unfold add_action in b.in_use;
  }

  action_sum : (n kind name : ℕ) → touch_sum (add_action c n kind name) ≡ touch_sum c
  unfolding add_action touch_sum
  action_sum n kind name = refl

  -- a touch record: the place's first touches
  module _ (q n : ℕ) (low : q < 64) (new : p.counted q ≡ false) (known : c.land.used q ≡ true) (few : n < 2 ^ 32) where
    begun_touches : Begun (with_counted p q n)
    unfolding give_touches
    begun_touches = record {
      fresh = give_touches_lem c b.fresh q n known few;
      nowhere_else = λ r e. other r e (eq? r q);
      in_use = λ r e. used r e (eq? r q);
    }
      where
        other : (r : ℕ) → (eqb r q || p.counted r) ≡ false → (r ≡ q) ⊎ (r ≢ q) → upd c.touches q n r ≡ 0
        other r e (inl z) = clash (rw (eq-eqb r q z)) e
        other r e (inr m) = upd_other c.touches q r n m ∙ b.nowhere_else r (rw (ne_eqb r q m) at e)

        used : (r : ℕ) → (eqb r q || p.counted r) ≡ true → (r ≡ q) ⊎ (r ≢ q) → c.land.used r ≡ true
        used r e (inl z) = ap c.land.used z ∙ known
        used r e (inr m) = b.in_use r (rw (ne_eqb r q m) at e)

    touches_sum : touch_sum (give_touches c q n) ≡ touch_sum c + n
    unfolding give_touches
    touches_sum = ap (λ (v : ℕ). touch_sum (with_touches c (upd c.touches q v))) (omega (arith, b.nowhere_else q new)) ∙ touch_sum_lem c q n known low

-- ---- the whole file

-- a load that is accepted gives a fresh cell with so many touches
data Freshly (sum : ℕ) : Load → Type 0 where
  fresh : {c : State} → Fresh c → touch_sum c ≡ sum → Freshly sum (accepted c)
  away : {number offset : ℕ} → Freshly sum (refused number offset)

-- what the record at an offset gives, and the rest of the file
module _ (turns : ℕ) (s : List ℕ) (at : ℕ) where
  from_place : (byte_at s at ≡ 1) ⊎ (byte_at s at ≡ 6) → touches_from (suc turns) s at ≡ touches_from turns s (at + place_length (byte_at s at))
  unfolding touches_from
  from_place (inl e) = rw e
  from_place (inr e) = rw e

  from_action : byte_at s at ≡ 3 → touches_from (suc turns) s at ≡ touches_from turns s (at + 5)
  unfolding touches_from
  from_action e = rw e

  from_agent : byte_at s at ≡ 2 → touches_from (suc turns) s at ≡ touches_from turns s (at + 3)
  unfolding touches_from
  from_agent e = rw e

  from_end : byte_at s at ≡ 4 → touches_from (suc turns) s at ≡ 0
  unfolding touches_from
  from_end e = rw e

  from_touches : byte_at s at ≡ 5 → touches_from (suc turns) s at ≡ count_at s at + touches_from turns s (at + 6)
  unfolding touches_from
  from_touches e = rw e

  -- the load of the rest
  abbrev Rest : Type 0
  Rest = (p : Progress) (next : ℕ) → Begun p → Freshly (touch_sum p.cell + touches_from turns s next) (load_from turns p s next)

load_from_lem : (turns : ℕ) (p : Progress) (s : List ℕ) (at : ℕ) → Begun p → Freshly (touch_sum p.cell + touches_from turns s at) (load_from turns p s at)
unfolding load_from
load_from_lem zero p s at b = away
load_from_lem (suc turns) p s at b = go (told (ltb at (length s))) (record_fits (known_in p) s at) (record_stands s at (known_in p))
    (λ q i g. load_from_lem turns q s i g)
  where
    -- the sum so far and that of the rest
    so : {l : Load} {m : ℕ} → m ≡ touch_sum p.cell + touches_from (suc turns) s at → Freshly m l
        → Freshly (touch_sum p.cell + touches_from (suc turns) s at) l
    so {l} e = subst (λ (k : ℕ). Freshly k l) e

    rest : Rest turns s at → (r : Record) → Fits (known_in p) r → Stands s at r
        → Freshly (touch_sum p.cell + touches_from (suc turns) s at) (load_record (λ q i. load_from turns q s i) p s at r)
    rest h (PlaceRecord n parent m) (place one low under new known named) (a_place e _ _ _) =
        let z : n ≢ 0 = λ z. absurd (omega arith) in
        unfold load_record in so (omega (arith, place_sum p b n parent m z low new known named, from_place turns s at e))
        (h (with_cell p (add_place p.cell n parent m)) (at + place_length (byte_at s at)) (begun_place p b n parent m z low new known named))
    rest h (AgentRecord n home) (agent low under new known) (an_agent e _ _) =
        unfold load_record in so (omega (arith, agent_sum p b n home, from_agent turns s at e))
        (h (with_cell p (add_agent p.cell n home)) (at + 3) (begun_agent p b n home low new known))
    rest h (ActionRecord n k m) (action low known room one three named) (an_action e _ _ _) =
        unfold load_record in so (omega (arith, action_sum p b n k m, from_action turns s at e))
        (h (with_cell p (add_action p.cell n k m)) (at + 5) (begun_action p b n k m low known room one three named))
    rest h (TouchRecord q n) (touch low new known few) (touches e) =
        unfold load_record in so (omega (arith, touches_sum p b q _ low new known few, from_touches turns s at e))
        (h (with_counted p q _) (at + 6) (begun_touches p b q _ low new known few))
    rest h EndRecord end (the_end e) = unfold load_record in last (told (ltb (at + 1) (length s)))
      where
        last : Told (ltb (at + 1) (length s))
            → Freshly (touch_sum p.cell + touches_from (suc turns) s at) (cond (ltb (at + 1) (length s)) (refused after_end (at + 1)) (accepted p.cell))
        last (yea l) = rw l away
        last (nay l) = rw l (fresh b.fresh (omega (arith, from_end turns s at e)))
    rest h (Faulty n) faulty at_fault = unfold load_record in away

    go : Told (ltb at (length s)) → Fits (known_in p) (record_at (known_in p) s at) → Stands s at (record_at (known_in p) s at) → Rest turns s at
        → Freshly (touch_sum p.cell + touches_from (suc turns) s at) (load_from (suc turns) p s at)
    go (yea e) t k h = rw e (rest h _ t k)
    go (nay e) t k h = rw e away

-- a file without bytes gives none
touches_empty : (s : List ℕ) → length s ≡ 0 → touches_in s ≡ 0
unfolding touches_in touches_from
touches_empty [] e = refl
touches_empty (byte ∷ rest) e = absurd (omega arith)

-- the bare floor has none
touches_whole : (s : List ℕ) → touch_sum bare_progress.cell + touches_from (suc (length s)) s 0 ≡ touches_in s
unfolding touches_in
touches_whole s = omega (arith, bare_sum)

load_whole : (s : List ℕ) → Freshly (touches_in s) (load s)
load_whole s = load_either s (Freshly (touches_in s)) (λ e. fresh bare_fresh (bare_sum ∙ sym (touches_empty s e)))
    (subst (λ (n : ℕ). Freshly n (load_from (suc (length s)) bare_progress s 0)) (touches_whole s) (load_from_lem (suc (length s)) bare_progress s 0 begun_bare))

module _ (s : List ℕ) (c : State) (e : load s ≡ accepted c) where
  whole : Freshly (touches_in s) (accepted c)
  whole = subst (Freshly (touches_in s)) e (load_whole s)

  -- every accepted file gives a fresh cell
  pub accepted_fresh : Fresh c
  accepted_fresh = go whole
    where
      go : {n : ℕ} {d : State} → Freshly n (accepted d) → Fresh d
      go (fresh f _) = f

  -- with the touches of the file's touch records
  pub loaded_touches : touch_sum c ≡ touches_in s
  loaded_touches = go whole
    where
      go : {n : ℕ} {d : State} → Freshly n (accepted d) → touch_sum d ≡ n
      go (fresh _ t) = t
