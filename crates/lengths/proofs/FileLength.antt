-- A load is decided by the first 6,400 bytes of the file, and an accepted file has 6,390 bytes at most (`Longest`).
-- Idea: each record that is not refused gives a new place, a new agent, a new action or a place's touches, and there is room for 63, 64, 1,024
-- and 64 of these: 11 * 63 + 3 * 64 + 5 * 1024 + 6 * 64 = 6,389 bytes. What comes next is the end or a refusal, and looks at 11 bytes at most.
use Rattle.std.specs.Prelude.{◌≡◌, Bool, true, false, ◌||◌, cond, List, ◌≢◌, ◌⊎◌, ltb, leb, eqb, take}
use Rattle.std.proofs.Math.Path.{refl, sym, ap, subst}
use Rattle.std.proofs.Common.{◌∙◌, inl, inr, arith, take_all}
use Prim.Native.Nat.{ℕ, zero, suc, ◌+◌, ◌*◌, ◌-◌, ◌<◌, ◌≤◌}
use Rattle.std.proofs.Math.Nat.{le_refl}
use Rattle.std.proofs.Math.ListN.{length}
use Rattle.std.proofs.Math.Seq.{get_or-take, length-take-le}
use borrow.Author.Tests.{eq-eqb, ne_eqb, lt-ltb, le-ltb, leb-true, leb-false, ltb-false}
use Rattle.sets.specs.Word.{bit, has}
use Rattle.sets.proofs.WordLaws.{bit_lt}
use Rattle.table.specs.Base.{sum_below}
use Rattle.table.proofs.SumLaws.{sum_ext, sum_most, sum_more}
use Rattle.table.proofs.BaseLaws.{Told, yea, nay, told, eq?, upd_at, upd_other, upd_all}
use Rattle.table.specs.Cell.{State, cell_of, bare_table}
use Rattle.table.specs.declared.Name.{Name}
use Rattle.table.specs.declared.Agent.{Agent}
use Rattle.meaning.specs.Refusals.{cut_short, after_end}
use Rattle.meaning.specs.declared.Record.{Record}
use Rattle.meaning.specs.declared.Record.TheVariants.{PlaceRecord, AgentRecord, ActionRecord, EndRecord, TouchRecord, Faulty}
use Rattle.meaning.specs.Update.{with_home}
use Rattle.meaning.specs.File.{byte_at, place_length, Known, record_at, add_place, add_agent, with_action, add_action, give_touches, is_full, Progress, with_cell, with_counted}
use Rattle.meaning.specs.File.{known_in, bare_progress, Load, accepted, refused, load_record, load_from, load}
use Rattle.meaning.proofs.FileLaws.{Fits, place, agent, action, end, touch, faulty, record_fits, bare_agent, load_either, load_begun}
use Rattle.lengths.specs.Longest.{last_record, longest_file, deciding_bytes}

-- ---- sets counted

-- a set counted: 1 for each member
abbrev one : (ℕ → Bool) → ℕ → ℕ
one f j = bit (f j)

-- a new member adds one
one_more : (f : ℕ → Bool) (n : ℕ) → n < 64 → f n ≡ false → sum_below (one (λ j. eqb j n || f j)) 64 ≡ sum_below (one f) 64 + 1
one_more f n l e = sum_more (one f) (one (λ j. eqb j n || f j)) 64 n l (rw (eq-eqb n n refl, e)) (λ j q. rw (ne_eqb j n q))

-- ---- how many bytes the cell so far took

-- how many places, agents, and actions of agent x
abbrev places : State → ℕ
places c = sum_below (one c.land.used) 64

abbrev agents : State → ℕ
agents c = sum_below (one c.given) 64

abbrev counts : State → ℕ → ℕ
counts c x = (c.agent x).count

abbrev gave : Progress → ℕ
gave p = sum_below (one p.counted) 64

-- the longest record has eleven bytes
abbrev longest_record : ℕ
longest_record = 11

-- a place's record has so many at most, and one at least
place_long : (kind : ℕ) → (1 ≤ place_length kind) × (place_length kind ≤ longest_record)
place_long kind = go (eqb kind 6)
  where
    go : (b : Bool) → (1 ≤ cond b 11 5) × (cond b 11 5 ≤ longest_record)
    go true = (omega arith, le_refl 11)
    go false = (omega arith, omega arith)

-- what was made so far took the bytes before the offset at least, the floor none, and no row is longer than sixteen
record Took (p : Progress) (at : ℕ) : Type 0 where
  size : at + longest_record ≤ longest_record * places p.cell + 3 * agents p.cell + 5 * sum_below (counts p.cell) 64 + 6 * gave p
  most : (j : ℕ) → j < 64 → counts p.cell j ≤ 16

-- the bare floor took none
took_bare : Took bare_progress 0
took_bare = record {
  size = unfold cell_of in unfold bare_table in unfold has in unfold sum_below in le_refl longest_record;
  most = λ j l. subst (λ (a : Agent). a.count ≤ 16) (sym (bare_agent j l)) (omega arith);
}

-- so the offset is small
at_most : (p : Progress) (at : ℕ) → Took p at → at ≤ last_record
at_most p at t =
    let q : places p.cell ≤ 64 = sum_most (one p.cell.land.used) 64 1 (λ j l. omega (arith, bit_lt (p.cell.land.used j))) in
    let a : agents p.cell ≤ 64 = sum_most (one p.cell.given) 64 1 (λ j l. omega (arith, bit_lt (p.cell.given j))) in
    let n : sum_below (counts p.cell) 64 ≤ 1024 = sum_most (counts p.cell) 64 16 t.most in
    let g : gave p ≤ 64 = sum_most (one p.counted) 64 1 (λ j l. omega (arith, bit_lt (p.counted j))) in
    omega (arith, t.size)

-- ---- each record takes its bytes

took_place : (p : Progress) (at kind n parent : ℕ) (m : Name) → Took p at → n < 64 → p.cell.land.used n ≡ false
    → Took (with_cell p (add_place p.cell n parent m)) (at + place_length kind)
unfolding add_place
took_place p at kind n parent m t l e = record {
  size = omega (arith, t.size, (place_long kind).1, one_more p.cell.land.used n l e);
  most = t.most;
}

took_touches : (p : Progress) (at q n : ℕ) → Took p at → q < 64 → p.counted q ≡ false → Took (with_counted p q n) (at + 6)
unfolding give_touches
took_touches p at q n t l e = record { size = omega (arith, t.size, one_more p.counted q l e); most = t.most }

home_count : (c : State) (n h j : ℕ) → counts (add_agent c n h) j ≡ counts c j
unfolding add_agent
home_count c n h = upd_all c.agent n (with_home (c.agent n) h) (λ j a. a.count ≡ counts c j) refl (λ j _. refl)

took_agent : (p : Progress) (at n h : ℕ) → Took p at → n < 64 → p.cell.given n ≡ false → Took (with_cell p (add_agent p.cell n h)) (at + 3)
took_agent p at n h t l e = record {
  size = omega (arith, t.size, given, same, land);
  most = λ j k. subst (λ (z : ℕ). z ≤ 16) (sym (home_count c n h j)) (t.most j k);
}
  where
    c : State
    c = p.cell

    same : sum_below (counts (add_agent c n h)) 64 ≡ sum_below (counts c) 64
    same = sum_ext (counts (add_agent c n h)) (counts c) 64 (λ j k. home_count c n h j)

    land : places (add_agent c n h) ≡ places c
    land = unfold add_agent in refl

    given : agents (add_agent c n h) ≡ agents c + 1
    given = unfold add_agent in one_more c.given n l e

module _ (c : State) (n k m : ℕ) where
  action_there : (j : ℕ) → j ≡ n → counts (add_action c n k m) j ≡ counts c n + 1
  unfolding add_action with_action
  action_there j e = ap (λ (a : Agent). a.count) (upd_at c.agent n j (with_action (c.agent n) k m) e)

  action_else : (j : ℕ) → j ≢ n → counts (add_action c n k m) j ≡ counts c j
  unfolding add_action with_action
  action_else j q = ap (λ (a : Agent). a.count) (upd_other c.agent n j (with_action (c.agent n) k m) q)

took_action : (p : Progress) (n k m at : ℕ) → Took p at → n < 64 → is_full p.cell n ≡ false → Took (with_cell p (add_action p.cell n k m)) (at + 5)
took_action p n k m at t l e = record { size = omega (arith, t.size, more, land, given); most = λ j h. go j h (eq? j n) }
  where
    c : State
    c = p.cell

    more : sum_below (counts (add_action c n k m)) 64 ≡ sum_below (counts c) 64 + 1
    more = sum_more (counts c) (counts (add_action c n k m)) 64 n l (action_there c n k m n refl) (action_else c n k m)

    land : places (add_action c n k m) ≡ places c
    land = unfold add_action in refl

    given : agents (add_action c n k m) ≡ agents c
    given = unfold add_action in refl

    go : (j : ℕ) → j < 64 → (j ≡ n) ⊎ (j ≢ n) → counts (add_action c n k m) j ≤ 16
    go j h (inl q) = subst (λ (z : ℕ). z ≤ 16) (sym (action_there c n k m j q)) (omega (arith, leb-false 16 (c.agent n).count e))
    go j h (inr q) = subst (λ (z : ℕ). z ≤ 16) (sym (action_else c n k m j q)) (t.most j h)

-- ---- the file and its first b bytes

module _ (s : List ℕ) (b : ℕ) (wide : deciding_bytes ≤ b) (long : b ≤ length s) where
  -- these bytes
  start : List ℕ
  start = take b s

  start_long : length start ≡ b
  unfolding start
  start_long = length-take-le b s long

  same_byte : (i : ℕ) → i < b → byte_at start i ≡ byte_at s i
  unfolding start
  same_byte i l = get_or-take b s i 0 l

  -- a record that begins early enough is the same
  same_record : (k : Known) (at : ℕ) → at ≤ last_record → record_at k start at ≡ record_at k s at
  unfolding record_at
  same_record k at l = rw (
    same_byte at (omega arith),
    same_byte (at + 1) (omega arith),
    same_byte (at + 2) (omega arith),
    same_byte (at + 3) (omega arith),
    same_byte (at + 4) (omega arith),
    same_byte (at + 5) (omega arith),
    same_byte (at + 6) (omega arith),
    same_byte (at + 7) (omega arith),
    same_byte (at + 8) (omega arith),
    same_byte (at + 9) (omega arith),
    same_byte (at + 10) (omega arith),
    le-ltb (length start - at) (place_length (byte_at s at)) (omega (arith, start_long, (place_long (byte_at s at)).1)),
    le-ltb (length start - at) 5 (omega (arith, start_long)),
    le-ltb (length start - at) 3 (omega (arith, start_long)),
    le-ltb (length start - at) 6 (omega (arith, start_long)),
    le-ltb (length s - at) (place_length (byte_at s at)) (omega (arith, (place_long (byte_at s at)).1)),
    le-ltb (length s - at) 5 (omega arith),
    le-ltb (length s - at) 3 (omega arith),
    le-ltb (length s - at) 6 (omega arith),
  )

  -- and so is the load from there on, with turns enough in both
  same_load : (k m : ℕ) (c : Progress) (at : ℕ) → Took c at → b < k + at → length s < m + at → load_from k c start at ≡ load_from m c s at
  unfolding load_from
  same_load zero m c at h p q = absurd (omega (arith, at_most c at h))
  same_load (suc k) zero c at h p q = absurd (omega (arith, at_most c at h))
  same_load (suc k) (suc m) c at h p q =
      rw (
        lt-ltb at (length start) (omega (arith, start_long, l)),
        lt-ltb at (length s) (omega (arith, l)),
        same_record (known_in c) at l,
      )
      (go (record_at (known_in c) s at) (record_fits (known_in c) s at)
      (λ d i g x y. same_load k m d i g x y))
    where
      l : at ≤ last_record
      l = at_most c at h

      go : (r : Record) → Fits (known_in c) r
          → ((d : Progress) (i : ℕ) → Took d i → b < k + i → length s < m + i → load_from k d start i ≡ load_from m d s i)
          → load_record (λ d i. load_from k d start i) c start at r ≡ load_record (λ d i. load_from m d s i) c s at r
      go (PlaceRecord n x y) (place one low under new known named) r =
          let e = same_byte at (omega (arith, l)) in
          let g = (place_long (byte_at s at)).0 in
          unfold load_record in rw e (r (with_cell c (add_place c.cell n x y)) (at + place_length (byte_at s at)) (took_place c at (byte_at s at) n x y h low new)
          (omega (arith, p, g)) (omega (arith, q, g)))
      go (AgentRecord n x) (agent low under new known) r =
          unfold load_record in r (with_cell c (add_agent c.cell n x)) (at + 3) (took_agent c at n x h low new) (omega arith) (omega arith)
      go (ActionRecord n x y) (action low known room one three named) r =
          unfold load_record in r (with_cell c (add_action c.cell n x y)) (at + 5) (took_action c n x y at h low room) (omega arith) (omega arith)
      go (TouchRecord n x) (touch low new known few) r =
          unfold load_record in r (with_counted c n x) (at + 6) (took_touches c at n x h low new) (omega arith) (omega arith)
      go EndRecord end r = unfold load_record in
          rw (lt-ltb (at + 1) (length start) (omega (arith, start_long, l)), lt-ltb (at + 1) (length s) (omega (arith, l)))
      go (Faulty n) faulty r = unfold load_record in refl

-- whatever follows the first 6,400 bytes, the answer is theirs: the same cell, or the same refusal at the same offset
pub prefix : (s : List ℕ) (b : ℕ) → deciding_bytes ≤ b → load (take b s) ≡ load s
prefix s b wide = go (told (leb (length s) b))
  where
    go : Told (leb (length s) b) → load (take b s) ≡ load s
    go (yea e) = ap load (take_all b s (leb-true _ _ e))
    go (nay e) = unfold start in
        (let l : b ≤ length s = omega (arith, leb-false (length s) b e) in
        load_begun (take b s) (omega (arith, start_long s b wide l))
        ∙ same_load s b wide l (suc (length (take b s))) (suc (length s)) bare_progress 0 took_bare (omega (arith, start_long s b wide l)) (omega arith)
        ∙ sym (load_begun s (omega arith)))

-- ---- accepted files

-- a file that is accepted is short
abbrev ShortIf : List ℕ → Load → Type 0
ShortIf s (accepted c) = length s ≤ longest_file
ShortIf s (refused number offset) = Unit {0}

short_from : (s : List ℕ) (turns : ℕ) (c : Progress) (at : ℕ) → Took c at → ShortIf s (load_from turns c s at)
unfolding load_from
short_from s zero c at h = tt
short_from s (suc turns) c at h =
    before (ltb at (length s)) _ (go (record_at (known_in c) s at) (record_fits (known_in c) s at)
    (λ d i g. short_from s turns d i g))
  where
    before : (b : Bool) (l : Load) → ShortIf s l → ShortIf s (cond b l (refused cut_short (length s)))
    before true l g = g
    before false l g = tt

    go : (r : Record) → Fits (known_in c) r → ((d : Progress) (i : ℕ) → Took d i → ShortIf s (load_from turns d s i))
        → ShortIf s (load_record (λ d i. load_from turns d s i) c s at r)
    go (PlaceRecord n x y) (place one low under new known named) r = unfold load_record in r (with_cell c (add_place c.cell n x y)) (at + place_length (byte_at s at)) (took_place c at (byte_at s at) n x y h low new)
    go (AgentRecord n x) (agent low under new known) r = unfold load_record in r (with_cell c (add_agent c.cell n x)) (at + 3) (took_agent c at n x h low new)
    go (ActionRecord n x y) (action low known room one three named) r = unfold load_record in r (with_cell c (add_action c.cell n x y)) (at + 5) (took_action c n x y at h low room)
    go (TouchRecord n x) (touch low new known few) r = unfold load_record in r (with_counted c n x) (at + 6) (took_touches c at n x h low new)
    go EndRecord end r = unfold load_record in last (told (ltb (at + 1) (length s)))
      where
        last : Told (ltb (at + 1) (length s)) → ShortIf s (cond (ltb (at + 1) (length s)) (refused after_end (at + 1)) (accepted c.cell))
        last (yea e) = rw e tt
        last (nay e) = rw e (omega (arith, ltb-false (at + 1) (length s) e, at_most c at h))
    go (Faulty n) faulty r = unfold load_record in tt

-- the longest file that is accepted has 6,390 bytes
pub accepted_longest : (s : List ℕ) (c : State) → load s ≡ accepted c → length s ≤ longest_file
accepted_longest s c e = subst (ShortIf s) e (load_either s (ShortIf s) (λ z. omega arith) (short_from s (suc (length s)) bare_progress 0 took_bare))
