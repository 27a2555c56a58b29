-- A file is refused with a number at an offset exactly if its bytes have that fault there.
-- Idea: the load of a file and the records read off its bytes go on together: what the cell so far knows is what the records before gave.
use Rattle.std.specs.Prelude.{◌≡◌, ◌≢◌, ◌⊎◌, ◌↔◌, Bool, true, false, ◌||◌, List, ◌∷◌, ℕ, zero, suc, ◌+◌, ◌<◌, ◌≤◌, ltb, leb, eqb}
use Rattle.std.proofs.Math.Path.{refl, ap}
use Rattle.std.proofs.Common.{sym, ◌∙◌, subst, inl, inr, ltb-true, ltb-false, lt-ltb, le-ltb, eq-eqb, ne_eqb}
use Rattle.std.proofs.Math.Bool.{cond}
use native.Mathlib.Omega.{arith}
use Rattle.std.proofs.Math.ListN.{length}
use Rattle.order.specs.Row.{occurs}
use Rattle.table.proofs.BaseLaws.{Told, yea, nay, told, clash, eq?, upd_at, upd_other, upd_all}
use Rattle.table.specs.declared.Name.{Name}
use Rattle.table.specs.declared.Agent.{Agent}
use Rattle.meaning.specs.Refusals.{cut_short, after_end}
use Rattle.meaning.specs.Update.{with_home}
use Rattle.meaning.specs.File.{name_at, name_given, count_at, gives_place, record_at, add_place, add_agent, with_action, add_action, give_touches}
use Rattle.meaning.specs.File.{Progress, with_cell, with_counted, known_in, bare_progress, Load, accepted, refused, load_record, load_from, load}
use Rattle.meaning.proofs.FileLaws.{record_same, bare_used, bare_given, bare_agent, load_begun, load_empty}
use Rattle.demands.specs.FileFaults.{kind_at, first_number, second_number, is_agent, is_action, is_touches, record_length, Earlier, nothing_yet, with_record, how_often, tests}
use Rattle.demands.specs.FileFaults.{Decides, Passes, none_left, nor_this, Reached, start, past, Fault, in_a_record, no_end, after_the_end}
use Rattle.demands.proofs.RecordFaultLaws.{first_of, first_decides, first_passes, not_both, one_number, Judged, decided, passed, judged}
use Rattle.demands.proofs.RecordFaultLaws.{KindIs, is_place, is_agent_record, is_action_record, is_end, is_touches_record, is_keyed, is_unknown, kind_is, known_from, taken_apart, record_read}

-- ---- the cell so far and what the records before gave

-- the same places, agents, numbers of actions and places with touches
record SameGiven (p : Progress) (e : Earlier) : Type 0 where
  places : (j : ℕ) → p.cell.land.used j ≡ occurs j e.places
  agents : (j : ℕ) → p.cell.given j ≡ occurs j e.agents
  actions : (j : ℕ) → j < 64 → (p.cell.agent j).count ≡ how_often j e.actions
  touched : (j : ℕ) → p.counted j ≡ occurs j e.touched

-- the bare floor and nothing yet
same_start : SameGiven bare_progress nothing_yet
unfolding occurs how_often
same_start = record {
  places = λ j. bare_used j ∙ sym (or_false (eqb j 0));
  agents = bare_given;
  actions = λ j l. ap (λ (a : Agent). a.count) (bare_agent j l);
  touched = λ j. refl;
}
  where
    or_false : (b : Bool) → (b || false) ≡ b
    or_false true = refl
    or_false false = refl

module _ (p : Progress) (e : Earlier) (g : SameGiven p e) where
  -- one of each kind more
  same_place : (n parent : ℕ) (m : Name)
      → SameGiven (with_cell p (add_place p.cell n parent m)) (record { places = n ∷ e.places; agents = e.agents; actions = e.actions; touched = e.touched })
  unfolding add_place occurs
  same_place n parent m = record { places = λ j. ap (◌||◌ (eqb j n)) (g.places j); agents = g.agents; actions = g.actions; touched = g.touched }

  same_agent : (n home : ℕ)
      → SameGiven (with_cell p (add_agent p.cell n home)) (record { places = e.places; agents = n ∷ e.agents; actions = e.actions; touched = e.touched })
  unfolding add_agent occurs
  same_agent n home = record {
    places = g.places;
    agents = λ j. ap (◌||◌ (eqb j n)) (g.agents j);
    actions = λ j l. upd_all p.cell.agent n (with_home (p.cell.agent n) home) (λ j a. a.count ≡ (p.cell.agent j).count) refl (λ j _. refl) j ∙ g.actions j l;
    touched = g.touched;
  }

  same_action : (n kind m : ℕ)
      → SameGiven (with_cell p (add_action p.cell n kind m)) (record { places = e.places; agents = e.agents; actions = n ∷ e.actions; touched = e.touched })
  unfolding add_action with_action how_often
  same_action n kind m = record { places = g.places; agents = g.agents; actions = λ j l. go j l (eq? j n); touched = g.touched }
    where
      own : Agent
      own = with_action (p.cell.agent n) kind m

      go : (j : ℕ) → j < 64 → (j ≡ n) ⊎ (j ≢ n) → ((add_action p.cell n kind m).agent j).count ≡ cond (eqb j n) 1 0 + how_often j e.actions
      go j l (inl q) =
          let h = ap (λ (a : Agent). a.count) (upd_at p.cell.agent n j (with_action (p.cell.agent n) kind m) q) in
          let i : (p.cell.agent n).count ≡ how_often j e.actions = ap (λ (k : ℕ). (p.cell.agent k).count) (sym q) ∙ g.actions j l in
          rw (eq-eqb j n q) (h ∙ omega (arith, i))
      go j l (inr q) =
          let h = ap (λ (a : Agent). a.count) (upd_other p.cell.agent n j (with_action (p.cell.agent n) kind m) q) in
          rw (ne_eqb j n q) (h ∙ omega (arith, g.actions j l))

  same_touches : (n touches : ℕ)
      → SameGiven (with_counted p n touches) (record { places = e.places; agents = e.agents; actions = e.actions; touched = n ∷ e.touched })
  unfolding give_touches occurs
  same_touches n touches = record { places = g.places; agents = g.agents; actions = g.actions; touched = λ j. ap (◌||◌ (eqb j n)) (g.touched j) }

  -- so the record at an offset is the one that the tests tell
  record_told : (s : List ℕ) (at : ℕ) → at < length s → record_at (known_in p) s at ≡ first_of (tests s e at) (taken_apart s at)
  record_told s at l =
      record_same (known_in p) (known_from e) (λ j _. g.places j) (λ j _. g.agents j) (λ j h. ap (leb 16) (g.actions j h)) (λ j _. g.touched j) s at
      ∙ record_read s e at l

-- ---- one record and the rest

-- the ways that the load of a file can go at an offset: it stops at a fault, it ends, or it goes on behind the record
module _ (s : List ℕ) (turns : ℕ) (p : Progress) (e : Earlier) (at : ℕ) where
  data Way : Load → Type 0 where
    stops : (number : ℕ) → Decides (tests s e at) number → Way (refused number at)
    ends : kind_at s at ≡ 4 → Way (cond (ltb (at + 1) (length s)) (refused after_end (at + 1)) (accepted p.cell))
    goes_on : (q : Progress) → Passes (tests s e at) → kind_at s at ≢ 4 → SameGiven q (with_record s e at)
        → Way (load_from turns q s (at + record_length (kind_at s at)))

  abbrev rest : Progress → ℕ → Load
  rest q next = load_from turns q s next

  -- the load behind the record
  abbrev behind : Progress → Load
  behind q = load_from turns q s (at + record_length (kind_at s at))

  so : {x y : Load} → x ≡ y → Way y → Way x
  so e = subst Way (sym e)

  -- a place more, by a record of kind 1 or 6
  way_place : SameGiven p e → Passes (tests s e at) → gives_place (kind_at s at) ≡ true → is_agent (kind_at s at) ≡ false → is_action (kind_at s at) ≡ false
      → is_touches (kind_at s at) ≡ false → kind_at s at ≢ 4 → Way (load_record rest p s at (taken_apart s at))
  unfolding load_record
  way_place g pass a b c d n =
      let q : Progress = with_cell p (add_place p.cell (first_number s at) (second_number s at) (name_given s at)) in
      let h : SameGiven q (with_record s e at) = rw (a, b, c, d) (same_place p e g (first_number s at) (second_number s at) (name_given s at)) in
      let w : Way (behind q) = goes_on q pass n h in
      rw a (rw a at w)

  -- a record without fault is the end, or one of the other kinds
  way_on : SameGiven p e → Passes (tests s e at) → KindIs (kind_at s at) → Way (load_record rest p s at (taken_apart s at))
  unfolding load_record
  way_on g pass (is_place k) = way_place g pass (rw k) (rw k) (rw k) (rw k) (λ z. absurd (omega (arith, k, z)))
  way_on g pass (is_keyed k) = way_place g pass (rw k) (rw k) (rw k) (rw k) (λ z. absurd (omega (arith, k, z)))
  way_on g pass (is_agent_record k) =
      let q : Progress = with_cell p (add_agent p.cell (first_number s at) (second_number s at)) in
      let h : SameGiven q (with_record s e at) = rw k (same_agent p e g (first_number s at) (second_number s at)) in
      let w : load_record rest p s at (taken_apart s at) ≡ behind q = rw k in
      so w (goes_on q pass (λ z. absurd (omega (arith, k, z))) h)
  way_on g pass (is_action_record k) =
      let q : Progress = with_cell p (add_action p.cell (first_number s at) (second_number s at) (name_at s at)) in
      let h : SameGiven q (with_record s e at) = rw k (same_action p e g (first_number s at) (second_number s at) (name_at s at)) in
      let w : load_record rest p s at (taken_apart s at) ≡ behind q = rw k in
      so w (goes_on q pass (λ z. absurd (omega (arith, k, z))) h)
  way_on g pass (is_touches_record k) =
      let q : Progress = with_counted p (first_number s at) (count_at s at) in
      let h : SameGiven q (with_record s e at) = rw k (same_touches p e g (first_number s at) (count_at s at)) in
      let w : load_record rest p s at (taken_apart s at) ≡ behind q = rw k in
      so w (goes_on q pass (λ z. absurd (omega (arith, k, z))) h)
  way_on g pass (is_end k) =
      let w : load_record rest p s at (taken_apart s at) ≡ cond (ltb (at + 1) (length s)) (refused after_end (at + 1)) (accepted p.cell) = rw k in
      so w (ends k)
  way_on g (nor_this u pass) (is_unknown v _) = clash v u

  way : SameGiven p e → at < length s → Way (load_from (suc turns) p s at)
  unfolding load_from
  way g l = rw (lt-ltb at (length s) l, record_told p e g s at l) (go (judged (tests s e at)))
    where
      go : Judged (tests s e at) → Way (load_record rest p s at (first_of (tests s e at) (taken_apart s at)))
      go (decided number d) = unfold load_record in rw (first_decides (taken_apart s at) d) (stops number d)
      go (passed pass) = rw (first_passes (taken_apart s at) pass) (way_on g pass (kind_is (kind_at s at)))

-- ---- what a record without fault tells of its bytes

-- a record has a byte at least
some_bytes : (kind : ℕ) → 1 ≤ record_length kind
some_bytes kind = go (gives_place kind) (eqb kind 6) (eqb kind 2) (eqb kind 3) (eqb kind 4)
  where
    go : (a b c d e : Bool) → 1 ≤ cond a (cond b 11 5) (cond c 3 (cond d 5 (cond e 1 6)))
    go true true c d e = omega arith
    go true false c d e = omega arith
    go false b true d e = omega arith
    go false b false true e = omega arith
    go false b false false true = omega arith
    go false b false false false = omega arith

module _ (s : List ℕ) where
  -- one without fault is whole
  whole : (e : Earlier) (at : ℕ) → Passes (tests s e at) → at + record_length (kind_at s at) ≤ length s
  whole e at (nor_this u (nor_this c pass)) = ltb-false (length s) (at + record_length (kind_at s at)) c

  -- so records without fault lie within the file
  pub reached_within : {e : Earlier} {at : ℕ} → Reached s e at → at ≤ length s
  reached_within start = omega arith
  reached_within (past {e} {at} r l pass n) = whole e at pass

  -- ---- from the refusal to the fault

  fault_from : (turns : ℕ) (p : Progress) (e : Earlier) (at number offset : ℕ) → SameGiven p e → Reached s e at → 0 < length s
      → length s < turns + at → load_from turns p s at ≡ refused number offset → Fault s number offset
  fault_from zero p e at number offset g r some few q = absurd (omega (arith, reached_within r))
  fault_from (suc turns) p e at number offset g r some few q =
      go (told (ltb at (length s))) (λ d next h i j k. fault_from turns d (with_record s e at) next number offset h i some j k)
    where
      is : {m o : ℕ} → ◌≡◌ {A = Load} (refused m o) (refused number offset) → Fault s m o → Fault s number offset
      is {m} {o} z f =
          let a : m ≡ number = cc in
          let b : o ≡ offset = cc in
          subst (λ (n : ℕ). Fault s n offset) a (subst (λ (n : ℕ). Fault s m n) b f)

      by : at < length s
          → ((d : Progress) (next : ℕ) → SameGiven d (with_record s e at) → Reached s (with_record s e at) next → length s < turns + next
          → load_from turns d s next ≡ refused number offset → Fault s number offset)
          → {l : Load} → Way s turns p e at l → l ≡ refused number offset → Fault s number offset
      by l f (stops m d) z = is z (in_a_record r l d)
      by l f (ends k) z = last (told (ltb (at + 1) (length s)))
        where
          last : Told (ltb (at + 1) (length s)) → Fault s number offset
          last (yea t) = is (rw t at z) (after_the_end r k (ltb-true (at + 1) (length s) t))
          last (nay t) = let y = rw t at z in let x : ◌≡◌ {A = ℕ} 0 1 = cc in absurd (omega arith)
      by l f (goes_on d pass n h) z =
          f d (at + record_length (kind_at s at)) h (past r l pass n) (omega (arith, few, some_bytes (kind_at s at))) z

      go : Told (ltb at (length s))
          → ((d : Progress) (next : ℕ) → SameGiven d (with_record s e at) → Reached s (with_record s e at) next → length s < turns + next
          → load_from turns d s next ≡ refused number offset → Fault s number offset) → Fault s number offset
      go (yea t) f = by (ltb-true at (length s) t) f (way s turns p e at g (ltb-true at (length s) t)) q
      go (nay t) f =
          let l : at ≡ length s = omega (arith, reached_within r, ltb-false at (length s) t) in
          let y : load_from (suc turns) p s at ≡ refused cut_short (length s) = unfold load_from in rw t in
          is (sym y ∙ q) (no_end some (subst (Reached s e) l r))

  load_fault : (number offset : ℕ) → load s ≡ refused number offset → Fault s number offset
  load_fault number offset q = go (told (ltb 0 (length s)))
    where
      go : Told (ltb 0 (length s)) → Fault s number offset
      go (yea t) =
          let l = ltb-true 0 (length s) t in
          fault_from (suc (length s)) bare_progress nothing_yet 0 number offset same_start start l (omega arith) (sym (load_begun s l) ∙ q)
      go (nay t) =
          let l : length s ≡ 0 = omega (arith, ltb-false 0 (length s) t) in
          let y = sym (load_empty s l) ∙ q in
          let x : ◌≡◌ {A = ℕ} 0 1 = cc in absurd (omega arith)

  -- ---- from the fault to the refusal

  -- the load of the file is that from the offset on, with turns enough
  data Carried (e : Earlier) (at : ℕ) : Type 0 where
    carried : (turns : ℕ) (p : Progress) → SameGiven p e → load s ≡ load_from turns p s at → length s < turns + at → Carried e at

  carry : {e : Earlier} {at : ℕ} → 0 < length s → Reached s e at → Carried e at
  carry some start = carried (suc (length s)) bare_progress same_start (load_begun s some) (omega arith)
  carry some (past {e} {at} r l pass n) = go (carry some r)
    where
      on : (turns : ℕ) (p : Progress) → length s < suc turns + at → {x : Load} → Way s turns p e at x → load s ≡ x
          → Carried (with_record s e at) (at + record_length (kind_at s at))
      on turns p few (stops m d) q = not_both d pass
      on turns p few (ends k) q = absurd (n k)
      on turns p few (goes_on d _ _ h) q = carried turns d h q (omega (arith, few, some_bytes (kind_at s at)))

      go : Carried e at → Carried (with_record s e at) (at + record_length (kind_at s at))
      go (carried zero p g q few) = absurd (omega (arith, few, l))
      go (carried (suc turns) p g q few) = on turns p few (way s turns p e at g l) q

  -- the end record has no fault
  end_passes : (e : Earlier) (at : ℕ) → kind_at s at ≡ 4 → at < length s → Passes (tests s e at)
  end_passes e at k l = rw (k, le-ltb (length s) (at + 1) (omega arith)) (nor_this refl (nor_this refl (nor_this refl (nor_this refl (nor_this refl
      (nor_this refl (nor_this refl (nor_this refl (nor_this refl (nor_this refl none_left))))))))))

  fault_load : {number offset : ℕ} → Fault s number offset → load s ≡ refused number offset
  fault_load (in_a_record {e} {at} {number} r l d) = go (carry (omega arith) r)
    where
      on : (turns : ℕ) (p : Progress) → {x : Load} → Way s turns p e at x → load s ≡ x → load s ≡ refused number at
      on turns p (stops m f) q = q ∙ ap (λ (k : ℕ). refused k at) (one_number f d)
      on turns p (ends k) q = not_both d (end_passes e at k l)
      on turns p (goes_on f pass _ _) q = not_both d pass

      go : Carried e at → load s ≡ refused number at
      go (carried zero p g q few) = absurd (omega (arith, few, l))
      go (carried (suc turns) p g q few) = on turns p (way s turns p e at g l) q
  fault_load (no_end {e} some r) = go (carry some r)
    where
      go : Carried e (length s) → load s ≡ refused cut_short (length s)
      go (carried zero p g q few) = q ∙ unfold load_from in refl
      go (carried (suc turns) p g q few) = q ∙ unfold load_from in rw (le-ltb (length s) (length s) (omega arith))
  fault_load (after_the_end {e} {at} r k l) = go (carry (omega arith) r)
    where
      low : at < length s
      low = omega arith

      on : (turns : ℕ) (p : Progress) → {x : Load} → Way s turns p e at x → load s ≡ x → load s ≡ refused after_end (at + 1)
      on turns p (stops m f) q = not_both f (end_passes e at k low)
      on turns p (ends _) q = q ∙ rw (lt-ltb (at + 1) (length s) l)
      on turns p (goes_on f _ n _) q = absurd (n k)

      go : Carried e at → load s ≡ refused after_end (at + 1)
      go (carried zero p g q few) = absurd (omega (arith, few, l))
      go (carried (suc turns) p g q few) = on turns p (way s turns p e at g low) q

-- a load is refused with a number at an offset exactly if the file's bytes have that fault there
pub refused_by_fault : (s : List ℕ) (number offset : ℕ) → (load s ≡ refused number offset) ↔ Fault s number offset
refused_by_fault s number offset = (load_fault s number offset, fault_load s)
