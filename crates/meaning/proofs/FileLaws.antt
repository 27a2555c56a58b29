-- What a record that is not refused tells, which numbers a record looks at, the bare floor, and that a refused load changes nothing.
-- Idea: a record is a row of tests with a refusal in one arm each, so the other arm knows that the test went well.
use Rattle.std.specs.Prelude.{◌≡◌, refl, ◌≢◌, Bool, true, false, cond, List, [], ◌∷◌, ℕ, zero, suc, ◌+◌, ◌*◌, ◌-◌, ◌^◌, ◌<◌, ◌≤◌, ltb, leb, eqb, length, get_or, replicate}
use Rattle.std.proofs.Common.{ap, not-suc-le-zero, arith, ltb-true, ltb-false, leb-false}
use Rattle.std.proofs.lemmas.List.{get_or-replicate}
use Rattle.std.proofs.Math.ListN.{get_or-eq_default}
use Rattle.sets.proofs.WordLaws.{has_pow, has_none}
use Rattle.order.specs.Row.{counting_row}
use Rattle.table.proofs.BaseLaws.{Told, yea, nay, told}
use Rattle.table.specs.Cell.{cell_of, bare_table, no_place, no_agent, fresh_agent, none, last_kind}
use Rattle.table.specs.Bounds.{Bounded}
use Rattle.table.proofs.CellLaws.{bounded, sized_bare}
use Rattle.table.specs.declared.Name.{Name}
use Rattle.table.specs.declared.Cell.{Cell}
use Rattle.meaning.specs.declared.Record.{Record}
use Rattle.meaning.specs.declared.Record.TheVariants.{PlaceRecord, AgentRecord, ActionRecord, EndRecord, TouchRecord, Faulty}
use Rattle.meaning.specs.File.{two_bytes, four_bytes, byte_at, place_record, agent_record, action_record, touch_record, gives_place, place_length, name_given, Known, record_at, bare_progress, Load, accepted, refused, load_from, load, loaded, load_of}

-- ---- a four-byte number

-- it has 32 bits
four_few : (a b c d : ℕ) → four_bytes a b c d < 2 ^ 32
four_few a b c d = omega arith

-- of four bytes it is the number that they write
pub four_bytes_lem : (a b c d : ℕ) → a < 256 → b < 256 → c < 256 → d < 256 → four_bytes a b c d ≡ two_bytes a b + 65536 * two_bytes c d
four_bytes_lem a b c d la lb lc ld = omega arith

-- ---- what a record that is not refused tells of its numbers

module _ (k : Known) where
  -- numbers are in range, a place or agent is new, what it names was given earlier, and a row with an action more had room
  pub data Fits : Record → Type 0 where
    place : {number parent : ℕ} {name : Name} → 1 ≤ number → number < 64 → parent < 64 → k.places number ≡ false → k.places parent ≡ true
        → 1 ≤ name.name
        → Fits (PlaceRecord number parent name)
    agent : {number home : ℕ} → number < 64 → home < 64 → k.agents number ≡ false → k.places home ≡ true → Fits (AgentRecord number home)
    action : {number kind name : ℕ} → number < 64 → k.agents number ≡ true → k.full number ≡ false → 1 ≤ kind → kind ≤ last_kind → 1 ≤ name
        → Fits (ActionRecord number kind name)
    end : Fits EndRecord
    touch : {place touches : ℕ} → place < 64 → k.counted place ≡ false → k.places place ≡ true → touches < 2 ^ 32 → Fits (TouchRecord place touches)
    faulty : {number : ℕ} → Fits (Faulty number)

  -- a test with a refusal in one arm
  cond_fits : (b : Bool) (x y : Record) → (b ≡ true → Fits x) → (b ≡ false → Fits y) → Fits (cond b x y)
  cond_fits true x y f g = f refl
  cond_fits false x y f g = g refl

  place_fits_lem : (number parent : ℕ) (name : Name) → Fits (place_record (k.places number) (k.places parent) number parent name)
  unfolding place_record
  place_fits_lem n p m =
      cond_fits (ltb n 1) _ _ (λ e. faulty) (λ one.
      cond_fits (leb 64 n) _ _ (λ e. faulty) (λ low.
      cond_fits (leb 64 p) _ _ (λ e. faulty) (λ under.
      cond_fits (k.places n) _ _ (λ e. faulty) (λ new.
      cond_fits (k.places p) _ _ (λ known.
      cond_fits (ltb m.name 1) _ _ (λ e. faulty)
      (λ named. place (ltb-false n 1 one) (leb-false 64 n low) (leb-false 64 p under) new known (ltb-false m.name 1 named)))
      (λ e. faulty)))))

  agent_fits_lem : (number home : ℕ) → Fits (agent_record (k.agents number) (k.places home) number home)
  unfolding agent_record
  agent_fits_lem n h =
      cond_fits (leb 64 n) _ _ (λ e. faulty) (λ low.
      cond_fits (leb 64 h) _ _ (λ e. faulty) (λ under.
      cond_fits (k.agents n) _ _ (λ e. faulty) (λ new.
      cond_fits (k.places h) _ _ (λ known. agent (leb-false 64 n low) (leb-false 64 h under) new known) (λ e. faulty))))

  action_fits : (number kind name : ℕ) → Fits (action_record (k.agents number) (k.full number) number kind name)
  unfolding action_record
  action_fits n kind m =
      cond_fits (leb 64 n) _ _ (λ e. faulty) (λ low.
      cond_fits (k.agents n) _ _ (λ known.
      cond_fits (ltb kind 1) _ _ (λ e. faulty) (λ one.
      cond_fits (ltb last_kind kind) _ _ (λ e. faulty) (λ three.
      cond_fits (ltb m 1) _ _ (λ e. faulty) (λ named.
      cond_fits (k.full n) _ _ (λ e. faulty)
      (λ room. action (leb-false 64 n low) known room (ltb-false kind 1 one) (ltb-false last_kind kind three) (ltb-false m 1 named))))))
      (λ e. faulty))

  touch_fits : (place touches : ℕ) → touches < 2 ^ 32 → Fits (touch_record (k.counted place) (k.places place) place touches)
  unfolding touch_record
  touch_fits q n few =
      cond_fits (leb 64 q) _ _ (λ e. faulty) (λ low.
      cond_fits (k.counted q) _ _ (λ e. faulty) (λ new.
      cond_fits (k.places q) _ _ (λ known. touch (leb-false 64 q low) new known few) (λ e. faulty)))

  -- the record at an offset fits the cell so far, or is refused, or ends the file
  pub record_fits : (s : List ℕ) (at : ℕ) → Fits (record_at k s at)
  unfolding record_at
  record_fits s at =
      cond_fits (gives_place (byte_at s at)) _ _ (λ e. cond_fits (ltb (length s - at) (place_length (byte_at s at))) _ _ (λ e. faulty)
      (λ e. place_fits_lem (byte_at s (at + 1)) (byte_at s (at + 2)) _)) (λ e.
      cond_fits (eqb (byte_at s at) 2) _ _ (λ e. cond_fits (ltb (length s - at) 3) _ _ (λ e. faulty)
      (λ e. agent_fits_lem (byte_at s (at + 1)) (byte_at s (at + 2)))) (λ e.
      cond_fits (eqb (byte_at s at) 3) _ _ (λ e. cond_fits (ltb (length s - at) 5) _ _ (λ e. faulty)
      (λ e. action_fits (byte_at s (at + 1)) (byte_at s (at + 2)) _)) (λ e.
      cond_fits (eqb (byte_at s at) 4) _ _ (λ e. end) (λ e.
      cond_fits (eqb (byte_at s at) 5) _ _ (λ e. cond_fits (ltb (length s - at) 6) _ _ (λ e. faulty)
      (λ e. touch_fits (byte_at s (at + 1)) _ (four_few _ _ _ _))) (λ e. faulty)))))

-- ---- a record looks at numbers below 64 only

-- two tests with the same refusal first agree where that is passed
past_refusal : {A : Type 0} (b : Bool) (x y z : A) → (b ≡ false → x ≡ y) → cond b z x ≡ cond b z y
past_refusal true x y z h = refl
past_refusal false x y z h = h refl

module _ (k k' : Known) (same_places : (j : ℕ) → j < 64 → k.places j ≡ k'.places j)
    (same_agents : (j : ℕ) → j < 64 → k.agents j ≡ k'.agents j) (same_full : (j : ℕ) → j < 64 → k.full j ≡ k'.full j)
    (same_counted : (j : ℕ) → j < 64 → k.counted j ≡ k'.counted j) where
  place_same : (number parent : ℕ) (name : Name)
      → place_record (k.places number) (k.places parent) number parent name ≡ place_record (k'.places number) (k'.places parent) number parent name
  unfolding place_record
  place_same number parent name =
      past_refusal (ltb number 1) _ _ _ (λ e. past_refusal (leb 64 number) _ _ _ (λ low. past_refusal (leb 64 parent) _ _ _ (λ under.
      rw (same_places number (leb-false 64 number low), same_places parent (leb-false 64 parent under)))))

  agent_same : (number home : ℕ) → agent_record (k.agents number) (k.places home) number home ≡ agent_record (k'.agents number) (k'.places home) number home
  unfolding agent_record
  agent_same number home = past_refusal (leb 64 number) _ _ _ (λ low. past_refusal (leb 64 home) _ _ _ (λ under.
      rw (same_agents number (leb-false 64 number low), same_places home (leb-false 64 home under))))

  action_same : (number kind name : ℕ)
      → action_record (k.agents number) (k.full number) number kind name ≡ action_record (k'.agents number) (k'.full number) number kind name
  unfolding action_record
  action_same number kind name = past_refusal (leb 64 number) _ _ _ (λ low.
      rw (same_agents number (leb-false 64 number low), same_full number (leb-false 64 number low)))

  touch_same : (q touches : ℕ) → touch_record (k.counted q) (k.places q) q touches ≡ touch_record (k'.counted q) (k'.places q) q touches
  unfolding touch_record
  touch_same q touches = past_refusal (leb 64 q) _ _ _ (λ low. rw (same_counted q (leb-false 64 q low), same_places q (leb-false 64 q low)))

  -- so sets that agree below 64 give the same record
  pub record_same : (s : List ℕ) (at : ℕ) → record_at k s at ≡ record_at k' s at
  unfolding record_at
  record_same s at = rw (
    place_same (byte_at s (at + 1)) (byte_at s (at + 2)) (name_given s at),
    agent_same (byte_at s (at + 1)) (byte_at s (at + 2)),
    action_same (byte_at s (at + 1)) (byte_at s (at + 2)),
    touch_same (byte_at s (at + 1)),
  )

-- ---- the bare floor that a load starts from

pub bare_bounded : Bounded (cell_of bare_table)
bare_bounded = bounded bare_table sized_bare

-- it has the floor and no other place, no agent, no lock held
pub bare_used : (q : ℕ) → (cell_of bare_table).land.used q ≡ eqb q 0
unfolding cell_of bare_table
bare_used q = has_pow 0 q

pub bare_given : (x : ℕ) → (cell_of bare_table).given x ≡ false
unfolding cell_of bare_table
bare_given x = has_none x

pub bare_lock : (q : ℕ) → q < 64 → (cell_of bare_table).lock q ≡ none
unfolding cell_of bare_table
bare_lock q l = get_or-replicate 64 q none 0 l

pub bare_agent : (x : ℕ) → x < 64 → (cell_of bare_table).agent x ≡ fresh_agent
unfolding cell_of bare_table
bare_agent x l = get_or-replicate 64 x fresh_agent no_agent l

pub bare_place : (q : ℕ) → q ≢ 0 → (cell_of bare_table).land.place q ≡ no_place
unfolding cell_of bare_table
bare_place zero n = absurd (n refl)
bare_place (suc q) n = go (told (ltb q 63))
  where
    go : Told (ltb q 63) → get_or (replicate 63 no_place) q no_place ≡ no_place
    go (yea e) = get_or-replicate 63 q no_place no_place (ltb-true q 63 e)
    go (nay e) = get_or-eq_default (replicate 63 no_place) no_place (ltb-false q 63 e)

pub bare_touches : (q : ℕ) → (cell_of bare_table).touches q ≡ 0
unfolding cell_of bare_table
bare_touches q = go (told (ltb q 64))
  where
    go : Told (ltb q 64) → ◌≡◌ {A = ℕ} (get_or (replicate 64 0) q 0) 0
    go (yea e) = get_or-replicate 64 q 0 0 (ltb-true q 64 e)
    go (nay e) = get_or-eq_default (replicate 64 0) 0 (ltb-false q 64 e)

pub bare_order : (cell_of bare_table).land.order ≡ counting_row
unfolding cell_of bare_table
bare_order = refl

-- ---- the whole file

-- what holds of the bare floor and of what the records come to holds of every load
pub load_either : (s : List ℕ) (P : Load → Type 0) → (length s ≡ 0 → P (accepted (cell_of bare_table)))
    → P (load_from (suc (length s)) bare_progress s 0) → P (load s)
unfolding load
load_either [] P bare begun = bare refl
load_either (byte ∷ rest) P bare begun = begun

-- a file that has a byte is read record by record
pub load_begun : (s : List ℕ) → 0 < length s → load s ≡ load_from (suc (length s)) bare_progress s 0
unfolding load
load_begun [] l = absurd (not-suc-le-zero l)
load_begun (byte ∷ rest) l = refl

-- one that has none is a bare floor
pub load_empty : (s : List ℕ) → length s ≡ 0 → load s ≡ accepted (cell_of bare_table)
unfolding load
load_empty [] e = refl
load_empty (byte ∷ rest) e = absurd (omega arith)

-- ---- the call

-- "A refused one leaves the cell that was there"
pub refused_keeps : (t : Cell) (s : List ℕ) (number offset : ℕ) → load s ≡ refused number offset → (load_of t s).cell ≡ t
unfolding load_of loaded
refused_keeps t s number offset e = ap (λ (l : Load). (loaded t l).cell) e
