-- The record at an offset of a file, by its kind: what its first bytes say where it is not refused.
use Rattle.std.specs.Prelude.{◌≡◌, ◌⊎◌, List, Bool, true, false, cond, ℕ, ◌+◌, ◌-◌, ltb, leb, eqb, length}
use Rattle.std.proofs.Math.Path.{refl}
use Rattle.std.proofs.Common.{inl, inr, eqb-true}
use Rattle.table.proofs.BaseLaws.{Told, yea, nay, told}
use Rattle.table.specs.Cell.{last_kind}
use Rattle.table.specs.declared.Name.{Name}
use Rattle.meaning.specs.declared.Record.{Record}
use Rattle.meaning.specs.declared.Record.TheVariants.{PlaceRecord, AgentRecord, ActionRecord, EndRecord, TouchRecord, Faulty}
use Rattle.meaning.specs.File.{byte_at, name_at, name_given, count_at, place_record, agent_record, action_record, touch_record, gives_place, place_length, Known, record_at}

module _ (s : List ℕ) (at : ℕ) where
  -- the kind that a record has at the offset, 1 for a place or 6 for one with keys, 2, 3, 4, 5, and the bytes that its numbers are
  pub data Stands : Record → Type 0 where
    a_place : {number parent : ℕ} {name : Name} → (byte_at s at ≡ 1) ⊎ (byte_at s at ≡ 6) → number ≡ byte_at s (at + 1) → parent ≡ byte_at s (at + 2)
        → name ≡ name_given s at → Stands (PlaceRecord number parent name)
    an_agent : {number home : ℕ} → byte_at s at ≡ 2 → number ≡ byte_at s (at + 1) → home ≡ byte_at s (at + 2) → Stands (AgentRecord number home)
    an_action : {agent kind name : ℕ} → byte_at s at ≡ 3 → agent ≡ byte_at s (at + 1) → kind ≡ byte_at s (at + 2) → name ≡ name_at s at
        → Stands (ActionRecord agent kind name)
    the_end : byte_at s at ≡ 4 → Stands EndRecord
    touches : {q : ℕ} → byte_at s at ≡ 5 → Stands (TouchRecord q (count_at s at))
    at_fault : {number : ℕ} → Stands (Faulty number)

  -- a test with such a record in each arm
  either : (b : Bool) (x y : Record) → (b ≡ true → Stands x) → (b ≡ false → Stands y) → Stands (cond b x y)
  either true x y f g = f refl
  either false x y f g = g refl

  -- with a refusal in the first arm, or in the second
  unless : (b : Bool) (number : ℕ) (y : Record) → Stands y → Stands (cond b (Faulty number) y)
  unless b number y g = either b (Faulty number) y (λ _. at_fault) (λ _. g)

  where_known : (b : Bool) (number : ℕ) (x : Record) → Stands x → Stands (cond b x (Faulty number))
  where_known b number x g = either b x (Faulty number) (λ _. g) (λ _. at_fault)

  place_stands : (taken known : Bool) (n p : ℕ) (m : Name) → (byte_at s at ≡ 1) ⊎ (byte_at s at ≡ 6) → n ≡ byte_at s (at + 1) → p ≡ byte_at s (at + 2)
      → m ≡ name_given s at → Stands (place_record taken known n p m)
  unfolding place_record
  place_stands taken known n p m e f o g = unless (ltb n 1) _ _ (unless (leb 64 n) _ _ (unless (leb 64 p) _ _ (unless taken _ _
      (where_known known _ _ (unless (ltb m.name 1) _ _ (a_place e f o g))))))

  agent_stands : (taken known : Bool) (n h : ℕ) → byte_at s at ≡ 2 → n ≡ byte_at s (at + 1) → h ≡ byte_at s (at + 2) → Stands (agent_record taken known n h)
  unfolding agent_record
  agent_stands taken known n h e f o = unless (leb 64 n) _ _ (unless (leb 64 h) _ _ (unless taken _ _ (where_known known _ _ (an_agent e f o))))

  action_stands : (known full : Bool) (n k m : ℕ) → byte_at s at ≡ 3 → n ≡ byte_at s (at + 1) → k ≡ byte_at s (at + 2) → m ≡ name_at s at
      → Stands (action_record known full n k m)
  unfolding action_record
  action_stands known full n k m e f o g = unless (leb 64 n) _ _ (where_known known _ _ (unless (ltb k 1) _ _ (unless (ltb last_kind k) _ _
      (unless (ltb m 1) _ _ (unless full _ _ (an_action e f o g))))))

  touches_stand : (taken known : Bool) (q : ℕ) → byte_at s at ≡ 5 → Stands (touch_record taken known q (count_at s at))
  unfolding touch_record
  touches_stand taken known q e = unless (leb 64 q) _ _ (unless taken _ _ (where_known known _ _ (touches e)))

  -- a record that gives a place is of kind 1 or 6
  gives_place_lem : gives_place (byte_at s at) ≡ true → Told (eqb (byte_at s at) 1) → (byte_at s at ≡ 1) ⊎ (byte_at s at ≡ 6)
  gives_place_lem e (yea k) = inl (eqb-true _ 1 k)
  gives_place_lem e (nay k) = inr (eqb-true _ 6 (rw k at e))

  -- the record at every offset is so, whatever was given before
  pub record_stands : (k : Known) → Stands (record_at k s at)
  unfolding record_at
  record_stands k =
      either (gives_place (byte_at s at)) _ _ (λ e. unless (ltb (length s - at) (place_length (byte_at s at))) _ _
      (place_stands _ _ _ _ _ (gives_place_lem e (told (eqb (byte_at s at) 1))) refl refl refl))
      (λ _. either (eqb (byte_at s at) 2) _ _ (λ e. unless (ltb (length s - at) 3) _ _ (agent_stands _ _ _ _ (eqb-true _ 2 e) refl refl))
      (λ _. either (eqb (byte_at s at) 3) _ _ (λ e. unless (ltb (length s - at) 5) _ _ (action_stands _ _ _ _ _ (eqb-true _ 3 e) refl refl refl))
      (λ _. either (eqb (byte_at s at) 4) _ _ (λ e. the_end (eqb-true _ 4 e))
      (λ _. either (eqb (byte_at s at) 5) _ _ (λ e. unless (ltb (length s - at) 6) _ _ (touches_stand _ _ _ (eqb-true _ 5 e))) (λ _. at_fault)))))
