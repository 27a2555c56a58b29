-- A record that is neither place, agent, action, touches nor refusal is the end. Assumes nothing.
use mathlib.Core.Path.{◌≡◌, refl}
use Prim.Native.Nat.{ℕ}
use Rattle.std.proofs.Common.{◌≢◌}
use Rattle.table.specs.declared.Name.{Name}
use Rattle.meaning.specs.declared.Record.{Record}
use Rattle.meaning.specs.declared.Record.TheVariants.{PlaceRecord, AgentRecord, ActionRecord, EndRecord, TouchRecord, Faulty}

pub is_end : (r : Record) → ((n p : ℕ) (m : Name) → r ≢ PlaceRecord n p m) → ((n h : ℕ) → r ≢ AgentRecord n h)
    → ((n k m : ℕ) → r ≢ ActionRecord n k m) → ((n m : ℕ) → r ≢ TouchRecord n m) → ((n : ℕ) → r ≢ Faulty n) → r ≡ EndRecord
is_end (PlaceRecord n p m) a b c d e = absurd (a n p m refl)
is_end (AgentRecord n h) a b c d e = absurd (b n h refl)
is_end (ActionRecord n k m) a b c d e = absurd (c n k m refl)
is_end (TouchRecord n m) a b c d e = absurd (d n m refl)
is_end (Faulty n) a b c d e = absurd (e n refl)
is_end EndRecord a b c d e = refl
