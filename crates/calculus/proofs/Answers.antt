-- What answers a reduction of what a place holds: a move near that place or below it, which leaves the place holding the other side.
-- Idea: the parts that a rule takes are looked up in the place; an answer within a place is one for the place around it, by `climbs`.
use Rattle.std.specs.Prelude.{ℕ, ◌≤◌, ◌≡◌, true}
use Rattle.std.proofs.Common.{sym}
use Rattle.table.specs.declared.Name.{Name}
use Rattle.meaning.specs.Calculus.{Tree, Move}
use Rattle.calculus.specs.Formed.{Formed}
use Rattle.calculus.proofs.MoveFormed.{move_formed}
use Rattle.calculus.proofs.Above.{Above, above_next}
use Rattle.calculus.specs.Terms.{Term, amb, nil, ◌∣◌, ◌≅◌, struct_symm, struct_amb}
use Rattle.calculus.proofs.TermLaws.{◌⨾◌, of_path, renamed, pars}
use Rattle.calculus.proofs.Equivalence.{Takes}
use Rattle.calculus.specs.TermOf.{agent_at, place_at, level, held}
use Rattle.calculus.proofs.Depth.{unfolds}
use Rattle.calculus.proofs.Contents.{agents_of, places_of}
use Rattle.calculus.proofs.Near.{Local, climbs}
use Rattle.calculus.proofs.PartsHeld.{head, some_all, FoundPlace, FoundAgent, found_place, found_agent}

-- a move near a place in s or below it, after which s holds Q
pub record Answer (t : Tree) (s : ℕ) (Q : Term) : Type 1 where
  pub who : ℕ
  pub after : Tree
  pub move : Move t who after
  pub place : ℕ
  pub touched : ℕ → Type 0
  pub change : Local t after place touched
  pub above : Above t.parent place s
  pub holds : held after s ≅ Q

-- a place in s and an agent in s, with the rest of s
abbrev pub PlaceIn : Tree → ℕ → Name → Term → Term → Type 0
PlaceIn t s n P R = FoundPlace t s (agent_at t s) (place_at t (held t) s) n P R

abbrev pub AgentIn : Tree → ℕ → Term → Term → Type 0
AgentIn t s L R = FoundAgent t s (agent_at t s) (place_at t (held t) s) L R

module _ (t : Tree) (w : Formed t) where
  -- what a place in use holds is its agents and its places
  look : (s : ℕ) {X : Term} → t.used s ≡ true → held t s ≅ X → agents_of t s ∣ places_of t s ≅ X
  unfolding level
  look s us e = of_path (sym (unfolds t w s us)) ⨾ e

  -- an ambient in what s holds is a place in s; an action in it is the next of an agent in s
  pub place_in : (s : ℕ) {n : Name} {P R : Term} → t.used s ≡ true → held t s ≅ amb n P ∣ R → PlaceIn t s n P R
  place_in s us e = found_place t w s (agent_at t s) (place_at t (held t) s) (some_all t s) (look s us e)

  pub agent_in : (s : ℕ) {L R : Term} → t.used s ≡ true → Takes L L nil → 1 ≤ head L → held t s ≅ L ∣ R → AgentIn t s L R
  agent_in s us o k e = found_agent t w s (agent_at t s) (place_at t (held t) s) (some_all t s) o k (look s us e)

  -- an answer for each equivalent term
  pub widen : {s : ℕ} {P Q : Term} → Answer t s P → P ≅ Q → Answer t s Q
  widen a e = record {
    who = a.who;
    after = a.after;
    move = a.move;
    place = a.place;
    touched = a.touched;
    change = a.change;
    above = a.above;
    holds = a.holds ⨾ e;
  }

  -- one ambient up
  pub rises : (s : ℕ) {n : Name} {S S' R Q : Term} (y : PlaceIn t s n S R) → Answer t y.which S' → Q ≅ amb n S' ∣ R → Answer t s Q
  rises s {n} {S} {S'} {R} {Q} y z f = record {
    who = z.who;
    after = z.after;
    move = z.move;
    place = z.place;
    touched = z.touched;
    change = z.change;
    above = above_next z.above s y.stands.parent;
    holds = climbs t z.after w (move_formed w z.move) z.place z.touched z.change s y.which z.above y.stands
        ⨾ pars (renamed y.name ⨾ struct_amb z.holds) y.left ⨾ struct_symm f;
  }
