-- Trails are the rows of moves of the calculus: what a trail may tell is a move, and each move is told by one byte.
-- Idea: by the kind of the agent's next action; of an exit and a release the place follows from the tree, of an enter and an open the byte is the place.
use Rattle.std.specs.Prelude.{◌≡◌, refl, true, not, List, [], ◌∷◌, ℕ, zero, suc, ◌<◌}
use Rattle.std.proofs.Common.{sym, ◌∙◌, subst, arith}
use Rattle.std.proofs.Math.Path.{ap, ap₂}
use Rattle.std.proofs.Math.Bool.{◌&&◌}
use Rattle.std.proofs.Math.Dec.{eqb}
use borrow.Author.Tests.{eqb-true}
use Rattle.table.proofs.BaseLaws.{Told, yea, nay, told, clash, and_left, and_right}
use Rattle.table.specs.Cell.{enter_kind, exit_kind, open_kind, release_kind, chooses, key_of, fresh_number}
use Rattle.table.proofs.KindLaws.{Kind, is_enter, is_exit, is_open, is_release}
use Rattle.meaning.specs.Calculus.{Tree, next_of, stands_at, may_enter, may_exit, may_open, has_room, may_release, permits, move, Move}
use Rattle.meaning.specs.Codes.{none_told}
use Rattle.calculus.specs.Formed.{Formed}
use Rattle.calculus.proofs.MoveCases.{MoveCase, by_enter, by_exit, by_open, by_release, move_case}
use Rattle.calculus.proofs.MoveFormed.{move_formed, mover_below_64}
use Rattle.calculus.specs.Moves.{Moves, moves_none, moves_then}
use Rattle.demands.specs.SameListings.{OfBytes}
use Rattle.trail.specs.Trail.{byte_fits, place_of, allows, moved, Follows, ends, goes}
use Rattle.claims.specs.Claims.{byte_of, TrailTo}

-- ---- what a trail may tell is a move

pub allowed_move : (t : Tree) (a b : ℕ) → allows t a b ≡ true → Move t a (moved t a b)
unfolding allows moved
allowed_move t a b e = record {
  place = place_of t a b;
  permitted = and_right (byte_fits (next_of t a).kind b) (permits t a (place_of t a b)) e;
  result = refl;
}

pub follows_moves : {t u : Tree} {trail : List ℕ} → Follows t trail u → Moves t u
follows_moves ends = moves_none
follows_moves (goes {t} {a = a} {b = b} p f) = moves_then (allowed_move t a b p) (follows_moves f)

-- ---- each move is told by one byte

-- byte b tells the move of agent a from t to u
pub record Tells (t : Tree) (a : ℕ) (u : Tree) (b : ℕ) : Type 0 where
  pub allowed : allows t a b ≡ true
  pub makes : u ≡ moved t a b

-- an agent that moves has an action of one of the kinds
pub mover_kind : {t : Tree} {a : ℕ} {u : Tree} → MoveCase t a u → Kind (next_of t a).kind
mover_kind (by_enter m k h s d n) = is_enter k
mover_kind (by_exit k h n) = is_exit k
mover_kind (by_open m k s n) = is_open k
mover_kind (by_release m k l e) = is_release k

module _ (t : Tree) (a : ℕ) where
  -- the place that a byte tells, by the kind
  pub place_entered : (b : ℕ) → (next_of t a).kind ≡ enter_kind → place_of t a b ≡ b
  place_entered b k = rw k

  pub place_left : (b : ℕ) → (next_of t a).kind ≡ exit_kind → place_of t a b ≡ t.parent (t.home a)
  place_left b k = rw k

  pub place_opened : (b : ℕ) → (next_of t a).kind ≡ open_kind → place_of t a b ≡ b
  place_opened b k = rw k

  pub place_put : (b : ℕ) → (next_of t a).kind ≡ release_kind → place_of t a b ≡ fresh_number t.used
  place_put b k = rw k

  -- the byte of a move, by the kind
  byte_entered : (m : ℕ) → (next_of t a).kind ≡ enter_kind → byte_of t a m ≡ m
  byte_entered m k = rw k

  byte_left : (m : ℕ) → (next_of t a).kind ≡ exit_kind → byte_of t a m ≡ none_told
  byte_left m k = rw k

  byte_opened : (m : ℕ) → (next_of t a).kind ≡ open_kind → byte_of t a m ≡ m
  byte_opened m k = rw k

  byte_put : (m : ℕ) → (next_of t a).kind ≡ release_kind → byte_of t a m ≡ none_told
  byte_put m k = rw k

  -- it fits the kind
  byte_fits_lem : (m : ℕ) → byte_fits (next_of t a).kind (byte_of t a m) ≡ true
  byte_fits_lem m = go (told (chooses (next_of t a).kind))
    where
      go : Told (chooses (next_of t a).kind) → byte_fits (next_of t a).kind (byte_of t a m) ≡ true
      go (yea e) = rw e
      go (nay e) = rw e

  -- what is permitted on m: an exit leaves the place around its own, a release puts out the smallest unused number
  left_only : (m : ℕ) → (next_of t a).kind ≡ exit_kind → permits t a m ≡ true → m ≡ t.parent (t.home a)
  unfolding permits may_exit
  left_only m k e =
      let x = and_right (not (eqb (t.home a) 0)) (eqb m (t.parent (t.home a)) && eqb (key_of exit_kind (t.name m)) (next_of t a).name) (rw k at e) in
      eqb-true m (t.parent (t.home a)) (and_left (eqb m (t.parent (t.home a))) _ x)

  put_only : (m : ℕ) → (next_of t a).kind ≡ release_kind → permits t a m ≡ true → m ≡ fresh_number t.used
  unfolding permits may_release
  put_only m k e = eqb-true m (fresh_number t.used) (and_right (has_room t) (eqb m (fresh_number t.used)) (rw k at e))

  -- the place that the byte of a permitted move tells is the place of the move
  place_told : (m : ℕ) → Kind (next_of t a).kind → permits t a m ≡ true → place_of t a (byte_of t a m) ≡ m
  place_told m (is_enter k) e = place_entered (byte_of t a m) k ∙ byte_entered m k
  place_told m (is_exit k) e = place_left (byte_of t a m) k ∙ sym (left_only m k e)
  place_told m (is_open k) e = place_opened (byte_of t a m) k ∙ byte_opened m k
  place_told m (is_release k) e = place_put (byte_of t a m) k ∙ sym (put_only m k e)

  -- so the byte tells the move
  pub byte_tells : (m : ℕ) → Kind (next_of t a).kind → permits t a m ≡ true → Tells t a (move t a m) (byte_of t a m)
  unfolding allows moved
  byte_tells m k e = record {
    allowed = ap₂ ◌&&◌ (byte_fits_lem m) (ap (permits t a) (place_told m k e) ∙ e);
    makes = ap (move t a) (sym (place_told m k e));
  }

pub move_tells : {t u : Tree} {a : ℕ} (v : Move t a u) → Tells t a u (byte_of t a v.place)
move_tells {t} {u} {a} v =
    subst (λ (w : Tree). Tells t a w (byte_of t a v.place)) (sym v.result) (byte_tells t a v.place (mover_kind (move_case v)) v.permitted)

-- ---- it is a byte

-- an enter and an open are permitted on a place in use
pub chosen_used : (t : Tree) (a m : ℕ) → chooses (next_of t a).kind ≡ true → Kind (next_of t a).kind → permits t a m ≡ true → t.used m ≡ true
unfolding permits may_enter may_open stands_at
chosen_used t a m c (is_enter k) e =
    let x = and_right (not (eqb (t.home a) 0)) (stands_at t m (t.parent (t.home a)) && (not (eqb m (t.home a)) && eqb (key_of enter_kind (t.name m)) (next_of t a).name)) (rw k at e) in
    let y = and_left (stands_at t m (t.parent (t.home a))) _ x in and_left (t.used m) _ y
chosen_used t a m c (is_exit k) e = clash c (rw k)
chosen_used t a m c (is_open k) e =
    let y = and_left (stands_at t m (t.home a)) (eqb (key_of open_kind (t.name m)) (next_of t a).name) (rw k at e) in and_left (t.used m) _ y
chosen_used t a m c (is_release k) e = clash c (rw k)

byte_small : {t u : Tree} {a : ℕ} → Formed t → (v : Move t a u) → byte_of t a v.place < 256
byte_small {t} {u} {a} w v = go (told (chooses (next_of t a).kind))
  where
    go : Told (chooses (next_of t a).kind) → byte_of t a v.place < 256
    go (yea c) = rw c (omega (arith, w.small v.place (chosen_used t a v.place c (mover_kind (move_case v)) v.permitted)))
    go (nay c) = rw c (omega arith)

two_bytes : (a b : ℕ) (s : List ℕ) → a < 256 → b < 256 → OfBytes s → OfBytes (a ∷ b ∷ s)
two_bytes a b s l m o zero = l
two_bytes a b s l m o (suc zero) = m
two_bytes a b s l m o (suc (suc j)) = o j

-- ---- any number of them

pub moves_trail : {t u : Tree} → Formed t → Moves t u → TrailTo t u
moves_trail w moves_none = record { trail = []; bytes = λ j. omega arith; follows = ends }
moves_trail {t} {u} w (moves_then {u = s} {a = a} v m) =
    let r = moves_trail (move_formed w v) m in
    let b : ℕ = byte_of t a v.place in
    let x = move_tells v in
    record {
      trail = a ∷ b ∷ r.trail;
      bytes = two_bytes a b r.trail (omega (arith, mover_below_64 w v)) (byte_small w v) r.bytes;
      follows = goes x.allowed (subst (λ (z : Tree). Follows z r.trail u) x.makes r.follows);
    }
