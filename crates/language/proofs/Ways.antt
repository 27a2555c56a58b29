-- What a byte can do, one way for each transition of the machine, with its conditions as equations.
-- Every later proof about single bytes goes by these ways.
use Rattle.std.specs.Prelude.{◌≡◌, true, ◌&&◌, cond, ℕ, zero, suc, ◌+◌, ◌*◌, ◌-◌, ◌≤◌, ◌<◌, ltb, leb, eqb, length, get_or}
use Rattle.std.proofs.Common.{ap, eqb-true, ltb-true, ltb-false, leb-true}
use Rattle.table.proofs.BaseLaws.{Told, yea, nay, told, and_left, and_right}
use Rattle.table.specs.Cell.{enter_kind, exit_kind, open_kind, release_kind}
use Rattle.meaning.specs.Listing.{kind_text}
use Rattle.language.specs.declared.Field.{Field}
use Rattle.language.specs.declared.Field.TheVariants.{PlaceName, EnterKey, ExitKey, OpenKey, ActionNumber}
use Rattle.language.specs.declared.Control.{Control}
use Rattle.language.specs.declared.Control.TheVariants.{Begin, Bare, Part, Within, After, Space, Bar, Dot, LetterE, Spell, Before, Digits}
use Rattle.language.specs.declared.Event.{Event}
use Rattle.language.specs.declared.Event.TheVariants.{Nothing, NewAgent, NewAction, NewPlace, EndPlace, LastAction}
use Rattle.language.specs.declared.Moved.{Moved}
use Rattle.language.specs.declared.Moved.TheVariants.{To, Off}
use Rattle.language.specs.Machine.{is_digit, begin_word, begin_part, closed, ended, least_of, follow, continues, spelled, next}

-- states where a part may begin
pub data Opening : Control → Type 0 where
  opening_begin : Opening Begin
  opening_part : Opening Part
  opening_within : Opening Within

-- states where a word may begin, and what that adds
pub data Wording : Control → Event → Type 0 where
  wording_part : {c : Control} → Opening c → Wording c NewAgent
  wording_dot : Wording Dot Nothing

-- states where a part has ended, and what a bar or `]` then adds
pub data Ending : Control → Event → Event → Type 0 where
  ending_place : Ending After Nothing EndPlace
  ending_action : {k v : ℕ} → Ending (Digits (ActionNumber k) v) (NewAction k v) (LastAction k v)

-- a byte that stands for a digit from `least` on
pub record Digit (least b : ℕ) : Type 0 where
  pub low : 48 + least ≤ b
  pub high : b ≤ 57

-- what a byte does at a state: `stuck` where it leads nowhere
pub data Way : Control → ℕ → ℕ → Moved → Type 0 where
  stuck : {c : Control} {d b : ℕ} → Way c d b Off
  zero_floor : {d b : ℕ} → b ≡ 48 → Way Begin d b (To Bare d Nothing)
  name_digit : {c : Control} {d b : ℕ} → Opening c → Digit 1 b → Way c d b (To (Digits PlaceName (b - 48)) d Nothing)
  letter_e : {c : Control} {e : Event} {d b : ℕ} → Wording c e → b ≡ 101 → Way c d b (To LetterE d e)
  letter_o : {c : Control} {e : Event} {d b : ℕ} → Wording c e → b ≡ 111 → Way c d b (To (Spell open_kind 1) d e)
  letter_r : {c : Control} {e : Event} {d b : ℕ} → Wording c e → b ≡ 114 → Way c d b (To (Spell release_kind 1) d e)
  empty_place : {d b : ℕ} → b ≡ 93 → Way Within (suc d) b (To After d EndPlace)
  end_bar : {c : Control} {e f : Event} {d b : ℕ} → Ending c e f → b ≡ 32 → Way c d b (To Space d e)
  end_out : {c : Control} {e f : Event} {d b : ℕ} → Ending c e f → b ≡ 93 → Way c (suc d) b (To After d f)
  the_bar : {d b : ℕ} → b ≡ 124 → Way Space d b (To Bar d Nothing)
  bar_space : {d b : ℕ} → b ≡ 32 → Way Bar d b (To Part d Nothing)
  letter_n : {d b : ℕ} → b ≡ 110 → Way LetterE d b (To (Spell enter_kind 2) d Nothing)
  letter_x : {d b : ℕ} → b ≡ 120 → Way LetterE d b (To (Spell exit_kind 2) d Nothing)
  word_on : {k i d b : ℕ} → b ≡ get_or (kind_text k) i 0 → i + 1 < length (kind_text k) → Way (Spell k i) d b (To (Spell k (i + 1)) d Nothing)
  word_ends : {k i d b : ℕ} → b ≡ get_or (kind_text k) i 0 → length (kind_text k) ≤ i + 1 → Way (Spell k i) d b (To (Before (ActionNumber k)) d Nothing)
  first_digit : {f : Field} {d b : ℕ} → Digit (least_of f) b → Way (Before f) d b (To (Digits f (b - 48)) d Nothing)
  more_digits : {f : Field} {v d b : ℕ} → 1 ≤ v → Digit 0 b → v * 10 + (b - 48) ≤ 65535
      → Way (Digits f v) d b (To (Digits f (v * 10 + (b - 48))) d Nothing)
  open_name : {v d b : ℕ} → b ≡ 91 → Way (Digits PlaceName v) d b (To Within (suc d) (NewPlace v v v v))
  open_keys : {n e q v d b : ℕ} → b ≡ 91 → Way (Digits (OpenKey n e q) v) d b (To Within (suc d) (NewPlace n e q v))
  slash_name : {v d b : ℕ} → b ≡ 47 → Way (Digits PlaceName v) d b (To (Before (EnterKey v)) d Nothing)
  slash_enter : {n v d b : ℕ} → b ≡ 47 → Way (Digits (EnterKey n) v) d b (To (Before (ExitKey n v)) d Nothing)
  slash_exit : {n e v d b : ℕ} → b ≡ 47 → Way (Digits (ExitKey n e) v) d b (To (Before (OpenKey n e v)) d Nothing)
  the_dot : {k v d b : ℕ} → b ≡ 46 → Way (Digits (ActionNumber k) v) d b (To Dot d (NewAction k v))

-- the test of a digit
digit_of : (least b : ℕ) → is_digit least b ≡ true → Digit least b
digit_of least b e = record { low = leb-true (48 + least) b (and_left _ _ e); high = leb-true b 57 (and_right (leb (48 + least) b) _ e) }

-- one test: the byte is this one, or the rest decides
one_of : {c : Control} {d : ℕ} (b w : ℕ) (m n : Moved) → (b ≡ w → Way c d b m) → Way c d b n → Way c d b (cond (eqb b w) m n)
one_of {c} {d} b w m n h k = go (told (eqb b w))
  where
    go : Told (eqb b w) → Way c d b (cond (eqb b w) m n)
    go (yea e) = rw e (h (eqb-true b w e))
    go (nay e) = rw e k

-- where a word may begin
way_word : {c : Control} {e : Event} → Wording c e → (d b : ℕ) → Way c d b (begin_word d e b)
unfolding begin_word
way_word w d b = one_of b 101 _ _ (letter_e w) (one_of b 111 _ _ (letter_o w) (one_of b 114 _ _ (letter_r w) stuck))

-- where a part may begin
way_part : {c : Control} → Opening c → (d b : ℕ) → Way c d b (begin_part d b)
unfolding begin_part
way_part {c} h d b = go (told (is_digit 1 b))
  where
    go : Told (is_digit 1 b) → Way c d b (cond (is_digit 1 b) (To (Digits PlaceName (b - 48)) d Nothing) (begin_word d NewAgent b))
    go (yea e) = rw e (name_digit h (digit_of 1 b e))
    go (nay e) = rw e (way_word (wording_part h) d b)

-- where a part has ended
way_ended : {c : Control} {e f : Event} → Ending c e f → (d b : ℕ) → Way c d b (ended d e f b)
unfolding ended closed
way_ended h zero b = one_of b 32 _ _ (end_bar h) stuck
way_ended h (suc d) b = one_of b 32 _ _ (end_bar h) (one_of b 93 _ _ (end_out h) stuck)

-- after `[`
way_within : (d b : ℕ) → Way Within d b (next Within d b)
unfolding next closed
way_within zero b = one_of b 93 _ _ (λ e. stuck) (way_part opening_within zero b)
way_within (suc d) b = one_of b 93 _ _ (λ e. rw (eq b e) (empty_place e)) (way_part opening_within (suc d) b)
  where
    eq : (b : ℕ) → b ≡ 93 → eqb b 93 ≡ true
    eq b e = ap (λ (z : ℕ). eqb z 93) e

-- within a word
way_spelled : (k i d b : ℕ) → Way (Spell k i) d b (spelled k i d b)
unfolding spelled
way_spelled k i d b = one_of b (get_or (kind_text k) i 0) _ _ (λ e. go e (told (ltb (i + 1) (length (kind_text k))))) stuck
  where
    go : b ≡ get_or (kind_text k) i 0 → Told (ltb (i + 1) (length (kind_text k)))
        → Way (Spell k i) d b (cond (ltb (i + 1) (length (kind_text k))) (To (Spell k (i + 1)) d Nothing) (To (Before (ActionNumber k)) d Nothing))
    go e (yea t) = rw t (word_on e (ltb-true (i + 1) (length (kind_text k)) t))
    go e (nay t) = rw t (word_ends e (ltb-false (i + 1) (length (kind_text k)) t))

-- after a number
way_follow : (f : Field) (v d b : ℕ) → Way (Digits f v) d b (follow f v d b)
unfolding follow
way_follow PlaceName v d b = one_of b 91 _ _ open_name (one_of b 47 _ _ slash_name stuck)
way_follow (EnterKey n) v d b = one_of b 47 _ _ slash_enter stuck
way_follow (ExitKey n e) v d b = one_of b 47 _ _ slash_exit stuck
way_follow (OpenKey n e q) v d b = one_of b 91 _ _ open_keys stuck
way_follow (ActionNumber k) v d b = one_of b 46 _ _ the_dot (way_ended ending_action d b)

-- within a number
way_digits : (f : Field) (v d b : ℕ) → Way (Digits f v) d b (next (Digits f v) d b)
unfolding next continues
way_digits f v d b = go (told (leb 1 v && (is_digit 0 b && leb (v * 10 + (b - 48)) 65535)))
  where
    go : Told (leb 1 v && (is_digit 0 b && leb (v * 10 + (b - 48)) 65535))
        → Way (Digits f v) d b (cond (leb 1 v && (is_digit 0 b && leb (v * 10 + (b - 48)) 65535)) (To (Digits f (v * 10 + (b - 48))) d Nothing)
        (follow f v d b))
    go (yea e) =
        let r = and_right (leb 1 v) _ e in
        rw e (more_digits (leb-true 1 v (and_left (leb 1 v) _ e)) (digit_of 0 b (and_left (is_digit 0 b) _ r))
        (leb-true (v * 10 + (b - 48)) 65535 (and_right (is_digit 0 b) _ r)))
    go (nay e) = rw e (way_follow f v d b)

-- before one
way_before : (f : Field) (d b : ℕ) → Way (Before f) d b (next (Before f) d b)
unfolding next
way_before f d b = go (told (is_digit (least_of f) b))
  where
    go : Told (is_digit (least_of f) b) → Way (Before f) d b (cond (is_digit (least_of f) b) (To (Digits f (b - 48)) d Nothing) Off)
    go (yea e) = rw e (first_digit (digit_of (least_of f) b e))
    go (nay e) = rw e stuck

-- every byte goes one of these ways
pub way : (c : Control) (d b : ℕ) → Way c d b (next c d b)
unfolding next
way Begin d b = one_of b 48 _ _ zero_floor (way_part opening_begin d b)
way Bare d b = stuck
way Part d b = way_part opening_part d b
way Within d b = way_within d b
way After d b = way_ended ending_place d b
way Space d b = one_of b 124 _ _ the_bar stuck
way Bar d b = one_of b 32 _ _ bar_space stuck
way Dot d b = way_word wording_dot d b
way LetterE d b = one_of b 110 _ _ letter_n (one_of b 120 _ _ letter_x stuck)
way (Spell k i) d b = way_spelled k i d b
way (Before f) d b = way_before f d b
way (Digits f v) d b = way_digits f v d b
