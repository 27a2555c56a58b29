-- A machine that reads the listing's language byte by byte (document 02, W8): what was read last, how many places are open, and what is
-- built so far. The states and what a byte does are values that code and written meaning share (`src/lib.rt`).
use Rattle.std.specs.Prelude.{ℕ, zero, suc, ◌+◌, ◌*◌, ◌-◌, Bool, true, false, ◌&&◌, ltb, leb, eqb, length, get_or}
use Rattle.std.proofs.Math.Bool.{cond}
use mathlib.Core.List.{[], ◌∷◌}
use Rattle.table.specs.Cell.{enter_kind, exit_kind, open_kind, release_kind}
use Rattle.table.specs.declared.Name.{Name}
use Rattle.meaning.specs.Listing.{kind_text}
use Rattle.language.specs.declared.Field.{Field}
use Rattle.language.specs.declared.Field.TheVariants.{PlaceName, EnterKey, ExitKey, OpenKey, ActionNumber}
use Rattle.language.specs.declared.Control.{Control}
use Rattle.language.specs.declared.Control.TheVariants.{Begin, Bare, Part, Within, After, Space, Bar, Dot, LetterE, Spell, Before, Digits}
use Rattle.language.specs.declared.Event.{Event}
use Rattle.language.specs.declared.Event.TheVariants.{Nothing, NewAgent, NewAction, NewPlace, EndPlace, LastAction}
use Rattle.language.specs.declared.Moved.{Moved}
use Rattle.language.specs.declared.Moved.TheVariants.{To, Off}
use Rattle.language.specs.Grammar.{Text, with_keys}

-- ---- one byte (48 to 57 `0` to `9`, 32 a space, 46 `.`, 47 `/`, 91 `[`, 93 `]`, 124 the bar)

-- a byte from the digit `least` to `9`
abbrev pub is_digit : ℕ → ℕ → Bool
is_digit least b = leb (48 + least) b && leb b 57

-- the word of an action begins: `e`, `o` or `r`
unfoldable pub begin_word : ℕ → Event → ℕ → Moved
begin_word d e b =
    cond (eqb b 101) (To LetterE d e)
    (cond (eqb b 111) (To (Spell open_kind 1) d e)
    (cond (eqb b 114) (To (Spell release_kind 1) d e) Off))

-- a part begins: a place's name, or an agent's first word
unfoldable pub begin_part : ℕ → ℕ → Moved
unfolding begin_word
begin_part d b = cond (is_digit 1 b) (To (Digits PlaceName (b - 48)) d Nothing) (begin_word d NewAgent b)

-- `]`, where a place is open
unfoldable pub closed : ℕ → Event → ℕ → Moved
closed zero e b = Off
closed (suc d) e b = cond (eqb b 93) (To After d e) Off

-- a part has ended: the space before a bar, or `]`
unfoldable pub ended : ℕ → Event → Event → ℕ → Moved
unfolding closed
ended d here out b = cond (eqb b 32) (To Space d here) (closed d out b)

-- the least value of a number: "names and action numbers 1 to 65,535, keys 0 to 65,535"
unfoldable pub least_of : Field → ℕ
least_of PlaceName = 1
least_of (EnterKey n) = 0
least_of (ExitKey n e) = 0
least_of (OpenKey n e x) = 0
least_of (ActionNumber k) = 1

-- what follows a number: after a name `[` or the first key, after a key the next, after three `[`, after an action's number a full stop or
-- the end of the part
unfoldable pub follow : Field → ℕ → ℕ → ℕ → Moved
unfolding ended
follow PlaceName v d b = cond (eqb b 91) (To Within (suc d) (NewPlace v v v v)) (cond (eqb b 47) (To (Before (EnterKey v)) d Nothing) Off)
follow (EnterKey n) v d b = cond (eqb b 47) (To (Before (ExitKey n v)) d Nothing) Off
follow (ExitKey n e) v d b = cond (eqb b 47) (To (Before (OpenKey n e v)) d Nothing) Off
follow (OpenKey n e x) v d b = cond (eqb b 91) (To Within (suc d) (NewPlace n e x v)) Off
follow (ActionNumber k) v d b = cond (eqb b 46) (To Dot d (NewAction k v)) (ended d (NewAction k v) (LastAction k v) b)

-- a digit that continues the number v: "without leading zeros", so none after 0, and none beyond 65,535
unfoldable pub continues : ℕ → ℕ → Bool
continues v b = leb 1 v && (is_digit 0 b && leb (v * 10 + (b - 48)) 65535)

-- one byte more of the word of kind k, of which i are read
unfoldable pub spelled : ℕ → ℕ → ℕ → ℕ → Moved
unfolding kind_text
spelled k i d b =
    cond (eqb b (get_or (kind_text k) i 0))
    (cond (ltb (i + 1) (length (kind_text k))) (To (Spell k (i + 1)) d Nothing) (To (Before (ActionNumber k)) d Nothing))
    Off

-- what a byte does, at each state and with d places open: "`0` for a bare floor only, nothing after the end"
unfoldable pub next : Control → ℕ → ℕ → Moved
unfolding begin_part begin_word closed ended least_of follow continues spelled
next Begin d b = cond (eqb b 48) (To Bare d Nothing) (begin_part d b)
next Bare d b = Off
next Part d b = begin_part d b
next Within d b = cond (eqb b 93) (closed d EndPlace b) (begin_part d b)
next After d b = ended d Nothing EndPlace b
next Space d b = cond (eqb b 124) (To Bar d Nothing) Off
next Bar d b = cond (eqb b 32) (To Part d Nothing) Off
next Dot d b = begin_word d Nothing b
next LetterE d b = cond (eqb b 110) (To (Spell enter_kind 2) d Nothing) (cond (eqb b 120) (To (Spell exit_kind 2) d Nothing) Off)
next (Spell k i) d b = spelled k i d b
next (Before f) d b = cond (is_digit (least_of f) b) (To (Digits f (b - 48)) d Nothing) Off
next (Digits f v) d b = cond (continues v b) (To (Digits f (v * 10 + (b - 48))) d Nothing) (follow f v d b)

-- ---- a whole text

-- whatever is built: how it changes with each event
pub record Builder (B : Type 0) : Type 0 where
  pub new_agent : B → B
  pub new_action : ℕ → ℕ → B → B
  pub new_place : Name → B → B
  pub end_place : B → B

-- what is built after an event
unfoldable pub apply : {B : Type 0} → Builder B → Event → B → B
apply o Nothing x = x
apply o NewAgent x = o.new_agent x
apply o (NewAction k v) x = o.new_action k v x
apply o (NewPlace n e p q) x = o.new_place (with_keys n e p q) x
apply o EndPlace x = o.end_place x
apply o (LastAction k v) x = o.end_place (o.new_action k v x)

-- the machine: at a state, with so many places open and so much built; or off the language
pub data Run (B : Type 0) : Type 0 where
  at : Control → ℕ → B → Run B
  off : Run B

-- it has not left the language
unfoldable pub is_on : {B : Type 0} → Run B → Bool
is_on (at c d x) = true
is_on off = false

-- at the end of a text: what is built, or nothing, for the text stops early or is outside the language
pub data End (B : Type 0) : Type 0 where
  done : B → End B
  short : End B

module _ {B : Type 0} (o : Builder B) where
  -- the machine after what a byte does
  unfoldable pub land : Moved → B → Run B
  unfolding apply
  land (To c d e) x = at c d (apply o e x)
  land Off x = off

  -- the machine after a byte
  unfoldable pub step : Run B → ℕ → Run B
  unfolding land next
  step (at c d x) b = land (next c d b) x
  step off b = off

  -- and after all bytes of a text
  unfoldable pub run : Run B → Text → Run B
  unfolding step
  run r [] = r
  run r (b ∷ s) = run (step r b) s

  -- a text may end after `0`, after a place or after an action, with no place open
  unfoldable pub end_at : Control → ℕ → B → End B
  end_at Begin d x = short
  end_at Bare d x = done x
  end_at Part d x = short
  end_at Within d x = short
  end_at After zero x = done x
  end_at After (suc d) x = short
  end_at Space d x = short
  end_at Bar d x = short
  end_at Dot d x = short
  end_at LetterE d x = short
  end_at (Spell k i) d x = short
  end_at (Before f) d x = short
  end_at (Digits PlaceName v) d x = short
  end_at (Digits (EnterKey n) v) d x = short
  end_at (Digits (ExitKey n e) v) d x = short
  end_at (Digits (OpenKey n e q) v) d x = short
  end_at (Digits (ActionNumber k) v) zero x = done (o.new_action k v x)
  end_at (Digits (ActionNumber k) v) (suc d) x = short

  -- off the language nothing is built
  unfoldable pub end : Run B → End B
  unfolding end_at
  end (at c d x) = end_at c d x
  end off = short

  -- the whole text read from a state on
  unfoldable pub reads : Run B → Text → End B
  unfolding run end
  reads r s = end (run r s)

  -- how many bytes are taken before the one that leaves the language: all where none does
  unfoldable pub taken : Run B → Text → ℕ
  unfolding step is_on
  taken r [] = 0
  taken r (b ∷ s) = cond (is_on (step r b)) (suc (taken (step r b) s)) 0
