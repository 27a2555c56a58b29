-- What may still come at each state of the machine, in terms of the grammar (`Rest`), and the states that are reached (`Good`).
use Rattle.std.specs.Prelude.{◌≡◌, ◌⊎◌, List, [], ◌∷◌, ◌++◌, ℕ, zero, suc, ◌+◌, ◌*◌, ◌-◌, ◌≤◌, ◌<◌, length, drop}
use Rattle.std.proofs.Common.{arith}
use Rattle.std.proofs.Math.Bridge.{le_by_compare, IsLe}
use Rattle.table.specs.Base.{tab}
use Rattle.table.specs.Cell.{enter_kind, exit_kind, open_kind, release_kind, last_kind}
use Rattle.meaning.specs.Text.{decimal}
use Rattle.meaning.specs.Listing.{kind_text}
use Rattle.language.specs.declared.Field.{Field}
use Rattle.language.specs.declared.Field.TheVariants.{PlaceName, EnterKey, ExitKey, OpenKey, ActionNumber}
use Rattle.language.specs.declared.Control.{Control}
use Rattle.language.specs.declared.Control.TheVariants.{Begin, Bare, Part, Within, After, Space, Bar, Dot, LetterE, Spell, Before, Digits}
use Rattle.language.specs.declared.Event.{Event}
use Rattle.language.specs.declared.Moved.{Moved}
use Rattle.language.specs.declared.Moved.TheVariants.{To, Off}
use Rattle.language.specs.Grammar.{Text, Number, TypedAction, Keys, Contents}
use Rattle.language.specs.Grammar.{further_typed, keys_typed, after_bar, contents_typed}
use Rattle.language.specs.Machine.{least_of}
use Rattle.language.proofs.Ways
use Rattle.language.proofs.Ways.{Way}

-- ---- what may still come

-- d places are closed, with what stands beside each
pub data Closings : ℕ → Text → Type 0 where
  closings_none : Closings zero []
  closings_out : {d : ℕ} {s : Text} (c : Contents) → Closings d s → Closings (suc d) (93 ∷ (after_bar c (contents_typed c) ++ s))

-- after a part
pub record Beside (d : ℕ) (s : Text) : Type 0 where
  pub beside : Contents
  pub rest : Text
  pub same : s ≡ after_bar beside (contents_typed beside) ++ rest
  pub closings : Closings d rest

-- after `[`
pub record Inside (d : ℕ) (s : Text) : Type 0 where
  pub inside : Contents
  pub rest : Text
  pub same : s ≡ contents_typed inside ++ rest
  pub closings : Closings d rest

-- after an action's number
pub record Further (d : ℕ) (s : Text) : Type 0 where
  pub further : List TypedAction
  pub rest : Text
  pub same : s ≡ further_typed further ++ rest
  pub after : Beside d rest

-- after a name, with its keys and its bracket
pub record Keyed (d : ℕ) (s : Text) : Type 0 where
  pub keys : Keys
  pub rest : Text
  pub same : s ≡ keys_typed keys ++ (91 ∷ rest)
  pub holds : Inside (suc d) rest

-- after the keys: the bracket and what it holds
pub record Bracket (d : ℕ) (s : Text) : Type 0 where
  pub rest : Text
  pub same : s ≡ 91 ∷ rest
  pub holds : Inside (suc d) rest

-- after the second key
pub record LastKey (d : ℕ) (s : Text) : Type 0 where
  pub key : Number 0
  pub rest : Text
  pub same : s ≡ 47 ∷ (decimal key.value ++ rest)
  pub then : Bracket d rest

-- after the first key
pub record TwoKeys (d : ℕ) (s : Text) : Type 0 where
  pub key : Number 0
  pub rest : Text
  pub same : s ≡ 47 ∷ (decimal key.value ++ rest)
  pub then : LastKey d rest

-- after a number
unfoldable pub Next : Field → ℕ → Text → Type 0
Next PlaceName d s = Keyed d s
Next (EnterKey n) d s = TwoKeys d s
Next (ExitKey n e) d s = LastKey d s
Next (OpenKey n e q) d s = Bracket d s
Next (ActionNumber k) d s = Further d s

-- a number and what follows it
pub record Counted (f : Field) (d : ℕ) (s : Text) : Type 0 where
  pub number : Number (least_of f)
  pub rest : Text
  pub same : s ≡ decimal number.value ++ rest
  pub after : Next f d rest

-- a word and what follows it
pub record Worded (d : ℕ) (s : Text) : Type 0 where
  pub kind : ℕ
  pub from_one : 1 ≤ kind
  pub to_last : kind ≤ last_kind
  pub rest : Text
  pub same : s ≡ kind_text kind ++ rest
  pub after : Counted (ActionNumber kind) d rest

-- a part and what follows it
pub data Parts (d : ℕ) (s : Text) : Type 0 where
  an_agent : Worded d s → Parts d s
  a_place : Counted PlaceName d s → Parts d s

-- what may come at a state
unfoldable pub Rest : Control → ℕ → Text → Type 0
unfolding Next
Rest Begin d s = (s ≡ 48 ∷ []) ⊎ Parts d s
Rest Bare d s = s ≡ []
Rest Part d s = Parts d s
Rest Within d s = Inside d s
Rest After d s = Beside d s
Rest Space d s = (r : Text) × (s ≡ 124 ∷ (32 ∷ r)) × Parts d r
Rest Bar d s = (r : Text) × (s ≡ 32 ∷ r) × Parts d r
Rest Dot d s = Worded d s
Rest LetterE d s = Worded d (101 ∷ s)
Rest (Spell k i) d s = (r : Text) × (s ≡ drop i (kind_text k) ++ r) × Counted (ActionNumber k) d r
Rest (Before f) d s = Counted f d s
Rest (Digits f v) d s = Counted f d (decimal v ++ s)

-- the states that are reached: numbers in range, words not past their end
pub data Good : Control → Type 0 where
  good_begin : Good Begin
  good_bare : Good Bare
  good_part : Good Part
  good_within : Good Within
  good_after : Good After
  good_space : Good Space
  good_bar : Good Bar
  good_dot : Good Dot
  good_e : Good LetterE
  good_spell : {k i : ℕ} → 1 ≤ k → k ≤ last_kind → i < length (kind_text k) → Good (Spell k i)
  good_before : {f : Field} → Good (Before f)
  good_digits : {f : Field} {v : ℕ} → least_of f ≤ v → v ≤ 65535 → Good (Digits f v)

-- a byte that leads to such a state, or nowhere
pub data GoodMoved : Moved → Type 0 where
  good_to : {c : Control} {d : ℕ} {e : Event} → Good c → GoodMoved (To c d e)
  good_off : GoodMoved Off

-- the least value of a number is 0 or 1
pub least_one : (f : Field) → least_of f ≤ 1
unfolding least_of
least_one PlaceName = omega arith
least_one (EnterKey n) = omega arith
least_one (ExitKey n e) = omega arith
least_one (OpenKey n e q) = omega arith
least_one (ActionNumber k) = omega arith

-- whatever the byte
pub good_next : {c : Control} {d b : ℕ} {m : Moved} → Good c → Way c d b m → GoodMoved m
unfolding IsLe
good_next g Ways.stuck = good_off
good_next g (Ways.zero_floor e) = good_to good_bare
good_next g (Ways.name_digit {b = b} h e) = good_to (good_digits {f = PlaceName} {v = b - 48} (unfold least_of in omega (arith, e.low))
    (omega (arith, e.high)))
good_next g (Ways.letter_e w e) = good_to good_e
good_next g (Ways.letter_o w e) = good_to (good_spell {k = open_kind} {i = 1} (omega arith) (omega arith)
    (unfold kind_text in unfold tab in le_by_compare 2 (length (kind_text open_kind)) tt))
good_next g (Ways.letter_r w e) = good_to (good_spell {k = release_kind} {i = 1} (omega arith) (omega arith)
    (unfold kind_text in unfold tab in le_by_compare 2 (length (kind_text release_kind)) tt))
good_next g (Ways.empty_place e) = good_to good_after
good_next g (Ways.end_bar h e) = good_to good_space
good_next g (Ways.end_out h e) = good_to good_after
good_next g (Ways.the_bar e) = good_to good_bar
good_next g (Ways.bar_space e) = good_to good_part
good_next g (Ways.letter_n e) = good_to (good_spell {k = enter_kind} {i = 2} (omega arith) (omega arith)
    (unfold kind_text in unfold tab in le_by_compare 3 (length (kind_text enter_kind)) tt))
good_next g (Ways.letter_x e) = good_to (good_spell {k = exit_kind} {i = 2} (omega arith) (omega arith)
    (unfold kind_text in unfold tab in le_by_compare 3 (length (kind_text exit_kind)) tt))
good_next (good_spell a b l) (Ways.word_on {k = k} {i = i} e n) = good_to (good_spell {k = k} {i = i + 1} a b (omega arith))
good_next g (Ways.word_ends e n) = good_to good_before
good_next g (Ways.first_digit {f = f} {b = b} e) = good_to (good_digits {f = f} {v = b - 48} (omega (arith, e.low)) (omega (arith, e.high)))
good_next g (Ways.more_digits {f = f} {v = v} {b = b} l e h) = good_to (good_digits {f = f} {v = v * 10 + (b - 48)} (omega (arith, least_one f)) h)
good_next g (Ways.open_name e) = good_to good_within
good_next g (Ways.open_keys e) = good_to good_within
good_next g (Ways.slash_name e) = good_to good_before
good_next g (Ways.slash_enter e) = good_to good_before
good_next g (Ways.slash_exit e) = good_to good_before
good_next g (Ways.the_dot e) = good_to good_dot
