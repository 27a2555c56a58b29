-- What each branch of the code gives is the case of the definition that its tests pick.
use Rattle.std.specs.Prelude.{◌≡◌, refl, Bool, true, false, ℕ, zero, suc, ◌+◌, ◌*◌, ◌-◌, ◌≤◌, ◌<◌, length, get_or, Option, Some, None}
use Rattle.std.proofs.Math.Path.{sym, ap}
use Rattle.std.proofs.Common.{◌∙◌, arith}
use Rattle.std.proofs.Math.Bool.{cond}
use mathlib.Core.List.{List, [], ◌∷◌}
use borrow.Author.Tests.{eq-eqb, ne_eqb, lt-ltb, le-ltb, le-leb, lt-leb}
use Rattle.table.proofs.BaseLaws.{Told, yea, nay, told, clash}
use Rattle.language.specs.declared.Field.{Field}
use Rattle.language.specs.declared.Field.TheVariants.{PlaceName, EnterKey, ExitKey, OpenKey, ActionNumber}
use Rattle.language.specs.declared.Control.{Control}
use Rattle.language.specs.declared.Control.TheVariants.{Begin, Bare, Part, Within, After, Space, Bar, Dot, LetterE, Spell, Before, Digits}
use Rattle.language.specs.declared.Event.{Event}
use Rattle.language.specs.declared.Event.TheVariants.{Nothing, NewAgent, NewAction, NewPlace, EndPlace, LastAction}
use Rattle.language.specs.declared.Moved.{Moved}
use Rattle.language.specs.declared.Moved.TheVariants.{To, Off}
use Rattle.sets.specs.declared.Set.{Set}
use Rattle.sets.specs.Set.{member, removed}
use Rattle.order.specs.Row.{later}
use Rattle.table.specs.Cell.{put_order}
use Rattle.table.specs.declared.Cell.{Cell}
use Rattle.meaning.specs.Refusals.{too_many}
use Rattle.meaning.specs.Answers.{Accepted, Rejected}
use Rattle.meaning.specs.Listing.{kind_text}
use Rattle.language.specs.Machine.{is_digit, least_of, follow, continues, spelled, next}
use Rattle.table.specs.declared.Agent.{Agent}
use Rattle.table.specs.declared.Place.{Place}
use Rattle.parser.specs.declared.Marks.{Marks}
use Rattle.parser.specs.Site.{longer, answered_with, agent_written, agent_after, place_after, gives_agent, gives_place, last_number, last_of}

-- ---- an arm for what is none of the events, fields and states before it

-- the latest agent
pub written_latest : (x : Marks) (e : Event) (n : ℕ) → (e ≡ NewAgent → ⊥) → n ≡ x.agents - 1 → n ≡ agent_written x e
unfolding agent_written
written_latest x Nothing n h q = q
written_latest x NewAgent n h q = absurd (h refl)
written_latest x (NewAction k v) n h q = q
written_latest x (NewPlace a b c o) n h q = q
written_latest x EndPlace n h q = q
written_latest x (LastAction k v) n h q = q

pub agent_kept : (g : Agent) (x : Marks) (e : Event) → (e ≡ NewAgent → ⊥) → ((k v : ℕ) → e ≡ NewAction k v → ⊥) → ((k v : ℕ) → e ≡ LastAction k v → ⊥)
    → g ≡ agent_after g x e
unfolding agent_after
agent_kept g x Nothing a b c = refl
agent_kept g x NewAgent a b c = absurd (a refl)
agent_kept g x (NewAction k v) a b c = absurd (b k v refl)
agent_kept g x (NewPlace n e q o) a b c = refl
agent_kept g x EndPlace a b c = refl
agent_kept g x (LastAction k v) a b c = absurd (c k v refl)

pub place_kept : (p : Place) (x : Marks) (e : Event) → ((n a b o : ℕ) → e ≡ NewPlace n a b o → ⊥) → p ≡ place_after p x e
unfolding place_after
place_kept p x Nothing h = refl
place_kept p x NewAgent h = refl
place_kept p x (NewAction k v) h = refl
place_kept p x (NewPlace n a b o) h = absurd (h n a b o refl)
place_kept p x EndPlace h = refl
place_kept p x (LastAction k v) h = refl

pub no_agent_given : (x : Marks) (e : Event) → (e ≡ NewAgent → ⊥) → false ≡ gives_agent x e
unfolding gives_agent
no_agent_given x Nothing h = refl
no_agent_given x NewAgent h = absurd (h refl)
no_agent_given x (NewAction k v) h = refl
no_agent_given x (NewPlace n a b o) h = refl
no_agent_given x EndPlace h = refl
no_agent_given x (LastAction k v) h = refl

pub no_place_given : (x : Marks) (e : Event) → ((n a b o : ℕ) → e ≡ NewPlace n a b o → ⊥) → false ≡ gives_place x e
unfolding gives_place
no_place_given x Nothing h = refl
no_place_given x NewAgent h = refl
no_place_given x (NewAction k v) h = refl
no_place_given x (NewPlace n a b o) h = absurd (h n a b o refl)
no_place_given x EndPlace h = refl
no_place_given x (LastAction k v) h = refl

-- no number but an action's ends a text
pub no_last_number : (f : Field) (v d : ℕ) → ((k : ℕ) → f ≡ ActionNumber k → ⊥) → Off ≡ last_number f v d
unfolding last_number
no_last_number PlaceName v d h = refl
no_last_number (EnterKey n) v d h = refl
no_last_number (ExitKey n e) v d h = refl
no_last_number (OpenKey n e q) v d h = refl
no_last_number (ActionNumber k) v d h = absurd (h k refl)

pub no_last : (c : Control) (d : ℕ) → (c ≡ Bare → ⊥) → (c ≡ After → ⊥) → ((f : Field) (v : ℕ) → c ≡ Digits f v → ⊥) → Off ≡ last_of c d
unfolding last_of
no_last Begin d a b e = refl
no_last Bare d a b e = absurd (a refl)
no_last Part d a b e = refl
no_last Within d a b e = refl
no_last After d a b e = absurd (b refl)
no_last Space d a b e = refl
no_last Bar d a b e = refl
no_last Dot d a b e = refl
no_last LetterE d a b e = refl
no_last (Spell k i) d a b e = refl
no_last (Before f) d a b e = refl
no_last (Digits f v) d a b e = absurd (e f v refl)

-- ---- a word, of which t is the next byte

module _ (k i d b t : ℕ) (e : t ≡ get_or (kind_text k) i 0) where
  -- a byte of the word before its last
  pub spelled_on : (last : ℕ) → last + 1 ≡ length (kind_text k) → b ≡ t → i < last → To (Spell k (i + 1)) d Nothing ≡ spelled k i d b
  unfolding spelled
  spelled_on last q f h = rw (eq-eqb b (get_or (kind_text k) i 0) (f ∙ e), lt-ltb (i + 1) (length (kind_text k)) (omega arith))

  -- its last byte
  pub spelled_ends : (last : ℕ) → last + 1 ≡ length (kind_text k) → b ≡ t → last ≤ i → To (Before (ActionNumber k)) d Nothing ≡ spelled k i d b
  unfolding spelled
  spelled_ends last q f h = rw (eq-eqb b (get_or (kind_text k) i 0) (f ∙ e), le-ltb (i + 1) (length (kind_text k)) (omega arith))

  -- another byte
  pub spelled_off : (b ≡ t → ⊥) → Off ≡ spelled k i d b
  unfolding spelled
  spelled_off f = rw (ne_eqb b (get_or (kind_text k) i 0) (λ q. f (q ∙ sym e)))

-- ---- digits, as t tells of the byte

-- the number that was found, or else d
get_some : ℕ → Option ℕ → ℕ
get_some d (Some n) = n
get_some d None = d

is_found : Option ℕ → Bool
is_found (Some n) = true
is_found None = false

-- nothing is not something
clash_option : {A : Type 0} {n : ℕ} → None ≡ Some n → A
unfolding is_found
clash_option e = clash (ap is_found e) refl

module _ (v b : ℕ) (t : Bool) (e : t ≡ is_digit 0 b) (l : 1 ≤ v) where
  -- the longer number has 16 bits
  pub longer_some : (n : ℕ) → t ≡ true → n ≡ v * 10 + (b - 48) → n ≤ 65535 → Some n ≡ longer v b
  unfolding longer continues
  longer_some n h q k = rw (le-leb 1 v l, sym e ∙ h, le-leb (v * 10 + (b - 48)) 65535 (omega arith)) (ap Some q)

  -- it has more
  pub longer_large : (n : ℕ) → t ≡ true → n ≡ v * 10 + (b - 48) → 65535 < n → None ≡ longer v b
  unfolding longer continues
  longer_large n h q k = rw (le-leb 1 v l, sym e ∙ h, lt-leb (v * 10 + (b - 48)) 65535 (omega arith))

  -- no digit
  pub longer_none : t ≡ false → None ≡ longer v b
  unfolding longer continues
  longer_none h = rw (le-leb 1 v l, sym e ∙ h)

-- after 0 no digit follows
pub longer_zero : (v b : ℕ) → v < 1 → None ≡ longer v b
unfolding longer continues
longer_zero v b l = rw (lt-leb 1 v l)

module _ (f : Field) (v d b : ℕ) where
  -- the number has ended
  pub next_follow : (m : Moved) → None ≡ longer v b → m ≡ follow f v d b → m ≡ next (Digits f v) d b
  unfolding next longer
  next_follow m e q = go (told (continues v b))
    where
      go : Told (continues v b) → m ≡ cond (continues v b) (To (Digits f (v * 10 + (b - 48))) d Nothing) (follow f v d b)
      go (yea t) = clash_option (e ∙ ap (λ z. cond z (Some (v * 10 + (b - 48))) None) t)
      go (nay t) = rw t q

  -- it goes on
  pub next_digit : (n : ℕ) → Some n ≡ longer v b → To (Digits f n) d Nothing ≡ next (Digits f v) d b
  unfolding next longer get_some
  next_digit n e = go (told (continues v b))
    where
      go : Told (continues v b) → To (Digits f n) d Nothing ≡ cond (continues v b) (To (Digits f (v * 10 + (b - 48))) d Nothing) (follow f v d b)
      go (yea t) = rw t (ap (λ z. To (Digits f (get_some n z)) d Nothing) (e ∙ ap (λ z. cond z (Some (v * 10 + (b - 48))) None) t))
      go (nay t) = clash_option (sym (e ∙ ap (λ z. cond z (Some (v * 10 + (b - 48))) None) t))

module _ (f : Field) (d b : ℕ) (t : Bool) (l : ℕ) (k : l ≡ least_of f) (e : t ≡ is_digit l b) where
  -- a number begins
  pub before_digit : (w : ℕ) → w ≡ b - 48 → t ≡ true → To (Digits f w) d Nothing ≡ next (Before f) d b
  unfolding next
  before_digit w q h = rw (← k, sym e ∙ h, q)

-- ---- the answer

module _ (t b : Cell) (over : Bool) (n : ℕ) where
  -- too many of something
  pub answered_over : over ≡ true → record { cell = t; verdict = Rejected too_many n } ≡ answered_with t b over n
  unfolding answered_with
  answered_over e = rw e

  -- the row is made of the places in use but the floor
  pub answered_cell : (u : Set) (row : List ℕ) → over ≡ false → u ≡ removed b.used 0 → row ≡ later (member u) b.order
      → record { cell = put_order b row; verdict = Accepted } ≡ answered_with t b over n
  unfolding answered_with
  answered_cell u row e f g = rw e (ap (λ (r : List ℕ). record { cell = put_order b r; verdict = Accepted })
      (g ∙ ap (λ (s : Set). later (member s) b.order) f))
