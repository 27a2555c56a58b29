-- From every state that is reached a short text leads to the end of a text of the language.
use Rattle.std.specs.Prelude.{◌≡◌, [], ◌∷◌, ◌++◌}
use Rattle.std.proofs.Math.Path.{refl, ap}
use Rattle.std.proofs.Common.{◌∙◌, add-one, drop-cons}
use Prim.Native.Nat.{ℕ, zero, suc, ◌+◌, ◌-◌, ◌≤◌, ◌<◌}
use native.Mathlib.Omega.{arith}
use Rattle.std.proofs.Math.ListN.{length, get_or, drop}
use Rattle.std.proofs.Math.Seq.{drop-length}
use borrow.Author.Tests.{eq-eqb, lt-ltb, le-ltb}
use Rattle.table.specs.Base.{tab}
use Rattle.table.specs.Cell.{enter_kind, open_kind}
use Rattle.meaning.specs.Listing.{kind_text}
use Rattle.language.specs.declared.Field.{Field}
use Rattle.language.specs.declared.Field.TheVariants.{PlaceName, EnterKey, ExitKey, OpenKey, ActionNumber}
use Rattle.language.specs.declared.Control.{Control}
use Rattle.language.specs.declared.Control.TheVariants.{Begin, Bare, Part, Within, After, Space, Bar, Dot, LetterE, Spell, Before, Digits}
use Rattle.language.specs.Grammar.{Text}
use Rattle.language.specs.Machine.{least_of, spelled, begin_part, begin_word, next, Builder, apply, Run, at, done, land, step, run, end_at, end}
use Rattle.language.specs.Machine.{reads}
use Rattle.language.proofs.PieceLaws.{reads_piece, number_ends, follows_end, follows_out, before_step}
use Rattle.language.proofs.Written.{slash_enter, slash_exit, open_name, open_keys, out_run, empty_run}
use Rattle.language.proofs.Coming.{Good, good_begin, good_bare, good_part, good_within, good_after, good_space, good_bar, good_dot, good_e}
use Rattle.language.proofs.Coming.{good_spell, good_before, good_digits}
use Rattle.language.proofs.Coming.{least_one}

-- ---- a text that completes what has been read

-- `]` for each open place
closers : ℕ → Text
closers zero = []
closers (suc d) = 93 ∷ closers d

-- after a number: the keys that are still due, the bracket, and the ends
after_number : Field → ℕ → Text
unfolding closers
after_number PlaceName d = 91 ∷ (93 ∷ closers d)
after_number (EnterKey n) d = 47 ∷ (49 ∷ (47 ∷ (49 ∷ (91 ∷ (93 ∷ closers d)))))
after_number (ExitKey n e) d = 47 ∷ (49 ∷ (91 ∷ (93 ∷ closers d)))
after_number (OpenKey n e q) d = 91 ∷ (93 ∷ closers d)
after_number (ActionNumber k) d = closers d

-- an empty place, and the ends
a_place : ℕ → Text
unfolding closers
a_place d = 49 ∷ (91 ∷ (93 ∷ closers d))

-- at each state
unfoldable pub completion : Control → ℕ → Text
unfolding closers after_number a_place kind_text
completion Begin d = 48 ∷ []
completion Bare d = []
completion Part d = a_place d
completion Within d = a_place d
completion After d = closers d
completion Space d = 124 ∷ (32 ∷ a_place d)
completion Bar d = 32 ∷ a_place d
completion Dot d = kind_text open_kind ++ (49 ∷ closers d)
completion LetterE d = 110 ∷ (drop 2 (kind_text enter_kind) ++ (49 ∷ closers d))
completion (Spell k i) d = drop i (kind_text k) ++ (49 ∷ closers d)
completion (Before f) d = 49 ∷ after_number f d
completion (Digits f v) d = after_number f d

module _ {B : Type 0} (o : Builder B) where
  -- the text is read to its end
  pub record Finishes (r : Run B) (s : Text) : Type 0 where
    pub built : B
    pub ends : reads o r s ≡ done built

  -- what reads alike finishes alike
  by : {r q : Run B} {s t : Text} → reads o r s ≡ reads o q t → Finishes q t → Finishes r s
  by e f = record { built = f.built; ends = e ∙ f.ends }

  -- a piece, and then the rest
  piece : (r q : Run B) (s t : Text) → run o r s ≡ q → Finishes q t → Finishes r (s ++ t)
  piece r q s t e f = by (reads_piece o r q s t e) f

  -- after a place
  after_closers : (d : ℕ) (x : B) → Finishes (at After d x) (closers d)
  unfolding closers
  after_closers zero x = record { built = x; ends = (unfold reads in unfold run in unfold end in unfold end_at in refl) }
  after_closers (suc d) x = piece (at After (suc d) x) (at After d (o.end_place x)) (93 ∷ []) (closers d) (out_run o d x)
      (after_closers d (o.end_place x))

  -- after `[`
  within_closers : (d : ℕ) (x : B) → Finishes (at Within (suc d) x) (93 ∷ closers d)
  within_closers d x = piece (at Within (suc d) x) (at After d (o.end_place x)) (93 ∷ []) (closers d) (empty_run o d x)
      (after_closers d (o.end_place x))

  -- `1`, where a number is due
  first_one : (f : Field) (d : ℕ) (x : B) → least_of f ≤ 1 → run o (at (Before f) d x) (49 ∷ []) ≡ at (Digits f 1) d x
  unfolding run
  first_one f d x l = before_step o f d x 1 l (omega arith)

  -- after a number
  number_closers : (f : Field) (v d : ℕ) (x : B) → Finishes (at (Digits f v) d x) (after_number f d)
  unfolding after_number
  number_closers PlaceName v d x = piece (at (Digits PlaceName v) d x) _ (91 ∷ []) (93 ∷ closers d) (open_name o v d x) (within_closers d _)
  number_closers (EnterKey n) v d x =
      piece (at (Digits (EnterKey n) v) d x) _ (47 ∷ []) _ (slash_enter o n v d x)
      (piece (at (Before (ExitKey n v)) d x) _ (49 ∷ []) _ (first_one (ExitKey n v) d x (unfold least_of in omega arith))
      (piece (at (Digits (ExitKey n v) 1) d x) _ (47 ∷ []) _ (slash_exit o n v 1 d x)
      (piece (at (Before (OpenKey n v 1)) d x) _ (49 ∷ []) _ (first_one (OpenKey n v 1) d x (unfold least_of in omega arith))
      (piece (at (Digits (OpenKey n v 1) 1) d x) _ (91 ∷ []) (93 ∷ closers d) (open_keys o n v 1 1 d x) (within_closers d _)))))
  number_closers (ExitKey n e) v d x =
      piece (at (Digits (ExitKey n e) v) d x) _ (47 ∷ []) _ (slash_exit o n e v d x)
      (piece (at (Before (OpenKey n e v)) d x) _ (49 ∷ []) _ (first_one (OpenKey n e v) d x (unfold least_of in omega arith))
      (piece (at (Digits (OpenKey n e v) 1) d x) _ (91 ∷ []) (93 ∷ closers d) (open_keys o n e v 1 d x) (within_closers d _)))
  number_closers (OpenKey n e q) v d x = piece (at (Digits (OpenKey n e q) v) d x) _ (91 ∷ []) (93 ∷ closers d) (open_keys o n e q v d x)
      (within_closers d _)
  number_closers (ActionNumber k) v zero x = by (number_ends o k v 0 x (unfold closers in follows_end)) (after_closers 0 (o.new_action k v x))
  number_closers (ActionNumber k) v (suc d) x = by (number_ends o k v (suc d) x (unfold closers in follows_out))
      (after_closers (suc d) (o.new_action k v x))

  -- before a number
  before_closers : (f : Field) (d : ℕ) (x : B) → least_of f ≤ 1 → Finishes (at (Before f) d x) (49 ∷ after_number f d)
  before_closers f d x l = piece (at (Before f) d x) (at (Digits f 1) d x) (49 ∷ []) (after_number f d) (first_one f d x l) (number_closers f 1 d x)

  -- the last byte of a word
  spell_last : (k i d : ℕ) (x : B) → i + 1 ≡ length (kind_text k) → step o (at (Spell k i) d x) (get_or (kind_text k) i 0)
      ≡ at (Before (ActionNumber k)) d x
  unfolding step next spelled land apply
  spell_last k i d x e = rw (eq-eqb (get_or (kind_text k) i 0) (get_or (kind_text k) i 0) refl, le-ltb (i + 1) (length (kind_text k)) (omega arith))

  -- one byte more of a word
  spell_on : (k i d : ℕ) (x : B) → i + 1 < length (kind_text k) → step o (at (Spell k i) d x) (get_or (kind_text k) i 0) ≡ at (Spell k (i + 1)) d x
  unfolding step next spelled land apply
  spell_on k i d x n = rw (eq-eqb (get_or (kind_text k) i 0) (get_or (kind_text k) i 0) refl, lt-ltb (i + 1) (length (kind_text k)) n)

  -- all its bytes
  spell_run : (k n i d : ℕ) (x : B) → i + suc n ≡ length (kind_text k)
      → run o (at (Spell k i) d x) (drop i (kind_text k)) ≡ at (Before (ActionNumber k)) d x
  unfolding run
  spell_run k zero i d x e =
      ap (run o (at (Spell k i) d x)) (drop-cons (kind_text k) i 0 (omega arith)
      ∙ ap (λ z. get_or (kind_text k) i 0 ∷ z) (ap (λ z. drop z (kind_text k)) last ∙ drop-length (kind_text k)))
      ∙ spell_last k i d x (omega arith)
    where
      last : suc i ≡ length (kind_text k)
      last = omega arith
  spell_run k (suc n) i d x e =
      ap (run o (at (Spell k i) d x)) (drop-cons (kind_text k) i 0 (omega arith))
      ∙ ap (λ z. run o z (drop (suc i) (kind_text k))) (spell_on k i d x (omega arith) ∙ ap (λ z. at (Spell k z) d x) (add-one i))
      ∙ spell_run k n (suc i) d x (omega arith)

  -- within a word
  spell_closers : (k i d : ℕ) (x : B) → i < length (kind_text k) → Finishes (at (Spell k i) d x) (drop i (kind_text k) ++ (49 ∷ closers d))
  unfolding after_number
  spell_closers k i d x l = piece (at (Spell k i) d x) (at (Before (ActionNumber k)) d x) (drop i (kind_text k)) (49 ∷ closers d)
      (spell_run k (length (kind_text k) - suc i) i d x (omega arith)) (before_closers (ActionNumber k) d x (unfold least_of in omega arith))

  -- `1`, where a part may begin
  part_one : (d : ℕ) (x : B) → run o (at Part d x) (49 ∷ []) ≡ at (Digits PlaceName 1) d x
  unfolding run step next begin_part land apply
  part_one d x = refl

  -- the same after `[`
  within_one : (d : ℕ) (x : B) → run o (at Within d x) (49 ∷ []) ≡ at (Digits PlaceName 1) d x
  unfolding run step next begin_part land apply
  within_one d x = refl

  -- the space after a bar
  bar_one : (d : ℕ) (x : B) → run o (at Bar d x) (32 ∷ []) ≡ at Part d x
  unfolding run step next land apply
  bar_one d x = refl

  -- the bar
  space_one : (d : ℕ) (x : B) → run o (at Space d x) (124 ∷ []) ≡ at Bar d x
  unfolding run step next land apply
  space_one d x = refl

  -- `n` after `e`
  e_one : (d : ℕ) (x : B) → run o (at LetterE d x) (110 ∷ []) ≡ at (Spell enter_kind 2) d x
  unfolding run step next land apply
  e_one d x = refl

  -- a word after a full stop
  dot_word : (d : ℕ) (x : B) → run o (at Dot d x) (kind_text open_kind) ≡ at (Before (ActionNumber open_kind)) d x
  unfolding run step next begin_word spelled land apply kind_text tab
  dot_word d x = refl

  -- where a part must begin
  part_closers : (d : ℕ) (x : B) → Finishes (at Part d x) (a_place d)
  unfolding a_place
  part_closers d x = piece (at Part d x) (at (Digits PlaceName 1) d x) (49 ∷ []) (91 ∷ (93 ∷ closers d)) (part_one d x)
      (unfold after_number in number_closers PlaceName 1 d x)

  -- after a bar
  bar_closers : (d : ℕ) (x : B) → Finishes (at Bar d x) (32 ∷ a_place d)
  bar_closers d x = piece (at Bar d x) (at Part d x) (32 ∷ []) (a_place d) (bar_one d x) (part_closers d x)

  -- every state that is reached has a text that completes it
  pub completes : {c : Control} → Good c → (d : ℕ) (x : B) → Finishes (at c d x) (completion c d)
  unfolding completion
  completes good_begin d x = record {
    built = x;
    ends = (unfold reads in unfold run in unfold step in unfold next in unfold land in unfold apply in unfold end in unfold end_at in refl);
  }
  completes good_bare d x = record { built = x; ends = (unfold reads in unfold run in unfold end in unfold end_at in refl) }
  completes good_part d x = part_closers d x
  completes good_within d x = unfold a_place in piece (at Within d x) (at (Digits PlaceName 1) d x) (49 ∷ []) (91 ∷ (93 ∷ closers d)) (within_one d x)
      (unfold after_number in number_closers PlaceName 1 d x)
  completes good_after d x = after_closers d x
  completes good_space d x = piece (at Space d x) (at Bar d x) (124 ∷ []) (32 ∷ a_place d) (space_one d x) (bar_closers d x)
  completes good_bar d x = bar_closers d x
  completes good_dot d x = piece (at Dot d x) (at (Before (ActionNumber open_kind)) d x) (kind_text open_kind) (49 ∷ closers d) (dot_word d x)
      (unfold after_number in before_closers (ActionNumber open_kind) d x (unfold least_of in omega arith))
  completes good_e d x = piece (at LetterE d x) (at (Spell enter_kind 2) d x) (110 ∷ []) (drop 2 (kind_text enter_kind) ++ (49 ∷ closers d)) (e_one d x)
      (spell_closers enter_kind 2 d x (unfold kind_text in unfold tab in omega arith))
  completes (good_spell {k} {i} a b l) d x = spell_closers k i d x l
  completes (good_before {f}) d x = before_closers f d x (least_one f)
  completes (good_digits {f} {v} l h) d x = number_closers f v d x
