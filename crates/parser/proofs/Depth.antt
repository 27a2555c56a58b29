-- How deep a text can be after i bytes: each opens one place at most.
use Rattle.std.specs.Prelude.{◌≡◌, refl, Bool, true, false, cond, ℕ, suc, ◌≤◌, ltb, eqb, length, get_or}
use Rattle.std.proofs.Common.{sym, ap, subst, arith}
use Rattle.language.specs.declared.Field.TheVariants.{PlaceName, EnterKey, ExitKey, OpenKey, ActionNumber}
use Rattle.language.specs.declared.Control.{Control}
use Rattle.language.specs.declared.Control.TheVariants.{Begin, Bare, Part, Within, After, Space, Bar, Dot, LetterE, Spell, Before, Digits}
use Rattle.language.specs.declared.Event.{Event}
use Rattle.language.specs.declared.Event.TheVariants.{Nothing, NewAction}
use Rattle.language.specs.declared.Moved.{Moved}
use Rattle.language.specs.declared.Moved.TheVariants.{To, Off}
use Rattle.language.specs.Grammar.{Text}
use Rattle.language.specs.Machine.{next}
use Rattle.language.proofs.Ways
use Rattle.language.proofs.Ways.{Way, way}
use Rattle.parser.specs.Site.{last_number, last_of, moved_at}

-- how many places are open then
depth_of : Moved → ℕ
depth_of (To c d e) = d
depth_of Off = 0

-- a byte opens one place at most
way_deep : {c : Control} {d b : ℕ} {m : Moved} → Way c d b m → depth_of m ≤ suc d
unfolding depth_of
way_deep Ways.stuck = omega arith
way_deep (Ways.zero_floor e) = omega arith
way_deep (Ways.name_digit h e) = omega arith
way_deep (Ways.letter_e w e) = omega arith
way_deep (Ways.letter_o w e) = omega arith
way_deep (Ways.letter_r w e) = omega arith
way_deep (Ways.empty_place e) = omega arith
way_deep (Ways.end_bar h e) = omega arith
way_deep (Ways.end_out h e) = omega arith
way_deep (Ways.the_bar e) = omega arith
way_deep (Ways.bar_space e) = omega arith
way_deep (Ways.letter_n e) = omega arith
way_deep (Ways.letter_x e) = omega arith
way_deep (Ways.word_on e n) = omega arith
way_deep (Ways.word_ends e n) = omega arith
way_deep (Ways.first_digit e) = omega arith
way_deep (Ways.more_digits l e h) = omega arith
way_deep (Ways.open_name e) = omega arith
way_deep (Ways.open_keys e) = omega arith
way_deep (Ways.slash_name e) = omega arith
way_deep (Ways.slash_enter e) = omega arith
way_deep (Ways.slash_exit e) = omega arith
way_deep (Ways.the_dot e) = omega arith

-- none at the end of a text
last_deep : (c : Control) (d : ℕ) → depth_of (last_of c d) ≡ 0
unfolding last_of last_number depth_of
last_deep Begin d = refl
last_deep Bare d = refl
last_deep Part d = refl
last_deep Within d = refl
last_deep After d = go (eqb d 0)
  where
    go : (b : Bool) → depth_of (cond b (To Bare 0 Nothing) Off) ≡ 0
    go true = refl
    go false = refl
last_deep Space d = refl
last_deep Bar d = refl
last_deep Dot d = refl
last_deep LetterE d = refl
last_deep (Spell k i) d = refl
last_deep (Before f) d = refl
last_deep (Digits PlaceName v) d = refl
last_deep (Digits (EnterKey n) v) d = refl
last_deep (Digits (ExitKey n k) v) d = refl
last_deep (Digits (OpenKey n k q) v) d = refl
last_deep (Digits (ActionNumber k) v) d = go (eqb d 0)
  where
    go : (b : Bool) → depth_of (cond b (To Bare 0 (NewAction k v)) Off) ≡ 0
    go true = refl
    go false = refl

-- a byte, or the end of the text, opens one place at most
pub moved_deep : (s : Text) (i : ℕ) (c : Control) (d : ℕ) (k : Control) (n : ℕ) (e : Event) → To k n e ≡ moved_at s i c d → n ≤ suc d
unfolding moved_at depth_of
moved_deep s i c d k n e q = subst (λ z. z ≤ suc d) (sym (ap depth_of q)) (go (ltb i (length s)))
  where
    go : (b : Bool) → depth_of (cond b (next c d (get_or s i 0)) (last_of c d)) ≤ suc d
    go true = way_deep (way c d (get_or s i 0))
    go false = let z = last_deep c d in omega arith
