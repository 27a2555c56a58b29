-- Laws of reading on: one stretch after another, a word, a digit; and the table stays that of the cell so far.
use Rattle.std.specs.Prelude.{◌≡◌, refl, Bool, true, List, [], ◌∷◌, ℕ, suc, ◌+◌, ◌-◌, ◌≤◌, ◌<◌, ltb, length, get_or, Some}
use Rattle.std.proofs.Common.{sym, ap, ◌∙◌, subst, arith, lt-ltb, ltb-true, ltb-false}
use Rattle.table.proofs.BaseLaws.{Told, yea, nay, told}
use Rattle.table.specs.Base.{tab}
use Rattle.table.specs.declared.Cell.{Cell}
use Rattle.meaning.specs.Listing.{kind_text}
use Rattle.language.specs.declared.Field.{Field}
use Rattle.language.specs.declared.Field.TheVariants.{ActionNumber}
use Rattle.language.specs.declared.Control.{Control}
use Rattle.language.specs.declared.Control.TheVariants.{Dot, Before, Digits}
use Rattle.language.specs.declared.Event.TheVariants.{Nothing}
use Rattle.language.specs.declared.Moved.TheVariants.{To}
use Rattle.language.specs.Grammar.{Text}
use Rattle.language.specs.Machine.{is_digit, least_of, next, begin_word, spelled}
use Rattle.parser.specs.declared.Marks.{Marks}
use Rattle.parser.specs.Site.{longer, moved_at}
use Rattle.parser.proofs.CodeLaws.{next_digit, before_digit}
use Rattle.parser.specs.Stretches.{Stands, Stretch, Spells}
use Rattle.parser.specs.Stretches
use Rattle.parser.proofs.ReadLaws.{Rest, rest_nothing}

module _ {s : Text} {i : ℕ} {c : Control} where
  -- never back
  pub stretch_up : {j : ℕ} {k : Control} → Stretch s i c j k → i ≤ j
  stretch_up Stretches.still = omega arith
  stretch_up (Stretches.further p l m e) = let h = stretch_up p in omega arith

  -- never past the end of the text
  pub stretch_within : {j : ℕ} {k : Control} → i ≤ length s → Stretch s i c j k → j ≤ length s
  stretch_within h Stretches.still = h
  stretch_within h (Stretches.further p l m e) = omega (arith, l)

  -- one stretch, and then another
  pub stretch_on : {j : ℕ} {k : Control} {l : ℕ} {m : Control} → Stretch s i c j k → Stretch s j k l m → Stretch s i c l m
  stretch_on p Stretches.still = p
  stretch_on p (Stretches.further q l m e) = Stretches.further (stretch_on p q) l m e

  -- a word
  pub stretch_word : {j : ℕ} {k m : Control} {w : List ℕ} → Stretch s i c j k → Spells k w m → Stands s j w → Stretch s i c (j + length w) m
  stretch_word {k} p Stretches.none st = subst (λ z. Stretch s i c z k) (omega arith) p
  stretch_word {j} {k} {m} {w = b ∷ w} p (Stretches.byte {m = n} e q) st =
      subst (λ z. Stretch s i c z m) (omega arith) (stretch_word {j = j + 1} (Stretches.further p (omega (arith, first.0)) n (λ d. e d ∙ ap (next k d) (sym is))) q rest)
    where
      first : (j + 0 < length s) × (get_or s (j + 0) 0 ≡ b)
      first = st 0 (omega arith)

      is : get_or s j 0 ≡ b
      is = let z : j ≡ j + 0 = omega arith in ap (λ x. get_or s x 0) z ∙ first.1

      rest : Stands s (j + 1) w
      rest x l =
          let h = st (suc x) (omega (arith, l)) in
          let o : j + 1 + x ≡ j + suc x = omega arith in
          (omega (arith, h.0), ap (λ z. get_or s z 0) o ∙ h.1)

-- the words of the four kinds
pub enter_spells : Spells Dot (101 ∷ 110 ∷ 116 ∷ 101 ∷ 114 ∷ 32 ∷ []) (Before (ActionNumber 1))
unfolding next begin_word spelled kind_text tab
enter_spells = Stretches.byte (λ d. refl) (Stretches.byte (λ d. refl) (Stretches.byte (λ d. refl) (Stretches.byte (λ d. refl) (Stretches.byte (λ d. refl)
    (Stretches.byte (λ d. refl) Stretches.none)))))

pub exit_spells : Spells Dot (101 ∷ 120 ∷ 105 ∷ 116 ∷ 32 ∷ []) (Before (ActionNumber 2))
unfolding next begin_word spelled kind_text tab
exit_spells = Stretches.byte (λ d. refl) (Stretches.byte (λ d. refl) (Stretches.byte (λ d. refl) (Stretches.byte (λ d. refl) (Stretches.byte (λ d. refl) Stretches.none))))

pub open_spells : Spells Dot (111 ∷ 112 ∷ 101 ∷ 110 ∷ 32 ∷ []) (Before (ActionNumber 3))
unfolding next begin_word spelled kind_text tab
open_spells = Stretches.byte (λ d. refl) (Stretches.byte (λ d. refl) (Stretches.byte (λ d. refl) (Stretches.byte (λ d. refl) (Stretches.byte (λ d. refl) Stretches.none))))

pub release_spells : Spells Dot (114 ∷ 101 ∷ 108 ∷ 101 ∷ 97 ∷ 115 ∷ 101 ∷ 32 ∷ []) (Before (ActionNumber 4))
unfolding next begin_word spelled kind_text tab
release_spells = Stretches.byte (λ d. refl) (Stretches.byte (λ d. refl) (Stretches.byte (λ d. refl) (Stretches.byte (λ d. refl) (Stretches.byte (λ d. refl)
    (Stretches.byte (λ d. refl) (Stretches.byte (λ d. refl) (Stretches.byte (λ d. refl) Stretches.none)))))))

-- one byte more of a word
pub alike_more : (s w : List ℕ) (i j : ℕ) → ((n : ℕ) → n < j → get_or s (i + n) 0 ≡ get_or w n 0) → get_or s (i + j) 0 ≡ get_or w j 0
    → (n : ℕ) → n < j + 1 → get_or s (i + n) 0 ≡ get_or w n 0
alike_more s w i j a e n l = go (told (ltb n j))
  where
    go : Told (ltb n j) → get_or s (i + n) 0 ≡ get_or w n 0
    go (yea t) = a n (ltb-true n j t)
    go (nay t) = let h = ltb-false n j t in subst (λ m. get_or s (i + m) 0 ≡ get_or w m 0) (omega arith) e

-- one digit more of a number
pub stretch_digit : {s : Text} {i j : ℕ} {c : Control} (f : Field) (v n : ℕ) → Stretch s i c j (Digits f v) → j < length s → Some n ≡ longer v (get_or s j 0)
    → Stretch s i c (j + 1) (Digits f n)
stretch_digit {s} {j} f v n p l e = Stretches.further p l (Digits f n) (λ d. next_digit f v d (get_or s j 0) n e)

-- the first digit of an action's number, and what comes then
pub stretch_first : {s : Text} {i j : ℕ} {m : Control} (k w : ℕ) (t : Bool) → i < length s → t ≡ is_digit 1 (get_or s i 0) → t ≡ true → w ≡ get_or s i 0 - 48
    → Stretch s (i + 1) (Digits (ActionNumber k) w) j m → Stretch s i (Before (ActionNumber k)) j m
unfolding least_of
stretch_first {s} {i} k w t l e h q p =
    stretch_on (Stretches.further Stretches.still l (Digits (ActionNumber k) w) (λ d. before_digit (ActionNumber k) d (get_or s i 0) t 1 refl e w q h)) p

-- the word of an action, and what comes then
pub stretch_action : {s : Text} {i j k : ℕ} {m : Control} {w : List ℕ} → Spells Dot w (Before (ActionNumber k)) → Stands s i w
    → Stretch s (i + length w) (Before (ActionNumber k)) j m → Stretch s i Dot j m
stretch_action sp st p = stretch_on (stretch_word Stretches.still sp st) p

-- such a byte moves the machine
stretch_moves : (s : Text) (j : ℕ) (k m : Control) (d : ℕ) → j < length s → To m d Nothing ≡ next k d (get_or s j 0) → To m d Nothing ≡ moved_at s j k d
unfolding moved_at
stretch_moves s j k m d l e = rw (lt-ltb j (length s) l) e

-- the table stays that of the cell so far
module _ (s : Text) (i : ℕ) (c : Control) (d : ℕ) (b : Cell) (x : Marks) (r : Rest s i c d b x) where
  pub rest_stretch : {j : ℕ} {k : Control} → Stretch s i c j k → Rest s j k d b x
  rest_stretch Stretches.still = r
  rest_stretch (Stretches.further {j} {k} p l m e) =
      rest_nothing s j k d b x (rest_stretch p) (omega (arith, l)) (To m d Nothing) (stretch_moves s j k m d l (e d)) m d Nothing refl refl
