-- A row of texts joined by bars can be taken apart in one way only, if no text has a bar outside its brackets. Assumes nothing.
-- Idea: a reader of nothing but brackets (`cut`) finds the end of the first text.
use Rattle.std.specs.Prelude.{◌≡◌, ◌≢◌, Bool, true, not, ◌&&◌, cond, ℕ, suc, pred, ◌≤◌, eqb, length}
use Rattle.std.proofs.Math.Path.{refl, sym}
use Rattle.std.proofs.Common.{ap, ap₂, ◌∙◌, arith, length-append, ne_eqb}
use mathlib.Core.List.{List, [], ◌∷◌, ◌++◌, append_assoc, append-nil, append_cancel_left, append_cancel_right}
use mathlib.Core.List.{tail-eq_of_cons-eq, nil≢cons, cons≢nil}
use Rattle.std.proofs.lemmas.Bool.{not-true}
use Rattle.table.specs.Base.{tab}
use Rattle.table.proofs.BaseLaws.{and_left, and_right}
use Rattle.meaning.specs.Text.{ascii, gap, joined_all}
use Rattle.meaning.proofs.SortedLaws.{Text}
use Rattle.meaning.proofs.Every.{every_so}
use Rattle.meaning.specs.Every.{every_none, every_more, Every}

-- ---- texts joined by bars

-- a bar and a text, for each
unfoldable pub barred : List Text → Text
unfolding tab
barred [] = []
barred (x ∷ rest) = ascii " | " ++ (x ++ barred rest)

-- the first text, then a bar and a text for each other
unfoldable pub beside : List Text → Text
unfolding barred
beside [] = []
beside (x ∷ rest) = x ++ barred rest

-- after a text that is not empty there is a gap
pub gap_some : (by s : Text) → s ≢ [] → gap by s ≡ by
unfolding gap
gap_some by [] d = absurd (d refl)
gap_some by (c ∷ s) d = rw (ne_eqb (length (c ∷ s)) 0 (omega arith))

-- and the listing joins texts so
pub joined_barred : (s : Text) (l : List Text) → s ≢ [] → joined_all (ascii " | ") s l ≡ s ++ barred l
unfolding joined_all gap barred tab
joined_barred s [] d = sym (append-nil s)
joined_barred [] (x ∷ l) d = absurd (d refl)
joined_barred (c ∷ s) (x ∷ l) d =
    ap (λ (g : Text). joined_all (ascii " | ") (((c ∷ s) ++ g) ++ x) l) (gap_some (ascii " | ") (c ∷ s) cons≢nil)
    ∙ joined_barred (c ∷ ((s ++ ascii " | ") ++ x)) l cons≢nil
    ∙ ap (λ z. c ∷ z) (append_assoc (s ++ ascii " | ") x (barred l) ∙ append_assoc s (ascii " | ") (x ++ barred l))

-- ---- a reader of brackets

-- how many brackets are open after a byte: `[` opens one and `]` closes one
next : ℕ → ℕ → ℕ
next c d = cond (eqb c 91) (suc d) (cond (eqb c 93) (pred d) d)

-- a text up to its first `|` that is in no bracket, where d are open already
cut : ℕ → Text → Text
unfolding next
cut d [] = []
cut d (c ∷ x) = cond (eqb c 124 && eqb d 0) [] (c ∷ cut (next c d) x)

-- a text with no `|` outside brackets, and with brackets in pairs: whatever follows it, the reader goes past it
pub record Clear (x : Text) : Type 0 where
  law : (d : ℕ) (r : Text) → cut d (x ++ r) ≡ x ++ cut d r

-- the same within a bracket
pub record Deep (x : Text) : Type 0 where
  law : (d : ℕ) (r : Text) → cut (suc d) (x ++ r) ≡ x ++ cut (suc d) r

-- a clear text is so within a bracket too
clear_deep : {x : Text} → Clear x → Deep x
clear_deep h = record { law = λ d r. h.law (suc d) r }

-- the empty text is clear
pub clear_none : Clear []
clear_none = record { law = λ d r. refl }

-- and so are two clear texts one after the other
pub clear_append : (x y : Text) → Clear x → Clear y → Clear (x ++ y)
clear_append x y a b = record {
  law = λ d r. rw (append_assoc x y r, append_assoc x y (cut d r)) (a.law d (y ++ r) ∙ ap (λ z. x ++ z) (b.law d r));
}

-- within a bracket too
deep_append : (x y : Text) → Deep x → Deep y → Deep (x ++ y)
deep_append x y a b = record {
  law = λ d r. rw (append_assoc x y r, append_assoc x y (cut (suc d) r)) (a.law d (y ++ r) ∙ ap (λ z. x ++ z) (b.law d r));
}

-- a byte that is no bar and no bracket
abbrev pub is_mild : ℕ → Bool
is_mild c = not (eqb c 124) && (not (eqb c 91) && not (eqb c 93))

-- the reader goes past it
mild_cut : (c : ℕ) → is_mild c ≡ true → (d : ℕ) (x : Text) → cut d (c ∷ x) ≡ c ∷ cut d x
unfolding cut
mild_cut c m d x =
    let two = and_right (not (eqb c 124)) (not (eqb c 91) && not (eqb c 93)) m in
    rw (
      not-true (eqb c 124) (and_left (not (eqb c 124)) (not (eqb c 91) && not (eqb c 93)) m),
      not-true (eqb c 91) (and_left (not (eqb c 91)) (not (eqb c 93)) two),
      not-true (eqb c 93) (and_right (not (eqb c 91)) (not (eqb c 93)) two),
    )

-- a text of such bytes is clear
pub clear_mild : {x : Text} → Every (λ c. is_mild c ≡ true) x → Clear x
clear_mild every_none = clear_none
clear_mild (every_more {x = c} {rest = x} m e) = record { law = λ d r. mild_cut c m d (x ++ r) ∙ ap (λ z. c ∷ z) ((clear_mild e).law d r) }

-- within a bracket a bar is nothing special
bar_deep : Deep (ascii " | ")
unfolding cut tab
bar_deep = record { law = λ d r. rw (ne_eqb (suc d) 0 (omega arith)) }

-- a text in brackets
pub clear_bracket : (x : Text) → Deep x → Clear (91 ∷ (x ++ (93 ∷ [])))
clear_bracket x h = record {
  law = λ d r. opened d ((x ++ (93 ∷ [])) ++ r) ∙ ap (λ z. 91 ∷ z) (ap (cut (suc d)) (append_assoc x (93 ∷ []) r) ∙ h.law d (93 ∷ r)
      ∙ ap (λ z. x ++ z) (closed d r) ∙ sym (append_assoc x (93 ∷ []) (cut d r)));
}
  where
    opened : (d : ℕ) (y : Text) → cut d (91 ∷ y) ≡ 91 ∷ cut (suc d) y
    opened d y = unfold cut in refl

    closed : (d : ℕ) (y : Text) → cut (suc d) (93 ∷ y) ≡ 93 ∷ cut d y
    closed d y = unfold cut in refl

-- texts joined by bars, within a bracket
barred_deep : {l : List Text} → Every Clear l → Deep (barred l)
unfolding barred
barred_deep every_none = clear_deep clear_none
barred_deep (every_more {x} {rest} c e) =
    deep_append (ascii " | ") (x ++ barred rest) bar_deep (deep_append x (barred rest) (clear_deep c) (barred_deep e))

-- with the first text before them
pub beside_deep : {l : List Text} → Every Clear l → Deep (beside l)
unfolding beside
beside_deep every_none = clear_deep clear_none
beside_deep (every_more {x} {rest} c e) = deep_append x (barred rest) (clear_deep c) (barred_deep e)

-- ---- taken apart

-- the reader stops at the bar, past a space
barred_cut : (x : Text) (l : List Text) → cut 0 (barred (x ∷ l)) ≡ 32 ∷ []
unfolding cut barred tab
barred_cut x l = refl

-- what the reader takes of a clear text and what follows it
taken : {x s : Text} (r : Text) → Clear x → cut 0 r ≡ s → cut 0 (x ++ r) ≡ x ++ s
taken {x} r a e = a.law 0 r ∙ ap (λ z. x ++ z) e

-- the last text is not followed by another
last_of : (x y z : Text) (m : List Text) → Clear x → Clear y → x ++ [] ≡ y ++ barred (z ∷ m) → ⊥
unfolding cut barred tab
last_of x y z m a b e =
    let f : x ++ [] ≡ y ++ (32 ∷ []) = sym (taken [] a refl) ∙ ap (cut 0) e ∙ taken (barred (z ∷ m)) b (barred_cut z m) in
    nil≢cons (tail-eq_of_cons-eq (append_cancel_left y (32 ∷ []) (barred (z ∷ m)) (sym f ∙ e)))

-- the first text, and the others
first_of : (x y : Text) (l m : List Text) → Clear x → Clear y → x ++ barred l ≡ y ++ barred m → (x ≡ y) × (barred l ≡ barred m)
first_of x y [] [] a b e = unfold barred in (sym (append-nil x) ∙ e ∙ append-nil y, refl)
first_of x y [] (z ∷ m) a b e = absurd (last_of x y z m a b (unfold barred in e))
first_of x y (z ∷ l) [] a b e = absurd (last_of y x z l b a (unfold barred in sym e))
first_of x y (z ∷ l) (u ∷ m) a b e =
    let f : x ++ (32 ∷ []) ≡ y ++ (32 ∷ []) = sym (taken (barred (z ∷ l)) a (barred_cut z l)) ∙ ap (cut 0) e ∙ taken (barred (u ∷ m)) b (barred_cut u m) in
    let g : x ≡ y = append_cancel_right x y (32 ∷ []) f in
    (g, append_cancel_left y (barred (z ∷ l)) (barred (u ∷ m)) (ap (λ k. k ++ barred (z ∷ l)) (sym g) ∙ e))

-- all of them, one after the other
barred_one : {l m : List Text} → Every Clear l → Every Clear m → barred l ≡ barred m → l ≡ m
unfolding barred tab
barred_one every_none every_none e = refl
barred_one every_none (every_more b f) e = absurd (nil≢cons e)
barred_one (every_more a d) every_none e = absurd (cons≢nil e)
barred_one (every_more {x} {rest} a d) (every_more {x = y} {rest = m} b f) e =
    let g = first_of x y rest m a b (append_cancel_left (ascii " | ") (x ++ barred rest) (y ++ barred m) e) in
    ap₂ ◌∷◌ g.0 (barred_one d f g.1)

-- ---- texts of parts

-- a clear text of three bytes at least, as that of every place and every agent is
pub record Whole (x : Text) : Type 0 where
  pub clear : Clear x
  pub long : 3 ≤ length x

-- it is not empty
pub whole_some : {x : Text} → Whole x → x ≢ []
whole_some {x} w e = let z : length x ≡ 0 = ap length e in omega (arith, w.long)

-- the listing joins whole texts by bars
pub joined_beside : {l : List Text} → Every Whole l → joined_all (ascii " | ") [] l ≡ beside l
unfolding joined_all gap beside tab
joined_beside every_none = refl
joined_beside (every_more {x} {rest} w e) = joined_barred x rest (whole_some w)

-- what begins an empty text is empty
append_nil_left : (x y : Text) → [] ≡ x ++ y → x ≡ []
append_nil_left [] y e = refl
append_nil_left (c ∷ x) y e = absurd (nil≢cons e)

-- they can be taken apart in one way only
pub beside_one : {l m : List Text} → Every Whole l → Every Whole m → beside l ≡ beside m → l ≡ m
unfolding beside
beside_one every_none every_none e = refl
beside_one every_none (every_more {x} {rest} w f) e = absurd (whole_some w (append_nil_left x (barred rest) e))
beside_one (every_more {x} {rest} w f) every_none e = absurd (whole_some w (append_nil_left x (barred rest) (sym e)))
beside_one (every_more {x} {rest} w d) (every_more {x = y} {rest = m} v f) e =
    let g = first_of x y rest m w.clear v.clear e in
    ap₂ ◌∷◌ g.0 (barred_one (every_so (λ z u. u.clear) d) (every_so (λ z u. u.clear) f) g.1)

-- and joined they are not `0`
pub beside_not_zero : {l : List Text} → Every Whole l → beside l ≢ 48 ∷ []
unfolding beside
beside_not_zero every_none e = nil≢cons e
beside_not_zero (every_more {x} {rest} w f) e = omega (arith, w.long, length-append x (barred rest), ap length e)
