-- The text before a place's bracket tells the name and its keys, and the place's text tells these and its contents: `name_one`, `place_one`.
-- Idea: a decimal is followed by a slash or the bracket. A plain name has no slash; any other has three, and its keys are not all the name
-- (`7/7/7/7` is never written).
use Rattle.std.specs.Prelude.{◌≡◌, refl, Bool, true, false, ◌&&◌, cond, ℕ, ◌≤◌, ◌<◌, eqb, length}
use Rattle.std.proofs.Common.{sym, ap, ◌∙◌, arith, length-append, eqb-true}
use mathlib.Core.List.{[], ◌∷◌, ◌++◌, append_assoc, append_cancel_right, head-eq_of_cons-eq, tail-eq_of_cons-eq}
use Rattle.table.specs.Base.{tab}
use Rattle.table.proofs.BaseLaws.{Told, yea, nay, told, and_left, and_right}
use Rattle.table.specs.Bounds.{Name16}
use Rattle.table.specs.declared.Name.{Name}
use Rattle.meaning.specs.Text.{ascii, decimal}
use Rattle.meaning.specs.Listing.{is_plain, slashed, name_text, bracketed}
use Rattle.meaning.proofs.SortedLaws.{Text}
use Rattle.meaning.specs.Every.{every_none, every_more}
use Rattle.calculus.proofs.TextParts.{Clear, Deep, Whole, clear_none, clear_append, clear_mild, clear_bracket}
use Rattle.calculus.proofs.Decimals.{Digit, Stop, stop_byte, decimal_split, clear_decimal, lead, lead_decimal}

-- ---- a key

-- a slash is no bar and no bracket
slash_clear : Clear (ascii "/")
unfolding tab
slash_clear = clear_mild (every_more refl every_none)

-- nor is there one in a key
slashed_clear : (key : ℕ) → Clear (slashed key)
unfolding slashed
slashed_clear key = clear_append (ascii "/") (decimal key) slash_clear (clear_decimal key)

-- a key in front tells itself, and what follows it
slashed_split : (k j : ℕ) {x y : Text} → k < 65536 → j < 65536 → Stop x → Stop y → slashed k ++ x ≡ slashed j ++ y → (k ≡ j) × (x ≡ y)
unfolding slashed tab
slashed_split k j a b s r e = decimal_split k j a b s r (tail-eq_of_cons-eq e)

-- a slash ends the decimal before it
slashed_stop : (key : ℕ) (x : Text) → Stop (slashed key ++ x)
unfolding slashed tab
slashed_stop key x = stop_byte refl

-- ---- the three keys

-- a slash before each
abbrev keys_text : Name → Text
keys_text x = slashed x.entering ++ (slashed x.exiting ++ slashed x.opening)

-- no bar and no bracket is in them
keys_clear : (x : Name) → Clear (keys_text x)
keys_clear x = clear_append (slashed x.entering) (slashed x.exiting ++ slashed x.opening) (slashed_clear x.entering)
    (clear_append (slashed x.exiting) (slashed x.opening) (slashed_clear x.exiting) (slashed_clear x.opening))

-- one after the other, before what follows them
keys_before : (x : Name) (r : Text) → keys_text x ++ r ≡ slashed x.entering ++ (slashed x.exiting ++ (slashed x.opening ++ r))
keys_before x r = append_assoc (slashed x.entering) (slashed x.exiting ++ slashed x.opening) r
    ∙ ap (λ z. slashed x.entering ++ z) (append_assoc (slashed x.exiting) (slashed x.opening) r)

-- two names with the same keys
record SameKeys (n m : Name) : Type 0 where
  entering : n.entering ≡ m.entering
  exiting : n.exiting ≡ m.exiting
  opening : n.opening ≡ m.opening

-- with the same name are the same
name_eq : {n m : Name} → n.name ≡ m.name → SameKeys n m → n ≡ m
name_eq e k = λ j. record { name = e j; entering = k.entering j; exiting = k.exiting j; opening = k.opening j }

-- keys in front tell themselves, and what follows them
keys_split : (n m : Name) {x y : Text} → Name16 n → Name16 m → Stop x → Stop y → keys_text n ++ x ≡ keys_text m ++ y → SameKeys n m × (x ≡ y)
keys_split n m {x} {y} a b s r e =
    let f = slashed_split n.entering m.entering a.entering b.entering (slashed_stop n.exiting (slashed n.opening ++ x))
    (slashed_stop m.exiting (slashed m.opening ++ y)) (sym (keys_before n x) ∙ e ∙ keys_before m y) in
    let g = slashed_split n.exiting m.exiting a.exiting b.exiting (slashed_stop n.opening x) (slashed_stop m.opening y) f.1 in
    let h = slashed_split n.opening m.opening a.opening b.opening s r g.1 in
    (record { entering = f.0; exiting = g.0; opening = h.0 }, h.1)

-- ---- a name

-- the keys of a plain name are its name
plain_keys : (n m : Name) → is_plain n ≡ true → is_plain m ≡ true → n.name ≡ m.name → SameKeys n m
unfolding is_plain
plain_keys n m p q e = record { entering = same (in_it n p) (in_it m q); exiting = same (out_of n p) (out_of m q); opening = same (up_of n p) (up_of m q) }
  where
    same : {k j : ℕ} → k ≡ n.name → j ≡ m.name → k ≡ j
    same f g = f ∙ e ∙ sym g

    two : (x : Name) → Bool
    two x = eqb x.exiting x.name && eqb x.opening x.name

    in_it : (x : Name) → is_plain x ≡ true → x.entering ≡ x.name
    in_it x t = eqb-true _ _ (and_left (eqb x.entering x.name) (two x) t)

    out_of : (x : Name) → is_plain x ≡ true → x.exiting ≡ x.name
    out_of x t = eqb-true _ _ (and_left (eqb x.exiting x.name) (eqb x.opening x.name) (and_right (eqb x.entering x.name) (two x) t))

    up_of : (x : Name) → is_plain x ≡ true → x.opening ≡ x.name
    up_of x t = eqb-true _ _ (and_right (eqb x.exiting x.name) (eqb x.opening x.name) (and_right (eqb x.entering x.name) (two x) t))

-- the keys as a name is listed with them: none if it is plain
abbrev keys_listed : Name → Text
keys_listed x = cond (is_plain x) [] (keys_text x)

-- what follows a name, up to the bracket and past it
name_before : (n : Name) (r : Text) → name_text n ++ r ≡ decimal n.name ++ (keys_listed n ++ r)
unfolding name_text
name_before n r = append_assoc (decimal n.name) (keys_listed n) r

-- no bar and no bracket is in them
listed_clear : (n : Name) → Clear (keys_listed n)
listed_clear n = go (is_plain n)
  where
    go : (b : Bool) → Clear (cond b [] (keys_text n))
    go true = clear_none
    go false = keys_clear n

-- the bracket ends the decimal before it
bracket_stop : (x : Text) → Stop (91 ∷ x)
bracket_stop x = stop_byte refl

-- and so do keys before the bracket
listed_stop : (n : Name) (x : Text) → Stop (keys_listed n ++ (91 ∷ x))
listed_stop n x = go (is_plain n)
  where
    go : (b : Bool) → Stop (cond b [] (keys_text n) ++ (91 ∷ x))
    go true = bracket_stop x
    go false = rw (keys_before n (91 ∷ x)) (slashed_stop n.entering (slashed n.exiting ++ (slashed n.opening ++ (91 ∷ x))))

-- a slash is no bracket
slash_bracket : (n : Name) (x y : Text) → keys_text n ++ x ≡ 91 ∷ y → ⊥
unfolding slashed tab
slash_bracket n x y e = let f : ◌≡◌ {A = ℕ} 47 91 = head-eq_of_cons-eq e in omega arith

-- the text before the bracket tells the name and its keys
pub name_one : (n m : Name) {x y : Text} → Name16 n → Name16 m → name_text n ++ (91 ∷ x) ≡ name_text m ++ (91 ∷ y) → (n ≡ m) × (x ≡ y)
name_one n m {x} {y} a b e =
    let f = decimal_split n.name m.name a.name b.name (listed_stop n x) (listed_stop m y)
    (sym (name_before n (91 ∷ x)) ∙ e ∙ name_before m (91 ∷ y)) in
    go f.0 (told (is_plain n)) (told (is_plain m)) f.1
  where
    go : n.name ≡ m.name → Told (is_plain n) → Told (is_plain m) → keys_listed n ++ (91 ∷ x) ≡ keys_listed m ++ (91 ∷ y) → (n ≡ m) × (x ≡ y)
    go e (yea p) (yea q) f = (name_eq e (plain_keys n m p q e), tail-eq_of_cons-eq (rw (p, q) at f))
    go e (yea p) (nay q) f = absurd (slash_bracket m (91 ∷ y) x (sym (rw (p, q) at f)))
    go e (nay p) (yea q) f = absurd (slash_bracket n (91 ∷ x) y (rw (p, q) at f))
    go e (nay p) (nay q) f = let k = keys_split n m a b (bracket_stop x) (bracket_stop y) (rw (p, q) at f) in (name_eq e k.0, tail-eq_of_cons-eq k.1)

-- by itself it does
pub name_same : (n m : Name) → Name16 n → Name16 m → name_text n ≡ name_text m → n ≡ m
name_same n m a b e = (name_one n m a b (ap (λ z. z ++ (91 ∷ [])) e)).0

-- no bar and no bracket is in it
pub name_clear : (n : Name) → Clear (name_text n)
unfolding name_text
name_clear n = clear_append (decimal n.name) (keys_listed n) (clear_decimal n.name) (listed_clear n)

-- it begins with a digit
pub name_lead : (n : Name) (x : Text) → Digit (lead (name_text n ++ x))
name_lead n x = rw (name_before n x) (lead_decimal n.name (keys_listed n ++ x))

-- ---- a place

-- name, bracket, contents, bracket
pub bracketed_is : (n : Name) (x : Text) → bracketed n x ≡ name_text n ++ (91 ∷ (x ++ (93 ∷ [])))
unfolding bracketed tab
bracketed_is n x = append_assoc (name_text n ++ (91 ∷ [])) x (93 ∷ []) ∙ append_assoc (name_text n) (91 ∷ []) (x ++ (93 ∷ []))

-- the text of a place tells its name with its keys, and its contents
pub place_one : (n m : Name) (x y : Text) → Name16 n → Name16 m → bracketed n x ≡ bracketed m y → (n ≡ m) × (x ≡ y)
place_one n m x y a b e =
    let g = name_one n m a b (sym (bracketed_is n x) ∙ e ∙ bracketed_is m y) in
    (g.0, append_cancel_right x y (93 ∷ []) g.1)

-- it begins with a digit
pub place_lead : (n : Name) (x : Text) → Digit (lead (bracketed n x))
place_lead n x = rw (bracketed_is n x) (name_lead n (91 ∷ (x ++ (93 ∷ []))))

-- and is whole, if its contents are a text as stands within a bracket
pub place_whole : (n : Name) (x : Text) → Deep x → Whole (bracketed n x)
place_whole n x h = rw (bracketed_is n x) (record {
  clear = clear_append (name_text n) (91 ∷ (x ++ (93 ∷ []))) (name_clear n) (clear_bracket x h);
  long = omega (arith, length-append (name_text n) (91 ∷ (x ++ (93 ∷ []))), length-append x (93 ∷ []), some (name_text n) (name_lead n []));
})
  where
    some : (s : Text) → Digit (lead (s ++ [])) → 1 ≤ length s
    some [] d = absurd (omega (arith, d.low))
    some (c ∷ s) d = omega arith
