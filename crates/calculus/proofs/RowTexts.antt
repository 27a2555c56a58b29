-- The text of a row of actions tells the row: `row_one`. Of rows of actions in range, with numbers of 16 bits, as every agent's are.
-- Idea: the second byte tells the kind, and the number is a decimal before a full stop or the end.
use Rattle.std.specs.Prelude.{◌≡◌, refl, cond, ℕ, ◌≤◌, ◌<◌, eqb, length}
use Rattle.std.proofs.Common.{sym, ap, ap₂, ◌∙◌, arith, length-append}
use mathlib.Core.List.{List, [], ◌∷◌, ◌++◌, append_assoc, append_cancel_left, tail-eq_of_cons-eq, nil≢cons, cons≢nil}
use Rattle.table.specs.Base.{tab}
use Rattle.table.specs.Cell.{enter_kind, exit_kind, open_kind, release_kind, last_kind}
use Rattle.table.proofs.KindLaws.{IsKind, enters, exits, opens, releases, is_kind}
use Rattle.table.specs.declared.Action.{Action}
use Rattle.meaning.specs.Text.{decimal}
use Rattle.meaning.specs.Listing.{kind_text, action_text}
use Rattle.meaning.proofs.SortedLaws.{Text}
use Rattle.meaning.specs.Every.{every_none, every_more, Every}
use Rattle.calculus.specs.TermListing.{after, prefixed}
use Rattle.calculus.proofs.TextParts.{Clear, Whole, clear_none, clear_append, clear_mild}
use Rattle.calculus.proofs.Decimals.{Stop, stop_end, stop_byte, decimal_split, clear_decimal, lead}

-- ---- a kind

-- the kind that a text begins with, by its second byte: `n`, `x`, `p` or `e`
kind_at : Text → ℕ
kind_at [] = 0
kind_at (c ∷ []) = 0
kind_at (c ∷ d ∷ x) = cond (eqb d 110) enter_kind (cond (eqb d 120) exit_kind (cond (eqb d 112) open_kind release_kind))

-- it is the kind that was written
kind_read : {k : ℕ} → IsKind k → (x : Text) → kind_at (kind_text k ++ x) ≡ k
unfolding kind_at kind_text tab
kind_read enters x = refl
kind_read exits x = refl
kind_read opens x = refl
kind_read releases x = refl

-- a kind in front tells itself, and what follows it
kind_split : {k j : ℕ} → IsKind k → IsKind j → (x y : Text) → kind_text k ++ x ≡ kind_text j ++ y → (k ≡ j) × (x ≡ y)
kind_split {k} {j} a b x y e =
    let g : k ≡ j = sym (kind_read a x) ∙ ap kind_at e ∙ kind_read b y in
    (g, append_cancel_left (kind_text j) x y (ap (λ (i : ℕ). kind_text i ++ x) (sym g) ∙ e))

-- no bar and no bracket is in it
kind_clear : {k : ℕ} → IsKind k → Clear (kind_text k)
unfolding kind_text tab
kind_clear enters = clear_mild (every_more refl (every_more refl (every_more refl (every_more refl (every_more refl (every_more refl every_none))))))
kind_clear exits = clear_mild (every_more refl (every_more refl (every_more refl (every_more refl (every_more refl every_none)))))
kind_clear opens = clear_mild (every_more refl (every_more refl (every_more refl (every_more refl (every_more refl every_none)))))
kind_clear releases = clear_mild (every_more refl (every_more refl (every_more refl (every_more refl
    (every_more refl (every_more refl (every_more refl (every_more refl every_none))))))))

-- it begins with a small letter, and is long
kind_lead : {k : ℕ} → IsKind k → (x : Text) → (97 ≤ lead (kind_text k ++ x)) × (5 ≤ length (kind_text k))
unfolding kind_text tab
kind_lead enters x = (omega arith, omega arith)
kind_lead exits x = (omega arith, omega arith)
kind_lead opens x = (omega arith, omega arith)
kind_lead releases x = (omega arith, omega arith)

-- ---- an action and what follows it

-- an action in range, with a number of 16 bits
pub record Fine (x : Action) : Type 0 where
  pub first : 1 ≤ x.kind
  pub last : x.kind ≤ last_kind
  pub small : x.name < 65536

-- its kind is one of the four
pub fine_kind : {x : Action} → Fine x → IsKind x.kind
fine_kind {x} f = is_kind x.kind f.first f.last

-- what follows an action ends the decimal before it
after_stop : (x : Text) → Stop (after x)
unfolding after tab
after_stop [] = stop_end
after_stop (c ∷ x) = stop_byte refl

-- tells the rest
after_one : (x y : Text) → after x ≡ after y → x ≡ y
unfolding after tab
after_one [] [] e = refl
after_one [] (d ∷ y) e = absurd (nil≢cons e)
after_one (c ∷ x) [] e = absurd (cons≢nil e)
after_one (c ∷ x) (d ∷ y) e = tail-eq_of_cons-eq e

-- and is clear, if the rest is
after_clear : (x : Text) → Clear x → Clear (after x)
unfolding after tab
after_clear [] h = clear_none
after_clear (c ∷ x) h = clear_append (46 ∷ []) (c ∷ x) (clear_mild (every_more refl every_none)) h

-- kind, number and what follows
prefixed_is : (x : Action) (r : Text) → prefixed x r ≡ kind_text x.kind ++ (decimal x.name ++ after r)
unfolding prefixed action_text
prefixed_is x r = append_assoc (kind_text x.kind) (decimal x.name) (after r)

-- such a text tells the action and what follows it
prefixed_one : (x y : Action) (r s : Text) → Fine x → Fine y → prefixed x r ≡ prefixed y s → (x ≡ y) × (r ≡ s)
prefixed_one x y r s f g e =
    let k = kind_split (fine_kind f) (fine_kind g) (decimal x.name ++ after r) (decimal y.name ++ after s)
    (sym (prefixed_is x r) ∙ e ∙ prefixed_is y s) in
    let n = decimal_split x.name y.name f.small g.small (after_stop r) (after_stop s) k.1 in
    (λ j. record { kind = k.0 j; name = n.0 j }, after_one r s n.1)

-- begins with a small letter
prefixed_lead : (x : Action) (r : Text) → Fine x → 97 ≤ lead (prefixed x r)
prefixed_lead x r f = rw (prefixed_is x r) (kind_lead (fine_kind f) (decimal x.name ++ after r)).0

-- and is whole
prefixed_whole : (x : Action) (r : Text) → Fine x → Clear r → Whole (prefixed x r)
prefixed_whole x r f h = rw (prefixed_is x r) (record {
  clear = clear_append (kind_text x.kind) (decimal x.name ++ after r) (kind_clear (fine_kind f))
      (clear_append (decimal x.name) (after r) (clear_decimal x.name) (after_clear r h));
  long = omega (arith, length-append (kind_text x.kind) (decimal x.name ++ after r), (kind_lead (fine_kind f) []).1);
})

-- ---- rows

-- the text of a row
unfoldable pub actions_text : List Action → Text
unfolding prefixed
actions_text [] = []
actions_text (x ∷ rest) = prefixed x (actions_text rest)

-- no bar and no bracket is in it
row_clear : {l : List Action} → Every Fine l → Clear (actions_text l)
unfolding actions_text
row_clear every_none = clear_none
row_clear (every_more {x} {rest} f e) = (prefixed_whole x (actions_text rest) f (row_clear e)).clear

-- that of a row with an action is whole
pub row_whole : {x : Action} {l : List Action} → Every Fine (x ∷ l) → Whole (actions_text (x ∷ l))
unfolding actions_text
row_whole (every_more {x} {rest} f e) = prefixed_whole x (actions_text rest) f (row_clear e)

-- and begins with a small letter
pub row_lead : {x : Action} {l : List Action} → Every Fine (x ∷ l) → 97 ≤ lead (actions_text (x ∷ l))
unfolding actions_text
row_lead (every_more {x} {rest} f e) = prefixed_lead x (actions_text rest) f

-- rows with one text are one row
pub row_one : {l m : List Action} → Every Fine l → Every Fine m → actions_text l ≡ actions_text m → l ≡ m
unfolding actions_text
row_one every_none every_none e = refl
row_one every_none (every_more f g) e = let u = row_lead (every_more f g) in absurd (omega (arith, u, ap lead e))
row_one (every_more f g) every_none e = let u = row_lead (every_more f g) in absurd (omega (arith, u, ap lead e))
row_one (every_more {x} {rest} f g) (every_more {x = y} {rest = m} h k) e =
    let s = prefixed_one x y (actions_text rest) (actions_text m) f h e in ap₂ ◌∷◌ s.0 (row_one g k s.1)
