-- The text of a name with its keys, part by part: each part has room where the whole has. Assumes nothing.
use Rattle.std.specs.Prelude.{◌≡◌, Bool, true, false, cond, ℕ, ◌+◌, ◌-◌, ◌<◌, ◌≤◌, length, set}
use Rattle.std.proofs.Common.{sym, ap, ◌∙◌, arith, length-append}
use mathlib.Core.List.{List, [], ◌∷◌, ◌++◌, append-nil, append_assoc}
use Rattle.table.specs.Base.{tab}
use Rattle.table.specs.declared.Name.{Name}
use Rattle.meaning.specs.Text.{decimal}
use Rattle.meaning.specs.Listing.{is_plain, slashed, name_text}
use Rattle.text.specs.Wrote.{Wrote, Fits}
use Rattle.text.proofs.TextLaws.{part, back, wrote_as}
use Rattle.text.proofs.RoomLaws.{fits_as, fits_first, fits_exactly, first_in, fits_next, then_next, stores}
use Rattle.lister.specs.Sheet.{keys_text, keyed_text}

-- ---- a slash, and a key lent the rest

module _ (key : ℕ) {b : List ℕ} {at : ℕ} (f : Fits (slashed key) at b) where
  both : Fits ((47 ∷ []) ++ decimal key) at b
  both = unfold slashed tab in f

  slash : Wrote (47 ∷ []) at b (set b 0 47) (at + 1)
  slash = stores (47 ∷ []) (fits_first (47 ∷ []) (decimal key) both)

  one : 1 ≡ at + 1 - at
  one = omega arith

  pub slash_in : 0 < length b
  slash_in = omega (arith, both.room, length-append (47 ∷ []) (decimal key))

  pub slash_placed : at + 1 ≤ 18446744073709551615
  slash_placed = omega (arith, slash_in, both.placed)

  pub key_in : 1 ≤ length (set b 0 47)
  key_in = first_in (decimal key) slash both one

  pub key_fits : Fits (decimal key) (at + 1) (part 1 (set b 0 47))
  key_fits = fits_next (decimal key) slash both one

  pub key_written : {ys : List ℕ} {r : ℕ} → Wrote (decimal key) (at + 1) (part 1 (set b 0 47)) ys r → Wrote (slashed key) at b (back 1 (set b 0 47) ys) r
  unfolding slashed tab
  key_written v = then_next (decimal key) slash both one v

-- ---- three keys, each lent the rest

module _ (x : Name) {b : List ℕ} {at : ℕ} (f : Fits (keys_text x) at b) where
  -- the first two
  abbrev two : List ℕ
  two = slashed x.entering ++ slashed x.exiting

  together : two ++ slashed x.opening ≡ keys_text x
  unfolding keys_text
  together = append_assoc (slashed x.entering) (slashed x.exiting) (slashed x.opening)

  all : Fits (two ++ slashed x.opening) at b
  all = fits_as (sym together) f

  half : Fits two at b
  half = fits_first two (slashed x.opening) all

  pub entering_fits : Fits (slashed x.entering) at b
  entering_fits = fits_first (slashed x.entering) (slashed x.exiting) half

  module _ {xs : List ℕ} {first i : ℕ} (w : Wrote (slashed x.entering) at b xs first) (e : i ≡ first - at) where
    pub entering_before : at ≤ first
    entering_before = omega (arith, fits_exactly entering_fits w)

    pub exiting_in : i ≤ length xs
    exiting_in = first_in (slashed x.exiting) w half e

    pub exiting_fits : Fits (slashed x.exiting) first (part i xs)
    exiting_fits = fits_next (slashed x.exiting) w half e

    module _ {ys : List ℕ} {second j : ℕ} (v : Wrote (slashed x.exiting) first (part i xs) ys second) (g : j ≡ second - at) where
      halved : Wrote two at b (back i xs ys) second
      halved = then_next (slashed x.exiting) w half e v

      pub exiting_before : at ≤ second
      exiting_before = omega (arith, fits_exactly half halved)

      pub opening_in : j ≤ length (back i xs ys)
      opening_in = first_in (slashed x.opening) halved all g

      pub opening_fits : Fits (slashed x.opening) second (part j (back i xs ys))
      opening_fits = fits_next (slashed x.opening) halved all g

      pub keys_written : {zs : List ℕ} {r : ℕ} → Wrote (slashed x.opening) second (part j (back i xs ys)) zs r
          → Wrote (keys_text x) at b (back j (back i xs ys) zs) r
      keys_written u = wrote_as together (then_next (slashed x.opening) halved all g u)

-- ---- the name, with its keys or without

-- the number alone where the keys all equal it
pub plain_text : (x : Name) {z : Bool} → z ≡ is_plain x → z ≡ true → decimal x.name ≡ name_text x
unfolding name_text
plain_text x e t = sym (append-nil (decimal x.name))
    ∙ ap (λ (k : Bool). decimal x.name ++ cond k [] (slashed x.entering ++ (slashed x.exiting ++ slashed x.opening))) (sym t ∙ e)

-- and else the keys after it
pub keyed_text_lem : (x : Name) {z : Bool} → z ≡ is_plain x → z ≡ false → keyed_text x ≡ name_text x
unfolding name_text keyed_text keys_text
keyed_text_lem x e t = ap (λ (k : Bool). decimal x.name ++ cond k [] (slashed x.entering ++ (slashed x.exiting ++ slashed x.opening))) (sym t ∙ e)
