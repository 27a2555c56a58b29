-- A name and its keys in one word: they are read as they were written, and a word of a name whose keys all equal it is known. Assumes nothing.
use Rattle.std.specs.Prelude.{◌≡◌, Bool, ◌&&◌, ℕ, ◌+◌, ◌*◌, ◌/◌, ◌%◌, ◌<◌}
use Rattle.std.proofs.Math.Path.{refl}
use Rattle.std.proofs.Common.{sym, ◌∙◌, arith, eqb-true, eq-eqb}
use Rattle.std.proofs.Math.Bool.{true, false}
use Rattle.std.proofs.Math.Dec.{eqb}
use Rattle.std.proofs.lemmas.Bool.{eqb-false}
use Rattle.table.proofs.BaseLaws.{Told, yea, nay, told}
use Rattle.table.specs.Bounds.{Name16}
use Rattle.table.specs.declared.Name.{Name}
use Rattle.meaning.specs.Listing.{is_plain}
use Rattle.walked.specs.Packs.{packed_of, unpacked_of, fourfold}

-- what was written is read
pub unpacked : (x : Name) → Name16 x → unpacked_of (packed_of x) ≡ x
unpacked x n i = record { name = name i; entering = entering i; exiting = exiting i; opening = opening i }
  where
    name : packed_of x % 65536 ≡ x.name
    name = omega (arith, n.name)

    above : packed_of x / 65536 ≡ x.entering + 65536 * (x.exiting + 65536 * x.opening)
    above = omega (arith, n.name)

    entering : packed_of x / 65536 % 65536 ≡ x.entering
    entering = omega (arith, above, n.entering)

    higher : packed_of x / 65536 / 65536 ≡ x.exiting + 65536 * x.opening
    higher = omega (arith, above, n.entering)

    exiting : packed_of x / 65536 / 65536 % 65536 ≡ x.exiting
    exiting = omega (arith, higher, n.exiting)

    opening : packed_of x / 65536 / 65536 / 65536 ≡ x.opening
    opening = omega (arith, higher, n.exiting)

-- ---- a name whose keys all equal it

-- the lowest sixteen bits of a number, and what is above them
parted : (v n above : ℕ) → n < 65536 → v ≡ n + 65536 * above → (v % 65536 ≡ n) × (v / 65536 ≡ above)
parted v n above l e = (omega arith, omega arith)

module _ (word : ℕ) where
  -- the name that the word holds
  abbrev x : Name
  x = unpacked_of word

  -- in a word that is so many times the name, the three keys above the name, and the two above the first of them, are the name again
  three : word ≡ x.name * fourfold → word / 65536 ≡ x.name + 65536 * (x.name * 65537)
  three e = (parted word x.name (x.name + 65536 * (x.name * 65537)) (omega arith) (omega arith)).1

  two : word ≡ x.name * fourfold → word / 65536 / 65536 ≡ x.name + 65536 * x.name
  two e = let h : word / 65536 / 65536 ≡ x.name * 65537 = (parted (word / 65536) x.name _ (omega arith) (three e)).1 in omega (arith, h)

  entering_is : word ≡ x.name * fourfold → x.entering ≡ x.name
  entering_is e = (parted (word / 65536) x.name _ (omega arith) (three e)).0

  exiting_is : word ≡ x.name * fourfold → x.exiting ≡ x.name
  exiting_is e = (parted (word / 65536 / 65536) x.name _ (omega arith) (two e)).0

  opening_is : word ≡ x.name * fourfold → x.opening ≡ x.name
  opening_is e = (parted (word / 65536 / 65536) x.name _ (omega arith) (two e)).1

  -- a name and three keys that equal it make such a word
  word_is : x.entering ≡ x.name → x.exiting ≡ x.name → x.opening ≡ x.name → word ≡ x.name * fourfold
  word_is e f g = omega (arith, all)
    where
      last : word / 65536 / 65536 ≡ x.name + 65536 * x.name
      last = omega (arith, f, g)

      all : word / 65536 ≡ x.name + 65536 * (x.name * 65537)
      all = omega (arith, e, last)

  -- so one test tells
  pub plain_word : eqb word (x.name * fourfold) ≡ is_plain x
  unfolding is_plain
  plain_word = go (told (eqb word (x.name * fourfold)))
    where
      none : (a b c : Bool) → eqb word (x.name * fourfold) ≡ false → eqb x.entering x.name ≡ a → eqb x.exiting x.name ≡ b → eqb x.opening x.name ≡ c
          → (a && (b && c)) ≡ false
      none false b c n e f g = refl
      none true false c n e f g = refl
      none true true false n e f g = refl
      none true true true n e f g = absurd (eqb-false word (x.name * fourfold) n (word_is (eqb-true _ _ e) (eqb-true _ _ f) (eqb-true _ _ g)))

      go : Told (eqb word (x.name * fourfold)) → eqb word (x.name * fourfold) ≡ (eqb x.entering x.name && (eqb x.exiting x.name && eqb x.opening x.name))
      go (yea t) = let e = eqb-true word (x.name * fourfold) t in
          t ∙ sym (rw (eq-eqb x.entering x.name (entering_is e), eq-eqb x.exiting x.name (exiting_is e), eq-eqb x.opening x.name (opening_is e)))
      go (nay t) = t ∙ sym (none (eqb x.entering x.name) (eqb x.exiting x.name) (eqb x.opening x.name) t refl refl refl)
