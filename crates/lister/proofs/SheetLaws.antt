-- The text of a sheet, level by level, and the sheet of a cell: its text is the listing. Assumes nothing.
-- Idea: two sheets that say the same below 64 make the same text.
use Rattle.std.specs.Prelude.{◌≡◌, Bool, not, ◌&&◌, set}
use Rattle.std.proofs.Math.Path.{refl, sym, ap, ap₂}
use Rattle.std.proofs.Common.{◌∙◌, arith, length-append, le-leb}
use Rattle.std.proofs.Math.Bool.{true, cond}
use mathlib.Core.List.{List, [], ◌∷◌, ◌++◌}
use Prim.Native.Nat.{ℕ, zero, suc, ◌+◌, ◌-◌, ◌<◌, ◌≤◌, zero-le}
use Rattle.std.proofs.Math.Dec.{eqb}
use Rattle.std.proofs.Math.ListN.{length}
use Rattle.sets.specs.Set.{member}
use Rattle.sets.proofs.WalkLaws.{rest_lt, rest_member, rest_end}
use Rattle.sets.specs.Walk.{lowest_in, Rest}
use Rattle.sets.specs.declared.Set.{Set}
use Rattle.table.specs.Base.{tab}
use Rattle.table.proofs.BaseLaws.{and_left, and_right}
use Rattle.table.specs.Cell.{State, has_unused}
use Rattle.meaning.specs.Text.{gap, joined}
use Rattle.meaning.specs.Listing.{bracketed, lists_in, stands_under, texts_of, agent_texts, place_texts, in_order, contents_text, listing}
use Rattle.text.specs.Wrote.{Wrote, Fits}
use Rattle.text.proofs.TextLaws.{part, back, wrote_as}
use Rattle.text.proofs.RoomLaws.{fits_less, fits_as, fits_first, fits_exactly, first_in, fits_next, then_next, store_in, stored}
use Rattle.lengths.specs.Longest.{longest_listing}
use Rattle.lister.specs.Sheet.{bar, Shown, Drawn, OnPage, head_text, contents_on, place_on, floor_on}
use Rattle.lister.specs.Marked.{grouped, Filled}
use Rattle.lister.proofs.RowLaws.{agent_some}
use Rattle.lister.proofs.MemberLaws.{texts_ext, texts_filled, texts_none, texts_some, one_group, both_groups, first_group}

-- ---- level by level

-- the agents' texts in a place
abbrev pub agents_on : Shown → ℕ → List (List ℕ)
agents_on h p = texts_of (h.lives p) h.text 64

-- and the places', each with its contents so many levels deep
abbrev pub places_on : ℕ → Shown → ℕ → List (List ℕ)
places_on depth h p = texts_of (h.stands p) (place_on depth h) 64

pub contents_none : (depth : ℕ) (h : Shown) (p : ℕ) → depth ≡ 0 → contents_on depth h p ≡ []
unfolding contents_on
contents_none depth h p e = rw e

pub contents_some : (depth : ℕ) (h : Shown) (p : ℕ) → (depth ≡ 0 → ⊥) → contents_on depth h p ≡ in_order (agents_on h p) (places_on (depth - 1) h p)
unfolding contents_on place_on
contents_some zero h p n = absurd (n refl)
contents_some (suc depth) h p n = let e : depth ≡ suc depth - 1 = omega arith in ap (λ (k : ℕ). in_order (agents_on h p) (places_on k h p)) e

-- a name with its bracket, the contents, and the closing bracket
pub place_is : (depth : ℕ) (h : Shown) (q : ℕ) → (head_text (h.name q) ++ contents_on depth h q) ++ (93 ∷ []) ≡ place_on depth h q
unfolding place_on bracketed head_text tab
place_is depth h q = refl

-- the agents of a place have texts, where every listed agent has one
pub agents_filled : (h : Shown) → ((p x : ℕ) → p < 64 → x < 64 → h.lives p x ≡ true → 0 < length (h.text x)) → (p : ℕ) → p < 64 → Filled (agents_on h p)
agents_filled h t p l = texts_filled (h.lives p) h.text 64 (λ x m e. t p x l m e)

-- and so have places, which have brackets
pub places_filled : (depth : ℕ) (h : Shown) (g : ℕ → Bool) → Filled (texts_of g (place_on depth h) 64)
places_filled depth h g = texts_filled g (place_on depth h) 64 (λ q m e. place_filled q)
  where
    place_filled : (q : ℕ) → 0 < length (place_on depth h q)
    place_filled q =
        let n = ap length (place_is depth h q) in
        omega (arith, length-append (head_text (h.name q) ++ contents_on depth h q) (93 ∷ []))

-- a name with its bracket, the contents lent the rest from there on, and the closing bracket
module _ (depth : ℕ) (h : Shown) (q : ℕ) {b : List ℕ} {at : ℕ} (f : Fits (place_on depth h q) at b) where
  all : Fits ((head_text (h.name q) ++ contents_on depth h q) ++ (93 ∷ [])) at b
  all = fits_as (sym (place_is depth h q)) f

  half : Fits (head_text (h.name q) ++ contents_on depth h q) at b
  half = fits_first (head_text (h.name q) ++ contents_on depth h q) (93 ∷ []) all

  pub head_fits : Fits (head_text (h.name q)) at b
  head_fits = fits_first (head_text (h.name q)) (contents_on depth h q) half

  module _ {xs : List ℕ} {mid i : ℕ} (w : Wrote (head_text (h.name q)) at b xs mid) (e : i ≡ mid - at) where
    pub head_before : at ≤ mid
    head_before = omega (arith, fits_exactly head_fits w)

    pub contents_in : i ≤ length xs
    contents_in = first_in (contents_on depth h q) w half e

    -- the contents have room, and are no longer than the place
    pub contents_page : length (place_on depth h q) ≤ longest_listing → OnPage (contents_on depth h q) mid (part i xs)
    contents_page l = record {
      fits = fits_next (contents_on depth h q) w half e;
      short = (let n = ap length (place_is depth h q) in omega (arith, length-append (head_text (h.name q) ++ contents_on depth h q) (93 ∷ []), length-append (head_text (h.name q)) (contents_on depth h q)));
    }

    module _ {ys : List ℕ} {full j : ℕ} (v : Wrote (contents_on depth h q) mid (part i xs) ys full) (g : j ≡ full - at) where
      filled : Wrote (head_text (h.name q) ++ contents_on depth h q) at b (back i xs ys) full
      filled = then_next (contents_on depth h q) w half e v

      pub contents_before : at ≤ full
      contents_before = omega (arith, fits_exactly half filled)

      pub bracket_in : j < length (back i xs ys)
      bracket_in = store_in 93 filled all g

      pub bracket_placed : full + 1 ≤ 18446744073709551615
      bracket_placed = omega (arith, fits_exactly half filled, length-append (head_text (h.name q) ++ contents_on depth h q) (93 ∷ []), all.room, all.placed)

      pub place_written : Wrote (place_on depth h q) at b (set (back i xs ys) j 93) (full + 1)
      place_written = wrote_as (place_is depth h q) (stored 93 filled all g)

-- ---- two groups

-- the texts of a set before the first of its members is taken
module _ {g : ℕ → Bool} {s : Set} (r : Rest g 0 s) (F : ℕ → List ℕ) where
  pub set_texts : texts_of (member s) F 64 ≡ texts_of g F 64
  set_texts = texts_ext (member s) g F F 64 (λ j l. r.left j l ∙ ap (λ (b : Bool). b && g j) (le-leb 0 j zero-le)) (λ j l e. refl)

  -- none where there is no member
  pub no_texts : s.bits ≡ 0 → texts_of g F 64 ≡ []
  no_texts e = texts_none g F 64 (λ j l. rest_end r e j zero-le l)

  -- else some
  pub some_texts : (s.bits ≡ 0 → ⊥) → 0 < length (texts_of g F 64)
  some_texts n = let k : 0 < s.bits = omega arith in texts_some g F 64 (lowest_in s) (rest_lt r k) (rest_member r k)

module _ (depth : ℕ) (h : Shown) (p : ℕ) (n : depth ≡ 0 → ⊥) {b : List ℕ} {from : ℕ} (f : OnPage (contents_on depth h p) from b) where
  -- the agents have room where all contents have
  pub agents_page : OnPage (grouped (agents_on h p)) from b
  agents_page =
      let l : length (grouped (agents_on h p)) ≤ length (contents_on depth h p) = (let e = ap length (contents_some depth h p n) in omega (arith, first_group (agents_on h p) (places_on (depth - 1) h p))) in
      record { fits = fits_less l f.fits; short = omega (arith, f.short) }

  -- where no place stands they are the contents
  pub agents_alone : {xs : List ℕ} {r : ℕ} → places_on (depth - 1) h p ≡ [] → Wrote (grouped (agents_on h p)) from b xs r → Wrote (contents_on depth h p) from b xs r
  agents_alone e w = wrote_as (sym (one_group (agents_on h p) (places_on (depth - 1) h p) e) ∙ sym (contents_some depth h p n)) w

  -- where some stand their group comes after the agents'
  module _ (some : 0 < length (places_on (depth - 1) h p)) where
    both_are : contents_on depth h p ≡ joined bar (grouped (agents_on h p)) (grouped (places_on (depth - 1) h p))
    both_are = contents_some depth h p n ∙ both_groups (agents_on h p) (places_on (depth - 1) h p) (places_filled (depth - 1) h (h.stands p)) some

    pub both_fit : Fits (joined bar (grouped (agents_on h p)) (grouped (places_on (depth - 1) h p))) from b
    both_fit = fits_as both_are f.fits

    pub places_page : {texts : List (List ℕ)} {mid : ℕ} {ys : List ℕ} → texts ≡ places_on (depth - 1) h p → Fits (grouped (places_on (depth - 1) h p)) mid ys → OnPage (grouped texts) mid ys
    places_page q g = record {
      fits = fits_as (ap grouped (sym q)) g;
      short = (let e = ap length both_are in let l = ap (λ (ts : List (List ℕ)). length (grouped ts)) q in omega (arith, f.short, length-append (grouped (agents_on h p) ++ gap bar (grouped (agents_on h p))) (grouped (places_on (depth - 1) h p))));
    }

    pub both_written : {xs : List ℕ} {r : ℕ} → Wrote (joined bar (grouped (agents_on h p)) (grouped (places_on (depth - 1) h p))) from b xs r → Wrote (contents_on depth h p) from b xs r
    both_written w = wrote_as (sym both_are) w

-- ---- the sheet of a cell

module _ {c : State} {h : Shown} (d : Drawn c h) where
  agents_are : (p : ℕ) → p < 64 → agents_on h p ≡ agent_texts c p
  unfolding agent_texts
  agents_are p l = texts_ext _ _ _ _ 64 (λ x m. d.lives p x l m) (λ x m q. d.text p x m q)

  used_there : (q p : ℕ) → stands_under (c.land.used q) q (c.land.place q).parent p ≡ true → c.land.used q ≡ true
  unfolding stands_under
  used_there q p e = and_left (c.land.used q) (not (eqb q 0) && eqb (c.land.place q).parent p) e

  contents_are : (depth p : ℕ) → p < 64 → contents_on depth h p ≡ contents_text depth c p
  unfolding contents_on contents_text place_texts
  contents_are zero p l = refl
  contents_are (suc depth) p l =
      ap₂ in_order (agents_are p l)
      (texts_ext _ _ _ _ 64 (λ q m. d.stands p q l m) (λ q m e. ap₂ bracketed (d.name q m (used_there q p e)) (contents_are depth q m)))

  pub floor_is : floor_on h ≡ listing c
  unfolding floor_on listing
  floor_is = ap (λ (t : List ℕ). cond (eqb (length t) 0) (48 ∷ []) t) (contents_are 65 0 (omega arith))

  -- an agent that is listed has an unused action, and so a text
  pub drawn_texts : (p x : ℕ) → p < 64 → x < 64 → h.lives p x ≡ true → 0 < length (h.text x)
  unfolding lists_in
  drawn_texts p x l m e =
      let q : lists_in (c.given x) (c.agent x) p ≡ true = sym (d.lives p x l m) ∙ e in
      let n = ap length (d.text p x m q) in
      omega (arith, agent_some (c.agent x) (and_left (has_unused (c.agent x)) (eqb (c.agent x).home p) (and_right (c.given x) (has_unused (c.agent x) && eqb (c.agent x).home p) q)))
