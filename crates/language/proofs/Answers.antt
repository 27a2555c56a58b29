-- What the reading of a text answers, whatever the text (document 02, W8).
use Rattle.std.specs.Prelude.{◌≡◌, refl, true, false, ℕ, length}
use Rattle.std.proofs.Common.{sym, ap, ◌∙◌, arith}
use Rattle.table.proofs.BaseLaws.{Told, yea, nay, told}
use Rattle.meaning.specs.Refusals.{outside_language, too_many}
use Rattle.meaning.specs.File.{Load, accepted, refused}
use Rattle.language.specs.declared.Control.TheVariants.{Begin}
use Rattle.language.specs.Grammar.{Text, Contents, floor_typed, Belongs}
use Rattle.language.specs.Machine.{at, End, done, short, reads, taken}
use Rattle.language.specs.Read.{Site, site, bare_site, start, answer, read_text}
use Rattle.language.specs.Built.{built}
use Rattle.language.proofs.Written.{floor_read}
use Rattle.language.proofs.Recognised.{read_belongs}
use Rattle.language.proofs.Prefixes.{taken_longest, longest_one}
use Rattle.language.specs.Viable.{LongestViable}
use Rattle.language.specs.Layout.{fits, layout}
use Rattle.language.proofs.SitesOver.{over_fits, site_laid}

-- "A text is read exactly if it belongs to the language and fits"; what belongs and does not fit is 17; what does not belong is 16, at the
-- first byte that no text of the language could continue
pub data Answers (s : Text) : Load → Type 0 where
  read : (c : Contents) → floor_typed c ≡ s → fits c ≡ true → Answers s (accepted (layout c))
  says_too_many : (c : Contents) → floor_typed c ≡ s → fits c ≡ false → Answers s (refused too_many (length s))
  outside : (i : ℕ) → (Belongs s → ⊥) → LongestViable s i → Answers s (refused outside_language i)

-- a text does not stop early and end well
never : {r : End Site} {y : Site} → r ≡ short → r ≡ done y → ⊥
never e f = let z : ◌≡◌ {A = ℕ} 0 1 = cc in omega arith

-- every text
pub answers : (s : Text) → Answers s (read_text s)
unfolding read_text start
answers s = go (reads site (at Begin 0 bare_site) s) refl
  where
    told_read : (x : Site) (c : Contents) → floor_typed c ≡ s → x ≡ built site c bare_site → Told (fits c) → Answers s (answer s (done x))
    told_read x c q e (yea t) = unfold answer in rw (e, over_fits c, t) (rw (site_laid c t) (read c q t))
    told_read x c q e (nay t) = unfold answer in rw (e, over_fits c, t) (says_too_many c q t)

    go : (r : End Site) → reads site (at Begin 0 bare_site) s ≡ r → Answers s (answer s r)
    go (done x) e =
        let b = read_belongs site s bare_site x e in
        let d : done x ≡ done (built site b.floor bare_site) = sym e ∙ ap (reads site (at Begin 0 bare_site)) (sym b.same)
        ∙ floor_read site b.floor bare_site in
        told_read x b.floor b.same (cc) (told (fits b.floor))
    go short e = unfold answer in unfold start in outside (taken site (at Begin 0 bare_site) s)
        (λ b. never e (ap (reads site (at Begin 0 bare_site)) (sym b.same) ∙ floor_read site b.floor bare_site)) (taken_longest site s bare_site)

-- ---- each answer for itself

-- a text that belongs to the language and fits gives the cell of its tree
pub read_fits : (c : Contents) → fits c ≡ true → read_text (floor_typed c) ≡ accepted (layout c)
unfolding read_text start answer
read_fits c t = rw (floor_read site c bare_site, over_fits c, t) (ap accepted (site_laid c t))

-- one that belongs and does not fit is refused with 17, "at the text's length"
pub read_overfull : (c : Contents) → fits c ≡ false → read_text (floor_typed c) ≡ refused too_many (length (floor_typed c))
unfolding read_text start answer
read_overfull c t = rw (floor_read site c bare_site, over_fits c, t)

-- one that does not belong is refused with 16, "at the first byte that no text of it could continue"
pub read_outside : (s : Text) (i : ℕ) → (Belongs s → ⊥) → LongestViable s i → read_text s ≡ refused outside_language i
read_outside s i n l = go (answers s)
  where
    go : {r : Load} → Answers s r → r ≡ refused outside_language i
    go (read c e t) = absurd (n (record { floor = c; same = e }))
    go (says_too_many c e t) = absurd (n (record { floor = c; same = e }))
    go (outside k m h) = ap (refused outside_language) (longest_one s k i h l)
