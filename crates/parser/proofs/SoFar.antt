-- What is read so far has brought the machine to where the code is: before each byte, after the last, and where a byte leaves the language.
use Rattle.std.specs.Prelude.{◌≡◌, true, [], ◌∷◌, ℕ, zero, suc, ◌+◌, ◌≤◌, ◌<◌, ltb, leb, length, get_or, take, drop}
use Rattle.std.proofs.Math.Path.{refl, ap}
use Rattle.std.proofs.Common.{sym, ◌∙◌, arith, add-one, take-append-drop, take-suc, take_all}
use Rattle.std.proofs.Math.Bool.{cond}
use borrow.Author.Tests.{ne_eqb, ltb-true, ltb-false, leb-true, leb-false}
use Rattle.table.proofs.BaseLaws.{Told, yea, nay, told, clash}
use Rattle.meaning.specs.Refusals.{outside_language, too_many}
use Rattle.meaning.specs.File.{accepted, refused}
use Rattle.language.specs.declared.Field.TheVariants.{PlaceName, EnterKey, ExitKey, OpenKey, ActionNumber}
use Rattle.language.specs.declared.Control.{Control}
use Rattle.language.specs.declared.Control.TheVariants.{Begin, Bare, Part, Within, After, Space, Bar, Dot, LetterE, Spell, Before, Digits}
use Rattle.language.specs.declared.Event.{Event}
use Rattle.language.specs.declared.Event.TheVariants.{Nothing, NewAction}
use Rattle.language.specs.declared.Moved.TheVariants.{To, Off}
use Rattle.language.specs.Grammar.{Text}
use Rattle.language.specs.Machine.{next, apply, at, off, is_on, done, short, land, step, run, end_at, end, reads, taken}
use Rattle.language.specs.Read.{Site, site, bare_site, start, answer, read_text}
use Rattle.language.proofs.PieceLaws.{run_append}
use Rattle.language.proofs.Prefixes.{taken_on, taken_le, off_stays}
use Rattle.parser.specs.Site.{last_number, last_of, moved_at}

-- after i bytes the machine is at c and d with y; past the end of the text, y is what it built
pub data So (s : Text) (i : ℕ) (c : Control) (d : ℕ) (y : Site) : Type 0 where
  going : i ≤ length s → run site start (take i s) ≡ at c d y → So s i c d y
  over : length s < i → reads site start s ≡ done y → So s i c d y

-- before the first byte
pub so_start : (s : Text) → So s 0 Begin 0 bare_site
so_start s = going (omega arith) (unfold run in unfold start in refl)

-- a text that stops early
last_short : (c : Control) (d : ℕ) (y : Site) → last_of c d ≡ Off → end_at site c d y ≡ short
unfolding last_of last_number end_at
last_short Begin d y e = refl
last_short Bare d y e = let z : ◌≡◌ {A = ℕ} 0 1 = cc in absurd (omega arith)
last_short Part d y e = refl
last_short Within d y e = refl
last_short After zero y e = let z : ◌≡◌ {A = ℕ} 0 1 = cc in absurd (omega arith)
last_short After (suc d) y e = refl
last_short Space d y e = refl
last_short Bar d y e = refl
last_short Dot d y e = refl
last_short LetterE d y e = refl
last_short (Spell k i) d y e = refl
last_short (Before f) d y e = refl
last_short (Digits PlaceName v) d y e = refl
last_short (Digits (EnterKey n) v) d y e = refl
last_short (Digits (ExitKey n k) v) d y e = refl
last_short (Digits (OpenKey n k q) v) d y e = refl
last_short (Digits (ActionNumber k) v) zero y e = let z : ◌≡◌ {A = ℕ} 0 1 = cc in absurd (omega arith)
last_short (Digits (ActionNumber k) v) (suc d) y e = refl

-- to stop is not to go on
differ : {A : Type 0} {c : Control} {d : ℕ} {e : Event} → Off ≡ To c d e → A
differ q = let z : ◌≡◌ {A = ℕ} 0 1 = cc in absurd (omega arith)

-- what is built of equal events is equal
event_of : {c k : Control} {d n : ℕ} {f e : Event} (y : Site) → To c d f ≡ To k n e → apply site f y ≡ apply site e y
event_of {f} {e} y q = ap (λ z. apply site z y) (let r : f ≡ e = cc in r)

-- a text that ends
last_done : (c : Control) (d : ℕ) (y : Site) (k : Control) (n : ℕ) (e : Event) → last_of c d ≡ To k n e → end_at site c d y ≡ done (apply site e y)
unfolding last_of last_number end_at apply
last_done Begin d y k n e q = differ q
last_done Bare d y k n e q = ap done (event_of {f = Nothing} y q)
last_done Part d y k n e q = differ q
last_done Within d y k n e q = differ q
last_done After zero y k n e q = ap done (event_of {f = Nothing} y q)
last_done After (suc d) y k n e q = differ (sym (ap (λ z. cond z (To Bare 0 Nothing) Off) (ne_eqb (suc d) 0 (λ w. omega arith))) ∙ q)
last_done Space d y k n e q = differ q
last_done Bar d y k n e q = differ q
last_done Dot d y k n e q = differ q
last_done LetterE d y k n e q = differ q
last_done (Spell x i) d y k n e q = differ q
last_done (Before f) d y k n e q = differ q
last_done (Digits PlaceName v) d y k n e q = differ q
last_done (Digits (EnterKey x) v) d y k n e q = differ q
last_done (Digits (ExitKey x z) v) d y k n e q = differ q
last_done (Digits (OpenKey x z w) v) d y k n e q = differ q
last_done (Digits (ActionNumber x) v) zero y k n e q = ap done (event_of {f = NewAction x v} y q)
last_done (Digits (ActionNumber x) v) (suc d) y k n e q = differ (sym
    (ap (λ z. cond z (To Bare 0 (NewAction x v)) Off) (ne_eqb (suc d) 0 (λ w. omega arith))) ∙ q)

module _ (s : Text) (i : ℕ) (c : Control) (d : ℕ) (y : Site) (g : run site start (take i s) ≡ at c d y) (l : i ≤ length s) where
  -- one byte more
  more_run : i < length s → run site start (take (suc i) s) ≡ land site (next c d (get_or s i 0)) y
  more_run h = ap (run site start) (take-suc s i 0 h) ∙ run_append site start (take i s) (get_or s i 0 ∷ []) ∙ ap (λ r. run site r (get_or s i 0 ∷ [])) g
      ∙ (unfold run in unfold step in refl)

  -- the whole text
  all_run : length s ≤ i → reads site start s ≡ end_at site c d y
  all_run h = unfold reads in ap (end site) (ap (run site start) (sym (take_all i s h)) ∙ g) ∙ (unfold end in refl)

-- a byte, or the end of the text, that goes on
pub so_on : (s : Text) (i : ℕ) (c : Control) (d : ℕ) (y : Site) (k : Control) (n : ℕ) (e : Event) → So s i c d y → i ≤ length s
    → To k n e ≡ moved_at s i c d → So s (i + 1) k n (apply site e y)
unfolding moved_at
so_on s i c d y k n e (going m g) l q = go (told (ltb i (length s)))
  where
    go : Told (ltb i (length s)) → So s (i + 1) k n (apply site e y)
    go (yea t) =
        let h = ltb-true i (length s) t in
        going (omega arith) (ap (λ z. run site start (take z s)) (add-one i) ∙ more_run s i c d y g m h
        ∙ ap (λ z. land site z y) (sym (q ∙ ap (λ z. cond z (next c d (get_or s i 0)) (last_of c d)) t)) ∙ (unfold land in refl))
    go (nay t) =
        let h = ltb-false i (length s) t in
        over (omega arith) (all_run s i c d y g m h ∙ last_done c d y k n e (sym (q ∙ ap (λ z. cond z (next c d (get_or s i 0)) (last_of c d)) t)))
so_on s i c d y k n e (over m g) l q = absurd (omega arith)

-- a text that is not read to its end is refused at the number of bytes taken
refused_at : (s : Text) (i : ℕ) → reads site start s ≡ short → taken site start s ≡ i → refused outside_language i ≡ read_text s
unfolding read_text
refused_at s i e t = sym (ap (answer s) e ∙ (unfold answer in ap (refused outside_language) t))

-- a byte, or the end of the text, that does not
pub so_off : (s : Text) (i : ℕ) (c : Control) (d : ℕ) (y : Site) → So s i c d y → i ≤ length s → Off ≡ moved_at s i c d → refused outside_language i ≡ read_text s
unfolding moved_at
so_off s i c d y (going m g) l q = go (told (ltb i (length s)))
  where
    on : is_on (run site start (take i s)) ≡ true
    on = ap is_on g ∙ (unfold is_on in refl)

    begun : is_on start ≡ true
    begun = unfold start in unfold is_on in refl

    low : i ≤ taken site start s
    low = (taken_on site s start i begun l).0 on

    go : Told (ltb i (length s)) → refused outside_language i ≡ read_text s
    go (yea t) = refused_at s i stops (let k = here in omega arith)
      where
        h : i < length s
        h = ltb-true i (length s) t

        gone : run site start (take (suc i) s) ≡ off
        gone = more_run s i c d y g m h ∙ ap (λ z. land site z y) (sym (q ∙ ap (λ z. cond z (next c d (get_or s i 0)) (last_of c d)) t)) ∙
            (unfold land in refl)

        not_on : suc i ≤ taken site start s → ⊥
        not_on k = clash ((taken_on site s start (suc i) begun h).1 k) (ap is_on gone ∙ (unfold is_on in refl))

        here : taken site start s ≡ i
        here = go_here (told (leb (suc i) (taken site start s)))
          where
            go_here : Told (leb (suc i) (taken site start s)) → taken site start s ≡ i
            go_here (yea k) = absurd (not_on (leb-true (suc i) (taken site start s) k))
            go_here (nay k) = let w = leb-false (suc i) (taken site start s) k in omega (arith, low)

        stops : reads site start s ≡ short
        stops = unfold reads in ap (end site) (ap (run site start) (sym (take-append-drop (suc i) s)) ∙ run_append site start (take (suc i) s)
            (drop (suc i) s)
            ∙ ap (λ r. run site r (drop (suc i) s)) gone ∙ off_stays site (drop (suc i) s)) ∙ (unfold end in refl)
    go (nay t) =
        let h = ltb-false i (length s) t in
        refused_at s i (all_run s i c d y g m h ∙ last_short c d y (sym (q ∙ ap (λ z. cond z (next c d (get_or s i 0)) (last_of c d)) t)))
        (let k = taken_le site s start in omega (arith, low))
so_off s i c d y (over m g) l q = absurd (omega arith)

-- the text is read to its end
pub so_end : (s : Text) (i : ℕ) (c : Control) (d : ℕ) (y : Site) → So s i c d y → length s < i → cond y.over (refused too_many (length s))
    (accepted y.cell) ≡ read_text s
unfolding read_text
so_end s i c d y (going m g) l = absurd (omega arith)
so_end s i c d y (over m g) l = sym (ap (answer s) g ∙ (unfold answer in refl))
