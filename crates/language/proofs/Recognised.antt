-- Every text that the machine reads to its end belongs to the language.
-- Idea: for each state, what may still come, in terms of the grammar; one byte at a time, from the end of the text backwards.
use Rattle.std.proofs.Math.Path.{◌≡◌, refl, sym}
use Rattle.std.proofs.Common.{ap, ◌∙◌, inl, inr}
use Rattle.std.specs.Prelude.{◌⊎◌, true}
use mathlib.Core.List.{[], ◌∷◌, ◌++◌, append-nil}
use Prim.Native.Nat.{ℕ, zero, suc}
use native.Mathlib.Omega.{arith}
use Rattle.table.specs.Base.{tab}
use Rattle.table.proofs.BaseLaws.{clash}
use Rattle.language.specs.declared.Field.TheVariants.{PlaceName, EnterKey, ExitKey, OpenKey, ActionNumber}
use Rattle.language.specs.declared.Control.{Control}
use Rattle.language.specs.declared.Control.TheVariants.{Begin, Bare, Part, Within, After, Space, Bar, Dot, LetterE, Spell, Before, Digits}
use Rattle.language.specs.declared.Moved.{Moved}
use Rattle.language.specs.declared.Moved.TheVariants.{To, Off}
use Rattle.language.specs.Grammar.{Text, Contents, nothing, agent, place, Belongs}
use Rattle.language.specs.Grammar.{after_bar, contents_typed, floor_typed}
use Rattle.language.specs.Machine.{next, Builder, apply, at, off, done, short, land, step, run, end_at, end, reads}
use Rattle.language.proofs.Ways.{way}
use Rattle.language.specs.Built.{is_some}
use Rattle.language.proofs.Coming.{Closings, closings_none, Next, Parts, Rest}
use Rattle.language.proofs.Coming.{Good, good_begin, good_digits}
use Rattle.language.proofs.Coming.{GoodMoved, good_to, good_off, good_next}
use Rattle.language.proofs.PartLaws.{Whole, parts_whole, no_further}
use Rattle.language.proofs.ComingLaws.{complete, RestMoved, rest_back}

module _ {B : Type 0} (o : Builder B) where
  -- off the language nothing is read to its end
  pub off_never : (s : Text) (y : B) → reads o off s ≡ done y → ⊥
  unfolding reads run step end
  off_never [] y e = let z : ◌≡◌ {A = ℕ} 0 1 = cc in omega arith
  off_never (b ∷ s) y e = off_never s y e

  -- a text that stops early has not ended well
  never : {A : Type 0} {y : B} → short ≡ done y → A
  never e = let z : ◌≡◌ {A = ℕ} 0 1 = cc in absurd (omega arith)

  -- where a text may end
  rest_end : (c : Control) (d : ℕ) (x y : B) → Good c → end_at o c d x ≡ done y → Rest c d []
  unfolding end_at Rest Next after_bar
  rest_end Begin d x y g e = never e
  rest_end Bare d x y g e = refl
  rest_end Part d x y g e = never e
  rest_end Within d x y g e = never e
  rest_end After zero x y g e = record { beside = nothing; rest = []; same = refl; closings = closings_none }
  rest_end After (suc d) x y g e = never e
  rest_end Space d x y g e = never e
  rest_end Bar d x y g e = never e
  rest_end Dot d x y g e = never e
  rest_end LetterE d x y g e = never e
  rest_end (Spell k i) d x y g e = never e
  rest_end (Before f) d x y g e = never e
  rest_end (Digits PlaceName v) d x y g e = never e
  rest_end (Digits (EnterKey n) v) d x y g e = never e
  rest_end (Digits (ExitKey n k) v) d x y g e = never e
  rest_end (Digits (OpenKey n k q) v) d x y g e = never e
  rest_end (Digits (ActionNumber k) v) zero x y (good_digits l h) e = complete (ActionNumber k) v 0 [] l h
      (no_further 0 [] (record { beside = nothing; rest = []; same = refl; closings = closings_none }))
  rest_end (Digits (ActionNumber k) v) (suc d) x y g e = never e

  -- a text that is read to its end from a state is one that may come there
  rest_read : (s : Text) (c : Control) (d : ℕ) (x y : B) → Good c → reads o (at c d x) s ≡ done y → Rest c d s
  unfolding reads run step
  rest_read [] c d x y g e = rest_end c d x y g (unfold end in e)
  rest_read (b ∷ s) c d x y g e = rest_back g (way c d b) s (go (next c d b) (good_next g (way c d b)) e (λ k n z h t. rest_read s k n z y h t))
    where
      go : (m : Moved) → GoodMoved m → reads o (land o m x) s ≡ done y
          → ((k : Control) (n : ℕ) (z : B) → Good k → reads o (at k n z) s ≡ done y → Rest k n s) → RestMoved m s
      go (To k n f) (good_to h) t ih = unfold RestMoved in ih k n (apply o f x) h (unfold land in t)
      go Off good_off t ih = absurd (off_never s y (unfold land in t))

  closings_zero : {s : Text} → Closings 0 s → s ≡ []
  closings_zero closings_none = refl

  whole_belongs : (s : Text) → Whole 0 s → Belongs s
  whole_belongs s w = record {
    floor = w.contents;
    same = go w.contents w.some ∙ sym (append-nil (contents_typed w.contents))
        ∙ ap (λ z. contents_typed w.contents ++ z) (sym (closings_zero w.closings)) ∙ sym w.same;
  }
    where
      go : (c : Contents) → is_some c ≡ true → floor_typed c ≡ contents_typed c
      go nothing e = unfold is_some in clash e refl
      go (agent r c) e = unfold floor_typed in refl
      go (place h c k) e = unfold floor_typed in refl

  -- a text that is read to its end belongs to the language
  pub read_belongs : (s : Text) (x y : B) → reads o (at Begin 0 x) s ≡ done y → Belongs s
  unfolding Rest
  read_belongs s x y e = go (rest_read s Begin 0 x y good_begin e)
    where
      go : (s ≡ 48 ∷ []) ⊎ Parts 0 s → Belongs s
      go (inl q) = record { floor = nothing; same = (unfold floor_typed in unfold tab in sym q) }
      go (inr p) = whole_belongs s (parts_whole 0 s p)
