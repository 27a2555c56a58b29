-- The machine has not left the language exactly while some text of the language begins with what it has read.
use Rattle.std.specs.Prelude.{◌≡◌, ◌↔◌, true, take}
use Rattle.std.proofs.Math.Path.{refl}
use Rattle.std.proofs.Common.{sym, ap, ◌∙◌, le_refl, arith}
use mathlib.Core.List.{[], ◌∷◌, ◌++◌}
use Rattle.std.proofs.Math.Bool.{false, cond}
use Prim.Native.Nat.{ℕ, zero, suc, ◌≤◌, zero-le}
use Rattle.std.proofs.Math.ListN.{length}
use Rattle.table.proofs.BaseLaws.{Told, yea, nay, told, clash}
use Rattle.language.specs.declared.Control.{Control}
use Rattle.language.specs.declared.Control.TheVariants.{Begin}
use Rattle.language.specs.declared.Moved.{Moved}
use Rattle.language.specs.declared.Moved.TheVariants.{To, Off}
use Rattle.language.specs.Grammar.{Text, Viable}
use Rattle.language.specs.Machine.{next, Builder, Run, at, off, is_on, done, land, step, run, reads, taken}
use Rattle.language.proofs.Ways.{way}
use Rattle.language.proofs.PieceLaws.{reads_piece}
use Rattle.language.specs.Built.{built}
use Rattle.language.proofs.Written.{floor_read}
use Rattle.language.proofs.Coming.{Good, good_begin}
use Rattle.language.proofs.Coming.{GoodMoved, good_to, good_off, good_next}
use Rattle.language.proofs.Recognised.{off_never, read_belongs}
use Rattle.language.proofs.Completions.{completion, completes}
use Rattle.language.specs.Viable.{LongestViable}

module _ {B : Type 0} (o : Builder B) where
  -- ---- the machine has not left the language

  -- off the language it stays off
  pub off_stays : (s : Text) → run o off s ≡ off
  unfolding run step
  off_stays [] = refl
  off_stays (b ∷ s) = off_stays s

  -- what is reached: a good state, or off
  data Reached : Run B → Type 0 where
    reached_at : {c : Control} {d : ℕ} {x : B} → Good c → Reached (at c d x)
    reached_off : Reached off

  -- by a byte
  reached_step : (r : Run B) (b : ℕ) → Reached r → Reached (step o r b)
  unfolding step
  reached_step (at c d x) b (reached_at g) = go (next c d b) (good_next g (way c d b))
    where
      go : (m : Moved) → GoodMoved m → Reached (land o m x)
      go (To k n e) (good_to h) = unfold land in reached_at h
      go Off good_off = unfold land in reached_off
  reached_step off b reached_off = reached_off

  -- by a text
  reached_run : (s : Text) (r : Run B) → Reached r → Reached (run o r s)
  unfolding run
  reached_run [] r h = h
  reached_run (b ∷ s) r h = reached_run s (step o r b) (reached_step r b h)

  -- what is on can be completed
  on_viable : (p : Text) (x : B) → is_on (run o (at Begin 0 x) p) ≡ true → Viable p
  on_viable p x e = go (run o (at Begin 0 x) p) refl (reached_run p (at Begin 0 x) (reached_at good_begin)) e
    where
      go : (r : Run B) → run o (at Begin 0 x) p ≡ r → Reached r → is_on r ≡ true → Viable p
      go (at c d y) q (reached_at g) t =
          let f = completes o g d y in
          record {
            rest = completion c d;
            belongs = read_belongs o (p ++ completion c d) x f.built
                (reads_piece o (at Begin 0 x) (at c d y) p (completion c d) q ∙ f.ends);
          }
      go off q reached_off t = unfold is_on in clash t refl

  -- what can be completed is on
  viable_on : (p : Text) (x : B) → Viable p → is_on (run o (at Begin 0 x) p) ≡ true
  viable_on p x v = go (run o (at Begin 0 x) p) refl
    where
      all : reads o (at Begin 0 x) (p ++ v.rest) ≡ done (built o v.belongs.floor x)
      all = ap (reads o (at Begin 0 x)) (sym v.belongs.same) ∙ floor_read o v.belongs.floor x

      go : (r : Run B) → run o (at Begin 0 x) p ≡ r → is_on r ≡ true
      go (at c d y) q = unfold is_on in refl
      go off q = absurd (off_never o v.rest (built o v.belongs.floor x) (sym (reads_piece o (at Begin 0 x) off p v.rest q) ∙ all))

  -- some text of the language begins with p exactly if the machine is not off after p
  pub viable_iff : (p : Text) (x : B) → Viable p ↔ (is_on (run o (at Begin 0 x) p) ≡ true)
  viable_iff p x = (viable_on p x, on_viable p x)

  -- ---- how far a text goes

  -- so many bytes can be taken exactly if they are no more than are taken
  pub taken_on : (s : Text) (r : Run B) (j : ℕ) → is_on r ≡ true → j ≤ length s → (is_on (run o r (take j s)) ≡ true) ↔ (j ≤ taken o r s)
  unfolding run taken
  taken_on s r zero h l = (λ e. zero-le, λ e. h)
  taken_on [] r (suc j) h l = absurd (omega arith)
  taken_on (b ∷ s) r (suc j) h l = go (told (is_on (step o r b))) (λ t. taken_on s (step o r b) j t (omega arith))
    where
      off_is : (q : Run B) → is_on q ≡ false → q ≡ off
      off_is (at c d x) e = unfold is_on in clash refl e
      off_is off e = refl

      go : Told (is_on (step o r b)) → (is_on (step o r b) ≡ true → (is_on (run o (step o r b) (take j s)) ≡ true) ↔ (j ≤ taken o (step o r b) s))
          → (is_on (run o (step o r b) (take j s)) ≡ true) ↔ (suc j ≤ cond (is_on (step o r b)) (suc (taken o (step o r b) s)) 0)
      go (yea t) ih = rw t (λ e. let m = (ih t).0 e in omega arith, λ e. (ih t).1 (omega arith))
      go (nay t) ih = rw t (
        λ e. clash e (ap (λ q. is_on (run o q (take j s))) (off_is (step o r b) t) ∙ ap is_on (off_stays (take j s))
            ∙ (unfold is_on in refl)),
        λ e. absurd (omega arith),
      )

  -- never more than there are
  pub taken_le : (s : Text) (r : Run B) → taken o r s ≤ length s
  unfolding taken
  taken_le [] r = zero-le
  taken_le (b ∷ s) r = go (told (is_on (step o r b))) (taken_le s (step o r b))
    where
      go : Told (is_on (step o r b)) → taken o (step o r b) s ≤ length s → cond (is_on (step o r b)) (suc (taken o (step o r b) s)) 0 ≤ length (b ∷ s)
      go (yea t) l = rw t (omega arith)
      go (nay t) l = rw t zero-le

-- what the machine takes is the longest
pub taken_longest : {B : Type 0} (o : Builder B) (s : Text) (x : B) → LongestViable s (taken o (at Begin 0 x) s)
taken_longest o s x = record {
  within = taken_le o s (at Begin 0 x);
  exactly = λ j l.
      let v = viable_iff o (take j s) x in
      let t = taken_on o s (at Begin 0 x) j (unfold is_on in refl) l in
      (λ q. t.0 (v.0 q), λ q. v.1 (t.1 q));
}

-- such a number is the only one
pub longest_one : (s : Text) (i k : ℕ) → LongestViable s i → LongestViable s k → i ≡ k
longest_one s i k a b =
    let u = (b.exactly i a.within).0 ((a.exactly i a.within).1 (le_refl i)) in
    let v = (a.exactly k b.within).0 ((b.exactly k b.within).1 (le_refl k)) in
    omega arith
