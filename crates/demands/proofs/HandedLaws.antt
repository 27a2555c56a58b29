-- The commit of an ask's number: of the very number that an ask gave it is the step; of the number of three values it is the commit of the three; and
-- of any number it is some commit, so that every statement over lists of calls covers it.
-- Idea: three numbers below 256 are read off their number; what is told is below 256. A number that is of no such three is refused like a word that
-- does not exist.
use Rattle.std.specs.Prelude.{◌≡◌, refl, ◌≢◌, Bool, true, false, cond, ℕ, ◌+◌, ◌*◌, ◌<◌, eqb, Ok, Err}
use Rattle.std.proofs.Common.{sym, ap, ◌∙◌, subst, arith, eqb-true, eq-eqb, ne_eqb}
use Rattle.std.proofs.lemmas.Bool.{eqb-false}
use Rattle.sets.proofs.WordLaws.{count_most}
use Rattle.table.proofs.BaseLaws.{Told, yea, nay, told, same_test}
use Rattle.table.specs.Bounds.{Sized}
use Rattle.table.specs.Cell.{cell_of}
use Rattle.table.proofs.CellLaws.{bounded}
use Rattle.table.specs.Sound.{sound}
use Rattle.table.specs.declared.Cell.{Cell}
use Rattle.meaning.specs.Answers.{Asked, Would}
use Rattle.meaning.specs.declared.Word.{Word}
use Rattle.meaning.specs.Refusals.{answer_differs}
use Rattle.meaning.specs.Step.{step}
use Rattle.meaning.specs.StepCall.{turned_away, step_of}
use Rattle.meaning.specs.Codes.{word_number, told_number, word_in, woken_in, place_in, ask_number}
use Rattle.meaning.specs.Ask.{ask_of, agrees, commit_of, hands_back, handed_of}
use Rattle.meaning.proofs.AskLaws.{agrees_same, same_agrees, ask_unsound, ask_unknown, ask_given}
use Rattle.demands.proofs.StepWays.{step_way}
use Rattle.demands.proofs.SoundTest.{sound_bounded}
use Rattle.demands.proofs.Woken.{woke_up, step_counts}
use Rattle.demands.specs.Asking.{TellsPlace, tells_chosen, tells_none, IsCommit}
use Rattle.demands.proofs.TellingLaws.{way_tells}
use Rattle.demands.proofs.AskingLaws.{word_small}

-- ---- three numbers below 256 and their number

same_number : {w w' n n' q q' : ℕ} → w ≡ w' → n ≡ n' → q ≡ q' → told_number w n q ≡ told_number w' n' q'
same_number {w} {w'} {n} {n'} {q} a b c =
    ap (λ (i : ℕ). told_number i n q) a ∙ ap (λ (i : ℕ). told_number w' i q) b ∙ ap (λ (i : ℕ). told_number w' n' i) c

module _ (w n q : ℕ) (a : w < 256) (b : n < 256) (c : q < 256) where
  -- nothing of it is lost
  exact : told_number w n q ≡ q * 16777216 + (n * 65536 + w * 256)
  exact = omega arith

  word_of : word_in (told_number w n q) ≡ w
  word_of = ap word_in exact ∙ omega arith

  woken_of : woken_in (told_number w n q) ≡ n
  woken_of = ap woken_in exact ∙ omega arith

  pub place_of : place_in (told_number w n q) ≡ q
  place_of = ap place_in exact ∙ omega arith

  -- taken apart and put together it is the same
  again : told_number (word_in (told_number w n q)) (woken_in (told_number w n q)) (place_in (told_number w n q)) ≡ told_number w n q
  again = same_number word_of woken_of place_of

-- ---- what is told is below 256

abbrev pub Small : Asked → Type 0
Small (Ok o) = (o.woken < 256) × (o.place < 256)
Small (Err number) = Unit {0}

pub asked_small : (t : Cell) → Sized t → (x wish : ℕ) → Small (ask_of t x wish)
asked_small t z x wish = go (told (sound (cell_of t))) (told ((cell_of t).given x))
  where
    place_small : {q : ℕ} {word : Word} → TellsPlace (cell_of t).land ((cell_of t).agent x) wish word q → q < 256
    place_small (tells_chosen _ low) = omega arith
    place_small (tells_none _) = omega arith

    go : Told (sound (cell_of t)) → Told ((cell_of t).given x) → Small (ask_of t x wish)
    go (yea s) (yea g) =
        let i = sound_bounded (cell_of t) (bounded t z) s in
        let most = count_most 64 (woke_up (cell_of t) (step (cell_of t) x wish).cell) in
        let counts = step_counts (cell_of t) i x g wish in
        let few : (step (cell_of t) x wish).woken < 256 = omega (arith, most, counts) in
        subst Small (sym (ask_given t x wish s g)) (few, place_small (way_tells (cell_of t) i x g (step_way (cell_of t) i x g wish)))
    go (yea s) (nay g) = subst Small (sym (ask_unknown t x wish s g)) tt
    go (nay s) _ = subst Small (sym (ask_unsound t x wish s)) tt

-- ---- the laws

-- of the very number that an ask gave, with nothing between: the step, on every table
pub handed_ask : (t : Cell) (x wish : ℕ) → handed_of t x wish (ask_number (ask_of t x wish)) ≡ step_of t x wish
unfolding handed_of
handed_ask t x wish = ap (λ (b : Bool). cond b (step_of t x wish) (turned_away t answer_differs)) (itself (ask_of t x wish))
  where
    itself : (a : Asked) → hands_back a (ask_number a) ≡ true
    itself (Ok o) = eq-eqb (ask_number (Would o.word o.woken o.place)) (ask_number (Would o.word o.woken o.place)) refl
    itself (Err number) = refl

-- of any other number: 18, on every sound table for every agent that is given
pub handed_differs : (t : Cell) (x wish n : ℕ) → sound (cell_of t) ≡ true → (cell_of t).given x ≡ true → ask_number (ask_of t x wish) ≢ n
    → handed_of t x wish n ≡ turned_away t answer_differs
unfolding handed_of
handed_differs t x wish n s g d = ap (λ (b : Bool). cond b (step_of t x wish) (turned_away t answer_differs))
    (ap (λ (a : Asked). hands_back a n) (ask_given t x wish s g)
    ∙ ne_eqb _ n (λ e. d (ap ask_number (ask_given t x wish s g) ∙ e)))

-- where a number is handed back exactly if three values agree, the two commits are the same
same_commit : (t : Cell) (x wish n word woken place : ℕ) → hands_back (ask_of t x wish) n ≡ agrees (ask_of t x wish) word woken place
    → handed_of t x wish n ≡ commit_of t x wish word woken place
unfolding handed_of commit_of
same_commit t x wish n word woken place e = ap (λ (b : Bool). cond b (step_of t x wish) (turned_away t answer_differs)) e

module _ (t : Cell) (z : Sized t) (x wish : ℕ) where
  -- of the number of three values below 256: the commit of the three
  pub handed_three : (word woken place : ℕ) → word < 256 → woken < 256 → place < 256
      → handed_of t x wish (told_number word woken place) ≡ commit_of t x wish word woken place
  handed_three word woken place a b c = same_commit t x wish _ word woken place (go (ask_of t x wish) (asked_small t z x wish))
    where
      go : (r : Asked) → Small r → hands_back r (told_number word woken place) ≡ agrees r word woken place
      go (Ok o) m = same_test _ _
          (λ e. let f = eqb-true (told_number (word_number o.word) o.woken o.place) (told_number word woken place) e in
          let l : word_number o.word < 256 = omega (arith, word_small o.word) in
          same_agrees o.word o.woken o.place word woken place
          (sym (word_of (word_number o.word) o.woken o.place l m.0 m.1) ∙ ap word_in f ∙ word_of word woken place a b c)
          (sym (woken_of (word_number o.word) o.woken o.place l m.0 m.1) ∙ ap woken_in f ∙ woken_of word woken place a b c)
          (sym (place_of (word_number o.word) o.woken o.place l m.0 m.1) ∙ ap place_in f ∙ place_of word woken place a b c))
          (λ e. let f = agrees_same o.word o.woken o.place word woken place e in
          eq-eqb (told_number (word_number o.word) o.woken o.place) (told_number word woken place) (same_number f.0 f.1.0 f.1.1))
      go (Err number) m = refl

  -- of the number of what an ask tells, whenever that was: the commit of the three
  pub handed_back : (w : Word) (n q : ℕ) → n < 256 → q < 256 → handed_of t x wish (ask_number (Would w n q)) ≡ commit_of t x wish (word_number w) n q
  handed_back w n q b c = handed_three (word_number w) n q (omega (arith, word_small w)) b c

  -- of any number: some commit
  pub handed_commit : (n : ℕ) → IsCommit t x wish (handed_of t x wish n)
  handed_commit n = go (told (eqb (told_number (word_in n) (woken_in n) (place_in n)) n))
    where
      -- where it is not put together again, nothing that is told has this number
      other : eqb (told_number (word_in n) (woken_in n) (place_in n)) n ≡ false → (r : Asked) → Small r → hands_back r n ≡ agrees r 11 0 0
      other e (Ok o) k = ne_eqb (told_number (word_number o.word) o.woken o.place) n
          (λ f. eqb-false (told_number (word_in n) (woken_in n) (place_in n)) n e
          (subst (λ (j : ℕ). told_number (word_in j) (woken_in j) (place_in j) ≡ j) f
          (again (word_number o.word) o.woken o.place (omega (arith, word_small o.word)) k.0 k.1)))
          ∙ sym (rw (ne_eqb (word_number o.word) 11 (λ z. omega (arith, word_small o.word))))
      other e (Err number) k = refl

      go : Told (eqb (told_number (word_in n) (woken_in n) (place_in n)) n) → IsCommit t x wish (handed_of t x wish n)
      go (yea e) = record {
        word = word_in n;
        woken = woken_in n;
        place = place_in n;
        same = ap (handed_of t x wish) (sym (eqb-true (told_number (word_in n) (woken_in n) (place_in n)) n e))
            ∙ handed_three (word_in n) (woken_in n) (place_in n) (omega arith) (omega arith) (omega arith);
      }
      go (nay e) = record {
        word = 11;
        woken = 0;
        place = 0;
        same = same_commit t x wish n 11 0 0 (other e (ask_of t x wish) (asked_small t z x wish));
      }
