-- What an ask tells on each kind of table; and that a commit is the step call, or is refused with 18 and changes nothing, so that what holds of
-- both holds of every commit.
-- By the tests of a call, 10 and then 11, and by whether the three are what an ask tells.
use Rattle.std.specs.Prelude.{◌≡◌, true, false, ◌&&◌, ℕ, eqb}
use Rattle.std.proofs.Common.{ap, ◌∙◌, eqb-true, eq-eqb}
use Rattle.table.proofs.BaseLaws.{Told, yea, nay, told, and_left, and_right}
use Rattle.table.specs.Cell.{cell_of}
use Rattle.table.specs.Sound.{sound}
use Rattle.table.specs.declared.Cell.{Cell}
use Rattle.meaning.specs.Answers.{Asked, Would, Unasked}
use Rattle.meaning.specs.declared.Stepped.{Stepped}
use Rattle.meaning.specs.declared.Word.{Word}
use Rattle.meaning.specs.Refusals.{unsound_table, no_such_agent, answer_differs}
use Rattle.meaning.specs.Step.{step}
use Rattle.meaning.specs.StepCall.{made, turned_away, step_of}
use Rattle.meaning.specs.Codes.{word_number}
use Rattle.meaning.specs.Ask.{told_place, would, ask_of, agrees, commit_of}

-- ---- every commit

pub committed : (P : Stepped → Type 0) (t : Cell) (x wish word woken place : ℕ)
    → P (step_of t x wish) → P (turned_away t answer_differs) → P (commit_of t x wish word woken place)
unfolding commit_of
committed P t x wish word woken place through refused = go (told (agrees (ask_of t x wish) word woken place))
  where
    go : Told (agrees (ask_of t x wish) word woken place) → P (commit_of t x wish word woken place)
    go (yea e) = rw e through
    go (nay e) = rw e refused

-- ---- whether the three are what is told

module _ (w : Word) (n q word woken place : ℕ) where
  pub agrees_same : agrees (Would w n q) word woken place ≡ true → (word_number w ≡ word) × ((n ≡ woken) × (q ≡ place))
  agrees_same e =
      let f = and_right (eqb (word_number w) word) (eqb n woken && eqb q place) e in (
        eqb-true (word_number w) word (and_left (eqb (word_number w) word) _ e),
        (eqb-true n woken (and_left (eqb n woken) (eqb q place) f), eqb-true q place (and_right (eqb n woken) (eqb q place) f)),
      )

  pub same_agrees : word_number w ≡ word → n ≡ woken → q ≡ place → agrees (Would w n q) word woken place ≡ true
  same_agrees a b c = rw (eq-eqb (word_number w) word a, eq-eqb n woken b, eq-eqb q place c)

  pub other_differs : (word_number w ≡ word → n ≡ woken → q ≡ place → ⊥) → agrees (Would w n q) word woken place ≡ false
  other_differs d = go (told (agrees (Would w n q) word woken place))
    where
      go : Told (agrees (Would w n q) word woken place) → agrees (Would w n q) word woken place ≡ false
      go (yea e) = let s = agrees_same e in absurd (d s.0 s.1.0 s.1.1)
      go (nay e) = e

-- ---- by the tests of a call

module _ (t : Cell) (x wish : ℕ) where
  -- 10, then 11, then what the step would give
  pub ask_unsound : sound (cell_of t) ≡ false → ask_of t x wish ≡ Unasked unsound_table
  unfolding ask_of
  ask_unsound s = rw s

  pub ask_unknown : sound (cell_of t) ≡ true → (cell_of t).given x ≡ false → ask_of t x wish ≡ Unasked no_such_agent
  unfolding ask_of
  ask_unknown s g = rw (s, g)

  pub ask_given : sound (cell_of t) ≡ true → (cell_of t).given x ≡ true → ask_of t x wish ≡ would (step (cell_of t) x wish) (told_place (cell_of t) x wish)
  unfolding ask_of
  ask_given s g = rw (s, g)

  -- the step call likewise
  step_unsound : sound (cell_of t) ≡ false → step_of t x wish ≡ turned_away t unsound_table
  unfolding step_of
  step_unsound s = rw s

  step_unknown : sound (cell_of t) ≡ true → (cell_of t).given x ≡ false → step_of t x wish ≡ turned_away t no_such_agent
  unfolding step_of
  step_unknown s g = rw (s, g)

  pub step_given : sound (cell_of t) ≡ true → (cell_of t).given x ≡ true → step_of t x wish ≡ made (step (cell_of t) x wish)
  unfolding step_of
  step_given s g = rw (s, g)

  module _ (word woken place : ℕ) where
    -- what agrees goes through, what differs does not
    pub commit_through : agrees (ask_of t x wish) word woken place ≡ true → commit_of t x wish word woken place ≡ step_of t x wish
    unfolding commit_of
    commit_through e = rw e

    pub commit_stopped : agrees (ask_of t x wish) word woken place ≡ false → commit_of t x wish word woken place ≡ turned_away t answer_differs
    unfolding commit_of
    commit_stopped e = rw e

    -- "after 10 and 11"
    pub commit_unsound : sound (cell_of t) ≡ false → commit_of t x wish word woken place ≡ turned_away t unsound_table
    commit_unsound s = commit_through (ap (λ (a : Asked). agrees a word woken place) (ask_unsound s)) ∙ step_unsound s

    pub commit_unknown : sound (cell_of t) ≡ true → (cell_of t).given x ≡ false → commit_of t x wish word woken place ≡ turned_away t no_such_agent
    commit_unknown s g = commit_through (ap (λ (a : Asked). agrees a word woken place) (ask_unknown s g)) ∙ step_unknown s g
